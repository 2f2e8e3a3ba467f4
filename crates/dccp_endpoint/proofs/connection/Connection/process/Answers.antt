use Rattle.std.proofs.Common.{◌≡◌, ◌∙◌, ℕ, List, Option, ap, subst, sym, true}
use Rattle.dccp_states.specs.Phases.{after}
use Rattle.dccp_states.specs.declared.phase.Phase.{Phase}
use Rattle.dccp_states.specs.declared.reply.Reply.{Reply}
use Rattle.run_list.specs.MarkedSet.{answer_to}
use Rattle.run_list.specs.declared.answers.Marked.{Marked}
use Rattle.dccp_endpoint.specs.End.{EndState, is_phase_of}
use Rattle.dccp_endpoint.specs.Heeding.{DueConfirm}
use Rattle.dccp_endpoint.specs.Incoming.{Incoming}
use Rattle.dccp_endpoint.specs.Receiving.{accounted, delivering, moved_to, moves, replies}
use Rattle.dccp_endpoint.specs.Reporting.{counts_data, delivers, looked_up, looks_up, marks}
use Rattle.dccp_states.specs.declared.outcome.Outcome.TheVariants.{Took}
use Rattle.dccp_endpoint.proofs.Phases.{after_fits}
use Rattle.dccp_endpoint.proofs.connection.Connection.process.Goals as goal

-- the table leads to a phase of the role
pub move_to-requires : goal.move_to-requires
move_to-requires c =
    subst (λ (e : EndState). is_phase_of c.after-phase.result.0 e.config.role ≡ true) c.self.view_is
    (subst (λ (row : Phase × Reply). is_phase_of row.0 c.self.inside.config.role ≡ true) (sym c.after-phase.ensures)
    (after_fits c.self.inside.phase c.packet.inside.kind c.self.inside.config.role c.self.invariant.phase_fits))

pub returns : goal.returns
returns c =
    let e : EndState = c.args.self.now in
    let a : Incoming = c.args.packet.now in
    let confirms : List DueConfirm = c.args.confirms.now in
    let row : Phase × Reply = c.after-phase.result in
    let moved : EndState = c.move_to.new.self in
    let mark : Marked = c.mark-mark.result in
    let marked : mark ≡ answer_to e.received.set a.number =
    c.mark-mark.ensures.answer ∙ ap (λ (p : Incoming). answer_to e.received.set p.number) c.packet.view_is in
    let taken : c.look_up.new.self ≡ accounted e a =
    c.look_up.ensures
    ∙ ap (λ (x : EndState). looks_up x (looked_up a.kind a.ack)) (c.mark-mark.ensures.marks ∙ ap (λ (p : Incoming). marks e p.number) c.packet.view_is) in
    let to : row ≡ after e.phase a.kind =
    c.after-phase.ensures ∙ ap (λ (x : EndState). after x.phase c.packet.inside.kind) (c.self.view_is ∙ taken)
    ∙ ap (λ (p : Incoming). after e.phase p.kind) c.packet.view_is in
    let goes : moved ≡ moved_to (accounted e a) row.0 a.number =
    c.move_to.ensures ∙ ap (λ (p : Incoming). moved_to c.look_up.new.self row.0 p.number) c.packet.view_is
    ∙ ap (λ (x : EndState). moved_to x row.0 a.number) taken in
    c.reply.ensures
    ∙ ap (λ (x : EndState). replies x a confirms (Took c.deliver-delivered.result) row.1) c.deliver-delivered.ensures.counts
    ∙ ap (λ (place : Option (ℕ × ℕ)). replies (counts_data moved (delivers a.kind moved.phase mark)) a confirms
    (Took place) row.1) c.deliver-delivered.ensures.place
    ∙ ap (λ (x : EndState). delivering x a confirms (delivers a.kind x.phase mark) row.1) goes
    ∙ ap (λ (m : Marked). moves (accounted e a) a confirms m row) marked
    ∙ ap (λ (r : Phase × Reply). moves (accounted e a) a confirms (answer_to e.received.set a.number) r) to
