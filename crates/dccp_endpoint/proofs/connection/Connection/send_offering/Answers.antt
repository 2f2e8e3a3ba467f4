use Rattle.std.proofs.Common.{◌≡◌, ◌∙◌, List, [], Option, Some, ap, subst, sym}
use Rattle.dccp_packets.specs.Outgoing.{Outgoing}
use Rattle.feature_machine.specs.Negotiating.{due_keys}
use Rattle.feature_machine.specs.declared.row.Row.{Row}
use Rattle.dccp_endpoint.specs.End.{EndState}
use Rattle.dccp_endpoint.specs.Heeding.{DueConfirm}
use Rattle.dccp_endpoint.specs.Speaking.{asking, asks, offers, saying}
use Rattle.dccp_endpoint.specs.Steps.{next_frame, with_next_number}
use Rattle.dccp_endpoint.specs.Turns.{Key}
use Rattle.dccp_endpoint.proofs.Quiet.{NothingComesUp, quiet_asks, quiet_frame}
use Rattle.dccp_endpoint.proofs.connection.Connection.send_offering.Goals as goal

-- nothing asks
pub returns-then-is_quiet-clause-counted : goal.returns-then-is_quiet-clause-counted
returns-then-is_quiet-clause-counted c =
    c.send_confirming.ensures.counted
    ∙ ap (λ (x : EndState). with_next_number x)
    (sym (quiet_asks c.args.self.now c.args.confirms.now c.rows.ensures.widths
    (subst (λ (r : List Row). NothingComesUp r) c.rows.ensures.value (c.is_quiet.ensures.offers c.if-is_quiet.true))
    (subst (λ (r : List Row). due_keys r ≡ []) c.rows.ensures.value (c.is_quiet.ensures.due c.if-is_quiet.true))))

pub returns-then-is_quiet-clause-sent : goal.returns-then-is_quiet-clause-sent
returns-then-is_quiet-clause-sent c =
    c.send_confirming.ensures.sent
    ∙ ap (λ (frame : Outgoing). Some frame)
    (sym (quiet_frame c.args.self.now c.args.kind c.args.confirms.now c.rows.ensures.widths
    (subst (λ (r : List Row). NothingComesUp r) c.rows.ensures.value (c.is_quiet.ensures.offers c.if-is_quiet.true))
    (subst (λ (r : List Row). due_keys r ≡ []) c.rows.ensures.value (c.is_quiet.ensures.due c.if-is_quiet.true))))

-- something may
pub returns-clause-sent : goal.returns-clause-sent
returns-clause-sent c =
    let e : EndState = c.args.self.now in
    let confirms : List DueConfirm = c.args.confirms.now in
    let frame : EndState → List Key → Option Outgoing =
    λ x keys. Some (next_frame (asks x keys) (saying c.args.kind confirms (asks x keys).rows keys)) in
    let keys : c.as_slice.result.now ≡ asking (offers e confirms).rows confirms =
    c.as_slice.ensures.keys ∙ c.asking-keys.ensures.keys ∙ ap (λ (r : List Row). asking r confirms) c.rows-2.ensures.value
    ∙ ap (λ (x : EndState). asking x.rows confirms) c.offer.ensures in
    c.send_asking.ensures.sent ∙ ap (λ (x : EndState). frame x c.as_slice.result.now) c.offer.ensures
    ∙ ap (λ (ks : List Key). frame (offers e confirms) ks) keys
