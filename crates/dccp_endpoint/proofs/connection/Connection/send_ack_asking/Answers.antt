use Rattle.std.proofs.Common.{◌≡◌, ◌∙◌, ◌++◌, ℕ, Bool, List, [], Some, ap, refl, subst, sym}
use Rattle.dccp_options.specs.Written.{Item, written}
use Rattle.dccp_packets.specs.Beginning.{Begins}
use Rattle.dccp_packets.specs.Outgoing.{outgoing}
use Rattle.dccp_packets.specs.declared.frame.Numbers.{Numbers}
use Rattle.dccp_packets.specs.declared.header.Header.{Header}
use Rattle.dccp_packets.specs.declared.header.Kind.{Kind}
use Rattle.dccp_packets.specs.declared.header.Kind.TheVariants as kind
use Rattle.dccp_packets.specs.declared.header.Number.TheVariants.{Long}
use Rattle.dccp_endpoint.specs.Drafts.{framed, own_header, sent_as}
use Rattle.dccp_endpoint.specs.End.{EndState}
use Rattle.dccp_endpoint.specs.Reporting.{sends_vectors, vector_items}
use Rattle.dccp_endpoint.specs.Speaking.{change_items}
use Rattle.dccp_endpoint.specs.Steps.{next_number}
use Rattle.dccp_endpoint.proofs.Short.{short_ack}
use Rattle.dccp_endpoint.proofs.Writing.{begins_on, written_both}
use Rattle.dccp_endpoint.proofs.connection.Connection.send_ack_asking.Goals as goal

pub returns-clause-sent : goal.returns-clause-sent
returns-clause-sent c =
    let e : EndState = c.args.self.now in
    let ack : EndState → Kind = λ x. kind.Ack (Long x.marks.gsr) in
    let k : Kind = kind.Ack (Long c.self.inside.marks.gsr) in
    let vector : List Item = vector_items (sends_vectors e.rows) e.config.vectors e.received.set e.marks.gsr in
    let changes : List Item = change_items e.rows c.args.keys.now in
    let number : ℕ = c.take_number-number.result in
    let short : Bool = c.goes_short-short.result in
    let area : List ℕ = written (vector ++ changes) in
    let header : Header = own_header e.config short number k in
    let same = c.self-2.view_is ∙ c.take_number-number.ensures.counted in
    let begun : Begins header [] c.begin_frame.new.frame =
    subst (λ (x : EndState). Begins (own_header x.config short number k) [] c.begin_frame.new.frame) same c.begin_frame.ensures.begun in
    let reported : c.report-whole.new.frame ≡ c.begin_frame.new.frame ++ written vector =
    c.report-whole.ensures.bytes
    ∙ ap (λ (x : EndState). c.begin_frame.new.frame ++ written (vector_items (sends_vectors x.rows) x.config.vectors x.received.set x.marks.gsr))
    c.take_number-number.ensures.counted in
    let asked : c.put_changes.new.frame ≡ c.report-whole.new.frame ++ written changes =
    c.put_changes.ensures.bytes ∙ ap (λ (x : EndState). c.report-whole.new.frame ++ written (change_items x.rows c.args.keys.now)) same in
    let one : Begins header ([] ++ written vector) c.report-whole.new.frame =
    begins_on header [] (written vector) c.begin_frame.new.frame c.report-whole.new.frame begun reported in
    let both : Begins header ([] ++ written vector ++ written changes) c.put_changes.new.frame =
    begins_on header ([] ++ written vector) (written changes) c.report-whole.new.frame c.put_changes.new.frame one asked in
    let begins : Begins header area c.put_changes.new.frame =
    subst (λ (all : List ℕ). Begins header all c.put_changes.new.frame) (written_both vector changes) both in
    let ended : c.end_frame.new.frame ≡ framed e.config short number k area [] =
    subst (λ (x : EndState). Begins (own_header x.config short number k) area c.put_changes.new.frame → c.end_frame.new.frame ≡ framed x.config short number k area [])
    same (c.end_frame.ensures short number k area) begins in
    ap (λ (numbers : Numbers). Some (outgoing numbers c.end_frame.new.frame)) c.numbers.ensures
    ∙ ap (λ (bytes : List ℕ). Some (sent_as number k bytes)) ended
    ∙ ap (λ (n : ℕ). Some (sent_as n k (framed e.config short n k area []))) c.take_number-number.ensures.number
    ∙ ap (λ (x : EndState). Some (sent_as (next_number e) (ack x) (framed e.config short (next_number e) (ack x) area []))) c.self.view_is
    ∙ ap (λ (form : Bool). Some (sent_as (next_number e) (ack e) (framed e.config form (next_number e) (ack e) area [])))
    (c.goes_short-short.ensures ∙ sym (short_ack e (ack e) [] e.rows c.args.keys.now refl))
