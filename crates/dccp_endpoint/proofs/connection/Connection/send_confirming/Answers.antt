use Rattle.std.proofs.Common.{◌≡◌, ◌∙◌, ℕ, Bool, false, List, [], Some, ap, subst, sym}
use Rattle.dccp_options.specs.Written.{written}
use Rattle.dccp_packets.specs.Beginning.{Begins}
use Rattle.dccp_packets.specs.Outgoing.{outgoing}
use Rattle.dccp_packets.specs.declared.frame.Numbers.{Numbers}
use Rattle.dccp_packets.specs.declared.header.Header.{Header}
use Rattle.dccp_endpoint.specs.Drafts.{Draft, framed, own_header, sent_as, sent_of}
use Rattle.dccp_endpoint.specs.End.{EndState}
use Rattle.dccp_endpoint.specs.Speaking.{confirm_items, confirming}
use Rattle.dccp_endpoint.specs.Steps.{next_number}
use Rattle.dccp_endpoint.proofs.Short.{stays_long}
use Rattle.dccp_endpoint.proofs.Writing.{begins_on}
use Rattle.dccp_endpoint.proofs.connection.Connection.send_confirming.Goals as goal

pub returns-clause-sent : goal.returns-clause-sent
returns-clause-sent c =
    let e : EndState = c.args.self.now in
    let k = c.args.kind in
    let draft : Draft = confirming k c.args.confirms.now in
    let number : ℕ = c.take_number-number.result in
    let area : List ℕ = written (confirm_items c.args.confirms.now) in
    let header : Header = own_header e.config false number k in
    let same = c.self.view_is ∙ c.take_number-number.ensures.counted in
    let begun : Begins header [] c.begin_frame.new.frame =
    subst (λ (x : EndState). Begins (own_header x.config false number k) [] c.begin_frame.new.frame) same c.begin_frame.ensures.begun in
    let begins : Begins header area c.put_confirms.new.frame =
    begins_on header [] area c.begin_frame.new.frame c.put_confirms.new.frame begun c.put_confirms.ensures.bytes in
    let ended : c.end_frame.new.frame ≡ framed e.config false number k area [] =
    subst (λ (x : EndState). Begins (own_header x.config false number k) area c.put_confirms.new.frame → c.end_frame.new.frame ≡ framed x.config false number k area [])
    same (c.end_frame.ensures false number k area) begins in
    ap (λ (numbers : Numbers). Some (outgoing numbers c.end_frame.new.frame)) c.numbers.ensures
    ∙ ap (λ (bytes : List ℕ). Some (sent_as number k bytes)) ended
    ∙ ap (λ (n : ℕ). Some (sent_as n k (framed e.config false n k area []))) c.take_number-number.ensures.number
    ∙ ap (λ (short : Bool). Some (sent_of e.config short (next_number e) draft)) (sym (stays_long e draft c.requires.form))
