use Rattle.std.proofs.Common.{◌≡◌, sym, ap, ◌∙◌, ℕ, Bool, true, false, List, Option, Some, Ok}
use Rattle.std.specs.Bool.{OnFalse, OnTrue}
use Rattle.dccp_packets.specs.Grammar.{Parts, decoded}
use Rattle.dccp_sum.specs.declared.pseudo_header.Pseudo.{Pseudo}
use Rattle.dccp_endpoint.specs.Lengthening.{lengthened, lengthened_if, says_more}
use Rattle.data_dropped.specs.Frames.{acknowledged_by, buffered, buffered_ack, buffered_packet, said}
use Rattle.data_dropped.specs.Inbox.{InboxState}
use Rattle.data_dropped.proofs.appending.write_buffered.Goals as goal

-- what is said of a packet that acknowledges this number is what is said of the frame
whole : (pseudo : Pseudo) (told : Option ℕ) (held : InboxState) (frame : List ℕ) (p : Parts) (ack : ℕ) (more : List ℕ)
    → decoded frame ≡ Ok p → Some ack ≡ acknowledged_by told p.header.kind → more ≡ said held ack
    → lengthened_if (says_more p more) pseudo p frame more ≡ buffered pseudo told held frame
whole pseudo told held frame p ack more read acks so =
    ap (λ (m : List ℕ). lengthened_if (says_more p m) pseudo p frame m) so
    ∙ ap (buffered_ack pseudo held p frame) acks
    ∙ ap (buffered_packet pseudo told held frame) (sym read)

if-longer : (b : Bool) (longer all : List ℕ) (pseudo : Pseudo) (p : Parts) (frame more : List ℕ) → b ≡ says_more p more
    → OnTrue b (longer ≡ lengthened pseudo p more) → lengthened_if (says_more p more) pseudo p frame more ≡ all → OnTrue b (longer ≡ all)
if-longer true longer all pseudo p frame more says written is = written ∙ ap (λ (b : Bool). lengthened_if b pseudo p frame more) says ∙ is
if-longer false longer all pseudo p frame more says written is = tt

if-same : (b : Bool) (all : List ℕ) (pseudo : Pseudo) (p : Parts) (frame more : List ℕ) → b ≡ says_more p more
    → lengthened_if (says_more p more) pseudo p frame more ≡ all → OnFalse b (all ≡ frame)
if-same true all pseudo p frame more says is = tt
if-same false all pseudo p frame more says is = sym (ap (λ (b : Bool). lengthened_if b pseudo p frame more) says ∙ is)

pub returns-clause-longer : goal.returns-clause-longer
returns-clause-longer g c =
    let p : Parts = record { header = c.in-Ok.packet.header; options = c.in-Ok.packet.options.now; payload = c.in-Ok.packet.payload.now } in
    if-longer c.lengthen.result c.lengthen.new.longer _ c.args.pseudo.now p c.args.frame.now c.as_slice.result.now
    c.lengthen.ensures.says c.lengthen.ensures.written
    (whole c.args.pseudo.now c.args.told.now c.args.inbox.now c.args.frame.now p c.in-Some.ack c.as_slice.result.now c.in-Ok.ensures.exact
    c.in-Some.ensures (c.as_slice.ensures.value ∙ c.put_said.ensures))

pub returns-clause-same : goal.returns-clause-same
returns-clause-same g c =
    let p : Parts = record { header = c.in-Ok.packet.header; options = c.in-Ok.packet.options.now; payload = c.in-Ok.packet.payload.now } in
    if-same c.lengthen.result _ c.args.pseudo.now p c.args.frame.now c.as_slice.result.now c.lengthen.ensures.says
    (whole c.args.pseudo.now c.args.told.now c.args.inbox.now c.args.frame.now p c.in-Some.ack c.as_slice.result.now c.in-Ok.ensures.exact
    c.in-Some.ensures (c.as_slice.ensures.value ∙ c.put_said.ensures))
