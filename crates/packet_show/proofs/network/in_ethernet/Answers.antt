-- The packet after the header, of the type that the header says.
use Rattle.std.proofs.Common.{rules, ◌≡◌, ◌≤◌, false, length, nat_lt, refl, sym, ap, ◌∙◌, drop, List, ℕ}
use Rattle.std.proofs.lemmas.Bool.{le-ltb}
use Rattle.packet_show.specs.Network.{in_ethernet, in_frame}
use Rattle.dccp_packets.specs.Grammar.{number_at}
use Rattle.packet_show.proofs.network.in_ethernet.Goals as goal

pub returns-clause-value : goal.returns-clause-value
returns-clause-value c =
    let enough : 14 ≤ length c.args.bytes.now = search rules in
    let test : nat_lt (length c.args.bytes.now) 14 ≡ false = le-ltb (length c.args.bytes.now) 14 enough in
    let here : in_ethernet c.args.bytes.now ≡ in_frame (number_at 12 2 c.args.bytes.now) (drop 14 c.args.bytes.now) = rw test refl in
    c.in_frame.ensures.value
    ∙ ap (λ (kind : ℕ). in_frame kind c.rest_after.result.now) c.read_u16.ensures
    ∙ ap (λ (packet : List ℕ). in_frame (number_at 12 2 c.args.bytes.now) packet) c.rest_after.ensures
    ∙ sym here
