use Rattle.std.proofs.Common.{◌++◌, ◌∙◌, ap, sym}
use Rattle.std.proofs.lemmas.List.{append_assoc}
use Rattle.byteorder.specs.Endian.{big_bytes}
use Rattle.dccp_packets.specs.Grammar.{long_ack_bytes, kind_bytes}
use Rattle.dccp_packets.proofs.writing.put_kind.Goals as goal

pub returns-in-Response : goal.returns-in-Response
returns-in-Response c =
    let service = big_bytes 4 c.in-Response.service in
    c.put_u32-in-Response.ensures
    ∙ ap (λ xs. xs ++ service) c.put_long_ack.ensures
    ∙ append_assoc c.args.out.now (long_ack_bytes c.in-Response.ack) service
    ∙ sym (ap (λ kind. c.args.out.now ++ kind_bytes kind) c.in-Response.is)
