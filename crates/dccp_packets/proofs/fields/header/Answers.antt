-- Each field is read at its place.
use Rattle.std.proofs.Common.{◌≡◌, ◌∙◌, ap, refl}
use Rattle.std.proofs.lemmas.List.{take_rest}
use Rattle.byteorder.specs.Endian.{big_number}
use Rattle.dccp_packets.specs.Grammar.{number_at}
use Rattle.dccp_packets.proofs.Pieces.{same_header}
use Rattle.dccp_packets.proofs.fields.header.Goals as goal

pub returns : goal.returns
returns c =
    let bytes = c.args.bytes.now in
    let from : c.read_u16.result ≡ number_at 0 2 bytes = c.read_u16.ensures ∙ ap (big_number 2) (take_rest bytes 0) in
    let to : c.read_u16-2.result ≡ number_at 2 2 bytes = c.read_u16-2.ensures ∙ ap (big_number 2) (take_rest bytes 2) in
    let checksum : c.read_u16-3.result ≡ number_at 6 2 bytes = c.read_u16-3.ensures ∙ ap (big_number 2) (take_rest bytes 6) in
    same_header from to refl refl checksum c.number.ensures c.kind.ensures
