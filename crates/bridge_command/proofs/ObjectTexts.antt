-- The texts of an object are text, which is ASCII and so UTF-8.
use Rattle.std.proofs.Common.{arith, refl, ℕ, zero, suc, nat_le, List, [], ◌∷◌, Result}
use Rattle.std.proofs.lemmas.Bool.{leb-true}
use Rattle.std.proofs.lemmas.Str.{IsUtf8-from_ascii}
use Rattle.std.specs.List.{list_all}
use Rattle.std.specs.Str.{IsAscii, IsUtf8}
use Rattle.tool_text.specs.Names.{malformed_name}
use Rattle.tool_text.proofs.Bytes.{both-true}
use Rattle.tool_text.specs.Lines.{is_text}
use Rattle.dccp_packets.specs.declared.header.PacketType.{PacketType}
use Rattle.dccp_packets.specs.declared.reading.Malformed.{Malformed}
use Rattle.dccp_packets.specs.declared.reading.Malformed.TheVariants as malformed
use Rattle.dccp_sum.specs.declared.packet_sum.SumFault.{SumFault}
use Rattle.packet_show.specs.Names.{sum_name, type_name}
use Rattle.bridge_command.proofs.Texts.{IsText, type-text, verdict-text}

text-ascii : (text : List ℕ) → IsText text → IsAscii text
text-ascii [] are i = omega arith
text-ascii (byte ∷ text) are zero =
    let both = both-true (is_text byte) (list_all is_text text) are in
    let most = leb-true byte 126 (both-true (nat_le 32 byte) (nat_le byte 126) both.0).1 in
    omega (arith, most)
text-ascii (byte ∷ text) are (suc i) = text-ascii text (both-true (is_text byte) (list_all is_text text) are).1 i

pub text_is_utf8 : (text : List ℕ) → IsText text → IsUtf8 text
text_is_utf8 text are = IsUtf8-from_ascii text (text-ascii text are)

pub type_is_text : (kind : PacketType) → IsText (type_name kind)
type_is_text kind = type-text kind

pub verdict_is_text : (verdict : Result (Unit {0}) SumFault) → IsText (sum_name verdict)
verdict_is_text verdict = verdict-text verdict

pub malformed_is_text : (fault : Malformed) → IsText (malformed_name fault)
malformed_is_text malformed.Short = refl
malformed_is_text _ = refl
