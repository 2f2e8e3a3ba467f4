-- The lines are read by `replay` as what they say, and a frame as its packet.
use Rattle.std.proofs.Common.{◌≡◌, refl, sym, ap, ◌∙◌, subst, ℕ, suc, ◌+◌, ◌/◌, ◌%◌, ◌≤◌, ◌<◌, ◌||◌, nat_lt, arith, Bool, true, false, if◌then◌else◌, List, [], ◌∷◌, ◌++◌, length, length-append, None, Some, Ok, Err}
use Rattle.std.proofs.lemmas.Bool.{ltb-false}
use Rattle.std.proofs.lemmas.Bool.Decides.{nat_tests}
use Rattle.std.proofs.lemmas.List.{length-take, take-append-le, take_all}
use Rattle.std.specs.List.{list_all}
use Rattle.std.specs.Prelude.{IsTrue, codes, take}
use Rattle.hex.specs.Hex.{IsBytes, encode_lower, encode_with}
use Rattle.hex.proofs.HexLemmas.{IsDigits-lower_digits}
use Rattle.tool_text.specs.Digits.{AreDigitsOf}
use Rattle.tool_text.specs.Lines.{is_text}
use Rattle.schedule_text.specs.Frames.{read_frame}
use Rattle.schedule_text.proofs.FrameForms.{spelled-frame}
use Rattle.dccp_packets.specs.Grammar.{HeaderFits, Parts, decoded, header_bytes, header_length, is_long, is_valid, packet_type, padded, spelling}
use Rattle.dccp_packets.specs.declared.header.Header.{Header}
use Rattle.dccp_packets.proofs.Lengths.{detail_of_fits, length-header_bytes, shortest}
use Rattle.dccp_packets.proofs.ReadBack.{reads_back}
use Rattle.world_events.specs.declared.event.Side.{Side}
use Rattle.bridge_command.specs.FrameLines.{comment_line, cut_comment, no_frame_words, sealed_words}
use Rattle.bridge_command.specs.Mapping.{frame_with, moved_frame, moved_header, usual_end}
use Rattle.bridge_command.specs.declared.frames.mapping.NoFrame.{NoFrame}
use Rattle.bridge_command.specs.declared.frames.mapping.NoFrame.TheVariants as none
use Rattle.bridge_command.proofs.NumberMoving.{header-fits, moved_valid}
use Rattle.bridge_command.proofs.Texts.{text-cut}

lower-spells : (bytes : List ℕ) → IsBytes bytes → AreDigitsOf (encode_lower bytes) bytes
unfolding encode_with
lower-spells [] are = tt
lower-spells (byte ∷ bytes) are =
    let small : byte < 256 = are 0 in
    (IsDigits-lower_digits (byte / 16) (omega arith), IsDigits-lower_digits (byte % 16) (omega arith), lower-spells bytes (λ i. are (suc i)))

pub sealed-read : (bytes : List ℕ) → IsBytes bytes → 8 ≤ length bytes → length bytes ≤ 2044
    → read_frame (sealed_words bytes) ≡ Ok (Some (record { seal = true; bytes = bytes }))
sealed-read bytes are some few =
    spelled-frame (sealed_words bytes) (Some (record { seal = true; bytes = bytes }))
    (record { digits = encode_lower bytes; spells = lower-spells bytes are; words = refl; some = omega (arith, some); few = few; covered = λ _. some })

pub none-read : (why : NoFrame) → read_frame (no_frame_words why) ≡ Ok None
none-read none.NumberUnknown = refl
none-read none.FrameTooLong = refl

pub comment-read : (front : List ℕ) → list_all is_text front ≡ true → read_frame (take 4096 (codes "# " ++ front)) ≡ Ok None
comment-read front are =
    let size = length-take 4096 (codes "# " ++ front) in
    spelled-frame (take 4096 (codes "# " ++ front)) None (refl, omega (arith, size), text-cut 4096 (codes "# " ++ front) are)

over : (n : ℕ) → nat_lt 4097 (n + 1) ≡ true → 4096 ≤ n
over n is = grind (arith, nat_tests)

within : (n : ℕ) → nat_lt 4097 (n + 1) ≡ false → n ≤ 4096
within n is = grind (arith, nat_tests)

cut-by : (comment : List ℕ) (long : Bool) → nat_lt 4097 (length comment + 1) ≡ long → cut_comment (comment ++ codes "\n") ≡ take 4096 comment ++ codes "\n"
cut-by comment true is =
    ap (λ (n : ℕ). if nat_lt 4097 n then take 4096 (comment ++ codes "\n") ++ codes "\n" else comment ++ codes "\n") (length-append comment (codes "\n"))
    ∙ ap (λ (long : Bool). if long then take 4096 (comment ++ codes "\n") ++ codes "\n" else comment ++ codes "\n") is
    ∙ ap (λ (front : List ℕ). front ++ codes "\n") (take-append-le 4096 comment (codes "\n") (over (length comment) is))
cut-by comment false is =
    ap (λ (n : ℕ). if nat_lt 4097 n then take 4096 (comment ++ codes "\n") ++ codes "\n" else comment ++ codes "\n") (length-append comment (codes "\n"))
    ∙ ap (λ (long : Bool). if long then take 4096 (comment ++ codes "\n") ++ codes "\n" else comment ++ codes "\n") is
    ∙ ap (λ (front : List ℕ). front ++ codes "\n") (sym (take_all 4096 comment (within (length comment) is)))

pub comment-ends : (front : List ℕ) → comment_line (front ++ codes "\n") ≡ take 4096 (codes "# " ++ front) ++ codes "\n"
comment-ends front = cut-by (codes "# " ++ front) (nat_lt 4097 (length (codes "# " ++ front) + 1)) refl

-- a packet that has a frame is not too long
pub record IsFrame (h : Header) (o d bytes : List ℕ) : Type 0 where
  pub same : spelling h o d ≡ bytes
  pub header : header_length h + length (padded o) ≤ 1020
  pub whole : length (spelling h o d) ≤ 2044

frame-by : (h : Header) (o d bytes : List ℕ) (header whole : Bool) → nat_lt 1020 (header_length h + length (padded o)) ≡ header
    → nat_lt 2044 (length (spelling h o d)) ≡ whole
    → (if header || whole then Err none.FrameTooLong else Ok (spelling h o d)) ≡ Ok bytes → IsFrame h o d bytes
frame-by h o d bytes true whole p q is = cc is
frame-by h o d bytes false true p q is = cc is
frame-by h o d bytes false false p q is = record {
  same = cc is;
  header = (let few = ltb-false 1020 (header_length h + length (padded o)) p in omega (arith, few));
  whole = (let few = ltb-false 2044 (length (spelling h o d)) q in omega (arith, few));
}

pub is-frame : (h : Header) (o d bytes : List ℕ) → frame_with h o d ≡ Ok bytes → IsFrame h o d bytes
is-frame h o d bytes is =
    frame-by h o d bytes (nat_lt 1020 (header_length h + length (padded o))) (nat_lt 2044 (length (spelling h o d))) refl refl is

moved-is-valid : (side : Side) (initial : ℕ) (h : Header) → IsTrue (is_valid h) → IsTrue (is_valid (moved_header (usual_end side) initial h))
moved-is-valid side initial h valid = subst (λ (b : Bool). IsTrue b) (sym (moved_valid (usual_end side) initial h)) valid

pub frame-decoded : (side : Side) (initial : ℕ) (packet : Parts) (bytes : List ℕ) → HeaderFits packet.header → IsTrue (is_valid packet.header)
    → moved_frame (usual_end side) initial packet ≡ Ok bytes
    → decoded bytes ≡ Ok (record { header = moved_header (usual_end side) initial packet.header; options = padded packet.options; payload = packet.payload })
frame-decoded side initial packet bytes fits valid is =
    let h = moved_header (usual_end side) initial packet.header in
    let frame = is-frame h packet.options packet.payload bytes is in
    ap decoded (sym frame.same)
    ∙ reads_back h packet.options packet.payload (header-fits side initial packet.header fits) (moved-is-valid side initial packet.header valid) frame.header

pub frame-sized : (side : Side) (initial : ℕ) (packet : Parts) (bytes : List ℕ) → HeaderFits packet.header → IsTrue (is_valid packet.header)
    → moved_frame (usual_end side) initial packet ≡ Ok bytes → (12 ≤ length bytes) × (length bytes ≤ 2044)
frame-sized side initial packet bytes fits valid is =
    let h = moved_header (usual_end side) initial packet.header in
    let frame = is-frame h packet.options packet.payload bytes is in
    let size : length (spelling h packet.options packet.payload) ≡ length bytes = ap length frame.same in
    let words : ℕ = (header_length h + length (padded packet.options)) / 4 in
    let joined = length-append (header_bytes h words) (padded packet.options ++ packet.payload) in
    let front = length-header_bytes h words (detail_of_fits h.kind (header-fits side initial packet.header fits).kind)
    (moved-is-valid side initial packet.header valid) in
    let least = shortest (is_long h.number) (packet_type h.kind) in
    let most = frame.whole in
    (omega (arith, size, joined, front, least), omega (arith, size, most))
