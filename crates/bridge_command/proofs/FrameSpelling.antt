-- A frame is spelled in two parts: its header with the options, and the data after them.
use Rattle.std.proofs.Common.{◌≡◌, refl, sym, ap, ◌∙◌, ℕ, ◌+◌, ◌≤◌, ◌<◌, ◌||◌, nat_lt, arith, Bool, true, false, if◌then◌else◌, List, [], ◌++◌, length, length-append, append_assoc, Ok, Err}
use Rattle.std.proofs.lemmas.Bool.{le-ltb, lt-ltb}
use Rattle.std.proofs.lemmas.List.{append-nil}
use Rattle.std.specs.Prelude.{◌/◌, codes}
use Rattle.hex.specs.Hex.{encode_lower}
use Rattle.tool_text.proofs.HexText.{encode-append}
use Rattle.dccp_packets.specs.Grammar.{header_bytes, header_length, padded, spelling}
use Rattle.dccp_packets.specs.declared.header.Header.{Header}
use Rattle.bridge_command.specs.FrameLines.{packet_frame_line}
use Rattle.bridge_command.specs.Mapping.{frame_with}
use Rattle.bridge_command.specs.declared.frames.mapping.NoFrame.TheVariants as none

-- the data follow all else
after-spelling : (h : Header) (o d : List ℕ) → spelling h o d ≡ spelling h o [] ++ d
after-spelling h o d =
    let front : List ℕ = header_bytes h ((header_length h + length (padded o)) / 4) in
    ap (λ (area : List ℕ). front ++ (area ++ d)) (sym (append-nil (padded o))) ∙ sym (append_assoc front (padded o ++ []) d)

pub header_too_long : (h : Header) (o d : List ℕ) → 1020 < header_length h + length (padded o) → frame_with h o d ≡ Err none.FrameTooLong
header_too_long h o d long =
    ap (λ (header : Bool). if header || nat_lt 2044 (length (spelling h o d)) then Err none.FrameTooLong else Ok (spelling h o d))
    (lt-ltb 1020 (header_length h + length (padded o)) long)

all-too-long : (header whole : Bool) (bytes : List ℕ) → whole ≡ true → (if header || whole then Err none.FrameTooLong else Ok bytes) ≡ Err none.FrameTooLong
all-too-long true whole bytes is = refl
all-too-long false true bytes is = refl
all-too-long false false bytes is = cc is

pub frame_too_long : (h : Header) (o d front : List ℕ) → front ≡ spelling h o [] → 2044 < length front + length d → frame_with h o d ≡ Err none.FrameTooLong
frame_too_long h o d front is long =
    let size : length (spelling h o d) ≡ length (front ++ d) = ap length (after-spelling h o d ∙ ap (λ (b : List ℕ). b ++ d) (sym is)) in
    let joined = length-append front d in
    all-too-long (nat_lt 1020 (header_length h + length (padded o))) (nat_lt 2044 (length (spelling h o d))) (spelling h o d)
    (lt-ltb 2044 (length (spelling h o d)) (omega (arith, size, joined, long)))

within : (header whole : Bool) (bytes : List ℕ) → header ≡ false → whole ≡ false → (if header || whole then Err none.FrameTooLong else Ok bytes) ≡ Ok bytes
within false false bytes h w = refl
within true whole bytes h w = cc h
within false true bytes h w = cc w

pub frame_in_parts : (h : Header) (o d front : List ℕ) → header_length h + length (padded o) ≤ 1020 → front ≡ spelling h o [] → length front + length d ≤ 2044
    → frame_with h o d ≡ Ok (front ++ d)
frame_in_parts h o d front header is few =
    let same : spelling h o d ≡ front ++ d = after-spelling h o d ∙ ap (λ (b : List ℕ). b ++ d) (sym is) in
    let size : length (spelling h o d) ≡ length (front ++ d) = ap length same in
    let joined = length-append front d in
    within (nat_lt 1020 (header_length h + length (padded o))) (nat_lt 2044 (length (spelling h o d))) (spelling h o d)
    (le-ltb 1020 (header_length h + length (padded o)) header)
    (le-ltb 2044 (length (spelling h o d)) (omega (arith, size, joined, few)))
    ∙ ap (λ (b : List ℕ). Ok b) same

-- the line of a frame, put in its parts
pub sealed_put : (text front payload : List ℕ)
    → (((text ++ codes "seal ") ++ encode_lower front) ++ encode_lower payload) ++ codes "\n" ≡ text ++ packet_frame_line (Ok (front ++ payload))
sealed_put text front payload =
    ap (λ (t : List ℕ). t ++ codes "\n")
    (ap (λ (t : List ℕ). t ++ encode_lower payload) (append_assoc text (codes "seal ") (encode_lower front))
    ∙ append_assoc text (codes "seal " ++ encode_lower front) (encode_lower payload)
    ∙ ap (λ (t : List ℕ). text ++ t) (append_assoc (codes "seal ") (encode_lower front) (encode_lower payload))
    ∙ ap (λ (t : List ℕ). text ++ (codes "seal " ++ t)) (sym (encode-append front payload)))
    ∙ append_assoc text (codes "seal " ++ encode_lower (front ++ payload)) (codes "\n")
