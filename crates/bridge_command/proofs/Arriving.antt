-- The frame of a replay's line is whole, and so is what arrives of it.
use Rattle.std.proofs.Common.{arith, ◌≡◌, ◌≤◌, ◌&&◌, ℕ, List, [], ◌∷◌, length, Bool, true, false, nat_lt, if◌then◌else◌, Option, Some, None, Ok, refl, subst}
use Rattle.std.proofs.lemmas.Bool.Decides.{nat_tests}
use Rattle.std.specs.Prelude.{codes}
use Rattle.std.specs.Str.{bytes_eq}
use Rattle.dccp_sum.specs.Checksum.{checksum, sealed, sealed_over, with_checksum}
use Rattle.dccp_sum.specs.Coverage.{covered}
use Rattle.dccp_sum.specs.declared.pseudo_header.Pseudo.{Pseudo}
use Rattle.schedule_text.specs.Frames.{frame_row, replay_row}
use Rattle.schedule_text.specs.declared.line.FrameLine.{FrameLine}
use Rattle.schedule_text.proofs.FrameForms.{frame-covered, replay-is}
use Rattle.tool_text.specs.Rows.{ByTest}
use Rattle.tool_text.specs.Words.{WordsLeft, texts_of}
use Rattle.tool_text.specs.declared.words.faults.LineWhy.TheVariants as why
use Rattle.tool_jobs.specs.Ends.{arriving}

-- a frame of at most 2,044 bytes, and of at least eight where its checksum is to be set
abbrev pub IsWhole : FrameLine → Type 0
IsWhole frame = (length frame.bytes ≤ 2044) × (frame.seal ≡ true → 8 ≤ length frame.bytes)

not-above : (n : ℕ) → nat_lt 2044 n ≡ false → n ≤ 2044
not-above n is = grind (arith, nat_tests)

few-by : (seal : Bool) (size : ℕ) (long : Bool) → nat_lt 2044 size ≡ long
    → (if long then Some why.FrameTooLong else if seal && nat_lt size 8 then Some why.SealShort else None) ≡ None → size ≤ 2044
few-by seal size true is none = cc none
few-by seal size false is none = not-above size is

few-found : (seal : Bool) (words : List (List ℕ)) (frame : FrameLine) → (frame_row seal).Spells frame words → length frame.bytes ≤ 2044
few-found seal words frame is =
    subst (λ (f : FrameLine). length f.bytes ≤ 2044) is.1 (few-by seal (length is.0.0) (nat_lt 2044 (length is.0.0)) refl is.2.1)

few-when : (test : Bool) (word : List ℕ) (rest : List (List ℕ)) (frame : FrameLine)
    → ByTest test ((frame_row true).Spells frame rest) ((frame_row false).Spells frame (word ∷ rest)) → length frame.bytes ≤ 2044
few-when true word rest frame is = few-found true rest frame is
few-when false word rest frame is = few-found false (word ∷ rest) frame is

few-words : (words : List (List ℕ)) (frame : FrameLine) → replay_row.Spells frame words → length frame.bytes ≤ 2044
few-words [] frame is = absurd is.2.0
few-words (word ∷ rest) frame is = few-when (bytes_eq word (codes "seal")) word rest frame is

pub frame-whole : (left : WordsLeft) (frame : FrameLine) → replay_row.said left ≡ Ok frame → IsWhole frame
frame-whole left frame is = (few-words (texts_of left.words) frame (replay-is.spelled left frame is), frame-covered left frame is)

with-checksum-length : (sum : ℕ) (bytes : List ℕ) → 8 ≤ length bytes → length (with_checksum sum bytes) ≡ length bytes
with-checksum-length sum (a ∷ b ∷ c ∷ d ∷ e ∷ f ∷ g ∷ h ∷ rest) long = refl
with-checksum-length sum _ long = absurd (omega arith)

sealed-over-length : (pseudo : Pseudo) (bytes : List ℕ) (count : Option ℕ) → 8 ≤ length bytes → length (sealed_over pseudo bytes count) ≡ length bytes
sealed-over-length pseudo bytes None long = refl
sealed-over-length pseudo bytes (Some count) long = with-checksum-length (checksum pseudo bytes count) bytes long

few-by-seal : (seal : Bool) (pseudo : Pseudo) (bytes : List ℕ) → length bytes ≤ 2044 → (seal ≡ true → 8 ≤ length bytes)
    → length (if seal then sealed pseudo bytes else bytes) ≤ 2044
few-by-seal true pseudo bytes few long =
    let same = sealed-over-length pseudo bytes (covered bytes) (long refl) in
    omega (arith, same, few)
few-by-seal false pseudo bytes few long = few

pub arriving-few : (pseudo : Pseudo) (frame : FrameLine) → IsWhole frame → length (arriving pseudo frame) ≤ 2044
arriving-few pseudo frame whole = few-by-seal frame.seal pseudo frame.bytes whole.0 whole.1
