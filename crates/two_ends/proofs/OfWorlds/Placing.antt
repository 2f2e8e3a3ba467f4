-- The numbers of a side's frames, by how many of its connection went before.
use Rattle.std.proofs.Common.{◌≡◌, refl, ap, sym, ◌∙◌, inl, inr, ℕ, zero, suc, ◌+◌, ◌-◌, ◌^◌, ◌<◌, ◌≤◌, not, Bool, true, false, if◌then◌else◌, List, [], ◌∷◌, length, take, Option, Some, None, Result, slice_get, arith}
use Rattle.std.proofs.lemmas.Option.{same_Some}
use Rattle.std.specs.Result.{result_ok}
use Rattle.dccp_packets.specs.Grammar.{Parts}
use Rattle.dccp_packets.specs.declared.reading.Malformed.{Malformed}
use Rattle.dccp_states.specs.declared.phase.Role.{Role}
use Rattle.seq_circle.specs.Circle.{residue}
use Rattle.two_ends.specs.declared.frames.SentFrame.{SentFrame}
use Rattle.two_ends.specs.Frames.{options_in, packet_of}
use Rattle.two_ends.specs.Numbered.{AreNumbered, IsNumberedFrame, IsResetWithoutConnection}
use Rattle.two_ends.specs.Placed.{count_of_own_numbers, has_own_number}

numbered-is : (role : Role) (number : ℕ) (frame : SentFrame) → IsNumberedFrame role number frame → has_own_number role (packet_of frame.bytes) ≡ true
numbered-is role number frame is =
    ap (λ (r : Result Parts Malformed). has_own_number role (result_ok r)) is.spells.is_packet ∙ ap not is.of_connection

reset-is : (role : Role) (frame : SentFrame) → IsResetWithoutConnection role frame → has_own_number role (packet_of frame.bytes) ≡ false
reset-is role frame is =
    ap (λ (r : Result Parts Malformed). has_own_number role (result_ok r)) is.spells.is_packet ∙ ap not is.has_code

one-more : (role : Role) (frame : SentFrame) (frames : List SentFrame) → has_own_number role (packet_of frame.bytes) ≡ true
    → count_of_own_numbers role (frame ∷ frames) ≡ suc (count_of_own_numbers role frames)
one-more role frame frames is = ap (λ (b : Bool). if b then suc (count_of_own_numbers role frames) else count_of_own_numbers role frames) is

none-more : (role : Role) (frame : SentFrame) (frames : List SentFrame) → has_own_number role (packet_of frame.bytes) ≡ false
    → count_of_own_numbers role (frame ∷ frames) ≡ count_of_own_numbers role frames
none-more role frame frames is = ap (λ (b : Bool). if b then suc (count_of_own_numbers role frames) else count_of_own_numbers role frames) is

all-counted : (role : Role) (iss before count : ℕ) (frames : List SentFrame) → AreNumbered role iss before frames count
    → count ≡ before + count_of_own_numbers role frames
all-counted role iss before count [] is = omega (arith, is)
all-counted role iss before count (frame ∷ frames) (inl (here, rest)) =
    omega (arith, all-counted role iss (before + 1) count frames rest, one-more role frame frames (numbered-is role _ frame here))
all-counted role iss before count (frame ∷ frames) (inr (here, rest)) =
    omega (arith, all-counted role iss before count frames rest, none-more role frame frames (reset-is role frame here))

moved-on : (iss before more count : ℕ) → count ≡ suc more → residue (iss + (before + 1 + more)) ≡ residue (iss + (before + count))
moved-on iss before more count is = omega (arith, is)

moved-none : (iss before more count : ℕ) → count ≡ more → residue (iss + (before + more)) ≡ residue (iss + (before + count))
moved-none iss before more count is = omega (arith, is)

first-number : (iss before : ℕ) → residue (iss + before) ≡ residue (iss + (before + 0))
first-number iss before = omega arith

number-placed : (role : Role) (iss before count : ℕ) (frames : List SentFrame) → AreNumbered role iss before frames count → (index : ℕ)
    (frame : SentFrame) → slice_get frames index ≡ Some frame → has_own_number role (packet_of frame.bytes) ≡ true
    → frame.number ≡ residue (iss + (before + count_of_own_numbers role (take index frames)))
number-placed role iss before count [] is index frame there own = cc there
number-placed role iss before count (first ∷ frames) (inl (here, rest)) zero frame there own =
    let same : first ≡ frame = same_Some first frame there in
    ap (λ (f : SentFrame). f.number) (sym same) ∙ here.has_number ∙ first-number iss before
number-placed role iss before count (first ∷ frames) (inl (here, rest)) (suc index) frame there own =
    number-placed role iss (before + 1) count frames rest index frame there own
    ∙ moved-on iss before (count_of_own_numbers role (take index frames)) (count_of_own_numbers role (first ∷ take index frames))
    (one-more role first (take index frames) (numbered-is role _ first here))
number-placed role iss before count (first ∷ frames) (inr (here, rest)) zero frame there own =
    let same : first ≡ frame = same_Some first frame there in
    let not_own : has_own_number role (packet_of frame.bytes) ≡ false =
    ap (λ (f : SentFrame). has_own_number role (packet_of f.bytes)) (sym same) ∙ reset-is role first here in
    cc (own, not_own)
number-placed role iss before count (first ∷ frames) (inr (here, rest)) (suc index) frame there own =
    number-placed role iss before count frames rest index frame there own
    ∙ moved-none iss before (count_of_own_numbers role (take index frames)) (count_of_own_numbers role (first ∷ take index frames))
    (none-more role first (take index frames) (reset-is role first here))

pub bare-at : (role : Role) (iss before count : ℕ) (frames : List SentFrame) → AreNumbered role iss before frames count → (index : ℕ) (frame : SentFrame)
    → slice_get frames index ≡ Some frame → has_own_number role (packet_of frame.bytes) ≡ false → options_in frame.bytes ≡ []
bare-at role iss before count [] is index frame there not_own = cc there
bare-at role iss before count (first ∷ frames) (inl (here, rest)) zero frame there not_own =
    let same : first ≡ frame = same_Some first frame there in
    let own : has_own_number role (packet_of frame.bytes) ≡ true =
    ap (λ (f : SentFrame). has_own_number role (packet_of f.bytes)) (sym same) ∙ numbered-is role _ first here in
    cc (own, not_own)
bare-at role iss before count (first ∷ frames) (inl (here, rest)) (suc index) frame there not_own =
    bare-at role iss (before + 1) count frames rest index frame there not_own
bare-at role iss before count (first ∷ frames) (inr (here, rest)) zero frame there not_own =
    ap (λ (f : SentFrame). options_in f.bytes) (sym (same_Some first frame there)) ∙ here.no_options
bare-at role iss before count (first ∷ frames) (inr (here, rest)) (suc index) frame there not_own =
    bare-at role iss before count frames rest index frame there not_own

none-before : (iss x : ℕ) → residue (iss + (0 + x)) ≡ residue (iss + x)
none-before iss x = omega arith

-- of all frames of a side
pub all-of-side : (role : Role) (iss count : ℕ) (frames : List SentFrame) → AreNumbered role iss 0 frames count → count ≡ count_of_own_numbers role frames
all-of-side role iss count frames are = omega (arith, all-counted role iss 0 count frames are)

pub number-of-side : (role : Role) (iss count : ℕ) (frames : List SentFrame) → AreNumbered role iss 0 frames count → (index : ℕ) (frame : SentFrame)
    → slice_get frames index ≡ Some frame → has_own_number role (packet_of frame.bytes) ≡ true
    → frame.number ≡ residue (iss + count_of_own_numbers role (take index frames))
number-of-side role iss count frames are index frame there own =
    number-placed role iss 0 count frames are index frame there own ∙ none-before iss (count_of_own_numbers role (take index frames))
