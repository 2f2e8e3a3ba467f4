-- Bytes that are put where a text was made longer for them follow it.
use Rattle.std.proofs.Common.{arith, ◌≡◌, sym, ap, ◌∙◌, ℕ, ◌+◌, ◌-◌, List, [], ◌++◌, length, length-append, take, drop}
use Rattle.std.proofs.Math.Seq.{take-append_seam}
use Rattle.std.proofs.lemmas.List.{append-nil, drop_all, length-drop, take_all}
use Rattle.std.specs.Prelude.{replicate}

put-whole : (old digits front room post rest : List ℕ) (size : ℕ) → front ≡ old → room ≡ digits → post ≡ [] → size ≡ length old + length digits
    → take size ((front ++ (room ++ post)) ++ rest) ≡ old ++ digits
put-whole old digits front room post rest size front_is room_is post_is size_is =
    let whole : front ++ (room ++ post) ≡ old ++ digits =
    ap (λ (text : List ℕ). text ++ (room ++ post)) front_is
    ∙ ap (λ (text : List ℕ). old ++ (text ++ post)) room_is
    ∙ ap (λ (text : List ℕ). old ++ (digits ++ text)) post_is
    ∙ ap (λ (text : List ℕ). old ++ text) (append-nil digits) in
    let long : size ≡ length (old ++ digits) = size_is ∙ sym (length-append old digits) in
    ap (λ (text : List ℕ). take size (text ++ rest)) whole
    ∙ ap (λ (n : ℕ). take n ((old ++ digits) ++ rest)) long
    ∙ take-append_seam (old ++ digits) rest

longer : (old now : List ℕ) (held begin count : ℕ) → held ≡ length old → begin ≡ length old
    → now ≡ take (begin + count) old ++ replicate (begin + count - held) 0
    → now ≡ old ++ replicate count 0
longer old now held begin count held_is begin_is now_is =
    let more : begin + count - held ≡ count = omega (arith, begin_is, held_is) in
    now_is
    ∙ ap (λ (text : List ℕ). text ++ replicate (begin + count - held) 0) (take_all (begin + count) old (omega (arith, begin_is)))
    ∙ ap (λ (n : ℕ). old ++ replicate n 0) more

pub put-after : (old digits now room rest : List ℕ) (held begin count size : ℕ) → held ≡ length old → begin ≡ length old → count ≡ length digits
    → now ≡ take (begin + count) old ++ replicate (begin + count - held) 0 → room ≡ digits → size ≡ begin + count
    → take size ((take begin now ++ (room ++ drop (length now - begin) (drop begin now))) ++ rest) ≡ old ++ digits
put-after old digits now room rest held begin count size held_is begin_is count_is now_is room_is size_is =
    let whole : now ≡ old ++ replicate count 0 = longer old now held begin count held_is begin_is now_is in
    let front : take begin now ≡ old =
    ap (take begin) whole ∙ ap (λ (n : ℕ). take n (old ++ replicate count 0)) begin_is ∙ take-append_seam old (replicate count 0) in
    put-whole old digits (take begin now) room (drop (length now - begin) (drop begin now)) rest size front room_is
    (drop_all (length now - begin) (drop begin now) (omega (arith, length-drop begin now))) (omega (arith, begin_is, count_is, size_is))
