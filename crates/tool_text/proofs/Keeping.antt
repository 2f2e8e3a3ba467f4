-- A text that is begun still begins what is put after it.
use Rattle.std.proofs.Common.{◌≡◌, refl, sym, ap, ◌∙◌, ℕ, ◌≤◌, List, [], ◌∷◌, ◌++◌, length, length-append, take, arith}
use Rattle.std.proofs.lemmas.List.{append-nil}
use Rattle.std.proofs.lemmas.Grind.{common_steps}
use Rattle.tool_text.specs.Text.{Keeps}

take-front : (old piece : List ℕ) → take (length old) (old ++ piece) ≡ old
take-front [] piece = refl
take-front (byte ∷ old) piece = ap (λ (rest : List ℕ). byte ∷ rest) (take-front old piece)

length-take-at_most : (count : ℕ) (text : List ℕ) → length (take count text) ≤ length text
length-take-at_most count text = grind (arith, common_steps)

take-less : (few many : ℕ) (text : List ℕ) → few ≤ many → take few (take many text) ≡ take few text
take-less few many text less = grind (arith, common_steps)

-- nothing is put
pub keeps_itself : (text new : List ℕ) → new ≡ text → Keeps text new
keeps_itself text new same = record { front = ap (take (length text)) same ∙ ap (take (length text)) (sym (append-nil text)) ∙ take-front text [] }

-- a text that went on is begun by what it went on from
pub keeps_on : (old piece mid new : List ℕ) → mid ≡ old ++ piece → Keeps mid new → Keeps old new
keeps_on old piece mid new grows keeps = record {
  front =
      sym (take-less (length old) (length mid) new (let size = ap length grows in omega (arith, length-append old piece)))
      ∙ ap (take (length old)) (keeps.front ∙ grows)
      ∙ take-front old piece;
}

-- a text that went on begins with what it was
pub keeps_more : (old piece new : List ℕ) → new ≡ old ++ piece → Keeps old new
keeps_more old piece new grows = record { front = ap (take (length old)) grows ∙ take-front old piece }

pub keeps_through : (old mid new : List ℕ) → Keeps old mid → Keeps mid new → Keeps old new
keeps_through old mid new first then_on =
    let size : length old ≤ length mid = let short = length-take-at_most (length old) mid in let is = ap length first.front in omega arith in
    record {
      front =
          sym (take-less (length old) (length mid) new size)
          ∙ ap (take (length old)) then_on.front
          ∙ first.front;
    }
