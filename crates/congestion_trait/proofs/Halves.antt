-- An entry of a list in two halves.
use Rattle.std.proofs.Common.{◌≡◌, Bool, false, List, [], ◌∷◌, ◌++◌, ◌⊎◌, inl, inr, ◌↔◌, IsTrue, arith, refl, subst, sym}
use Rattle.std.specs.List.{Contains}
use Rattle.std.proofs.lemmas.List.Elements.{Contains-append_left, Contains-append_right, Contains-append_cases}

-- what is in the second half is in the list
pub in_second : {X : Type 0} (x : X) (older newer entries : List X) → older ++ newer ≡ entries → Contains newer x → Contains entries x
in_second x older newer entries whole h = subst (λ xs. Contains xs x) whole (Contains-append_right older newer x h)

-- and so is what it ends with
pub in_end : {X : Type 0} (older : List X) (newest x : X) (entries : List X) → entries ≡ older ++ newest ∷ [] → newest ≡ x → Contains entries x
in_end older newest x entries whole same =
    in_second x older (newest ∷ []) entries (sym whole) (subst (λ it. Contains (newest ∷ []) it) same (0, omega arith, refl))

module _ {X : Type 0} (x : X) (older newer : List X) (first second : Bool) (not_first : first ≡ false)
    (in_newer : IsTrue first ↔ Contains newer x) (in_older : IsTrue second ↔ Contains older x) where
  by_half : Contains older x ⊎ Contains newer x → IsTrue second
  by_half (inl h) = in_older.1 h
  by_half (inr h) = let told = in_newer.1 h in cc

  -- what is not in the second half, is in the list if it is in the first
  pub in_either : (entries : List X) → older ++ newer ≡ entries → (IsTrue second ↔ Contains entries x)
  in_either entries whole = (
    λ told. subst (λ xs. Contains xs x) whole (Contains-append_left older newer x (in_older.0 told)),
    λ h. by_half (Contains-append_cases older newer x (subst (λ xs. Contains xs x) (sym whole) h)),
  )
