-- The table of codes, drop by drop.
use Rattle.std.proofs.Common.{◌≡◌, ℕ, ◌+◌, ◌^◌, ◌<◌, ◌==◌, Bool, List, [], ◌∷◌, ◌++◌, length, take, get_or, replicate, slice_get, Option, Some, None, if◌then◌else◌, refl, ap, sym, ◌∙◌, arith}
use Rattle.std.specs.Prelude.{slice_set}
use Rattle.std.proofs.lemmas.Bool.{eq-eqb, ne_eqb}
use Rattle.std.proofs.lemmas.List.{take_more}
use Rattle.std.proofs.lemmas.Option.{get_or_from_slice_get, slice_get_within}
use Rattle.seq_circle.specs.Circle.{distance}
use Rattle.ack_vectors.proofs.ByRuns.{constant-states}
use Rattle.ack_vectors.proofs.Coded.{states_down-set}
use Rattle.ack_vectors.proofs.ReadBack.{length-states_down, slice_get-states_down}
use Rattle.data_dropped.specs.Drops.{code_table, drop_code, last_code}
use Rattle.data_dropped.specs.declared.drops.DropEntry.{DropEntry}

-- one drop more gives its number its code
last_code-push : {Drop : Type 0} (is_meant : Drop → Bool) (code : Drop → ℕ) (found : Option ℕ) (drops : List Drop) (d : Drop)
    → last_code is_meant code found (drops ++ d ∷ []) ≡ (if is_meant d then Some (code d) else last_code is_meant code found drops)
last_code-push is_meant code found [] d = refl
last_code-push is_meant code found (e ∷ drops) d = last_code-push is_meant code (if is_meant e then Some (code e) else found) drops d

pub drop_code-push : (drops : List DropEntry) (d : DropEntry) (n : ℕ)
    → drop_code (drops ++ d ∷ []) n ≡ (if d.number == n then Some d.code else drop_code drops n)
drop_code-push drops d n = last_code-push (λ (e : DropEntry). e.number == n) (λ (e : DropEntry). e.code) None drops d

drop_code-own : (drops : List DropEntry) (d : DropEntry) → drop_code (drops ++ d ∷ []) d.number ≡ Some d.code
drop_code-own drops d =
    drop_code-push drops d d.number ∙ ap (λ (b : Bool). if b then Some d.code else drop_code drops d.number) (eq-eqb d.number d.number refl)

drop_code-other : (drops : List DropEntry) (d : DropEntry) (n : ℕ) → n < 2 ^ 48 → (n ≡ d.number → ⊥) → drop_code (drops ++ d ∷ []) n ≡ drop_code drops n
drop_code-other drops d n fits other =
    drop_code-push drops d n
    ∙ ap (λ (b : Bool). if b then Some d.code else drop_code drops n) (ne_eqb d.number n (λ (e : d.number ≡ n). other (sym e)))

pub table-none : (ack : ℕ) → code_table [] ack ≡ replicate 2048 None
unfolding code_table
table-none ack = constant-states {S = Option ℕ} None 2048 ack

pub length-table : (drops : List DropEntry) (ack : ℕ) → length (code_table drops ack) ≡ 2048
unfolding code_table
length-table drops ack = length-states_down (drop_code drops) 2048 ack

table-set : (drops : List DropEntry) (d : DropEntry) (ack : ℕ) → d.number < 2 ^ 48 → ack < 2 ^ 48
    → code_table (drops ++ d ∷ []) ack ≡ slice_set (code_table drops ack) (distance d.number ack) (drop_code (drops ++ d ∷ []) d.number)
unfolding code_table
table-set drops d ack fits fits_ack =
    states_down-set (drop_code drops) (drop_code (drops ++ d ∷ [])) d.number (drop_code-other drops d) 2048 ack (omega arith) fits_ack fits

pub table-step : (items : List DropEntry) (i : ℕ) (d : DropEntry) (ack : ℕ) (table : List (Option ℕ)) → slice_get items i ≡ Some d
    → d.number < 2 ^ 48 → ack < 2 ^ 48 → table ≡ code_table (take i items) ack
    → slice_set table (distance d.number ack) (Some d.code) ≡ code_table (take (i + 1) items) ack
table-step items i d ack table there fits fits_ack is =
    let inside : i < length items = slice_get_within items i d there in
    let item : get_or items i d ≡ d = get_or_from_slice_get items i d d there in
    let more : take (i + 1) items ≡ take i items ++ d ∷ [] = take_more items i d inside ∙ ap (λ (x : DropEntry). take i items ++ x ∷ []) item in
    ap (λ (t : List (Option ℕ)). slice_set t (distance d.number ack) (Some d.code)) is
    ∙ ap (λ (code : Option ℕ). slice_set (code_table (take i items) ack) (distance d.number ack) code) (sym (drop_code-own (take i items) d))
    ∙ sym (table-set (take i items) d ack fits fits_ack)
    ∙ ap (λ (ds : List DropEntry). code_table ds ack) (sym more)

-- the code at a number's place is the number's
pub code_in_table : (drops : List DropEntry) (ack n : ℕ) → ack < 2 ^ 48 → n < 2 ^ 48 → distance n ack < 2048
    → slice_get (code_table drops ack) (distance n ack) ≡ Some (drop_code drops n)
unfolding code_table
code_in_table drops ack n fits_ack fits near =
    slice_get-states_down (drop_code drops) 2048 ack (distance n ack) n fits_ack fits near (omega arith)
