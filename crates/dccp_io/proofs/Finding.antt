-- One call of `find`: each way in which it ends.
use Rattle.std.proofs.Common.{arith, ◌≡◌, refl, sym, ap, ◌∙◌, subst, inl, inr, ℕ, ◌+◌, ◌≤◌, Bool, true, false, if◌then◌else◌, List, [], ◌∷◌, ◌++◌, length, take, drop, Option, Some, None, Ok, Err, IfSome}
use Rattle.std.proofs.lemmas.List.{drop-append-le, length-drop, length-take-le}
use Rattle.std.proofs.lemmas.Option.{none-some}
use Rattle.std.proofs.Math.Seq.{drop-append_seam}
use Rattle.std.specs.Io.KnownBytes.{prepend_known}
use Rattle.dccp_io.specs.Ahead.{BytesAhead, ahead_of}
use Rattle.dccp_io.specs.Counts.{Rose}
use Rattle.dccp_io.specs.Fronts.{GivesAtMost}
use Rattle.dccp_io.specs.declared.lines.NextItem.TheVariants as next_item
use Rattle.dccp_io.specs.declared.lines.Stop.{Stop}
use Rattle.dccp_io.specs.declared.lines.Stop.TheVariants as stop
use Rattle.dccp_io.specs.Lines.{most_input_bytes, next_in_bytes, made_out, IsLineOf, End, Line, Long, Much, Seeks, LinesState, Finds}

-- a reader with these parts
abbrev pub state : {S : Type 0} → S → List ℕ → ℕ → ℕ → Option Stop → LinesState S
state source held used given stopped = record {
  source = source;
  pending = drop used held;
  line = take used held;
  given = given;
  stop = stopped;
}

-- the block once the line that was given was let go
abbrev pub let_go : BytesAhead → ℕ → BytesAhead
let_go held used = record { pending = drop used held.pending; size = held.size }

-- the list in an option
abbrev from_some : Option (List ℕ) → List ℕ
from_some None = []
from_some (Some bytes) = bytes

-- no more was read than what is pending
past-pending : (pending : List ℕ) (known : Option (List ℕ)) → length pending ≤ 8192 → GivesAtMost 8192 (prepend_known pending known) known
past-pending pending None fits = (0, omega arith, refl)
past-pending pending (Some more) fits = (length pending, fits, ap (λ (xs : List ℕ). Some xs) (sym (drop-append_seam pending more)))

no-end : (within long : Bool) (front line other : List ℕ) → (if within then (if long then Long front else Line line) else Much) ≡ End → other ≡ []
no-end true true front line other is = cc is
no-end true false front line other is = cc is
no-end false long front line other is = cc is

only-end : (given : ℕ) (bytes : List ℕ) → next_in_bytes given bytes ≡ End → bytes ≡ []
only-end given [] is = refl
only-end given (byte ∷ bytes) is = no-end _ _ _ _ (byte ∷ bytes) is

-- nothing is left
end-next : (given : ℕ) (all ahead : Option (List ℕ)) → ahead ≡ all → IfSome all (λ bytes. next_in_bytes given bytes ≡ End)
    → IfSome all (λ bytes. (bytes ≡ []) × (ahead ≡ Some []))
end-next given None ahead same next = tt
end-next given (Some bytes) ahead same next =
    let none = only-end given bytes next in (none, same ∙ ap (λ (xs : List ℕ). Some xs) none)

-- a line comes next, and after it what is left
line-next : (given count : ℕ) (got : List ℕ) (all known : Option (List ℕ)) → count ≤ length got → prepend_known got known ≡ all
    → IfSome all (λ bytes. next_in_bytes given bytes ≡ Line (take count got))
    → IfSome all (λ bytes. (next_in_bytes given bytes ≡ Line (take count got))
    × (prepend_known (drop count got) known ≡ Some (drop (length (take count got)) bytes)))
line-next given count got None known fits same next = tt
line-next given count got (Some bytes) None fits same next = absurd (none-some bytes same)
line-next given count got (Some bytes) (Some more) fits same next =
    let size : length (take count got) ≡ count = length-take-le count got fits in
    let following : drop count got ++ more ≡ drop count bytes = sym (drop-append-le count got more fits) ∙ ap (drop count) (ap from_some same) in
    (next, ap (λ (xs : List ℕ). Some xs) (following ∙ ap (λ (n : ℕ). drop n bytes) (sym size)))

module _ {S : Type 0} (left : S → Option (List ℕ)) (faults lender : S → ℕ) where
  -- a reader that stopped does nothing
  pub found-before : (old : LinesState S) (why : Stop) → old.stop ≡ Some why → old.given ≤ most_input_bytes → length old.pending ≤ 8192
      → Finds left faults lender old old (Err why)
  found-before old why kept within block = record {
    never_falls = omega arith;
    same_lender = refl;
    within = within;
    past = past-pending old.pending (left old.source) block;
    answer = record { kept = kept; given = refl; same_rest = refl; cause = inl (kept, refl) };
  }

  pub found-failed : (before after : S) (held passed got : BytesAhead) (used given : ℕ) (stopped : Option Stop) → passed ≡ let_go held used → stopped ≡ None
      → given ≤ most_input_bytes → length got.pending ≤ 8192 → Seeks left faults lender passed got before after → Rose (faults before) (faults after)
      → Finds left faults lender (state before held.pending used given stopped) (state after got.pending 0 given (Some stop.Failed)) (Err stop.Failed)
  found-failed before after held passed got used given stopped is unstopped within block seeks rose =
      let here : Seeks left faults lender (let_go held used) got before after =
      subst (λ (ahead : BytesAhead). Seeks left faults lender ahead got before after) is seeks in
      record {
        never_falls = here.never_falls;
        same_lender = here.same_lender;
        within = within;
        past = past-pending got.pending (left after) block;
        answer = record { kept = refl; given = refl; same_rest = here.same_ahead; cause = inr (unstopped, rose) };
      }

  pub found-long : (before after : S) (held passed got : BytesAhead) (used given : ℕ) (stopped : Option Stop) → passed ≡ let_go held used → stopped ≡ None
      → given ≤ most_input_bytes → length got.pending ≤ 8192 → Seeks left faults lender passed got before after
      → IfSome (ahead_of passed (left before)) (λ bytes. next_in_bytes given bytes ≡ made_out got.pending next_item.TooLong)
      → Finds left faults lender (state before held.pending used given stopped) (state after got.pending 0 given (Some stop.TooLong)) (Err stop.TooLong)
  found-long before after held passed got used given stopped is unstopped within block seeks next =
      let here : Seeks left faults lender (let_go held used) got before after =
      subst (λ (ahead : BytesAhead). Seeks left faults lender ahead got before after) is seeks in
      record {
        never_falls = here.never_falls;
        same_lender = here.same_lender;
        within = within;
        past = past-pending got.pending (left after) block;
        answer = record {
          kept = refl;
          given = refl;
          same_rest = here.same_ahead;
          cause = inr (
            unstopped,
            subst (λ (ahead : BytesAhead). IfSome (ahead_of ahead (left before))
                (λ bytes. next_in_bytes given bytes ≡ made_out got.pending next_item.TooLong)) is next,
          );
        };
      }

  pub found-much : (before after : S) (held passed got : BytesAhead) (used given : ℕ) (stopped : Option Stop) → passed ≡ let_go held used → stopped ≡ None
      → given ≤ most_input_bytes → length got.pending ≤ 8192 → Seeks left faults lender passed got before after
      → IfSome (ahead_of passed (left before)) (λ bytes. next_in_bytes given bytes ≡ made_out got.pending next_item.TooMuch)
      → Finds left faults lender (state before held.pending used given stopped) (state after got.pending 0 given (Some stop.TooMuch)) (Err stop.TooMuch)
  found-much before after held passed got used given stopped is unstopped within block seeks next =
      let here : Seeks left faults lender (let_go held used) got before after =
      subst (λ (ahead : BytesAhead). Seeks left faults lender ahead got before after) is seeks in
      record {
        never_falls = here.never_falls;
        same_lender = here.same_lender;
        within = within;
        past = past-pending got.pending (left after) block;
        answer = record {
          kept = refl;
          given = refl;
          same_rest = here.same_ahead;
          cause = inr (
            unstopped,
            subst (λ (ahead : BytesAhead). IfSome (ahead_of ahead (left before))
                (λ bytes. next_in_bytes given bytes ≡ made_out got.pending next_item.TooMuch)) is next,
          );
        };
      }

  pub found-end : (before after : S) (held passed got : BytesAhead) (used given : ℕ) (stopped : Option Stop) → passed ≡ let_go held used → stopped ≡ None
      → given ≤ most_input_bytes → length got.pending ≤ 8192 → Seeks left faults lender passed got before after
      → IfSome (ahead_of passed (left before)) (λ bytes. next_in_bytes given bytes ≡ made_out got.pending next_item.End)
      → Finds left faults lender (state before held.pending used given stopped) (state after got.pending 0 given stopped) (Ok false)
  found-end before after held passed got used given stopped is unstopped within block seeks next =
      let here : Seeks left faults lender (let_go held used) got before after =
      subst (λ (ahead : BytesAhead). Seeks left faults lender ahead got before after) is seeks in
      record {
        never_falls = here.never_falls;
        same_lender = here.same_lender;
        within = within;
        past = past-pending got.pending (left after) block;
        answer = record {
          was_open = unstopped;
          is_open = unstopped;
          given = refl;
          next = end-next given (prepend_known (drop used held.pending) (left before)) (prepend_known got.pending (left after)) here.same_ahead
              (subst (λ (ahead : BytesAhead). IfSome (ahead_of ahead (left before))
              (λ bytes. next_in_bytes given bytes ≡ made_out got.pending next_item.End)) is next);
        };
      }

  pub found-line : (before after : S) (held passed got : BytesAhead) (used given count : ℕ) (stopped : Option Stop) → passed ≡ let_go held used → stopped ≡ None
      → length got.pending ≤ 8192 → Seeks left faults lender passed got before after
      → IfSome (ahead_of passed (left before)) (λ bytes. next_in_bytes given bytes ≡ made_out got.pending (next_item.Line count))
      → IsLineOf given got.pending (next_item.Line count)
      → Finds left faults lender (state before held.pending used given stopped) (state after got.pending count (given + count) stopped) (Ok true)
  found-line before after held passed got used given count stopped is unstopped block seeks next fits =
      let here : Seeks left faults lender (let_go held used) got before after =
      subst (λ (ahead : BytesAhead). Seeks left faults lender ahead got before after) is seeks in
      let size : length (take count got.pending) ≡ count = length-take-le count got.pending fits.1 in
      record {
        never_falls = here.never_falls;
        same_lender = here.same_lender;
        within = fits.3;
        past = past-pending (drop count got.pending) (left after) (rw (length-drop count got.pending) (omega (arith, block)));
        answer = record {
          was_open = unstopped;
          is_open = unstopped;
          some = rw size fits.0;
          short = rw size fits.2;
          given = ap (λ (n : ℕ). given + n) (sym size);
          next = line-next given count got.pending (prepend_known (drop used held.pending) (left before)) (left after) fits.1 here.same_ahead
              (subst (λ (ahead : BytesAhead). IfSome (ahead_of ahead (left before))
              (λ bytes. next_in_bytes given bytes ≡ made_out got.pending (next_item.Line count))) is next);
        };
      }
