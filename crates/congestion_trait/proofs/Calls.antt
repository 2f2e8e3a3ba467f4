-- Which numbers stand how after calls.
use Rattle.std.proofs.Common.{◌≡◌, ℕ, ◌+◌, ◌-◌, ◌<◌, Bool, true, false, ◌||◌, List, [], ◌∷◌, ◌++◌, length, drop, get_or, refl, sym, ap, ◌∙◌, subst, inl, inr, ◌⊎◌, ⊎_elim, IsTrue, eq-eqb, length-drop, arith}
use Rattle.std.specs.List.{list_any}
use Rattle.std.proofs.lemmas.Bool.{cases_lt}
use Rattle.std.proofs.lemmas.List.{length_push, get_or_push, get_or_append_left, get_or-drop}
use Rattle.congestion_trait.specs.declared.flight.FlightEntry.{FlightEntry}
use Rattle.congestion_trait.specs.declared.flight.Standing.{Standing}
use Rattle.congestion_trait.specs.declared.flight.Standing.TheVariants.{Out, Reported}
use Rattle.congestion_trait.specs.Flight.{sent, Has, HasEntry}
use Rattle.congestion_trait.specs.Control.{Control, IsLawful}
use Rattle.congestion_trait.specs.Calls.{Call, Starts, Sends, Reports, TimesOut, after_call, run, call_sends, tells}
use Rattle.congestion_trait.proofs.Standings.{reported_before_or_received, out_before, listed_before}

-- what is in a list that lost its front and was given one more stood there, or is the last
has_sent : (entries : List FlightEntry) (next number excess : ℕ) (standing : Standing)
    → Has (drop excess (entries ++ record { number = next; standing = Out } ∷ [])) number standing
    → Has entries number standing ⊎ (◌≡◌ {A = FlightEntry} (record { number = next; standing = Out }) (record { number = number; standing = standing }))
has_sent entries next number excess standing h =
    let new : FlightEntry = record { number = next; standing = Out } in
    let it : FlightEntry = record { number = number; standing = standing } in
    let all = entries ++ new ∷ [] in
    let longer = length_push entries new in
    let rest = length-drop excess all in
    let read : get_or all (excess + h.0) it ≡ it = sym (get_or-drop excess all h.0 it) ∙ h.2 in
    let within : excess + h.0 < length entries + 1 = omega (arith, longer, rest, h.1) in
    ⊎_elim (λ before. inl (excess + h.0, before, sym (get_or_append_left entries (new ∷ []) it (excess + h.0) before) ∙ read))
    (λ past. inr (sym (get_or_push entries new it (excess + h.0) (omega arith)) ∙ read))
    (cases_lt (excess + h.0) (length entries))

pub reported_sent : (entries : List FlightEntry) (next number : ℕ) → Has (sent entries next) number Reported → Has entries number Reported
reported_sent entries next number h =
    ⊎_elim (λ before. before)
    (λ is. let standings : Out ≡ Reported = ap (λ (e : FlightEntry). e.standing) is in cc)
    (has_sent entries next number (length (entries ++ record { number = next; standing = Out } ∷ []) - 2048) Reported h)

pub out_sent : (entries : List FlightEntry) (next number : ℕ) → Has (sent entries next) number Out → Has entries number Out ⊎ (number ≡ next)
out_sent entries next number h =
    ⊎_elim (λ before. inl before)
    (λ is. inr (sym (ap (λ (e : FlightEntry). e.number) is)))
    (has_sent entries next number (length (entries ++ record { number = next; standing = Out } ∷ []) - 2048) Out h)

pub listed_sent : (entries : List FlightEntry) (next number : ℕ) → HasEntry (sent entries next) number → HasEntry entries number ⊎ (number ≡ next)
listed_sent entries next number h =
    ⊎_elim (λ before. inl (h.0, before))
    (λ is. inr (sym (ap (λ (e : FlightEntry). e.number) is)))
    (has_sent entries next number (length (entries ++ record { number = next; standing = Out } ∷ []) - 2048) h.0 h.1)

nothing_there : (number : ℕ) (standing : Standing) (entries : List FlightEntry) → entries ≡ [] → Has entries number standing → ⊥
nothing_there number standing entries none h = let few = ap length none in omega (arith, few, h.1)

module _ {S : Type 0} (control : Control S) (lawful : IsLawful control) where
  -- a number that is Out after a call was Out before, or the call sends it
  pub out_after : (state : S) (call : Call) (number : ℕ)
      → Has (control.flight (after_call control state call)) number Out → Has (control.flight state) number Out ⊎ IsTrue (call_sends number call)
  out_after state (Starts ccid) number h = absurd (nothing_there number Out _ (lawful.start_empties state ccid) h)
  out_after state (Sends next) number h =
      ⊎_elim (λ before. inl before) (λ same. inr (eq-eqb number next same))
      (out_sent (control.flight state) next number (subst (λ l. Has l number Out) (lawful.sending_adds state next) h))
  out_after state (Reports states ratio) number h =
      inl (out_before states (control.flight state) number (subst (λ l. Has l number Out) (lawful.report_settles state states ratio) h))
  out_after state TimesOut number h = absurd (nothing_there number Out _ (lawful.timeout_empties state) h)

  -- a number that is Reported after a call was Reported before, or the call reports that it was received
  pub reported_after : (state : S) (call : Call) (number : ℕ)
      → Has (control.flight (after_call control state call)) number Reported → Has (control.flight state) number Reported ⊎ IsTrue (tells number call)
  reported_after state (Starts ccid) number h = absurd (nothing_there number Reported _ (lawful.start_empties state ccid) h)
  reported_after state (Sends next) number h =
      inl (reported_sent (control.flight state) next number (subst (λ l. Has l number Reported) (lawful.sending_adds state next) h))
  reported_after state (Reports states ratio) number h =
      reported_before_or_received states (control.flight state) number
      (subst (λ l. Has l number Reported) (lawful.report_settles state states ratio) h)
  reported_after state TimesOut number h = absurd (nothing_there number Reported _ (lawful.timeout_empties state) h)

  -- a number that is in the list after a call stood there before, or the call sends it
  pub listed_after : (state : S) (call : Call) (number : ℕ)
      → HasEntry (control.flight (after_call control state call)) number → HasEntry (control.flight state) number ⊎ IsTrue (call_sends number call)
  listed_after state (Starts ccid) number h = absurd (nothing_there number h.0 _ (lawful.start_empties state ccid) h.1)
  listed_after state (Sends next) number h =
      ⊎_elim (λ before. inl before) (λ same. inr (eq-eqb number next same))
      (listed_sent (control.flight state) next number (subst (λ l. HasEntry l number) (lawful.sending_adds state next) h))
  listed_after state (Reports states ratio) number h =
      inl (listed_before states (control.flight state) number (subst (λ l. HasEntry l number) (lawful.report_settles state states ratio) h))
  listed_after state TimesOut number h = absurd (nothing_there number h.0 _ (lawful.timeout_empties state) h.1)

  or_first : (x y : Bool) → x ≡ true → (x || y) ≡ true
  or_first x y is = ap (λ b. b || y) is

  or_second : (x y : Bool) → y ≡ true → (x || y) ≡ true
  or_second true y is = refl
  or_second false y is = is

  -- a number that is Out was Out before the calls, or one of them sends it
  pub out_run : (state : S) (calls : List Call) (number : ℕ)
      → Has (control.flight (run control state calls)) number Out → Has (control.flight state) number Out ⊎ IsTrue (list_any (call_sends number) calls)
  out_run state [] number h = inl h
  out_run state (call ∷ rest) number h =
      ⊎_elim (λ now. ⊎_elim (λ before. inl before) (λ here. inr (or_first (call_sends number call) (list_any (call_sends number) rest) here))
      (out_after state call number now))
      (λ later. inr (or_second (call_sends number call) (list_any (call_sends number) rest) later))
      (out_run (after_call control state call) rest number h)

  -- a number that is in the list stood there before the calls, or one of them sends it
  pub listed_run : (state : S) (calls : List Call) (number : ℕ)
      → HasEntry (control.flight (run control state calls)) number → HasEntry (control.flight state) number ⊎ IsTrue (list_any (call_sends number) calls)
  listed_run state [] number h = inl h
  listed_run state (call ∷ rest) number h =
      ⊎_elim (λ now. ⊎_elim (λ before. inl before) (λ here. inr (or_first (call_sends number call) (list_any (call_sends number) rest) here))
      (listed_after state call number now))
      (λ later. inr (or_second (call_sends number call) (list_any (call_sends number) rest) later))
      (listed_run (after_call control state call) rest number h)

  -- a number that is Reported was Reported before the calls, or one of them reports that it was received
  pub reported_run : (state : S) (calls : List Call) (number : ℕ)
      → Has (control.flight (run control state calls)) number Reported → Has (control.flight state) number Reported ⊎ IsTrue (list_any (tells number) calls)
  reported_run state [] number h = inl h
  reported_run state (call ∷ rest) number h =
      ⊎_elim (λ now. ⊎_elim (λ before. inl before) (λ here. inr (or_first (tells number call) (list_any (tells number) rest) here))
      (reported_after state call number now))
      (λ later. inr (or_second (tells number call) (list_any (tells number) rest) later))
      (reported_run (after_call control state call) rest number h)
