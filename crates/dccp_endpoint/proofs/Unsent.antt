-- Why data are not sent, in the words of `send` and `send_early`.
use Rattle.std.proofs.Common.{◌≡◌, ◌≢◌, ◌↔◌, ◌⊎◌, inl, inr, refl, ap, sym, ◌∙◌, subst, ℕ, ◌<◌, ◌≤◌, nat_lt, Bool, true, false, not, ◌&&◌, if◌then◌else◌, List, length, Option, Some, None, Result, Ok, Err, arith}
use Rattle.std.specs.Prelude.{◌==◌}
use Rattle.std.proofs.lemmas.Bool.{eqb-false, eqb-true, false≢true, ltb-false, ltb-true}
use Rattle.congestion_trait.specs.Control.{Control, may_send}
use Rattle.dccp_states.specs.declared.calls.SendFault.{SendFault}
use Rattle.dccp_states.specs.declared.calls.SendFault.TheVariants as fault
use Rattle.dccp_states.specs.declared.phase.Phase.{Phase}
use Rattle.dccp_states.specs.declared.phase.Phase.TheVariants as phase
use Rattle.feature_lists.specs.declared.features.Feature.TheVariants.{Ccid, SendAckVector}
use Rattle.feature_lists.specs.declared.features.Place.TheVariants.{Here, There}
use Rattle.feature_machine.specs.declared.row.Row.{Row}
use Rattle.dccp_endpoint.specs.Calling.{fault_where, send_fault}
use Rattle.dccp_endpoint.specs.Controlled.{End, in_flight_of, window_of}
use Rattle.dccp_endpoint.specs.Early.{early_fault, is_part_open}
use Rattle.dccp_endpoint.specs.End.{is_open, value_in}
use Rattle.dccp_endpoint.proofs.Phases.{open-is, part-open-is}

-- each refusal has its cause: the phase fits or does not, and the window is full or not
pub record IsJudged (Fits Full : Type 0) (rows : List Row) (payload : List ℕ) (answer : Result (Unit {0}) SendFault) : Type 0 where
  pub not_open : (answer ≡ Err fault.NotOpen) ↔ (Fits → ⊥)
  pub too_long : (answer ≡ Err fault.TooLong) ↔ (Fits × (1024 < length payload))
  pub not_negotiated : (answer ≡ Err fault.NotNegotiated)
      ↔ (Fits × (length payload ≤ 1024) × (value_in rows Ccid Here ≡ 2) × (value_in rows SendAckVector There ≢ 1))
  pub window_full : (answer ≡ Err fault.WindowFull)
      ↔ (Fits × (length payload ≤ 1024) × ((value_in rows Ccid Here ≢ 2) ⊎ (value_in rows SendAckVector There ≡ 1)) × Full)

-- the answer to a call with this fault, or with none
abbrev pub answer_if : Option SendFault → Result (Unit {0}) SendFault
answer_if None = Ok tt
answer_if (Some found) = Err found

both : {A B : Type 0} → A → B → A ↔ B
both a b = (λ _. b, λ _. a)

neither : {A B : Type 0} → (A → ⊥) → (B → ⊥) → A ↔ B
neither a b = (λ x. absurd (a x), λ y. absurd (b y))

module _ (Fits Full : Type 0) (rows : List Row) (payload : List ℕ) where
  abbrev Judged : Option SendFault → Type 0
  Judged found = IsJudged Fits Full rows payload (answer_if found)

  abbrev HasVectors : Type 0
  HasVectors = (value_in rows Ccid Here ≢ 2) ⊎ (value_in rows SendAckVector There ≡ 1)

  lacking-not : HasVectors → value_in rows Ccid Here ≡ 2 → value_in rows SendAckVector There ≢ 1 → ⊥
  lacking-not (inl other) two none = other two
  lacking-not (inr one) two none = none one

  not-open : (Fits → ⊥) → Judged (Some fault.NotOpen)
  not-open apart =
      record {
        not_open = both refl apart;
        too_long = neither (λ is. cc is) (λ all. apart all.0);
        not_negotiated = neither (λ is. cc is) (λ all. apart all.0);
        window_full = neither (λ is. cc is) (λ all. apart all.0);
      }

  module _ (fits : Fits) where
    too-long : 1024 < length payload → Judged (Some fault.TooLong)
    too-long long =
        record {
          not_open = neither (λ is. cc is) (λ apart. apart fits);
          too_long = both refl (fits, long);
          not_negotiated = neither (λ is. cc is) (λ all. (let short = all.1 in omega (arith, long, short)));
          window_full = neither (λ is. cc is) (λ all. (let short = all.1 in omega (arith, long, short)));
        }

    module _ (short : length payload ≤ 1024) where
      not-negotiated : value_in rows Ccid Here ≡ 2 → value_in rows SendAckVector There ≢ 1 → Judged (Some fault.NotNegotiated)
      not-negotiated two none =
          record {
            not_open = neither (λ is. cc is) (λ apart. apart fits);
            too_long = neither (λ is. cc is) (λ all. (let long = all.1 in omega (arith, long, short)));
            not_negotiated = both refl (fits, short, two, none);
            window_full = neither (λ is. cc is) (λ all. lacking-not all.2 two none);
          }

      module _ (has : HasVectors) where
        window-full : Full → Judged (Some fault.WindowFull)
        window-full full =
            record {
              not_open = neither (λ is. cc is) (λ apart. apart fits);
              too_long = neither (λ is. cc is) (λ all. (let long = all.1 in omega (arith, long, short)));
              not_negotiated = neither (λ is. cc is) (λ all. lacking-not has all.2 all.3);
              window_full = both refl (fits, short, has, full);
            }

        sent : (Full → ⊥) → Judged None
        sent free =
            record {
              not_open = neither (λ is. cc is) (λ apart. apart fits);
              too_long = neither (λ is. cc is) (λ all. (let long = all.1 in omega (arith, long, short)));
              not_negotiated = neither (λ is. cc is) (λ all. lacking-not has all.2 all.3);
              window_full = neither (λ is. cc is) (λ all. free all.3);
            }

        by-window : (may : Bool) → (may ≡ true → Full → ⊥) → (may ≡ false → Full) → Judged (if not may then Some fault.WindowFull else None)
        by-window true free full = sent (free refl)
        by-window false free full = window-full (full refl)

      module _ (may : Bool) (free : may ≡ true → Full → ⊥) (full : may ≡ false → Full) where
        abbrev windowed : Option SendFault
        windowed = if not may then Some fault.WindowFull else None

        by-vectors : (two one : Bool) → (value_in rows Ccid Here == 2) ≡ two → (value_in rows SendAckVector There == 1) ≡ one
            → Judged (if two && not one then Some fault.NotNegotiated else windowed)
        by-vectors true false two one = not-negotiated (eqb-true _ _ two) (eqb-false _ _ one)
        by-vectors true true two one = by-window (inr (eqb-true _ _ one)) may free full
        by-vectors false one two is = by-window (inl (eqb-false _ _ two)) may free full

    module _ (may : Bool) (free : may ≡ true → Full → ⊥) (full : may ≡ false → Full) where
      abbrev judged_more : Option SendFault
      judged_more =
          if (value_in rows Ccid Here == 2) && not (value_in rows SendAckVector There == 1) then Some fault.NotNegotiated
          else if not may then Some fault.WindowFull
          else None

      by-length : (long : Bool) → nat_lt 1024 (length payload) ≡ long → Judged (if long then Some fault.TooLong else judged_more)
      by-length true is = too-long (ltb-true 1024 (length payload) is)
      by-length false is = by-vectors (ltb-false 1024 (length payload) is) may free full _ _ refl refl

  judged : (fits may : Bool) → (fits ≡ true → Fits) → (fits ≡ false → Fits → ⊥) → (may ≡ true → Full → ⊥) → (may ≡ false → Full)
      → Judged (fault_where fits rows payload may)
  judged false may fit misfit free full = not-open (misfit refl)
  judged true may fit misfit free full = by-length (fit refl) may free full (nat_lt 1024 (length payload)) refl

module _ {C : Type 0} (control : Control C) (inside old : End C) (same : inside ≡ old) (payload : List ℕ) (found : Option SendFault) where
  -- what is answered, by the one phase that fits
  abbrev JudgedIn : Phase → End C → Type 0
  JudgedIn wanted e =
      IsJudged (e.state.phase ≡ wanted) (window_of control e.congestion ≤ in_flight_of control e.congestion) e.state.rows payload (answer_if found)

  module _ (may : Bool) (may_is : may ≡ may_send control inside.congestion) where
    judged-in : (wanted : Phase) (fits : Bool) → (fits ≡ true → inside.state.phase ≡ wanted) → (fits ≡ false → inside.state.phase ≡ wanted → ⊥)
        → found ≡ fault_where fits inside.state.rows payload may → JudgedIn wanted old
    judged-in wanted fits fit misfit is =
        let window : ℕ = window_of control inside.congestion in
        let flying : ℕ = in_flight_of control inside.congestion in
        subst (JudgedIn wanted) same
        (subst (λ (x : Option SendFault). IsJudged (inside.state.phase ≡ wanted) (window ≤ flying) inside.state.rows payload (answer_if x)) (sym is)
        (judged (inside.state.phase ≡ wanted) (window ≤ flying) inside.state.rows payload fits may fit misfit
        (λ free full. (let room = ltb-true flying window (sym may_is ∙ free) in omega (arith, room, full)))
        (λ stays. ltb-false flying window (sym may_is ∙ stays))))

    -- what `send` answers
    pub send-judged : found ≡ send_fault inside.state payload may → JudgedIn phase.Open old
    send-judged =
        judged-in phase.Open (is_open inside.state.phase) (open-is inside.state.phase)
        (λ shut open-now. absurd (false≢true (sym shut ∙ ap is_open open-now)))

    -- what `send_early` answers
    pub early-judged : found ≡ early_fault inside.state payload may → JudgedIn phase.PartOpen old
    early-judged =
        judged-in phase.PartOpen (is_part_open inside.state.phase) (part-open-is inside.state.phase)
        (λ shut open-now. absurd (false≢true (sym shut ∙ ap is_part_open open-now)))
