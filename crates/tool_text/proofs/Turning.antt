-- The turns of the loop over lines, and its ends.
use Rattle.std.proofs.Common.{arith, ◌≡◌, refl, ◌∙◌, subst, inl, inr, ℕ, ◌+◌, ◌≤◌, Bool, false, true, List, ◌++◌, Option, Some, None, Result, Ok, IfSome, OnOk, OnErr}
use Rattle.std.proofs.lemmas.Option.{IfSome_then}
use Rattle.std.specs.Prelude.{is_err}
use Rattle.dccp_io.specs.Fronts.{TakesFront}
use Rattle.dccp_io.specs.Lines.{LinesState, rest_of_input}
use Rattle.tool_text.specs.Jobs.{GoesIn, Job, refusal_in}
use Rattle.tool_text.specs.Turns.{Leaves, TakesTurn, unrefused}
use Rattle.tool_text.specs.declared.lines.loops.LinesEnd.{LinesEnd}
use Rattle.tool_text.specs.declared.lines.turns.Turn.{Turn}
use Rattle.tool_text.specs.declared.lines.turns.Turn.TheVariants as turn
use Rattle.tool_text.proofs.Along.{Along, along-first, along-line, along-moved, through-early, through-end, through-refused}
use Rattle.tool_text.specs.Ends.{HasBegun, IsMovedOut}
use Rattle.tool_text.specs.declared.output.status.JobEnd.{JobEnd}
use Rattle.tool_text.specs.declared.output.status.JobEnd.TheVariants as ended
use Rattle.tool_text.proofs.Ending.{on-err, on-ok, unwritten}
use Rattle.tool_text.specs.declared.words.faults.LineFault.{LineFault}

-- Before each turn: the reader has not stopped, the number fits what it gave, the job keeps what it keeps, the counts of faults never
-- fall, and the text is along that of the whole input.
pub record InLoop {S K P V : Type 0} (left : S → Option (List ℕ)) (faults lender : S → ℕ) (taken : K → Option (List ℕ)) (failed empty : K → ℕ)
    (job : Job P V) (Keeps : V → ℕ → Type 0) (start state : V) (first now : LinesState S) (opened output : K) (front text : List ℕ) (number : ℕ) : Type 0 where
  pub unstopped : now.stop ≡ None
  pub within : now.given ≤ 16777216
  pub counted : number ≤ now.given + 1
  pub kept : Keeps state number
  pub same_lender : lender now.source ≡ lender first.source
  pub faults_rise : faults first.source ≤ faults now.source
  pub sink_faults : failed opened ≤ failed output
  pub empty_takes : empty opened ≤ empty output
  pub along : IfSome (rest_of_input left first)
      (λ input. Along job start state number now.given (rest_of_input left now) front text (taken opened) (taken output) input)

module _ {S K P V : Type 0} (left : S → Option (List ℕ)) (faults lender : S → ℕ) (taken : K → Option (List ℕ)) (failed empty : K → ℕ)
    (job : Job P V) (Keeps : V → ℕ → Type 0) (apart : Bool) (start : V) (first : LinesState S) (opened : K) (front : List ℕ) where
  pub begins : first.stop ≡ None → first.given ≡ 0 → Keeps start 1
      → InLoop left faults lender taken failed empty job Keeps start start first first opened opened front front 1
  begins unstopped given kept = record {
    unstopped = unstopped;
    within = omega (arith, given);
    counted = omega (arith, given);
    kept = kept;
    same_lender = refl;
    faults_rise = omega arith;
    sink_faults = omega arith;
    empty_takes = omega arith;
    along = along-first job start first.given (rest_of_input left first) front (taken opened) given;
  }

  -- what the loop comes to
  abbrev pub Through : S → Option (List ℕ) → LinesEnd → Type 0
  Through source later result = IfSome (rest_of_input left first) (λ input. GoesIn apart job Keeps start front input result (left source) (taken opened) later)

  module _ (state : V) (old : LinesState S) (output : K) (text : List ℕ) (number : ℕ)
      (before : InLoop left faults lender taken failed empty job Keeps start state first old opened output front text number) where
    -- a prefix of the text was written
    pub moved-on : {A E : Type 0} (later : K) (kept : List ℕ) (flushed : Result A E) → OnOk flushed (IsMovedOut (taken output) (taken later) text kept)
        → is_err flushed ≡ false
        → failed output ≤ failed later → empty output ≤ empty later
        → InLoop left faults lender taken failed empty job Keeps start state first old opened later front kept number
    moved-on later kept flushed moved fine failed_rise empty_rise = record {
      unstopped = before.unstopped;
      within = before.within;
      counted = before.counted;
      kept = before.kept;
      same_lender = before.same_lender;
      faults_rise = before.faults_rise;
      sink_faults = omega (arith, before.sink_faults, failed_rise);
      empty_takes = omega (arith, before.empty_takes, empty_rise);
      along = IfSome_then (rest_of_input left first) before.along (λ (input : List ℕ) along.
          along-moved job start state number old.given (rest_of_input left old) front text kept (taken opened) (taken output) (taken later) input along
          (on-ok flushed (IsMovedOut (taken output) (taken later) text kept) moved fine));
    }

    -- the sink failed
    pub unmoved : {A E : Type 0} (later : K) (flushed : Result A E) → OnErr flushed (TakesFront (taken output) (taken later) text) → is_err flushed ≡ true
        → Through old.source (taken later) (unrefused ended.Write)
    unmoved later flushed taken_front failing =
        let begun = on-err flushed (TakesFront (taken output) (taken later) text) taken_front failing in
        IfSome_then (rest_of_input left first) before.along (λ (input : List ℕ) along.
        through-early job start apart Keeps state number old.given (rest_of_input left old) (left old.source) front text (taken opened) (taken output)
        (taken later) input (unrefused ended.Write) along
        (inr (inl refl)) (begun.0, begun.2))

    -- no memory was left
    pub out-of-memory : (source : S) → Through source (taken output) (unrefused ended.Memory)
    out-of-memory source =
        IfSome_then (rest_of_input left first) before.along (λ (input : List ℕ) along.
        through-early job start apart Keeps state number old.given (rest_of_input left old) (left source) front text (taken opened) (taken output)
        (taken output) input (unrefused ended.Memory) along
        (inr (inr refl)) (unwritten text (taken output) (taken output) refl))

    module _ (new : LinesState S) (next : V) (written : List ℕ) (t : Turn)
        (turns : TakesTurn left faults lender job Keeps number old new state next text written t) where
      pub turned-on : t ≡ turn.Accepted → InLoop left faults lender taken failed empty job Keeps start next first new opened output front written (number + 1)
      turned-on is =
          let accepted = subst (λ (s : Turn). TakesTurn left faults lender job Keeps number old new state next text written s) is turns in
          let gives = accepted.0.answer in
          let given = gives.given in
          let some = gives.some in
          record {
            unstopped = gives.is_open;
            within = accepted.0.within;
            counted = omega (arith, before.counted, given, some);
            kept = accepted.2;
            same_lender = accepted.0.same_lender ∙ before.same_lender;
            faults_rise = omega (arith, before.faults_rise, accepted.0.never_falls);
            sink_faults = before.sink_faults;
            empty_takes = before.empty_takes;
            along = IfSome_then (rest_of_input left first) before.along (λ (input : List ℕ) along.
                along-line job start state next number old.given new.given (rest_of_input left old) (rest_of_input left new) new.line front text written
                (taken opened) (taken output) input
                along given gives.next accepted.1);
          }

      -- the input is at its end
      pub turned-to-end : (later : Option (List ℕ)) (result : JobEnd) → t ≡ turn.Ended → Leaves (written ++ job.ending next) false result (taken output) later
          → Through new.source later (unrefused result)
      turned-to-end later result is leaves =
          let ended = subst (λ (s : Turn). TakesTurn left faults lender job Keeps number old new state next text written s) is turns in
          let same = subst (λ (v : V). Leaves (text ++ job.ending v) false result (taken output) later) ended.1
          (subst (λ (w : List ℕ). Leaves (w ++ job.ending next) false result (taken output) later) ended.2 leaves) in
          IfSome_then (rest_of_input left first) before.along (λ (input : List ℕ) along.
          through-end job start apart Keeps state number old.given (rest_of_input left old) (left new.source) front text (taken opened)
          (taken output) later input (unrefused result) along
          new.pending before.kept ended.0.answer.next refl same)

      -- the loop ended so, and the line that is next is refused
      abbrev pub refused-with : JobEnd → LineFault → LinesEnd
      refused-with result fault = record { end = result; refusal = Some (record { number = number; fault = fault }) }

      -- what comes next is refused
      pub turned-down : (later : Option (List ℕ)) (fault : LineFault) (result : JobEnd) → t ≡ turn.Refused fault
          → Leaves (written ++ refusal_in apart number fault) true result (taken output) later → Through new.source later (refused-with result fault)
      turned-down later fault result is leaves =
          let refused = subst (λ (s : Turn). TakesTurn left faults lender job Keeps number old new state next text written s) is turns in
          let same = subst (λ (w : List ℕ). Leaves (w ++ refusal_in apart number fault) true result (taken output) later) refused.1 leaves in
          IfSome_then (rest_of_input left first) before.along (λ (input : List ℕ) along.
          through-refused job start apart Keeps state number old.given (rest_of_input left old) (left new.source) front text (taken opened)
          (taken output) later input (refused-with result fault) along
          fault before.kept refused.0.past refused.0.refused refl same)

      -- the source failed
      pub turned-off : (later : Option (List ℕ)) (out : List ℕ) (result : JobEnd) → t ≡ turn.Failed → out ≡ written → result ≡ ended.Read
          → HasBegun (taken output) later out
          → Through new.source later (unrefused result)
      turned-off later out result is same read begun =
          let ended = subst (λ (s : Turn). TakesTurn left faults lender job Keeps number old new state next text written s) is turns in
          IfSome_then (rest_of_input left first) before.along (λ (input : List ℕ) along.
          through-early job start apart Keeps state number old.given (rest_of_input left old) (left new.source) front text (taken opened)
          (taken output) later input (unrefused result) along
          (inl read) (subst (HasBegun (taken output) later) (same ∙ ended.1) begun))
