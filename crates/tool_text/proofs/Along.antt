-- On the way through an input: what was written, what is in the text and what is left make the whole.
use Rattle.std.proofs.Common.{arith, ◌≡◌, refl, sym, ap, ◌∙◌, subst, inr, ℕ, ◌+◌, Bool, true, false, List, [], ◌∷◌, ◌++◌, length, drop, Option, Some, None, Ok, IfSome, append_assoc}
use Rattle.std.proofs.lemmas.Grind.{flat_map-append}
use Rattle.std.proofs.lemmas.List.{append-nil, drop-drop}
use Rattle.std.specs.Io.KnownBytes.{append_known, prepend_known}
use Rattle.std.specs.Prelude.{flat_map, is_some}
use Rattle.dccp_io.specs.Fronts.{GivesAtMost}
use Rattle.dccp_io.specs.Lines.{Line, first_line, lines_of, next_in_bytes, text_of}
use Rattle.tool_text.specs.Jobs.{Job, LineVerdict, Accepted, Refused, Judges, LinesResult, GoesIn, by_next, deeds_of, gone_by, gone_from, gone_so_far, gone_through, last_in, line_text, onto, refusal_at, refusal_in, refusal_told, text_in}
use Rattle.tool_text.specs.Turns.{Leaves}
use Rattle.tool_text.proofs.FirstLine.{gone-cut, is-line}
use Rattle.tool_text.specs.Ends.{HasBegun, IsCutOff, IsMovedOut}
use Rattle.tool_text.specs.declared.lines.loops.LinesEnd.{LinesEnd}
use Rattle.tool_text.specs.declared.output.status.JobEnd.TheVariants as ended
use Rattle.tool_text.proofs.Ending.{answers-early, append-none, append-twice, begun-after, begun-longer, none-left, not-both}
use Rattle.tool_text.specs.declared.words.faults.LineFault.{LineFault}

-- Before a line of this number, after this many bytes that were given, where `left` is what is left of the input and `text` was not written yet.
pub record Along {P V : Type 0} (job : Job P V) (first state : V) (number given : ℕ) (left : Option (List ℕ)) (front text : List ℕ)
    (before after : Option (List ℕ)) (input : List ℕ) : Type 0 where
  pub written : List ℕ
  pub deeds : List P
  pub rest_is : left ≡ Some (drop given input)
  pub taken_is : after ≡ append_known before written
  pub whole : gone_through job first input ≡ onto deeds (gone_from job state number given (lines_of (drop given input)))
  pub told : written ++ text ≡ front ++ flat_map job.told deeds

module _ {P V : Type 0} (job : Job P V) (first : V) where
  -- before the first line
  pub along-first : (given : ℕ) (left : Option (List ℕ)) (front : List ℕ) (before : Option (List ℕ)) → given ≡ 0
      → IfSome left (λ input. Along job first first 1 given left front front before before input)
  along-first given None front before none = tt
  along-first given (Some input) front before none = record {
    written = [];
    deeds = [];
    rest_is = ap (λ (n : ℕ). Some (drop n input)) (sym none);
    taken_is = append-none before;
    whole = ap (λ (n : ℕ). gone_from job first 1 n (lines_of (drop n input))) (sym none);
    told = sym (append-nil front);
  }

  -- a prefix of the text was written
  pub along-moved : (state : V) (number given : ℕ) (left : Option (List ℕ)) (front text kept : List ℕ) (before after later : Option (List ℕ)) (input : List ℕ)
      → Along job first state number given left front text before after input → IsMovedOut after later text kept
      → Along job first state number given left front kept before later input
  along-moved state number given left front text kept before after later input along (moved, taken, parts) = record {
    written = along.written ++ moved;
    deeds = along.deeds;
    rest_is = along.rest_is;
    taken_is = taken ∙ ap (λ (known : Option (List ℕ)). append_known known moved) along.taken_is ∙ append-twice before along.written moved;
    whole = along.whole;
    told = append_assoc along.written moved kept ∙ ap (λ (more : List ℕ). along.written ++ more) (sym parts) ∙ along.told;
  }

  onto-onto : (deeds more : List P) (rest : LinesResult P V) → onto deeds (onto more rest) ≡ onto (deeds ++ more) rest
  onto-onto deeds more rest = ap (λ (all : List P). record rest { deeds = all }) (sym (append_assoc deeds more rest.deeds))

  line-told : (deed : Option P) → line_text job deed ≡ flat_map job.told (deeds_of deed)
  line-told None = refl
  line-told (Some deed) = sym (append-nil (job.told deed))

  told-more : (written text after front : List ℕ) (deeds : List P) (deed : Option P) → written ++ text ≡ front ++ flat_map job.told deeds
      → after ≡ text ++ line_text job deed
      → written ++ after ≡ front ++ flat_map job.told (deeds ++ deeds_of deed)
  told-more written text after front deeds deed told put =
      ap (λ (more : List ℕ). written ++ more) put
      ∙ sym (append_assoc written text (line_text job deed))
      ∙ ap (λ (whole : List ℕ). whole ++ line_text job deed) told
      ∙ append_assoc front (flat_map job.told deeds) (line_text job deed)
      ∙ ap (λ (more : List ℕ). front ++ (flat_map job.told deeds ++ more)) (line-told deed)
      ∙ ap (λ (more : List ℕ). front ++ more) (sym (flat_map-append job.told deeds (deeds_of deed)))

  accepted-by : (state next : V) (number given further : ℕ) (left following : Option (List ℕ)) (front text after : List ℕ) (before taken : Option (List ℕ))
      (input : List ℕ)
      (along : Along job first state number given left front text before taken input) (rest : List (List ℕ)) (verdict : LineVerdict P V)
      → following ≡ Some (drop further input) → lines_of (drop further input) ≡ rest
      → gone_from job state number given (lines_of (drop given input)) ≡ gone_by state number given verdict (λ v. gone_from job v (number + 1) further rest)
      → Judges job verdict text after next (Ok tt) → Along job first next (number + 1) further following front after before taken input
  accepted-by state next number given further left following front text after before taken input along rest (Refused fault) is lines goes judges = cc judges.1
  accepted-by state next number given further left following front text after before taken input along rest (Accepted deed onward) is lines goes judges = record {
    written = along.written;
    deeds = along.deeds ++ deeds_of deed;
    rest_is = is;
    taken_is = along.taken_is;
    whole =
        along.whole
        ∙ ap (onto along.deeds) goes
        ∙ onto-onto along.deeds (deeds_of deed) (gone_from job onward (number + 1) further rest)
        ∙ ap (λ (v : V). onto (along.deeds ++ deeds_of deed) (gone_from job v (number + 1) further rest)) (sym judges.1)
        ∙ ap (λ (ls : List (List ℕ)). onto (along.deeds ++ deeds_of deed) (gone_from job next (number + 1) further ls)) (sym lines);
    told = told-more along.written text after front along.deeds deed along.told judges.0;
  }

  -- a line was accepted
  pub along-line : (state next : V) (number given further : ℕ) (left following : Option (List ℕ)) (line front text after : List ℕ) (before taken : Option (List ℕ))
      (input : List ℕ)
      → Along job first state number given left front text before taken input → further ≡ given + length line
      → IfSome left (λ bytes. (next_in_bytes given bytes ≡ Line line) × (following ≡ Some (drop (length line) bytes)))
      → Judges job (job.judged state number (text_of line)) text after next (Ok tt)
      → Along job first next (number + 1) further following front after before taken input
  along-line state next number given further left following line front text after before taken input along counts stands judges =
      let bytes = drop given input in
      let here = subst (λ (known : Option (List ℕ)). IfSome known
      (λ all. (next_in_bytes given all ≡ Line line) × (following ≡ Some (drop (length line) all)))) along.rest_is stands in
      let line_is = is-line given bytes line here.0 in
      let moved : drop (length line) bytes ≡ drop further input = drop-drop (length line) given input ∙ ap (λ (n : ℕ). drop n input) (sym counts) in
      let rest : lines_of (drop (length line) bytes) ≡ lines_of (drop further input) = ap lines_of moved in
      let goes : gone_from job state number given (lines_of bytes)
      ≡ gone_by state number given (job.judged state number (text_of line)) (λ v. gone_from job v (number + 1) further (lines_of (drop further input))) =
      gone-cut job state number given bytes line_is.0
      ∙ ap (λ (l : List ℕ). gone_by state number given (by_next job state number (next_in_bytes given bytes))
      (λ (v : V). gone_from job v (number + 1) (given + length l) (lines_of (drop (length l) bytes)))) line_is.1
      ∙ ap (λ n. gone_by state number given (by_next job state number n)
      (λ (v : V). gone_from job v (number + 1) (given + length line) (lines_of (drop (length line) bytes)))) here.0
      ∙ ap (λ (m : ℕ). gone_by state number given (job.judged state number (text_of line))
      (λ (v : V). gone_from job v (number + 1) m (lines_of (drop (length line) bytes)))) (sym counts)
      ∙ ap (λ (ls : List (List ℕ)). gone_by state number given (job.judged state number (text_of line))
      (λ (v : V). gone_from job v (number + 1) further ls)) rest in
      accepted-by state next number given further left following front text after before taken input along (lines_of (drop further input))
      (job.judged state number (text_of line))
      (here.1 ∙ ap Some moved) refl goes judges

  -- the text of what is left follows that of what was done
  text-onto : (apart : Bool) (front : List ℕ) (deeds : List P) (rest : LinesResult P V)
      → front ++ text_in apart job (onto deeds rest) ≡ (front ++ flat_map job.told deeds) ++ text_in apart job rest
  text-onto apart front deeds rest =
      let last = last_in apart job rest.last rest.number rest.refusal in
      ap (λ (told : List ℕ). front ++ (told ++ last)) (flat_map-append job.told deeds rest.deeds)
      ∙ ap (λ (more : List ℕ). front ++ more) (append_assoc (flat_map job.told deeds) (flat_map job.told rest.deeds) last)
      ∙ sym (append_assoc front (flat_map job.told deeds) (text_in apart job rest))

  whole-text : (apart : Bool) (rest : LinesResult P V) (state : V) (number given : ℕ) (left : Option (List ℕ)) (front text : List ℕ) (before after : Option (List ℕ)) (input : List ℕ)
      (along : Along job first state number given left front text before after input)
      → gone_from job state number given (lines_of (drop given input)) ≡ rest
      → front ++ text_in apart job (gone_through job first input) ≡ along.written ++ (text ++ text_in apart job rest)
  whole-text apart rest state number given left front text before after input along is =
      ap (λ (gone : LinesResult P V). front ++ text_in apart job gone) (along.whole ∙ ap (onto along.deeds) is)
      ∙ text-onto apart front along.deeds rest
      ∙ ap (λ (told : List ℕ). told ++ text_in apart job rest) (sym along.told)
      ∙ append_assoc along.written text (text_in apart job rest)

  module _ (apart : Bool) (Keeps : V → ℕ → Type 0) (state : V) (number given : ℕ) (left known : Option (List ℕ)) (front text : List ℕ) (before after later : Option (List ℕ))
      (input : List ℕ)
      (result : LinesEnd) (along : Along job first state number given left front text before after input) where
    -- the job ended early
    pub through-early : IsCutOff result.end → HasBegun after later text → GoesIn apart job Keeps first front input result known before later
    through-early off begun =
        let rest = gone_from job state number given (lines_of (drop given input)) in
        record {
          answers = answers-early (front ++ text_in apart job (gone_through job first input))
              (is_some (gone_through job first input).refusal) result.end known before later off
              (subst (HasBegun before later) (sym (whole-text apart rest state number given left front text before after input along refl))
              (begun-after before after later along.written (text ++ text_in apart job rest) along.taken_is
              (begun-longer after later text (text_in apart job rest) begun)));
          past = λ is. absurd (not-both result.end (inr is) off);
          kept = λ answered. absurd (not-both result.end answered off);
          refused = λ answered. absurd (not-both result.end answered off);
        }

    -- after the last turn the rest of the text was left, and the last lines
    through-last : (refusal : Option LineFault) → gone_from job state number given (lines_of (drop given input)) ≡ gone_so_far state number given refusal
        → Keeps state number → result.refusal ≡ refusal_at number refusal
        → Leaves (text ++ last_in apart job state number refusal) (is_some refusal) result.end after later
        → (result.end ≡ ended.Done → known ≡ Some []) → (result.end ≡ ended.Input → GivesAtMost 16384 (Some (drop given input)) known)
        → GoesIn apart job Keeps first front input result known before later
    through-last refusal is kept told leaves none far =
        let rest = gone_so_far state number given refusal in
        let whole : gone_through job first input ≡ onto along.deeds rest = along.whole ∙ ap (onto along.deeds) is in
        let parts = whole-text apart rest state number given left front text before after input along is in
        let refused : is_some (gone_through job first input).refusal ≡ is_some refusal = ap (λ (gone : LinesResult P V). is_some gone.refusal) whole in
        record {
          answers = record {
            whole = λ answered.
                leaves.whole answered ∙ ap (λ (known : Option (List ℕ)). append_known known (text ++ text_in apart job rest)) along.taken_is
                ∙ append-twice before along.written (text ++ text_in apart job rest) ∙ ap (append_known before) (sym parts);
            front = λ off. subst (HasBegun before later) (sym parts)
                (begun-after before after later along.written (text ++ text_in apart job rest) along.taken_is (leaves.front off));
            done = λ done. (refused ∙ leaves.done done, none done);
            input = λ is_input. refused ∙ leaves.input is_input;
          };
          past = λ is_input. subst (λ (n : ℕ). GivesAtMost 16384 (Some (drop n input)) known) (sym (ap (λ (gone : LinesResult P V). gone.accepted) whole))
              (far is_input);
          kept = λ _. (number, subst (λ (last : V). Keeps last number) (sym (ap (λ (gone : LinesResult P V). gone.last) whole)) kept);
          refused = λ _. told ∙ sym (ap refusal_told whole);
        }

    -- the input is at its end
    pub through-end : (pending : List ℕ) → Keeps state number → IfSome left (λ bytes. (bytes ≡ []) × (prepend_known pending known ≡ Some []))
        → result.refusal ≡ None → Leaves (text ++ job.ending state) false result.end after later → GoesIn apart job Keeps first front input result known before later
    through-end pending kept ends told leaves =
        let here = subst (λ (all : Option (List ℕ)). IfSome all (λ bytes. (bytes ≡ []) × (prepend_known pending known ≡ Some []))) along.rest_is ends in
        through-last None (ap (λ (bytes : List ℕ). gone_from job state number given (lines_of bytes)) here.0) kept told leaves
        (λ _. none-left pending known here.1) (λ is. cc (leaves.input is))

    refused-by : (bytes : List ℕ) (fault : LineFault) → by_next job state number (next_in_bytes given bytes) ≡ Refused fault
        → gone_from job state number given (lines_of bytes) ≡ gone_so_far state number given (Some fault)
    refused-by [] fault is = cc is
    refused-by (byte ∷ bytes) fault is =
        gone-cut job state number given (byte ∷ bytes) (omega arith)
        ∙ ap (λ (v : LineVerdict P V). gone_by state number given v (λ (next : V).
        gone_from job next (number + 1) (given + length (first_line (byte ∷ bytes))) (lines_of (drop (length (first_line (byte ∷ bytes))) (byte ∷ bytes))))) is

    -- what comes next is refused
    pub through-refused : (fault : LineFault) → Keeps state number → IfSome left (λ bytes. GivesAtMost 12289 (Some bytes) known)
        → IfSome left (λ bytes. by_next job state number (next_in_bytes given bytes) ≡ Refused fault)
        → result.refusal ≡ refusal_at number (Some fault)
        → Leaves (text ++ refusal_in apart number fault) true result.end after later → GoesIn apart job Keeps first front input result known before later
    through-refused fault kept past refused told leaves =
        let bytes = drop given input in
        let far = subst (λ (all : Option (List ℕ)). IfSome all (λ bs. GivesAtMost 12289 (Some bs) known)) along.rest_is past in
        let here = subst (λ (all : Option (List ℕ)). IfSome all
        (λ bs. by_next job state number (next_in_bytes given bs) ≡ Refused fault)) along.rest_is refused in
        through-last (Some fault) (refused-by bytes fault here) kept told leaves (λ is. cc (leaves.done is)) (λ _. (far.0, omega (arith, far.1), far.2))
