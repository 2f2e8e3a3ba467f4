-- On the way through an input: what was written, what is in the text and what is left make the whole.
use Rattle.std.proofs.Common.{arith, ◌≡◌, refl, sym, ap, ◌∙◌, subst, inr, ℕ, ◌+◌, ◌≤◌, true, false, nat_lt, Bool, List, [], ◌∷◌, ◌++◌, length, length-append, take, drop, Option, Some, None, Ok, append_assoc}
use Rattle.std.proofs.lemmas.Bool.{le-ltb}
use Rattle.std.proofs.lemmas.Grind.{flat_map-append}
use Rattle.std.proofs.lemmas.List.{append-nil, drop-drop, take-append-le, drop-append-le}
use Rattle.std.specs.Io.KnownBytes.{append_known, prepend_known}
use Rattle.std.specs.Prelude.{flat_map, is_some}
use Rattle.dccp_io.specs.Fronts.{GivesAtMost}
use Rattle.tool_text.specs.Ends.{HasBegun, IsCutOff, IsMovedOut}
use Rattle.tool_text.specs.declared.output.status.JobEnd.TheVariants as ended
use Rattle.tool_text.proofs.Ending.{answers-early, append-none, append-twice, begun-after, begun-longer, not-both}
use Rattle.capture_reader.proofs.Opening.{passed-ahead}
use Rattle.tool_text.specs.Jobs.{deeds_of}
use Rattle.bridge_records.specs.Pieces.{Goes, GoesThroughPieces, Judgement, JudgesPiece, Piece, PieceWork, Stops, PiecesResult, by_next_piece, unended, in_front, most_piece_bytes, next_piece, piece_text, pieces_from, pieces_of, taken_by, taken_so_far, text_of_pieces, end_piece}
use Rattle.bridge_records.specs.Turns.{LeavesText}
use Rattle.bridge_records.specs.declared.pieces.fault.PieceFault.{PieceFault}
use Rattle.bridge_records.specs.declared.pieces.fault.PieceFault.TheVariants.{CutShort}
use Rattle.bridge_records.specs.declared.pieces.loops.PiecesEnd.{PiecesEnd}
use Rattle.bridge_records.proofs.FirstPiece.{pieces-cut}

-- After this many bytes of accepted pieces, where `left` is what is left of the input and `text` was not written yet.
pub record Along {P V : Type 0} (job : PieceWork P V) (first state : V) (given : ℕ) (left : Option (List ℕ)) (text : List ℕ)
    (before after : Option (List ℕ)) (input : List ℕ) : Type 0 where
  pub written : List ℕ
  pub deeds : List P
  pub rest_is : left ≡ Some (drop given input)
  pub taken_is : after ≡ append_known before written
  pub whole : pieces_of job first input ≡ in_front deeds (pieces_from job 0 state given (drop given input))
  pub told : written ++ text ≡ flat_map job.told deeds

module _ {P V : Type 0} (job : PieceWork P V) (first : V) where
  -- before the first piece
  pub along-first : (left before : Option (List ℕ)) (input : List ℕ) → left ≡ Some input → Along job first first 0 left [] before before input
  along-first left before input is = record {
    written = [];
    deeds = [];
    rest_is = is;
    taken_is = append-none before;
    whole = refl;
    told = refl;
  }

  -- a prefix of the text was written
  pub along-moved : (state : V) (given : ℕ) (left : Option (List ℕ)) (text kept : List ℕ) (before after later : Option (List ℕ)) (input : List ℕ)
      → Along job first state given left text before after input → IsMovedOut after later text kept → Along job first state given left kept before later input
  along-moved state given left text kept before after later input along (moved, taken, parts) = record {
    written = along.written ++ moved;
    deeds = along.deeds;
    rest_is = along.rest_is;
    taken_is = taken ∙ ap (λ (known : Option (List ℕ)). append_known known moved) along.taken_is ∙ append-twice before along.written moved;
    whole = along.whole;
    told = append_assoc along.written moved kept ∙ ap (λ (more : List ℕ). along.written ++ more) (sym parts) ∙ along.told;
  }

  front-twice : (deeds more : List P) (rest : PiecesResult P V) → in_front deeds (in_front more rest) ≡ in_front (deeds ++ more) rest
  front-twice deeds more rest = ap (λ (all : List P). record rest { deeds = all }) (sym (append_assoc deeds more rest.deeds))

  piece-told : (deed : Option P) → piece_text job deed ≡ flat_map job.told (deeds_of deed)
  piece-told None = refl
  piece-told (Some deed) = sym (append-nil (job.told deed))

  told-more : (written text after : List ℕ) (deeds : List P) (deed : Option P) → written ++ text ≡ flat_map job.told deeds → after ≡ text ++ piece_text job deed
      → written ++ after ≡ flat_map job.told (deeds ++ deeds_of deed)
  told-more written text after deeds deed told put =
      ap (λ (more : List ℕ). written ++ more) put
      ∙ sym (append_assoc written text (piece_text job deed))
      ∙ ap (λ (whole : List ℕ). whole ++ piece_text job deed) told
      ∙ ap (λ (more : List ℕ). flat_map job.told deeds ++ more) (piece-told deed)
      ∙ sym (flat_map-append job.told deeds (deeds_of deed))

  accepted-piece : (state next : V) (given further : ℕ) (left following : Option (List ℕ)) (text after : List ℕ) (before taken : Option (List ℕ)) (input : List ℕ)
      (along : Along job first state given left text before taken input) (judgement : Judgement P V)
      → following ≡ Some (drop further input)
      → pieces_from job 0 state given (drop given input) ≡ taken_by state given judgement (λ onward. pieces_from job 0 onward further (drop further input))
      → JudgesPiece job state judgement text after next (Ok tt)
      → Along job first next further following after before taken input
  accepted-piece state next given further left following text after before taken input along (Stops why) is goes judges = cc judges.2
  accepted-piece state next given further left following text after before taken input along (Goes deed onward) is goes judges = record {
    written = along.written;
    deeds = along.deeds ++ deeds_of deed;
    rest_is = is;
    taken_is = along.taken_is;
    whole =
        along.whole
        ∙ ap (in_front along.deeds) goes
        ∙ front-twice along.deeds (deeds_of deed) (pieces_from job 0 onward further (drop further input))
        ∙ ap (λ (v : V). in_front (along.deeds ++ deeds_of deed) (pieces_from job 0 v further (drop further input))) (sym judges.1);
    told = told-more along.written text after along.deeds deed along.told judges.0;
  }

  pub piece-there : (used given : ℕ) (bytes : List ℕ) (state : V) → used ≡ job.wanted state → used ≤ length bytes → given + used ≤ most_piece_bytes → 1 ≤ used
      → next_piece job state given bytes ≡ Piece (take used bytes)
  piece-there used given [] state is there counts some = absurd (omega (arith, there, some))
  piece-there used given (byte ∷ bytes) state is there counts some =
      let room : nat_lt most_piece_bytes (given + used) ≡ false = le-ltb most_piece_bytes (given + used) counts in
      let long : nat_lt (length (byte ∷ bytes)) used ≡ false = le-ltb (length (byte ∷ bytes)) used there in
      rw (sym is, room, long) refl

  -- a piece was accepted
  pub along-piece : (state next : V) (given used : ℕ) (pending text after : List ℕ) (known before taken : Option (List ℕ)) (input : List ℕ)
      → Along job first state given (prepend_known pending known) text before taken input
      → used ≡ job.wanted state → 1 ≤ used → used ≤ length pending → given + used ≤ most_piece_bytes
      → JudgesPiece job state (job.judged state (take used pending)) text after next (Ok tt)
      → Along job first next (given + used) (prepend_known (drop used pending) known) after before taken input
  along-piece state next given used pending text after None before taken input along is some there counts judges = cc along.rest_is
  along-piece state next given used pending text after (Some more) before taken input along is some there counts judges =
      let bytes = drop given input in
      let all : pending ++ more ≡ bytes = cc along.rest_is in
      let front : take used bytes ≡ take used pending = ap (take used) (sym all) ∙ take-append-le used pending more there in
      let following : drop used bytes ≡ drop used pending ++ more = ap (drop used) (sym all) ∙ drop-append-le used pending more there in
      let moved : drop used bytes ≡ drop (given + used) input = drop-drop used given input in
      let enough : used ≤ length bytes = subst (λ (xs : List ℕ). used ≤ length xs) all (let size = length-append pending more in omega (arith, size, there)) in
      let stands = piece-there used given bytes state is enough counts some in
      let goes : pieces_from job 0 state given bytes ≡ taken_by state given (job.judged state (take used pending))
      (λ onward. pieces_from job 0 onward (given + used) (drop (given + used) input)) =
      pieces-cut job state given bytes (omega (arith, enough, some)) (subst (λ (n : ℕ). 1 ≤ n) is some)
      ∙ ap (λ n. taken_by state given (by_next_piece job state n)
      (λ (onward : V). pieces_from job 0 onward (given + job.wanted state) (drop (job.wanted state) bytes))) stands
      ∙ ap (λ (piece : List ℕ). taken_by state given (job.judged state piece)
      (λ (onward : V). pieces_from job 0 onward (given + job.wanted state) (drop (job.wanted state) bytes))) front
      ∙ ap (λ (n : ℕ). taken_by state given (job.judged state (take used pending)) (λ (onward : V). pieces_from job 0 onward (given + n) (drop n bytes)))
      (sym is)
      ∙ ap (λ (rest : List ℕ). taken_by state given (job.judged state (take used pending))
      (λ (onward : V). pieces_from job 0 onward (given + used) rest)) moved in
      accepted-piece state next given (given + used) (Some (pending ++ more)) (Some (drop used pending ++ more)) text after before taken input along
      (job.judged state (take used pending))
      (ap Some (sym following ∙ moved)) goes judges

  -- the text of what is left follows that of what was done
  text-after : (deeds : List P) (rest : PiecesResult P V) → text_of_pieces job (in_front deeds rest) ≡ flat_map job.told deeds ++ text_of_pieces job rest
  text-after deeds rest =
      let last = job.closing rest.last rest.refusal in
      ap (λ (told : List ℕ). told ++ last) (flat_map-append job.told deeds rest.deeds)
      ∙ append_assoc (flat_map job.told deeds) (flat_map job.told rest.deeds) last

  whole-text : (rest : PiecesResult P V) (state : V) (given : ℕ) (left : Option (List ℕ)) (text : List ℕ) (before after : Option (List ℕ)) (input : List ℕ)
      (along : Along job first state given left text before after input) → pieces_from job 0 state given (drop given input) ≡ rest
      → text_of_pieces job (pieces_of job first input) ≡ along.written ++ (text ++ text_of_pieces job rest)
  whole-text rest state given left text before after input along is =
      ap (text_of_pieces job) (along.whole ∙ ap (in_front along.deeds) is)
      ∙ text-after along.deeds rest
      ∙ ap (λ (told : List ℕ). told ++ text_of_pieces job rest) (sym along.told)
      ∙ append_assoc along.written text (text_of_pieces job rest)

  -- an input that may not end where it ends
  end-refused : (state : V) (given : ℕ) (may : Bool) (why : PieceFault) → by_next_piece job state (end_piece may) ≡ Stops why
      → taken_so_far {P = P} state given (unended may) ≡ taken_so_far state given (Some why)
  end-refused state given true why is = cc is
  end-refused state given false why is = let same : CutShort ≡ why = cc is in ap (λ (w : PieceFault). taken_so_far state given (Some w)) same

  module _ (state : V) (given : ℕ) (left known : Option (List ℕ)) (text : List ℕ) (before after later : Option (List ℕ)) (input : List ℕ) (result : PiecesEnd) (last : V)
      (along : Along job first state given left text before after input) where
    -- the job ended early
    pub through-early : IsCutOff result.end → HasBegun after later text → GoesThroughPieces job first input result last known before later
    through-early off begun =
        let rest = pieces_from job 0 state given (drop given input) in
        record {
          answers = answers-early (text_of_pieces job (pieces_of job first input)) (is_some (pieces_of job first input).refusal) result.end known before later off
              (subst (HasBegun before later) (sym (whole-text rest state given left text before after input along refl))
              (begun-after before after later along.written (text ++ text_of_pieces job rest) along.taken_is
              (begun-longer after later text (text_of_pieces job rest) begun)));
          past = λ is. absurd (not-both result.end (inr is) off);
          refused = λ answered. absurd (not-both result.end answered off);
          last_is = λ answered. absurd (not-both result.end answered off);
        }

    -- after the last turn the rest of the text was left, and what follows the last piece
    pub through-last : (refusal : Option PieceFault) (pending : List ℕ) → pieces_from job 0 state given (drop given input) ≡ taken_so_far state given refusal
        → result.fault ≡ refusal → last ≡ state
        → LeavesText (text ++ job.closing state refusal) (is_some refusal) result.end after later → (result.end ≡ ended.Done → known ≡ Some [])
        → prepend_known pending known ≡ left → length pending ≤ 524288 → GoesThroughPieces job first input result last known before later
    through-last refusal pending is told stays leaves none held fits =
        let rest = taken_so_far state given refusal in
        let whole : pieces_of job first input ≡ in_front along.deeds rest = along.whole ∙ ap (in_front along.deeds) is in
        let parts = whole-text rest state given left text before after input along is in
        let refused : is_some (pieces_of job first input).refusal ≡ is_some refusal = ap (λ (taken : PiecesResult P V). is_some taken.refusal) whole in
        let far = passed-ahead 524288 pending known (Some (drop given input)) fits (held ∙ along.rest_is) in
        record {
          answers = record {
            whole = λ answered.
                leaves.whole answered ∙ ap (λ (took : Option (List ℕ)). append_known took (text ++ text_of_pieces job rest)) along.taken_is
                ∙ append-twice before along.written (text ++ text_of_pieces job rest) ∙ ap (append_known before) (sym parts);
            front = λ off. subst (HasBegun before later) (sym parts)
                (begun-after before after later along.written (text ++ text_of_pieces job rest) along.taken_is (leaves.front off));
            done = λ done. (refused ∙ leaves.done done, none done);
            input = λ is_input. refused ∙ leaves.input is_input;
          };
          past = λ is_input. subst (λ (n : ℕ). GivesAtMost 524288 (Some (drop n input)) known) (sym (ap (λ (taken : PiecesResult P V). taken.accepted) whole)) far;
          refused = λ _. told ∙ sym (ap (λ (taken : PiecesResult P V). taken.refusal) whole);
          last_is = λ _. stays ∙ sym (ap (λ (taken : PiecesResult P V). taken.last) whole);
        }

    pub refused-here : (bytes : List ℕ) (why : PieceFault) → 1 ≤ job.wanted state → by_next_piece job state (next_piece job state given bytes) ≡ Stops why
        → pieces_from job 0 state given bytes ≡ taken_so_far state given (Some why)
    refused-here [] why some is = end-refused state given (job.may_end state) why is
    refused-here (byte ∷ bytes) why some is =
        pieces-cut job state given (byte ∷ bytes) (omega arith) some
        ∙ ap (λ (j : Judgement P V). taken_by state given j
        (λ (next : V). pieces_from job 0 next (given + job.wanted state) (drop (job.wanted state) (byte ∷ bytes)))) is
