-- The turns of the loop over pieces, and its ends.
use Rattle.std.proofs.Common.{arith, ◌≡◌, refl, sym, ap, ◌∙◌, subst, inl, inr, ℕ, ◌+◌, ◌≤◌, false, true, List, [], ◌++◌, length, drop, Option, Some, None, Result, Ok, IfSome, OnOk, OnErr}
use Rattle.std.proofs.lemmas.Option.{IfSome_then}
use Rattle.std.specs.Prelude.{is_err, is_some}
use Rattle.dccp_io.specs.Ahead.{BytesAhead, ahead_of}
use Rattle.dccp_io.specs.Fronts.{TakesFront}
use Rattle.tool_text.specs.Ends.{HasBegun, IsMovedOut}
use Rattle.tool_text.specs.declared.output.status.JobEnd.{JobEnd}
use Rattle.tool_text.specs.declared.output.status.JobEnd.TheVariants as ended
use Rattle.tool_text.proofs.Ending.{none-left, on-err, on-ok, unwritten}
use Rattle.bridge_records.specs.Pieces.{GoesThroughPieces, PieceWork, Stops, by_next_piece, unended, most_piece_bytes, next_piece, pieces_from, taken_so_far}
use Rattle.bridge_records.specs.Turns.{KeepsBlock, LeavesText, PieceState, TurnsPiece}
use Rattle.bridge_records.specs.declared.pieces.fault.PieceFault.{PieceFault}
use Rattle.bridge_records.specs.declared.pieces.loops.PiecesEnd.{PiecesEnd}
use Rattle.bridge_records.specs.declared.pieces.turns.PieceTurn.{PieceTurn}
use Rattle.bridge_records.specs.declared.pieces.turns.PieceTurn.TheVariants as turn
use Rattle.bridge_records.proofs.Along.{Along, along-first, along-moved, along-piece, refused-here, through-early, through-last}

-- where the input is in a turn
abbrev pub standing : {S V : Type 0} → S → BytesAhead → V → List ℕ → PieceState S V
standing source ahead state text = record { source = source; ahead = ahead; state = state; text = text }

-- the input was not refused
abbrev pub unrefused_pieces : JobEnd → PiecesEnd
unrefused_pieces end = record { end = end; fault = None }

-- Before each turn: the block has its size, what was accepted fits an input, the counts of faults never fall, and the text is along that
-- of the whole input.
pub record InPieces {S K P V : Type 0} (left : S → Option (List ℕ)) (faults : S → ℕ) (taken : K → Option (List ℕ)) (failed empty : K → ℕ) (job : PieceWork P V)
    (start : V) (first : S) (opened : K) (state : V) (source : S) (ahead : BytesAhead) (output : K) (text : List ℕ) (given : ℕ) : Type 0 where
  pub size : ahead.size ≡ 524288
  pub fits : length ahead.pending ≤ 524288
  pub within : given ≤ most_piece_bytes
  pub faults_rise : faults first ≤ faults source
  pub sink_faults : failed opened ≤ failed output
  pub empty_takes : empty opened ≤ empty output
  pub along : IfSome (left first) (λ input. Along job start state given (ahead_of ahead (left source)) text (taken opened) (taken output) input)

module _ {S K P V : Type 0} (left : S → Option (List ℕ)) (faults : S → ℕ) (taken : K → Option (List ℕ)) (failed empty : K → ℕ) (job : PieceWork P V)
    (start : V) (first : S) (opened : K) where
  first-along : (known : Option (List ℕ))
      → IfSome known (λ input. Along job start start 0 (ahead_of (record { pending = []; size = 524288 }) known) [] (taken opened) (taken opened) input)
  first-along None = tt
  first-along (Some input) = along-first job start (Some input) (taken opened) input refl

  pub begins : (ahead : BytesAhead) → ahead ≡ record { pending = []; size = 524288 }
      → InPieces left faults taken failed empty job start first opened start first ahead opened [] 0
  begins ahead is = record {
    size = ap (λ (a : BytesAhead). a.size) is;
    fits = let none = ap (λ (a : BytesAhead). length a.pending) is in omega (arith, none);
    within = omega arith;
    faults_rise = omega arith;
    sink_faults = omega arith;
    empty_takes = omega arith;
    along = subst (λ (a : BytesAhead). IfSome (left first) (λ input. Along job start start 0 (ahead_of a (left first)) [] (taken opened) (taken opened) input))
        (sym is) (first-along (left first));
  }

  -- the result of the loop
  abbrev pub Through : S → Option (List ℕ) → PiecesEnd → V → Type 0
  Through source later result last = IfSome (left first) (λ input. GoesThroughPieces job start input result last (left source) (taken opened) later)

  module _ (state : V) (source : S) (ahead : BytesAhead) (output : K) (text : List ℕ) (given : ℕ)
      (before : InPieces left faults taken failed empty job start first opened state source ahead output text given) where
    -- a prefix of the text was written
    pub moved-on : {A E : Type 0} (later : K) (kept : List ℕ) (flushed : Result A E) → OnOk flushed (IsMovedOut (taken output) (taken later) text kept)
        → is_err flushed ≡ false
        → failed output ≤ failed later → empty output ≤ empty later
        → InPieces left faults taken failed empty job start first opened state source ahead later kept given
    moved-on later kept flushed moved fine failed_rise empty_rise = record {
      size = before.size;
      fits = before.fits;
      within = before.within;
      faults_rise = before.faults_rise;
      sink_faults = omega (arith, before.sink_faults, failed_rise);
      empty_takes = omega (arith, before.empty_takes, empty_rise);
      along = IfSome_then (left first) before.along (λ (input : List ℕ) along.
          along-moved job start state given (ahead_of ahead (left source)) text kept (taken opened) (taken output) (taken later) input along
          (on-ok flushed (IsMovedOut (taken output) (taken later) text kept) moved fine));
    }

    -- the sink failed
    pub unmoved : {A E : Type 0} (later : K) (flushed : Result A E) → OnErr flushed (TakesFront (taken output) (taken later) text) → is_err flushed ≡ true
        → (last : V) → Through source (taken later) (unrefused_pieces ended.Write) last
    unmoved later flushed taken_front failing last =
        let begun = on-err flushed (TakesFront (taken output) (taken later) text) taken_front failing in
        IfSome_then (left first) before.along (λ (input : List ℕ) along.
        through-early job start state given (ahead_of ahead (left source)) (left source) text (taken opened) (taken output)
        (taken later) input (unrefused_pieces ended.Write) last along
        (inr (inl refl)) (begun.0, begun.2))

    -- no memory was left
    pub out-of-memory : (handed : S) (last : V) → Through handed (taken output) (unrefused_pieces ended.Memory) last
    out-of-memory handed last =
        IfSome_then (left first) before.along (λ (input : List ℕ) along.
        through-early job start state given (ahead_of ahead (left source)) (left handed) text (taken opened) (taken output)
        (taken output) input (unrefused_pieces ended.Memory) last along
        (inr (inr refl)) (unwritten text (taken output) (taken output) refl))

    module _ (new : PieceState S V) (t : PieceTurn) (keeps : KeepsBlock faults (standing source ahead state text) new)
        (turns : TurnsPiece left faults job given (standing source ahead state text) new (Ok t)) where
      -- more of the input was read
      pub read-on : t ≡ turn.Read → InPieces left faults taken failed empty job start first opened new.state new.source new.ahead output new.text given
      read-on is =
          let read = subst (λ (s : PieceTurn). TurnsPiece left faults job given (standing source ahead state text) new (Ok s)) is turns in
          record {
            size = keeps.same_size ∙ before.size;
            fits = subst (λ (n : ℕ). length new.ahead.pending ≤ n) (keeps.same_size ∙ before.size) keeps.fits;
            within = before.within;
            faults_rise = omega (arith, before.faults_rise, keeps.never_falls);
            sink_faults = before.sink_faults;
            empty_takes = before.empty_takes;
            along = IfSome_then (left first) before.along (λ (input : List ℕ) along.
                subst (λ (v : V). Along job start v given (ahead_of new.ahead (left new.source)) new.text (taken opened) (taken output) input)
                (sym read.0.state)
                (subst (λ (w : List ℕ). Along job start state given (ahead_of new.ahead (left new.source)) w (taken opened) (taken output) input)
                (sym read.0.text)
                (subst (λ (o : Option (List ℕ)). Along job start state given o text (taken opened) (taken output) input) (sym read.0.ahead) along)));
          }

      -- a piece was accepted
      pub taken-on : (used : ℕ) → t ≡ turn.Taken used
          → InPieces left faults taken failed empty job start first opened new.state new.source new.ahead output new.text (given + used)
      taken-on used is =
          let piece = subst (λ (s : PieceTurn). TurnsPiece left faults job given (standing source ahead state text) new (Ok s)) is turns in
          record {
            size = keeps.same_size ∙ before.size;
            fits = subst (λ (n : ℕ). length new.ahead.pending ≤ n) (keeps.same_size ∙ before.size) keeps.fits;
            within = piece.counts;
            faults_rise = omega (arith, before.faults_rise, keeps.never_falls);
            sink_faults = before.sink_faults;
            empty_takes = before.empty_takes;
            along = IfSome_then (left first) before.along (λ (input : List ℕ) along.
                subst (λ (s : S). Along job start new.state (given + used) (ahead_of new.ahead (left s)) new.text (taken opened) (taken output) input)
                (sym piece.source)
                (subst (λ (a : BytesAhead). Along job start new.state (given + used) (ahead_of a (left source)) new.text (taken opened) (taken output) input)
                (sym piece.ahead)
                (along-piece job start state new.state given used ahead.pending text new.text (left source) (taken opened) (taken output) input along
                piece.used piece.some piece.there piece.counts piece.judges)));
          }

      -- the input is at its end, or refused
      over-by : (end : Option PieceFault) (later : Option (List ℕ)) (result : JobEnd) (input : List ℕ)
          → TurnsPiece left faults job given (standing source ahead state text) new (Ok (turn.Over end))
          → LeavesText (new.text ++ job.closing new.state end) (is_some end) result (taken output) later
          → Along job start state given (ahead_of ahead (left source)) text (taken opened) (taken output) input
          → GoesThroughPieces job start input (record { end = result; fault = end }) new.state (left new.source) (taken opened) later
      over-by None later result input (same, may, ends) leaves along =
          let here = subst (λ (all : Option (List ℕ)). IfSome all (λ bytes. bytes ≡ [])) along.rest_is ends in
          let closes = subst (λ (v : V). LeavesText (text ++ job.closing v None) false result (taken output) later) same.state
          (subst (λ (w : List ℕ). LeavesText (w ++ job.closing new.state None) false result (taken output) later) same.text leaves) in
          through-last job start state given (ahead_of ahead (left source)) (left new.source) text (taken opened)
          (taken output) later input (unrefused_pieces result) new.state along None new.ahead.pending
          (ap (pieces_from job 0 state given) here ∙ ap (λ m. taken_so_far state given (unended m)) may) refl same.state closes
          (λ _. none-left new.ahead.pending (left new.source) (same.ahead ∙ along.rest_is ∙ ap (λ (bytes : List ℕ). Some bytes) here)) same.ahead
          (subst (λ (n : ℕ). length new.ahead.pending ≤ n) (keeps.same_size ∙ before.size) keeps.fits)
      over-by (Some why) later result input (same, some, stands) leaves along =
          let here = subst (λ (all : Option (List ℕ)). IfSome all
          (λ bytes. by_next_piece job state (next_piece job state given bytes) ≡ Stops why)) along.rest_is stands in
          let closes = subst (λ (v : V). LeavesText (text ++ job.closing v (Some why)) true result (taken output) later) same.state
          (subst (λ (w : List ℕ). LeavesText (w ++ job.closing new.state (Some why)) true result (taken output) later) same.text leaves) in
          through-last job start state given (ahead_of ahead (left source)) (left new.source) text (taken opened) (taken output) later input
          (record { end = result; fault = Some why }) new.state along
          (Some why) new.ahead.pending
          (refused-here job start state given (ahead_of ahead (left source)) (left new.source) text (taken opened) (taken output) later input
          (record { end = result; fault = Some why }) new.state along
          (drop given input) why some here) refl same.state closes
          (λ is. cc (closes.done is)) same.ahead
          (subst (λ (n : ℕ). length new.ahead.pending ≤ n) (keeps.same_size ∙ before.size) keeps.fits)

      pub over : (end : Option PieceFault) (later : Option (List ℕ)) (result : JobEnd) → t ≡ turn.Over end
          → LeavesText (new.text ++ job.closing new.state end) (is_some end) result (taken output) later → Through new.source later (record { end = result; fault = end }) new.state
      over end later result is leaves =
          IfSome_then (left first) before.along (λ (input : List ℕ) along.
          over-by end later result input
          (subst (λ (s : PieceTurn). TurnsPiece left faults job given (standing source ahead state text) new (Ok s)) is turns) leaves along)

      -- the source failed
      pub turned-off : (later : Option (List ℕ)) (out : List ℕ) (result : JobEnd) → t ≡ turn.Failed → out ≡ new.text → result ≡ ended.Read
          → HasBegun (taken output) later out
          → (last : V) → Through new.source later (unrefused_pieces result) last
      turned-off later out result is same read begun last =
          let failed_now = subst (λ (s : PieceTurn). TurnsPiece left faults job given (standing source ahead state text) new (Ok s)) is turns in
          IfSome_then (left first) before.along (λ (input : List ℕ) along.
          through-early job start state given (ahead_of ahead (left source)) (left new.source) text (taken opened) (taken output) later input (unrefused_pieces result) last along
          (inl read) (subst (HasBegun (taken output) later) (same ∙ failed_now.0) begun))
