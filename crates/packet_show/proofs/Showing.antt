-- A capture while it is shown: what was written, what is in the text and what is left make the whole.
use Rattle.std.proofs.Common.{◌≡◌, ◌≢◌, ◌⊎◌, refl, sym, ap, ◌∙◌, subst, inl, inr, ℕ, ◌+◌, ◌<◌, List, [], ◌∷◌, ◌++◌, length, drop, Option, Some, None, Result, Ok, Err, IfSome, OnOk, append_assoc, arith}
use Rattle.std.proofs.lemmas.List.{drop-drop}
use Rattle.std.proofs.lemmas.Option.{IfSome_then}
use Rattle.std.specs.Prelude.{false, is_err, is_some}
use Rattle.std.specs.Io.KnownBytes.{append_known, prepend_known}
use Rattle.capture_reader.specs.declared.fault.CaptureFault.{CaptureFault}
use Rattle.capture_reader.specs.declared.format.Format.{Format}
use Rattle.capture_reader.specs.Format.{opened}
use Rattle.capture_reader.specs.Records.{RecordParts, CaptureContents, next_of, records_from, captured, captured_by}
use Rattle.capture_reader.specs.Records.{before as before_others}
use Rattle.capture_reader.specs.State.{CapturesState, rest, Passed, Advances, Blames}
use Rattle.capture_reader.specs.State as header
use Rattle.capture_reader.specs.declared.fault.CaptureFault.TheVariants.{BadMagic, BadVersion, BadLink, CutShort, RecordTooLong, ReadFault, NoMemory, TooLarge}
use Rattle.capture_reader.proofs.Capture.{records-next, records-wrong}
use Rattle.packet_show.specs.declared.flows.Shown.{Shown}
use Rattle.packet_show.specs.declared.flows.Shown.TheVariants.{Line, Skipped}
use Rattle.packet_show.specs.Flows.{Flow}
use Rattle.packet_show.specs.Lines.{shows}
use Rattle.packet_show.specs.declared.show.Tally.{Tally}
use Rattle.packet_show.specs.declared.show.Turn.TheVariants as turn
use Rattle.tool_text.specs.declared.output.status.JobEnd.{JobEnd}
use Rattle.tool_text.specs.declared.output.status.JobEnd.TheVariants as ended
use Rattle.packet_show.specs.CaptureText.{first_tally, counted_record, tallied, record_text, last_line, fault_line, text_from, size_of, end_of_records, capture_text, is_faulty, records_end}
use Rattle.packet_show.specs.Show.{Turns, Closes, ShowsHeaderFault, ShowsRecords, shown_text}
use Rattle.tool_text.specs.Ends.{HasBegun, IsCutOff, Answers, EndsForCause, IsMovedOut}
use Rattle.tool_text.proofs.Ending.{append-twice, begun-longer, begun-after, none-left, not-both, answers-early, on-ok, unwritten}

-- the text of what is left
abbrev pub rest_text : Tally → CaptureContents → List ℕ
rest_text tally others = text_from tally others.records others.end

-- Before a turn, where `left` is what is left of the input and `text` was not written yet.
pub record Along (format : Format) (number given : ℕ) (left : Option (List ℕ)) (tally : Tally) (text : List ℕ) (before after : Option (List ℕ))
    (whole : CaptureContents) (input : List ℕ) : Type 0 where
  pub done : ℕ
  pub written : List ℕ
  pub rest_is : left ≡ Some (drop done input)
  pub taken_is : after ≡ append_known before written
  pub text_is : shown_text whole ≡ written ++ (text ++ rest_text tally (records_from format 0 number given (drop done input)))
  pub size_is : size_of whole.records ≡ done + size_of (records_from format 0 number given (drop done input)).records
  pub end_is : whole.end ≡ (records_from format 0 number given (drop done input)).end

-- where a record or a fault is, there are bytes
some-for : (format : Format) (number given : ℕ) (bytes : List ℕ) (entry : RecordParts) → next_of format number given bytes ≡ Ok (Some entry) → 0 < length bytes
some-for format number given [] entry is = cc is
some-for format number given (byte ∷ bytes) entry is = omega arith

some-wrong : (format : Format) (number given : ℕ) (bytes : List ℕ) (why : CaptureFault) → next_of format number given bytes ≡ Err why → 0 < length bytes
some-wrong format number given [] why is = cc is
some-wrong format number given (byte ∷ bytes) why is = omega arith

-- a record was shown
pub along-turn : (format : Format) (number given : ℕ) (left next : Option (List ℕ)) (tally : Tally) (text : List ℕ) (before after : Option (List ℕ))
    (whole : CaptureContents)
    (input : List ℕ) (entry : RecordParts) → Along format number given left tally text before after whole input
    → IfSome left (λ bytes. (next_of format number given bytes ≡ Ok (Some entry)) × (next ≡ Some (drop (16 + length entry.bytes) bytes)))
    → Along format (number + 1) (given + (16 + length entry.bytes)) next (tallied tally entry) (text ++ record_text tally entry) before after whole input
along-turn format number given left next tally text before after whole input entry along stands =
    let used = 16 + length entry.bytes in
    let now = drop along.done input in
    let following = drop (along.done + used) input in
    let here = subst (λ (known : Option (List ℕ)). IfSome known
    (λ bytes. (next_of format number given bytes ≡ Ok (Some entry)) × (next ≡ Some (drop used bytes)))) along.rest_is stands in
    let moved : drop used now ≡ following = drop-drop used along.done input in
    let others = records_from format 0 (number + 1) (given + used) following in
    let same : records_from format 0 number given now ≡ before_others entry others =
    records-next format number given now entry (some-for format number given now entry here.0) here.0
    ∙ ap (λ (bytes : List ℕ). before_others entry (records_from format 0 (number + 1) (given + used) bytes)) moved in
    let size : size_of whole.records ≡ along.done + (used + size_of others.records) = along.size_is
    ∙ ap (λ (c : CaptureContents). along.done + size_of c.records) same in
    record {
      done = along.done + used;
      written = along.written;
      rest_is = here.1 ∙ ap Some moved;
      taken_is = along.taken_is;
      text_is =
          along.text_is
          ∙ ap (λ (c : CaptureContents). along.written ++ (text ++ rest_text tally c)) same
          ∙ ap (λ (more : List ℕ). along.written ++ more) (sym (append_assoc text (record_text tally entry) (rest_text (tallied tally entry) others)));
      size_is = omega (arith, size);
      end_is = along.end_is ∙ ap (λ (c : CaptureContents). c.end) same;
    }

-- a prefix of the text was written
pub along-moved : (format : Format) (number given : ℕ) (left : Option (List ℕ)) (tally : Tally) (text kept : List ℕ) (before after later : Option (List ℕ))
    (whole : CaptureContents)
    (input : List ℕ) → Along format number given left tally text before after whole input → IsMovedOut after later text kept
    → Along format number given left tally kept before later whole input
along-moved format number given left tally text kept before after later whole input along (moved, taken, parts) =
    let rest = rest_text tally (records_from format 0 number given (drop along.done input)) in
    record {
      done = along.done;
      written = along.written ++ moved;
      rest_is = along.rest_is;
      taken_is = taken ∙ ap (λ (known : Option (List ℕ)). append_known known moved) along.taken_is ∙ append-twice before along.written moved;
      text_is =
          along.text_is
          ∙ ap (λ (front : List ℕ). along.written ++ (front ++ rest)) parts
          ∙ ap (λ (more : List ℕ). along.written ++ more) (append_assoc moved kept rest)
          ∙ sym (append_assoc along.written moved (kept ++ rest));
      size_is = along.size_is;
      end_is = along.end_is;
    }

-- the same of an input that is known or not, where the call succeeded
pub along-flushed : {A E : Type 0} (all : Option (List ℕ)) (records : List ℕ → CaptureContents) (format : Format) (number given : ℕ) (left : Option (List ℕ))
    (tally : Tally)
    (text kept : List ℕ) (before after later : Option (List ℕ)) (flushed : Result A E)
    → IfSome all (λ bytes. Along format number given left tally text before after (records bytes) bytes) → OnOk flushed (IsMovedOut after later text kept)
    → is_err flushed ≡ false → IfSome all (λ bytes. Along format number given left tally kept before later (records bytes) bytes)
along-flushed all records format number given left tally text kept before after later flushed along moved fine =
    IfSome_then all along (λ (bytes : List ℕ) here.
    along-moved format number given left tally text kept before after later (records bytes) bytes here
    (on-ok flushed (IsMovedOut after later text kept) moved fine))

-- the job ended early
pub along-begun : (format : Format) (number given : ℕ) (left : Option (List ℕ)) (tally : Tally) (text : List ℕ) (before after later : Option (List ℕ))
    (whole : CaptureContents)
    (input : List ℕ) → Along format number given left tally text before after whole input → HasBegun after later text → HasBegun before later (shown_text whole)
along-begun format number given left tally text before after later whole input along begun =
    let rest = rest_text tally (records_from format 0 number given (drop along.done input)) in
    subst (HasBegun before later) (sym along.text_is)
    (begun-after before after later along.written (text ++ rest) along.taken_is (begun-longer after later text rest begun))

-- the records are over
pub record Over (tally : Tally) (text : List ℕ) (end : Option CaptureFault) (before after : Option (List ℕ)) (whole : CaptureContents) : Type 0 where
  pub written : List ℕ
  pub taken_is : after ≡ append_known before written
  pub text_is : shown_text whole ≡ written ++ (text ++ last_line tally end)
  pub end_is : whole.end ≡ end

over-by : (format : Format) (number given : ℕ) (left : Option (List ℕ)) (tally : Tally) (text : List ℕ) (before after : Option (List ℕ)) (whole : CaptureContents)
    (input : List ℕ) (end : Option CaptureFault) (along : Along format number given left tally text before after whole input)
    → records_from format 0 number given (drop along.done input) ≡ record { records = []; end = end } → Over tally text end before after whole
over-by format number given left tally text before after whole input end along over = record {
  written = along.written;
  taken_is = along.taken_is;
  text_is = along.text_is ∙ ap (λ (c : CaptureContents). along.written ++ (text ++ rest_text tally c)) over;
  end_is = along.end_is ∙ ap (λ (c : CaptureContents). c.end) over;
}

-- after them a text was closed
over-closed : (tally : Tally) (text : List ℕ) (end : Option CaptureFault) (before after later left : Option (List ℕ)) (whole : CaptureContents) (result : JobEnd)
    → Over tally text end before after whole → Closes (text ++ last_line tally end) end result after later → (result ≡ ended.Done → left ≡ Some [])
    → Answers (shown_text whole) (is_some whole.end) result left before later
over-closed tally text end before after later left whole result over closes none = record {
  whole = λ answered.
      closes.whole answered ∙ ap (λ (known : Option (List ℕ)). append_known known (text ++ last_line tally end)) over.taken_is
      ∙ append-twice before over.written (text ++ last_line tally end) ∙ ap (append_known before) (sym over.text_is);
  front = λ off.
      subst (HasBegun before later) (sym over.text_is)
      (begun-after before after later over.written (text ++ last_line tally end) over.taken_is (closes.front off));
  done = λ is. (ap is_some over.end_is ∙ closes.done is, none is);
  input = λ is. ap is_some over.end_is ∙ closes.input is;
}

-- the input ended between two records
pub shown-end : (format : Format) (number given : ℕ) (left known : Option (List ℕ)) (pending : List ℕ) (tally : Tally) (text : List ℕ)
    (before after later : Option (List ℕ)) (whole : CaptureContents) (input : List ℕ) (result : JobEnd)
    → Along format number given left tally text before after whole input
    → IfSome left (λ bytes. (bytes ≡ []) × (prepend_known pending known ≡ Some [])) → Closes (text ++ last_line tally None) None result after later
    → ShowsRecords whole input result known before later
shown-end format number given left known pending tally text before after later whole input result along ends closes =
    let here = subst (λ (all : Option (List ℕ)). IfSome all (λ bytes. (bytes ≡ []) × (prepend_known pending known ≡ Some []))) along.rest_is ends in
    let over = over-by format number given left tally text before after whole input None along (ap (records_from format 0 number given) here.0) in
    record {
      answers = over-closed tally text None before after later known whole result over closes (λ _. none-left pending known here.1);
      past = λ is. cc (closes.input is);
    }

-- a fault ended the records
pub shown-fault : (format : Format) (number given : ℕ) (left known : Option (List ℕ)) (tally : Tally) (text : List ℕ) (before after later : Option (List ℕ))
    (whole : CaptureContents)
    (input : List ℕ) (why : CaptureFault) (result : JobEnd) → Along format number given left tally text before after whole input
    → IfSome left (λ bytes. next_of format number given bytes ≡ Err why) → Passed 262160 left known
    → Closes (text ++ last_line tally (Some why)) (Some why) result after later
    → ShowsRecords whole input result known before later
shown-fault format number given left known tally text before after later whole input why result along stands past closes =
    let now = drop along.done input in
    let here = subst (λ (all : Option (List ℕ)). IfSome all (λ bytes. next_of format number given bytes ≡ Err why)) along.rest_is stands in
    let none = records-wrong format number given now why (some-wrong format number given now why here) here in
    let over = over-by format number given left tally text before after whole input (Some why) along none in
    let sum = along.size_is ∙ ap (λ (c : CaptureContents). along.done + size_of c.records) none in
    let size : size_of whole.records ≡ along.done = omega (arith, sum) in
    record {
      answers = over-closed tally text (Some why) before after later known whole result over closes (λ is. cc (closes.done is));
      past = λ _. subst (λ (all : Option (List ℕ)). Passed 262160 all known) (along.rest_is ∙ ap (λ (n : ℕ). Some (drop n input)) (sym size)) past;
    }

pub shown-early : (format : Format) (number given : ℕ) (left known : Option (List ℕ)) (tally : Tally) (text : List ℕ) (before after later : Option (List ℕ))
    (whole : CaptureContents)
    (input : List ℕ) (result : JobEnd) → IsCutOff result → Along format number given left tally text before after whole input → HasBegun after later text
    → ShowsRecords whole input result known before later
shown-early format number given left known tally text before after later whole input result off along begun = record {
  answers = answers-early (shown_text whole) (is_some whole.end) result known before later off
      (along-begun format number given left tally text before after later whole input along begun);
  past = λ is. absurd (not-both result (inr is) off);
}

-- the whole of an input whose file header has this format
captured-after : (bytes : List ℕ) (format : Format) → opened bytes ≡ Ok format → captured bytes ≡ records_from format 0 0 24 (drop 24 bytes)
captured-after bytes format told = ap (λ (o : Result Format CaptureFault). captured_by o bytes) told

passed-in : (records : List RecordParts) (bytes : List ℕ) (left : Option (List ℕ)) → Passed 262160 (Some (drop (size_of records) (drop 24 bytes))) left
    → Passed 524288 (Some (drop (end_of_records records) bytes)) left
passed-in [] bytes left (n, most, is) = (24 + n, omega arith, is ∙ ap Some (drop-drop n 24 bytes))
passed-in (entry ∷ entries) bytes left (n, most, is) =
    (n, omega arith, is ∙ ap (λ (following : List ℕ). Some (drop n following)) (drop-drop (size_of (entry ∷ entries)) 24 bytes))

pub passed-whole : (bytes : List ℕ) (format : Format) (result : JobEnd) (left before after : Option (List ℕ)) → opened bytes ≡ Ok format
    → ShowsRecords (records_from format 0 0 24 (drop 24 bytes)) (drop 24 bytes) result left before after → result ≡ ended.Input
    → Passed 524288 (Some (drop (records_end bytes) bytes)) left
passed-whole bytes format result left before after told shows is =
    subst (λ (c : CaptureContents). Passed 524288 (Some (drop (end_of_records c.records) bytes)) left) (sym (captured-after bytes format told))
    (passed-in (records_from format 0 0 24 (drop 24 bytes)).records bytes left (shows.past is))

-- the turns of the loop, by what the reader says of them
pub turned : {S : Type 0} (left : S → Option (List ℕ)) (faults lender : S → ℕ) (old new : CapturesState S) (entry : RecordParts) (tally next : Tally)
    (text written : List ℕ)
    (before after : Option (List ℕ)) (whole : CaptureContents) (input : List ℕ)
    → Along old.format old.number old.given (rest left old) tally text before after whole input
    → Advances left faults lender old new (Ok (Some entry)) → next ≡ tallied tally entry → written ≡ text ++ record_text tally entry
    → Along new.format new.number new.given (rest left new) next written before after whole input
turned left faults lender old new entry tally next text written before after whole input along advances counts puts =
    let number : new.number ≡ old.number + 1 = advances.answer.counted ∙ advances.answer.number in
    rw (advances.same_format, number, advances.answer.given, counts, puts)
    (along-turn old.format old.number old.given (rest left old) (rest left new) tally text before after whole input entry along advances.answer.next)

pub over-whole : {S : Type 0} (left : S → Option (List ℕ)) (faults lender : S → ℕ) (old new : CapturesState S) (tally : Tally) (text : List ℕ)
    (before after later : Option (List ℕ)) (whole : CaptureContents) (input : List ℕ) (result : JobEnd)
    → Along old.format old.number old.given (rest left old) tally text before after whole input → Advances left faults lender old new (Ok None)
    → Closes (text ++ last_line tally None) None result after later → ShowsRecords whole input result (left new.source) before later
over-whole left faults lender old new tally text before after later whole input result along advances closes =
    shown-end old.format old.number old.given (rest left old)
    (left new.source) new.pending tally text before after later whole input result along advances.answer.next closes

blamed : {S : Type 0} (left : S → Option (List ℕ)) (faults : S → ℕ) (old new : CapturesState S) (why : CaptureFault) → old.fault ≡ None → (why ≡ ReadFault → ⊥)
    → ((old.fault ≡ Some why) × (new ≡ old)) ⊎ ((old.fault ≡ None) × Blames left faults old new why)
    → IfSome (rest left old) (λ bytes. next_of old.format old.number old.given bytes ≡ Err why)
blamed left faults old new why unended other (inl (was, same)) = cc (was, unended)
blamed left faults old new why unended other (inr (is, inl (read, rose))) = absurd (other read)
blamed left faults old new why unended other (inr (is, inr (not, stands))) = stands

pub faulted : {S : Type 0} (left : S → Option (List ℕ)) (faults lender : S → ℕ) (old new : CapturesState S) (tally : Tally) (text : List ℕ)
    (before after later : Option (List ℕ)) (whole : CaptureContents) (input : List ℕ) (why : CaptureFault) (result : JobEnd) → old.fault ≡ None → (why ≡ ReadFault → ⊥)
    → Along old.format old.number old.given (rest left old) tally text before after whole input → Advances left faults lender old new (Err why)
    → Closes (text ++ last_line tally (Some why)) (Some why) result after later → ShowsRecords whole input result (left new.source) before later
faulted left faults lender old new tally text before after later whole input why result unended other along advances closes =
    shown-fault old.format old.number old.given (rest left old) (left new.source) tally text before after later whole input why result along
    (blamed left faults old new why unended other advances.answer.cause) advances.past closes

-- the last line was not written whole
pub closes-cut : (text more : List ℕ) (end : Option CaptureFault) (before middle after : Option (List ℕ)) → middle ≡ append_known before text
    → HasBegun middle after more
    → Closes (text ++ more) end ended.Write before after
closes-cut text more end before middle after first begun = record {
  whole = λ answered. absurd (not-both ended.Write answered (inr (inl refl)));
  front = λ _. begun-after before middle after text more first begun;
  done = λ is. cc is;
  input = λ is. cc is;
}

-- no line follows the text, of which a prefix was written
pub closes-early : (text more : List ℕ) (end : Option CaptureFault) (result : JobEnd) (before after : Option (List ℕ)) → IsCutOff result
    → HasBegun before after text → Closes (text ++ more) end result before after
closes-early text more end result before after off begun = record {
  whole = λ answered. absurd (not-both result answered off);
  front = λ _. begun-longer before after text more begun;
  done = λ is. absurd (not-both result (inl is) off);
  input = λ is. absurd (not-both result (inr is) off);
}

-- why a job ends with Write or Memory
pub write-for : {source sink : Type 0} → sink → EndsForCause ended.Write source sink
write-for failed = record { read = λ is. cc is; write = λ _. failed; complete = λ _ fine. absurd (fine failed) }

pub memory-for : {source sink : Type 0} → EndsForCause ended.Memory source sink
memory-for = record { read = λ is. cc is; write = λ is. cc is; complete = λ _ _. inr refl }

-- a refused file header, by its fault
pub refused-as : (why : CaptureFault) (result : JobEnd) (before after : Option (List ℕ)) → (why ≡ ReadFault → ⊥) → (why ≡ NoMemory → ⊥)
    → Closes (fault_line first_tally why) (Some why) result before after
    → ShowsHeaderFault why result before after
refused-as BadMagic result before after read memory closes = closes
refused-as BadVersion result before after read memory closes = closes
refused-as BadLink result before after read memory closes = closes
refused-as CutShort result before after read memory closes = closes
refused-as RecordTooLong result before after read memory closes = closes
refused-as ReadFault result before after read memory closes = absurd (read refl)
refused-as NoMemory result before after read memory closes = absurd (memory refl)
refused-as TooLarge result before after read memory closes = closes

refused-whole : (why : CaptureFault) (bytes : List ℕ) (result : JobEnd) (left before after : Option (List ℕ)) → opened bytes ≡ Err why
    → Closes (fault_line first_tally why) (Some why) result before after → Answers (capture_text bytes) (is_faulty bytes) result left before after
refused-whole why bytes result left before after told closes =
    let none : captured bytes ≡ record { records = []; end = Some why } = ap (λ (o : Result Format CaptureFault). captured_by o bytes) told in
    subst (λ (c : CaptureContents). Answers (shown_text c) (is_some c.end) result left before after) (sym none)
    (record { whole = closes.whole; front = closes.front; done = λ is. cc (closes.done is); input = closes.input })

refused-past : (why : CaptureFault) (bytes : List ℕ) (left : Option (List ℕ)) → opened bytes ≡ Err why → Passed 262144 (Some bytes) left
    → Passed 524288 (Some (drop (records_end bytes) bytes)) left
refused-past why bytes left told (n, most, is) =
    let none : captured bytes ≡ record { records = []; end = Some why } = ap (λ (o : Result Format CaptureFault). captured_by o bytes) told in
    subst (λ (c : CaptureContents). Passed 524288 (Some (drop (end_of_records c.records) bytes)) left) (sym none) (n, omega arith, is)

-- what a refused file header comes to
pub record Refuses (bytes : List ℕ) (result : JobEnd) (left before after : Option (List ℕ)) : Type 0 where
  pub answers : Answers (capture_text bytes) (is_faulty bytes) result left before after
  pub past : result ≡ ended.Input → Passed 524288 (Some (drop (records_end bytes) bytes)) left

refuses-fault : (why : CaptureFault) (bytes : List ℕ) (result : JobEnd) (left before after : Option (List ℕ)) → opened bytes ≡ Err why
    → Passed 262144 (Some bytes) left
    → Closes (fault_line first_tally why) (Some why) result before after
    → Refuses bytes result left before after
refuses-fault why bytes result left before after told past closes = record {
  answers = refused-whole why bytes result left before after told closes;
  past = λ _. refused-past why bytes left told past;
}

refuses-early : (bytes : List ℕ) (result : JobEnd) (left before after : Option (List ℕ)) → IsCutOff result → after ≡ before
    → Refuses bytes result left before after
refuses-early bytes result left before after off same = record {
  answers = answers-early (capture_text bytes) (is_faulty bytes) result left before after off (unwritten (capture_text bytes) before after same);
  past = λ is. absurd (not-both result (inr is) off);
}

pub refuses : {S : Type 0} (left : S → Option (List ℕ)) (faults : S → ℕ) (source handed : S) (why : CaptureFault) (bytes : List ℕ) (result : JobEnd)
    (before after : Option (List ℕ)) → left source ≡ Some bytes → Passed 262144 (left source) (left handed) → header.RefusesHeader left faults source handed why
    → ShowsHeaderFault why result before after → Refuses bytes result (left handed) before after
refuses left faults source handed BadMagic bytes result before after told past cause closes =
    refuses-fault BadMagic bytes result (left handed) before after (subst (λ (o : Option (List ℕ)). IfSome o (λ all. opened all ≡ Err BadMagic)) told cause)
    (subst (λ (o : Option (List ℕ)). Passed 262144 o (left handed)) told past) closes
refuses left faults source handed BadVersion bytes result before after told past cause closes =
    refuses-fault BadVersion bytes result (left handed) before after (subst (λ (o : Option (List ℕ)). IfSome o (λ all. opened all ≡ Err BadVersion)) told cause)
    (subst (λ (o : Option (List ℕ)). Passed 262144 o (left handed)) told past) closes
refuses left faults source handed BadLink bytes result before after told past cause closes =
    refuses-fault BadLink bytes result (left handed) before after (subst (λ (o : Option (List ℕ)). IfSome o (λ all. opened all ≡ Err BadLink)) told cause)
    (subst (λ (o : Option (List ℕ)). Passed 262144 o (left handed)) told past) closes
refuses left faults source handed CutShort bytes result before after told past cause closes =
    refuses-fault CutShort bytes result (left handed) before after (subst (λ (o : Option (List ℕ)). IfSome o (λ all. opened all ≡ Err CutShort)) told cause)
    (subst (λ (o : Option (List ℕ)). Passed 262144 o (left handed)) told past) closes
refuses left faults source handed RecordTooLong bytes result before after told past cause closes =
    refuses-fault RecordTooLong bytes result (left handed) before after
    (subst (λ (o : Option (List ℕ)). IfSome o (λ all. opened all ≡ Err RecordTooLong)) told cause)
    (subst (λ (o : Option (List ℕ)). Passed 262144 o (left handed)) told past) closes
refuses left faults source handed TooLarge bytes result before after told past cause closes =
    refuses-fault TooLarge bytes result (left handed) before after (subst (λ (o : Option (List ℕ)). IfSome o (λ all. opened all ≡ Err TooLarge)) told cause)
    (subst (λ (o : Option (List ℕ)). Passed 262144 o (left handed)) told past) closes
refuses left faults source handed ReadFault bytes result before after told past cause closes =
    refuses-early bytes result (left handed) before after (inl closes.0) closes.1
refuses left faults source handed NoMemory bytes result before after told past cause closes =
    refuses-early bytes result (left handed) before after (inr (inr closes.0)) closes.1

-- the records ended, however
pub over : {S : Type 0} (left : S → Option (List ℕ)) (faults lender : S → ℕ) (old new : CapturesState S) (tally next : Tally) (text written : List ℕ)
    (before after later : Option (List ℕ)) (whole : CaptureContents) (input : List ℕ) (end : Option CaptureFault) (result : JobEnd) → old.fault ≡ None
    → Along old.format old.number old.given (rest left old) tally text before after whole input
    → Turns left faults lender old new tally next text written (Ok (turn.Ended end)) → Closes (written ++ last_line next end) end result after later
    → ShowsRecords whole input result (left new.source) before later
over left faults lender old new tally next text written before after later whole input None result unended along (advances, counts, puts) closes =
    over-whole left faults lender old new tally text before after later whole input result along advances
    (subst (λ (t : Tally). Closes (text ++ last_line t None) None result after later) counts
    (subst (λ (front : List ℕ). Closes (front ++ last_line next None) None result after later) puts closes))
over left faults lender old new tally next text written before after later whole input (Some why) result unended along (other, advances, counts, puts) closes =
    faulted left faults lender old new tally text before after later whole input why result unended other along advances
    (subst (λ (t : Tally). Closes (text ++ last_line t (Some why)) (Some why) result after later) counts
    (subst (λ (front : List ℕ). Closes (front ++ last_line next (Some why)) (Some why) result after later) puts closes))

-- each record is counted once
counted-one : (tally : Tally) (shown : Shown) (flows : List Flow)
    → (counted_record tally shown flows).shown + (counted_record tally shown flows).skipped ≡ tally.shown + tally.skipped + 1
counted-one tally Line flows = omega arith
counted-one tally Skipped flows = omega arith

pub tallied-one : (tally next : Tally) (entry : RecordParts) → next ≡ tallied tally entry → next.shown + next.skipped ≡ tally.shown + tally.skipped + 1
tallied-one tally next entry counts =
    ap (λ (t : Tally). t.shown + t.skipped) counts ∙ counted-one tally (shows tally.flows entry).shown (shows tally.flows entry).flows
