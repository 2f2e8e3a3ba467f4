-- What the steps of `show` do (own).
use Rattle.std.specs.Prelude.{◌≡◌, ◌≢◌, ℕ, ◌++◌, false, true, List, drop, Option, Some, None, is_some, Result, Ok, Err}
use Rattle.capture_reader.specs.declared.fault.CaptureFault.{CaptureFault}
use Rattle.capture_reader.specs.declared.fault.CaptureFault.TheVariants.{ReadFault, NoMemory}
use Rattle.capture_reader.specs.Records.{RecordParts, CaptureContents}
use Rattle.capture_reader.specs.State.{CapturesState, Advances, Passed}
use Rattle.seq_circle.specs.declared.memory.NoMemory as no_memory
use Rattle.packet_show.specs.declared.show.Tally.{Tally}
use Rattle.packet_show.specs.declared.show.Turn.{Turn}
use Rattle.packet_show.specs.declared.show.Turn.TheVariants as turn
use Rattle.tool_text.specs.declared.output.status.JobEnd.{JobEnd}
use Rattle.tool_text.specs.declared.output.status.JobEnd.TheVariants as ended
use Rattle.packet_show.specs.CaptureText.{tallied, record_text, fault_line, first_tally, text_from, size_of}
use Rattle.tool_text.specs.Ends.{IsAnswered, IsCutOff, HasTaken, HasBegun, Answers}

-- One turn: the record that comes next was read, tallied and put; or the records ended, and nothing else changed. If there was no memory, the
-- text stays as it was.
abbrev pub Turns : {S : Type 0} → (S → Option (List ℕ)) → (S → ℕ) → (S → ℕ) → CapturesState S → CapturesState S → Tally → Tally → List ℕ → List ℕ
    → Result Turn no_memory.NoMemory → Type 0
Turns left faults lender old new tally after text written (Ok turn.Shown) =
    (entry : RecordParts) × Advances left faults lender old new (Ok (Some entry)) × (after ≡ tallied tally entry) × (written ≡ text ++ record_text tally entry)
Turns left faults lender old new tally after text written (Ok (turn.Ended None)) =
    Advances left faults lender old new (Ok None) × (after ≡ tally) × (written ≡ text)
Turns left faults lender old new tally after text written (Ok (turn.Ended (Some why))) =
    (why ≢ ReadFault) × Advances left faults lender old new (Err why) × (after ≡ tally) × (written ≡ text)
Turns left faults lender old new tally after text written (Ok turn.Failed) =
    Advances left faults lender old new (Err ReadFault) × (written ≡ text)
Turns left faults lender old new tally after text written (Err _) = (lender new.source ≡ lender old.source) × (written ≡ text)

-- After a capture's records: the text and the last line were written, all of them with an answer, and otherwise a prefix of both.
pub record Closes (text : List ℕ) (end : Option CaptureFault) (result : JobEnd) (before after : Option (List ℕ)) : Type 0 where
  pub whole : IsAnswered result → HasTaken before after text
  pub front : IsCutOff result → HasBegun before after text
  pub done : result ≡ ended.Done → is_some end ≡ false
  pub input : result ≡ ended.Input → is_some end ≡ true

-- A file header was refused: the line of its fault was written as the only one, or nothing if the source failed or there was no memory.
abbrev pub ShowsHeaderFault : CaptureFault → JobEnd → Option (List ℕ) → Option (List ℕ) → Type 0
ShowsHeaderFault ReadFault result before after = (result ≡ ended.Read) × (after ≡ before)
ShowsHeaderFault NoMemory result before after = (result ≡ ended.Memory) × (after ≡ before)
ShowsHeaderFault why result before after = Closes (fault_line first_tally why) (Some why) result before after

-- all that `show` writes for a capture whose records are these
abbrev pub shown_text : CaptureContents → List ℕ
shown_text whole = text_from first_tally whole.records whole.end

-- The records of an input after its file header were shown: what was written, how it ended, and, if a fault ended them, how far the input was
-- read past the last whole record.
pub record ShowsRecords (whole : CaptureContents) (input : List ℕ) (result : JobEnd) (left before after : Option (List ℕ)) : Type 0 where
  pub answers : Answers (shown_text whole) (is_some whole.end) result left before after
  pub past : result ≡ ended.Input → Passed 262160 (Some (drop (size_of whole.records) input)) left
