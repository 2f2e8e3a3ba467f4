-- One call of `next`: the record that comes next, the end, or what is wrong.
use Rattle.std.proofs.Common.{arith, ◌≡◌, ◌≤◌, ℕ, ◌+◌, ◌-◌, ◌^◌, ◌||◌, Bool, true, List, [], ◌++◌, length, take, drop, Option, Some, None, Result, IfSome, Ok, Err, refl, sym, ap, ◌∙◌, subst, inl, inr, ⊎_elim}
use Rattle.std.proofs.lemmas.List.{take-append-le, drop-append-le, drop-drop, length-drop, length-take-le}
use Rattle.std.proofs.lemmas.Option.{none-some}
use Rattle.std.proofs.Math.Seq.{drop-append_seam}
use Rattle.std.specs.Prelude.{is_some, option_map}
use Rattle.std.specs.Io.KnownBytes.{prepend_known}
use Rattle.dccp_io.specs.Ahead.{BytesAhead}
use Rattle.capture_reader.specs.declared.fault.CaptureFault.{CaptureFault}
use Rattle.capture_reader.specs.declared.format.Format.{Format}
use Rattle.capture_reader.specs.declared.format.Order.{Order}
use Rattle.capture_reader.specs.declared.record.RecordHeader.{RecordHeader}
use Rattle.capture_reader.specs.Records.{body_fault, found_by, found_in, header_in, next_of, next_by, entry_with, is_record_settled, most_bytes, unless_faulty}
use Rattle.capture_reader.specs.Steps.{IsCause, KeepsTheSource, RecordRead}
use Rattle.capture_reader.specs.State.{CapturesState, rest, Passed, IsOfRecords, Advances}
use Rattle.capture_reader.proofs.Opening.{passed-ahead}

-- a reader with these parts
abbrev pub state : {S : Type 0} → S → List ℕ → ℕ → Format → ℕ → ℕ → Option CaptureFault → CapturesState S
state source held lent format given number fault = record {
  source = source;
  pending = drop lent held;
  lent = take lent held;
  format = format;
  given = given;
  number = number;
  fault = fault;
}

-- the block once the lent bytes were let go
abbrev pub let_go : BytesAhead → ℕ → BytesAhead
let_go held lent = record { pending = drop lent held.pending; size = held.size }

-- the list in an option
abbrev from_some : Option (List ℕ) → List ℕ
from_some None = []
from_some (Some bytes) = bytes

-- what was read past some bytes that were passed
passed-after : (k : ℕ) (pending : List ℕ) (all known : Option (List ℕ)) → k ≤ 16 → length pending ≤ 262144
    → prepend_known pending known ≡ option_map (drop k) all
    → Passed 262160 all known
passed-after k pending None None small fits same = (0, omega arith, refl)
passed-after k pending None (Some more) small fits same = absurd (none-some (pending ++ more) (sym same))
passed-after k pending (Some bytes) None small fits same = absurd (none-some (drop k bytes) same)
passed-after k pending (Some bytes) (Some more) small fits same =
    let joined : pending ++ more ≡ drop k bytes = ap from_some same in (
      k + length pending,
      omega (arith, small, fits),
      ap (λ (xs : List ℕ). Some xs)
          (sym (drop-append_seam pending more) ∙ ap (drop (length pending)) joined ∙ drop-drop (length pending) k bytes),
    )

-- the record that was found comes next, and after it what is left
found-next : (format : Format) (number given : ℕ) (header : RecordHeader) (pending : List ℕ) (all known : Option (List ℕ)) → header.captured ≤ length pending
    → prepend_known pending known ≡ option_map (drop 16) all → IfSome all (λ bytes. found_in format.order (most_bytes - given) bytes ≡ Ok (Some header))
    → IfSome all (λ bytes. (next_of format number given bytes ≡ Ok (Some (entry_with format (number + 1) header (take header.captured pending))))
    × (prepend_known (drop header.captured pending) known ≡ Some (drop (16 + length (take header.captured pending)) bytes)))
found-next format number given header pending None known fits same found = tt
found-next format number given header pending (Some bytes) None fits same found = absurd (none-some (drop 16 bytes) same)
found-next format number given header pending (Some bytes) (Some more) fits same found =
    let joined : pending ++ more ≡ drop 16 bytes = ap from_some same in
    let front : take header.captured (drop 16 bytes) ≡ take header.captured pending =
    ap (take header.captured) (sym joined) ∙ take-append-le header.captured pending more fits in
    let size : length (take header.captured pending) ≡ header.captured = length-take-le header.captured pending fits in
    let following : drop header.captured pending ++ more ≡ drop (16 + header.captured) bytes =
    sym (drop-append-le header.captured pending more fits) ∙ ap (drop header.captured) joined ∙ drop-drop header.captured 16 bytes in (
      ap (λ (f : Result (Option RecordHeader) CaptureFault). next_by format (number + 1) f bytes) found
          ∙ ap (λ (text : List ℕ). Ok (Some (entry_with format (number + 1) header text))) front,
      ap (λ (xs : List ℕ). Some xs) (following ∙ ap (λ (n : ℕ). drop (16 + n) bytes) (sym size)),
    )

-- a header and the bytes after it make a record, or what is wrong with these
after-header : (order : Order) (room : ℕ) (header : RecordHeader) (bytes : List ℕ) (wrong : Option CaptureFault)
    → header_in order room bytes ≡ Ok (Some header)
    → body_fault header.captured (room - 16) (length (drop 16 bytes)) ≡ wrong → found_in order room bytes ≡ unless_faulty wrong (Some header)
after-header order room header bytes wrong told judged =
    ap (λ (f : Result (Option RecordHeader) CaptureFault). found_by room f bytes) told
    ∙ ap (λ (n : ℕ). unless_faulty (body_fault header.captured (room - 16) n) (Some header)) (sym (length-drop 16 bytes))
    ∙ ap (λ (f : Option CaptureFault). unless_faulty f (Some header)) judged

pub found-told : (order : Order) (room : ℕ) (header : RecordHeader) (all following : Option (List ℕ)) (wrong : Option CaptureFault)
    → following ≡ option_map (drop 16) all
    → IfSome all (λ bytes. header_in order room bytes ≡ Ok (Some header))
    → IfSome following (λ bytes. body_fault header.captured (room - 16) (length bytes) ≡ wrong)
    → IfSome all (λ bytes. found_in order room bytes ≡ unless_faulty wrong (Some header))
found-told order room header None following wrong passed told judged = tt
found-told order room header (Some bytes) following wrong passed told judged =
    after-header order room header bytes wrong told
    (subst (λ (o : Option (List ℕ)). IfSome o (λ bs. body_fault header.captured (room - 16) (length bs) ≡ wrong)) passed judged)

-- faults that did not fall before have risen since
pub cause-later : (why : CaptureFault) (first before after : ℕ) (Wrong Worse : Type 0) → first ≤ before → (Wrong → Worse) → IsCause why before after Wrong
    → IsCause why first after Worse
cause-later why first before after Wrong Worse up leads (inl (is, inl less)) = inl (is, inl (omega (arith, up, less)))
cause-later why first before after Wrong Worse up leads (inl (is, inr most)) = inl (is, inr most)
cause-later why first before after Wrong Worse up leads (inr (is, wrong)) = inr (is, leads wrong)

-- nothing is left
ended-next : (all known : Option (List ℕ)) → known ≡ all → IfSome all (λ bytes. bytes ≡ []) → IfSome all (λ bytes. (bytes ≡ []) × (known ≡ Some []))
ended-next None known same ended = tt
ended-next (Some bytes) known same ended = (ended, same ∙ ap (λ (xs : List ℕ). Some xs) ended)

-- what is wrong comes next
wrong-next : (format : Format) (number given : ℕ) (why : CaptureFault) (all : Option (List ℕ))
    → IfSome all (λ bytes. found_in format.order (most_bytes - given) bytes ≡ Err why) → IfSome all (λ bytes. next_of format number given bytes ≡ Err why)
wrong-next format number given why None wrong = tt
wrong-next format number given why (Some bytes) wrong = ap (λ (f : Result (Option RecordHeader) CaptureFault). next_by format (number + 1) f bytes) wrong

-- where no fault ended the capture, what is pending settles that nothing is read
unread-by : {S : Type 0} (fault : Option CaptureFault) (settled : Bool) (before after : S) → fault ≡ None → (settled ≡ true → after ≡ before)
    → (is_some fault || settled) ≡ true → after ≡ before
unread-by None settled before after none still is = still is
unread-by (Some why) settled before after none still is = cc none

module _ {S : Type 0} (left : S → Option (List ℕ)) (faults lender : S → ℕ) where
  pub advanced-found : (before after : S) (held passed got : BytesAhead) (lent : ℕ) (format : Format) (given number : ℕ) (fault : Option CaptureFault)
      (header : RecordHeader) → (is_record_settled format.order (most_bytes - given) passed.pending ≡ true → after ≡ before) → passed ≡ let_go held lent
      → fault ≡ None → given ≤ 2 ^ 32 → length got.pending ≤ 262144
      → KeepsTheSource faults lender passed got before after
      → RecordRead left faults format.order (most_bytes - given) passed got before after (Ok (Some header))
      → Advances left faults lender (state before held.pending lent format given number fault)
      (state after got.pending header.captured format (given + (16 + header.captured)) (number + 1) fault)
      (Ok (Some (entry_with format (number + 1) header (take header.captured got.pending))))
  advanced-found before after held passed got lent format given number fault header still is stands within block keeps read =
      let here : RecordRead left faults format.order (most_bytes - given) (let_go held lent) got before after (Ok (Some header)) =
      subst (λ (ahead : BytesAhead). RecordRead left faults format.order (most_bytes - given) ahead got before after (Ok (Some header))) is read in
      record {
        never_falls = keeps.never_falls;
        same_lender = keeps.same_lender;
        same_format = refl;
        within = omega (arith, within, here.0);
        block = rw (length-drop header.captured got.pending) (omega (arith, block));
        past = passed-after 16 got.pending (prepend_known (drop lent held.pending) (left before)) (left after) (omega arith) block here.2;
        unread = unread-by fault (is_record_settled format.order (most_bytes - given) (drop lent held.pending)) before after stands
            (subst (λ (ahead : BytesAhead). is_record_settled format.order (most_bytes - given) ahead.pending ≡ true → after ≡ before) is still);
        answer = record {
          was_open = stands;
          is_open = stands;
          number = refl;
          counted = refl;
          given = ap (λ (n : ℕ). given + (16 + n)) (sym (length-take-le header.captured got.pending here.1));
          next = found-next format number given header got.pending (prepend_known (drop lent held.pending) (left before)) (left after) here.1 here.2 here.3;
        };
      }

  pub advanced-end : (before after : S) (held passed got : BytesAhead) (lent : ℕ) (format : Format) (given number : ℕ) (fault : Option CaptureFault)
      → (is_record_settled format.order (most_bytes - given) passed.pending ≡ true → after ≡ before) → passed ≡ let_go held lent → fault ≡ None → given ≤ 2 ^ 32
      → length got.pending ≤ 262144 → KeepsTheSource faults lender passed got before after
      → RecordRead left faults format.order (most_bytes - given) passed got before after (Ok None)
      → Advances left faults lender (state before held.pending lent format given number fault) (state after got.pending 0 format given number fault) (Ok None)
  advanced-end before after held passed got lent format given number fault still is stands within block keeps read =
      let here : RecordRead left faults format.order (most_bytes - given) (let_go held lent) got before after (Ok None) =
      subst (λ (ahead : BytesAhead). RecordRead left faults format.order (most_bytes - given) ahead got before after (Ok None)) is read in
      record {
        never_falls = keeps.never_falls;
        same_lender = keeps.same_lender;
        same_format = refl;
        within = within;
        block = block;
        past = passed-ahead 262160 got.pending (left after) (prepend_known (drop lent held.pending) (left before)) (omega (arith, block)) here.0;
        unread = unread-by fault (is_record_settled format.order (most_bytes - given) (drop lent held.pending)) before after stands
            (subst (λ (ahead : BytesAhead). is_record_settled format.order (most_bytes - given) ahead.pending ≡ true → after ≡ before) is still);
        answer = record {
          was_open = stands;
          is_open = stands;
          counted = refl;
          given = refl;
          next = ended-next (prepend_known (drop lent held.pending) (left before)) (prepend_known got.pending (left after)) here.0 here.1;
        };
      }

  pub advanced-wrong : (before after : S) (held passed got : BytesAhead) (lent : ℕ) (format : Format) (given number : ℕ) (fault : Option CaptureFault)
      (why : CaptureFault) → (is_record_settled format.order (most_bytes - given) passed.pending ≡ true → after ≡ before) → passed ≡ let_go held lent
      → fault ≡ None → given ≤ 2 ^ 32 → length got.pending ≤ 262144
      → KeepsTheSource faults lender passed got before after
      → RecordRead left faults format.order (most_bytes - given) passed got before after (Err why)
      → Advances left faults lender (state before held.pending lent format given number fault) (state after got.pending 0 format given number (Some why))
      (Err why)
  advanced-wrong before after held passed got lent format given number fault why still is stands within block keeps read =
      let here : RecordRead left faults format.order (most_bytes - given) (let_go held lent) got before after (Err why) =
      subst (λ (ahead : BytesAhead). RecordRead left faults format.order (most_bytes - given) ahead got before after (Err why)) is read in
      record {
        never_falls = keeps.never_falls;
        same_lender = keeps.same_lender;
        same_format = refl;
        within = within;
        block = block;
        past = passed-after here.1.0 got.pending (prepend_known (drop lent held.pending) (left before)) (left after) here.1.1 block here.1.2;
        unread = unread-by fault (is_record_settled format.order (most_bytes - given) (drop lent held.pending)) before after stands
            (subst (λ (ahead : BytesAhead). is_record_settled format.order (most_bytes - given) ahead.pending ≡ true → after ≡ before) is still);
        answer = record {
          of_records = here.0;
          kept = refl;
          counted = refl;
          cause = inr (
            stands,
            ⊎_elim
                (λ rose. inl rose)
                (λ wrong. inr (wrong.0, wrong-next format number given why (prepend_known (drop lent held.pending) (left before)) wrong.1))
                here.2,
          );
        };
      }

  -- a reader whose capture ended with a fault does nothing
  pub advanced-refused : (old : CapturesState S) (why : CaptureFault) → old.fault ≡ Some why → IsOfRecords why → old.given ≤ 2 ^ 32
      → length old.pending ≤ 262144
      → Advances left faults lender old old (Err why)
  advanced-refused old why kept of_records within block = record {
    never_falls = omega arith;
    same_lender = refl;
    same_format = refl;
    within = within;
    block = block;
    past = passed-ahead 262160 old.pending (left old.source) (rest left old) (omega (arith, block)) refl;
    unread = λ _. refl;
    answer = record { of_records = of_records; kept = kept; counted = refl; cause = inl (kept, refl) };
  }
