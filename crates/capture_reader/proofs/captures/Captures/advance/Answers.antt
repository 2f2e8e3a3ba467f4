-- Each way in which a call ends.
use Rattle.std.proofs.Common.{rules, arith, ◌≡◌, ◌≤◌, ◌+◌, ◌-◌, ℕ, Option, None, Some, Ok, Err, IfSome, length, drop, take, subst}
use Rattle.std.proofs.lemmas.List.{length-drop}
use Rattle.capture_reader.specs.State.{Advances, CapturesState, IsOfRecords}
use Rattle.capture_reader.specs.declared.record.RecordHeader.{RecordHeader}
use Rattle.capture_reader.specs.Steps.{RecordRead}
use Rattle.capture_reader.specs.Records.{entry_with, most_bytes}
use Rattle.capture_reader.proofs.Reading.{state, advanced-found, advanced-end, advanced-wrong, advanced-refused}
use Rattle.capture_reader.proofs.captures.Captures.advance.Goals as goal

pub returns-in-Some : goal.returns-in-Some
returns-in-Some g c =
    let inside = c.self.inside in
    let of_records : IsOfRecords c.in-Some.fault = subst (λ o. IfSome o IsOfRecords) c.in-Some.is c.self.invariant.5 in
    let block : length (drop inside.lent inside.ahead.pending) ≤ 262144 =
    rw (length-drop inside.lent inside.ahead.pending) (omega (arith, c.self.invariant.1)) in
    subst (λ (old : CapturesState g.row.S.Denot). Advances g.S.Source.left g.S.Source.faults g.S.Source.lender old old (Err c.in-Some.fault)) c.self.view_is
    (advanced-refused g.S.Source.left g.S.Source.faults g.S.Source.lender
    (state inside.source inside.ahead.pending inside.lent inside.format inside.given inside.number inside.fault) c.in-Some.fault c.in-Some.is of_records
    c.self.invariant.3 block)

pub returns-in-Err : goal.returns-in-Err
returns-in-Err g c =
    let inside = c.self.inside in
    let after = c.read_record.new.source in
    let got = c.read_record.new.ahead in
    let block : length got.pending ≤ 262144 = search rules in
    subst
    (λ (old : CapturesState g.row.S.Denot). Advances g.S.Source.left g.S.Source.faults g.S.Source.lender old
    (state after got.pending 0 inside.format inside.given inside.number (Some c.in-Err.fault)) (Err c.in-Err.fault))
    c.self.view_is
    (advanced-wrong g.S.Source.left g.S.Source.faults g.S.Source.lender inside.source after inside.ahead c.pass.new.self got inside.lent inside.format
    inside.given inside.number inside.fault
    c.in-Err.fault c.in-Err.ensures.unread c.pass.ensures c.in_default.is c.self.invariant.3 block c.in-Err.ensures.keeps c.in-Err.ensures.read)

pub returns-in-Ok-None : goal.returns-in-Ok-None
returns-in-Ok-None g c =
    let inside = c.self.inside in
    let after = c.read_record.new.source in
    let got = c.read_record.new.ahead in
    let block : length got.pending ≤ 262144 = search rules in
    let told : c.in-Ok-None.field-0 ≡ None = search rules in
    let read : RecordRead g.S.Source.left g.S.Source.faults inside.format.order (most_bytes - inside.given) c.pass.new.self got inside.source after
    (Ok (None)) =
    subst (λ (found : Option RecordHeader). RecordRead g.S.Source.left g.S.Source.faults inside.format.order
    (most_bytes - inside.given) c.pass.new.self got inside.source after (Ok found))
    told c.in-Ok-None.ensures.read in
    subst
    (λ (old : CapturesState g.row.S.Denot). Advances g.S.Source.left g.S.Source.faults g.S.Source.lender old
    (state after got.pending 0 inside.format inside.given inside.number inside.fault) (Ok None))
    c.self.view_is
    (advanced-end g.S.Source.left g.S.Source.faults g.S.Source.lender inside.source after inside.ahead c.pass.new.self got inside.lent inside.format
    inside.given inside.number inside.fault
    c.in-Ok-None.ensures.unread c.pass.ensures c.in_default.is c.self.invariant.3 block c.in-Ok-None.ensures.keeps read)

pub returns-in-Ok-Some : goal.returns-in-Ok-Some
returns-in-Ok-Some g c =
    let inside = c.self.inside in
    let after = c.read_record.new.source in
    let got = c.read_record.new.ahead in
    let header = c.in-Ok-Some.header in
    let block : length got.pending ≤ 262144 = search rules in
    let told : c.in-Ok-Some.field-0 ≡ Some header = search rules in
    let read : RecordRead g.S.Source.left g.S.Source.faults inside.format.order (most_bytes - inside.given) c.pass.new.self got inside.source after
    (Ok (Some header)) =
    subst (λ (found : Option RecordHeader). RecordRead g.S.Source.left g.S.Source.faults inside.format.order
    (most_bytes - inside.given) c.pass.new.self got inside.source after (Ok found))
    told c.in-Ok-Some.ensures.read in
    let size : header.captured ≡ c.from.result = search rules in
    let answer = Ok (Some (entry_with inside.format (inside.number + 1) header (take header.captured got.pending))) in
    subst
    (λ (n : ℕ). Advances g.S.Source.left g.S.Source.faults g.S.Source.lender c.args.self.now
    (state after got.pending header.captured inside.format (inside.given + (16 + n)) (inside.number + 1) inside.fault) answer)
    size
    (subst
    (λ (old : CapturesState g.row.S.Denot). Advances g.S.Source.left g.S.Source.faults g.S.Source.lender old
    (state after got.pending header.captured inside.format (inside.given + (16 + header.captured)) (inside.number + 1) inside.fault) answer)
    c.self.view_is
    (advanced-found g.S.Source.left g.S.Source.faults g.S.Source.lender inside.source after inside.ahead c.pass.new.self got inside.lent inside.format
    inside.given inside.number inside.fault
    header c.in-Ok-Some.ensures.unread c.pass.ensures c.in_default.is c.self.invariant.3 block c.in-Ok-Some.ensures.keeps read))
