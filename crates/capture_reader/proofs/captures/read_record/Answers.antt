-- A header and the bytes after it make a record, or what is wrong with these.
use Rattle.std.proofs.Common.{arith, ◌≡◌, ◌∙◌, ◌-◌, Ok, Err, Some, None, Option, IfSome, length, subst}
use Rattle.dccp_io.specs.Ahead.{ahead_of}
use Rattle.capture_reader.specs.Records.{body_fault, found_in}
use Rattle.capture_reader.specs.Steps.{HeaderRead, BodyRead}
use Rattle.capture_reader.specs.declared.record.RecordHeader.{RecordHeader}
use Rattle.capture_reader.proofs.Reading.{cause-later, found-told}
use Rattle.capture_reader.proofs.captures.read_record.Goals as goal

pub returns-in-Ok-clause-read : goal.returns-in-Ok-clause-read
returns-in-Ok-clause-read g c =
    let header = c.in-Some.header in
    let left = g.S.Source.left in
    let middle = ahead_of c.read_header.new.ahead (left c.read_header.new.source) in
    let first : HeaderRead left g.S.Source.faults c.args.order c.args.room c.args.ahead.now c.read_header.new.ahead c.args.source.now c.read_header.new.source
    (Ok (Some header)) =
    subst (λ (found : Option RecordHeader). HeaderRead left g.S.Source.faults c.args.order c.args.room c.args.ahead.now c.read_header.new.ahead
    c.args.source.now c.read_header.new.source (Ok found))
    c.in-Some.is c.in_ok-header.ensures.read in
    let body : BodyRead left g.S.Source.faults header.captured
    (c.args.room - 16) c.read_header.new.ahead c.read_body.new.ahead c.read_header.new.source c.read_body.new.source (Ok c.in-Ok.field-0) =
    c.in-Ok.ensures.read in (
      omega (arith, first.0, body.1),
      body.2,
      c.in-Ok.ensures.same ∙ first.1,
      found-told c.args.order c.args.room header (ahead_of c.args.ahead.now (left c.args.source.now)) middle None first.1 first.2 body.3,
    )

pub returns-in-Err-clause-read : goal.returns-in-Err-clause-read
returns-in-Err-clause-read g c =
    let header = c.in-Some.header in
    let left = g.S.Source.left in
    let all = ahead_of c.args.ahead.now (left c.args.source.now) in
    let middle = ahead_of c.read_header.new.ahead (left c.read_header.new.source) in
    let why = c.in-Err.fault in
    let first : HeaderRead left g.S.Source.faults c.args.order c.args.room c.args.ahead.now c.read_header.new.ahead c.args.source.now c.read_header.new.source
    (Ok (Some header)) =
    subst (λ (found : Option RecordHeader). HeaderRead left g.S.Source.faults c.args.order c.args.room c.args.ahead.now c.read_header.new.ahead
    c.args.source.now c.read_header.new.source (Ok found))
    c.in-Some.is c.in_ok-header.ensures.read in
    let body : BodyRead left g.S.Source.faults header.captured
    (c.args.room - 16) c.read_header.new.ahead c.read_body.new.ahead c.read_header.new.source c.read_body.new.source (Err why) =
    c.in-Err.ensures.read in (
      body.0,
      (16, omega arith, c.in-Err.ensures.same ∙ first.1),
      cause-later why (g.S.Source.faults c.args.source.now) (g.S.Source.faults c.read_header.new.source) (g.S.Source.faults c.read_body.new.source)
          (IfSome middle (λ bytes. body_fault header.captured (c.args.room - 16) (length bytes) ≡ Some why))
          (IfSome all (λ bytes. found_in c.args.order c.args.room bytes ≡ Err why))
          c.in_ok-header.ensures.keeps.never_falls
          (found-told c.args.order c.args.room header all middle (Some why) first.1 first.2) body.1,
    )
