-- Each way in which a call ends.
use Rattle.std.proofs.Common.{rules, arith, ◌≡◌, ◌≤◌, ◌+◌, true, false, Some, Ok, Err, IfSome, length, drop, subst}
use Rattle.std.proofs.lemmas.List.{length-drop}
use Rattle.dccp_io.specs.Ahead.{ahead_of}
use Rattle.dccp_io.specs.Lines.{LinesState, Finds, next_in_bytes, made_out, IsLineOf}
use Rattle.dccp_io.specs.declared.lines.NextItem.{NextItem}
use Rattle.dccp_io.specs.declared.lines.NextItem.TheVariants as next_item
use Rattle.dccp_io.specs.declared.lines.Stop.TheVariants as stop
use Rattle.dccp_io.proofs.Finding.{state, found-before, found-failed, found-long, found-much, found-end, found-line}
use Rattle.dccp_io.proofs.lines.Lines.find.Goals as goal

pub returns-in-Some-clause-finds : goal.returns-in-Some-clause-finds
returns-in-Some-clause-finds g c =
    let inside = c.self.inside in
    let block : length (drop inside.used inside.ahead.pending) ≤ 8192 = rw (length-drop inside.used inside.ahead.pending) (omega (arith, c.self.invariant.1)) in
    subst (λ (old : LinesState g.row.S.Denot). Finds g.S.Source.left g.S.Source.faults g.S.Source.lender old old (Err c.in-Some.stop)) c.self.view_is
    (found-before g.S.Source.left g.S.Source.faults g.S.Source.lender
    (state inside.source inside.ahead.pending inside.used inside.given inside.stop) c.in-Some.stop c.in-Some.is c.self.invariant.3 block)

pub returns-in-Err-clause-finds : goal.returns-in-Err-clause-finds
returns-in-Err-clause-finds g c =
    let inside = c.self.inside in
    let after = c.stands_next.new.source in
    let got = c.stands_next.new.ahead in
    let block : length got.pending ≤ 8192 = search rules in
    subst
    (λ (old : LinesState g.row.S.Denot). Finds g.S.Source.left g.S.Source.faults g.S.Source.lender old
    (state after got.pending 0 inside.given (Some stop.Failed)) (Err stop.Failed))
    c.self.view_is
    (found-failed g.S.Source.left g.S.Source.faults g.S.Source.lender inside.source after inside.ahead c.pass.new.self got inside.used inside.given inside.stop
    c.pass.ensures c.in_default.is c.self.invariant.3 block c.in-Err.ensures.seeks c.in-Err.ensures.cause)

pub returns-in-Ok-TooLong-clause-finds : goal.returns-in-Ok-TooLong-clause-finds
returns-in-Ok-TooLong-clause-finds g c =
    let inside = c.self.inside in
    let after = c.stands_next.new.source in
    let got = c.stands_next.new.ahead in
    let block : length got.pending ≤ 8192 = search rules in
    let stood : c.in-Ok-TooLong.field-0 ≡ next_item.TooLong = search rules in
    let next = subst (λ (s : NextItem). IfSome (ahead_of c.pass.new.self (g.S.Source.left inside.source))
    (λ bytes. next_in_bytes inside.given bytes ≡ made_out got.pending s)) stood c.in-Ok-TooLong.ensures.next in
    subst
    (λ (old : LinesState g.row.S.Denot). Finds g.S.Source.left g.S.Source.faults g.S.Source.lender old
    (state after got.pending 0 inside.given (Some stop.TooLong)) (Err stop.TooLong))
    c.self.view_is
    (found-long g.S.Source.left g.S.Source.faults g.S.Source.lender inside.source after inside.ahead c.pass.new.self got inside.used inside.given inside.stop
    c.pass.ensures c.in_default.is c.self.invariant.3 block c.in-Ok-TooLong.ensures.seeks next)

pub returns-in-Ok-TooMuch-clause-finds : goal.returns-in-Ok-TooMuch-clause-finds
returns-in-Ok-TooMuch-clause-finds g c =
    let inside = c.self.inside in
    let after = c.stands_next.new.source in
    let got = c.stands_next.new.ahead in
    let block : length got.pending ≤ 8192 = search rules in
    let stood : c.in-Ok-TooMuch.field-0 ≡ next_item.TooMuch = search rules in
    let next = subst (λ (s : NextItem). IfSome (ahead_of c.pass.new.self (g.S.Source.left inside.source))
    (λ bytes. next_in_bytes inside.given bytes ≡ made_out got.pending s)) stood c.in-Ok-TooMuch.ensures.next in
    subst
    (λ (old : LinesState g.row.S.Denot). Finds g.S.Source.left g.S.Source.faults g.S.Source.lender old
    (state after got.pending 0 inside.given (Some stop.TooMuch)) (Err stop.TooMuch))
    c.self.view_is
    (found-much g.S.Source.left g.S.Source.faults g.S.Source.lender inside.source after inside.ahead c.pass.new.self got inside.used inside.given inside.stop
    c.pass.ensures c.in_default.is c.self.invariant.3 block c.in-Ok-TooMuch.ensures.seeks next)

pub returns-in-Ok-End-clause-finds : goal.returns-in-Ok-End-clause-finds
returns-in-Ok-End-clause-finds g c =
    let inside = c.self.inside in
    let after = c.stands_next.new.source in
    let got = c.stands_next.new.ahead in
    let block : length got.pending ≤ 8192 = search rules in
    let stood : c.in-Ok-End.field-0 ≡ next_item.End = search rules in
    let next = subst (λ (s : NextItem). IfSome (ahead_of c.pass.new.self (g.S.Source.left inside.source))
    (λ bytes. next_in_bytes inside.given bytes ≡ made_out got.pending s)) stood c.in-Ok-End.ensures.next in
    subst
    (λ (old : LinesState g.row.S.Denot). Finds g.S.Source.left g.S.Source.faults g.S.Source.lender old (state after got.pending 0 inside.given inside.stop)
    (Ok false))
    c.self.view_is
    (found-end g.S.Source.left g.S.Source.faults g.S.Source.lender inside.source after inside.ahead c.pass.new.self got inside.used inside.given inside.stop
    c.pass.ensures c.in_default.is c.self.invariant.3 block c.in-Ok-End.ensures.seeks next)

pub returns-in-Ok-Line-clause-finds : goal.returns-in-Ok-Line-clause-finds
returns-in-Ok-Line-clause-finds g c =
    let inside = c.self.inside in
    let after = c.stands_next.new.source in
    let got = c.stands_next.new.ahead in
    let block : length got.pending ≤ 8192 = search rules in
    let stood : c.in-Ok-Line.field-0 ≡ next_item.Line c.in-Ok-Line.count = search rules in
    let next = subst (λ (s : NextItem). IfSome (ahead_of c.pass.new.self (g.S.Source.left inside.source))
    (λ bytes. next_in_bytes inside.given bytes ≡ made_out got.pending s)) stood c.in-Ok-Line.ensures.next in
    let fits = subst (λ (s : NextItem). IsLineOf inside.given got.pending s) stood c.in-Ok-Line.ensures.fits in
    subst
    (λ (old : LinesState g.row.S.Denot). Finds g.S.Source.left g.S.Source.faults g.S.Source.lender old
    (state after got.pending c.in-Ok-Line.count (inside.given + c.in-Ok-Line.count) inside.stop) (Ok true))
    c.self.view_is
    (found-line g.S.Source.left g.S.Source.faults g.S.Source.lender inside.source after inside.ahead c.pass.new.self got inside.used inside.given
    c.in-Ok-Line.count inside.stop
    c.pass.ensures c.in_default.is block c.in-Ok-Line.ensures.seeks next fits)
