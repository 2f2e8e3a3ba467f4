-- A refused file header, and how far the input was read after the file header.
use Rattle.std.proofs.Common.{rules, ◌≡◌, ℕ, List, Option, Some, Ok, IfSome, drop, subst}
use Rattle.capture_reader.specs.Format.{opened}
use Rattle.capture_reader.specs.Records.{records_from}
use Rattle.capture_reader.specs.State.{Passed, rest}
use Rattle.packet_show.specs.CaptureText.{capture_text, is_faulty, records_end}
use Rattle.packet_show.specs.Show.{ShowsRecords}
use Rattle.tool_text.specs.Ends.{Answers}
use Rattle.packet_show.proofs.Showing.{refuses, passed-whole}
use Rattle.packet_show.proofs.show.show_capture.Goals as goal

pub returns-in-Err-clause-text : goal.returns-in-Err-clause-text
returns-in-Err-clause-text g c = λ bytes told.
    subst (λ (left : Option (List ℕ)). Answers (capture_text bytes) (is_faulty bytes) c.refuse_header.result left (g.K.Sink.taken c.args.output.now)
    (g.K.Sink.taken c.refuse_header.new.output))
    (search rules)
    (refuses (λ s. g.S.Source.left s.now) (λ s. g.S.Source.faults s.now) _ c.in-Err.refusal.1 c.in-Err.refusal.0 bytes c.refuse_header.result
    (g.K.Sink.taken c.args.output.now)
    (g.K.Sink.taken c.refuse_header.new.output) told c.in-Err.ensures.past c.in-Err.ensures.cause c.refuse_header.ensures.refuses).answers

pub returns-in-Err-clause-past : goal.returns-in-Err-clause-past
returns-in-Err-clause-past g c = λ bytes told input.
    subst (λ (left : Option (List ℕ)). Passed 524288 (Some (drop (records_end bytes) bytes)) left)
    (search rules)
    ((refuses (λ s. g.S.Source.left s.now) (λ s. g.S.Source.faults s.now) _ c.in-Err.refusal.1 c.in-Err.refusal.0 bytes c.refuse_header.result
    (g.K.Sink.taken c.args.output.now)
    (g.K.Sink.taken c.refuse_header.new.output) told c.in-Err.ensures.past c.in-Err.ensures.cause c.refuse_header.ensures.refuses).past input)

pub returns-clause-past : goal.returns-clause-past
returns-clause-past g c = λ bytes told input.
    let header = subst (λ (known : Option (List ℕ)). IfSome known
    (λ all. (opened all ≡ Ok c.in-Ok.captures.format) × (rest (λ s. g.S.Source.left s.now) c.in-Ok.captures ≡ Some (drop 24 all)))) told
    c.in-Ok.ensures.opened in
    let shows = subst (λ (known : Option (List ℕ)). IfSome known
    (λ all. ShowsRecords (records_from c.in-Ok.captures.format 0 0 24 all) all c.show_records-status.result
    (g.S.Source.left c.show_records-status.new.captures.source.now) (g.K.Sink.taken c.args.output.now) (g.K.Sink.taken c.show_records-status.new.output)))
    header.1 c.show_records-status.ensures.shows in
    subst (λ (left : Option (List ℕ)). Passed 524288 (Some (drop (records_end bytes) bytes)) left)
    (search rules)
    (passed-whole bytes c.in-Ok.captures.format c.show_records-status.result (g.S.Source.left c.show_records-status.new.captures.source.now)
    (g.K.Sink.taken c.args.output.now)
    (g.K.Sink.taken c.show_records-status.new.output) header.0 shows input)
