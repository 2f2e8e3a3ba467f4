-- A packet that was found is after the header of its record.
use Rattle.std.proofs.Common.{◌∙◌, ap, ℕ, List, ◌++◌, append_assoc}
use Rattle.capture_reader.specs.Records.{entry_of}
use Rattle.bridge_records.specs.Writing.{header_for, record_head}
use Rattle.capture_reader.specs.declared.record.RecordHeader.{RecordHeader}
use Rattle.bridge_command.specs.Unwrapping.{unwrapped_of}
use Rattle.bridge_command.proofs.unwrap.unwrapping.put_record_of.Goals as goal

pub returns : goal.returns
returns c =
    let text : List ℕ = c.args.text.now.items in
    let ip : List ℕ = c.args.ip.now in
    c.in_ok-put.ensures.ok
    ∙ ap (λ (front : List ℕ). front ++ ip) c.in_ok-put_record_header.ensures
    ∙ ap (λ (h : RecordHeader). text ++ record_head h ++ ip) c.header_of-header.ensures
    ∙ append_assoc text (record_head (header_for (unwrapped_of (entry_of c.args.item.now) ip))) ip
