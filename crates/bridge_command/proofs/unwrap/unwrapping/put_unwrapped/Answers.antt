-- The packet is the one that the record has.
use Rattle.std.proofs.Common.{◌≡◌, ◌∙◌, ◌++◌, subst, List, ℕ, OnOk}
use Rattle.capture_reader.specs.Records.{entry_of}
use Rattle.bridge_records.specs.Writing.{raw_record}
use Rattle.bridge_command.specs.Unwrapping.{unwrapped_entry, unwrapped_of}
use Rattle.bridge_command.proofs.unwrap.unwrapping.put_unwrapped.Goals as goal

pub returns : goal.returns
unfolding unwrapped_entry
returns c =
    subst
    (λ (ip : List ℕ). OnOk c.put_record_of.result
    (c.put_record_of.new.text.items ≡ c.args.text.now.items ++ raw_record (unwrapped_of (entry_of c.args.item.now) ip)))
    (c.bytes.ensures ∙ c.in_ok-packet.ensures.value) c.put_record_of.ensures
