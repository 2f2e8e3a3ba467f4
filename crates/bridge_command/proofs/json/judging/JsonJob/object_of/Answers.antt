-- The packet is the one that the record has.
use Rattle.std.proofs.Common.{◌∙◌, ap, List, ℕ}
use Rattle.capture_reader.specs.Records.{RecordParts, entry_of}
use Rattle.bridge_links.specs.Links.{ip_bytes}
use Rattle.bridge_command.specs.Judging.{flow_number_of, judged_ip}
use Rattle.bridge_command.specs.Members.{members_seen}
use Rattle.bridge_command.specs.Objects.{record_members, with_judged, with_stamp}
use Rattle.bridge_command.proofs.json.judging.JsonJob.object_of.Goals as goal

pub returns-clause-told : goal.returns-clause-told
unfolding record_members
returns-clause-told c =
    let entry : RecordParts = entry_of c.args.item.now in
    let packet : List ℕ = ip_bytes entry.link entry.bytes in
    c.in_ok-put_judged.ensures.told
    ∙ ap (λ (ip : List ℕ). with_judged c.args.self.now.payload (flow_number_of c.args.self.now.seen (judged_ip ip)) ip (judged_ip ip)
    (members_seen c.put_stamp.new.object)) (c.bytes.ensures ∙ c.in_ok-packet.ensures.value)
    ∙ ap (with_judged c.args.self.now.payload (flow_number_of c.args.self.now.seen (judged_ip packet)) packet (judged_ip packet))
    (c.in_ok-put_stamp.ensures ∙ ap (with_stamp entry) c.new-object.ensures)
