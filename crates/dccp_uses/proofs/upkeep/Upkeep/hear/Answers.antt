use Rattle.std.proofs.Common.{ap, ◌∙◌, nat_lt, Bool}
use Rattle.dccp_uses.specs.Alarms.{ack_hurried_by, progressed_by}
use Rattle.dccp_uses.specs.Path.{path_heard, path_waits}
use Rattle.dccp_uses.specs.Upkeeps.{acks_now, kept_seen, kept_with_path}
use Rattle.dccp_uses.specs.declared.alarms.Alarms.{Alarms}
use Rattle.dccp_uses.specs.declared.path.Path.{Path}
use Rattle.dccp_uses.specs.declared.sight.Sight.{Sight}
use Rattle.dccp_uses.specs.declared.waits.Waits.{Waits}
use Rattle.dccp_uses.proofs.upkeep.Upkeep.hear.Goals as goal

pub returns : goal.returns
returns g c =
    let u = c.args.self.now in
    let it = c.args.heard.now in
    let is = c.of-is.result in
    let now = c.args.now in
    let waits : Waits = path_waits c.hear.new.self in
    c.go_on_seen.ensures
    ∙ ap (λ (a : Alarms). kept_seen now 0 a c.hear.new.self is)
    (c.note_packet.ensures
    ∙ ap (λ (h : Bool). acks_now (ack_hurried_by waits (progressed_by waits u.alarms (nat_lt is.in_flight it.was.in_flight)) it.delivered) h now) c.is_hole-hole.ensures)
    ∙ ap (λ (p : Path). kept_with_path now u it is p) c.hear.ensures
    ∙ ap (λ (s : Sight). kept_with_path now u it s (path_heard u.path it.was s it.taken now)) c.of-is.ensures
