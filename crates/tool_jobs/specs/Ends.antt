-- What the jobs over an end share: how a side's end is configured, and the frame that a line makes arrive (own).
use Rattle.std.specs.Prelude.{ℕ, List, if◌then◌else◌, ◌≡◌, ◌≤◌, true, length}
use Rattle.dccp_endpoint.specs.declared.config.Config.{Config}
use Rattle.dccp_states.specs.declared.phase.Role.{Role}
use Rattle.dccp_states.specs.declared.phase.Role.TheVariants as role
use Rattle.dccp_sum.specs.Checksum.{sealed}
use Rattle.dccp_sum.specs.declared.pseudo_header.Pseudo.{Pseudo}
use Rattle.feature_machine.specs.Lists as listed
use Rattle.schedule_text.specs.declared.line.FrameLine.{FrameLine}
use Rattle.world_events.specs.declared.event.Side.{Side}
use Rattle.world_events.specs.declared.event.Side.TheVariants.{Client, Server}

-- the role that the end of a side is configured with
abbrev pub role_of : Side → Role
role_of Client = role.Client
role_of Server = role.Server

-- a configuration that offers nothing
abbrev pub config_without_offers : Config → Config
config_without_offers config = record config { lists = listed.without_offers config.lists }

-- The frame that arrives by a line: with `seal` the checksum is set for these addresses, unless the coverage passes the
-- frame's end.
abbrev pub arriving : Pseudo → FrameLine → List ℕ
arriving addresses frame = if frame.seal then sealed addresses frame.bytes else frame.bytes

-- a frame whose checksum is to be set has room for one
abbrev pub CanBeSealed : FrameLine → Type 0
CanBeSealed frame = frame.seal ≡ true → 8 ≤ length frame.bytes
