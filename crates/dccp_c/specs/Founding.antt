-- The configuration of a listener in C (own).
use Rattle.std.specs.Prelude.{ℕ, nat_lt, ◌==◌, false, not, List, [], ◌∷◌, length, Option, None, Result, Ok, Err, if◌then◌else◌}
use Rattle.dccp_endpoint.specs.declared.config.Config.{Config}
use Rattle.dccp_listener.specs.declared.config.ListenConfig.{ListenConfig}
use Rattle.dccp_c.specs.Accepting.{as_server}
use Rattle.dccp_c.specs.Listening.{OwnedServerState}
use Rattle.dccp_c.specs.Making.{configured_by, first_four, made_from}
use Rattle.dccp_c.specs.declared.making.Care.{Care}
use Rattle.server_peers.specs.Events.{no_events}
use Rattle.dccp_server.specs.FlowInboxes.{no_inboxes}
use Rattle.dccp_server.specs.Rooms.{ruled_begins}
use Rattle.feature_lists.specs.Lists.{is_distinct}
use Rattle.server_peers.specs.Rules.{usual_rules}
use Rattle.dccp_c.specs.declared.making.Settings.{Settings}
use Rattle.dccp_c.specs.declared.making.Wish.{Wish}

-- the Service Codes that it serves: if none are given, that of the settings
abbrev pub services_by : Settings → List ℕ → List ℕ
services_by s [] = s.service ∷ []
services_by s given = given

-- a listener for the services at the settings' own address and port, whose ends have the wishes and offers of this configuration
abbrev pub listening_at : Settings → List ℕ → ℕ → Config → ListenConfig
listening_at s given most config =
    record {
      own_address = first_four s.own_address;
      own_port = s.own_port;
      services = record { items = services_by s given };
      lists = config.lists;
      most = most;
    }

-- the same, if the configuration was not refused
abbrev pub listening_from : Settings → List ℕ → ℕ → Result Config ℕ → Result ListenConfig ℕ
listening_from s given most (Ok config) = Ok (listening_at s given most config)
listening_from s given most (Err code) = Err code

-- A listener has IPv4, at most 16 Service Codes, each once, and a limit of 1 to 1,024 flows; otherwise it is refused with 18.
abbrev pub listening_by : Settings → List ℕ → List Wish → ℕ → Result ListenConfig ℕ
listening_by s given wishes most =
    if s.is_v6 then Err 18 else if most == 0 then Err 18 else if nat_lt 1024 most then Err 18
    else if nat_lt 16 (length given) then Err 18 else if not (is_distinct given) then Err 18
    else listening_from s given most (configured_by (as_server s) wishes)

-- a new server, which follows the usual rules, and does this for its flows
abbrev pub founded_by : Care → ListenConfig → OwnedServerState
founded_by care config =
    record {
      watched = record { server = ruled_begins config care.pace usual_rules; events = no_events; is_shut = false };
      inboxes = no_inboxes care.most_held config.most;
      arrival = None;
    }

-- what the handle holds once making has returned this code
abbrev pub founded_of : ℕ → Care → Result ListenConfig ℕ → Option OwnedServerState
founded_of code care config = made_from (founded_by care) (code == 0) config
