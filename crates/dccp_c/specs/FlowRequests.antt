-- What C gets about a flow before it opens (own).
use Rattle.std.specs.Prelude.{ℕ, Bool, is_some, List, Option, Some, None, if◌then◌else◌}
use Rattle.std.specs.Option.{option_map}
use Rattle.dccp_listener.specs.declared.peer.Peer.{Peer}
use Rattle.dccp_server.specs.Events.{WatchedServer, shut_out}
use Rattle.dccp_server.specs.Refusals.{refused_frame}
use Rattle.server_peers.specs.Refusals.{flow_asked}
use Rattle.dccp_c.specs.Framing.{FrameFields, handed_of, nothing_handed}
use Rattle.dccp_c.specs.Telling.{is_short}

-- the Service Code that a datagram asks for, if there is a listener
abbrev pub asked_in : Option WatchedServer → Peer → List ℕ → Option ℕ
asked_in None peer bytes = None
asked_in (Some s) peer bytes = flow_asked s.server.room.served.listening peer bytes

-- the same, if the datagram is short enough
abbrev pub service_asked : Option WatchedServer → Peer → List ℕ → Option ℕ
service_asked held peer bytes = if is_short bytes then asked_in held peer bytes else None

-- The code of asking for it, and of refusing it: 5 if the datagram is too long, 1 if there is no listener, and 13 if it opens no flow.
abbrev pub asks_code : Option WatchedServer → Peer → List ℕ → ℕ
asks_code held peer bytes =
    if is_short bytes then (if is_some held then (if is_some (asked_in held peer bytes) then 0 else 13) else 1) else 5

-- the server once it has refused a datagram, if it is short enough
abbrev pub refused_after : ℕ → Option WatchedServer → Peer → List ℕ → Option WatchedServer
refused_after now held peer bytes = if is_short bytes then option_map (λ s. shut_out now s peer bytes) held else held

-- the Reset with this code that then goes out, if an answer may
abbrev pub refused_reset : ℕ → Option WatchedServer → Peer → List ℕ → ℕ → FrameFields
refused_reset now None peer bytes code = nothing_handed
refused_reset now (Some s) peer bytes code = handed_of (refused_frame now s.server peer bytes code)

-- the same, with nothing if the datagram is too long
abbrev pub refused_left : ℕ → Option WatchedServer → Peer → List ℕ → ℕ → FrameFields
refused_left now held peer bytes code = if is_short bytes then refused_reset now held peer bytes code else nothing_handed

-- the server once it takes no new flows, or takes them again
abbrev pub set_shut_in : Bool → Option WatchedServer → Option WatchedServer
set_shut_in is_shut = option_map (λ (s : WatchedServer). record s { is_shut = is_shut })
