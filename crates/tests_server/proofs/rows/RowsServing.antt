-- Rows of how a server counts its time, its limits and its refusals, computed from the definitions; the values were worked out by hand.
use Rattle.std.proofs.Common.{◌≡◌, refl, ℕ, true, false, List, [], ◌∷◌, length, replicate, Some, None}
use Rattle.dccp_endpoint.specs.declared.config.Config.{Config}
use Rattle.dccp_listener.specs.Runs.{HadNoMemory, Stepped, WasBusy}
use Rattle.dccp_packets.specs.declared.header.Number.TheVariants.{Short}
use Rattle.dccp_states.specs.declared.outcome.Outcome.TheVariants.{SentReset, Took, WasReset}
use Rattle.dccp_states.specs.declared.seen.Seen.TheVariants.{Received}
use Rattle.dccp_listener.specs.Calls.{reset_by}
use Rattle.dccp_server.specs.FlowDrops.{flow_recorded}
use Rattle.dccp_server.specs.FlowInboxes.{lies_within}
use Rattle.server_peers.specs.Rules.{answers_to_strangers, class_of, is_none_left, left_since, limit_in, or_else, usual_rules}
use Rattle.dccp_server.specs.Serving.{is_refusal, wait_until}
use Rattle.dccp_uses.specs.Upkeeps.{alarm_end, earlier, on_clock}
use Rattle.dccp_server.specs.Upkeeps.{tells_data, tells_taken}
use Rattle.dccp_server.specs.declared.flow_drops.FlowDrop.{FlowDrop}
use Rattle.server_peers.specs.declared.queue.Ticket.{Ticket}
use Rattle.server_peers.specs.declared.stage.Stage.TheVariants as stage

-- A clock has 64 bits. An alarm that waits for nothing has always run out, and one past the end of the clock never does.
when_an_alarm_ends :
    (on_clock 18446744073709551615 ≡ Some 18446744073709551615) × (on_clock 18446744073709551616 ≡ None)
    × (alarm_end None ≡ None) × (alarm_end (Some (record { since = 100; wait = 50 })) ≡ Some 150)
    × (alarm_end (Some (record { since = 100; wait = 0 })) ≡ Some 0) × (alarm_end (Some (record { since = 100; wait = 1 })) ≡ Some 101)
    × (alarm_end (Some (record { since = 18446744073709551615; wait = 1 })) ≡ None)
    × (earlier (Some 5) (Some 7) ≡ Some 5) × (earlier (Some 7) (Some 5) ≡ Some 5) × (earlier None (Some 7) ≡ Some 7) × (earlier (Some 5) None ≡ Some 5)
when_an_alarm_ends = (refl, refl, refl, refl, refl, refl, refl, refl, refl, refl, refl)

-- how long it is until a ticket's time; 2^64 - 1 without one
abbrev paper : Ticket
paper = record { class = 0; time = 900; peer = record { address = 10 ∷ 0 ∷ 0 ∷ 1 ∷ []; port = 40000 } }

how_long_a_server_waits : (wait_until 100 (Some paper) ≡ 800) × (wait_until 900 (Some paper) ≡ 0) × (wait_until 100 None ≡ 18446744073709551615)
how_long_a_server_waits = (refl, refl, refl)

-- The stages in their order, and the limit of each: RESPOND four minutes, or ten seconds in a crowd; OPEN and PARTOPEN two minutes of silence; CLOSEREQ
-- and CLOSING 64 seconds; TIMEWAIT none. A hundred answers a second go to strangers.
limits_of_stages :
    (class_of stage.HalfOpen ≡ 0) × (class_of stage.Live ≡ 1) × (class_of stage.Ending ≡ 2) × (class_of stage.Lingering ≡ 3)
    × (limit_in usual_rules false stage.HalfOpen ≡ Some 240000) × (limit_in usual_rules true stage.HalfOpen ≡ Some 10000)
    × (limit_in usual_rules true stage.Live ≡ Some 120000) × (limit_in usual_rules false stage.Ending ≡ Some 64000)
    × (limit_in usual_rules false stage.Lingering ≡ None)
    × (left_since usual_rules false 64099 (Some (stage.Ending, 100)) ≡ Some 1) × (left_since usual_rules false 64100 (Some (stage.Ending, 100)) ≡ Some 0)
    × (left_since usual_rules false 64100 None ≡ None)
    × (is_none_left (Some 0) ≡ true) × (is_none_left (Some 1) ≡ false) × (is_none_left None ≡ false)
    × (or_else (Some paper) None ≡ Some paper) × (or_else None (Some paper) ≡ Some paper)
    × (answers_to_strangers ≡ record { per_second = 100; burst = 100 })
limits_of_stages =
    (refl, refl, refl, refl, refl, refl, refl, refl, refl, refl, refl, refl, refl, refl, refl, refl, refl, refl)

-- What was noted of a call: without an end it was refused; packets were taken, and brought data or none.
what_was_told :
    (is_refusal (Stepped None) ≡ true) × (is_refusal (Stepped (Some (Received (Took None)))) ≡ false) × (is_refusal WasBusy ≡ false)
    × (is_refusal HadNoMemory ≡ false)
    × (tells_taken (Stepped (Some (Received (Took None)))) ≡ true) × (tells_taken (Stepped (Some (Received (WasReset 1)))) ≡ false)
    × (tells_taken (Stepped None) ≡ false) × (tells_taken WasBusy ≡ false)
    × (tells_data (Stepped (Some (Received (Took (Some (16, 18)))))) ≡ true) × (tells_data (Stepped (Some (Received (Took None)))) ≡ false)
    × (tells_data (Stepped (Some (Received (SentReset 5 [])))) ≡ false) × (tells_data HadNoMemory ≡ false)
what_was_told = (refl, refl, refl, refl, refl, refl, refl, refl, refl, refl, refl, refl)

-- A place lies within a datagram up to its end, and a short number has no Reset.
edges_of_a_datagram : (config : Config) →
    (lies_within (1 ∷ 2 ∷ []) (0, 2) ≡ true) × (lies_within (1 ∷ 2 ∷ []) (0, 3) ≡ false)
    × (lies_within (1 ∷ 2 ∷ []) (2, 1) ≡ false) × (reset_by 9 config (Short 5) ≡ None)
edges_of_a_datagram config = (refl, refl, refl, refl)

-- the 2,049th drop of all flows drives the oldest out
abbrev dropped : ℕ → List FlowDrop
dropped others = replicate others (record { peer = paper.peer; number = 1; code = 2 })

how_many_drops_are_recorded :
    (length (flow_recorded paper.peer 3 7 (dropped 2047)) ≡ 2048) × (length (flow_recorded paper.peer 3 7 (dropped 2048)) ≡ 2048)
how_many_drops_are_recorded = (refl, refl)
