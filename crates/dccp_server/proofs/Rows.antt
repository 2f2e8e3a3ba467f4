-- Rows of a server's rules, computed from the definitions; the values were worked out by hand.
use Rattle.std.proofs.Common.{◌≡◌, refl, ℕ, ◌*◌, true, false, List, [], ◌∷◌, Some, None}
use Rattle.dccp_listener.specs.Chain.{Aborts, Fires, Prefers}
use Rattle.dccp_listener.specs.Runs.{HadNoMemory, Stepped, WasBusy}
use Rattle.dccp_listener.specs.declared.peer.Peer.{Peer}
use Rattle.dccp_packets.specs.declared.header.Kind.TheVariants as kind
use Rattle.dccp_states.specs.declared.calls.Timer.TheVariants as timers
use Rattle.dccp_states.specs.declared.outcome.Outcome.TheVariants.{SentReset, Synced, Took}
use Rattle.dccp_states.specs.declared.phase.Phase.{Phase}
use Rattle.dccp_states.specs.declared.phase.Phase.TheVariants as phase
use Rattle.dccp_states.specs.declared.seen.Seen.TheVariants.{Received}
use Rattle.feature_lists.specs.declared.features.Feature.TheVariants.{AckRatio}
use Rattle.feature_lists.specs.declared.features.Place.TheVariants.{Here}
use Rattle.dccp_uses.specs.declared.rule.Rule.TheVariants as rule
use Rattle.dccp_server.specs.FlowDrops.{flow_drop_code, flow_recorded}
use Rattle.server_peers.specs.Lives.{Lives, signs_of, stands_in}
use Rattle.dccp_uses.specs.Anew.{is_same_number, refused_number}
use Rattle.server_peers.specs.Rules.{first_given_up, is_crowd, least_left, life_left, makes_way, no_rules, usual_rules}
use Rattle.server_peers.specs.Strangers.{is_no_connection, spared, spared_if, strangers_begin}
use Rattle.dccp_server.specs.Upkeeps.{arrived_so, call_if_held, called_so, rule_call}
use Rattle.dccp_server.specs.declared.flow_drops.FlowDrop.{FlowDrop}
use Rattle.dccp_server.specs.declared.happening.FlowHappening.TheVariants as happening
use Rattle.server_peers.specs.declared.life.Life.{Life}
use Rattle.server_peers.specs.declared.strangers.Strangers.{Strangers}

-- a peer at an address that ends so
abbrev peer : ℕ → Peer
peer last = record { address = 10 ∷ 0 ∷ 0 ∷ last ∷ []; port = 40000 }

-- a flow that is in a phase since then, and took its last packet at that time
abbrev life : Phase → ℕ → ℕ → Life
life in-phase since taken = record { phase = in-phase; since = since; taken = taken; sync = None; user = 0 }

-- Of two flows in TIMEWAIT the longer one makes room, before any in RESPOND.
abbrev lingering : Lives
lingering = (peer 1, life phase.Respond 0 0) ∷ (peer 2, life phase.TimeWait 500 0) ∷ (peer 3, life phase.TimeWait 300 0) ∷ (peer 4, life phase.Open 0 0) ∷ []

who_makes_room :
    (makes_way usual_rules false 240000 lingering ≡ Some (peer 3))
    × (makes_way no_rules false 240000 lingering ≡ None)
who_makes_room = (refl, refl)

-- Else of those in RESPOND the oldest, once its time is over: four minutes, or ten seconds in a crowd.
abbrev half_open : Lives
half_open = (peer 1, life phase.Respond 700 0) ∷ (peer 2, life phase.Respond 600 0) ∷ (peer 3, life phase.Open 0 0) ∷ []

who_is_over :
    (makes_way usual_rules false 240599 half_open ≡ None)
    × (makes_way usual_rules false 240600 half_open ≡ Some (peer 2))
    × (makes_way usual_rules true 10599 half_open ≡ None)
    × (makes_way usual_rules true 10600 half_open ≡ Some (peer 2))
who_is_over = (refl, refl, refl, refl)

-- how long a flow may still stand as it does
how_long_is_left :
    (life_left usual_rules false 240099 (life phase.Respond 100 0) ≡ Some 1)
    × (life_left usual_rules true 5100 (life phase.Respond 100 0) ≡ Some 5000)
    × (life_left usual_rules false 125000 (life phase.Open 0 5000) ≡ Some 0)
    × (life_left usual_rules false 65000 (life phase.PartOpen 0 5000) ≡ Some 60000)
    × (life_left usual_rules false 64000 (life phase.CloseReq 100 0) ≡ Some 100)
    × (life_left usual_rules false 64000 (life phase.Closing 0 0) ≡ Some 0)
    × (life_left usual_rules false 900000 (life phase.TimeWait 0 0) ≡ None)
    × (life_left no_rules false 900000 (life phase.Open 0 0) ≡ None)
how_long_is_left = (refl, refl, refl, refl, refl, refl, refl, refl)

-- The longest half open is given up first, and how long it is until one is.
who_is_given_up :
    (first_given_up usual_rules false 240650 half_open ≡ Some (peer 2))
    × (first_given_up usual_rules false 240700 half_open ≡ Some (peer 2))
    × (first_given_up usual_rules false 100000 half_open ≡ None)
    × (least_left usual_rules false 100000 (2 * 100000) half_open ≡ 20000)
    × (least_left usual_rules false 100000 7 half_open ≡ 7)
who_is_given_up = (refl, refl, refl, refl, refl)

-- A crowd has more than half of the places that the others leave. One flow here is open, so two that are half open have
-- half of four places, two of three, and both of two.
when_it_is_crowded :
    (is_crowd 5 half_open ≡ false)
    × (is_crowd 4 half_open ≡ true)
    × (is_crowd 3 half_open ≡ true)
    × (is_crowd 1 [] ≡ false)
    × (is_crowd 0 [] ≡ false)
when_it_is_crowded = (refl, refl, refl, refl, refl)

-- Half-open flows come before the silent, and these before those that close; each longest first, whatever the peers.
abbrev all_over : Lives
all_over =
    (peer 1, life phase.Closing 10 0) ∷ (peer 2, life phase.Open 0 30) ∷ (peer 3, life phase.PartOpen 0 20) ∷ (peer 4, life phase.Respond 40 0) ∷ (peer 5, life phase.CloseReq 5 0) ∷ []

in_which_order :
    (first_given_up usual_rules false 300000 all_over ≡ Some (peer 4))
    × (first_given_up usual_rules false 150000 all_over ≡ Some (peer 3))
    × (first_given_up usual_rules false 70000 all_over ≡ Some (peer 5))
    × (first_given_up usual_rules false 64004 all_over ≡ None)
    × (least_left usual_rules false 64000 9999999 all_over ≡ 5)
    × (makes_way usual_rules false 300000 all_over ≡ Some (peer 4))
in_which_order = (refl, refl, refl, refl, refl, refl)

-- a phase begins when it is entered
since_when :
    ((stands_in 900 phase.Open (life phase.Respond 100 0)).since ≡ 900)
    × ((stands_in 900 phase.Respond (life phase.Respond 100 0)).since ≡ 100)
since_when = (refl, refl)

-- A Reset with code 4 refuses a Sync by its number; one of another code does not.
what_refuses_a_sync :
    (refused_number (kind.Reset 77 4 (0 ∷ 0 ∷ 0 ∷ [])) ≡ Some 77)
    × (refused_number (kind.Reset 77 2 (0 ∷ 0 ∷ 0 ∷ [])) ≡ None)
    × (refused_number (kind.SyncAck 77) ≡ None)
    × (is_same_number (Some 77) (Some 77) ≡ true)
    × (is_same_number (Some 77) (Some 78) ≡ false)
    × (is_same_number None None ≡ false)
what_refuses_a_sync = (refl, refl, refl, refl, refl, refl)

-- only what is taken is a sign of life
what_is_a_sign :
    (signs_of (Stepped (Some (Received (Took None)))) ≡ record { taken = true; synced = false })
    × (signs_of (Stepped (Some (Received (Synced 9)))) ≡ record { taken = false; synced = true })
    × (signs_of WasBusy ≡ record { taken = false; synced = false })
what_is_a_sign = (refl, refl, refl)

-- what is left of the limits: this many thousandths of a token for all answers, and for Resets without a connection
abbrev left : ℕ → ℕ → ℕ → Strangers
left answers resets since =
    record { answers = record { thousandths = answers; since = since }; resets = record { thousandths = resets; since = since } }

-- Eight Resets without a connection come in a second: one in 125 milliseconds. Where none may go it costs no answer.
how_many_answers_go :
    (strangers_begin ≡ left 100000 8000 0)
    × (spared 0 usual_rules (left 100000 8000 0) true ≡ record { goes = true; strangers = left 99000 7000 0 })
    × ((spared 124 usual_rules (left 100000 0 0) true).goes ≡ false)
    × ((spared 124 usual_rules (left 100000 0 0) true).strangers.answers ≡ record { thousandths = 100000; since = 0 })
    × ((spared 125 usual_rules (left 100000 0 0) true).goes ≡ true)
    × ((spared 9 usual_rules (left 0 0 0) false).goes ≡ false)
    × ((spared 10 usual_rules (left 0 0 0) false).goes ≡ true)
    × ((spared 0 no_rules (left 0 0 0) true).goes ≡ true)
    × ((spared_if 0 usual_rules (left 0 0 0) false None).goes ≡ true)
how_many_answers_go = (refl, refl, refl, refl, refl, refl, refl, refl, refl)

-- No Connection is the code 3 (RFC 4340, section 5.6)
what_has_no_connection :
    (is_no_connection (Some (Stepped (Some (Received (SentReset 3 (0 ∷ 0 ∷ 0 ∷ [])))))) ≡ true)
    × (is_no_connection (Some (Stepped (Some (Received (SentReset 8 (0 ∷ 0 ∷ 0 ∷ [])))))) ≡ false)
    × (is_no_connection (Some WasBusy) ≡ false)
    × (is_no_connection None ≡ false)
what_has_no_connection = (refl, refl, refl, refl)

-- a rule asks for the Ack Ratio that is held, or for another, times out, or gives up
what_rules_do :
    (rule_call rule.Nothing 2 7 ≡ None)
    × (rule_call rule.GiveUp 2 7 ≡ Some Aborts)
    × (rule_call rule.TimeOut 2 7 ≡ Some (Fires timers.Rto))
    × (rule_call rule.Ask 2 7 ≡ Some (Prefers AckRatio Here (2 ∷ [])))
    × (rule_call rule.Probe 2 7 ≡ Some (Prefers AckRatio Here (2 ∷ [])))
    × (rule_call rule.Ratio 2 7 ≡ Some (Prefers AckRatio Here (7 ∷ [])))
    × (call_if_held rule.Ratio 7 None ≡ None)
what_rules_do = (refl, refl, refl, refl, refl, refl, refl)

-- what happens to an end by a call, and by a first datagram
what_happens :
    (called_so Aborts true ≡ happening.Refused)
    × (called_so (Fires timers.Ack) false ≡ happening.Rang timers.Ack)
    × (arrived_so None HadNoMemory true ≡ happening.Opened)
what_happens = (refl, refl, refl)

-- packet 15 was dropped of peer 1 for lack of room, and then of peer 2 for another reason; packet 16 of neither
abbrev both_dropped : List FlowDrop
both_dropped = flow_recorded (peer 2) 15 3 (flow_recorded (peer 1) 15 2 [])

a_flow_has_its_own_drops :
    (flow_drop_code both_dropped (peer 1) 15 ≡ Some 2) × (flow_drop_code both_dropped (peer 2) 15 ≡ Some 3) × (flow_drop_code both_dropped (peer 1) 16 ≡ None)
    × (flow_drop_code (flow_recorded (peer 1) 15 1 both_dropped) (peer 1) 15 ≡ Some 1)
a_flow_has_its_own_drops = (refl, refl, refl, refl)
