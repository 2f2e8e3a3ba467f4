-- Rows of a server's room, computed from the definitions; the values were worked out by hand.
use Rattle.std.proofs.Common.{◌≡◌, refl, map, ℕ, ◌-◌, ◌^◌, true, false, List, [], ◌∷◌, Option, Some, None}
use Rattle.dccp_packets.specs.Outgoing.{Outgoing}
use Rattle.dccp_listener.specs.Chain.{Aborts, Calls, Fires}
use Rattle.dccp_listener.specs.declared.config.ListenConfig.{ListenConfig}
use Rattle.dccp_listener.specs.declared.peer.Peer.{Peer}
use Rattle.dccp_states.specs.declared.calls.Timer.TheVariants as timers
use Rattle.dccp_states.specs.declared.outcome.Outcome.TheVariants.{Dropped, Synced, Took, WasReset}
use Rattle.dccp_states.specs.declared.outcome.Why.TheVariants.{StrayReset}
use Rattle.dccp_states.specs.declared.phase.Phase.{Phase}
use Rattle.dccp_states.specs.declared.phase.Phase.TheVariants as phase
use Rattle.dccp_uses.specs.declared.pace.Pace.{Pace}
use Rattle.dccp_uses.specs.declared.rule.Rule.TheVariants as rule
use Rattle.dccp_uses.specs.declared.timed_end.Due.TheVariants as due
use Rattle.server_peers.specs.Lives.{Lives, life_of, no_life, no_signs, rank_of, signs_in}
use Rattle.server_peers.specs.Places.{peer_after}
use Rattle.dccp_server.specs.Rooms.{Room, as_room, doing_for, duty_in, duty_of, is_crowded, is_to_stranger, room_begins, room_waits, who_is_over, who_leaves}
use Rattle.server_peers.specs.Rules.{longest, makes_way, no_rules, over_in, queue_of_lives, usual_rules}
use Rattle.dccp_server.specs.Anew.{begins_anew, refuses_last_sync, signs_noted}
use Rattle.dccp_server.specs.Serving.{Does, Follows, ServedListener, serving_begins}
use Rattle.dccp_server.specs.declared.duty.Duty.TheVariants.{Follow, GiveUp, Ring}
use Rattle.server_peers.specs.declared.life.Life.{Life}
use Rattle.server_peers.specs.declared.life.Signs.{Signs}
use Rattle.server_peers.specs.declared.stage.Stage.TheVariants.{HalfOpen, Lingering}

-- a peer at an address that ends so
abbrev at : ℕ → Peer
at last = record { address = 10 ∷ 0 ∷ 0 ∷ last ∷ []; port = 40000 }

-- a flow that is in a phase since then, and whose last Sync had this number
abbrev standing : Phase → ℕ → Option ℕ → Life
standing in-phase since sync = record { phase = in-phase; since = since; taken = 0; sync = sync; user = 0 }

-- the phases in the order of RFC 4340, section 8.4
phases_in_order :
    map rank_of
    (phase.Closed ∷ phase.Listen ∷ phase.Request ∷ phase.Respond ∷ phase.PartOpen ∷ phase.Open ∷ phase.CloseReq ∷ phase.Closing ∷ phase.TimeWait ∷ [])
    ≡ 0 ∷ 1 ∷ 2 ∷ 3 ∷ 4 ∷ 5 ∷ 6 ∷ 7 ∷ 8 ∷ []
phases_in_order = refl

-- a peer without a flow has no life
abbrev two_lives : Lives
two_lives = (at 1, standing phase.Open 5 None) ∷ (at 2, standing phase.Respond 9 None) ∷ []

whose_life_it_is :
    (life_of two_lives (at 2) ≡ standing phase.Respond 9 None)
    × (life_of two_lives (at 3) ≡ no_life)
    × (no_life.phase ≡ phase.Closed)
whose_life_it_is = (refl, refl, refl)

-- Peers come by address and then by port; one without a flow has a place among them.
which_peer_is_next :
    (peer_after (at 1) (at 1 ∷ at 3 ∷ []) ≡ Some (at 3))
    × (peer_after (at 2) (at 1 ∷ at 3 ∷ []) ≡ Some (at 3))
    × (peer_after (at 3) (at 1 ∷ at 3 ∷ []) ≡ None)
    × (peer_after (at 0) (at 1 ∷ at 3 ∷ []) ≡ Some (at 1))
    × (peer_after (record { address = 10 ∷ 0 ∷ 0 ∷ 3 ∷ []; port = 39999 }) (at 1 ∷ at 3 ∷ []) ≡ Some (at 3))
    × (peer_after (record { address = 10 ∷ 0 ∷ 0 ∷ 3 ∷ []; port = 40001 }) (at 1 ∷ at 3 ∷ []) ≡ None)
    × (peer_after (record { address = 9 ∷ 0 ∷ 0 ∷ 9 ∷ []; port = 50000 }) (at 1 ∷ at 3 ∷ []) ≡ Some (at 1))
which_peer_is_next = (refl, refl, refl, refl, refl, refl, refl)

-- Of flows that stand equally long the first in the order of peers makes room; one in TIMEWAIT goes before any other,
-- however long that one stands.
who_is_first_of_equals :
    (makes_way usual_rules false 0 ((at 1, standing phase.TimeWait 300 None) ∷ (at 2, standing phase.TimeWait 300 None) ∷ []) ≡ Some (at 1))
    × (makes_way usual_rules true 20000 ((at 1, standing phase.Respond 0 None) ∷ (at 2, standing phase.Respond 0 None) ∷ []) ≡ Some (at 1))
    × (makes_way usual_rules true 20000 ((at 1, standing phase.Respond 0 None) ∷ (at 2, standing phase.TimeWait 19999 None) ∷ []) ≡ Some (at 2))
    × (makes_way usual_rules true 900000 ((at 1, standing phase.Open 0 None) ∷ (at 2, standing phase.Closing 0 None) ∷ []) ≡ None)
who_is_first_of_equals = (refl, refl, refl, refl)

-- RESPOND is over once its ten seconds in a crowd are, and no other phase counts as it
which_phases_may_leave :
    (over_in usual_rules true 10000 HalfOpen ((at 1, standing phase.Respond 0 None) ∷ []) ≡ Some (record { class = 0; time = 0; peer = at 1 }))
    × (over_in usual_rules true 9999 HalfOpen ((at 1, standing phase.Respond 0 None) ∷ []) ≡ None)
    × (over_in usual_rules false 10000 HalfOpen ((at 1, standing phase.Respond 0 None) ∷ []) ≡ None)
    × (over_in usual_rules true 900000 HalfOpen ((at 1, standing phase.PartOpen 0 None) ∷ []) ≡ None)
    × (longest Lingering ((at 1, standing phase.Closing 0 None) ∷ []) ≡ None)
    × (over_in usual_rules true 900000 Lingering ((at 1, standing phase.TimeWait 0 None) ∷ []) ≡ None)
which_phases_may_leave = (refl, refl, refl, refl, refl, refl)

-- the order of stages, and since when a flow counts in each
how_flows_are_queued :
    (queue_of_lives ((at 1, standing phase.TimeWait 7 None) ∷ (at 2, standing phase.Closing 6 None) ∷ (at 3, standing phase.CloseReq 5 None) ∷ (at 4, standing phase.Open 4 None) ∷ (at 5, standing phase.Respond 3 None) ∷ (at 6, standing phase.Respond 2 None) ∷ (at 7, standing phase.Request 1 None) ∷ [])
    ≡ record { class = 0; time = 2; peer = at 6 } ∷ record { class = 0; time = 3; peer = at 5 } ∷ record { class = 1; time = 0; peer = at 4 }
    ∷ record { class = 2; time = 5; peer = at 3 } ∷ record { class = 2; time = 6; peer = at 2 } ∷ record { class = 3; time = 7; peer = at 1 } ∷ [])
how_flows_are_queued = refl

-- A Reset of 28 bytes (RFC 4340, section 5.6) from port 40,000 to 5,001: number 5, acknowledges 77, and this code.
abbrev reset_of_77 : ℕ → List ℕ
reset_of_77 code =
    156 ∷ 64 ∷ 19 ∷ 137 ∷ 7 ∷ 0 ∷ 0 ∷ 0 ∷ 15 ∷ 0 ∷ 0 ∷ 0 ∷ 0 ∷ 0 ∷ 0 ∷ 5 ∷ 0 ∷ 0 ∷ 0 ∷ 0 ∷ 0 ∷ 0 ∷ 0 ∷ 77 ∷ code ∷ 0 ∷ 0 ∷ 0 ∷ []

abbrev was_synced : Signs
was_synced = record { taken = false; synced = true }

-- A client that begins anew answers the Sync of its old flow by a Reset with the code 4, Packet Error, of that number. It
-- counts where the old flow answered with a Sync once more, and by rules that end old flows.
when_a_peer_begins_anew :
    (refuses_last_sync usual_rules (standing phase.Open 0 (Some 77)) (reset_of_77 4) ≡ true)
    × (refuses_last_sync usual_rules (standing phase.Open 0 (Some 78)) (reset_of_77 4) ≡ false)
    × (refuses_last_sync usual_rules (standing phase.Open 0 None) (reset_of_77 4) ≡ false)
    × (refuses_last_sync usual_rules (standing phase.Open 0 (Some 77)) (reset_of_77 2) ≡ false)
    × (refuses_last_sync usual_rules (standing phase.Open 0 (Some 77)) [] ≡ false)
    × (refuses_last_sync no_rules (standing phase.Open 0 (Some 77)) (reset_of_77 4) ≡ false)
    × (begins_anew usual_rules (standing phase.Open 0 (Some 77)) (reset_of_77 4) was_synced ≡ true)
    × (begins_anew usual_rules (standing phase.Open 0 (Some 77)) (reset_of_77 4) no_signs ≡ false)
when_a_peer_begins_anew = (refl, refl, refl, refl, refl, refl, refl, refl)

-- a Sync that answers such a Reset is not noted, whatever its number
which_syncs_are_noted :
    (signs_noted (reset_of_77 4) was_synced ≡ no_signs)
    × (signs_noted (reset_of_77 2) was_synced ≡ was_synced)
    × (signs_noted [] was_synced ≡ was_synced)
    × (signs_noted (reset_of_77 4) (record { taken = true; synced = false }) ≡ record { taken = true; synced = false })
which_syncs_are_noted = (refl, refl, refl, refl)

-- what is taken is a sign of life, with data or without
what_each_outcome_tells :
    (signs_in (Took (Some (16, 20))) ≡ record { taken = true; synced = false })
    × (signs_in (Took None) ≡ record { taken = true; synced = false })
    × (signs_in (Synced 77) ≡ was_synced)
    × (signs_in (Dropped StrayReset) ≡ no_signs)
    × (signs_in (WasReset 2) ≡ no_signs)
what_each_outcome_tells = (refl, refl, refl, refl, refl)

-- what is due of a flow comes before a flow that is over
module _ (s : ServedListener) where
  what_comes_first :
      (duty_of 5 s (Some (at 1, due.Timer timers.Ack)) (Some (at 2)) ≡ Some (Ring (at 1) timers.Ack))
      × (duty_of 5 s None (Some (at 2)) ≡ Some (GiveUp (at 2)))
      × (duty_of 5 s None None ≡ None)
  what_comes_first = (refl, refl, refl)

-- who is given up aborts
what_a_duty_does :
    (doing_for (GiveUp (at 2)) ≡ Does (Calls Aborts))
    × (doing_for (Ring (at 1) timers.Close) ≡ Does (Calls (Fires timers.Close)))
    × (doing_for (Follow (at 1) rule.Probe) ≡ Follows)
what_a_duty_does = (refl, refl, refl)

-- a listener, whatever else it is made from
module _ (config : ListenConfig) (pace : Pace) where
  -- a room of this many places with these lives, of which nothing runs out
  abbrev room_of : ℕ → Lives → Room
  room_of most lives = as_room (serving_begins (record config { most = most }) pace) lives

  abbrev three_half_open : ℕ → Room
  three_half_open most =
      room_of most ((at 1, standing phase.Respond 100 None) ∷ (at 2, standing phase.Respond 50 None) ∷ (at 3, standing phase.Respond 70 None) ∷ [])

  abbrev beside_two_open : ℕ → Room
  beside_two_open most =
      room_of most
      ((at 1, standing phase.Respond 100 None) ∷ (at 2, standing phase.Respond 50 None) ∷ (at 3, standing phase.Respond 70 None) ∷ (at 4, standing phase.Open 0 None)
      ∷ (at 5, standing phase.Open 0 None) ∷ [])

  -- one half open is a crowd at a table of one, and none is none
  what_one_is :
      (is_crowded (room_of 1 ((at 1, standing phase.Respond 0 None) ∷ [])) ≡ true)
      × (is_crowded (room_of 2 ((at 1, standing phase.Respond 0 None) ∷ [])) ≡ false)
      × (is_crowded (room_of 1 ((at 1, standing phase.Open 0 None) ∷ [])) ≡ false)
      × (is_crowded (room_of 1 []) ≡ false)
  what_one_is = (refl, refl, refl, refl)

  -- Three of six are no crowd, three of five are; nor three of the six that two others leave of eight. In a crowd the one
  -- that stands longest makes room after ten seconds, and is given up.
  what_a_crowd_is :
      (is_crowded (three_half_open 6) ≡ false)
      × (is_crowded (three_half_open 5) ≡ true)
      × (is_crowded (beside_two_open 8) ≡ false)
      × (is_crowded (beside_two_open 7) ≡ true)
      × (who_leaves 10049 usual_rules (three_half_open 5) ≡ None)
      × (who_leaves 10050 usual_rules (three_half_open 5) ≡ Some (at 2))
      × (who_leaves 10100 usual_rules (three_half_open 5) ≡ Some (at 2))
      × (who_leaves 10100 usual_rules (three_half_open 6) ≡ None)
      × (who_leaves 10100 usual_rules (beside_two_open 7) ≡ Some (at 2))
      × (who_is_over 10069 usual_rules (three_half_open 5) ≡ Some (at 2))
      × (who_is_over 10100 usual_rules (three_half_open 5) ≡ Some (at 2))
      × (who_is_over 10100 usual_rules (three_half_open 6) ≡ None)
  what_a_crowd_is = (refl, refl, refl, refl, refl, refl, refl, refl, refl, refl, refl, refl)

  -- how long it is until one is given up: in a crowd ten seconds from 50 on, else four minutes; for ever without flows
  how_long_a_room_waits :
      (room_waits 1050 usual_rules (three_half_open 5) ≡ 9000)
      × (room_waits 1050 usual_rules (three_half_open 6) ≡ 239000)
      × (room_waits 10100 usual_rules (three_half_open 5) ≡ 0)
      × (room_waits 1050 no_rules (three_half_open 5) ≡ 2 ^ 64 - 1)
      × (room_waits 1050 usual_rules (room_begins config pace) ≡ 2 ^ 64 - 1)
  how_long_a_room_waits = (refl, refl, refl, refl, refl)

  -- what there is to do in a room: nothing of a flow is due, so that one is given up
  what_there_is_to_do :
      (duty_in 10060 usual_rules (three_half_open 5) ≡ Some (GiveUp (at 2)))
      × (duty_in 10060 usual_rules (three_half_open 6) ≡ None)
      × (duty_in 10060 usual_rules (room_begins config pace) ≡ None)
  what_there_is_to_do = (refl, refl, refl)

  -- a frame for a peer without a flow goes to a stranger
  who_is_a_stranger : (frame : Outgoing)
      → (is_to_stranger (room_begins config pace) (room_begins config pace) (at 1) (Some frame) ≡ true)
      × (is_to_stranger (room_begins config pace) (room_begins config pace) (at 1) None ≡ false)
  who_is_a_stranger frame = (refl, refl)
