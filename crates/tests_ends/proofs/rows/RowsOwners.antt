-- What an owner begins with, in which phases it times packets, and which packets it gets, computed from the definitions. The values are those of
-- docs/PROTOCOL.md and of RFC 4340: an Ack Ratio of 2 (section 11.3), the phases in which the first packet of an end waits for its answer
-- (sections 8.1.1 and 8.1.3), and those in which windows judge what arrives (section 8.5, steps 5 and 6).
use Rattle.std.proofs.Common.{◌≡◌, refl, ℕ, true, false, List, ◌∷◌, length, replicate, Some, None, codes}
use Rattle.data_dropped.specs.Drops.{drop_code}
use Rattle.data_dropped.specs.declared.drops.DropEntry.{DropEntry}
use Rattle.dccp_endpoint.specs.Calling.{opens}
use Rattle.dccp_endpoint.specs.End.{is_live, is_open}
use Rattle.dccp_endpoint.specs.Receiving.{receives}
use Rattle.dccp_states.specs.declared.phase.Phase.TheVariants as phases
use Rattle.validity_windows.specs.declared.verdict.Verdict.TheVariants.{Drop, SyncFor, Valid}
use Rattle.dccp_uses.specs.DropRecord.{drop_recorded}
use Rattle.dccp_uses.specs.Notice.{no_drops, no_notice}
use Rattle.dccp_uses.specs.Path.{classic_pace, is_handshake, is_probing, path_begins, patience, usual_pace}
use Rattle.dccp_uses.specs.Reader.{asks_slower, reader_begins}
use Rattle.dccp_uses.specs.Syncs.{admitted_by, admitted_within, is_sync_verdict, notice_judged, noticed_if}
use Rattle.dccp_uses.specs.Upkeeps.{ruled_condition}
use Rattle.dccp_uses.specs.declared.notice.Notice.{Notice}
use Rattle.dccp_uses.specs.declared.path.Path.{Path}
use Rattle.dccp_uses.specs.declared.sight.Sight.{Sight}
use Rattle.feature_machine.specs.declared.stands.Stand.TheVariants as stand
use Rattle.tests_ends.proofs.rows.RowsSeen.{bytes, open_client, requesting}

-- all rules, and none
all_rules_or_none :
    (usual_pace ≡ record { measures = true; acks_soon = true; moves_ratio = true; probes = true; limits_syncs = true; gives_up = true; heeds = true })
    × (classic_pace
    ≡ record { measures = false; acks_soon = false; moves_ratio = false; probes = false; limits_syncs = false; gives_up = false; heeds = false })
all_rules_or_none = (refl, refl)

-- nothing was in flight, an Ack Ratio of 2, and both buckets of Syncs are full
paths_begin_at_rest :
    ((path_begins usual_pace).most ≡ 0) × ((path_begins usual_pace).before ≡ 0) × ((path_begins usual_pace).period ≡ 0) × ((path_begins usual_pace).aim ≡ 2)
    × ((path_begins usual_pace).near ≡ record { thousandths = 20000; since = 0 }) × ((path_begins usual_pace).far ≡ record { thousandths = 1000; since = 0 })
paths_begin_at_rest = (refl, refl, refl, refl, refl, refl)

-- REQUEST and RESPOND, and only OPEN
phases_of_a_handshake :
    (is_handshake phases.Closed ≡ false) × (is_handshake phases.Listen ≡ false) × (is_handshake phases.Request ≡ true) × (is_handshake phases.Respond ≡ true)
    × (is_handshake phases.PartOpen ≡ false) × (is_handshake phases.Open ≡ false) × (is_handshake phases.CloseReq ≡ false)
    × (is_handshake phases.Closing ≡ false) × (is_handshake phases.TimeWait ≡ false)
    × (is_open phases.Closed ≡ false) × (is_open phases.Listen ≡ false) × (is_open phases.Request ≡ false)
    × (is_open phases.Respond ≡ false) × (is_open phases.PartOpen ≡ false) × (is_open phases.Open ≡ true)
    × (is_open phases.CloseReq ≡ false) × (is_open phases.Closing ≡ false) × (is_open phases.TimeWait ≡ false)
phases_of_a_handshake = (refl, refl, refl, refl, refl, refl, refl, refl, refl, refl, refl, refl, refl, refl, refl, refl, refl, refl)

-- RESPOND to CLOSING; and of the three verdicts one is a Sync
phases_with_windows :
    (is_live phases.Closed ≡ false) × (is_live phases.Listen ≡ false) × (is_live phases.Request ≡ false) × (is_live phases.Respond ≡ true)
    × (is_live phases.PartOpen ≡ true) × (is_live phases.Open ≡ true) × (is_live phases.CloseReq ≡ true) × (is_live phases.Closing ≡ true)
    × (is_live phases.TimeWait ≡ false)
    × (is_sync_verdict Valid ≡ false) × (is_sync_verdict (SyncFor 7) ≡ true) × (is_sync_verdict Drop ≡ false)
phases_with_windows = (refl, refl, refl, refl, refl, refl, refl, refl, refl, refl, refl, refl)

-- The last near number is 2^24 - 1 from 1001, and each number has a bucket for its distance: of 20 tokens, and of one.
abbrev usual : Path
usual = path_begins usual_pace

which_numbers_share_a_bucket :
    ((admitted_by usual (Some 16778216) 1001 1000).path ≡ record usual { near = record { thousandths = 19000; since = 1000 } })
    × ((admitted_by usual (Some 16778217) 1001 1000).path ≡ record usual { far = record { thousandths = 0; since = 1000 } })
    × ((admitted_by usual (Some 281474959934442) 1001 1000).path ≡ record usual { near = record { thousandths = 19000; since = 1000 } })
    × ((admitted_by usual (Some 281474959934441) 1001 1000).path ≡ record usual { far = record { thousandths = 0; since = 1000 } })
    × ((admitted_by usual None 1001 1000) ≡ record { heard = true; path = usual })
    × ((admitted_by usual (Some 1001) 1001 1000).heard ≡ true)
    × ((admitted_by (record usual { near = record { thousandths = 999; since = 1000 } }) (Some 1001) 1001 1000).heard ≡ false)
    × ((admitted_within (record usual { near = record { thousandths = 999; since = 1000 } }) (Some 1001) 1001 1000).heard ≡ false)
    × ((admitted_within (record (path_begins classic_pace) { near = record { thousandths = 999; since = 1000 } }) (Some 1001) 1001 1000).heard ≡ true)
which_numbers_share_a_bucket = (refl, refl, refl, refl, refl, refl, refl, refl, refl)

-- A datagram's word counts if the datagram is taken, and the rule is followed.
when_a_word_counts : (word : Notice) →
    ((noticed_if true word (record { heard = true; path = usual })).path ≡ record usual { notice = word })
    × ((noticed_if true word (record { heard = false; path = record usual { notice = word } })).path ≡ usual)
    × ((noticed_if false word (record { heard = true; path = usual })).path ≡ usual)
when_a_word_counts word = (refl, refl, refl)

-- An Ack of the server with the option Slow Receiver (section 11.6) is judged in OPEN. In REQUEST no windows judge it.
abbrev slow_ack : List ℕ
slow_ack = bytes (codes "13899c400700203c07000000000007d100000000000003e902000000")

where_a_word_is_judged :
    ((notice_judged open_client reader_begins slow_ack).slow ≡ true) × ((notice_judged requesting reader_begins slow_ack).slow ≡ false)
unfolding receives opens
where_a_word_is_judged = (refl, refl)

-- an open end with this many packets in flight and such a window
abbrev flying : ℕ → ℕ → Sight
flying in_flight window =
    record {
      phase = phases.Open;
      gss = 11;
      gar = 8;
      gsr = 5;
      in_flight = in_flight;
      window = window;
      ccid = 2;
      ratio = record { value = 2; stand = stand.Stable };
      width = 100;
    }

-- From a window of 16 on a question goes before the timeout, also of one packet; else rto runs.
which_flights_are_asked_about :
    (is_probing usual (flying 1 16) ≡ true) × (is_probing usual (flying 0 16) ≡ false) × (is_probing usual (flying 1 15) ≡ false)
    × (ruled_condition usual (flying 1 15) ≡ record { phase = phases.Open; in_flight = true })
    × (ruled_condition usual (flying 0 15) ≡ record { phase = phases.Open; in_flight = false })
    × (ruled_condition usual (flying 1 16) ≡ record { phase = phases.Open; in_flight = false })
which_flights_are_asked_about = (refl, refl, refl, refl, refl, refl)

-- how long an end waits for its peer in each phase
how_patient_an_end_is :
    (patience phases.Closed ≡ None) × (patience phases.Listen ≡ None) × (patience phases.Request ≡ Some 180000) × (patience phases.Respond ≡ Some 240000)
    × (patience phases.PartOpen ≡ Some 180000) × (patience phases.Open ≡ Some 180000) × (patience phases.CloseReq ≡ Some 120000)
    × (patience phases.Closing ≡ Some 120000) × (patience phases.TimeWait ≡ None)
how_patient_an_end_is = (refl, refl, refl, refl, refl, refl, refl, refl, refl)

-- One packet that the buffer dropped has the sender go slower, as a slow receiver has.
what_asks_to_go_slower :
    (asks_slower no_notice ≡ false) × (asks_slower (record no_notice { drops = record no_drops { full = 1 } }) ≡ true)
    × (asks_slower (record no_notice { slow = true }) ≡ true)
what_asks_to_go_slower = (refl, refl, refl)

-- the 2,049th drop drives the oldest out
abbrev dropped : ℕ → List DropEntry
dropped others = record { number = 1; code = 2 } ∷ replicate others (record { number = 2; code = 2 })

the_newest_drops_are_recorded :
    (drop_code (drop_recorded 3 7 (dropped 2046)) 1 ≡ Some 2) × (drop_code (drop_recorded 3 7 (dropped 2047)) 1 ≡ None)
    × (drop_code (drop_recorded 3 7 (dropped 2047)) 3 ≡ Some 7) × (length (drop_recorded 3 7 (dropped 2047)) ≡ 2048)
the_newest_drops_are_recorded = (refl, refl, refl, refl)
