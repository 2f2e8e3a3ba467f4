-- Rows of what a sender makes of what it hears of the application that reads its data, computed from the definitions; the values were worked out by
-- hand from RFC 4340, sections 11.6, 11.7 and 11.7.2, and RFC 4341, section 5.2.
use Rattle.std.proofs.Common.{◌≡◌, refl, ℕ, true, false, List, [], ◌∷◌, Option, Some, None}
use Rattle.data_dropped.specs.Drops.{drop_code}
use Rattle.dccp_options.specs.Grammar.{options_of}
use Rattle.dccp_states.specs.declared.phase.Phase.TheVariants as phase
use Rattle.feature_machine.specs.declared.stands.Stand.TheVariants as stand
use Rattle.path_rules.specs.RoundTrip.{with_sample}
use Rattle.path_rules.specs.declared.round_trip.RoundTrip.{RoundTrip}
use Rattle.dccp_uses.specs.DropRecord.{drop_recorded, report_recorded}
use Rattle.dccp_uses.specs.Notice.{new_numbers, new_reach, no_notice, notice_of}
use Rattle.dccp_uses.specs.Path.{classic_pace, path_begins, path_heard, told_timer, usual_pace}
use Rattle.dccp_uses.specs.Reader.{reader_begins, reader_heard, reader_timed_out, restraint_of}
use Rattle.dccp_states.specs.declared.calls.Timer.TheVariants as timers
use Rattle.dccp_uses.specs.declared.notice.Notice.{Notice}
use Rattle.dccp_uses.specs.declared.path.Path.{Path}
use Rattle.dccp_uses.specs.declared.reader.Reader.{Reader}
use Rattle.dccp_uses.specs.declared.reader.Restraint.TheVariants as restraint
use Rattle.dccp_uses.specs.declared.sight.Sight.{Sight}

-- an open end at this GSS and GAR, with this many packets in flight of such a window
abbrev seen : ℕ → ℕ → ℕ → ℕ → Sight
seen gss gar in_flight window =
    record {
      phase = phase.Open;
      gss = gss;
      gar = gar;
      gsr = 5;
      in_flight = in_flight;
      window = window;
      ccid = 2;
      ratio = record { value = 2; stand = stand.Stable };
      width = 100;
    }

-- Reports that go down from 20. The bytes 80+16c+n-1 and n-1 cover n numbers that were dropped with the code c, and n that were not: of 20 and 19 the
-- buffer dropped both, 18 to 16 were not dropped, and 15 was dropped there, too.
abbrev told : Reader → ℕ → List ℕ → Notice
told reader ack body = notice_of reader (Some ack) (options_of body false)

-- reports were counted up to 10
abbrev heard_to_ten : Reader
heard_to_ten = record reader_begins { counted = Some 10 }

abbrev three_full : Notice
three_full = told heard_to_ten 20 (40 ∷ 5 ∷ 161 ∷ 2 ∷ 160 ∷ [])

-- the numbers after the last that was counted; 2,048 at most, and where none was
a_report_is_read_so_far :
    (new_reach None 20 ≡ 2048) × (new_reach (Some 10) 20 ≡ 10) × (new_reach (Some 20) 20 ≡ 0) × (new_reach (Some 30) 20 ≡ 0)
    × (new_reach (Some 10) 5000 ≡ 2048) × (new_numbers (Some 17) 20 ≡ 20 ∷ 19 ∷ 18 ∷ [])
a_report_is_read_so_far = (refl, refl, refl, refl, refl, refl)

-- three; counted up to 17 two of them are new, up to 20 none is, and from an older number none is read
three_are_told :
    (three_full.drops.full ≡ 3) × (three_full.ack ≡ Some 20) × (three_full.slow ≡ false) × (three_full.drops.stopped ≡ false)
    × ((told (record reader_begins { counted = Some 17 }) 20 (40 ∷ 5 ∷ 161 ∷ 2 ∷ 160 ∷ [])).drops.full ≡ 2)
    × ((told (record reader_begins { counted = Some 20 }) 20 (40 ∷ 5 ∷ 161 ∷ 2 ∷ 160 ∷ [])).drops.full ≡ 0)
    × ((told (record reader_begins { counted = Some 30 }) 20 (40 ∷ 5 ∷ 161 ∷ 2 ∷ 160 ∷ [])).drops.full ≡ 0)
    × ((notice_of heard_to_ten None (options_of (40 ∷ 5 ∷ 161 ∷ 2 ∷ 160 ∷ []) false)).drops.full ≡ 0)
three_are_told = (refl, refl, refl, refl, refl, refl, refl, refl)

-- each code by itself: 0 the protocol, 1 no application; 3 to 7 count as marks, unless the window was halved for what was sent by then. A Slow Receiver is
-- one byte, 2.
codes_mean :
    ((told heard_to_ten 20 (40 ∷ 3 ∷ 128 ∷ [])).drops.refused ≡ true) × ((told heard_to_ten 20 (40 ∷ 3 ∷ 144 ∷ [])).drops.stopped ≡ true)
    × ((told heard_to_ten 20 (40 ∷ 3 ∷ 176 ∷ [])).drops.marked ≡ true) × ((told heard_to_ten 20 (40 ∷ 3 ∷ 240 ∷ [])).drops.marked ≡ true)
    × ((told heard_to_ten 20 (40 ∷ 3 ∷ 160 ∷ [])).drops.marked ≡ false)
    × ((told (record heard_to_ten { mark = Some 19 }) 20 (40 ∷ 3 ∷ 176 ∷ [])).drops.marked ≡ true)
    × ((told (record heard_to_ten { mark = Some 20 }) 20 (40 ∷ 3 ∷ 176 ∷ [])).drops.marked ≡ false)
    × ((told heard_to_ten 20 (2 ∷ [])).slow ≡ true) × ((told heard_to_ten 20 (0 ∷ 40 ∷ 3 ∷ 160 ∷ 2 ∷ [])).slow ≡ true)
    × ((notice_of heard_to_ten None (options_of (2 ∷ []) true)).slow ≡ true)
codes_mean = (refl, refl, refl, refl, refl, refl, refl, refl, refl, refl)

-- the drops are recorded from the acknowledgement number down
drops_are_recorded :
    (drop_code (report_recorded drop_recorded (Some 10) (Some (record { ack = 20; bytes = 161 ∷ 2 ∷ 160 ∷ [] })) []) 15 ≡ Some 2)
    × (drop_code (report_recorded drop_recorded (Some 10) (Some (record { ack = 20; bytes = 161 ∷ 2 ∷ 160 ∷ [] })) []) 16 ≡ None)
    × (drop_code (report_recorded drop_recorded (Some 15) (Some (record { ack = 20; bytes = 161 ∷ 2 ∷ 160 ∷ [] })) []) 15 ≡ None)
drops_are_recorded = (refl, refl, refl)

-- a round trip of 40 milliseconds
abbrev trip : Option RoundTrip
trip = Some (with_sample None 40)

-- At 1,000 a packet acknowledges 10 of 100 that were in flight, the whole window, and reports that three were dropped: 97 are left.
abbrev slowed : Reader
slowed = reader_heard trip heard_to_ten three_full (seen 30 10 100 100) (seen 30 20 90 100) 1000

-- The next one, 39 milliseconds later, acknowledges 90 more, and another, a millisecond after that, 97: the window stays, and then opens by one
-- packet.
abbrev held : Reader
held = reader_heard trip slowed no_notice (seen 120 20 90 100) (seen 120 110 0 102) 1039

abbrev opened : Reader
opened = reader_heard trip held no_notice (seen 220 110 97 102) (seen 220 207 0 104) 1040

the_window_follows :
    (slowed.allowance ≡ Some (record { most = 97; acked = 0 })) × (slowed.counted ≡ Some 20) × (held.allowance ≡ Some (record { most = 97; acked = 0 }))
    × (opened.allowance ≡ Some (record { most = 98; acked = 0 }))
    × ((reader_heard trip held no_notice (seen 220 110 96 102) (seen 220 206 0 104) 1040).allowance ≡ Some (record { most = 97; acked = 96 }))
    × ((reader_heard trip held no_notice (seen 220 110 97 102) (seen 220 207 0 97) 1040).allowance ≡ Some (record { most = 48; acked = 0 }))
the_window_follows = (refl, refl, refl, refl, refl, refl)

-- If no round trip was measured, the window stays until what was sent by then, up to 30, is acknowledged.
a_round_trip_is_waited_for :
    ((reader_heard None slowed no_notice (seen 120 20 97 100) (seen 120 29 0 100) 9000).allowance ≡ Some (record { most = 97; acked = 0 }))
    × ((reader_heard None slowed no_notice (seen 120 20 97 100) (seen 120 30 0 100) 1001).allowance ≡ Some (record { most = 98; acked = 0 }))
a_round_trip_is_waited_for = (refl, refl)

-- A slow receiver has the window stand where it is, as does one packet less than one; what opens it goes no further than the congestion control's.
abbrev slow_word : Notice
slow_word = record no_notice { slow = true }

abbrev three_at : ℕ → Reader
three_at window = reader_heard trip heard_to_ten three_full (seen 30 10 window window) (seen 30 20 0 window) 1000

slow_is_heeded :
    ((reader_heard trip heard_to_ten slow_word (seen 30 10 40 50) (seen 30 20 30 55) 1000).allowance ≡ Some (record { most = 50; acked = 0 }))
    × ((three_at 3).allowance ≡ Some (record { most = 1; acked = 0 })) × ((three_at 4).allowance ≡ Some (record { most = 1; acked = 0 }))
    × ((reader_heard None (record (three_at 10) { hold = None }) no_notice (seen 60 30 7 7) (seen 60 60 0 7) 2000).allowance ≡ Some (record { most = 7; acked = 0 }))
slow_is_heeded = (refl, refl, refl, refl)

-- A packet that was corrupt halves the window once for all that was sent by then; a loss that the congestion control has halved its own window for does so too.
abbrev corrupt : Reader
corrupt = reader_heard trip heard_to_ten (told heard_to_ten 20 (40 ∷ 3 ∷ 176 ∷ [])) (seen 30 10 60 60) (seen 30 20 50 62) 1000

marks_halve :
    (corrupt.allowance ≡ Some (record { most = 30; acked = 0 })) × (corrupt.mark ≡ Some 30) × (corrupt.hold ≡ None)
    × ((reader_heard trip corrupt (told corrupt 30 (40 ∷ 3 ∷ 176 ∷ [])) (seen 40 20 30 62) (seen 40 30 20 62) 1010).allowance ≡ Some (record { most = 30; acked = 10 }))
    × ((reader_heard trip corrupt (told corrupt 31 (40 ∷ 3 ∷ 176 ∷ [])) (seen 40 20 30 62) (seen 40 31 20 62) 1010).allowance ≡ Some (record { most = 15; acked = 0 }))
    × ((reader_heard trip heard_to_ten no_notice (seen 30 10 60 60) (seen 30 20 50 30) 1000).mark ≡ Some 30)
    × ((reader_heard trip heard_to_ten no_notice (seen 30 10 60 60) (seen 30 20 50 30) 1000).allowance ≡ None)
marks_halve = (refl, refl, refl, refl, refl, refl, refl)

-- after a timeout slow start goes up to half of what was left, two at least
a_timeout_halves :
    ((reader_timed_out slowed 40).allowance ≡ Some (record { most = 48; acked = 0 })) × ((reader_timed_out (three_at 4) 40).allowance ≡ Some (record { most = 2; acked = 0 }))
    × ((reader_timed_out slowed 40).mark ≡ Some 40) × ((reader_timed_out reader_begins 40).allowance ≡ None)
a_timeout_halves = (refl, refl, refl, refl)

-- Data wait where as many packets are in flight as are left, and for good where no application listens.
abbrev deaf : Reader
deaf = reader_heard trip heard_to_ten (told heard_to_ten 20 (40 ∷ 3 ∷ 144 ∷ [])) (seen 30 10 60 60) (seen 30 20 50 60) 1000

data_wait :
    (restraint_of slowed 97 ≡ Some restraint.Full) × (restraint_of slowed 96 ≡ None) × (restraint_of reader_begins 1024 ≡ None)
    × (restraint_of deaf 0 ≡ Some restraint.NotListening) × (deaf.allowance ≡ None)
    × ((reader_heard trip heard_to_ten (told heard_to_ten 20 (40 ∷ 3 ∷ 128 ∷ [])) (seen 30 10 60 60) (seen 30 20 50 60) 1000).refused ≡ true)
data_wait = (refl, refl, refl, refl, refl, refl)

-- What a packet says counts if it was taken and the rule is followed; and what was said is gone then.
abbrev warned : Path
warned = record (path_begins usual_pace) { notice = three_full }

a_word_counts_once :
    ((path_heard warned (seen 30 10 100 100) (seen 30 20 90 100) true 1000).reader.allowance ≡ Some (record { most = 97; acked = 0 }))
    × ((path_heard warned (seen 30 10 100 100) (seen 30 20 90 100) true 1000).notice ≡ no_notice)
    × ((path_heard warned (seen 30 10 100 100) (seen 30 20 90 100) false 1000).reader ≡ reader_begins)
    × ((path_heard warned (seen 30 10 100 100) (seen 30 20 90 100) false 1000).notice ≡ no_notice)
    × ((path_heard (record warned { pace = classic_pace }) (seen 30 10 100 100) (seen 30 20 90 100) true 1000).reader ≡ reader_begins)
    × ((told_timer (record (path_begins usual_pace) { reader = slowed }) timers.Rto (seen 40 20 0 1) 3000).reader.allowance ≡ Some (record { most = 48; acked = 0 }))
a_word_counts_once = (refl, refl, refl, refl, refl, refl)
