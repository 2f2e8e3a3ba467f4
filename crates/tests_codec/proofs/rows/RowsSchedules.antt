-- Worked lines of schedules and replays, read and printed: bytes above 127, the greatest index, and the faults of a single line. The values are
-- by hand, after the texts of the tool's forms (own).
use Rattle.std.proofs.Common.{◌≡◌, refl, ℕ, ◌^◌, ◌<◌, ◌≤◌, length, true, false, List, [], ◌∷◌, ◌++◌, codes, None, Some, Ok, Err, Result}
use Rattle.std.proofs.Math.ListN.{replicate}
use Rattle.std.specs.Fmt.{digits}
use Prim.Native.String.{String}
use Rattle.world_events.specs.declared.event.Side.TheVariants.{Client, Server}
use Rattle.world_events.specs.declared.event.Event.{Event}
use Rattle.world_events.specs.declared.event.Event.TheVariants as event
use Rattle.dccp_states.specs.declared.seen.Seen.TheVariants.{Fired}
use Rattle.dccp_states.specs.declared.calls.Timer.TheVariants as timer
use Rattle.tool_text.specs.declared.words.faults.LineFault.{LineFault}
use Rattle.tool_text.specs.declared.words.faults.LineWhy.TheVariants as why
use Rattle.tool_text.specs.Refusals.{fault_at, refusal_line}
use Rattle.schedule_text.specs.declared.line.Line.{Line}
use Rattle.schedule_text.specs.declared.line.Line.TheVariants as line
use Rattle.schedule_text.specs.Frames.{frame_line, read_frame}
use Rattle.schedule_text.specs.Printing.{event_text}
use Rattle.hex.specs.Hex.{IsBytes}
use Rattle.schedule_text.specs.Range.{IsPrintable}
use Rattle.schedule_text.specs.Reading.{read_line}
use Rattle.schedule_text.specs.Results.{result_line, seen_line}

-- A byte that is no text, at its column: 195 and 169, 255, and the least, 128
bytes_above_127 :
    (read_line (codes "x y z " ++ 195 ∷ 169 ∷ []) ≡ Err (fault_at 7 why.NotText))
    × (read_frame (codes "#" ++ 255 ∷ []) ≡ Err (fault_at 2 why.NotText))
    × (read_line (codes "#" ++ 128 ∷ []) ≡ Err (fault_at 2 why.NotText))
bytes_above_127 = (refl, refl, refl)

-- No other fault of the line is looked for.
a_line_of_4097_bytes_is_too_long :
    (read_line (replicate 4097 7) ≡ Err (fault_at 4097 why.LineTooLong))
    × (read_line (replicate 4096 7) ≡ Err (fault_at 1 why.NotText))
    × (read_line (replicate 4096 35) ≡ Ok line.Nothing)
    × (read_frame (replicate 4097 35) ≡ Err (fault_at 4097 why.LineTooLong))
    × (read_frame (replicate 4096 35) ≡ Ok None)
a_line_of_4097_bytes_is_too_long = (refl, refl, refl, refl, refl)

-- an event is what its line says, and is printed as its line
abbrev IsSaid : Event → String → Type 0
IsSaid said text = (read_line (codes text) ≡ Ok (line.Event said)) × (event_text said ≡ codes text)

-- The events of an example, at whose ends the numbers pass the greatest one
events_are_printed_as_their_lines :
    IsSaid event.Open "open"
    × IsSaid (event.Deliver Client 0) "deliver c0"
    × IsSaid (event.Deliver Server 0) "deliver s0"
    × IsSaid (event.Deliver Client 1) "deliver c1"
    × IsSaid (event.Deliver Server 1) "deliver s1"
    × IsSaid (event.Timer Client timer.Ack) "timer client ack"
    × IsSaid (event.Deliver Client 2) "deliver c2"
unfolding digits
events_are_printed_as_their_lines = ((refl, refl), (refl, refl), (refl, refl), (refl, refl), (refl, refl), (refl, refl), (refl, refl))

-- Deliveries and timers, read and printed; that a line that says another event keeps nothing of it is run by `each_event` of examples/
events_become_others :
    IsSaid (event.Deliver Client 3) "deliver c3"
    × IsSaid (event.Deliver Server 4) "deliver s4"
    × IsSaid (event.Timer Client timer.Ack) "timer client ack"
    × IsSaid (event.Timer Server timer.Rto) "timer server rto"
unfolding digits
events_become_others = ((refl, refl), (refl, refl), (refl, refl), (refl, refl))

-- The greatest index, and a timer's results in a schedule and in a replay
what_is_printed :
    IsSaid (event.Deliver Client 140737488355327) "deliver c140737488355327"
    × (read_line (codes "deliver c140737488355328") ≡ Err (fault_at 9 why.BadNumber))
    × (seen_line 7 event.Open (Fired true) [] ≡ codes "7 open: fired\n")
    × (result_line 8 (Fired false) [] ≡ codes "8: idle\n")
unfolding digits
what_is_printed = ((refl, refl), refl, refl, refl)

-- Frames with and without `seal`
frames_with_and_without_seal :
    (read_frame (codes "fF") ≡ Ok (Some (frame_line false (255 ∷ []))))
    × (read_frame (codes "seal 0011223344556677") ≡ Ok (Some (frame_line true (0 ∷ 17 ∷ 34 ∷ 51 ∷ 68 ∷ 85 ∷ 102 ∷ 119 ∷ []))))
frames_with_and_without_seal = (refl, refl)

-- the line that refuses a schedule's line with this number
abbrev refused_at : ℕ → Result Line LineFault → List ℕ
refused_at number (Ok said) = []
refused_at number (Err fault) = refusal_line number fault

abbrev IsRefused : ℕ → List ℕ → String → Type 0
IsRefused number text refusal = refused_at number (read_line text) ≡ codes refusal

-- The faults of a line by itself
faults_of_a_line :
    IsRefused 1 (codes "version 0") "line 1 column 9: BadNumber\n"
    × IsRefused 2 (codes "#" ++ 9 ∷ []) "line 2 column 2: NotText\n"
    × IsRefused 1 (codes "set" ++ 127 ∷ []) "line 1 column 4: NotText\n"
    × IsRefused 1 (codes "send") "line 1 column 6: Missing\n"
    × IsRefused 2 (codes "send client  x") "line 2 column 13: Missing\n"
    × IsRefused 1 (codes "send client abc") "line 1 column 16: BadHex\n"
    × IsRefused 1 (codes "set") "line 1 column 5: Missing\n"
    × IsRefused 2 (codes "prefer client  x") "line 2 column 15: Missing\n"
    × IsRefused 1 (codes "settle") "line 1 column 1: UnknownWord\n"
    × IsRefused 1 (codes "set client here 1 3") "line 1 column 19: BadList\n"
    × IsRefused 2 (codes "set client there 3 200") "line 2 column 20: NotOurs\n"
    × IsRefused 1 (codes "offer server there 5 mandatory") "line 1 column 20: NotOurs\n"
    × IsRefused 1 (codes " plain") "line 1 column 1: Missing\n"
    × IsRefused 1 (codes "deliver") "line 1 column 9: Missing\n"
    × IsRefused 1 (codes "deliver x0") "line 1 column 9: UnknownWord\n"
    × IsRefused 1 (codes "deliver c00") "line 1 column 9: BadNumber\n"
    × IsRefused 1 (codes "iss server 281474976710656") "line 1 column 12: BadNumber\n"
    × IsRefused 2 (codes "open ") "line 2 column 6: Trailing\n"
unfolding digits
faults_of_a_line = (refl, refl, refl, refl, refl, refl, refl, refl, refl, refl, refl, refl, refl, refl, refl, refl, refl, refl)

-- What can be said of an event, and so is read back where it was printed: data of up to 2,042 bytes, and indices below 2^47
events_that_a_line_says :
    ((payload : List ℕ) → length payload ≤ 2042 → IsBytes payload → IsPrintable (event.Send Client payload))
    × ((index : ℕ) → index < 2 ^ 47 → IsPrintable (event.Deliver Server index))
events_that_a_line_says = (λ payload few bytes. record { few = few; bytes = bytes }, λ index few. few)
