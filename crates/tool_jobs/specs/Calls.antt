-- Lines of `listen` (own): a peer, and what happens to it.
use Rattle.std.specs.Prelude.{◌≡◌, ℕ, ◌≤◌, true, List, length, codes, Option, Result}
use Rattle.dccp_listener.specs.declared.peer.Peer.{Peer}
use Rattle.schedule_text.specs.Frames.{replay_row}
use Rattle.schedule_text.specs.Kinds.{timer_kind}
use Rattle.tool_text.specs.Kinds.{dash_kind}
use Rattle.tool_text.specs.Lines.{line_read}
use Rattle.tool_text.specs.Rows.{WordRow, ◌▷◌, after_word, end_row, row_as}
use Rattle.tool_text.specs.declared.words.faults.LineFault.{LineFault}
use Rattle.tool_jobs.specs.Peers.{peer_kind}
use Rattle.tool_jobs.specs.declared.listen.calls.PeerCall.{PeerCall}
use Rattle.tool_jobs.specs.declared.listen.calls.PeerCall.TheVariants as call

-- data for the peer: digits, or a dash for none
abbrev pub send_row : WordRow PeerCall
send_row = row_as (λ s. call.Send s.0) (dash_kind ▷ end_row)

-- the timer of the peer's end that has run out
abbrev pub timer_row : WordRow PeerCall
timer_row = row_as (λ s. call.Timer s.0) (timer_kind ▷ end_row)

-- nothing follows `close`, which ends the connection in order
abbrev pub close_row : WordRow PeerCall
close_row = row_as (λ s. call.Close) end_row

-- nothing follows `abort`, which ends the connection at once
abbrev pub abort_row : WordRow PeerCall
abort_row = row_as (λ s. call.Abort) end_row

-- a frame of the peer: the words that a replay's line has for one
abbrev pub arrival_row : WordRow PeerCall
arrival_row = row_as (λ frame. call.Frame frame) replay_row

-- what happens, by the first word; a line of a frame has no such word
abbrev pub call_row : WordRow PeerCall
call_row =
    after_word (codes "send") send_row
    (after_word (codes "timer") timer_row (after_word (codes "close") close_row (after_word (codes "abort") abort_row arrival_row)))

-- a line: a peer, and what happens to it
abbrev pub peer_row : WordRow (Peer × PeerCall)
peer_row = peer_kind ▷ call_row

-- what a line says, without its newline, or the first of its faults; an empty line and a comment say nothing
abbrev pub read_call : List ℕ → Result (Option (Peer × PeerCall)) LineFault
read_call line = line_read peer_row.said line

-- a frame whose checksum is to be set has room for one
abbrev pub SealsInFull : PeerCall → Type 0
SealsInFull (call.Frame frame) = frame.seal ≡ true → 8 ≤ length frame.bytes
SealsInFull _ = Unit {0}
