-- A frame whose checksum is to be set has room for one.
use Rattle.std.proofs.Common.{◌≡◌, refl, ℕ, ◌≤◌, List, length, Bool, true, false, if◌then◌else◌, Option, Some, None, Result, Ok, Err}
use Rattle.std.specs.Prelude.{codes, IfOk, IfSome}
use Rattle.std.specs.Str.{bytes_eq}
use Rattle.dccp_listener.specs.declared.peer.Peer.{Peer}
use Rattle.dccp_states.specs.declared.calls.Timer.{Timer}
use Rattle.schedule_text.specs.Frames.{replay_row}
use Rattle.schedule_text.specs.Kinds.{timer_kind}
use Rattle.schedule_text.specs.declared.line.FrameLine.{FrameLine}
use Rattle.schedule_text.proofs.FrameForms.{frame-covered}
use Rattle.tool_text.specs.Kinds.{dash_kind, word_read}
use Rattle.tool_text.specs.Lines.{clean, says_nothing}
use Rattle.tool_text.specs.Rows.{◌>>=◌, ◌>>◌, ◌▷◌, end_row, made}
use Rattle.tool_text.specs.Words.{WordsLeft, first_word, later, words_of}
use Rattle.tool_text.specs.declared.words.faults.LineFault.{LineFault}
use Rattle.tool_jobs.specs.Calls.{SealsInFull, abort_row, arrival_row, call_row, close_row, peer_row, read_call, send_row, timer_row}
use Rattle.tool_jobs.specs.Peers.{peer_kind}
use Rattle.tool_jobs.specs.declared.listen.calls.PeerCall.{PeerCall}
use Rattle.tool_jobs.specs.declared.listen.calls.PeerCall.TheVariants as call

abbrev AllSealed : Result PeerCall LineFault → Type 0
AllSealed r = IfOk r SealsInFull

made-sealed : {A : Type 0} (make : A → PeerCall) (r : Result A LineFault) → ((x : A) → SealsInFull (make x)) → AllSealed (made make r)
made-sealed make (Ok x) sealed = sealed x
made-sealed make (Err fault) sealed = tt

frame-sealed : (r : Result FrameLine LineFault) → ((frame : FrameLine) → r ≡ Ok frame → frame.seal ≡ true → 8 ≤ length frame.bytes)
    → AllSealed (made (λ (frame : FrameLine). call.Frame frame) r)
frame-sealed (Ok frame) covered = covered frame refl
frame-sealed (Err fault) covered = tt

either-sealed : (test : Bool) (one other : Result PeerCall LineFault) → AllSealed one → AllSealed other → AllSealed (if test then one else other)
either-sealed true one other here there = here
either-sealed false one other here there = there

call-sealed : (left : WordsLeft) → AllSealed (call_row.said left)
call-sealed left =
    either-sealed (bytes_eq (first_word left).text (codes "send")) (send_row.said (later left)) _
    (made-sealed (λ (s : List ℕ × Unit {0}). call.Send s.0) ((dash_kind ▷ end_row).said (later left)) (λ s. tt))
    (either-sealed (bytes_eq (first_word left).text (codes "timer")) (timer_row.said (later left)) _
    (made-sealed (λ (s : Timer × Unit {0}). call.Timer s.0) ((timer_kind ▷ end_row).said (later left)) (λ s. tt))
    (either-sealed (bytes_eq (first_word left).text (codes "close")) (close_row.said (later left)) _
    (made-sealed (λ (s : Unit {0}). call.Close) (end_row.said (later left)) (λ s. tt))
    (either-sealed (bytes_eq (first_word left).text (codes "abort")) (abort_row.said (later left)) (arrival_row.said left)
    (made-sealed (λ (s : Unit {0}). call.Abort) (end_row.said (later left)) (λ s. tt))
    (frame-sealed (replay_row.said left) (λ frame is. frame-covered left frame is)))))

both-sealed : (first : Result Peer LineFault) (rest : Result PeerCall LineFault) → AllSealed rest
    → IfOk {T = Peer × PeerCall} (first >>= (λ x. rest >>= (λ y. Ok (x, y)))) (λ s. SealsInFull s.1)
both-sealed (Ok x) (Ok y) is = is
both-sealed (Ok x) (Err fault) is = tt
both-sealed (Err fault) rest is = tt

line-sealed : (checked : Result (Unit {0}) LineFault) (nothing : Bool) (found : Result (Peer × PeerCall) LineFault) → IfOk found (λ s. SealsInFull s.1)
    → IfOk {T = Option (Peer × PeerCall)} (checked >> (if nothing then Ok None else (found >>= (λ x. Ok (Some x)))))
    (λ said. IfSome said (λ s. SealsInFull s.1))
line-sealed (Ok _) true found is = tt
line-sealed (Ok _) false (Ok s) is = is
line-sealed (Ok _) false (Err fault) is = tt
line-sealed (Err fault) nothing found is = tt

pub calls_sealed : (line : List ℕ) → IfOk (read_call line) (λ said. IfSome said (λ s. SealsInFull s.1))
calls_sealed line =
    let left = words_of line in
    line-sealed (clean line) (says_nothing line) (peer_row.said left)
    (both-sealed (word_read peer_kind.reads (first_word left)) (call_row.said (later left)) (call-sealed (later left)))
