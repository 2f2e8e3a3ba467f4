-- The rows of words that make a line keep what rows keep.
use Rattle.std.proofs.Common.{refl}
use Rattle.std.specs.Prelude.{codes}
use Rattle.schedule_text.specs.Frames.{replay_row}
use Rattle.schedule_text.specs.Kinds.{timer_kind}
use Rattle.schedule_text.proofs.FrameForms.{replay-is}
use Rattle.schedule_text.proofs.RowsAre.{timer-is}
use Rattle.tool_text.specs.Kinds.{dash_kind}
use Rattle.tool_text.specs.Rows.{IsExactRow, ◌▷◌, after_word, end_row}
use Rattle.tool_text.proofs.KindLaws.{dash-is}
use Rattle.tool_text.proofs.RowLaws.{after-is, as-is, both-is, end-is}
use Rattle.tool_jobs.specs.Calls.{abort_row, arrival_row, call_row, close_row, peer_row, send_row, timer_row}
use Rattle.tool_jobs.specs.Peers.{peer_kind}
use Rattle.tool_jobs.specs.declared.listen.calls.PeerCall.TheVariants as call
use Rattle.tool_jobs.proofs.PeerWords.{peer-is}

send-is : IsExactRow send_row
send-is = as-is (λ s. call.Send s.0) (dash_kind ▷ end_row) (both-is dash_kind end_row dash-is end-is)

timing-is : IsExactRow timer_row
timing-is = as-is (λ s. call.Timer s.0) (timer_kind ▷ end_row) (both-is timer_kind end_row timer-is end-is)

close-is : IsExactRow close_row
close-is = as-is (λ s. call.Close) end_row end-is

abort-is : IsExactRow abort_row
abort-is = as-is (λ s. call.Abort) end_row end-is

arrival-is : IsExactRow arrival_row
arrival-is = as-is (λ frame. call.Frame frame) replay_row replay-is

call-is : IsExactRow call_row
call-is =
    after-is (codes "send") send_row
    (after_word (codes "timer") timer_row (after_word (codes "close") close_row (after_word (codes "abort") abort_row arrival_row)))
    refl send-is
    (after-is (codes "timer") timer_row (after_word (codes "close") close_row (after_word (codes "abort") abort_row arrival_row)) refl timing-is
    (after-is (codes "close") close_row (after_word (codes "abort") abort_row arrival_row) refl close-is
    (after-is (codes "abort") abort_row arrival_row refl abort-is arrival-is)))

pub peer-row-is : IsExactRow peer_row
peer-row-is = both-is peer_kind call_row peer-is call-is
