use Rattle.std.proofs.Common.{length, take, drop, ap, ◌∙◌, arith}
use Rattle.std.proofs.Math.Seq.{drop-append_seam, take-append_seam}
use Rattle.data_dropped.specs.History.{History, history_after_all, no_history}
use Rattle.tests_claims.proofs.inboxes.an_inbox_hands_over_what_it_kept.Goals as goal

pub returns-clause-taken : goal.returns-clause-taken
returns-clause-taken c = λ capacity calls.
    let h : History = history_after_all (no_history capacity) calls in
    ap (take (length h.taken)) (c.what_is_kept_is_taken.ensures.accounted capacity calls).whole ∙ take-append_seam h.taken h.held.items

pub returns-clause-held : goal.returns-clause-held
returns-clause-held c = λ capacity calls.
    let h : History = history_after_all (no_history capacity) calls in
    ap (drop (length h.taken)) (c.what_is_kept_is_taken.ensures.accounted capacity calls).whole ∙ drop-append_seam h.taken h.held.items

pub returns-clause-within : goal.returns-clause-within
returns-clause-within c = λ capacity calls more.
    let within = (c.what_is_kept_is_taken.ensures.accounted capacity calls).within in omega (arith, within, more)

pub returns-clause-stopped : goal.returns-clause-stopped
returns-clause-stopped c = λ capacity calls. (c.what_is_kept_is_taken.ensures.accounted capacity calls).was_stopped

pub returns-clause-drops : goal.returns-clause-drops
returns-clause-drops c = λ capacity calls. (c.what_is_kept_is_taken.ensures.accounted capacity calls).last_drops
