-- The line of a refusal is written, as the rest is.
use Rattle.tool_text.proofs.lines.loops.run_lines.Goals as goal

pub returns-clause-through : goal.returns-clause-through
returns-clause-through g c = λ bytes told.
    let goes = c.go_over.ensures.through bytes told in
    record { answers = goes.answers; past = goes.past; kept = goes.kept }
