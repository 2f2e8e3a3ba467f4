use Rattle.std.proofs.Common.{ℕ, ◌==◌, ◌∙◌, ap, min}
use Rattle.tool_text.proofs.Past.{past_digits}
use Rattle.tool_text.proofs.words.digits.is_hex_digit.Goals as goal

pub returns : goal.returns
returns c =
    ap (λ (past : ℕ). past == 0) (c.min.ensures ∙ λ i. min (c.saturating_sub-past_figures.ensures i) (c.saturating_sub-past_letters.ensures i))
    ∙ past_digits c.args.byte c.ranges.byte.fits
