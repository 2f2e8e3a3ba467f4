-- What is pending after the line that was given, as far as it is asked for.
use Rattle.std.proofs.Common.{rules, ◌≡◌, ◌∙◌, ap, ℕ, min, length, take, drop}
use Rattle.std.proofs.lemmas.List.{take_min}
use Rattle.dccp_io.specs.Lines.{LinesState}
use Rattle.dccp_io.proofs.lines.Lines.front.Goals as goal

pub returns : goal.returns
returns g c =
    let inside = c.self.inside in
    let following = c.split_at.result.1.now in
    let size : c.min.result ≡ min 4097 (length following) = search rules in
    let pending : following ≡ drop inside.used inside.ahead.pending = search rules in
    ap (λ (n : ℕ). take n following) size ∙ take_min 4097 following ∙ ap (take 4097) (pending ∙ ap (λ (l : LinesState g.row.S.Denot). l.pending) c.self.view_is)
