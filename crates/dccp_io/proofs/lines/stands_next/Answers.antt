-- What was sought settles what comes next.
use Rattle.std.proofs.Common.{◌≡◌, ℕ, List, subst}
use Rattle.dccp_io.specs.Ahead.{ahead_of}
use Rattle.dccp_io.specs.Lines.{made_out, next_in_bytes}
use Rattle.dccp_io.proofs.NextLine.{stands-next}
use Rattle.dccp_io.proofs.lines.stands_next.Goals as goal

pub returns-clause-next : goal.returns-clause-next
returns-clause-next g c =
    let after = c.seek.new.ahead in
    let stood = subst (λ (bytes : List ℕ). made_out bytes c.first_in.result
    ≡ next_in_bytes c.args.given bytes) c.pending.ensures.value c.first_in.ensures.value in
    stands-next c.args.given c.enough-asked.result after.pending (ahead_of c.args.ahead.now (g.S.Source.left c.args.source.now))
    (g.S.Source.left c.seek.new.source)
    (made_out after.pending c.first_in.result) c.requires.within c.enough-asked.ensures c.in_ok-seen.ensures.sought c.seek.ensures.seeks.same_ahead stood
