use Rattle.std.proofs.Common.{rules, subst}
use Rattle.ccid_two.specs.Kinds.{kinds_control}
use Rattle.congestion_trait.specs.Flight.{Has}
use Rattle.data_dropped.specs.Drops.{drop_code}
use Rattle.dccp_c.specs.Fates.{IsFate}
use Rattle.dccp_c.proofs.Fating.{fate-bounded}
use Rattle.dccp_c.proofs.fates.fate_of.Goals as goal

pub returns-in-Some : goal.returns-in-Some
returns-in-Some c =
    fate-bounded c.args.end.now c.args.number (drop_code c.args.drops.now c.args.number) c.fate_in.result (search rules)
    (subst (λ n. IsFate (λ standing. Has (kinds_control.flight c.args.end.now.congestion) n standing) (drop_code c.args.drops.now n) c.fate_in.result)
    c.in-Some.ensures.value (subst (λ k. IsFate (λ standing. Has (kinds_control.flight c.args.end.now.congestion) c.in-Some.number standing) k c.fate_in.result) c.code.ensures c.fate_in.ensures))
