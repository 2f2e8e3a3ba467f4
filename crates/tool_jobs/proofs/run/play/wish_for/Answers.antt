use Rattle.std.proofs.Common.{sym, ap, ◌∙◌, subst}
use Rattle.dccp_endpoint.specs.Drafts.{Fits}
use Rattle.dccp_endpoint.specs.declared.config.Config.{Config}
use Rattle.feature_lists.specs.Wishes.{wish_of}
use Rattle.feature_machine.specs.Lists.{IsLists}
use Rattle.tool_jobs.proofs.Configuring.{wished, kept, role-kept}
use Rattle.tool_jobs.proofs.run.play.wish_for.Goals as goal

pub returns-clause-wish : goal.returns-clause-wish
returns-clause-wish c =
    wished c.args.config.now c.set.new.self c.args.feature c.args.place c.set.result (wish_of c.args.feature c.args.place c.args.values.now)
    c.set.ensures.ok c.set.ensures.wish c.set.ensures.refused

pub returns-clause-fits : goal.returns-clause-fits
returns-clause-fits c =
    subst Fits (sym (returns-clause-wish c))
    (kept c.args.config.now c.args.feature c.args.place (wish_of c.args.feature c.args.place c.args.values.now) c.requires
    (subst (λ (config : Config). IsLists config.lists) (returns-clause-wish c) c.lists_fit.ensures))

pub returns-clause-role : goal.returns-clause-role
returns-clause-role c =
    ap (λ (config : Config). config.role) (returns-clause-wish c)
    ∙ role-kept c.args.config.now c.args.feature c.args.place (wish_of c.args.feature c.args.place c.args.values.now)
