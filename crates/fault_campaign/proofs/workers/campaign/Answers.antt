use Rattle.std.proofs.Common.{◌≡◌, ◌∙◌, ◌^◌, ap}
use Rattle.campaign_claims.specs.Views.{Claimant}
use Rattle.fault_campaign.proofs.Claiming.{all-seeds}
use Rattle.fault_campaign.proofs.workers.campaign.Goals as goal

pub returns : goal.returns
returns g c =
    let all : c.work_beside-last.result.0.view.share ≡ 2 ^ 62 = c.work_beside-last.ensures.share ∙ ap (λ (h : Claimant). h.view.share) c.in_ok-claims.ensures in
    let limit : c.work_beside-last.result.0.view.limit ≡ c.args.seeds =
    c.work_beside-last.ensures.limit ∙ ap (λ (h : Claimant). h.view.limit) c.in_ok-claims.ensures ∙ c.from.ensures in
    all-seeds c.numbers_once_add_up.ensures.sums c.a_claim_in_vain_ends_the_numbers.ensures _ c.args.seeds c.close.result c.work_beside-last.result.0.view
    c.work_beside-last.result.1 limit (c.close.ensures.drawn all) (c.close.ensures.all all) c.work_beside-last.ensures.whole
