use Rattle.std.proofs.Common.{rules, ◌≡◌, ap, sym, ◌∙◌, subst, ℕ, ◌+◌, cond, List, [], ◌∷◌, ◌++◌, length, Some, None}
use Rattle.std.specs.BTreeMap.{is_at}
use Rattle.std.specs.Map.{lookup}
use Rattle.packet_show.specs.Flows.{Flow, HasNumbers, FlowKey, first_further, key_cmp, key_of, flow_number_from}
use Rattle.packet_show.proofs.Numbered.{numbers_now}
use Rattle.packet_show.proofs.further_flows.FurtherFlows.add.Goals as goal

-- the list has one more, and so has the map
pub invariant_of-self-2 : goal.invariant_of-self-2
invariant_of-self-2 c =
    let flow : Flow = c.args.flow in
    let seen : List Flow = c.self.inside.seen.items in
    let before = c.self.inside.numbers.entries in
    let after = c.insert.new.self.entries in
    let none : flow_number_from first_further flow seen ≡ None = ap (λ (list : List Flow). flow_number_from first_further flow list) c.self.view_is ∙ c.requires in
    let size : c.len.result ≡ length seen = search rules in
    let updates : (q : FlowKey)
    → lookup (is_at (key_cmp q)) after ≡ cond (is_at (key_cmp (key_of flow)) q) (Some (length seen + first_further)) (lookup (is_at (key_cmp q)) before) =
    λ q. c.in-Ok.ensures.updates.0 q
    ∙ ap (λ (n : ℕ). cond (is_at (key_cmp c.key_of.result) q) (Some (n + first_further)) (lookup (is_at (key_cmp q)) before)) size
    ∙ ap (λ (key : FlowKey). cond (is_at (key_cmp key) q) (Some (length seen + first_further)) (lookup (is_at (key_cmp q)) before)) c.key_of.ensures in
    let items : c.push.new.self.items ≡ seen ++ flow ∷ [] = c.in-Ok-push.ensures.items
    ∙ ap (λ (list : List Flow). list ++ flow ∷ []) c.in_ok-reserve.ensures.items in
    subst (λ (list : List Flow). HasNumbers after list) (sym items) (numbers_now flow before after seen c.self.invariant none updates)
