-- Who is taken out may be written before.
use Rattle.std.proofs.Common.{◌≡◌, refl, ap, ◌∙◌, Bool, true, false, cond, List, [], ◌∷◌}
use Rattle.std.specs.Map.{remove_entry, set_value}

removed-at : {K X : Type 0} (test : K → Bool) (w : X) (k : K) (x : X) (es : List (K × X)) (here : Bool) → test k ≡ here
    → remove_entry test (set_value test es w) ≡ remove_entry test es
    → remove_entry test (cond here ((k, w) ∷ es) ((k, x) ∷ set_value test es w)) ≡ cond here es ((k, x) ∷ remove_entry test es)
removed-at test w k x es true is rest = ap (λ (b : Bool). cond b es ((k, w) ∷ remove_entry test es)) is
removed-at test w k x es false is rest =
    ap (λ (b : Bool). cond b (set_value test es w) ((k, x) ∷ remove_entry test (set_value test es w))) is ∙ ap (λ l. (k, x) ∷ l) rest

pub removed : {K X : Type 0} (test : K → Bool) (es : List (K × X)) (w : X) → remove_entry test (set_value test es w) ≡ remove_entry test es
removed test [] w = refl
removed test (e ∷ es) w = removed-at test w e.0 e.1 es (test e.0) refl (removed test es w)
