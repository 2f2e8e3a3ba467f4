use Rattle.std.proofs.Common.{◌≡◌, ◌+◌, ◌-◌, ◌<◌, ◌≤◌, ◌∙◌, min, refl, ap, subst, sym, arith, rules, List, [], ◌∷◌, ◌++◌, filter}
use Rattle.seq_circle.specs.Circle.{distance}
use Rattle.run_list.specs.declared.walking.Stretch.{Stretch}
use Rattle.run_list.specs.declared.nodes.Node.{Node}
use Rattle.run_list.specs.MarkedSet.{is_from}
use Rattle.run_list.specs.Stretches.{stretch}
use Rattle.run_list.specs.Runs.{AreLaid, numbers_of}
use Rattle.run_list.specs.Linked.{IsPlaceBelow, runs_at, runs_from}
use Rattle.run_list.specs.Nodes.{all_nodes, node_at}
use Rattle.run_list.proofs.Paths.{last-fits, front}
use Rattle.run_list.proofs.Links.{before_is_made}
use Rattle.run_list.proofs.Cuts.{cut_first, cut_parted, cut_after, cut_low}
use Rattle.run_list.proofs.linked.cut.Goals as goal

pub get-last-requires : goal.get-last-requires
get-last-requires c =
    let place = c.place_below-before.ensures.place.place in
    let fits : c.place_below-before.result.before ≤ 1024 =
    last-fits (all_nodes c.args.runs.now.nodes) c.args.runs.now.first c.place_below-before.result.at c.place_below-before.result.before
    place.passed place.passed_path place.last in
    before_is_made (all_nodes c.args.runs.now.nodes) c.args.runs.now.first c.args.runs.now.free c.place_below-before.result.before
    c.place_below-before.result.at c.requires.linked place (omega arith)

pub overflow_sub-left : goal.overflow_sub-left
overflow_sub-left c =
    let nodes = all_nodes c.args.runs.now.nodes in
    let before = c.place_below-before.result.before in
    let rise : c.distance-rise.result ≡ distance c.args.floor c.args.to = c.distance-rise.ensures.value in
    let cuts : IsPlaceBelow c.args.floor (distance c.args.floor c.args.to) nodes c.args.runs.now.first before c.place_below-before.result.at =
    c.place_below-before.ensures.place in
    let fits : before ≤ 1024 =
    last-fits nodes c.args.runs.now.first c.place_below-before.result.at before cuts.place.passed cuts.place.passed_path cuts.place.last in
    let read : c.get-last.result ≡ node_at nodes before = c.get-last.ensures in
    let hi : distance c.args.floor c.get-last.result.hi ≡ distance c.args.floor (node_at nodes before).hi =
    ap (λ (n : Node). distance c.args.floor n.hi) read in
    let kept : distance c.args.floor c.args.to ≤ distance c.args.floor (node_at nodes before).hi = cuts.kept (omega arith) in
    omega arith

pub overflow_cast-count : goal.overflow_cast-count
overflow_cast-count c =
    let nodes = all_nodes c.args.runs.now.nodes in
    let before = c.place_below-before.result.before in
    let rise : c.distance-rise.result ≡ distance c.args.floor c.args.to = c.distance-rise.ensures.value in
    let cuts : IsPlaceBelow c.args.floor (distance c.args.floor c.args.to) nodes c.args.runs.now.first before c.place_below-before.result.at =
    c.place_below-before.ensures.place in
    let fits : before ≤ 1024 =
    last-fits nodes c.args.runs.now.first c.place_below-before.result.at before cuts.place.passed cuts.place.passed_path cuts.place.last in
    let read : c.get-last.result ≡ node_at nodes before = c.get-last.ensures in
    let hi : distance c.args.floor c.get-last.result.hi ≡ distance c.args.floor (node_at nodes before).hi =
    ap (λ (n : Node). distance c.args.floor n.hi) read in
    let low : distance c.args.floor (node_at nodes before).hi < 2048 =
    cut_low c.args.floor nodes c.args.runs.now.first before c.place_below-before.result.at cuts.place c.requires.linked.size
    (omega arith) c.requires.laid in
    omega arith

pub write-requires : goal.write-requires
write-requires c =
    let place = c.place_below-before.ensures.place.place in
    let fits : c.place_below-before.result.before ≤ 1024 =
    last-fits (all_nodes c.args.runs.now.nodes) c.args.runs.now.first c.place_below-before.result.at c.place_below-before.result.before
    place.passed place.passed_path place.last in
    before_is_made (all_nodes c.args.runs.now.nodes) c.args.runs.now.first c.args.runs.now.free c.place_below-before.result.before
    c.place_below-before.result.at c.requires.linked place (omega arith)

pub release-requires : goal.release-requires
release-requires c =
    let nodes = all_nodes c.args.runs.now.nodes in
    let before = c.place_below-before.result.before in
    let at = c.place_below-before.result.at in
    let first = c.args.runs.now.first in
    let free = c.args.runs.now.free in
    let rise : c.distance-rise.result ≡ distance c.args.floor c.args.to = c.distance-rise.ensures.value in
    let cuts : IsPlaceBelow c.args.floor (distance c.args.floor c.args.to) nodes first before at =
    c.place_below-before.ensures.place in
    let fits : before ≤ 1024 = last-fits nodes first at before cuts.place.passed cuts.place.passed_path cuts.place.last in
    elim c.if-before-eq-NONE.branch [
      | goal.then-before-eq-NONE w ↦ rw w.runs-is record {
        parted = (cut_first c.args.floor c.args.to nodes first free before at c.requires.linked cuts w.if-before-eq-NONE.true (search rules) (search rules)
            (omega arith) c.requires.laid).0;
      }
      | goal.else-before-eq-NONE w ↦
          let made : Node = record { hi = w.get-last.result.hi; count = w.min-count.result; next = 1024 } in
          rw (w.runs-is, w.write.ensures.all, w.write.ensures.made) record {
            parted =
                (cut_parted nodes first free before at made c.requires.linked cuts.place (omega arith) refl).0;
          }
    ]

pub returns-clause-laid : goal.returns-clause-laid
returns-clause-laid c =
    let nodes = all_nodes c.args.runs.now.nodes in
    let before = c.place_below-before.result.before in
    let at = c.place_below-before.result.at in
    let first = c.args.runs.now.first in
    let free = c.args.runs.now.free in
    let rise : c.distance-rise.result ≡ distance c.args.floor c.args.to = c.distance-rise.ensures.value in
    let cuts : IsPlaceBelow c.args.floor (distance c.args.floor c.args.to) nodes first before at =
    c.place_below-before.ensures.place in
    let fits : before ≤ 1024 = last-fits nodes first at before cuts.place.passed cuts.place.passed_path cuts.place.last in
    rw c.release.ensures.stays (elim c.if-before-eq-NONE.branch [
      | goal.then-before-eq-NONE w ↦ rw w.runs-is
          (rw (cut_first c.args.floor c.args.to nodes first free before at c.requires.linked cuts w.if-before-eq-NONE.true (search rules) (search rules)
          (omega arith) c.requires.laid).1 tt)
      | goal.else-before-eq-NONE w ↦
          let read : w.get-last.result ≡ node_at nodes before = w.get-last.ensures in
          let made : Node = record { hi = w.get-last.result.hi; count = w.min-count.result; next = 1024 } in
          let kept : List Stretch = runs_at nodes (front cuts.place.passed) in
          let hi : distance c.args.floor w.get-last.result.hi ≡ distance c.args.floor (node_at nodes before).hi =
          ap (λ (n : Node). distance c.args.floor n.hi) read in
          let count : w.get-last.result.count ≡ (node_at nodes before).count = ap (λ (n : Node). n.count) read in
          let few : w.min-count.result ≡ min (node_at nodes before).count (distance c.args.floor (node_at nodes before).hi - distance c.args.floor c.args.to + 1) =
          omega arith in
          let both = cut_after c.args.floor c.args.to w.min-count.result nodes first free before at c.requires.linked cuts (omega arith) (search rules)
          (search rules) (omega arith) c.requires.laid few in
          let P : Node → Type 0 = λ n. AreLaid c.args.to 2048 (kept ++ stretch n.hi w.min-count.result ∷ []) in
          rw (w.runs-is, w.write.ensures.all)
          (rw (cut_parted nodes first free before at made c.requires.linked cuts.place (omega arith) refl).1 (subst P (sym read) both.0))
    ])

pub returns-clause-numbers : goal.returns-clause-numbers
returns-clause-numbers c =
    let nodes = all_nodes c.args.runs.now.nodes in
    let before = c.place_below-before.result.before in
    let at = c.place_below-before.result.at in
    let first = c.args.runs.now.first in
    let free = c.args.runs.now.free in
    let rise : c.distance-rise.result ≡ distance c.args.floor c.args.to = c.distance-rise.ensures.value in
    let cuts : IsPlaceBelow c.args.floor (distance c.args.floor c.args.to) nodes first before at =
    c.place_below-before.ensures.place in
    let fits : before ≤ 1024 = last-fits nodes first at before cuts.place.passed cuts.place.passed_path cuts.place.last in
    rw c.release.ensures.stays (elim c.if-before-eq-NONE.branch [
      | goal.then-before-eq-NONE w ↦
          let all = cut_first c.args.floor c.args.to nodes first free before at c.requires.linked cuts w.if-before-eq-NONE.true (search rules) (search rules)
          (omega arith) c.requires.laid in
          rw w.runs-is (ap (λ (ss : List Stretch). numbers_of ss) all.1 ∙ sym all.2)
      | goal.else-before-eq-NONE w ↦
          let read : w.get-last.result ≡ node_at nodes before = w.get-last.ensures in
          let made : Node = record { hi = w.get-last.result.hi; count = w.min-count.result; next = 1024 } in
          let kept : List Stretch = runs_at nodes (front cuts.place.passed) in
          let hi : distance c.args.floor w.get-last.result.hi ≡ distance c.args.floor (node_at nodes before).hi =
          ap (λ (n : Node). distance c.args.floor n.hi) read in
          let count : w.get-last.result.count ≡ (node_at nodes before).count = ap (λ (n : Node). n.count) read in
          let few : w.min-count.result ≡ min (node_at nodes before).count (distance c.args.floor (node_at nodes before).hi - distance c.args.floor c.args.to + 1) =
          omega arith in
          let both = cut_after c.args.floor c.args.to w.min-count.result nodes first free before at c.requires.linked cuts (omega arith) (search rules)
          (search rules) (omega arith) c.requires.laid few in
          let P : Node → Type 0 = λ n. numbers_of (kept ++ stretch n.hi w.min-count.result ∷ []) ≡ filter (is_from c.args.to) (numbers_of (runs_from nodes first)) in
          rw (w.runs-is, w.write.ensures.all)
          (ap (λ (ss : List Stretch). numbers_of ss) (cut_parted nodes first free before at made c.requires.linked cuts.place (omega arith) refl).1
          ∙ subst P (sym read) both.1)
    ])
