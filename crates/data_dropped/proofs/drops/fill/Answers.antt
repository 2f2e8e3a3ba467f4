use Rattle.std.proofs.Common.{rules, ◌≡◌, List, slice_get, Option, Some, None, sym, ◌∙◌, inl, inr, arith}
use Rattle.std.proofs.lemmas.Option.{slice_get_cases}
use Rattle.data_dropped.specs.declared.drops.DropEntry.{DropEntry}
use Rattle.data_dropped.proofs.Table.{table-none, table-step}
use Rattle.data_dropped.proofs.drops.fill.Goals as goal
use Rattle.data_dropped.proofs.drops.fill.Goals.{in-Some, in_default}

-- no drop is noted
pub loop-index-init : goal.loop-index-init
loop-index-init c = sym (table-none c.args.ack)

-- one drop more; one is at every index below their number
pub loop-index-preserved : goal.loop-index-preserved
loop-index-preserved c =
    elim c.match-get.branch [
      | in-Some w ↦
          let items : List DropEntry = c.args.drops.now.items in
          let there : slice_get items c.loop-index.index ≡ Some w.in-Some.entry.now = search rules in
          w.table-is ∙ w.note.ensures.noted
          ∙ table-step items c.loop-index.index w.in-Some.entry.now c.args.ack c.loop-index.table there w.note.ensures.number_fits w.note.ensures.ack_fits
          c.loop-index.invariant
      | in_default w ↦
          let items : List DropEntry = c.args.drops.now.items in
          let none : ◌≡◌ {A = Option DropEntry} (slice_get items c.loop-index.index) None = search rules in
          elim ((slice_get_cases items c.loop-index.index).1) [
            | inl found ↦ let bad : ◌≡◌ {A = Option DropEntry} (Some found.0) None = sym found.2 ∙ none in absurd cc
            | inr past ↦ absurd (omega (arith, past.0))
          ]
    ]
