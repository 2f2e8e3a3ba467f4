-- What is handed to the congestion control, in order; and the values that go with it fit.
use Rattle.std.proofs.Common.{◌≡◌, ◌<◌, ◌≤◌, ◌+◌, ◌^◌, ◌++◌, ℕ, Bool, true, false, List, [], Some, length, refl, sym, ap, ◌∙◌, subst, append-nil, eq-eqb, arith, length-append}
use Rattle.std.specs.List.{concat}
use Rattle.dccp_options.proofs.Sizes.{vector_bytes_fit}
use Rattle.dccp_options.specs.Grammar.{options_of}
use Rattle.dccp_options.specs.Vectors.{vector_bytes}
use Rattle.congestion_trait.specs.Calls.{Call}
use Rattle.congestion_trait.specs.Control.{Control}
use Rattle.feature_lists.specs.Features.{described}
use Rattle.feature_lists.specs.declared.features.Feature.{Feature}
use Rattle.feature_lists.specs.declared.features.Feature.TheVariants.{AckRatio, Ccid}
use Rattle.feature_lists.specs.declared.features.Place.{Place}
use Rattle.feature_lists.specs.declared.features.Place.TheVariants.{Here}
use Rattle.feature_machine.proofs.Soundness.{lawful_fits}
use Rattle.feature_machine.specs.Negotiating.{held_by}
use Rattle.feature_machine.specs.Sound.{IsRowOf, is_lawful}
use Rattle.feature_machine.specs.declared.row.Row.{Row}
use Rattle.feature_machine.specs.declared.stands.Held.{Held}
use Rattle.dccp_endpoint.specs.Congesting.{calls_for, report_calls, reported_from, start_calls}
use Rattle.dccp_endpoint.specs.Controlled.{EndStep, after_calls, with_control}
use Rattle.dccp_endpoint.specs.End.{value_in}
use Rattle.dccp_endpoint.specs.Incoming.{Incoming}
use Rattle.dccp_endpoint.specs.Silent.{IsFirstOf}
use Rattle.dccp_endpoint.specs.Steps.{Step, with_calls}
use Rattle.dccp_endpoint.specs.declared.heeding.FirstVector.{FirstVector}

-- the value of a row fits the bytes of its feature
held_fits : (feature : Feature) (place : Place) (held : Held) (row : Row) → held ≡ held_by row → IsRowOf feature place row
    → held.value < 256 ^ (described feature).width
held_fits feature place held row is its =
    subst (λ (h : Held). h.value < 256 ^ (described feature).width) (sym is)
    (lawful_fits feature place row.value
    (subst (λ (there : Place). is_lawful feature there row.value ≡ true) its.place_is
    (subst (λ (its_own : Feature). is_lawful its_own row.place row.value ≡ true) its.feature_is its.sound.value)))

-- a CCID is a byte
pub ccid_fits : (held : Held) (row : Row) → held ≡ held_by row → IsRowOf Ccid Here row → held.value < 256
ccid_fits held row is its = held_fits Ccid Here held row is its

-- an Ack Ratio has two bytes
pub ratio_fits : (held : Held) (row : Row) → held ≡ held_by row → IsRowOf AckRatio Here row → held.value < 65536
ratio_fits held row is its = held_fits AckRatio Here held row is its

-- a CCID that stays starts nothing
starts_nothing : (ccid : ℕ) → start_calls ccid ccid ≡ []
starts_nothing ccid = rw (eq-eqb ccid ccid refl) refl

-- where the rows stay, a packet's report alone is due
pub due_where_rows_stay : (a : Incoming) (rows : List Row)
    → report_calls (reported_from a.kind a.ack) a.options (value_in rows AckRatio Here) ≡ calls_for a rows rows
due_where_rows_stay a rows =
    let calls = report_calls (reported_from a.kind a.ack) a.options (value_in rows AckRatio Here) in
    sym (append-nil calls) ∙ ap (λ (more : List Call). calls ++ more) (sym (starts_nothing (value_in rows Ccid Here)))

-- the first vector and those after it fit the area that has them
pub first_fits : (first : FirstVector) (area : List ℕ) (on_data : Bool) → length area ≤ 1008 → IsFirstOf (Some first) [] (options_of area on_data)
    → length first.data.now + length (vector_bytes first.following) ≤ 1008
first_fits first area on_data short is =
    omega (
      arith,
      vector_bytes_fit false on_data 0 area,
      ap (λ (vectors : List (List ℕ)). length (concat vectors)) is,
      length-append first.data.now (vector_bytes first.following),
    )

module _ {C EndAnswer : Type 0} (control : Control C) (old : C) where
  -- a step beside a congestion control
  abbrev beside : C → Step EndAnswer → EndStep C EndAnswer
  beside congestion step = record { after = record { state = step.after; congestion = congestion }; frame = step.frame; answer = step.answer }

  -- what was due was handed over
  pub handed : (step made : Step EndAnswer) (calls : List Call) (new : C) → made ≡ step → new ≡ after_calls control old calls
      → beside new made ≡ with_control control old (with_calls calls step)
  handed step made calls new same due =
      ap (beside new) same ∙ ap (λ (congestion : C). beside congestion step) due

  -- what is told of the end alone
  pub of_the_end : (step : Step EndAnswer) (made : EndStep C EndAnswer) → made ≡ with_control control old step
      → record { after = made.after.state; frame = made.frame; calls = step.calls; answer = made.answer } ≡ step
  of_the_end step made same =
      ap (λ (m : EndStep C EndAnswer). record { after = m.after.state; frame = m.frame; calls = step.calls; answer = m.answer }) same
