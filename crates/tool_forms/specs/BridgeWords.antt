-- What the words after the second program's `seed`, `seeds` and `frames` ask for (own): settings, each given once.
use Rattle.std.specs.Prelude.{ℕ, ◌+◌, ◌^◌, ◌<◌, ◌≤◌, nat_le, if◌then◌else◌, List, Option, Some, None, option_and_then, String}
use Rattle.std.specs.declared.alloc.Global.{Global}
use Rattle.world_events.specs.declared.event.Side.{Side as EndSide}
use Rattle.tool_forms.specs.declared.bridge_words.FlowSide.{FlowSide}
use Rattle.tool_forms.specs.declared.bridge_words.SeedRange.{SeedRange}
use Rattle.tool_forms.specs.declared.bridge_words.SeedRun.{SeedRun}
use Rattle.tool_forms.specs.declared.settings.Table.TheVariants as table
use Rattle.tool_forms.specs.declared.settings.Setting.TheVariants.{First, Seeds, Events, Side, Seed, Flow}
use Rattle.tool_forms.specs.Settings.{given_once, words_give}
use Rattle.tool_forms.specs.Words.{side_given}

-- the run of a seed, if both its figures are there
abbrev pub seed_run_from : Option ℕ → Option ℕ → Option SeedRun
seed_run_from seed events = option_and_then (λ seed. option_and_then (λ events. Some (record { seed = seed; events = events })) events) seed

-- The run that the words after `seed` ask for.
abbrev pub seed_run_of : List (String Global) → Option SeedRun
seed_run_of words = seed_run_from (given_once table.Seed Seed words) (given_once table.Seed Events words)

-- seeds below 2^64, and how many events the run of each has
abbrev pub seed_range : ℕ → ℕ → ℕ → Option SeedRange
seed_range first seeds events =
    if nat_le (first + seeds) (2 ^ 64) then Some (record { first = first; seeds = seeds; events = events }) else None

-- the same, if all three figures are there
abbrev pub seed_range_from : Option ℕ → Option ℕ → Option ℕ → Option SeedRange
seed_range_from first seeds events =
    option_and_then (λ first. option_and_then (λ seeds. option_and_then (λ events. seed_range first seeds events) events) seeds) first

-- The seeds that the words after `seeds` ask for.
abbrev pub seed_range_of : List (String Global) → Option SeedRange
seed_range_of words =
    seed_range_from (given_once table.Seeds First words) (given_once table.Seeds Seeds words) (given_once table.Seeds Events words)

-- a side of a flow, if both are there
abbrev pub flow_side_from : Option ℕ → Option EndSide → Option FlowSide
flow_side_from flow side = option_and_then (λ flow. option_and_then (λ side. Some (record { flow = flow; side = side })) side) flow

-- The side that the words after `frames` ask for, and its flow.
abbrev pub flow_side_of : List (String Global) → Option FlowSide
flow_side_of words = flow_side_from (given_once table.Frames Flow words) (side_given (words_give table.Frames Side words))

-- a seed below 2^64 whose run has as many events as one of a campaign may have
pub record IsRunWithinBounds (run : SeedRun) : Type 0 where
  pub seed : run.seed < 2 ^ 64
  pub some : 1 ≤ run.events
  pub most : run.events ≤ 4096

-- as many seeds, each with as many events, as a campaign may have, all below 2^64
pub record IsRangeWithinBounds (range : SeedRange) : Type 0 where
  pub some_seeds : 1 ≤ range.seeds
  pub most_seeds : range.seeds ≤ 100000
  pub some_events : 1 ≤ range.events
  pub most_events : range.events ≤ 4096
  pub last_seed : range.first + range.seeds ≤ 2 ^ 64

-- flows are numbered from 1
abbrev pub IsFlowWithinBounds : FlowSide → Type 0
IsFlowWithinBounds asked = 1 ≤ asked.flow
