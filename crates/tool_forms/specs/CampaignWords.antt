-- What the words after `campaign` ask for (own): four numbers, each given once.
use Rattle.std.specs.Prelude.{ℕ, ◌+◌, ◌^◌, ◌≤◌, nat_le, if◌then◌else◌, List, Option, Some, None, option_and_then, String}
use Rattle.std.specs.declared.alloc.Global.{Global}
use Rattle.tool_forms.specs.declared.campaign_words.Campaign.{Campaign}
use Rattle.tool_forms.specs.declared.settings.Table.TheVariants as table
use Rattle.tool_forms.specs.declared.settings.Setting.TheVariants.{First, Seeds, Events, Workers}
use Rattle.tool_forms.specs.Settings.{given_once}

-- a campaign of seeds below 2^64
abbrev pub campaign_from : ℕ → ℕ → ℕ → ℕ → Option Campaign
campaign_from first seeds events workers =
    if nat_le (first + seeds) (2 ^ 64) then Some (record { first = first; seeds = seeds; events = events; workers = workers }) else None

-- The campaign that the words ask for: each of the four figures is given once, and nothing else is.
abbrev pub campaign_of : List (String Global) → Option Campaign
campaign_of words =
    option_and_then (λ first. option_and_then (λ seeds. option_and_then (λ events. option_and_then (λ workers. campaign_from first seeds events workers)
    (given_once table.Campaign Workers words)) (given_once table.Campaign Events words)) (given_once table.Campaign Seeds words)) (given_once table.Campaign First words)

-- the bounds of a campaign
pub record IsWithinBounds (campaign : Campaign) : Type 0 where
  pub some_seeds : 1 ≤ campaign.seeds
  pub most_seeds : campaign.seeds ≤ 100000
  pub some_events : 1 ≤ campaign.events
  pub most_events : campaign.events ≤ 4096
  pub some_workers : 1 ≤ campaign.workers
  pub most_workers : campaign.workers ≤ 16
  pub last_seed : campaign.first + campaign.seeds ≤ 2 ^ 64
