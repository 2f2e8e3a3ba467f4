-- What a campaign would count of a schedule that was played (own).
use Rattle.std.specs.Prelude.{ℕ, List, [], ◌∷◌, length}
use Rattle.fault_campaign.specs.Reports.{nothing, settled_of, with_seen}
use Rattle.fault_campaign.specs.declared.report.Report.{Report}
use Rattle.tool_jobs.specs.Scenes.{Scene}
use Rattle.ccid_two.specs.Kinds.{Both}
use Rattle.two_ends.specs.Controlled.{ControlledWorld}
use Rattle.two_ends.specs.World.{half_of}
use Rattle.world_events.specs.declared.event.Side.{Side}
use Rattle.world_events.specs.declared.event.Side.TheVariants.{Client, Server}

-- what was seen of each event, counted
abbrev pub seen_counted : Report → List Scene → Report
seen_counted report [] = report
seen_counted report (scene ∷ scenes) = seen_counted (with_seen report scene.step.seen) scenes

-- how many frames a side has sent
abbrev pub frames_sent : ControlledWorld Both → Side → ℕ
frames_sent w side = length (half_of w.world side).frames

-- The report of events that took place and of the world that they left: how many they are, the frames of both sides,
-- what was seen of each event, and the features that are settled.
abbrev pub counted_report : List Scene → ControlledWorld Both → Report
counted_report scenes last =
    record (seen_counted nothing scenes) {
      seeds = 1;
      events = length scenes;
      client_frames = frames_sent last Client;
      server_frames = frames_sent last Server;
      settled = settled_of last.world;
    }
