-- What is counted of runs (own).
use Rattle.std.specs.Prelude.{ℕ, ◌+◌, ◌&&◌, Bool, true, false, Ok, Err, Some, None}
use Rattle.feature_lists.specs.declared.features.Feature.{Feature}
use Rattle.feature_lists.specs.declared.features.Feature.TheVariants as feature
use Rattle.dccp_endpoint.specs.ShortForm.{is_stable}
use Rattle.dccp_states.specs.declared.outcome.Outcome.{Outcome}
use Rattle.dccp_states.specs.declared.outcome.Outcome.TheVariants.{Took, Dropped, Synced, WasReset, SentReset}
use Rattle.dccp_states.specs.declared.seen.Seen.{Seen}
use Rattle.dccp_states.specs.declared.seen.Seen.TheVariants.{Called, Fired, Received}
use Rattle.world_events.specs.declared.event.Side.{Side}
use Rattle.world_events.specs.declared.event.Side.TheVariants.{Client, Server}
use Rattle.two_ends.specs.Pairs.{FeatureAt, held_at}
use Rattle.two_ends.specs.World.{WorldState}
use Rattle.fault_campaign.specs.declared.report.Report.{Report}

-- a report by each of its fields
abbrev pub of_fields : ((Report → ℕ) → ℕ) → Report
of_fields value =
    record {
      seeds = value (λ r. r.seeds);
      events = value (λ r. r.events);
      client_frames = value (λ r. r.client_frames);
      server_frames = value (λ r. r.server_frames);
      took = value (λ r. r.took);
      delivered = value (λ r. r.delivered);
      dropped = value (λ r. r.dropped);
      synced = value (λ r. r.synced);
      was_reset = value (λ r. r.was_reset);
      sent_reset = value (λ r. r.sent_reset);
      refused = value (λ r. r.refused);
      settled = value (λ r. r.settled);
    }

-- the report of no seed at all, in which each count is 0
abbrev pub nothing : Report
nothing = of_fields (λ field. 0)

-- two reports as one, count by count
abbrev pub plus : Report → Report → Report
plus r s = of_fields (λ field. field r + field s)

-- the sum of all counts
abbrev pub size : Report → ℕ
size r =
    r.seeds + r.events + r.client_frames + r.server_frames + r.took + r.delivered + r.dropped + r.synced + r.was_reset + r.sent_reset
    + r.refused + r.settled

-- a packet that arrived counts by its outcome; one that was taken counts twice if its data were delivered
abbrev pub with_outcome : Report → Outcome → Report
with_outcome r (Took None) = record r { took = r.took + 1 }
with_outcome r (Took (Some place)) = record r { took = r.took + 1; delivered = r.delivered + 1 }
with_outcome r (Dropped why) = record r { dropped = r.dropped + 1 }
with_outcome r (Synced number) = record r { synced = r.synced + 1 }
with_outcome r (WasReset code) = record r { was_reset = r.was_reset + 1 }
with_outcome r (SentReset code detail) = record r { sent_reset = r.sent_reset + 1 }

-- a call counts if it was refused, a timer never
abbrev pub with_seen : Report → Seen → Report
with_seen r (Called (Ok _)) = r
with_seen r (Called (Err refusal)) = record r { refused = r.refused + 1 }
with_seen r (Fired applies) = r
with_seen r (Received outcome) = with_outcome r outcome

-- a feature that is settled at both ends, the client and the server
abbrev pub is_settled : WorldState → FeatureAt → Bool
is_settled w pair = is_stable (held_at w pair Client).stand && is_stable (held_at w pair Server).stand

-- a settled feature counts as 1, any other as 0
abbrev pub one_if_settled : Bool → ℕ
one_if_settled true = 1
one_if_settled false = 0

-- what the feature that is located at this side adds to the count of settled ones
abbrev pub settles : WorldState → Side → Feature → ℕ
settles w side feature = one_if_settled (is_settled w (record { feature = feature; location = side }))

-- how many features of a side are settled
abbrev pub settled_at : WorldState → Side → ℕ
settled_at w side =
    settles w side feature.Ccid + settles w side feature.ShortSeqnos + settles w side feature.SequenceWindow + settles w side feature.EcnIncapable
    + settles w side feature.AckRatio + settles w side feature.SendAckVector + settles w side feature.SendNdpCount + settles w side feature.MinCsCov
    + settles w side feature.CheckDataChecksum

-- how many of the eighteen features of a connection are settled, nine at each side
abbrev pub settled_of : WorldState → ℕ
settled_of w = settled_at w Client + settled_at w Server
