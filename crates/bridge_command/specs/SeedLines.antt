-- What `seeds` writes about a campaign's seeds: an object for each, one a line (own; RFC 8259).
use Rattle.std.specs.Prelude.{ℕ, zero, suc, ◌+◌, ◌||◌, ◌==◌, nat_lt, if◌then◌else◌, List, [], ◌++◌, codes}
use Rattle.fault_campaign.specs.Seeded.{seeded_report}
use Rattle.fault_campaign.specs.declared.report.Report.{Report}
use Rattle.serde_json.specs.Data.{Members, no_members}
use Rattle.tool_forms.specs.declared.bridge_words.SeedRange.{SeedRange}
use Rattle.bridge_command.specs.Members.{object_line, with_number_named, with_text_named}

-- the result of a run: an end got a Reset or sent one, or all eighteen features are settled at the end, or some are not
abbrev pub seed_state : Report → List ℕ
seed_state r =
    if nat_lt 0 r.was_reset || nat_lt 0 r.sent_reset then codes "reset"
    else if r.settled == 18 then codes "settled"
    else codes "unsettled"

-- which seed it is, how many events it had, and what both sides sent
abbrev pub with_frames_counted : ℕ → Report → Members → Members
with_frames_counted seed r members =
    with_number_named (codes "server_frames") r.server_frames (with_number_named (codes "client_frames") r.client_frames
    (with_number_named (codes "events") r.events (with_number_named (codes "seed") seed members)))

-- what became of the packets that came
abbrev pub with_outcomes : Report → Members → Members
with_outcomes r members =
    with_number_named (codes "sent_reset") r.sent_reset (with_number_named (codes "was_reset") r.was_reset (with_number_named (codes "synced") r.synced
    (with_number_named (codes "dropped") r.dropped (with_number_named (codes "delivered") r.delivered (with_number_named (codes "took") r.took members)))))

-- the calls that were refused, the features that are settled, and the result of the run
abbrev pub with_state : Report → Members → Members
with_state r members =
    with_text_named (codes "state") (seed_state r) (with_number_named (codes "settled") r.settled (with_number_named (codes "refused") r.refused members))

-- The object of a seed, with what a campaign counts of it.
unfoldable pub seed_members : ℕ → Report → Members
seed_members seed r = with_state r (with_outcomes r (with_frames_counted seed r no_members))

-- the line of a seed with this many events
abbrev pub seed_line : ℕ → ℕ → List ℕ
seed_line events seed = object_line (seed_members seed (seeded_report seed events))

-- the lines of this many seeds, from the first on
abbrev pub seed_lines : ℕ → ℕ → ℕ → List ℕ
seed_lines events first zero = []
seed_lines events first (suc more) = seed_lines events first more ++ seed_line events (first + more)

-- What `seeds` writes.
abbrev pub seeds_text : SeedRange → List ℕ
seeds_text range = seed_lines range.events range.first range.seeds
