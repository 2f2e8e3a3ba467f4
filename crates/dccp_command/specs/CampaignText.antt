-- What `campaign` writes: the counts over all its seeds, one in each line (own).
use Rattle.std.specs.Prelude.{◌≡◌, ◌≢◌, ℕ, ◌++◌, List, codes, Option}
use Rattle.fault_campaign.specs.Totals.{totals}
use Rattle.fault_campaign.specs.declared.report.Report.{Report}
use Rattle.tool_text.specs.Text.{labelled_number}
use Rattle.tool_text.specs.Ends.{HasBegun, HasTaken, IsCutOff, EndsForCause}
use Rattle.tool_forms.specs.declared.campaign_words.Campaign.{Campaign}
use Rattle.tool_text.specs.declared.output.status.JobEnd.{JobEnd}
use Rattle.tool_text.specs.declared.output.status.JobEnd.TheVariants as ended

-- a count after its name
abbrev pub count_line : List ℕ → ℕ → List ℕ
count_line name count = labelled_number name count ++ codes "\n"

-- what was run and sent
unfoldable pub run_text : Report → List ℕ
run_text r =
    count_line (codes "seeds ") r.seeds ++ count_line (codes "events ") r.events ++ count_line (codes "client_frames ") r.client_frames
    ++ count_line (codes "server_frames ") r.server_frames

-- the frames that arrived, by what became of them
unfoldable pub arrival_text : Report → List ℕ
arrival_text r =
    count_line (codes "took ") r.took ++ count_line (codes "delivered ") r.delivered ++ count_line (codes "dropped ") r.dropped
    ++ count_line (codes "synced ") r.synced ++ count_line (codes "was_reset ") r.was_reset ++ count_line (codes "sent_reset ") r.sent_reset

-- a report, one count in each line: what was run and arrived, then the refused calls and the settled features
unfoldable pub report_text : Report → List ℕ
report_text r = run_text r ++ arrival_text r ++ count_line (codes "refused ") r.refused ++ count_line (codes "settled ") r.settled

-- the sums over all seeds, which do not depend on the number of workers
unfoldable pub campaign_text : Campaign → List ℕ
campaign_text c = report_text (totals c.first c.seeds c.events)

-- What a campaign, which reads nothing and has nothing to refuse, guarantees: with Done the text is whole, and otherwise it is a prefix. It ends
-- with Write only if the sink failed; and if the sink did not, with Done, unless memory runs out.
pub record AnswersUnread (text : List ℕ) (result : JobEnd) (before after : Option (List ℕ)) (sink_failed : Type 0) : Type 0 where
  pub whole : result ≡ ended.Done → HasTaken before after text
  pub front : IsCutOff result → HasBegun before after text
  pub accepted : result ≢ ended.Input
  pub cause : EndsForCause result ⊥ sink_failed
