use Rattle.fault_campaign.proofs.Drawing.{next-happens, next-or-far, open-happens}
use Rattle.fault_campaign.proofs.laws.drawn_events_happen.Goals as goal

pub returns : goal.returns
returns c = record { first = open-happens; next = next-happens c.few_frames_are_never_far.ensures; or_far = next-or-far }
