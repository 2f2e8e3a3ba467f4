use Rattle.two_ends.proofs.OfFeatures.Beginning.{starts_fresh, start_begun, change_begun, confirm_begun, preference_begun, waiting_begun, offer_begun, dropped_begun, sending_begun}
use Rattle.two_ends.proofs.features.lines.rows_stay_begun.Goals as goal

pub returns-clause-fresh : goal.returns-clause-fresh
returns-clause-fresh c = starts_fresh

pub returns-clause-start : goal.returns-clause-start
returns-clause-start c = start_begun

pub returns-clause-change : goal.returns-clause-change
returns-clause-change c = change_begun

pub returns-clause-confirm : goal.returns-clause-confirm
returns-clause-confirm c = confirm_begun

pub returns-clause-preference : goal.returns-clause-preference
returns-clause-preference c = preference_begun

pub returns-clause-waiting : goal.returns-clause-waiting
returns-clause-waiting c = waiting_begun

pub returns-clause-offer : goal.returns-clause-offer
returns-clause-offer c = offer_begun

pub returns-clause-dropped : goal.returns-clause-dropped
returns-clause-dropped c = dropped_begun

pub returns-clause-sending : goal.returns-clause-sending
returns-clause-sending c = λ iss frames fits few row begun. sending_begun iss frames fits few row begun.early
