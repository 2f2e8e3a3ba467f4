use Rattle.packet_show.proofs.show.show_records.Goals as goal

pub returns-clause-shows : goal.returns-clause-shows
returns-clause-shows g c = c.show_all.ensures.shows

pub returns-clause-same_lender : goal.returns-clause-same_lender
returns-clause-same_lender g c = c.show_all.ensures.same_lender

pub returns-clause-cause : goal.returns-clause-cause
returns-clause-cause g c = c.show_all.ensures.cause
