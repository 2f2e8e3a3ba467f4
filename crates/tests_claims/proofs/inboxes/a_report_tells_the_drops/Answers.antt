use Rattle.std.proofs.Common.{sym, ◌∙◌, arith}
use Rattle.std.proofs.lemmas.Option.{none-some}
use Rattle.tests_claims.proofs.inboxes.a_report_tells_the_drops.Goals as goal

pub returns-clause-only : goal.returns-clause-only
returns-clause-only c = λ drops ack n code codes ack_fits n_fits none told.
    none-some code (sym none ∙ c.a_report_of_drops_reads_back.ensures.only drops ack n code codes ack_fits n_fits told)

pub returns-clause-all : goal.returns-clause-all
returns-clause-all c = λ drops ack n code codes ack_fits n_fits whole near dropped.
    c.a_report_of_drops_reads_back.ensures.all drops ack n codes ack_fits n_fits whole (omega (arith, near)) ∙ dropped

pub returns-clause-fits : goal.returns-clause-fits
returns-clause-fits c = λ drops ack more. omega (arith, c.a_report_of_drops_reads_back.ensures.fits drops ack, more)
