-- The words for what `ecn` sees (own), one line for each case.
use Rattle.std.proofs.Common.{◌≡◌, refl, codes}
use Rattle.run_list.specs.declared.answers.Marked.TheVariants as answer
use Rattle.dccp_ecn.specs.declared.ledger.Check.TheVariants as check
use Rattle.tool_jobs.specs.SeenText.{check_name, marked_name}

words_of_nonces :
    (marked_name answer.New ≡ codes "new")
    × (marked_name answer.Again ≡ codes "again")
    × (marked_name answer.BelowFloor ≡ codes "below")
    × (check_name check.Fits ≡ codes "fits")
    × (check_name check.Unfit ≡ codes "unfit")
    × (check_name check.Unknown ≡ codes "unknown")
words_of_nonces = (refl, refl, refl, refl, refl, refl)
