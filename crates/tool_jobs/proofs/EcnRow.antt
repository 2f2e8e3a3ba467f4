-- The words of a line of `ecn` keep what kinds and rows keep.
use Rattle.std.proofs.Common.{◌≡◌, refl, ◌^◌, ◌==◌, true, Some, arith}
use Rattle.dccp_ecn.specs.declared.event.EcnEvent.TheVariants as event
use Rattle.tool_text.specs.Kinds.{IsExactKind, is_whole_word, named_in}
use Rattle.tool_text.specs.Rows.{IsExactRow, ◌▷◌, end_row}
use Rattle.tool_text.proofs.KindLaws.{names-is, number-is}
use Rattle.tool_text.proofs.RowLaws.{as-is, both-is, choice-is, end-is}
use Rattle.tool_jobs.specs.declared.ecn.names.EcnForm.{EcnForm}
use Rattle.tool_jobs.specs.declared.ecn.names.EcnForm.TheVariants as form
use Rattle.tool_jobs.specs.Forms.{ecn_form_kind, ecn_form_name, ecn_forms, ecn_row, ecn_rows, index_kind, index_row, nonce_kind}

form-found : (which : EcnForm) → named_in ecn_form_name ecn_forms (ecn_form_name which) ≡ Some which
form-found form.Send = refl
form-found _ = refl

form-words : (which : EcnForm) → is_whole_word (ecn_form_name which) ≡ true
form-words form.Send = refl
form-words _ = refl

form-is : IsExactKind ecn_form_kind
form-is = names-is ecn_form_name ecn_forms (record { found = form-found; words = form-words })

nonce-is : IsExactRow (nonce_kind ▷ end_row)
nonce-is = both-is nonce_kind end_row (number-is 2 (omega arith)) end-is

index-is : IsExactRow index_row
index-is = as-is (λ s. s.0) (index_kind ▷ end_row) (both-is index_kind end_row (number-is (2 ^ 47) (omega arith)) end-is)

rows-are : (which : EcnForm) → IsExactRow (ecn_rows which)
rows-are form.Send = as-is (λ s. event.Send (s.0 == 1)) (nonce_kind ▷ end_row) nonce-is
rows-are form.Deliver = as-is event.Deliver index_row index-is
rows-are form.Mark = as-is event.Mark index_row index-is
rows-are form.Report = as-is (λ s. event.Report) end_row end-is
rows-are form.Check = as-is event.Check index_row index-is
rows-are form.Forge = as-is event.Forge index_row index-is

pub row-is : IsExactRow ecn_row
row-is = choice-is ecn_form_kind ecn_rows form-is rows-are
