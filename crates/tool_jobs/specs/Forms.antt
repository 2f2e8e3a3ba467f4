-- The lines of `ecn`: what each says, or the first of its faults (own).
use Rattle.std.specs.Prelude.{ℕ, ◌^◌, ◌==◌, List, [], ◌∷◌, codes, Option, Result}
use Rattle.dccp_ecn.specs.declared.event.EcnEvent.{EcnEvent}
use Rattle.dccp_ecn.specs.declared.event.EcnEvent.TheVariants as event
use Rattle.tool_text.specs.declared.words.faults.LineFault.{LineFault}
use Rattle.tool_text.specs.Kinds.{KindOfWords, name_kind, number_kind}
use Rattle.tool_text.specs.Rows.{WordRow, ◌▷◌, choice, end_row, row_as}
use Rattle.tool_text.specs.Lines.{line_read}
use Rattle.tool_jobs.specs.declared.ecn.names.EcnForm.{EcnForm}
use Rattle.tool_jobs.specs.declared.ecn.names.EcnForm.TheVariants as form

-- the first word of a line of `ecn`, which says what the line is
abbrev pub ecn_form_name : EcnForm → List ℕ
ecn_form_name form.Send = codes "send"
ecn_form_name form.Deliver = codes "deliver"
ecn_form_name form.Mark = codes "mark"
ecn_form_name form.Report = codes "report"
ecn_form_name form.Check = codes "check"
ecn_form_name form.Forge = codes "forge"

-- all first words of lines of `ecn`
abbrev pub ecn_forms : List EcnForm
ecn_forms = form.Send ∷ form.Deliver ∷ form.Mark ∷ form.Report ∷ form.Check ∷ form.Forge ∷ []

-- the first word of a line, as a kind of words
abbrev pub ecn_form_kind : KindOfWords EcnForm
ecn_form_kind = name_kind ecn_form_name ecn_forms

-- a nonce: 0 or 1
abbrev pub nonce_kind : KindOfWords ℕ
nonce_kind = number_kind 2

-- the index of a packet or of a report, below 2^47
abbrev pub index_kind : KindOfWords ℕ
index_kind = number_kind (2 ^ 47)

-- the index of a packet or of a report, and nothing after it
abbrev pub index_row : WordRow ℕ
index_row = row_as (λ s. s.0) (index_kind ▷ end_row)

-- The rows after the first word, by the form that it names.
abbrev pub ecn_rows : EcnForm → WordRow EcnEvent
ecn_rows form.Send = row_as (λ s. event.Send (s.0 == 1)) (nonce_kind ▷ end_row)
ecn_rows form.Deliver = row_as event.Deliver index_row
ecn_rows form.Mark = row_as event.Mark index_row
ecn_rows form.Report = row_as (λ s. event.Report) end_row
ecn_rows form.Check = row_as event.Check index_row
ecn_rows form.Forge = row_as event.Forge index_row

-- the words of a line
abbrev pub ecn_row : WordRow EcnEvent
ecn_row = choice ecn_form_kind ecn_rows

-- a line without its newline: its event, or none if it is empty or a comment; or the first of its faults
abbrev pub read_ecn_line : List ℕ → Result (Option EcnEvent) LineFault
read_ecn_line line = line_read ecn_row.said line
