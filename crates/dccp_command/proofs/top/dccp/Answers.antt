-- The form that was found is the one that the words have.
use Rattle.std.proofs.Common.{rules, ◌≡◌, ◌∙◌, ap, sym, subst, Some, true, false}
use Rattle.std.proofs.lemmas.Bool.{false≢true}
use Rattle.std.proofs.lemmas.Option.{same_Some}
use Rattle.tool_forms.specs.Words.{form_of}
use Rattle.tool_forms.specs.declared.campaign_words.Campaign.{Campaign}
use Rattle.tool_forms.specs.declared.words.Form.{Form}
use Rattle.tool_forms.specs.declared.words.Form.TheVariants as form
use Rattle.dccp_command.specs.Forms.{KeepsSafe, OnForm, reads_input}
use Rattle.dccp_command.proofs.FormEnds.{at-each-end, at-some-end, never-words}
use Rattle.dccp_command.proofs.top.dccp.Goals as goal

reads : (f : Form) (OfCampaign : Campaign → Type 0) (OfReader : Type 0) → reads_input f ≡ true → OnForm f OfCampaign OfReader → OfReader
reads (form.Campaign campaign) OfCampaign OfReader is does = absurd (false≢true is)
reads _ OfCampaign OfReader is does = does

unread : (f : Form) (Unread : Type 0) (Counted : Campaign → Type 0) (OfReader : Type 0) → reads_input f ≡ false
    → OnForm f (λ campaign. Unread × Counted campaign) OfReader → Unread
unread (form.Campaign campaign) Unread Counted OfReader is does = does.0
unread _ Unread Counted OfReader is does = absurd (false≢true (sym is))

counts : (f : Form) (campaign : Campaign) (OfCampaign : Campaign → Type 0) (OfReader : Type 0) → f ≡ form.Campaign campaign → OnForm f OfCampaign OfReader
    → OfCampaign campaign
counts f campaign OfCampaign OfReader is does = subst (λ (g : Form). OnForm g OfCampaign OfReader) is does

pub returns-in-Ok-Some-clause-words : goal.returns-in-Ok-Some-clause-words
returns-in-Ok-Some-clause-words g c = λ is. absurd (never-words _ _ c.answer_form.ensures is)

pub returns-in-Ok-Some-clause-usage : goal.returns-in-Ok-Some-clause-usage
returns-in-Ok-Some-clause-usage g c = λ is. absurd (never-words _ _ c.answer_form.ensures is)

pub returns-in-Ok-Some-clause-answers : goal.returns-in-Ok-Some-clause-answers
returns-in-Ok-Some-clause-answers g c = λ asked words is bytes told.
    let found : Some c.in-Ok-Some.form ≡ form_of c.args.words.now = search rules in
    let same = same_Some c.in-Ok-Some.form asked (found ∙ words) in
    at-each-end c.answer_form.result _ _ c.answer_form.ensures
    (λ end did. let does = reads c.in-Ok-Some.form _ _ (ap reads_input same ∙ is) did.does bytes told in (rw (sym same) does.answers))

pub returns-in-Ok-Some-clause-past : goal.returns-in-Ok-Some-clause-past
returns-in-Ok-Some-clause-past g c = λ asked words is bytes told.
    let found : Some c.in-Ok-Some.form ≡ form_of c.args.words.now = search rules in
    let same = same_Some c.in-Ok-Some.form asked (found ∙ words) in
    at-each-end c.answer_form.result _ _ c.answer_form.ensures
    (λ end did. let does = reads c.in-Ok-Some.form _ _ (ap reads_input same ∙ is) did.does bytes told in rw (sym same) does.past)

pub returns-in-Ok-Some-clause-safe : goal.returns-in-Ok-Some-clause-safe
returns-in-Ok-Some-clause-safe g c = λ words bytes told.
    let found : Some c.in-Ok-Some.form ≡ form_of c.args.words.now = search rules in
    let same = same_Some c.in-Ok-Some.form form.Run (found ∙ words) in
    at-each-end c.answer_form.result _ _ c.answer_form.ensures
    (λ end did. let does = reads c.in-Ok-Some.form _ _ (ap reads_input same) did.does bytes told in
    (λ answered. subst (λ (f : Form). KeepsSafe f bytes) same (does.safe answered)))

pub returns-in-Ok-Some-clause-totals : goal.returns-in-Ok-Some-clause-totals
returns-in-Ok-Some-clause-totals g c = λ campaign words.
    let found : Some c.in-Ok-Some.form ≡ form_of c.args.words.now = search rules in
    let same = same_Some c.in-Ok-Some.form (form.Campaign campaign) (found ∙ words) in
    at-each-end c.answer_form.result _ _ c.answer_form.ensures (λ end did. (counts c.in-Ok-Some.form campaign _ _ same did.does).1)

pub returns-in-Ok-Some-clause-form_unread : goal.returns-in-Ok-Some-clause-form_unread
returns-in-Ok-Some-clause-form_unread g c = λ asked words is.
    let found : Some c.in-Ok-Some.form ≡ form_of c.args.words.now = search rules in
    let none = ap reads_input (same_Some c.in-Ok-Some.form asked (found ∙ words)) ∙ is in
    at-some-end c.answer_form.result _ _ c.answer_form.ensures (λ end did. unread c.in-Ok-Some.form _ _ _ none did.does)

pub returns-in-Ok-Some-clause-cause : goal.returns-in-Ok-Some-clause-cause
returns-in-Ok-Some-clause-cause g c = λ _ _. at-each-end c.answer_form.result _ _ c.answer_form.ensures (λ end did. did.cause)
