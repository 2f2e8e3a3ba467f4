-- What reading refuses a line for is the first fault of the table.
use Rattle.std.proofs.Common.{◌≡◌, refl, sym, ap, ◌∙◌, ℕ, ◌+◌, ◌^◌, List, [], ◌∷◌, length, Bool, true, false, ◌&&◌, ◌||◌, ◌==◌, if◌then◌else◌, nat_lt, Option, Some, None, is_some, Result, Ok, Err, arith}
use Rattle.std.specs.Prelude.{codes, decimal, ◌↔◌}
use Rattle.std.specs.Str.{bytes_eq}
use Rattle.std.proofs.lemmas.Bool.Decides.{nat_tests}
use Rattle.feature_lists.specs.Features.{feature_number}
use Rattle.feature_lists.specs.Wishes.{is_ours, wish_of}
use Rattle.feature_lists.specs.declared.features.Feature.{Feature}
use Rattle.feature_lists.specs.declared.features.Place.{Place}
use Rattle.feature_lists.specs.declared.wishes.PreferFault.{PreferFault}
use Rattle.feature_lists.specs.declared.wishes.Wanted.{Wanted}
use Rattle.world_events.specs.declared.event.Side.{Side}
use Rattle.tool_text.specs.declared.words.faults.LineFault.{LineFault}
use Rattle.tool_text.specs.declared.words.faults.LineWhy.{LineWhy}
use Rattle.tool_text.specs.declared.words.faults.LineWhy.TheVariants as why
use Rattle.tool_text.specs.Refusals.{fault_at}
use Rattle.tool_text.specs.Numbers.{number_below}
use Rattle.tool_text.specs.Words.{WordAt, WordsLeft, words_left, first_word, later, word_at, words_of, texts_of}
use Rattle.tool_text.specs.Digits.{digits_flaw}
use Rattle.tool_text.specs.Kinds.{flaw_after, flaw_fault, flaw_unless, found_or, judged_word, bad_hex, dash_kind, hex_kind}
use Rattle.tool_text.specs.Rows.{first_or, fault_in, nothing_more, end_row, ◌▷◌, chosen_fault, AreBoth, cause_at, refused_at, flag_flaw, flag_fault, flag_row}
use Rattle.tool_text.specs.Lines.{first_other, clean, says_nothing, no_text}
use Rattle.tool_text.proofs.Bytes.{if-false}
use Rattle.tool_text.proofs.RowLaws.{then-fault}
use Rattle.tool_text.proofs.LineLaws.{clean-by, first-assoc, refused-is}
use Rattle.schedule_text.specs.declared.line.Line.TheVariants as line
use Rattle.schedule_text.specs.declared.names.Form.{Form}
use Rattle.schedule_text.specs.declared.names.Form.TheVariants as form
use Rattle.schedule_text.specs.Names.{form_named, side_named, place_name, place_named, timer_of}
use Rattle.schedule_text.specs.Numbers.{indices, values_of, feature_of, schedule_version}
use Rattle.schedule_text.specs.Printing.{values_text}
use Rattle.schedule_text.specs.Range.{AreValues}
use Rattle.schedule_text.specs.Kinds.{form_kind, side_kind, place_kind, timer_kind, sequence_kind, feature_kind, version_kind, values_kind, frame_kind, name_flaw}
use Rattle.schedule_text.specs.Reading.{wish_cause, set_cause, offer_cause, rows, line_row, read_clean, read_line}
use Rattle.schedule_text.specs.Faults.{unless, word_fault, a_side, a_place, a_timer, a_number, a_feature, a_version, some_values, name_cause, names_frame, a_name, bad_digit, digits_fault, some_bytes, maybe_first, maybe_mandatory, judges_of, words_fault, refused_wish, refused_set, refused_offer, end_fault, form_fault, spoken_fault, line_fault}
use Rattle.schedule_text.proofs.RowsAre.{place-is, feature-is, values-is, line-is, list-is, offer-is}

-- Words

unless-same : (column : ℕ) (cause : LineWhy) (fits : Bool) → flaw_fault column (flaw_unless fits (flaw_after 0 cause)) ≡ unless fits (fault_at column cause)
unless-same column cause true = refl
unless-same column cause false = let here : 0 + column ≡ column = omega arith in ap (λ (c : ℕ). Some (fault_at c cause)) here

absent-same : (absent : Bool) (missing : LineFault) (a b : Option LineFault) → a ≡ b
    → (if absent then Some missing else a) ≡ (if absent then Some missing else b)
absent-same true missing a b is = refl
absent-same false missing a b is = is

-- a word of a kind that finds something in it is judged as the table has it
word-same : (cause : LineWhy) (fits : Bool) (word : WordAt)
    → (if length word.text == 0 then Some (fault_at word.column why.Missing) else flaw_fault word.column (flaw_unless fits (flaw_after 0 cause)))
    ≡ word_fault cause fits word
word-same cause fits word =
    absent-same (length word.text == 0) (fault_at word.column why.Missing) (flaw_fault word.column (flaw_unless fits (flaw_after 0 cause)))
    (unless fits (fault_at word.column cause))
    (unless-same word.column cause fits)

side-same : (left : WordsLeft) → judged_word side_kind.flaw (first_word left) ≡ a_side left
side-same left = word-same why.UnknownWord (is_some (side_named (first_word left).text)) (first_word left)

place-same : (left : WordsLeft) → judged_word place_kind.flaw (first_word left) ≡ a_place left
place-same left = word-same why.UnknownWord (is_some (place_named (first_word left).text)) (first_word left)

timer-same : (left : WordsLeft) → judged_word timer_kind.flaw (first_word left) ≡ a_timer left
timer-same left = word-same why.UnknownWord (is_some (timer_of (first_word left).text)) (first_word left)

number-same : (left : WordsLeft) → judged_word sequence_kind.flaw (first_word left) ≡ a_number left
number-same left = word-same why.BadNumber (is_some (number_below (2 ^ 48) (first_word left).text)) (first_word left)

feature-same : (left : WordsLeft) → judged_word feature_kind.flaw (first_word left) ≡ a_feature left
feature-same left = word-same why.BadNumber (is_some (feature_of (first_word left).text)) (first_word left)

version-same : (left : WordsLeft) → judged_word version_kind.flaw (first_word left) ≡ a_version left
version-same left = word-same why.BadNumber (is_some (schedule_version (first_word left).text)) (first_word left)

values-same : (left : WordsLeft) → judged_word values_kind.flaw (first_word left) ≡ some_values left
values-same left = word-same why.BadNumber (is_some (values_of (first_word left).text)) (first_word left)

letter-same : (column : ℕ) (known some : Bool)
    → flaw_fault column (if known then flaw_unless some (flaw_after 0 why.BadNumber) else Some (flaw_after 0 why.UnknownWord))
    ≡ unless (known && some) (fault_at column (if known then why.BadNumber else why.UnknownWord))
letter-same column true some = unless-same column why.BadNumber some
letter-same column false some = let here : 0 + column ≡ column = omega arith in ap (λ (c : ℕ). Some (fault_at c why.UnknownWord)) here

name-by : (column : ℕ) (text : List ℕ) → flaw_fault column (name_flaw text) ≡ unless (names_frame text) (fault_at column (name_cause text))
name-by column [] = let here : 0 + column ≡ column = omega arith in ap (λ (c : ℕ). Some (fault_at c why.UnknownWord)) here
name-by column (letter ∷ index) = letter-same column (letter == 99 || letter == 115) (is_some (number_below indices index))

name-same : (left : WordsLeft) → judged_word frame_kind.flaw (first_word left) ≡ a_name left
name-same left =
    let word = first_word left in
    absent-same (length word.text == 0) (fault_at word.column why.Missing) (flaw_fault word.column (name_flaw word.text))
    (unless (names_frame word.text) (fault_at word.column (name_cause word.text)))
    (name-by word.column word.text)

bad-same : (word : WordAt) (place : Option ℕ) → flaw_fault word.column (bad_hex place) ≡ bad_digit word place
bad-same word None = refl
bad-same word (Some place) = let turned : place + word.column ≡ word.column + place = omega arith in
    ap (λ (column : ℕ). Some (fault_at column why.BadHex)) turned

pub digits-same : (word : WordAt) → judged_word hex_kind.flaw word ≡ digits_fault word
digits-same word =
    absent-same (length word.text == 0) (fault_at word.column why.Missing) (flaw_fault word.column (bad_hex (digits_flaw word.text)))
    (bad_digit word (digits_flaw word.text))
    (bad-same word (digits_flaw word.text))

some-length : (byte : ℕ) (bytes : List ℕ) → (length (byte ∷ bytes) == 0) ≡ false
some-length byte bytes = grind (arith, nat_tests)

dash-by : (word : WordAt) (dash : Bool)
    → flaw_fault word.column (if dash then None else bad_hex (digits_flaw word.text)) ≡ (if dash then None else bad_digit word (digits_flaw word.text))
dash-by word true = refl
dash-by word false = bad-same word (digits_flaw word.text)

under-test : (test : Bool) (a b c : Option LineFault) → b ≡ c → (if test then a else b) ≡ (if test then a else c)
under-test true a b c is = refl
under-test false a b c is = is

-- the same word, with its text apart
dash-text : (column : ℕ) (text : List ℕ)
    → judged_word dash_kind.flaw (record { column = column; text = text })
    ≡ (if bytes_eq text (codes "-") then None else digits_fault (record { column = column; text = text }))
dash-text column [] = refl
dash-text column (byte ∷ bytes) =
    let word : WordAt = record { column = column; text = byte ∷ bytes } in
    let some = some-length byte bytes in
    if-false (length (byte ∷ bytes) == 0) (Some (fault_at column why.Missing))
    (flaw_fault column (if bytes_eq (byte ∷ bytes) (codes "-") then None else bad_hex (digits_flaw (byte ∷ bytes)))) some
    ∙ dash-by word (bytes_eq (byte ∷ bytes) (codes "-"))
    ∙ sym (under-test (bytes_eq (byte ∷ bytes) (codes "-")) None (digits_fault word) (bad_digit word (digits_flaw (byte ∷ bytes)))
    (if-false (length (byte ∷ bytes) == 0) (Some (fault_at column why.Missing)) (bad_digit word (digits_flaw (byte ∷ bytes))) some))

bytes-same : (left : WordsLeft) → judged_word dash_kind.flaw (first_word left) ≡ some_bytes left
bytes-same left = dash-text (first_word left).column (first_word left).text

flag-by : (column : ℕ) (is : Bool) → flaw_fault column (if is then None else Some (flaw_after 0 why.UnknownWord)) ≡ unless is (fault_at column why.UnknownWord)
flag-by column true = refl
flag-by column false = let here : 0 + column ≡ column = omega arith in ap (λ (c : ℕ). Some (fault_at c why.UnknownWord)) here

flag-same : (words : List WordAt) (absent : ℕ)
    → flag_fault (codes "mandatory") words ≡ first_or (maybe_first words) (nothing_more (later (words_left words absent)).words)
flag-same [] absent = refl
flag-same (word ∷ words) absent =
    ap (λ (here : Option LineFault). first_or here (nothing_more words))
    (absent-same (length word.text == 0) (fault_at word.column why.Missing) (flaw_fault word.column (flag_flaw (codes "mandatory") word.text))
    (unless (bytes_eq word.text (codes "mandatory")) (fault_at word.column why.UnknownWord)) (flag-by word.column (bytes_eq word.text (codes "mandatory"))))

-- Rows

found-ok : {A : Type 0} (cause : LineWhy) (found : Option A) (x : A) → found_or cause found ≡ Ok x → found ≡ Some x
found-ok cause None x is = cc is
found-ok cause (Some y) x is = let equal : y ≡ x = cc is in ap Some equal

then-same : (a b c d : Option LineFault) → a ≡ b → c ≡ d → first_or a c ≡ first_or b d
then-same a b c d p q = ap (λ (here : Option LineFault). first_or here c) p ∙ ap (first_or b) q

no-more : (a : Option LineFault) → first_or a None ≡ a
no-more None = refl
no-more (Some fault) = refl

-- a row that no end judges
plain-same : (a b : Option LineFault) → a ≡ b → a ≡ first_or b None
plain-same a b is = is ∙ sym (no-more b)

-- what comes second is asked only if nothing came first
pub first-when : (a b c : Option LineFault) → (a ≡ None → b ≡ c) → first_or a b ≡ first_or a c
first-when None b c is = is refl
first-when (Some fault) b c is = refl

pub said-some : {A : Type 0} (r : Result A LineFault) → fault_in r ≡ None → (x : A) × (r ≡ Ok x)
said-some (Ok x) none = (x, refl)
said-some (Err fault) none = cc none

list-same : (left : WordsLeft)
    → (side_kind ▷ place_kind ▷ feature_kind ▷ values_kind ▷ end_row).fault left ≡ words_fault (a_side ∷ (a_place ∷ (a_feature ∷ (some_values ∷ [])))) left
list-same left =
    let two = later left in
    let three = later two in
    let four = later three in
    let over = nothing_more (later four).words in
    let last = then-same (judged_word values_kind.flaw (first_word four)) (some_values four) over over (values-same four) refl in
    let third = then-same (judged_word feature_kind.flaw (first_word three)) (a_feature three) (first_or (judged_word values_kind.flaw (first_word four)) over)
    (first_or (some_values four) over) (feature-same three) last in
    let second = then-same (judged_word place_kind.flaw (first_word two)) (a_place two)
    (first_or (judged_word feature_kind.flaw (first_word three)) (first_or (judged_word values_kind.flaw (first_word four)) over))
    (first_or (a_feature three) (first_or (some_values four) over)) (place-same two) third in
    then-same (judged_word side_kind.flaw (first_word left)) (a_side left)
    (first_or (judged_word place_kind.flaw (first_word two))
    (first_or (judged_word feature_kind.flaw (first_word three)) (first_or (judged_word values_kind.flaw (first_word four)) over)))
    (first_or (a_place two) (first_or (a_feature three) (first_or (some_values four) over))) (side-same left) second

offer-same : (left : WordsLeft)
    → (side_kind ▷ place_kind ▷ feature_kind ▷ flag_row (codes "mandatory")).fault left ≡ words_fault
    (a_side ∷ (a_place ∷ (a_feature ∷ (maybe_mandatory ∷ [])))) left
offer-same left =
    let two = later left in
    let three = later two in
    let four = later three in
    let flag = flag_fault (codes "mandatory") four.words in
    let last = first_or (maybe_mandatory four) (nothing_more (later four).words) in
    let third = then-same (judged_word feature_kind.flaw (first_word three)) (a_feature three) flag last (feature-same three)
    (flag-same four.words four.absent) in
    let second = then-same (judged_word place_kind.flaw (first_word two)) (a_place two) (first_or (judged_word feature_kind.flaw (first_word three)) flag)
    (first_or (a_feature three) last) (place-same two) third in
    then-same (judged_word side_kind.flaw (first_word left)) (a_side left)
    (first_or (judged_word place_kind.flaw (first_word two)) (first_or (judged_word feature_kind.flaw (first_word three)) flag))
    (first_or (a_place two) (first_or (a_feature three) last)) (side-same left) second

-- what a word is found as, where it spells that
found-place : (text : List ℕ) (place : Place) → text ≡ place_name place → place_named text ≡ Some place
found-place text place is = found-ok why.UnknownWord (place_named text) place (place-is.read_back text place is)

found-feature : (text : List ℕ) (feature : Feature) → text ≡ decimal (feature_number feature) → feature_of text ≡ Some feature
found-feature text feature is = found-ok why.BadNumber (feature_of text) feature (feature-is.read_back text feature is)

found-values : (text : List ℕ) (values : List ℕ) → (text ≡ values_text values) × AreValues values → values_of text ≡ Some values
found-values text values is = found-ok why.BadNumber (values_of text) values (values-is.read_back text values is)

-- what an end may not have, where the words could be read
wish-same : (column : ℕ) (r : Result Wanted PreferFault) → cause_at column (wish_cause r) ≡ refused_wish column r
wish-same column (Ok wanted) = refl
wish-same column (Err fault) = refl

set-by : (words : List WordAt) (absent : ℕ) (s : Side × (Place × (Feature × (List ℕ × Unit {0}))))
    → AreBoth side_kind.Spells (AreBoth place_kind.Spells (AreBoth feature_kind.Spells (AreBoth values_kind.Spells end_row.Spells))) s (texts_of words)
    → cause_at (word_at 3 (words_left words absent)).column (set_cause s) ≡ end_fault form.Set (words_left words absent)
set-by [] absent s is = absurd is
set-by (a ∷ []) absent s is = absurd is.1
set-by (a ∷ (b ∷ [])) absent s is = absurd is.1.1
set-by (a ∷ (b ∷ (c ∷ []))) absent s is = absurd is.1.1.1
set-by (a ∷ (b ∷ (c ∷ (d ∷ words)))) absent s is =
    let place : place_named b.text ≡ Some s.1.0 = found-place b.text s.1.0 is.1.0 in
    let feature : feature_of c.text ≡ Some s.1.1.0 = found-feature c.text s.1.1.0 is.1.1.0 in
    let values : values_of d.text ≡ Some s.1.1.1.0 = found-values d.text s.1.1.1.0 is.1.1.1.0 in
    wish-same d.column (wish_of s.1.1.0 s.1.0 s.1.1.1.0)
    ∙ sym (ap (λ (p : Option Place). refused_set d.column p (feature_of c.text) (values_of d.text)) place
    ∙ ap (λ (f : Option Feature). refused_set d.column (Some s.1.0) f (values_of d.text)) feature
    ∙ ap (refused_set d.column (Some s.1.0) (Some s.1.1.0)) values)

offer-cause-same : (column : ℕ) (ours : Bool) → cause_at column (if ours then None else Some why.NotOurs) ≡ unless ours (fault_at column why.NotOurs)
offer-cause-same column true = refl
offer-cause-same column false = refl

offer-by : (words : List WordAt) (absent : ℕ) (s : Side × (Place × (Feature × Bool)))
    → AreBoth side_kind.Spells (AreBoth place_kind.Spells (AreBoth feature_kind.Spells (flag_row (codes "mandatory")).Spells)) s (texts_of words)
    → cause_at (word_at 2 (words_left words absent)).column (offer_cause s) ≡ end_fault form.Offer (words_left words absent)
offer-by [] absent s is = absurd is
offer-by (a ∷ []) absent s is = absurd is.1
offer-by (a ∷ (b ∷ [])) absent s is = absurd is.1.1
offer-by (a ∷ (b ∷ (c ∷ words))) absent s is =
    let place : place_named b.text ≡ Some s.1.0 = found-place b.text s.1.0 is.1.0 in
    let feature : feature_of c.text ≡ Some s.1.1.0 = found-feature c.text s.1.1.0 is.1.1.0 in
    offer-cause-same c.column (is_ours s.1.1.0 s.1.0)
    ∙ sym (ap (λ (p : Option Place). refused_offer c.column p (feature_of c.text)) place
    ∙ ap (refused_offer c.column (Some s.1.0)) feature)

set-same : (left : WordsLeft) → (rows form.Set).fault left ≡ form_fault (Some form.Set) left
set-same left =
    let row = side_kind ▷ place_kind ▷ feature_kind ▷ values_kind ▷ end_row in
    let column = (word_at 3 left).column in
    first-when (row.fault left) (refused_at column set_cause (row.said left)) (end_fault form.Set left) (λ none.
    let found = said-some (row.said left) (list-is.first left ∙ none) in
    ap (refused_at column set_cause) found.1 ∙ set-by left.words left.absent found.0 (list-is.spelled left found.0 found.1))
    ∙ ap (λ (here : Option LineFault). first_or here (end_fault form.Set left)) (list-same left)

offered-same : (left : WordsLeft) → (rows form.Offer).fault left ≡ form_fault (Some form.Offer) left
offered-same left =
    let row = side_kind ▷ place_kind ▷ feature_kind ▷ flag_row (codes "mandatory") in
    let column = (word_at 2 left).column in
    first-when (row.fault left) (refused_at column offer_cause (row.said left)) (end_fault form.Offer left) (λ none.
    let found = said-some (row.said left) (offer-is.first left ∙ none) in
    ap (refused_at column offer_cause) found.1 ∙ offer-by left.words left.absent found.0 (offer-is.spelled left found.0 found.1))
    ∙ ap (λ (here : Option LineFault). first_or here (end_fault form.Offer left)) (offer-same left)

row-same : (which : Form) (left : WordsLeft) → (rows which).fault left ≡ form_fault (Some which) left
row-same form.Version left =
    let over = nothing_more (later left).words in
    plain-same (first_or (judged_word version_kind.flaw (first_word left)) over) (words_fault (judges_of form.Version) left)
    (then-same (judged_word version_kind.flaw (first_word left)) (a_version left) over over (version-same left) refl)
row-same form.Plain left = plain-same (nothing_more left.words) (nothing_more left.words) refl
row-same form.Iss left =
    let two = later left in
    let over = nothing_more (later two).words in
    plain-same (first_or (judged_word side_kind.flaw (first_word left)) (first_or (judged_word sequence_kind.flaw (first_word two)) over))
    (words_fault (judges_of form.Iss) left)
    (then-same (judged_word side_kind.flaw (first_word left)) (a_side left) (first_or (judged_word sequence_kind.flaw (first_word two)) over)
    (first_or (a_number two) over) (side-same left)
    (then-same (judged_word sequence_kind.flaw (first_word two)) (a_number two) over over (number-same two) refl))
row-same form.Set left = set-same left
row-same form.Offer left = offered-same left
row-same form.Open left = plain-same (nothing_more left.words) (nothing_more left.words) refl
row-same form.Deliver left =
    let over = nothing_more (later left).words in
    plain-same (first_or (judged_word frame_kind.flaw (first_word left)) over) (words_fault (judges_of form.Deliver) left)
    (then-same (judged_word frame_kind.flaw (first_word left)) (a_name left) over over (name-same left) refl)
row-same form.Send left =
    let two = later left in
    let over = nothing_more (later two).words in
    plain-same (first_or (judged_word side_kind.flaw (first_word left)) (first_or (judged_word dash_kind.flaw (first_word two)) over))
    (words_fault (judges_of form.Send) left)
    (then-same (judged_word side_kind.flaw (first_word left)) (a_side left) (first_or (judged_word dash_kind.flaw (first_word two)) over)
    (first_or (some_bytes two) over) (side-same left)
    (then-same (judged_word dash_kind.flaw (first_word two)) (some_bytes two) over over (bytes-same two) refl))
row-same form.Prefer left =
    plain-same ((side_kind ▷ place_kind ▷ feature_kind ▷ values_kind ▷ end_row).fault left) (words_fault (judges_of form.Prefer) left) (list-same left)
row-same form.Timer left =
    let two = later left in
    let over = nothing_more (later two).words in
    plain-same (first_or (judged_word side_kind.flaw (first_word left)) (first_or (judged_word timer_kind.flaw (first_word two)) over))
    (words_fault (judges_of form.Timer) left)
    (then-same (judged_word side_kind.flaw (first_word left)) (a_side left) (first_or (judged_word timer_kind.flaw (first_word two)) over)
    (first_or (a_timer two) over) (side-same left)
    (then-same (judged_word timer_kind.flaw (first_word two)) (a_timer two) over over (timer-same two) refl))
row-same form.Close left =
    let over = nothing_more (later left).words in
    plain-same (first_or (judged_word side_kind.flaw (first_word left)) over) (words_fault (judges_of form.Close) left)
    (then-same (judged_word side_kind.flaw (first_word left)) (a_side left) over over (side-same left) refl)
row-same form.Abort left =
    let over = nothing_more (later left).words in
    plain-same (first_or (judged_word side_kind.flaw (first_word left)) over) (words_fault (judges_of form.Abort) left)
    (then-same (judged_word side_kind.flaw (first_word left)) (a_side left) over over (side-same left) refl)

-- Lines

chosen-same : (found : Option Form) (left : WordsLeft) → chosen_fault rows (found_or why.UnknownWord found) left ≡ form_fault found left
chosen-same None left = refl
chosen-same (Some which) left = row-same which left

spoken-same : (left : WordsLeft) → line_row.fault left ≡ spoken_fault left
spoken-same left =
    let word = first_word left in
    then-same (judged_word form_kind.flaw word) (word_fault why.UnknownWord (is_some (form_named word.text)) word)
    (chosen_fault rows (form_kind.reads word.text) (later left)) (form_fault (form_named word.text) (later left))
    (word-same why.UnknownWord (is_some (form_named word.text)) word) (chosen-same (form_named word.text) (later left))

clean-fault : (nothing : Bool) (left : WordsLeft)
    → fault_in (if nothing then Ok line.Nothing else line_row.said left) ≡ (if nothing then None else spoken_fault left)
clean-fault true left = refl
clean-fault false left = line-is.first left ∙ spoken-same left

read-fault : (text : List ℕ) → fault_in (read_line text) ≡ line_fault text
read-fault text =
    let long : Option LineFault = if nat_lt 4096 (length text) then Some (fault_at 4097 why.LineTooLong) else None in
    let words : Option LineFault = if says_nothing text then None else spoken_fault (words_of text) in
    then-fault (clean text) (read_clean text) (first_or long (no_text (first_other text))) words
    (clean-by (first_other text) (nat_lt 4096 (length text))) (clean-fault (says_nothing text) (words_of text))
    ∙ first-assoc long (no_text (first_other text)) words

-- a line is refused for its first fault, and for no other
pub first-fault : (text : List ℕ) (fault : LineFault) → (read_line text ≡ Err fault) ↔ (line_fault text ≡ Some fault)
first-fault text fault =
    let both = refused-is (read_line text) fault in
    (λ is. sym (read-fault text) ∙ both.0 is, λ is. both.1 (read-fault text ∙ is))
