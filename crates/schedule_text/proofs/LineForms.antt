-- A line is accepted exactly if it is the words of what it says.
use Rattle.std.proofs.Common.{◌≡◌, refl, sym, ap, ◌∙◌, subst, ℕ, suc, ◌+◌, ◌*◌, ◌^◌, ◌/◌, ◌%◌, ◌≤◌, ◌<◌, List, [], ◌∷◌, length, Bool, true, false, if◌then◌else◌, Some, None, Result, Ok, Err, arith}
use Rattle.std.specs.Prelude.{codes, decimal, IsOk}
use Rattle.std.specs.List.{list_all}
use Rattle.std.proofs.lemmas.List.Splits.{join_with_byte-slice_split}
use Rattle.feature_lists.specs.Features.{feature_number}
use Rattle.feature_lists.specs.Wishes.{is_ours, wish_of}
use Rattle.feature_lists.specs.declared.features.Feature.{Feature}
use Rattle.feature_lists.specs.declared.features.Place.{Place}
use Rattle.feature_lists.specs.declared.wishes.PreferFault.{PreferFault}
use Rattle.feature_lists.specs.declared.wishes.Wanted.{Wanted}
use Rattle.world_events.specs.declared.event.Side.{Side}
use Rattle.world_events.specs.declared.event.Side.TheVariants.{Client, Server}
use Rattle.world_events.specs.declared.event.Event.{Event}
use Rattle.world_events.specs.declared.event.Event.TheVariants as event
use Rattle.dccp_states.specs.declared.calls.Timer.{Timer}
use Rattle.tool_text.specs.declared.words.faults.LineWhy.TheVariants as why
use Rattle.hex.specs.Hex.{IsBytes, encode_lower, encode_with}
use Rattle.hex.proofs.HexLemmas.{IsDigits-lower_digits}
use Rattle.tool_text.specs.Text.{hex_or_dash}
use Rattle.tool_text.specs.Words.{words_of, placed, parted_by, texts_of, joined}
use Rattle.tool_text.specs.Digits.{AreDigitsOf, AreDigitsOrDash}
use Rattle.tool_text.specs.Kinds.{dash_kind}
use Rattle.tool_text.specs.Rows.{AreBoth, AreChosen, end_row}
use Rattle.tool_text.specs.Lines.{is_text, clean, says_nothing}
use Rattle.tool_text.proofs.Bytes.{if-false, if-true, words-parted, joined-text, joined-length, words_length}
use Rattle.tool_text.proofs.DigitLaws.{spelled-pairs}
use Rattle.tool_text.proofs.RowLaws.{then-ok, then-read}
use Rattle.tool_text.proofs.LineLaws.{IsClean, clean-ok, clean-back, texts-placed}
use Rattle.schedule_text.specs.declared.line.Line.{Line}
use Rattle.schedule_text.specs.declared.line.Line.TheVariants as line
use Rattle.schedule_text.specs.declared.names.Form.{Form}
use Rattle.schedule_text.specs.declared.names.Form.TheVariants as form
use Rattle.schedule_text.specs.Names.{form_name, side_name, place_name, timer_name}
use Rattle.schedule_text.specs.Printing.{values_text, frame_name, mandatory_words, line_words, event_text}
use Rattle.schedule_text.specs.Range.{AreValues, IsPrintable, IsVersion}
use Rattle.schedule_text.specs.Forms.{IsLine}
use Rattle.schedule_text.specs.Kinds.{form_kind, side_kind, place_kind, timer_kind, sequence_kind, feature_kind, version_kind, values_kind, frame_kind}
use Rattle.schedule_text.specs.Reading.{wish_cause, rows, line_row, read_clean, read_line}
use Rattle.schedule_text.proofs.RowsAre.{line-is, side-length, place-length, timer-length, name-length, number-length, feature-length, values-length, version-small}

-- From words to what they say

wish-is : (r : Result Wanted PreferFault) → wish_cause r ≡ None → IsOk r
wish-is (Ok wanted) is = refl
wish-is (Err fault) is = cc is

wish-back : (r : Result Wanted PreferFault) → IsOk r → wish_cause r ≡ None
wish-back (Ok wanted) is = refl
wish-back (Err fault) is = cc is

offer-by : (ours : Bool) → (if ours then None else Some why.NotOurs) ≡ None → ours ≡ true
offer-by true is = refl
offer-by false is = cc is

offer-back : (ours : Bool) → ours ≡ true → (if ours then None else Some why.NotOurs) ≡ None
offer-back true is = refl
offer-back false is = cc is

-- the words after a first one are these
following : (text : List ℕ) (name : List ℕ) (rest are : List (List ℕ)) → text ≡ joined (name ∷ rest) → rest ≡ are → text ≡ joined (name ∷ are)
following text name rest are words is = words ∙ ap (λ (ps : List (List ℕ)). joined (name ∷ ps)) is

list-are : (rest : List (List ℕ)) (s : Side × (Place × (Feature × (List ℕ × Unit {0}))))
    → AreBoth side_kind.Spells (AreBoth place_kind.Spells (AreBoth feature_kind.Spells (AreBoth values_kind.Spells end_row.Spells))) s rest
    → (rest ≡ side_name s.0 ∷ (place_name s.1.0 ∷ (decimal (feature_number s.1.1.0) ∷ (values_text s.1.1.1.0 ∷ [])))) × AreValues s.1.1.1.0
list-are [] s is = absurd is
list-are (a ∷ []) s is = absurd is.1
list-are (a ∷ (b ∷ [])) s is = absurd is.1.1
list-are (a ∷ (b ∷ (c ∷ []))) s is = absurd is.1.1.1
list-are (a ∷ (b ∷ (c ∷ (d ∷ more)))) s is =
    let one = is.0 in
    let two = is.1.0 in
    let three = is.1.1.0 in
    let four = is.1.1.1.0.0 in
    let over = is.1.1.1.1 in
    (cc (one, two, three, four, over), is.1.1.1.0.1)

offer-are : (rest : List (List ℕ)) (s : Side × (Place × (Feature × Bool)))
    → AreBoth side_kind.Spells
    (AreBoth place_kind.Spells (AreBoth feature_kind.Spells (λ flag words. words ≡ (if flag then codes "mandatory" ∷ [] else [])))) s rest
    → rest ≡ side_name s.0 ∷ (place_name s.1.0 ∷ (decimal (feature_number s.1.1.0) ∷ mandatory_words s.1.1.1))
offer-are [] s is = absurd is
offer-are (a ∷ []) s is = absurd is.1
offer-are (a ∷ (b ∷ [])) s is = absurd is.1.1
offer-are (a ∷ (b ∷ (c ∷ more))) s is =
    let one = is.0 in
    let two = is.1.0 in
    let three = is.1.1.0 in
    let last = is.1.1.1 in
    cc (one, two, three, last)

one-are : (rest : List (List ℕ)) (side : Side) (u : Unit {0}) → AreBoth side_kind.Spells end_row.Spells (side, u) rest → rest ≡ side_name side ∷ []
one-are [] side u is = absurd is
one-are (a ∷ more) side u is = let one = is.0 in let over = is.1 in cc (one, over)

iss-are : (rest : List (List ℕ)) (s : Side × (ℕ × Unit {0})) → AreBoth side_kind.Spells (AreBoth sequence_kind.Spells end_row.Spells) s rest
    → (rest ≡ side_name s.0 ∷ (decimal s.1.0 ∷ [])) × (s.1.0 < 2 ^ 48)
iss-are [] s is = absurd is
iss-are (a ∷ []) s is = absurd is.1
iss-are (a ∷ (b ∷ more)) s is = let one = is.0 in let two = is.1.0.0 in let over = is.1.1 in (cc (one, two, over), is.1.0.1)

timer-are : (rest : List (List ℕ)) (s : Side × (Timer × Unit {0})) → AreBoth side_kind.Spells (AreBoth timer_kind.Spells end_row.Spells) s rest
    → rest ≡ side_name s.0 ∷ (timer_name s.1.0 ∷ [])
timer-are [] s is = absurd is
timer-are (a ∷ []) s is = absurd is.1
timer-are (a ∷ (b ∷ more)) s is = let one = is.0 in let two = is.1.0 in let over = is.1.1 in cc (one, two, over)

name-are : (rest : List (List ℕ)) (s : (Side × ℕ) × Unit {0}) → AreBoth frame_kind.Spells end_row.Spells s rest → (rest ≡ frame_name s.0.0 s.0.1 ∷ [])
    × (s.0.1 < 2 ^ 47)
name-are [] s is = absurd is
name-are (a ∷ more) s is = let one = is.0.0 in let over = is.1 in (cc (one, over), is.0.1)

version-are : (rest : List (List ℕ)) (s : ℕ × Unit {0}) → AreBoth version_kind.Spells end_row.Spells s rest → (rest ≡ decimal s.0 ∷ []) × IsVersion s.0
version-are [] s is = absurd is
version-are (a ∷ more) s is = let one = is.0.0 in let over = is.1 in (cc (one, over), is.0.1)

-- the digits of the data of a line
record AreSent (rest : List (List ℕ)) (side : Side) (payload : List ℕ) : Type 0 where
  pub digits : List ℕ
  pub spells : AreDigitsOrDash digits payload
  pub rest_is : rest ≡ side_name side ∷ (digits ∷ [])

send-are : (rest : List (List ℕ)) (s : Side × (List ℕ × Unit {0})) → AreBoth side_kind.Spells (AreBoth dash_kind.Spells end_row.Spells) s rest
    → AreSent rest s.0 s.1.0
send-are [] s is = absurd is
send-are (a ∷ []) s is = absurd is.1
send-are (a ∷ (b ∷ more)) s is =
    let one = is.0 in
    let over = is.1.1 in
    record { digits = b; spells = is.1.0; rest_is = cc (one, over) }

dash-size : (digits payload : List ℕ) → AreDigitsOrDash digits payload → 2 * length payload ≤ length digits
dash-size digits [] spells = omega arith
dash-size digits (byte ∷ payload) spells = let size = (spelled-pairs digits (byte ∷ payload) spells).size in omega arith

send-length : (side : Side) (digits : List ℕ) → length (joined (codes "send" ∷ (side_name side ∷ (digits ∷ [])))) ≡ 12 + length digits
send-length Client digits = omega arith
send-length Server digits = omega arith

send-line : (text : List ℕ) (side : Side) (payload : List ℕ) (rest : List (List ℕ)) → text ≡ joined (codes "send" ∷ rest) → length text ≤ 4096
    → AreSent rest side payload
    → IsLine text (line.Event (event.Send side payload))
send-line text side payload rest words short are =
    let whole = following text (codes "send") rest (side_name side ∷ (are.digits ∷ [])) words are.rest_is in
    let size : length text ≡ 12 + length are.digits = ap length whole ∙ send-length side are.digits in
    let room = dash-size are.digits payload are.spells in
    record { digits = are.digits; spells = are.spells; words = whole; few = omega arith }

form-line : (which : Form) (text : List ℕ) (rest : List (List ℕ)) (said : Line) → text ≡ joined (form_name which ∷ rest) → length text ≤ 4096
    → (rows which).Spells said rest → IsLine text said
form-line form.Version text rest said words short is =
    let are = version-are rest is.0 is.2 in
    subst (λ (s : Line). IsLine text s) is.1 (following text (codes "version") rest (decimal is.0.0 ∷ []) words are.0, are.1)
form-line form.Plain text rest said words short is = subst (λ (s : Line). IsLine text s) is.1 (following text (codes "plain") rest [] words is.2)
form-line form.Iss text rest said words short is =
    let are = iss-are rest is.0 is.2 in
    subst (λ (s : Line). IsLine text s) is.1 (following text (codes "iss") rest (side_name is.0.0 ∷ (decimal is.0.1.0 ∷ [])) words are.0, are.1)
form-line form.Set text rest said words short is =
    let are = list-are rest is.0 is.2.0 in
    subst (λ (s : Line). IsLine text s) is.1 (
      following text (codes "set") rest
          (side_name is.0.0 ∷ (place_name is.0.1.0 ∷ (decimal (feature_number is.0.1.1.0) ∷ (values_text is.0.1.1.1.0 ∷ [])))) words are.0,
      (are.1, wish-is (wish_of is.0.1.1.0 is.0.1.0 is.0.1.1.1.0) is.2.1),
    )
form-line form.Offer text rest said words short is =
    let are = offer-are rest is.0 is.2.0 in
    subst (λ (s : Line). IsLine text s) is.1 (
      following text (codes "offer") rest
          (side_name is.0.0 ∷ (place_name is.0.1.0 ∷ (decimal (feature_number is.0.1.1.0) ∷ mandatory_words is.0.1.1.1))) words are,
      offer-by (is_ours is.0.1.1.0 is.0.1.0) is.2.1,
    )
form-line form.Open text rest said words short is = subst (λ (s : Line). IsLine text s) is.1 (following text (codes "open") rest [] words is.2)
form-line form.Deliver text rest said words short is =
    let are = name-are rest is.0 is.2 in
    subst (λ (s : Line). IsLine text s) is.1 (following text (codes "deliver") rest (frame_name is.0.0.0 is.0.0.1 ∷ []) words are.0, are.1)
form-line form.Send text rest said words short is =
    subst (λ (s : Line). IsLine text s) is.1 (send-line text is.0.0 is.0.1.0 rest words short (send-are rest is.0 is.2))
form-line form.Prefer text rest said words short is =
    let are = list-are rest is.0 is.2 in
    subst (λ (s : Line). IsLine text s) is.1 (
      following text (codes "prefer") rest
          (side_name is.0.0 ∷ (place_name is.0.1.0 ∷ (decimal (feature_number is.0.1.1.0) ∷ (values_text is.0.1.1.1.0 ∷ [])))) words are.0,
      are.1,
    )
form-line form.Timer text rest said words short is =
    subst (λ (s : Line). IsLine text s) is.1 (following text (codes "timer") rest (side_name is.0.0 ∷ (timer_name is.0.1.0 ∷ [])) words (timer-are rest is.0 is.2))
form-line form.Close text rest said words short is =
    subst (λ (s : Line). IsLine text s) is.1 (following text (codes "close") rest (side_name is.0.0 ∷ []) words (one-are rest is.0.0 is.0.1 is.2))
form-line form.Abort text rest said words short is =
    subst (λ (s : Line). IsLine text s) is.1 (following text (codes "abort") rest (side_name is.0.0 ∷ []) words (one-are rest is.0.0 is.0.1 is.2))

chosen-line : (text : List ℕ) (words : List (List ℕ)) (said : Line) → text ≡ joined words → length text ≤ 4096 → AreChosen form_kind rows said words
    → IsLine text said
chosen-line text [] said parted short is = absurd is
chosen-line text (name ∷ rest) said parted short is =
    form-line is.0 text rest said (parted ∙ ap (λ (n : List ℕ). joined (n ∷ rest)) is.1) short is.2

line-by : (text : List ℕ) (said : Line) (nothing : Bool) → says_nothing text ≡ nothing → IsClean text
    → (if nothing then Ok line.Nothing else line_row.said (words_of text)) ≡ Ok said → IsLine text said
line-by text said true says whole is =
    let same : line.Nothing ≡ said = cc is in
    subst (λ (s : Line). IsLine text s) same (says, whole.short, whole.all)
line-by text said false says whole is =
    chosen-line text (parted_by 32 text) said (sym (join_with_byte-slice_split 32 text)) whole.short
    (subst (λ (texts : List (List ℕ)). AreChosen form_kind rows said texts) (texts-placed 1 (parted_by 32 text)) (line-is.spelled (words_of text) said is))

pub line-spelled : (text : List ℕ) (said : Line) → read_line text ≡ Ok said → IsLine text said
line-spelled text said is =
    let both = then-ok (clean text) (read_clean text) said is in
    line-by text said (says_nothing text) refl (clean-ok text tt both.0) both.1

-- And back

nothing-read : (text : List ℕ) → says_nothing text ≡ true → length text ≤ 4096 → list_all is_text text ≡ true → read_line text ≡ Ok line.Nothing
nothing-read text says short all =
    then-read (clean text) (read_clean text) (clean-back text short all)
    ∙ if-true (says_nothing text) (Ok line.Nothing) (line_row.said (words_of text)) says

-- words that spell something are read as it
words-read : (text : List ℕ) (which : Form) (rest : List (List ℕ)) (said : Line) → text ≡ joined (form_name which ∷ rest) → (rows which).Spells said rest
    → words_length (form_name which ∷ rest) ≤ 4097 → says_nothing (joined (form_name which ∷ rest)) ≡ false → read_line text ≡ Ok said
words-read text which rest said parted spells few says =
    let chosen : AreChosen form_kind rows said (form_name which ∷ rest) = (which, refl, spells) in
    let all = line-is.are_words (form_name which ∷ rest) said chosen in
    let size = joined-length (form_name which) rest in
    let length_is : length text ≡ length (joined (form_name which ∷ rest)) = ap length parted in
    let texts : texts_of (placed 1 (parted_by 32 text)) ≡ form_name which ∷ rest =
    texts-placed 1 (parted_by 32 text) ∙ ap (parted_by 32) parted ∙ words-parted (form_name which) rest all in
    then-read (clean text) (read_clean text) (clean-back text (omega arith) (ap (list_all is_text) parted ∙ joined-text (form_name which) rest all))
    ∙ if-false (says_nothing text) (Ok line.Nothing) (line_row.said (words_of text)) (ap says_nothing parted ∙ says)
    ∙ line-is.read_back (words_of text) said (subst (λ (ts : List (List ℕ)). AreChosen form_kind rows said ts) (sym texts) chosen)

send-read : (text digits : List ℕ) (side : Side) (payload : List ℕ) → AreDigitsOrDash digits payload
    → text ≡ joined (codes "send" ∷ (side_name side ∷ (digits ∷ []))) → length payload ≤ 2042
    → read_line text ≡ Ok (line.Event (event.Send side payload))
send-read text digits side [] spells words few =
    let one = side-length side in
    let dash : length digits ≡ 1 = ap length spells in
    words-read text form.Send (side_name side ∷ (digits ∷ [])) (line.Event (event.Send side [])) words ((side, ([], tt)), refl, (refl, (spells, refl)))
    (omega arith) refl
send-read text digits side (byte ∷ payload) spells words few =
    let one = side-length side in
    let size = (spelled-pairs digits (byte ∷ payload) spells).size in
    words-read text form.Send (side_name side ∷ (digits ∷ [])) (line.Event (event.Send side (byte ∷ payload))) words
    ((side, (byte ∷ payload, tt)), refl, (refl, (spells, refl))) (omega arith) refl

offer-read : (text : List ℕ) (side : Side) (place : Place) (feature : Feature) (mandatory : Bool)
    → text ≡ joined (line_words (line.Offer side place feature mandatory)) → is_ours feature place ≡ true
    → read_line text ≡ Ok (line.Offer side place feature mandatory)
offer-read text side place feature true words ours =
    let one = side-length side in
    let two = place-length place in
    let three = feature-length feature in
    words-read text form.Offer (side_name side ∷ (place_name place ∷ (decimal (feature_number feature) ∷ (codes "mandatory" ∷ []))))
    (line.Offer side place feature true) words
    ((side, (place, (feature, true))), refl, ((refl, (refl, (refl, refl))), offer-back (is_ours feature place) ours)) (omega arith) refl
offer-read text side place feature false words ours =
    let one = side-length side in
    let two = place-length place in
    let three = feature-length feature in
    words-read text form.Offer (side_name side ∷ (place_name place ∷ (decimal (feature_number feature) ∷ []))) (line.Offer side place feature false) words
    ((side, (place, (feature, false))), refl, ((refl, (refl, (refl, refl))), offer-back (is_ours feature place) ours)) (omega arith) refl

pub spelled-line : (text : List ℕ) (said : Line) → IsLine text said → read_line text ≡ Ok said
spelled-line text line.Nothing is = nothing-read text is.0 is.1 is.2
spelled-line text (line.Version number) is =
    let size = number-length number (version-small number is.1) in
    words-read text form.Version (decimal number ∷ []) (line.Version number) is.0 ((number, tt), refl, ((refl, is.1), refl)) (omega arith) refl
spelled-line text line.Plain is = words-read text form.Plain [] line.Plain is (tt, refl, refl) (omega arith) refl
spelled-line text (line.Iss side number) is =
    let one = side-length side in
    let two = number-length number is.1 in
    words-read text form.Iss (side_name side ∷ (decimal number ∷ [])) (line.Iss side number) is.0 ((side, (number, tt)), refl, (refl, ((refl, is.1), refl)))
    (omega arith) refl
spelled-line text (line.Set side place feature values) is =
    let one = side-length side in
    let two = place-length place in
    let three = feature-length feature in
    let are : AreValues values = is.1.0 in
    let four = values-length values are.below in
    let few = are.few in
    words-read text form.Set (side_name side ∷ (place_name place ∷ (decimal (feature_number feature) ∷ (values_text values ∷ []))))
    (line.Set side place feature values) is.0
    ((side, (place, (feature, (values, tt)))), refl, ((refl, (refl, (refl, ((refl, are), refl)))), wish-back (wish_of feature place values) is.1.1))
    (omega arith) refl
spelled-line text (line.Offer side place feature mandatory) is = offer-read text side place feature mandatory is.0 is.1
spelled-line text (line.Event event.Open) is = words-read text form.Open [] (line.Event event.Open) is (tt, refl, refl) (omega arith) refl
spelled-line text (line.Event (event.Deliver from index)) is =
    let one = name-length from index is.1 in
    words-read text form.Deliver (frame_name from index ∷ []) (line.Event (event.Deliver from index)) is.0 (((from, index), tt), refl, ((refl, is.1), refl))
    (omega arith) refl
spelled-line text (line.Event (event.Send side payload)) is = send-read text is.digits side payload is.spells is.words is.few
spelled-line text (line.Event (event.SendEarly side payload)) is = absurd is
spelled-line text (line.Event (event.Prefer side feature place values)) is =
    let one = side-length side in
    let two = place-length place in
    let three = feature-length feature in
    let are : AreValues values = is.1 in
    let four = values-length values are.below in
    let few = are.few in
    words-read text form.Prefer (side_name side ∷ (place_name place ∷ (decimal (feature_number feature) ∷ (values_text values ∷ []))))
    (line.Event (event.Prefer side feature place values)) is.0
    ((side, (place, (feature, (values, tt)))), refl, (refl, (refl, (refl, ((refl, are), refl))))) (omega arith) refl
spelled-line text (line.Event (event.Timer side which)) is =
    let one = side-length side in
    let two = timer-length which in
    words-read text form.Timer (side_name side ∷ (timer_name which ∷ [])) (line.Event (event.Timer side which)) is
    ((side, (which, tt)), refl, (refl, (refl, refl))) (omega arith) refl
spelled-line text (line.Event (event.Close side)) is =
    let one = side-length side in
    words-read text form.Close (side_name side ∷ []) (line.Event (event.Close side)) is ((side, tt), refl, (refl, refl)) (omega arith) refl
spelled-line text (line.Event (event.Abort side)) is =
    let one = side-length side in
    words-read text form.Abort (side_name side ∷ []) (line.Event (event.Abort side)) is ((side, tt), refl, (refl, refl)) (omega arith) refl

-- What is printed is such a line

lower-spells : (bytes : List ℕ) → IsBytes bytes → AreDigitsOf (encode_lower bytes) bytes
unfolding encode_with
lower-spells [] are = tt
lower-spells (byte ∷ bytes) are =
    let small : byte < 256 = are 0 in
    (IsDigits-lower_digits (byte / 16) (omega arith), IsDigits-lower_digits (byte % 16) (omega arith), lower-spells bytes (λ i. are (suc i)))

printed-digits : (payload : List ℕ) → IsBytes payload → AreDigitsOrDash (hex_or_dash payload) payload
printed-digits [] are = refl
printed-digits (byte ∷ payload) are = lower-spells (byte ∷ payload) are

printed-line : (e : Event) → IsPrintable e → IsLine (event_text e) (line.Event e)
printed-line event.Open is = refl
printed-line (event.Deliver from index) is = (refl, is)
printed-line (event.Send side payload) is = record { digits = hex_or_dash payload; spells = printed-digits payload is.bytes; words = refl; few = is.few }
printed-line (event.SendEarly side payload) is = absurd is
printed-line (event.Prefer side feature place values) is = (refl, is)
printed-line (event.Timer side which) is = refl
printed-line (event.Close side) is = refl
printed-line (event.Abort side) is = refl

pub event-read : (e : Event) → IsPrintable e → read_line (event_text e) ≡ Ok (line.Event e)
event-read e is = spelled-line (event_text e) (line.Event e) (printed-line e is)
