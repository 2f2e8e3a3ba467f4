-- The words of lines, and the rows that forms make of them, keep what kinds and rows keep.
use Rattle.std.proofs.Common.{◌≡◌, refl, sym, ap, ◌∙◌, subst, ℕ, ◌*◌, ◌^◌, ◌≤◌, ◌<◌, List, [], ◌∷◌, length, length-append, Bool, true, false, ◌||◌, ◌==◌, if◌then◌else◌, nat_le, Option, Some, None, is_some, Ok, Err, arith}
use Rattle.std.specs.Prelude.{codes, decimal, map, All, option_and_then}
use Rattle.std.specs.List.{list_all, join_with_byte}
use Rattle.std.proofs.lemmas.Bool.Decides.{nat_tests}
use Rattle.std.proofs.lemmas.List.Elements.{All-head, All-tail, All-nil, All-cons}
use Rattle.std.proofs.lemmas.List.Folds.{list_all-append}
use Rattle.std.proofs.lemmas.List.Splits.{join_with_byte-slice_split}
use Rattle.std.proofs.lemmas.Fmt.{decimal_nonempty, length-decimal-le}
use Rattle.feature_lists.specs.Features.{feature_number, feature_numbered}
use Rattle.feature_lists.specs.declared.features.Feature.{Feature}
use Rattle.feature_lists.specs.declared.features.Feature.TheVariants as f
use Rattle.feature_lists.specs.declared.features.Place.{Place}
use Rattle.feature_lists.specs.declared.features.Place.TheVariants.{Here, There}
use Rattle.world_events.specs.declared.event.Side.{Side}
use Rattle.world_events.specs.declared.event.Side.TheVariants.{Client, Server}
use Rattle.world_events.specs.declared.event.Event.TheVariants as event
use Rattle.dccp_states.specs.declared.calls.Timer.{Timer}
use Rattle.dccp_states.specs.declared.calls.Timer.TheVariants as timer
use Rattle.tool_text.specs.Numbers.{is_digit, number_below}
use Rattle.tool_text.specs.declared.words.faults.LineWhy.TheVariants as why
use Rattle.tool_text.specs.Words.{parted_by}
use Rattle.tool_text.specs.Kinds.{KindOfWords, IsExactKind, named_in, flaw_in, flaw_after, flaw_unless, found_or, is_word_byte, is_whole_word, dash_kind}
use Rattle.tool_text.specs.Rows.{WordRow, IsExactRow, ◌▷◌, end_row, judged_row, flag_row}
use Rattle.tool_text.proofs.Bytes.{and-true, if-false, if-true, all-weaker, lacks, same-number, word-bytes, bytes-word, decimal-digits, decimal-word, joined-parts}
use Rattle.tool_text.proofs.Numerals.{number-spelled, number-read}
use Rattle.tool_text.proofs.Pieces.{has_first}
use Rattle.tool_text.proofs.KindLaws.{found-is, number-is, names-is, dash-is}
use Rattle.tool_text.proofs.RowLaws.{end-is, both-is, as-is, choice-is, checked-is, flag-is}
use Rattle.schedule_text.specs.declared.line.Line.TheVariants as line
use Rattle.schedule_text.specs.declared.names.Form.{Form}
use Rattle.schedule_text.specs.declared.names.Form.TheVariants as form
use Rattle.schedule_text.specs.Names.{all_forms, all_timers, form_name, side_name, place_name, timer_name}
use Rattle.schedule_text.specs.Numbers.{sequence_numbers, indices, number_and_rest, numbers_read, at_most_nine, values_of, feature_of, version_numbered, schedule_version}
use Rattle.schedule_text.specs.Printing.{values_text, frame_name}
use Rattle.schedule_text.specs.Range.{AreValues, IsVersion}
use Rattle.schedule_text.specs.Kinds.{form_kind, side_kind, place_kind, timer_kind, sequence_kind, feature_kind, version_kind, values_kind, from_sender, frame_sent_by, frame_named, name_flaw, frame_kind}
use Rattle.schedule_text.specs.Reading.{set_cause, offer_cause, rows, line_row}

-- Names

form-found : (which : Form) → named_in form_name all_forms (form_name which) ≡ Some which
form-found form.Version = refl
form-found form.Plain = refl
form-found form.Iss = refl
form-found form.Set = refl
form-found form.Offer = refl
form-found form.Open = refl
form-found form.Deliver = refl
form-found form.Send = refl
form-found form.Prefer = refl
form-found form.Timer = refl
form-found form.Close = refl
form-found form.Abort = refl

form-words : (which : Form) → is_whole_word (form_name which) ≡ true
form-words form.Version = refl
form-words form.Plain = refl
form-words form.Iss = refl
form-words form.Set = refl
form-words form.Offer = refl
form-words form.Open = refl
form-words form.Deliver = refl
form-words form.Send = refl
form-words form.Prefer = refl
form-words form.Timer = refl
form-words form.Close = refl
form-words form.Abort = refl

pub form-is : IsExactKind form_kind
form-is = names-is form_name all_forms (record { found = form-found; words = form-words })

side-found : (side : Side) → named_in side_name (Client ∷ Server ∷ []) (side_name side) ≡ Some side
side-found Client = refl
side-found Server = refl

side-words : (side : Side) → is_whole_word (side_name side) ≡ true
side-words Client = refl
side-words Server = refl

pub side-is : IsExactKind side_kind
side-is = names-is side_name (Client ∷ Server ∷ []) (record { found = side-found; words = side-words })

place-found : (place : Place) → named_in place_name (Here ∷ There ∷ []) (place_name place) ≡ Some place
place-found Here = refl
place-found There = refl

place-words : (place : Place) → is_whole_word (place_name place) ≡ true
place-words Here = refl
place-words There = refl

pub place-is : IsExactKind place_kind
place-is = names-is place_name (Here ∷ There ∷ []) (record { found = place-found; words = place-words })

timer-found : (which : Timer) → named_in timer_name all_timers (timer_name which) ≡ Some which
timer-found timer.Request = refl
timer-found timer.Ack = refl
timer-found timer.Negotiate = refl
timer-found timer.Rto = refl
timer-found timer.Close = refl
timer-found timer.TimeWait = refl

timer-words : (which : Timer) → is_whole_word (timer_name which) ≡ true
timer-words timer.Request = refl
timer-words timer.Ack = refl
timer-words timer.Negotiate = refl
timer-words timer.Rto = refl
timer-words timer.Close = refl
timer-words timer.TimeWait = refl

pub timer-is : IsExactKind timer_kind
timer-is = names-is timer_name all_timers (record { found = timer-found; words = timer-words })

-- Numbers

pub sequence-is : IsExactKind sequence_kind
sequence-is = number-is sequence_numbers (omega arith)

feature-small : (feature : Feature) → feature_number feature < 10
feature-small f.Ccid = omega arith
feature-small f.ShortSeqnos = omega arith
feature-small f.SequenceWindow = omega arith
feature-small f.EcnIncapable = omega arith
feature-small f.AckRatio = omega arith
feature-small f.SendAckVector = omega arith
feature-small f.SendNdpCount = omega arith
feature-small f.MinCsCov = omega arith
feature-small f.CheckDataChecksum = omega arith

feature-back : (feature : Feature) → feature_numbered (feature_number feature) ≡ Some feature
feature-back f.Ccid = refl
feature-back f.ShortSeqnos = refl
feature-back f.SequenceWindow = refl
feature-back f.EcnIncapable = refl
feature-back f.AckRatio = refl
feature-back f.SendAckVector = refl
feature-back f.SendNdpCount = refl
feature-back f.MinCsCov = refl
feature-back f.CheckDataChecksum = refl

pub feature-text-read : (feature : Feature) → feature_of (decimal (feature_number feature)) ≡ Some feature
feature-text-read feature =
    ap (option_and_then feature_numbered) (number-read 10 (omega arith) (feature_number feature) (feature-small feature)) ∙ feature-back feature

pub number-of-small : (feature : Feature) → feature_number feature < 2 ^ 64
number-of-small feature = let small = feature-small feature in omega arith

pub feature-length : (feature : Feature) → length (decimal (feature_number feature)) ≤ 1
feature-length feature =
    let small = feature-small feature in
    length-decimal-le 1 (feature_number feature) (omega arith) (omega arith) (omega arith)

numbered-by : (n number : ℕ) (x y : Feature) (rest : Option Feature) (test : Bool) → (test ≡ true → n ≡ number) → number ≡ feature_number x
    → (if test then Some x else rest) ≡ Some y → (rest ≡ Some y → n ≡ feature_number y) → n ≡ feature_number y
numbered-by n number x y rest true means is_number is others = let same : x ≡ y = cc is in means refl ∙ is_number ∙ ap feature_number same
numbered-by n number x y rest false means is_number is others = others is

numbered : (n number : ℕ) (x y : Feature) (rest : Option Feature) → number ≡ feature_number x → (if n == number then Some x else rest) ≡ Some y
    → (rest ≡ Some y → n ≡ feature_number y) → n ≡ feature_number y
numbered n number x y rest is_number is others = numbered-by n number x y rest (n == number) (same-number n number) is_number is others

numbered-feature : (n : ℕ) (feature : Feature) → feature_numbered n ≡ Some feature → n ≡ feature_number feature
numbered-feature n feature is =
    let eight : Option Feature = if n == 9 then Some f.CheckDataChecksum else None in
    let seven : Option Feature = if n == 8 then Some f.MinCsCov else eight in
    let six : Option Feature = if n == 7 then Some f.SendNdpCount else seven in
    let five : Option Feature = if n == 6 then Some f.SendAckVector else six in
    let four : Option Feature = if n == 5 then Some f.AckRatio else five in
    let three : Option Feature = if n == 4 then Some f.EcnIncapable else four in
    let two : Option Feature = if n == 3 then Some f.SequenceWindow else three in
    let one : Option Feature = if n == 2 then Some f.ShortSeqnos else two in
    numbered n 1 f.Ccid feature one refl is (λ is.
    numbered n 2 f.ShortSeqnos feature two refl is (λ is.
    numbered n 3 f.SequenceWindow feature three refl is (λ is.
    numbered n 4 f.EcnIncapable feature four refl is (λ is.
    numbered n 5 f.AckRatio feature five refl is (λ is.
    numbered n 6 f.SendAckVector feature six refl is (λ is.
    numbered n 7 f.SendNdpCount feature seven refl is (λ is.
    numbered n 8 f.MinCsCov feature eight refl is (λ is.
    numbered n 9 f.CheckDataChecksum feature None refl is (λ is. cc is)))))))))

and-then-some : {A B : Type 0} (o : Option A) (f : A → Option B) (y : B) → option_and_then f o ≡ Some y → (x : A) × (o ≡ Some x) × (f x ≡ Some y)
and-then-some None f y is = cc is
and-then-some (Some x) f y is = (x, refl, is)

feature-means : (text : List ℕ) (feature : Feature) → feature_of text ≡ Some feature → text ≡ decimal (feature_number feature)
feature-means text feature read =
    let both = and-then-some (number_below 10 text) feature_numbered feature read in
    (number-spelled 10 (omega arith) text both.0 both.1).0 ∙ ap decimal (numbered-feature both.0 feature both.2)

pub feature-is : IsExactKind feature_kind
feature-is =
    found-is why.BadNumber feature_of (λ feature text. text ≡ decimal (feature_number feature)) feature-means
    (λ text feature is. ap feature_of is ∙ feature-text-read feature)
    (λ text feature is. ap is_whole_word is ∙ decimal-word (feature_number feature) (number-of-small feature))

positive : (n : ℕ) → (n == 0) ≡ false → 1 ≤ n
positive n is = grind (arith, nat_tests)

not-zero : (n : ℕ) → 1 ≤ n → (n == 0) ≡ false
not-zero n some = grind (arith, nat_tests)

numbered-version : (n number : ℕ) (none : Bool) → (n == 0) ≡ none → (if none then None else Some n) ≡ Some number → (n ≡ number) × (1 ≤ n)
numbered-version n number true is_zero is = cc is
numbered-version n number false some is = (cc is, positive n some)

pub version-small : (number : ℕ) → IsVersion number → number < 2 ^ 48
version-small number is = omega (arith, is.1)

version-means : (text : List ℕ) (number : ℕ) → schedule_version text ≡ Some number → (text ≡ decimal number) × IsVersion number
version-means text number read =
    let both = and-then-some (number_below 3 text) version_numbered number read in
    let digits = number-spelled 3 (omega arith) text both.0 both.1 in
    let is = numbered-version both.0 number (both.0 == 0) refl both.2 in
    (digits.0 ∙ ap decimal is.0, (omega (arith, is.0, is.1), omega (arith, is.0, digits.1)))

version-read : (number : ℕ) → IsVersion number → schedule_version (decimal number) ≡ Some number
version-read number is =
    ap (option_and_then version_numbered) (number-read 3 (omega arith) number (omega (arith, is.1)))
    ∙ if-false (number == 0) None (Some number) (not-zero number is.0)

pub version-is : IsExactKind version_kind
version-is =
    found-is why.BadNumber schedule_version (λ number text. (text ≡ decimal number) × IsVersion number) version-means
    (λ text number is. ap schedule_version is.0 ∙ version-read number is.1)
    (λ text number is. ap is_whole_word is.0 ∙ decimal-word number (let small = version-small number is.1 in omega arith))

-- Lists of numbers

digit-lacks : (byte : ℕ) → is_digit byte ≡ true → lacks 44 byte ≡ true
digit-lacks byte is = grind (arith, nat_tests)

decimal-lacks : (n : ℕ) → n < 2 ^ 64 → list_all (lacks 44) (decimal n) ≡ true
decimal-lacks n small = all-weaker is_digit (lacks 44) digit-lacks (decimal n) (decimal-digits n small)

numbers-read : (values : List ℕ) → All (λ value. value < 2 ^ 48) values → numbers_read (map decimal values) ≡ Some values
numbers-read [] below = refl
numbers-read (value ∷ values) below =
    ap (option_and_then (λ (number : ℕ). number_and_rest number (numbers_read (map decimal values))))
    (number-read (2 ^ 48) (omega arith) value (All-head (λ v. v < 2 ^ 48) value values below))
    ∙ ap (number_and_rest value) (numbers-read values (All-tail (λ v. v < 2 ^ 48) value values below))

values-lack : (values : List ℕ) → All (λ value. value < 2 ^ 48) values → list_all (list_all (lacks 44)) (map decimal values) ≡ true
values-lack [] below = refl
values-lack (value ∷ values) below =
    let small : value < 2 ^ 48 = All-head (λ v. v < 2 ^ 48) value values below in
    and-true (list_all (lacks 44) (decimal value)) (list_all (list_all (lacks 44)) (map decimal values))
    (decimal-lacks value (omega arith)) (values-lack values (All-tail (λ v. v < 2 ^ 48) value values below))

values-parts : (values : List ℕ) → 1 ≤ length values → All (λ value. value < 2 ^ 48) values → parted_by 44 (values_text values) ≡ map decimal values
values-parts [] some below = absurd (omega arith)
values-parts (value ∷ values) some below = joined-parts 44 (decimal value) (map decimal values) (values-lack (value ∷ values) below)

pub values-read : (values : List ℕ) → AreValues values → values_of (values_text values) ≡ Some values
values-read values are =
    let few : length values ≤ 9 = are.few in
    let is : nat_le (length values) 9 ≡ true = grind (arith, nat_tests) in
    ap (λ (parts : List (List ℕ)). option_and_then at_most_nine (numbers_read parts)) (values-parts values are.some are.below)
    ∙ ap (option_and_then at_most_nine) (numbers-read values are.below)
    ∙ if-true (nat_le (length values) 9) (Some values) None is

join-some : (mark : ℕ) (w : List ℕ) (ws : List (List ℕ)) → 0 < length w → 0 < length (join_with_byte mark (w ∷ ws))
join-some mark w [] some = some
join-some mark w (next ∷ ws) some = omega (arith, length-append w (mark ∷ join_with_byte mark (next ∷ ws)))

values-some : (values : List ℕ) → 1 ≤ length values → All (λ value. value < 2 ^ 48) values → 0 < length (values_text values)
values-some [] some below = absurd (omega arith)
values-some (value ∷ values) some below =
    let small : value < 2 ^ 48 = All-head (λ v. v < 2 ^ 48) value values below in
    join-some 44 (decimal value) (map decimal values) (decimal_nonempty value (omega arith))

with-some : (number : ℕ) (others : Option (List ℕ)) (numbers : List ℕ) → number_and_rest number others ≡ Some numbers → (rest : List ℕ) × (others ≡ Some rest)
    × (number ∷ rest ≡ numbers)
with-some number None numbers is = cc is
with-some number (Some rest) numbers is = (rest, refl, cc is)

record AreSpelled (parts : List (List ℕ)) (numbers : List ℕ) : Type 0 where
  pub texts : parts ≡ map decimal numbers
  pub below : All (λ value. value < 2 ^ 48) numbers

numbers-spelled : (parts : List (List ℕ)) (numbers : List ℕ) → numbers_read parts ≡ Some numbers → AreSpelled parts numbers
numbers-spelled [] numbers is =
    let none : [] ≡ numbers = cc is in
    subst (λ (ns : List ℕ). AreSpelled [] ns) none (record { texts = refl; below = All-nil (λ v. v < 2 ^ 48) })
numbers-spelled (part ∷ parts) numbers is =
    let first = and-then-some (number_below sequence_numbers part) (λ (n : ℕ). number_and_rest n (numbers_read parts)) numbers is in
    let others = with-some first.0 (numbers_read parts) numbers first.2 in
    let number = number-spelled (2 ^ 48) (omega arith) part first.0 first.1 in
    let rest = numbers-spelled parts others.0 others.1 in
    subst (λ (ns : List ℕ). AreSpelled (part ∷ parts) ns) others.2 (record {
      texts = ap (λ (text : List ℕ). text ∷ parts) number.0 ∙ ap (λ (texts : List (List ℕ)). decimal first.0 ∷ texts) rest.texts;
      below = All-cons (λ v. v < 2 ^ 48) first.0 others.0 number.1 rest.below;
    })

nine-by : (numbers values : List ℕ) (test : Bool) → (test ≡ true → length numbers ≤ 9) → (if test then Some numbers else None) ≡ Some values
    → (numbers ≡ values) × (length numbers ≤ 9)
nine-by numbers values true few is = (cc is, few refl)
nine-by numbers values false few is = cc is

at-most : (n : ℕ) → nat_le n 9 ≡ true → n ≤ 9
at-most n is = grind (arith, nat_tests)

some-values : (values : List ℕ) (first : List ℕ) (others : List (List ℕ)) → first ∷ others ≡ map decimal values → 1 ≤ length values
some-values [] first others is = cc is
some-values (value ∷ values) first others is = omega arith

pub values-of-spelled : (text : List ℕ) (values : List ℕ) → values_of text ≡ Some values → (text ≡ values_text values) × AreValues values
values-of-spelled text values is =
    let both = and-then-some (numbers_read (parted_by 44 text)) at_most_nine values is in
    let nine = nine-by both.0 values (nat_le (length both.0) 9) (at-most (length both.0)) both.2 in
    let few : length values ≤ 9 = subst (λ (ns : List ℕ). length ns ≤ 9) nine.0 nine.1 in
    let are = subst (λ (ns : List ℕ). AreSpelled (parted_by 44 text) ns) nine.0 (numbers-spelled (parted_by 44 text) both.0 both.1) in
    let begins = has_first (λ byte. byte == 44) text in (
      sym (join_with_byte-slice_split 44 text) ∙ ap (join_with_byte 44) are.texts,
      record {
        some = some-values values begins.0 begins.1 (sym begins.2 ∙ are.texts);
        few = few;
        below = are.below;
      },
    )

-- Words and their lengths

pub side-length : (side : Side) → length (side_name side) ≤ 6
side-length Client = omega arith
side-length Server = omega arith

pub place-length : (place : Place) → length (place_name place) ≤ 5
place-length Here = omega arith
place-length There = omega arith

pub timer-length : (which : Timer) → length (timer_name which) ≤ 9
timer-length timer.Request = omega arith
timer-length timer.Ack = omega arith
timer-length timer.Negotiate = omega arith
timer-length timer.Rto = omega arith
timer-length timer.Close = omega arith
timer-length timer.TimeWait = omega arith

pub name-length : (from : Side) (index : ℕ) → index < 2 ^ 47 → length (frame_name from index) ≤ 16
name-length Client index small = let digits = length-decimal-le 15 index (omega arith) (omega arith) (omega arith) in omega arith
name-length Server index small = let digits = length-decimal-le 15 index (omega arith) (omega arith) (omega arith) in omega arith

pub number-length : (n : ℕ) → n < 2 ^ 48 → length (decimal n) ≤ 15
number-length n small = length-decimal-le 15 n (omega arith) (omega arith) (omega arith)

number-bytes : (n : ℕ) → n < 2 ^ 48 → list_all is_word_byte (decimal n) ≡ true
number-bytes n small = word-bytes (decimal n) (decimal-word n (omega arith))

values-bytes : (values : List ℕ) → All (λ value. value < 2 ^ 48) values → list_all is_word_byte (values_text values) ≡ true
values-bytes [] below = refl
values-bytes (value ∷ []) below = number-bytes value (All-head (λ v. v < 2 ^ 48) value [] below)
values-bytes (value ∷ (next ∷ values)) below =
    list_all-append is_word_byte (decimal value) (44 ∷ values_text (next ∷ values))
    ∙ and-true (list_all is_word_byte (decimal value)) (list_all is_word_byte (values_text (next ∷ values)))
    (number-bytes value (All-head (λ v. v < 2 ^ 48) value (next ∷ values) below))
    (values-bytes (next ∷ values) (All-tail (λ v. v < 2 ^ 48) value (next ∷ values) below))

pub values-length : (values : List ℕ) → All (λ value. value < 2 ^ 48) values → length (values_text values) ≤ 16 * length values
values-length [] below = omega arith
values-length (value ∷ []) below =
    let small : value < 2 ^ 48 = All-head (λ v. v < 2 ^ 48) value [] below in
    let digits = number-length value small in
    omega arith
values-length (value ∷ (next ∷ values)) below =
    let small : value < 2 ^ 48 = All-head (λ v. v < 2 ^ 48) value (next ∷ values) below in
    let digits = number-length value small in
    let others = values-length (next ∷ values) (All-tail (λ v. v < 2 ^ 48) value (next ∷ values) below) in
    omega (arith, length-append (decimal value) (44 ∷ values_text (next ∷ values)))

values-words : (values : List ℕ) → AreValues values → is_whole_word (values_text values) ≡ true
values-words values are = bytes-word (values_text values) (values-some values are.some are.below) (values-bytes values are.below)

pub values-is : IsExactKind values_kind
values-is =
    found-is why.BadNumber values_of (λ values text. (text ≡ values_text values) × AreValues values) values-of-spelled
    (λ text values is. ap values_of is.0 ∙ values-read values is.1)
    (λ text values is. ap is_whole_word is.0 ∙ values-words values is.1)

-- Frames' names

sent-flaw : (from : Side) (found : Option ℕ)
    → flaw_in (from_sender from (found_or why.BadNumber found)) ≡ flaw_unless (is_some found) (flaw_after 0 why.BadNumber)
sent-flaw from None = refl
sent-flaw from (Some index) = refl

letter-flaw : (index : List ℕ) (client server : Bool)
    → flaw_in {A = Side × ℕ} (if client then frame_sent_by Client index else if server then frame_sent_by Server index else Err (flaw_after 0 why.UnknownWord))
    ≡ (if client || server then flaw_unless (is_some (number_below indices index)) (flaw_after 0 why.BadNumber) else Some (flaw_after 0 why.UnknownWord))
letter-flaw index true server = sent-flaw Client (number_below indices index)
letter-flaw index false true = sent-flaw Server (number_below indices index)
letter-flaw index false false = refl

name-flaws : (text : List ℕ) → flaw_in (frame_named text) ≡ name_flaw text
name-flaws [] = refl
name-flaws (letter ∷ index) = letter-flaw index (letter == 99) (letter == 115)

sent-ok : (from : Side) (index text : List ℕ) (found : Option ℕ) (frame : Side × ℕ) → number_below indices index ≡ found
    → ((n : ℕ) → index ≡ decimal n → text ≡ frame_name from n)
    → from_sender from (found_or why.BadNumber found) ≡ Ok frame → (text ≡ frame_name frame.0 frame.1) × (frame.1 < 2 ^ 47)
sent-ok from index text None frame is spells read = cc read
sent-ok from index text (Some n) frame is spells read =
    let number = number-spelled (2 ^ 47) (omega arith) index n is in
    let same : (from, n) ≡ frame = cc read in
    subst (λ (named : Side × ℕ). (text ≡ frame_name named.0 named.1) × (named.1 < 2 ^ 47)) same (spells n number.0, number.1)

letter-ok : (letter : ℕ) (index : List ℕ) (frame : Side × ℕ) (client server : Bool) → (client ≡ true → letter ≡ 99) → (server ≡ true → letter ≡ 115)
    → (if client then frame_sent_by Client index else if server then frame_sent_by Server index else Err (flaw_after 0 why.UnknownWord)) ≡ Ok frame
    → (letter ∷ index ≡ frame_name frame.0 frame.1) × (frame.1 < 2 ^ 47)
letter-ok letter index frame true server is_client is_server read =
    sent-ok Client index (letter ∷ index) (number_below indices index) frame refl
    (λ n spelled. ap (λ (l : ℕ). l ∷ index) (is_client refl) ∙ ap (λ (digits : List ℕ). 99 ∷ digits) spelled) read
letter-ok letter index frame false true is_client is_server read =
    sent-ok Server index (letter ∷ index) (number_below indices index) frame refl
    (λ n spelled. ap (λ (l : ℕ). l ∷ index) (is_server refl) ∙ ap (λ (digits : List ℕ). 115 ∷ digits) spelled) read
letter-ok letter index frame false false is_client is_server read = cc read

name-ok : (text : List ℕ) (frame : Side × ℕ) → frame_named text ≡ Ok frame → (text ≡ frame_name frame.0 frame.1) × (frame.1 < 2 ^ 47)
name-ok [] frame read = cc read
name-ok (letter ∷ index) frame read = letter-ok letter index frame (letter == 99) (letter == 115) (same-number letter 99) (same-number letter 115) read

name-back : (from : Side) (index : ℕ) → index < 2 ^ 47 → frame_named (frame_name from index) ≡ Ok (from, index)
name-back Client index small = ap (λ (found : Option ℕ). from_sender Client (found_or why.BadNumber found)) (number-read (2 ^ 47) (omega arith) index small)
name-back Server index small = ap (λ (found : Option ℕ). from_sender Server (found_or why.BadNumber found)) (number-read (2 ^ 47) (omega arith) index small)

name-word : (from : Side) (index : ℕ) → index < 2 ^ 47 → is_whole_word (frame_name from index) ≡ true
name-word Client index small = number-bytes index (omega arith)
name-word Server index small = number-bytes index (omega arith)

pub frame-is : IsExactKind frame_kind
frame-is = record {
  flaws = name-flaws;
  spelled = λ text frame some read. name-ok text frame read;
  read_back = λ text frame is. ap frame_named is.0 ∙ name-back frame.0 frame.1 is.1;
  are_words = λ text frame is. ap is_whole_word is.0 ∙ name-word frame.0 frame.1 is.1;
}

-- Rows

both : {A B : Type 0} {kind : KindOfWords A} {row : WordRow B} → IsExactKind kind → IsExactRow row → IsExactRow (kind ▷ row)
both {kind = kind} {row = row} is_kind is_row = both-is kind row is_kind is_row

pub list-is : IsExactRow (side_kind ▷ place_kind ▷ feature_kind ▷ values_kind ▷ end_row)
list-is = both side-is (both place-is (both feature-is (both values-is end-is)))

pub offer-is : IsExactRow (side_kind ▷ place_kind ▷ feature_kind ▷ flag_row (codes "mandatory"))
offer-is = both side-is (both place-is (both feature-is (flag-is (codes "mandatory") refl)))

pub rows-are : (which : Form) → IsExactRow (rows which)
rows-are form.Version = as-is (λ s. line.Version s.0) (version_kind ▷ end_row) (both version-is end-is)
rows-are form.Plain = as-is (λ s. line.Plain) end_row end-is
rows-are form.Iss = as-is (λ s. line.Iss s.0 s.1.0) (side_kind ▷ sequence_kind ▷ end_row) (both side-is (both sequence-is end-is))
rows-are form.Set =
    as-is (λ s. line.Set s.0 s.1.0 s.1.1.0 s.1.1.1.0) (judged_row 3 set_cause (side_kind ▷ place_kind ▷ feature_kind ▷ values_kind ▷ end_row))
    (checked-is 3 set_cause (side_kind ▷ place_kind ▷ feature_kind ▷ values_kind ▷ end_row) list-is)
rows-are form.Offer =
    as-is (λ s. line.Offer s.0 s.1.0 s.1.1.0 s.1.1.1) (judged_row 2 offer_cause (side_kind ▷ place_kind ▷ feature_kind ▷ flag_row (codes "mandatory")))
    (checked-is 2 offer_cause (side_kind ▷ place_kind ▷ feature_kind ▷ flag_row (codes "mandatory")) offer-is)
rows-are form.Open = as-is (λ s. line.Event event.Open) end_row end-is
rows-are form.Deliver = as-is (λ s. line.Event (event.Deliver s.0.0 s.0.1)) (frame_kind ▷ end_row) (both frame-is end-is)
rows-are form.Send = as-is (λ s. line.Event (event.Send s.0 s.1.0)) (side_kind ▷ dash_kind ▷ end_row) (both side-is (both dash-is end-is))
rows-are form.Prefer =
    as-is (λ s. line.Event (event.Prefer s.0 s.1.1.0 s.1.0 s.1.1.1.0)) (side_kind ▷ place_kind ▷ feature_kind ▷ values_kind ▷ end_row) list-is
rows-are form.Timer = as-is (λ s. line.Event (event.Timer s.0 s.1.0)) (side_kind ▷ timer_kind ▷ end_row) (both side-is (both timer-is end-is))
rows-are form.Close = as-is (λ s. line.Event (event.Close s.0)) (side_kind ▷ end_row) (both side-is end-is)
rows-are form.Abort = as-is (λ s. line.Event (event.Abort s.0)) (side_kind ▷ end_row) (both side-is end-is)

pub line-is : IsExactRow line_row
line-is = choice-is form_kind rows form-is rows-are
