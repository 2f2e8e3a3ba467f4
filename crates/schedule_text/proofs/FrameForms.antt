-- A replay's line is accepted exactly if it is the words of its frame, and refused exactly for its first fault.
use Rattle.std.proofs.Common.{◌≡◌, refl, sym, ap, ◌∙◌, subst, ℕ, ◌/◌, ◌≤◌, List, [], ◌∷◌, length, Bool, true, false, ◌&&◌, ◌==◌, if◌then◌else◌, nat_lt, Option, Some, None, Result, Ok, Err, arith}
use Rattle.std.specs.Prelude.{codes, ◌↔◌}
use Rattle.std.specs.Str.{bytes_eq}
use Rattle.std.specs.Cmp.Lexicographic.{bytes_decides}
use Rattle.std.proofs.lemmas.Bool.Decides.{nat_tests}
use Rattle.tool_text.specs.declared.words.faults.LineFault.{LineFault}
use Rattle.tool_text.specs.declared.words.faults.LineWhy.TheVariants as why
use Rattle.tool_text.specs.Refusals.{fault_at}
use Rattle.std.specs.Prelude.{IfOk, IfSome}
use Rattle.hex.specs.Hex.{hex_digit_value}
use Rattle.tool_text.specs.Words.{WordsLeft, WordAt, words_left, first_word, later, words_of, texts_of, joined}
use Rattle.tool_text.specs.Digits.{bytes_of_digits, AreDigitsOf, AreSomeDigits}
use Rattle.tool_text.specs.Kinds.{hex_kind, judged_word}
use Rattle.tool_text.specs.Rows.{IsExactRow, AreBoth, ByTest, end_row, ◌▷◌, judged_row, first_or, nothing_more, cause_at, refused_at}
use Rattle.tool_text.specs.Lines.{first_other, says_nothing, no_text, first_fault, IsSpokenLine}
use Rattle.tool_text.proofs.Bytes.{if-false, false-unless, same-number, joined-length}
use Rattle.tool_text.proofs.DigitLaws.{spelled-pairs}
use Rattle.tool_text.proofs.KindLaws.{hex-is}
use Rattle.tool_text.proofs.RowLaws.{end-is, both-is, as-is, checked-is, after-is}
use Rattle.tool_text.proofs.LineLaws.{line-refused, line-idle, line-accepted, first-assoc}
use Rattle.schedule_text.specs.declared.line.FrameLine.{FrameLine}
use Rattle.schedule_text.specs.Forms.{frame_words, IsFrameOf, IsFrameLine}
use Rattle.schedule_text.specs.Frames.{frame_line, size_cause, digits_frame, size_judged, frame_row, replay_row, read_frame, seals, size_fault, digits_line_fault, replayed_fault, frame_fault}
use Rattle.schedule_text.proofs.FaultsSame.{digits-same, first-when, said-some}

-- The row

digits-are : IsExactRow (hex_kind ▷ end_row)
digits-are = both-is hex_kind end_row hex-is end-is

frame-is : (seal : Bool) → IsExactRow (frame_row seal)
frame-is seal = as-is (digits_frame seal) (judged_row 0 (size_judged seal) (hex_kind ▷ end_row))
    (checked-is 0 (size_judged seal) (hex_kind ▷ end_row) digits-are)

pub replay-is : IsExactRow replay_row
replay-is = after-is (codes "seal") (frame_row true) (frame_row false) refl (frame-is true) (frame-is false)

-- Sizes

record IsSized (seal : Bool) (size : ℕ) : Type 0 where
  pub few : size ≤ 2044
  pub covered : seal ≡ true → 8 ≤ size

not-above : (n : ℕ) → nat_lt 2044 n ≡ false → n ≤ 2044
not-above n is = grind (arith, nat_tests)

not-below : (n : ℕ) → nat_lt n 8 ≡ false → 8 ≤ n
not-below n is = grind (arith, nat_tests)

covered-by : (seal : Bool) (n : ℕ) → (seal && nat_lt n 8) ≡ false → seal ≡ true → 8 ≤ n
covered-by true n is seals = not-below n is
covered-by false n is seals = cc seals

sized-by : (seal : Bool) (size : ℕ) (long short : Bool) → (long ≡ false → size ≤ 2044) → (short ≡ false → seal ≡ true → 8 ≤ size)
    → (if long then Some why.FrameTooLong else if short then Some why.SealShort else None) ≡ None → IsSized seal size
sized-by seal size true short few covered is = cc is
sized-by seal size false true few covered is = cc is
sized-by seal size false false few covered is = record { few = few refl; covered = covered refl }

sized-ok : (seal : Bool) (size : ℕ) → size_cause seal size ≡ None → IsSized seal size
sized-ok seal size is = sized-by seal size (nat_lt 2044 size) (seal && nat_lt size 8) (not-above size) (covered-by seal size) is

sized-back : (seal : Bool) (size : ℕ) → size ≤ 2044 → (seal ≡ true → 8 ≤ size) → size_cause seal size ≡ None
sized-back true size few covered =
    let many = covered refl in
    let long : nat_lt 2044 size ≡ false = grind (arith, nat_tests) in
    let short : nat_lt size 8 ≡ false = grind (arith, nat_tests) in
    if-false (nat_lt 2044 size) (Some why.FrameTooLong) (if nat_lt size 8 then Some why.SealShort else None) long
    ∙ if-false (nat_lt size 8) (Some why.SealShort) None short
sized-back false size few covered =
    let long : nat_lt 2044 size ≡ false = grind (arith, nat_tests) in
    if-false (nat_lt 2044 size) (Some why.FrameTooLong) None long

-- From a line to its frame's words

-- what the words of a frame are
record IsFound (seal : Bool) (words : List (List ℕ)) (frame : FrameLine) : Type 0 where
  pub digits : List ℕ
  pub bytes : List ℕ
  pub words_are : words ≡ digits ∷ []
  pub spells : AreSomeDigits digits bytes
  pub sized : IsSized seal (length bytes)
  pub is : frame_line seal bytes ≡ frame

found-by : (seal : Bool) (words : List (List ℕ)) (frame : FrameLine) → (frame_row seal).Spells frame words → IsFound seal words frame
found-by seal [] frame is = absurd is.2.0
found-by seal (digits ∷ more) frame is =
    let over = is.2.0.1 in
    record {
      digits = digits;
      bytes = is.0.0;
      words_are = ap (λ (rest : List (List ℕ)). digits ∷ rest) over;
      spells = is.2.0.0;
      sized = sized-ok seal (length is.0.0) is.2.1;
      is = is.1;
    }

frame-from : (text : List ℕ) (seal : Bool) (words : List (List ℕ)) (frame : FrameLine) (found : IsFound seal words frame)
    → text ≡ joined (frame_words seal found.digits) → IsFrameOf text frame
frame-from text seal words frame found parted =
    let size = found.sized in
    subst (λ (f : FrameLine). IsFrameOf text f) found.is
    (record { digits = found.digits; spells = found.spells.1; words = parted; some = found.spells.0; few = size.few; covered = size.covered })

chosen-by : (text word : List ℕ) (rest : List (List ℕ)) (frame : FrameLine) (test : Bool) → text ≡ joined (word ∷ rest) → (test ≡ true → word ≡ codes "seal")
    → ByTest test ((frame_row true).Spells frame rest) ((frame_row false).Spells frame (word ∷ rest)) → IsFrameOf text frame
chosen-by text word rest frame true parted means is =
    let found = found-by true rest frame is in
    let name = means refl in
    let are = found.words_are in
    frame-from text true rest frame found (parted ∙ ap (λ (w : List ℕ). joined (w ∷ rest)) name ∙ ap (λ (ws : List (List ℕ)). joined (codes "seal" ∷ ws)) are)
chosen-by text word rest frame false parted means is =
    let found = found-by false (word ∷ rest) frame is in
    frame-from text false (word ∷ rest) frame found (parted ∙ ap joined found.words_are)

words-frame : (text : List ℕ) (words : List (List ℕ)) (frame : FrameLine) → text ≡ joined words → replay_row.Spells frame words → IsFrameOf text frame
words-frame text [] frame parted is = absurd is.2.0
words-frame text (word ∷ rest) frame parted is =
    chosen-by text word rest frame (bytes_eq word (codes "seal")) parted (λ equal. (bytes_decides word (codes "seal")).0 equal) is

-- And back

none-by : (a b : ℕ) (test : Bool) → (test ≡ true → a ≡ b) → (a ≡ b → ⊥) → test ≡ false
none-by a b true means never = absurd (never (means refl))
none-by a b false means never = refl

digits-say : (digits bytes : List ℕ) → AreDigitsOf digits bytes → 1 ≤ length bytes → says_nothing digits ≡ false
digits-say digits [] spells some = absurd (omega arith)
digits-say [] (byte ∷ bytes) spells some = absurd spells
digits-say (digit ∷ []) (byte ∷ bytes) spells some = absurd spells
digits-say (high ∷ (low ∷ digits)) (byte ∷ bytes) spells some =
    none-by high 35 (high == 35) (same-number high 35) (λ mark. cc (subst (λ (d : ℕ). hex_digit_value d ≡ Some (byte / 16)) mark spells.0))

never-seal : (bytes : List ℕ) → AreDigitsOf (codes "seal") bytes → ⊥
never-seal [] spells = spells
never-seal (byte ∷ bytes) spells = cc spells.0

digits-seal : (digits bytes : List ℕ) → AreDigitsOf digits bytes → bytes_eq digits (codes "seal") ≡ false
digits-seal digits bytes spells =
    false-unless (bytes_eq digits (codes "seal")) (λ is.
    never-seal bytes (subst (λ (d : List ℕ). AreDigitsOf d bytes) ((bytes_decides digits (codes "seal")).0 is) spells))

row-spells : (seal : Bool) (digits : List ℕ) (frame : FrameLine) → frame.seal ≡ seal → AreDigitsOf digits frame.bytes → 1 ≤ length frame.bytes
    → length frame.bytes ≤ 2044
    → (frame.seal ≡ true → 8 ≤ length frame.bytes) → (frame_row seal).Spells frame (digits ∷ [])
row-spells seal digits frame is spells some few covered = (
  (frame.bytes, tt),
  ap (λ (s : Bool). frame_line s frame.bytes) (sym is),
  (((some, spells), refl), sized-back seal (length frame.bytes) few (λ seals. covered (is ∙ seals))),
)

spoken-by : (text : List ℕ) (frame : FrameLine) (seal : Bool) → frame.seal ≡ seal → (is : IsFrameOf text frame) → text ≡ joined (frame_words seal is.digits)
    → IsSpokenLine replay_row text frame
spoken-by text frame true seals is words =
    let size = (spelled-pairs is.digits frame.bytes is.spells).size in
    let few = is.few in
    let length_is : length text ≡ length (joined (codes "seal" ∷ (is.digits ∷ []))) = ap length words in
    let joined_is = joined-length (codes "seal") (is.digits ∷ []) in
    record {
      words = codes "seal" ∷ (is.digits ∷ []);
      spells = row-spells true is.digits frame seals is.spells is.some is.few is.covered;
      parted = words;
      says = ap says_nothing words;
      short = omega arith;
    }
spoken-by text frame false seals is words =
    let size = (spelled-pairs is.digits frame.bytes is.spells).size in
    let few = is.few in
    let length_is : length text ≡ length is.digits = ap length words in
    record {
      words = is.digits ∷ [];
      spells =
          subst (λ (test : Bool). ByTest test ((frame_row true).Spells frame []) ((frame_row false).Spells frame (is.digits ∷ [])))
          (sym (digits-seal is.digits frame.bytes is.spells))
          (row-spells false is.digits frame seals is.spells is.some is.few is.covered);
      parted = words;
      says = ap says_nothing words ∙ digits-say is.digits frame.bytes is.spells is.some;
      short = omega arith;
    }

pub frame-spelled : (text : List ℕ) (said : Option FrameLine) → read_frame text ≡ Ok said → IsFrameLine text said
frame-spelled text None is = let idle = (line-idle replay_row.said text).0 is in (idle.says, idle.short, idle.text)
frame-spelled text (Some frame) is =
    let spoken = (line-accepted replay_row replay-is text frame).0 is in
    words-frame text spoken.words frame spoken.parted spoken.spells

pub spelled-frame : (text : List ℕ) (said : Option FrameLine) → IsFrameLine text said → read_frame text ≡ Ok said
spelled-frame text None is = (line-idle replay_row.said text).1 (record { says = is.0; short = is.1; text = is.2 })
spelled-frame text (Some frame) is = (line-accepted replay_row replay-is text frame).1 (spoken-by text frame frame.seal refl is is.words)

-- after `seal` a frame has eight bytes
covered-found : (seal : Bool) (words : List (List ℕ)) (frame : FrameLine) → (frame_row seal).Spells frame words → frame.seal ≡ true → 8 ≤ length frame.bytes
covered-found seal words frame is =
    let found = found-by seal words frame is in
    let size = found.sized in
    subst (λ (f : FrameLine). f.seal ≡ true → 8 ≤ length f.bytes) found.is size.covered

covered-when : (test : Bool) (word : List ℕ) (rest : List (List ℕ)) (frame : FrameLine)
    → ByTest test ((frame_row true).Spells frame rest) ((frame_row false).Spells frame (word ∷ rest)) → frame.seal ≡ true → 8 ≤ length frame.bytes
covered-when true word rest frame is = covered-found true rest frame is
covered-when false word rest frame is = covered-found false (word ∷ rest) frame is

covered-words : (words : List (List ℕ)) (frame : FrameLine) → replay_row.Spells frame words → frame.seal ≡ true → 8 ≤ length frame.bytes
covered-words [] frame is = absurd is.2.0
covered-words (word ∷ rest) frame is = covered-when (bytes_eq word (codes "seal")) word rest frame is

pub frame-covered : (left : WordsLeft) (frame : FrameLine) → replay_row.said left ≡ Ok frame → frame.seal ≡ true → 8 ≤ length frame.bytes
frame-covered left frame is = covered-words (texts_of left.words) frame (replay-is.spelled left frame is)

sealed-by : (text : List ℕ) (r : Result (Option FrameLine) LineFault) → read_frame text ≡ r
    → IfOk r (λ said. IfSome said (λ frame. frame.seal ≡ true → 8 ≤ length frame.bytes))
sealed-by text (Ok None) is = tt
sealed-by text (Ok (Some frame)) is = (frame-spelled text (Some frame) is).covered
sealed-by text (Err fault) is = tt

pub frames_sealed : (text : List ℕ) → IfOk (read_frame text) (λ said. IfSome said (λ frame. frame.seal ≡ true → 8 ≤ length frame.bytes))
frames_sealed text = sealed-by text (read_frame text) refl

-- Faults

size-by : (column : ℕ) (long short : Bool)
    → cause_at column (if long then Some why.FrameTooLong else if short then Some why.SealShort else None)
    ≡ (if long then Some (fault_at column why.FrameTooLong) else if short then Some (fault_at column why.SealShort) else None)
size-by column true short = refl
size-by column false true = refl
size-by column false false = refl

size-same : (seal : Bool) (column : ℕ) (bytes : List ℕ) → cause_at column (size_cause seal (length bytes)) ≡ size_fault seal column bytes
size-same seal column bytes = size-by column (nat_lt 2044 (length bytes)) (seal && nat_lt (length bytes) 8)

bytes-said : (words : List WordAt) (absent : ℕ) (s : List ℕ × Unit {0}) → AreBoth hex_kind.Spells end_row.Spells s (texts_of words)
    → bytes_of_digits (first_word (words_left words absent)).text ≡ s.0
bytes-said [] absent s is = absurd is
bytes-said (word ∷ words) absent s is = (spelled-pairs word.text s.0 is.0.1).bytes_are

frame-fault : (seal : Bool) (left : WordsLeft) → (frame_row seal).fault left ≡ digits_line_fault seal left
frame-fault seal left =
    let row = hex_kind ▷ end_row in
    let column = (first_word left).column in
    let digits = judged_word hex_kind.flaw (first_word left) in
    let over = nothing_more (later left).words in
    let size = size_fault seal column (bytes_of_digits (first_word left).text) in
    first-when (row.fault left) (refused_at column (size_judged seal) (row.said left)) size (λ none.
    let found = said-some (row.said left) (digits-are.first left ∙ none) in
    ap (refused_at column (size_judged seal)) found.1
    ∙ size-same seal column found.0.0
    ∙ sym (ap (size_fault seal column) (bytes-said left.words left.absent found.0 (digits-are.spelled left found.0 found.1))))
    ∙ first-assoc digits over size
    ∙ ap (λ (here : Option LineFault). first_or here (first_or over size)) (digits-same (first_word left))

seal-by : (seal : Bool) (left : WordsLeft)
    → (if seal then (frame_row true).fault (later left) else (frame_row false).fault left)
    ≡ (if seal then digits_line_fault true (later left) else digits_line_fault false left)
seal-by true left = frame-fault true (later left)
seal-by false left = frame-fault false left

said-by : (nothing : Bool) (a b : Option LineFault) → a ≡ b → (if nothing then None else a) ≡ (if nothing then None else b)
said-by true a b is = refl
said-by false a b is = is

fault-same : (text : List ℕ) → first_fault replay_row text ≡ frame_fault text
fault-same text =
    ap (λ (words : Option LineFault). first_or (if nat_lt 4096 (length text) then Some (fault_at 4097 why.LineTooLong) else None)
    (first_or (no_text (first_other text)) words))
    (said-by (says_nothing text) (replay_row.fault (words_of text)) (replayed_fault (words_of text)) (seal-by (seals (words_of text)) (words_of text)))

-- a line is refused for its first fault, and for no other
pub first-frame-fault : (text : List ℕ) (fault : LineFault) → (read_frame text ≡ Err fault) ↔ (frame_fault text ≡ Some fault)
first-frame-fault text fault =
    let both = line-refused replay_row replay-is text fault in
    (λ is. sym (fault-same text) ∙ both.0 is, λ is. both.1 (fault-same text ∙ is))
