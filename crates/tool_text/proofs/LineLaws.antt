-- A line is refused exactly for its first fault, and accepted exactly if its words spell what it says.
use Rattle.std.proofs.Common.{◌≡◌, refl, sym, ap, ◌∙◌, subst, ℕ, ◌+◌, ◌≤◌, List, [], ◌∷◌, length, Bool, true, false, ◌&&◌, not, cond, if◌then◌else◌, nat_lt, Option, Some, None, Result, Ok, Err, arith}
use Rattle.std.specs.Prelude.{◌↔◌}
use Rattle.std.specs.List.{list_all, position_from}
use Rattle.std.proofs.lemmas.Bool.Decides.{nat_tests}
use Rattle.std.proofs.lemmas.List.Splits.{join_with_byte-slice_split}
use Rattle.tool_text.specs.declared.words.faults.LineFault.{LineFault}
use Rattle.tool_text.specs.declared.words.faults.LineWhy.TheVariants as why
use Rattle.tool_text.specs.Refusals.{fault_at}
use Rattle.tool_text.specs.Words.{WordsLeft, placed, words_of, parted_by, texts_of, joined}
use Rattle.tool_text.specs.Rows.{WordRow, IsExactRow, ◌>>=◌, first_or, fault_in}
use Rattle.tool_text.specs.Lines.{is_text, first_other, text_or_other, clean, says_nothing, words_read, text_read, line_read, no_text, first_fault, IsIdle, IsSpokenLine}
use Rattle.tool_text.proofs.Bytes.{both-true, if-false, if-true, words-parted, joined-text}
use Rattle.tool_text.proofs.RowLaws.{bind-ok, bind-read, then-fault, then-ok, then-read, last-fault}

-- Clean lines

not-text : (place : Option ℕ) → fault_in (text_or_other place) ≡ no_text place
not-text None = refl
not-text (Some place) = refl

pub clean-by : (place : Option ℕ) (long : Bool)
    → fault_in {A = Unit {0}} (if long then Err (fault_at 4097 why.LineTooLong) else text_or_other place) ≡ first_or
    (if long then Some (fault_at 4097 why.LineTooLong) else None) (no_text place)
clean-by place true = refl
clean-by place false = not-text place

text-by : (from byte : ℕ) (rest : List ℕ) (test : Bool) → cond (not test) (Some from) (position_from (λ b. not (is_text b)) (from + 1) rest) ≡ None
    → (position_from (λ b. not (is_text b)) (from + 1) rest ≡ None → list_all is_text rest ≡ true) → (test && list_all is_text rest) ≡ true
text-by from byte rest true none others = others none
text-by from byte rest false none others = cc none

all-text : (from : ℕ) (text : List ℕ) → position_from (λ byte. not (is_text byte)) from text ≡ None → list_all is_text text ≡ true
all-text from [] none = refl
all-text from (byte ∷ rest) none = text-by from byte rest (is_text byte) none (all-text (from + 1) rest)

no-other-by : (from byte : ℕ) (rest : List ℕ) (test : Bool) → test ≡ true → position_from (λ b. not (is_text b)) (from + 1) rest ≡ None
    → cond (not test) (Some from) (position_from (λ b. not (is_text b)) (from + 1) rest) ≡ None
no-other-by from byte rest true is none = none
no-other-by from byte rest false is none = cc is

no-other : (from : ℕ) (text : List ℕ) → list_all is_text text ≡ true → position_from (λ byte. not (is_text byte)) from text ≡ None
no-other from [] all = refl
no-other from (byte ∷ rest) all =
    let both = both-true (is_text byte) (list_all is_text rest) all in
    no-other-by from byte rest (is_text byte) both.0 (no-other (from + 1) rest both.1)

-- a line that is neither too long nor other than text
pub record IsClean (line : List ℕ) : Type 0 where
  pub short : length line ≤ 4096
  pub all : list_all is_text line ≡ true

not-long : (n : ℕ) → nat_lt 4096 n ≡ false → n ≤ 4096
not-long n is = grind (arith, nat_tests)

none-found : (place : Option ℕ) (x : Unit {0}) → text_or_other place ≡ Ok x → place ≡ None
none-found None x is = refl
none-found (Some place) x is = cc is

clean-ok-by : (line : List ℕ) (x : Unit {0}) (long : Bool) → (long ≡ false → length line ≤ 4096)
    → (if long then Err (fault_at 4097 why.LineTooLong) else text_or_other (first_other line)) ≡ Ok x → IsClean line
clean-ok-by line x true means is = cc is
clean-ok-by line x false means is = record { short = means refl; all = all-text 0 line (none-found (first_other line) x is) }

pub clean-ok : (line : List ℕ) (x : Unit {0}) → clean line ≡ Ok x → IsClean line
clean-ok line x is = clean-ok-by line x (nat_lt 4096 (length line)) (not-long (length line)) is

pub clean-back : (line : List ℕ) → length line ≤ 4096 → list_all is_text line ≡ true → clean line ≡ Ok tt
clean-back line short all =
    let is : nat_lt 4096 (length line) ≡ false = grind (arith, nat_tests) in
    if-false (nat_lt 4096 (length line)) (Err (fault_at 4097 why.LineTooLong)) (text_or_other (first_other line)) is ∙ ap text_or_other (no-other 0 line all)

-- Refused lines

pub first-assoc : (a b c : Option LineFault) → first_or (first_or a b) c ≡ first_or a (first_or b c)
first-assoc None b c = refl
first-assoc (Some fault) b c = refl

pub refused-is : {A : Type 0} (r : Result A LineFault) (fault : LineFault) → (r ≡ Err fault) ↔ (fault_in r ≡ Some fault)
refused-is (Ok x) fault = (λ is. cc is, λ is. cc is)
refused-is (Err found) fault = (λ is. let equal : found ≡ fault = cc is in ap Some equal, λ is. let equal : found ≡ fault = cc is in ap Err equal)

text-fault : {A : Type 0} (nothing : Bool) (r : Result A LineFault) (fault : Option LineFault) → fault_in r ≡ fault
    → fault_in {A = Option A} (if nothing then Ok None else (r >>= (λ x. Ok (Some x)))) ≡ (if nothing then None else fault)
text-fault true r fault is = refl
text-fault {A = A} false r fault is = last-fault {B = Option A} r Some ∙ is

module _ {A : Type 0} (row : WordRow A) (is_row : IsExactRow row) where
  line-fault : (line : List ℕ) → fault_in (line_read row.said line) ≡ first_fault row line
  line-fault line =
      let long : Option LineFault = if nat_lt 4096 (length line) then Some (fault_at 4097 why.LineTooLong) else None in
      let words : Option LineFault = if says_nothing line then None else row.fault (words_of line) in
      then-fault (clean line) (text_read row.said line) (first_or long (no_text (first_other line))) words
      (clean-by (first_other line) (nat_lt 4096 (length line)))
      (text-fault (says_nothing line) (row.said (words_of line)) (row.fault (words_of line)) (is_row.first (words_of line)))
      ∙ first-assoc long (no_text (first_other line)) words

  -- a line is refused exactly for its first fault
  pub line-refused : (line : List ℕ) (fault : LineFault) → (line_read row.said line ≡ Err fault) ↔ (first_fault row line ≡ Some fault)
  line-refused line fault =
      let both = refused-is (line_read row.said line) fault in
      (λ is. sym (line-fault line) ∙ both.0 is, λ is. both.1 (line-fault line ∙ is))

-- Accepted lines

pub texts-placed : (column : ℕ) (parts : List (List ℕ)) → texts_of (placed column parts) ≡ parts
texts-placed column [] = refl
texts-placed column (part ∷ parts) = ap (λ (texts : List (List ℕ)). part ∷ texts) (texts-placed (column + length part + 1) parts)

-- what a line of text comes to
record IsRead {A : Type 0} (said : WordsLeft → Result A LineFault) (line : List ℕ) (x : A) : Type 0 where
  pub says : says_nothing line ≡ false
  pub read : said (words_of line) ≡ Ok x

read-by : {A : Type 0} (said : WordsLeft → Result A LineFault) (line : List ℕ) (x : A) (nothing : Bool) → says_nothing line ≡ nothing
    → (if nothing then Ok None else words_read said line) ≡ Ok (Some x) → IsRead said line x
read-by said line x true says is = cc is
read-by {A = A} said line x false says is =
    let found = bind-ok {B = Option A} (said (words_of line)) (λ y. Ok (Some y)) (Some x) is in
    let equal : found.0 ≡ x = cc found.2 in
    record { says = says; read = found.1 ∙ ap Ok equal }

idle-by : {A : Type 0} (said : WordsLeft → Result A LineFault) (line : List ℕ) (nothing : Bool)
    → (if nothing then Ok None else words_read said line) ≡ Ok None → nothing ≡ true
idle-by said line true is = refl
idle-by {A = A} said line false is =
    let found = bind-ok {B = Option A} (said (words_of line)) (λ y. Ok (Some y)) None is in
    cc found.2

-- a line says nothing exactly if it is empty or a comment, and clean
pub line-idle : {A : Type 0} (said : WordsLeft → Result A LineFault) (line : List ℕ) → (line_read said line ≡ Ok None) ↔ IsIdle line
line-idle {A = A} said line = (
  λ is. let found = then-ok (clean line) (text_read said line) None is in
      let whole = clean-ok line tt found.0 in
      record { says = idle-by said line (says_nothing line) found.1; short = whole.short; text = whole.all },
  λ idle. then-read (clean line) (text_read said line) (clean-back line idle.short idle.text)
      ∙ if-true (says_nothing line) (Ok None) (words_read said line) idle.says,
)

-- no words make an empty line
joined-says : {A : Type 0} (row : WordRow A) (line : List ℕ) (x : A) (words : List (List ℕ)) → line ≡ joined words → says_nothing line ≡ false → (first : List ℕ)
    × (rest : List (List ℕ)) × (words ≡ first ∷ rest)
joined-says row line x [] parted says = cc (sym (ap says_nothing parted) ∙ says)
joined-says row line x (first ∷ rest) parted says = (first, rest, refl)

module _ {A : Type 0} (row : WordRow A) (is_row : IsExactRow row) where
  line-spelled : (line : List ℕ) (x : A) → line_read row.said line ≡ Ok (Some x) → IsSpokenLine row line x
  line-spelled line x is =
      let found = then-ok (clean line) (text_read row.said line) (Some x) is in
      let whole = clean-ok line tt found.0 in
      let read = read-by row.said line x (says_nothing line) refl found.1 in
      record {
        words = parted_by 32 line;
        spells = subst (λ (texts : List (List ℕ)). row.Spells x texts) (texts-placed 1 (parted_by 32 line)) (is_row.spelled (words_of line) x read.read);
        parted = sym (join_with_byte-slice_split 32 line);
        says = read.says;
        short = whole.short;
      }

  words-back : (line : List ℕ) (x : A) (first : List ℕ) (rest : List (List ℕ)) → line ≡ joined (first ∷ rest) → row.Spells x (first ∷ rest)
      → says_nothing line ≡ false → length line ≤ 4096
      → line_read row.said line ≡ Ok (Some x)
  words-back line x first rest parted spells says short =
      let all = is_row.are_words (first ∷ rest) x spells in
      let parts : parted_by 32 line ≡ first ∷ rest = ap (parted_by 32) parted ∙ words-parted first rest all in
      let texts : texts_of (placed 1 (parted_by 32 line)) ≡ first ∷ rest = texts-placed 1 (parted_by 32 line) ∙ parts in
      then-read (clean line) (text_read row.said line) (clean-back line short (ap (list_all is_text) parted ∙ joined-text first rest all))
      ∙ if-false (says_nothing line) (Ok None) (words_read row.said line) says
      ∙ bind-read {B = Option A} (row.said (words_of line)) (λ y. Ok (Some y)) x
      (is_row.read_back (words_of line) x (subst (λ (ts : List (List ℕ)). row.Spells x ts) (sym texts) spells))

  line-back : (line : List ℕ) (x : A) → IsSpokenLine row line x → line_read row.said line ≡ Ok (Some x)
  line-back line x is =
      let words = joined-says row line x is.words is.parted is.says in
      words-back line x words.0 words.1 (is.parted ∙ ap joined words.2) (subst (λ (ws : List (List ℕ)). row.Spells x ws) words.2 is.spells) is.says is.short

  -- a line is accepted exactly if it is words, separated by one space, that spell what it says
  pub line-accepted : (line : List ℕ) (x : A) → (line_read row.said line ≡ Ok (Some x)) ↔ IsSpokenLine row line x
  line-accepted line x = (line-spelled line x, line-back line x)
