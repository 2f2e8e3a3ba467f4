-- Each row that is made of rows and kinds keeps what a row keeps.
use Rattle.std.proofs.Common.{◌≡◌, refl, sym, ap, ◌∙◌, subst, ℕ, List, [], ◌∷◌, length, Bool, true, false, ◌==◌, if◌then◌else◌, Option, Some, None, Result, Ok, Err}
use Rattle.std.specs.List.{list_all}
use Rattle.std.specs.Str.{bytes_eq}
use Rattle.std.specs.Cmp.Lexicographic.{bytes_decides}
use Rattle.tool_text.specs.declared.words.faults.LineFault.{LineFault}
use Rattle.tool_text.specs.declared.words.faults.LineWhy.{LineWhy}
use Rattle.tool_text.specs.declared.words.faults.LineWhy.TheVariants as why
use Rattle.tool_text.specs.declared.words.kinds.Flaw.{Flaw}
use Rattle.tool_text.specs.Refusals.{fault_at}
use Rattle.tool_text.specs.Words.{WordAt, WordsLeft, words_left, first_word, later, word_at, texts_of}
use Rattle.tool_text.specs.Kinds.{KindOfWords, IsExactKind, word_read, read_at, judged_word, flaw_fault, flaw_in, flaw_after, is_whole_word}
use Rattle.tool_text.specs.Rows.{WordRow, IsExactRow, ◌>>=◌, ◌>>◌, first_or, fault_in, none_left, nothing_more, end_row, then_row, AreBoth, ◌▷◌, made, row_as, chosen_fault, AreChosen, choice, ByTest, AreAfter, after_word, allowed, cause_at, refused_at, judged_row, flag_read, flag_flaw, flag_said, flag_fault, flag_row}
use Rattle.tool_text.proofs.Bytes.{and-true, word-some}

-- Steps

pub bind-fault : {A B : Type 0} (r : Result A LineFault) (f : A → Result B LineFault) (here rest : Option LineFault) → fault_in r ≡ here
    → ((x : A) → r ≡ Ok x → fault_in (f x) ≡ rest) → fault_in (r >>= f) ≡ first_or here rest
bind-fault (Ok x) f here rest is more = more x refl ∙ ap (λ (h : Option LineFault). first_or h rest) is
bind-fault (Err fault) f here rest is more = ap (λ (h : Option LineFault). first_or h rest) is

pub bind-ok : {A B : Type 0} (r : Result A LineFault) (f : A → Result B LineFault) (y : B) → (r >>= f) ≡ Ok y → (x : A) × (r ≡ Ok x) × (f x ≡ Ok y)
bind-ok (Ok x) f y is = (x, refl, is)
bind-ok (Err fault) f y is = cc is

pub bind-read : {A B : Type 0} (r : Result A LineFault) (f : A → Result B LineFault) (x : A) → r ≡ Ok x → (r >>= f) ≡ f x
bind-read r f x is = ap (λ (s : Result _ LineFault). s >>= f) is

pub then-fault : {B : Type 0} (r : Result (Unit {0}) LineFault) (next : Result B LineFault) (here rest : Option LineFault) → fault_in r ≡ here
    → fault_in next ≡ rest → fault_in (r >> next) ≡ first_or here rest
then-fault (Ok x) next here rest is more = more ∙ ap (λ (h : Option LineFault). first_or h rest) is
then-fault (Err fault) next here rest is more = ap (λ (h : Option LineFault). first_or h rest) is

pub then-ok : {B : Type 0} (r : Result (Unit {0}) LineFault) (next : Result B LineFault) (y : B) → (r >> next) ≡ Ok y → (r ≡ Ok tt) × (next ≡ Ok y)
then-ok (Ok x) next y is = (refl, is)
then-ok (Err fault) next y is = cc is

pub then-read : {B : Type 0} (r : Result (Unit {0}) LineFault) (next : Result B LineFault) → r ≡ Ok tt → (r >> next) ≡ next
then-read r next is = ap (λ (s : Result (Unit {0}) LineFault). s >> next) is

pub last-fault : {A B : Type 0} (r : Result A LineFault) (f : A → B) → fault_in {A = B} (r >>= (λ x. Ok (f x))) ≡ fault_in r
last-fault (Ok x) f = refl
last-fault (Err fault) f = refl

-- Words

read-fault : {A : Type 0} (column : ℕ) (r : Result A Flaw) → fault_in (read_at column r) ≡ flaw_fault column (flaw_in r)
read-fault column (Ok x) = refl
read-fault column (Err flaw) = refl

word-by : {A : Type 0} (absent : Bool) (missing : LineFault) (r : Result A LineFault) (flaw : Option LineFault) → fault_in r ≡ flaw
    → fault_in (if absent then Err missing else r) ≡ (if absent then Some missing else flaw)
word-by true missing r flaw is = refl
word-by false missing r flaw is = is

-- a word is refused for its fault
pub word-first : {A : Type 0} (reads : List ℕ → Result A Flaw) (flaw : List ℕ → Option Flaw) → ((text : List ℕ) → flaw_in (reads text) ≡ flaw text)
    → (word : WordAt)
    → fault_in (word_read reads word) ≡ judged_word flaw word
word-first reads flaw flaws word =
    word-by (length word.text == 0) (fault_at word.column why.Missing) (read_at word.column (reads word.text)) (flaw_fault word.column (flaw word.text))
    (read-fault word.column (reads word.text) ∙ ap (flaw_fault word.column) (flaws word.text))

read-ok : {A : Type 0} (column : ℕ) (r : Result A Flaw) (x : A) → read_at column r ≡ Ok x → r ≡ Ok x
read-ok column (Ok y) x is = let equal : y ≡ x = cc is in ap Ok equal
read-ok column (Err flaw) x is = cc is

-- what is read of a word
pub record IsWordRead {A : Type 0} (reads : List ℕ → Result A Flaw) (text : List ℕ) (x : A) : Type 0 where
  pub some : (length text == 0) ≡ false
  pub read : reads text ≡ Ok x

word-ok-by : {A : Type 0} (reads : List ℕ → Result A Flaw) (column : ℕ) (text : List ℕ) (x : A) (absent : Bool) → (length text == 0) ≡ absent
    → (if absent then Err (fault_at column why.Missing) else read_at column (reads text)) ≡ Ok x → IsWordRead reads text x
word-ok-by reads column text x true some is = cc is
word-ok-by reads column text x false some is = record { some = some; read = read-ok column (reads text) x is }

pub word-ok : {A : Type 0} (reads : List ℕ → Result A Flaw) (word : WordAt) (x : A) → word_read reads word ≡ Ok x → IsWordRead reads word.text x
word-ok reads word x is = word-ok-by reads word.column word.text x (length word.text == 0) refl is

word-back-by : {A : Type 0} (column : ℕ) (r : Result A Flaw) (x : A) (absent : Bool) → absent ≡ false → r ≡ Ok x
    → (if absent then Err (fault_at column why.Missing) else read_at column r) ≡ Ok x
word-back-by column r x true some is = cc some
word-back-by column r x false some is = ap (read_at column) is

pub word-back : {A : Type 0} (reads : List ℕ → Result A Flaw) (word : WordAt) (x : A) → (length word.text == 0) ≡ false → reads word.text ≡ Ok x
    → word_read reads word ≡ Ok x
word-back reads word x some is = word-back-by word.column (reads word.text) x (length word.text == 0) some is

-- the end

end-first : (words : List WordAt) → fault_in (none_left words) ≡ nothing_more words
end-first [] = refl
end-first (word ∷ words) = refl

end-spelled : (words : List WordAt) (x : Unit {0}) → none_left words ≡ Ok x → texts_of words ≡ []
end-spelled [] x is = refl
end-spelled (word ∷ words) x is = cc is

end-back : (words : List WordAt) (x : Unit {0}) → texts_of words ≡ [] → none_left words ≡ Ok x
end-back [] x is = refl
end-back (word ∷ words) x is = cc is

pub end-is : IsExactRow end_row
end-is = record {
  first = λ left. end-first left.words;
  spelled = λ left x is. end-spelled left.words x is;
  read_back = λ left x is. end-back left.words x is;
  are_words = λ words x is. ap (list_all is_whole_word) is;
}

-- a word, and then a row
module _ {A B : Type 0} (kind : KindOfWords A) (row : WordRow B) (is_kind : IsExactKind kind) (is_row : IsExactRow row) where
  both-first : (left : WordsLeft)
      → fault_in {A = A × B} (then_row kind.reads row.said left) ≡ first_or (judged_word kind.flaw (first_word left)) (row.fault (later left))
  both-first left =
      bind-fault {B = A × B} (word_read kind.reads (first_word left)) (λ x. row.said (later left) >>= (λ y. Ok (x, y)))
      (judged_word kind.flaw (first_word left)) (row.fault (later left)) (word-first kind.reads kind.flaw is_kind.flaws (first_word left))
      (λ x read. last-fault {B = A × B} (row.said (later left)) (λ y. (x, y)) ∙ is_row.first (later left))

  both-spelled : (words : List WordAt) (absent : ℕ) (x : A × B) → then_row kind.reads row.said (words_left words absent) ≡ Ok x
      → AreBoth kind.Spells row.Spells x (texts_of words)
  both-spelled [] absent x is = cc is
  both-spelled (word ∷ words) absent x is =
      let first = bind-ok {B = A × B} (word_read kind.reads word) (λ a. row.said (words_left words absent) >>= (λ b. Ok (a, b))) x is in
      let rest = bind-ok {B = A × B} (row.said (words_left words absent)) (λ b. Ok (first.0, b)) x first.2 in
      let equal : (first.0, rest.0) ≡ x = cc rest.2 in
      let read = word-ok kind.reads word first.0 first.1 in
      subst (λ (y : A × B). AreBoth kind.Spells row.Spells y (word.text ∷ texts_of words)) equal
      (is_kind.spelled word.text first.0 read.some read.read, is_row.spelled (words_left words absent) rest.0 rest.1)

  both-back : (words : List WordAt) (absent : ℕ) (x : A × B) → AreBoth kind.Spells row.Spells x (texts_of words)
      → then_row kind.reads row.said (words_left words absent) ≡ Ok x
  both-back [] absent x is = absurd is
  both-back (word ∷ words) absent x is =
      let some = word-some word.text (is_kind.are_words word.text x.0 is.0) in
      bind-read {B = A × B} (word_read kind.reads word) (λ a. row.said (words_left words absent) >>= (λ b. Ok (a, b))) x.0
      (word-back kind.reads word x.0 some (is_kind.read_back word.text x.0 is.0))
      ∙ bind-read {B = A × B} (row.said (words_left words absent)) (λ b. Ok (x.0, b)) x.1 (is_row.read_back (words_left words absent) x.1 is.1)

  both-words : (words : List (List ℕ)) (x : A × B) → AreBoth kind.Spells row.Spells x words → list_all is_whole_word words ≡ true
  both-words [] x is = absurd is
  both-words (word ∷ words) x is =
      and-true (is_whole_word word) (list_all is_whole_word words) (is_kind.are_words word x.0 is.0) (is_row.are_words words x.1 is.1)

  pub both-is : IsExactRow (kind ▷ row)
  both-is = record {
    first = both-first;
    spelled = λ left x is. both-spelled left.words left.absent x is;
    read_back = λ left x is. both-back left.words left.absent x is;
    are_words = both-words;
  }

-- what is made of a row
made-fault : {A B : Type 0} (make : A → B) (r : Result A LineFault) → fault_in (made make r) ≡ fault_in r
made-fault make (Ok x) = refl
made-fault make (Err fault) = refl

made-ok : {A B : Type 0} (make : A → B) (r : Result A LineFault) (y : B) → made make r ≡ Ok y → (x : A) × (make x ≡ y) × (r ≡ Ok x)
made-ok make (Ok x) y is = (x, cc is, refl)
made-ok make (Err fault) y is = cc is

module _ {A B : Type 0} (make : A → B) (row : WordRow A) (is_row : IsExactRow row) where
  as-spelled : (left : WordsLeft) (y : B) → made make (row.said left) ≡ Ok y → (x : A) × (make x ≡ y) × row.Spells x (texts_of left.words)
  as-spelled left y is =
      let found = made-ok make (row.said left) y is in
      (found.0, found.1, is_row.spelled left found.0 found.2)

  as-back : (left : WordsLeft) (y : B) → ((x : A) × (make x ≡ y) × row.Spells x (texts_of left.words)) → made make (row.said left) ≡ Ok y
  as-back left y is = ap (made make) (is_row.read_back left is.0 is.2) ∙ ap Ok is.1

  pub as-is : IsExactRow (row_as make row)
  as-is = record {
    first = λ left. made-fault make (row.said left) ∙ is_row.first left;
    spelled = as-spelled;
    read_back = as-back;
    are_words = λ words y is. is_row.are_words words is.0 is.2;
  }

-- a choice
module _ {A B : Type 0} (kind : KindOfWords A) (rows : A → WordRow B) (is_kind : IsExactKind kind) (are_rows : (which : A) → IsExactRow (rows which)) where
  chosen-by : (r : Result A Flaw) (which : A) (left : WordsLeft) → r ≡ Ok which → fault_in ((rows which).said left) ≡ chosen_fault rows r left
  chosen-by r which left is = (are_rows which).first left ∙ ap (λ (s : Result A Flaw). chosen_fault rows s left) (sym is)

  choice-first : (left : WordsLeft) → fault_in ((choice kind rows).said left) ≡ (choice kind rows).fault left
  choice-first left =
      bind-fault (word_read kind.reads (first_word left)) (λ which. (rows which).said (later left))
      (judged_word kind.flaw (first_word left)) (chosen_fault rows (kind.reads (first_word left).text) (later left))
      (word-first kind.reads kind.flaw is_kind.flaws (first_word left))
      (λ which read. chosen-by (kind.reads (first_word left).text) which (later left) (word-ok kind.reads (first_word left) which read).read)

  choice-spelled : (words : List WordAt) (absent : ℕ) (y : B) → (choice kind rows).said (words_left words absent) ≡ Ok y
      → AreChosen kind rows y (texts_of words)
  choice-spelled [] absent y is = cc is
  choice-spelled (word ∷ words) absent y is =
      let first = bind-ok (word_read kind.reads word) (λ which. (rows which).said (words_left words absent)) y is in
      let read = word-ok kind.reads word first.0 first.1 in
      (first.0, is_kind.spelled word.text first.0 read.some read.read, (are_rows first.0).spelled (words_left words absent) y first.2)

  choice-back : (words : List WordAt) (absent : ℕ) (y : B) → AreChosen kind rows y (texts_of words) → (choice kind rows).said (words_left words absent) ≡ Ok y
  choice-back [] absent y is = absurd is
  choice-back (word ∷ words) absent y is =
      let some = word-some word.text (is_kind.are_words word.text is.0 is.1) in
      bind-read (word_read kind.reads word) (λ which. (rows which).said (words_left words absent)) is.0
      (word-back kind.reads word is.0 some (is_kind.read_back word.text is.0 is.1))
      ∙ (are_rows is.0).read_back (words_left words absent) y is.2

  choice-words : (words : List (List ℕ)) (y : B) → AreChosen kind rows y words → list_all is_whole_word words ≡ true
  choice-words [] y is = absurd is
  choice-words (word ∷ words) y is =
      and-true (is_whole_word word) (list_all is_whole_word words) (is_kind.are_words word is.0 is.1) ((are_rows is.0).are_words words y is.2)

  pub choice-is : IsExactRow (choice kind rows)
  choice-is = record {
    first = choice-first;
    spelled = λ left y is. choice-spelled left.words left.absent y is;
    read_back = λ left y is. choice-back left.words left.absent y is;
    are_words = choice-words;
  }

-- a row after a word
test-fault : {A : Type 0} (test : Bool) (r s : Result A LineFault) (one other : Option LineFault) → fault_in r ≡ one → fault_in s ≡ other
    → fault_in (if test then r else s) ≡ (if test then one else other)
test-fault true r s one other p q = p
test-fault false r s one other p q = q

test-spelled : {A : Type 0} (test : Bool) (r s : Result A LineFault) (x : A) (P Q : Type 0) → (r ≡ Ok x → P) → (s ≡ Ok x → Q) → (if test then r else s) ≡ Ok x
    → ByTest test P Q
test-spelled true r s x P Q p q is = p is
test-spelled false r s x P Q p q is = q is

test-back : {A : Type 0} (test : Bool) (r s : Result A LineFault) (x : A) (P Q : Type 0) → (P → r ≡ Ok x) → (Q → s ≡ Ok x) → ByTest test P Q
    → (if test then r else s) ≡ Ok x
test-back true r s x P Q p q is = p is
test-back false r s x P Q p q is = q is

test-words : (test : Bool) (all : Bool) (P Q : Type 0) → (test ≡ true → P → all ≡ true) → (Q → all ≡ true) → ByTest test P Q → all ≡ true
test-words true all P Q p q is = p refl is
test-words false all P Q p q is = q is

no-name : (name : List ℕ) → is_whole_word name ≡ true → bytes_eq [] name ≡ false
no-name [] is = cc is
no-name (byte ∷ name) is = refl

module _ {A : Type 0} (name : List ℕ) (row other : WordRow A) (is_name : is_whole_word name ≡ true) (is_row : IsExactRow row) (is_other : IsExactRow other) where
  after-spelled : (words : List WordAt) (absent : ℕ) (x : A) → (after_word name row other).said (words_left words absent) ≡ Ok x
      → AreAfter name row.Spells other.Spells x (texts_of words)
  after-spelled [] absent x is =
      is_other.spelled (words_left [] absent) x
      (sym (ap (λ (test : Bool). if test then row.said (words_left [] absent) else other.said (words_left [] absent)) (no-name name is_name)) ∙ is)
  after-spelled (word ∷ words) absent x is =
      test-spelled (bytes_eq word.text name) (row.said (words_left words absent)) (other.said (words_left (word ∷ words) absent)) x
      (row.Spells x (texts_of words)) (other.Spells x (word.text ∷ texts_of words))
      (is_row.spelled (words_left words absent) x) (is_other.spelled (words_left (word ∷ words) absent) x) is

  after-back : (words : List WordAt) (absent : ℕ) (x : A) → AreAfter name row.Spells other.Spells x (texts_of words)
      → (after_word name row other).said (words_left words absent) ≡ Ok x
  after-back [] absent x is =
      ap (λ (test : Bool). if test then row.said (words_left [] absent) else other.said (words_left [] absent)) (no-name name is_name)
      ∙ is_other.read_back (words_left [] absent) x is
  after-back (word ∷ words) absent x is =
      test-back (bytes_eq word.text name) (row.said (words_left words absent)) (other.said (words_left (word ∷ words) absent)) x
      (row.Spells x (texts_of words)) (other.Spells x (word.text ∷ texts_of words))
      (is_row.read_back (words_left words absent) x) (is_other.read_back (words_left (word ∷ words) absent) x) is

  after-words : (words : List (List ℕ)) (x : A) → AreAfter name row.Spells other.Spells x words → list_all is_whole_word words ≡ true
  after-words [] x is = refl
  after-words (word ∷ words) x is =
      test-words (bytes_eq word name) (list_all is_whole_word (word ∷ words)) (row.Spells x words) (other.Spells x (word ∷ words))
      (λ equal spells. and-true (is_whole_word word) (list_all is_whole_word words) (ap is_whole_word ((bytes_decides word name).0 equal) ∙ is_name)
      (is_row.are_words words x spells))
      (is_other.are_words (word ∷ words) x) is

  pub after-is : IsExactRow (after_word name row other)
  after-is = record {
    first = λ left. test-fault (bytes_eq (first_word left).text name) (row.said (later left)) (other.said left) (row.fault (later left)) (other.fault left)
        (is_row.first (later left)) (is_other.first left);
    spelled = λ left x is. after-spelled left.words left.absent x is;
    read_back = λ left x is. after-back left.words left.absent x is;
    are_words = after-words;
  }

-- a row that is judged
allowed-fault : {A : Type 0} (column : ℕ) (x : A) (cause : Option LineWhy) → fault_in (allowed column x cause) ≡ cause_at column cause
allowed-fault column x None = refl
allowed-fault column x (Some cause) = refl

allowed-ok : {A : Type 0} (column : ℕ) (x y : A) (cause : Option LineWhy) → allowed column x cause ≡ Ok y → (x ≡ y) × (cause ≡ None)
allowed-ok column x y None is = (cc is, refl)
allowed-ok column x y (Some cause) is = cc is

module _ {A : Type 0} (place : ℕ) (judge : A → Option LineWhy) (row : WordRow A) (is_row : IsExactRow row) where
  checked-by : (column : ℕ) (r : Result A LineFault) (x : A) → r ≡ Ok x → fault_in (allowed column x (judge x)) ≡ refused_at column judge r
  checked-by column r x is = allowed-fault column x (judge x) ∙ ap (refused_at column judge) (sym is)

  checked-first : (left : WordsLeft) → fault_in ((judged_row place judge row).said left) ≡ (judged_row place judge row).fault left
  checked-first left =
      bind-fault (row.said left) (λ x. allowed (word_at place left).column x (judge x)) (row.fault left)
      (refused_at (word_at place left).column judge (row.said left))
      (is_row.first left) (λ x read. checked-by (word_at place left).column (row.said left) x read)

  checked-spelled : (left : WordsLeft) (x : A) → (judged_row place judge row).said left ≡ Ok x → row.Spells x (texts_of left.words) × (judge x ≡ None)
  checked-spelled left x is =
      let found = bind-ok (row.said left) (λ y. allowed (word_at place left).column y (judge y)) x is in
      let both = allowed-ok (word_at place left).column found.0 x (judge found.0) found.2 in
      (subst (λ (y : A). row.Spells y (texts_of left.words)) both.0 (is_row.spelled left found.0 found.1), ap judge (sym both.0) ∙ both.1)

  checked-back : (left : WordsLeft) (x : A) → row.Spells x (texts_of left.words) × (judge x ≡ None) → (judged_row place judge row).said left ≡ Ok x
  checked-back left x is =
      bind-read (row.said left) (λ y. allowed (word_at place left).column y (judge y)) x (is_row.read_back left x is.0)
      ∙ ap (allowed (word_at place left).column x) is.1

  pub checked-is : IsExactRow (judged_row place judge row)
  checked-is = record {
    first = checked-first;
    spelled = checked-spelled;
    read_back = checked-back;
    are_words = λ words x is. is_row.are_words words x is.0;
  }

-- a word that may be left out
flag-flaw-by : (test : Bool)
    → flaw_in {A = Unit {0}} (if test then Ok tt else Err (flaw_after 0 why.UnknownWord)) ≡ (if test then None else Some (flaw_after 0 why.UnknownWord))
flag-flaw-by true = refl
flag-flaw-by false = refl

flag-flaws : (name text : List ℕ) → flaw_in (flag_read name text) ≡ flag_flaw name text
flag-flaws name text = flag-flaw-by (bytes_eq text name)

flag-first : (name : List ℕ) (words : List WordAt) → fault_in (flag_said name words) ≡ flag_fault name words
flag-first name [] = refl
flag-first name (word ∷ words) =
    bind-fault {B = Bool} (word_read (flag_read name) word) (λ is. none_left words >>= (λ over. Ok true)) (judged_word (flag_flaw name) word)
    (nothing_more words)
    (word-first (flag_read name) (flag_flaw name) (flag-flaws name) word)
    (λ x read. last-fault {B = Bool} (none_left words) (λ over. true) ∙ end-first words)

flag-named-by : (text name : List ℕ) (x : Unit {0}) (test : Bool) → (test ≡ true → text ≡ name)
    → (if test then Ok tt else Err (flaw_after 0 why.UnknownWord)) ≡ Ok x → text ≡ name
flag-named-by text name x true means is = means refl
flag-named-by text name x false means is = cc is

flag-named : (text name : List ℕ) (x : Unit {0}) → flag_read name text ≡ Ok x → text ≡ name
flag-named text name x is = flag-named-by text name x (bytes_eq text name) (λ equal. (bytes_decides text name).0 equal) is

-- the words of a flag that is set, or is not
abbrev pub flag_words : List ℕ → Bool → List (List ℕ)
flag_words name flag = if flag then name ∷ [] else []

flag-spelled : (name : List ℕ) (words : List WordAt) (flag : Bool) → flag_said name words ≡ Ok flag → texts_of words ≡ flag_words name flag
flag-spelled name [] flag is = let equal : false ≡ flag = cc is in ap (flag_words name) equal
flag-spelled name (word ∷ words) flag is =
    let first = bind-ok {B = Bool} (word_read (flag_read name) word) (λ found. none_left words >>= (λ over. Ok true)) flag is in
    let rest = bind-ok {B = Bool} (none_left words) (λ over. Ok true) flag first.2 in
    let equal : true ≡ flag = cc rest.2 in
    let text = flag-named word.text name first.0 (word-ok (flag_read name) word first.0 first.1).read in
    ap (λ (t : List ℕ). t ∷ texts_of words) text ∙ ap (λ (ts : List (List ℕ)). name ∷ ts) (end-spelled words rest.0 rest.1) ∙ ap (flag_words name) equal

-- what a flag's word is read as
abbrev flag_by : Bool → Result (Unit {0}) Flaw
flag_by test = if test then Ok tt else Err (flaw_after 0 why.UnknownWord)

flag-reads-by : (test : Bool) → test ≡ true → flag_by test ≡ Ok tt
flag-reads-by true is = refl
flag-reads-by false is = cc is

flag-reads : (name text : List ℕ) → text ≡ name → flag_read name text ≡ Ok tt
flag-reads name text is = flag-reads-by (bytes_eq text name) ((bytes_decides text name).1 is)

flag-back : (name : List ℕ) → is_whole_word name ≡ true → (words : List WordAt) (flag : Bool) → texts_of words ≡ flag_words name flag
    → flag_said name words ≡ Ok flag
flag-back name is_name [] true is = cc is
flag-back name is_name [] false is = refl
flag-back name is_name (word ∷ words) false is = cc is
flag-back name is_name (word ∷ words) true is =
    let text : word.text ≡ name = cc is in
    let over : texts_of words ≡ [] = cc is in
    let some = word-some word.text (ap is_whole_word text ∙ is_name) in
    bind-read {B = Bool} (word_read (flag_read name) word) (λ found. none_left words >>= (λ over. Ok true)) tt
    (word-back (flag_read name) word tt some (flag-reads name word.text text))
    ∙ bind-read {B = Bool} (none_left words) (λ over. Ok true) tt (end-back words tt over)

flag-are-words : (name : List ℕ) → is_whole_word name ≡ true → (words : List (List ℕ)) (flag : Bool) → words ≡ flag_words name flag
    → list_all is_whole_word words ≡ true
flag-are-words name is_name words true is = ap (list_all is_whole_word) is ∙ and-true (is_whole_word name) true is_name refl
flag-are-words name is_name words false is = ap (list_all is_whole_word) is

pub flag-is : (name : List ℕ) → is_whole_word name ≡ true → IsExactRow (flag_row name)
flag-is name is_name = record {
  first = λ left. flag-first name left.words;
  spelled = λ left flag is. flag-spelled name left.words flag is;
  read_back = λ left flag is. flag-back name is_name left.words flag is;
  are_words = flag-are-words name is_name;
}
