-- What a form has to prove if no memory was left to say why its input is refused.
use Rattle.std.proofs.Common.{arith, refl, sym, ap, ◌∙◌, subst, inl, inr, ℕ, Bool, List, length, Option}
use Rattle.std.proofs.lemmas.List.{take_all}
use Rattle.std.specs.Io.KnownBytes.{append_known}
use Rattle.tool_text.specs.Ends.{Answers, EndsForCause, HasBegun, HasTaken, IsAnswered, StopsWithin}
use Rattle.tool_text.specs.declared.output.status.JobEnd.{JobEnd}
use Rattle.tool_text.specs.declared.output.status.JobEnd.TheVariants as ended
use Rattle.tool_text.proofs.Ending.{answers-early}
use Rattle.bridge_command.specs.Complaints.{EndsAs}

-- a whole text was begun
begun-whole : (before after : Option (List ℕ)) (text : List ℕ) → HasTaken before after text → HasBegun before after text
begun-whole before after text whole =
    (length text, whole ∙ ap (append_known before) (sym (take_all (length text) text (omega arith))))

-- however a job ended, a prefix of its text was written
begun-so : (end : JobEnd) (text : List ℕ) (refused : Bool) (left before after : Option (List ℕ)) → Answers text refused end left before after
    → HasBegun before after text
begun-so ended.Done text refused left before after answers = begun-whole before after text (answers.whole (inl refl))
begun-so ended.Input text refused left before after answers = begun-whole before after text (answers.whole (inr refl))
begun-so ended.Read text refused left before after answers = answers.front (inl refl)
begun-so ended.Write text refused left before after answers = answers.front (inr (inl refl))
begun-so ended.Memory text refused left before after answers = answers.front (inr (inr refl))

-- a call that ends as its form did, or for lack of memory, has the contract of the form
pub answers-as : (end result : JobEnd) (text : List ℕ) (refused : Bool) (left before after : Option (List ℕ)) → EndsAs end result
    → Answers text refused end left before after → Answers text refused result left before after
answers-as end result text refused left before after (inl is) answers = subst (λ (r : JobEnd). Answers text refused r left before after) (sym is) answers
answers-as end result text refused left before after (inr is) answers =
    subst (λ (r : JobEnd). Answers text refused r left before after) (sym is)
    (answers-early text refused ended.Memory left before after (inr (inr refl)) (begun-so end text refused left before after answers))

pub stops-as : (end result : JobEnd) (most accepted : ℕ) (bytes : List ℕ) (left : Option (List ℕ)) → EndsAs end result
    → StopsWithin most accepted bytes end left → StopsWithin most accepted bytes result left
stops-as end result most accepted bytes left (inl is) stops = λ input. stops (sym is ∙ input)
stops-as end result most accepted bytes left (inr is) stops = λ input. cc (is, input)

pub ends-as : (end result : JobEnd) (source sink : Type 0) → EndsAs end result → EndsForCause end source sink → EndsForCause result source sink
ends-as end result source sink (inl is) ends = subst (λ (r : JobEnd). EndsForCause r source sink) (sym is) ends
ends-as end result source sink (inr is) ends = record {
  read = λ read. cc (is, read);
  write = λ write. cc (is, write);
  complete = λ no fine. inr is;
}

-- with an answer it ended as its form did
pub answered-as : (end result : JobEnd) → EndsAs end result → IsAnswered result → IsAnswered end
answered-as end result (inl is) answered = subst IsAnswered is answered
answered-as end result (inr is) (inl done) = cc (is, done)
answered-as end result (inr is) (inr input) = cc (is, input)
