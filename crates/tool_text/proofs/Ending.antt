-- How a call of the tool ends.
use Rattle.std.proofs.Common.{◌≡◌, refl, sym, ap, ◌∙◌, subst, inl, inr, ℕ, ◌+◌, List, [], ◌∷◌, ◌++◌, length, take, drop, Bool, Option, Some, None, Result, Ok, Err, OnOk, OnErr, append_assoc, arith}
use Rattle.std.proofs.lemmas.List.{append-nil, take_all, take_at, take-append-drop}
use Rattle.std.proofs.Math.Seq.{take-append-add}
use Rattle.std.specs.Prelude.{is_err, true, false}
use Rattle.std.specs.Io.KnownBytes.{append_known, prepend_known}
use Rattle.dccp_io.specs.Fronts.{TakesFront}
use Rattle.tool_text.specs.Ends.{HasTaken, HasBegun, IsWritten, IsAnswered, IsCutOff, Answers, EndsForCause, OnJobEnd, status_of}
use Rattle.tool_text.specs.declared.output.status.JobEnd.{JobEnd}
use Rattle.tool_text.specs.declared.output.status.JobEnd.TheVariants as ended
use Rattle.tool_text.specs.declared.output.status.Status.{Status}

-- a text was written whole, or a prefix of it
pub begun-by : {A E : Type 0} (result : Result A E) (before after : Option (List ℕ)) (text : List ℕ) → OnOk result (HasTaken before after text)
    → OnErr result (TakesFront before after text) → HasBegun before after text
begun-by (Ok _) before after text whole front =
    (length text, whole ∙ ap (append_known before) (sym (take_all (length text) text (omega arith))))
begun-by (Err _) before after text whole front = (front.0, front.2)

pub whole-by : {A E : Type 0} (result : Result A E) (before after : Option (List ℕ)) (text : List ℕ) (failed : Type 0)
    → OnOk result (HasTaken before after text)
    → OnErr result failed → (failed → ⊥) → HasTaken before after text
whole-by (Ok _) before after text failed whole cause fine = whole
whole-by (Err _) before after text failed whole cause fine = absurd (fine cause)

-- as far as the sink took it
pub written-by : {A E : Type 0} (result : Result A E) (before after : Option (List ℕ)) (text : List ℕ) (failed : Type 0)
    → OnOk result (HasTaken before after text)
    → OnErr result (TakesFront before after text) → OnErr result failed → IsWritten text before after failed
written-by result before after text failed whole front cause = record {
  front = begun-by result before after text whole front;
  whole = whole-by result before after text failed whole cause;
}

pub append-none : (known : Option (List ℕ)) → known ≡ append_known known []
append-none None = refl
append-none (Some bytes) = ap Some (sym (append-nil bytes))

pub append-twice : (known : Option (List ℕ)) (first more : List ℕ) → append_known (append_known known first) more ≡ append_known known (first ++ more)
append-twice None first more = refl
append-twice (Some bytes) first more = ap Some (append_assoc bytes first more)

-- a prefix of a front
pub begun-longer : (after later : Option (List ℕ)) (text more : List ℕ) → HasBegun after later text → HasBegun after later (text ++ more)
begun-longer after later text more (n, taken) =
    let front = take n text in
    let parts : text ++ more ≡ front ++ (drop n text ++ more) =
    ap (λ (whole : List ℕ). whole ++ more) (sym (take-append-drop n text)) ∙ append_assoc front (drop n text) more in
    let whole : take (length front) (text ++ more) ≡ front = ap (take (length front)) parts ∙ take_at front (drop n text ++ more) (length front) refl in
    (length front, taken ∙ ap (append_known after) (sym whole))

pub begun-after : (before after later : Option (List ℕ)) (written text : List ℕ) → after ≡ append_known before written → HasBegun after later text
    → HasBegun before later (written ++ text)
begun-after before after later written text first (n, taken) = (
  length written + n,
  taken ∙ ap (λ (known : Option (List ℕ)). append_known known (take n text)) first ∙ append-twice before written (take n text)
      ∙ ap (append_known before) (sym (take-append-add written text n)),
)

pub none-left : (pending : List ℕ) (known : Option (List ℕ)) → prepend_known pending known ≡ Some [] → known ≡ Some []
none-left pending None is = cc is
none-left [] (Some bytes) is = is
none-left (byte ∷ pending) (Some bytes) is = cc is

pub not-both : (result : JobEnd) → IsAnswered result → IsCutOff result → ⊥
not-both result (inl answered) (inl off) = cc (answered, off)
not-both result (inl answered) (inr (inl off)) = cc (answered, off)
not-both result (inl answered) (inr (inr off)) = cc (answered, off)
not-both result (inr answered) (inl off) = cc (answered, off)
not-both result (inr answered) (inr (inl off)) = cc (answered, off)
not-both result (inr answered) (inr (inr off)) = cc (answered, off)

-- the job ended early
pub answers-early : (text : List ℕ) (faulty : Bool) (result : JobEnd) (left before after : Option (List ℕ)) → IsCutOff result → HasBegun before after text
    → Answers text faulty result left before after
answers-early text faulty result left before after off begun = record {
  whole = λ answered. absurd (not-both result answered off);
  front = λ _. begun;
  done = λ is. absurd (not-both result (inl is) off);
  input = λ is. absurd (not-both result (inr is) off);
}

on-status-of : (end : JobEnd) (Holds : JobEnd → Type 0) → Holds end → OnJobEnd (status_of end) Holds
on-status-of ended.Done Holds holds = holds
on-status-of _ Holds holds = holds

-- what holds of how a job ended holds of its program's status
pub on-job-end : (end : JobEnd) (status : Status) (Holds : JobEnd → Type 0) → status ≡ status_of end → Holds end → OnJobEnd status Holds
on-job-end end status Holds is holds = subst (λ (s : Status). OnJobEnd s Holds) (sym is) (on-status-of end Holds holds)

-- a job that ends for a cause ends for whatever this shows
pub ends-for-more : (result : JobEnd) (source more sink : Type 0) → (source → more) → EndsForCause result source sink → EndsForCause result more sink
ends-for-more result source more sink shows ends = record {
  read = λ is. shows (ends.read is);
  write = ends.write;
  complete = λ no fine. ends.complete (λ failed. no (shows failed)) fine;
}

pub unwritten : (text : List ℕ) (before after : Option (List ℕ)) → after ≡ before → HasBegun before after text
unwritten text before after same = (0, same ∙ append-none before)

-- what a call answered, by the test on its answer
pub on-err : {A E : Type 0} (result : Result A E) (P : Type 0) → OnErr result P → is_err result ≡ true → P
on-err (Ok _) P holds is = cc is
on-err (Err _) P holds is = holds

pub on-ok : {A E : Type 0} (result : Result A E) (P : Type 0) → OnOk result P → is_err result ≡ false → P
on-ok (Ok _) P holds is = holds
on-ok (Err _) P holds is = cc is
