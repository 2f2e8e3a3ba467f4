-- Tickets of one class stand together, and the classes rise.
use Rattle.std.proofs.Common.{◌≡◌, refl, sym, ap, ◌∙◌, subst, ℕ, zero, suc, ◌+◌, ◌-◌, ◌≤◌, ◌<◌, ◌==◌, nat_lt, Bool, true, false, cond, if◌then◌else◌, List, [], ◌∷◌, length, get_or, slice_get, inl, inr, Option, Some, None, Ordering, Less, Equal, Greater, nat_cmp, arith}
use Rattle.std.proofs.lemmas.Bool.{cases_lt}
use Rattle.std.proofs.lemmas.Bool.Decides.{nat_tests}
use Rattle.std.proofs.lemmas.Cmp.{ranked}
use Rattle.std.proofs.lemmas.List.{get_or_default}
use Rattle.std.specs.List.{filter}
use Rattle.std.specs.List.Sorted.{IsPartitionedBy}
use Rattle.std.specs.Ordering.{ordering_then}
use Rattle.dccp_listener.specs.Peers.{peer_cmp}
use Rattle.server_peers.specs.Queues.{AreTicketsInOrder, BeginsAt, count_in, first_in, of_class, ticket_cmp}
use Rattle.server_peers.specs.declared.queue.Ticket.{Ticket}
use Rattle.server_peers.proofs.Ordered.{less_at}

pub no_more_than : (a b : ℕ) (z r : Ordering) → nat_cmp a b ≡ r → ordering_then r z ≡ Less → a ≤ b
no_more_than a b z Less is less = omega (arith, ranked a b Less (sym is))
no_more_than a b z Equal is less = omega (arith, ranked a b Equal (sym is))
no_more_than a b z Greater is less = cc less

module _ (queue : List Ticket) (ordered : AreTicketsInOrder queue) where
  rise : (i j : ℕ) (d : Ticket) → i ≤ j → j < length queue → (get_or queue i d).class ≤ (get_or queue j d).class
  rise i j d le lt = elim (cases_lt i j) [
    | inl before ↦
        no_more_than (get_or queue i d).class (get_or queue j d).class
        (ordering_then (nat_cmp (get_or queue i d).time (get_or queue j d).time) (peer_cmp (get_or queue i d).peer (get_or queue j d).peer))
        (nat_cmp (get_or queue i d).class (get_or queue j d).class) refl (less_at ticket_cmp queue i j d ordered before lt)
    | inr at_least ↦ subst (λ (n : ℕ). (get_or queue i d).class ≤ (get_or queue n d).class) {x = i} (omega (arith, le, at_least)) (omega arith)
  ]

  pub parted_below : (class : ℕ) → IsPartitionedBy (λ (it : Ticket). nat_lt it.class class) queue
  parted_below class i j d le lt is = grind (arith, nat_tests, rise i j d le lt, is)

  -- the classes from this on begin with the first ticket, or after the last one
  pub begins_first : (class : ℕ) (d : Ticket) → class ≤ (get_or queue 0 d).class → BeginsAt class queue 0
  begins_first class d le = (
    (λ k e from lt. absurd (omega (arith, lt))),
    (λ k e from lt. grind (arith, nat_tests, le, rise 0 k e (omega arith) lt, get_or_default queue 0 d e (omega (arith, lt)))),
  )

  pub begins_past : (class : ℕ) (d : Ticket) → (get_or queue (length queue - 1) d).class < class → BeginsAt class queue (length queue)
  begins_past class d less = (
    (λ k e from lt. grind (arith, nat_tests, less, rise k (length queue - 1) e (omega (arith, lt)) (omega (arith, lt)), get_or_default queue (length queue - 1) d e (omega (arith, lt)))),
    (λ k e from lt. absurd (omega (arith, from, lt))),
  )

-- the ticket at a place, if it is of a class
abbrev pub if_of_class : ℕ → Option Ticket → Option Ticket
if_of_class class None = None
if_of_class class (Some it) = of_class class it

none-by : (class : ℕ) (one : Ticket) (rest : List Ticket) (here : Bool) → (one.class == class) ≡ here → class < one.class → first_in class rest ≡ None
    → (if here then Some one else first_in class rest) ≡ None
none-by class one rest true is above later = absurd (grind (arith, nat_tests, is, above))
none-by class one rest false is above later = later

none-above : (class : ℕ) (queue : List Ticket) → ((k : ℕ) (d : Ticket) → k < length queue → class < (get_or queue k d).class) → first_in class queue ≡ None
none-above class [] above = refl
none-above class (one ∷ rest) above =
    none-by class one rest (one.class == class) refl (above 0 one (omega arith)) (none-above class rest (λ k d lt. above (suc k) d (omega (arith, lt))))

head-by : (class : ℕ) (one : Ticket) (rest : List Ticket) (here : Bool) → (one.class == class) ≡ here → nat_lt one.class class ≡ false
    → ((k : ℕ) (d : Ticket) → k < length rest → one.class ≤ (get_or rest k d).class)
    → (if here then Some one else first_in class rest) ≡ (if here then Some one else None)
head-by class one rest true is from rises = refl
head-by class one rest false is from rises =
    none-above class rest (λ k d lt. omega (arith, rises k d lt, more))
  where
    more : class < one.class
    more = grind (arith, nat_tests, is, from)

skip-by : (class : ℕ) (one : Ticket) (rest : List Ticket) (here : Bool) → (one.class == class) ≡ here → nat_lt one.class class ≡ true
    → (if here then Some one else first_in class rest) ≡ first_in class rest
skip-by class one rest true is before = absurd (grind (arith, nat_tests, is, before))
skip-by class one rest false is before = refl

pub first_here : (class : ℕ) (queue : List Ticket) (i : ℕ) → ((i j : ℕ) (d : Ticket) → i ≤ j → j < length queue → (get_or queue i d).class ≤ (get_or queue j d).class)
    → BeginsAt class queue i → first_in class queue ≡ if_of_class class (slice_get queue i)
first_here class [] zero rises parted = refl
first_here class [] (suc i) rises parted = refl
first_here class (one ∷ rest) zero rises parted =
    head-by class one rest (one.class == class) refl (parted.1 0 one (omega arith) (omega arith))
    (λ k d lt. rises 0 (suc k) d (omega arith) (omega (arith, lt)))
first_here class (one ∷ rest) (suc i) rises parted =
    skip-by class one rest (one.class == class) refl (parted.0 0 one (omega arith) (omega arith))
    ∙ first_here class rest i (λ a b d le lt. rises (suc a) (suc b) d (omega (arith, le)) (omega (arith, lt))) (
      (λ k d from lt. parted.0 (suc k) d (omega arith) (omega (arith, lt))),
      (λ k d from lt. parted.1 (suc k) d (omega (arith, from)) (omega (arith, lt))),
    )

-- the ticket at the front of a class
pub first_at : (class : ℕ) (queue : List Ticket) (i : ℕ) → AreTicketsInOrder queue → BeginsAt class queue i → first_in class queue ≡ if_of_class class (slice_get queue i)
first_at class queue i ordered parted = first_here class queue i (rise queue ordered) parted

count-by : (class n : ℕ) (one : Ticket) (rest : List Ticket) (here wanted : Bool) → (one.class == class) ≡ here → here ≡ wanted → count_in class rest ≡ n
    → length (cond here (one ∷ filter (λ it. it.class == class) rest) (filter (λ it. it.class == class) rest)) ≡ cond wanted (suc n) n
count-by class n one rest true true is same later = ap suc later
count-by class n one rest false false is same later = later
count-by class n one rest true false is same later = cc same
count-by class n one rest false true is same later = cc same

-- how many are between the front of a class and its back
pub count_between : (class : ℕ) (queue : List Ticket) (i j : ℕ) → j ≤ length queue → BeginsAt class queue i → BeginsAt (class + 1) queue j → count_in class queue ≡ j - i
count_between class [] i j within front back = omega (arith, within)
count_between class (one ∷ rest) zero zero within front back =
    count-by class 0 one rest (one.class == class) false refl (grind (arith, nat_tests, back.1 0 one (omega arith) (omega arith)))
    (count_between class rest zero zero (omega arith)
    ((λ k d from lt. absurd (omega (arith, lt))), (λ k d from lt. front.1 (suc k) d (omega arith) (omega (arith, lt))))
    ((λ k d from lt. absurd (omega (arith, lt))), (λ k d from lt. back.1 (suc k) d (omega arith) (omega (arith, lt)))))
count_between class (one ∷ rest) zero (suc j) within front back =
    count-by class (j - 0) one rest (one.class == class) true refl
    (grind (arith, nat_tests, front.1 0 one (omega arith) (omega arith), back.0 0 one (omega arith) (omega arith)))
    (count_between class rest zero j (omega (arith, within))
    ((λ k d from lt. absurd (omega (arith, lt))), (λ k d from lt. front.1 (suc k) d (omega arith) (omega (arith, lt))))
    ((λ k d from lt. back.0 (suc k) d (omega arith) (omega (arith, lt))), (λ k d from lt. back.1 (suc k) d (omega (arith, from)) (omega (arith, lt)))))
    ∙ omega arith
count_between class (one ∷ rest) (suc i) zero within front back =
    absurd (grind (arith, nat_tests, front.0 0 one (omega arith) (omega arith), back.1 0 one (omega arith) (omega arith)))
count_between class (one ∷ rest) (suc i) (suc j) within front back =
    count-by class (j - i) one rest (one.class == class) false refl (grind (arith, nat_tests, front.0 0 one (omega arith) (omega arith)))
    (count_between class rest i j (omega (arith, within))
    ((λ k d from lt. front.0 (suc k) d (omega arith) (omega (arith, lt))), (λ k d from lt. front.1 (suc k) d (omega (arith, from)) (omega (arith, lt))))
    ((λ k d from lt. back.0 (suc k) d (omega arith) (omega (arith, lt))), (λ k d from lt. back.1 (suc k) d (omega (arith, from)) (omega (arith, lt)))))
    ∙ omega arith
