-- Tickets as numbers: numbers are in the order of their tickets, and so are lists of them.
use Rattle.std.proofs.Common.{◌≡◌, refl, sym, ap, ◌∙◌, subst, ℕ, zero, suc, ◌+◌, ◌-◌, ◌*◌, ◌/◌, ◌%◌, ◌^◌, ◌≤◌, ◌<◌, nat_lt, Bool, true, false, cond, not, ◌&&◌, T, List, [], ◌∷◌, length, get_or, inl, inr, Ordering, Less, Equal, Greater, is_eq, is_lt, nat_cmp, arith}
use Rattle.std.proofs.Math.ListN.{get_or-map as mapped}
use Rattle.std.proofs.lemmas.Bool.{cases_lt}
use Rattle.std.proofs.lemmas.Cmp.{ranked}
use Rattle.std.proofs.lemmas.Bool.Decides.{nat_tests}
use Rattle.std.proofs.lemmas.List.{get_or-map, get_or_default, length-map}
use Rattle.std.proofs.lemmas.Nat.{from_be_bytes-to_be_bytes_4}
use Rattle.std.specs.BTreeSet.{insert_key}
use Rattle.std.specs.Cmp.{nat_cmp_is, ranks}
use Rattle.std.specs.FinMap.Entries.{below_all, is_sorted}
use Rattle.std.specs.Int.{from_be_bytes, to_be_bytes, w32}
use Rattle.std.specs.List.{filter}
use Rattle.std.specs.List.Sorted.{IsPartitionPoint, IsPartitionedBy}
use Rattle.std.specs.Ordering.{match_ordering, ordering_then}
use Rattle.dccp_listener.proofs.Numbers.{Ranks, in_order}
use Rattle.dccp_listener.specs.Numbers.{AreDigits}
use Rattle.dccp_listener.specs.Peers.{peer_cmp}
use Rattle.server_peers.proofs.Ordered.{first_of, less_at, rest_of}
use Rattle.server_peers.specs.Queues.{AreTicketsInOrder, BeginsAt, paired, ticket_at, ticket_cmp, tickets_at, without}
use Rattle.server_peers.specs.declared.queue.Ticket.{Ticket}

peers-apart : (o s : Ordering) (a b : ℕ) → Ranks o (a / 2 ^ 48) (b / 2 ^ 48) → Ranks s (a % 2 ^ 48) (b % 2 ^ 48) → Ranks (ordering_then o s) a b
peers-apart Less s a b first then = omega (arith, first)
peers-apart Equal Less a b first then = omega (arith, first, then)
peers-apart Equal Equal a b first then = omega (arith, first, then)
peers-apart Equal Greater a b first then = omega (arith, first, then)
peers-apart Greater s a b first then = omega (arith, first)

times-apart : (o s : Ordering) (a b : ℕ) → Ranks o (a / 2 ^ 64) (b / 2 ^ 64) → Ranks s (a % 2 ^ 64) (b % 2 ^ 64) → Ranks (ordering_then o s) a b
times-apart Less s a b first then = omega (arith, first)
times-apart Equal Less a b first then = omega (arith, first, then)
times-apart Equal Equal a b first then = omega (arith, first, then)
times-apart Equal Greater a b first then = omega (arith, first, then)
times-apart Greater s a b first then = omega (arith, first)

in-turn : (a b c : Ordering) → ordering_then (ordering_then a b) c ≡ ordering_then a (ordering_then b c)
in-turn Less b c = refl
in-turn Equal b c = refl
in-turn Greater b c = refl

byte-at : (a b c d i : ℕ) → get_or (a % 256 ∷ b % 256 ∷ c % 256 ∷ d % 256 ∷ []) i 0 < 256
byte-at a b c d zero = omega arith
byte-at a b c d (suc zero) = omega arith
byte-at a b c d (suc (suc zero)) = omega arith
byte-at a b c d (suc (suc (suc zero))) = omega arith
byte-at a b c d (suc (suc (suc (suc i)))) = omega arith

digits : (n : ℕ) → AreDigits (to_be_bytes w32 (n / 65536)) (n % 65536)
digits n = record { long = refl; bytes = λ i. byte-at _ _ _ _ i; fits = omega arith }

spelt : (n : ℕ) → n < 2 ^ 48 → n ≡ from_be_bytes w32 (to_be_bytes w32 (n / 65536)) * 65536 + n % 65536
spelt n small = omega (arith, from_be_bytes-to_be_bytes_4 (n / 65536) (omega (arith, small)))

places : (m n : ℕ) → m < 2 ^ 48 → n < 2 ^ 48
    → nat_cmp m n ≡ peer_cmp (record { address = to_be_bytes w32 (m / 65536); port = m % 65536 }) (record { address = to_be_bytes w32 (n / 65536); port = n % 65536 })
places m n low high = in_order _ _ _ _ m n (digits m) (digits n) (spelt m low) (spelt n high)

pub by_number : (a b : ℕ) → nat_cmp a b ≡ ticket_cmp (ticket_at a) (ticket_at b)
by_number a b =
    sym (nat_cmp_is a b _ (peers-apart _ _ a b (ranks (a / 2 ^ 48) (b / 2 ^ 48)) (ranks (a % 2 ^ 48) (b % 2 ^ 48))))
    ∙ ap (λ (o : Ordering). ordering_then o (nat_cmp (a % 2 ^ 48) (b % 2 ^ 48)))
    (sym (nat_cmp_is _ _ _ (times-apart _ _ (a / 2 ^ 48) (b / 2 ^ 48) (ranks (a / 2 ^ 48 / 2 ^ 64) (b / 2 ^ 48 / 2 ^ 64)) (ranks (a / 2 ^ 48 % 2 ^ 64) (b / 2 ^ 48 % 2 ^ 64)))))
    ∙ ap (λ (o : Ordering). ordering_then (ordering_then (nat_cmp (a / 2 ^ 48 / 2 ^ 64) (b / 2 ^ 48 / 2 ^ 64)) (nat_cmp (a / 2 ^ 48 % 2 ^ 64) (b / 2 ^ 48 % 2 ^ 64))) o)
    (places (a % 2 ^ 48) (b % 2 ^ 48) (omega arith) (omega arith))
    ∙ in-turn (nat_cmp (a / 2 ^ 48 / 2 ^ 64) (b / 2 ^ 48 / 2 ^ 64)) (nat_cmp (a / 2 ^ 48 % 2 ^ 64) (b / 2 ^ 48 % 2 ^ 64)) _

both_of : (a b : Bool) → T a → T b → T (a && b)
both_of true b p q = q
both_of false b p q = absurd p

-- numbers rise as their tickets do
below-as : (n : ℕ) (ns : List ℕ) → T (below_all ticket_cmp (ticket_at n) (paired (tickets_at ns))) → T (below_all nat_cmp n (paired ns))
below-as n [] all = tt
below-as n (m ∷ ns) all =
    subst T (ap (λ (o : Ordering). is_lt o && below_all nat_cmp n (paired ns)) (sym (by_number n m)))
    (both_of (is_lt (ticket_cmp (ticket_at n) (ticket_at m))) (below_all nat_cmp n (paired ns)) (first_of _ _ all) (below-as n ns (rest_of (is_lt (ticket_cmp (ticket_at n) (ticket_at m))) _ all)))

pub numbers_rise : (ns : List ℕ) → AreTicketsInOrder (tickets_at ns) → T (is_sorted nat_cmp (paired ns))
numbers_rise [] rise = tt
numbers_rise (n ∷ ns) rise =
    both_of (below_all nat_cmp n (paired ns)) (is_sorted nat_cmp (paired ns)) (below-as n ns (first_of _ _ rise))
    (numbers_rise ns (rest_of (below_all ticket_cmp (ticket_at n) (paired (tickets_at ns))) _ rise))

-- a number is put where its ticket is
put-by : (n m : ℕ) (ns : List ℕ) (o : Ordering) → tickets_at (insert_key nat_cmp ns n) ≡ insert_key ticket_cmp (tickets_at ns) (ticket_at n)
    → tickets_at (match_ordering o (n ∷ m ∷ ns) (m ∷ ns) (m ∷ insert_key nat_cmp ns n))
    ≡ match_ordering o (ticket_at n ∷ tickets_at (m ∷ ns)) (tickets_at (m ∷ ns)) (ticket_at m ∷ insert_key ticket_cmp (tickets_at ns) (ticket_at n))
put-by n m ns Less later = refl
put-by n m ns Equal later = refl
put-by n m ns Greater later = ap (λ (l : List Ticket). ticket_at m ∷ l) later

pub put_as : (n : ℕ) (ns : List ℕ) → tickets_at (insert_key nat_cmp ns n) ≡ insert_key ticket_cmp (tickets_at ns) (ticket_at n)
put_as n [] = refl
put_as n (m ∷ ns) =
    put-by n m ns (nat_cmp n m) (put_as n ns)
    ∙ ap (λ (o : Ordering). match_ordering o (ticket_at n ∷ tickets_at (m ∷ ns)) (tickets_at (m ∷ ns)) (ticket_at m ∷ insert_key ticket_cmp (tickets_at ns) (ticket_at n))) (by_number n m)

-- and is left out where it is
left-by : (n m : ℕ) (ns : List ℕ) (b : Bool) → tickets_at (filter (λ x. not (is_eq (nat_cmp n x))) ns) ≡ without (ticket_at n) (tickets_at ns)
    → tickets_at (cond b (m ∷ filter (λ x. not (is_eq (nat_cmp n x))) ns) (filter (λ x. not (is_eq (nat_cmp n x))) ns))
    ≡ cond b (ticket_at m ∷ without (ticket_at n) (tickets_at ns)) (without (ticket_at n) (tickets_at ns))
left-by n m ns true later = ap (λ (l : List Ticket). ticket_at m ∷ l) later
left-by n m ns false later = later

pub left_as : (n : ℕ) (ns : List ℕ) → tickets_at (filter (λ x. not (is_eq (nat_cmp n x))) ns) ≡ without (ticket_at n) (tickets_at ns)
left_as n [] = refl
left_as n (m ∷ ns) =
    left-by n m ns (not (is_eq (nat_cmp n m))) (left_as n ns)
    ∙ ap (λ (o : Ordering). cond (not (is_eq o)) (ticket_at m ∷ without (ticket_at n) (tickets_at ns)) (without (ticket_at n) (tickets_at ns))) (by_number n m)

-- the tickets of a class begin where their numbers do
low-class : (class least n : ℕ) → least ≡ class * 2 ^ 64 * 2 ^ 48 → nat_lt n least ≡ true → nat_lt (n / 2 ^ 48 / 2 ^ 64) class ≡ true
low-class class least n is low = grind (arith, nat_tests, is, low)

high-class : (class least n : ℕ) → least ≡ class * 2 ^ 64 * 2 ^ 48 → nat_lt n least ≡ false → nat_lt (n / 2 ^ 48 / 2 ^ 64) class ≡ false
high-class class least n is high = grind (arith, nat_tests, is, high)

pub first_class : (class least : ℕ) (ns : List ℕ) (d : ℕ) → least ≡ class * 2 ^ 64 * 2 ^ 48 → least ≤ get_or ns 0 d → class ≤ (get_or (tickets_at ns) 0 (ticket_at d)).class
first_class class least ns d is le = subst (λ (it : Ticket). class ≤ it.class) (sym (mapped ticket_at ns 0 d)) (omega (arith, is, le))

pub last_class : (class least : ℕ) (ns : List ℕ) (d : ℕ) → least ≡ class * 2 ^ 64 * 2 ^ 48 → get_or ns (length ns - 1) d < least
    → (get_or (tickets_at ns) (length (tickets_at ns) - 1) (ticket_at d)).class < class
last_class class least ns d is less =
    subst (λ (it : Ticket). it.class < class)
    (sym (ap (λ (n : ℕ). get_or (tickets_at ns) (n - 1) (ticket_at d)) (length-map ns ticket_at) ∙ mapped ticket_at ns (length ns - 1) d)) (omega (arith, is, less))

pub begins_as : (class least : ℕ) (ns : List ℕ) (i : ℕ) → least ≡ class * 2 ^ 64 * 2 ^ 48 → i ≤ length ns
    → IsPartitionPoint (λ n. nat_lt n least ≡ true) (λ n. nat_lt n least ≡ false) ns i → BeginsAt class (tickets_at ns) i
begins_as class least ns i is within parted = (
  (λ k d from lt.
      subst (λ (it : Ticket). nat_lt it.class class ≡ true) (sym (get_or-map ticket_at ns k 0 d (omega (arith, lt, within))))
      (low-class class least (get_or ns k 0) is (parted.0 k 0 from lt))),
  (λ k d from lt.
      let past : k < length ns = omega (arith, lt, length-map ns ticket_at) in
      subst (λ (it : Ticket). nat_lt it.class class ≡ false) (sym (get_or-map ticket_at ns k 0 d past)) (high-class class least (get_or ns k 0) is (parted.1 k 0 from past))),
)

-- numbers below one come first
pub parted_under : (least : ℕ) (ns : List ℕ) → AreTicketsInOrder (tickets_at ns) → IsPartitionedBy (λ (n : ℕ). nat_lt n least) ns
parted_under least ns ordered i j d le lt is = elim (cases_lt i j) [
  | inl before ↦
      grind (arith, nat_tests, is, ranked (get_or ns i d) (get_or ns j d) Less (sym (less_at nat_cmp ns i j d (numbers_rise ns ordered) before lt)))
  | inr at_least ↦ subst (λ (n : ℕ). nat_lt (get_or ns n d) least ≡ true) {x = j} (omega (arith, le, at_least)) is
]

-- all numbers come before one that is above the last
pub all_before : (n last : ℕ) (ns : List ℕ) → AreTicketsInOrder (tickets_at ns) → last ≡ get_or ns (length ns - 1) last → last < n
    → (k d : ℕ) → k < length ns → nat_cmp (get_or ns k d) n ≡ Less
all_before n last ns ordered is less k d lt =
    let end : get_or ns (length ns - 1) d ≡ last = get_or_default ns (length ns - 1) d last (omega (arith, lt)) ∙ sym is in
    sym
    (nat_cmp_is (get_or ns k d) n Less (elim (cases_lt k (length ns - 1)) [
      | inl before ↦
          omega (
            arith,
            less,
            end,
            ranked (get_or ns k d) (get_or ns (length ns - 1) d) Less (sym (less_at nat_cmp ns k (length ns - 1) d (numbers_rise ns ordered) before (omega (arith, lt)))),
          )
      | inr from ↦ omega (arith, less, end, ap (λ (i : ℕ). get_or ns i d) {x = k} {y = length ns - 1} (omega (arith, from, lt)))
    ]))
