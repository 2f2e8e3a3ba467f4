-- No flow is passed over: the first ticket of a class is no later than any other of it.
use Rattle.std.proofs.Common.{◌≡◌, refl, sym, ap, ◌∙◌, subst, ℕ, ◌+◌, ◌-◌, ◌^◌, ◌≤◌, ◌<◌, ◌==◌, ◌||◌, nat_le, nat_lt, Bool, true, false, cond, if◌then◌else◌, T, List, [], ◌∷◌, Option, Some, None, is_some, Ordering, Less, Equal, is_eq, is_lt, nat_cmp, arith}
use Rattle.std.proofs.Math.Bool.{or-false}
use Rattle.std.proofs.lemmas.Bool.Decides.{nat_tests}
use Rattle.std.proofs.lemmas.Cmp.{nat_cmp_total, tied_itself}
use Rattle.std.specs.FinMap.Entries.{below_all, is_sorted}
use Rattle.std.specs.List.Sorted.{IsStrictlySortedBy}
use Rattle.std.specs.Map.{keys_of, lookup}
use Rattle.std.specs.Option.{option_map}
use Rattle.std.specs.Ordering.{ordering_then}
use Rattle.std.specs.Prelude.{unwrap_or}
use Rattle.dccp_listener.proofs.OnePeer.{equal_from}
use Rattle.dccp_listener.specs.Peers.{is_peer, peer_cmp}
use Rattle.dccp_listener.specs.declared.peer.Peer.{Peer}
use Rattle.dccp_uses.specs.Alarms.{has_run_out, time_left}
use Rattle.dccp_uses.specs.Upkeeps.{alarm_end, due_alarm, earlier, every_due, first_due, first_end, on_clock, upkeep_moment}
use Rattle.dccp_uses.specs.declared.alarms.Alarm.{Alarm}
use Rattle.dccp_uses.specs.declared.timed_end.Due.{Due}
use Rattle.dccp_server.specs.Due.{never}
use Rattle.dccp_server.specs.Ending.{EachMayStay, NoneIsPassedOver}
use Rattle.server_peers.specs.Lives.{Lives}
use Rattle.server_peers.specs.Queues.{AreTicketsInOrder, first_in, moment_if, paired, queue_of, ticket, ticket_cmp}
use Rattle.server_peers.specs.Rules.{class_of, first_given_up, holder, is_none_left, left_since, life_moment, limit_in, longest, or_else, over_in, since_in, stage_left}
use Rattle.dccp_server.specs.Serving.{Upkeeps, due_of_flow, due_of_ticket, first_due_flow, soonest, wait_until}
use Rattle.server_peers.specs.declared.life.Life.{Life}
use Rattle.server_peers.specs.declared.queue.Ticket.{Ticket}
use Rattle.server_peers.specs.declared.rules.Rules.{Rules}
use Rattle.server_peers.specs.declared.stage.Stage.{Stage}
use Rattle.server_peers.specs.declared.stage.Stage.TheVariants as stage
use Rattle.dccp_uses.specs.declared.upkeep.Upkeep.{Upkeep}
use Rattle.server_peers.proofs.Among.{none_from}
use Rattle.server_peers.proofs.Classes.{no_more_than}
use Rattle.server_peers.proofs.Ordered.{first_of, less_from, rest_of}
use Rattle.server_peers.proofs.Tickets.{exact_tickets, found, its_ticket, queue_ordered, stands, tickets_total}

-- the first ticket of a class comes first

below-by : (one q two : Ticket) (rest : List Ticket) (here : Bool) → is_eq (ticket_cmp q two) ≡ here → ticket_cmp one two ≡ Less
    → cond here (Some tt) (found q rest) ≡ Some tt → (found q rest ≡ Some tt → ticket_cmp one q ≡ Less) → ticket_cmp one q ≡ Less
below-by one q two rest true same less is later = ap (λ (t : Ticket). ticket_cmp one t) (exact_tickets q two (equal_from (ticket_cmp q two) same)) ∙ less
below-by one q two rest false same less is later = later is

below-found : (one q : Ticket) (queue : List Ticket) → T (below_all ticket_cmp one (paired queue)) → found q queue ≡ Some tt → ticket_cmp one q ≡ Less
below-found one q [] below is = cc is
below-found one q (two ∷ rest) below is =
    below-by one q two rest (is_eq (ticket_cmp q two)) refl
    (less_from (ticket_cmp one two) (first_of (is_lt (ticket_cmp one two)) (below_all ticket_cmp one (paired rest)) below)) is
    (below-found one q rest (rest_of (is_lt (ticket_cmp one two)) (below_all ticket_cmp one (paired rest)) below))

time-from : (a b : Ticket) → ticket_cmp a b ≡ Less → a.class ≡ b.class → a.time ≤ b.time
time-from a b less same =
    let equal : nat_cmp a.class b.class ≡ Equal = ap (λ (n : ℕ). nat_cmp a.class n) (sym same) ∙ tied_itself nat_cmp_total a.class in
    no_more_than a.time b.time (peer_cmp a.peer b.peer) (nat_cmp a.time b.time) refl
    (ap (λ (o : Ordering). ordering_then o (ordering_then (nat_cmp a.time b.time) (peer_cmp a.peer b.peer))) (sym equal) ∙ less)

same-number : (a b : ℕ) → (a == b) ≡ true → a ≡ b
same-number a b is = grind (arith, nat_tests, is)

two-numbers : (a b : ℕ) → (a == b) ≡ false → a ≡ b → ⊥
two-numbers a b is same = grind (arith, nat_tests, is, same)

abbrev IsNoLater : Ticket → Option Ticket → Type 0
IsNoLater q None = ⊥
IsNoLater q (Some t) = t.time ≤ q.time

no-later-by : (q one : Ticket) (rest : List Ticket) (class here : Bool) → (one.class == q.class) ≡ class → is_eq (ticket_cmp q one) ≡ here
    → T (below_all ticket_cmp one (paired rest)) → cond here (Some tt) (found q rest) ≡ Some tt
    → (found q rest ≡ Some tt → IsNoLater q (first_in q.class rest)) → IsNoLater q (if class then Some one else first_in q.class rest)
no-later-by q one rest true true class same below is later = omega (arith, ap (λ (t : Ticket). t.time) (exact_tickets q one (equal_from (ticket_cmp q one) same)))
no-later-by q one rest true false class same below is later = time-from one q (below-found one q rest below is) (same-number one.class q.class class)
no-later-by q one rest false true class same below is later =
    absurd (two-numbers one.class q.class class (sym (ap (λ (t : Ticket). t.class) (exact_tickets q one (equal_from (ticket_cmp q one) same)))))
no-later-by q one rest false false class same below is later = later is

no-later : (q : Ticket) (queue : List Ticket) → AreTicketsInOrder queue → found q queue ≡ Some tt → IsNoLater q (first_in q.class queue)
no-later q [] ordered is = cc is
no-later q (one ∷ rest) ordered is =
    no-later-by q one rest (one.class == q.class) (is_eq (ticket_cmp q one)) refl refl
    (first_of (below_all ticket_cmp one (paired rest)) (is_sorted ticket_cmp (paired rest)) ordered) is
    (no-later q rest (rest_of (below_all ticket_cmp one (paired rest)) (is_sorted ticket_cmp (paired rest)) ordered))

-- and is in the queue

there-by : (here : Bool) (rest : Option (Unit {0})) → rest ≡ Some tt → cond here (Some tt) rest ≡ Some tt
there-by true rest is = refl
there-by false rest is = is

abbrev IsOneOf : ℕ → Ticket → List Ticket → Type 0
IsOneOf class t queue = (found t queue ≡ Some tt) × (t.class ≡ class)

one-by : (class : ℕ) (one t : Ticket) (rest : List Ticket) (here : Bool) → (one.class == class) ≡ here → (if here then Some one else first_in class rest) ≡ Some t
    → (first_in class rest ≡ Some t → IsOneOf class t rest) → IsOneOf class t (one ∷ rest)
one-by class one t rest true is first later =
    subst (λ (x : Ticket). IsOneOf class x (one ∷ rest)) (ap (λ (x : Option Ticket). unwrap_or x one) first)
    (ap (λ (o : Ordering). cond (is_eq o) (Some tt) (found one rest)) (tied_itself tickets_total one), same-number one.class class is)
one-by class one t rest false is first later = (there-by (is_eq (ticket_cmp t one)) (found t rest) (later first).0, (later first).1)

is-one-of : (class : ℕ) (t : Ticket) (queue : List Ticket) → first_in class queue ≡ Some t → IsOneOf class t queue
is-one-of class t [] first = cc first
is-one-of class t (one ∷ rest) first = one-by class one t rest (one.class == class) refl first (is-one-of class t rest)

-- a peer's own ticket
own-ticket : {V : Type 0} (moment : V → Option (ℕ × ℕ)) (kept : List (Peer × V)) → IsStrictlySortedBy peer_cmp (keys_of kept) → (peer : Peer) (v : V) (at : ℕ × ℕ)
    → lookup (is_peer peer) kept ≡ Some v → moment v ≡ Some at → found (ticket at peer) (queue_of moment kept) ≡ Some tt
own-ticket moment kept ordered peer v at is own =
    its_ticket moment kept (ticket at peer) ordered
    ∙ ap (λ (x : Option _). stands (moment_if moment x) (ticket at peer)) is
    ∙ ap (λ (m : Option (ℕ × ℕ)). stands m (ticket at peer)) own
    ∙ ap (λ (o : Ordering). cond (is_eq o) (Some tt) None) (tied_itself tickets_total (ticket at peer))

-- when something is due of a flow

abbrev reached : Option ℕ → ℕ → Bool
reached None t = false
reached (Some time) t = nat_le time t

clock-by : (a : Alarm) (t : ℕ) (far : Bool) → nat_lt (a.since + a.wait) (2 ^ 64) ≡ far → (a.wait == 0) ≡ false → t < 2 ^ 64
    → (time_left a t == 0) ≡ reached (if far then Some (a.since + a.wait) else None) t
clock-by a t true far some fits = grind (arith, nat_tests, far, some, fits)
clock-by a t false far some fits = grind (arith, nat_tests, far, some, fits)

wait-by : (a : Alarm) (t : ℕ) (none : Bool) → (a.wait == 0) ≡ none → t < 2 ^ 64
    → (time_left a t == 0) ≡ reached (if none then Some 0 else on_clock (a.since + a.wait)) t
wait-by a t true is fits = grind (arith, nat_tests, is)
wait-by a t false is fits = clock-by a t (nat_lt (a.since + a.wait) (2 ^ 64)) refl is fits

run-out : (alarm : Option Alarm) (t : ℕ) → t < 2 ^ 64 → has_run_out alarm t ≡ reached (alarm_end alarm) t
run-out None t fits = refl
run-out (Some a) t fits = wait-by a t (a.wait == 0) refl fits

either-reached : (a b : Option ℕ) (t : ℕ) → reached (earlier a b) t ≡ (reached a t || reached b t)
either-reached None b t = refl
either-reached (Some a) None t = sym (or-false (nat_le a t))
either-reached (Some a) (Some b) t = grind (arith, nat_tests)

some-or : (it : Due) (rest : Option Due) (b : Bool) → is_some (if b then Some it else rest) ≡ (b || is_some rest)
some-or it rest true = refl
some-or it rest false = refl

due-reached : (u : Upkeep) (t : ℕ) (list : List Due) → t < 2 ^ 64 → is_some (first_due u t list) ≡ reached (first_end u list) t
due-reached u t [] fits = refl
due-reached u t (it ∷ rest) fits =
    some-or it (first_due u t rest) (has_run_out (due_alarm u it) t)
    ∙ ap (λ (b : Bool). b || is_some (first_due u t rest)) (run-out (due_alarm u it) t fits)
    ∙ ap (λ (b : Bool). reached (alarm_end (due_alarm u it)) t || b) (due-reached u t rest fits)
    ∙ sym (either-reached (alarm_end (due_alarm u it)) (first_end u rest) t)

mapped : {X Y : Type 0} (f : X → Y) (x : Option X) → is_some (option_map f x) ≡ is_some x
mapped f None = refl
mapped f (Some v) = refl

module _ (upkeeps : Upkeeps) (ordered : IsStrictlySortedBy peer_cmp (keys_of upkeeps)) where
  abbrev IsItsEnd : Ticket → Type 0
  IsItsEnd t = (u : Upkeep) × (lookup (is_peer t.peer) upkeeps ≡ Some u) × (first_end u every_due ≡ Some t.time)

  end-by : (t : Ticket) (u : Upkeep) (end : Option ℕ) → lookup (is_peer t.peer) upkeeps ≡ Some u → first_end u every_due ≡ end
      → stands (option_map (λ time. (0, time)) end) t ≡ Some tt → IsItsEnd t
  end-by t u None is at there = cc there
  end-by t u (Some e) is at there = by (is_eq (ticket_cmp t (ticket (0, e) t.peer))) refl there
    where
      by : (b : Bool) → is_eq (ticket_cmp t (ticket (0, e) t.peer)) ≡ b → cond b (Some tt) (stands None t) ≡ Some tt → IsItsEnd t
      by true same there =
          (u, is, at ∙ ap (λ (x : Ticket). Some x.time) (sym (exact_tickets t (ticket (0, e) t.peer) (equal_from (ticket_cmp t (ticket (0, e) t.peer)) same))))
      by false same there = cc there

  kept-by : (t : Ticket) (found : Option Upkeep) → lookup (is_peer t.peer) upkeeps ≡ found → stands (moment_if upkeep_moment found) t ≡ Some tt → IsItsEnd t
  kept-by t None is there = cc there
  kept-by t (Some u) is there = end-by t u (first_end u every_due) is refl there

  its-end : (t : Ticket) → soonest upkeeps ≡ Some t → IsItsEnd t
  its-end t is =
      kept-by t (lookup (is_peer t.peer) upkeeps) refl
      (sym (its_ticket upkeep_moment upkeeps t ordered) ∙ (is-one-of 0 t (queue_of upkeep_moment upkeeps) is).0)

  abbrev time-of : Option Ticket → Option ℕ
  time-of ticket = option_map (λ t. t.time) ticket

  reached-by : (later : ℕ) (ticket : Option Ticket) → soonest upkeeps ≡ ticket → later < 2 ^ 64
      → is_some (due_of_ticket later upkeeps ticket) ≡ reached (time-of ticket) later
  reached-by later None is fits = refl
  reached-by later (Some t) is fits =
      let end : IsItsEnd t = its-end t is in
      ap (λ (x : Option Upkeep). is_some (due_of_flow later t.peer x)) end.1
      ∙ mapped (λ it. (t.peer, it)) (first_due end.0 later every_due) ∙ due-reached end.0 later every_due fits
      ∙ ap (λ (x : Option ℕ). reached x later) end.2

  exact-by : (now later : ℕ) (ticket : Option Ticket) → now ≤ later → later < never
      → reached (time-of ticket) later ≡ nat_le (now + wait_until now ticket) later
  exact-by now later None after fits = grind (arith, nat_tests, after, fits)
  exact-by now later (Some t) after fits = grind (arith, nat_tests, after)

  module _ (later : ℕ) (fits : later < 2 ^ 64) (none : first_due_flow later upkeeps ≡ None) (peer : Peer) (u : Upkeep) (is : lookup (is_peer peer) upkeeps ≡ Some u) where
    not-yet-by : (e : ℕ) (first : Option Ticket) → soonest upkeeps ≡ first → IsNoLater (ticket (0, e) peer) first → nat_le e later ≡ false
    not-yet-by e None at soon = absurd soon
    not-yet-by e (Some t) at soon =
        let quiet : nat_le t.time later ≡ false =
        sym (reached-by later (Some t) at fits) ∙ ap (λ (x : Option Ticket). is_some (due_of_ticket later upkeeps x)) (sym at) ∙ ap is_some none
        in
        grind (arith, nat_tests, quiet, soon)

    not-due-by : (end : Option ℕ) → first_end u every_due ≡ end → reached end later ≡ false
    not-due-by None at = refl
    not-due-by (Some e) at =
        not-yet-by e (soonest upkeeps) refl
        (no-later (ticket (0, e) peer) (queue_of upkeep_moment upkeeps) (queue_ordered upkeep_moment upkeeps)
        (own-ticket upkeep_moment upkeeps ordered peer u (0, e) is (ap (λ (x : Option ℕ). option_map (λ time. (0, time)) x) at)))

    not-due : first_due u later every_due ≡ None
    not-due =
        none_from (first_due u later every_due)
        (due-reached u later every_due fits ∙ not-due-by (first_end u every_due) refl)

pub none_passed_over : NoneIsPassedOver
none_passed_over upkeeps now later ordered after fits =
    let in-clock : later < 2 ^ 64 = omega (arith, fits) in
    record {
      none_is_due = λ none peer u is. not-due upkeeps ordered later in-clock none peer u is;
      wait_is_exact = reached-by upkeeps ordered later (soonest upkeeps) refl in-clock ∙ exact-by upkeeps ordered now later (soonest upkeeps) after fits;
    }

-- no flow that has stood for too long is passed over

module _ (rules : Rules) (crowded : Bool) (now : ℕ) (lives : Lives) (ordered : IsStrictlySortedBy peer_cmp (keys_of lives)) where
  abbrev over : Stage → Option Ticket
  over it = over_in rules crowded now it lives

  none-first : (a b : Option Ticket) → holder (or_else a b) ≡ None → (a ≡ None) × (holder b ≡ None)
  none-first None b is = (refl, is)
  none-first (Some t) b is = cc is

  none-held : (a : Option Ticket) → holder a ≡ None → a ≡ None
  none-held None is = refl
  none-held (Some t) is = cc is

  none-over : first_given_up rules crowded now lives ≡ None → (it : Stage) → (limit_in rules crowded it ≡ None → ⊥) → over it ≡ None
  none-over none stage.HalfOpen some = (none-first (over stage.HalfOpen) (or_else (over stage.Live) (over stage.Ending)) none).0
  none-over none stage.Live some =
      (none-first (over stage.Live) (over stage.Ending) (none-first (over stage.HalfOpen) (or_else (over stage.Live) (over stage.Ending)) none).1).0
  none-over none stage.Ending some =
      none-held (over stage.Ending)
      (none-first (over stage.Live) (over stage.Ending) (none-first (over stage.HalfOpen) (or_else (over stage.Live) (over stage.Ending)) none).1).1
  none-over none stage.Lingering some = absurd (some refl)

  may-by : (it : Stage) (limit since : ℕ) (t : Ticket) (b : Bool) → t.time ≤ since → (limit - (now - t.time) == 0) ≡ b → (if b then Some t else None) ≡ None
      → (limit - (now - since) == 0) ≡ false
  may-by it limit since t true before is none = cc none
  may-by it limit since t false before is none = grind (arith, nat_tests, before, is)

  module _ (none : first_given_up rules crowded now lives ≡ None) (peer : Peer) (life : Life) (is : lookup (is_peer peer) lives ≡ Some life) where
    stays-by : (it : Stage) (since limit : ℕ) (first : Option Ticket) → longest it lives ≡ first → limit_in rules crowded it ≡ Some limit
        → IsNoLater (ticket (class_of it, since) peer) first → over it ≡ None → (limit - (now - since) == 0) ≡ false
    stays-by it since limit None at limited soon quiet = absurd soon
    stays-by it since limit (Some t) at limited soon quiet =
        may-by it limit since t (limit - (now - t.time) == 0) soon refl
        (sym
        (ap (λ (x : Option Ticket). if is_none_left (stage_left rules crowded now it x) then x else None) at
        ∙ ap (λ (x : Option ℕ). if is_none_left (option_map (λ (n : ℕ). n - (now - t.time)) x) then Some t else None) limited)
        ∙ quiet)

    limited-by : (it : Stage) (since : ℕ) (limit : Option ℕ) → since_in life life.phase ≡ Some (it, since) → limit_in rules crowded it ≡ limit
        → is_none_left (option_map (λ (n : ℕ). n - (now - since)) limit) ≡ false
    limited-by it since None at limited = refl
    limited-by it since (Some limit) at limited =
        stays-by it since limit (longest it lives) refl limited
        (no-later (ticket (class_of it, since) peer) (queue_of life_moment lives) (queue_ordered life_moment lives)
        (own-ticket life_moment lives ordered peer life (class_of it, since) is
        (ap (λ (x : Option (Stage × ℕ)). option_map (λ s. (class_of s.0, s.1)) x) at)))
        (none-over none it (λ free. cc (sym free ∙ limited)))

    may-stay : (at : Option (Stage × ℕ)) → since_in life life.phase ≡ at → is_none_left (left_since rules crowded now at) ≡ false
    may-stay None at = refl
    may-stay (Some s) at = limited-by s.0 s.1 (limit_in rules crowded s.0) at refl

pub each_may_stay : EachMayStay
each_may_stay rules crowded now lives ordered none peer life is =
    may-stay rules crowded now lives ordered none peer life is (since_in life life.phase) refl
