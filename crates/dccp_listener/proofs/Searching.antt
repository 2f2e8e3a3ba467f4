-- Where a search for a peer among others in order leads, and what a change at that place makes of the list.
use Rattle.std.proofs.Common.{◌≡◌, refl, sym, ap, subst, ◌∙◌, ℕ, zero, suc, ◌≤◌, ◌<◌, Bool, true, false, cond, List, [], ◌∷◌, length, inl, inr, get_or, set, slice_get, Option, Some, None, Err, Ordering, Less, Equal, Greater, is_eq, is_some, arith}
use Rattle.std.proofs.lemmas.Bool.{cases_lt, false≢true}
use Rattle.std.proofs.lemmas.Cmp.{alike_right}
use Rattle.std.proofs.lemmas.List.{get_or_default}
use Rattle.std.proofs.lemmas.Map.{lookup-remove_entry, lookup-set_value}
use Rattle.std.proofs.lemmas.Map.Keys.{IsDistinct-from_sorted}
use Rattle.std.specs.BTreeMap.{insert_entry}
use Rattle.std.specs.List.{HoldsAt, insert, remove}
use Rattle.std.specs.List.Sorted.{IsBinarySearchResult, IsNonDecreasingBy, IsPartitionPoint, IsStrictlySortedBy}
use Rattle.std.specs.Map.{keys_of, lookup, remove_entry, set_value}
use Rattle.std.specs.Ordering.{is_lt, match_ordering, ordering_index, ordering_reverse}
use Rattle.dccp_listener.proofs.InOrder.{AllAfter, AreSorted, found_insert, in_order_insert, in_order_remove, in_order_set}
use Rattle.dccp_listener.proofs.OnePeer.{peers_alike, peers_total}
use Rattle.dccp_listener.specs.Peers.{is_peer, peer_after, peer_cmp}
use Rattle.dccp_listener.specs.declared.peer.Peer.{Peer}

turned : (a b : Peer) (o : Ordering) → peer_cmp a b ≡ o → peer_cmp b a ≡ ordering_reverse o
turned a b o is = peers_total.antisymm b a ∙ ap ordering_reverse is

pub index_by : (a b : Ordering) → (b ≡ Less → a ≡ Less) → (b ≡ Equal → a ≡ Less) → ordering_index a ≤ ordering_index b
index_by a Less f g = omega (arith, ap ordering_index (f refl))
index_by a Equal f g = omega (arith, ap ordering_index (g refl))
index_by Less Greater f g = omega arith
index_by Equal Greater f g = omega arith
index_by Greater Greater f g = omega arith

rises-by : (peer a b : Peer) → peer_cmp a b ≡ Less → ordering_index (peer_cmp a peer) ≤ ordering_index (peer_cmp b peer)
rises-by peer a b less =
    index_by (peer_cmp a peer) (peer_cmp b peer) (λ is. peers_total.trans a b peer less is) (λ is. sym (alike_right peers_total b peer a is) ∙ less)

module _ {X : Type 0} (peer : Peer) where
  -- this peer is at this place
  abbrev pub IsThere : List (Peer × X) → ℕ → Type 0
  IsThere es i = HoldsAt (λ e. peer_cmp e.0 peer ≡ Equal) es i

  -- a peer that comes before all others comes before the one at a place
  before-at : (first : Peer) (es : List (Peer × X)) (i : ℕ) (d : Peer × X) → AllAfter first (keys_of es) → i < length es
      → peer_cmp first (get_or es i d).0 ≡ Less
  before-at first [] i d all lt = absurd (omega (arith, lt))
  before-at first (e ∷ es) zero d all lt = all.0
  before-at first (e ∷ es) (suc i) d all lt = before-at first es i d all.1 (omega (arith, lt))

  before-there : (one : Peer × X) (es : List (Peer × X)) (i : ℕ) → AllAfter one.0 (keys_of es) → i < length es → IsThere es i
      → peer_cmp peer one.0 ≡ Greater
  before-there one es i all lt there =
      turned one.0 peer Less (sym (alike_right peers_total (get_or es i one).0 peer one.0 (there one)) ∙ before-at one.0 es i one all lt)

  here-by : (one : Peer × X) → peer_cmp one.0 peer ≡ Equal → is_peer peer one.0 ≡ true
  here-by one is = ap is_eq (turned one.0 peer Equal is)

  pub found : (es : List (Peer × X)) (i : ℕ) (it : Peer × X) → IsStrictlySortedBy peer_cmp (keys_of es) → i < length es → IsThere es i → it ≡ get_or es i it
      → lookup (is_peer peer) es ≡ Some it.1
  unfolding IsStrictlySortedBy
  found [] i it ordered lt there is = absurd (omega (arith, lt))
  found (e ∷ es) zero it ordered lt there is =
      ap (λ (b : Bool). cond b (Some e.1) (lookup (is_peer peer) es)) (here-by e (there e)) ∙ ap (λ (x : Peer × X). Some x.1) (sym is)
  found (e ∷ es) (suc i) it ordered lt there is =
      ap (λ (o : Ordering). cond (is_eq o) (Some e.1) (lookup (is_peer peer) es)) (before-there e es i ordered.0 (omega (arith, lt)) there)
      ∙ found es i it ordered.1 (omega (arith, lt)) there is

  pub not_absent : (es : List (Peer × X)) (i : ℕ) → IsStrictlySortedBy peer_cmp (keys_of es) → i < length es → IsThere es i → lookup (is_peer peer) es ≡ None → ⊥
  not_absent [] i ordered lt there none = omega (arith, lt)
  not_absent (e ∷ es) i ordered lt there none =
      false≢true (ap is_some (sym none ∙ found (e ∷ es) i (get_or (e ∷ es) i e) ordered lt there (get_or_default (e ∷ es) i e (get_or (e ∷ es) i e) lt)))

  pub written : (es : List (Peer × X)) (i : ℕ) (it : Peer × X) (w : X) → IsStrictlySortedBy peer_cmp (keys_of es) → i < length es → IsThere es i → it ≡ get_or es i it
      → set es i (it.0, w) ≡ set_value (is_peer peer) es w
  unfolding IsStrictlySortedBy
  written [] i it w ordered lt there is = absurd (omega (arith, lt))
  written (e ∷ es) zero it w ordered lt there is =
      ap (λ (x : Peer × X). (x.0, w) ∷ es) is
      ∙ sym (ap (λ (b : Bool). cond b ((e.0, w) ∷ es) (e ∷ set_value (is_peer peer) es w)) (here-by e (there e)))
  written (e ∷ es) (suc i) it w ordered lt there is =
      ap (λ (l : List (Peer × X)). e ∷ l) (written es i it w ordered.1 (omega (arith, lt)) there is)
      ∙ sym (ap (λ (o : Ordering). cond (is_eq o) ((e.0, w) ∷ es) (e ∷ set_value (is_peer peer) es w)) (before-there e es i ordered.0 (omega (arith, lt)) there))

  pub taken : (es : List (Peer × X)) (i : ℕ) → IsStrictlySortedBy peer_cmp (keys_of es) → i < length es → IsThere es i
      → remove es i ≡ remove_entry (is_peer peer) es
  unfolding IsStrictlySortedBy
  taken [] i ordered lt there = absurd (omega (arith, lt))
  taken (e ∷ es) zero ordered lt there =
      sym (ap (λ (b : Bool). cond b es (e ∷ remove_entry (is_peer peer) es)) (here-by e (there e)))
  taken (e ∷ es) (suc i) ordered lt there =
      ap (λ (l : List (Peer × X)). e ∷ l) (taken es i ordered.1 (omega (arith, lt)) there)
      ∙ sym (ap (λ (o : Ordering). cond (is_eq o) es (e ∷ remove_entry (is_peer peer) es)) (before-there e es i ordered.0 (omega (arith, lt)) there))

  -- comparisons with the peer rise along others in order
  rises : (es : List (Peer × X)) → IsStrictlySortedBy peer_cmp (keys_of es) → IsNonDecreasingBy (λ e. ordering_index (peer_cmp e.0 peer)) es
  unfolding IsStrictlySortedBy
  rises [] ordered i j d le lt = absurd (omega (arith, lt))
  rises (e ∷ es) ordered zero zero d le lt = omega arith
  rises (e ∷ es) ordered zero (suc j) d le lt = rises-by peer e.0 (get_or es j d).0 (before-at e.0 es j d ordered.0 (omega (arith, lt)))
  rises (e ∷ es) ordered (suc i) zero d le lt = absurd (omega (arith, le))
  rises (e ∷ es) ordered (suc i) (suc j) d le lt = rises es ordered.1 i j d (omega (arith, le)) (omega (arith, lt))

  -- where there is none, one would come between lower and higher peers
  abbrev pub IsBetween : List (Peer × X) → ℕ → Type 0
  IsBetween es i = IsPartitionPoint (λ e. peer_cmp e.0 peer ≡ Less) (λ e. peer_cmp e.0 peer ≡ Greater) es i

  pub between : (es : List (Peer × X)) (i : ℕ) → IsStrictlySortedBy peer_cmp (keys_of es) → IsBinarySearchResult (λ e. peer_cmp e.0 peer) es (Err i) → IsBetween es i
  between es i ordered is = is (rises es ordered)

  absent-by : (es : List (Peer × X)) → ((j : ℕ) (d : Peer × X) → j < length es → is_peer peer (get_or es j d).0 ≡ false) → lookup (is_peer peer) es ≡ None
  absent-by [] apart = refl
  absent-by (e ∷ es) apart =
      ap (λ (b : Bool). cond b (Some e.1) (lookup (is_peer peer) es)) (apart 0 e (omega arith)) ∙ absent-by es (λ j d lt. apart (suc j) d (omega (arith, lt)))

  apart-at : (es : List (Peer × X)) (i j : ℕ) (d : Peer × X) → IsBetween es i → j < length es → is_peer peer (get_or es j d).0 ≡ false
  apart-at es i j d is lt = elim (cases_lt j i) [
    | inl below ↦ ap is_eq (turned (get_or es j d).0 peer Less (is.0 j d (omega arith) below))
    | inr from ↦ ap is_eq (turned (get_or es j d).0 peer Greater (is.1 j d from lt))
  ]

  pub absent : (es : List (Peer × X)) (i : ℕ) → IsBetween es i → lookup (is_peer peer) es ≡ None
  absent es i is = absent-by es (λ j d lt. apart-at es i j d is lt)

  -- nothing is taken out if it is not there
  none-by : (e : Peer × X) (es : List (Peer × X)) (here : Bool) → cond here (Some e.1) (lookup (is_peer peer) es) ≡ None
      → (lookup (is_peer peer) es ≡ None → remove_entry (is_peer peer) es ≡ es) → cond here es (e ∷ remove_entry (is_peer peer) es) ≡ e ∷ es
  none-by e es true none later = cc none
  none-by e es false none later = ap (λ (l : List (Peer × X)). e ∷ l) (later none)

  pub none_taken : (es : List (Peer × X)) → lookup (is_peer peer) es ≡ None → remove_entry (is_peer peer) es ≡ es
  none_taken [] none = refl
  none_taken (e ∷ es) none = none-by e es (is_peer peer e.0) none (none_taken es)

  pub put_between : (es : List (Peer × X)) (i : ℕ) (w : X) → i ≤ length es → IsBetween es i → insert es i (peer, w) ≡ insert_entry peer_cmp es peer w
  put_between [] zero w within is = refl
  put_between [] (suc i) w within is = absurd (omega (arith, within))
  put_between (e ∷ es) zero w within is =
      sym (ap (λ (o : Ordering). match_ordering o ((peer, w) ∷ e ∷ es) ((e.0, w) ∷ es) (e ∷ insert_entry peer_cmp es peer w)) (turned e.0 peer Greater (is.1 0 e (omega arith) (omega arith))))
  put_between (e ∷ es) (suc i) w within is =
      ap (λ (l : List (Peer × X)). e ∷ l)
      (put_between es i w (omega (arith, within))
      ((λ j d from lt. is.0 (suc j) d (omega arith) (omega (arith, lt))), (λ j d from lt. is.1 (suc j) d (omega (arith, from)) (omega (arith, lt)))))
      ∙ sym (ap (λ (o : Ordering). match_ordering o ((peer, w) ∷ e ∷ es) ((e.0, w) ∷ es) (e ∷ insert_entry peer_cmp es peer w)) (turned e.0 peer Less (is.0 0 e (omega arith) (omega arith))))

  -- what is found after a change of what is kept of the peer
  abbrev pub Finds : Option X → List (Peer × X) → List (Peer × X) → Type 0
  Finds next before after = (other : Peer) → lookup (is_peer other) after ≡ cond (is_peer peer other) next (lookup (is_peer other) before)

  pub own_found : (next : Option X) (before after : List (Peer × X)) → Finds next before after → lookup (is_peer peer) after ≡ next
  own_found next before after finds =
      finds peer ∙ ap (λ (b : Bool). cond b next (lookup (is_peer peer) before)) (peers_alike.refl peer)

  pub others_found : (next : Option X) (before after : List (Peer × X)) → Finds next before after → (other : Peer) → is_peer peer other ≡ false
      → lookup (is_peer other) after ≡ lookup (is_peer other) before
  others_found next before after finds other apart = finds other ∙ ap (λ (b : Bool). cond b next (lookup (is_peer other) before)) apart

  module _ (before after : List (Peer × X)) where
    pub value_set : (w : X) → AreSorted before → is_some (lookup (is_peer peer) before) ≡ true → after ≡ set_value (is_peer peer) before w
        → AreSorted after × Finds (Some w) before after
    value_set w ordered there is = (
      subst (λ (l : List (Peer × X)). AreSorted l) (sym is) (in_order_set (is_peer peer) before w ordered),
      λ other. ap (λ (l : List (Peer × X)). lookup (is_peer other) l) is
          ∙ lookup-set_value peers_alike (is_peer peer) (peers_alike.congr peer) other w before there,
    )

    pub value_put : (w : X) → AreSorted before → after ≡ insert_entry peer_cmp before peer w → AreSorted after × Finds (Some w) before after
    value_put w ordered is = (
      subst (λ (l : List (Peer × X)). AreSorted l) (sym is) (in_order_insert peer w before ordered),
      λ other. ap (λ (l : List (Peer × X)). lookup (is_peer other) l) is ∙ found_insert other peer w before,
    )

    pub value_gone : AreSorted before → after ≡ remove_entry (is_peer peer) before → AreSorted after × Finds None before after
    value_gone ordered is = (
      subst (λ (l : List (Peer × X)). AreSorted l) (sym is) (in_order_remove (is_peer peer) before ordered),
      λ other. ap (λ (l : List (Peer × X)). lookup (is_peer other) l) is
          ∙ lookup-remove_entry peers_alike (is_peer peer) (peers_alike.congr peer) other before (IsDistinct-from_sorted peer_cmp (keys_of before) ordered),
    )

  -- the first peer after one is at the next place, or where that one would be
  after-by : (e : Peer × X) (es : List (Peer × X)) (o : Ordering) → peer_cmp peer e.0 ≡ o → is_lt o ≡ false → peer_after peer (keys_of (e ∷ es)) ≡ peer_after peer (keys_of es)
  after-by e es o is not = ap (λ (b : Bool). cond b (Some e.0) (peer_after peer (keys_of es))) (ap is_lt is ∙ not)

  pub after_between : (es : List (Peer × X)) (i : ℕ) → i ≤ length es → IsBetween es i → peer_after peer (keys_of es) ≡ slice_get (keys_of es) i
  after_between [] zero within is = refl
  after_between [] (suc i) within is = absurd (omega (arith, within))
  after_between (e ∷ es) zero within is =
      ap (λ (o : Ordering). cond (is_lt o) (Some e.0) (peer_after peer (keys_of es))) (turned e.0 peer Greater (is.1 0 e (omega arith) (omega arith)))
  after_between (e ∷ es) (suc i) within is =
      after-by e es Greater (turned e.0 peer Less (is.0 0 e (omega arith) (omega arith))) refl
      ∙ after_between es i (omega (arith, within))
      ((λ j d from lt. is.0 (suc j) d (omega arith) (omega (arith, lt))), (λ j d from lt. is.1 (suc j) d (omega (arith, from)) (omega (arith, lt))))

  after-all : (first : Peer) (es : List (Peer × X)) → AllAfter first (keys_of es) → peer_cmp first peer ≡ Equal
      → peer_after peer (keys_of es) ≡ slice_get (keys_of es) 0
  after-all first [] all is = refl
  after-all first (e ∷ es) all is =
      ap (λ (o : Ordering). cond (is_lt o) (Some e.0) (peer_after peer (keys_of es))) (sym (peers_total.congr first peer e.0 is) ∙ all.0)

  pub after_there : (es : List (Peer × X)) (i : ℕ) → IsStrictlySortedBy peer_cmp (keys_of es) → i < length es → IsThere es i
      → peer_after peer (keys_of es) ≡ slice_get (keys_of es) (suc i)
  unfolding IsStrictlySortedBy
  after_there [] i ordered lt there = absurd (omega (arith, lt))
  after_there (e ∷ es) zero ordered lt there =
      after-by e es Equal (turned e.0 peer Equal (there e)) refl ∙ after-all e.0 es ordered.0 (there e)
  after_there (e ∷ es) (suc i) ordered lt there =
      after-by e es Greater (before-there e es i ordered.0 (omega (arith, lt)) there) refl ∙ after_there es i ordered.1 (omega (arith, lt)) there
