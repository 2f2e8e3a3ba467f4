-- What holds of an inbox after a list of calls: of one call by cases, and of all by induction.
use Rattle.std.proofs.Common.{◌≡◌, ℕ, ◌+◌, ◌-◌, ◌<◌, not, ◌||◌, nat_lt, Bool, true, false, List, [], ◌∷◌, ◌++◌, length, take, drop, refl, ap, sym, subst, ◌∙◌, arith, append_assoc, append-nil, length-append, length-drop}
use Rattle.std.proofs.Math.Bool.{or-false, or-true, or_assoc}
use Rattle.std.specs.List.{list_any}
use Rattle.std.proofs.lemmas.Bool.{and_parts, ltb-true}
use Rattle.std.proofs.lemmas.List.{drop-append-le, drop-drop, take-append-drop}
use Rattle.std.proofs.lemmas.List.Elements.{All-drop, All-nil, All-push}
use Rattle.circular_buffer.specs.Buffer.{keep_last}
use Rattle.data_dropped.specs.Drops.{HaveCodes}
use Rattle.data_dropped.specs.History.{History, InboxCall, IsAccounted, DataArrive, LongDataArrive, Takes, Stops, history_answered, history_after, history_after_all, is_stop, no_history}
use Rattle.data_dropped.specs.Inbox.{InboxState, KeptData, answer_if, dropping, held_if, reason, takes_more}
use Rattle.data_dropped.specs.declared.answers.Arrival.TheVariants.{Kept, Dropped}
use Rattle.data_dropped.specs.declared.drops.DropEntry.{DropEntry}

-- the last of what is kept of the last, and one more, are the last of all
keep_last-more : {X : Type 0} (n : ℕ) (xs : List X) (x : X) → keep_last n (keep_last n xs ++ x ∷ []) ≡ keep_last n (xs ++ x ∷ [])
keep_last-more {X = X} n xs x =
    let k : ℕ = length xs - n in
    let joined : keep_last n xs ++ x ∷ [] ≡ drop k (xs ++ x ∷ []) = sym (drop-append-le k xs (x ∷ []) (omega arith)) in
    let size : length (xs ++ x ∷ []) ≡ length xs + 1 = length-append xs (x ∷ []) in
    let left : length (drop k (xs ++ x ∷ [])) ≡ length (xs ++ x ∷ []) - k = length-drop k (xs ++ x ∷ []) in
    let place : k + (length (drop k (xs ++ x ∷ [])) - n) ≡ length (xs ++ x ∷ []) - n = omega (arith, size, left) in
    ap (λ (ys : List X). keep_last n ys) joined
    ∙ drop-drop (length (drop k (xs ++ x ∷ [])) - n) k (xs ++ x ∷ [])
    ∙ ap (λ (i : ℕ). drop i (xs ++ x ∷ [])) place

reason-fits : (held : InboxState) (stopped : Bool) → held.stopped ≡ stopped → reason held < 8
reason-fits held true is = rw is (omega arith)
reason-fits held false is = rw is (omega arith)

-- a drop
dropped-accounted : (capacity n : ℕ) (payload : List ℕ) (stopped : Bool) (h : History) → IsAccounted capacity stopped h
    → IsAccounted capacity stopped (history_answered h (Dropped (reason h.held)) n payload (dropping h.held n))
dropped-accounted capacity n payload stopped h before =
    let d : DropEntry = record { number = n; code = reason h.held } in
    record {
      whole = append-nil h.kept ∙ before.whole;
      within = before.within;
      same_capacity = before.same_capacity;
      was_stopped = before.was_stopped;
      last_drops = ap (λ (drops : List DropEntry). keep_last 2048 (drops ++ d ∷ [])) before.last_drops ∙ keep_last-more 2048 h.dropped d;
      codes = All-push (λ (e : DropEntry). e.code < 8) h.dropped d before.codes (reason-fits h.held stopped before.was_stopped);
    }

-- data that are kept
kept-accounted : (capacity n : ℕ) (payload : List ℕ) (stopped : Bool) (h : History) → takes_more h.held ≡ true → IsAccounted capacity stopped h
    → IsAccounted capacity stopped (history_answered h Kept n payload (held_if true h.held n payload))
kept-accounted capacity n payload stopped h room before =
    let item : KeptData = record { number = n; payload = payload } in
    let more : length (h.held.items ++ item ∷ []) ≡ length h.held.items + 1 = length-append h.held.items (item ∷ []) in
    let below : length h.held.items < h.held.capacity =
    ltb-true (length h.held.items) h.held.capacity (and_parts (not h.held.stopped) (nat_lt (length h.held.items) h.held.capacity) room).1 in
    record {
      whole = ap (λ (all : List KeptData). all ++ item ∷ []) before.whole ∙ append_assoc h.taken h.held.items (item ∷ []);
      within = omega (arith, more, below, before.same_capacity);
      same_capacity = before.same_capacity;
      was_stopped = before.was_stopped;
      last_drops = before.last_drops ∙ ap (λ (drops : List DropEntry). keep_last 2048 drops) (sym (append-nil h.dropped));
      codes = subst HaveCodes (sym (append-nil h.dropped)) before.codes;
    }

arrived-accounted : (capacity n : ℕ) (payload : List ℕ) (stopped room : Bool) (h : History) → takes_more h.held ≡ room → IsAccounted capacity stopped h
    → IsAccounted capacity stopped (history_answered h (answer_if room h.held) n payload (held_if room h.held n payload))
arrived-accounted capacity n payload stopped true h room before = kept-accounted capacity n payload stopped h room before
arrived-accounted capacity n payload stopped false h room before = dropped-accounted capacity n payload stopped h before

-- the first item
taken-accounted : (capacity : ℕ) (stopped : Bool) (h : History) → IsAccounted capacity stopped h → IsAccounted capacity stopped (history_after h Takes)
taken-accounted capacity stopped h before =
    let fewer : length (drop 1 h.held.items) ≡ length h.held.items - 1 = length-drop 1 h.held.items in
    record {
      whole = before.whole ∙ ap (λ (items : List KeptData). h.taken ++ items) (sym (take-append-drop 1 h.held.items))
          ∙ sym (append_assoc h.taken (take 1 h.held.items) (drop 1 h.held.items));
      within = omega (arith, fewer, before.within);
      same_capacity = before.same_capacity;
      was_stopped = before.was_stopped;
      last_drops = before.last_drops;
      codes = before.codes;
    }

stopped-accounted : (capacity : ℕ) (stopped : Bool) (h : History) → IsAccounted capacity stopped h → IsAccounted capacity true (history_after h Stops)
stopped-accounted capacity stopped h before =
    record {
      whole = before.whole;
      within = before.within;
      same_capacity = before.same_capacity;
      was_stopped = refl;
      last_drops = before.last_drops;
      codes = before.codes;
    }

-- one call
pub history_after-accounted : (capacity : ℕ) (stopped : Bool) (h : History) (call : InboxCall) → IsAccounted capacity stopped h
    → IsAccounted capacity (stopped || is_stop call) (history_after h call)
history_after-accounted capacity stopped h (DataArrive n payload) before =
    subst (λ (b : Bool). IsAccounted capacity b (history_after h (DataArrive n payload))) (sym (or-false stopped))
    (arrived-accounted capacity n payload stopped (takes_more h.held) h refl before)
history_after-accounted capacity stopped h (LongDataArrive n) before =
    subst (λ (b : Bool). IsAccounted capacity b (history_after h (LongDataArrive n))) (sym (or-false stopped))
    (dropped-accounted capacity n [] stopped h before)
history_after-accounted capacity stopped h Takes before =
    subst (λ (b : Bool). IsAccounted capacity b (history_after h Takes)) (sym (or-false stopped)) (taken-accounted capacity stopped h before)
history_after-accounted capacity stopped h Stops before =
    subst (λ (b : Bool). IsAccounted capacity b (history_after h Stops)) (sym (or-true stopped)) (stopped-accounted capacity stopped h before)

-- all calls
pub all-accounted : (capacity : ℕ) (stopped : Bool) (h : History) (calls : List InboxCall) → IsAccounted capacity stopped h
    → IsAccounted capacity (stopped || list_any is_stop calls) (history_after_all h calls)
all-accounted capacity stopped h [] before = subst (λ (b : Bool). IsAccounted capacity b h) (sym (or-false stopped)) before
all-accounted capacity stopped h (call ∷ calls) before =
    subst (λ (b : Bool). IsAccounted capacity b (history_after_all (history_after h call) calls)) (or_assoc stopped (is_stop call) (list_any is_stop calls))
    (all-accounted capacity (stopped || is_stop call) (history_after h call) calls (history_after-accounted capacity stopped h call before))

pub first-accounted : (capacity : ℕ) → IsAccounted capacity false (no_history capacity)
first-accounted capacity =
    record { whole = refl; within = omega arith; same_capacity = refl; was_stopped = refl; last_drops = refl; codes = All-nil (λ (e : DropEntry). e.code < 8) }

pub every-accounted : (capacity : ℕ) (calls : List InboxCall) → IsAccounted capacity (list_any is_stop calls) (history_after_all (no_history capacity) calls)
every-accounted capacity calls = all-accounted capacity false (no_history capacity) calls (first-accounted capacity)

-- the drops that count have codes, as all have
pub counted-codes : (capacity : ℕ) (stopped : Bool) (h : History) → IsAccounted capacity stopped h → HaveCodes h.held.drops
counted-codes capacity stopped h accounted =
    subst HaveCodes (sym accounted.last_drops) (All-drop (λ (e : DropEntry). e.code < 8) (length h.dropped - 2048) h.dropped accounted.codes)

pub every-codes : (capacity : ℕ) (calls : List InboxCall) → HaveCodes (history_after_all (no_history capacity) calls).held.drops
every-codes capacity calls =
    counted-codes capacity (list_any is_stop calls) (history_after_all (no_history capacity) calls) (every-accounted capacity calls)
