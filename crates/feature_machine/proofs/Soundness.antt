-- What every row keeps, each step keeps.
use Rattle.byteorder.specs.Endian.{big_number}
use Rattle.std.proofs.Common.{if◌then◌else◌, zero, suc, ◌≡◌, ℕ, ◌^◌, ◌<◌, ◌==◌, ◌&&◌, not, Bool, true, false, List, [], ◌∷◌, length, Option, Some, None, Contains, slice_get, refl, sym, subst, arith, eqb-true}
use Rattle.std.specs.List.{list_all}
use Rattle.std.proofs.lemmas.List.Sums.{AllPass-from_list_all}
use Rattle.std.proofs.lemmas.Bool.{and_parts}
use Rattle.feature_lists.specs.Features.{described, is_permitted}
use Rattle.feature_lists.specs.Lists.{has_entry}
use Rattle.feature_lists.specs.Wishes.{is_allowed, is_counted, is_ours, is_wish}
use Rattle.feature_lists.specs.Lists.{is_distinct}
use Rattle.feature_lists.proofs.FirstShared.{has_entry-from_Contains, Contains-from_has_entry, FirstPassing, find_passing}
use Rattle.feature_lists.specs.declared.features.Feature.{Feature}
use Rattle.feature_lists.specs.declared.features.Feature.TheVariants as f
use Rattle.feature_lists.specs.declared.features.Place.{Place}
use Rattle.feature_lists.specs.declared.features.Place.TheVariants as located
use Rattle.feature_lists.specs.declared.wishes.Wanted.{Wanted}
use Rattle.feature_lists.specs.declared.wishes.Wanted.TheVariants as wanted
use Rattle.feature_machine.specs.declared.stands.Role2.{Role2}
use Rattle.feature_machine.specs.declared.stands.Role2.TheVariants as role
use Rattle.feature_machine.specs.declared.stands.Stand.{Stand}
use Rattle.feature_machine.specs.declared.stands.Stand.TheVariants as stand
use Rattle.feature_machine.specs.declared.offers.Offer.TheVariants as offer
use Rattle.feature_machine.specs.declared.row.Row.{Row}
use Rattle.feature_machine.specs.declared.judging.Proposal.TheVariants as p
use Rattle.feature_machine.specs.declared.judging.Confirmation.TheVariants as c
use Rattle.feature_machine.specs.Rows.{is_there, says, Fatal, TableEvent, Proposed, Confirmed, Preferred, Offered, Sending, tells_value, width, is_server_priority, is_number, answers_opening, confirmation, timely_confirmation, list_confirmation, agreed_confirmation, is_acceptable, number_confirmation, holding, settled, opened_with, without_offer, RowEvent, Change, Confirm, Prefers, Offers, Sends, entries, reconciled_by, proposal, list_proposal, shared_or_not, row_step, row_line, heard}
use Rattle.feature_machine.specs.Sound.{is_lawful, is_active, is_pending, IsLawfulProposal, IsSoundRow, IsEventFor}

-- a lawful value of a server-priority feature is a byte
pub lawful_byte : (feature : Feature) (place : Place) (value : ℕ) → (described feature).is_server_priority ≡ true → is_lawful feature place value ≡ true
    → value < 256
lawful_byte f.Ccid located.Here value s h = grind arith
lawful_byte f.Ccid located.There value s h = grind arith
lawful_byte f.ShortSeqnos located.Here value s h = grind arith
lawful_byte f.ShortSeqnos located.There value s h = grind arith
lawful_byte f.SequenceWindow place value s h = cc
lawful_byte f.EcnIncapable located.Here value s h = grind arith
lawful_byte f.EcnIncapable located.There value s h = grind arith
lawful_byte f.AckRatio place value s h = cc
lawful_byte f.SendAckVector located.Here value s h = grind arith
lawful_byte f.SendAckVector located.There value s h = grind arith
lawful_byte f.SendNdpCount located.Here value s h = grind arith
lawful_byte f.SendNdpCount located.There value s h = grind arith
lawful_byte f.MinCsCov located.Here value s h = grind arith
lawful_byte f.MinCsCov located.There value s h = grind arith
lawful_byte f.CheckDataChecksum located.Here value s h = grind arith
lawful_byte f.CheckDataChecksum located.There value s h = grind arith

-- every lawful value fits the bytes of its feature
pub lawful_fits : (feature : Feature) (place : Place) (value : ℕ) → is_lawful feature place value ≡ true → value < 256 ^ (described feature).width
lawful_fits f.SequenceWindow located.Here value h = grind arith
lawful_fits f.SequenceWindow located.There value h = grind arith
lawful_fits f.AckRatio located.Here value h = grind arith
lawful_fits f.AckRatio located.There value h = grind arith
lawful_fits f.Ccid place value h = lawful_byte f.Ccid place value refl h
lawful_fits f.ShortSeqnos place value h = lawful_byte f.ShortSeqnos place value refl h
lawful_fits f.EcnIncapable place value h = lawful_byte f.EcnIncapable place value refl h
lawful_fits f.SendAckVector place value h = lawful_byte f.SendAckVector place value refl h
lawful_fits f.SendNdpCount place value h = lawful_byte f.SendNdpCount place value refl h
lawful_fits f.MinCsCov place value h = lawful_byte f.MinCsCov place value refl h
lawful_fits f.CheckDataChecksum place value h = lawful_byte f.CheckDataChecksum place value refl h

permitted_lawful : (feature : Feature) (place : Place) (value : ℕ) → is_permitted feature place value ≡ true → is_lawful feature place value ≡ true
permitted_lawful feature place value h = grind arith

-- an entry of a list that passes a test passes it
entry_passes : (test : ℕ → Bool) (list : List ℕ) (value : ℕ) → list_all test list ≡ true → has_entry list value ≡ true → test value ≡ true
entry_passes test list value all entry =
    let c : Contains list value = Contains-from_has_entry list value entry in
    subst (λ v. test v ≡ true) c.2 (AllPass-from_list_all test list all c.0 value c.1)

-- an entry of the active list is permitted
pub entry_permitted : (feature : Feature) (place : Place) (active : Option Wanted) (value : ℕ) → is_active feature place active ≡ true
    → has_entry (entries active) value ≡ true → is_permitted feature place value ≡ true
entry_permitted feature place None value a entry = cc
entry_permitted feature place (Some (wanted.Number number)) value a entry = cc
entry_permitted feature place (Some (wanted.List list)) value a entry =
    let allowed = and_parts (described feature).is_server_priority (is_allowed feature place list) a in
    let front = and_parts (is_counted feature (length list) && list_all (is_permitted feature place) list) (is_distinct list) allowed.1 in
    let permitted = and_parts (is_counted feature (length list)) (list_all (is_permitted feature place) list) front.0 in
    entry_passes (is_permitted feature place) list value permitted.1 entry

-- what is at a place is an entry
stands_in : (list : List ℕ) (k value : ℕ) → slice_get list k ≡ Some value → Contains list value
stands_in [] k value h = cc
stands_in (x ∷ list) zero value h = (0, grind arith, cc)
stands_in (x ∷ list) (suc k) value h = let c : Contains list value = stands_in list k value h in (suc c.0, grind arith, c.2)

-- the reconciliation is in the row's own list
pub reconciled_own : (r : Role2) (own peers : List ℕ) (value : ℕ) → reconciled_by r own peers ≡ Some value → has_entry own value ≡ true
reconciled_own role.Server own peers value h =
    let at : FirstPassing (has_entry peers) own value = find_passing (has_entry peers) own value h in
    has_entry-from_Contains own value (stands_in own at.place value at.stands)
reconciled_own role.Client own peers value h = (find_passing (has_entry own) peers value h).passes

-- what an event carries is lawful for the row
abbrev IsLawfulHeard : Row → TableEvent → Type 0
IsLawfulHeard row (Proposed proposal _) = IsLawfulProposal row proposal
IsLawfulHeard row (Confirmed (c.Shared value)) = is_lawful row.feature row.place value ≡ true
IsLawfulHeard row (Confirmed (c.Alone value)) = is_lawful row.feature row.place value ≡ true
IsLawfulHeard row (Confirmed (c.Told value)) = is_lawful row.feature row.place value ≡ true
IsLawfulHeard row (Preferred wish) = is_wish row.feature row.place wish ≡ true
IsLawfulHeard row (Offered _ given) = row.offer ≡ given
IsLawfulHeard row _ = Unit {0}

-- a wish is only for a row that may have one
pub wish_ours : (feature : Feature) (place : Place) (wish : Wanted) → is_wish feature place wish ≡ true → is_ours feature place ≡ true
wish_ours feature located.Here wish h = refl
wish_ours feature located.There (wanted.List list) h = (and_parts (described feature).is_server_priority (is_allowed feature located.There list) h).0
wish_ours feature located.There (wanted.Number number) h =
    (and_parts (not (described feature).is_server_priority) (is_ours feature located.There)
    (and_parts (not (described feature).is_server_priority && is_ours feature located.There) (is_permitted feature located.There number) h).0).1

none_pending : (feature : Feature) (place : Place) (wish : Option Wanted) → is_pending feature place stand.Changing wish ≡ true
    → is_pending feature place stand.Stable wish ≡ true
none_pending feature place None h = refl
none_pending feature place (Some wish) h = cc

still_none_pending : (feature : Feature) (place : Place) (wish : Option Wanted) → is_pending feature place stand.Stable wish ≡ true
    → is_pending feature place stand.Changing wish ≡ true
still_none_pending feature place None h = refl
still_none_pending feature place (Some wish) h = cc

pending_active : (feature : Feature) (place : Place) (wish : Option Wanted) → is_pending feature place stand.Unstable wish ≡ true
    → is_active feature place wish ≡ true
pending_active feature place None h = cc
pending_active feature place (Some wish) h = h

pending_at : (row : Row) (s : Stand) → row.stand ≡ s → IsSoundRow row → is_pending row.feature row.place s row.pending ≡ true
pending_at row s e sound = subst (λ t. is_pending row.feature row.place t row.pending ≡ true) e sound.pending

holding_sound : (row : Row) (value : ℕ) → IsSoundRow row → is_lawful row.feature row.place value ≡ true → IsSoundRow (holding row value)
holding_sound row value sound lawful =
    record {
      value = lawful;
      active = sound.active;
      pending = sound.pending;
      quiet =
          λ ours. record { stand = (sound.quiet ours).stand; offer = (sound.quiet ours).offer };
    }

settled_sound : (row : Row) (value : ℕ) → row.stand ≡ stand.Changing → IsSoundRow row → is_lawful row.feature row.place value ≡ true
    → IsSoundRow (settled row value).row
settled_sound row value e sound lawful =
    record {
      value = lawful;
      active = sound.active;
      pending = none_pending row.feature row.place row.pending (pending_at row stand.Changing e sound);
      quiet = λ ours. record { stand = refl; offer = (sound.quiet ours).offer };
    }

opened_sound : (row : Row) (wish : Option Wanted) (mandatory : Bool) → row.stand ≡ stand.Stable → IsSoundRow row → is_active row.feature row.place wish ≡ true
    → (is_ours row.feature row.place ≡ false → ⊥) → IsSoundRow (opened_with row wish mandatory).row
opened_sound row wish mandatory e sound active ours =
    record {
      value = sound.value;
      active = active;
      pending = still_none_pending row.feature row.place row.pending (pending_at row stand.Stable e sound);
      quiet = λ not_ours. absurd (ours not_ours);
    }

without_offer_sound : (row : Row) → IsSoundRow row → IsSoundRow (without_offer row)
without_offer_sound row sound =
    record { value = sound.value; active = sound.active; pending = sound.pending; quiet = λ ours. record { stand = (sound.quiet ours).stand; offer = refl } }

ours_of : (row : Row) (wish : Wanted) → is_wish row.feature row.place wish ≡ true → is_ours row.feature row.place ≡ false → ⊥
ours_of row wish h not_ours = let ours : is_ours row.feature row.place ≡ true = wish_ours row.feature row.place wish h in cc

asks : (row : Row) (s : Stand) → row.stand ≡ s → (s ≡ stand.Stable → ⊥) → IsSoundRow row → is_ours row.feature row.place ≡ false → ⊥
asks row s e other sound not_ours = let stable : row.stand ≡ stand.Stable = (sound.quiet not_ours).stand in other (cc)

pub if_both : {A : Type 0} (P : A → Type 0) (b : Bool) (x y : A) → (b ≡ true → P x) → (b ≡ false → P y) → P (if b then x else y)
if_both P true x y p q = p refl
if_both P false x y p q = q refl

line_sound : (row : Row) (s : Stand) (h : TableEvent) → row.stand ≡ s → IsSoundRow row → IsLawfulHeard row h → IsSoundRow (row_line row s h).row
line_sound row s (Proposed p.Invalid false) e sound lawful = sound
line_sound row s (Proposed p.Invalid true) e sound lawful = sound
line_sound row stand.Unstable (Proposed (p.Shared value) m) e sound lawful = sound
line_sound row stand.Unstable (Proposed p.Unshared m) e sound lawful = sound
line_sound row stand.Unstable (Proposed (p.Told value) m) e sound lawful = sound
line_sound row stand.Stable (Proposed (p.Shared value) m) e sound lawful = holding_sound row value sound lawful
line_sound row stand.Changing (Proposed (p.Shared value) m) e sound lawful = holding_sound row value sound lawful
line_sound row stand.Stable (Proposed p.Unshared false) e sound lawful = sound
line_sound row stand.Stable (Proposed p.Unshared true) e sound lawful = sound
line_sound row stand.Changing (Proposed p.Unshared false) e sound lawful = sound
line_sound row stand.Changing (Proposed p.Unshared true) e sound lawful = sound
line_sound row stand.Stable (Proposed (p.Told value) m) e sound lawful = holding_sound row value sound lawful
line_sound row stand.Changing (Proposed (p.Told value) m) e sound lawful = holding_sound row value sound lawful
line_sound row stand.Stable (Confirmed k) e sound lawful = sound
line_sound row stand.Unstable (Confirmed k) e sound lawful = sound
line_sound row stand.Changing (Confirmed c.Late) e sound lawful = sound
line_sound row stand.Changing (Confirmed c.Empty) e sound lawful =
    if_both (λ step. IsSoundRow step.row) (described row.feature).is_required (says row (Fatal 5)) (settled row row.value) (λ required. sound)
    (λ other. settled_sound row row.value e sound sound.value)
line_sound row stand.Changing (Confirmed (c.Shared value)) e sound lawful = settled_sound row value e sound lawful
line_sound row stand.Changing (Confirmed c.Held) e sound lawful = settled_sound row row.value e sound sound.value
line_sound row stand.Changing (Confirmed (c.Alone value)) e sound lawful = settled_sound row value e sound lawful
line_sound row stand.Changing (Confirmed (c.Told value)) e sound lawful = settled_sound row value e sound lawful
line_sound row stand.Changing (Confirmed c.Wrong) e sound lawful = sound
line_sound row stand.Stable (Preferred wish) e sound lawful = opened_sound row (Some wish) false e sound lawful (ours_of row wish lawful)
line_sound row stand.Changing (Preferred wish) e sound lawful =
    record { value = sound.value; active = sound.active; pending = lawful; quiet = λ not_ours. absurd (ours_of row wish lawful not_ours) }
line_sound row stand.Unstable (Preferred wish) e sound lawful =
    record { value = sound.value; active = sound.active; pending = lawful; quiet = λ not_ours. absurd (ours_of row wish lawful not_ours) }
line_sound row stand.Changing (Sending number None) e sound lawful =
    record {
      value = sound.value;
      active = sound.active;
      pending = sound.pending;
      quiet =
          λ not_ours. record { stand = (sound.quiet not_ours).stand; offer = (sound.quiet not_ours).offer };
    }
line_sound row stand.Changing (Sending number (Some opened)) e sound lawful = sound
line_sound row stand.Unstable (Sending number o) e sound lawful =
    record {
      value = sound.value;
      active = pending_active row.feature row.place row.pending (pending_at row stand.Unstable e sound);
      pending = refl;
      quiet = λ not_ours. absurd (asks row stand.Unstable e (λ same. cc) sound not_ours);
    }
line_sound row stand.Stable (Sending number o) e sound lawful = sound
line_sound row stand.Stable (Offered false offer.Plain) e sound lawful =
    opened_sound (without_offer row) row.active false e (without_offer_sound row sound) sound.active
    (λ not_ours. let nothing : row.offer ≡ offer.Nothing = (sound.quiet not_ours).offer in cc)
line_sound row stand.Stable (Offered false offer.Mandatory) e sound lawful =
    opened_sound (without_offer row) row.active true e (without_offer_sound row sound) sound.active
    (λ not_ours. let nothing : row.offer ≡ offer.Nothing = (sound.quiet not_ours).offer in cc)
line_sound row stand.Stable (Offered false offer.Nothing) e sound lawful = without_offer_sound row sound
line_sound row stand.Stable (Offered true offer.Nothing) e sound lawful = without_offer_sound row sound
line_sound row stand.Stable (Offered true offer.Plain) e sound lawful = without_offer_sound row sound
line_sound row stand.Stable (Offered true offer.Mandatory) e sound lawful = without_offer_sound row sound
line_sound row stand.Changing (Offered confirmed o) e sound lawful = sound
line_sound row stand.Unstable (Offered confirmed o) e sound lawful = sound

shared_lawful : (row : Row) (agreed : Option ℕ) → ((value : ℕ) → agreed ≡ Some value → is_lawful row.feature row.place value ≡ true)
    → IsLawfulProposal row (shared_or_not agreed)
shared_lawful row (Some value) h = h value refl
shared_lawful row None h = tt

-- what the two lists settle on is lawful
pub agreed_lawful : (row : Row) → IsSoundRow row → (peers : List ℕ) (value : ℕ) → reconciled_by row.role (entries row.active) peers ≡ Some value
    → is_lawful row.feature row.place value ≡ true
agreed_lawful row sound peers value h =
    permitted_lawful row.feature row.place value
    (entry_permitted row.feature row.place row.active value sound.active (reconciled_own row.role (entries row.active) peers value h))

pub list_proposal_lawful : (row : Row) (body : List ℕ) → IsSoundRow row → IsLawfulProposal row (list_proposal row body)
list_proposal_lawful row [] sound = tt
list_proposal_lawful row (value ∷ rest) sound =
    shared_lawful row (reconciled_by row.role (entries row.active) (value ∷ rest)) (agreed_lawful row sound (value ∷ rest))

pub proposal_lawful : (row : Row) (body : List ℕ) → IsSoundRow row → IsLawfulProposal row (proposal row body)
proposal_lawful row body sound =
    if_both (λ k. IsLawfulProposal row k) (is_server_priority row) (list_proposal row body)
    (if tells_value row body then p.Told (big_number (width row) body) else p.Invalid)
    (λ listed. list_proposal_lawful row body sound)
    (λ told. if_both (λ k. IsLawfulProposal row k) (tells_value row body) (p.Told (big_number (width row) body)) p.Invalid
    (λ valid. permitted_lawful row.feature row.place (big_number (width row) body)
    (and_parts (is_there row.place && length body == width row) (is_permitted row.feature row.place (big_number (width row) body)) valid).1)
    (λ invalid. tt))

number_lawful : (feature : Feature) (place : Place) (active : Option Wanted) (value : ℕ) → is_active feature place active ≡ true → is_number active value ≡ true
    → is_lawful feature place value ≡ true
number_lawful feature place None value a h = cc
number_lawful feature place (Some (wanted.List list)) value a h = cc
number_lawful feature place (Some (wanted.Number number)) value a h =
    let permitted = (and_parts (not (described feature).is_server_priority && is_ours feature place) (is_permitted feature place number) a).1 in
    subst (λ v. is_lawful feature place v ≡ true) (eqb-true number value h) (permitted_lawful feature place number permitted)

acceptable_lawful : (row : Row) (value : ℕ) → IsSoundRow row → is_acceptable row value ≡ true → is_lawful row.feature row.place value ≡ true
acceptable_lawful row value sound h =
    elim (has_entry (entries row.active) value) as (λ b. has_entry (entries row.active) value ≡ b → is_lawful row.feature row.place value ≡ true) [
      | true ↦ λ entry. permitted_lawful row.feature row.place value (entry_permitted row.feature row.place row.active value sound.active entry)
      | false ↦ λ none. subst (λ v. is_lawful row.feature row.place v ≡ true) (sym (eqb-true value row.value (cc (h, none)))) sound.value
    ] refl

listed_lawful : (row : Row) (value : ℕ) (agreed : Option ℕ) → IsSoundRow row → ((v : ℕ) → agreed ≡ Some v → is_lawful row.feature row.place v ≡ true)
    → IsLawfulHeard row (Confirmed (agreed_confirmation row value agreed))
listed_lawful row value (Some agreed) sound h =
    if_both (λ k. IsLawfulHeard row (Confirmed k)) (agreed == value) (c.Shared value) c.Wrong
    (λ same. subst (λ v. is_lawful row.feature row.place v ≡ true) (eqb-true agreed value same) (h agreed refl)) (λ other. tt)
listed_lawful row value None sound h =
    if_both (λ k. IsLawfulHeard row (Confirmed k)) (value == row.value) c.Held c.Wrong (λ same. tt) (λ other. tt)

list_confirmation_lawful : (row : Row) (value : ℕ) (list : List ℕ) → IsSoundRow row → IsLawfulHeard row (Confirmed (list_confirmation row value list))
list_confirmation_lawful row value [] sound =
    if_both (λ k. IsLawfulHeard row (Confirmed k)) (is_acceptable row value) (c.Alone value) c.Wrong (acceptable_lawful row value sound) (λ other. tt)
list_confirmation_lawful row value (first ∷ rest) sound =
    listed_lawful row value (reconciled_by row.role (entries row.active) (first ∷ rest)) sound (agreed_lawful row sound (first ∷ rest))

timely_lawful : (row : Row) (body : List ℕ) → IsSoundRow row → IsLawfulHeard row (Confirmed (timely_confirmation row body))
timely_lawful row [] sound = tt
timely_lawful row (value ∷ rest) sound =
    if_both (λ k. IsLawfulHeard row (Confirmed k)) (is_server_priority row) (list_confirmation row value rest) (number_confirmation row (value ∷ rest))
    (λ listed. list_confirmation_lawful row value rest sound)
    (λ told. if_both (λ k. IsLawfulHeard row (Confirmed k)) (length (value ∷ rest) == width row && is_number row.active (big_number (width row) (value ∷ rest)))
    (c.Told (big_number (width row) (value ∷ rest))) c.Wrong
    (λ active. number_lawful row.feature row.place row.active (big_number (width row) (value ∷ rest)) sound.active
    (and_parts (length (value ∷ rest) == width row) (is_number row.active (big_number (width row) (value ∷ rest))) active).1)
    (λ other. tt))

confirmation_lawful : (row : Row) (body : List ℕ) (ack : Option ℕ) → IsSoundRow row → IsLawfulHeard row (Confirmed (confirmation row body ack))
confirmation_lawful row body ack sound =
    if_both (λ k. IsLawfulHeard row (Confirmed k)) (answers_opening row.opened ack) (timely_confirmation row body) c.Late
    (λ timely. timely_lawful row body sound) (λ late. tt)

heard_lawful : (row : Row) (event : RowEvent) → IsSoundRow row → IsEventFor row event → IsLawfulHeard row (heard row event)
heard_lawful row (Change body mandatory) sound lawful = proposal_lawful row body sound
heard_lawful row (Confirm body ack) sound lawful = confirmation_lawful row body ack sound
heard_lawful row (Prefers wish) sound lawful = lawful
heard_lawful row (Offers confirmed) sound lawful = refl
heard_lawful row (Sends number) sound lawful = tt

-- each step of a sound row leaves a sound row
pub step_sound : (row : Row) (event : RowEvent) → IsSoundRow row → IsEventFor row event → IsSoundRow (row_step row event).row
step_sound row event sound lawful = line_sound row row.stand (heard row event) refl sound (heard_lawful row event sound lawful)
