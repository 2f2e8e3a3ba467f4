-- What every row keeps (own).
use Rattle.std.specs.Prelude.{◌≡◌, ℕ, ◌==◌, ◌||◌, not, Bool, true, false, Option, Some, None}
use Rattle.feature_lists.specs.Features.{initial_of, is_permitted}
use Rattle.feature_lists.specs.Wishes.{is_ours, is_wish}
use Rattle.feature_lists.specs.declared.features.Feature.{Feature}
use Rattle.feature_lists.specs.declared.features.Place.{Place}
use Rattle.feature_lists.specs.declared.wishes.Wanted.{Wanted}
use Rattle.feature_machine.specs.declared.stands.Stand.{Stand}
use Rattle.feature_machine.specs.declared.stands.Stand.TheVariants as stand
use Rattle.feature_machine.specs.declared.offers.Offer.TheVariants as offer
use Rattle.feature_machine.specs.declared.row.Row.{Row}
use Rattle.feature_machine.specs.declared.judging.Proposal.{Proposal}
use Rattle.feature_machine.specs.declared.judging.Proposal.TheVariants as p
use Rattle.feature_machine.specs.Rows.{RowAnswer, Ignored, Fatal, RowEvent, Confirm, Prefers, Sends, answers_opening}

-- a value that a row may hold: the initial one, or one that is permitted
abbrev pub is_lawful : Feature → Place → ℕ → Bool
is_lawful feature place value = value == initial_of feature || is_permitted feature place value

-- a wish that the row may have; there is none exactly for a non-negotiable feature at the peer
abbrev pub is_active : Feature → Place → Option Wanted → Bool
is_active feature place None = not (is_ours feature place)
is_active feature place (Some wish) = is_wish feature place wish

-- a wish is pending exactly in UNSTABLE
abbrev pub is_pending : Feature → Place → Stand → Option Wanted → Bool
is_pending feature place stand.Unstable (Some wish) = is_wish feature place wish
is_pending feature place stand.Unstable None = false
is_pending feature place _ (Some wish) = false
is_pending feature place _ None = true

-- a row of a non-negotiable feature at the peer never asks for anything
pub record NeverAsks (row : Row) : Type 0 where
  pub stand : row.stand ≡ stand.Stable
  pub offer : row.offer ≡ offer.Nothing

-- a row's value, wishes and offer fit its feature and place
pub record IsSoundRow (row : Row) : Type 0 where
  pub value : is_lawful row.feature row.place row.value ≡ true
  pub active : is_active row.feature row.place row.active ≡ true
  pub pending : is_pending row.feature row.place row.stand row.pending ≡ true
  pub quiet : is_ours row.feature row.place ≡ false → NeverAsks row

-- what a Change brings is lawful
abbrev pub IsLawfulProposal : Row → Proposal → Type 0
IsLawfulProposal row (p.Shared value) = is_lawful row.feature row.place value ≡ true
IsLawfulProposal row (p.Told value) = is_lawful row.feature row.place value ≡ true
IsLawfulProposal row _ = Unit {0}

-- what an end wants is a wish for the row
abbrev pub IsEventFor : Row → RowEvent → Type 0
IsEventFor row (Prefers wish) = is_wish row.feature row.place wish ≡ true
IsEventFor row _ = Unit {0}

-- the event is a Confirm that acknowledges the packet of the row's last opening, or a later one
abbrev pub IsItsConfirm : Row → RowEvent → Type 0
IsItsConfirm row (Confirm body ack) = answers_opening row.opened ack ≡ true
IsItsConfirm row _ = ⊥

-- the event is the sending of the row's Change
abbrev pub IsSendsEvent : RowEvent → Type 0
IsSendsEvent (Sends number) = Unit {0}
IsSendsEvent _ = ⊥

-- a row of this feature at this place
pub record IsRowOf (feature : Feature) (place : Place) (row : Row) : Type 0 where
  pub feature_is : row.feature ≡ feature
  pub place_is : row.place ≡ place
  pub sound : IsSoundRow row

-- it is still the same row: its role, feature and place are unchanged
pub record IsSameRow (old new : Row) : Type 0 where
  pub role : new.role ≡ old.role
  pub feature : new.feature ≡ old.feature
  pub place : new.place ≡ old.place

-- the answers by which a row refuses: it ignores the event, or a Reset answers it
abbrev pub IsRefusal : RowAnswer → Type 0
IsRefusal Ignored = Unit {0}
IsRefusal (Fatal _) = Unit {0}
IsRefusal _ = ⊥
