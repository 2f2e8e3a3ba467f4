-- The wishes and offers that an end starts with (own).
use Rattle.std.specs.Prelude.{◌≡◌, ℕ, ◌+◌, ◌-◌, ◌*◌, Bool, true, false, List, [], ◌∷◌, length, map, Some, slice_index_or, slice_set}
use Rattle.feature_lists.specs.Features.{feature_number}
use Rattle.feature_lists.specs.Wishes.{is_ours, usual_of}
use Rattle.feature_lists.specs.declared.features.Feature.{Feature}
use Rattle.feature_lists.specs.declared.features.Feature.TheVariants as f
use Rattle.feature_lists.specs.declared.features.Place.{Place}
use Rattle.feature_lists.specs.declared.features.Place.TheVariants as located
use Rattle.feature_lists.specs.declared.wishes.Wanted.{Wanted}
use Rattle.feature_machine.specs.declared.offers.Offer.{Offer}
use Rattle.feature_machine.specs.declared.offers.Offer.TheVariants as offer
use Rattle.feature_machine.specs.declared.offers.RowSetup.{RowSetup}
use Rattle.feature_machine.specs.Sound.{is_active}

-- the place of a row among the eighteen: by features, here before there
abbrev pub index_of : Feature → Place → ℕ
index_of feature located.Here = 2 * (feature_number feature - 1)
index_of feature located.There = 2 * (feature_number feature - 1) + 1

-- what an end offers by default
abbrev pub usual_offer : Feature → Place → Offer
usual_offer f.EcnIncapable located.Here = offer.Mandatory
usual_offer f.SendAckVector located.There = offer.Mandatory
usual_offer _ _ = offer.Nothing

-- what an end wants and offers by default for one feature at one place
abbrev pub usual_listed : Feature → Place → RowSetup
usual_listed feature place =
    record { feature = feature; place = place; wish = usual_of feature place; offer = usual_offer feature place }

-- for each feature at each place, in the order of the rows
abbrev pub usual_lists : List RowSetup
usual_lists =
    usual_listed f.Ccid located.Here
    ∷ usual_listed f.Ccid located.There
    ∷ usual_listed f.ShortSeqnos located.Here
    ∷ usual_listed f.ShortSeqnos located.There
    ∷ usual_listed f.SequenceWindow located.Here
    ∷ usual_listed f.SequenceWindow located.There
    ∷ usual_listed f.EcnIncapable located.Here
    ∷ usual_listed f.EcnIncapable located.There
    ∷ usual_listed f.AckRatio located.Here
    ∷ usual_listed f.AckRatio located.There
    ∷ usual_listed f.SendAckVector located.Here
    ∷ usual_listed f.SendAckVector located.There
    ∷ usual_listed f.SendNdpCount located.Here
    ∷ usual_listed f.SendNdpCount located.There
    ∷ usual_listed f.MinCsCov located.Here
    ∷ usual_listed f.MinCsCov located.There
    ∷ usual_listed f.CheckDataChecksum located.Here
    ∷ usual_listed f.CheckDataChecksum located.There
    ∷ []

-- what is there for a row
abbrev pub listed_at : List RowSetup → Feature → Place → RowSetup
listed_at lists feature place = slice_index_or lists (index_of feature place) (usual_listed f.Ccid located.Here)

-- the same lists with this for that row
abbrev pub list_put : List RowSetup → Feature → Place → RowSetup → List RowSetup
list_put lists feature place listed = slice_set lists (index_of feature place) listed

-- this wish takes the place of the row's, and its offer stays
abbrev pub with_wish : List RowSetup → Feature → Place → Wanted → List RowSetup
with_wish lists feature place wish = list_put lists feature place (record (listed_at lists feature place) { wish = Some wish })

-- an offer's Change is sent plain or after Mandatory
abbrev pub offer_of : Bool → Offer
offer_of true = offer.Mandatory
offer_of false = offer.Plain

-- the row is offered, and its wish stays
abbrev pub with_offer : List RowSetup → Feature → Place → Bool → List RowSetup
with_offer lists feature place mandatory =
    list_put lists feature place (record (listed_at lists feature place) { offer = offer_of mandatory })

-- an entry that keeps its wish, but is not offered
abbrev pub unoffered : RowSetup → RowSetup
unoffered listed = record listed { offer = offer.Nothing }

-- the same wishes, none of which is offered
abbrev pub without_offers : List RowSetup → List RowSetup
without_offers lists = map unoffered lists

-- what holds of each row's entry
pub record IsListedFor (feature : Feature) (place : Place) (listed : RowSetup) : Type 0 where
  pub feature_is : listed.feature ≡ feature
  pub place_is : listed.place ≡ place
  pub wish : is_active feature place listed.wish ≡ true
  pub offer : is_ours feature place ≡ false → listed.offer ≡ offer.Nothing

-- there is one for each row
pub record IsLists (lists : List RowSetup) : Type 0 where
  pub size : length lists ≡ 18
  pub each : (feature : Feature) (place : Place) → IsListedFor feature place (listed_at lists feature place)
