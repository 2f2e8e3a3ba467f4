-- The features' table (RFC 4340, section 6.4, and section 6.3 for the rules). What a value may be, and the lists that
-- an end has unless told otherwise, are own.
use Rattle.std.specs.Prelude.{ℕ, ◌-◌, ◌^◌, ◌==◌, ◌&&◌, nat_le, Bool, true, false, List, [], ◌∷◌, Option, Some, None, if◌then◌else◌, ◌≡◌}
use Rattle.std.specs.List.{list_any}
use Rattle.feature_lists.specs.declared.features.Feature.{Feature}
use Rattle.feature_lists.specs.declared.features.Feature.TheVariants as f
use Rattle.feature_lists.specs.declared.features.Place.{Place}
use Rattle.feature_lists.specs.declared.features.Place.TheVariants as place

-- a test of values: one of these
abbrev pub one_of : List ℕ → ℕ → Bool
one_of values value = list_any (λ other. other == value) values

-- a test of values: from one to another, both included
abbrev pub from_to : ℕ → ℕ → ℕ → Bool
from_to least greatest value = nat_le least value && nat_le value greatest

-- a line of the table
pub record FeatureRow : Type 0 where
  pub number : ℕ
  -- the rule: server-priority over lists, or else non-negotiable (RFC 4340, sections 6.3.1 and 6.3.2)
  pub is_server_priority : Bool
  -- the bytes of one value
  pub width : ℕ
  pub initial : ℕ
  pub permitted_here : ℕ → Bool
  pub permitted_there : ℕ → Bool
  pub list_here : List ℕ
  pub list_there : List ℕ
  -- every end has to understand it (RFC 4340, section 6.4)
  pub is_required : Bool

-- a feature whose value is the reconciliation of two lists
abbrev pub server_priority : ℕ → ℕ → (ℕ → Bool) → (ℕ → Bool) → List ℕ → List ℕ → Bool → FeatureRow
server_priority number initial permitted_here permitted_there list_here list_there is_required =
    record {
      number = number;
      is_server_priority = true;
      width = 1;
      initial = initial;
      permitted_here = permitted_here;
      permitted_there = permitted_there;
      list_here = list_here;
      list_there = list_there;
      is_required = is_required;
    }

-- a feature whose location states its value; a value that is asked for at the peer has the same range
abbrev pub non_negotiable : ℕ → ℕ → ℕ → (ℕ → Bool) → ℕ → Bool → FeatureRow
non_negotiable number width initial permitted usual is_required =
    record {
      number = number;
      is_server_priority = false;
      width = width;
      initial = initial;
      permitted_here = permitted;
      permitted_there = permitted;
      list_here = usual ∷ [];
      list_there = usual ∷ [];
      is_required = is_required;
    }

-- number, initial value, permitted here and there, list here and there, required; with a width for the non-negotiable
abbrev pub described : Feature → FeatureRow
described f.Ccid =
    server_priority 1 2 (one_of (2 ∷ 248 ∷ [])) (one_of (2 ∷ 248 ∷ [])) (2 ∷ 248 ∷ []) (2 ∷ 248 ∷ []) true
described f.ShortSeqnos = server_priority 2 0 (from_to 0 1) (from_to 0 1) (0 ∷ []) (0 ∷ []) true
described f.SequenceWindow = non_negotiable 3 6 100 (from_to 32 (2 ^ 46 - 1)) 100 true
described f.EcnIncapable = server_priority 4 0 (one_of (1 ∷ [])) (from_to 0 1) (1 ∷ []) (1 ∷ 0 ∷ []) false
described f.AckRatio = non_negotiable 5 2 2 (from_to 0 65535) 2 false
described f.SendAckVector = server_priority 6 0 (from_to 0 1) (from_to 0 1) (1 ∷ 0 ∷ []) (1 ∷ []) false
described f.SendNdpCount = server_priority 7 0 (one_of (0 ∷ [])) (one_of (0 ∷ [])) (0 ∷ []) (0 ∷ []) false
described f.MinCsCov = server_priority 8 0 (from_to 0 15) (from_to 0 15) (0 ∷ []) (0 ∷ []) false
described f.CheckDataChecksum = server_priority 9 0 (one_of (0 ∷ [])) (one_of (0 ∷ [])) (0 ∷ []) (0 ∷ []) false

-- the feature's number
abbrev pub feature_number : Feature → ℕ
feature_number feature = (described feature).number

-- the value before any negotiation
abbrev pub initial_of : Feature → ℕ
initial_of feature = (described feature).initial

-- an end of this project may put the value into a list for the feature at this place
abbrev pub is_permitted : Feature → Place → ℕ → Bool
is_permitted feature place.Here value = (described feature).permitted_here value
is_permitted feature place.There value = (described feature).permitted_there value

-- the list of an end by default
abbrev pub usual_values : Feature → Place → List ℕ
usual_values feature place.Here = (described feature).list_here
usual_values feature place.There = (described feature).list_there

-- the feature of a number, if there is one
abbrev pub feature_numbered : ℕ → Option Feature
feature_numbered n =
    if n == 1 then Some f.Ccid
    else if n == 2 then Some f.ShortSeqnos
    else if n == 3 then Some f.SequenceWindow
    else if n == 4 then Some f.EcnIncapable
    else if n == 5 then Some f.AckRatio
    else if n == 6 then Some f.SendAckVector
    else if n == 7 then Some f.SendNdpCount
    else if n == 8 then Some f.MinCsCov
    else if n == 9 then Some f.CheckDataChecksum
    else None

-- The feature is non-negotiable: its value is the one that its location states (RFC 4340, section 6.3.2).
abbrev pub IsNonNegotiable : Feature → Type 0
IsNonNegotiable feature = (described feature).is_server_priority ≡ false
