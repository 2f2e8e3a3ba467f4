-- Worked rows of the features, of what may be wished for them, and of what two lists settle on, computed from the definitions. What is required and the
-- initial values are of RFC 4340, section 6.4; what is permitted and what is usual were written by hand from this profile.
use Rattle.std.proofs.Common.{◌≡◌, refl, ℕ, Bool, true, false, List, [], ◌∷◌, Option, None, Some, option_map, Result, Ok, Err}
use Rattle.feature_lists.specs.Features.{described, feature_number, feature_numbered, initial_of, is_permitted, usual_values}
use Rattle.feature_lists.specs.Lists.{reconciled}
use Rattle.feature_lists.specs.Wishes.{usual_of, wish_of}
use Rattle.feature_lists.specs.declared.features.Feature.{Feature}
use Rattle.feature_lists.specs.declared.features.Feature.TheVariants as f
use Rattle.feature_lists.specs.declared.features.Place.{Place}
use Rattle.feature_lists.specs.declared.features.Place.TheVariants.{Here, There}
use Rattle.feature_lists.specs.declared.wishes.PreferFault.{PreferFault}
use Rattle.feature_lists.specs.declared.wishes.PreferFault.TheVariants as refused
use Rattle.feature_lists.specs.declared.wishes.Wanted.{Wanted}
use Rattle.feature_lists.specs.declared.wishes.Wanted.TheVariants as wanted

-- A number, and its feature: that number again, whether lists settle it, a value's bytes, whether every end has to understand it (RFC 4340, section 6.4), and its value
-- before any negotiation.
abbrev line : Feature → Feature × ℕ × Bool × ℕ × Bool × ℕ
line feature = (
  feature,
  feature_number feature,
  (described feature).is_server_priority,
  (described feature).width,
  (described feature).is_required,
  initial_of feature,
)

abbrev line_of : ℕ → Option (Feature × ℕ × Bool × ℕ × Bool × ℕ)
line_of number = option_map line (feature_numbered number)

the_table_of_features :
    (feature_numbered 0 ≡ None)
    × (line_of 1 ≡ Some (f.Ccid, 1, true, 1, true, 2))
    × (line_of 2 ≡ Some (f.ShortSeqnos, 2, true, 1, true, 0))
    × (line_of 3 ≡ Some (f.SequenceWindow, 3, false, 6, true, 100))
    × (line_of 4 ≡ Some (f.EcnIncapable, 4, true, 1, false, 0))
    × (line_of 5 ≡ Some (f.AckRatio, 5, false, 2, false, 2))
    × (line_of 6 ≡ Some (f.SendAckVector, 6, true, 1, false, 0))
    × (line_of 7 ≡ Some (f.SendNdpCount, 7, true, 1, false, 0))
    × (line_of 8 ≡ Some (f.MinCsCov, 8, true, 1, false, 0))
    × (line_of 9 ≡ Some (f.CheckDataChecksum, 9, true, 1, false, 0))
    × (feature_numbered 10 ≡ None)
the_table_of_features = (refl, refl, refl, refl, refl, refl, refl, refl, refl, refl, refl)

-- Whether a value is permitted, and the result of a wish for only this value.
abbrev edge : Feature → Place → ℕ → Bool × Result Wanted PreferFault
edge feature place value = (is_permitted feature place value, wish_of feature place (value ∷ []))

-- The values that are usual, and the usual wish: for what the peer decides there is none.
abbrev usually : Feature → Place → List ℕ × Option Wanted
usually feature place = (usual_values feature place, usual_of feature place)

what_may_be_wished :
    -- values that are permitted and that are not
    (edge f.Ccid Here 2 ≡ (true, Ok (wanted.List (2 ∷ []))))
    × (edge f.Ccid Here 1 ≡ (false, Err refused.BadList))
    × (edge f.Ccid There 248 ≡ (true, Ok (wanted.List (248 ∷ []))))
    × (edge f.Ccid There 3 ≡ (false, Err refused.BadList))
    × (edge f.Ccid There 2 ≡ (true, Ok (wanted.List (2 ∷ []))))
    × (edge f.Ccid There 1 ≡ (false, Err refused.BadList))
    × (edge f.Ccid There 249 ≡ (false, Err refused.BadList))
    × (edge f.Ccid Here 248 ≡ (true, Ok (wanted.List (248 ∷ []))))
    × (edge f.Ccid Here 249 ≡ (false, Err refused.BadList))
    × (edge f.Ccid There 247 ≡ (false, Err refused.BadList))
    × (edge f.ShortSeqnos Here 0 ≡ (true, Ok (wanted.List (0 ∷ []))))
    × (edge f.ShortSeqnos Here 1 ≡ (true, Ok (wanted.List (1 ∷ []))))
    × (edge f.ShortSeqnos Here 2 ≡ (false, Err refused.BadList))
    × (edge f.ShortSeqnos There 0 ≡ (true, Ok (wanted.List (0 ∷ []))))
    × (edge f.ShortSeqnos There 1 ≡ (true, Ok (wanted.List (1 ∷ []))))
    × (edge f.ShortSeqnos There 2 ≡ (false, Err refused.BadList))
    × (edge f.SequenceWindow Here 32 ≡ (true, Ok (wanted.Number 32)))
    × (edge f.SequenceWindow Here 31 ≡ (false, Err refused.BadList))
    × (edge f.SequenceWindow Here 70368744177663 ≡ (true, Ok (wanted.Number 70368744177663)))
    × (edge f.SequenceWindow Here 70368744177664 ≡ (false, Err refused.BadList))
    × (edge f.EcnIncapable Here 1 ≡ (true, Ok (wanted.List (1 ∷ []))))
    × (edge f.EcnIncapable Here 0 ≡ (false, Err refused.BadList))
    × (edge f.EcnIncapable Here 2 ≡ (false, Err refused.BadList))
    × (edge f.EcnIncapable There 0 ≡ (true, Ok (wanted.List (0 ∷ []))))
    × (edge f.EcnIncapable There 1 ≡ (true, Ok (wanted.List (1 ∷ []))))
    × (edge f.EcnIncapable There 2 ≡ (false, Err refused.BadList))
    × (edge f.AckRatio Here 0 ≡ (true, Ok (wanted.Number 0)))
    × (edge f.AckRatio Here 65535 ≡ (true, Ok (wanted.Number 65535)))
    × (edge f.AckRatio Here 65536 ≡ (false, Err refused.BadList))
    × (edge f.SendAckVector Here 0 ≡ (true, Ok (wanted.List (0 ∷ []))))
    × (edge f.SendAckVector Here 1 ≡ (true, Ok (wanted.List (1 ∷ []))))
    × (edge f.SendAckVector Here 2 ≡ (false, Err refused.BadList))
    × (edge f.SendAckVector There 0 ≡ (true, Ok (wanted.List (0 ∷ []))))
    × (edge f.SendAckVector There 1 ≡ (true, Ok (wanted.List (1 ∷ []))))
    × (edge f.SendAckVector There 2 ≡ (false, Err refused.BadList))
    × (edge f.SendNdpCount Here 0 ≡ (true, Ok (wanted.List (0 ∷ []))))
    × (edge f.SendNdpCount Here 1 ≡ (false, Err refused.BadList))
    × (edge f.SendNdpCount There 0 ≡ (true, Ok (wanted.List (0 ∷ []))))
    × (edge f.SendNdpCount There 1 ≡ (false, Err refused.BadList))
    × (edge f.MinCsCov Here 0 ≡ (true, Ok (wanted.List (0 ∷ []))))
    × (edge f.MinCsCov Here 15 ≡ (true, Ok (wanted.List (15 ∷ []))))
    × (edge f.MinCsCov Here 16 ≡ (false, Err refused.BadList))
    × (edge f.MinCsCov There 0 ≡ (true, Ok (wanted.List (0 ∷ []))))
    × (edge f.MinCsCov There 15 ≡ (true, Ok (wanted.List (15 ∷ []))))
    × (edge f.MinCsCov There 16 ≡ (false, Err refused.BadList))
    × (edge f.CheckDataChecksum Here 0 ≡ (true, Ok (wanted.List (0 ∷ []))))
    × (edge f.CheckDataChecksum Here 1 ≡ (false, Err refused.BadList))
    × (edge f.CheckDataChecksum There 0 ≡ (true, Ok (wanted.List (0 ∷ []))))
    × (edge f.CheckDataChecksum There 1 ≡ (false, Err refused.BadList))
    -- lists of them
    × (wish_of f.MinCsCov Here [] ≡ Err refused.BadList)
    × (wish_of f.MinCsCov Here (1 ∷ 2 ∷ 3 ∷ 4 ∷ 5 ∷ 6 ∷ 7 ∷ 8 ∷ 9 ∷ []) ≡ Err refused.BadList)
    × (wish_of f.MinCsCov There (1 ∷ 2 ∷ 1 ∷ []) ≡ Err refused.BadList)
    × (wish_of f.Ccid There (2 ∷ 248 ∷ 3 ∷ []) ≡ Err refused.BadList)
    × (wish_of f.AckRatio Here [] ≡ Err refused.BadList)
    × (wish_of f.AckRatio Here (2 ∷ 3 ∷ []) ≡ Err refused.BadList)
    × (wish_of f.SequenceWindow There (31 ∷ []) ≡ Err refused.BadList)
    × (wish_of f.SequenceWindow There (200 ∷ []) ≡ Err refused.NotOurs)
    × (wish_of f.AckRatio There (2 ∷ []) ≡ Err refused.NotOurs)
    × (wish_of f.MinCsCov There (8 ∷ 7 ∷ 6 ∷ 5 ∷ 4 ∷ 3 ∷ 2 ∷ 1 ∷ []) ≡ Ok (wanted.List (8 ∷ 7 ∷ 6 ∷ 5 ∷ 4 ∷ 3 ∷ 2 ∷ 1 ∷ [])))
    -- what is usual
    × (usually f.Ccid Here ≡ ((2 ∷ 248 ∷ []), Some (wanted.List (2 ∷ 248 ∷ []))))
    × (usually f.Ccid There ≡ ((2 ∷ 248 ∷ []), Some (wanted.List (2 ∷ 248 ∷ []))))
    × (usually f.ShortSeqnos Here ≡ ((0 ∷ []), Some (wanted.List (0 ∷ []))))
    × (usually f.ShortSeqnos There ≡ ((0 ∷ []), Some (wanted.List (0 ∷ []))))
    × (usually f.SequenceWindow Here ≡ ((100 ∷ []), Some (wanted.Number 100)))
    × (usually f.SequenceWindow There ≡ ((100 ∷ []), None))
    × (usually f.EcnIncapable Here ≡ ((1 ∷ []), Some (wanted.List (1 ∷ []))))
    × (usually f.EcnIncapable There ≡ ((1 ∷ 0 ∷ []), Some (wanted.List (1 ∷ 0 ∷ []))))
    × (usually f.AckRatio Here ≡ ((2 ∷ []), Some (wanted.Number 2)))
    × (usually f.AckRatio There ≡ ((2 ∷ []), None))
    × (usually f.SendAckVector Here ≡ ((1 ∷ 0 ∷ []), Some (wanted.List (1 ∷ 0 ∷ []))))
    × (usually f.SendAckVector There ≡ ((1 ∷ []), Some (wanted.List (1 ∷ []))))
    × (usually f.SendNdpCount Here ≡ ((0 ∷ []), Some (wanted.List (0 ∷ []))))
    × (usually f.SendNdpCount There ≡ ((0 ∷ []), Some (wanted.List (0 ∷ []))))
    × (usually f.MinCsCov Here ≡ ((0 ∷ []), Some (wanted.List (0 ∷ []))))
    × (usually f.MinCsCov There ≡ ((0 ∷ []), Some (wanted.List (0 ∷ []))))
    × (usually f.CheckDataChecksum Here ≡ ((0 ∷ []), Some (wanted.List (0 ∷ []))))
    × (usually f.CheckDataChecksum There ≡ ((0 ∷ []), Some (wanted.List (0 ∷ []))))
what_may_be_wished = (
  refl,
  refl,
  refl,
  refl,
  refl,
  refl,
  refl,
  refl,
  refl,
  refl,
  refl,
  refl,
  refl,
  refl,
  refl,
  refl,
  refl,
  refl,
  refl,
  refl,
  refl,
  refl,
  refl,
  refl,
  refl,
  refl,
  refl,
  refl,
  refl,
  refl,
  refl,
  refl,
  refl,
  refl,
  refl,
  refl,
  refl,
  refl,
  refl,
  refl,
  refl,
  refl,
  refl,
  refl,
  refl,
  refl,
  refl,
  refl,
  refl,
  refl,
  refl,
  refl,
  refl,
  refl,
  refl,
  refl,
  refl,
  refl,
  refl,
  refl,
  refl,
  refl,
  refl,
  refl,
  refl,
  refl,
  refl,
  refl,
  refl,
  refl,
  refl,
  refl,
  refl,
  refl,
  refl,
  refl,
  refl,
)

-- The server's list and the client's, and the value that they settle on: the server's order wins (RFC 4340, section 6.3.1).
the_servers_order_wins :
    (reconciled (248 ∷ 2 ∷ []) (2 ∷ 248 ∷ []) ≡ Some 248)
    × (reconciled (2 ∷ 248 ∷ []) (248 ∷ 2 ∷ []) ≡ Some 2)
    × (reconciled (3 ∷ 1 ∷ []) (1 ∷ 2 ∷ 3 ∷ []) ≡ Some 3)
    × (reconciled (5 ∷ 1 ∷ 1 ∷ []) (9 ∷ 1 ∷ []) ≡ Some 1)
    × (reconciled (3 ∷ []) (1 ∷ 2 ∷ []) ≡ None)
    × (reconciled [] (1 ∷ []) ≡ None)
    × (reconciled (1 ∷ []) [] ≡ None)
the_servers_order_wins = (refl, refl, refl, refl, refl, refl, refl)
