-- What the log of a side shows of its rows, and a row as a side of its pair.
use Rattle.std.proofs.Common.{ℕ, List, [], ◌∷◌, Some, None, Ok, map, true}
use Rattle.std.specs.Prelude.{IsTrue}
use Rattle.dccp_options.specs.Written.{entries_at}
use Rattle.dccp_packets.specs.Kinds.{ack_of}
use Rattle.dccp_endpoint.specs.Saying.{said_to}
use Rattle.dccp_endpoint.specs.Turns.{Key}
use Rattle.seq_circle.specs.Counts.{IsNumber, count_of}
use Rattle.two_ends.specs.FeatureRows.{change_in, confirm_in, is_valid_change, is_whole_confirm, side_of}
use Rattle.two_ends.specs.FeatureView.{FeatureNews, FeatureSide}
use Rattle.two_ends.specs.FeatureView.FeatureNews.{Nothing}
use Rattle.feature_lists.specs.declared.features.Feature.{Feature}
use Rattle.feature_machine.specs.Negotiating.{row_at, opposite}
use Rattle.feature_machine.specs.Rows.{RowEvent, Change, Confirm, Prefers, Offers, Sends}
use Rattle.two_ends.proofs.OfWorlds.Acting.{Party, config_of, end_of}
use Rattle.two_ends.proofs.OfWorlds.Logged.{Logged}

-- what a logged packet says of a row of its sender, to the peer's row of the same feature
abbrev pub said_by : Key → Logged → List RowEvent
said_by k l = said_to true (ack_of l.draft.kind) (k.0, opposite k.1) (map Ok (entries_at 0 l.draft.options))

-- what a logged packet carries of a row of its sender
abbrev pub carried_by : ℕ → Feature → List RowEvent → FeatureNews
carried_by peer_iss feature [] = Nothing
carried_by peer_iss feature (Change body mandatory ∷ rest) = change_in feature body
carried_by peer_iss feature (Confirm body (Some ack) ∷ rest) = confirm_in feature (count_of peer_iss ack) body
carried_by peer_iss feature (_ ∷ rest) = Nothing

abbrev pub carried_of : ℕ → Key → Logged → FeatureNews
carried_of peer_iss k l = carried_by peer_iss k.0 (said_by k l)

-- the side of a row: k is the sender's own row
abbrev pub view_of : Party → (peer_iss greatest : ℕ) → Key → FeatureSide
view_of x peer_iss greatest k = side_of (config_of x).iss (row_at (end_of x).rows k.0 k.1) greatest (map (carried_of peer_iss k) x.log)

-- Of a row it says nothing, a valid Change, or a whole Confirm that acknowledges a packet of the peer.
abbrev pub IsWellSaid : ℕ → Key → List RowEvent → Type 0
IsWellSaid peer_iss k [] = Unit {0}
IsWellSaid peer_iss k (Change body mandatory ∷ []) = IsTrue (is_valid_change k.0 k.1 body)
IsWellSaid peer_iss k (Confirm body (Some ack) ∷ []) = IsNumber peer_iss ack × IsTrue (is_whole_confirm k.0 body)
IsWellSaid peer_iss k (Confirm body None ∷ []) = ⊥
IsWellSaid peer_iss k (Prefers wish ∷ []) = ⊥
IsWellSaid peer_iss k (Offers confirmed ∷ []) = ⊥
IsWellSaid peer_iss k (Sends number ∷ []) = ⊥
IsWellSaid peer_iss k (first ∷ (second ∷ rest)) = ⊥
