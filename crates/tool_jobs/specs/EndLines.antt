-- The lines of frames and ends (own).
use Rattle.std.specs.Prelude.{ℕ, ◌++◌, List, [], ◌∷◌, codes, decimal, flat_map}
use Rattle.hex.specs.Hex.{encode_lower}
use Rattle.feature_lists.specs.Features.{feature_number}
use Rattle.feature_lists.specs.declared.features.Feature.{Feature}
use Rattle.feature_lists.specs.declared.features.Feature.TheVariants as feature
use Rattle.feature_lists.specs.declared.features.Place.TheVariants.{Here, There}
use Rattle.ccid_two.specs.Kinds.{Both, kinds_control}
use Rattle.dccp_endpoint.specs.Controlled.{End, window_of, in_flight_of}
use Rattle.dccp_endpoint.specs.End.{EndState, held_of}
use Rattle.feature_machine.specs.declared.stands.Held.{Held}
use Rattle.world_events.specs.declared.event.Side.{Side}
use Rattle.schedule_text.specs.Names.{side_name}
use Rattle.schedule_text.specs.Printing.{frame_name}
use Rattle.tool_jobs.specs.Text.{phase_name, stand_mark}

-- The line of a frame of these bytes that was sent.
abbrev pub bytes_line : Side → ℕ → List ℕ → List ℕ
bytes_line side index bytes = codes "sent " ++ frame_name side index ++ codes " " ++ encode_lower bytes ++ codes "\n"

-- the value that an end has for a feature, marked if it is not settled
abbrev pub held_text : Held → List ℕ
held_text held = decimal held.value ++ stand_mark held.stand

-- A feature's two values, Here and There.
unfoldable pub row_text : EndState → Feature → List ℕ
row_text e feature =
    codes " " ++ decimal (feature_number feature) ++ codes "=" ++ held_text (held_of e feature Here) ++ codes "/" ++ held_text (held_of e feature There)

-- the nine features, in the order of their numbers
abbrev pub all_features : List Feature
all_features =
    feature.Ccid ∷ feature.ShortSeqnos ∷ feature.SequenceWindow ∷ feature.EcnIncapable ∷ feature.AckRatio
    ∷ feature.SendAckVector ∷ feature.SendNdpCount ∷ feature.MinCsCov ∷ feature.CheckDataChecksum ∷ []

-- The line of an end when the input is over, in its three parts.
abbrev pub end_name : Side → EndState → List ℕ
end_name side e = codes "end " ++ side_name side ++ codes " " ++ phase_name e.phase

-- how many data packets may be in flight, and how many are
abbrev pub end_counts : Both → List ℕ
end_counts both =
    codes " window " ++ decimal (window_of kinds_control both) ++ codes " flight " ++ decimal (in_flight_of kinds_control both)

-- the values of all features, a row for each
unfoldable pub end_rows : EndState → List ℕ
end_rows e = flat_map (row_text e) all_features

-- the line of an end: its side and phase, the counts of its congestion control, and its features
abbrev pub end_line : Side → End Both → List ℕ
end_line side e = end_name side e.state ++ end_counts e.congestion ++ end_rows e.state ++ codes "\n"
