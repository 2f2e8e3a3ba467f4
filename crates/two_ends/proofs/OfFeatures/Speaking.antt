-- No frame says two things of one feature, and none has an Ack Vector without an acknowledgement number.
use Rattle.std.proofs.Common.{◌≡◌, refl, ap, sym, ◌∙◌, ℕ, ◌+◌, ◌≤◌, ◌&&◌, Bool, true, false, if◌then◌else◌, List, [], ◌∷◌, drop, Option, Some, None, Result, Ok, Err, slice_get, map, arith}
use Rattle.std.specs.List.{All}
use Rattle.dccp_options.specs.Grammar.{Entry}
use Rattle.dccp_options.specs.Vectors.{ack_vectors}
use Rattle.dccp_options.specs.Written.{entries_at}
use Rattle.dccp_packets.specs.Grammar.{Parts}
use Rattle.dccp_packets.specs.Kinds.{ack_of}
use Rattle.dccp_options.specs.declared.option.OptFault.{OptFault}
use Rattle.dccp_endpoint.specs.Heeding.{is_left, is_of_negotiation}
use Rattle.dccp_endpoint.specs.Saying.{begins_with_number, once_if, times_said_to}
use Rattle.dccp_endpoint.specs.Speaking.{is_of_place}
use Rattle.feature_machine.specs.Negotiating.{opposite}
use Rattle.feature_lists.specs.Features.{feature_number}
use Rattle.feature_lists.specs.declared.features.Feature.{Feature}
use Rattle.feature_lists.specs.declared.features.Place.{Place}
use Rattle.world_events.specs.declared.event.Side.{Side}
use Rattle.two_ends.specs.declared.frames.SentFrame.{SentFrame}
use Rattle.two_ends.specs.Frames.{options_in, packet_of}
use Rattle.two_ends.specs.Numbered.{SpeaksOnce}
use Rattle.two_ends.specs.Pairs.{FeatureAt, one_if_said, place_at, said_times, times_said, values_for}
use Rattle.two_ends.proofs.OfWorlds.Acting.{Party, config_of}
use Rattle.two_ends.proofs.OfFeatures.Carrying.{types-placed, values-named}
use Rattle.two_ends.proofs.OfFeatures.KeyHearing.{IsWell}
use Rattle.two_ends.proofs.OfWorlds.Logged.{Found, AtPlace, Nowhere, at-place, found}
use Rattle.two_ends.proofs.OfWorlds.Numbering.{IsOrdered}
use Rattle.two_ends.proofs.OfWorlds.ReadBack.{logged-options, unlogged-options}

-- one option counts the same for a reader of frames and for the peer's row
counted : (typed named placed : Bool) (values : List ℕ) (rest more : ℕ) → rest ≡ more
    → (if typed && placed then one_if_said (if named then Some values else None) + rest else rest) ≡ once_if (typed && (named && placed)) + more
counted true true true values rest more same = ap (λ (n : ℕ). 1 + n) same
counted true true false values rest more same = omega (arith, same)
counted true false true values rest more same = omega (arith, same)
counted true false false values rest more same = omega (arith, same)
counted false named placed values rest more same = omega (arith, same)

-- So often a packet speaks of a pair as it speaks to the row of the peer.
times-as : (feature : Feature) (place : Place) (options : List (Result Entry OptFault))
    → said_times (feature_number feature) place options ≡ times_said_to (feature, opposite place) options
times-as feature place [] = refl
times-as feature place (Err fault ∷ rest) = times-as feature place rest
times-as feature place (Ok entry ∷ rest) =
    let later : ℕ = said_times (feature_number feature) place rest in
    ap (λ (of_pair : Bool). if of_pair then one_if_said (values_for (feature_number feature) entry.body) + later else later)
    (sym (types-placed place entry.kind))
    ∙ ap
    (λ (values : Option (List ℕ)).
    if is_of_negotiation entry.kind && is_of_place (is_left entry.kind) (opposite (opposite place)) then one_if_said values + later else later)
    (values-named (feature_number feature) entry.body)
    ∙ counted (is_of_negotiation entry.kind) (begins_with_number (feature_number feature) entry.body)
    (is_of_place (is_left entry.kind) (opposite (opposite place)))
    (drop 1 entry.body) later (times_said_to (feature, opposite place) rest) (times-as feature place rest)

-- What holds of each frame of a side.
pub record IsSaidOnce (bytes : List ℕ) : Type 0 where
  pub once : (side : Side) (pair : FeatureAt) → times_said pair side bytes ≤ 1

found-once : (x : Party) (peer_iss : ℕ) (frame : SentFrame) → All (IsWell peer_iss) x.log → Found (config_of x) (config_of x).iss x.log frame
    → IsSaidOnce frame.bytes
found-once x peer_iss frame well (AtPlace place number l there same is) =
    let said = at-place (IsWell peer_iss) x.log place l well there in
    let options : options_in frame.bytes ≡ map Ok (entries_at 0 l.draft.options) = logged-options (config_of x) number frame l is in
    record {
      once =
          λ side pair.
          let at : Place = place_at side pair.location in
          let times : times_said pair side frame.bytes ≡ times_said_to (pair.feature, opposite at) (map Ok (entries_at 0 l.draft.options)) =
          ap (said_times (feature_number pair.feature) at) options ∙ times-as pair.feature at (map Ok (entries_at 0 l.draft.options)) in
          omega (arith, times, said.once (pair.feature, at));
    }
found-once x peer_iss frame well (Nowhere is) =
    let options : options_in frame.bytes ≡ [] = unlogged-options (config_of x) frame is in
    record {
      once =
          λ side pair.
          let times : times_said pair side frame.bytes ≡ 0 = ap (said_times (feature_number pair.feature) (place_at side pair.location)) options in
          omega (arith, times);
    }

-- each frame of a side says one thing of a feature at most
pub frame-once : (x : Party) (peer_iss index : ℕ) (frame : SentFrame) → IsOrdered x → All (IsWell peer_iss) x.log → slice_get x.half.frames index ≡ Some frame
    → IsSaidOnce frame.bytes
frame-once x peer_iss index frame o well there = found-once x peer_iss frame well (found (config_of x) index frame o.logged there)

-- so it speaks once
pub speaks-once : (side : Side) (bytes : List ℕ) → IsSaidOnce bytes
    → ((packet : Parts) → packet_of bytes ≡ Some packet → ack_of packet.header.kind ≡ None → ack_vectors (options_in bytes) ≡ []) → SpeaksOnce side bytes
speaks-once side bytes said vectors = record { of_each_pair = λ pair. said.once side pair; vectors_acknowledge = vectors }
