-- Worked deliveries of frames with short numbers to an end that takes these, for numbers that are put there: which are too far away to be known.
use Rattle.std.proofs.Common.{◌≡◌, refl, ℕ, [], ◌∷◌, Option, Some, None, true, false, Result, Err}
use Rattle.std.specs.Prelude.{codes, is_ok}
use Prim.Native.String.{String}
use Rattle.tests_ends.proofs.rows.RowsSeen.{bytes, open_server, plain}
use Rattle.tests_ends.proofs.rows.RowsShort.{holding}
use Rattle.dccp_endpoint.specs.Drafts.{framed}
use Rattle.dccp_endpoint.specs.End.{EndState, new_end}
use Rattle.dccp_endpoint.specs.Receiving.{receives}
use Rattle.dccp_endpoint.specs.Steps.{in_phase}
use Rattle.dccp_states.specs.declared.phase.Phase.TheVariants as phase
use Rattle.dccp_states.specs.declared.phase.Role.TheVariants as role
use Rattle.feature_lists.specs.declared.features.Feature.TheVariants.{ShortSeqnos}
use Rattle.feature_lists.specs.declared.features.Place.TheVariants.{There}
use Rattle.world_events.specs.declared.event.Side.TheVariants.{Client}
use Rattle.world_events.specs.declared.event.WorldFault.{WorldFault}
use Rattle.world_events.specs.declared.event.WorldFault.TheVariants as fault
use Rattle.two_ends.specs.World.{Delivers, WorldStep, is_far_frame, takes_place}
use Rattle.two_ends.specs.declared.frames.SentFrame.{SentFrame}

-- the server of the plain handshake, which takes short numbers, with these numbers as its GSR and GSS
abbrev with_marks : EndState → ℕ → ℕ → EndState
with_marks e gsr gss = record e { marks = record e.marks { gsr = gsr; gss = gss } }

abbrev taking : ℕ → ℕ → EndState
taking gsr gss = with_marks (holding ShortSeqnos There 1 open_server) gsr gss

-- a frame of the client's, with its numbers in full
abbrev sent_as : String → ℕ → Option ℕ → SentFrame
sent_as digits number ack = record { bytes = bytes (codes digits); number = number; ack = ack; processed = 0; floor = 0 }

-- An Ack with the short numbers 1002 and 2001, each 2^24 later in full, a Data with the short number 1002, and the Ack with long numbers.
abbrev ack : SentFrame
ack = sent_as "9c40138904002647060003ea000007d1" 16778218 (Some 16779217)

abbrev data_at : ℕ → SentFrame
data_at number = sent_as "9c4013890300a7af040003ea686921" number None

abbrev long_ack : SentFrame
long_ack = sent_as "9c4013890600223f07000000010003ea00000000010007d1" 16778218 (Some 16779217)

-- the client's only frame arrives at the server
abbrev delivered : EndState → SentFrame → Result WorldStep WorldFault
delivered e frame =
    takes_place
    (record {
      client = record { end = new_end (plain role.Client); frames = frame ∷ []; processed = [] };
      server = record { end = e; frames = []; processed = [] };
    })
    (Delivers Client 0)

-- 2^23 off either number, up or down the circle, and over its end
far-frames-are-refused :
    (delivered (taking 25166826 16779217) ack ≡ Err fault.FarShort)
    × (delivered (taking 8389610 16779217) ack ≡ Err fault.FarShort)
    × (delivered (taking 16778218 25167825) ack ≡ Err fault.FarShort)
    × (delivered (taking 16778218 8390609) ack ≡ Err fault.FarShort)
    × (delivered (taking 25166826 16779217) (data_at 16778218) ≡ Err fault.FarShort)
    × (delivered (taking 281474968322053 16779217) (data_at 5) ≡ Err fault.FarShort)
    × (delivered (taking 5 16779217) (data_at 281474968322053) ≡ Err fault.FarShort)
unfolding receives framed
far-frames-are-refused = (refl, refl, refl, refl, refl, refl, refl)

-- one less, and a Data with any GSS
near-frames-arrive :
    (is_ok (delivered (taking 25166825 16779217) ack) ≡ true)
    × (is_ok (delivered (taking 8389611 16779217) ack) ≡ true)
    × (is_ok (delivered (taking 16778218 25167824) ack) ≡ true)
    × (is_ok (delivered (taking 16778218 8390610) ack) ≡ true)
    × (is_ok (delivered (taking 16778218 25167825) (data_at 16778218)) ≡ true)
    × (is_ok (delivered (taking 281474968322054 16779217) (data_at 5)) ≡ true)
unfolding receives framed
near-frames-arrive = (refl, refl, refl, refl, refl, refl)

-- no long frame, and none if short numbers are not taken: by the value at the peer, and in a phase with no connection
other-frames-arrive :
    (is_far_frame (taking 25166826 16779217) long_ack ≡ false)
    × (is_far_frame (with_marks open_server 25166826 16779217) ack ≡ false)
    × (is_far_frame (in_phase (taking 25166826 16779217) phase.Closed) ack ≡ false)
    × (is_far_frame (in_phase (taking 25166826 16779217) phase.TimeWait) ack ≡ false)
unfolding receives framed
other-frames-arrive = (refl, refl, refl, refl)
