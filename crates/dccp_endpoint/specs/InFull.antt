-- What an end reads from a frame, in whichever form its numbers are (RFC 4340, section 7.6).
use Rattle.std.specs.Prelude.{◌≡◌, ℕ, ◌^◌, ◌<◌, Bool, true, false, Option}
use Rattle.seq_circle.specs.Circle.{is_ack_far, is_far, residue}
use Rattle.dccp_packets.specs.Forms.{may_be_short}
use Rattle.dccp_packets.specs.Grammar.{packet_type}
use Rattle.dccp_packets.specs.Kinds.{ack_of}
use Rattle.dccp_packets.specs.Widths.{kind_in_widths}
use Rattle.dccp_endpoint.specs.Causes.{Came}
use Rattle.dccp_endpoint.specs.Drafts.{Draft, IsSendable, frame_of}
use Rattle.dccp_endpoint.specs.End.{EndState}
use Rattle.dccp_endpoint.specs.Incoming.{Incoming}
use Rattle.dccp_endpoint.specs.Inputs.{Input}
use Rattle.dccp_endpoint.specs.Receiving.{takes_short}
use Rattle.dccp_endpoint.specs.declared.config.Config.{Config}

-- A number lies fewer than 2^23 from GSR, and the one acknowledged, if there is one, fewer than 2^23 from GSS, up or
-- down the circle.
pub record HasNearNumbers (e : EndState) (number : ℕ) (ack : Option ℕ) : Type 0 where
  pub gsr_fits : e.marks.gsr < 2 ^ 48
  pub gss_fits : e.marks.gss < 2 ^ 48
  pub number_is_near : is_far number e.marks.gsr ≡ false
  pub ack_is_near : is_ack_far ack e.marks.gss ≡ false

-- what is read is the draft under its number
pub record IsInFull (number : ℕ) (draft : Draft) (a : Incoming) : Type 0 where
  pub number_is : a.number ≡ residue number
  pub type_is : a.kind ≡ packet_type draft.kind
  pub ack_is : a.ack ≡ ack_of (kind_in_widths draft.kind)

-- The frame of a draft, even of another end's, is read with the numbers that it was given, if these are long or near.
abbrev pub FramesAreReadInFull : Type 0
FramesAreReadInFull =
    (e : EndState) (given : Input) (a : Incoming) (came : Came e given a) (config : Config) (short : Bool) (number : ℕ) (draft : Draft)
    → IsSendable draft → (short ≡ true → may_be_short (packet_type draft.kind) ≡ true) → came.bytes ≡ frame_of config short number draft
    → (short ≡ true → takes_short e ≡ true → HasNearNumbers e (residue number) (ack_of (kind_in_widths draft.kind))) → IsInFull number draft a
