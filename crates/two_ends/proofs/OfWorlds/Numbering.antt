-- A side's numbered frames carry ISS, ISS + 1, and so on up to GSS; its end is proper, and its GSR and GSS are numbers.
use Rattle.std.proofs.Common.{◌≡◌, ◌≢◌, refl, ap, sym, ◌∙◌, subst, ℕ, ◌+◌, ◌-◌, ◌%◌, ◌^◌, ◌<◌, ◌≤◌, Bool, if◌then◌else◌, List, Option, Some, None, true, false, [], ◌∷◌, length, length-append, arith}
use Rattle.seq_circle.specs.Circle.{is_ack_far, is_before, later_of, residue}
use Rattle.dccp_packets.specs.Forms.{may_be_short}
use Rattle.dccp_packets.specs.Grammar.{packet_type}
use Rattle.dccp_packets.specs.Kinds.{ack_of}
use Rattle.dccp_packets.specs.Outgoing.{Outgoing}
use Rattle.dccp_packets.specs.Widths.{kind_in_widths}
use Rattle.dccp_packets.specs.declared.header.Kind.{Kind}
use Rattle.dccp_packets.specs.declared.header.Kind.TheVariants as kind
use Rattle.dccp_packets.specs.declared.header.PacketType.TheVariants as types
use Rattle.dccp_states.specs.declared.phase.Role.{Role}
use Rattle.dccp_endpoint.specs.Causes.{Came, HasFrame, IsHearing, IsSending, Keeps as KeepsHeard, Starts, Raises, Rests, Acks, Others, Refuses, is_without_connection}
use Rattle.dccp_endpoint.specs.Reporting.{is_acking}
use Rattle.dccp_endpoint.specs.Drafts.{Draft, Fits, IsSendable, alone}
use Rattle.dccp_endpoint.specs.Effects.{Effect, HeardNumber, Transmission, Silent, Next, WithoutConnection, end_after, frame_by, greatest_by, gss_by}
use Rattle.dccp_endpoint.specs.End.{EndState, IsProper, floor_of}
use Rattle.dccp_endpoint.specs.Incoming.{Incoming}
use Rattle.dccp_endpoint.specs.ShortForm.{goes_short}
use Rattle.dccp_states.specs.declared.phase.Phase.{Phase}
use Rattle.dccp_endpoint.specs.Inputs.{Input}
use Rattle.dccp_endpoint.specs.Steps.{next_number}
use Rattle.dccp_endpoint.proofs.Spelled.{goes-may, next-kept, without-kept}
use Rattle.dccp_endpoint.proofs.Staying.{first-proper, proper-after}
use Rattle.two_ends.specs.Numbered.{IsNumberOf}
use Rattle.two_ends.specs.declared.frames.SentFrame.{SentFrame}
use Rattle.two_ends.specs.World.{as_sent}
use Rattle.two_ends.proofs.OfWorlds.Acting.{Act, Keeps, NoFact, Party, acted, config_of, drafted_by, end_of, logged_by, processed_by, sent_by}
use Rattle.two_ends.proofs.OfWorlds.Logged.{AreLogged, Logged, NoFrames, Numbered, Unnumbered, logged-append, logged-few}
use Rattle.two_ends.proofs.OfWorlds.ReadBack.{AreNumbers, IsFromLog, arrived-so, from-log, kept-frame}

pub record IsOrdered (x : Party) : Type 0 where
  pub proper : IsProper (end_of x)
  pub fits : Fits (config_of x)
  pub first : (end_of x).marks.iss ≡ (config_of x).iss
  pub logged : AreLogged (config_of x) (config_of x).iss x.half.frames x.log
  pub greatest : (end_of x).marks.gss ≡ residue ((config_of x).iss + length x.log + (2 ^ 48 - 1))
  pub few : length x.half.frames < 2 ^ 47
  pub numbers : AreNumbers (end_of x)

-- fewer than half the circle's numbers are used
pub few-logged : (x : Party) → IsOrdered x → length x.log < 2 ^ 47
few-logged x o = omega (arith, logged-few (config_of x) o.logged, o.few)

abbrev pub more-sent : (iss count more number : ℕ) → count ≤ more → IsNumberOf iss count number → IsNumberOf iss more number
more-sent iss count more number above s = record { place = s.place; was_sent = omega (arith, s.was_sent, above); same = s.same }

-- A packet that comes, other than a Reset, is one that the peer logged.
pub came-logged : (act : Act) → IsOrdered act.peer → (a : Incoming) → Came (end_of act.side) act.given a → a.kind ≢ types.Reset
    → IsFromLog (config_of act.peer).iss act.peer.log a
came-logged act peer a came other =
    from-log (end_of act.side) act.given a came (config_of act.peer) act.numbers act.peer.half.frames act.peer.log act.arrived act.from_peer other peer.logged

-- The number that comes with a packet is the one that its sender gave it.
pub came-arrived : (act : Act) → IsOrdered act.peer → (a : Incoming) → Came (end_of act.side) act.given a → act.arrived ≡ Some a.number
came-arrived act peer a came =
    arrived-so (end_of act.side) act.given a came (config_of act.peer) act.numbers act.peer.half.frames act.peer.log act.arrived act.from_peer peer.logged

-- An Ack and a DataAck have a connection.
acking-connected : (r : Role) (k : Kind) → is_acking (packet_type k) ≡ true → is_without_connection r k ≡ false
acking-connected r (kind.Reset ack code detail) is = cc is
acking-connected r _ is = refl

-- of these types the one that is no Ack and no DataAck acknowledges nothing
others-none : (k : Kind) → is_acking (packet_type k) ≡ false → may_be_short (packet_type k) ≡ true → ack_of (kind_in_widths k) ≡ None
others-none kind.Data other may = refl
others-none (kind.Ack ack) other may = cc other
others-none (kind.DataAck ack) other may = cc other
others-none _ other may = cc may

-- a packet that may be short, and is neither Ack nor DataAck, is not far by what it acknowledges
pub others-near : (k : Kind) (gsr : ℕ) → is_acking (packet_type k) ≡ false → may_be_short (packet_type k) ≡ true
    → is_ack_far (ack_of (kind_in_widths k)) gsr ≡ false
others-near k gsr other may = ap (λ (ack : Option ℕ). is_ack_far ack gsr) (others-none k other may)

module _ (e : EndState) (f : Effect) (processed floor first : ℕ) where
  -- a packet under the next number is logged
  next-logged : (draft : Draft) → next_number e ≡ residue first → is_without_connection e.config.role draft.kind ≡ false → IsSendable draft
      → AreLogged e.config first (as_sent processed floor (frame_by e f (Next draft))) (record { draft = draft; processed = processed; floor = floor } ∷ [])
  next-logged draft same connected sendable =
      let short : Bool = goes_short (end_after e f) draft in
      let log : List Logged = record { draft = draft; processed = processed; floor = floor } ∷ [] in
      subst (λ (frames : List SentFrame). AreLogged e.config first frames log)
      (sym (kept-frame e.config short (next_number e) draft processed floor (next-kept e)))
      (Numbered (next_number e) same
      (record { sendable = sendable; of_connection = connected; short = short; form = goes-may (end_after e f) draft; same = refl }) NoFrames)

  -- what goes out is logged under the next number, or not at all
  sent-logged : (given : Input) (s : Transmission) → next_number e ≡ residue first → IsSending e given f s → HasFrame s
      → AreLogged e.config first (as_sent processed floor (frame_by e f s)) (logged_by processed floor s)
  sent-logged given Silent same Rests framed = NoFrames
  sent-logged given (Next draft) same (Acks _ acking ack connected owed unacked) framed =
      next-logged draft same (acking-connected e.config.role draft.kind acking) framed
  sent-logged given (Next draft) same (Others _ acking ack connected) framed = next-logged draft same connected framed
  sent-logged given (WithoutConnection number k) same (Refuses a code came without unheard turns unmoved) framed =
      subst (λ (frames : List SentFrame). AreLogged e.config first frames [])
      (sym (kept-frame e.config false number (alone k) processed floor (without-kept a.ack)))
      (Unnumbered (record { number = number; kind = k; sendable = framed; without_connection = without; same = refl; numbered = refl; acks = refl }) NoFrames)

sent-greatest : (e : EndState) (s : Transmission) (processed floor count : ℕ) → e.marks.gss ≡ residue (e.config.iss + count + (2 ^ 48 - 1))
    → gss_by e s ≡ residue (e.config.iss + (count + length (logged_by processed floor s)) + (2 ^ 48 - 1))
sent-greatest e Silent processed floor count is = omega (arith, is)
sent-greatest e (Next draft) processed floor count is = omega (arith, is)
sent-greatest e (WithoutConnection number k) processed floor count is = omega (arith, is)

-- a step sends one frame at most
pub sent-few : (processed floor : ℕ) (frame : Option Outgoing) → length (as_sent processed floor frame) ≤ 1
sent-few processed floor None = omega arith
sent-few processed floor (Some sent) = omega arith

later-fits : (gsr number : ℕ) → gsr < 2 ^ 48 → number < 2 ^ 48 → later_of gsr number < 2 ^ 48
later-fits gsr number old new = by (is_before gsr number) where
  by : (later : Bool) → (if later then number else gsr) < 2 ^ 48
  by true = new
  by false = old

-- GSR stays a number: what raises it is a number of the peer's
heard-fits : (act : Act) → IsOrdered act.peer → (phase : Phase) (h : HeardNumber) → IsHearing (end_of act.side) act.given phase h
    → greatest_by (end_of act.side).marks.gsr h < 2 ^ 48
heard-fits act peer phase _ (KeepsHeard live) = act.numbers.gsr
heard-fits act peer phase _ (Starts a how came other entrance taken passes) =
    let from = came-logged act peer a came other in
    omega (arith, from.read.number)
heard-fits act peer phase _ (Raises a how came other entrance valid passes) =
    let from = came-logged act peer a came other in
    later-fits (end_of act.side).marks.gsr a.number act.numbers.gsr (omega (arith, from.read.number))

acting : (act : Act) → IsOrdered act.side → IsOrdered act.peer → IsOrdered (acted act)
acting act o peer =
    let e : EndState = end_of act.side in
    let processed : ℕ = length (processed_by act.side.half act.arrived act.effect) in
    let after : EndState = end_after e act.effect in
    let floor : ℕ = floor_of after in
    let next : next_number e ≡ residue (e.config.iss + length act.side.log) = omega (arith, o.greatest) in
    let greatest : after.marks.gss ≡ residue (e.config.iss + length (acted act).log + (2 ^ 48 - 1)) =
    sent-greatest e act.effect.sending processed floor (length act.side.log) o.greatest
    ∙ ap (λ (n : ℕ). residue (e.config.iss + n + (2 ^ 48 - 1))) (sym (length-append act.side.log (drafted_by act.side.half act.arrived act.effect))) in
    let numbers : AreNumbers after =
    record { gsr = heard-fits act peer act.effect.phase act.effect.hearing act.because.hears; gss = omega (arith, greatest) } in
    record {
      proper = proper-after o.proper act.because;
      fits = o.fits;
      first = o.first;
      logged =
          logged-append e.config _ (sent_by act.side.half act.arrived act.effect) (drafted_by act.side.half act.arrived act.effect) refl o.logged
          (sent-logged e act.effect processed floor _ act.given act.effect.sending next act.because.sends act.because.framed);
      greatest = greatest;
      few = omega (
        arith,
        act.room,
        sent-few processed floor (frame_by e act.effect act.effect.sending),
        length-append act.side.half.frames (sent_by act.side.half act.arrived act.effect),
      );
      numbers = numbers;
    }

-- a fact of both sides after every schedule
pub numbering : Keeps NoFact (λ x y. IsOrdered x)
numbering =
    record {
      starts =
          λ own peer own_fits peer_fits.
          record {
            proper = first-proper own own_fits.lists;
            fits = own_fits;
            first = refl;
            logged = NoFrames;
            greatest = omega arith;
            few = omega arith;
            numbers = record { gsr = omega arith; gss = omega arith };
          };
      acts = λ act none (here, there). (acting act here there, there);
    }
