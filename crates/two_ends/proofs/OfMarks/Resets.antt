-- A Reset that arrives moves nothing that was received, acknowledged or marked, and no row.
use Rattle.std.proofs.Common.{◌≡◌, refl, ap, sym, ◌∙◌, subst, ℕ, ◌&&◌, List, Some, Bool, true, false}
use Rattle.dccp_packets.specs.Grammar.{Parts, packet_type}
use Rattle.dccp_packets.specs.declared.header.Kind.{Kind}
use Rattle.dccp_packets.specs.declared.header.Kind.TheVariants as kind
use Rattle.dccp_packets.specs.declared.header.PacketType.TheVariants as types
use Rattle.dccp_states.specs.declared.phase.Phase.{Phase}
use Rattle.dccp_states.specs.declared.phase.Phase.TheVariants as phases
use Rattle.dccp_endpoint.proofs.Deriving.{Told}
use Rattle.dccp_endpoint.proofs.Walking.{told_of_step}
use Rattle.dccp_endpoint.specs.Causes.{AreTurns, Came, IsHearing, Keeps, Starts, Raises}
use Rattle.dccp_endpoint.specs.Drafts.{alone}
use Rattle.dccp_endpoint.specs.Effects.{Effect, HeardNumber, Unheard, Heard, PacketFate, Refused, Shut, Taken, Transmission, Silent, Next, effect_of_sending, end_after, is_acking_sent}
use Rattle.dccp_endpoint.specs.End.{EndState, IsProper}
use Rattle.dccp_endpoint.specs.Incoming.{Incoming}
use Rattle.dccp_endpoint.specs.Inputs.{Arrives, Input}
use Rattle.dccp_endpoint.specs.Outcomes.{AnswersClose, Faulted, HasCause, HasForm, IsReset, IsSynced, NoAnswer, NoConnection, OtherService, OutOfWindow, Unexpected, WrongService, effect_of_reset, effect_of_sync, hears_first}
use Rattle.dccp_endpoint.specs.Receiving.{receives}
use Rattle.dccp_endpoint.specs.Reporting.{recorded_by, sends_vectors}
use Rattle.dccp_endpoint.specs.Steps.{next_number}
use Rattle.dccp_states.specs.declared.outcome.Fault.{Fault}
use Rattle.dccp_states.specs.declared.outcome.Outcome.{Outcome}
use Rattle.dccp_states.specs.declared.outcome.Outcome.TheVariants.{Took, Dropped, Synced, WasReset, SentReset}
use Rattle.two_ends.specs.Frames.{is_reset, packet_of}
use Rattle.two_ends.specs.Numbered.{KeepsReceived, ResetsMoveNothing}
use Rattle.two_ends.proofs.OfWorlds.ReadBack.{the-packet}

reset-type : (k : Kind) → is_reset k ≡ true → packet_type k ≡ types.Reset
reset-type (kind.Reset ack code detail) is = refl
reset-type _ is = cc is

-- What came is the Reset.
came-reset : (e : EndState) (bytes : List ℕ) (p : Parts) (a : Incoming) → packet_of bytes ≡ Some p → is_reset p.header.kind ≡ true
    → Came e (Arrives bytes) a → a.kind ≡ types.Reset
came-reset e bytes p a read is came =
    let given : Input.Arrives bytes ≡ Arrives came.bytes = came.is_given in
    let same : came.bytes ≡ bytes = cc given in
    ap (λ (x : Incoming). x.kind) came.same
    ∙ ap (λ (q : Parts). packet_type q.header.kind) (the-packet e (Arrives bytes) a came p (ap packet_of same ∙ read))
    ∙ reset-type p.header.kind is

-- Nothing is heard of a Reset.
unheard : (e : EndState) (given : Input) (phase : Phase) → ((a : Incoming) → Came e given a → a.kind ≡ types.Reset) → (h : HeardNumber)
    → IsHearing e given phase h → h ≡ Unheard
unheard e given phase reset Unheard (Keeps live) = refl
unheard e given phase reset (Heard true _ how) (Starts a _ came other entrance taken passes) = absurd (other (reset a came))
unheard e given phase reset (Heard false _ how) (Raises a _ came other entrance valid passes) = absurd (other (reset a came))

module _ (e : EndState) where
  -- an effect that only sends, and no Ack
  still : (phase : Phase) (s : Transmission) → is_acking_sent s ≡ false
      → KeepsReceived e (end_after e (record (effect_of_sending e s) { phase = phase }))
  still phase s plain =
      record {
        first = refl;
        greatest = refl;
        opening = refl;
        acknowledged = refl;
        rows = refl;
        set = ap (λ (acks : Bool). recorded_by (acks && sends_vectors e.rows) e.config.vectors e.received (next_number e) e.marks.gsr) plain;
        marked = refl;
      }

  abbrev IsQuiet : Effect → Type 0
  IsQuiet f = f.hearing ≡ Unheard → KeepsReceived e (end_after e f)

  -- Whatever comes of a packet of which nothing is heard, leaves what was received.
  as-sent : (f : Effect) (s : Transmission) → is_acking_sent s ≡ false → f ≡ effect_of_sending e s → IsQuiet f
  as-sent f s plain form none = subst (λ (g : Effect). KeepsReceived e (end_after e g)) (sym form) (still e.phase s plain)

  as-heard : (f g : Effect) (first : Bool) (number : ℕ) (how : PacketFate) → g.hearing ≡ Heard first number how → f ≡ g → IsQuiet f
  as-heard f g first number how heard form none =
      let both : HeardNumber.Unheard ≡ Heard first number how = sym none ∙ ap (λ (x : Effect). x.hearing) form ∙ heard in
      cc both

  quiet-sync : (bytes : List ℕ) (number : ℕ) (cause : IsSynced e bytes number) (f : Effect) → f ≡ effect_of_sync e bytes number cause → IsQuiet f
  quiet-sync bytes number (OutOfWindow a came check bad) f form = as-sent f (Next (alone (kind.Sync number))) refl form
  quiet-sync bytes number (Unexpected a entered valid out same) f form = as-heard f _ (hears_first e) a.number Refused refl form

  quiet-reset : (bytes : List ℕ) (fault : Fault) (why : IsReset e bytes fault) (f : Effect) → f ≡ effect_of_reset e bytes fault why → IsQuiet f
  quiet-reset bytes fault (WrongService a entered valid expected other) f form = as-heard f _ (hears_first e) a.number Shut refl form
  quiet-reset bytes fault (Faulted a entered first admitted is) f form = as-heard f _ (hears_first e) a.number Shut refl form
  quiet-reset bytes fault (AnswersClose a entered h to admitted is row) f form = as-heard f _ (hears_first e) a.number Taken refl form
  quiet-reset bytes fault _ f form = as-sent f _ refl form

  quiet : (bytes : List ℕ) (o : Outcome) (cause : HasCause e bytes o) (f : Effect) (turns : AreTurns e (Arrives bytes) f.hearing f.turns)
      → HasForm e bytes o cause f turns → IsQuiet f
  quiet bytes (Dropped why) cause f turns form none = as-sent f Silent refl form none
  quiet bytes (Synced number) cause f turns form none = quiet-sync bytes number cause f form none
  quiet bytes (WasReset code) cause f turns form none =
      subst (λ (g : Effect). KeepsReceived e (end_after e g)) (sym form) (still phases.TimeWait Silent refl)
  quiet bytes (SentReset code detail) cause f turns form none = quiet-reset bytes cause.fault cause.why f form none
  quiet bytes (Took delivered) cause f turns form none =
      let heard : HeardNumber.Unheard ≡ Heard (hears_first e) cause.packet.number Taken = sym none ∙ form.heard in
      cc heard

-- whatever the end
pub resets-move-nothing : (e : EndState) → IsProper e → ResetsMoveNothing e
resets-move-nothing e proper bytes p read is =
    let told : Told e bytes (receives e bytes) = told_of_step e bytes (receives e bytes) proper refl in
    let f : Effect = told.effect.effect in
    let none = unheard e (Arrives bytes) f.phase (λ a came. came-reset e bytes p a read is came) f.hearing told.effect.because.hears in
    subst (KeepsReceived e) (sym told.effect.after_is)
    (quiet e bytes (receives e bytes).answer told.effect.cause f told.effect.because.turns told.effect.form none)
