-- The tree of closing: by timers and deliveries both ends get to CLOSED or TIMEWAIT.
use Rattle.std.proofs.Common.{◌≡◌, ◌⊎◌, inl, inr, refl, ap, sym, ◌∙◌, subst, ℕ, ◌+◌, ◌^◌, ◌<◌, true, false, List, [], ◌∷◌, Option, Some, arith}
use Rattle.congestion_trait.specs.Control.{Control}
use Rattle.dccp_packets.specs.Grammar.{packet_type}
use Rattle.dccp_packets.specs.ResetCodes.{number_of_code}
use Rattle.dccp_packets.specs.declared.header.Kind.{Kind}
use Rattle.dccp_packets.specs.declared.header.Kind.TheVariants as kind
use Rattle.dccp_packets.specs.declared.header.PacketType.{PacketType}
use Rattle.dccp_packets.specs.declared.header.PacketType.TheVariants as types
use Rattle.dccp_packets.specs.declared.reset_code.ResetCode.{ResetCode}
use Rattle.dccp_packets.specs.declared.reset_code.ResetCode.TheVariants as codes
use Rattle.dccp_states.specs.Entrance.{gate}
use Rattle.dccp_states.specs.declared.calls.Timer.TheVariants as timers
use Rattle.dccp_states.specs.declared.entrance.Entrance.TheVariants as entrance
use Rattle.dccp_states.specs.declared.phase.Phase.{Phase}
use Rattle.dccp_states.specs.declared.phase.Phase.TheVariants as phases
use Rattle.dccp_states.specs.declared.phase.Role.{Role}
use Rattle.dccp_states.specs.declared.phase.Role.TheVariants as role
use Rattle.dccp_states.specs.declared.reply.Reply.TheVariants as reply
use Rattle.dccp_endpoint.specs.Causes.{EveryStepHasOneEffect, entrance_of}
use Rattle.dccp_endpoint.specs.Controlled.{has_in_flight}
use Rattle.dccp_endpoint.specs.Drafts.{Fits, alone, sent_of}
use Rattle.dccp_endpoint.specs.End.{EndState, is_begun, is_live}
use Rattle.dccp_endpoint.specs.Incoming.{Incoming}
use Rattle.dccp_endpoint.specs.Receiving.{number_without_connection, receives}
use Rattle.dccp_endpoint.specs.Steps.{detail_of, without_detail}
use Rattle.dccp_endpoint.specs.declared.config.Config.{Config}
use Rattle.seq_circle.specs.Circle.{later_of, residue}
use Rattle.two_ends.specs.Controlled.{ControlledWorld, congestion_of, plays, plays_from_start, begins_with}
use Rattle.two_ends.specs.World.{Half, Occurrence, WorldState, at_start, half_of, world_after_all}
use Rattle.two_ends.proofs.OfWorlds.Acting.{IsHeld, run-configs}
use Rattle.two_ends.proofs.OfWorlds.Keeping.{HasRoles, SideInvariant, run-kept, run-roles}
use Rattle.two_ends.proofs.OfWorlds.Numbering.{IsOrdered, numbering}
use Rattle.two_ends.proofs.OfWorlds.Reaching.{occurring, plays-run}
use Rattle.validity_windows.specs.Verdict.{by_greatest, gar_after}
use Rattle.validity_windows.specs.Windows.{InRange}
use Rattle.validity_windows.specs.declared.marks.Marks.{Marks}
use Rattle.validity_windows.specs.declared.verdict.Verdict.TheVariants as verdicts
use Rattle.world_events.specs.declared.event.Event.{Event}
use Rattle.world_events.specs.declared.event.Event.TheVariants as event
use Rattle.world_events.specs.declared.event.Side.{Side}
use Rattle.world_events.specs.declared.event.Side.TheVariants.{Client, Server}
use Rattle.two_ends_progress.specs.Leading.{AreOpen, AreOver, HaveRoomFor, IsOver, HasWay}
use Rattle.two_ends_progress.specs.Paired.{AreForEachOther}
use Rattle.two_ends_progress.proofs.Arriving.{IsBare, IsHere}
use Rattle.two_ends_progress.proofs.Leading.{leads-by, leads-here, leads-within, next}
use Rattle.two_ends_progress.proofs.Numbers.{AreHeard, AreInOrder, gar-valid, greatest-or, later-so, low-end-valid, next-valid, second-valid}
use Rattle.two_ends_progress.proofs.Receiving.{IsRow, bad-comes, close-answered, close-called, close-fires, close-reset, nothing-answered, nothing-sent, request-fires, reset-comes, stray-frame, stray-stays, sync-acked}
use Rattle.two_ends_progress.proofs.Stepping.{AreTwo, ClientFirst, ServerFirst, turned, same-meant, IsSent, IsUnderWay, after-moves, after-says, arriving, close-acts, fewer-under-way, gsr-small, gss-small, heard-so, own-in-order, sent-so, timer-acts, under-way-next, verdict-so}

-- the rows of the tables that closing needs
client-sync : IsRow role.Client phases.Closing types.Sync phases.Closing reply.SyncAck
client-sync = record { checked = refl; no_reset = λ is. cc is; expected = λ b. refl; for_us = λ x service. refl; next = refl }

server-sync : IsRow role.Server phases.CloseReq types.Sync phases.CloseReq reply.SyncAck
server-sync = record { checked = refl; no_reset = λ is. cc is; expected = λ b. refl; for_us = λ x service. refl; next = refl }

client-asked : IsRow role.Client phases.Open types.CloseReq phases.Closing reply.Close
client-asked = record { checked = refl; no_reset = λ is. cc is; expected = λ b. refl; for_us = λ x service. refl; next = refl }

pub client-told : IsRow role.Client phases.Open types.SyncAck phases.Open reply.Nothing
client-told = record { checked = refl; no_reset = λ is. cc is; expected = λ b. refl; for_us = λ x service. refl; next = refl }

-- The phases in which a server waits for the client's Close.
data Waits : Phase → Type 0 where
  InOpen : Waits phases.Open
  InCloseReq : Waits phases.CloseReq

server-told : (p : Phase) → Waits p → IsRow role.Server p types.SyncAck p reply.Nothing
server-told _ InOpen = record { checked = refl; no_reset = λ is. cc is; expected = λ b. refl; for_us = λ x service. refl; next = refl }
server-told _ InCloseReq = record { checked = refl; no_reset = λ is. cc is; expected = λ b. refl; for_us = λ x service. refl; next = refl }

server-closed : (p : Phase) → Waits p → IsRow role.Server p types.Close phases.Closed reply.ResetClosed
server-closed _ InOpen = record { checked = refl; no_reset = λ is. cc is; expected = λ b. refl; for_us = λ x service. refl; next = refl }
server-closed _ InCloseReq = record { checked = refl; no_reset = λ is. cc is; expected = λ b. refl; for_us = λ x service. refl; next = refl }

waits-checked : (p : Phase) → Waits p → gate p types.Close ≡ entrance.Check
waits-checked _ InOpen = refl
waits-checked _ InCloseReq = refl

waits-live : (p : Phase) → Waits p → is_live p ≡ true
waits-live _ InOpen = refl
waits-live _ InCloseReq = refl

waits-begun : (p : Phase) → Waits p → is_begun p ≡ true
waits-begun _ InOpen = refl
waits-begun _ InCloseReq = refl

-- the packets of closing have long numbers alone
abbrev reset-with : ℕ → ResetCode → Kind
reset-with ack code = kind.Reset ack (number_of_code code) (detail_of (without_detail (number_of_code code)))

closed-bare : (ack : ℕ) → ack < 2 ^ 48 → IsBare (reset-with ack codes.Closed)
closed-bare ack small = record { is_long = refl; detail = refl; fits = (small, omega arith, refl); never_short = refl; acks = λ reference. refl }

stray-bare : (ack : ℕ) → ack < 2 ^ 48 → IsBare (reset-with ack codes.NoConnection)
stray-bare ack small = record { is_long = refl; detail = refl; fits = (small, omega arith, refl); never_short = refl; acks = λ reference. refl }

close-bare : (ack : ℕ) → ack < 2 ^ 48 → IsBare (kind.Close ack)
close-bare ack small = record { is_long = refl; detail = tt; fits = small; never_short = refl; acks = λ reference. refl }

request-bare : (ack : ℕ) → ack < 2 ^ 48 → IsBare (kind.CloseReq ack)
request-bare ack small = record { is_long = refl; detail = tt; fits = small; never_short = refl; acks = λ reference. refl }

pub sync-bare : (ack : ℕ) → ack < 2 ^ 48 → IsBare (kind.Sync ack)
sync-bare ack small = record { is_long = refl; detail = tt; fits = small; never_short = refl; acks = λ reference. refl }

pub sync-ack-bare : (ack : ℕ) → ack < 2 ^ 48 → IsBare (kind.SyncAck ack)
sync-ack-bare ack small = record { is_long = refl; detail = tt; fits = small; never_short = refl; acks = λ reference. refl }

both-over : (w : WorldState) → IsOver w Client → IsOver w Server → AreOver w
both-over w client server Client = client
both-over w client server Server = server

-- GSR and the number that comes are in order.
pub heard-in-order : (m : Marks) (last : ℕ) → AreHeard m last → AreInOrder m.gsr last
heard-in-order m last h =
    record { first = h.first; early = h.greatest; late = h.end; low_is = h.gsr_is; high_is = h.last_is; in_order = h.ends; few = omega (arith, h.few) }

module _ {C : Type 0} (control : Control C) (effects : EveryStepHasOneEffect) where
  abbrev Leads : ℕ → ControlledWorld C → Type 0
  Leads most w = HasWay control most w (λ (v : ControlledWorld C). AreOver v.world)

  -- what comes is checked
  checked-so : (e : EndState) (bytes : List ℕ) (number : ℕ) (k : Kind) (here : IsHere e bytes number k) (p : Phase) → e.phase ≡ p
      → gate p (packet_type k) ≡ entrance.Check → entrance_of e here.packet ≡ entrance.Check
  checked-so e bytes number k here p phase is = rw (phase, here.type_is) is

  -- A Reset that is valid at a client in CLOSING ends both.
  reset-last : (w : ControlledWorld C) → IsUnderWay 1 w.world → w.world.client.end.phase ≡ phases.Closing → w.world.server.end.phase ≡ phases.Closed
      → (n ack : ℕ) (code : ResetCode) → IsSent w.world.server n (reset-with ack code) → IsBare (reset-with ack code) → n < 2 ^ 48
      → by_greatest w.world.client.end.marks n (Some ack) w.world.client.end.marks.gsr ≡ verdicts.Valid → Leads 1 w
  reset-last w u closing closed n ack code sent bare small valid =
      let e : EndState = w.world.client.end in
      let k : Kind = reset-with ack code in
      let c = arriving control effects 1 w ClientFirst n k u sent small bare in
      let bytes : List ℕ = c.frame.bytes in
      let moves =
      reset-comes e bytes c.here.packet c.here.came (checked-so e bytes n k c.here phases.Closing closing refl)
      (verdict-so e bytes n k c.here verdicts.Valid valid) c.here.type_is in
      let now = event.Deliver Server c.index in
      let v : ControlledWorld C = next control w now in
      let left = after-moves control effects 0 w now ClientFirst _ _ _ _ _ c.acts moves u in
      leads-by control 0 w _ now tt
      (leads-here control v _ (both-over v.world (inr left.phase) (inl (ap (λ (h : Half). h.end.phase) left.rests ∙ closed))))

  -- A Reset under any number that acknowledges the client's last one: where it is not valid, the client's Sync is answered by one that is.
  reset-over : (w : ControlledWorld C) → IsUnderWay 3 w.world → w.world.client.end.phase ≡ phases.Closing → w.world.server.end.phase ≡ phases.Closed
      → (n ack : ℕ) → ack < 2 ^ 48 → n < 2 ^ 48 → IsSent w.world.server n (reset-with ack codes.Closed) → Leads 3 w
  reset-over w u closing closed n ack ack_small small sent =
      elim (greatest-or w.world.client.end.marks n (Some ack) w.world.client.end.marks.gsr) [
        | inl valid ↦
            leads-within control 1 3 w _ (omega arith)
            (reset-last w (fewer-under-way 1 3 w.world (omega arith) u) closing closed n ack codes.Closed sent (closed-bare ack ack_small) small valid)
        | inr bad ↦ synced bad
      ]
    where
      e : EndState
      e = w.world.client.end

      k : Kind
      k = reset-with ack codes.Closed

      synced : by_greatest e.marks n (Some ack) e.marks.gsr ≡ verdicts.SyncFor e.marks.gsr → Leads 3 w
      synced bad =
          let c = arriving control effects 3 w ClientFirst n k u sent small (closed-bare ack ack_small) in
          let bytes : List ℕ = c.frame.bytes in
          let says =
          bad-comes e bytes c.here.packet c.here.came e.marks.gsr (checked-so e bytes n k c.here phases.Closing closing refl)
          (verdict-so e bytes n k c.here (verdicts.SyncFor e.marks.gsr) bad) in
          let first = event.Deliver Server c.index in
          let v : ControlledWorld C = next control w first in
          let said = after-says control effects 2 w first ClientFirst _ _ _ _ _ _ c.acts says u in
          let still : v.world.server ≡ w.world.server = said.is_after.rests in
          let sync : Kind = kind.Sync e.marks.gsr in
          let gss : ℕ = v.world.client.end.marks.gss in
          let d =
          arriving control effects 2 v ServerFirst gss sync said.is_after.under_way said.sent
          (gss-small 2 v.world said.is_after.under_way ClientFirst) (sync-bare e.marks.gsr (gsr-small 3 w.world u ClientFirst)) in
          let there : EndState = v.world.server.end in
          let shut : there.phase ≡ phases.Closed = ap (λ (h : Half). h.end.phase) still ∙ closed in
          let is : entrance_of there d.here.packet ≡ entrance.NoConnection = rw (shut, d.here.type_is) refl in
          let stays = stray-stays there d.frame.bytes d.here.packet d.here.came is in
          let second = event.Deliver Client d.index in
          let x : ControlledWorld C = next control v second in
          let u1 = under-way-next control effects 1 v second ServerFirst (Some d.frame.number) (receives there d.frame.bytes) d.acts (ap (λ (y : EndState). y.config) stays) said.is_after.under_way in
          let frame = stray-frame there d.frame.bytes d.here.packet d.here.came is in
          let half : Half = v.world.server in
          let out : IsSent x.world.server (residue (e.marks.gsr + 1)) (reset-with gss codes.NoConnection) =
          subst (λ (h : Half). IsSent h (residue (e.marks.gsr + 1)) (reset-with gss codes.NoConnection)) (sym d.acts.acting)
          (sent-so half (Some d.frame.number) (receives there d.frame.bytes) (residue (e.marks.gsr + 1)) (reset-with gss codes.NoConnection)
          (frame
          ∙ ap (λ (a : Option ℕ). Some (sent_of there.config false (number_without_connection a) (alone (reset-with d.here.packet.number codes.NoConnection)))) d.here.acks
          ∙ ap (λ (m : ℕ). Some (sent_of there.config false (residue (e.marks.gsr + 1)) (alone (reset-with m codes.NoConnection)))) d.here.numbered
          ∙ ap (λ (c : Config). Some (sent_of c false (residue (e.marks.gsr + 1)) (alone (reset-with gss codes.NoConnection))))
          (sym (ap (λ (y : EndState). y.config) stays)))) in
          let same : x.world.client ≡ v.world.client = d.acts.resting in
          let marks : x.world.client.end.marks ≡ v.world.client.end.marks = ap (λ (h : Half). h.end.marks) same in
          leads-by control 2 w _ first tt
          (leads-by control 1 v _ second tt
          (reset-last x u1 (ap (λ (h : Half). h.end.phase) same ∙ said.is_after.phase ∙ closing)
          (ap (λ (h : Half). h.end.phase) d.acts.acting ∙ ap (λ (y : EndState). y.phase) stays ∙ shut)
          (residue (e.marks.gsr + 1)) gss codes.NoConnection out
          (stray-bare gss (gss-small 2 v.world said.is_after.under_way ClientFirst)) (omega arith)
          (subst (λ (m : Marks). by_greatest m (residue (e.marks.gsr + 1)) (Some gss) m.gsr ≡ verdicts.Valid) (sym marks)
          (next-valid v.world.client.end.marks (residue (e.marks.gsr + 1)) v.world.client.end.marks.gsr
          (ap (λ (m : ℕ). residue (m + 1)) (sym said.is_after.gsr_is))))))

  -- A Close that is valid at the server: its Reset acknowledges the client's last number.
  record IsShut (more : ℕ) (w v : WorldState) : Type 0 where
    under_way : IsUnderWay more v
    closed : v.server.end.phase ≡ phases.Closed
    gss_is : v.server.end.marks.gss ≡ residue (w.server.end.marks.gss + 1)
    sent : IsSent v.server v.server.end.marks.gss (reset-with w.client.end.marks.gss codes.Closed)
    rests : v.client ≡ w.client

  record ShutsBy (more : ℕ) (w : ControlledWorld C) : Type 0 where
    index : ℕ
    shut : IsShut more w.world (next control w (event.Deliver Client index)).world

  close-shuts : (more : ℕ) (w : ControlledWorld C) → IsUnderWay (more + 1) w.world → (p : Phase) → Waits p → w.world.server.end.phase ≡ p
      → (ack : ℕ) → ack < 2 ^ 48 → IsSent w.world.client w.world.client.end.marks.gss (kind.Close ack)
      → by_greatest w.world.server.end.marks w.world.client.end.marks.gss (Some ack) w.world.client.end.marks.gss ≡ verdicts.Valid
      → ShutsBy more w
  close-shuts more w u p waits phase ack small sent valid =
      let e : EndState = w.world.server.end in
      let n : ℕ = w.world.client.end.marks.gss in
      let k : Kind = kind.Close ack in
      let c = arriving control effects (more + 1) w ServerFirst n k u sent (gss-small (more + 1) w.world u ClientFirst) (close-bare ack small) in
      let a : Incoming = c.here.packet in
      let heard = heard-so (more + 1) w.world u ServerFirst (ap is_live phase ∙ waits-live p waits) in
      let later : later_of e.marks.gsr a.number ≡ n =
      ap (later_of e.marks.gsr) c.here.numbered ∙ later-so e.marks.gsr n (heard-in-order e.marks n heard) in
      let says =
      close-reset e c.frame.bytes a c.here.came role.Server p phases.Closed types.Close reply.ResetClosed (server-closed p waits) u.roles.is_server phase
      c.here.type_is c.here.listed (verdict-so e c.frame.bytes n k c.here verdicts.Valid valid) refl in
      let said = after-says control effects more w (event.Deliver Client c.index) ServerFirst _ _ _ _ _ _ c.acts says u in
      record {
        index = c.index;
        shut =
            record {
              under_way = said.is_after.under_way;
              closed = said.is_after.phase;
              gss_is = said.gss_is;
              sent =
                  subst (λ (m : ℕ).
                  IsSent (next control w (event.Deliver Client c.index)).world.server
                  (next control w (event.Deliver Client c.index)).world.server.end.marks.gss (reset-with m codes.Closed)) later said.sent;
              rests = said.is_after.rests;
            };
      }

  -- The number that a server sends next is one or two after the greatest that the client has received.
  abbrev IsNear : WorldState → Type 0
  IsNear w = (w.server.end.marks.gss ≡ w.client.end.marks.gsr) ⊎ (w.server.end.marks.gss ≡ residue (w.client.end.marks.gsr + 1))

  near-valid : (m : Marks) (gss n answer : ℕ) → InRange m → (gss ≡ m.gsr) ⊎ (gss ≡ residue (m.gsr + 1)) → n ≡ residue (gss + 1)
      → by_greatest m n (Some m.gss) answer ≡ verdicts.Valid
  near-valid m gss n answer range near same =
      elim near [
        | inl at ↦ next-valid m n answer (same ∙ ap (λ (g : ℕ). residue (g + 1)) at)
        | inr after ↦ second-valid m n answer range (same ∙ ap (λ (g : ℕ). residue (g + 1)) after)
      ]

  -- A Close that is valid, where the Reset that answers it will be valid too.
  close-last : (w : ControlledWorld C) → IsUnderWay 2 w.world → w.world.client.end.phase ≡ phases.Closing → (p : Phase) → Waits p
      → w.world.server.end.phase ≡ p → (ack : ℕ) → ack < 2 ^ 48 → IsSent w.world.client w.world.client.end.marks.gss (kind.Close ack)
      → by_greatest w.world.server.end.marks w.world.client.end.marks.gss (Some ack) w.world.client.end.marks.gss ≡ verdicts.Valid
      → IsNear w.world → Leads 2 w
  close-last w u closing p waits phase ack small sent valid near =
      let by = close-shuts 1 w u p waits phase ack small sent valid in
      let now = event.Deliver Client by.index in
      let v : ControlledWorld C = next control w now in
      let m : Marks = w.world.client.end.marks in
      let marks : v.world.client.end.marks ≡ m = ap (λ (h : Half). h.end.marks) by.shut.rests in
      let heard = heard-so 2 w.world u ClientFirst (ap is_live closing) in
      leads-by control 1 w _ now tt
      (reset-last v by.shut.under_way (ap (λ (h : Half). h.end.phase) by.shut.rests ∙ closing) by.shut.closed v.world.server.end.marks.gss m.gss
      codes.Closed by.shut.sent
      (closed-bare m.gss (gss-small 2 w.world u ClientFirst)) (gss-small 1 v.world by.shut.under_way ServerFirst)
      (subst (λ (k : Marks). by_greatest k v.world.server.end.marks.gss (Some m.gss) k.gsr ≡ verdicts.Valid) (sym marks)
      (near-valid m w.world.server.end.marks.gss v.world.server.end.marks.gss m.gsr heard.widths near by.shut.gss_is)))

  -- A Sync and its SyncAck have put two sides in step: what each has received last is known.
  pub record AreInStep (more : ℕ) (w : WorldState) (x y : Side) (p q : Phase) : Type 0 where
    pub under_way : IsUnderWay more w
    pub phase : (half_of w x).end.phase ≡ p
    pub peer_phase : (half_of w y).end.phase ≡ q
    pub told : (half_of w x).end.marks.gsr ≡ (half_of w y).end.marks.gar
    pub heard : (half_of w y).end.marks.gsr ≡ (half_of w x).end.marks.gss
    pub near : ((half_of w y).end.marks.gss ≡ (half_of w x).end.marks.gsr) ⊎ ((half_of w y).end.marks.gss ≡ residue ((half_of w x).end.marks.gsr + 1))

  abbrev pub synced-twice : ControlledWorld C → Side → Side → ℕ → ℕ → ControlledWorld C
  synced-twice w x y first second = next control (next control w (event.Deliver y first)) (event.Deliver x second)

  pub record GetInStep (more : ℕ) (w : ControlledWorld C) (x y : Side) (p q : Phase) : Type 0 where
    pub first : ℕ
    pub second : ℕ
    pub in_step : AreInStep more (synced-twice w x y first second).world x y p q
    pub rows_are : (half_of (synced-twice w x y first second).world x).end.rows ≡ (half_of w.world x).end.rows
    pub peer_rows : (half_of (synced-twice w x y first second).world y).end.rows ≡ (half_of w.world y).end.rows

  -- With a Sync on its way to the first side two deliveries put both in step.
  pub get-in-step : (more : ℕ) (w : ControlledWorld C) → IsUnderWay (more + 1 + 1) w.world → {x y : Side} (two : AreTwo x y) (who whose : Role) (p q : Phase)
      → IsRow who p types.Sync p reply.SyncAck → IsRow whose q types.SyncAck q reply.Nothing
      → (half_of w.world x).end.config.role ≡ who → (half_of w.world y).end.config.role ≡ whose
      → (half_of w.world x).end.phase ≡ p → (half_of w.world y).end.phase ≡ q → is_live p ≡ true → is_live q ≡ true → is_begun q ≡ true
      → IsSent (half_of w.world y) (half_of w.world y).end.marks.gss (kind.Sync (half_of w.world x).end.marks.gss)
      → GetInStep more w x y p q
  get-in-step more w u {x} {y} two who whose p q here_row there_row is_role is_other phase peer_phase live peer_live peer_begun sent =
      let e : EndState = (half_of w.world x).end in
      let n : ℕ = (half_of w.world y).end.marks.gss in
      let k : Kind = kind.Sync e.marks.gss in
      let c =
      arriving control effects (more + 1 + 1) w two n k u sent (gss-small (more + 1 + 1) w.world u (turned two))
      (sync-bare e.marks.gss (gss-small (more + 1 + 1) w.world u two)) in
      let heard = heard-so (more + 1 + 1) w.world u two (ap is_live phase ∙ live) in
      let says =
      sync-acked e c.frame.bytes c.here.packet c.here.came who p p types.Sync reply.SyncAck here_row is_role phase c.here.type_is
      c.here.listed (verdict-so e c.frame.bytes n k c.here verdicts.Valid (low-end-valid e.marks n heard)) refl in
      let now = event.Deliver y c.index in
      let v : ControlledWorld C = next control w now in
      let said = after-says control effects (more + 1) w now two _ _ _ _ _ _ c.acts says u in
      let gsr_is : (half_of v.world x).end.marks.gsr ≡ n =
      said.is_after.gsr_is ∙ ap (later_of e.marks.gsr) c.here.numbered ∙ later-so e.marks.gsr n (heard-in-order e.marks n heard) in
      let still : half_of v.world y ≡ half_of w.world y = said.is_after.rests in
      let u1 = said.is_after.under_way in
      let there : EndState = (half_of v.world y).end in
      let is_n : there.marks.gss ≡ n = ap (λ (h : Half). h.end.marks.gss) still in
      let ack : Kind = kind.SyncAck there.marks.gss in
      let at : ℕ = (half_of v.world x).end.marks.gss in
      let out : IsSent (half_of v.world x) at ack =
      subst (λ (m : ℕ). IsSent (half_of v.world x) at (kind.SyncAck m)) (c.here.numbered ∙ sym is_n) said.sent in
      let d =
      arriving control effects (more + 1) v (turned two) at ack u1 out (gss-small (more + 1) v.world u1 two)
      (sync-ack-bare there.marks.gss (gss-small (more + 1) v.world u1 (turned two))) in
      let a : Incoming = d.here.packet in
      let peer_at : there.phase ≡ q = ap (λ (h : Half). h.end.phase) still ∙ peer_phase in
      let role_at : there.config.role ≡ whose = ap (λ (h : Half). h.end.config.role) still ∙ is_other in
      let others = heard-so (more + 1) v.world u1 (turned two) (ap is_live peer_at ∙ peer_live) in
      let valid = verdict-so there d.frame.bytes at ack d.here verdicts.Valid (low-end-valid there.marks at others) in
      let moves =
      nothing-answered there d.frame.bytes a d.here.came whose q q types.SyncAck reply.Nothing there_row role_at peer_at d.here.type_is d.here.listed valid
      refl in
      let which =
      nothing-sent there d.frame.bytes a d.here.came whose q q types.SyncAck reply.Nothing there_row role_at peer_at d.here.type_is d.here.listed valid refl in
      let later = event.Deliver x d.index in
      let left = after-moves control effects more v later (turned two) _ _ _ _ _ d.acts moves u1 in
      let z : ControlledWorld C = next control v later in
      let unmoved : half_of z.world x ≡ half_of v.world x = left.rests in
      let here_gsr : (half_of z.world x).end.marks.gsr ≡ n = ap (λ (h : Half). h.end.marks.gsr) unmoved ∙ gsr_is in
      let gar_is : (half_of z.world y).end.marks.gar ≡ n =
      left.gar_is
      ∙ ap (λ (t : PacketType). gar_after there.marks.gar t a.ack) d.here.type_is
      ∙ ap (gar_after there.marks.gar types.SyncAck) d.here.acks
      ∙ later-so there.marks.gar there.marks.gss (own-in-order (more + 1) v.world u1 (turned two) (ap is_begun peer_at ∙ peer_begun)) ∙ is_n in
      let there_gsr : (half_of z.world y).end.marks.gsr ≡ at =
      left.gsr_is ∙ ap (later_of there.marks.gsr) d.here.numbered ∙ later-so there.marks.gsr at (heard-in-order there.marks at others) in
      let sent_is : (half_of z.world y).end.marks.gss ≡ (receives there d.frame.bytes).after.marks.gss = ap (λ (h : Half). h.end.marks.gss) d.acts.acting in
      record {
        first = c.index;
        second = d.index;
        rows_are = ap (λ (h : Half). h.end.rows) unmoved ∙ said.is_after.rows_are;
        peer_rows = left.rows_are ∙ ap (λ (h : Half). h.end.rows) still;
        in_step =
            record {
              under_way = left.under_way;
              phase = ap (λ (h : Half). h.end.phase) unmoved ∙ said.is_after.phase;
              peer_phase = left.phase;
              told = here_gsr ∙ sym gar_is;
              heard = there_gsr ∙ sym (ap (λ (h : Half). h.end.marks.gss) unmoved);
              near =
                  elim which [
                    | inl same ↦ inl (sent_is ∙ same ∙ is_n ∙ sym here_gsr)
                    | inr more ↦ inr (sent_is ∙ more ∙ ap (λ (m : ℕ). residue (m + 1)) (is_n ∙ sym here_gsr))
                  ];
            };
      }

  -- In step, the client's timer sends a Close that ends both.
  client-closes : (w : ControlledWorld C) (p : Phase) → Waits p → AreInStep 3 w.world Client Server phases.Closing p → Leads 3 w
  client-closes w p waits s =
      let e : EndState = w.world.client.end in
      let now = event.Timer Client timers.Close in
      let v : ControlledWorld C = next control w now in
      let says = close-fires e (has_in_flight control (congestion_of w Client)) s.phase in
      let said = after-says control effects 2 w now ClientFirst _ _ _ _ _ _ (timer-acts control effects w ClientFirst timers.Close 3 s.under_way) says s.under_way in
      let still : v.world.server ≡ w.world.server = said.is_after.rests in
      let m : Marks = w.world.server.end.marks in
      let n : ℕ = v.world.client.end.marks.gss in
      let valid : by_greatest m n (Some e.marks.gsr) n ≡ verdicts.Valid =
      subst (λ (k : ℕ). by_greatest m n (Some k) n ≡ verdicts.Valid) (sym s.told)
      (gar-valid m n n (said.gss_is ∙ ap (λ (k : ℕ). residue (k + 1)) (sym s.heard))) in
      leads-by control 2 w _ now tt
      (close-last v said.is_after.under_way said.is_after.phase p waits (ap (λ (h : Half). h.end.phase) still ∙ s.peer_phase) e.marks.gsr
      (gsr-small 3 w.world s.under_way ClientFirst) said.sent
      (subst (λ (h : Half). by_greatest h.end.marks n (Some e.marks.gsr) n ≡ verdicts.Valid) (sym still) valid)
      (subst (λ (h : Half). (h.end.marks.gss ≡ v.world.client.end.marks.gsr) ⊎ (h.end.marks.gss ≡ residue (v.world.client.end.marks.gsr + 1))) (sym still)
      (subst (λ (g : ℕ). (w.world.server.end.marks.gss ≡ g) ⊎ (w.world.server.end.marks.gss ≡ residue (g + 1))) (sym said.is_after.gsr_is) s.near)))

  -- A Close on its way from a client in CLOSING ends both.
  close-over : (w : ControlledWorld C) → IsUnderWay 6 w.world → w.world.client.end.phase ≡ phases.Closing → (p : Phase) → Waits p
      → w.world.server.end.phase ≡ p → (ack : ℕ) → ack < 2 ^ 48 → IsSent w.world.client w.world.client.end.marks.gss (kind.Close ack) → Leads 6 w
  close-over w u closing p waits phase ack small sent =
      elim (greatest-or e.marks n (Some ack) n) [
        | inl valid ↦ shuts valid
        | inr bad ↦ synced bad
      ]
    where
      e : EndState
      e = w.world.server.end

      n : ℕ
      n = w.world.client.end.marks.gss

      shuts : by_greatest e.marks n (Some ack) n ≡ verdicts.Valid → Leads 6 w
      shuts valid =
          let by = close-shuts 5 w u p waits phase ack small sent valid in
          let now = event.Deliver Client by.index in
          let v : ControlledWorld C = next control w now in
          leads-by control 5 w _ now tt
          (leads-within control 3 5 v _ (omega arith)
          (reset-over v (fewer-under-way 3 5 v.world (omega arith) by.shut.under_way) (ap (λ (h : Half). h.end.phase) by.shut.rests ∙ closing) by.shut.closed
          v.world.server.end.marks.gss n (gss-small 6 w.world u ClientFirst)
          (gss-small 5 v.world by.shut.under_way ServerFirst) by.shut.sent))

      synced : by_greatest e.marks n (Some ack) n ≡ verdicts.SyncFor n → Leads 6 w
      synced bad =
          let k : Kind = kind.Close ack in
          let c = arriving control effects 6 w ServerFirst n k u sent (gss-small 6 w.world u ClientFirst) (close-bare ack small) in
          let says =
          bad-comes e c.frame.bytes c.here.packet c.here.came n (checked-so e c.frame.bytes n k c.here p phase (waits-checked p waits))
          (verdict-so e c.frame.bytes n k c.here (verdicts.SyncFor n) bad) in
          let now = event.Deliver Client c.index in
          let v : ControlledWorld C = next control w now in
          let said = after-says control effects 5 w now ServerFirst _ _ _ _ _ _ c.acts says u in
          let still : v.world.client ≡ w.world.client = said.is_after.rests in
          let sync : IsSent v.world.server v.world.server.end.marks.gss (kind.Sync v.world.client.end.marks.gss) =
          subst (λ (h : Half). IsSent v.world.server v.world.server.end.marks.gss (kind.Sync h.end.marks.gss)) (sym still) said.sent in
          let u1 = said.is_after.under_way in
          let by =
          get-in-step 3 v u1 ClientFirst role.Client role.Server phases.Closing p client-sync (server-told p waits) u1.roles.is_client u1.roles.is_server
          (ap (λ (h : Half). h.end.phase) still ∙ closing) (said.is_after.phase ∙ phase) refl (waits-live p waits) (waits-begun p waits) sync in
          leads-by control 5 w _ now tt
          (leads-by control 4 v _ (event.Deliver Server by.first) tt
          (leads-by control 3 _ _ (event.Deliver Client by.second) tt (client-closes _ p waits by.in_step)))

  -- What a client in OPEN makes of a CloseReq that is valid: it closes, and acknowledges that.
  record IsAsked (more : ℕ) (w v : WorldState) : Type 0 where
    under_way : IsUnderWay more v
    closing : v.client.end.phase ≡ phases.Closing
    gsr_is : v.client.end.marks.gsr ≡ w.server.end.marks.gss
    gss_is : v.client.end.marks.gss ≡ residue (w.client.end.marks.gss + 1)
    sent : IsSent v.client v.client.end.marks.gss (kind.Close w.server.end.marks.gss)
    rests : v.server ≡ w.server

  record AsksBy (more : ℕ) (w : ControlledWorld C) : Type 0 where
    index : ℕ
    asked : IsAsked more w.world (next control w (event.Deliver Server index)).world

  request-asks : (more : ℕ) (w : ControlledWorld C) → IsUnderWay (more + 1) w.world → w.world.client.end.phase ≡ phases.Open → (ack : ℕ) → ack < 2 ^ 48
      → IsSent w.world.server w.world.server.end.marks.gss (kind.CloseReq ack)
      → by_greatest w.world.client.end.marks w.world.server.end.marks.gss (Some ack) w.world.server.end.marks.gss ≡ verdicts.Valid
      → AsksBy more w
  request-asks more w u opened ack small sent valid =
      let e : EndState = w.world.client.end in
      let n : ℕ = w.world.server.end.marks.gss in
      let k : Kind = kind.CloseReq ack in
      let c = arriving control effects (more + 1) w ClientFirst n k u sent (gss-small (more + 1) w.world u ServerFirst) (request-bare ack small) in
      let a : Incoming = c.here.packet in
      let heard = heard-so (more + 1) w.world u ClientFirst (ap is_live opened) in
      let later : later_of e.marks.gsr a.number ≡ n =
      ap (later_of e.marks.gsr) c.here.numbered ∙ later-so e.marks.gsr n (heard-in-order e.marks n heard) in
      let says =
      close-answered e c.frame.bytes a c.here.came role.Client phases.Open phases.Closing types.CloseReq reply.Close client-asked u.roles.is_client opened
      c.here.type_is c.here.listed (verdict-so e c.frame.bytes n k c.here verdicts.Valid valid) refl in
      let now = event.Deliver Server c.index in
      let v : ControlledWorld C = next control w now in
      let said = after-says control effects more w now ClientFirst _ _ _ _ _ _ c.acts says u in
      record {
        index = c.index;
        asked =
            record {
              under_way = said.is_after.under_way;
              closing = said.is_after.phase;
              gsr_is = said.is_after.gsr_is ∙ later;
              gss_is = said.gss_is;
              sent = subst (λ (m : ℕ). IsSent v.world.client v.world.client.end.marks.gss (kind.Close m)) later said.sent;
              rests = said.is_after.rests;
            };
      }

  -- In step, the server's timer sends a CloseReq that ends both.
  server-asks : (w : ControlledWorld C) → AreInStep 4 w.world Server Client phases.CloseReq phases.Open → Leads 4 w
  server-asks w s =
      let e : EndState = w.world.server.end in
      let now = event.Timer Server timers.Close in
      let v : ControlledWorld C = next control w now in
      let says = request-fires e (has_in_flight control (congestion_of w Server)) s.phase in
      let said = after-says control effects 3 w now ServerFirst _ _ _ _ _ _ (timer-acts control effects w ServerFirst timers.Close 4 s.under_way) says s.under_way in
      let u1 = said.is_after.under_way in
      let still : v.world.client ≡ w.world.client = said.is_after.rests in
      let m : Marks = w.world.client.end.marks in
      let n : ℕ = v.world.server.end.marks.gss in
      let valid : by_greatest m n (Some e.marks.gsr) n ≡ verdicts.Valid =
      subst (λ (k : ℕ). by_greatest m n (Some k) n ≡ verdicts.Valid) (sym s.told)
      (gar-valid m n n (said.gss_is ∙ ap (λ (k : ℕ). residue (k + 1)) (sym s.heard))) in
      let by =
      request-asks 2 v u1 (ap (λ (h : Half). h.end.phase) still ∙ s.peer_phase) e.marks.gsr (gsr-small 4 w.world s.under_way ServerFirst) said.sent
      (subst (λ (h : Half). by_greatest h.end.marks n (Some e.marks.gsr) n ≡ verdicts.Valid) (sym still) valid) in
      let then = event.Deliver Server by.index in
      let z : ControlledWorld C = next control v then in
      let unmoved : z.world.server ≡ v.world.server = by.asked.rests in
      let at : ℕ = z.world.client.end.marks.gss in
      let servers : Marks = v.world.server.end.marks in
      let near : (w.world.client.end.marks.gss ≡ servers.gsr) ⊎ (w.world.client.end.marks.gss ≡ residue (servers.gsr + 1)) =
      subst (λ (g : ℕ). (w.world.client.end.marks.gss ≡ g) ⊎ (w.world.client.end.marks.gss ≡ residue (g + 1))) (sym said.is_after.gsr_is) s.near in
      let heard = heard-so 3 v.world u1 ServerFirst (ap is_live said.is_after.phase) in
      let closes_valid : by_greatest servers at (Some servers.gss) at ≡ verdicts.Valid =
      near-valid servers w.world.client.end.marks.gss at at heard.widths near
      (by.asked.gss_is ∙ ap (λ (h : Half). residue (h.end.marks.gss + 1)) still) in
      leads-by control 3 w _ now tt
      (leads-by control 2 v _ then tt
      (close-last z by.asked.under_way by.asked.closing phases.CloseReq InCloseReq (ap (λ (h : Half). h.end.phase) unmoved ∙ said.is_after.phase) n
      (gss-small 3 v.world u1 ServerFirst) by.asked.sent
      (subst (λ (h : Half). by_greatest h.end.marks at (Some n) at ≡ verdicts.Valid) (sym unmoved) closes_valid)
      (inl (ap (λ (h : Half). h.end.marks.gss) unmoved ∙ sym by.asked.gsr_is))))

  -- A CloseReq on its way from a server in CLOSEREQ to a client in OPEN ends both.
  request-over : (w : ControlledWorld C) → IsUnderWay 7 w.world → w.world.client.end.phase ≡ phases.Open → w.world.server.end.phase ≡ phases.CloseReq
      → (ack : ℕ) → ack < 2 ^ 48 → IsSent w.world.server w.world.server.end.marks.gss (kind.CloseReq ack) → Leads 7 w
  request-over w u opened waiting ack small sent =
      elim (greatest-or e.marks n (Some ack) n) [
        | inl valid ↦ asks valid
        | inr bad ↦ synced bad
      ]
    where
      e : EndState
      e = w.world.client.end

      n : ℕ
      n = w.world.server.end.marks.gss

      asks : by_greatest e.marks n (Some ack) n ≡ verdicts.Valid → Leads 7 w
      asks valid =
          let by = request-asks 6 w u opened ack small sent valid in
          let now = event.Deliver Server by.index in
          leads-by control 6 w _ now tt
          (close-over (next control w now) by.asked.under_way by.asked.closing phases.CloseReq InCloseReq (ap (λ (h : Half). h.end.phase) by.asked.rests ∙ waiting)
          n (gss-small 7 w.world u ServerFirst) by.asked.sent)

      synced : by_greatest e.marks n (Some ack) n ≡ verdicts.SyncFor n → Leads 7 w
      synced bad =
          let k : Kind = kind.CloseReq ack in
          let c = arriving control effects 7 w ClientFirst n k u sent (gss-small 7 w.world u ServerFirst) (request-bare ack small) in
          let says =
          bad-comes e c.frame.bytes c.here.packet c.here.came n (checked-so e c.frame.bytes n k c.here phases.Open opened refl)
          (verdict-so e c.frame.bytes n k c.here (verdicts.SyncFor n) bad) in
          let now = event.Deliver Server c.index in
          let v : ControlledWorld C = next control w now in
          let said = after-says control effects 6 w now ClientFirst _ _ _ _ _ _ c.acts says u in
          let still : v.world.server ≡ w.world.server = said.is_after.rests in
          let sync : IsSent v.world.client v.world.client.end.marks.gss (kind.Sync v.world.server.end.marks.gss) =
          subst (λ (h : Half). IsSent v.world.client v.world.client.end.marks.gss (kind.Sync h.end.marks.gss)) (sym still) said.sent in
          let u1 = said.is_after.under_way in
          let by =
          get-in-step 4 v u1 ServerFirst role.Server role.Client phases.CloseReq phases.Open server-sync client-told u1.roles.is_server u1.roles.is_client
          (ap (λ (h : Half). h.end.phase) still ∙ waiting) (said.is_after.phase ∙ opened) refl refl refl sync in
          leads-by control 6 w _ now tt
          (leads-by control 5 v _ (event.Deliver Client by.first) tt
          (leads-by control 4 _ _ (event.Deliver Server by.second) tt (server-asks _ by.in_step)))

  -- What the call leads to, from a world in which both are OPEN.
  close-leads : (w : ControlledWorld C) → IsUnderWay 8 w.world → AreOpen w.world → (side : Side) → Leads 7 (next control w (event.Close side))
  close-leads w u opened Client =
      let e : EndState = w.world.client.end in
      let now = event.Close Client in
      let says = close-called e role.Client u.roles.is_client (opened Client) refl in
      let said = after-says control effects 7 w now ClientFirst _ _ _ _ _ _ (close-acts control effects w ClientFirst 8 u) says u in
      leads-within control 6 7 (next control w now) _ (omega arith)
      (close-over (next control w now) (fewer-under-way 6 7 (next control w now).world (omega arith) said.is_after.under_way) said.is_after.phase phases.Open InOpen
      (ap (λ (h : Half). h.end.phase) said.is_after.rests ∙ opened Server) e.marks.gsr (gsr-small 8 w.world u ClientFirst) said.sent)
  close-leads w u opened Server =
      let e : EndState = w.world.server.end in
      let now = event.Close Server in
      let says = close-called e role.Server u.roles.is_server (opened Server) refl in
      let said = after-says control effects 7 w now ServerFirst _ _ _ _ _ _ (close-acts control effects w ServerFirst 8 u) says u in
      request-over (next control w now) said.is_after.under_way (ap (λ (h : Half). h.end.phase) said.is_after.rests ∙ opened Client) said.is_after.phase e.marks.gsr
      (gsr-small 8 w.world u ServerFirst) said.sent

  -- Every world that a schedule reaches is one of those.
  pub start-under-way : (more : ℕ) (client server : Config) (for_client for_server : C) (events : List Event) → client.role ≡ role.Client
      → server.role ≡ role.Server → Fits client → Fits server → AreForEachOther client server
      → HaveRoomFor more (plays_from_start control client server for_client for_server events).world
      → IsUnderWay more (plays_from_start control client server for_client for_server events).world
  start-under-way more client server for_client for_server events is_client is_server client_fits server_fits paired room =
      let start : ControlledWorld C = begins_with control client server for_client for_server in
      let last : ControlledWorld C = plays control start events in
      let all : List Occurrence = occurring control start events in
      let same : last.world ≡ world_after_all (at_start client server) all = plays-run control start events in
      let configs =
      run-configs (λ x y. IsOrdered x) numbering (λ x y o. o.proper) (λ x y o. o.numbers) effects client server all client_fits server_fits in
      record {
        held = subst (IsHeld SideInvariant) (sym same) (run-kept effects client server all client_fits server_fits);
        roles = subst HasRoles (sym same) (run-roles effects client server all is_client is_server client_fits server_fits);
        there =
            same-meant client server last.world.client.end.config last.world.server.end.config
            (ap (λ (w : WorldState). w.client.end.config) same ∙ configs Client) (ap (λ (w : WorldState). w.server.end.config) same ∙ configs Server)
            paired.there;
        back =
            same-meant server client last.world.server.end.config last.world.client.end.config
            (ap (λ (w : WorldState). w.server.end.config) same ∙ configs Server) (ap (λ (w : WorldState). w.client.end.config) same ∙ configs Client)
            paired.back;
        room = room;
      }

  pub closing-leads : (client server : Config) (for_client for_server : C) (events : List Event) (side : Side) → client.role ≡ role.Client
      → server.role ≡ role.Server → Fits client → Fits server → AreForEachOther client server
      → AreOpen (plays_from_start control client server for_client for_server events).world
      → HaveRoomFor 8 (plays_from_start control client server for_client for_server events).world
      → Leads 7 (plays control (plays_from_start control client server for_client for_server events) (event.Close side ∷ []))
  closing-leads client server for_client for_server events side is_client is_server client_fits server_fits paired opened room =
      close-leads (plays_from_start control client server for_client for_server events)
      (start-under-way 8 client server for_client for_server events is_client is_server client_fits server_fits paired room) opened side
