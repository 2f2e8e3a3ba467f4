-- What the tables of phases say, by their lines, and that each role keeps to its phases (RFC 4340, section 4.3).
use Rattle.std.proofs.Common.{◌≡◌, ◌≢◌, refl, ap, subst, Bool, true, false}
use Rattle.dccp_packets.specs.declared.header.PacketType.{PacketType}
use Rattle.dccp_packets.specs.declared.header.PacketType.TheVariants as types
use Rattle.dccp_states.specs.Entrance.{gate}
use Rattle.dccp_states.specs.Phases.{after}
use Rattle.dccp_states.specs.declared.entrance.Entrance.TheVariants as entrance
use Rattle.dccp_states.specs.declared.phase.Phase.{Phase}
use Rattle.dccp_states.specs.declared.phase.Phase.TheVariants as phase
use Rattle.dccp_states.specs.declared.phase.Role.{Role}
use Rattle.dccp_states.specs.declared.phase.Role.TheVariants as role
use Rattle.dccp_states.specs.declared.reply.Reply.{Reply}
use Rattle.dccp_states.specs.declared.reply.Reply.TheVariants as reply
use Rattle.dccp_states.specs.Unexpected.{unexpected}
use Rattle.dccp_endpoint.specs.Causes.{is_waiting}
use Rattle.dccp_endpoint.specs.Early.{is_part_open}
use Rattle.dccp_endpoint.specs.Faults.{counts}
use Rattle.dccp_endpoint.specs.End.{first_phase, is_begun, is_connected, is_live, is_open, is_phase_of, phase_entered}

-- where each role begins: in its own phase, in which nothing was received or sent
pub record Begins (r : Role) : Type 0 where
  pub in_role : is_phase_of (first_phase r) r ≡ true
  pub not_live : is_live (first_phase r) ≡ false
  pub not_begun : is_begun (first_phase r) ≡ false

-- for each role
pub begins : (r : Role) → Begins r
begins role.Client = record { in_role = refl; not_live = refl; not_begun = refl }
begins role.Server = record { in_role = refl; not_live = refl; not_begun = refl }

-- A Request opens in LISTEN.
pub accept-so : (ph : Phase) (t : PacketType) → gate ph t ≡ entrance.Accept → (ph ≡ phase.Listen) × (t ≡ types.Request)
accept-so phase.Listen types.Request is = (refl, refl)
accept-so _ types.Reset is = (cc, cc)
accept-so _ _ is = (cc, cc)

-- A Response or a Reset answers in REQUEST.
pub answer-so : (ph : Phase) (t : PacketType) → gate ph t ≡ entrance.InRequest → (ph ≡ phase.Request) × (t ≢ types.Reset → t ≡ types.Response)
answer-so phase.Request types.Response is = (refl, λ other. refl)
answer-so _ types.Reset is = (cc, λ other. absurd (other refl))
answer-so _ _ is = (cc, λ other. cc)

-- Windows are looked at where a first number was received.
pub check-live : (ph : Phase) (t : PacketType) → gate ph t ≡ entrance.Check → is_live ph ≡ true
check-live phase.Listen types.Request is = cc is
check-live _ types.Reset is = cc
check-live _ _ is = cc

-- who waits for a Request is a server
pub listens-server : (r : Role) (ph : Phase) → ph ≡ phase.Listen → is_phase_of ph r ≡ true → r ≡ role.Server
listens-server role.Client ph listens fits = cc (ap (λ (p : Phase). is_phase_of p role.Client) listens, fits)
listens-server role.Server ph listens fits = refl

-- and who has sent one is a client
pub requests-client : (r : Role) (ph : Phase) → ph ≡ phase.Request → is_phase_of ph r ≡ true → r ≡ role.Client
requests-client role.Client ph asks fits = refl
requests-client role.Server ph asks fits = cc (ap (λ (p : Phase). is_phase_of p role.Server) asks, fits)

-- an end that accepts a Request may be in RESPOND
pub accept_fits : (ph : Phase) (t : PacketType) (r : Role) → gate ph t ≡ entrance.Accept → is_phase_of ph r ≡ true → is_phase_of phase.Respond r ≡ true
accept_fits ph t r is fits = ap (is_phase_of phase.Respond) (listens-server r ph (accept-so ph t is).0 fits)

-- the table of phases keeps to the role
pub after_fits : (ph : Phase) (t : PacketType) (r : Role) → is_phase_of ph r ≡ true → is_phase_of (after ph t).0 r ≡ true
after_fits phase.Request types.Response role.Client fits = refl
after_fits phase.Request types.Response role.Server fits = fits
after_fits _ types.Reset r fits = refl
after_fits _ _ r fits = cc

-- An Ack goes out where the handshake has got through, and the table closes where it answers by a Reset.
abbrev FitsReply : Phase → Reply → Type 0
FitsReply to reply.Ack = is_connected to ≡ true
FitsReply to reply.ResetClosed = to ≡ phase.Closed
FitsReply to r = r ≡ r

row-fits : (ph : Phase) (t : PacketType) → FitsReply (after ph t).0 (after ph t).1
row-fits phase.Closed types.Request = refl
row-fits _ types.Reset = refl
row-fits _ _ = refl

-- a reply fits the phase to which the packet leads
pub fits-reply : (ph : Phase) (t : PacketType) (to : Phase) (r : Reply) → after ph t ≡ (to, r) → FitsReply to r
fits-reply ph t to r is = subst (λ (row : Phase × Reply). FitsReply row.0 row.1) is (row-fits ph t)

-- it answers a Close
closes-row : (ph : Phase) (t : PacketType) → (after ph t).1 ≡ reply.ResetClosed → t ≡ types.Close
closes-row phase.Closed types.Request is = cc is
closes-row _ types.Close is = refl
closes-row _ types.Reset is = cc is
closes-row _ _ is = cc is

-- only a Close is answered with Reset Closed
pub answers-close : (ph : Phase) (t : PacketType) (to : Phase) → after ph t ≡ (to, reply.ResetClosed) → t ≡ types.Close
answers-close ph t to is = closes-row ph t (ap (λ (row : Phase × Reply). row.1) is)

-- where a first number was received
pub live-begun : (ph : Phase) → is_live ph ≡ true → is_begun ph ≡ true
live-begun phase.Closed is = cc is
live-begun phase.Listen is = cc is
live-begun _ is = refl

-- a live end has entered
pub live-entered : (ph : Phase) → is_live ph ≡ true → phase_entered ph ≡ ph
live-entered phase.Listen is = cc is
live-entered _ is = refl

-- OPEN is the one open phase
pub open-is : (ph : Phase) → is_open ph ≡ true → ph ≡ phase.Open
open-is phase.Open is = refl
open-is _ is = cc is

-- PARTOPEN is the one that is called so
pub part-open-is : (ph : Phase) → is_part_open ph ≡ true → ph ≡ phase.PartOpen
part-open-is phase.PartOpen is = refl
part-open-is _ is = cc is

-- Who has heard its peer waits for it no more.
pub live-heard : (ph : Phase) → is_live ph ≡ true → is_waiting ph ≡ false
live-heard phase.Closed is = refl
live-heard phase.Listen is = cc is
live-heard phase.Request is = cc is
live-heard _ is = refl

-- no packet leads a live end to wait
pub after-heard : (ph : Phase) (t : PacketType) → is_live ph ≡ true → is_waiting (after ph t).0 ≡ false
after-heard phase.Closed t is = cc is
after-heard phase.Listen t is = cc is
after-heard phase.Request t is = cc is
after-heard _ types.Reset is = refl
after-heard _ _ is = refl

-- an end that has begun is not CLOSED
pub begun-not-closed : (ph : Phase) → is_begun ph ≡ true → ph ≢ phase.Closed
begun-not-closed phase.Closed is = λ same. cc is
begun-not-closed _ is = λ same. cc same

-- Where options count, the table answers by a packet on which Confirms may go, or else the handshake has got through.
abbrev pub MaySay : Phase → Reply → Type 0
MaySay to reply.Nothing = is_connected to ≡ true
MaySay to reply.Response = Unit {0}
MaySay to reply.Ack = Unit {0}
MaySay to reply.SyncAck = Unit {0}
MaySay to reply.Close = ⊥
MaySay to reply.ResetClosed = ⊥
MaySay to reply.Torn = ⊥

may-say-row : (r : Role) (ph : Phase) (t : PacketType) (later : Bool) → is_phase_of ph r ≡ true → counts ph t ≡ true → unexpected r ph t later ≡ false
    → MaySay (after ph t).0 (after ph t).1
may-say-row r phase.Closed t later fits is out = cc is
may-say-row r phase.Listen t later fits is out = cc is
may-say-row r phase.CloseReq t later fits is out = cc is
may-say-row r phase.Closing t later fits is out = cc is
may-say-row r phase.TimeWait t later fits is out = cc is
may-say-row r phase.Request types.Response later fits is out = tt
may-say-row r phase.Request _ later fits is out = cc is
may-say-row role.Client phase.Respond t later fits is out = cc fits
may-say-row role.Server phase.Respond types.Response later fits is out = cc out
may-say-row role.Server phase.Respond types.Request later fits is out = tt
may-say-row role.Server phase.Respond types.Ack later fits is out = tt
may-say-row role.Server phase.Respond types.Sync later fits is out = tt
may-say-row role.Server phase.Respond types.SyncAck later fits is out = tt
may-say-row role.Server phase.Respond _ later fits is out = cc
may-say-row r phase.PartOpen types.Response later fits is out = tt
may-say-row r phase.PartOpen types.Sync later fits is out = tt
may-say-row r phase.PartOpen types.Request later fits is out = refl
may-say-row r phase.PartOpen types.Ack later fits is out = refl
may-say-row r phase.PartOpen types.SyncAck later fits is out = refl
may-say-row r phase.PartOpen _ later fits is out = cc
may-say-row r phase.Open types.Sync later fits is out = tt
may-say-row r phase.Open types.Request later fits is out = refl
may-say-row r phase.Open types.Response later fits is out = refl
may-say-row r phase.Open types.Ack later fits is out = refl
may-say-row r phase.Open types.SyncAck later fits is out = refl
may-say-row r phase.Open _ later fits is out = cc

-- a packet whose options count has a reply that may say something, or a phase that acknowledges
pub may-say : (r : Role) (ph : Phase) (t : PacketType) (later : Bool) (to : Phase) (answer : Reply) → is_phase_of ph r ≡ true → counts ph t ≡ true
    → unexpected r ph t later ≡ false → after ph t ≡ (to, answer) → MaySay to answer
may-say r ph t later to answer fits is out row = subst (λ (x : Phase × Reply). MaySay x.0 x.1) row (may-say-row r ph t later fits is out)
