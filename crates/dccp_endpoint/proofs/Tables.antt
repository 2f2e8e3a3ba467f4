-- What the tables of types, numbers and codes say, by their lines.
use Rattle.std.proofs.Common.{◌≡◌, ◌⊎◌, inl, inr, refl, ℕ, Bool, true, false, if◌then◌else◌, Option, Some, None}
use Rattle.std.proofs.lemmas.Bool.{false≢true, or_parts}
use Rattle.dccp_packets.specs.ResetCodes.{number_of_code}
use Rattle.dccp_packets.specs.declared.header.PacketType.{PacketType}
use Rattle.dccp_packets.specs.declared.header.PacketType.TheVariants as types
use Rattle.dccp_packets.specs.declared.reset_code.ResetCode.TheVariants as codes
use Rattle.dccp_states.specs.Unexpected.{unexpected}
use Rattle.dccp_states.specs.declared.phase.Phase.{Phase}
use Rattle.dccp_states.specs.declared.phase.Phase.TheVariants as phase
use Rattle.dccp_states.specs.declared.phase.Role.{Role}
use Rattle.dccp_states.specs.declared.phase.Role.TheVariants as role
use Rattle.validity_windows.specs.Verdict.{gar_after, verdict}
use Rattle.validity_windows.specs.declared.marks.Marks.{Marks}
use Rattle.validity_windows.specs.declared.verdict.Verdict.{Verdict}
use Rattle.validity_windows.specs.declared.verdict.Verdict.TheVariants as verdicts
use Rattle.dccp_endpoint.specs.Causes.{is_code_without_connection}
use Rattle.dccp_endpoint.specs.Reporting.{is_acking}
use Rattle.dccp_endpoint.specs.Effects.{gar_by, raising}
use Rattle.dccp_endpoint.specs.Receiving.{is_other_service}

-- GAR by what a packet acknowledges
pub gar-by : (gar : ℕ) (t : PacketType) (ack : Option ℕ) → gar_after gar t ack ≡ gar_by gar (raising t ack)
gar-by gar types.Sync ack = refl
gar-by gar _ None = refl
gar-by gar _ (Some ack) = refl

-- step 7 refuses no Ack and no DataAck
pub unexpected-no-ack : (r : Role) (ph : Phase) (t : PacketType) (later : Bool) → unexpected r ph t later ≡ true → is_acking t ≡ false
unexpected-no-ack role.Client phase.Respond types.Ack later is = cc is
unexpected-no-ack role.Server phase.Respond types.Ack later is = cc is
unexpected-no-ack _ _ types.DataAck later is = cc is
unexpected-no-ack _ _ _ later is = cc

-- a Response for another service reaches REQUEST
pub other-service-asked : (e : _) (ph : Phase) (t : PacketType) (service : Option ℕ) → is_other_service e ph t service ≡ true → ph ≡ phase.Request
other-service-asked e phase.Request t service is = refl
other-service-asked e _ t service is = absurd (false≢true is)

-- the Sync for a packet acknowledges the packet or the greatest number received
not-valid : (valid : Bool) (other : Verdict) (n : ℕ) → (if valid then verdicts.Valid else other) ≡ verdicts.SyncFor n → other ≡ verdicts.SyncFor n
not-valid true other n is = cc is
not-valid false other n is = is

-- a Sync acknowledges the packet's number, or GSR
pub sync-acknowledges : (m : Marks) (t : PacketType) (number : ℕ) (ack : Option ℕ) (n : ℕ) → verdict m t number ack ≡ verdicts.SyncFor n → (n ≡ number)
    ⊎ (n ≡ m.gsr)
sync-acknowledges m types.Sync number ack n is = absurd (cc (not-valid _ verdicts.Drop n is))
sync-acknowledges m types.SyncAck number ack n is = absurd (cc (not-valid _ verdicts.Drop n is))
sync-acknowledges m types.Reset number ack n is = inr (cc (not-valid _ (verdicts.SyncFor m.gsr) n is))
sync-acknowledges m _ number ack n is = inl (cc (not-valid _ (verdicts.SyncFor number) n is))

-- the codes of Resets
pub no-connection-code : (r : Role) → is_code_without_connection r (number_of_code codes.NoConnection) ≡ true
no-connection-code role.Client = refl
no-connection-code role.Server = refl

-- what a server may send in its connection, a client may too
pub numbered-code : (r : Role) (code : ℕ) → is_code_without_connection role.Server code ≡ false → is_code_without_connection r code ≡ false
numbered-code role.Client code is = (or_parts _ _ is).0
numbered-code role.Server code is = is
