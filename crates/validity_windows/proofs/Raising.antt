-- Whole marks and sound ones, and what a valid packet makes of them.
use Rattle.std.proofs.Common.{◌≡◌, ℕ, ◌+◌, ◌^◌, ◌<◌, ◌≤◌, max, Option, Some, None, inl, inr, refl, ◌∙◌, arith}
use Rattle.std.proofs.lemmas.Bool.{cases_lt}
use Rattle.seq_circle.specs.Circle.{residue, distance, later_of}
use Rattle.dccp_packets.specs.declared.header.PacketType.{PacketType}
use Rattle.dccp_packets.specs.declared.header.PacketType.TheVariants as types
use Rattle.validity_windows.specs.declared.marks.Marks.{Marks}
use Rattle.validity_windows.specs.Verdict.{gar_after, taken}
use Rattle.validity_windows.specs.Beginning.{AreSoundMarks, AreNumbers, begun}
use Rattle.validity_windows.specs.Whole.{residues, IsWhole, unrolled, residue_of, AckLies, HasValidNumbers, whole_ack_low, whole_gar_after, whole_taken, whole_begun}
use Rattle.validity_windows.proofs.Counts.{later_of-before, later_of-same, later_of-past}

abbrev marks : ℕ → ℕ → ℕ → ℕ → ℕ → ℕ → ℕ → ℕ → Marks
marks iss gss gar isr gsr osr own_w peer_w =
    record { iss = iss; gss = gss; gar = gar; isr = isr; gsr = gsr; osr = osr; own_w = own_w; peer_w = peer_w }

same_marks : {a a' b b' c c' d d' e e' f f' : ℕ} (own peer : ℕ) → a ≡ a' → b ≡ b' → c ≡ c' → d ≡ d' → e ≡ e' → f ≡ f'
    → marks a b c d e f own peer ≡ marks a' b' c' d' e' f' own peer
same_marks own peer iss gss gar isr gsr osr = cc

pub whole_of_sound : (m : Marks) → AreSoundMarks m → AreNumbers m → IsWhole (unrolled m)
whole_of_sound m sound fit =
    record {
      acknowledged = omega arith;
      sent = omega (arith, sound.acknowledged, sound.sent, sound.few_sent, fit.iss, fit.gar, fit.gss);
      few_sent = omega (arith, sound.few_sent);
      received = omega arith;
      few_received = omega (arith, sound.few_received);
    }

on : (first n : ℕ) → first < 2 ^ 48 → n < 2 ^ 48 → residue (first + distance first n) ≡ n
on first n first_fits fits = omega (arith, first_fits, fits)

kept : (n : ℕ) → n < 2 ^ 48 → residue n ≡ n
kept n fits = omega (arith, fits)

pub residues_of_unrolled : (m : Marks) → AreNumbers m → residues (unrolled m) ≡ m
residues_of_unrolled m fit =
    same_marks m.own_w m.peer_w (kept m.iss fit.iss) (on m.iss m.gss fit.iss fit.gss) (on m.iss m.gar fit.iss fit.gar)
    (kept m.isr fit.isr) (on m.isr m.gsr fit.isr fit.gsr) (kept m.osr fit.osr)

pub sound_of_whole : (w : Marks) → IsWhole w → AreSoundMarks (residues w)
sound_of_whole w whole =
    record {
      acknowledged = omega (arith, whole.acknowledged, whole.sent, whole.few_sent);
      sent = omega (arith, whole.acknowledged, whole.sent, whole.few_sent);
      few_sent = omega (arith, whole.acknowledged, whole.sent, whole.few_sent);
      few_received = omega (arith, whole.received, whole.few_received);
    }

-- within half a circle the later of two numbers is the greater
later-max : (first a b : ℕ) → first ≤ a → first ≤ b → a < first + 2 ^ 47 → b < first + 2 ^ 47 → later_of (residue a) (residue b) ≡ residue (max a b)
later-max first a b low_a low_b near_a near_b =
    elim (cases_lt a b) [
      | inl below ↦ later_of-before (residue a) (residue b) (omega arith) (omega arith) ∙ omega arith
      | inr above ↦ elim (cases_lt b a) [
        | inl past ↦ later_of-past (residue a) (residue b) (omega arith) ∙ omega arith
        | inr level ↦ later_of-same (residue a) (residue b) (omega arith) ∙ omega arith
      ]
    ]

-- a valid acknowledgement is of a packet that was sent
from_first : (first low high : ℕ) (ack : Option ℕ) → first ≤ low → AckLies low high ack → AckLies first high ack
from_first first low high None before lies = tt
from_first first low high (Some ack) before lies = (omega (arith, before, lies.0), lies.1)

acks_lie : (w : Marks) (kind : PacketType) (n : ℕ) (ack : Option ℕ) → IsWhole w → HasValidNumbers w kind n ack → AckLies w.iss w.gss ack
acks_lie w types.CloseReq n ack whole valid = from_first w.iss w.gar w.gss ack whole.acknowledged valid.2
acks_lie w types.Close n ack whole valid = from_first w.iss w.gar w.gss ack whole.acknowledged valid.2
acks_lie w types.Reset n ack whole valid = from_first w.iss w.gar w.gss ack whole.acknowledged valid.2
acks_lie w _ n ack whole valid = from_first w.iss (whole_ack_low w) w.gss ack (omega arith) valid.2

gar-max : (w : Marks) (ack : ℕ) → IsWhole w → (w.iss ≤ ack) × (ack ≤ w.gss) → later_of (residue w.gar) (residue ack) ≡ residue (max w.gar ack)
gar-max w ack whole lies =
    later-max w.iss w.gar ack whole.acknowledged lies.0 (omega (arith, whole.sent, whole.few_sent)) (omega (arith, lies.1, whole.few_sent))

raised_gar : (w : Marks) (kind : PacketType) (ack : Option ℕ) → IsWhole w → AckLies w.iss w.gss ack
    → gar_after (residue w.gar) kind (residue_of ack) ≡ residue (whole_gar_after w.gar kind ack)
raised_gar w types.Request None whole lies = refl
raised_gar w types.Request (Some ack) whole lies = gar-max w ack whole lies
raised_gar w types.Response None whole lies = refl
raised_gar w types.Response (Some ack) whole lies = gar-max w ack whole lies
raised_gar w types.Data None whole lies = refl
raised_gar w types.Data (Some ack) whole lies = gar-max w ack whole lies
raised_gar w types.Ack None whole lies = refl
raised_gar w types.Ack (Some ack) whole lies = gar-max w ack whole lies
raised_gar w types.DataAck None whole lies = refl
raised_gar w types.DataAck (Some ack) whole lies = gar-max w ack whole lies
raised_gar w types.CloseReq None whole lies = refl
raised_gar w types.CloseReq (Some ack) whole lies = gar-max w ack whole lies
raised_gar w types.Close None whole lies = refl
raised_gar w types.Close (Some ack) whole lies = gar-max w ack whole lies
raised_gar w types.Reset None whole lies = refl
raised_gar w types.Reset (Some ack) whole lies = gar-max w ack whole lies
raised_gar w types.Sync ack whole lies = refl
raised_gar w types.SyncAck None whole lies = refl
raised_gar w types.SyncAck (Some ack) whole lies = gar-max w ack whole lies

-- and the greatest of them stays between the first and the greatest number sent
greater_lies : (w : Marks) (ack : ℕ) → IsWhole w → (w.iss ≤ ack) × (ack ≤ w.gss) → (w.iss ≤ max w.gar ack) × (max w.gar ack ≤ w.gss)
greater_lies w ack whole lies = (omega (arith, whole.acknowledged), omega (arith, whole.sent, lies.1))

gar_lies : (w : Marks) (kind : PacketType) (ack : Option ℕ) → IsWhole w → AckLies w.iss w.gss ack
    → (w.iss ≤ whole_gar_after w.gar kind ack) × (whole_gar_after w.gar kind ack ≤ w.gss)
gar_lies w types.Request None whole lies = (whole.acknowledged, whole.sent)
gar_lies w types.Request (Some ack) whole lies = greater_lies w ack whole lies
gar_lies w types.Response None whole lies = (whole.acknowledged, whole.sent)
gar_lies w types.Response (Some ack) whole lies = greater_lies w ack whole lies
gar_lies w types.Data None whole lies = (whole.acknowledged, whole.sent)
gar_lies w types.Data (Some ack) whole lies = greater_lies w ack whole lies
gar_lies w types.Ack None whole lies = (whole.acknowledged, whole.sent)
gar_lies w types.Ack (Some ack) whole lies = greater_lies w ack whole lies
gar_lies w types.DataAck None whole lies = (whole.acknowledged, whole.sent)
gar_lies w types.DataAck (Some ack) whole lies = greater_lies w ack whole lies
gar_lies w types.CloseReq None whole lies = (whole.acknowledged, whole.sent)
gar_lies w types.CloseReq (Some ack) whole lies = greater_lies w ack whole lies
gar_lies w types.Close None whole lies = (whole.acknowledged, whole.sent)
gar_lies w types.Close (Some ack) whole lies = greater_lies w ack whole lies
gar_lies w types.Reset None whole lies = (whole.acknowledged, whole.sent)
gar_lies w types.Reset (Some ack) whole lies = greater_lies w ack whole lies
gar_lies w types.Sync ack whole lies = (whole.acknowledged, whole.sent)
gar_lies w types.SyncAck None whole lies = (whole.acknowledged, whole.sent)
gar_lies w types.SyncAck (Some ack) whole lies = greater_lies w ack whole lies

pub raised_by_maximum : (w : Marks) (kind : PacketType) (n : ℕ) (ack : Option ℕ) → IsWhole w → w.isr ≤ n → n < w.isr + 2 ^ 47 → HasValidNumbers w kind n ack
    → taken (residues w) kind (residue n) (residue_of ack) ≡ residues (whole_taken w kind n ack)
raised_by_maximum w kind n ack whole after near valid =
    same_marks w.own_w w.peer_w refl refl (raised_gar w kind ack whole (acks_lie w kind n ack whole valid)) refl
    (later-max w.isr w.gsr n whole.received after whole.few_received near) refl

pub taken_is_whole : (w : Marks) (kind : PacketType) (n : ℕ) (ack : Option ℕ) → IsWhole w → w.isr ≤ n → n < w.isr + 2 ^ 47 → HasValidNumbers w kind n ack
    → IsWhole (whole_taken w kind n ack)
taken_is_whole w kind n ack whole after near valid =
    let gar = gar_lies w kind ack whole (acks_lie w kind n ack whole valid) in
    record {
      acknowledged = gar.0;
      sent = gar.1;
      few_sent = whole.few_sent;
      received = omega (arith, whole.received);
      few_received = omega (arith, whole.few_received, near);
    }

pub begun_by_first : (w : Marks) (kind : PacketType) (n : ℕ) (ack : Option ℕ) → IsWhole w → AckLies (whole_ack_low w) w.gss ack
    → begun (residues w) kind (residue n) (residue_of ack) ≡ residues (whole_begun w kind n ack)
begun_by_first w kind n ack whole lies =
    same_marks w.own_w w.peer_w refl refl (raised_gar w kind ack whole (from_first w.iss (whole_ack_low w) w.gss ack (omega arith) lies)) refl refl refl

pub begun_is_whole : (w : Marks) (kind : PacketType) (n : ℕ) (ack : Option ℕ) → IsWhole w → AckLies (whole_ack_low w) w.gss ack
    → IsWhole (whole_begun w kind n ack)
begun_is_whole w kind n ack whole lies =
    let gar = gar_lies w kind ack whole (from_first w.iss (whole_ack_low w) w.gss ack (omega arith) lies) in
    record { acknowledged = gar.0; sent = gar.1; few_sent = whole.few_sent; received = omega arith; few_received = omega arith }
