-- What the short form of a packet's numbers leaves as it was, that it is a form of the type, and how it is read.
use Rattle.std.specs.Prelude.{◌≡◌, ℕ, ◌%◌, ◌^◌, ◌<◌, ◌≤◌, Bool, true, false, not, Option, Some, None}
use Rattle.std.proofs.Common.{refl, ap, arith}
use Rattle.seq_circle.proofs.NotFar.{finds-near}
use Rattle.seq_circle.specs.Circle.{is_far, is_ack_far}
use Rattle.dccp_packets.specs.declared.header.PacketType.{PacketType}
use Rattle.dccp_packets.specs.declared.header.PacketType.TheVariants as types
use Rattle.dccp_packets.specs.declared.header.Number.{Number}
use Rattle.dccp_packets.specs.declared.header.Number.TheVariants.{Long, Short}
use Rattle.dccp_packets.specs.declared.header.Kind.{Kind}
use Rattle.dccp_packets.specs.declared.header.Kind.TheVariants as kind
use Rattle.dccp_packets.specs.Forms.{ack_near, may_be_short, near, number_in_form, shortened, in_form}
use Rattle.dccp_packets.specs.Grammar.{fixed_length, has_forms, is_long, packet_type, NumberFits, KindFits}
use Rattle.dccp_packets.specs.Kinds.{ack_of}
use Rattle.dccp_packets.specs.Widths.{HasDetail}

pub type_in_form : (short : Bool) (k : Kind) → packet_type (in_form short k) ≡ packet_type k
type_in_form false k = refl
type_in_form true (kind.Request service) = refl
type_in_form true _ = refl

pub number_form : (short : Bool) (n : ℕ) → is_long (number_in_form short n) ≡ not short
number_form true n = refl
number_form false n = refl

pub formed : (short : Bool) (k : Kind) → has_forms true k ≡ true → (short ≡ true → may_be_short (packet_type k) ≡ true)
    → has_forms (not short) (in_form short k) ≡ true
formed false k long may = long
formed true kind.Data long may = refl
formed true (kind.Ack (Long ack)) long may = refl
formed true (kind.Ack (Short ack)) long may = refl
formed true (kind.DataAck (Long ack)) long may = refl
formed true (kind.DataAck (Short ack)) long may = refl
formed true _ long may = may refl

-- no type is longer in its short form
pub no_longer : (short : Bool) (t : PacketType) → fixed_length (not short) t ≤ fixed_length true t
no_longer false t = omega arith
no_longer true types.Request = omega arith
no_longer true _ = omega arith

pub detail_in_form : (short : Bool) (k : Kind) → HasDetail k → HasDetail (in_form short k)
detail_in_form false k has = has
detail_in_form true (kind.Reset ack code detail) has = has
detail_in_form true _ has = tt

pub number_fits : (short : Bool) (n : ℕ) → n < 2 ^ 48 → NumberFits (number_in_form short n)
number_fits true n fits = omega arith
number_fits false n fits = fits

shortened_fits : (n : Number) → NumberFits n → NumberFits (shortened n)
shortened_fits (Long n) fits = omega arith
shortened_fits (Short n) fits = fits

pub kind_fits : (short : Bool) (k : Kind) → KindFits k → KindFits (in_form short k)
kind_fits false k fits = fits
kind_fits true kind.Data fits = tt
kind_fits true (kind.Ack ack) fits = shortened_fits ack fits
kind_fits true (kind.DataAck ack) fits = shortened_fits ack fits
kind_fits true _ fits = fits

-- a number in either form is read in full
pub number_found : (short : Bool) (n reference : ℕ) → n < 2 ^ 48 → reference < 2 ^ 48 → (short ≡ true → is_far n reference ≡ false)
    → near reference (number_in_form short n) ≡ n
number_found true n reference fits within near_enough = finds-near n reference fits within (near_enough refl)
number_found false n reference fits within near_enough = refl

-- an acknowledgement number in the long form is read as it stands
pub long_read : (k : Kind) (reference : ℕ) → has_forms true k ≡ true → ack_near reference k ≡ ack_of k
long_read (kind.Ack (Short ack)) reference long = cc long
long_read (kind.DataAck (Short ack)) reference long = cc long
long_read _ reference long = refl

-- and so is the acknowledgement number of a packet whose numbers are in the form
pub ack_found : (short : Bool) (k : Kind) (reference : ℕ) → KindFits k → has_forms true k ≡ true → reference < 2 ^ 48
    → (short ≡ true → is_ack_far (ack_of k) reference ≡ false) → ack_near reference (in_form short k) ≡ ack_of k
ack_found false k reference fits long within near_enough = long_read k reference long
ack_found true (kind.Ack (Long ack)) reference fits long within near_enough = ap Some (finds-near ack reference fits within (near_enough refl))
ack_found true (kind.Ack (Short ack)) reference fits long within near_enough = cc long
ack_found true (kind.DataAck (Long ack)) reference fits long within near_enough = ap Some (finds-near ack reference fits within (near_enough refl))
ack_found true (kind.DataAck (Short ack)) reference fits long within near_enough = cc long
ack_found true _ reference fits long within near_enough = refl
