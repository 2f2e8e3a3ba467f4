-- What is known of the application that reads an end's data, and what that leaves of the window (RFC 4340, sections 11.6, 11.7
-- and 11.7.2; RFC 4341, section 5.2; own).
use Rattle.std.specs.Prelude.{ℕ, ◌-◌, nat_lt, nat_le, Bool, false, ◌||◌, Option, Some, None, if◌then◌else◌}
use Rattle.path_rules.specs.Allowance.{allowed_after_acks, allowed_after_congestion, allowed_after_drops, allowed_after_timeout, is_within_round_trip}
use Rattle.path_rules.specs.declared.allowance.Allowance.{Allowance}
use Rattle.path_rules.specs.declared.round_trip.RoundTrip.{RoundTrip}
use Rattle.seq_circle.specs.Circle.{is_before, is_from}
use Rattle.dccp_uses.specs.declared.notice.Notice.{Notice}
use Rattle.dccp_uses.specs.declared.path.TimedPacket.{TimedPacket}
use Rattle.dccp_uses.specs.declared.reader.Reader.{Reader}
use Rattle.dccp_uses.specs.declared.reader.Restraint.{Restraint}
use Rattle.dccp_uses.specs.declared.reader.Restraint.TheVariants as restraint
use Rattle.dccp_uses.specs.declared.sight.Sight.{Sight}

-- nothing is known of it
abbrev pub reader_begins : Reader
reader_begins = record { counted = None; allowance = None; hold = None; mark = None; refused = false; stopped = false }

-- the number up to which reports of drops were counted, after one at this number
abbrev pub counted_up_to : Option ℕ → ℕ → ℕ
counted_up_to None ack = ack
counted_up_to (Some counted) ack = if is_before counted ack then ack else counted

-- the same after a report, if there was one
abbrev pub counted_after : Option ℕ → Option ℕ → Option ℕ
counted_after counted None = counted
counted_after counted (Some ack) = Some (counted_up_to counted ack)

-- the packet asks the sender to go slower: a slow receiver, or one whose buffer dropped data
abbrev pub asks_slower : Notice → Bool
asks_slower notice = notice.slow || nat_lt 0 notice.drops.full

-- the congestion control has made its window smaller
abbrev pub narrows : Sight → Sight → Bool
narrows old new = nat_lt new.window old.window

-- half of the allowance, if there is one: the congestion control has halved the window itself
abbrev pub halved_if_any : Option Allowance → ℕ → Option Allowance
halved_if_any None window = None
halved_if_any (Some it) window = Some (allowed_after_congestion (Some it) window)

-- Congestion: the window is halved once for all that was sent by then. A drop that counts as a mark halves only the allowance, since the
-- congestion control knows nothing of it (RFC 4340, section 11.7.2).
abbrev pub reader_congested : Reader → Notice → Sight → Sight → Reader
reader_congested reader notice old new =
    if narrows old new then record reader { allowance = halved_if_any reader.allowance old.window; mark = Some new.gss }
    else if notice.drops.marked then record reader { allowance = Some (allowed_after_congestion reader.allowance old.window); mark = Some new.gss }
    else reader

-- The sender goes slower by one packet for each that the buffer dropped, and for a round trip from now on it goes no faster.
abbrev pub reader_slowed : Reader → Notice → Sight → Sight → ℕ → Reader
reader_slowed reader notice old new now =
    record reader { allowance = Some (allowed_after_drops reader.allowance old.window notice.drops.full); hold = Some (record { number = new.gss; at = now }) }

-- less than a round trip has gone by since the sender had to go slower
abbrev pub is_held : Option RoundTrip → Option TimedPacket → ℕ → ℕ → Bool
is_held trip None gar now = false
is_held trip (Some hold) gar now = is_within_round_trip trip (now - hold.at) (is_from hold.number gar)

-- packets that came out of flight open the allowance, if there is one
abbrev pub opened_if_any : Option Allowance → ℕ → ℕ → Option Allowance
opened_if_any None window acked = None
opened_if_any (Some it) window acked = Some (allowed_after_acks it window acked)

-- the same, unless the window is not to grow now
abbrev pub reader_opened : Reader → Bool → Sight → Sight → Reader
reader_opened reader still old new =
    if still then reader else record reader { allowance = opened_if_any reader.allowance new.window (old.in_flight - new.in_flight) }

-- what a packet that was taken does to the allowance
abbrev pub reader_moved : Option RoundTrip → Reader → Notice → Sight → Sight → ℕ → Reader
reader_moved trip reader notice old new now =
    if asks_slower notice then reader_slowed (reader_congested reader notice old new) notice old new now
    else
    reader_opened (reader_congested reader notice old new)
    (narrows old new || (notice.drops.marked || is_held trip reader.hold new.gar now)) old new

-- what the packet says to the owner is noted
abbrev pub reader_told : Reader → Notice → Reader
reader_told reader notice =
    record reader {
      counted = counted_after reader.counted notice.ack;
      refused = reader.refused || notice.drops.refused;
      stopped = reader.stopped || notice.drops.stopped;
    }

-- What is known of the application once a packet with this notice was taken.
abbrev pub reader_heard : Option RoundTrip → Reader → Notice → Sight → Sight → ℕ → Reader
reader_heard trip reader notice old new now = reader_told (reader_moved trip reader notice old new now) notice

-- what a timeout leaves of the allowance, if there is one
abbrev pub shrunk_if_any : Option Allowance → Option Allowance
shrunk_if_any None = None
shrunk_if_any (Some it) = Some (allowed_after_timeout it)

-- after a timeout, which is congestion too
abbrev pub reader_timed_out : Reader → ℕ → Reader
reader_timed_out reader gss = record reader { allowance = shrunk_if_any reader.allowance; mark = Some gss }

-- as many packets are in flight as the allowance permits
abbrev pub is_used_up : Option Allowance → ℕ → Bool
is_used_up None in_flight = false
is_used_up (Some it) in_flight = nat_le it.most in_flight

-- Why data have to wait: no application listens any more (RFC 4340, section 11.7.2), or as many packets are in flight as it permits.
abbrev pub restraint_of : Reader → ℕ → Option Restraint
restraint_of reader in_flight =
    if reader.stopped then Some restraint.NotListening else if is_used_up reader.allowance in_flight then Some restraint.Full else None
