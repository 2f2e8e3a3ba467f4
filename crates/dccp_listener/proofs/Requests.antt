-- A fresh end that leaves LISTEN has heard a Request.
use Rattle.std.proofs.Common.{◌≡◌, refl, ap, ◌∙◌, ℕ, Bool, true, false, if◌then◌else◌, List, Some, None, Result, Ok, Err, IsSome}
use Rattle.std.proofs.lemmas.Bool.{false≢true}
use Rattle.dccp_packets.specs.Grammar.{Parts, decoded}
use Rattle.dccp_packets.specs.declared.header.Header.{Header}
use Rattle.dccp_packets.specs.declared.header.Kind.{Kind}
use Rattle.dccp_packets.specs.declared.header.Kind.TheVariants as kind
use Rattle.dccp_packets.specs.declared.header.Number.{Number}
use Rattle.dccp_packets.specs.declared.header.Number.TheVariants.{Long, Short}
use Rattle.dccp_packets.specs.declared.reading.Malformed.{Malformed}
use Rattle.dccp_sum.specs.Checksum.{checked}
use Rattle.dccp_sum.specs.declared.packet_sum.SumFault.{SumFault}
use Rattle.dccp_endpoint.specs.End.{EndState, is_begun, new_end}
use Rattle.dccp_endpoint.specs.Incoming.{incoming}
use Rattle.dccp_endpoint.specs.Receiving.{by_ports, by_sum, checks_header, is_of_connection, read_number, received, receives, takes, with_own_number, with_packet}
use Rattle.dccp_states.specs.declared.outcome.Why.{Why}
use Rattle.dccp_listener.specs.Calls.{BusyAnswersRequests, IsRequest, busy_frame, reset_by}
use Rattle.dccp_packets.specs.ResetCodes.{number_of_code}
use Rattle.dccp_packets.specs.declared.reset_code.ResetCode.TheVariants as codes
use Rattle.dccp_listener.specs.Chain.{config_for}
use Rattle.dccp_listener.specs.Peers.{FlowEnd}
use Rattle.dccp_listener.specs.declared.config.ListenConfig.{ListenConfig}
use Rattle.dccp_listener.specs.declared.peer.Peer.{Peer}

-- a fresh end of this peer
abbrev fresh : ListenConfig → Peer → ℕ → List ℕ → EndState
fresh config peer iss bytes = new_end (config_for config peer iss bytes)

-- only a Request takes it out of LISTEN
leaves-by : (config : ListenConfig) (peer : Peer) (iss : ℕ) (made bytes : List ℕ) (p : Parts) (number : ℕ) (k : Kind) → p.header.kind ≡ k
    → is_begun (takes (fresh config peer iss made)
    (incoming (fresh config peer iss made) bytes (record p { header = record p.header { kind = k } }) number)).after.phase ≡ true
    → (service : ℕ) × (k ≡ kind.Request service)
leaves-by config peer iss made bytes p number (kind.Request service) is live = (service, refl)
leaves-by config peer iss made bytes p number _ is live = absurd (false≢true live)

-- a number that it reads is long
long-by : (config : ListenConfig) (peer : Peer) (iss : ℕ) (made : List ℕ) (n : Number) (number : ℕ) → read_number (fresh config peer iss made) n ≡ Ok number
    → (long : ℕ) × (n ≡ Long long)
long-by config peer iss made (Long long) number is = (long, refl)
long-by config peer iss made (Short short) number is = cc is

long-by-ports : (config : ListenConfig) (peer : Peer) (iss : ℕ) (made : List ℕ) (n : Number) (ours : Bool) (number : ℕ)
    → by_ports (fresh config peer iss made) n ours ≡ Ok number → (long : ℕ) × (n ≡ Long long)
long-by-ports config peer iss made n true number is = long-by config peer iss made n number is
long-by-ports config peer iss made n false number is = cc is

long-by-sum : (config : ListenConfig) (peer : Peer) (iss : ℕ) (made : List ℕ) (header : Header) (sum : Result (Unit {0}) SumFault) (number : ℕ)
    → by_sum (fresh config peer iss made) header sum ≡ Ok number → (long : ℕ) × (header.number ≡ Long long)
long-by-sum config peer iss made header (Ok _) number is =
    long-by-ports config peer iss made header.number (is_of_connection (fresh config peer iss made) header) number is
long-by-sum config peer iss made header (Err fault) number is = cc is

by-number : (config : ListenConfig) (peer : Peer) (iss : ℕ) (made bytes : List ℕ) (p : Parts) (read : Result ℕ Why) → decoded bytes ≡ Ok p
    → checks_header (fresh config peer iss made) bytes p.header ≡ read
    → is_begun (received (fresh config peer iss made) (with_own_number (fresh config peer iss made) bytes p read)).after.phase ≡ true → IsRequest bytes
by-number config peer iss made bytes p (Ok number) is numbered live =
    let asked = leaves-by config peer iss made bytes p number p.header.kind refl live in
    let long = long-by-sum config peer iss made p.header (checked (fresh config peer iss made).config.pseudo_in bytes) number numbered in
    record { parts = p; number = long.0; service = asked.0; is_packet = is; asks = asked.1; is_long = long.1 }
by-number config peer iss made bytes p (Err why) is numbered live = absurd (false≢true live)

by-packet : (config : ListenConfig) (peer : Peer) (iss : ℕ) (made bytes : List ℕ) (read : Result Parts Malformed) → decoded bytes ≡ read
    → is_begun (received (fresh config peer iss made) (with_packet (fresh config peer iss made) bytes read)).after.phase ≡ true → IsRequest bytes
by-packet config peer iss made bytes (Ok p) is live =
    by-number config peer iss made bytes p (checks_header (fresh config peer iss made) bytes p.header) is refl live
by-packet config peer iss made bytes (Err fault) is live = absurd (false≢true live)

opened-by-request : (config : ListenConfig) (peer : Peer) (iss : ℕ) (made bytes : List ℕ)
    → is_begun (receives (fresh config peer iss made) bytes).after.phase ≡ true → IsRequest bytes
unfolding receives
opened-by-request config peer iss made bytes live = by-packet config peer iss made bytes (decoded bytes) refl live

stays-if : (e : FlowEnd) (stays : Bool) → IsSome (if stays then Some e else None) → stays ≡ true
stays-if e true some = refl
stays-if e false some = absurd (false≢true some)

pub busy_answers_requests : BusyAnswersRequests
busy_answers_requests l peer iss bytes busy =
    let live = stays-if _ _ busy.would_stay in
    let request = opened-by-request l.config peer iss bytes bytes live in
    (request, ap (busy_frame (config_for l.config peer iss bytes)) request.is_packet ∙ ap (reset_by (number_of_code codes.TooBusy) (config_for l.config peer iss bytes)) request.is_long)
