-- `show` and the object of a record judge by the same bytes.
use Rattle.std.proofs.Common.{◌≡◌, refl, sym, ap, ◌∙◌, subst, Bool, true, false, List, ℕ, Option, Some, None, Result, Ok, Err}
use Rattle.capture_reader.specs.Records.{RecordParts}
use Rattle.dccp_packets.specs.Grammar.{Parts, decoded}
use Rattle.dccp_packets.specs.declared.reading.Malformed.{Malformed}
use Rattle.packet_show.specs.Flows.{Flow}
use Rattle.packet_show.specs.Lines.{shows, shows_carried, shows_decoded, shows_malformed}
use Rattle.packet_show.specs.Network.{DatagramParts, carried}
use Rattle.bridge_links.specs.Links.{IsPlainFrame, IsUnextended, ip_bytes}
use Rattle.bridge_command.proofs.UnwrappedShowing.{ethernet-stays, raw-stays}
use Rattle.bridge_command.specs.Judging.{judged_bytes, judged_carried, judged_fault, judged_ip, shown_of}

fault-agrees : (seen : List Flow) (e : RecordParts) (there : DatagramParts) (whole : Bool) (why : Malformed)
    → (shows_malformed seen e whole why).shown ≡ shown_of (judged_fault there whole why)
fault-agrees seen e there true why = refl
fault-agrees seen e there false why = refl

bytes-agree : (seen : List Flow) (e : RecordParts) (there : DatagramParts) (read : Result Parts Malformed)
    → (shows_decoded seen e there read).shown ≡ shown_of (judged_bytes there read)
bytes-agree seen e there (Ok packet) = refl
bytes-agree seen e there (Err why) = fault-agrees seen e there there.whole why

carried-agrees : (seen : List Flow) (e : RecordParts) (ip : List ℕ) (found : Option DatagramParts)
    → (shows_carried seen e found).shown ≡ shown_of (judged_carried ip found)
carried-agrees seen e ip None = refl
carried-agrees seen e ip (Some there) = bytes-agree seen e there (decoded there.bytes)

agrees : (seen : List Flow) (e : RecordParts) → carried e.link e.bytes ≡ carried 101 (ip_bytes e.link e.bytes)
    → (shows seen e).shown ≡ shown_of (judged_ip (ip_bytes e.link e.bytes))
agrees seen e same =
    ap (λ (found : Option DatagramParts). (shows_carried seen e found).shown) same
    ∙ carried-agrees seen e (ip_bytes e.link e.bytes) (carried 101 (ip_bytes e.link e.bytes))

pub raw-agrees : (seen : List Flow) (e : RecordParts) → e.link ≡ 101 → IsUnextended e.link e.bytes
    → (shows seen e).shown ≡ shown_of (judged_ip (ip_bytes e.link e.bytes))
raw-agrees seen e raw none =
    agrees seen e
    (subst (λ (link : ℕ). carried link e.bytes ≡ carried 101 (ip_bytes link e.bytes)) (sym raw)
    (sym (raw-stays e.bytes (subst (λ (link : ℕ). IsUnextended link e.bytes) raw none))))

pub ethernet-agrees : (seen : List Flow) (e : RecordParts) → e.link ≡ 1 → IsPlainFrame e.bytes → IsUnextended e.link e.bytes
    → (shows seen e).shown ≡ shown_of (judged_ip (ip_bytes e.link e.bytes))
ethernet-agrees seen e ethernet untagged none =
    agrees seen e
    (subst (λ (link : ℕ). carried link e.bytes ≡ carried 101 (ip_bytes link e.bytes)) (sym ethernet)
    (sym (ethernet-stays e.bytes untagged (subst (λ (link : ℕ). IsUnextended link e.bytes) ethernet none))))
