-- What a fresh end makes of a Request for its service: it answers and stays, or closes for a fault of the options.
use Rattle.std.proofs.Common.{◌≡◌, refl, sym, subst, ◌==◌, ℕ, Bool, true, false, List, [], ◌∷◌, Option, Result, Ok, Err}
use Rattle.dccp_packets.specs.Grammar.{Parts}
use Rattle.dccp_packets.specs.Outgoing.{Outgoing}
use Rattle.dccp_packets.specs.declared.header.Kind.{Kind}
use Rattle.dccp_packets.specs.declared.header.Kind.TheVariants as kind
use Rattle.dccp_packets.specs.declared.header.PacketType.TheVariants as types
use Rattle.dccp_states.specs.declared.entrance.Entrance.TheVariants as entrance
use Rattle.dccp_states.specs.declared.phase.Phase.TheVariants as phases
use Rattle.dccp_states.specs.declared.phase.Role.{Role}
use Rattle.dccp_states.specs.declared.phase.Role.TheVariants as roles
use Rattle.dccp_endpoint.specs.End.{EndState, new_end}
use Rattle.dccp_endpoint.specs.Heeding.{ReadingState}
use Rattle.dccp_endpoint.specs.Incoming.{Incoming, incoming}
use Rattle.dccp_endpoint.specs.Receiving.{checks_numbers, checks_type, ends_as, ends_by_reset, fault_if, heeded, opens_connection, reads_request, started, takes, takes_answer, through}
use Rattle.dccp_endpoint.specs.Steps.{Step}
use Rattle.dccp_endpoint.specs.declared.config.Config.{Config}
use Rattle.dccp_states.specs.declared.outcome.Fault.{Fault}
use Rattle.dccp_states.specs.declared.outcome.Outcome.{Outcome}
use Rattle.dccp_endpoint.specs.Strangers.{IsStrangerAnswered, IsRequestAnswered}

-- a server's end, and a Request as it reads it
abbrev server : Config → EndState
server config = new_end (record config { role = roles.Server })

abbrev asking : Parts → ℕ → Parts
asking p service = record p { header = record p.header { kind = kind.Request service } }

abbrev asked : Config → List ℕ → Parts → ℕ → ℕ → Incoming
asked config bytes p service number = incoming (server config) bytes (asking p service) number

-- its options are read in RESPOND
abbrev heard : Config → List ℕ → Parts → ℕ → ℕ → Result ReadingState Fault → Step Outcome
heard config bytes p service number read =
    heeded (started (server config) phases.Respond (asked config bytes p service number)) (asked config bytes p service number) read

-- by their results
answered-by : (config : Config) (bytes : List ℕ) (p : Parts) (service number : ℕ) (read : Result ReadingState Fault) (frame : Option Outgoing) (told : Option Outcome)
    → IsRequestAnswered (record config { role = roles.Server }) number (fault_if read) frame told → IsStrangerAnswered (heard config bytes p service number read) frame told
answered-by config bytes p service number (Ok h) frame told so =
    subst (λ (t : Option Outcome). IsStrangerAnswered (heard config bytes p service number (Ok h)) frame t) (sym so.1) (so.0, refl)
answered-by config bytes p service number (Err fault) frame told so =
    subst (λ (t : Option Outcome). IsStrangerAnswered (heard config bytes p service number (Err fault)) frame t) (sym so.1) (sym so.0, refl, refl)

-- the service is the end's, so the steps before let the Request pass
heard-by : (config : Config) (bytes : List ℕ) (p : Parts) (service number : ℕ) (own : Bool) → own ≡ true
    → ends_as (asked config bytes p service number)
    (through (opens_connection (asked config bytes p service number) (server config) own)
    (takes_answer (asked config bytes p service number) entrance.Accept
    ∷ checks_numbers (asked config bytes p service number) entrance.Accept
    ∷ ends_by_reset (asked config bytes p service number) types.Request
    ∷ checks_type (asked config bytes p service number)
    ∷ []))
    ≡ heard config bytes p service number (reads_request config.lists p.options)
heard-by config bytes p service number true is = refl
heard-by config bytes p service number false is = cc is

pub request_answered : (config : Config) (bytes : List ℕ) (p : Parts) (service number : ℕ) (frame : Option Outgoing) (told : Option Outcome)
    → config.role ≡ roles.Server
    → p.header.kind ≡ kind.Request service → (service == config.service) ≡ true
    → IsRequestAnswered config number (fault_if (reads_request config.lists p.options)) frame told
    → IsStrangerAnswered (takes (new_end config) (incoming (new_end config) bytes p number)) frame told
request_answered config bytes p service number frame told role asks own so =
    let server_so = subst (λ (r : Role). IsRequestAnswered (record config { role = r }) number
    (fault_if (reads_request config.lists p.options)) frame told) role so in
    let read = answered-by config bytes p service number (reads_request config.lists p.options) frame told server_so in
    let taken : IsStrangerAnswered (takes (server config) (asked config bytes p service number)) frame told
    = subst (λ (s : Step Outcome). IsStrangerAnswered s frame told) (sym (heard-by config bytes p service number (service == config.service) own)) read in
    let whole : IsStrangerAnswered (takes (server config) (incoming (server config) bytes p number)) frame told
    = subst (λ (k : Kind). IsStrangerAnswered
    (takes (server config) (incoming (server config) bytes (record p { header = record p.header { kind = k } }) number)) frame told)
    (sym asks) taken in
    subst (λ (r : Role). IsStrangerAnswered (takes (new_end (record config { role = r })) (incoming (new_end (record config { role = r })) bytes p number)) frame told)
    (sym role) whole
