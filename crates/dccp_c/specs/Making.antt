-- The configuration of an end in C (own; it is that of an end).
use Rattle.std.specs.Prelude.{◌≡◌, ◌⊎◌, ℕ, ◌^◌, nat_lt, ◌==◌, Bool, true, false, not, ◌||◌, List, [], ◌∷◌, take, Option, Some, None, Result, Ok, Err, if◌then◌else◌, min}
use Rattle.ccid_two.specs.Kinds.{at_first, kinds_control}
use Rattle.dccp_endpoint.specs.Configured.{configured}
use Rattle.dccp_endpoint.specs.declared.config.Config.{Config}
use Rattle.data_dropped.specs.Intakes.{intake_of}
use Rattle.dccp_uses.specs.Timed.{timed_begins}
use Rattle.dccp_uses.specs.Path.{widened}
use Rattle.dccp_uses.specs.declared.pace.Pace.{Pace}
use Rattle.dccp_states.specs.declared.phase.Role.{Role}
use Rattle.dccp_states.specs.declared.phase.Role.TheVariants.{Client, Server}
use Rattle.dccp_sum.specs.declared.pseudo_header.Pseudo.{Pseudo}
use Rattle.dccp_sum.specs.declared.pseudo_header.Pseudo.TheVariants.{V4, V6}
use Rattle.feature_lists.specs.Features.{feature_numbered}
use Rattle.feature_lists.specs.Wishes.{is_ours, wish_of}
use Rattle.feature_lists.specs.declared.features.Feature.{Feature}
use Rattle.feature_lists.specs.declared.features.Place.{Place}
use Rattle.feature_lists.specs.declared.wishes.PreferFault.{PreferFault}
use Rattle.feature_lists.specs.declared.wishes.Wanted.{Wanted}
use Rattle.feature_machine.specs.Lists.{with_offer, with_wish, without_offers}
use Rattle.dccp_c.specs.Codes.{place_by, unwished_code}
use Rattle.dccp_c.specs.Stepping.{CEnd}
use Rattle.dccp_c.specs.declared.making.Care.{Care}
use Rattle.dccp_c.specs.declared.making.Settings.{Settings}
use Rattle.dccp_c.specs.declared.making.Wish.{Wish}

-- an IPv4 address, which is in the first four bytes
abbrev pub first_four : List ℕ → List ℕ
first_four address = take 4 address

-- the addresses of the packets that the end sends, of IPv6 or of IPv4
abbrev pub pseudo_of : Settings → Pseudo
pseudo_of s = if s.is_v6 then V6 s.own_address s.peer_address else V4 (first_four s.own_address) (first_four s.peer_address)

-- a server's end or a client's
abbrev pub role_by : Settings → Role
role_by s = if s.is_server then Server else Client

-- the usual configuration of these settings
abbrev pub usual_of_settings : Settings → Config
usual_of_settings s = configured (role_by s) (pseudo_of s) (record { own = s.own_port; peer = s.peer_port }) s.service s.first_number

-- the configuration, with the usual offers or with none
abbrev pub unless_plain : Bool → Config → Config
unless_plain true config = record config { lists = without_offers config.lists }
unless_plain false config = config

-- the configuration with the wide Sequence Window, unless it is not wished or nothing is offered
abbrev pub unless_narrow : Bool → Config → Config
unless_narrow true config = config
unless_narrow false config = widened config

-- the rules of its path that the end follows
abbrev pub pace_by : Settings → Pace
pace_by s =
    record {
      measures = not s.without_round_trip;
      acks_soon = not s.without_soon_acks;
      moves_ratio = not s.without_ack_ratio;
      probes = not s.without_probes;
      limits_syncs = not s.without_limits;
      gives_up = not s.without_giving_up;
      heeds = not s.without_heed;
    }

-- The configuration without wishes; none if the first number is not below 2^48.
abbrev pub config_by : Settings → Option Config
config_by s = if nat_lt s.first_number (2 ^ 48) then Some (unless_narrow (s.is_plain || s.without_wide_window) (unless_plain s.is_plain (usual_of_settings s))) else None

-- the wish is offered too, if the settings say so; one that an end may not offer is refused with 9
abbrev pub offered_so : Wish → Feature → Place → Config → Result Config ℕ
offered_so w feature place config =
    if not w.is_offered then Ok config
    else if is_ours feature place then Ok (record config { lists = with_offer config.lists feature place w.is_mandatory })
    else Err 9

-- the next result, if it was not refused
abbrev pub unless_refused : (Config → Result Config ℕ) → Result Config ℕ → Result Config ℕ
unless_refused next (Ok config) = next config
unless_refused next (Err code) = Err code

-- a wish that an end may have is set; any other is refused with its code
abbrev pub wished_so : Config → Feature → Place → Result Wanted PreferFault → Result Config ℕ
wished_so config feature place (Ok wanted) = Ok (record config { lists = with_wish config.lists feature place wanted })
wished_so config feature place (Err fault) = Err (unwished_code fault)

-- a wish with more than eight values is refused
abbrev pub wished_list : Config → Wish → Feature → Place → Result Config ℕ
wished_list config w feature place =
    if nat_lt 8 w.count then Err 8
    else unless_refused (offered_so w feature place) (wished_so config feature place (wish_of feature place (take w.count w.values)))

-- a number that no feature has is refused with 11
abbrev pub wished_at : Config → Wish → Option Feature → Result Config ℕ
wished_at config w None = Err 11
wished_at config w (Some feature) = wished_list config w feature (place_by w.at_peer)

-- the configuration with a wish
abbrev pub wished : Config → Wish → Result Config ℕ
wished config w = wished_at config w (feature_numbered w.feature)

-- one wish after another, up to the first that is refused
abbrev pub wished_all : Config → List Wish → Result Config ℕ
wished_all config [] = Ok config
wished_all config (w ∷ ws) = unless_refused (λ made. wished_all made ws) (wished config w)

-- the configuration with all wishes; a first number that is not below 2^48 is refused with 17
abbrev pub wished_from : Option Config → List Wish → Result Config ℕ
wished_from None wishes = Err 17
wished_from (Some config) wishes = wished_all config wishes

-- The configuration of these settings and wishes, or the code by which they are refused: settings whose size is not the library's with 20.
abbrev pub configured_by : Settings → List Wish → Result Config ℕ
configured_by s wishes = if s.size == 80 then wished_from (config_by s) wishes else Err 20

-- how many packets' data may wait, as the settings say: at most 1,024; with 0, data are handed over within their datagram
abbrev pub most_held_by : Settings → ℕ
most_held_by s = min s.most_held 1024

-- what is done for an end besides its own steps, as the settings say
abbrev pub care_by : Settings → Care
care_by s = record { pace = pace_by s; most_held = most_held_by s }

-- a new end of this configuration
abbrev pub c_begins : Care → Config → CEnd
c_begins care config = record { timed = timed_begins kinds_control config at_first care.pace; inbox = intake_of care.most_held; cookie = [] }

-- What was made of a configuration that was not refused, if the code of making says so.
abbrev pub made_from : {Given Made : Type 0} → (Given → Made) → Bool → Result Given ℕ → Option Made
made_from make true (Ok config) = Some (make config)
made_from make true (Err code) = None
made_from make false _ = None

-- the end that the handle holds once making has returned this code
abbrev pub made_of : ℕ → Care → Result Config ℕ → Option CEnd
made_of code care config = made_from (c_begins care) (code == 0) config

-- The code of making: that of the refusal, otherwise 0, or 2 if there is no memory.
abbrev pub MakesCode : {Given : Type 0} → Result Given ℕ → ℕ → Type 0
MakesCode (Ok config) code = (code ≡ 0) ⊎ (code ≡ 2)
MakesCode (Err refusal) code = code ≡ refusal
