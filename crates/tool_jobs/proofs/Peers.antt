-- The configurations of a schedule are those of a client and a server whose fields fit, before each of its lines: each line that changes
-- one keeps its role, and read lines have numbers that fit and wishes and offers that an end may have.
use Rattle.std.proofs.Common.{◌≡◌, refl, sym, ◌∙◌, subst, ℕ, ◌+◌, ◌^◌, ◌<◌, ◌==◌, Bool, true, false, if◌then◌else◌, List, [], ◌∷◌, length, length-set, eqb-true, Some, None, Result, Ok, Err}
use Rattle.std.proofs.lemmas.Bool.{eqb-false}
use Rattle.std.specs.Prelude.{⊤, is_some, nat_lt}
use Rattle.ack_vectors.specs.declared.room.Vectors.{Vectors}
use Rattle.dccp_endpoint.specs.Drafts.{Fits}
use Rattle.dccp_endpoint.specs.declared.config.Config.{Config}
use Rattle.dccp_io.specs.Lines.{Next, End, Line, Long, Much, lines_of, next_in_lines, text_of}
use Rattle.feature_lists.proofs.Given.{given}
use Rattle.feature_lists.specs.Wishes.{is_ours, is_wish, wish_of}
use Rattle.feature_lists.specs.declared.features.Feature.{Feature}
use Rattle.feature_lists.specs.declared.features.Place.{Place}
use Rattle.feature_lists.specs.declared.wishes.PreferFault.{PreferFault}
use Rattle.feature_lists.specs.declared.wishes.Wanted.{Wanted}
use Rattle.feature_machine.proofs.Listing.{without_offers_are_lists}
use Rattle.feature_machine.proofs.Places.{same_feature, same_number, same_place}
use Rattle.feature_machine.proofs.Turning.{listed_others, listed_there}
use Rattle.feature_machine.specs.Lists.{IsListedFor, IsLists, index_of, list_put, listed_at, offer_of, with_offer, with_wish, without_offers}
use Rattle.feature_machine.specs.declared.offers.RowSetup.{RowSetup}
use Rattle.schedule_text.proofs.LineForms.{line-spelled}
use Rattle.schedule_text.specs.Reading.{read_line}
use Rattle.schedule_text.specs.declared.line.Line as words
use Rattle.schedule_text.specs.declared.line.Line.TheVariants as line
use Rattle.tool_text.specs.Jobs.{LinesResult, LineVerdict, Accepted, Refused, by_next, gone_by, gone_from, most_events}
use Rattle.tool_text.specs.Refusals.{whole_line}
use Rattle.tool_text.specs.declared.words.faults.LineFault.{LineFault}
use Rattle.tool_text.specs.declared.words.faults.LineWhy.TheVariants as why
use Rattle.tool_jobs.proofs.Configuring.{role-kept}
use Rattle.tool_jobs.proofs.SchedulesRunning.{playable_at_first}
use Rattle.tool_jobs.specs.Scenes.{Scene}
use Rattle.tool_jobs.specs.Transcript.{ArePeers, by_line, by_scene, config_of, configures, event_shown, first_play, judged_line, offering, performed, run_job, says_event, says_plain, says_version, vectors_of, wishing, with_config, with_header, with_iss, with_offered, with_set, with_vectors, world_of}
use Rattle.tool_jobs.specs.declared.run.play.Play.{Play}
use Rattle.world_events.specs.declared.event.Event.{Event}
use Rattle.world_events.specs.declared.event.Side.{Side}
use Rattle.world_events.specs.declared.event.Side.TheVariants.{Client, Server}

-- lists in which one row has another entry that it may have

lists-put : (lists : List RowSetup) (feature : Feature) (place : Place) (listed : RowSetup) → IsLists lists → IsListedFor feature place listed
    → IsLists (list_put lists feature place listed)
lists-put lists feature place listed are its =
    record {
      size = length-set lists (index_of feature place) listed ∙ are.size;
      each = λ other there. by other there (index_of other there == index_of feature place) refl;
    } where
      by : (other : Feature) (there : Place) (same : Bool) → (index_of other there == index_of feature place) ≡ same
          → IsListedFor other there (listed_at (list_put lists feature place listed) other there)
      by other there true is =
          let one : index_of other there ≡ index_of feature place = eqb-true (index_of other there) (index_of feature place) is in
          let features : feature ≡ other = sym (same_feature other feature (same_number other feature there place one)) in
          let places : place ≡ there = sym (same_place other feature there place one) in
          subst (λ (x : Feature). IsListedFor x there (listed_at (list_put lists feature place listed) x there)) features
          (subst (λ (y : Place). IsListedFor feature y (listed_at (list_put lists feature place listed) feature y)) places
          (subst (λ (l : RowSetup). IsListedFor feature place l) (sym (listed_there lists feature place listed are.size)) its))
      by other there false is =
          subst (λ (l : RowSetup). IsListedFor other there l)
          (sym (listed_others lists feature other place there listed (eqb-false (index_of other there) (index_of feature place) is)))
          (are.each other there)

wish-lists : (lists : List RowSetup) (feature : Feature) (place : Place) (wish : Wanted) → IsLists lists → is_wish feature place wish ≡ true
    → IsLists (with_wish lists feature place wish)
wish-lists lists feature place wish are lawful =
    let its = are.each feature place in
    lists-put lists feature place (record (listed_at lists feature place) { wish = Some wish }) are
    (record { feature_is = its.feature_is; place_is = its.place_is; wish = lawful; offer = its.offer })

offer-lists : (lists : List RowSetup) (feature : Feature) (place : Place) (mandatory : Bool) → IsLists lists → is_ours feature place ≡ true
    → IsLists (with_offer lists feature place mandatory)
offer-lists lists feature place mandatory are ours =
    let its = are.each feature place in
    lists-put lists feature place (record (listed_at lists feature place) { offer = offer_of mandatory }) are
    (record { feature_is = its.feature_is; place_is = its.place_is; wish = its.wish; offer = λ theirs. cc (sym ours ∙ theirs) })

-- a configuration with other lists

fits-with : (config : Config) (lists : List RowSetup) → Fits config → IsLists lists → Fits (record config { lists = lists })
fits-with config lists fits are =
    record { own_port = fits.own_port; peer_port = fits.peer_port; service = fits.service; iss = fits.iss; lists = are }

wishing-fits : (config : Config) (feature : Feature) (place : Place) (values : List ℕ) → Fits config
    → Fits (wishing config feature place (wish_of feature place values))
wishing-fits config feature place values fits = by (wish_of feature place values) refl where
  by : (wanted : Result Wanted PreferFault) → wish_of feature place values ≡ wanted → Fits (wishing config feature place wanted)
  by (Ok wish) is =
      fits-with config (with_wish config.lists feature place wish) fits
      (wish-lists config.lists feature place wish fits.lists ((given feature place wish).1 (values, is)))
  by (Err fault) is = fits

offering-fits : (config : Config) (feature : Feature) (place : Place) (mandatory : Bool) → Fits config
    → Fits (offering config feature place mandatory)
offering-fits config feature place mandatory fits = by (is_ours feature place) refl where
  by : (ours : Bool) → is_ours feature place ≡ ours
      → Fits (if ours then record config { lists = with_offer config.lists feature place mandatory } else config)
  by true is =
      fits-with config (with_offer config.lists feature place mandatory) fits (offer-lists config.lists feature place mandatory fits.lists is)
  by false is = fits

offering-role : (config : Config) (feature : Feature) (place : Place) (mandatory : Bool)
    → (offering config feature place mandatory).role ≡ config.role
offering-role config feature place mandatory = by (is_ours feature place) where
  by : (ours : Bool) → (if ours then record config { lists = with_offer config.lists feature place mandatory } else config).role ≡ config.role
  by true = refl
  by false = refl

-- the two configurations

abbrev HasPeers : Play → Type 0
HasPeers play = ArePeers play.client play.server

side-fits : (side : Side) (play : Play) → HasPeers play → Fits (config_of play side)
side-fits Client play peers = peers.client_fits
side-fits Server play peers = peers.server_fits

peers-with : (side : Side) (config : Config) (play : Play) → HasPeers play → Fits config → config.role ≡ (config_of play side).role
    → HasPeers (with_config side config play)
peers-with Client config play peers fits same =
    record { is_client = same ∙ peers.is_client; is_server = peers.is_server; client_fits = fits; server_fits = peers.server_fits }
peers-with Server config play peers fits same =
    record { is_client = peers.is_client; is_server = same ∙ peers.is_server; client_fits = peers.client_fits; server_fits = fits }

plain-peers : (play : Play) → HasPeers play → HasPeers (says_plain play)
plain-peers play peers =
    let unoffered : (config : Config) → Fits config → Fits (record config { lists = without_offers config.lists }) =
    λ config fits. fits-with config (without_offers config.lists) fits (without_offers_are_lists config.lists fits.lists) in
    record {
      is_client = peers.is_client;
      is_server = peers.is_server;
      client_fits = unoffered play.client peers.client_fits;
      server_fits = unoffered play.server peers.server_fits;
    }

iss-peers : (side : Side) (iss : ℕ) (play : Play) → iss < 2 ^ 48 → HasPeers play → HasPeers (with_iss side iss play)
iss-peers side iss play below peers =
    let fits = side-fits side play peers in
    peers-with side (record (config_of play side) { iss = iss }) play peers
    (record { own_port = fits.own_port; peer_port = fits.peer_port; service = fits.service; iss = below; lists = fits.lists }) refl

-- the result of a line

abbrev PeersAfter : LineVerdict Scene Play → Type 0
PeersAfter (Accepted scene next) = HasPeers next
PeersAfter (Refused fault) = ⊤

configured-peers : (play : Play) (change : Play → Play) → HasPeers (change (with_header play)) → PeersAfter (configures play change)
configured-peers play change peers = by (is_some play.world) where
  by : (late : Bool) → PeersAfter (if late then Refused (whole_line why.HeaderLate) else Accepted None (change (with_header play)))
  by true = tt
  by false = peers

-- The version changes no field that has to fit.
version-peers : (play : Play) (version : ℕ) → HasPeers play → PeersAfter (says_version play version)
version-peers play version peers = by play.is_configured where
  fits-by : (config : Config) (vectors : Vectors) → Fits config → Fits (record config { vectors = vectors })
  fits-by config vectors fits =
      record { own_port = fits.own_port; peer_port = fits.peer_port; service = fits.service; iss = fits.iss; lists = fits.lists }

  by : (following : Bool)
      → PeersAfter (if following then Refused (whole_line why.HeaderLate) else configures play (with_vectors (vectors_of version)))
  by true = tt
  by false =
      configured-peers play (with_vectors (vectors_of version))
      (record {
        is_client = peers.is_client;
        is_server = peers.is_server;
        client_fits = fits-by play.client (vectors_of version) peers.client_fits;
        server_fits = fits-by play.server (vectors_of version) peers.server_fits;
      })

scene-peers : (play : Play) (result : Result Scene LineFault) → HasPeers play → PeersAfter (by_scene play result)
scene-peers play (Ok scene) peers = peers
scene-peers play (Err fault) peers = tt

event-peers : (play : Play) (number : ℕ) (event : Event) → HasPeers play → PeersAfter (says_event play number event)
event-peers play number event peers = by (nat_lt play.events most_events) where
  by : (few : Bool)
      → PeersAfter (if few then by_scene play (event_shown number (world_of play) event) else Refused (whole_line why.TooManyEvents))
  by true = scene-peers play (event_shown number (world_of play) event) peers
  by false = tt

said-peers : (play : Play) (number : ℕ) (said : Result words.Line LineFault)
    → ((side : Side) (iss : ℕ) → said ≡ Ok (line.Iss side iss) → iss < 2 ^ 48) → HasPeers play → PeersAfter (by_line play number said)
unfolding with_set
said-peers play number (Err fault) below peers = tt
said-peers play number (Ok line.Nothing) below peers = peers
said-peers play number (Ok (line.Version version)) below peers = version-peers play version peers
said-peers play number (Ok line.Plain) below peers = configured-peers play says_plain (plain-peers (with_header play) peers)
said-peers play number (Ok (line.Iss side iss)) below peers =
    configured-peers play (with_iss side iss) (iss-peers side iss (with_header play) (below side iss refl) peers)
said-peers play number (Ok (line.Set side place feature values)) below peers =
    let begun = with_header play in
    let config = config_of begun side in
    let wanted = wish_of feature place values in
    configured-peers play (with_set side feature place values)
    (peers-with side (wishing config feature place wanted) begun peers (wishing-fits config feature place values (side-fits side begun peers))
    (role-kept config feature place wanted))
said-peers play number (Ok (line.Offer side place feature mandatory)) below peers =
    let begun = with_header play in
    let config = config_of begun side in
    configured-peers play (with_offered side feature place mandatory)
    (peers-with side (offering config feature place mandatory) begun peers
    (offering-fits config feature place mandatory (side-fits side begun peers)) (offering-role config feature place mandatory))
said-peers play number (Ok (line.Event event)) below peers = event-peers play number event peers

line-peers : (play : Play) (number : ℕ) (text : List ℕ) → HasPeers play → PeersAfter (judged_line play number text)
unfolding judged_line
line-peers play number text peers =
    said-peers play number (read_line text) (λ side iss is. (line-spelled text (line.Iss side iss) is).1) peers

next-peers : (play : Play) (number : ℕ) (next : Next) → HasPeers play → PeersAfter (by_next run_job play number next)
next-peers play number (Line text) peers = line-peers play number (text_of text) peers
next-peers play number (Long front) peers = tt
next-peers play number Much peers = tt
next-peers play number End peers = peers

-- the result of the lines of an input

peers-by : (rest : Play → LinesResult Scene Play) (number given : ℕ) → ((next : Play) → HasPeers next → HasPeers (rest next).last) → (play : Play)
    → HasPeers play → (verdict : LineVerdict Scene Play) → PeersAfter verdict → HasPeers (gone_by play number given verdict rest).last
peers-by rest number given later play peers (Accepted scene next) following = later next following
peers-by rest number given later play peers (Refused fault) following = peers

peers-through : (lines : List (List ℕ)) (number given : ℕ) (play : Play) → HasPeers play → HasPeers (gone_from run_job play number given lines).last
peers-through [] number given play peers = peers
peers-through (text ∷ lines) number given play peers =
    peers-by (λ next. gone_from run_job next (number + 1) (given + length text) lines) number given
    (peers-through lines (number + 1) (given + length text)) play peers
    (by_next run_job play number (next_in_lines given (text ∷ lines))) (next-peers play number (next_in_lines given (text ∷ lines)) peers)

pub peers-last : (input : List ℕ) → ArePeers (performed input).last.client (performed input).last.server
peers-last input = peers-through (lines_of input) 1 0 first_play playable_at_first.peers
