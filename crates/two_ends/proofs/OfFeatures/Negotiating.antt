-- The two sides' views of each feature are reached by moves: a fact of two ends after every schedule.
use Rattle.std.proofs.Common.{◌≡◌, refl, ap, sym, ◌∙◌, subst, ℕ, [], length, map}
use Rattle.std.specs.List.{All}
use Rattle.std.proofs.lemmas.List.Elements.{All-nil}
use Rattle.dccp_states.specs.declared.phase.Role.{Role}
use Rattle.dccp_states.specs.declared.phase.Role.TheVariants as role
use Rattle.dccp_endpoint.proofs.Staying.{proper-after}
use Rattle.dccp_endpoint.specs.Drafts.{Fits}
use Rattle.dccp_endpoint.specs.End.{end_of as role_of, new_end as fresh_end}
use Rattle.dccp_endpoint.specs.Turns.{Key}
use Rattle.dccp_endpoint.specs.declared.config.Config.{Config}
use Rattle.two_ends.proofs.OfFeatures.Beginning.{start_begun}
use Rattle.two_ends.proofs.OfFeatures.ByFeature.{client_row_reaches, one_pair, server_row_reaches, starts}
use Rattle.two_ends.specs.FeatureMoves.{HaveReached, new_side}
use Rattle.two_ends.specs.FeatureRows.{IsBegun, RowMoves, entries_of, location_of, pair_of, row_pair, side_of}
use Rattle.two_ends.specs.FeatureView.{FeatureSide}
use Rattle.feature_lists.specs.Features.{initial_of}
use Rattle.feature_lists.specs.declared.features.Feature.{Feature}
use Rattle.feature_lists.specs.declared.features.Place.{Place}
use Rattle.feature_machine.proofs.Turning.{first-fresh}
use Rattle.feature_machine.specs.Lists.{listed_at}
use Rattle.feature_machine.specs.Negotiating.{first_row, row_at, opposite}
use Rattle.feature_machine.specs.declared.row.Row.{Row}
use Rattle.feature_machine.specs.declared.stands.Role2.{Role2}
use Rattle.feature_machine.specs.declared.stands.Role2.TheVariants as end
use Rattle.two_ends.proofs.OfWorlds.Acting.{Act, Both, Keeps, Party, acted, at_beginning, config_of, end_of, longer}
use Rattle.two_ends.proofs.OfWorlds.HeardTo.{HearsOn, IsHeardTo, heard-more, heard-none, hears-on}
use Rattle.two_ends.proofs.OfFeatures.KeyHearing.{IsWell, across, opposite-twice}
use Rattle.two_ends.proofs.OfFeatures.KeyMoving.{KeyMoved, key-moved}
use Rattle.two_ends.proofs.OfFeatures.KeySaying.{KnownStep, stays-well}
use Rattle.two_ends.proofs.OfWorlds.Numbering.{IsOrdered}
use Rattle.two_ends.proofs.OfFeatures.Viewing.{carried_of, view_of}

-- where the row with this key of a server is located
abbrev pub location : Key → Role2
location k = location_of end.Server k.1

-- the views of a server's row and of its client's are reached by moves
abbrev pub AreReached : Party → Party → ℕ → ℕ → Type 0
AreReached x y greatest others =
    (k : Key) → HaveReached (pair_of k.0 (location k)) (view_of x (config_of y).iss greatest k) (view_of y (config_of x).iss others (across k))

-- What a side and its peer negotiated. `greatest` is the count of the peer's packet with the greatest number that the side took, and
-- `others` the same of the peer.
pub record IsNegotiated (x y : Party) : Type 0 where
  pub greatest : ℕ
  pub others : ℕ
  pub hears : IsHeardTo (config_of y).iss (length y.log) greatest (end_of x)
  pub heard : IsHeardTo (config_of x).iss (length x.log) others (end_of y)
  -- all that the side logged is well said
  pub well : All (IsWell (config_of y).iss) x.log
  pub begun : (k : Key) → IsBegun (config_of x).iss (row_at (end_of x).rows k.0 k.1)
  pub begun_there : (k : Key) → IsBegun (config_of y).iss (row_at (end_of y).rows k.0 k.1)
  pub reached : (config_of x).role ≡ role.Server → (config_of y).role ≡ role.Client → AreReached x y greatest others

-- What a step of an end makes of this.
record Steps (act : Act) (greatest : ℕ) : Type 0 where
  later : ℕ
  hears : IsHeardTo (config_of act.peer).iss (length act.peer.log) later (end_of (acted act))
  well : All (IsWell (config_of act.peer).iss) act.side.log → All (IsWell (config_of act.peer).iss) (acted act).log
  moved : (k : Key) → KeyMoved act greatest later k

steps : (act : Act) → IsOrdered act.side → IsOrdered act.peer → (greatest : ℕ)
    → IsHeardTo (config_of act.peer).iss (length act.peer.log) greatest (end_of act.side) → All (IsWell (config_of act.side).iss) act.peer.log
    → ((k : Key) → IsBegun (config_of act.side).iss (row_at (end_of act.side).rows k.0 k.1)) → Steps act greatest
steps act own peer greatest h well begun =
    let on : HearsOn act greatest = hears-on act peer greatest h in
    let s : KnownStep =
    record {
      act = act;
      own = own;
      peer = peer;
      greatest = greatest;
      later = on.later;
      so = on.so;
      well = well;
      after = proper-after own.proper act.because;
    } in
    record { later = on.later; hears = on.heard; well = stays-well s; moved = λ k. key-moved s k (begun k) }

module _ (act : Act) (own : IsOrdered act.side) (peer : IsOrdered act.peer) (greatest others : ℕ) (s : Steps act greatest) where
  abbrev row : Key → Row
  row k = row_at (end_of act.side).rows k.0 k.1

  row-role : (k : Key) → (row k).role ≡ role_of (config_of act.side).role
  row-role k = own.proper.rows.roles k.0 k.1

  row-pair : (k : Key) → row_pair (row k) ≡ pair_of k.0 (location_of (role_of (config_of act.side).role) k.1)
  row-pair k =
      let its = own.proper.rows.sound.each k.0 k.1 in
      ap (λ (f : Feature). pair_of f (location_of (row k).role (row k).place)) its.feature_is
      ∙ ap (λ (p : Place). pair_of k.0 (location_of (row k).role p)) its.place_is
      ∙ ap (λ (r : Role2). pair_of k.0 (location_of r k.1)) (row-role k)

  -- the server acts
  server-reached : (config_of act.side).role ≡ role.Server → AreReached act.side act.peer greatest others → AreReached (acted act) act.peer s.later others
  server-reached is before k =
      let pair : row_pair (row k) ≡ pair_of k.0 (location k) = row-pair k ∙ ap (λ (r : Role). pair_of k.0 (location_of (role_of r) k.1)) is in
      let client : FeatureSide = view_of act.peer (config_of act.side).iss others (across k) in
      subst (λ p. HaveReached p (view_of (acted act) (config_of act.peer).iss s.later k) client) pair
      (server_row_reaches (row k) (view_of act.side (config_of act.peer).iss greatest k) client (view_of (acted act) (config_of act.peer).iss s.later k)
      (row-role k ∙ ap role_of is) (s.moved k).moves
      (subst (λ p. HaveReached p (view_of act.side (config_of act.peer).iss greatest k) client) (sym pair) (before k)))

  -- the client acts
  client-reached : (config_of act.side).role ≡ role.Client → AreReached act.peer act.side others greatest → AreReached act.peer (acted act) others s.later
  client-reached is before k =
      let pair : row_pair (row (across k)) ≡ pair_of k.0 (location k) =
      row-pair (across k) ∙ ap (λ (r : Role). pair_of k.0 (location_of (role_of r) (opposite k.1))) is ∙ sym (one_pair k.0 k.1) in
      let server : FeatureSide = view_of act.peer (config_of act.side).iss others k in
      let own_key : across (across k) ≡ k = ap (λ (p : Place). (k.0, p)) (opposite-twice k.1) in
      let first : FeatureSide = view_of act.side (config_of act.peer).iss greatest (across k) in
      let last : FeatureSide = view_of (acted act) (config_of act.peer).iss s.later (across k) in
      subst (λ p. HaveReached p server last) pair
      (client_row_reaches (row (across k)) server first last (row-role (across k) ∙ ap role_of is)
      (subst (λ (key : Key). RowMoves (row (across k)) (map (carried_of (config_of act.side).iss key) act.peer.log) first last) own_key
      (s.moved (across k)).moves)
      (subst (λ p. HaveReached p server first) (sym pair) (before k)))

acts : (act : Act) → Both (λ x y. IsOrdered x) act.side act.peer → Both IsNegotiated act.side act.peer → Both IsNegotiated (acted act) act.peer
acts act (own, peer) (here, there) =
    let one = steps act own peer here.greatest here.hears there.well here.begun in
    let other = steps act own peer there.others there.heard there.well there.begun_there in (
      record {
        greatest = one.later;
        others = here.others;
        hears = one.hears;
        heard = heard-more (config_of act.side).iss _ _ here.others (end_of act.peer) (longer act) here.heard;
        well = one.well here.well;
        begun = λ k. (one.moved k).begun;
        begun_there = here.begun_there;
        reached = λ server client. server-reached act own peer here.greatest here.others one server (here.reached server client);
      },
      record {
        greatest = there.greatest;
        others = other.later;
        hears = heard-more (config_of act.side).iss _ _ there.greatest (end_of act.peer) (longer act) there.hears;
        heard = other.hears;
        well = there.well;
        begun = there.begun;
        begun_there = λ k. (other.moved k).begun;
        reached = λ server client. client-reached act own peer there.others there.greatest other client (there.reached server client);
      },
    )

-- at the start each row is fresh
begins-begun : (own : Config) → Fits own → (k : Key) → IsBegun own.iss (row_at (fresh_end own).rows k.0 k.1)
begins-begun own fits k =
    let first = first-fresh (role_of own.role) own.lists fits.lists k.0 k.1 in
    subst (IsBegun own.iss) (sym first) (start_begun own.iss (first_row (role_of own.role) (listed_at own.lists k.0 k.1)) refl refl)

first-view : (own : Config) (peer_iss : ℕ) → Fits own → (k : Key)
    → view_of (at_beginning own) peer_iss 0 k ≡ new_side (initial_of k.0) (entries_of (listed_at own.lists k.0 k.1).wish)
first-view own peer_iss fits k =
    let first = first-fresh (role_of own.role) own.lists fits.lists k.0 k.1 in
    ap (λ (r : Row). side_of own.iss r 0 []) first
    ∙ ap (λ (f : Feature). new_side (initial_of f) (entries_of (listed_at own.lists k.0 k.1).wish)) (fits.lists.each k.0 k.1).feature_is

begins : (own peer : Config) → Fits own → Fits peer → IsNegotiated (at_beginning own) (at_beginning peer)
begins own peer own_fits peer_fits =
    record {
      greatest = 0;
      others = 0;
      hears = heard-none own peer.iss;
      heard = heard-none peer own.iss;
      well = All-nil (IsWell peer.iss);
      begun = begins-begun own own_fits;
      begun_there = begins-begun peer peer_fits;
      reached =
          λ server client k.
          subst (λ (s : FeatureSide). HaveReached (pair_of k.0 (location k)) s (view_of (at_beginning peer) own.iss 0 (across k)))
          (sym (first-view own peer.iss own_fits k))
          (subst (HaveReached (pair_of k.0 (location k)) (new_side (initial_of k.0) (entries_of (listed_at own.lists k.0 k.1).wish)))
          (sym (first-view peer own.iss peer_fits (across k)))
          (starts k.0 (location k) (entries_of (listed_at own.lists k.0 k.1).wish) (entries_of (listed_at peer.lists k.0 (opposite k.1)).wish)));
    }

-- a fact of both sides after every schedule
pub negotiating : Keeps (λ x y. IsOrdered x) IsNegotiated
negotiating = record { starts = begins; acts = acts }
