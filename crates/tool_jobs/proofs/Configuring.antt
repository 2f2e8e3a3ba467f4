-- A configuration with another wish.
use Rattle.std.proofs.Common.{◌≡◌, ◌↔◌, refl, Result, Ok, Err, IfOk, OnErr}
use Rattle.std.specs.Prelude.{IsOk}
use Rattle.dccp_endpoint.specs.Drafts.{Fits}
use Rattle.dccp_endpoint.specs.declared.config.Config.{Config}
use Rattle.feature_lists.specs.declared.features.Feature.{Feature}
use Rattle.feature_lists.specs.declared.features.Place.{Place}
use Rattle.feature_lists.specs.declared.wishes.PreferFault.{PreferFault}
use Rattle.feature_lists.specs.declared.wishes.Wanted.{Wanted}
use Rattle.feature_machine.specs.Lists.{with_wish, IsLists}
use Rattle.tool_jobs.specs.Transcript.{wishing}

pub wished : (config new : Config) (feature : Feature) (place : Place) (result : Result (Unit {0}) PreferFault) (wanted : Result Wanted PreferFault)
    → IsOk result ↔ IsOk wanted → IfOk wanted (λ wish. new ≡ record config { lists = with_wish config.lists feature place wish })
    → OnErr result (new ≡ config) → new ≡ wishing config feature place wanted
wished config new feature place result (Ok wish) same made refused = made
wished config new feature place (Err _) (Err fault) same made refused = refused
wished config new feature place (Ok _) (Err fault) same made refused = cc (same.0 refl)

-- its lists aside, it is the same
pub kept : (config : Config) (feature : Feature) (place : Place) (wanted : Result Wanted PreferFault) → Fits config
    → IsLists (wishing config feature place wanted).lists → Fits (wishing config feature place wanted)
kept config feature place (Ok wish) fits lists =
    record { own_port = fits.own_port; peer_port = fits.peer_port; service = fits.service; iss = fits.iss; lists = lists }
kept config feature place (Err fault) fits lists = fits

pub role-kept : (config : Config) (feature : Feature) (place : Place) (wanted : Result Wanted PreferFault)
    → (wishing config feature place wanted).role ≡ config.role
role-kept config feature place (Ok wish) = refl
role-kept config feature place (Err fault) = refl
