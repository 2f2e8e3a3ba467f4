-- What a way of sending is, in plain words.
use Rattle.std.proofs.Common.{◌≡◌, ◌≢◌, ◌==◌, ◌&&◌, not, ℕ, ◌+◌, ◌^◌, ◌<◌, true, Some, None, length, arith}
use Rattle.std.proofs.lemmas.Bool.{and_parts}
use Rattle.dccp_states.specs.declared.outcome.Outcome.{Outcome}
use Rattle.dccp_states.specs.declared.outcome.Outcome.TheVariants.{Took}
use Rattle.dccp_states.specs.declared.seen.Seen.{Seen}
use Rattle.dccp_states.specs.declared.seen.Seen.TheVariants as seen
use Rattle.two_ends.specs.Delivered.{place_delivered}
use Rattle.two_ends.specs.World.{WorldState}
use Rattle.world_events.specs.declared.event.Side.TheVariants.{Client, Server}
use Rattle.two_ends_progress.specs.GettingThrough.{AreFew}

-- data that are delivered are those of a packet that was taken
delivered-outcome : (o : Outcome) (place : ℕ × ℕ) → place_delivered (seen.Received o) ≡ Some place → o ≡ Took (Some place)
delivered-outcome (Took (Some at)) place is = let same : at ≡ place = cc is in cc same
delivered-outcome (Took None) place is = cc is
delivered-outcome _ place is = cc is

pub delivered-seen : (s : Seen) (place : ℕ × ℕ) → place_delivered s ≡ Some place → s ≡ seen.Received (Took (Some place))
delivered-seen (seen.Received o) place is = let same = delivered-outcome o place is in cc same
delivered-seen _ place is = cc is

pub few-so : (w : WorldState) → length w.client.frames + 8 < 2 ^ 23 → length w.server.frames + 8 < 2 ^ 23 → AreFew 8 w
few-so w clients servers Client = clients
few-so w clients servers Server = servers

pub lacks-parts : (ccid vectors : ℕ) → ((ccid == 2) && not (vectors == 1)) ≡ true → (ccid ≡ 2) × (vectors ≢ 1)
lacks-parts ccid vectors is =
    let parts = and_parts (ccid == 2) (not (vectors == 1)) is in
    (grind (arith, parts), λ same. not-one vectors parts.1 same)
  where
    not-one : (n : ℕ) → not (n == 1) ≡ true → n ≡ 1 → ⊥
    not-one n differs same = grind (arith, differs, same)
