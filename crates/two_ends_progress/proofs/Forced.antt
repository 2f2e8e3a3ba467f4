-- The results of the steps, if it is known what came: the equations below the causes of an outcome.
use Rattle.std.proofs.Common.{◌≡◌, ◌≢◌, refl, ℕ, List, [], ◌∷◌, true, false}
use Rattle.dccp_endpoint.proofs.Exactly.{came-goes, from, no-reset}
use Rattle.dccp_packets.specs.declared.header.PacketType.{PacketType}
use Rattle.dccp_packets.specs.declared.header.PacketType.TheVariants as types
use Rattle.dccp_states.specs.declared.entrance.Entrance.TheVariants as entrance
use Rattle.dccp_states.specs.declared.phase.Phase.TheVariants as phases
use Rattle.dccp_endpoint.specs.Causes.{Came, entrance_of, verdict_of}
use Rattle.dccp_endpoint.specs.Drafts.{alone}
use Rattle.dccp_endpoint.specs.End.{EndState}
use Rattle.dccp_endpoint.specs.Incoming.{Incoming}
use Rattle.dccp_endpoint.specs.Inputs.{Input, Arrives}
use Rattle.dccp_endpoint.specs.Receiving.{Course, Goes, acknowledges_in_window, answers, checks_type, ends_as, ends_by_reset, heeded, is_other_service, is_own_service, is_unexpected, leaves, raises, reads_options, receives, resets_without_connection, started, takes, through, with_raised_marks}
use Rattle.dccp_endpoint.specs.Steps.{Step, in_phase, idle, sends, without_detail}
use Rattle.dccp_packets.specs.ResetCodes.{number_of_code}
use Rattle.dccp_packets.specs.declared.header.Kind.TheVariants as kind
use Rattle.dccp_packets.specs.declared.reset_code.ResetCode.TheVariants as codes
use Rattle.dccp_endpoint.specs.declared.exit.Exit.TheVariants as exits
use Rattle.dccp_states.specs.declared.outcome.Outcome.{Outcome}
use Rattle.dccp_states.specs.declared.outcome.Outcome.TheVariants.{Synced, WasReset}
use Rattle.validity_windows.specs.declared.verdict.Verdict.TheVariants as verdicts

module _ (e : EndState) (bytes : List ℕ) (a : Incoming) (came : Came e (Arrives bytes) a) where
  -- a packet whose numbers are not valid is answered by a Sync
  pub bad-goes : (n : ℕ) → entrance_of e a ≡ entrance.Check → verdict_of e a ≡ verdicts.SyncFor n
      → receives e bytes ≡ sends e (alone (kind.Sync n)) (Synced n)
  bad-goes n is bad = rw (came-goes e bytes a came, is) (rw (bad, through) refl)

  -- a valid Reset ends the connection
  pub reset-goes : entrance_of e a ≡ entrance.Check → verdict_of e a ≡ verdicts.Valid → a.kind ≡ types.Reset
      → receives e bytes ≡ idle (in_phase e phases.TimeWait) (WasReset a.code)
  reset-goes is fits reset = rw (came-goes e bytes a came, is) (rw (fits, reset, reset, through) refl)

  -- without a connection a packet gets a Reset
  pub stray-goes : entrance_of e a ≡ entrance.NoConnection
      → receives e bytes ≡ resets_without_connection e a (without_detail (number_of_code codes.NoConnection))
  stray-goes is = rw (came-goes e bytes a came, is) refl

  -- steps 2 to 6
  valid-goes : entrance_of e a ≡ entrance.Check → a.kind ≢ types.Reset → verdict_of e a ≡ verdicts.Valid
      → receives e bytes ≡ from a (Goes (with_raised_marks e a)) (checks_type a ∷ [])
  valid-goes is no_reset fits =
      let other = no-reset a e a.kind no_reset in
      rw (came-goes e bytes a came, is) (rw (fits, other.rises, other.passes _, through) refl)

  -- step 7
  pub expected-goes : entrance_of e a ≡ entrance.Check → a.kind ≢ types.Reset → verdict_of e a ≡ verdicts.Valid
      → is_unexpected (with_raised_marks e a) a ≡ false → is_other_service (with_raised_marks e a) e.phase a.kind a.service ≡ false
      → receives e bytes ≡ heeded (with_raised_marks e a) a (reads_options (with_raised_marks e a) a)
  expected-goes is no_reset fits expected for_us = rw (valid-goes is no_reset fits) (rw (expected, for_us, through) refl)

-- The first packets of a connection.
module _ (e : EndState) (bytes : List ℕ) (a : Incoming) (came : Came e (Arrives bytes) a) where
  -- a Request in LISTEN, by its service
  pub refused-goes : entrance_of e a ≡ entrance.Accept → is_own_service e a.service ≡ false
      → receives e bytes ≡ resets_without_connection e a (without_detail (number_of_code codes.BadServiceCode))
  refused-goes is other = rw (came-goes e bytes a came, is) (rw (other, through) refl)

  pub accepted-goes : entrance_of e a ≡ entrance.Accept → is_own_service e a.service ≡ true → a.kind ≢ types.Reset
      → is_unexpected (started e phases.Respond a) a ≡ false → is_other_service (started e phases.Respond a) phases.Respond a.kind a.service ≡ false
      → receives e bytes ≡ heeded (started e phases.Respond a) a (reads_options (started e phases.Respond a) a)
  accepted-goes is ours no_reset expected for_us =
      let other = no-reset a e a.kind no_reset in
      rw (came-goes e bytes a came, is) (rw (ours, other.passes _, through, expected, for_us, through) refl)

  -- a Response in REQUEST, by its service
  pub answered-goes : entrance_of e a ≡ entrance.InRequest → a.kind ≢ types.Reset → acknowledges_in_window e a ≡ true
      → is_unexpected (started e e.phase a) a ≡ false → is_other_service (started e e.phase a) e.phase a.kind a.service ≡ false
      → receives e bytes ≡ heeded (started e e.phase a) a (reads_options (started e e.phase a) a)
  answered-goes is no_reset fits expected for_us =
      let other = no-reset a e a.kind no_reset in
      rw (came-goes e bytes a came, is) (rw (fits, other.responds, other.passes _, through, expected, for_us, through) refl)

  pub misled-goes : entrance_of e a ≡ entrance.InRequest → a.kind ≢ types.Reset → acknowledges_in_window e a ≡ true
      → is_unexpected (started e e.phase a) a ≡ false → is_other_service (started e e.phase a) e.phase a.kind a.service ≡ true
      → receives e bytes ≡ leaves (started e e.phase a) a (exits.Shut (without_detail (number_of_code codes.BadServiceCode)))
  misled-goes is no_reset fits expected other_service =
      let other = no-reset a e a.kind no_reset in
      rw (came-goes e bytes a came, is) (rw (fits, other.responds, other.passes _, through, expected, other_service, through) refl)

  -- and a Reset there
  pub rejected-goes : entrance_of e a ≡ entrance.InRequest → a.kind ≡ types.Reset → acknowledges_in_window e a ≡ true
      → receives e bytes ≡ idle (in_phase e phases.TimeWait) (WasReset a.code)
  rejected-goes is reset fits = rw (came-goes e bytes a came, is) (rw (fits, reset, reset, through) refl)
