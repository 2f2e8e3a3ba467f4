-- Worked windows that grow and are halved by reports only, computed from the definitions (own; worked out by hand).
use Rattle.std.proofs.Common.{◌≡◌, refl, ℕ, true, false, List, [], ◌∷◌, map}
use Rattle.congestion_trait.specs.Calls.{Call, Reports, Sends, Starts, TimesOut, after_call}
use Rattle.congestion_trait.specs.Control.{Control}
use Rattle.congestion_trait.specs.Flight.{pipe_of}
use Rattle.congestion_trait.specs.Kind.{KindState, control_by_rules}
use Rattle.dccp_options.specs.Grammar.{options_of}
use Rattle.dccp_options.specs.Vectors.{reported}
use Rattle.dccp_uses.specs.Additive.{additive}

abbrev control : Control (KindState ℕ)
control = control_by_rules additive

-- a report at a number, of the runs of one byte
abbrev Report : ℕ → ℕ → Call
Report ack byte = Reports (reported ack (options_of (38 ∷ 3 ∷ byte ∷ []) false)) 2

-- the window and what is in flight after each call
abbrev told : KindState ℕ → List Call → List (ℕ × ℕ)
told state [] = []
told state (call ∷ rest) =
    let next = after_call control state call in
    (control.window next, pipe_of (control.flight next)) ∷ told next rest

-- calls of a kind with this window and nothing in flight leave these
abbrev AreSo : ℕ → List (Call × (ℕ × ℕ)) → Type 0
AreSo window rows = told (record { flight = []; rest = window }) (map (λ row. row.0) rows) ≡ map (λ row. row.1) rows

-- 1 is received: the window is 2, and a report that says no more leaves it. Then 2 is marked: it is 1 again.
grows_and_is_halved :
    AreSo 1
    ((Sends 1, (1, 1))
    ∷ (Report 1 0, (2, 0))
    ∷ (Report 1 0, (2, 0))
    ∷ (Sends 2, (2, 1))
    ∷ (Report 2 64, (1, 0))
    ∷ (TimesOut, (1, 0))
    ∷ (Starts 249, (1, 0))
    ∷ [])
grows_and_is_halved = refl

-- Two are received, and the window is 3. A marked one halves it, down to 1.
halves_round_down :
    AreSo 1
    ((Sends 1, (1, 1))
    ∷ (Report 1 0, (2, 0))
    ∷ (Sends 2, (2, 1))
    ∷ (Report 2 0, (3, 0))
    ∷ (Sends 3, (3, 1))
    ∷ (Report 3 64, (1, 0))
    ∷ [])
halves_round_down = refl

-- After three reports the window is 4. Of 4 to 7 the later three are received: 4 is lost, and halves it.
a_loss_halves :
    AreSo 1
    ((Sends 1, (1, 1))
    ∷ (Report 1 0, (2, 0))
    ∷ (Sends 2, (2, 1))
    ∷ (Report 2 0, (3, 0))
    ∷ (Sends 3, (3, 1))
    ∷ (Report 3 0, (4, 0))
    ∷ (Sends 4, (4, 1))
    ∷ (Sends 5, (4, 2))
    ∷ (Sends 6, (4, 3))
    ∷ (Sends 7, (4, 4))
    ∷ (Report 7 2, (2, 0))
    ∷ [])
a_loss_halves = refl

-- a packet for each report, up to 1,024
grows_up_to_the_cap :
    AreSo 1021
    ((Sends 1021, (1021, 1))
    ∷ (Report 1021 0, (1022, 0))
    ∷ (Sends 1022, (1022, 1))
    ∷ (Report 1022 0, (1023, 0))
    ∷ (Sends 1023, (1023, 1))
    ∷ (Report 1023 0, (1024, 0))
    ∷ (Sends 1024, (1024, 1))
    ∷ (Report 1024 0, (1024, 0))
    ∷ (Sends 1025, (1024, 1))
    ∷ (Report 1025 0, (1024, 0))
    ∷ [])
grows_up_to_the_cap = refl

-- a timeout and a start bring the window back to a packet
begins_anew :
    AreSo 3
    ((Sends 7, (3, 1))
    ∷ (TimesOut, (1, 0))
    ∷ (Report 7 0, (1, 0))
    ∷ [])
    × AreSo 3
    ((Sends 7, (3, 1))
    ∷ (Starts 249, (1, 0))
    ∷ [])
begins_anew = (refl, refl)

-- only its own number is known
knows_its_number : (control.is_known 249 ≡ true) × (control.is_known 2 ≡ false) × (control.is_known 248 ≡ false)
knows_its_number = (refl, refl, refl)
