-- Rows that say nothing by themselves leave a packet its Confirms alone.
use Rattle.std.proofs.Common.{◌≡◌, ◌∙◌, Bool, List, [], ◌∷◌, ap, refl}
use Rattle.std.proofs.lemmas.List.{append-nil}
use Rattle.dccp_packets.specs.declared.header.Kind.{Kind}
use Rattle.feature_lists.specs.declared.features.Feature.{Feature}
use Rattle.feature_lists.specs.declared.features.Place.{Place}
use Rattle.feature_machine.specs.Negotiating.{due_keys, every_place, stepped}
use Rattle.feature_machine.specs.Rows.{Offers}
use Rattle.feature_machine.specs.Turns.{turned}
use Rattle.feature_machine.specs.declared.row.Row.{Row}
use Rattle.dccp_endpoint.specs.End.{EndState, with_rows}
use Rattle.dccp_endpoint.specs.Heeding.{DueConfirm}
use Rattle.dccp_endpoint.specs.Speaking.{asking, asking_frame, asks, confirm_items, confirming, is_confirmed, offers, saying, unconfirmed}
use Rattle.dccp_endpoint.specs.Steps.{next_frame}
use Rattle.dccp_endpoint.specs.Turns.{Key, offerings}

-- no offer that comes up changes rows
abbrev pub NothingComesUp : List Row → Type 0
NothingComesUp rows = (feature : Feature) (place : Place) (confirmed : Bool) → (stepped rows feature place (Offers confirmed)).rows ≡ rows

none-up : (rows : List Row) (test : Key → Bool) (keys : List Key) → NothingComesUp rows → turned rows (offerings test keys) ≡ rows
none-up rows test [] made = refl
none-up rows test (k ∷ keys) made =
    ap (λ (r : List Row). turned r (offerings test keys)) (made k.0 k.1 (test k)) ∙ none-up rows test keys made

-- the end stays, and nobody asks
pub quiet_offers : (e : EndState) (confirms : List DueConfirm) → with_rows e e.rows ≡ e → NothingComesUp e.rows → offers e confirms ≡ e
quiet_offers e confirms fits made = ap (λ (r : List Row). with_rows e r) (none-up e.rows (is_confirmed confirms) every_place made) ∙ fits

quiet_keys : (e : EndState) (confirms : List DueConfirm) → due_keys e.rows ≡ [] → asking e.rows confirms ≡ []
quiet_keys e confirms none = ap (λ (keys : List Key). unconfirmed confirms keys) none

quiet_asking : (e : EndState) (confirms : List DueConfirm) → with_rows e e.rows ≡ e → NothingComesUp e.rows → due_keys e.rows ≡ []
    → asking (offers e confirms).rows confirms ≡ []
quiet_asking e confirms fits made none =
    ap (λ (x : EndState). asking x.rows confirms) (quiet_offers e confirms fits made) ∙ quiet_keys e confirms none

pub quiet_asks : (e : EndState) (confirms : List DueConfirm) → with_rows e e.rows ≡ e → NothingComesUp e.rows → due_keys e.rows ≡ []
    → asks (offers e confirms) (asking (offers e confirms).rows confirms) ≡ e
quiet_asks e confirms fits made none =
    ap (λ (keys : List Key). asks (offers e confirms) keys) (quiet_asking e confirms fits made none)
    ∙ ap (λ (x : EndState). asks x []) (quiet_offers e confirms fits made) ∙ fits

nothing_said : (e : EndState) (kind : Kind) (confirms : List DueConfirm) (rows : List Row)
    → next_frame e (saying kind confirms rows []) ≡ next_frame e (confirming kind confirms)
nothing_said e kind confirms rows =
    ap (λ items. next_frame e (record { kind = kind; options = items; payload = [] })) (append-nil (confirm_items confirms))

pub quiet_frame : (e : EndState) (kind : Kind) (confirms : List DueConfirm) → with_rows e e.rows ≡ e → NothingComesUp e.rows → due_keys e.rows ≡ []
    → asking_frame (offers e confirms) kind confirms (asking (offers e confirms).rows confirms) ≡ next_frame e (confirming kind confirms)
quiet_frame e kind confirms fits made none =
    ap (λ (keys : List Key). asking_frame (offers e confirms) kind confirms keys) (quiet_asking e confirms fits made none)
    ∙ ap (λ (x : EndState). asking_frame x kind confirms []) (quiet_offers e confirms fits made)
    ∙ ap (λ (x : EndState). next_frame x (saying kind confirms x.rows [])) fits
    ∙ nothing_said e kind confirms e.rows
