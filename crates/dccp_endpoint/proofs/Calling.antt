-- Every step of a proper end has an effect. A call or a timer does nothing, moves the phase alone, or sends a packet.
use Rattle.std.proofs.Common.{◌≡◌, inl, inr, refl, ap, sym, ◌∙◌, subst, ℕ, ◌≤◌, nat_lt, Bool, true, false, not, if◌then◌else◌, List, [], ◌∷◌, length, Some, None, Result, Ok, Err, arith}
use Rattle.std.specs.List.{All}
use Rattle.std.proofs.lemmas.Bool.{false≢true}
use Rattle.std.proofs.lemmas.List.Elements.{All-cons, All-nil}
use Rattle.congestion_trait.specs.Calls as call
use Rattle.dccp_packets.specs.Grammar.{has_forms, packet_type}
use Rattle.dccp_packets.specs.Kinds.{ack_of}
use Rattle.dccp_packets.specs.Widths.{HasDetail}
use Rattle.dccp_packets.specs.ResetCodes.{number_of_code}
use Rattle.dccp_packets.specs.declared.header.Kind.{Kind}
use Rattle.dccp_packets.specs.declared.header.Kind.TheVariants as kind
use Rattle.dccp_packets.specs.declared.header.Number.TheVariants.{Long}
use Rattle.dccp_packets.specs.declared.reset_code.ResetCode.TheVariants as codes
use Rattle.dccp_states.specs.declared.phase.Phase.{Phase}
use Rattle.dccp_states.specs.declared.phase.Phase.TheVariants as phase
use Rattle.dccp_states.specs.declared.phase.Role.{Role}
use Rattle.dccp_states.specs.declared.phase.Role.TheVariants as role
use Rattle.feature_lists.specs.Wishes.{wish_of}
use Rattle.feature_lists.specs.declared.wishes.PreferFault.{PreferFault}
use Rattle.feature_lists.specs.declared.wishes.Wanted.{Wanted}
use Rattle.feature_machine.specs.Negotiating.{due_keys, every_place}
use Rattle.feature_machine.specs.Rows.{Sends}
use Rattle.feature_machine.specs.Rows as event
use Rattle.feature_machine.specs.Turns.{Turn, turned}
use Rattle.feature_machine.specs.declared.row.Row.{Row}
use Rattle.feature_machine.proofs.Turning.{turned-joined}
use Rattle.dccp_endpoint.specs.Calling.{aborts, aborts_in, asks_all, asks_now, closes, closes_in, closes_now, aborts_now, fires, fires_in, is_asking_now, lacks_vectors, most_data, opens, opens_as, preferring, prefers, prefers_in, prefers_so, prefers_wish, requests, requests_asking, send_fault, sends_data, sends_payload, sends_unless, times_out}
use Rattle.dccp_endpoint.specs.Causes.{Acknowledges, AreHeard, AreTurns, asks_for_request, ByCall, CallsEarly, CallsSent, CallsTimeout, Deaf, EveryStepHasOneEffect, Greatest, HasEffect, InRequest, IsCalling, Keeps, LeavesIt, LooksNowhere, NotNow, Nothing, PrefersLater, PrefersNow, Repeating, StaysSo, is_waiting, is_without_connection}
use Rattle.dccp_endpoint.specs.Drafts.{IsSendable, alone, carrying}
use Rattle.dccp_endpoint.specs.Early.{early_fault, is_part_open, sends_early}
use Rattle.dccp_endpoint.specs.Effects.{Next, Unheard, effect_of, end_after, frame_by, opened_by}
use Rattle.dccp_endpoint.specs.End.{EndState, IsProper, is_connected, is_live, is_open, is_phase_of, with_rows}
use Rattle.dccp_endpoint.specs.Inputs.{Input, Arrives, Opens, Closes, Aborts, Fires, Prefers, end_stepped}
use Rattle.dccp_endpoint.specs.Inputs as input
use Rattle.dccp_endpoint.specs.Reporting.{is_acking, sends_ack}
use Rattle.dccp_endpoint.specs.Speaking.{change_items, is_confirmed, saying}
use Rattle.dccp_endpoint.specs.Steps.{Step, in_phase, detail_of, next_number, with_calls, without_detail}
use Rattle.dccp_endpoint.specs.Turns.{Key, offerings, sendings, turn_of}
use Rattle.dccp_states.specs.declared.calls.SendFault.TheVariants as send
use Rattle.dccp_states.specs.declared.calls.Timer.{Timer}
use Rattle.dccp_states.specs.declared.calls.Timer.TheVariants as timers
use Rattle.dccp_endpoint.proofs.Deriving.{Ready, ack-caused, calling-caused, data-ack-caused, data_ack_with, front_of, front-short, has-by, left, next-caused, offered_keys, offered_turns, offering, plain-caused, quiet, rest, silent-caused, wide, wide-proper, widened}
use Rattle.dccp_endpoint.proofs.Lawful.{offered-sound, rows-kept}
use Rattle.dccp_endpoint.proofs.OwnFrames.{alone-sendable}
use Rattle.dccp_endpoint.proofs.Phases.{open-is, part-open-is}
use Rattle.dccp_endpoint.proofs.Room.{asking-few, due-few, front-confirming-sendable, front-asking-sendable, no-confirms, saying-sendable}
use Rattle.dccp_endpoint.proofs.Tables.{numbered-code}
use Rattle.dccp_endpoint.proofs.Walking.{receives-told}

abbrev Has : {A : Type 0} → EndState → Input → Step A → Type 0
Has e given step = HasEffect e given step.after step.frame step.calls

-- where no Confirm goes out, none is for a row
none-for : (keys : List Key) → All (λ k. is_confirmed [] k ≡ false) keys
none-for [] = All-nil (λ (k : Key). is_confirmed [] k ≡ false)
none-for (k ∷ keys) = All-cons (λ (k : Key). is_confirmed [] k ≡ false) k keys refl (none-for keys)

-- The Changes of all rows that ask go out again.
abbrev repeating : {e : EndState} {given : Input} (in_flight : Bool) → given ≡ Fires timers.Negotiate in_flight
    → AreTurns e given Unheard (sendings (next_number e) (due_keys e.rows))
repeating {e = e} in_flight fired =
    record {
      heard = [];
      confirms = [];
      offered = [];
      preferred = [];
      keys = due_keys e.rows;
      in_order = refl;
      hears = Deaf;
      occasion = Repeating in_flight fired refl refl;
      apart = none-for (due_keys e.rows);
    }

-- A preference, whose Change goes out at once or on a later occasion.
abbrev preferring-now : {e : EndState} {given : Input} (k : Key) (values : List ℕ) (wish : Wanted) → given ≡ Prefers k values → wish_of k.0 k.1 values ≡ Ok wish
    → is_asking_now e k wish ≡ true → AreTurns e given Unheard (turn_of k (event.Prefers wish) ∷ sendings (next_number e) (k ∷ []))
preferring-now k values wish called is now =
    record {
      heard = [];
      confirms = [];
      offered = [];
      preferred = turn_of k (event.Prefers wish) ∷ [];
      keys = k ∷ [];
      in_order = refl;
      hears = Deaf;
      occasion = PrefersNow k values wish called is now refl refl;
      apart = none-for (k ∷ []);
    }

abbrev preferring-later : {e : EndState} {given : Input} (k : Key) (values : List ℕ) (wish : Wanted) → given ≡ Prefers k values
    → wish_of k.0 k.1 values ≡ Ok wish
    → is_asking_now e k wish ≡ false → AreTurns e given Unheard (turn_of k (event.Prefers wish) ∷ [])
preferring-later k values wish called is later =
    record {
      heard = [];
      confirms = [];
      offered = [];
      preferred = turn_of k (event.Prefers wish) ∷ [];
      keys = [];
      in_order = refl;
      hears = Deaf;
      occasion = PrefersLater k values wish called is later refl refl;
      apart = none-for [];
    }

module _ (o : EndState) (given : Input) (proper : IsProper (wide o)) where
  abbrev e : EndState
  e = wide o

  -- a phase without windows, where nothing is heard
  apart : (ph : Phase) → is_live ph ≡ false → is_waiting ph ≡ false → is_phase_of ph e.config.role ≡ true
      → (e.phase ≡ phase.Closed → ph ≡ phase.Closed) → Ready e given Unheard None false ph false None
  apart ph dead heard its_role shut =
      left ph dead its_role (λ is. absurd (false≢true (sym heard ∙ is))) (λ closed. inl (shut closed))
      (Keeps (λ is. absurd (false≢true (sym dead ∙ is)))) LeavesIt NotNow

  idle-has : HasEffect e given e None []
  idle-has = has-by (silent-caused (rest proper) e.owed e.unacked quiet refl refl refl (λ is. is))

  plain-has : {ph : Phase} {called : Bool} → Ready e given Unheard None false ph called None → (k : Kind) → has_forms true k ≡ true → HasDetail k
      → is_acking (packet_type k) ≡ false → Acknowledges e given e.marks.gsr (ack_of k) → is_without_connection e.config.role k ≡ false
      → HasEffect e given (end_after e (effect_of e Unheard None false ph called (Next (alone k))))
      (frame_by e (effect_of e Unheard None false ph called (Next (alone k))) (Next (alone k))) []
  plain-has ready k long detail other acknowledges numbered = has-by (plain-caused ready k long detail other acknowledges numbered)

  ack-has : is_connected e.phase ≡ true → Has e given (sends_ack e (alone (kind.Ack (Long e.marks.gsr))) true)
  ack-has connected = has-by (ack-caused (rest proper) quiet []
      (front-confirming-sendable (kind.Ack (Long e.marks.gsr)) (front_of (rest {given = given} proper) []) [] refl tt refl
      (front-short (rest {given = given} proper) []) no-confirms)
      refl (inl refl) connected refl)

  -- A Request: all offers come up, and the Changes go out of all rows that ask then.
  requested-has : (ph : Phase) (called : Bool) → asks_for_request given ≡ true → Ready e given Unheard None false ph called None
      → Has e given (requests (record e { opened = opened_by e.opened called; phase = ph }) true)
  requested-has ph called due ready =
      let offered : List Turn = offerings (is_confirmed []) every_place in
      let keys : List Key = offered_keys e [] [] in
      let packet : Kind = kind.Request e.config.service in
      let hears : AreHeard e given Unheard [] [] = Deaf in
      let kept = rows-kept proper (offering hears) in
      subst (λ (rows : List Row). Has e given (requests_asking (with_rows (record e { opened = opened_by e.opened called; phase = ph }) rows) keys true))
      (turned-joined e.rows offered (sendings (next_number e) keys))
      (has-by (next-caused ready e.owed e.unacked (offering hears) (saying packet [] (turned e.rows (offered_turns e [] [])) keys)
      (saying-sendable packet [] (turned e.rows (offered_turns e [] [])) keys refl tt refl no-confirms kept.sound
      (asking-few (turned e.rows offered) [] (offered-sound proper hears)))
      refl (inl refl) refl Nothing refl (inr (InRequest _ due refl))))

  -- an Ack with the Changes of all rows that ask
  asked-has : (in_flight : Bool) → given ≡ Fires timers.Negotiate in_flight → is_connected e.phase ≡ true → (keys : List Key) → due_keys e.rows ≡ keys
      → Has e given (asks_all e keys)
  asked-has in_flight fired connected [] is = idle-has
  asked-has in_flight fired connected (k ∷ keys) is =
      let rows : List Row = turned e.rows (sendings (next_number e) (due_keys e.rows)) in
      let turns : AreTurns e given Unheard (sendings (next_number e) (due_keys e.rows)) = repeating in_flight fired in
      let kept = rows-kept proper turns in
      subst (λ (ks : List Key). Has e given (asks_now e ks true)) is
      (has-by (ack-caused (rest proper) (repeating in_flight fired) (change_items rows (due_keys e.rows))
      (front-asking-sendable (kind.Ack (Long e.marks.gsr)) (front_of (rest {given = given} proper) (sendings (next_number e) (due_keys e.rows))) rows
      (due_keys e.rows) refl tt refl (front-short (rest {given = given} proper) (sendings (next_number e) (due_keys e.rows))) kept.sound
      (due-few e.rows proper.rows.sound))
      refl (inl refl) connected refl))

  -- prefer
  preferred-has : (k : Key) (values : List ℕ) → given ≡ Prefers k values → is_connected e.phase ≡ true → (wish : Wanted) → wish_of k.0 k.1 values ≡ Ok wish
      → (now : Bool) → is_asking_now e k wish ≡ now → Has e given (prefers_so (preferring e k wish) k now)
  preferred-has k values called connected wish is true now =
      let rows : List Row = turned e.rows (turn_of k (event.Prefers wish) ∷ sendings (next_number e) (k ∷ [])) in
      let kept = rows-kept proper (preferring-now {e = e} k values wish called is now) in
      has-by (ack-caused (rest proper) (preferring-now k values wish called is now) (change_items rows (k ∷ []))
      (front-asking-sendable (kind.Ack (Long e.marks.gsr))
      (front_of (rest {given = given} proper) (turn_of k (event.Prefers wish) ∷ sendings (next_number e) (k ∷ []))) rows (k ∷ []) refl tt refl
      (front-short (rest {given = given} proper) (turn_of k (event.Prefers wish) ∷ sendings (next_number e) (k ∷ []))) kept.sound (omega arith)) refl
      (inl refl) connected refl)
  preferred-has k values called connected wish is false later =
      has-by (silent-caused (rest proper) e.owed e.unacked (preferring-later k values wish called is later) refl refl refl (λ so. so))

  wished-has : (k : Key) (values : List ℕ) → given ≡ Prefers k values → is_connected e.phase ≡ true → (wish : Result Wanted PreferFault)
      → wish_of k.0 k.1 values ≡ wish → Has e given (prefers_wish e k wish)
  wished-has k values called connected (Ok wish) is = preferred-has k values called connected wish is (is_asking_now e k wish) refl
  wished-has k values called connected (Err fault) is = idle-has

  prefers-has : (k : Key) (values : List ℕ) → given ≡ Prefers k values → (connected : Bool) → is_connected e.phase ≡ connected
      → Has e given (prefers_in e connected k values)
  prefers-has k values called true connected = wished-has k values called connected (wish_of k.0 k.1 values) refl
  prefers-has k values called false apart = idle-has

  -- open
  opens-has : given ≡ Opens → (r : Role) → e.config.role ≡ r → (opened : Bool) → e.opened ≡ opened → Has e given (opens_as e r opened)
  opens-has called role.Client client false fresh =
      requested-has phase.Request true (ap asks_for_request called)
      (left phase.Request refl (ap (is_phase_of phase.Request) client) (λ waits. refl) (λ closed. inr refl) (Keeps (λ is. absurd (false≢true is))) LeavesIt
      (ByCall called client fresh))
  opens-has called role.Client client true opened = idle-has
  opens-has called role.Server server opened is = idle-has

  -- close
  closing : (ph : Phase) → is_live e.phase ≡ true → is_phase_of ph e.config.role ≡ true → (ph ≡ phase.Open → e.phase ≡ phase.Open) → is_waiting ph ≡ false
      → Ready e given Unheard None false ph false None
  closing ph live its_role same heard =
      record {
        hears = Keeps (λ _. live);
        acks = LeavesIt;
        its_role = its_role;
        live = λ _. inl live;
        waits = λ is. absurd (false≢true (sym heard ∙ is));
        shut = λ closed. absurd (false≢true (sym (ap is_live closed) ∙ live));
        opening = StaysSo same;
        opened = NotNow;
        looks = LooksNowhere;
      }

  closes-has : is_live e.phase ≡ true → (r : Role) → e.config.role ≡ r → Has e given (closes_now e r)
  closes-has live role.Client client = plain-has (closing phase.Closing live refl (λ is. cc is) refl) (kind.Close e.marks.gsr) refl tt refl Greatest refl
  closes-has live role.Server server =
      plain-has (closing phase.CloseReq live (ap (is_phase_of phase.CloseReq) server) (λ is. cc is) refl) (kind.CloseReq e.marks.gsr) refl tt refl Greatest refl

  closes-in : (ph : Phase) → e.phase ≡ ph → Has e given (closes_in e ph)
  closes-in phase.PartOpen is = closes-has (ap is_live is) e.config.role refl
  closes-in phase.Open is = closes-has (ap is_live is) e.config.role refl
  closes-in _ is = idle-has

  -- abort
  aborts-has : Has e given (aborts_now e)
  aborts-has =
      plain-has (apart phase.Closed refl refl refl (λ closed. refl))
      (kind.Reset e.marks.gsr (number_of_code codes.Aborted) (detail_of (without_detail (number_of_code codes.Aborted))))
      refl refl refl Greatest (numbered-code e.config.role (number_of_code codes.Aborted) refl)

  -- the phase alone becomes CLOSED
  closed-has : HasEffect e given (in_phase e phase.Closed) None []
  closed-has = has-by (silent-caused (apart phase.Closed refl refl refl (λ closed. refl)) e.owed e.unacked quiet refl refl refl (λ is. absurd (false≢true is)))

  aborts-in : (ph : Phase) → Has e given (aborts_in e ph)
  aborts-in phase.Closed = idle-has
  aborts-in phase.Listen = idle-has
  aborts-in phase.TimeWait = idle-has
  aborts-in phase.Request = closed-has
  aborts-in _ = aborts-has

  -- send: the same draft with data has a frame, too
  data-sendable : (k : Kind) (payload : List ℕ) → IsSendable (alone k) → length payload ≤ 1024 → IsSendable (carrying k payload)
  data-sendable k payload empty fits =
      record { is_long = empty.is_long; detail = empty.detail; items = empty.items; on_data = empty.on_data; area = empty.area; data_fits = fits }

  -- on a DataAck
  acknowledging-has : (payload : List ℕ)
      → IsCalling e given Unheard (Next (data_ack_with (rest {given = given} proper) payload)) (call.Sends (next_number e) ∷ [])
      → is_connected e.phase ≡ true → length payload ≤ 1024 → Has e given (with_calls (call.Sends (next_number e) ∷ []) (sends_data e payload true))
  acknowledging-has payload why connected fits =
      let packet : Kind = kind.DataAck (Long e.marks.gsr) in
      let empty = front-confirming-sendable packet (front_of (rest {given = given} proper) []) [] refl tt refl
      (front-short (rest {given = given} proper) []) no-confirms in
      has-by (calling-caused why
      (data-ack-caused (rest proper) payload
      (record { is_long = empty.is_long; detail = empty.detail; items = empty.items; on_data = empty.on_data; area = empty.area; data_fits = fits })
      connected))

  data-has : (payload : List ℕ) → given ≡ input.Sends payload true → e.phase ≡ phase.Open → length payload ≤ 1024 → (owed : Bool)
      → Has e given (with_calls (call.Sends (next_number e) ∷ []) (sends_data e payload owed))
  data-has payload called in_open fits true = acknowledging-has payload (CallsSent payload called in_open refl) (ap is_connected in_open) fits
  data-has payload called in_open fits false =
      has-by (calling-caused (CallsSent payload called in_open refl)
      (next-caused (rest proper) e.owed e.unacked quiet (carrying kind.Data payload)
      (data-sendable kind.Data payload (alone-sendable kind.Data refl tt) fits) refl (inl refl) refl Nothing refl (inl refl)))

  -- whatever they are refused for, they go out where they are not
  unless-has : (payload : List ℕ) (acknowledges may_send fits_phase long lacks : Bool) → nat_lt most_data (length payload) ≡ long
      → (fits_phase ≡ true → may_send ≡ true → length payload ≤ 1024
      → Has e given (with_calls (call.Sends (next_number e) ∷ []) (sends_data e payload acknowledges)))
      → Has e given (sends_unless e payload acknowledges
      (if not fits_phase then Some send.NotOpen
      else if long then Some send.TooLong
      else if lacks then Some send.NotNegotiated
      else if not may_send then Some send.WindowFull
      else None))
  unless-has payload acknowledges may_send false long lacks is goes = idle-has
  unless-has payload acknowledges may_send true true lacks is goes = idle-has
  unless-has payload acknowledges may_send true false true is goes = idle-has
  unless-has payload acknowledges false true false false is goes = idle-has
  unless-has payload acknowledges true true false false is goes = goes refl refl (grind (arith, is))

  sends-has : (payload : List ℕ) (may_send : Bool) → given ≡ input.Sends payload may_send
      → Has e given (sends_unless e payload e.owed (send_fault e payload may_send))
  sends-has payload may_send called =
      unless-has payload e.owed may_send (is_open e.phase) (nat_lt most_data (length payload)) (lacks_vectors e.rows) refl
      (λ in_open may fits. data-has payload (called ∙ ap (input.Sends payload) may) (open-is e.phase in_open) fits e.owed)

  -- send_early
  early-data-has : (payload : List ℕ) → given ≡ input.SendsEarly payload true → e.phase ≡ phase.PartOpen → length payload ≤ 1024
      → Has e given (with_calls (call.Sends (next_number e) ∷ []) (sends_data e payload true))
  early-data-has payload called part_open fits =
      acknowledging-has payload (CallsEarly payload called part_open refl) (ap is_connected part_open) fits

  early-has : (payload : List ℕ) (may_send : Bool) → given ≡ input.SendsEarly payload may_send
      → Has e given (sends_unless e payload true (early_fault e payload may_send))
  early-has payload may_send called =
      unless-has payload true may_send (is_part_open e.phase) (nat_lt most_data (length payload)) (lacks_vectors e.rows) refl
      (λ part_open may fits. early-data-has payload (called ∙ ap (input.SendsEarly payload) may) (part-open-is e.phase part_open) fits)

  -- the timers
  times-out : given ≡ Fires timers.Rto true → e.phase ≡ phase.Open → Has e given (times_out e true)
  times-out called in_open =
      has-by (calling-caused (CallsTimeout called in_open) (silent-caused (rest proper) e.owed e.unacked quiet refl refl refl (λ is. is)))

  rto-has : (in_flight : Bool) → given ≡ Fires timers.Rto in_flight → e.phase ≡ phase.Open → Has e given (times_out e in_flight)
  rto-has true called in_open = times-out called in_open
  rto-has false called in_open = idle-has

  fires-in : (timer : Timer) (in_flight : Bool) (ph : Phase) → given ≡ Fires timer in_flight → e.phase ≡ ph → Has e given (fires_in e timer in_flight ph)
  fires-in timers.Request in_flight phase.Request called is = requested-has e.phase false (ap asks_for_request called) (rest proper)
  fires-in timers.Ack in_flight phase.PartOpen called is = ack-has (ap is_connected is)
  fires-in timers.Ack in_flight phase.Open called is = ack-has (ap is_connected is)
  fires-in timers.Negotiate in_flight phase.PartOpen called is = asked-has in_flight called (ap is_connected is) (due_keys e.rows) refl
  fires-in timers.Negotiate in_flight phase.Open called is = asked-has in_flight called (ap is_connected is) (due_keys e.rows) refl
  fires-in timers.Rto in_flight phase.Open called is = rto-has in_flight called is
  fires-in timers.Close in_flight phase.CloseReq called is = plain-has (rest proper) (kind.CloseReq e.marks.gsr) refl tt refl Greatest refl
  fires-in timers.Close in_flight phase.Closing called is = plain-has (rest proper) (kind.Close e.marks.gsr) refl tt refl Greatest refl
  fires-in timers.TimeWait in_flight phase.TimeWait called is = closed-has
  fires-in _ in_flight _ called is = idle-has

-- an end as wide as its rows say
wide-has : (o : EndState) (given : Input) → IsProper (wide o) → Has (wide o) given (end_stepped (wide o) given)
unfolding opens closes aborts fires prefers sends_payload sends_early
wide-has o (Arrives bytes) is =
    let told = (receives-told (wide o) bytes is).effect in
    record { effect = told.effect; after_is = told.after_is; frame_is = told.frame_is; calls_are = told.calls_are; because = told.because }
wide-has o Opens is = opens-has o Opens is refl o.config.role refl o.opened refl
wide-has o Closes is = closes-in o Closes is o.phase refl
wide-has o Aborts is = aborts-in o Aborts is o.phase
wide-has o (Fires timer in_flight) is = fires-in o (Fires timer in_flight) is timer in_flight o.phase refl refl
wide-has o (Prefers k values) is = prefers-has o (Prefers k values) is k values refl (is_connected o.phase) refl
wide-has o (input.Sends payload may_send) is = sends-has o (input.Sends payload may_send) is payload may_send refl
wide-has o (input.SendsEarly payload may_send) is = early-has o (input.SendsEarly payload may_send) is payload may_send refl

-- of calls, timers and packets alike
pub every_step_has_an_effect : EveryStepHasOneEffect
every_step_has_an_effect e given proper =
    subst (λ (x : EndState). Has x given (end_stepped x given)) (sym (widened e proper)) (wide-has e given (wide-proper e proper))
