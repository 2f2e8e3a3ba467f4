-- Each step of `receive` is told: its outcome's cause, and its effect.
--
-- A packet that leaves at one of the steps 2 to 6 is told where it leaves. What follows of one that entered is told of each `Entry`.
use Rattle.std.proofs.Common.{◌≡◌, ◌≢◌, ◌⊎◌, inl, inr, refl, ap, sym, ◌∙◌, subst, ℕ, Bool, true, false, not, ◌||◌, if◌then◌else◌, List, [], ◌∷◌, Option, Some, None, Result, Ok, Err}
use Rattle.std.proofs.lemmas.Bool.{false≢true}
use Rattle.seq_circle.specs.Circle.{extended, is_before, later_of}
use Rattle.dccp_packets.specs.Grammar.{Parts, decoded, packet_type}
use Rattle.dccp_packets.specs.Forms.{ack_near}
use Rattle.dccp_packets.specs.ResetCodes.{number_of_code}
use Rattle.dccp_packets.specs.declared.header.Kind.{Kind}
use Rattle.dccp_packets.specs.declared.header.Kind.TheVariants as kind
use Rattle.dccp_packets.specs.declared.header.Number.{Number}
use Rattle.dccp_packets.specs.declared.header.Number.TheVariants.{Long, Short}
use Rattle.dccp_packets.specs.declared.header.PacketType.{PacketType}
use Rattle.dccp_packets.specs.declared.header.PacketType.TheVariants as types
use Rattle.dccp_packets.specs.declared.reading.Malformed.{Malformed}
use Rattle.dccp_packets.specs.declared.reset_code.ResetCode.TheVariants as codes
use Rattle.dccp_sum.specs.Checksum.{checked}
use Rattle.dccp_sum.specs.declared.packet_sum.SumFault.{SumFault}
use Rattle.dccp_states.specs.Phases.{after}
use Rattle.dccp_states.specs.declared.entrance.Entrance.{Entrance}
use Rattle.dccp_states.specs.declared.entrance.Entrance.TheVariants as entrance
use Rattle.dccp_states.specs.declared.phase.Phase.{Phase}
use Rattle.dccp_states.specs.declared.phase.Phase.TheVariants as phase
use Rattle.dccp_states.specs.declared.phase.Role.{Role}
use Rattle.dccp_states.specs.declared.phase.Role.TheVariants as role
use Rattle.ack_vectors.specs.Kept as kept
use Rattle.validity_windows.specs.declared.verdict.Verdict.{Verdict}
use Rattle.validity_windows.specs.declared.verdict.Verdict.TheVariants as verdicts
use Rattle.dccp_endpoint.specs.Causes.{is_code_without_connection, is_waiting, LooksNowhere, Acknowledges, Arrived, ByVerdict, ByWindow, Came, Greatest, IsAcknowledging, Keeps, LeavesIt, NotNow, Raises, Refuses, SaysApart, Starts, StaysSo, entrance_of, verdict_of}
use Rattle.dccp_endpoint.specs.Drafts.{alone}
use Rattle.dccp_endpoint.specs.Effects.{Heard, Next, Refused, WithoutConnection, effect_of, raising}
use Rattle.dccp_endpoint.specs.End.{EndState, IsProper, is_begun, is_live, is_open, is_phase_of, phase_entered}
use Rattle.dccp_endpoint.specs.Incoming.{Incoming, incoming, is_newest}
use Rattle.dccp_endpoint.specs.Inputs.{Input, Arrives}
use Rattle.dccp_endpoint.specs.Outcomes.{HasCause, IsNoAnswer, IsValidReset, effect_of_refusing, effect_of_reset, IsReset, IsValid, OutOfWindow, Unexpected, NoConnection, OtherService, NoAnswer, OtherType, OtherRequest, OpensConnection, ResponseToRequest, PacketInWindow, ResetToRequest, ResetInWindow, StrayWithoutConnection, StrayInRequest}
use Rattle.dccp_endpoint.specs.Receiving.{Goes, acknowledges_in_window, answers, by_ports, by_sum, by_verdict, checks_numbers, checks_type, ends_as, ends_by_reset, is_of_connection, is_own_service, number_without_connection, opens_connection, packet_fault, raises, read_number, received, receives, resets, resets_without_connection, short_number, started, takes_answer, takes_short, the_steps, through, with_own_number, with_packet, with_raised_marks}
use Rattle.dccp_endpoint.specs.Steps.{Step, in_phase, detail_of, idle, sends, without_detail}
use Rattle.dccp_states.specs.declared.outcome.Outcome.{Outcome}
use Rattle.dccp_states.specs.declared.outcome.Outcome.TheVariants.{Dropped, Synced, WasReset}
use Rattle.dccp_states.specs.declared.outcome.Why.{Why}
use Rattle.dccp_states.specs.declared.outcome.Why.TheVariants as why
use Rattle.dccp_endpoint.proofs.Deriving.{Ready, Told, caused, left, plain-caused, quiet, rest, silent-caused, told-by, wide, wide-proper, widened}
use Rattle.dccp_endpoint.proofs.OwnFrames.{alone-sendable}
use Rattle.dccp_endpoint.proofs.Phases.{accept-so, after-heard, answer-so, begun-not-closed, check-live, listens-server, live-begun, live-entered, live-heard, requests-client}
use Rattle.dccp_endpoint.proofs.Tables.{gar-by, no-connection-code, numbered-code, sync-acknowledges, unexpected-no-ack}
use Rattle.dccp_endpoint.proofs.Entered.{AfterEntry, Entry, entered_as, entry-told}

-- a Request acknowledges nothing
request-no-ack : (reference : ℕ) (k : Kind) → packet_type k ≡ types.Request → ack_near reference k ≡ None
request-no-ack reference (kind.Request service) is = refl
request-no-ack reference kind.Data is = refl
request-no-ack reference _ is = cc is

-- what a packet acknowledges
acks-so : (e : EndState) (given : Input) (t : PacketType) (ack : Option ℕ) → ((n : ℕ) → ack ≡ Some n → IsAcknowledging e given (Some n))
    → IsAcknowledging e given (raising t ack)
acks-so e given types.Sync ack so = LeavesIt
acks-so e given _ None so = LeavesIt
acks-so e given _ (Some n) so = so n refl

-- a newest packet has the greatest number
newest-greatest : (live before : Bool) (gsr number : ℕ) → live ≡ true → (not live || before) ≡ true → (if before then number else gsr) ≡ number
newest-greatest true true gsr number is newest = refl
newest-greatest true false gsr number is newest = cc newest
newest-greatest false before gsr number is newest = cc is

greatest-so : (e : EndState) (given : Input) (a : Incoming) → Came e given a → is_live e.phase ≡ true → a.newest ≡ true
    → later_of e.marks.gsr a.number ≡ a.number
greatest-so e given a came live newest =
    let number : a.number ≡ came.number = ap (λ (b : Incoming). b.number) came.same in
    let after : is_newest e came.number ≡ true = sym (ap (λ (b : Incoming). b.newest) came.same) ∙ newest in
    newest-greatest (is_live e.phase) (is_before e.marks.gsr a.number) e.marks.gsr a.number live (subst (λ (n : ℕ). is_newest e n ≡ true) (sym number) after)

module _ (o : EndState) (bytes : List ℕ) (proper : IsProper (wide o)) where
  abbrev e : EndState
  e = wide o

  -- a packet that leaves before it enters

  dropped-told : (w : Why) → HasCause e bytes (Dropped w) → Told e bytes (idle e (Dropped w))
  dropped-told w cause = told-by (Dropped w) (silent-caused (rest proper) e.owed e.unacked quiet refl refl refl (λ is. is)) cause refl

  module _ (a : Incoming) (came : Came e (Arrives bytes) a) where
    synced-told : (n : ℕ) → entrance_of e a ≡ entrance.Check → verdict_of e a ≡ verdicts.SyncFor n → Told e bytes (sends e (alone (kind.Sync n)) (Synced n))
    synced-told n check bad =
        told-by (Synced n)
        (plain-caused (rest proper) (kind.Sync n) refl tt refl (either (sync-acknowledges e.marks a.kind a.number a.ack n bad)) refl)
        (OutOfWindow a came check bad) refl where
          either : (n ≡ a.number) ⊎ (n ≡ e.marks.gsr) → Acknowledges e (Arrives bytes) e.marks.gsr (Some n)
          either (inl is) = rw is (Arrived a came)
          either (inr is) = rw is Greatest

    refused-told : (code : ℕ) → is_code_without_connection e.config.role code ≡ true → (why : IsReset e bytes (without_detail code))
        → effect_of_reset e bytes (without_detail code) why ≡ effect_of_refusing e a (without_detail code)
        → Told e bytes (resets_without_connection e a (without_detail code))
    refused-told code is_code why form =
        let number : ℕ = number_without_connection a.ack in
        let packet : Kind = kind.Reset a.number code (detail_of (without_detail code)) in
        told-by _
        (caused (rest proper) e.owed e.unacked quiet (WithoutConnection number packet) (λ is. inl is) (SaysApart number packet refl refl)
        (alone-sendable packet refl refl)
        (Refuses a code came is_code refl refl refl) (inl refl))
        (record { fault = without_detail code; why = why; has_code = refl; has_detail = refl }) (sym form)

    corrected-told : IsNoAnswer e a → Told e bytes (resets e a.number (packet_fault a))
    corrected-told no_answer =
        let code : ℕ = number_of_code codes.PacketError in
        told-by _
        (plain-caused (rest proper) (kind.Reset a.number code (detail_of (packet_fault a))) refl refl refl (Arrived a came)
        (numbered-code e.config.role code refl))
        (record { fault = packet_fault a; why = NoAnswer a came no_answer; has_code = refl; has_detail = refl }) refl

    ended-told : a.kind ≡ types.Reset → IsValidReset e a → is_begun e.phase ≡ true → Told e bytes (idle (in_phase e phase.TimeWait) (WasReset a.code))
    ended-told reset valid begun =
        told-by (WasReset a.code)
        (silent-caused (left phase.TimeWait refl refl (λ is. absurd (false≢true is)) (λ closed. absurd (begun-not-closed e.phase begun closed))
        (Keeps (λ is. absurd (false≢true is))) LeavesIt NotNow) e.owed e.unacked quiet refl refl refl (λ is. begun))
        (record { packet = a; came = came; is_reset = reset; is_valid = valid; has_code = refl }) refl

  -- the ends that steps 3, 4 and 6 leave

  started-is : (ph : Phase) (a : Incoming) → started e ph a ≡ entered_as e true ph a.number (raising a.kind a.ack)
  started-is ph a =
      ap (λ (gar : ℕ).
      record e { phase = ph; marks = record e.marks { isr = a.number; gsr = a.number; osr = a.number; gar = gar }; received = kept.fresh a.number })
      (gar-by e.marks.gar a.kind a.ack)

  raised-is : (a : Incoming) → with_raised_marks e a ≡ entered_as e false e.phase a.number (raising a.kind a.ack)
  raised-is a =
      ap (λ (gar : ℕ). record e { marks = record e.marks { gsr = later_of e.marks.gsr a.number; gar = gar } }) (gar-by e.marks.gar a.kind a.ack)

  module _ (a : Incoming) (came : Came e (Arrives bytes) a) where
    opened-entry : entrance_of e a ≡ entrance.Accept → is_own_service e a.service ≡ true → Entry e bytes a
    opened-entry is ours =
        let listens : e.phase ≡ phase.Listen = (accept-so e.phase a.kind is).0 in
        let request : a.kind ≡ types.Request = (accept-so e.phase a.kind is).1 in
        let server : e.config.role ≡ role.Server = listens-server e.config.role e.phase listens proper.phase_fits in
        record {
          came = came;
          first = true;
          ph = phase.Respond;
          first_so = sym (ap (λ (ph : Phase). not (is_live ph)) listens);
          valid = OpensConnection is ours (sym (started-is phase.Respond a));
          entered = sym (ap phase_entered listens);
          hears = λ to how fine fits. Starts a how came (λ reset. cc (request, reset)) (inl is) fine fits;
          acks = acks-so e (Arrives bytes) a.kind a.ack (λ n same. absurd (none n same request));
          its_role = ap (is_phase_of phase.Respond) server;
          live = inr refl;
          begun = inr (ap (after phase.Respond) request);
          same_open = sym (ap is_open listens);
          moves_on = ap (λ (t : PacketType). is_waiting (after phase.Respond t).0) request;
          not_closed = λ closed. cc (sym listens ∙ closed);
          greatest = λ newest. refl;
          refused = λ out. absurd (false≢true (rw (server, request) at out));
        } where
          none : (n : ℕ) → a.ack ≡ Some n → a.kind ≡ types.Request → ⊥
          none n same request =
              cc (sym same ∙ ap (λ (b : Incoming). b.ack) came.same
              ∙ request-no-ack e.marks.gss came.packet.header.kind (sym (ap (λ (b : Incoming). b.kind) came.same) ∙ request))

    answered-entry : entrance_of e a ≡ entrance.InRequest → a.kind ≢ types.Reset → acknowledges_in_window e a ≡ true → Entry e bytes a
    answered-entry is no_reset fits =
        let asks : e.phase ≡ phase.Request = (answer-so e.phase a.kind is).0 in
        let response : a.kind ≡ types.Response = (answer-so e.phase a.kind is).1 no_reset in
        let client : e.config.role ≡ role.Client = requests-client e.config.role e.phase asks proper.phase_fits in
        record {
          came = came;
          first = true;
          ph = e.phase;
          first_so = sym (ap (λ (ph : Phase). not (is_live ph)) asks);
          valid = ResponseToRequest is no_reset fits (sym (started-is e.phase a));
          entered = asks ∙ sym (ap phase_entered asks);
          hears = λ to how fine so. Starts a how came no_reset (inr is) fine so;
          acks = acks-so e (Arrives bytes) a.kind a.ack (λ n same. ByWindow n a came no_reset same is fits);
          its_role = proper.phase_fits;
          live = inr refl;
          begun = inl (ap is_begun asks);
          same_open = refl;
          moves_on = ap (λ (ph : Phase). is_waiting (after ph a.kind).0) asks ∙ ap (λ (t : PacketType). is_waiting (after phase.Request t).0) response;
          not_closed = λ closed. cc (sym asks ∙ closed);
          greatest = λ newest. refl;
          refused = λ out. absurd (false≢true (rw (client, asks, response) at out));
        }

    raised-entry : entrance_of e a ≡ entrance.Check → a.kind ≢ types.Reset → verdict_of e a ≡ verdicts.Valid → Entry e bytes a
    raised-entry is no_reset fits =
        let live : is_live e.phase ≡ true = check-live e.phase a.kind is in
        let acks = acks-so e (Arrives bytes) a.kind a.ack (λ n same. ByVerdict n a came no_reset same is fits) in
        let valid : IsValid e a (entered_as e false e.phase a.number (raising a.kind a.ack)) = PacketInWindow is no_reset fits (sym (raised-is a)) in
        let not_closed : e.phase ≢ phase.Closed = λ closed. false≢true (sym (ap is_live closed) ∙ live) in
        record {
          came = came;
          first = false;
          ph = e.phase;
          first_so = sym (ap not live);
          valid = valid;
          entered = sym (live-entered e.phase live);
          hears = λ to how fine so. Raises a how came no_reset is fits so;
          acks = acks;
          its_role = proper.phase_fits;
          live = inl live;
          begun = inl (live-begun e.phase live);
          same_open = refl;
          moves_on = after-heard e.phase a.kind live;
          not_closed = not_closed;
          greatest = greatest-so e (Arrives bytes) a came live;
          refused = λ out.
              let ready : Ready e (Arrives bytes) (Heard false a.number Refused) (raising a.kind a.ack) false e.phase false None =
              record {
                hears = Raises a Refused came no_reset is fits (unexpected-no-ack e.config.role e.phase a.kind _ out);
                acks = acks;
                its_role = proper.phase_fits;
                live = λ _. inl live;
                waits = λ so. absurd (false≢true (sym (live-heard e.phase live) ∙ so));
                shut = λ closed. absurd (not_closed closed);
                opening = StaysSo (λ so. so);
                opened = NotNow;
                looks = LooksNowhere;
              } in
              told-by (Synced a.number) (plain-caused ready (kind.Sync a.number) refl tt refl (Arrived a came) refl)
              (Unexpected a _ (record { came = came; is_valid = valid }) out refl)
              (ap (λ (first : Bool). effect_of e (Heard first a.number Refused) (raising a.kind a.ack) false e.phase false (Next (alone (kind.Sync a.number))))
              (sym (ap not live)));
        }

    -- steps 5 and 6
    raises-told : entrance_of e a ≡ entrance.Check → verdict_of e a ≡ verdicts.Valid → (t : PacketType) → a.kind ≡ t
        → Told e bytes (ends_as a (through (raises a e t) (ends_by_reset a a.kind ∷ checks_type a ∷ [])))
    unfolding raised-entry
    raises-told check valid types.Reset same =
        rw same (ended-told a came same (ResetInWindow check valid) (live-begun e.phase (check-live e.phase a.kind check)))
    raises-told check valid _ same =
        let no_reset : (a.kind ≡ types.Reset → ⊥) = λ reset. cc (same, reset) in
        subst (AfterEntry e bytes a a.kind) (sym (raised-is a)) (entry-told o bytes proper a (raised-entry check no_reset valid) a.kind no_reset)

    judged-told : entrance_of e a ≡ entrance.Check → (v : Verdict) → verdict_of e a ≡ v
        → Told e bytes (ends_as a (through (by_verdict a e v) (ends_by_reset a a.kind ∷ checks_type a ∷ [])))
    judged-told check verdicts.Valid same = raises-told check same a.kind refl
    judged-told check (verdicts.SyncFor n) same = synced-told a came n check same
    judged-told check verdicts.Drop same = dropped-told why.BadSync (record { packet = a; came = came; is_checked = check; is_bad = same })

    -- step 4
    answered-told : entrance_of e a ≡ entrance.InRequest → (t : PacketType) → a.kind ≡ t → (fits : Bool) → acknowledges_in_window e a ≡ fits
        → Told e bytes (ends_as a (through (answers a e t fits) (checks_numbers a entrance.InRequest ∷ ends_by_reset a a.kind ∷ checks_type a ∷ [])))
    unfolding answered-entry
    answered-told is types.Reset same true fits =
        rw same (ended-told a came same (ResetToRequest is fits) (ap is_begun (answer-so e.phase a.kind is).0))
    answered-told is types.Reset same false fits = dropped-told why.StrayReset (StrayInRequest a came is same fits)
    answered-told is _ same true fits =
        let no_reset : (a.kind ≡ types.Reset → ⊥) = λ reset. cc (same, reset) in
        subst (AfterEntry e bytes a a.kind) (sym (started-is e.phase a)) (entry-told o bytes proper a (answered-entry is no_reset fits) a.kind no_reset)
    answered-told is _ same false fits = corrected-told a came (OtherRequest is (λ reset. cc (same, reset)) fits)

    -- step 3
    accepted-told : entrance_of e a ≡ entrance.Accept → (ours : Bool) → is_own_service e a.service ≡ ours
        → Told e bytes (ends_as a (through (opens_connection a e ours)
        (takes_answer a entrance.Accept ∷ checks_numbers a entrance.Accept ∷ ends_by_reset a a.kind ∷ checks_type a ∷ [])))
    unfolding opened-entry
    accepted-told is true ours =
        subst (AfterEntry e bytes a a.kind) (sym (started-is phase.Respond a))
        (entry-told o bytes proper a (opened-entry is ours) a.kind (λ reset. cc ((accept-so e.phase a.kind is).1, reset)))
    accepted-told is false other =
        let code : ℕ = number_of_code codes.BadServiceCode in
        let server : e.config.role ≡ role.Server = listens-server e.config.role e.phase (accept-so e.phase a.kind is).0 proper.phase_fits in
        refused-told a came code (ap (λ (r : Role). is_code_without_connection r code) server) (OtherService a came is other) refl

    -- steps 2 to 16
    entered-told : (how : Entrance) → entrance_of e a ≡ how → Told e bytes (ends_as a (through (Goes e) (the_steps a how)))
    entered-told entrance.NoConnection is =
        refused-told a came (number_of_code codes.NoConnection) (no-connection-code e.config.role) (NoConnection a came is) refl
    entered-told entrance.Stray is = dropped-told why.StrayReset (StrayWithoutConnection a came is)
    entered-told entrance.Accept is = accepted-told is (is_own_service e a.service) refl
    entered-told entrance.InRequest is = answered-told is a.kind refl (acknowledges_in_window e a) refl
    entered-told entrance.PacketError is = corrected-told a came (OtherType is)
    entered-told entrance.Check is = judged-told is (verdict_of e a) refl

  -- step 1
  module _ (p : Parts) (is : decoded bytes ≡ Ok p) where
    form-told : checked e.config.pseudo_in bytes ≡ Ok tt → is_of_connection e p.header ≡ true → (number : Number) → p.header.number ≡ number
        → Told e bytes (received e (with_own_number e bytes p (read_number e number)))
    form-told fits ours (Long n) same =
        entered-told (incoming e bytes p n)
        (record {
          bytes = bytes;
          packet = p;
          number = n;
          is_given = refl;
          is_packet = is;
          sum_fits = fits;
          is_ours = ours;
          reads = ap (read_number e) same;
          same = refl;
        }) _ refl
    form-told fits ours (Short n) same = by (takes_short e) refl where
      by : (taken : Bool) → takes_short e ≡ taken → Told e bytes (received e (with_own_number e bytes p (short_number taken n e.marks.gsr)))
      by true takes =
          entered-told (incoming e bytes p (extended n e.marks.gsr))
          (record {
            bytes = bytes;
            packet = p;
            number = extended n e.marks.gsr;
            is_given = refl;
            is_packet = is;
            sum_fits = fits;
            is_ours = ours;
            reads = ap (read_number e) same ∙ ap (λ (b : Bool). short_number b n e.marks.gsr) takes;
            same = refl;
          }) _ refl
      by false none =
          dropped-told why.ShortOff
          (record { packet = p; number = n; is_packet = is; sum_fits = fits; is_ours = ours; is_short = same; not_taken = none })

    ports-told : checked e.config.pseudo_in bytes ≡ Ok tt → (ours : Bool) → is_of_connection e p.header ≡ ours
        → Told e bytes (received e (with_own_number e bytes p (by_ports e p.header.number ours)))
    ports-told fits true same = form-told fits same p.header.number refl
    ports-told fits false same = dropped-told why.OtherFlow (record { packet = p; is_packet = is; sum_fits = fits; not_ours = same })

    sum-told : (sum : Result (Unit {0}) SumFault) → checked e.config.pseudo_in bytes ≡ sum
        → Told e bytes (received e (with_own_number e bytes p (by_sum e p.header sum)))
    sum-told (Ok tt) same = ports-told same (is_of_connection e p.header) refl
    sum-told (Err fault) same = dropped-told (why.Sum fault) (record { packet = p; is_packet = is; sum_fails = same })

  packet-told : (packet : Result Parts Malformed) → decoded bytes ≡ packet → Told e bytes (received e (with_packet e bytes packet))
  packet-told (Ok p) same = sum-told p same (checked e.config.pseudo_in bytes) refl
  packet-told (Err fault) same = dropped-told (why.Malformed fault) same

  wide-told : Told e bytes (receives e bytes)
  unfolding receives
  wide-told = packet-told (decoded bytes) refl

-- of the definition
pub receives-told : (o : EndState) (bytes : List ℕ) → IsProper o → Told o bytes (receives o bytes)
receives-told o bytes proper =
    subst (λ (x : EndState). Told x bytes (receives x bytes)) (sym (widened o proper)) (wide-told o bytes (wide-proper o proper))

-- of a step that is the definition's
pub told_of_step : (e : EndState) (bytes : List ℕ) (step : Step Outcome) → IsProper e → step ≡ receives e bytes → Told e bytes step
told_of_step e bytes step proper same = subst (Told e bytes) (sym same) (receives-told e bytes proper)
