-- What an end makes of a packet does not depend on the options that say nothing to it, nor on where its data lie.
use Rattle.std.proofs.Common.{◌≡◌, refl, sym, ap, ◌∙◌, subst, ℕ, ◌+◌, ◌-◌, ◌==◌, nat_le, ◌&&◌, Bool, true, false, List, [], ◌∷◌, ◌++◌, length, Option, Some, None, Result, Ok, Err, inl, inr, if◌then◌else◌, All, arith}
use Rattle.std.proofs.lemmas.List.Elements.{All-head, All-tail}
use Rattle.congestion_trait.specs.Calls.{Call}
use Rattle.data_dropped.specs.Inbox.{InboxState}
use Rattle.data_dropped.specs.Telling.{IsPassedOver, TellsItsDrops, options_in_packet}
use Rattle.dccp_endpoint.specs.Congesting.{calls_for, handing, report_calls, reported_from, start_calls}
use Rattle.dccp_endpoint.specs.End.{EndState, value_in, with_rows}
use Rattle.dccp_endpoint.specs.Faults.{counts}
use Rattle.dccp_endpoint.specs.Heeding.{DueConfirm, ReadingState, heeds, heeds_entry, heeds_item, heeds_then, is_of_negotiation, unheeded}
use Rattle.dccp_endpoint.specs.Incoming.{Incoming, incoming, is_newest}
use Rattle.dccp_endpoint.specs.Receiving.{Course, Goes, Leaves, accepts_request, accounted, acknowledges, answers, arrives, by_ports, by_sum, by_verdict, checks_numbers, ends_as, ends_by_reset, expects, heeded, is_other_service, is_own_service, is_unexpected, acknowledges_in_window, leaves, moved_to, moves, needs_ack, opens_connection, processes, raises, reads_options, is_of_connection, received, receives, replies, serves, takes, takes_answer, the_steps, through, with_own_number, with_packet}
use Rattle.dccp_endpoint.specs.Reporting.{counts_data, delivered_if, delivers}
use Rattle.dccp_endpoint.specs.Steps.{Step, idle, with_calls}
use Rattle.dccp_endpoint.specs.declared.exit.Exit.{Exit}
use Rattle.dccp_endpoint.specs.declared.exit.Exit.TheVariants as exits
use Rattle.dccp_options.specs.Grammar.{Entry}
use Rattle.dccp_options.specs.Kinds.{data_dropped, is_understood, slow_receiver}
use Rattle.dccp_options.specs.Vectors.{ack_vectors, joined_report, vector_in}
use Rattle.dccp_options.specs.declared.option.OptFault.{OptFault}
use Rattle.dccp_packets.specs.Forms.{ack_near}
use Rattle.dccp_packets.specs.Grammar.{Parts, packet_type}
use Rattle.dccp_packets.specs.Kinds.{reset_code, service_of}
use Rattle.dccp_packets.specs.Outgoing.{Outgoing}
use Rattle.dccp_packets.specs.declared.header.Kind.{Kind}
use Rattle.dccp_packets.specs.declared.header.Number.{Number}
use Rattle.dccp_packets.specs.declared.header.PacketType.{PacketType}
use Rattle.dccp_packets.specs.declared.header.PacketType.TheVariants as types
use Rattle.dccp_packets.specs.declared.reading.Malformed.{Malformed}
use Rattle.dccp_states.specs.Entrance.{gate}
use Rattle.dccp_states.specs.Phases.{after}
use Rattle.dccp_states.specs.declared.entrance.Entrance.{Entrance}
use Rattle.dccp_states.specs.declared.entrance.Entrance.TheVariants as entrance
use Rattle.dccp_states.specs.declared.outcome.Fault.{Fault}
use Rattle.dccp_states.specs.declared.outcome.Outcome.{Outcome}
use Rattle.dccp_states.specs.declared.outcome.Outcome.TheVariants.{Took}
use Rattle.dccp_states.specs.declared.outcome.Why.{Why}
use Rattle.dccp_states.specs.declared.phase.Phase.{Phase}
use Rattle.dccp_states.specs.declared.reply.Reply.{Reply}
use Rattle.dccp_states.specs.declared.reply.Reply.TheVariants as reply
use Rattle.dccp_sum.specs.declared.packet_sum.SumFault.{SumFault}
use Rattle.feature_lists.specs.declared.features.Feature.TheVariants.{AckRatio, Ccid}
use Rattle.feature_lists.specs.declared.features.Place.TheVariants.{Here}
use Rattle.run_list.specs.MarkedSet.{answer_to}
use Rattle.run_list.specs.declared.answers.Marked.{Marked}
use Rattle.validity_windows.specs.Verdict.{verdict}
use Rattle.validity_windows.specs.declared.verdict.Verdict.{Verdict}
use Rattle.validity_windows.specs.declared.verdict.Verdict.TheVariants as verdicts
use Rattle.two_inboxes.specs.Alike.{IsSameStep, LongerFramesAreTakenAlike, without_place}

abbrev Listed : Type 0
Listed = List (Result Entry OptFault)

-- options that say nothing, after others

fits-drops : (size : ℕ) → nat_le 2 (size + 2) ≡ true
fits-drops size = grind arith

drops-understood : (size : ℕ) → is_understood data_dropped size ≡ true
drops-understood size = rw (fits-drops size) refl

silent-entry : (count : Bool) (ack : Option ℕ) (h : ReadingState) (entry : Entry) → is_understood entry.kind (length entry.body) ≡ true
    → is_of_negotiation entry.kind ≡ false → heeds_entry count ack h entry ≡ Ok h
silent-entry true ack h entry understood others = rw understood (rw others refl)
silent-entry false ack h entry understood others = rw understood refl

passed-by : (count : Bool) (ack : Option ℕ) (h : ReadingState) (item : Result Entry OptFault) → IsPassedOver item → heeds_item count ack h item ≡ Ok h
passed-by count ack h (Ok entry) (inl dropped) =
    silent-entry count ack h entry (ap (λ (kind : ℕ). is_understood kind (length entry.body)) dropped ∙ drops-understood (length entry.body))
    (ap is_of_negotiation dropped)
passed-by count ack h (Ok entry) (inr slow) =
    silent-entry count ack h entry
    (ap (λ (kind : ℕ). is_understood kind (length entry.body)) slow.0 ∙ ap (λ (body : List ℕ). is_understood slow_receiver (length body)) slow.1)
    (ap is_of_negotiation slow.0)
passed-by count ack h (Err fault) none = absurd none

all-passed : (count : Bool) (ack : Option ℕ) (h : ReadingState) (more : Listed) → All IsPassedOver more → heeds count ack h more ≡ Ok h
all-passed count ack h [] passed = refl
all-passed count ack h (item ∷ more) passed =
    ap (λ (r : Result ReadingState Fault). heeds_then r (λ next. heeds count ack next more)) (passed-by count ack h item (All-head IsPassedOver item more passed))
    ∙ all-passed count ack h more (All-tail IsPassedOver item more passed)

module _ (count : Bool) (ack : Option ℕ) (more : Listed) (passed : All IsPassedOver more) where
  heeds-then : (rest : Listed) (r : Result ReadingState Fault)
      → ((h : ReadingState) → heeds count ack h (rest ++ more) ≡ heeds count ack h rest)
      → heeds_then r (λ next. heeds count ack next (rest ++ more)) ≡ heeds_then r (λ next. heeds count ack next rest)
  heeds-then rest (Ok h) same = same h
  heeds-then rest (Err fault) same = refl

  heeds-after : (h : ReadingState) (front : Listed) → heeds count ack h (front ++ more) ≡ heeds count ack h front
  heeds-after h [] = all-passed count ack h more passed
  heeds-after h (item ∷ rest) = heeds-then rest (heeds_item count ack h item) (λ next. heeds-after next rest)

no-vector : (item : Result Entry OptFault) → IsPassedOver item → vector_in item ≡ []
no-vector (Ok entry) (inl dropped) = rw dropped refl
no-vector (Ok entry) (inr slow) = rw slow.0 refl
no-vector (Err fault) none = refl

no-vectors : (more : Listed) → All IsPassedOver more → ack_vectors more ≡ []
no-vectors [] passed = refl
no-vectors (item ∷ more) passed =
    ap (λ (front : List (List ℕ)). front ++ ack_vectors more) (no-vector item (All-head IsPassedOver item more passed))
    ∙ no-vectors more (All-tail IsPassedOver item more passed)

pub vectors-after : (front more : Listed) → All IsPassedOver more → ack_vectors (front ++ more) ≡ ack_vectors front
vectors-after [] more passed = no-vectors more passed
vectors-after (item ∷ front) more passed = ap (λ (rest : List (List ℕ)). vector_in item ++ rest) (vectors-after front more passed)

reports-after : (ack : Option ℕ) (front more : Listed) (ratio : ℕ) → All IsPassedOver more
    → report_calls ack (front ++ more) ratio ≡ report_calls ack front ratio
reports-after None front more ratio passed = refl
reports-after (Some ack) front more ratio passed =
    ap (λ (vectors : List (List ℕ)). handing (joined_report ack vectors) ratio) (vectors-after front more passed)

-- the steps 2 to 7 of a packet with other options, and data elsewhere

abbrev AreAlike : List (EndState → Course) → List (EndState → Course) → Type 0
AreAlike [] [] = Unit {0}
AreAlike [] (g ∷ gs) = ⊥
AreAlike (f ∷ fs) [] = ⊥
AreAlike (f ∷ fs) (g ∷ gs) = ((x : EndState) → f x ≡ g x) × AreAlike fs gs

through-alike : (c : Course) (fs gs : List (EndState → Course)) → AreAlike fs gs → through c fs ≡ through c gs
through-alike (Leaves x exit) fs gs alike = refl
through-alike (Goes x) [] [] alike = refl
through-alike (Goes x) [] (g ∷ gs) alike = absurd alike
through-alike (Goes x) (f ∷ fs) [] alike = absurd alike
through-alike (Goes x) (f ∷ fs) (g ∷ gs) alike = ap (λ (c : Course). through c fs) (alike.0 x) ∙ through-alike (g x) fs gs alike.1

module _ (a : Incoming) (options : Listed) (place : ℕ × ℕ) where
  abbrev other : Incoming
  other = record a { options = options; data_place = place }

  opens-same : (x : EndState) (own : Bool) → opens_connection other x own ≡ opens_connection a x own
  opens-same x true = refl
  opens-same x false = refl

  accepts-same : (g : Entrance) (x : EndState) → accepts_request other g x ≡ accepts_request a g x
  accepts-same entrance.Accept x = opens-same x (is_own_service x a.service)
  accepts-same _ x = refl

  answers-same : (x : EndState) (kind : PacketType) (within : Bool) → answers other x kind within ≡ answers a x kind within
  answers-same x types.Request true = refl
  answers-same x types.Request false = refl
  answers-same x _ true = refl
  answers-same x _ false = refl

  takes-same : (g : Entrance) (x : EndState) → takes_answer other g x ≡ takes_answer a g x
  takes-same entrance.InRequest x = answers-same x a.kind (acknowledges_in_window x a)
  takes-same _ x = refl

  raises-same : (x : EndState) (kind : PacketType) → raises other x kind ≡ raises a x kind
  raises-same x types.Request = refl
  raises-same x _ = refl

  verdict-same : (x : EndState) (v : Verdict) → by_verdict other x v ≡ by_verdict a x v
  verdict-same x verdicts.Valid = raises-same x a.kind
  verdict-same x (verdicts.SyncFor number) = refl
  verdict-same x verdicts.Drop = refl

  checks-same : (g : Entrance) (x : EndState) → checks_numbers other g x ≡ checks_numbers a g x
  checks-same entrance.Check x = verdict-same x (verdict x.marks a.kind a.number a.ack)
  checks-same _ x = refl

  ends-same : (kind : PacketType) (x : EndState) → ends_by_reset other kind x ≡ ends_by_reset a kind x
  ends-same types.Request x = refl
  ends-same _ x = refl

  serves-same : (x : EndState) (others : Bool) → serves other x others ≡ serves a x others
  serves-same x true = refl
  serves-same x false = refl

  expects-same : (x : EndState) (unexpected : Bool) → expects other x unexpected ≡ expects a x unexpected
  expects-same x true = refl
  expects-same x false = serves-same x (is_other_service x x.phase a.kind a.service)

  steps-same : (g : Entrance) → AreAlike (the_steps other g) (the_steps a g)
  steps-same g =
      (λ x. refl, (λ x. accepts-same g x, (λ x. takes-same g x, (λ x. checks-same g x, (λ x. ends-same a.kind x, (λ x. expects-same x (is_unexpected x a), tt))))))

  -- a packet that leaves before its options are read
  leaves-same : (x : EndState) (exit : Exit) → leaves x other exit ≡ leaves x a exit
  leaves-same x (exits.Drop why) = refl
  leaves-same x _ = refl

  same-step : (one two : Step Outcome) → one ≡ two → IsSameStep one two
  same-step one two is =
      record {
        same_end = ap (λ (s : Step Outcome). s.after) is;
        same_frame = ap (λ (s : Step Outcome). s.frame) is;
        same_calls = ap (λ (s : Step Outcome). s.calls) is;
        same_outcome = ap (λ (s : Step Outcome). without_place s.answer) is;
      }

  -- what the table sends, whatever the outcome says about data
  acks-same : (e : EndState) (confirms : List DueConfirm) (one two : Outcome) → without_place one ≡ without_place two → (needs : Bool)
      → IsSameStep (if needs then acknowledges e confirms one else idle e one) (if needs then acknowledges e confirms two else idle e two)
  acks-same e confirms one two same true = record { same_end = refl; same_frame = refl; same_calls = refl; same_outcome = same }
  acks-same e confirms one two same false = record { same_end = refl; same_frame = refl; same_calls = refl; same_outcome = same }

  replies-same : (e : EndState) (confirms : List DueConfirm) (one two : Outcome) (r : Reply) → without_place one ≡ without_place two
      → IsSameStep (replies e other confirms one r) (replies e a confirms two r)
  replies-same e confirms one two reply.Nothing same = acks-same e confirms one two same (needs_ack e.phase confirms e.rows e.unacked)
  replies-same e confirms one two reply.ResetClosed same = record { same_end = refl; same_frame = refl; same_calls = refl; same_outcome = refl }
  replies-same e confirms one two _ same = record { same_end = refl; same_frame = refl; same_calls = refl; same_outcome = same }

  delivered-same : (one two : ℕ × ℕ) (new : Bool) → without_place (Took (delivered_if new one)) ≡ without_place (Took (delivered_if new two))
  delivered-same one two true = refl
  delivered-same one two false = refl

  moves-same : (e : EndState) (confirms : List DueConfirm) (mark : Marked) (to : Phase × Reply) → IsSameStep (moves e other confirms mark to) (moves e a confirms mark to)
  moves-same e confirms mark to =
      let new : Bool = delivers a.kind to.0 mark in
      replies-same (counts_data (moved_to e to.0 a.number) new) confirms (Took (delivered_if new place)) (Took (delivered_if new a.data_place)) to.1
      (delivered-same place a.data_place new)

  called-same : (calls : List Call) (one two : Step Outcome) → IsSameStep one two → IsSameStep (with_calls calls one) (with_calls calls two)
  called-same calls one two same =
      record { same_end = same.same_end; same_frame = same.same_frame; same_calls = refl; same_outcome = same.same_outcome }

module _ (a : Incoming) (more : Listed) (passed : All IsPassedOver more) (place : ℕ × ℕ) where
  abbrev longer : Incoming
  longer = record a { options = a.options ++ more; data_place = place }

  heeded-same : (x : EndState) (r : Result ReadingState Fault) → IsSameStep (heeded x longer r) (heeded x a r)
  heeded-same x (Ok h) =
      let calls : calls_for longer x.rows h.rows ≡ calls_for a x.rows h.rows =
      ap (λ (reports : List Call). reports ++ start_calls (value_in x.rows Ccid Here) (value_in h.rows Ccid Here))
      (reports-after (reported_from a.kind a.ack) a.options more (value_in h.rows AckRatio Here) passed)
      in
      let e : EndState = with_rows x h.rows in
      subst (λ (calls : List Call). IsSameStep (with_calls calls (processes e longer h.confirms)) (heeded x a (Ok h))) (sym calls)
      (called-same a (a.options ++ more) place (calls_for a x.rows h.rows) (processes e longer h.confirms) (processes e a h.confirms)
      (moves-same a (a.options ++ more) place (accounted e a) h.confirms (answer_to e.received.set a.number) (after e.phase a.kind)))
  heeded-same x (Err fault) = same-step a (a.options ++ more) place (leaves x longer (exits.Shut fault)) (leaves x a (exits.Shut fault)) (leaves-same a (a.options ++ more) place x (exits.Shut fault))

  reads-same : (x : EndState) → reads_options x longer ≡ reads_options x a
  reads-same x = heeds-after (a.newest && counts x.phase a.kind) a.ack more passed (unheeded x.rows) a.options

  course-same : (c : Course) → IsSameStep (ends_as longer c) (ends_as a c)
  course-same (Goes x) = subst (λ (r : Result ReadingState Fault). IsSameStep (heeded x longer r) (heeded x a (reads_options x a))) (sym (reads-same x)) (heeded-same x (reads_options x a))
  course-same (Leaves x exit) = same-step a (a.options ++ more) place (leaves x longer exit) (leaves x a exit) (leaves-same a (a.options ++ more) place x exit)

  pub taken-same : (e : EndState) → IsSameStep (takes e longer) (takes e a)
  taken-same e =
      subst (λ (c : Course). IsSameStep (ends_as longer c) (takes e a))
      (sym (through-alike (Goes e) (the_steps longer (gate e.phase a.kind)) (the_steps a (gate e.phase a.kind)) (steps-same a (a.options ++ more) place (gate e.phase a.kind))))
      (course-same (through (Goes e) (the_steps a (gate e.phase a.kind))))

-- Step 1 lets both pass, or drops both for the same reason.
module _ (e : EndState) (held : InboxState) (own frame : Outgoing) (tells : TellsItsDrops e.config.pseudo_in held own frame) where
  abbrev longer-incoming : ℕ → Incoming
  longer-incoming number =
      record (incoming e own.bytes tells.before number)
      { options = options_in_packet tells.before ++ tells.more; data_place = (length frame.bytes - length tells.packet.payload, length frame.bytes) }

  header-same : by_sum e tells.packet.header (Ok tt) ≡ by_sum e tells.before.header (Ok tt)
  header-same =
      ap (λ (n : Number). by_ports e n (is_of_connection e tells.packet.header)) tells.same_number
      ∙ ap (λ (p : ℕ). by_ports e tells.before.header.number ((p == e.config.peer_port) && (tells.packet.header.to == e.config.own_port))) tells.same_from
      ∙ ap (λ (p : ℕ). by_ports e tells.before.header.number ((tells.before.header.from == e.config.peer_port) && (p == e.config.own_port))) tells.same_to

  incoming-same : (number : ℕ) → incoming e frame.bytes tells.packet number ≡ longer-incoming number
  incoming-same number =
      ap
      (λ (k : Kind). record {
        kind = packet_type k;
        number = number;
        ack = ack_near e.marks.gss k;
        service = service_of k;
        code = reset_code k;
        options = options_in_packet tells.packet;
        data_place = (length frame.bytes - length tells.packet.payload, length frame.bytes);
        newest = is_newest e number;
      }) tells.same_kind
      ∙ ap
      (λ (o : Listed). record (incoming e own.bytes tells.before number)
      { options = o; data_place = (length frame.bytes - length tells.packet.payload, length frame.bytes) }) tells.following

  by-number : (r : Result ℕ Why) → IsSameStep (received e (with_own_number e frame.bytes tells.packet r)) (received e (with_own_number e own.bytes tells.before r))
  by-number (Err why) = record { same_end = refl; same_frame = refl; same_calls = refl; same_outcome = refl }
  by-number (Ok number) =
      subst (λ (a : Incoming). IsSameStep (takes e a) (takes e (incoming e own.bytes tells.before number))) (sym (incoming-same number))
      (taken-same (incoming e own.bytes tells.before number) tells.more tells.are_passed_over
      (length frame.bytes - length tells.packet.payload, length frame.bytes) e)

  own-read : arrives e own.bytes ≡ with_own_number e own.bytes tells.before (by_sum e tells.before.header (Ok tt))
  own-read =
      ap (λ (r : Result Parts Malformed). with_packet e own.bytes r) tells.was_packet
      ∙ ap (λ (r : Result (Unit {0}) SumFault). with_own_number e own.bytes tells.before (by_sum e tells.before.header r)) tells.was_accepted

  longer-read : arrives e frame.bytes ≡ with_own_number e frame.bytes tells.packet (by_sum e tells.before.header (Ok tt))
  longer-read =
      ap (λ (r : Result Parts Malformed). with_packet e frame.bytes r) tells.is_packet
      ∙ ap (λ (r : Result (Unit {0}) SumFault). with_own_number e frame.bytes tells.packet (by_sum e tells.packet.header r)) tells.is_accepted
      ∙ ap (λ (r : Result ℕ Why). with_own_number e frame.bytes tells.packet r) header-same

  pub longer_taken_alike : IsSameStep (receives e frame.bytes) (receives e own.bytes)
  unfolding receives
  longer_taken_alike =
      subst (λ (r : Result Incoming Why). IsSameStep (received e r) (receives e own.bytes)) (sym longer-read)
      (subst (λ (r : Result Incoming Why). IsSameStep (received e (with_own_number e frame.bytes tells.packet (by_sum e tells.before.header (Ok tt)))) (received e r))
      (sym own-read) (by-number (by_sum e tells.before.header (Ok tt))))

pub longer_frames_are_taken_alike : LongerFramesAreTakenAlike
longer_frames_are_taken_alike e held own frame tells = longer_taken_alike e held own frame tells
