-- What the calls that are due to a congestion control report and send.
use Rattle.std.proofs.Common.{◌≡◌, refl, ap, sym, ◌∙◌, ℕ, ◌^◌, ◌<◌, ◌==◌, ◌||◌, Bool, true, false, cond, if◌then◌else◌, List, [], ◌∷◌, ◌++◌, Option, Some, None, Result, arith}
use Rattle.std.proofs.lemmas.Bool.{eqb-true, or_right}
use Rattle.std.proofs.lemmas.Option.{same_Some}
use Rattle.std.specs.List.{concat, filter, list_any}
use Rattle.congestion_trait.specs.Calls.{Call, Sends, Starts, call_sends, tells}
use Rattle.dccp_options.specs.Grammar.{Entry}
use Rattle.dccp_options.specs.Vectors.{VectorReport, ack_vectors, is_received, joined_report, report_of, state_at}
use Rattle.dccp_options.specs.declared.option.OptFault.{OptFault}
use Rattle.dccp_packets.specs.declared.header.PacketType.{PacketType}
use Rattle.dccp_packets.specs.declared.header.PacketType.TheVariants as types
use Rattle.feature_lists.specs.declared.features.Feature.TheVariants.{AckRatio, Ccid}
use Rattle.feature_lists.specs.declared.features.Place.TheVariants.{Here}
use Rattle.feature_machine.specs.declared.row.Row.{Row}
use Rattle.dccp_endpoint.specs.Causes.{IsCalling, CallsNothing, CallsEarly, CallsFor, CallsSent, CallsTimeout, WasTaken}
use Rattle.dccp_endpoint.specs.Congesting.{calls_for, handing, report_calls, reported_from, start_calls}
use Rattle.dccp_endpoint.specs.Effects.{HeardNumber, Transmission}
use Rattle.dccp_endpoint.specs.End.{EndState, value_in}
use Rattle.dccp_endpoint.specs.Incoming.{Incoming}
use Rattle.dccp_endpoint.specs.Inputs.{Input}
use Rattle.dccp_endpoint.specs.Steps.{next_number}

or-first : (x y : Bool) → y ≡ false → (x || y) ≡ true → x ≡ true
or-first true y none is = refl
or-first false y none is = cc (none, is)

or-later : (x y z : Bool) → (y ≡ true → z ≡ true) → (x || y) ≡ true → (x || z) ≡ true
or-later true y z more is = refl
or-later false y z more is = more is

-- A call that is left was there.
pub any-left : (p left : Call → Bool) (calls : List Call) → list_any p (filter left calls) ≡ true → list_any p calls ≡ true
any-left p left [] is = is
any-left p left (call ∷ calls) is = by (left call) (any-left p left calls) is where
  by : (b : Bool) → (list_any p (filter left calls) ≡ true → list_any p calls ≡ true)
      → list_any p (cond b (call ∷ filter left calls) (filter left calls)) ≡ true → (p call || list_any p calls) ≡ true
  by true before kept = or-later (p call) (list_any p (filter left calls)) (list_any p calls) before kept
  by false before gone = or_right (p call) (list_any p calls) (before gone)

-- A start reports and sends nothing.
starts-tell : (n old new : ℕ) → list_any (tells n) (start_calls old new) ≡ false
starts-tell n old new = by (old == new) where
  by : (same : Bool) → list_any (tells n) (if same then [] else Starts new ∷ []) ≡ false
  by true = refl
  by false = refl

starts-send : (n old new : ℕ) → list_any (call_sends n) (start_calls old new) ≡ false
starts-send n old new = by (old == new) where
  by : (same : Bool) → list_any (call_sends n) (if same then [] else Starts new ∷ []) ≡ false
  by true = refl
  by false = refl

-- A report speaks of a number, by the Ack Vectors after this acknowledgement number.
pub record IsToldBy (ack : Option ℕ) (options : List (Result Entry OptFault)) (n : ℕ) : Type 0 where
  pub number : ℕ
  pub bytes : List ℕ
  pub acknowledges : ack ≡ Some number
  pub reports : report_of number options ≡ Some (record { ack = number; bytes = bytes })
  pub received : is_received (state_at number bytes n) ≡ true

joined-ack : (ack : ℕ) (vectors : List (List ℕ)) (report : VectorReport) → joined_report ack vectors ≡ Some report
    → report ≡ record { ack = ack; bytes = report.bytes }
joined-ack ack [] report is = cc is
joined-ack ack (vector ∷ others) report is =
    let same : ◌≡◌ {A = VectorReport} (record { ack = ack; bytes = concat (vector ∷ others) }) report = same_Some _ report is in
    sym same ∙ ap (λ (bytes : List ℕ). record { ack = ack; bytes = bytes }) (ap (λ (r : VectorReport). r.bytes) same)

handed-tells : (n number : ℕ) (options : List (Result Entry OptFault)) (ratio : ℕ) (rest : List Call) (report : Option VectorReport)
    → report_of number options ≡ report → list_any (tells n) rest ≡ false → list_any (tells n) (handing report ratio ++ rest) ≡ true
    → IsToldBy (Some number) options n
handed-tells n number options ratio rest None reads none is = cc (none, is)
handed-tells n number options ratio rest (Some report) reads none is =
    let whole : report ≡ record { ack = number; bytes = report.bytes } = joined-ack number (ack_vectors options) report reads in
    record {
      number = number;
      bytes = report.bytes;
      acknowledges = refl;
      reports = reads ∙ ap Some whole;
      received =
          sym (ap (λ (r : VectorReport). is_received (state_at r.ack r.bytes n)) whole)
          ∙ or-first (is_received (state_at report.ack report.bytes n)) (list_any (tells n) rest) none is;
    }

report-tells : (n : ℕ) (ack : Option ℕ) (options : List (Result Entry OptFault)) (ratio : ℕ) (rest : List Call) → list_any (tells n) rest ≡ false
    → list_any (tells n) (report_calls ack options ratio ++ rest) ≡ true → IsToldBy ack options n
report-tells n None options ratio rest none is = cc (none, is)
report-tells n (Some number) options ratio rest none is = handed-tells n number options ratio rest (report_of number options) refl none is

report-sends : (n : ℕ) (ack : Option ℕ) (options : List (Result Entry OptFault)) (ratio : ℕ) (rest : List Call) → list_any (call_sends n) rest ≡ false
    → list_any (call_sends n) (report_calls ack options ratio ++ rest) ≡ false
report-sends n None options ratio rest none = none
report-sends n (Some number) options ratio rest none = by (report_of number options) where
  by : (report : Option VectorReport) → list_any (call_sends n) (handing report ratio ++ rest) ≡ false
  by None = none
  by (Some report) = none

-- A packet reports by its own acknowledgement number.
told-from : (t : PacketType) (ack : Option ℕ) (options : List (Result Entry OptFault)) (n : ℕ) → IsToldBy (reported_from t ack) options n
    → IsToldBy ack options n
told-from types.Sync ack options n told = cc told.acknowledges
told-from _ ack options n told = told

for-tells : (a : Incoming) (old new : List Row) (n : ℕ) → list_any (tells n) (calls_for a old new) ≡ true → IsToldBy a.ack a.options n
for-tells a old new n is =
    told-from a.kind a.ack a.options n
    (report-tells n (reported_from a.kind a.ack) a.options (value_in new AckRatio Here) (start_calls (value_in old Ccid Here) (value_in new Ccid Here))
    (starts-tell n (value_in old Ccid Here) (value_in new Ccid Here)) is)

for-sends : (a : Incoming) (old new : List Row) (n : ℕ) → list_any (call_sends n) (calls_for a old new) ≡ false
for-sends a old new n =
    report-sends n (reported_from a.kind a.ack) a.options (value_in new AckRatio Here) (start_calls (value_in old Ccid Here) (value_in new Ccid Here))
    (starts-send n (value_in old Ccid Here) (value_in new Ccid Here))

next-fits : (e : EndState) → next_number e < 2 ^ 48
next-fits e = omega arith

next-sent : (e : EndState) (n : ℕ) → list_any (call_sends n) (Sends (next_number e) ∷ []) ≡ true → n < 2 ^ 48
next-sent e n is =
    let same : n ≡ next_number e = eqb-true n (next_number e) (or-first (n == next_number e) false refl is) in
    omega (arith, same, next-fits e)

module _ (e : EndState) (given : Input) (hearing : HeardNumber) (sending : Transmission) where
  -- What was told received, a packet told that was taken.
  pub record IsHeardOf (n : ℕ) : Type 0 where
    pub packet : Incoming
    pub taken : WasTaken e given hearing packet
    pub told : IsToldBy packet.ack packet.options n

  pub tells-so : (calls : List Call) → IsCalling e given hearing sending calls → (n : ℕ) → list_any (tells n) calls ≡ true → IsHeardOf n
  tells-so _ (CallsFor a h was heeded) n is = record { packet = a; taken = was; told = for-tells a e.rows h.rows n is }
  tells-so _ _ n is = cc is

  -- What is sent, has the next number.
  pub sends-so : (calls : List Call) → IsCalling e given hearing sending calls → (n : ℕ) → list_any (call_sends n) calls ≡ true → n < 2 ^ 48
  sends-so _ (CallsFor a h was heeded) n is = cc (for-sends a e.rows h.rows n, is)
  sends-so _ (CallsSent payload asked phase carries) n is = next-sent e n is
  sends-so _ (CallsEarly payload asked phase carries) n is = next-sent e n is
  sends-so _ _ n is = cc is
