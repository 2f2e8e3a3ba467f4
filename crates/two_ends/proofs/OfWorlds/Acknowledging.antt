-- Once a side has numbered a frame, GAR is the number of one of these.
use Rattle.std.proofs.Common.{◌≡◌, ◌≢◌, inl, inr, refl, ap, sym, ◌∙◌, subst, ℕ, ◌+◌, ◌-◌, ◌^◌, ◌<◌, ◌≤◌, Option, Some, true, false, Bool, ◌&&◌, if◌then◌else◌, length, length-append, arith}
use Rattle.std.proofs.lemmas.Bool.Decides.{nat_tests}
use Rattle.seq_circle.specs.Circle.{IsWithin, residue, distance, is_within}
use Rattle.validity_windows.specs.Verdict.{verdict, is_ack_within}
use Rattle.validity_windows.specs.Windows.{ack_low, ack_high}
use Rattle.validity_windows.proofs.Counts.{ack-count, acked-count}
use Rattle.validity_windows.specs.declared.marks.Marks.{Marks}
use Rattle.validity_windows.specs.declared.verdict.Verdict.{Verdict}
use Rattle.validity_windows.specs.declared.verdict.Verdict.TheVariants as verdicts
use Rattle.dccp_packets.specs.declared.header.PacketType.{PacketType}
use Rattle.dccp_packets.specs.declared.header.PacketType.TheVariants as types
use Rattle.dccp_endpoint.specs.Causes.{Came, IsAcknowledging, LeavesIt, ByWindow, ByVerdict, HasNext}
use Rattle.dccp_endpoint.specs.Effects.{Transmission, Next, end_after, gar_by}
use Rattle.dccp_endpoint.specs.End.{floor_of, is_begun}
use Rattle.dccp_endpoint.specs.Incoming.{Incoming}
use Rattle.dccp_endpoint.proofs.Phases.{answer-so, begins, check-live, live-begun}
use Rattle.two_ends.specs.Numbered.{IsNumberOf}
use Rattle.two_ends.proofs.OfWorlds.Acting.{Act, Keeps, Party, acted, config_of, drafted_by, end_of, logged_by, processed_by, longer}
use Rattle.two_ends.proofs.OfWorlds.Numbering.{IsOrdered, came-logged, few-logged, more-sent}
use Rattle.two_ends.proofs.OfWorlds.ReadBack.{FitsAck, from-log-fits}

-- The number is that of one of its frames; before the first frame that is the number of the first.
abbrev pub IsOwn : Party → ℕ → Type 0
IsOwn x number = IsNumberOf (config_of x).iss (1 + (length x.log - 1)) number

pub record KnowsAcknowledged (x : Party) : Type 0 where
  pub gar : IsOwn x (end_of x).marks.gar
  pub begun : is_begun (end_of x).phase ≡ true → 1 ≤ length x.log

place-again : (iss ack : ℕ) → iss < 2 ^ 48 → ack < 2 ^ 48 → ack ≡ residue (iss + distance iss ack)
place-again iss ack fits small = omega arith

is-within : (n low high : ℕ) → is_within n low high ≡ true → IsWithin n low high
is-within n low high within = grind (arith, nat_tests)

-- both tests of a valid packet were passed
second-passed : (x y : Bool) (other : Verdict) → (if x && y then verdicts.Valid else other) ≡ verdicts.Valid → other ≢ verdicts.Valid → y ≡ true
second-passed true true other valid fails = refl
second-passed true false other valid fails = absurd (fails valid)
second-passed false y other valid fails = absurd (fails valid)

module _ (x : Party) (o : IsOrdered x) (k : KnowsAcknowledged x) (some : 1 ≤ length x.log) where
  abbrev m : Marks
  m = (end_of x).marks

  abbrev first : ℕ
  first = (config_of x).iss

  abbrev last : ℕ
  last = (config_of x).iss + (length x.log - 1)

  last-is : m.gss ≡ residue last
  last-is = o.greatest ∙ omega (arith, some)

  own-number : (ack low : ℕ) → ack < 2 ^ 48 → is_within ack low m.gss ≡ true
      → (IsWithin (residue (first + distance first ack)) low m.gss → first + distance first ack ≤ last) → IsOwn x ack
  own-number ack low small within below =
      let same : ack ≡ residue (first + distance first ack) = place-again first ack o.fits.iss small in
      let under : first + distance first ack ≤ last = below (subst (λ (n : ℕ). IsWithin n low m.gss) same (is-within ack low m.gss within)) in
      record { place = distance first ack; was_sent = omega (arith, under); same = same }

  window-sent : (ack : ℕ) → ack < 2 ^ 48 → is_ack_within (ack_low m) (ack_high m) (Some ack) ≡ true → IsOwn x ack
  window-sent ack small within =
      own-number ack (ack_low m) small within
      (λ inside.
      ((ack-count m first last (first + distance first ack) o.proper.widths (o.first ∙ omega (arith, o.fits.iss)) last-is
      (omega arith) (omega (arith, few-logged x o)) (omega arith) (omega arith)).0 inside).1)

  greatest-sent : (ack : ℕ) → ack < 2 ^ 48 → is_ack_within m.gar (ack_high m) (Some ack) ≡ true → IsOwn x ack
  greatest-sent ack small within =
      own-number ack m.gar small within
      (λ inside.
      ((acked-count m first (first + k.gar.place) last (first + distance first ack) k.gar.same last-is
      (omega arith) (omega (arith, k.gar.was_sent)) (omega (arith, few-logged x o)) (omega arith) (omega arith)).0 inside).1)

  valid-sent : (t : PacketType) (number ack : ℕ) → ack < 2 ^ 48 → verdict m t number (Some ack) ≡ verdicts.Valid → IsOwn x ack
  valid-sent types.CloseReq number ack small valid = greatest-sent ack small (second-passed _ _ (verdicts.SyncFor number) valid (λ is. cc is))
  valid-sent types.Close number ack small valid = greatest-sent ack small (second-passed _ _ (verdicts.SyncFor number) valid (λ is. cc is))
  valid-sent types.Reset number ack small valid = greatest-sent ack small (second-passed _ _ (verdicts.SyncFor m.gsr) valid (λ is. cc is))
  valid-sent types.Sync number ack small valid = window-sent ack small (second-passed _ _ verdicts.Drop valid (λ is. cc is))
  valid-sent types.SyncAck number ack small valid = window-sent ack small (second-passed _ _ verdicts.Drop valid (λ is. cc is))
  valid-sent _ number ack small valid = window-sent ack small (second-passed _ _ (verdicts.SyncFor number) valid (λ is. cc is))

  later-sent : (ack : ℕ) (test : Bool) → IsOwn x ack → IsOwn x (if test then ack else m.gar)
  later-sent ack true s = s
  later-sent ack false s = k.gar

-- where a packet goes out, the log has it
begun-by : (s : Transmission) (processed floor : ℕ) → HasNext s → 1 ≤ length (logged_by processed floor s)
begun-by (Next draft) processed floor next = omega arith
begun-by _ processed floor next = absurd next

module _ (act : Act) (own : IsOrdered act.side) (peer : IsOrdered act.peer) (k : KnowsAcknowledged act.side) where
  ack-small : (a : Incoming) (ack : ℕ) → Came (end_of act.side) act.given a → a.kind ≢ types.Reset → a.ack ≡ Some ack → ack < 2 ^ 48
  ack-small a ack came other is = subst FitsAck is (from-log-fits (config_of act.peer).iss act.peer.log a (came-logged act peer a came other))

  raised-by : (acknowledged : Option ℕ) → IsAcknowledging (end_of act.side) act.given acknowledged
      → IsOwn act.side (gar_by (end_of act.side).marks.gar acknowledged)
  raised-by _ LeavesIt = k.gar
  raised-by _ (ByWindow ack a came other is asked within) =
      let some : 1 ≤ length act.side.log = k.begun (ap is_begun (answer-so (end_of act.side).phase a.kind asked).0) in
      later-sent act.side own k some ack _
      (window-sent act.side own k some ack (ack-small a ack came other is)
      (ap (is_ack_within (ack_low (end_of act.side).marks) (ack_high (end_of act.side).marks)) (sym is) ∙ within))
  raised-by _ (ByVerdict ack a came other is asked valid) =
      let some : 1 ≤ length act.side.log = k.begun (live-begun (end_of act.side).phase (check-live (end_of act.side).phase a.kind asked)) in
      later-sent act.side own k some ack _
      (valid-sent act.side own k some a.kind a.number ack (ack-small a ack came other is)
      (ap (verdict (end_of act.side).marks a.kind a.number) (sym is) ∙ valid))

  acting : KnowsAcknowledged (acted act)
  acting =
      let more = length-append act.side.log (drafted_by act.side.half act.arrived act.effect) in
      let sent = begun-by act.effect.sending (length (processed_by act.side.half act.arrived act.effect)) (floor_of (end_after (end_of act.side) act.effect)) in
      record {
        gar = more-sent (config_of act.side).iss _ _ _ (omega (arith, longer act)) (raised-by act.effect.acknowledged act.because.acks);
        begun = λ begun. elim (act.because.moves.begun begun) [ inl before ↦ omega (arith, more, k.begun before) | inr next ↦ omega (arith, more, sent next) ];
      }

-- a fact of both sides after every schedule
pub acknowledging : Keeps (λ x y. IsOrdered x) (λ x y. KnowsAcknowledged x)
acknowledging =
    record {
      starts =
          λ own peer own_fits peer_fits.
          record {
            gar = record { place = 0; was_sent = omega arith; same = omega (arith, own_fits.iss) };
            begun = λ begun. cc ((begins own.role).not_begun, begun);
          };
      acts = λ act (own, others) (here, there). (acting act own others here, there);
    }
