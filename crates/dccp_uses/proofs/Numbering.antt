-- The numbers that a report is read for, one after another.
use Rattle.std.proofs.Common.{◌≡◌, refl, sym, subst, ap, ◌∙◌, ℕ, ◌+◌, ◌-◌, ◌<◌, ◌≤◌, suc, Bool, true, false, cond, ◌&&◌, ◌||◌, List, [], ◌∷◌, count_by, Option, Some, None, Result, Ok, Err, arith}
use Rattle.std.specs.List.{concat, list_any}
use Rattle.std.proofs.Math.Bool.{or_assoc}
use Rattle.std.proofs.lemmas.List.Sums.{sum_by-cons}
use Rattle.ack_vectors.specs.Coding.{states_down}
use Rattle.congestion_trait.specs.Flight.{is_past}
use Rattle.congestion_trait.specs.Walk.{one_if}
use Rattle.data_dropped.specs.Drops.{code_at}
use Rattle.data_dropped.specs.Reports.{drop_options}
use Rattle.dccp_options.specs.Grammar.{options_of}
use Rattle.dccp_options.specs.Vectors.{VectorReport, joined_report}
use Rattle.dccp_packets.specs.Grammar.{Parts, decoded, packet_type}
use Rattle.dccp_packets.specs.Kinds.{is_data}
use Rattle.dccp_packets.specs.declared.reading.Malformed.{Malformed}
use Rattle.seq_circle.specs.Circle.{down}
use Rattle.dccp_uses.specs.DropRecord.{all_recorded, packet_recorded, record_after, report_recorded}
use Rattle.dccp_uses.specs.Notice.{drops_told, is_as_marked, is_code, new_reach, no_drops, drops_with_code}
use Rattle.dccp_uses.specs.declared.notice.Drops.{Drops}
use Rattle.dccp_uses.specs.declared.reader.Reader.{Reader}

-- this many numbers from one down
abbrev pub numbers_down : ℕ → ℕ → List ℕ
numbers_down left n = states_down (λ (m : ℕ). m) left n

pub one_more : (left n : ℕ) → 0 < left → numbers_down left n ≡ n ∷ numbers_down (left - 1) (down n 1)
one_more left n some =
    let back : suc (left - 1) ≡ left = omega (arith, some) in
    subst (λ (k : ℕ). numbers_down k n ≡ n ∷ numbers_down (left - 1) (down n 1)) back refl

-- what is counted already, and what is still to be counted, add up to the whole
pub record IsCounted (whole : Drops) (mark : Option ℕ) (code : ℕ → Option ℕ) (drops : Drops) (left n : ℕ) : Type 0 where
  pub full : drops.full + count_by (λ (m : ℕ). is_code 2 (code m)) (numbers_down left n) ≡ whole.full
  pub refused : (drops.refused || list_any (λ (m : ℕ). is_code 0 (code m)) (numbers_down left n)) ≡ whole.refused
  pub stopped : (drops.stopped || list_any (λ (m : ℕ). is_code 1 (code m)) (numbers_down left n)) ≡ whole.stopped
  pub marked : (drops.marked || list_any (λ (m : ℕ). is_past mark m && is_as_marked (code m)) (numbers_down left n)) ≡ whole.marked
  pub few : drops.full + left < 2049

counted-by : (b : Bool) (so-far rest whole : ℕ) → so-far + (cond b 1 0 + rest) ≡ whole → so-far + one_if b + rest ≡ whole
counted-by true so-far rest whole it = omega (arith, it)
counted-by false so-far rest whole it = omega (arith, it)

few-by : (b : Bool) (so-far left : ℕ) → 0 < left → so-far + left < 2049 → so-far + one_if b + (left - 1) < 2049
few-by true so-far left some it = omega (arith, some, it)
few-by false so-far left some it = omega (arith, some, it)

any-by : (q : ℕ → Bool) (so-far : Bool) (n : ℕ) (rest : List ℕ) (whole : Bool) → (so-far || list_any q (n ∷ rest)) ≡ whole
    → ((so-far || q n) || list_any q rest) ≡ whole
any-by q so-far n rest whole it = or_assoc so-far (q n) (list_any q rest) ∙ it

pub counted_one_more : (whole : Drops) (mark : Option ℕ) (code : ℕ → Option ℕ) (drops : Drops) (left n : ℕ) → 0 < left → IsCounted whole mark code drops left n
    → IsCounted whole mark code (drops_with_code drops (is_past mark n) (code n)) (left - 1) (down n 1)
counted_one_more whole mark code drops left n some it =
    let rest : List ℕ = numbers_down (left - 1) (down n 1) in
    let step : numbers_down left n ≡ n ∷ rest = one_more left n some in
    let whole-full : drops.full + count_by (λ (m : ℕ). is_code 2 (code m)) (n ∷ rest) ≡ whole.full =
    subst (λ (xs : List ℕ). drops.full + count_by (λ (m : ℕ). is_code 2 (code m)) xs ≡ whole.full) step it.full in
    let full : drops.full + (cond (is_code 2 (code n)) 1 0 + count_by (λ (m : ℕ). is_code 2 (code m)) rest) ≡ whole.full =
    ap (λ (k : ℕ). drops.full + k) (sym (sum_by-cons (λ (m : ℕ). cond (is_code 2 (code m)) 1 0) n rest)) ∙ whole-full in
    let refused = subst (λ (xs : List ℕ). (drops.refused || list_any (λ (m : ℕ). is_code 0 (code m)) xs) ≡ whole.refused) step it.refused in
    let stopped = subst (λ (xs : List ℕ). (drops.stopped || list_any (λ (m : ℕ). is_code 1 (code m)) xs) ≡ whole.stopped) step it.stopped in
    let marked =
    subst (λ (xs : List ℕ). (drops.marked || list_any (λ (m : ℕ). is_past mark m && is_as_marked (code m)) xs) ≡ whole.marked) step it.marked in
    record {
      full = counted-by (is_code 2 (code n)) drops.full (count_by (λ (m : ℕ). is_code 2 (code m)) rest) whole.full full;
      refused = any-by (λ (m : ℕ). is_code 0 (code m)) drops.refused n rest whole.refused refused;
      stopped = any-by (λ (m : ℕ). is_code 1 (code m)) drops.stopped n rest whole.stopped stopped;
      marked = any-by (λ (m : ℕ). is_past mark m && is_as_marked (code m)) drops.marked n rest whole.marked marked;
      few = few-by (is_code 2 (code n)) drops.full left some it.few;
    }

module _ (reader : Reader) (report : VectorReport) where
  -- nothing is counted yet
  abbrev IsCountedThere : Drops → ℕ → ℕ → Type 0
  IsCountedThere drops left n = IsCounted (drops_told reader report) reader.mark (code_at report.ack report.bytes) drops left n

  counted-first : (few : new_reach reader.counted report.ack ≤ 2048) → IsCountedThere no_drops (new_reach reader.counted report.ack) report.ack
  counted-first few = record { full = omega arith; refused = refl; stopped = refl; marked = refl; few = omega (arith, few) }

  pub counted_none : (drops : Drops) (left ack : ℕ) → drops ≡ no_drops → left ≡ new_reach reader.counted ack → report.ack ≡ ack → left ≤ 2048
      → IsCountedThere drops left ack
  counted_none drops left ack none is same few =
      let there : left ≡ new_reach reader.counted report.ack = is ∙ ap (new_reach reader.counted) (sym same) in
      subst (λ (d : Drops). IsCountedThere d left ack) (sym none)
      (subst (λ (a : ℕ). IsCountedThere no_drops left a) same
      (subst (λ (k : ℕ). IsCountedThere no_drops k report.ack) (sym there) (counted-first (subst (λ (k : ℕ). k ≤ 2048) there few))))

-- nothing is recorded of a report that reaches no new number
module _ {R : Type 0} (one : ℕ → ℕ → R → R) (counted : Option ℕ) (ack : ℕ) (drops : R) (none : new_reach counted ack ≡ 0) where
  nothing-told : (found : List (List ℕ)) → report_recorded one counted (joined_report ack found) drops ≡ drops
  nothing-told [] = refl
  nothing-told (body ∷ rest) = ap (λ (k : ℕ). all_recorded one (code_at ack (concat (body ∷ rest))) (numbers_down k ack) drops) none

  nothing-read : (read : Result Parts Malformed) → packet_recorded one counted ack read drops ≡ drops
  nothing-read (Ok packet) = nothing-told (drop_options (options_of packet.options (is_data (packet_type packet.header.kind))))
  nothing-read (Err fault) = refl

  pub nothing_new : (bytes : List ℕ) → record_after one counted (Some ack) bytes drops ≡ drops
  nothing_new bytes = nothing-read (decoded bytes)
