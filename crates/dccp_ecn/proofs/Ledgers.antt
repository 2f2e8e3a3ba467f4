-- The nonces that a ledger keeps after packets were sent: those of the last 4,096.
use Rattle.std.proofs.Common.{◌≡◌, ℕ, ◌+◌, ◌-◌, ◌^◌, ◌<◌, ◌≤◌, Bool, List, [], ◌∷◌, ◌++◌, zero, suc, min, length, take, length-append, length-take, append_assoc, append-nil, refl, ap, sym, subst, ◌∙◌, arith, slice_get, inl, inr}
use Rattle.std.specs.Prelude.{Some, None, if◌then◌else◌}
use Rattle.std.proofs.lemmas.Bool.{cases_Bool, leb-false, leb-true}
use Rattle.std.proofs.lemmas.Option.{slice_get_past}
use Rattle.seq_circle.specs.Circle.{distance, down, residue}
use Rattle.dccp_ecn.specs.Ledger.{Ledger, ledger, nonce_kept, with_nonce_sent}
use Rattle.dccp_ecn.specs.Run.{is_old, ledger_by, ledger_from}

pub get-front : {X : Type 0} (front following : List X) (i : ℕ) → i < length front → slice_get (front ++ following) i ≡ slice_get front i
get-front [] following i h = absurd (omega arith)
get-front (x ∷ xs) following zero h = refl
get-front (x ∷ xs) following (suc i) h = get-front xs following i (omega arith)

get-pushed : {X : Type 0} (front : List X) (x : X) → slice_get (front ++ x ∷ []) (length front) ≡ Some x
get-pushed [] x = refl
get-pushed (y ∷ front) x = get-pushed front x

get-take : {X : Type 0} (count : ℕ) (xs : List X) (i : ℕ) → i < count → slice_get (take count xs) i ≡ slice_get xs i
get-take zero xs i h = absurd (omega arith)
get-take (suc count) [] i h = refl
get-take (suc count) (x ∷ xs) zero h = refl
get-take (suc count) (x ∷ xs) (suc i) h = get-take count xs i (omega arith)

-- the ledger has counted these packets, and keeps the nonces of the last of them, the newest first
pub record Keeps (sent : List Bool) (l : Ledger) : Type 0 where
  pub next : l.next ≡ residue (length sent + 1)
  pub size : length l.nonces ≡ min 4096 (length sent)
  pub last : (i : ℕ) → i < length l.nonces → slice_get l.nonces i ≡ slice_get sent (length sent - (i + 1))

keeps-more : (sent : List Bool) (l : Ledger) (nonce : Bool) → Keeps sent l → Keeps (sent ++ nonce ∷ []) (with_nonce_sent l nonce)
keeps-more sent l nonce k =
    let count : length (sent ++ nonce ∷ []) ≡ length sent + 1 = length-append sent (nonce ∷ []) in
    record {
      next = ap (λ n. residue (n + 1)) k.next ∙ omega arith;
      size = length-take 4096 (nonce ∷ l.nonces) ∙ omega (arith, k.size, count);
      last = last-more;
    }
  where
    last-more : (i : ℕ) → i < length (take 4096 (nonce ∷ l.nonces))
        → slice_get (take 4096 (nonce ∷ l.nonces)) i ≡ slice_get (sent ++ nonce ∷ []) (length (sent ++ nonce ∷ []) - (i + 1))
    last-more zero h =
        let newest : length (sent ++ nonce ∷ []) - 1 ≡ length sent = omega (arith, length-append sent (nonce ∷ [])) in
        sym (ap (λ i. slice_get (sent ++ nonce ∷ []) i) newest ∙ get-pushed sent nonce)
    last-more (suc i) h =
        let size : length (take 4096 (nonce ∷ l.nonces)) ≡ min 4096 (length l.nonces + 1) = length-take 4096 (nonce ∷ l.nonces) ∙ omega arith in
        let place : length (sent ++ nonce ∷ []) - (suc i + 1) ≡ length sent - (i + 1) = omega (arith, length-append sent (nonce ∷ [])) in
        get-take 4096 (nonce ∷ l.nonces) (suc i) (omega arith)
        ∙ k.last i (omega arith)
        ∙ sym (ap (λ j. slice_get (sent ++ nonce ∷ []) j) place ∙ get-front sent (nonce ∷ []) (length sent - (i + 1)) (omega (arith, k.size)))

keeps-from : (front rest : List Bool) (l : Ledger) → Keeps front l → Keeps (front ++ rest) (ledger_from l rest)
keeps-from front [] l k = rw (append-nil front) k
keeps-from front (nonce ∷ nonces) l k =
    subst (λ sent. Keeps sent (ledger_from (with_nonce_sent l nonce) nonces)) (append_assoc front (nonce ∷ []) nonces)
    (keeps-from (front ++ nonce ∷ []) nonces (with_nonce_sent l nonce) (keeps-more front l nonce k))

pub keeps-by : (sent : List Bool) → Keeps sent (ledger_by sent)
keeps-by sent = keeps-from [] sent (ledger 1 []) (record { next = omega arith; size = omega arith; last = λ i h. absurd (omega arith) })

-- one more packet
pub ledger-push : (l : Ledger) (sent : List Bool) (nonce : Bool) → ledger_from l (sent ++ nonce ∷ []) ≡ with_nonce_sent (ledger_from l sent) nonce
ledger-push l [] nonce = refl
ledger-push l (x ∷ sent) nonce = ledger-push (with_nonce_sent l x) sent nonce

-- the nonce of a packet that was sent is kept unless it is too old
pub kept-nonce : (sent : List Bool) (n : ℕ) (nonce : Bool) → length sent ≤ 2 ^ 46 → 1 ≤ n → n ≤ length sent → slice_get sent (n - 1) ≡ Some nonce
    → nonce_kept (ledger_by sent) n ≡ (if is_old sent n then None else Some nonce)
kept-nonce sent n nonce few some most is =
    let k : Keeps sent (ledger_by sent) = keeps-by sent in
    let place : distance n (down (ledger_by sent).next 1) ≡ length sent - n = ap (λ m. distance n (down m 1)) k.next ∙ omega arith in
    ap (λ i. slice_get (ledger_by sent).nonces i) place ∙ elim (cases_Bool (is_old sent n)) [
      | inl old ↦
          let far : n + 4096 ≤ length sent = leb-true (n + 4096) (length sent) old in
          rw old (slice_get_past (ledger_by sent).nonces (length sent - n) (omega (arith, k.size)))
      | inr new ↦
          let near : length sent < n + 4096 = leb-false (n + 4096) (length sent) new in
          let back : length sent - (length sent - n + 1) ≡ n - 1 = omega arith in
          rw new (k.last (length sent - n) (omega (arith, k.size)) ∙ ap (λ i. slice_get sent i) back ∙ is)
    ]
