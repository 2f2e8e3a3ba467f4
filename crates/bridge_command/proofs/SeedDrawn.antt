-- What a seed draws can be said in a short line.
use Rattle.std.proofs.Common.{◌≡◌, refl, ℕ, zero, suc, ◌+◌, ◌-◌, ◌/◌, ◌%◌, ◌^◌, ◌≤◌, ◌<◌, ◌==◌, nat_le, Bool, true, false, if◌then◌else◌, List, [], ◌∷◌, length, arith}
use Rattle.std.specs.Prelude.{codes, decimal, slice_index}
use Rattle.std.specs.Int.{byte_at, bytes_high_first}
use Rattle.std.proofs.Math.Dec.{lit<}
use Rattle.std.proofs.lemmas.Bool.Decides.{nat_tests}
use Rattle.std.proofs.lemmas.List.Elements.{All-cons, All-nil}
use Rattle.std.proofs.lemmas.Nat.{mod_below}
use Rattle.byteorder.specs.Endian.{big_bytes}
use Rattle.byteorder.specs.Numbers.{length-bytes_high_first}
use Rattle.dccp_states.specs.declared.calls.Timer.{Timer}
use Rattle.dccp_states.specs.declared.calls.Timer.TheVariants as timer
use Rattle.fault_campaign.specs.Draws.{drawn, drawn_delivery, drawn_index, drawn_timer, ending, event_numbered, preference, sending}
use Rattle.fault_campaign.proofs.Drawing.{index-below}
use Rattle.feature_lists.specs.Features.{feature_number}
use Rattle.feature_lists.specs.declared.features.Feature.{Feature}
use Rattle.feature_lists.specs.declared.features.Feature.TheVariants.{Ccid, SequenceWindow, AckRatio, MinCsCov}
use Rattle.feature_lists.specs.declared.features.Place.{Place}
use Rattle.feature_lists.specs.declared.features.Place.TheVariants.{Here, There}
use Rattle.hex.specs.Hex.{encode_with}
use Rattle.schedule_text.specs.Names.{place_name, side_name, timer_name}
use Rattle.schedule_text.specs.Printing.{event_text, frame_name, values_text}
use Rattle.schedule_text.specs.Range.{AreValues, IsPrintable}
use Rattle.schedule_text.proofs.RowsAre.{feature-length, name-length, place-length, side-length, timer-length, values-length}
use Rattle.tool_text.specs.Text.{hex_or_dash}
use Rattle.tool_text.proofs.Bytes.{joined-length}
use Rattle.world_events.specs.declared.event.Event.{Event}
use Rattle.world_events.specs.declared.event.Event.TheVariants as event
use Rattle.world_events.specs.declared.event.Side.{Side}
use Rattle.world_events.specs.declared.event.Side.TheVariants.{Client, Server}

-- A line has room for the event, and more than enough.
pub record IsBrief (e : Event) : Type 0 where
  pub printable : IsPrintable e
  pub short : length (event_text e) ≤ 200

pub brief-open : IsBrief event.Open
brief-open = record { printable = tt; short = omega arith }

brief-deliver : (from : Side) (index : ℕ) → index < 2 ^ 47 → IsBrief (event.Deliver from index)
brief-deliver from index small =
    let name = name-length from index small in
    let size = joined-length (codes "deliver") (frame_name from index ∷ []) in
    record { printable = small; short = omega arith }

brief-timer : (side : Side) (which : Timer) → IsBrief (event.Timer side which)
brief-timer side which =
    let one = side-length side in
    let two = timer-length which in
    let size = joined-length (codes "timer") (side_name side ∷ (timer_name which ∷ [])) in
    record { printable = tt; short = omega arith }

brief-close : (side : Side) → IsBrief (event.Close side)
brief-close side =
    let one = side-length side in
    let size = joined-length (codes "close") (side_name side ∷ []) in
    record { printable = tt; short = omega arith }

brief-abort : (side : Side) → IsBrief (event.Abort side)
brief-abort side =
    let one = side-length side in
    let size = joined-length (codes "abort") (side_name side ∷ []) in
    record { printable = tt; short = omega arith }

byte-small : (k x : ℕ) → byte_at k x < 256
byte-small zero x = mod_below x 256 (lit< tt)
byte-small (suc k) x = mod_below (x / 256 ^ suc k) 256 (lit< tt)

bytes-are : (n x i : ℕ) → slice_index (bytes_high_first n x) i < 256
bytes-are zero x zero = lit< tt
bytes-are zero x (suc i) = lit< tt
bytes-are (suc n) x zero = byte-small n x
bytes-are (suc n) x (suc i) = bytes-are n x i

eight-digits : (b : ℕ) → length (hex_or_dash (big_bytes 4 b)) ≡ 8
unfolding encode_with
eight-digits b = refl

brief-send : (side : Side) (b : ℕ) → IsBrief (sending side b)
brief-send side b =
    let one = side-length side in
    let many = length-bytes_high_first 4 b in
    let digits = eight-digits b in
    let size = joined-length (codes "send") (side_name side ∷ (hex_or_dash (big_bytes 4 b) ∷ [])) in
    record { printable = record { few = omega (arith, many); bytes = bytes-are 4 b }; short = omega arith }

brief-prefer : (side : Side) (feature : Feature) (place : Place) (values : List ℕ) → AreValues values → IsBrief (event.Prefer side feature place values)
brief-prefer side feature place values are =
    let one = side-length side in
    let two = place-length place in
    let three = feature-length feature in
    let four = values-length values are.below in
    let few = are.few in
    let size = joined-length (codes "prefer") (side_name side ∷ (place_name place ∷ (decimal (feature_number feature) ∷ (values_text values ∷ [])))) in
    record { printable = are; short = omega arith }

abbrev Small : ℕ → Type 0
Small value = value < 2 ^ 48

one-value : (a : ℕ) → Small a → AreValues (a ∷ [])
one-value a small = record { some = omega arith; few = omega arith; below = All-cons Small a [] small (All-nil Small) }

two-values : (a b : ℕ) → Small a → Small b → AreValues (a ∷ (b ∷ []))
two-values a b one two =
    record { some = omega arith; few = omega arith; below = All-cons Small a (b ∷ []) one (All-cons Small b [] two (All-nil Small)) }

three-values : (a b c : ℕ) → Small a → Small b → Small c → AreValues (a ∷ (b ∷ (c ∷ [])))
three-values a b c one two three =
    record {
      some = omega arith;
      few = omega arith;
      below = All-cons Small a (b ∷ (c ∷ [])) one (All-cons Small b (c ∷ []) two (All-cons Small c [] three (All-nil Small)));
    }

either : (test : Bool) (one another : Event) → IsBrief one → IsBrief another → IsBrief (if test then one else another)
either true one another brief also = brief
either false one another brief also = also

brief-delivery : (from : Side) (n b : ℕ) → n < 2 ^ 47 → IsBrief (drawn_delivery from n b)
brief-delivery from n b few = by (n == 0) refl where
  by : (none : Bool) → (n == 0) ≡ none → IsBrief (if none then event.Timer Client timer.Request else event.Deliver from (drawn_index b n))
  by true is = brief-timer Client timer.Request
  by false is =
      let some : 0 < n = grind (arith, nat_tests) in
      let below = index-below b n some in
      brief-deliver from (drawn_index b n) (omega arith)

brief-preference : (side : Side) (which rest : ℕ) → IsBrief (preference side which rest)
brief-preference side which rest =
    either (which == 0) _ _ (brief-prefer side Ccid Here _ (two-values 2 248 (lit< tt) (lit< tt)))
    (either (which == 1) _ _ (brief-prefer side Ccid Here _ (two-values 248 2 (lit< tt) (lit< tt)))
    (either (which == 2) _ _ (brief-prefer side Ccid There _ (one-value 248 (lit< tt)))
    (either (which == 3) _ _ (brief-prefer side MinCsCov Here _ (three-values 1 2 3 (lit< tt) (lit< tt) (lit< tt)))
    (either (which == 4) _ _ (brief-prefer side MinCsCov There _ (two-values 3 1 (lit< tt) (lit< tt)))
    (either (which == 5) _ _ (brief-prefer side MinCsCov There _ (one-value 2 (lit< tt)))
    (either (which == 6) _ _ (brief-prefer side SequenceWindow Here _ (one-value (100 + rest % 1000) (window rest)))
    (brief-prefer side AckRatio Here _ (one-value (1 + rest % 4) (ratio rest)))))))))
  where
    window : (rest : ℕ) → 100 + rest % 1000 < 2 ^ 48
    window rest = let below = mod_below rest 1000 (lit< tt) in omega arith

    ratio : (rest : ℕ) → 1 + rest % 4 < 2 ^ 48
    ratio rest = let below = mod_below rest 4 (lit< tt) in omega arith

brief-ending : (which : ℕ) → IsBrief (ending which)
brief-ending which =
    either (which == 0) _ _ (brief-close Client)
    (either (which == 1) _ _ (brief-close Server)
    (either (which == 2) _ _ (brief-abort Client)
    (either (which == 3) _ _ (brief-abort Server) (brief-timer Client timer.Negotiate))))

brief-numbered : (kind b clients servers : ℕ) → clients < 2 ^ 47 → servers < 2 ^ 47 → IsBrief (event_numbered kind b clients servers)
brief-numbered kind b clients servers few also =
    either (nat_le kind 11) _ _ (brief-delivery Client clients b few)
    (either (nat_le kind 23) _ _ (brief-delivery Server servers b also)
    (either (kind == 24) _ _ (brief-send Client b)
    (either (kind == 25) _ _ (brief-send Server b)
    (either (kind == 26) _ _ (brief-preference Client (b % 8) (b / 8))
    (either (kind == 27) _ _ (brief-preference Server (b % 8) (b / 8))
    (either (kind == 28) _ _ (brief-timer Client (drawn_timer (b % 6)))
    (either (kind == 29) _ _ (brief-timer Server (drawn_timer (b % 6)))
    (either (kind == 30) _ _ (brief-ending (b % 512)) (brief-timer Server timer.Negotiate)))))))))

-- an event of two words, where neither side has sent more frames than can be named
pub brief-drawn : (a b clients servers : ℕ) → clients < 2 ^ 47 → servers < 2 ^ 47 → IsBrief (drawn a b clients servers)
unfolding drawn
brief-drawn a b clients servers few also = brief-numbered (a % 32) b clients servers few also
