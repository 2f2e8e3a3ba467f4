-- Worked stories of one end's negotiation, word by word, computed from the definitions (RFC 4340, section 6, and the table of this profile);
-- their answers were worked out by hand.
use Rattle.std.proofs.Common.{◌≡◌, refl, ℕ, if◌then◌else◌, Bool, true, false, List, [], ◌∷◌, Option, None, Some, Result, Ok, Err, codes}
use Prim.Native.String.{String}
use Rattle.feature_lists.specs.Wishes.{is_ours, wish_of}
use Rattle.feature_lists.specs.declared.features.Feature.{Feature}
use Rattle.feature_lists.specs.declared.features.Feature.TheVariants as f
use Rattle.feature_lists.specs.declared.features.Place.{Place}
use Rattle.feature_lists.specs.declared.features.Place.TheVariants.{Here, There}
use Rattle.feature_lists.specs.declared.wishes.PreferFault.{PreferFault}
use Rattle.feature_lists.specs.declared.wishes.PreferFault.TheVariants as refused
use Rattle.feature_lists.specs.declared.wishes.Wanted.{Wanted}
use Rattle.feature_lists.specs.declared.wishes.Wanted.TheVariants as wanted
use Rattle.feature_machine.specs.Answers.{ChangeAnswer, Confirming, Ignoring, Failing, answered, is_opening, opening_of, settling_of}
use Rattle.feature_machine.specs.Lists.{listed_at, usual_lists, with_offer, with_wish, without_offers}
use Rattle.feature_machine.specs.Negotiating.{changes, confirmed, due_keys, first_rows, is_due, is_next_mandatory, row_at, stepped}
use Rattle.feature_machine.specs.Rows.{Offers, Prefers, Sends, is_there}
use Rattle.feature_machine.specs.declared.answers.Opening.{Opening}
use Rattle.feature_machine.specs.declared.answers.Opening.TheVariants as opening
use Rattle.feature_machine.specs.declared.answers.Settling.{Settling}
use Rattle.feature_machine.specs.declared.answers.Settling.TheVariants as settling
use Rattle.feature_machine.specs.declared.offers.RowSetup.{RowSetup}
use Rattle.feature_machine.specs.declared.row.Row.{Row}
use Rattle.feature_machine.specs.declared.stands.Role2.{Role2}
use Rattle.feature_machine.specs.declared.stands.Role2.TheVariants.{Client, Server}
use Rattle.feature_machine.specs.declared.stands.Stand.{Stand}
use Rattle.feature_machine.specs.declared.stands.Stand.TheVariants.{Stable, Changing, Unstable}
use Rattle.tests_ends.proofs.rows.RowsSeen.{bytes}

abbrev spelled : String → List ℕ
spelled digits = bytes (codes digits)

-- What a story does: all offers are taken away; a wish and an offer are listed, the latter plain or after Mandatory; an end of these lists begins;
-- it wishes something else; an offer comes up, and may have met a Confirm; a row's Change goes out under a number; a Change or a Confirm comes for a
-- row, by its feature's number; and what is listed, active, carried by the row's next Change, held and due is looked at.
data Word : Type 0 where
  Plain Due : Word
  Begins : (role : Role2) → Word
  Wish Prefer : (feature : Feature) (place : Place) (values : List ℕ) → Word
  Offer : (feature : Feature) (place : Place) (mandatory : Bool) → Word
  Open : (feature : Feature) (place : Place) (met : Bool) → Word
  Send : (feature : Feature) (place : Place) (number : ℕ) → Word
  Change : (place : Place) (feature : ℕ) (digits : String) (mandatory : Bool) → Word
  Confirm : (place : Place) (feature : ℕ) (digits : String) (ack : Option ℕ) → Word
  Wishes Active Carries Holds : (feature : Feature) (place : Place) → Word

-- what it answers; `Unfit` where the condition of a call does not hold
data ReplyWord : Type 0 where
  Done Opens Stays Unfit : ReplyWord
  Refused : (fault : PreferFault) → ReplyWord
  Asks : (opening : Opening) → ReplyWord
  Answers : (answer : ChangeAnswer) → ReplyWord
  Settles : (settling : Settling) → ReplyWord
  Carrying : (mandatory : Bool) → ReplyWord
  Held : (value : ℕ) (stand : Stand) → ReplyWord
  Wished : (wish : Option Wanted) → ReplyWord
  Rows : (rows : List (Feature × Place)) → ReplyWord

-- the Confirms, by their letters
abbrev confirm_l : ℕ → String → ReplyWord
confirm_l feature digits = Answers (Confirming true feature (spelled digits))

abbrev confirm_r : ℕ → String → ReplyWord
confirm_r feature digits = Answers (Confirming false feature (spelled digits))

-- the lists after a wish and an offer, and what these answer
abbrev wished : List RowSetup → Feature → Place → Result Wanted PreferFault → List RowSetup
wished lists feature place (Ok wish) = with_wish lists feature place wish
wished lists feature place (Err fault) = lists

abbrev offered : List RowSetup → Feature → Place → Bool → Bool → List RowSetup
offered lists feature place mandatory true = with_offer lists feature place mandatory
offered lists feature place mandatory false = lists

abbrev done : {Value : Type 0} → Result Value PreferFault → ReplyWord
done (Ok value) = Done
done (Err fault) = Refused fault

-- the rows after a preference, and its answer
abbrev preferred : List Row → Feature → Place → Result Wanted PreferFault → List Row
preferred rows feature place (Ok wish) = (stepped rows feature place (Prefers wish)).rows
preferred rows feature place (Err fault) = rows

abbrev asks : List Row → Feature → Place → Result Wanted PreferFault → ReplyWord
asks rows feature place (Ok wish) = Asks (opening_of (stepped rows feature place (Prefers wish)).answer)
asks rows feature place (Err fault) = Unfit

-- an offer comes up of a row that is STABLE, and a Change goes out of one that asks
abbrev opened : Bool → Bool → ReplyWord
opened true opens = Unfit
opened false true = Opens
opened false false = Stays

abbrev told : List RowSetup → List Row → List Word → List ReplyWord
told lists rows [] = []
told lists rows (Plain ∷ rest) = told (without_offers lists) rows rest
told lists rows (Begins role ∷ rest) = told lists (first_rows role lists) rest
told lists rows (Wish feature place values ∷ rest) =
    done (wish_of feature place values) ∷ told (wished lists feature place (wish_of feature place values)) rows rest
told lists rows (Offer feature place mandatory ∷ rest) =
    (if is_ours feature place then Done else Refused refused.NotOurs) ∷ told (offered lists feature place mandatory (is_ours feature place)) rows rest
told lists rows (Prefer feature place values ∷ rest) =
    asks rows feature place (wish_of feature place values) ∷ told lists (preferred rows feature place (wish_of feature place values)) rest
told lists rows (Open feature place met ∷ rest) =
    opened (is_due (row_at rows feature place)) (is_opening (stepped rows feature place (Offers met)).answer)
    ∷ told lists (stepped rows feature place (Offers met)).rows rest
told lists rows (Send feature place number ∷ rest) =
    if is_due (row_at rows feature place) then told lists (stepped rows feature place (Sends number)).rows rest else Unfit ∷ []
told lists rows (Change place feature digits mandatory ∷ rest) =
    Answers (answered (is_there place) feature (changes rows (is_there place) feature (spelled digits) mandatory).answer)
    ∷ told lists (changes rows (is_there place) feature (spelled digits) mandatory).rows rest
told lists rows (Confirm place feature digits ack ∷ rest) =
    Settles (settling_of (confirmed rows (is_there place) feature (spelled digits) ack).answer)
    ∷ told lists (confirmed rows (is_there place) feature (spelled digits) ack).rows rest
told lists rows (Wishes feature place ∷ rest) = Wished (listed_at lists feature place).wish ∷ told lists rows rest
told lists rows (Active feature place ∷ rest) = Wished (row_at rows feature place).active ∷ told lists rows rest
told lists rows (Carries feature place ∷ rest) =
    (if is_due (row_at rows feature place) then Carrying (is_next_mandatory (row_at rows feature place).stand (row_at rows feature place)) else Unfit)
    ∷ told lists rows rest
told lists rows (Holds feature place ∷ rest) = Held (row_at rows feature place).value (row_at rows feature place).stand ∷ told lists rows rest
told lists rows (Due ∷ rest) = Rows (due_keys rows) ∷ told lists rows rest

-- a story from the usual lists on; what begins before an end does is a client's
abbrev story : List Word → List ReplyWord
story words = told usual_lists (first_rows Client usual_lists) words

-- The rows of an end that wishes coverage 1, else 2, in each stand: in CHANGING its Change had the number 100, and in UNSTABLE it wishes 3.
abbrev stable : Role2 → List Row
stable role = first_rows role (with_wish usual_lists f.MinCsCov Here (wanted.List (1 ∷ 2 ∷ [])))

abbrev changing : Role2 → List Row
changing role = (stepped (stepped (stable role) f.MinCsCov Here (Prefers (wanted.List (1 ∷ 2 ∷ [])))).rows f.MinCsCov Here (Sends 100)).rows

abbrev unstable : Role2 → List Row
unstable role = (stepped (changing role) f.MinCsCov Here (Prefers (wanted.List (3 ∷ [])))).rows

-- what reaches such rows
abbrev meets : List Row → List Word → List ReplyWord
meets rows words = told usual_lists rows words

-- Two ends' stories are in two rows, the client's first: what one sends reaches the other.
stories :
    -- The server's order wins, and an offer opens once
    (story (Plain ∷ Offer f.Ccid Here false ∷ Begins Client ∷ Open f.Ccid Here false ∷ Send f.Ccid Here 1000 ∷
    Confirm Here 1 "f8f802" (Some 1000) ∷ Holds f.Ccid Here ∷ Open f.Ccid Here false ∷ [])
    ≡ Done ∷ Opens ∷ Settles settling.Settled ∷ Held 248 Stable ∷ Stays ∷ [])
    × (story (Plain ∷ Wish f.Ccid There (248 ∷ 2 ∷ []) ∷ Begins Server ∷ Change There 1 "02f8" false ∷ Holds f.Ccid There ∷ [])
    ≡ Done ∷ confirm_r 1 "f8f802" ∷ Held 248 Stable ∷ [])
    -- A Mandatory Change of a value that the server does not accept
    × (story (Begins Client ∷ Open f.SendAckVector There false ∷ Send f.SendAckVector There 1000 ∷ Holds f.SendAckVector There ∷ [])
    ≡ Opens ∷ Held 0 Changing ∷ [])
    × (story (Wish f.SendAckVector Here (0 ∷ []) ∷ Begins Server ∷ Change Here 6 "01" true ∷ Holds f.SendAckVector Here ∷ [])
    ≡ Done ∷ Answers Failing ∷ Held 0 Stable ∷ [])
    -- Values that are not permitted, and that are
    × (story (Plain ∷ Begins Client ∷ Change There 3 "00000000001f" false ∷ Holds f.SequenceWindow There ∷ [])
    ≡ confirm_r 3 "" ∷ Held 100 Stable ∷ [])
    × (story (Plain ∷ Begins Client ∷ Change There 3 "000000000020" false ∷ Holds f.SequenceWindow There ∷ [])
    ≡ confirm_r 3 "000000000020" ∷ Held 32 Stable ∷ [])
    × (story (Plain ∷ Begins Client ∷ Change There 3 "3fffffffffff" false ∷ Holds f.SequenceWindow There ∷ [])
    ≡ confirm_r 3 "3fffffffffff" ∷ Held 70368744177663 Stable ∷ [])
    -- Changes that cross
    × (story (Plain ∷ Begins Client ∷ Prefer f.MinCsCov Here (1 ∷ 2 ∷ []) ∷ Send f.MinCsCov Here 1002 ∷ Send f.MinCsCov Here 1003 ∷
    Confirm Here 8 "010102" (Some 1002) ∷ Holds f.MinCsCov Here ∷ Change Here 8 "0201" false ∷ Holds f.MinCsCov Here ∷ [])
    ≡ Asks opening.Now ∷ Settles settling.Settled ∷ Held 1 Stable ∷ confirm_l 8 "020102" ∷ Held 2 Stable ∷ [])
    × (story (Wish f.MinCsCov There (1 ∷ 2 ∷ []) ∷ Plain ∷ Begins Server ∷ Change There 8 "0102" false ∷ Prefer f.MinCsCov There (2 ∷ 1 ∷ []) ∷
    Send f.MinCsCov There 2003 ∷ Change There 8 "0102" false ∷ Holds f.MinCsCov There ∷ Send f.MinCsCov There 2005 ∷
    Confirm There 8 "020102" (Some 2005) ∷ Holds f.MinCsCov There ∷ [])
    ≡ Done ∷ confirm_r 8 "010102" ∷ Asks opening.Now ∷ confirm_r 8 "020201" ∷ Held 2 Changing ∷ Settles settling.Settled ∷ Held 2 Stable ∷ [])
    -- Of three Changes only the last is newest when it comes, and a Confirm comes late
    × (story (Plain ∷ Begins Client ∷ Prefer f.MinCsCov Here (1 ∷ 2 ∷ []) ∷ Send f.MinCsCov Here 1002 ∷ Prefer f.MinCsCov Here (2 ∷ 1 ∷ []) ∷
    Send f.MinCsCov Here 1003 ∷ Prefer f.MinCsCov Here (2 ∷ []) ∷ Send f.MinCsCov Here 1004 ∷ Confirm Here 8 "020102" (Some 1004) ∷
    Holds f.MinCsCov Here ∷ [])
    ≡ Asks opening.Now ∷ Asks opening.Later ∷ Asks opening.Later ∷ Settles settling.Settled ∷ Held 2 Stable ∷ [])
    × (story (Wish f.MinCsCov There (1 ∷ 2 ∷ []) ∷ Plain ∷ Begins Server ∷ Change There 8 "02" false ∷ Holds f.MinCsCov There ∷ [])
    ≡ Done ∷ confirm_r 8 "020102" ∷ Held 2 Stable ∷ [])
    × (story (Plain ∷ Begins Client ∷ Prefer f.MinCsCov Here (1 ∷ 2 ∷ []) ∷ Send f.MinCsCov Here 1002 ∷ Prefer f.MinCsCov Here (2 ∷ 1 ∷ []) ∷
    Send f.MinCsCov Here 1003 ∷ Prefer f.MinCsCov Here (2 ∷ []) ∷ Send f.MinCsCov Here 1004 ∷ Confirm Here 8 "010102" (Some 1002) ∷
    Holds f.MinCsCov Here ∷ [])
    ≡ Asks opening.Now ∷ Asks opening.Later ∷ Asks opening.Later ∷ Settles settling.Ignored ∷ Held 0 Changing ∷ [])
    -- A Confirm that comes before the Change went out
    × (story (Begins Server ∷ Prefer f.MinCsCov Here (1 ∷ []) ∷ Confirm Here 8 "0101" (Some 1000) ∷ Holds f.MinCsCov Here ∷
    Send f.MinCsCov Here 1000 ∷ Confirm Here 8 "0101" (Some 1000) ∷ [])
    ≡ Asks opening.Now ∷ Settles settling.Ignored ∷ Held 0 Changing ∷ Settles settling.Settled ∷ [])
    × (story (Begins Client ∷ Prefer f.MinCsCov Here (1 ∷ []) ∷ Confirm Here 8 "0101" (Some 1000) ∷ Holds f.MinCsCov Here ∷
    Send f.MinCsCov Here 1000 ∷ Confirm Here 8 "0101" (Some 1000) ∷ [])
    ≡ Asks opening.Now ∷ Settles settling.Ignored ∷ Held 0 Changing ∷ Settles settling.Settled ∷ [])
    -- The lists come to share nothing
    × (story (Plain ∷ Begins Client ∷ Prefer f.MinCsCov Here (1 ∷ 2 ∷ []) ∷ Send f.MinCsCov Here 1002 ∷ Change Here 8 "03" false ∷
    Holds f.MinCsCov Here ∷ [])
    ≡ Asks opening.Now ∷ confirm_l 8 "000102" ∷ Held 0 Changing ∷ [])
    × (story (Wish f.MinCsCov There (1 ∷ 2 ∷ []) ∷ Plain ∷ Begins Server ∷ Change There 8 "0102" false ∷ Prefer f.MinCsCov There (3 ∷ []) ∷
    Send f.MinCsCov There 2003 ∷ Confirm There 8 "000102" (Some 2003) ∷ Holds f.MinCsCov There ∷ [])
    ≡ Done ∷ confirm_r 8 "010102" ∷ Asks opening.Now ∷ Settles settling.Fatal ∷ Held 1 Changing ∷ [])
    -- An offer's Mandatory goes with each of its Changes, and with no other wish
    × (story (Begins Server ∷ Open f.SendAckVector There false ∷ Carries f.SendAckVector There ∷ Send f.SendAckVector There 1 ∷
    Send f.SendAckVector There 2 ∷ Carries f.SendAckVector There ∷ Prefer f.SendAckVector There (0 ∷ 1 ∷ []) ∷ Carries f.SendAckVector There ∷
    Send f.SendAckVector There 3 ∷ Carries f.SendAckVector There ∷ [])
    ≡ Opens ∷ Carrying true ∷ Carrying true ∷ Asks opening.Later ∷ Carrying false ∷ Carrying false ∷ [])
    × (story (Begins Client ∷ Open f.SendAckVector There false ∷ Carries f.SendAckVector There ∷ Send f.SendAckVector There 1 ∷
    Send f.SendAckVector There 2 ∷ Carries f.SendAckVector There ∷ Prefer f.SendAckVector There (0 ∷ 1 ∷ []) ∷ Carries f.SendAckVector There ∷
    Send f.SendAckVector There 3 ∷ Carries f.SendAckVector There ∷ [])
    ≡ Opens ∷ Carrying true ∷ Carrying true ∷ Asks opening.Later ∷ Carrying false ∷ Carrying false ∷ [])
    -- Nor with a wish of the program's own once the offer has settled
    × (story (Begins Server ∷ Open f.SendAckVector There false ∷ Send f.SendAckVector There 1 ∷ Confirm There 6 "0101" (Some 1) ∷
    Prefer f.SendAckVector There (0 ∷ 1 ∷ []) ∷ Carries f.SendAckVector There ∷ Send f.SendAckVector There 2 ∷
    Carries f.SendAckVector There ∷ [])
    ≡ Opens ∷ Settles settling.Settled ∷ Asks opening.Now ∷ Carrying false ∷ Carrying false ∷ [])
    × (story (Begins Client ∷ Open f.SendAckVector There false ∷ Send f.SendAckVector There 1 ∷ Confirm There 6 "0101" (Some 1) ∷
    Prefer f.SendAckVector There (0 ∷ 1 ∷ []) ∷ Carries f.SendAckVector There ∷ Send f.SendAckVector There 2 ∷
    Carries f.SendAckVector There ∷ [])
    ≡ Opens ∷ Settles settling.Settled ∷ Asks opening.Now ∷ Carrying false ∷ Carrying false ∷ [])
    × (story (Begins Server ∷ Open f.EcnIncapable Here false ∷ Send f.EcnIncapable Here 1 ∷ Confirm Here 4 "0101" (Some 1) ∷
    Holds f.EcnIncapable Here ∷ Prefer f.EcnIncapable Here (1 ∷ []) ∷ Carries f.EcnIncapable Here ∷ [])
    ≡ Opens ∷ Settles settling.Settled ∷ Held 1 Stable ∷ Asks opening.Now ∷ Carrying false ∷ [])
    × (story (Begins Client ∷ Open f.EcnIncapable Here false ∷ Send f.EcnIncapable Here 1 ∷ Confirm Here 4 "0101" (Some 1) ∷
    Holds f.EcnIncapable Here ∷ Prefer f.EcnIncapable Here (1 ∷ []) ∷ Carries f.EcnIncapable Here ∷ [])
    ≡ Opens ∷ Settles settling.Settled ∷ Held 1 Stable ∷ Asks opening.Now ∷ Carrying false ∷ [])
    -- Of what is offered or wished twice the last counts, and a wish leaves the offer
    × (story (Wish f.MinCsCov There (5 ∷ []) ∷ Wish f.MinCsCov There (6 ∷ 7 ∷ []) ∷ Wishes f.MinCsCov There ∷ [])
    ≡ Done ∷ Done ∷ Wished (Some (wanted.List (6 ∷ 7 ∷ []))) ∷ [])
    × (story (Offer f.MinCsCov There false ∷ Offer f.MinCsCov There true ∷ Begins Server ∷ Open f.MinCsCov There false ∷
    Carries f.MinCsCov There ∷ [])
    ≡ Done ∷ Done ∷ Opens ∷ Carrying true ∷ [])
    × (story (Offer f.MinCsCov There true ∷ Offer f.MinCsCov There false ∷ Begins Server ∷ Open f.MinCsCov There false ∷
    Carries f.MinCsCov There ∷ [])
    ≡ Done ∷ Done ∷ Opens ∷ Carrying false ∷ [])
    × (story (Offer f.MinCsCov There true ∷ Wish f.MinCsCov There (5 ∷ []) ∷ Begins Client ∷ Open f.MinCsCov There false ∷
    Carries f.MinCsCov There ∷ Active f.MinCsCov There ∷ [])
    ≡ Done ∷ Done ∷ Opens ∷ Carrying true ∷ Wished (Some (wanted.List (5 ∷ []))) ∷ [])
    × (story (Wish f.MinCsCov There (5 ∷ []) ∷ Offer f.MinCsCov There false ∷ Wish f.MinCsCov There (6 ∷ []) ∷ Begins Client ∷
    Open f.MinCsCov There false ∷ Carries f.MinCsCov There ∷ Active f.MinCsCov There ∷ [])
    ≡ Done ∷ Done ∷ Done ∷ Opens ∷ Carrying false ∷ Wished (Some (wanted.List (6 ∷ []))) ∷ [])
    × (story (Wish f.MinCsCov There (5 ∷ []) ∷ Offer f.MinCsCov There false ∷ Plain ∷ Begins Server ∷ Open f.MinCsCov There false ∷
    Active f.MinCsCov There ∷ [])
    ≡ Done ∷ Done ∷ Stays ∷ Wished (Some (wanted.List (5 ∷ []))) ∷ [])
    × (story (Offer f.MinCsCov Here false ∷ Begins Server ∷ Open f.MinCsCov Here false ∷ Carries f.MinCsCov Here ∷ [])
    ≡ Done ∷ Opens ∷ Carrying false ∷ [])
    × (story (Offer f.MinCsCov Here false ∷ Begins Client ∷ Open f.MinCsCov Here false ∷ Carries f.MinCsCov Here ∷ [])
    ≡ Done ∷ Opens ∷ Carrying false ∷ [])
    -- Unknown features, and values that are not negotiated
    × (story (Begins Server ∷ Change There 10 "01" false ∷ Change Here 0 "01" true ∷ Confirm There 10 "01" None ∷ Change There 5 "0007" false ∷
    Holds f.AckRatio There ∷ Change There 5 "000007" false ∷ Change Here 5 "0007" false ∷ Change Here 5 "0007" true ∷ [])
    ≡ confirm_r 10 "" ∷ Answers Failing ∷ Settles settling.Ignored ∷ confirm_r 5 "0007" ∷ Held 7 Stable ∷ confirm_r 5 "" ∷ confirm_l 5 "" ∷
    Answers Failing ∷ [])
    × (story (Begins Client ∷ Change There 10 "01" false ∷ Change Here 0 "01" true ∷ Confirm There 10 "01" None ∷ Change There 5 "0007" false ∷
    Holds f.AckRatio There ∷ Change There 5 "000007" false ∷ Change Here 5 "0007" false ∷ Change Here 5 "0007" true ∷ [])
    ≡ confirm_r 10 "" ∷ Answers Failing ∷ Settles settling.Ignored ∷ confirm_r 5 "0007" ∷ Held 7 Stable ∷ confirm_r 5 "" ∷ confirm_l 5 "" ∷
    Answers Failing ∷ [])
    -- Confirms of a value that is not negotiated: of that value, of another, of another length, and empty
    × (story (Begins Server ∷ Prefer f.AckRatio Here (3 ∷ []) ∷ Send f.AckRatio Here 7 ∷ Confirm Here 5 "0003" (Some 7) ∷
    Holds f.AckRatio Here ∷ [])
    ≡ Asks opening.Now ∷ Settles settling.Settled ∷ Held 3 Stable ∷ [])
    × (story (Begins Server ∷ Prefer f.AckRatio Here (3 ∷ []) ∷ Send f.AckRatio Here 7 ∷ Confirm Here 5 "0004" (Some 7) ∷
    Holds f.AckRatio Here ∷ [])
    ≡ Asks opening.Now ∷ Settles settling.Fatal ∷ Held 2 Changing ∷ [])
    × (story (Begins Server ∷ Prefer f.AckRatio Here (3 ∷ []) ∷ Send f.AckRatio Here 7 ∷ Confirm Here 5 "03" (Some 7) ∷
    Holds f.AckRatio Here ∷ [])
    ≡ Asks opening.Now ∷ Settles settling.Fatal ∷ Held 2 Changing ∷ [])
    × (story (Begins Server ∷ Prefer f.AckRatio Here (3 ∷ []) ∷ Send f.AckRatio Here 7 ∷ Confirm Here 5 "" (Some 7) ∷
    Holds f.AckRatio Here ∷ [])
    ≡ Asks opening.Now ∷ Settles settling.Settled ∷ Held 2 Stable ∷ [])
    × (story (Begins Client ∷ Prefer f.AckRatio Here (3 ∷ []) ∷ Send f.AckRatio Here 7 ∷ Confirm Here 5 "0003" (Some 7) ∷
    Holds f.AckRatio Here ∷ [])
    ≡ Asks opening.Now ∷ Settles settling.Settled ∷ Held 3 Stable ∷ [])
    × (story (Begins Client ∷ Prefer f.AckRatio Here (3 ∷ []) ∷ Send f.AckRatio Here 7 ∷ Confirm Here 5 "0004" (Some 7) ∷
    Holds f.AckRatio Here ∷ [])
    ≡ Asks opening.Now ∷ Settles settling.Fatal ∷ Held 2 Changing ∷ [])
    × (story (Begins Client ∷ Prefer f.AckRatio Here (3 ∷ []) ∷ Send f.AckRatio Here 7 ∷ Confirm Here 5 "03" (Some 7) ∷
    Holds f.AckRatio Here ∷ [])
    ≡ Asks opening.Now ∷ Settles settling.Fatal ∷ Held 2 Changing ∷ [])
    × (story (Begins Client ∷ Prefer f.AckRatio Here (3 ∷ []) ∷ Send f.AckRatio Here 7 ∷ Confirm Here 5 "" (Some 7) ∷
    Holds f.AckRatio Here ∷ [])
    ≡ Asks opening.Now ∷ Settles settling.Settled ∷ Held 2 Stable ∷ [])
    -- Every end has to understand feature 1
    × (story (Begins Server ∷ Prefer f.Ccid Here (248 ∷ []) ∷ Send f.Ccid Here 8 ∷ Confirm Here 1 "" (Some 8) ∷ [])
    ≡ Asks opening.Now ∷ Settles settling.Fatal ∷ [])
    × (story (Begins Client ∷ Prefer f.Ccid Here (248 ∷ []) ∷ Send f.Ccid Here 8 ∷ Confirm Here 1 "" (Some 8) ∷ [])
    ≡ Asks opening.Now ∷ Settles settling.Fatal ∷ [])
    -- Where the lists share nothing a feature keeps its value, also one that is required
    × (story (Begins Server ∷ Prefer f.Ccid Here (248 ∷ []) ∷ Send f.Ccid Here 8 ∷ Confirm Here 1 "0203" (Some 8) ∷ Holds f.Ccid Here ∷ [])
    ≡ Asks opening.Now ∷ Settles settling.Settled ∷ Held 2 Stable ∷ [])
    × (story (Begins Client ∷ Prefer f.Ccid Here (248 ∷ []) ∷ Send f.Ccid Here 8 ∷ Confirm Here 1 "0203" (Some 8) ∷ Holds f.Ccid Here ∷ [])
    ≡ Asks opening.Now ∷ Settles settling.Settled ∷ Held 2 Stable ∷ [])
    -- A number is before another where its distance to it is less than half the circle
    × (story (Plain ∷ Begins Client ∷ Prefer f.MinCsCov Here (1 ∷ []) ∷ Send f.MinCsCov Here 140737488355328 ∷
    Confirm Here 8 "0101" (Some 1) ∷ [])
    ≡ Asks opening.Now ∷ Settles settling.Ignored ∷ [])
    × (story (Plain ∷ Begins Client ∷ Prefer f.MinCsCov Here (1 ∷ []) ∷ Send f.MinCsCov Here 140737488355328 ∷
    Confirm Here 8 "0101" (Some 0) ∷ [])
    ≡ Asks opening.Now ∷ Settles settling.Settled ∷ [])
    -- Lists, offers and due rows: an offer that met a Confirm is dropped with that
    × (story (Offer f.AckRatio There true ∷ Wish f.AckRatio There (2 ∷ []) ∷ Wish f.AckRatio There [] ∷ Wishes f.AckRatio There ∷ [])
    ≡ Refused refused.NotOurs ∷ Refused refused.NotOurs ∷ Refused refused.BadList ∷ Wished None ∷ [])
    × (story (Wish f.MinCsCov There (5 ∷ []) ∷ Offer f.MinCsCov There false ∷ Wishes f.MinCsCov There ∷ [])
    ≡ Done ∷ Done ∷ Wished (Some (wanted.List (5 ∷ []))) ∷ [])
    × (story (Begins Server ∷ Active f.AckRatio There ∷ Active f.AckRatio Here ∷ []) ≡ Wished None ∷ Wished (Some (wanted.Number 2)) ∷ [])
    × (story (Wish f.MinCsCov There (5 ∷ []) ∷ Offer f.MinCsCov There false ∷ Begins Server ∷ Open f.MinCsCov There false ∷
    Open f.EcnIncapable Here false ∷ Open f.SendAckVector There true ∷ Open f.SendAckVector There false ∷ Open f.Ccid Here false ∷ Due ∷ [])
    ≡ Done ∷ Done ∷ Opens ∷ Opens ∷ Stays ∷ Stays ∷ Stays ∷ Rows ((f.EcnIncapable, Here) ∷ (f.MinCsCov, There) ∷ []) ∷ [])
stories = (
  refl,
  refl,
  refl,
  refl,
  refl,
  refl,
  refl,
  refl,
  refl,
  refl,
  refl,
  refl,
  refl,
  refl,
  refl,
  refl,
  refl,
  refl,
  refl,
  refl,
  refl,
  refl,
  refl,
  refl,
  refl,
  refl,
  refl,
  refl,
  refl,
  refl,
  refl,
  refl,
  refl,
  refl,
  refl,
  refl,
  refl,
  refl,
  refl,
  refl,
  refl,
  refl,
  refl,
  refl,
  refl,
  refl,
  refl,
  refl,
  refl,
  refl,
)

-- What reaches a row in each stand, at the server and at the client.
the_table_of_negotiation :
    -- A Change that is not valid
    (meets (stable Server) (Change Here 8 "" false ∷ Holds f.MinCsCov Here ∷ []) ≡ confirm_l 8 "" ∷ Held 0 Stable ∷ [])
    × (meets (stable Client) (Change Here 8 "" false ∷ Holds f.MinCsCov Here ∷ []) ≡ confirm_l 8 "" ∷ Held 0 Stable ∷ [])
    × (meets (changing Server) (Change Here 8 "" false ∷ Holds f.MinCsCov Here ∷ []) ≡ confirm_l 8 "" ∷ Held 0 Changing ∷ [])
    × (meets (changing Client) (Change Here 8 "" false ∷ Holds f.MinCsCov Here ∷ []) ≡ confirm_l 8 "" ∷ Held 0 Changing ∷ [])
    × (meets (unstable Server) (Change Here 8 "" false ∷ Holds f.MinCsCov Here ∷ []) ≡ confirm_l 8 "" ∷ Held 0 Unstable ∷ [])
    × (meets (unstable Client) (Change Here 8 "" false ∷ Holds f.MinCsCov Here ∷ []) ≡ confirm_l 8 "" ∷ Held 0 Unstable ∷ [])
    × (meets (stable Server) (Change Here 8 "" true ∷ Holds f.MinCsCov Here ∷ []) ≡ Answers Failing ∷ Held 0 Stable ∷ [])
    × (meets (stable Client) (Change Here 8 "" true ∷ Holds f.MinCsCov Here ∷ []) ≡ Answers Failing ∷ Held 0 Stable ∷ [])
    × (meets (changing Server) (Change Here 8 "" true ∷ Holds f.MinCsCov Here ∷ []) ≡ Answers Failing ∷ Held 0 Changing ∷ [])
    × (meets (changing Client) (Change Here 8 "" true ∷ Holds f.MinCsCov Here ∷ []) ≡ Answers Failing ∷ Held 0 Changing ∷ [])
    × (meets (unstable Server) (Change Here 8 "" true ∷ Holds f.MinCsCov Here ∷ []) ≡ Answers Failing ∷ Held 0 Unstable ∷ [])
    × (meets (unstable Client) (Change Here 8 "" true ∷ Holds f.MinCsCov Here ∷ []) ≡ Answers Failing ∷ Held 0 Unstable ∷ [])
    -- One that is, in UNSTABLE
    × (meets (unstable Server) (Change Here 8 "0201" false ∷ Holds f.MinCsCov Here ∷ []) ≡ Answers Ignoring ∷ Held 0 Unstable ∷ [])
    × (meets (unstable Client) (Change Here 8 "0201" false ∷ Holds f.MinCsCov Here ∷ []) ≡ Answers Ignoring ∷ Held 0 Unstable ∷ [])
    × (meets (unstable Server) (Change Here 8 "0201" true ∷ Holds f.MinCsCov Here ∷ []) ≡ Answers Ignoring ∷ Held 0 Unstable ∷ [])
    × (meets (unstable Client) (Change Here 8 "0201" true ∷ Holds f.MinCsCov Here ∷ []) ≡ Answers Ignoring ∷ Held 0 Unstable ∷ [])
    × (meets (unstable Server) (Change Here 8 "09" true ∷ Holds f.MinCsCov Here ∷ []) ≡ Answers Ignoring ∷ Held 0 Unstable ∷ [])
    × (meets (unstable Client) (Change Here 8 "09" true ∷ Holds f.MinCsCov Here ∷ []) ≡ Answers Ignoring ∷ Held 0 Unstable ∷ [])
    -- One of which a value is shared
    × (meets (stable Server) (Change Here 8 "0201" false ∷ Holds f.MinCsCov Here ∷ []) ≡ confirm_l 8 "010102" ∷ Held 1 Stable ∷ [])
    × (meets (stable Client) (Change Here 8 "0201" false ∷ Holds f.MinCsCov Here ∷ []) ≡ confirm_l 8 "020102" ∷ Held 2 Stable ∷ [])
    × (meets (stable Server) (Change Here 8 "0201" true ∷ Holds f.MinCsCov Here ∷ []) ≡ confirm_l 8 "010102" ∷ Held 1 Stable ∷ [])
    × (meets (stable Client) (Change Here 8 "0201" true ∷ Holds f.MinCsCov Here ∷ []) ≡ confirm_l 8 "020102" ∷ Held 2 Stable ∷ [])
    × (meets (changing Server) (Change Here 8 "0201" false ∷ Holds f.MinCsCov Here ∷ []) ≡ confirm_l 8 "010102" ∷ Held 1 Changing ∷ [])
    × (meets (changing Client) (Change Here 8 "0201" false ∷ Holds f.MinCsCov Here ∷ []) ≡ confirm_l 8 "020102" ∷ Held 2 Changing ∷ [])
    × (meets (changing Server) (Change Here 8 "090201" false ∷ Holds f.MinCsCov Here ∷ []) ≡ confirm_l 8 "010102" ∷ Held 1 Changing ∷ [])
    × (meets (changing Client) (Change Here 8 "090201" false ∷ Holds f.MinCsCov Here ∷ []) ≡ confirm_l 8 "020102" ∷ Held 2 Changing ∷ [])
    -- One of which none is
    × (meets (stable Server) (Change Here 8 "09" false ∷ Holds f.MinCsCov Here ∷ []) ≡ confirm_l 8 "000102" ∷ Held 0 Stable ∷ [])
    × (meets (stable Client) (Change Here 8 "09" false ∷ Holds f.MinCsCov Here ∷ []) ≡ confirm_l 8 "000102" ∷ Held 0 Stable ∷ [])
    × (meets (changing Server) (Change Here 8 "09" false ∷ Holds f.MinCsCov Here ∷ []) ≡ confirm_l 8 "000102" ∷ Held 0 Changing ∷ [])
    × (meets (changing Client) (Change Here 8 "09" false ∷ Holds f.MinCsCov Here ∷ []) ≡ confirm_l 8 "000102" ∷ Held 0 Changing ∷ [])
    × (meets (stable Server) (Change Here 8 "09" true ∷ Holds f.MinCsCov Here ∷ []) ≡ Answers Failing ∷ Held 0 Stable ∷ [])
    × (meets (stable Client) (Change Here 8 "09" true ∷ Holds f.MinCsCov Here ∷ []) ≡ Answers Failing ∷ Held 0 Stable ∷ [])
    × (meets (changing Server) (Change Here 8 "09" true ∷ Holds f.MinCsCov Here ∷ []) ≡ Answers Failing ∷ Held 0 Changing ∷ [])
    × (meets (changing Client) (Change Here 8 "09" true ∷ Holds f.MinCsCov Here ∷ []) ≡ Answers Failing ∷ Held 0 Changing ∷ [])
    -- A Confirm where nothing was asked, where something else is wanted by now, without an acknowledgement, and of an older Change
    × (meets (stable Server) (Confirm Here 8 "010201" (Some 100) ∷ Holds f.MinCsCov Here ∷ []) ≡ Settles settling.Ignored ∷ Held 0 Stable ∷ [])
    × (meets (stable Client) (Confirm Here 8 "020201" (Some 100) ∷ Holds f.MinCsCov Here ∷ []) ≡ Settles settling.Ignored ∷ Held 0 Stable ∷ [])
    × (meets (unstable Server) (Confirm Here 8 "010201" (Some 100) ∷ Holds f.MinCsCov Here ∷ [])
    ≡ Settles settling.Ignored ∷ Held 0 Unstable ∷ [])
    × (meets (unstable Client) (Confirm Here 8 "020201" (Some 100) ∷ Holds f.MinCsCov Here ∷ [])
    ≡ Settles settling.Ignored ∷ Held 0 Unstable ∷ [])
    × (meets (changing Server) (Confirm Here 8 "010201" None ∷ Holds f.MinCsCov Here ∷ []) ≡ Settles settling.Ignored ∷ Held 0 Changing ∷ [])
    × (meets (changing Client) (Confirm Here 8 "020201" None ∷ Holds f.MinCsCov Here ∷ []) ≡ Settles settling.Ignored ∷ Held 0 Changing ∷ [])
    × (meets (changing Server) (Confirm Here 8 "010201" (Some 99) ∷ Holds f.MinCsCov Here ∷ [])
    ≡ Settles settling.Ignored ∷ Held 0 Changing ∷ [])
    × (meets (changing Client) (Confirm Here 8 "020201" (Some 99) ∷ Holds f.MinCsCov Here ∷ [])
    ≡ Settles settling.Ignored ∷ Held 0 Changing ∷ [])
    -- Of nothing, of the value that the lists settle on, of the one that is held if they share none, and of only a value
    × (meets (changing Server) (Confirm Here 8 "" (Some 100) ∷ Holds f.MinCsCov Here ∷ []) ≡ Settles settling.Settled ∷ Held 0 Stable ∷ [])
    × (meets (changing Client) (Confirm Here 8 "" (Some 100) ∷ Holds f.MinCsCov Here ∷ []) ≡ Settles settling.Settled ∷ Held 0 Stable ∷ [])
    × (meets (changing Server) (Confirm Here 8 "010201" (Some 100) ∷ Holds f.MinCsCov Here ∷ []) ≡ Settles settling.Settled ∷ Held 1 Stable ∷ [])
    × (meets (changing Client) (Confirm Here 8 "020201" (Some 100) ∷ Holds f.MinCsCov Here ∷ []) ≡ Settles settling.Settled ∷ Held 2 Stable ∷ [])
    × (meets (changing Server) (Confirm Here 8 "010201" (Some 101) ∷ Holds f.MinCsCov Here ∷ []) ≡ Settles settling.Settled ∷ Held 1 Stable ∷ [])
    × (meets (changing Client) (Confirm Here 8 "020201" (Some 101) ∷ Holds f.MinCsCov Here ∷ []) ≡ Settles settling.Settled ∷ Held 2 Stable ∷ [])
    × (meets (changing Server) (Confirm Here 8 "0009" (Some 100) ∷ Holds f.MinCsCov Here ∷ []) ≡ Settles settling.Settled ∷ Held 0 Stable ∷ [])
    × (meets (changing Client) (Confirm Here 8 "0009" (Some 100) ∷ Holds f.MinCsCov Here ∷ []) ≡ Settles settling.Settled ∷ Held 0 Stable ∷ [])
    × (meets (changing Server) (Confirm Here 8 "02" (Some 100) ∷ Holds f.MinCsCov Here ∷ []) ≡ Settles settling.Settled ∷ Held 2 Stable ∷ [])
    × (meets (changing Client) (Confirm Here 8 "02" (Some 100) ∷ Holds f.MinCsCov Here ∷ []) ≡ Settles settling.Settled ∷ Held 2 Stable ∷ [])
    × (meets (changing Server) (Confirm Here 8 "00" (Some 100) ∷ Holds f.MinCsCov Here ∷ []) ≡ Settles settling.Settled ∷ Held 0 Stable ∷ [])
    × (meets (changing Client) (Confirm Here 8 "00" (Some 100) ∷ Holds f.MinCsCov Here ∷ []) ≡ Settles settling.Settled ∷ Held 0 Stable ∷ [])
    -- Of another value
    × (meets (changing Server) (Confirm Here 8 "020201" (Some 100) ∷ Holds f.MinCsCov Here ∷ []) ≡ Settles settling.Fatal ∷ Held 0 Changing ∷ [])
    × (meets (changing Client) (Confirm Here 8 "010201" (Some 100) ∷ Holds f.MinCsCov Here ∷ []) ≡ Settles settling.Fatal ∷ Held 0 Changing ∷ [])
    × (meets (changing Server) (Confirm Here 8 "0909" (Some 100) ∷ Holds f.MinCsCov Here ∷ []) ≡ Settles settling.Fatal ∷ Held 0 Changing ∷ [])
    × (meets (changing Client) (Confirm Here 8 "0909" (Some 100) ∷ Holds f.MinCsCov Here ∷ []) ≡ Settles settling.Fatal ∷ Held 0 Changing ∷ [])
    × (meets (changing Server) (Confirm Here 8 "0109" (Some 100) ∷ Holds f.MinCsCov Here ∷ []) ≡ Settles settling.Fatal ∷ Held 0 Changing ∷ [])
    × (meets (changing Client) (Confirm Here 8 "0109" (Some 100) ∷ Holds f.MinCsCov Here ∷ []) ≡ Settles settling.Fatal ∷ Held 0 Changing ∷ [])
    × (meets (changing Server) (Confirm Here 8 "09" (Some 100) ∷ Holds f.MinCsCov Here ∷ []) ≡ Settles settling.Fatal ∷ Held 0 Changing ∷ [])
    × (meets (changing Client) (Confirm Here 8 "09" (Some 100) ∷ Holds f.MinCsCov Here ∷ []) ≡ Settles settling.Fatal ∷ Held 0 Changing ∷ [])
    -- A wish, and a sending: the first of a wish's Changes counts, and of wishes that wait the last
    × (meets (stable Server) (Prefer f.MinCsCov Here (2 ∷ 1 ∷ []) ∷ Holds f.MinCsCov Here ∷ Active f.MinCsCov Here ∷ [])
    ≡ Asks opening.Now ∷ Held 0 Changing ∷ Wished (Some (wanted.List (2 ∷ 1 ∷ []))) ∷ [])
    × (meets (stable Client) (Prefer f.MinCsCov Here (2 ∷ 1 ∷ []) ∷ Holds f.MinCsCov Here ∷ Active f.MinCsCov Here ∷ [])
    ≡ Asks opening.Now ∷ Held 0 Changing ∷ Wished (Some (wanted.List (2 ∷ 1 ∷ []))) ∷ [])
    × (meets (changing Server) (Send f.MinCsCov Here 105 ∷ Active f.MinCsCov Here ∷ Confirm Here 8 "0101" (Some 100) ∷ [])
    ≡ Wished (Some (wanted.List (1 ∷ 2 ∷ []))) ∷ Settles settling.Settled ∷ [])
    × (meets (changing Client) (Send f.MinCsCov Here 105 ∷ Active f.MinCsCov Here ∷ Confirm Here 8 "0101" (Some 100) ∷ [])
    ≡ Wished (Some (wanted.List (1 ∷ 2 ∷ []))) ∷ Settles settling.Settled ∷ [])
    × (meets (changing Server) (Send f.MinCsCov Here 105 ∷ Prefer f.MinCsCov Here (2 ∷ 1 ∷ []) ∷ Holds f.MinCsCov Here ∷
    Prefer f.MinCsCov Here (3 ∷ []) ∷ Holds f.MinCsCov Here ∷ Active f.MinCsCov Here ∷ [])
    ≡ Asks opening.Later ∷ Held 0 Unstable ∷ Asks opening.Later ∷ Held 0 Unstable ∷ Wished (Some (wanted.List (1 ∷ 2 ∷ []))) ∷ [])
    × (meets (changing Client) (Send f.MinCsCov Here 105 ∷ Prefer f.MinCsCov Here (2 ∷ 1 ∷ []) ∷ Holds f.MinCsCov Here ∷
    Prefer f.MinCsCov Here (3 ∷ []) ∷ Holds f.MinCsCov Here ∷ Active f.MinCsCov Here ∷ [])
    ≡ Asks opening.Later ∷ Held 0 Unstable ∷ Asks opening.Later ∷ Held 0 Unstable ∷ Wished (Some (wanted.List (1 ∷ 2 ∷ []))) ∷ [])
    × (meets (changing Server) (Send f.MinCsCov Here 105 ∷ Prefer f.MinCsCov Here (2 ∷ 1 ∷ []) ∷ Prefer f.MinCsCov Here (3 ∷ []) ∷
    Send f.MinCsCov Here 110 ∷ Holds f.MinCsCov Here ∷ Active f.MinCsCov Here ∷ Confirm Here 8 "0303" (Some 109) ∷
    Confirm Here 8 "0303" (Some 110) ∷ [])
    ≡ Asks opening.Later ∷ Asks opening.Later ∷ Held 0 Changing ∷ Wished (Some (wanted.List (3 ∷ []))) ∷ Settles settling.Ignored ∷
    Settles settling.Settled ∷ [])
    × (meets (changing Client) (Send f.MinCsCov Here 105 ∷ Prefer f.MinCsCov Here (2 ∷ 1 ∷ []) ∷ Prefer f.MinCsCov Here (3 ∷ []) ∷
    Send f.MinCsCov Here 110 ∷ Holds f.MinCsCov Here ∷ Active f.MinCsCov Here ∷ Confirm Here 8 "0303" (Some 109) ∷
    Confirm Here 8 "0303" (Some 110) ∷ [])
    ≡ Asks opening.Later ∷ Asks opening.Later ∷ Held 0 Changing ∷ Wished (Some (wanted.List (3 ∷ []))) ∷ Settles settling.Ignored ∷
    Settles settling.Settled ∷ [])
the_table_of_negotiation = (
  refl,
  refl,
  refl,
  refl,
  refl,
  refl,
  refl,
  refl,
  refl,
  refl,
  refl,
  refl,
  refl,
  refl,
  refl,
  refl,
  refl,
  refl,
  refl,
  refl,
  refl,
  refl,
  refl,
  refl,
  refl,
  refl,
  refl,
  refl,
  refl,
  refl,
  refl,
  refl,
  refl,
  refl,
  refl,
  refl,
  refl,
  refl,
  refl,
  refl,
  refl,
  refl,
  refl,
  refl,
  refl,
  refl,
  refl,
  refl,
  refl,
  refl,
  refl,
  refl,
  refl,
  refl,
  refl,
  refl,
  refl,
  refl,
  refl,
  refl,
  refl,
  refl,
  refl,
  refl,
  refl,
  refl,
  refl,
  refl,
  refl,
  refl,
)
