-- What is listed for the rows.
use Rattle.std.proofs.Common.{◌≡◌, ℕ, ◌+◌, ◌<◌, ◌==◌, Bool, true, false, ◌||◌, eq-eqb, suc, take, drop, ◌++◌, append_assoc, List, [], ◌∷◌, length, map, get_or, set, refl, sym, ap, ◌∙◌, subst, arith}
use Rattle.std.proofs.lemmas.Bool.{or_left}
use Rattle.std.proofs.lemmas.List.{length-map, get_or-map, map-append, take_more, length-take-le}
use Rattle.std.proofs.Math.Seq.{drop-cons, set-append_seam}
use Rattle.feature_lists.specs.Wishes.{is_ours}
use Rattle.feature_lists.specs.declared.features.Feature.{Feature}
use Rattle.feature_lists.specs.declared.features.Feature.TheVariants as f
use Rattle.feature_lists.specs.declared.features.Place.{Place}
use Rattle.feature_lists.specs.declared.features.Place.TheVariants as located
use Rattle.feature_machine.specs.declared.stands.Role2.{Role2}
use Rattle.feature_machine.specs.declared.offers.RowSetup.{RowSetup}
use Rattle.feature_machine.specs.Lists.{index_of, usual_listed, usual_lists, listed_at, unoffered, without_offers, IsListedFor, IsLists}
use Rattle.feature_machine.specs.Negotiating.{first_row, first_rows, IsNegotiation}
use Rattle.feature_lists.specs.Features.{initial_of, is_permitted}
use Rattle.feature_machine.specs.Sound.{IsRowOf, is_active}
use Rattle.feature_machine.proofs.Places.{index_below}

usual_is_listed : (feature : Feature) (place : Place) → IsListedFor feature place (listed_at usual_lists feature place)
usual_is_listed f.EcnIncapable located.Here = record { feature_is = refl; place_is = refl; wish = refl; offer = λ ours. cc }
usual_is_listed f.SendAckVector located.There = record { feature_is = refl; place_is = refl; wish = refl; offer = λ ours. cc }
usual_is_listed _ located.Here = record { feature_is = refl; place_is = refl; wish = refl; offer = λ ours. refl }
usual_is_listed _ located.There = record { feature_is = refl; place_is = refl; wish = refl; offer = λ ours. refl }

pub usual_are_lists : IsLists usual_lists
usual_are_lists = record { size = refl; each = usual_is_listed }

unoffered_is_listed : (feature : Feature) (place : Place) (listed : RowSetup) → IsListedFor feature place listed → IsListedFor feature place (unoffered listed)
unoffered_is_listed feature place listed its = record { feature_is = its.feature_is; place_is = its.place_is; wish = its.wish; offer = λ ours. refl }

pub without_offers_are_lists : (lists : List RowSetup) → IsLists lists → IsLists (without_offers lists)
without_offers_are_lists lists its =
    record {
      size = length-map lists unoffered ∙ its.size;
      each = λ feature place.
          let inside : index_of feature place < length lists = (let n = index_below feature place in let size = its.size in omega arith) in
          subst (λ listed. IsListedFor feature place listed)
          (sym (get_or-map unoffered lists (index_of feature place) (usual_listed f.Ccid located.Here) (usual_listed f.Ccid located.Here) inside))
          (unoffered_is_listed feature place (listed_at lists feature place) (its.each feature place));
    }

first_is_row : (r : Role2) (feature : Feature) (place : Place) (listed : RowSetup) → IsListedFor feature place listed → IsRowOf feature place (first_row r listed)
first_is_row r feature place listed its =
    let initial : (initial_of listed.feature == initial_of listed.feature) ≡ true = eq-eqb (initial_of listed.feature) (initial_of listed.feature) refl in
    record {
      feature_is = its.feature_is;
      place_is = its.place_is;
      sound = record {
        value = or_left (initial_of listed.feature == initial_of listed.feature) (is_permitted listed.feature listed.place (initial_of listed.feature)) initial;
        active =
            subst (λ x. is_active x listed.place listed.wish ≡ true) (sym its.feature_is)
            (subst (λ y. is_active feature y listed.wish ≡ true) (sym its.place_is) its.wish);
        pending = refl;
        quiet = λ ours. record {
          stand = refl;
          offer = its.offer (subst (λ x. is_ours x place ≡ false) its.feature_is (subst (λ y. is_ours listed.feature y ≡ false) its.place_is ours));
        };
      };
    }

pub first_are_rows : (r : Role2) (lists : List RowSetup) → IsLists lists → IsNegotiation (first_rows r lists)
first_are_rows r lists its =
    record {
      size = length-map lists (first_row r) ∙ its.size;
      each = λ feature place.
          let inside : index_of feature place < length lists = (let n = index_below feature place in let size = its.size in omega arith) in
          subst (λ row. IsRowOf feature place row)
          (sym (get_or-map (first_row r) lists (index_of feature place) (usual_listed f.Ccid located.Here) _ inside))
          (first_is_row r feature place (listed_at lists feature place) (its.each feature place));
    }

-- one more element of a list that is made of another
pub mapped_more : {A B : Type 0} (f : A → B) (xs : List A) (ys : List B) (i : ℕ) (d : A) (e : B) → i < length xs → length ys ≡ length xs
    → set (map f (take i xs) ++ drop i ys) i (f (get_or xs i d)) ≡ map f (take (i + 1) xs) ++ drop (i + 1) ys
mapped_more f xs ys i d e inside size =
    let front : length (map f (take i xs)) ≡ i = length-map (take i xs) f ∙ length-take-le i xs (omega arith) in
    let back : drop i ys ≡ get_or ys i e ∷ drop (suc i) ys = drop-cons ys i e (omega arith) in
    let put = set-append_seam (map f (take i xs)) (get_or ys i e) (drop (suc i) ys) (f (get_or xs i d)) in
    let more : map f (take (i + 1) xs) ≡ map f (take i xs) ++ f (get_or xs i d) ∷ [] = ap (λ l. map f l) (take_more xs i d inside)
    ∙ map-append f (take i xs) (get_or xs i d ∷ []) in
    let joined = append_assoc (map f (take i xs)) (f (get_or xs i d) ∷ []) (drop (suc i) ys) in
    let next : i + 1 ≡ suc i = omega arith in
    rw (more, next, joined, back)
    (subst (λ k. set (map f (take i xs) ++ get_or ys i e ∷ drop (suc i) ys) k (f (get_or xs i d)) ≡ map f (take i xs) ++ f (get_or xs i d) ∷ drop
    (suc i) ys) front put)
