-- Peers are read exactly as they are written.
use Rattle.std.proofs.Common.{◌≡◌, refl, sym, ap, ◌∙◌, subst, ℕ, ◌^◌, ◌<◌, List, [], ◌∷◌, ◌++◌, length, length-append, append_assoc, Bool, true, ◌&&◌, Option, Some, None, arith}
use Rattle.std.specs.Prelude.{decimal, All}
use Rattle.std.specs.List.{list_all, join_with_byte}
use Rattle.std.proofs.lemmas.Bool.Decides.{nat_tests}
use Rattle.std.proofs.lemmas.List.Elements.{All-head, All-tail, All-nil, All-cons}
use Rattle.std.proofs.lemmas.List.Folds.{list_all-append}
use Rattle.std.proofs.lemmas.List.Splits.{join_with_byte-slice_split}
use Rattle.dccp_listener.specs.declared.peer.Peer.{Peer}
use Rattle.tool_text.specs.Numbers.{is_digit, number_below}
use Rattle.tool_text.specs.Text.{v4_text}
use Rattle.tool_text.specs.Kinds.{IsExactKind, is_whole_word, is_word_byte}
use Rattle.tool_text.specs.Words.{parted_by}
use Rattle.tool_text.specs.declared.words.faults.LineWhy.TheVariants as why
use Rattle.tool_text.proofs.Bytes.{all-weaker, and-true, both-true, bytes-word, decimal-digits, joined-parts, lacks}
use Rattle.tool_text.proofs.KindLaws.{found-is}
use Rattle.tool_text.proofs.Numerals.{number-spelled, number-read}
use Rattle.tool_jobs.specs.Peers.{IsPeer, address_of_parts, all_four, peer_at, peer_kind, peer_of, peer_of_parts, peer_text}

-- Bytes of numbers

digit-no-dot : (byte : ℕ) → is_digit byte ≡ true → lacks 46 byte ≡ true
digit-no-dot byte is = grind (arith, nat_tests)

digit-no-colon : (byte : ℕ) → is_digit byte ≡ true → lacks 58 byte ≡ true
digit-no-colon byte is = grind (arith, nat_tests)

digit-of-word : (byte : ℕ) → is_digit byte ≡ true → is_word_byte byte ≡ true
digit-of-word byte is = grind (arith, nat_tests)

decimal-all : (p : ℕ → Bool) → ((byte : ℕ) → is_digit byte ≡ true → p byte ≡ true) → (n : ℕ) → n < 65536 → list_all p (decimal n) ≡ true
decimal-all p weaker n small = let fits : n < 2 ^ 64 = omega arith in all-weaker is_digit p weaker (decimal n) (decimal-digits n fits)

-- all bytes of pieces and of what joins them
joined-all : (p : ℕ → Bool) (mark : ℕ) (w : List ℕ) (ws : List (List ℕ)) → p mark ≡ true → list_all (list_all p) (w ∷ ws) ≡ true
    → list_all p (join_with_byte mark (w ∷ ws)) ≡ true
joined-all p mark w [] is every = (both-true (list_all p w) true every).0
joined-all p mark w (next ∷ ws) is every =
    let both = both-true (list_all p w) (list_all (list_all p) (next ∷ ws)) every in
    list_all-append p w (mark ∷ join_with_byte mark (next ∷ ws))
    ∙ and-true (list_all p w) (p mark && list_all p (join_with_byte mark (next ∷ ws))) both.0
    (and-true (p mark) (list_all p (join_with_byte mark (next ∷ ws))) is (joined-all p mark next ws is both.1))

-- Addresses

-- an address is its numbers, joined by dots
v4-joined : (a b c d : ℕ) → v4_text (a ∷ b ∷ c ∷ d ∷ []) ≡ join_with_byte 46 (decimal a ∷ decimal b ∷ decimal c ∷ decimal d ∷ [])
v4-joined a b c d =
    let dot : List ℕ = 46 ∷ [] in
    append_assoc (decimal a ++ dot ++ decimal b ++ dot ++ decimal c) (46 ∷ []) (decimal d)
    ∙ ap (λ (front : List ℕ). front ++ (46 ∷ decimal d))
    (append_assoc (decimal a ++ dot ++ decimal b) (46 ∷ []) (decimal c)
    ∙ ap (λ (front : List ℕ). front ++ (46 ∷ decimal c)) (append_assoc (decimal a) (46 ∷ []) (decimal b))
    ∙ append_assoc (decimal a) (46 ∷ decimal b) (46 ∷ decimal c))
    ∙ append_assoc (decimal a) (46 ∷ (decimal b ++ (46 ∷ decimal c))) (46 ∷ decimal d)
    ∙ ap (λ (following : List ℕ). decimal a ++ (46 ∷ following)) (append_assoc (decimal b) (46 ∷ decimal c) (46 ∷ decimal d))

-- four numbers of an address
record AreSmall (a b c d : ℕ) : Type 0 where
  pub first : a < 256
  pub second : b < 256
  pub third : c < 256
  pub fourth : d < 256

four-all : (p : ℕ → Bool) → ((byte : ℕ) → is_digit byte ≡ true → p byte ≡ true) → (a b c d : ℕ) → AreSmall a b c d
    → list_all (list_all p) (decimal a ∷ decimal b ∷ decimal c ∷ decimal d ∷ []) ≡ true
four-all p weaker a b c d small =
    let e = small.first in let f = small.second in let g = small.third in let h = small.fourth in
    and-true (list_all p (decimal a)) (list_all (list_all p) (decimal b ∷ decimal c ∷ decimal d ∷ [])) (decimal-all p weaker a (omega arith))
    (and-true (list_all p (decimal b)) (list_all (list_all p) (decimal c ∷ decimal d ∷ [])) (decimal-all p weaker b (omega arith))
    (and-true (list_all p (decimal c)) (list_all (list_all p) (decimal d ∷ [])) (decimal-all p weaker c (omega arith))
    (and-true (list_all p (decimal d)) true (decimal-all p weaker d (omega arith)) refl)))

address-read : (a b c d : ℕ) → AreSmall a b c d → address_of_parts (parted_by 46 (v4_text (a ∷ b ∷ c ∷ d ∷ []))) ≡ Some (a ∷ b ∷ c ∷ d ∷ [])
address-read a b c d small =
    let e = small.first in let f = small.second in let g = small.third in let h = small.fourth in
    let first : number_below 256 (decimal a) ≡ Some a = number-read 256 (omega arith) a e in
    let second : number_below 256 (decimal b) ≡ Some b = number-read 256 (omega arith) b f in
    let third : number_below 256 (decimal c) ≡ Some c = number-read 256 (omega arith) c g in
    let fourth : number_below 256 (decimal d) ≡ Some d = number-read 256 (omega arith) d h in
    ap (λ (text : List ℕ). address_of_parts (parted_by 46 text)) (v4-joined a b c d)
    ∙ ap address_of_parts (joined-parts 46 (decimal a) (decimal b ∷ decimal c ∷ decimal d ∷ []) (four-all (lacks 46) digit-no-dot a b c d small))
    ∙ ap (λ (p : Option ℕ). all_four p (number_below 256 (decimal b)) (number_below 256 (decimal c)) (number_below 256 (decimal d))) first
    ∙ ap (λ (p : Option ℕ). all_four (Some a) p (number_below 256 (decimal c)) (number_below 256 (decimal d))) second
    ∙ ap (λ (p : Option ℕ). all_four (Some a) (Some b) p (number_below 256 (decimal d))) third
    ∙ ap (λ (p : Option ℕ). all_four (Some a) (Some b) (Some c) p) fourth

-- four numbers that were read
record AreFour (p q r s : Option ℕ) (address : List ℕ) : Type 0 where
  pub a : ℕ
  pub b : ℕ
  pub c : ℕ
  pub d : ℕ
  pub first : p ≡ Some a
  pub second : q ≡ Some b
  pub third : r ≡ Some c
  pub fourth : s ≡ Some d
  pub is : a ∷ b ∷ c ∷ d ∷ [] ≡ address

four-by : (p q r s : Option ℕ) (address : List ℕ) → all_four p q r s ≡ Some address → AreFour p q r s address
four-by None q r s address is = cc is
four-by (Some a) None r s address is = cc is
four-by (Some a) (Some b) None s address is = cc is
four-by (Some a) (Some b) (Some c) None address is = cc is
four-by (Some a) (Some b) (Some c) (Some d) address is =
    record { a = a; b = b; c = c; d = d; first = refl; second = refl; third = refl; fourth = refl; is = cc is }

-- the pieces of an address
record AreNumbers (parts : List (List ℕ)) (address : List ℕ) : Type 0 where
  pub a : ℕ
  pub b : ℕ
  pub c : ℕ
  pub d : ℕ
  pub texts : parts ≡ decimal a ∷ decimal b ∷ decimal c ∷ decimal d ∷ []
  pub small : AreSmall a b c d
  pub is : a ∷ b ∷ c ∷ d ∷ [] ≡ address

address-spelled : (parts : List (List ℕ)) (address : List ℕ) → address_of_parts parts ≡ Some address → AreNumbers parts address
address-spelled (a ∷ (b ∷ (c ∷ (d ∷ [])))) address is =
    let four = four-by (number_below 256 a) (number_below 256 b) (number_below 256 c) (number_below 256 d) address is in
    let first = number-spelled 256 (omega arith) a four.a four.first in
    let second = number-spelled 256 (omega arith) b four.b four.second in
    let third = number-spelled 256 (omega arith) c four.c four.third in
    let fourth = number-spelled 256 (omega arith) d four.d four.fourth in
    record {
      a = four.a;
      b = four.b;
      c = four.c;
      d = four.d;
      texts = ap (λ (w : List ℕ). w ∷ b ∷ c ∷ d ∷ []) first.0 ∙ ap (λ (w : List ℕ). decimal four.a ∷ w ∷ c ∷ d ∷ []) second.0
          ∙ ap (λ (w : List ℕ). decimal four.a ∷ decimal four.b ∷ w ∷ d ∷ []) third.0
          ∙ ap (λ (w : List ℕ). decimal four.a ∷ decimal four.b ∷ decimal four.c ∷ w ∷ []) fourth.0;
      small = record { first = first.1; second = second.1; third = third.1; fourth = fourth.1 };
      is = four.is;
    }
address-spelled _ address is = cc is

-- Peers

-- a peer is its address and its port, joined by a colon
written-as : (peer : Peer) → peer_text peer ≡ v4_text peer.address ++ (58 ∷ decimal peer.port)
unfolding peer_text
written-as peer = append_assoc (v4_text peer.address) (58 ∷ []) (decimal peer.port)

-- an address and a port that were read
record ArePeer (address : Option (List ℕ)) (port : Option ℕ) (peer : Peer) : Type 0 where
  pub numbers : List ℕ
  pub number : ℕ
  pub first : address ≡ Some numbers
  pub second : port ≡ Some number
  pub is : record { address = numbers; port = number } ≡ peer

peer-found : (address : Option (List ℕ)) (port : Option ℕ) (peer : Peer) → peer_at address port ≡ Some peer → ArePeer address port peer
peer-found None port peer is = cc is
peer-found (Some address) None peer is = cc is
peer-found (Some address) (Some port) peer is = record { numbers = address; number = port; first = refl; second = refl; is = cc is }

peer-by : (text : List ℕ) (parts : List (List ℕ)) (peer : Peer) → join_with_byte 58 parts ≡ text → peer_of_parts parts ≡ Some peer
    → (text ≡ peer_text peer) × IsPeer peer
peer-by text (address ∷ (port ∷ [])) peer whole is =
    let found = peer-found (address_of_parts (parted_by 46 address)) (number_below 65536 port) peer is in
    let four = address-spelled (parted_by 46 address) found.numbers found.first in
    let number = number-spelled 65536 (omega arith) port found.number found.second in
    let spelled : address ≡ v4_text found.numbers =
    sym (join_with_byte-slice_split 46 address) ∙ ap (join_with_byte 46) four.texts ∙ sym (v4-joined four.a four.b four.c four.d) ∙ ap v4_text four.is in
    let written : text ≡ v4_text found.numbers ++ (58 ∷ decimal found.number) =
    sym whole ∙ ap (λ (a : List ℕ). a ++ (58 ∷ port)) spelled ∙ ap (λ (p : List ℕ). v4_text found.numbers ++ (58 ∷ p)) number.0 in
    let bytes : All (λ byte. byte < 256) (four.a ∷ four.b ∷ four.c ∷ four.d ∷ []) =
    All-cons (λ byte. byte < 256) four.a (four.b ∷ four.c ∷ four.d ∷ []) four.small.first
    (All-cons (λ byte. byte < 256) four.b (four.c ∷ four.d ∷ []) four.small.second
    (All-cons (λ byte. byte < 256) four.c (four.d ∷ []) four.small.third
    (All-cons (λ byte. byte < 256) four.d [] four.small.fourth (All-nil (λ byte. byte < 256))))) in
    subst (λ (p : Peer). (text ≡ peer_text p) × IsPeer p) found.is (
      written ∙ sym (written-as (record { address = found.numbers; port = found.number })),
      record {
        four = sym (ap length four.is);
        bytes = subst (λ (address : List ℕ). All (λ byte. byte < 256) address) four.is bytes;
        small = number.1;
      },
    )
peer-by text _ peer whole is = cc is

peer-means : (text : List ℕ) (peer : Peer) → peer_of text ≡ Some peer → (text ≡ peer_text peer) × IsPeer peer
peer-means text peer is = peer-by text (parted_by 58 text) peer (join_with_byte-slice_split 58 text) is

-- an address is four numbers below 256
record IsAddress (address : List ℕ) : Type 0 where
  pub a : ℕ
  pub b : ℕ
  pub c : ℕ
  pub d : ℕ
  pub small : AreSmall a b c d
  pub is : a ∷ b ∷ c ∷ d ∷ [] ≡ address

address-by : (address : List ℕ) → length address ≡ 4 → All (λ byte. byte < 256) address → IsAddress address
address-by (a ∷ (b ∷ (c ∷ (d ∷ [])))) four bytes =
    let past_a = All-tail (λ byte. byte < 256) a (b ∷ c ∷ d ∷ []) bytes in
    let past_b = All-tail (λ byte. byte < 256) b (c ∷ d ∷ []) past_a in
    let past_c = All-tail (λ byte. byte < 256) c (d ∷ []) past_b in
    record {
      a = a;
      b = b;
      c = c;
      d = d;
      small = record {
        first = All-head (λ byte. byte < 256) a (b ∷ c ∷ d ∷ []) bytes;
        second = All-head (λ byte. byte < 256) b (c ∷ d ∷ []) past_a;
        third = All-head (λ byte. byte < 256) c (d ∷ []) past_b;
        fourth = All-head (λ byte. byte < 256) d [] past_c;
      };
      is = refl;
    }
address-by _ four bytes = absurd (omega arith)

-- all bytes of a peer
peer-all : (p : ℕ → Bool) → ((byte : ℕ) → is_digit byte ≡ true → p byte ≡ true) → p 46 ≡ true → (a b c d : ℕ) → AreSmall a b c d
    → list_all p (v4_text (a ∷ b ∷ c ∷ d ∷ [])) ≡ true
peer-all p weaker dot a b c d small = ap (list_all p) (v4-joined a b c d)
    ∙ joined-all p 46 (decimal a) (decimal b ∷ decimal c ∷ decimal d ∷ []) dot (four-all p weaker a b c d small)

written-read : (a b c d port : ℕ) → AreSmall a b c d → port < 65536
    → peer_of (v4_text (a ∷ b ∷ c ∷ d ∷ []) ++ (58 ∷ decimal port)) ≡ Some (record { address = a ∷ b ∷ c ∷ d ∷ []; port = port })
written-read a b c d port small fits =
    let address = v4_text (a ∷ b ∷ c ∷ d ∷ []) in
    ap peer_of_parts
    (joined-parts 58 address (decimal port ∷ [])
    (and-true (list_all (lacks 58) address) (list_all (list_all (lacks 58)) (decimal port ∷ [])) (peer-all (lacks 58) digit-no-colon refl a b c d small)
    (and-true (list_all (lacks 58) (decimal port)) true (decimal-all (lacks 58) digit-no-colon port fits) refl)))
    ∙ ap (λ (found : Option (List ℕ)). peer_at found (number_below 65536 (decimal port))) (address-read a b c d small)
    ∙ ap (λ (found : Option ℕ). peer_at (Some (a ∷ b ∷ c ∷ d ∷ [])) found) (number-read 65536 (omega arith) port fits)

peer-back : (text : List ℕ) (peer : Peer) → (text ≡ peer_text peer) × IsPeer peer → peer_of text ≡ Some peer
peer-back text peer is =
    let peers = is.1 in
    let address = address-by peer.address peers.four peers.bytes in
    ap peer_of (is.0 ∙ written-as peer)
    ∙ subst (λ (xs : List ℕ). peer_of (v4_text xs ++ (58 ∷ decimal peer.port)) ≡ Some (record { address = xs; port = peer.port })) address.is
    (written-read address.a address.b address.c address.d peer.port address.small peers.small)

some-bytes : (front following : List ℕ) → 0 < length (front ++ (58 ∷ following))
some-bytes front following = omega (arith, length-append front (58 ∷ following))

written-word : (a b c d port : ℕ) → AreSmall a b c d → port < 65536 → is_whole_word (v4_text (a ∷ b ∷ c ∷ d ∷ []) ++ (58 ∷ decimal port)) ≡ true
written-word a b c d port small fits =
    let address = v4_text (a ∷ b ∷ c ∷ d ∷ []) in
    bytes-word (address ++ (58 ∷ decimal port)) (some-bytes address (decimal port))
    (joined-all is_word_byte 58 address (decimal port ∷ []) refl
    (and-true (list_all is_word_byte address) (list_all (list_all is_word_byte) (decimal port ∷ [])) (peer-all is_word_byte digit-of-word refl a b c d small)
    (and-true (list_all is_word_byte (decimal port)) true (decimal-all is_word_byte digit-of-word port fits) refl)))

peer-words : (text : List ℕ) (peer : Peer) → (text ≡ peer_text peer) × IsPeer peer → is_whole_word text ≡ true
peer-words text peer is =
    let peers = is.1 in
    let address = address-by peer.address peers.four peers.bytes in
    ap is_whole_word (is.0 ∙ written-as peer)
    ∙ subst (λ (xs : List ℕ). is_whole_word (v4_text xs ++ (58 ∷ decimal peer.port)) ≡ true) address.is
    (written-word address.a address.b address.c address.d peer.port address.small peers.small)

pub peer-is : IsExactKind peer_kind
peer-is = found-is why.BadPeer peer_of (λ peer text. (text ≡ peer_text peer) × IsPeer peer) peer-means peer-back peer-words
