-- What `show` finds in a record, found in the one that is made of it.
use Rattle.std.proofs.Common.{arith, ◌≡◌, refl, sym, ap, ◌∙◌, ℕ, ◌/◌, ◌&&◌, ◌||◌, ◌==◌, List, [], ◌∷◌, length, drop, slice_index, Bool, true, false, nat_lt, if◌then◌else◌, Option, Some, None}
use Rattle.std.proofs.lemmas.Bool.Decides.{nat_tests}
use Rattle.std.proofs.lemmas.Bool.{lt-ltb, ltb-false, or_parts}
use Rattle.std.proofs.lemmas.List.{get_or-drop}
use Rattle.std.proofs.Math.ListN.{drop_of_length-le}
use Rattle.dccp_packets.specs.Grammar.{number_at}
use Rattle.packet_show.specs.Network.{carried, in_ethernet, in_frame, in_ip, in_v4, in_v6, is_v4, is_v6, version}
use Rattle.bridge_links.specs.EtherTypes.{ip_of_type, is_label_type, is_tag}
use Rattle.bridge_links.specs.Links.{IsPlainFrame, IsUnextended, bytes_at_start, captured_ip, ip_at_first, ip_by_type, ip_bytes}
use Rattle.bridge_links.specs.Starts.{ip_at, start_or}
use Rattle.bridge_links.specs.Extensions.{plain_by, upper_of}

-- no IP of either version is found where the version is another
no-v4 : (bytes : List ℕ) → (version bytes == 4) ≡ false → is_v4 bytes ≡ false
no-v4 bytes other = grind (arith, nat_tests)

no-v6 : (bytes : List ℕ) → (version bytes == 6) ≡ false → is_v6 bytes ≡ false
no-v6 bytes other = grind (arith, nat_tests)

-- where the bytes are some, IP of this version begins with them, or not
ip-at-first : (wanted : ℕ) (bytes : List ℕ) (is : Bool) → nat_lt 0 (length bytes) ≡ true → (version bytes == wanted) ≡ is
    → ip_at wanted 0 bytes ≡ (if is then Some 0 else None)
ip-at-first wanted bytes is some v =
    ap (λ (there : Bool). if there && version bytes == wanted then Some 0 else None) some
    ∙ ap (λ (right : Bool). if right then Some 0 else None) v

-- raw IP, by whether each version is found at its beginning
raw-by : (bytes : List ℕ) (four six : Bool) → nat_lt 0 (length bytes) ≡ true → (version bytes == 4) ≡ four → (version bytes == 6) ≡ six
    → in_ip (bytes_at_start (ip_at_first bytes) bytes) ≡ in_ip bytes
raw-by bytes true six some f x =
    ap (λ (start : Option ℕ). in_ip (bytes_at_start (start_or start (ip_at 6 0 bytes)) bytes)) (ip-at-first 4 bytes true some f)
raw-by bytes false true some f x =
    ap (λ (start : Option ℕ). in_ip (bytes_at_start (start_or start (ip_at 6 0 bytes)) bytes)) (ip-at-first 4 bytes false some f)
    ∙ ap (λ (start : Option ℕ). in_ip (bytes_at_start start bytes)) (ip-at-first 6 bytes true some x)
raw-by bytes false false some f x =
    let none : in_ip bytes ≡ None = rw (no-v4 bytes f, no-v6 bytes x) refl in
    ap (λ (start : Option ℕ). in_ip (bytes_at_start (start_or start (ip_at 6 0 bytes)) bytes)) (ip-at-first 4 bytes false some f)
    ∙ ap (λ (start : Option ℕ). in_ip (bytes_at_start start bytes)) (ip-at-first 6 bytes false some x)
    ∙ sym none

raw-captured : (bytes : List ℕ) → carried 101 (captured_ip 101 bytes) ≡ carried 101 bytes
raw-captured [] = refl
raw-captured (byte ∷ bytes) =
    let all : List ℕ = byte ∷ bytes in
    raw-by all (version all == 4) (version all == 6) (lt-ltb 0 (length all) (omega arith)) refl refl

-- after the header of Ethernet, where IP of this version begins there
ip-at-header : (wanted : ℕ) (bytes : List ℕ) (long is : Bool) → nat_lt 14 (length bytes) ≡ long → (version (drop 14 bytes) == wanted) ≡ is
    → ip_at wanted 14 bytes ≡ (if long && is then Some 14 else None)
ip-at-header wanted bytes long is l v =
    let there : (slice_index bytes 14 / 16 == wanted) ≡ is = ap (λ (byte : ℕ). byte / 16 == wanted) (sym (get_or-drop 14 bytes 0 0)) ∙ v in
    rw (l, there) refl

-- IP of a version is nothing else
in-v4 : (bytes : List ℕ) (whole : Bool) → is_v4 bytes ≡ whole → (version bytes == 4) ≡ true → in_ip bytes ≡ in_v4 bytes
in-v4 bytes true w four = rw w refl
in-v4 bytes false w four =
    let other : (version bytes == 6) ≡ false = grind (arith, nat_tests) in
    rw (w, no-v6 bytes other) refl

in-v6 : (bytes : List ℕ) → (version bytes == 6) ≡ true → in_ip bytes ≡ in_v6 bytes
in-v6 bytes six =
    let other : (version bytes == 4) ≡ false = grind (arith, nat_tests) in
    rw (no-v4 bytes other) refl

-- a header of Ethernet alone
nothing-after : (bytes : List ℕ) → nat_lt 14 (length bytes) ≡ false → drop 14 bytes ≡ []
nothing-after bytes short = drop_of_length-le bytes (ltb-false 14 (length bytes) short)

-- after a header of Ethernet that says IPv4
v4-stays : (bytes : List ℕ) (long four : Bool) → nat_lt 14 (length bytes) ≡ long → (version (drop 14 bytes) == 4) ≡ four
    → in_ip (bytes_at_start (ip_at 4 14 bytes) bytes) ≡ in_v4 (drop 14 bytes)
v4-stays bytes false four l f =
    ap (λ (s : Option ℕ). in_ip (bytes_at_start s bytes)) (ip-at-header 4 bytes false four l f) ∙ ap in_v4 (sym (nothing-after bytes l))
v4-stays bytes true false l f =
    let none : in_v4 (drop 14 bytes) ≡ None = rw (no-v4 (drop 14 bytes) f) refl in
    ap (λ (s : Option ℕ). in_ip (bytes_at_start s bytes)) (ip-at-header 4 bytes true false l f) ∙ sym none
v4-stays bytes true true l f =
    ap (λ (s : Option ℕ). in_ip (bytes_at_start s bytes)) (ip-at-header 4 bytes true true l f) ∙ in-v4 (drop 14 bytes) (is_v4 (drop 14 bytes)) refl f

-- the same of IPv6
v6-stays : (bytes : List ℕ) (long six : Bool) → nat_lt 14 (length bytes) ≡ long → (version (drop 14 bytes) == 6) ≡ six
    → in_ip (bytes_at_start (ip_at 6 14 bytes) bytes) ≡ in_v6 (drop 14 bytes)
v6-stays bytes false six l x =
    ap (λ (s : Option ℕ). in_ip (bytes_at_start s bytes)) (ip-at-header 6 bytes false six l x) ∙ ap in_v6 (sym (nothing-after bytes l))
v6-stays bytes true false l x =
    let none : in_v6 (drop 14 bytes) ≡ None = rw (no-v6 (drop 14 bytes) x) refl in
    ap (λ (s : Option ℕ). in_ip (bytes_at_start s bytes)) (ip-at-header 6 bytes true false l x) ∙ sym none
v6-stays bytes true true l x =
    ap (λ (s : Option ℕ). in_ip (bytes_at_start s bytes)) (ip-at-header 6 bytes true true l x) ∙ in-v6 (drop 14 bytes) x

-- by the type of Ethernet
frame-stays : (kind : ℕ) (bytes : List ℕ) (four six : Bool) → (kind == 2048) ≡ four → (kind == 34525) ≡ six → (kind == 34916) ≡ false → is_label_type kind ≡ false
    → in_ip (bytes_at_start (ip_of_type kind 14 bytes) bytes) ≡ in_frame kind (drop 14 bytes)
frame-stays kind bytes true six f x session labels = rw f (v4-stays bytes (nat_lt 14 (length bytes)) (version (drop 14 bytes) == 4) refl refl)
frame-stays kind bytes false true f x session labels = rw (f, x) (v6-stays bytes (nat_lt 14 (length bytes)) (version (drop 14 bytes) == 6) refl refl)
frame-stays kind bytes false false f x session labels = rw (f, x, session, labels) refl

ethernet-by : (bytes : List ℕ) (short : Bool) → nat_lt (length bytes) 14 ≡ short → IsPlainFrame bytes
    → in_ip (bytes_at_start (ip_by_type 12 14 bytes) bytes) ≡ in_ethernet bytes
ethernet-by bytes true s untagged = rw s refl
ethernet-by bytes false s untagged =
    let kind = number_at 12 2 bytes in
    let parts = or_parts (is_tag kind) (kind == 34916 || is_label_type kind) untagged in
    let others = or_parts (kind == 34916) (is_label_type kind) parts.1 in
    let plain : ip_by_type 12 14 bytes ≡ ip_of_type kind 14 bytes = rw (s, parts.0) refl in
    let following : in_ethernet bytes ≡ in_frame kind (drop 14 bytes) = rw s refl in
    ap (λ (start : Option ℕ). in_ip (bytes_at_start start bytes)) plain ∙ frame-stays kind bytes (kind == 2048) (kind == 34525) refl refl others.0 others.1 ∙ sym following

ethernet-captured : (bytes : List ℕ) → IsPlainFrame bytes → carried 101 (captured_ip 1 bytes) ≡ carried 1 bytes
ethernet-captured bytes untagged = ethernet-by bytes (nat_lt (length bytes) 14) refl untagged

-- a packet without extension headers stays
unextended-stays : (link : ℕ) (bytes : List ℕ) → IsUnextended link bytes → ip_bytes link bytes ≡ captured_ip link bytes
unextended-stays link bytes none =
    ap (λ (is : Bool). if is then plain_by (upper_of (captured_ip link bytes)) (captured_ip link bytes) else captured_ip link bytes) none

pub raw-stays : (bytes : List ℕ) → IsUnextended 101 bytes → carried 101 (ip_bytes 101 bytes) ≡ carried 101 bytes
raw-stays bytes none = ap (carried 101) (unextended-stays 101 bytes none) ∙ raw-captured bytes

pub ethernet-stays : (bytes : List ℕ) → IsPlainFrame bytes → IsUnextended 1 bytes → carried 101 (ip_bytes 1 bytes) ≡ carried 1 bytes
ethernet-stays bytes untagged none = ap (carried 101) (unextended-stays 1 bytes none) ∙ ethernet-captured bytes untagged
