-- An option of a packet as an object (RFC 4340, section 5.8, for the options; the names of members are own).
use Rattle.std.specs.Prelude.{ℕ, ◌+◌, ◌*◌, ◌/◌, ◌%◌, ◌^◌, ◌&&◌, ◌||◌, ◌==◌, nat_le, nat_lt, Bool, if◌then◌else◌, List, [], ◌∷◌, length, drop, take, map, codes, Option, Some, None, Result, Ok, Err}
use Rattle.hex.specs.Hex.{encode_lower}
use Rattle.serde_json.specs.Data.{Data as Json, Members, no_members, number, object, unsigned}
use Rattle.dccp_options.specs.Grammar.{Entry}
use Rattle.dccp_options.specs.Kinds as kinds
use Rattle.dccp_options.specs.declared.option.OptFault.{OptFault}
use Rattle.packet_show.specs.Names.{option_name}
use Rattle.bridge_command.specs.Members.{with_list_named, with_number_named, with_text_named, with_truth_named}

-- the number that bytes are, the most significant first, after these higher bits; of more than eight bytes the last eight count
abbrev pub number_after : ℕ → List ℕ → ℕ
number_after before [] = before
number_after before (byte ∷ bytes) = number_after ((before * 256 + byte) % 2 ^ 64) bytes

-- bytes in hexadecimal, if there are any
abbrev pub with_bytes : List ℕ → Members → Members
with_bytes [] members = members
with_bytes (byte ∷ bytes) members = with_text_named (codes "bytes") (encode_lower (byte ∷ bytes)) members

-- each byte as a number
abbrev pub byte_values : List ℕ → List Json
byte_values bytes = map (λ byte. number (unsigned byte)) bytes

-- the values of a feature: one number if it is not negotiable, as Sequence Window and Ack Ratio are, and else a byte each (RFC 4340, section
-- 6.4)
abbrev pub feature_values : ℕ → List ℕ → List Json
feature_values feature values =
    if (feature == 3 || feature == 5) && nat_le 1 (length values) then number (unsigned (number_after 0 values)) ∷ [] else byte_values values

-- a feature's number and values, if there is one (RFC 4340, section 6.1)
abbrev pub with_feature : List ℕ → Members → Members
with_feature [] members = members
with_feature (feature ∷ values) members = with_list_named (codes "values") (feature_values feature values) (with_number_named (codes "feature") feature members)

-- a run of an Ack Vector: its state, and how many numbers have it (RFC 4340, section 11.4)
abbrev pub vector_run : ℕ → Members
vector_run byte = with_number_named (codes "length") (byte % 64 + 1) (with_number_named (codes "state") (byte / 64) no_members)

-- an Ack Vector of this nonce
abbrev pub vector_runs : List ℕ → List Json
vector_runs body = map (λ byte. object (vector_run byte)) body

-- the members of an option with an Ack Vector
abbrev pub with_vector : ℕ → List ℕ → Members → Members
with_vector nonce body members = with_list_named (codes "runs") (vector_runs body) (with_number_named (codes "nonce") nonce members)

-- a block of Data Dropped: how many packets, and a Drop Code if it reports lost data (RFC 4340, section 11.7)
abbrev pub drop_block : ℕ → Members
drop_block byte =
    if nat_lt byte 128 then with_number_named (codes "length") (byte % 128 + 1) no_members
    else with_number_named (codes "code") (byte / 16 % 8) (with_number_named (codes "length") (byte % 16 + 1) no_members)

-- all blocks of the option
abbrev pub drop_blocks : List ℕ → List Json
drop_blocks body = map (λ byte. object (drop_block byte)) body

-- the members of an option with Data Dropped
abbrev pub with_drops : List ℕ → Members → Members
with_drops body members = with_list_named (codes "blocks") (drop_blocks body) members

-- a Timestamp Echo of six or eight bytes: the Timestamp, and the time that elapsed since it came (RFC 4340, section 13.3)
abbrev pub with_echo : List ℕ → Members → Members
with_echo body members =
    with_number_named (codes "elapsed") (number_after 0 (drop 4 body)) (with_number_named (codes "timestamp") (number_after 0 (take 4 body)) members)

-- the name of the number that an option of this type is, if it has this many bytes (RFC 4340, sections 7.7, 9.3 and 13)
abbrev pub number_name : ℕ → ℕ → Option (List ℕ)
number_name kind size =
    if kind == kinds.ndp_count && (nat_le 1 size && nat_le size 6) then Some (codes "count")
    else if kind == kinds.timestamp && size == 4 then Some (codes "timestamp")
    else if kind == kinds.timestamp_echo && size == 4 then Some (codes "timestamp")
    else if kind == kinds.elapsed_time && (size == 2 || size == 4) then Some (codes "elapsed")
    else if kind == kinds.data_checksum && size == 4 then Some (codes "checksum")
    else None

-- such a number, or else the bytes
abbrev pub with_number_or_bytes : Option (List ℕ) → List ℕ → Members → Members
with_number_or_bytes (Some name) body members = with_number_named name (number_after 0 body) members
with_number_or_bytes None body members = with_bytes body members

-- what an option carries, depending on its type: a Change or a Confirm, an Ack Vector and its nonce, Data Dropped, or a number
unfoldable pub with_fields : ℕ → List ℕ → Members → Members
with_fields kind body members =
    if nat_le kinds.change_l kind && nat_le kind kinds.confirm_r then with_feature body members
    else if kind == kinds.ack_vector_0 then with_vector 0 body members
    else if kind == kinds.ack_vector_1 then with_vector 1 body members
    else if kind == kinds.data_dropped then with_drops body members
    else if kind == kinds.timestamp_echo && (length body == 6 || length body == 8) then with_echo body members
    else with_number_or_bytes (number_name kind (length body)) body members

-- an option: its type, its name as `show` has it, whether Mandatory marks it, and what it carries
abbrev pub with_option : ℕ → Bool → List ℕ → Members → Members
with_option kind mandatory body members =
    with_fields kind body
    (with_truth_named (codes "mandatory") mandatory (with_text_named (codes "name") (option_name kind) (with_number_named (codes "type") kind members)))

-- an item of a list as an object, which may be the fault of Mandatory that ends the options
unfoldable pub option_members : Result Entry OptFault → Members
option_members (Ok o) = with_option o.kind o.mandatory o.body no_members
option_members (Err _) = with_text_named (codes "fault") (codes "mandatory") no_members

-- The options of a packet as objects.
abbrev pub option_values : List (Result Entry OptFault) → List Json
option_values items = map (λ item. object (option_members item)) items
