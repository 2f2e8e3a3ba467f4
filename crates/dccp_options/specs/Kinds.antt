-- The types of options by name, and what the standard's table says about each (RFC 4340, section 5.8, table 3).
use Rattle.std.specs.Prelude.{ℕ, ◌+◌, Bool, not, ◌&&◌, ◌||◌, ◌==◌, nat_lt, nat_le, if◌then◌else◌}

-- fills up the option area (RFC 4340, section 5.8.1)
abbrev pub padding : ℕ
padding = 0

-- marks the option after it as one that must be understood (RFC 4340, section 5.8.2)
abbrev pub mandatory : ℕ
mandatory = 1

-- the receiver asks its peer not to send faster (RFC 4340, section 11.6)
abbrev pub slow_receiver : ℕ
slow_receiver = 2

-- Change L: the sender of the option is the feature's location (RFC 4340, section 6.1)
abbrev pub change_l : ℕ
change_l = 32

-- Confirm L: the feature's location answers a Change R (RFC 4340, section 6.2)
abbrev pub confirm_l : ℕ
confirm_l = 33

-- Change R: the feature's location is the peer of the option's sender (RFC 4340, section 6.1)
abbrev pub change_r : ℕ
change_r = 34

-- Confirm R: answers the Change L of the feature's location (RFC 4340, section 6.2)
abbrev pub confirm_r : ℕ
confirm_r = 35

-- lets a server keep no state before the handshake is complete (RFC 4340, section 8.1.4)
abbrev pub init_cookie : ℕ
init_cookie = 36

-- how many packets without data went before this one in a row (RFC 4340, section 7.7)
abbrev pub ndp_count : ℕ
ndp_count = 37

-- an Ack Vector whose ECN Nonce Echo is 0 (RFC 4340, section 11.4)
abbrev pub ack_vector_0 : ℕ
ack_vector_0 = 38

-- an Ack Vector whose ECN Nonce Echo is 1 (RFC 4340, section 11.4)
abbrev pub ack_vector_1 : ℕ
ack_vector_1 = 39

-- says which received packets had their data dropped, and why (RFC 4340, section 11.7)
abbrev pub data_dropped : ℕ
data_dropped = 40

-- a time of the sender that the peer is to echo (RFC 4340, section 13.1)
abbrev pub timestamp : ℕ
timestamp = 41

-- the answer to a Timestamp, with the time that its receiver held it (RFC 4340, section 13.3)
abbrev pub timestamp_echo : ℕ
timestamp_echo = 42

-- how long ago the acknowledged packet was received (RFC 4340, section 13.2)
abbrev pub elapsed_time : ℕ
elapsed_time = 43

-- a CRC of the application data (RFC 4340, section 9.3)
abbrev pub data_checksum : ℕ
data_checksum = 44

-- types 128 to 255 belong to the congestion control of a direction
abbrev pub is_ccid_specific : ℕ → Bool
is_ccid_specific kind = nat_le 128 kind

-- types 0 to 31 are one byte; all others are type, length and data
abbrev pub is_one_byte : ℕ → Bool
is_one_byte kind = nat_lt kind 32

-- an option's length by its type and the bytes of its data: the type and the length count too
abbrev pub length_of : ℕ → ℕ → ℕ
length_of kind size = if is_one_byte kind then 1 else size + 2

-- the type is in the table, with this length
abbrev pub has_permitted_length : ℕ → ℕ → Bool
has_permitted_length kind count =
    (kind == padding && count == 1)
    || (kind == mandatory && count == 1)
    || (kind == slow_receiver && count == 1)
    || ((kind == change_l || kind == confirm_l) && nat_le 3 count)
    || ((kind == change_r || kind == confirm_r) && nat_le 3 count)
    || (kind == init_cookie && nat_le 2 count)
    || (kind == ndp_count && (nat_le 3 count && nat_le count 8))
    || ((kind == ack_vector_0 || kind == ack_vector_1) && nat_le 2 count)
    || (kind == data_dropped && nat_le 2 count)
    || (kind == timestamp && count == 6)
    || (kind == timestamp_echo && (count == 6 || count == 8 || count == 10))
    || (kind == elapsed_time && (count == 4 || count == 6))
    || (kind == data_checksum && count == 6)
    || (is_ccid_specific kind && nat_le 2 count)

-- an option is understood if the table has its type with its length; Init Cookie and options that belong to a CCID are not (own)
abbrev pub is_understood : ℕ → ℕ → Bool
is_understood kind size =
    has_permitted_length kind (length_of kind size) && (not (kind == init_cookie) && not (is_ccid_specific kind))

-- the types that Data packets ignore: Mandatory, Change and Confirm, Init Cookie, Ack Vector, Data Dropped and Elapsed
-- Time
abbrev pub is_ignored_on_data : ℕ → Bool
is_ignored_on_data kind =
    kind == mandatory
    || kind == change_l || kind == confirm_l || kind == change_r || kind == confirm_r
    || kind == init_cookie
    || kind == ack_vector_0 || kind == ack_vector_1
    || kind == data_dropped
    || kind == elapsed_time
