-- Tables of names, one line for each case (own, after RFC 4340).
use Rattle.std.specs.Prelude.{ℕ, ◌&&◌, ◌==◌, nat_le, if◌then◌else◌, List, codes, Result, Ok, Err}
use Rattle.dccp_options.specs.Kinds as kinds
use Rattle.dccp_packets.specs.declared.header.PacketType.{PacketType}
use Rattle.dccp_packets.specs.declared.header.PacketType.TheVariants.{Request, Response, Data, Ack, DataAck, CloseReq, Close, Reset, Sync, SyncAck}
use Rattle.dccp_sum.specs.declared.packet_sum.SumFault.{SumFault}
use Rattle.dccp_sum.specs.declared.packet_sum.SumFault.TheVariants.{CoverageTooLarge, Wrong}
use Rattle.packet_show.specs.declared.names.OptionForm.{OptionForm}
use Rattle.packet_show.specs.declared.names.OptionForm.TheVariants as forms

-- the packet types (RFC 4340, section 5.1)
abbrev pub type_name : PacketType → List ℕ
type_name Request = codes "Request"
type_name Response = codes "Response"
type_name Data = codes "Data"
type_name Ack = codes "Ack"
type_name DataAck = codes "DataAck"
type_name CloseReq = codes "CloseReq"
type_name Close = codes "Close"
type_name Reset = codes "Reset"
type_name Sync = codes "Sync"
type_name SyncAck = codes "SyncAck"

-- the verdict on a checksum (RFC 4340, section 9)
abbrev pub sum_name : Result (Unit {0}) SumFault → List ℕ
sum_name (Ok _) = codes "ok"
sum_name (Err Wrong) = codes "wrong"
sum_name (Err CoverageTooLarge) = codes "coverage"

-- the options (RFC 4340, section 5.8)
abbrev pub option_name : ℕ → List ℕ
option_name kind =
    if kind == kinds.slow_receiver then codes "slow-receiver"
    else if kind == kinds.change_l then codes "change-l"
    else if kind == kinds.confirm_l then codes "confirm-l"
    else if kind == kinds.change_r then codes "change-r"
    else if kind == kinds.confirm_r then codes "confirm-r"
    else if kind == kinds.init_cookie then codes "init-cookie"
    else if kind == kinds.ndp_count then codes "ndp-count"
    else if kind == kinds.ack_vector_0 then codes "ack-vector-0"
    else if kind == kinds.ack_vector_1 then codes "ack-vector-1"
    else if kind == kinds.data_dropped then codes "data-dropped"
    else if kind == kinds.timestamp then codes "timestamp"
    else if kind == kinds.timestamp_echo then codes "timestamp-echo"
    else if kind == kinds.elapsed_time then codes "elapsed-time"
    else if kind == kinds.data_checksum then codes "data-checksum"
    else if kinds.is_ccid_specific kind then codes "ccid"
    else codes "option"

-- what follows the name: nothing for Slow Receiver, a feature's number for Change and Confirm, the type for options that have no name, and the
-- data
abbrev pub option_form : ℕ → OptionForm
option_form kind =
    if kind == kinds.slow_receiver then forms.Bare
    else if nat_le kinds.change_l kind && nat_le kind kinds.confirm_r then forms.Feature
    else if nat_le kinds.init_cookie kind && nat_le kind kinds.data_checksum then forms.Data
    else forms.Numbered
