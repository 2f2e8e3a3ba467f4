-- The parts of a line as texts (own).
use Rattle.std.specs.Prelude.{ℕ, ◌-◌, Bool, ◌==◌, if◌then◌else◌, List, [], ◌∷◌, ◌++◌, length, take, drop, slice_index, codes, decimal, Result, Ok, Err}
use Rattle.hex.specs.Hex.{encode_lower}
use Rattle.tool_text.specs.Text.{hex_or_dash, v4_text}
use Rattle.dccp_packets.specs.declared.header.Number.{Number}
use Rattle.dccp_packets.specs.declared.header.Number.TheVariants.{Long, Short}
use Rattle.dccp_packets.specs.declared.header.Kind.{Kind}
use Rattle.dccp_packets.specs.declared.header.Kind.TheVariants.{Request, Response, Data, Ack, DataAck, CloseReq, Close, Reset, Sync, SyncAck}
use Rattle.dccp_options.specs.Grammar.{Entry}
use Rattle.dccp_options.specs.declared.option.OptFault.{OptFault}
use Rattle.dccp_sum.specs.declared.pseudo_header.Pseudo.{Pseudo}
use Rattle.dccp_sum.specs.declared.pseudo_header.Pseudo.TheVariants.{V4, V6}
use Rattle.packet_show.specs.declared.names.OptionForm.{OptionForm}
use Rattle.packet_show.specs.declared.names.OptionForm.TheVariants as forms
use Rattle.packet_show.specs.Names.{option_name, option_form}

-- a number's digits, with leading zeros up to that many digits, at most nine; longer numbers stay whole
abbrev pub zeros_before : ℕ → List ℕ → List ℕ
zeros_before width digits = take (width - length digits) (codes "000000000")

-- how many digits a fraction of a second has: six for microseconds, or nine for nanoseconds
abbrev pub width_of : Bool → ℕ
width_of nanos = if nanos then 9 else 6

-- the digits after the point of a time, as many as its unit has
abbrev pub fraction_text : Bool → ℕ → List ℕ
fraction_text nanos fraction = zeros_before (width_of nanos) (decimal fraction) ++ decimal fraction

-- hexadecimal digits without leading zeros; at least one digit stays
abbrev pub without_zeros : List ℕ → List ℕ
without_zeros [] = []
without_zeros (digit ∷ []) = digit ∷ []
without_zeros (digit ∷ next ∷ rest) = if digit == 48 then without_zeros (next ∷ rest) else digit ∷ next ∷ rest

-- a group of 16 bits
abbrev pub group_text : ℕ → ℕ → List ℕ
group_text high low = without_zeros (encode_lower (high ∷ low ∷ []))

-- groups, each after a colon
abbrev pub groups_text : List ℕ → List ℕ
groups_text (high ∷ low ∷ rest) = codes ":" ++ (group_text high low ++ groups_text rest)
groups_text (_ ∷ []) = []
groups_text [] = []

-- eight groups in lower-case hexadecimal, separated by colons and never shortened
abbrev pub v6_text : List ℕ → List ℕ
v6_text a = group_text (slice_index a 0) (slice_index a 1) ++ groups_text (drop 2 a)

-- the source address of a packet
abbrev pub from_text : Pseudo → List ℕ
from_text (V4 from to) = v4_text from
from_text (V6 from to) = v6_text from

-- the destination address of a packet
abbrev pub to_text : Pseudo → List ℕ
to_text (V4 from to) = v4_text to
to_text (V6 from to) = v6_text to

-- a sequence or acknowledgement number, in the form that it has
abbrev pub number_text : Number → List ℕ
number_text (Long n) = decimal n
number_text (Short n) = decimal n

-- the acknowledgement number of a packet, after its word
abbrev pub ack_text : Number → List ℕ
ack_text ack = codes " ack " ++ number_text ack

-- the Service Code of a Request or a Response, as a decimal number
abbrev pub service_text : ℕ → List ℕ
service_text service = codes " service " ++ decimal service

-- a Reset's code and its bytes Data 1 to 3
abbrev pub code_text : ℕ → List ℕ → List ℕ
code_text code detail =
    codes " code " ++ decimal code ++ codes " " ++ decimal (slice_index detail 0)
    ++ codes " " ++ decimal (slice_index detail 1) ++ codes " " ++ decimal (slice_index detail 2)

-- the fields that only this type carries
abbrev pub kind_text : Kind → List ℕ
kind_text (Request service) = service_text service
kind_text (Response ack service) = ack_text (Long ack) ++ service_text service
kind_text Data = []
kind_text (Ack ack) = ack_text ack
kind_text (DataAck ack) = ack_text ack
kind_text (CloseReq ack) = ack_text (Long ack)
kind_text (Close ack) = ack_text (Long ack)
kind_text (Reset ack code detail) = ack_text (Long ack) ++ code_text code detail
kind_text (Sync ack) = ack_text (Long ack)
kind_text (SyncAck ack) = ack_text (Long ack)

-- an option whose type has no name
abbrev pub numbered_text : List ℕ → ℕ → List ℕ → List ℕ
numbered_text name kind body = name ++ codes " " ++ decimal kind ++ codes " " ++ hex_or_dash body

-- a Change or Confirm by its feature; without a feature's number it has no name
abbrev pub feature_text : ℕ → List ℕ → List ℕ
feature_text kind [] = numbered_text (codes "option") kind []
feature_text kind (feature ∷ rest) = numbered_text (option_name kind) feature rest

-- the name of an option, and after it what an option of this form has
abbrev pub option_by_form : OptionForm → ℕ → List ℕ → List ℕ
option_by_form forms.Bare kind body = option_name kind
option_by_form forms.Data kind body = option_name kind ++ codes " " ++ hex_or_dash body
option_by_form forms.Feature kind body = feature_text kind body
option_by_form forms.Numbered kind body = numbered_text (option_name kind) kind body

-- an option by its type and its data, without the mark of Mandatory
abbrev pub option_text : ℕ → List ℕ → List ℕ
option_text kind body = option_by_form (option_form kind) kind body

-- the word in front of an option that is marked with Mandatory
abbrev pub mark_text : Bool → List ℕ
mark_text mandatory = if mandatory then codes "mandatory " else []

-- an option, or the fault of Mandatory that ends the options
abbrev pub item_text : Result Entry OptFault → List ℕ
item_text (Ok o) = codes " [" ++ (mark_text o.mandatory ++ option_text o.kind o.body) ++ codes "]"
item_text (Err _) = codes " [mandatory fault]"

-- the options of a packet in their order, each in brackets
abbrev pub options_text : List (Result Entry OptFault) → List ℕ
options_text [] = []
options_text (item ∷ items) = item_text item ++ options_text items
