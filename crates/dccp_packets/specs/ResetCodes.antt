-- The Reset Codes that have names (RFC 4340, section 5.6).
use Rattle.std.specs.Prelude.{ℕ, ◌==◌, Option, Some, None, if◌then◌else◌}
use Rattle.dccp_packets.specs.declared.reset_code.ResetCode.{ResetCode}
use Rattle.dccp_packets.specs.declared.reset_code.ResetCode.TheVariants as codes

-- the number of a code, as a Reset carries it
abbrev pub number_of_code : ResetCode → ℕ
number_of_code codes.Unspecified = 0
number_of_code codes.Closed = 1
number_of_code codes.Aborted = 2
number_of_code codes.NoConnection = 3
number_of_code codes.PacketError = 4
number_of_code codes.OptionError = 5
number_of_code codes.MandatoryError = 6
number_of_code codes.ConnectionRefused = 7
number_of_code codes.BadServiceCode = 8
number_of_code codes.TooBusy = 9
number_of_code codes.BadInitCookie = 10
number_of_code codes.AggressionPenalty = 11

-- the code with this number; 12 to 127 are reserved, and 128 to 255 belong to the CCIDs
abbrev pub code_of_number : ℕ → Option ResetCode
code_of_number number =
    if number == 0 then Some codes.Unspecified
    else if number == 1 then Some codes.Closed
    else if number == 2 then Some codes.Aborted
    else if number == 3 then Some codes.NoConnection
    else if number == 4 then Some codes.PacketError
    else if number == 5 then Some codes.OptionError
    else if number == 6 then Some codes.MandatoryError
    else if number == 7 then Some codes.ConnectionRefused
    else if number == 8 then Some codes.BadServiceCode
    else if number == 9 then Some codes.TooBusy
    else if number == 10 then Some codes.BadInitCookie
    else if number == 11 then Some codes.AggressionPenalty
    else None
