-- The name of the refusal of a call (own).
use Rattle.dccp_states.specs.declared.calls.SendFault.{SendFault}
use Rattle.dccp_states.specs.declared.calls.SendFault.TheVariants as send
use Rattle.feature_lists.specs.declared.wishes.PreferFault.{PreferFault}
use Rattle.feature_lists.specs.declared.wishes.PreferFault.TheVariants as prefer
use Rattle.dccp_states.specs.declared.seen.Refusal.{Refusal}
use Rattle.dccp_states.specs.declared.seen.Refusal.TheVariants as refusal

-- why data are not sent
abbrev pub send_refusal_of : SendFault → Refusal
send_refusal_of send.NotOpen = refusal.NotOpen
send_refusal_of send.TooLong = refusal.TooLong
send_refusal_of send.NotNegotiated = refusal.NotNegotiated
send_refusal_of send.WindowFull = refusal.WindowFull

-- why a wish is refused
abbrev pub refusal_of : PreferFault → Refusal
refusal_of prefer.NotOpen = refusal.NotOpen
refusal_of prefer.BadList = refusal.BadList
refusal_of prefer.NotOurs = refusal.NotOurs
