-- What happens to a flow, and what an owner then keeps of its end: its timers, and what is known of its path (own; the end is that of RFC 4340).
use Rattle.std.specs.Prelude.{ℕ, Bool, true, false, [], ◌∷◌, Option, Some, None}
use Rattle.ccid_two.specs.Kinds.{kinds_control}
use Rattle.dccp_endpoint.specs.End.{held_of}
use Rattle.dccp_listener.specs.Chain.{FlowCall, Opens, Sends, SendsEarly, Fires, Closes, Aborts, Prefers}
use Rattle.dccp_listener.specs.Peers.{FlowEnd}
use Rattle.dccp_listener.specs.Runs.{CallTold, Stepped}
use Rattle.dccp_states.specs.declared.calls.Timer.TheVariants as timers
use Rattle.feature_lists.specs.declared.features.Feature.TheVariants.{AckRatio}
use Rattle.feature_lists.specs.declared.features.Place.TheVariants.{Here}
use Rattle.dccp_states.specs.declared.seen.Seen.TheVariants.{Received}
use Rattle.dccp_uses.specs.Path.{sight_of}
use Rattle.dccp_uses.specs.Session.{is_delivery}
use Rattle.dccp_uses.specs.Upkeeps.{is_taken, kept_called, kept_closed, kept_heard, kept_opened, kept_preferred, kept_ruled, kept_rung, kept_sent, upkeep_begins}
use Rattle.dccp_uses.specs.declared.pace.Pace.{Pace}
use Rattle.dccp_uses.specs.declared.rule.Rule.{Rule}
use Rattle.dccp_uses.specs.declared.rule.Rule.TheVariants as rules
use Rattle.dccp_uses.specs.declared.sight.Sight.{Sight}
use Rattle.dccp_uses.specs.declared.upkeep.Upkeep.{Upkeep}
use Rattle.dccp_server.specs.declared.happening.FlowHappening.{FlowHappening}
use Rattle.dccp_server.specs.declared.happening.FlowHappening.TheVariants as happening

-- What is kept once something happened to a flow, whose end is then this one. A refused call changes nothing.
abbrev pub next_upkeep : ℕ → Pace → Upkeep → FlowHappening → FlowEnd → Upkeep
next_upkeep now pace u happening.Opened e = kept_opened kinds_control now (upkeep_begins pace) e
next_upkeep now pace u (happening.Heard it) e = kept_heard kinds_control now u it e
next_upkeep now pace u happening.Sent e = kept_sent kinds_control now u e
next_upkeep now pace u (happening.Rang timer) e = kept_rung kinds_control now u timer e
next_upkeep now pace u happening.Closed e = kept_closed kinds_control now u e
next_upkeep now pace u happening.Called e = kept_called kinds_control now u e
next_upkeep now pace u happening.Preferred e = kept_preferred kinds_control now u e
next_upkeep now pace u happening.Refused e = u
next_upkeep now pace u (happening.Ruled rule) e = kept_ruled kinds_control now u rule e

-- the packet was taken
abbrev pub tells_taken : CallTold → Bool
tells_taken (Stepped (Some (Received outcome))) = is_taken outcome
tells_taken _ = false

-- data were delivered
abbrev pub tells_data : CallTold → Bool
tells_data (Stepped (Some (Received outcome))) = is_delivery outcome
tells_data _ = false

-- what the rules see of an end, if there is one
abbrev pub sight_if : Option FlowEnd → Option Sight
sight_if None = None
sight_if (Some e) = Some (sight_of kinds_control e)

-- a datagram opens a flow, or is heard by the end that there was
abbrev pub arrived_so : Option Sight → CallTold → Bool → FlowHappening
arrived_so None told silent = happening.Opened
arrived_so (Some was) told silent =
    happening.Heard (record { was = was; taken = tells_taken told; delivered = tells_data told; silent = silent })

-- a call that was not refused
abbrev pub call_happening : FlowCall → FlowHappening
call_happening Opens = happening.Called
call_happening (Sends payload) = happening.Sent
call_happening (SendsEarly payload) = happening.Sent
call_happening (Fires timer) = happening.Rang timer
call_happening Closes = happening.Closed
call_happening Aborts = happening.Called
call_happening (Prefers feature place values) = happening.Preferred

-- a call, by whether it was refused
abbrev pub called_so : FlowCall → Bool → FlowHappening
called_so call true = happening.Refused
called_so call false = call_happening call

-- The call that a rule of its path makes of a flow's end, by its present Ack Ratio and the one that is wanted: a question asks for the present
-- one.
abbrev pub rule_call : Rule → ℕ → ℕ → Option FlowCall
rule_call rules.Nothing held aim = None
rule_call rules.GiveUp held aim = Some Aborts
rule_call rules.TimeOut held aim = Some (Fires timers.Rto)
rule_call rules.Probe held aim = Some (Prefers AckRatio Here (held ∷ []))
rule_call rules.Ask held aim = Some (Prefers AckRatio Here (held ∷ []))
rule_call rules.Ratio held aim = Some (Prefers AckRatio Here (aim ∷ []))

-- the Ack Ratio that an end holds, if there is one
abbrev pub ratio_held : Option FlowEnd → Option ℕ
ratio_held None = None
ratio_held (Some e) = Some (held_of e.state AckRatio Here).value

-- the same, if there is an Ack Ratio
abbrev pub call_if_held : Rule → ℕ → Option ℕ → Option FlowCall
call_if_held rule aim None = None
call_if_held rule aim (Some held) = rule_call rule held aim

-- the call that a rule makes of an end, if there is one
abbrev pub call_for_rule : Rule → ℕ → Option FlowEnd → Option FlowCall
call_for_rule rule aim found = call_if_held rule aim (ratio_held found)
