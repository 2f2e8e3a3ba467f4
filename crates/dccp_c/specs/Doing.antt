-- What C gets from a call of an end (own; the steps are the end's).
use Rattle.std.specs.Prelude.{◌≡◌, ℕ, Bool, true, false, List, [], Option, Some, None, unwrap_or}
use Rattle.std.specs.Option.{option_map}
use Rattle.data_dropped.specs.declared.drops.DropEntry.{DropEntry}
use Rattle.dccp_listener.specs.Chain.{FlowCall}
use Rattle.dccp_server.specs.Due.{never}
use Rattle.dccp_uses.specs.Timed.{first_wait_left}
use Rattle.dccp_uses.specs.Upkeeps.{every_due, first_due}
use Rattle.dccp_uses.specs.declared.timed_end.Due.{Due}
use Rattle.dccp_c.specs.Framing.{FrameFields, handed_of, nothing_handed}
use Rattle.dccp_c.specs.Keeping.{Inner}
use Rattle.dccp_c.specs.Stepping.{CDoing, CEnd, CStep, c_acts, c_told}

-- what is due is done, and the answer is true; if nothing is, nothing happens
abbrev pub c_tells : ℕ → CEnd → Option Due → CStep Bool
c_tells now s None = record { after = s; frame = None; answer = false }
c_tells now s (Some it) = record { after = (c_told it now s).after; frame = (c_told it now s).frame; answer = true }

-- the first of the six timers and the rules that is due is done
abbrev pub c_ticks : ℕ → CDoing Bool
c_ticks now s = c_tells now s (first_due s.timed.upkeep now every_due)

-- in how many milliseconds something of an end is due; never if nothing will be
abbrev pub c_waits : ℕ → Option CEnd → ℕ
c_waits now None = never
c_waits now (Some s) = unwrap_or (first_wait_left s.timed now) never

-- an end without the place for its frame
abbrev pub c_end : Inner → CEnd
c_end held = record { timed = held.timed; inbox = held.intake; cookie = held.cookie }

-- the end that a handle holds, if any
abbrev pub end_in : Option Inner → Option CEnd
end_in = option_map c_end

-- the record of its packets that were dropped
abbrev pub drops_in : Option Inner → List DropEntry
drops_in None = []
drops_in (Some held) = held.drops

-- The end after a call, if there is one.
abbrev pub kept_after : {Answer : Type 0} → CDoing Answer → Option CEnd → Option CEnd
kept_after doing = option_map (λ s. (doing s).after)

-- The frame that a call hands out: the step's, or none if there is no end.
abbrev pub frame_after : {Answer : Type 0} → CDoing Answer → Option CEnd → FrameFields
frame_after doing None = nothing_handed
frame_after doing (Some s) = handed_of (doing s).frame

-- The code of a call: the step's, or 1 if there is no end.
abbrev pub code_after : {Answer : Type 0} → (Answer → ℕ) → CDoing Answer → Option CEnd → ℕ
code_after code doing None = 1
code_after code doing (Some s) = code (doing s).answer

-- The result of a call of an end for C: it is done, or there is no end, and the code is 1.
abbrev pub CallsEnd : ℕ → Option CEnd → Option CEnd → FlowCall → FrameFields → ℕ → Type 0
CallsEnd now None after call frame code = (after ≡ None) × (frame ≡ nothing_handed) × (code ≡ 1)
CallsEnd now (Some s) after call frame code =
    (after ≡ Some (c_acts call now s).after) × (frame ≡ handed_of (c_acts call now s).frame) × (code ≡ (c_acts call now s).answer)

-- The same for a call that names a feature or a timer: if none has that number, nothing happens, no frame goes out, and this is the code.
abbrev pub CallsEndIfKnown : ℕ → Option CEnd → Option CEnd → ℕ → Option FlowCall → FrameFields → ℕ → Type 0
CallsEndIfKnown now before after unknown None frame code = (after ≡ before) × (frame ≡ nothing_handed) × (code ≡ unknown)
CallsEndIfKnown now before after unknown (Some call) frame code = CallsEnd now before after call frame code
