-- What a handle in C owns: a box with an end or a listener, or nothing (own).
use base.Fml.{Fml, ftrue}
use base.Stored.{Coded}
use denote.RattleType.{RattleType}
use denote.RawPtr.{Ptr}
use Rattle.std.specs.Prelude.{Option, Some, None}
use Rattle.std.specs.Box.Ownership.{box_owns}
use Rattle.std.specs.Coded.{coded_option}
use Rattle.std.specs.Global.{Global}
use Rattle.std_heap.specs.contracts.GlobalAllocator.TheImpl.{ghosts}
use Rattle.dccp_c.specs.contracts.held.OwnedEnd as OwnedEnd
use Rattle.dccp_c.specs.contracts.serving.OwnedServer as OwnedServer

-- an end with the place for its frame, as contracts see it
abbrev pub Inner : Type 0
Inner = OwnedEnd.the_row.Denot

-- a listener with its timers and the place for its frame, as contracts see it
abbrev pub InnerListener : Type 0
InnerListener = OwnedServer.the_row.Denot

-- the code by which a ghost field holds an end, or none
abbrev pub inner_coded : Coded (Option Inner)
inner_coded = coded_option OwnedEnd.the_row.coded

-- the same for a listener
abbrev pub inner_listener_coded : Coded (Option InnerListener)
inner_listener_coded = coded_option OwnedServer.the_row.coded

-- if there is a value of this type, its handle owns its box
abbrev pub kept_owns : (row : RattleType) → Global → Ptr → Option row.Denot → Fml
kept_owns row alloc p None = ftrue
kept_owns row alloc p (Some held) = box_owns (ghosts.dealloc_token alloc) row p held

-- what the handle of an end owns
abbrev pub end_owned : Global → Ptr → Option Inner → Fml
end_owned = kept_owns OwnedEnd.the_row

-- what the handle of a listener owns
abbrev pub listener_owned : Global → Ptr → Option InnerListener → Fml
listener_owned = kept_owns OwnedServer.the_row
