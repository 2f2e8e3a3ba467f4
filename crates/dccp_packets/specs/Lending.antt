-- What a frame or an Outbox holds once a `&mut` into it, which a call returned, has ended.
use Rattle.std.specs.Prelude.{ℕ, List, Option, Some, length}
use Rattle.std.specs.Borrow.{Lends, MutBor, Fml, Array, u8, unit}
use Rattle.std.specs.List.{refill}
use denote.Param.{number}
use Rattle.arrayvec.specs.ArrayVec.{ArrayVec}
use Rattle.arrayvec.specs.contracts.array_vec.ArrayVec as array_vec
use Rattle.dccp_packets.specs.contracts.frame.Frame as frame
use Rattle.dccp_packets.specs.contracts.frame.Outbox as outbox
use Rattle.dccp_packets.specs.declared.frame.Numbers.{Numbers}
use Rattle.dccp_packets.specs.Outgoing.{Outgoing, outgoing}

-- once the borrow ends, the frame has the bytes that were written through it
abbrev pub LendsBytes : MutBor (List ℕ) → MutBor (List ℕ) → Fml
LendsBytes f r = Lends frame.the_row (Array u8 0) f r (λ bytes. refill (length f.now) f.now bytes)

-- once the borrow ends, the frame has the bytes that the vector was left with
abbrev pub LendsVector : MutBor (List ℕ) → MutBor (ArrayVec ℕ) → Fml
LendsVector f r = Lends frame.the_row (array_vec.the_row u8 (number 2044) unit) f r (λ vector. vector.items)

-- once the borrow ends, the Outbox holds the frame that was written through it, with these numbers
abbrev pub LendsFrame : Numbers → MutBor (Option Outgoing) → MutBor (List ℕ) → Fml
LendsFrame numbers o r = Lends outbox.the_row frame.the_row o r (λ bytes. Some (outgoing numbers bytes))
