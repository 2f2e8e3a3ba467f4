-- What data to be sent hold once a `&mut` into them, which a call returned, has ended.
use Rattle.std.specs.Prelude.{ℕ, List, length}
use Rattle.std.specs.Borrow.{Lends, MutBor, Fml, Array, u8}
use Rattle.std.specs.List.{refill}
use Rattle.world_events.specs.contracts.payload.Payload as payload

-- once the borrow ends, the data are the bytes that were written through it
abbrev pub LendsPayload : MutBor (List ℕ) → MutBor (List ℕ) → Fml
LendsPayload p r = Lends payload.the_row (Array u8 0) p r (λ bytes. refill (length p.now) p.now bytes)
