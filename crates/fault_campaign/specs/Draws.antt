-- The event that two words of the generator give (own).
use Rattle.std.specs.Prelude.{ℕ, ◌+◌, ◌-◌, ◌*◌, ◌/◌, ◌%◌, ◌^◌, ◌==◌, min, nat_le, if◌then◌else◌, [], ◌∷◌}
use Rattle.byteorder.specs.Endian.{big_bytes}
use Rattle.rand_core.specs.Pcg32Seed.{pcg32_seed}
use Rattle.rand_pcg.specs.Lcg.{Lcg}
use Rattle.rand_pcg.specs.Pcg.{pcg32, pcg32_of_seed}
use Rattle.dccp_states.specs.declared.calls.Timer.{Timer}
use Rattle.dccp_states.specs.declared.calls.Timer.TheVariants as timer
use Rattle.feature_lists.specs.declared.features.Feature.TheVariants.{Ccid, SequenceWindow, AckRatio, MinCsCov}
use Rattle.feature_lists.specs.declared.features.Place.TheVariants.{Here, There}
use Rattle.world_events.specs.declared.event.Event.{Event}
use Rattle.world_events.specs.declared.event.Event.TheVariants as event
use Rattle.world_events.specs.declared.event.Side.{Side}
use Rattle.world_events.specs.declared.event.Side.TheVariants.{Client, Server}

-- the generator of a seed
unfoldable pub generator : ℕ → Lcg
generator seed = pcg32_of_seed (pcg32_seed 16 seed)

-- its next word of 32 bits, and the generator after it
unfoldable pub word : Lcg → ℕ
word g = (pcg32 g).0

-- the generator once a word was drawn from it
unfoldable pub after_one : Lcg → Lcg
after_one g = (pcg32 g).1

-- after two words
abbrev pub after_two : Lcg → Lcg
after_two g = after_one (after_one g)

-- an initial sequence number: the last 16 bits of a word, and the next word
abbrev pub initial_number : Lcg → ℕ
initial_number g = word g % 65536 * 2 ^ 32 + word (after_one g)

-- which of n frames is delivered: sometimes any, mostly one of the last eight
abbrev pub drawn_index : ℕ → ℕ → ℕ
drawn_index b n = if b / 256 % 16 == 0 then b / 4096 % n else n - 1 - b % min n 8

-- a frame of this side arrives; if there is none, the client's timer runs out
abbrev pub drawn_delivery : Side → ℕ → ℕ → Event
drawn_delivery from n b = if n == 0 then event.Timer Client timer.Request else event.Deliver from (drawn_index b n)

-- a side sends the four bytes of this word
abbrev pub sending : Side → ℕ → Event
sending side b = event.Send side (big_bytes 4 b)

-- a preference of a side, by a number below 8; the value of a non-negotiable feature is drawn from the rest of the word
abbrev pub preference : Side → ℕ → ℕ → Event
preference side which rest =
    if which == 0 then event.Prefer side Ccid Here (2 ∷ 248 ∷ [])
    else if which == 1 then event.Prefer side Ccid Here (248 ∷ 2 ∷ [])
    else if which == 2 then event.Prefer side Ccid There (248 ∷ [])
    else if which == 3 then event.Prefer side MinCsCov Here (1 ∷ 2 ∷ 3 ∷ [])
    else if which == 4 then event.Prefer side MinCsCov There (3 ∷ 1 ∷ [])
    else if which == 5 then event.Prefer side MinCsCov There (2 ∷ [])
    else if which == 6 then event.Prefer side SequenceWindow Here ((100 + rest % 1000) ∷ [])
    else event.Prefer side AckRatio Here ((1 + rest % 4) ∷ [])

-- a timer, by a number below 6
abbrev pub drawn_timer : ℕ → Timer
drawn_timer which =
    if which == 0 then timer.Request
    else if which == 1 then timer.Ack
    else if which == 2 then timer.Negotiate
    else if which == 3 then timer.Rto
    else if which == 4 then timer.Close
    else timer.TimeWait

-- a rare event that ends the connection, or another, by a number below 512
abbrev pub ending : ℕ → Event
ending which =
    if which == 0 then event.Close Client
    else if which == 1 then event.Close Server
    else if which == 2 then event.Abort Client
    else if which == 3 then event.Abort Server
    else event.Timer Client timer.Negotiate

-- the event of a number below 32 and a word, if the client and the server have sent these numbers of frames
abbrev pub event_numbered : ℕ → ℕ → ℕ → ℕ → Event
event_numbered kind b clients servers =
    if nat_le kind 11 then drawn_delivery Client clients b
    else if nat_le kind 23 then drawn_delivery Server servers b
    else if kind == 24 then sending Client b
    else if kind == 25 then sending Server b
    else if kind == 26 then preference Client (b % 8) (b / 8)
    else if kind == 27 then preference Server (b % 8) (b / 8)
    else if kind == 28 then event.Timer Client (drawn_timer (b % 6))
    else if kind == 29 then event.Timer Server (drawn_timer (b % 6))
    else if kind == 30 then ending (b % 512)
    else event.Timer Server timer.Negotiate

-- the event of two words
unfoldable pub drawn : ℕ → ℕ → ℕ → ℕ → Event
drawn a b clients servers = event_numbered (a % 32) b clients servers
