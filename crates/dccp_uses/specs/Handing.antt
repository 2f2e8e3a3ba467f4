-- Frames that are handed to a network (own).
use Rattle.std.specs.Prelude.{◌≡◌, ℕ, List, [], ◌∷◌, Option, Some, None}
use Rattle.dccp_packets.specs.Outgoing.{Outgoing}

-- A step's frame, if it made one, was handed to the network, and nothing else was. `sends` is what a frame does to a network.
abbrev pub Hands : {N : Type 0} → (N → List ℕ → N → Type 0) → N → Option Outgoing → N → Type 0
Hands sends before None after = after ≡ before
Hands sends before (Some sent) after = sends before sent.bytes after

-- the frames of several steps were handed to it, in the order of the steps
abbrev pub HandsAll : {N : Type 0} → (N → List ℕ → N → Type 0) → N → List (Option Outgoing) → N → Type 0
HandsAll sends before [] after = after ≡ before
HandsAll {N} sends before (frame ∷ frames) after = (between : N) × Hands sends before frame between × HandsAll sends between frames after
