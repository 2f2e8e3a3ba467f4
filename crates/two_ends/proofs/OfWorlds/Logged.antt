-- What the numbered frames of a side carry is one list: the n-th of them, from 0, is at place n.
use Rattle.std.proofs.Common.{◌≡◌, refl, subst, ℕ, ◌+◌, zero, suc, ◌≤◌, ◌%◌, ◌^◌, Bool, List, [], ◌∷◌, ◌++◌, Some, slice_get, length, true, false, arith}
use Rattle.std.proofs.lemmas.List.Elements.{All-get_or}
use Rattle.std.proofs.lemmas.Option.{get_or_from_slice_get, same_Some, slice_get_within}
use Rattle.std.specs.List.{All}
use Rattle.seq_circle.specs.Circle.{residue}
use Rattle.dccp_packets.specs.Forms.{may_be_short}
use Rattle.dccp_packets.specs.Grammar.{packet_type}
use Rattle.dccp_packets.specs.Kinds.{ack_of}
use Rattle.dccp_packets.specs.Widths.{kind_in_widths}
use Rattle.dccp_packets.specs.declared.header.Kind.{Kind}
use Rattle.dccp_endpoint.specs.Causes.{is_without_connection}
use Rattle.dccp_endpoint.specs.Drafts.{Draft, IsSendable, alone, frame_of}
use Rattle.dccp_endpoint.specs.declared.config.Config.{Config}
use Rattle.two_ends.specs.declared.frames.SentFrame.{SentFrame}

-- a packet under its sender's own number, with what its frame says besides
pub record Logged : Type 0 where
  pub draft : Draft
  pub processed : ℕ
  pub floor : ℕ

-- The frame is this packet's, under this number, in one of the two forms.
pub record IsLogged (config : Config) (number : ℕ) (frame : SentFrame) (l : Logged) : Type 0 where
  pub sendable : IsSendable l.draft
  pub of_connection : is_without_connection config.role l.draft.kind ≡ false
  pub short : Bool
  pub form : short ≡ true → may_be_short (packet_type l.draft.kind) ≡ true
  pub same : frame
      ≡ record {
        bytes = frame_of config short number l.draft;
        number = number % 2 ^ 48;
        ack = ack_of (kind_in_widths l.draft.kind);
        processed = l.processed;
        floor = l.floor;
      }

-- The frame is a Reset without a connection, whose numbers are long.
pub record IsUnlogged (config : Config) (frame : SentFrame) : Type 0 where
  pub number : ℕ
  pub kind : Kind
  pub sendable : IsSendable (alone kind)
  pub without_connection : is_without_connection config.role kind ≡ true
  pub same : frame.bytes ≡ frame_of config false number (alone kind)
  pub numbered : frame.number ≡ number % 2 ^ 48
  pub acks : frame.ack ≡ ack_of (kind_in_widths kind)

-- the frames from a number on, and what the numbered ones among them carry
pub data AreLogged (config : Config) : ℕ → List SentFrame → List Logged → Type 0 where
  NoFrames : {first : ℕ} → AreLogged config first [] []
  Numbered : {first : ℕ} {frame : SentFrame} {frames : List SentFrame} {l : Logged} {log : List Logged} (number : ℕ) → number ≡ residue first
      → IsLogged config number frame l → AreLogged config (first + 1) frames log → AreLogged config first (frame ∷ frames) (l ∷ log)
  Unnumbered : {first : ℕ} {frame : SentFrame} {frames : List SentFrame} {log : List Logged} → IsUnlogged config frame
      → AreLogged config first frames log → AreLogged config first (frame ∷ frames) log

-- More frames are added at the end, from the next number on.
pub logged-append : (config : Config) {first : ℕ} {frames : List SentFrame} {log : List Logged} (next : ℕ) (more : List SentFrame) (own : List Logged)
    → next ≡ first + length log → AreLogged config first frames log → AreLogged config next more own → AreLogged config first (frames ++ more) (log ++ own)
logged-append config {first} next more own is NoFrames later =
    let same : next ≡ first = omega (arith, is) in
    subst (λ (n : ℕ). AreLogged config n more own) same later
logged-append config next more own is (Numbered number same here rest) later =
    Numbered number same here (logged-append config next more own (omega (arith, is)) rest later)
logged-append config next more own is (Unnumbered here rest) later = Unnumbered here (logged-append config next more own is rest later)

-- there are no more numbered frames than frames
pub logged-few : (config : Config) {first : ℕ} {frames : List SentFrame} {log : List Logged} → AreLogged config first frames log → length log ≤ length frames
logged-few config NoFrames = omega arith
logged-few config (Numbered number same here rest) = omega (arith, logged-few config rest)
logged-few config (Unnumbered here rest) = omega (arith, logged-few config rest)

-- the place of a frame that was sent
pub data Found (config : Config) (first : ℕ) (log : List Logged) (frame : SentFrame) : Type 0 where
  AtPlace : (place number : ℕ) (l : Logged) → slice_get log place ≡ Some l → number ≡ residue (first + place) → IsLogged config number frame l
      → Found config first log frame
  Nowhere : IsUnlogged config frame → Found config first log frame

found-later : {config : Config} {first : ℕ} {own : Logged} {log : List Logged} {frame : SentFrame} → Found config (first + 1) log frame
    → Found config first (own ∷ log) frame
found-later (AtPlace place number l there same is) = AtPlace (suc place) number l there (omega (arith, same)) is
found-later (Nowhere is) = Nowhere is

-- a frame of the side is one of its log, or is not logged
pub found : (config : Config) {first : ℕ} {frames : List SentFrame} {log : List Logged} (index : ℕ) (frame : SentFrame)
    → AreLogged config first frames log → slice_get frames index ≡ Some frame → Found config first log frame
found config index frame NoFrames there = cc there
found config {first} {log} zero frame (Numbered number same here rest) there =
    subst (Found config first log) (same_Some _ frame there) (AtPlace 0 number _ refl (omega (arith, same)) here)
found config (suc index) frame (Numbered number same here rest) there = found-later (found config index frame rest there)
found config {first} {log} zero frame (Unnumbered here rest) there = subst (Found config first log) (same_Some _ frame there) (Nowhere here)
found config (suc index) frame (Unnumbered here rest) there = found config index frame rest there

-- what holds of each member of a log
pub at-place : (P : Logged → Type 0) (log : List Logged) (place : ℕ) (l : Logged) → All P log → slice_get log place ≡ Some l → P l
at-place P log place l all there = subst P (get_or_from_slice_get log place l l there) (All-get_or P log place l (slice_get_within log place l there) all)
