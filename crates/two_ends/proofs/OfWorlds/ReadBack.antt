-- The one place that looks at the bytes of frames: what was drafted is what is read.
use Rattle.std.proofs.Common.{◌≡◌, ◌≢◌, inl, inr, refl, ap, sym, ◌∙◌, subst, ℕ, ◌+◌, ◌%◌, ◌^◌, ◌<◌, ◌&&◌, ◌||◌, not, Bool, List, [], ◌∷◌, Option, Some, None, true, false, Ok, slice_get, length, map, arith}
use Rattle.std.proofs.lemmas.Option.{same_Some}
use Rattle.std.specs.Result.{result_ok}
use Rattle.seq_circle.specs.Circle.{is_ack_far, is_far, residue}
use Rattle.dccp_options.specs.Written.{entries_at}
use Rattle.dccp_packets.specs.Forms.{in_form, may_be_short, number_in_form}
use Rattle.dccp_packets.specs.Grammar.{Parts, has_forms, is_long, packet_type}
use Rattle.dccp_packets.specs.Kinds.{ack_of}
use Rattle.dccp_packets.specs.Widths.{kind_in_widths, number_in_width}
use Rattle.dccp_packets.specs.declared.header.Kind.{Kind}
use Rattle.dccp_packets.specs.declared.header.Kind.TheVariants as kind
use Rattle.dccp_packets.specs.declared.header.Number.TheVariants.{Long, Short}
use Rattle.dccp_packets.specs.declared.header.PacketType.TheVariants as types
use Rattle.dccp_states.specs.declared.phase.Role.{Role}
use Rattle.dccp_endpoint.specs.Causes.{Came, is_without_connection}
use Rattle.dccp_endpoint.specs.Drafts.{Draft, IsSendable, alone, frame_of, sent_of}
use Rattle.dccp_endpoint.specs.End.{EndState}
use Rattle.dccp_endpoint.specs.Incoming.{Incoming}
use Rattle.dccp_endpoint.specs.Inputs.{Input, Arrives}
use Rattle.dccp_endpoint.specs.InFull.{HasNearNumbers}
use Rattle.dccp_endpoint.specs.Receiving.{takes_short}
use Rattle.dccp_endpoint.specs.declared.config.Config.{Config}
use Rattle.dccp_endpoint.proofs.InFull.{parts_in, read-in-full}
use Rattle.dccp_endpoint.proofs.OwnFrames.{own_frames_read_in_widths}
use Rattle.dccp_endpoint.proofs.Spelled.{draft-spelled}
use Rattle.two_ends.specs.declared.frames.SentFrame.{SentFrame}
use Rattle.two_ends.specs.Frames.{is_short_packet, options_in, packet_of, packet_options}
use Rattle.two_ends.specs.Numbered.{AreNumbered, IsNumberedFrame, IsResetWithoutConnection}
use Rattle.two_ends.specs.World.{as_sent, is_far_frame}
use Rattle.two_ends.proofs.OfWorlds.Logged.{Logged, IsLogged, IsUnlogged, AreLogged, NoFrames, Numbered, Unnumbered, Found, AtPlace, Nowhere, found}

pub record IsDrafted (config : Config) (short : Bool) (number : ℕ) (draft : Draft) (bytes : List ℕ) : Type 0 where
  pub sum : ℕ
  pub is_packet : packet_of bytes ≡ Some (parts_in config short number draft sum)
  pub are_options : options_in bytes ≡ map Ok (entries_at 0 draft.options)

-- a packet whose type may be short has one of the two forms
abbrev pub MayBe : Bool → Draft → Type 0
MayBe short draft = short ≡ true → may_be_short (packet_type draft.kind) ≡ true

-- a frame of a draft is one that was drafted
pub is-drafted : (config : Config) (short : Bool) (number : ℕ) (draft : Draft) → IsSendable draft → MayBe short draft
    → IsDrafted config short number draft (frame_of config short number draft)
is-drafted config short number draft sendable may =
    let read = own_frames_read_in_widths config short number draft sendable may in
    let packet = ap result_ok read.is_packet in
    record { sum = read.sum; is_packet = packet; are_options = ap packet_options packet ∙ read.are_listed }

connection-formed : (r : Role) (short : Bool) (k : Kind) → is_without_connection r (in_form short k) ≡ is_without_connection r k
connection-formed r false k = refl
connection-formed r true (kind.Request service) = refl
connection-formed r true _ = refl

connection-kept : (r : Role) (k : Kind) → is_without_connection r (kind_in_widths k) ≡ is_without_connection r k
connection-kept r kind.Data = refl
connection-kept r _ = refl

-- A Reset without a connection is a Reset.
pub without-reset : (r : Role) (k : Kind) → is_without_connection r k ≡ true → packet_type k ≡ types.Reset
without-reset r (kind.Reset ack code detail) is = refl
without-reset r _ is = cc is

abbrev pub FitsAck : Option ℕ → Type 0
FitsAck None = Unit {0}
FitsAck (Some n) = n < 2 ^ 48

-- what a packet acknowledges is a number
pub ack-fits : (k : Kind) → FitsAck (ack_of (kind_in_widths k))
ack-fits (kind.Request service) = tt
ack-fits kind.Data = tt
ack-fits (kind.Ack (Long ack)) = omega arith
ack-fits (kind.Ack (Short ack)) = omega arith
ack-fits (kind.DataAck (Long ack)) = omega arith
ack-fits (kind.DataAck (Short ack)) = omega arith
ack-fits _ = omega arith

-- an acknowledgement that fits its field is read as it was meant
pub ack-kept : (k : Kind) (n : ℕ) → has_forms true k ≡ true → ack_of k ≡ Some n → n < 2 ^ 48 → ack_of (kind_in_widths k) ≡ Some n
ack-kept (kind.Response ack service) n long is fits = (let same : ack ≡ n = cc is in ap Some (omega (arith, same, fits)))
ack-kept (kind.Ack (Long ack)) n long is fits = (let same : ack ≡ n = cc is in ap Some (omega (arith, same, fits)))
ack-kept (kind.Ack (Short ack)) n long is fits = cc long
ack-kept (kind.DataAck (Long ack)) n long is fits = (let same : ack ≡ n = cc is in ap Some (omega (arith, same, fits)))
ack-kept (kind.DataAck (Short ack)) n long is fits = cc long
ack-kept (kind.CloseReq ack) n long is fits = (let same : ack ≡ n = cc is in ap Some (omega (arith, same, fits)))
ack-kept (kind.Close ack) n long is fits = (let same : ack ≡ n = cc is in ap Some (omega (arith, same, fits)))
ack-kept (kind.Reset ack code detail) n long is fits = (let same : ack ≡ n = cc is in ap Some (omega (arith, same, fits)))
ack-kept (kind.Sync ack) n long is fits = (let same : ack ≡ n = cc is in ap Some (omega (arith, same, fits)))
ack-kept (kind.SyncAck ack) n long is fits = (let same : ack ≡ n = cc is in ap Some (omega (arith, same, fits)))
ack-kept _ n long is fits = cc is

abbrev pub one_frame : List ℕ → ℕ → Option ℕ → ℕ → ℕ → List SentFrame
one_frame bytes number ack processed floor = record { bytes = bytes; number = number; ack = ack; processed = processed; floor = floor } ∷ []

-- what is kept of a frame that goes out, where its number is one
pub kept-frame : (config : Config) (short : Bool) (number : ℕ) (draft : Draft) (processed floor : ℕ) → number ≡ number % 2 ^ 48
    → as_sent processed floor (Some (sent_of config short number draft))
    ≡ one_frame (frame_of config short number draft) (number % 2 ^ 48) (ack_of (kind_in_widths draft.kind)) processed floor
kept-frame config short number draft processed floor small =
    ap (λ (n : ℕ). one_frame (frame_of config short number draft) n (ack_of (kind_in_widths draft.kind)) processed floor) small

again : (n number : ℕ) → number ≡ residue n → number % 2 ^ 48 ≡ residue n
again n number same = omega (arith, same)

module _ (config : Config) where
  -- A logged frame is numbered.
  numbered-frame : (n number : ℕ) (frame : SentFrame) (l : Logged) → number ≡ residue n → IsLogged config number frame l
      → IsNumberedFrame config.role (residue n) frame
  numbered-frame n number frame l same is =
      record {
        spells =
            draft-spelled config is.short number l.draft _ is.sendable is.form (ap (λ (f : SentFrame). f.bytes) is.same)
            (ap (λ (f : SentFrame). f.number) is.same) (ap (λ (f : SentFrame). f.ack) is.same);
        of_connection =
            connection-kept config.role (in_form is.short l.draft.kind) ∙ connection-formed config.role is.short l.draft.kind ∙ is.of_connection;
        has_number = ap (λ (f : SentFrame). f.number) is.same ∙ again n number same;
      }

  pub reset-frame : (frame : SentFrame) → IsUnlogged config frame → IsResetWithoutConnection config.role frame
  reset-frame frame is =
      let read = is-drafted config false is.number (alone is.kind) is.sendable (λ short. cc short) in
      record {
        spells = draft-spelled config false is.number (alone is.kind) _ is.sendable (λ short. cc short) is.same is.numbered is.acks;
        has_code = connection-kept config.role is.kind ∙ is.without_connection;
        no_options = ap options_in is.same ∙ read.are_options;
      }

  numbered-from : {first : ℕ} {frames : List SentFrame} {log : List Logged} (before count : ℕ) → first ≡ config.iss + before → count ≡ before + length log
      → AreLogged config first frames log → AreNumbered config.role config.iss before frames count
  numbered-from before count from is NoFrames = omega (arith, is)
  numbered-from before count from is (Numbered number same here rest) =
      inl (
        numbered-frame (config.iss + before) number _ _ (same ∙ ap residue from) here,
        numbered-from (before + 1) count (omega (arith, from)) (omega (arith, is)) rest,
      )
  numbered-from before count from is (Unnumbered here rest) = inr (reset-frame _ here, numbered-from before count from is rest)

  pub logged-numbered : (frames : List SentFrame) (log : List Logged) → AreLogged config config.iss frames log
      → AreNumbered config.role config.iss 0 frames (length log)
  logged-numbered frames log logged = numbered-from 0 (length log) (omega arith) (omega arith) logged

  -- The options of a frame are those of its packet, or none.
  pub logged-options : (number : ℕ) (frame : SentFrame) (l : Logged) → IsLogged config number frame l
      → options_in frame.bytes ≡ map Ok (entries_at 0 l.draft.options)
  logged-options number frame l is =
      ap (λ (f : SentFrame). options_in f.bytes) is.same ∙ (is-drafted config is.short number l.draft is.sendable is.form).are_options

  pub unlogged-options : (frame : SentFrame) → IsUnlogged config frame → options_in frame.bytes ≡ []
  unlogged-options frame is = (reset-frame frame is).no_options

-- GSR and GSS are numbers, as the references of a short form have to be.
pub record AreNumbers (e : EndState) : Type 0 where
  pub gsr : e.marks.gsr < 2 ^ 48
  pub gss : e.marks.gss < 2 ^ 48

-- What arrives at an end, if anything, is a frame of this list, with its number, and is not far there.
pub record IsSentFrame (e : EndState) (frames : List SentFrame) (arrived : Option ℕ) (bytes : List ℕ) : Type 0 where
  pub index : ℕ
  pub frame : SentFrame
  pub is_there : slice_get frames index ≡ Some frame
  pub same : bytes ≡ frame.bytes
  pub numbered : arrived ≡ Some frame.number
  pub not_far : is_far_frame e frame ≡ false

abbrev pub IsFromPeer : EndState → List SentFrame → Option ℕ → Input → Type 0
IsFromPeer e frames arrived (Arrives bytes) = IsSentFrame e frames arrived bytes
IsFromPeer e frames arrived _ = Unit {0}

-- The numbers that are kept of a frame are those of the packet that came.
pub record IsToldBy (frame : SentFrame) (a : Incoming) : Type 0 where
  pub number : frame.number ≡ a.number
  pub ack : frame.ack ≡ a.ack

-- A packet that came is the draft's, and its number is the n-th.
pub record IsReadAs (n : ℕ) (draft : Draft) (a : Incoming) : Type 0 where
  pub number : a.number ≡ residue n
  pub type : a.kind ≡ packet_type draft.kind
  pub ack : a.ack ≡ ack_of (kind_in_widths draft.kind)
  pub options : a.options ≡ map Ok (entries_at 0 draft.options)

-- A packet that came, other than a Reset, is one that the peer logged.
pub record IsFromLog (iss : ℕ) (log : List Logged) (a : Incoming) : Type 0 where
  pub place : ℕ
  pub logged : Logged
  pub is_there : slice_get log place ≡ Some logged
  pub read : IsReadAs (iss + place) logged.draft a

-- the packet that came is the one that the bytes are read as
pub the-packet : (e : EndState) (given : Input) (a : Incoming) (came : Came e given a) (p : Parts) → packet_of came.bytes ≡ Some p → came.packet ≡ p
the-packet e given a came p is = same_Some came.packet p (sym (ap result_ok came.is_packet) ∙ is)

-- of a frame that is not far both numbers are near, where short ones are taken and it has them
near-parts : (takes short far ack_far : Bool) → (takes && (short && (far || ack_far))) ≡ false → takes ≡ true → short ≡ true
    → (far ≡ false) × (ack_far ≡ false)
near-parts true true false false close taken is = (refl, refl)
near-parts true true false true close taken is = cc close
near-parts true true true ack_far close taken is = cc close
near-parts true false far ack_far close taken is = cc is
near-parts false short far ack_far close taken is = cc taken

-- the form of a draft's frame is that of its packet
short-so : (short : Bool) (number : ℕ) → not (is_long (number_in_width (number_in_form short number))) ≡ short
short-so true number = refl
short-so false number = refl

-- a frame of the log is short where its log says so
pub logged-form : (config : Config) (number : ℕ) (frame : SentFrame) (l : Logged) (is : IsLogged config number frame l)
    → is_short_packet (packet_of frame.bytes) ≡ is.short
logged-form config number frame l is =
    let read = is-drafted config is.short number l.draft is.sendable is.form in
    ap (λ (f : SentFrame). is_short_packet (packet_of f.bytes)) is.same ∙ ap is_short_packet read.is_packet ∙ short-so is.short number

-- a frame that is not in the log is long
pub unlogged-form : (config : Config) (frame : SentFrame) → IsUnlogged config frame → is_short_packet (packet_of frame.bytes) ≡ false
unlogged-form config frame is =
    let read = is-drafted config false is.number (alone is.kind) is.sendable (λ short. cc short) in
    ap (λ (bytes : List ℕ). is_short_packet (packet_of bytes)) is.same ∙ ap is_short_packet read.is_packet

module _ (e : EndState) (given : Input) (a : Incoming) (came : Came e given a) (config : Config) (numbers : AreNumbers e) where
  read-as : (short : Bool) (n number : ℕ) (draft : Draft) → number % 2 ^ 48 ≡ residue n → IsSendable draft → MayBe short draft
      → came.bytes ≡ frame_of config short number draft
      → (short ≡ true → takes_short e ≡ true → HasNearNumbers e (residue number) (ack_of (kind_in_widths draft.kind))) → IsReadAs n draft a
  read-as short n number draft numbered sendable may same close =
      let read = is-drafted config short number draft sendable may in
      let full = read-in-full e given a came config short number draft sendable may same close in
      let packet : came.packet ≡ parts_in config short number draft read.sum = the-packet e given a came _ (ap packet_of same ∙ read.is_packet) in
      record {
        number = full.number_is ∙ numbered;
        type = full.type_is;
        ack = full.ack_is;
        options =
            ap (λ (x : Incoming). x.options) came.same ∙ ap (λ (p : Parts). packet_options (Some p)) packet
            ∙ ap packet_options (sym read.is_packet) ∙ read.are_options;
      }

  near-numbers : (number : ℕ) (frame : SentFrame) (l : Logged) → (is : IsLogged config number frame l) → is_far_frame e frame ≡ false
      → is.short ≡ true → takes_short e ≡ true → HasNearNumbers e (residue number) (ack_of (kind_in_widths l.draft.kind))
  near-numbers number frame l is close short takes =
      let form : is_short_packet (packet_of frame.bytes) ≡ true = logged-form config number frame l is ∙ short in
      let both =
      near-parts (takes_short e) (is_short_packet (packet_of frame.bytes)) (is_far frame.number e.marks.gsr)
      (is_ack_far frame.ack e.marks.gss) close takes form in
      record {
        gsr_fits = numbers.gsr;
        gss_fits = numbers.gss;
        number_is_near = ap (λ (n : ℕ). is_far n e.marks.gsr) (sym (ap (λ (f : SentFrame). f.number) is.same)) ∙ both.0;
        ack_is_near = ap (λ (n : Option ℕ). is_ack_far n e.marks.gss) (sym (ap (λ (f : SentFrame). f.ack) is.same)) ∙ both.1;
      }

  read-logged : (n number : ℕ) (frame : SentFrame) (l : Logged) → number % 2 ^ 48 ≡ residue n → IsLogged config number frame l → came.bytes ≡ frame.bytes
      → is_far_frame e frame ≡ false → IsReadAs n l.draft a
  read-logged n number frame l numbered is same close =
      read-as is.short n number l.draft numbered is.sendable is.form (same ∙ ap (λ (f : SentFrame). f.bytes) is.same) (near-numbers number frame l is close)

  read-unlogged : (frame : SentFrame) (is : IsUnlogged config frame) → came.bytes ≡ frame.bytes → IsReadAs is.number (alone is.kind) a
  read-unlogged frame is same =
      read-as false is.number is.number (alone is.kind) refl is.sendable (λ short. cc short) (same ∙ is.same) (λ short takes. cc short)

  from-found : (log : List Logged) (frame : SentFrame) → came.bytes ≡ frame.bytes → is_far_frame e frame ≡ false → a.kind ≢ types.Reset
      → Found config config.iss log frame → IsFromLog config.iss log a
  from-found log frame same close other (AtPlace place number l there numbered is) =
      record { place = place; logged = l; is_there = there; read = read-logged _ number frame l (again _ number numbered) is same close }
  from-found log frame same close other (Nowhere is) =
      absurd (other ((read-unlogged frame is same).type ∙ without-reset config.role is.kind is.without_connection))

  told-found : (log : List Logged) (frame : SentFrame) → came.bytes ≡ frame.bytes → is_far_frame e frame ≡ false → Found config config.iss log frame
      → IsToldBy frame a
  told-found log frame same close (AtPlace place number l there numbered is) =
      let read = read-logged number number frame l refl is same close in
      record { number = ap (λ (f : SentFrame). f.number) is.same ∙ sym read.number; ack = ap (λ (f : SentFrame). f.ack) is.same ∙ sym read.ack }
  told-found log frame same close (Nowhere is) =
      let read = read-unlogged frame is same in
      record { number = is.numbered ∙ sym read.number; ack = is.acks ∙ sym read.ack }

  -- What arrives has the numbers that its sender gave it.
  pub told-by-sender : (frames : List SentFrame) (log : List Logged) (arrived : Option ℕ) → (sent : IsSentFrame e frames arrived came.bytes)
      → AreLogged config config.iss frames log → IsToldBy sent.frame a
  told-by-sender frames log arrived sent logged =
      told-found log sent.frame sent.same sent.not_far (found config sent.index sent.frame logged sent.is_there)

  pub arrived-so : (frames : List SentFrame) (log : List Logged) (arrived : Option ℕ) → IsFromPeer e frames arrived given
      → AreLogged config config.iss frames log
      → arrived ≡ Some a.number
  arrived-so frames log arrived from logged =
      let sent : IsSentFrame e frames arrived came.bytes = subst (IsFromPeer e frames arrived) came.is_given from in
      sent.numbered ∙ ap Some (told-by-sender frames log arrived sent logged).number

  pub from-log : (frames : List SentFrame) (log : List Logged) (arrived : Option ℕ) → IsFromPeer e frames arrived given → a.kind ≢ types.Reset
      → AreLogged config config.iss frames log → IsFromLog config.iss log a
  from-log frames log arrived from other logged =
      let sent : IsSentFrame e frames arrived came.bytes = subst (IsFromPeer e frames arrived) came.is_given from in
      from-found log sent.frame sent.same sent.not_far other (found config sent.index sent.frame logged sent.is_there)

-- its acknowledgement is a number
pub from-log-fits : (iss : ℕ) (log : List Logged) (a : Incoming) → IsFromLog iss log a → FitsAck a.ack
from-log-fits iss log a from = subst FitsAck (sym from.read.ack) (ack-fits from.logged.draft.kind)
