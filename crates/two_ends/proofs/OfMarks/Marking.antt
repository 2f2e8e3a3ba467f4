-- The two sides' views of marks and Ack Vectors are reached by moves: a fact of two ends after every schedule.
use Rattle.std.proofs.Common.{◌≡◌, refl, ℕ, zero, suc, List, [], ◌∷◌, ◌++◌, Some, slice_get, arith}
use Rattle.std.proofs.lemmas.List.Elements.{All-cons, All-head, All-nil, All-tail}
use Rattle.std.specs.List.{All}
use Rattle.dccp_endpoint.specs.declared.config.Config.{Config}
use Rattle.two_ends.proofs.OfMarks.MarkReaching.{joined}
use Rattle.two_ends.proofs.OfMarks.MarkSteps.{Kept, reached_keeps, turned}
use Rattle.two_ends.specs.MarkMoves.{unmoved_side}
use Rattle.two_ends.specs.MarkMoves.ReachedByMarks.{Starts}
use Rattle.two_ends.specs.MarkView.{MarkSide}
use Rattle.two_ends.proofs.OfWorlds.Acting.{Act, Keeps, Party, acted, at_beginning, config_of, drafted_by, end_of, longer}
use Rattle.two_ends.proofs.OfWorlds.HeardTo.{heard-more, heard-none}
use Rattle.two_ends.proofs.OfWorlds.Logged.{Logged}
use Rattle.two_ends.proofs.OfMarks.MarkHearing.{takes}
use Rattle.two_ends.proofs.OfMarks.MarkSending.{done, last, looks, shown}
use Rattle.two_ends.proofs.OfWorlds.Numbering.{IsOrdered}
use Rattle.two_ends.proofs.OfMarks.Shown.{IsPacketOf, IsShown, moves-keep}
use Rattle.two_ends.proofs.OfMarks.Vectors.{NoneSent}

-- What a side and its peer mark and report: a view of each, and the facts that moves of either keep.
pub record IsMarking (x y : Party) : Type 0 where
  pub view : MarkSide
  pub peer : MarkSide
  pub kept : Kept view peer
  pub here : IsShown x y view
  pub there : IsShown y x peer

abbrev pub from-there : (x y : Party) → IsMarking x y → IsMarking y x
from-there x y m = record { view = m.peer; peer = m.view; kept = turned m.view m.peer m.kept; here = m.there; there = m.here }

-- a packet stays where more are logged
get-more : (log more : List Logged) (place : ℕ) (l : Logged) → slice_get log place ≡ Some l → slice_get (log ++ more) place ≡ Some l
get-more [] more place l there = cc there
get-more (first ∷ rest) more zero l there = there
get-more (first ∷ rest) more (suc place) l there = get-more rest more place l there

packets-more : (iss : ℕ) (log more : List Logged) (numbers : List ℕ) → All (IsPacketOf iss log) numbers → All (IsPacketOf iss (log ++ more)) numbers
packets-more iss log more [] all = All-nil (IsPacketOf iss (log ++ more))
packets-more iss log more (n ∷ ns) all =
    let own = All-head (IsPacketOf iss log) n ns all in
    All-cons (IsPacketOf iss (log ++ more)) n ns
    (record {
      place = own.place;
      logged = own.logged;
      is_there = get-more log more own.place own.logged own.is_there;
      is_numbered = own.is_numbered;
      is_no_reset = own.is_no_reset;
    })
    (packets-more iss log more ns (All-tail (IsPacketOf iss log) n ns all))

acting : (act : Act) → IsOrdered act.side → IsOrdered act.peer → IsMarking act.side act.peer → IsMarking (acted act) act.peer
acting act own others m =
    let t = looks act own others m.view m.peer m.kept m.here m.there (takes act others m.view m.peer m.kept m.here m.there) in
    let after : MarkSide = last act own others m.view m.peer m.kept m.here m.there t in
    let sends = done act own others m.view m.peer m.kept m.here m.there t in
    record {
      view = after;
      peer = m.peer;
      kept = moves-keep m.peer (joined m.peer.frames m.view t.after after t.moves sends.moves) m.kept;
      here = shown act own others m.view m.peer m.kept m.here m.there t;
      there =
          record {
            heard = heard-more (config_of act.side).iss _ _ m.peer.greatest (end_of act.peer) (longer act) m.there.heard;
            first = m.there.first;
            unset = m.there.unset;
            set = m.there.set;
            closed = m.there.closed;
            processed = m.there.processed;
            marked = m.there.marked;
            packets =
                packets-more (config_of act.side).iss act.side.log (drafted_by act.side.half act.arrived act.effect) act.peer.half.processed m.there.packets;
            frames = m.there.frames;
            records = m.there.records;
          };
    }

begins : (own peer : Config) → IsShown (at_beginning own) (at_beginning peer) unmoved_side
begins own peer =
    record {
      heard = heard-none own peer.iss;
      first = λ some. absurd (omega (arith, some));
      unset = λ none. (refl, refl);
      set = λ some. absurd (omega (arith, some));
      closed = λ is. cc is;
      processed = refl;
      marked = refl;
      packets = All-nil (IsPacketOf peer.iss []);
      frames = NoneSent;
      records = λ r has_it. absurd (omega (arith, has_it.1));
    }

-- a fact of both sides after every schedule
pub marking : Keeps (λ x y. IsOrdered x) IsMarking
marking =
    record {
      starts =
          λ own peer own_fits peer_fits.
          record {
            view = unmoved_side;
            peer = unmoved_side;
            kept = reached_keeps unmoved_side unmoved_side Starts;
            here = begins own peer;
            there =
                begins peer own;
          };
      acts =
          λ act (own, others) (here, there).
          let next = acting act own others here in
          (next, from-there (acted act) act.peer next);
    }
