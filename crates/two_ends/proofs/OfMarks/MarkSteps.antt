-- Every move keeps the facts. `side` moves, `peer` does not; `turned` exchanges them.
use Rattle.std.proofs.Common.{◌≡◌, ℕ, ◌+◌, ◌<◌, ◌≤◌, ◌⊎◌, inl, inr, Bool, true, false, List, length, sym, subst, arith}
use Rattle.two_ends.specs.MarkView.{MarkFrame, MarkSide, frame_at, frames_with, placed_with}
use Rattle.two_ends.specs.MarkMoves.{with_first_frame, begun_shut, with_processed, passed, shut, closed_side, with_floor, told, ack_frame, other_frame, with_sent_frame, unmoved_side, IsReportedBy, MarkMove, ReachedByMarks}
use Rattle.two_ends.specs.MarkMoves.MarkMove.{Begins, Begins_shut, Joins, Repeats, Refuses, Shuts, Ends, Raises, Hears, Acks, Sends}
use Rattle.two_ends.specs.MarkMoves.ReachedByMarks.{Starts, Server_moves, Client_moves}
use Rattle.two_ends.specs.MarkFacts.{AreSoundNumbers, IsHeeded}
use Rattle.two_ends.proofs.OfMarks.MarkFacts.{IsListed, IsTelling}
use Rattle.two_ends.proofs.OfMarks.MarkKeeping as marks
use Rattle.two_ends.proofs.OfMarks.Listing.{joined_listed, fresh_listed}
use Rattle.two_ends.proofs.OfMarks.MarkVectors as vectors
use Rattle.two_ends.proofs.OfMarks.Told.{AreSettled, more_heard, more_sent, placed_still, join_settled, raise_settled}

-- what holds of one side towards its peer, of which it needs the frames and what was processed
pub record Towards (side : MarkSide) (there : List MarkFrame) (heard : ℕ → ℕ) : Type 0 where
  pub sound : AreSoundNumbers side there
  pub heeded : IsHeeded side there
  pub listed : IsListed side.processed side.place
  pub telling : IsTelling side
  pub settled : AreSettled side.first side.floor side.frames side.place heard
  pub reported : (n : ℕ) → side.reported n ≡ true → 0 < heard n

pub record Kept (side peer : MarkSide) : Type 0 where
  pub here : Towards side peer.frames peer.place
  pub there : Towards peer side.frames side.place

pub turned : (side peer : MarkSide) → Kept side peer → Kept peer side
turned side peer facts = record { here = facts.there; there = facts.here }

-- the side has processed one more
more_done : (peer : MarkSide) (there : List MarkFrame) (heard later : ℕ → ℕ) → ((m : ℕ) → 0 < heard m → 0 < later m)
    → Towards peer there heard → Towards peer there later
more_done peer there heard later grows facts =
    record {
      sound = facts.sound;
      heeded = facts.heeded;
      listed = facts.listed;
      telling = facts.telling;
      settled = λ n some from below. more_heard peer.frames peer.place heard later n grows (facts.settled n some from below);
      reported = λ n is. grows n (facts.reported n is);
    }

-- the side has sent one more
more_frames : (peer : MarkSide) (there : List MarkFrame) (heard : ℕ → ℕ) (frame : MarkFrame) → Towards peer there heard
    → Towards peer (frames_with there frame) heard
more_frames peer there heard frame facts =
    record {
      sound = marks.grown_sound peer there facts.sound facts.heeded frame;
      heeded = marks.grown_heeded peer there facts.sound facts.heeded frame;
      listed = facts.listed;
      telling = facts.telling;
      settled = facts.settled;
      reported = facts.reported;
    }

none_between : (count n : ℕ) → count ≤ n → n < count → ⊥
none_between count n from below = omega arith

module _ (side peer : MarkSide) (facts : Kept side peer) where
  begin_keeps : (count : ℕ) → side.first ≡ 0 → 1 ≤ count → count ≤ length peer.frames → Kept (with_first_frame side count) peer
  begin_keeps count unheard some sent_there =
      record {
        here = record {
          sound = marks.begin_sound side peer.frames facts.here.sound facts.here.heeded count unheard some sent_there;
          heeded = marks.begin_heeded side peer.frames facts.here.sound facts.here.heeded count unheard some sent_there;
          listed = joined_listed side.processed side.place count facts.here.listed
              (marks.unplaced_begin side peer.frames facts.here.sound facts.here.heeded count unheard);
          telling = vectors.begin_telling side peer.frames facts.here.sound facts.here.telling count unheard;
          settled = λ n heard from below. absurd (none_between count n from below);
          reported = facts.here.reported;
        };
        there = more_done peer side.frames side.place (placed_with side.place (length side.processed) count)
            (placed_still side.place (length side.processed) count) facts.there;
      }

  begin_shut_keeps : (count : ℕ) → side.first ≡ 0 → 1 ≤ count → count ≤ length peer.frames → Kept (begun_shut side count) peer
  begin_shut_keeps count unheard some sent_there =
      record {
        here = record {
          sound = marks.begin_shut_sound side peer.frames facts.here.sound facts.here.heeded count unheard some sent_there;
          heeded = marks.begin_shut_heeded side peer.frames facts.here.sound facts.here.heeded count unheard some sent_there;
          listed = facts.here.listed;
          telling = vectors.begin_shut_telling side peer.frames facts.here.sound facts.here.telling count unheard;
          settled = λ n heard from below. absurd (none_between count n from below);
          reported = facts.here.reported;
        };
        there = facts.there;
      }

  join_keeps : (count : ℕ) → 0 < side.first → side.closed ≡ false → count ≤ length peer.frames → side.floor ≤ count
      → side.marked count ≡ false → Kept (with_processed side count) peer
  join_keeps count heard live sent_there above new =
      record {
        here = record {
          sound = marks.join_sound side peer.frames facts.here.sound facts.here.heeded count heard sent_there above new;
          heeded = marks.join_heeded side peer.frames facts.here.sound facts.here.heeded count heard sent_there live above new;
          listed = joined_listed side.processed side.place count facts.here.listed
              (marks.unplaced_join side peer.frames facts.here.sound facts.here.heeded count above new);
          telling = vectors.join_telling side peer.frames facts.here.sound facts.here.telling count above new;
          settled = join_settled side count peer.place (length side.processed) facts.here.settled;
          reported = facts.here.reported;
        };
        there = more_done peer side.frames side.place (placed_with side.place (length side.processed) count)
            (placed_still side.place (length side.processed) count) facts.there;
      }

  -- a frame is not marked, or its mark is not new
  pass_keeps : (count : ℕ) → 0 < side.first → count ≤ length peer.frames → IsHeeded (passed side count) peer.frames
      → Kept (passed side count) peer
  pass_keeps count heard sent_there heeded =
      record {
        here = record {
          sound = marks.pass_sound side peer.frames facts.here.sound facts.here.heeded count heard sent_there;
          heeded = heeded;
          listed = facts.here.listed;
          telling = vectors.pass_telling side peer.frames facts.here.sound facts.here.telling count;
          settled = facts.here.settled;
          reported = facts.here.reported;
        };
        there = facts.there;
      }

  shut_keeps : (count : ℕ) → 0 < side.first → count ≤ length peer.frames → Kept (shut side count) peer
  shut_keeps count heard sent_there =
      record {
        here = record {
          sound = marks.shut_sound side peer.frames facts.here.sound facts.here.heeded count heard sent_there;
          heeded = marks.shut_heeded side peer.frames facts.here.sound facts.here.heeded count heard sent_there;
          listed = facts.here.listed;
          telling = vectors.shut_telling side peer.frames facts.here.sound facts.here.telling count;
          settled = facts.here.settled;
          reported = facts.here.reported;
        };
        there = facts.there;
      }

  end_keeps : Kept (closed_side side) peer
  end_keeps =
      record {
        here = record {
          sound = marks.end_sound side peer.frames facts.here.sound facts.here.heeded;
          heeded = marks.end_heeded side peer.frames facts.here.sound facts.here.heeded;
          listed = facts.here.listed;
          telling = vectors.end_telling side peer.frames facts.here.sound facts.here.telling;
          settled = facts.here.settled;
          reported = facts.here.reported;
        };
        there = facts.there;
      }

  raise_keeps : (count own : ℕ) → 0 < side.first → (frame_at peer.frames count).is_ack ≡ true
      → (frame_at peer.frames count).acknowledged ≡ own → (frame_at side.frames own).has_vector ≡ true
      → (frame_at side.frames own).is_whole ≡ true → Kept (with_floor side ((frame_at side.frames own).acknowledged + 1)) peer
  raise_keeps count own heard acks is_own vector whole =
      let is_ack : (frame_at side.frames own).is_ack ≡ true = facts.here.telling.vectors_acks own vector in
      let done : 0 < peer.place own =
      subst (λ k. 0 < peer.place k) is_own
      (facts.there.heeded.acknowledged_processed count acks (subst (λ k. (frame_at side.frames k).is_ack ≡ true) (sym is_own) is_ack)) in
      record {
        here = record {
          sound = marks.raise_sound side peer.frames facts.here.sound facts.here.heeded own heard is_ack;
          heeded = marks.raise_heeded side peer.frames facts.here.sound facts.here.heeded own heard is_ack;
          listed = facts.here.listed;
          telling = vectors.raise_telling side peer.frames facts.here.sound facts.here.telling ((frame_at side.frames own).acknowledged + 1);
          settled = raise_settled side peer.place own vector whole (facts.here.telling.floors_low own) done facts.here.settled;
          reported = facts.here.reported;
        };
        there = facts.there;
      }

  heard_by : (count : ℕ) (n : ℕ) → (side.reported n ≡ true) ⊎ IsReportedBy (frame_at peer.frames count) n → 0 < peer.place n
  heard_by count n (inl before) = facts.here.reported n before
  heard_by count n (inr read) = facts.there.telling.says_processed count n read.carries read.from_floor read.up_to read.received

  hear_keeps : (count : ℕ) (reported : ℕ → Bool)
      → ((n : ℕ) → reported n ≡ true → (side.reported n ≡ true) ⊎ IsReportedBy (frame_at peer.frames count) n) → Kept (told side reported) peer
  hear_keeps count reported why =
      record {
        here = record {
          sound = marks.told_sound side peer.frames facts.here.sound facts.here.heeded reported;
          heeded = marks.told_heeded side peer.frames facts.here.sound facts.here.heeded reported;
          listed = facts.here.listed;
          telling = vectors.told_telling side peer.frames facts.here.sound facts.here.telling reported;
          settled = facts.here.settled;
          reported = λ n is. heard_by count n (why n is);
        };
        there = facts.there;
      }

  ack_keeps : (has_vector is_whole : Bool) → 0 < side.first → side.closed ≡ false
      → Kept (with_sent_frame side (ack_frame side has_vector is_whole)) peer
  ack_keeps has_vector is_whole heard live =
      record {
        here = record {
          sound = marks.ack_sound side peer.frames facts.here.sound facts.here.heeded has_vector is_whole heard live;
          heeded = marks.ack_heeded side peer.frames facts.here.sound facts.here.heeded has_vector is_whole heard live;
          listed = facts.here.listed;
          telling = vectors.ack_telling side peer.frames facts.here.sound facts.here.telling has_vector is_whole;
          settled = λ n some from below.
              more_sent side.frames (ack_frame side has_vector is_whole) side.place peer.place n (facts.here.settled n some from below);
          reported = facts.here.reported;
        };
        there = more_frames peer side.frames side.place (ack_frame side has_vector is_whole) facts.there;
      }

  send_keeps : (acknowledged : ℕ) → Kept (with_sent_frame side (other_frame side acknowledged)) peer
  send_keeps acknowledged =
      record {
        here = record {
          sound = marks.send_sound side peer.frames facts.here.sound facts.here.heeded acknowledged;
          heeded = marks.send_heeded side peer.frames facts.here.sound facts.here.heeded acknowledged;
          listed = facts.here.listed;
          telling = vectors.send_telling side peer.frames facts.here.sound facts.here.telling acknowledged;
          settled = λ n some from below.
              more_sent side.frames (other_frame side acknowledged) side.place peer.place n (facts.here.settled n some from below);
          reported = facts.here.reported;
        };
        there = more_frames peer side.frames side.place (other_frame side acknowledged) facts.there;
      }

pub move_keeps : (side peer after : MarkSide) → MarkMove peer.frames side after → Kept side peer → Kept after peer
move_keeps side peer _ (Begins count unheard live some sent_there) facts = begin_keeps side peer facts count unheard some sent_there
move_keeps side peer _ (Begins_shut count unheard some sent_there) facts = begin_shut_keeps side peer facts count unheard some sent_there
move_keeps side peer _ (Joins count heard live sent_there above new) facts =
    join_keeps side peer facts count heard live sent_there above new
move_keeps side peer _ (Repeats count heard live sent_there known) facts =
    pass_keeps side peer facts count heard sent_there
    (marks.repeat_heeded side peer.frames facts.here.sound facts.here.heeded count heard sent_there live known)
move_keeps side peer _ (Refuses count heard live sent_there other) facts =
    pass_keeps side peer facts count heard sent_there
    (marks.refuse_heeded side peer.frames facts.here.sound facts.here.heeded count heard sent_there live other)
move_keeps side peer _ (Shuts count heard sent_there) facts = shut_keeps side peer facts count heard sent_there
move_keeps side peer _ Ends facts = end_keeps side peer facts
move_keeps side peer _ (Raises count own heard acks is_own vector whole) facts =
    raise_keeps side peer facts count own heard acks is_own vector whole
move_keeps side peer _ (Hears count reported why) facts = hear_keeps side peer facts count reported why
move_keeps side peer _ (Acks has_vector is_whole heard live) facts = ack_keeps side peer facts has_vector is_whole heard live
move_keeps side peer _ (Sends acknowledged) facts = send_keeps side peer facts acknowledged

not_below_zero : (n : ℕ) → n < 0 → ⊥
not_below_zero n below = omega arith

not_both : false ≡ true → ⊥
not_both is = cc

fresh_towards : Towards unmoved_side unmoved_side.frames unmoved_side.place
fresh_towards =
    record {
      sound = marks.fresh_sound;
      heeded = marks.fresh_heeded;
      listed = fresh_listed;
      telling = vectors.fresh_telling;
      settled = λ n some from below. absurd (not_below_zero n below);
      reported = λ n is. absurd (not_both is);
    }

pub reached_keeps : (server client : MarkSide) → ReachedByMarks server client → Kept server client
reached_keeps _ _ Starts = record { here = fresh_towards; there = fresh_towards }
reached_keeps _ _ (Server_moves server client after reached move) =
    move_keeps server client after move (reached_keeps server client reached)
reached_keeps _ _ (Client_moves server client after reached move) =
    turned after server (move_keeps client server after move (turned server client (reached_keeps server client reached)))
