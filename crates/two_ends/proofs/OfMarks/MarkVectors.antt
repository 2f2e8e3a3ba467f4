-- Each move of a side keeps the facts on its vectors.
use Rattle.std.proofs.Common.{◌≡◌, ℕ, ◌≤◌, Bool, false, List, arith, length-append}
use Rattle.two_ends.specs.MarkView.{MarkFrame, MarkSide}
use Rattle.two_ends.specs.MarkMoves.{with_first_frame, begun_shut, with_processed, passed, shut, closed_side, with_floor, told, ack_frame, other_frame, with_sent_frame, unmoved_side}
use Rattle.two_ends.specs.MarkFacts.{AreSoundNumbers}
use Rattle.two_ends.proofs.OfMarks.MarkFacts.{IsTelling}
use Rattle.two_ends.proofs.OfMarks.MarkFrames.{frame_in, frame_cases}

module _ (side : MarkSide) (there : List MarkFrame) (sound : AreSoundNumbers side there) (telling : IsTelling side) where
  pub begin_telling : (count : ℕ) → side.first ≡ 0 → IsTelling (with_first_frame side count)
  begin_telling count unheard = grind (arith, length-append)

  pub begin_shut_telling : (count : ℕ) → side.first ≡ 0 → IsTelling (begun_shut side count)
  begin_shut_telling count unheard = grind arith

  pub join_telling : (count : ℕ) → side.floor ≤ count → side.marked count ≡ false → IsTelling (with_processed side count)
  join_telling count above new = grind (arith, length-append)

  pub pass_telling : (count : ℕ) → IsTelling (passed side count)
  pass_telling count = grind arith

  pub shut_telling : (count : ℕ) → IsTelling (shut side count)
  shut_telling count = grind arith

  pub end_telling : IsTelling (closed_side side)
  end_telling = grind arith

  pub raise_telling : (to : ℕ) → IsTelling (with_floor side to)
  raise_telling to = grind arith

  pub told_telling : (reported : ℕ → Bool) → IsTelling (told side reported)
  told_telling reported = grind arith

  pub ack_telling : (has_vector is_whole : Bool) → IsTelling (with_sent_frame side (ack_frame side has_vector is_whole))
  ack_telling has_vector is_whole = grind (arith, frame_cases)

  pub send_telling : (acknowledged : ℕ) → IsTelling (with_sent_frame side (other_frame side acknowledged))
  send_telling acknowledged = grind (arith, frame_cases)

pub fresh_telling : IsTelling unmoved_side
fresh_telling = grind (arith, frame_in)
