-- Each form does what its job ensures. Search would find these proofs too; written, they are refused at once for a wrong body.
use Rattle.std.proofs.Common.{refl}
use Rattle.tool_text.proofs.Ending.{ends-for-more}
use Rattle.dccp_command.proofs.top.perform.Goals as goal

pub returns-in-Run : goal.returns-in-Run
returns-in-Run g c = record {
  does = rw c.in-Run.is (λ bytes told. record {
    answers = c.run_schedule.ensures.transcript bytes told;
    past = c.run_schedule.ensures.past bytes told;
    safe = c.run_schedule.ensures.safe bytes told;
  });
  cause = c.run_schedule.ensures.cause;
}

pub returns-in-Replay : goal.returns-in-Replay
returns-in-Replay g c = record {
  does = rw c.in-Replay.is (λ bytes told. record {
    answers = c.replay_frames.ensures.replayed bytes told;
    past = c.replay_frames.ensures.past bytes told;
    safe = λ _. tt;
  });
  cause = c.replay_frames.ensures.cause;
}

pub returns-in-Buffered : goal.returns-in-Buffered
returns-in-Buffered g c = record {
  does = rw c.in-Buffered.is (λ bytes told. record {
    answers = c.replay_at_buffer.ensures.replayed bytes told;
    past = c.replay_at_buffer.ensures.past bytes told;
    safe = λ _. tt;
  });
  cause = c.replay_at_buffer.ensures.cause;
}

pub returns-in-Show : goal.returns-in-Show
returns-in-Show g c = record {
  does = rw c.in-Show.is (λ bytes told. record {
    answers = c.show_capture.ensures.text bytes told;
    past = c.show_capture.ensures.past bytes told;
    safe = λ _. tt;
  });
  cause = c.show_capture.ensures.cause;
}

pub returns-in-Listen : goal.returns-in-Listen
returns-in-Listen g c = record {
  does = rw c.in-Listen.is (λ bytes told. record {
    answers = c.listen_to_peers.ensures.listened bytes told;
    past = c.listen_to_peers.ensures.past bytes told;
    safe = λ _. tt;
  });
  cause = c.listen_to_peers.ensures.cause;
}

pub returns-in-Ecn : goal.returns-in-Ecn
returns-in-Ecn g c = record {
  does = rw c.in-Ecn.is (λ bytes told. record {
    answers = c.play_nonces.ensures.played bytes told;
    past = c.play_nonces.ensures.past bytes told;
    safe = λ _. tt;
  });
  cause = c.play_nonces.ensures.cause;
}

pub returns-in-Campaign : goal.returns-in-Campaign
returns-in-Campaign g c = record {
  does = rw c.in-Campaign.is (refl, c.run_campaign.ensures.answers);
  cause = ends-for-more c.run_campaign.result _ _ _ absurd c.run_campaign.ensures.answers.cause;
}
