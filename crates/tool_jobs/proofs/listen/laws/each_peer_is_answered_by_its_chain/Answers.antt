use Rattle.tool_jobs.proofs.PeersRunning.{each_peer_chained, every_input_runs}
use Rattle.tool_jobs.proofs.PeersTold.{busy-exactly, exchanges-said, flows-ordered, input-text}
use Rattle.tool_jobs.proofs.listen.laws.each_peer_is_answered_by_its_chain.Goals as goal

pub returns : goal.returns
returns c = record {
  run = every_input_runs;
  chains = each_peer_chained;
  text = input-text;
  lines = exchanges-said;
  ordered = flows-ordered;
  busy = busy-exactly;
}
