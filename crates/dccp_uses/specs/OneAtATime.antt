-- The rules of a sender that has one packet in flight at a time, an example (own).
use Rattle.std.specs.Prelude.{◌==◌}
use Rattle.std.proofs.Math.Nat.{le-add_right}
use Rattle.congestion_trait.specs.Control.{KeepsWindow}
use Rattle.congestion_trait.specs.Kind.{KindRules, control_by_rules}

-- It replaces CCID 2, whose window is at least one packet, so it never sends faster. It keeps nothing besides the flight list.
abbrev pub one_at_a_time : KindRules (Unit {0})
one_at_a_time = record {
  window = λ _. 1;
  is_known = λ ccid. ccid == 2;
  fresh = tt;
  with_sent = λ _ _. tt;
  with_report = λ _ _ _ _. tt;
  timed_out = λ _. tt;
}

-- its window is always one
pub one_packet_stays : KeepsWindow (control_by_rules one_at_a_time)
one_packet_stays = record {
  start_opens = λ _ _. le-add_right 1 0;
  sending_keeps = λ _ _ _. le-add_right 1 0;
  report_keeps = λ _ _ _ _. le-add_right 1 0;
  timeout_opens = λ _. le-add_right 1 0;
}
