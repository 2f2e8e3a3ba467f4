-- An inbox without a drop that is not slow has nothing to say, and a frame goes out beside it as it is.
use Rattle.std.proofs.Common.{◌≡◌, ℕ, Bool, false, List, [], ◌++◌, Option, Some, None, Result, Ok, Err, take, refl, ap, ◌∙◌, sym}
use Rattle.ack_vectors.specs.Coding.{coded_bytes}
use Rattle.dccp_packets.specs.Grammar.{Parts, decoded}
use Rattle.dccp_packets.specs.Outgoing.{Outgoing}
use Rattle.dccp_packets.specs.declared.reading.Malformed.{Malformed}
use Rattle.dccp_sum.specs.declared.pseudo_header.Pseudo.{Pseudo}
use Rattle.data_dropped.specs.Drops.{drop_bytes, drop_coding, up_to_last_code}
use Rattle.dccp_endpoint.specs.Lengthening.{lengthened_if, says_more}
use Rattle.data_dropped.specs.Frames.{acknowledged_by, buffered_ack, buffered_frame, buffered_packet, drops_said, said, slow_said}
use Rattle.data_dropped.specs.Inbox.{InboxState, is_slow}
use Rattle.data_dropped.specs.declared.drops.DropEntry.{DropEntry}
use Rattle.data_dropped.proofs.LastCode.{none-count}
use Rattle.data_dropped.proofs.Table.{table-none}

no-bytes : (ack : ℕ) → drop_bytes [] ack ≡ []
no-bytes ack =
    ap (λ (codes : List (Option ℕ)). take 253 (coded_bytes drop_coding (up_to_last_code codes))) (table-none ack)
    ∙ ap (λ (codes : List (Option ℕ)). take 253 (coded_bytes drop_coding codes)) (none-count 2048)

nothing-said : (held : InboxState) (ack : ℕ) → held.drops ≡ [] → is_slow held ≡ false → said held ack ≡ []
nothing-said held ack none quick =
    ap (λ (drops : List DropEntry). drops_said (drop_bytes drops ack) ++ slow_said (is_slow held)) none
    ∙ ap (λ (bytes : List ℕ). drops_said bytes ++ slow_said (is_slow held)) (no-bytes ack) ∙ ap (λ (slow : Bool). slow_said slow) quick

module _ (pseudo : Pseudo) (held : InboxState) (none : held.drops ≡ []) (quick : is_slow held ≡ false) where
  ack-same : (p : Parts) (frame : List ℕ) (ack : Option ℕ) → buffered_ack pseudo held p frame ack ≡ frame
  ack-same p frame None = refl
  ack-same p frame (Some ack) = ap (λ (more : List ℕ). lengthened_if (says_more p more) pseudo p frame more) (nothing-said held ack none quick)

  packet-same : (told : Option ℕ) (frame : List ℕ) (read : Result Parts Malformed) → buffered_packet pseudo told held frame read ≡ frame
  packet-same told frame (Ok p) = ack-same p frame (acknowledged_by told p.header.kind)
  packet-same told frame (Err fault) = refl

  pub silent_same : (sent : Option Outgoing) → sent ≡ buffered_frame pseudo held sent
  silent_same None = refl
  silent_same (Some sent) = ap (λ (bytes : List ℕ). Some (record sent { bytes = bytes })) (sym (packet-same sent.ack sent.bytes (decoded sent.bytes)))
