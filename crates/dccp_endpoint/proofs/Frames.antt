-- The frames that an end writes.
use Rattle.std.proofs.Common.{◌≡◌, ℕ, ◌≤◌, Bool, true, false, List, ◌++◌, length, take, ◌∙◌, ap, arith}
use Rattle.std.proofs.lemmas.List.{append-nil, take_all, drop_all}
use Rattle.std.specs.List.{refill}
use Rattle.dccp_packets.specs.declared.header.PacketType.{PacketType}
use Rattle.dccp_packets.specs.declared.header.PacketType.TheVariants as types
use Rattle.dccp_packets.specs.Grammar.{fixed_length}

-- no fixed part is longer than a Response's
pub fixed_part_is_short : (long : Bool) (kind : PacketType) → fixed_length long kind ≤ 28
fixed_part_is_short true types.Data = omega arith
fixed_part_is_short false types.Data = omega arith
fixed_part_is_short _ _ = omega arith

-- as many bytes as there were take the place of all
pub refill-same : (old new : List ℕ) → length new ≡ length old → refill (length old) old new ≡ new
refill-same old new same =
    ap (λ (rest : List ℕ). take (length old) (new ++ rest)) (drop_all (length new) old (omega arith))
    ∙ ap (λ (all : List ℕ). take (length old) all) (append-nil new)
    ∙ take_all (length old) new (omega arith)
