use Rattle.congestion_trait.proofs.Halves.{in_either, in_second}
use Rattle.congestion_trait.proofs.flight.is_in.Goals as goal

pub returns-then-is_among : goal.returns-then-is_among
returns-then-is_among c = (
  λ told. in_second c.args.entry.now c.as_slices.result.0.now c.as_slices.result.1.now c.args.entries.now.items c.as_slices.ensures (c.is_among.ensures.0 told),
  λ _. c.if-is_among.true,
)

pub returns-else-is_among : goal.returns-else-is_among
returns-else-is_among c =
    in_either c.args.entry.now c.as_slices.result.0.now c.as_slices.result.1.now c.is_among.result c.is_among-else-is_among.result
    c.if-is_among.false c.is_among.ensures c.is_among-else-is_among.ensures c.args.entries.now.items c.as_slices.ensures
