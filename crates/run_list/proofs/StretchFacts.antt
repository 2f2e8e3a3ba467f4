-- What crates above may cite of numbers downwards, of laid runs and of a set's stretches: facts on these definitions alone,
-- which say nothing of how a set is kept.
pub use Rattle.run_list.proofs.Steps.{down, down_fits, distance-down}
pub use Rattle.run_list.proofs.Downs.{below-absent, above-absent, inside-present}
pub use Rattle.run_list.proofs.Laid.{falling_numbers, laid_below}
pub use Rattle.run_list.proofs.Kept.{laid_wider}
pub use Rattle.run_list.proofs.Found.{laid-stretches}
