use Rattle.std.proofs.Common.{◌≡◌, ◌-◌, ◌++◌, take, replicate}
use Rattle.feature_lists.proofs.prefs.entries_of.Given as goal

-- the entries so far, and zeros after them
abbrev pub invariant-loop-place : goal.invariant-loop-place
invariant-loop-place l = l.entries ≡ take l.place l.values ++ replicate (8 - l.place) 0
