use Rattle.std.proofs.Common.{◌≡◌, ◌≤◌, length, take}
use Rattle.room.proofs.keys.KeyRoom.truncate.Given as goal

-- some of the last keys have been given up
abbrev pub invariant-loop-self : goal.invariant-loop-self
invariant-loop-self l = (l.n ≤ length l.self) × (l.self ≡ take (length l.self) l.initial.self)

abbrev pub decreases-loop-self : goal.decreases-loop-self
decreases-loop-self l = length l.self
