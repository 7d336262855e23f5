use Rattle.std.proofs.Common.{◌≡◌, ◌+◌, ◌-◌, ◌≤◌, length}
use Rattle.room.proofs.Listing.{Onward}
use Rattle.room.proofs.keys.KeyRoom.read_keys.Given as goal

-- the rest of the list does from here what the whole does
abbrev pub invariant-loop : goal.invariant-loop
invariant-loop g l =
    Onward g.R.DeRead.lends l.initial.bunser.end l.n l.initial.self (g.R.DeRead.view l.initial.bunser.read) (l.n - l.counter) l.self (g.R.DeRead.view l.bunser.read)
    × (l.bunser.end ≡ l.initial.bunser.end)
    × (length l.self + (l.n - l.counter) ≤ 256)
