use Rattle.std.proofs.Common.{◌≡◌, ◌-◌, ◌≤◌, length, drop}
use Rattle.de.specs.AtHand.{PlainCells}
use Rattle.de.proofs.at_hand.plain_cells.Given as goal

abbrev pub invariant-loop-cells : goal.invariant-loop-cells
invariant-loop-cells l = (l.rest ≡ drop l.taken l.bytes) × (l.taken ≤ length l.bytes) × (l.cells ≤ l.most) × PlainCells l.bytes l.cells l.taken

abbrev pub decreases-loop-cells : goal.decreases-loop-cells
decreases-loop-cells l = l.most - l.cells
