use Rattle.std.proofs.Common.{◌-◌}
use Rattle.de.specs.Held.{body_of}
use Rattle.de.proofs.RowPass.{Within}
use Rattle.de.proofs.events.Events.skip_row.Given as goal

abbrev pub invariant-loop-cells : goal.invariant-loop-cells
invariant-loop-cells g l = Within g.R.DeRead.lends (body_of g.R.DeRead.view l.fn.self) l.columns l.cells (body_of g.R.DeRead.view l.self)

abbrev pub decreases-loop-cells : goal.decreases-loop-cells
decreases-loop-cells g l = l.columns - l.cells
