use Rattle.std.proofs.Common.{◌+◌, ◌-◌, arith}
use Rattle.room.specs.Open.{within_row}
use Rattle.room.proofs.Levels.{in_row_few}
use Rattle.room.proofs.Innermost.{changed_kept, changed_opens, below_top, nesting_few}
use Rattle.room.proofs.opens.Opens.enter_row.Goals as goal

pub overflow_add-self : goal.overflow_add-self
overflow_add-self c = let few = nesting_few c.self.inside c.self.invariant in let one = in_row_few c.enter_row.new.self in omega arith

pub invariant_of-self : goal.invariant_of-self
invariant_of-self c = changed_kept c.self.inside c.self.invariant c.enter_row.new.self c.enter_row.ensures.over (c.self.inside.rows - c.rows.result + c.rows-2.result) (omega arith)

pub returns : goal.returns
returns c =
    changed_opens c.self.inside c.self.invariant c.enter_row.new.self c.enter_row.ensures.over (c.self.inside.rows - c.rows.result + c.rows-2.result) (omega arith)
    _ c.self.view_is (within_row c.args.cells) (c.enter_row.ensures.turns c.self.inside.keys (below_top c.self.inside c.self.invariant))
