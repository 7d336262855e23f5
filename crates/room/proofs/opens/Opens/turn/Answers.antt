use Rattle.std.proofs.Common.{◌+◌, ◌-◌, arith}
use Rattle.room.specs.Open.{row_turned}
use Rattle.room.proofs.Levels.{in_row_few}
use Rattle.room.proofs.Innermost.{changed_kept, changed_opens, below_top, top_fits, nesting_few}
use Rattle.room.proofs.opens.Opens.turn.Goals as goal

pub overflow_add-self : goal.overflow_add-self
overflow_add-self c = let few = nesting_few c.self.inside c.self.invariant in let one = in_row_few c.turn.new.self in omega arith

pub invariant_of-self : goal.invariant_of-self
invariant_of-self c = changed_kept c.self.inside c.self.invariant c.turn.new.self c.turn.ensures.over (c.self.inside.rows - c.rows.result + c.rows-2.result) (omega arith)

pub returns : goal.returns
returns c =
    changed_opens c.self.inside c.self.invariant c.turn.new.self c.turn.ensures.over (c.self.inside.rows - c.rows.result + c.rows-2.result) (omega arith)
    _ c.self.view_is row_turned (c.turn.ensures.turns c.self.inside.keys (below_top c.self.inside c.self.invariant) (top_fits c.self.inside c.self.invariant))
