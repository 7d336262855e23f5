use Rattle.std.proofs.Common.{◌+◌, ap, sym, ◌∙◌, arith}
use Rattle.room.specs.Open.{nesting}
use Rattle.room.proofs.Innermost.{nesting_told, nesting_few}
use Rattle.room.proofs.opens.Opens.nesting.Goals as goal

pub overflow_add-result : goal.overflow_add-result
overflow_add-result c = let few = nesting_few c.self.inside c.self.invariant in let is = c.taken.ensures in omega arith

pub returns : goal.returns
returns c = ap (λ n. n + c.self.inside.rows) c.taken.ensures ∙ sym (nesting_told c.self.inside c.self.invariant) ∙ ap (λ o. nesting o.opens) c.self.view_is
