use Rattle.std.proofs.Common.{ap, ◌∙◌, ltb}
use Rattle.room.specs.Open.{depth}
use Rattle.room.proofs.Innermost.{free_told}
use Rattle.room.proofs.opens.Opens.is_free.Goals as goal

pub returns : goal.returns
returns c = free_told c.self.inside c.self.invariant ∙ ap (λ o. ltb (depth o.opens) 128) c.self.view_is
