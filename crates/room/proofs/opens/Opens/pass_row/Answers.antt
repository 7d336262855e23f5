use Rattle.room.specs.Open.{past_row}
use Rattle.room.proofs.Innermost.{like_kept, like_opens, below_top}
use Rattle.room.proofs.opens.Opens.pass_row.Goals as goal

pub invariant_of-self : goal.invariant_of-self
invariant_of-self c = like_kept c.self.inside c.self.invariant _ c.pass_row.ensures.over c.pass_row.ensures.rows

pub returns : goal.returns
returns c = like_opens c.self.inside c.self.invariant _ c.pass_row.ensures.over c.pass_row.ensures.rows _ c.self.view_is past_row (c.pass_row.ensures.turns c.self.inside.keys (below_top c.self.inside c.self.invariant))
