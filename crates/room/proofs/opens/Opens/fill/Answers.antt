use Rattle.room.specs.Open.{filled}
use Rattle.room.proofs.Innermost.{like_kept, like_opens, below_top}
use Rattle.room.proofs.opens.Opens.fill.Goals as goal

pub invariant_of-self : goal.invariant_of-self
invariant_of-self c = like_kept c.self.inside c.self.invariant _ c.fill.ensures.over c.fill.ensures.rows

pub returns : goal.returns
returns c = like_opens c.self.inside c.self.invariant _ c.fill.ensures.over c.fill.ensures.rows _ c.self.view_is filled (c.fill.ensures.fills c.self.inside.keys (below_top c.self.inside c.self.invariant))
