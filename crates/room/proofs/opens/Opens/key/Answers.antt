use Rattle.room.specs.Open.{keyed}
use Rattle.room.proofs.Innermost.{like_kept, like_opens, below_top}
use Rattle.room.proofs.opens.Opens.key.Goals as goal

pub invariant_of-self : goal.invariant_of-self
invariant_of-self c = like_kept c.self.inside c.self.invariant _ c.key.ensures.over c.key.ensures.rows

pub returns : goal.returns
returns c = like_opens c.self.inside c.self.invariant _ c.key.ensures.over c.key.ensures.rows _ c.self.view_is keyed (c.key.ensures.keys c.self.inside.keys (below_top c.self.inside c.self.invariant))
