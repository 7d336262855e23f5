use Rattle.std.proofs.Common.{sym, ap, ◌∙◌}
use Rattle.room.specs.Open.{due}
use Rattle.room.proofs.Innermost.{below_top, top_fits, opens_are}
use Rattle.room.proofs.opens.Opens.due.Goals as goal

pub returns : goal.returns
returns c =
    c.due.ensures c.self.inside.keys (below_top c.self.inside c.self.invariant) (top_fits c.self.inside c.self.invariant)
    ∙ ap due (sym (opens_are c.self.inside c.self.invariant))
    ∙ ap (λ o. due o.opens) c.self.view_is
