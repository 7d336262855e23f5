use Rattle.std.proofs.Common.{◌∙◌, ◌<◌, ◌-◌, ap, sym, subst, length, take}
use Rattle.room.proofs.Holding.{popped_kept, popped}
use Rattle.room.proofs.keys.KeyRoom.pop.Goals as goal

pub invariant_of-self : goal.invariant_of-self
invariant_of-self c = popped_kept c.self.inside c.self.invariant (subst (λ l. 0 < length l) (sym c.self.view_is) c.requires) _ c.begin-self-inside.result c.begin-self-inside.ensures

pub returns : goal.returns
returns c = popped c.self.inside c.self.invariant ∙ ap (λ l. take (length l - 1) l) c.self.view_is
