use Rattle.std.proofs.Common.{◌-◌, ap, ◌∙◌, arith}
use Rattle.room.specs.Open.{ended}
use Rattle.room.proofs.Innermost.{popped_kept, popped_opens}
use Rattle.room.proofs.opens.Opens.pop.Goals as goal

pub invariant_of-self : goal.invariant_of-self
invariant_of-self c = popped_kept c.self.inside c.self.invariant c.taken-taken.result _ c.taken-taken.ensures c.if-taken-gt0.true _ (omega arith) _ _ (ap (λ k. c.self.inside.rows - k) c.rows.ensures) c.below-self-inside.ensures

pub returns-then-taken-gt0 : goal.returns-then-taken-gt0
returns-then-taken-gt0 c =
    popped_opens c.self.inside c.self.invariant c.taken-taken.result _ c.taken-taken.ensures c.if-taken-gt0.true _ (omega arith) _ _ (ap (λ k. c.self.inside.rows - k) c.rows.ensures) c.below-self-inside.ensures
    ∙ ap (λ o. ended o.opens) c.self.view_is
