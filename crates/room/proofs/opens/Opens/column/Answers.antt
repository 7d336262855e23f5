use Rattle.std.proofs.Common.{ap, ◌∙◌, sym}
use Rattle.room.specs.Open.{column}
use Rattle.room.proofs.Columns.{found_column, no_column}
use Rattle.room.proofs.Innermost.{below_top, top_fits, opens_are}
use Rattle.room.proofs.opens.Opens.column.Goals as goal

pub returns-in-Some : goal.returns-in-Some
returns-in-Some c =
    found_column c.self.inside.keys (below_top c.self.inside c.self.invariant) _ c.in-Some.index _ _ (top_fits c.self.inside c.self.invariant) (sym c.in-Some.is ∙ c.column.ensures) c.name.ensures
    ∙ sym (ap column (opens_are c.self.inside c.self.invariant)) ∙ ap (λ o. column o.opens) c.self.view_is

pub returns-in-None : goal.returns-in-None
returns-in-None c =
    no_column c.self.inside.keys (below_top c.self.inside c.self.invariant) _ (top_fits c.self.inside c.self.invariant) (sym c.in-None.is ∙ c.column.ensures)
    ∙ sym (ap column (opens_are c.self.inside c.self.invariant)) ∙ ap (λ o. column o.opens) c.self.view_is
