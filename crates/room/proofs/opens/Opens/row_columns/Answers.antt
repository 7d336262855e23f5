use Rattle.std.proofs.Common.{sym, ap, ◌∙◌}
use Rattle.room.specs.Open.{row_columns}
use Rattle.room.proofs.Levels.{fits_limited}
use Rattle.room.proofs.Innermost.{below_top, top_fits, opens_are}
use Rattle.room.proofs.opens.Opens.row_columns.Goals as goal

pub returns-clause-told : goal.returns-clause-told
returns-clause-told c =
    c.row_columns.ensures.told c.self.inside.keys (below_top c.self.inside c.self.invariant) (top_fits c.self.inside c.self.invariant)
    ∙ ap row_columns (sym (opens_are c.self.inside c.self.invariant))
    ∙ ap (λ o. row_columns o.opens) c.self.view_is

pub row_columns-requires : goal.row_columns-requires
row_columns-requires c = fits_limited c.self.inside.keys c.self.inside.top (top_fits c.self.inside c.self.invariant) c.self.invariant.few
