use Rattle.std.proofs.Common.{◌≡◌, ◌+◌, ◌∷◌, drop, subst, sym}
use Rattle.room.specs.Open.{cell, row_turned}
use Rattle.room.specs.Frames.{over, Fits, columns}
use Rattle.room.proofs.Columns.{key_turned}
use Rattle.room.proofs.frame.Frame.turn.Goals as goal

pub returns-in-Row-clause-turns : goal.returns-in-Row-clause-turns
returns-in-Row-clause-turns c held s fits =
    let t = c.in-Row.table in
    subst (λ f. row_turned (over held f s) ≡ cell (drop (c.in-Row.next + 1) (columns held t)) (columns held t) c.in-Row.left ∷ s) (sym c.in-Row.is)
    (key_turned held t c.in-Row.next c.in-Row.left s (subst (Fits held) c.in-Row.is fits) c.if-next-table.true)
