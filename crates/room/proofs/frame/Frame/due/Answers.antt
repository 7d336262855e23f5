use Rattle.std.proofs.Common.{◌≡◌, ◌<◌, subst, sym, arith}
use Rattle.room.specs.Open.{due}
use Rattle.room.specs.Frames.{over, Fits}
use Rattle.room.specs.declared.due.Due.TheVariants.{RowKey}
use Rattle.room.proofs.Columns.{key_due}
use Rattle.room.proofs.frame.Frame.due.Goals as goal

pub returns-in-Row-2 : goal.returns-in-Row-2
returns-in-Row-2 c held s fits =
    let more : c.in-Row.next < c.in-Row.table.len = omega (arith, c.if-next-table.false) in
    subst (λ f. RowKey ≡ due (over held f s)) (sym c.in-Row.is) (key_due held c.in-Row.table c.in-Row.next c.in-Row.field-1 s (subst (Fits held) c.in-Row.is fits) more)
