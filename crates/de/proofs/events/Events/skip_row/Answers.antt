use Rattle.std.proofs.Common.{◌+◌, ◌*◌, Ok, Err, ap, sym, ◌∙◌, subst, subst₂}
use Rattle.room.specs.Open.{row_turned, within_row, nesting}
use Rattle.de.specs.Calls.{Skips, Skip}
use Rattle.de.specs.Rows.{staged, counted_by, CellTold}
use Rattle.de.specs.Held.{body_of}
use Rattle.de.proofs.RowPass.{row_begins, due_it, one_more, part, refused, row_ends}
use Rattle.de.proofs.events.Events.skip_row.Goals as goal

pub loop-cells-init : goal.loop-cells-init
loop-cells-init g c = let b = body_of g.R.DeRead.view c.args.self.now in row_begins g.R.DeRead.lends b c.args.columns c.requires.calm c.requires.begins c.requires.few

pub loop-cells-preserved : goal.loop-cells-preserved
loop-cells-preserved g c =
    let view = g.R.DeRead.view in
    let lends = g.R.DeRead.lends in
    let b = body_of view c.args.self.now in
    let k = c.loop-cells.cells in
    let a = body_of view c.loop-cells.self in
    let o = row_turned (within_row k b.opens) in
    let n = counted_by (2 + 2 * k) b.events in
    let d = body_of view c.pass_cell.new.self in
    one_more lends b c.args.columns c.requires.calm c.requires.begins c.requires.few c.loop-cells.cells a c.loop-cells.invariant c.loop-cells-test.true d c.pass_cell.ensures.same c.in-Ok-true.ensures.calm
    (subst (λ h. CellTold lends (staged a o n) (Ok h) (staged d o n)) c.in-Ok-true.field-0-test
    (c.in-Ok-true.ensures.told o n (due_it lends b c.args.columns c.requires.calm c.requires.begins c.requires.few c.loop-cells.cells a c.loop-cells.invariant c.loop-cells-test.true)))

pub returns-in-Ok-false : goal.returns-in-Ok-false
returns-in-Ok-false g c r t =
    let view = g.R.DeRead.view in
    let lends = g.R.DeRead.lends in
    let b = body_of view c.args.self.now in
    let k = c.loop-cells.cells in
    let a = body_of view c.loop-cells.self in
    let o = row_turned (within_row k b.opens) in
    let n = counted_by (2 + 2 * k) b.events in
    let d = body_of view c.pass_cell.new.self in
    subst₂ (λ m x. Skips lends (nesting b.opens) m x r t → Skip lends b r t) (sym c.stop_in_row.ensures.tells) (sym c.stop_in_row.ensures.stops)
    (part lends b c.args.columns c.requires.calm c.requires.begins c.requires.few c.loop-cells.cells a c.loop-cells.invariant c.loop-cells-test.true d c.pass_cell.ensures.same
    (subst (λ h. CellTold lends (staged a o n) (Ok h) (staged d o n)) c.in-Ok-false.field-0-test
    (c.in-Ok-false.ensures.told o n (due_it lends b c.args.columns c.requires.calm c.requires.begins c.requires.few c.loop-cells.cells a c.loop-cells.invariant c.loop-cells-test.true))) r t)

pub returns-in-Err : goal.returns-in-Err
returns-in-Err g c =
    let view = g.R.DeRead.view in
    let lends = g.R.DeRead.lends in
    let b = body_of view c.args.self.now in
    let k = c.loop-cells.cells in
    let a = body_of view c.loop-cells.self in
    let o = row_turned (within_row k b.opens) in
    let n = counted_by (2 + 2 * k) b.events in
    let d = body_of view c.pass_cell.new.self in
    subst (λ x. Skip lends b (Err c.in-Err.refusal) x) (sym c.stop_in_row-events.ensures.stops)
    (refused lends b c.args.columns c.requires.calm c.requires.begins c.requires.few c.loop-cells.cells a c.loop-cells.invariant c.loop-cells-test.true d c.in-Err.refusal c.pass_cell.ensures.same (c.in-Err.ensures.told o n (due_it lends b c.args.columns c.requires.calm c.requires.begins c.requires.few c.loop-cells.cells a c.loop-cells.invariant c.loop-cells-test.true)))

pub returns : goal.returns
returns g c =
    let view = g.R.DeRead.view in
    let lends = g.R.DeRead.lends in
    let b = body_of view c.args.self.now in
    let a = body_of view c.loop-cells.self in
    let events = 2 + 2 * c.args.columns in
    subst (λ x. Skip lends b (Ok events) x)
    (sym (c.count.ensures ∙ ap (λ o. staged a o.opens (counted_by events a.events)) c.pass_row.ensures))
    (row_ends lends b c.args.columns c.requires.calm c.requires.begins c.requires.few c.loop-cells.cells a c.loop-cells.invariant c.loop-cells-test.false)
