use Rattle.std.proofs.Common.{◌≡◌, Some, subst, length, slice_get, refl, ◌≤◌}
use Rattle.std.specs.String.{string_bytes}
use Rattle.std.proofs.lemmas.Option.{slice_get_read}
use Rattle.tablecheck.proofs.Columns.{column_is, column_lacks}
use Rattle.tablecheck.proofs.table.Table.is_due.Goals as goal

pub returns-in-Some : goal.returns-in-Some
returns-in-Some c =
    let columns = c.deref.ensures.value in
    let found = c.in-Some.ensures.lookup in
    let here = subst (λ l. slice_get l c.args.self.now.cells ≡ Some c.in-Some.name.now) columns (slice_get_read c.deref.result.now _ c.args.self.now.cells c.in-Some.name.now refl found.3.0 found.1) in
    column_is string_bytes c.args.self.now.columns.items c.args.self.now.cells c.args.key.now c.in-Some.name.now c.as_bytes.result.now c.eq.result here c.as_bytes.ensures.value c.eq.ensures

pub returns-in-None : goal.returns-in-None
returns-in-None c =
    let columns = c.deref.ensures.value in
    column_lacks string_bytes c.args.self.now.columns.items c.args.self.now.cells c.args.key.now (subst (λ l. length l ≤ c.args.self.now.cells) columns c.in-None.ensures.lookup.3)
