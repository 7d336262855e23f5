use Rattle.std.proofs.Common.{◌≡◌, true, Some, refl, sym, ap, ◌∙◌}
use Rattle.read.specs.Slice.{slice_view}
use Rattle.bunser.specs.Reads.{header_read}
use Rattle.tablecheck.specs.Reports.{file_view, header_told}
use Rattle.tablecheck.proofs.Agreeing.{told_agree, told_by}
use Rattle.tablecheck.proofs.findings.Findings.of.Goals as goal

pub returns-clause-copied : goal.returns-clause-copied
returns-clause-copied c some =
    let slice = c.new.ensures in
    let copying = c.copying.ensures in
    let fresh : slice_view c.new.result ≡ file_view c.args.file.now = rw (slice.0, slice.1, slice.2) refl in
    let read = told_by _ _ _ c.of.ensures.reads.1 in
    let both = told_agree c.args.file.now _ _ c.new.result _ _ _ _ slice.0 slice.1 slice.2 copying.parts copying.clean.0 copying.clean.1 copying.fresh.0 copying.fresh.1 in
    c.in_ok-found-2.ensures.first some ∙ ap Some (sym both ∙ ap (λ v. header_told (header_read true v)) fresh ∙ sym read ∙ c.of.result.same)
