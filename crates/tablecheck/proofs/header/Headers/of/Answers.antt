use Rattle.std.proofs.Common.{◌≡◌, true, refl, subst}
use Rattle.read.specs.Slice.{slice_view}
use Rattle.bunser.specs.Outcome.{TellsAt}
use Rattle.bunser.specs.Reads.{header_read}
use Rattle.tablecheck.specs.Reports.{file_view}
use Rattle.tablecheck.proofs.Agreeing.{agree}
use Rattle.tablecheck.proofs.header.Headers.of.Goals as goal

pub invariant_of-result : goal.invariant_of-result
invariant_of-result c =
    let slice = c.new.ensures in
    let copying = c.copying.ensures in
    record {
      same = agree c.args.bytes.now _ _ c.new.result _ _ _ _ slice.0 slice.1 slice.2 copying.parts copying.clean.0 copying.clean.1 copying.fresh.0 copying.fresh.1 _ _ _ _ c.header_of.ensures.1 c.header_of-2.ensures.1;
    }

pub returns-clause-reads : goal.returns-clause-reads
returns-clause-reads c =
    let slice = c.new.ensures in
    let fresh : slice_view c.new.result ≡ file_view c.args.bytes.now = rw (slice.0, slice.1, slice.2) refl in
    (c.header_of.ensures.0, subst (λ v. TellsAt (header_read true v) c.header_of.result c.header_of.ensures.0) fresh c.header_of.ensures.1)
