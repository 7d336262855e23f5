use Rattle.std.proofs.Common.{sym, ◌∙◌}
use Rattle.bunser.proofs.Headers.{length_stop, length_far, length_near}
use Rattle.bunser.proofs.Bunser.read_length.Goals as goal

pub returns-in_err-length : goal.returns-in_err-length
returns-in_err-length g c = record { reads = length_stop _ _ _ _ _ c.read_count-place.ensures _ _ _ c.in_err-length.ensures.reads c.from_residual.ensures.1; same = c.placed_count.ensures.same }

pub returns-then-passes : goal.returns-then-passes
returns-then-passes g c =
    let h = c.in_ok-length.ensures in
    record { reads = length_far _ _ _ _ _ c.read_count-place.ensures _ _ h.reads _ c.read_count-start.ensures _ (sym c.passes.ensures ∙ c.if-passes.true) c.at.ensures; same = h.same }

pub returns : goal.returns
returns g c =
    let h = c.in_ok-length.ensures in
    record { reads = length_near _ _ _ _ _ c.read_count-place.ensures _ _ h.reads _ c.read_count-start.ensures (sym c.passes.ensures ∙ c.if-passes.false); same = h.same }
