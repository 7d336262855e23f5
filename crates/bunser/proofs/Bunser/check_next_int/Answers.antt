use Rattle.std.proofs.Common.{sym, refl, ◌∙◌}
use Rattle.bunser.specs.Outcome.{ReadLeaves}
use Rattle.bunser.specs.Reads.{tagged_int_read}
use Rattle.bunser.proofs.Telling.{then_ok, body_stop, err_is, unmoved}
use Rattle.bunser.proofs.Bunser.check_next_int.Goals as goal

pub returns-in_err-tag : goal.returns-in_err-tag
unfolding tagged_int_read
returns-in_err-tag g c = body_stop ReadLeaves _ _ _ _ c.in_err-tag.ensures c.from_residual.ensures.1

pub returns-in_err-width : goal.returns-in_err-width
unfolding tagged_int_read
returns-in_err-width g c =
    let h = c.in_ok-tag.ensures in
    let none = sym c.in_err-width.ensures in
    let by = err_is _ _ c.from_residual-in_err-width.ensures.1 in
    record { reads = then_ok ReadLeaves _ _ _ _ _ _ h.reads (rw (none, by) (refl, unmoved _ _)); same = h.same }

pub returns : goal.returns
unfolding tagged_int_read
returns g c =
    let h = c.in_ok-tag.ensures in
    let some = sym c.in_ok-width.ensures in
    let k = c.next_short_int.ensures in
    let end = c.discard.ensures.same ∙ h.same in
    record { reads = then_ok ReadLeaves _ _ _ _ _ _ h.reads (rw some (simp (end, c.discard.ensures.reads) at k.reads)); same = k.same ∙ end }
