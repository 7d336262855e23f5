use Rattle.std.proofs.Common.{ap, ◌∙◌, w64, SFits, rules}
use Rattle.std.proofs.lemmas.Int.{to_z-of_z}
use Rattle.bunser.specs.Outcome.{ReadLeaves}
use Rattle.bunser.specs.Reads.{count_read, count_of, told_as}
use Rattle.bunser.proofs.Telling.{then_ok, body_stop, told_result}
use Rattle.bunser.proofs.Bunser.next_count.Goals as goal

pub returns-in_err-value : goal.returns-in_err-value
unfolding count_read
returns-in_err-value g c = body_stop ReadLeaves _ _ _ _ c.in_err-value.ensures c.from_residual.ensures.1

pub returns : goal.returns
unfolding count_read
returns g c =
    let h = c.in_ok-value.ensures in
    let value = c.in_ok-value.value in
    let fits : SFits w64 value = search rules in
    let counts = c.count_of.ensures ∙ ap count_of (to_z-of_z w64 value fits) in
    record { reads = then_ok ReadLeaves _ (λ z w. told_as (count_of z) w) _ _ _ _ h.reads (told_result (count_of value) _ _ counts); same = h.same }
