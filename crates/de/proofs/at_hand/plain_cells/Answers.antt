use Rattle.std.proofs.Common.{◌+◌, ◌-◌, ◌≤◌, length, drop, length-drop, drop-drop, sym, refl, ap, ◌∙◌, arith}
use Rattle.std.proofs.lemmas.List.{take_all}
use Rattle.de.specs.AtHand.{plain_size, none, more}
use Rattle.de.proofs.at_hand.plain_cells.Goals as goal

pub loop-cells-init : goal.loop-cells-init
loop-cells-init c = (refl, omega arith, omega arith, none)

pub loop-cells-preserved : goal.loop-cells-preserved
loop-cells-preserved c =
    let (rest, far, few, plain) = c.loop-cells.invariant in
    let t = c.loop-cells.taken in
    let s = c.in-Some.size in
    let (fits, _, is, _) = c.in-Some-get.ensures.lookup.0 in
    let long = length-drop t c.args.bytes.now in
    let same = ap length rest in
    let sum : t + s ≤ length c.args.bytes.now = omega (arith, fits, far, long, same) in
    let left = length-drop s c.loop-cells.rest.now in
    let more_to = c.loop-cells-test.true in (
      is ∙ take_all (length c.loop-cells.rest.now - s) (drop s c.loop-cells.rest.now) (omega (arith, left)) ∙ ap (drop s) rest ∙ drop-drop s t c.args.bytes.now,
      sum,
      omega (arith, more_to),
      more plain (ap plain_size (sym rest) ∙ sym c.plain_size.ensures ∙ c.in-Some.is) sum,
    )
