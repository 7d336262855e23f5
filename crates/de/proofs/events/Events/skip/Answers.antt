use Rattle.std.proofs.Common.{ap, subst, Ok, arith}
use Rattle.room.specs.Open.{nesting}
use Rattle.de.specs.Steps.{step}
use Rattle.de.specs.Calls.{PassesOver}
use Rattle.de.specs.Held.{body_of}
use Rattle.std.proofs.Common.{None}
use Rattle.de.proofs.Skipping.{skip_over, skip_stuck, skip_last, skip_onward, skip_falls}
use Rattle.de.proofs.events.Events.skip.Goals as goal

pub returns-in_err-skip_one : goal.returns-in_err-skip_one
returns-in_err-skip_one g c =
    let b = body_of g.R.DeRead.view c.loop-passed.self in
    let d = body_of g.R.DeRead.view c.skip_one.new.self in
    c.loop-passed.invariant c.from_residual-in_err-skip_one.result d (skip_stuck g.R.DeRead.lends (nesting c.args.self.now.opens.opens) c.loop-passed.passed b d c.in_err-skip_one.field-0.0 c.from_residual-in_err-skip_one.result c.in_err-skip_one.ensures c.from_residual-in_err-skip_one.ensures.1)

pub returns-then-nesting-down : goal.returns-then-nesting-down
returns-then-nesting-down g c =
    let b = body_of g.R.DeRead.view c.loop-passed.self in
    let d = body_of g.R.DeRead.view c.skip_one.new.self in
    let h = subst (λ k. PassesOver g.R.DeRead.lends (step g.R.DeRead.lends None b) (Ok k) d) c.if-branch.true c.in_ok-skip_one.ensures in
    let here = c.nesting.ensures in
    let still = ap (λ b. nesting b.opens) c.in_default.ensures in
    let down = c.nesting-down.ensures in
    c.loop-passed.invariant (Ok c.saturating_add-passed.result) d (skip_last g.R.DeRead.lends (nesting c.args.self.now.opens.opens) c.loop-passed.passed b d h (omega (arith, still, c.if-nesting-down.true)) c.saturating_add-passed.result c.saturating_add-passed.ensures)

pub loop-passed-smaller : goal.loop-passed-smaller
loop-passed-smaller g c =
    let b = body_of g.R.DeRead.view c.loop-passed.self in
    let d = body_of g.R.DeRead.view c.skip_one.new.self in
    let h = subst (λ k. PassesOver g.R.DeRead.lends (step g.R.DeRead.lends None b) (Ok k) d) c.if-branch.true c.in_ok-skip_one.ensures in
    skip_falls g.R.DeRead.lends (nesting c.args.self.now.opens.opens) c.loop-passed.passed b d h

pub loop-passed-preserved : goal.loop-passed-preserved
loop-passed-preserved g c r t k =
    let b = body_of g.R.DeRead.view c.loop-passed.self in
    let d = body_of g.R.DeRead.view c.skip_one.new.self in
    let h = subst (λ k. PassesOver g.R.DeRead.lends (step g.R.DeRead.lends None b) (Ok k) d) c.if-branch.true c.in_ok-skip_one.ensures in
    let here = c.nesting.ensures in
    let still = ap (λ b. nesting b.opens) c.in_default.ensures in
    let down = c.nesting-down.ensures in
    c.loop-passed.invariant r t (skip_onward g.R.DeRead.lends (nesting c.args.self.now.opens.opens) c.loop-passed.passed b d h (omega (arith, still, c.if-nesting-down.false)) c.saturating_add-passed.result c.saturating_add-passed.ensures r t k)

pub returns : goal.returns
returns g c =
    let b = body_of g.R.DeRead.view c.loop-passed.self in
    let d = body_of g.R.DeRead.view c.skip_one.new.self in
    let h = subst (λ k. PassesOver g.R.DeRead.lends (step g.R.DeRead.lends None b) (Ok k) d) c.if-branch.false c.in_ok-skip_one.ensures in
    c.loop-passed.invariant (Ok c.loop-passed.passed) d (skip_over g.R.DeRead.lends (nesting c.args.self.now.opens.opens) c.loop-passed.passed b d h)
