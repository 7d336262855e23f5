use Rattle.std.proofs.Common.{subst, sym, arith}
use Rattle.de.specs.Decoding.{state_of}
use Rattle.runs.proofs.Logging.{Going, going_first, going_more, stopped, finished}
use Rattle.runs.proofs.run.run.Goals as goal

pub loop-call-init : goal.loop-call-init
loop-call-init g c = going_first c.new-decoder.ensures

pub returns-in_err-entry : goal.returns-in_err-entry
returns-in_err-entry g c = stopped c.from_residual.result (g.R.DeRead.sound c.args.reader) c.loop-call.invariant c.from_residual.ensures.0

pub returns-in_err-push : goal.returns-in_err-push
returns-in_err-push g c =
    stopped c.from_residual-in_err-push.result (g.R.DeRead.sound c.args.reader)
    (subst (λ l. Going g.R.DeRead.lends (g.R.DeRead.view c.args.reader) c.args.calls.now c.args.log.now.items l (state_of g.R.DeRead.view c.loop-call.decoder) c.loop-call.call-index) (sym c.in_err-push.ensures.items) c.loop-call.invariant)
    c.from_residual-in_err-push.ensures.0

pub loop-call-preserved : goal.loop-call-preserved
loop-call-preserved g c = going_more c.in_ok-entry.entry _ c.loop-call.invariant c.loop-call-test.true c.in_ok-entry.ensures.0 c.in_ok-entry.ensures.1 c.in_ok-push.ensures.items

pub returns : goal.returns
returns g c = finished tt (g.R.DeRead.sound c.args.reader) c.loop-call.invariant (omega (arith, c.loop-call-test.false, c.loop-call.auto.call-index-end))
