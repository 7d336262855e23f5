use Rattle.de.specs.Decoding.{state_of}
use Rattle.runs.proofs.Logging.{Going}
use Rattle.runs.proofs.run.run.Given as goal

-- the calls before this one have been made and logged
abbrev pub invariant-loop-call : goal.invariant-loop-call
invariant-loop-call g l = Going g.R.DeRead.lends (g.R.DeRead.view l.fn.reader) l.fn.calls l.fn.log.items l.log.items (state_of g.R.DeRead.view l.decoder) l.call-index
