use Rattle.room.specs.Open.{nesting}
use Rattle.de.specs.Held.{body_of}
use Rattle.de.proofs.Falling.{left}
use Rattle.de.proofs.Skipping.{Onward}
use Rattle.de.proofs.events.Events.skip.Given as goal

-- the rest of the skip does from here what the whole does
abbrev pub invariant-loop-passed : goal.invariant-loop-passed
invariant-loop-passed g l = Onward g.R.DeRead.lends (nesting (body_of g.R.DeRead.view l.fn.self).opens) (body_of g.R.DeRead.view l.fn.self) l.passed (body_of g.R.DeRead.view l.self)

abbrev pub decreases-loop-passed : goal.decreases-loop-passed
decreases-loop-passed g l = left (body_of g.R.DeRead.view l.self)
