use Rattle.read.specs.Slice.{slice_view}
use Rattle.de.specs.Decoding.{state_of}
use Rattle.de.proofs.Falling.{left}
use Rattle.de.specs.Held.{body_of}
use Rattle.survey.proofs.Drawing.{Going}
use Rattle.survey.proofs.table.draw.Given as goal

-- the events that were given lie in the slots
abbrev pub invariant-loop-event : goal.invariant-loop-event
invariant-loop-event l = Going (state_of slice_view l.fn.decoder) l.fn.slots (state_of slice_view l.decoder) l.slots l.filled

abbrev pub decreases-loop-event : goal.decreases-loop-event
decreases-loop-event l = left (body_of slice_view l.decoder.events)
