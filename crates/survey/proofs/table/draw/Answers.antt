use Rattle.std.proofs.Common.{set, ap}
use Rattle.read.specs.Slice.{slice_view}
use Rattle.de.specs.Decoding.{state_of}
use Rattle.survey.proofs.Drawing.{next_falls, going_first, going_laid, going_full, drawn_none, drawn_refused}
use Rattle.survey.proofs.table.draw.Goals as goal

pub loop-event-init : goal.loop-event-init
loop-event-init c = going_first

pub loop-event-smaller-then-filled-slots : goal.loop-event-smaller-then-filled-slots
loop-event-smaller-then-filled-slots c =
    next_falls (state_of slice_view c.loop-event.decoder) (state_of slice_view c.next.new.self) c.in-Ok-Some.event
    (rw c.in-Ok-Some.field-0-is at c.in-Ok-Some.ensures.says)

pub loop-event-preserved-then-filled-slots : goal.loop-event-preserved-then-filled-slots
loop-event-preserved-then-filled-slots c =
    going_laid c.in-Ok-Some.event c.loop-event.invariant (rw c.in-Ok-Some.field-0-is at c.in-Ok-Some.ensures.says) c.if-filled-slots.true (ap (λ x. set c.loop-event.slots c.loop-event.filled x) c.of.ensures)

pub loop-event-smaller : goal.loop-event-smaller
loop-event-smaller c =
    next_falls (state_of slice_view c.loop-event.decoder) (state_of slice_view c.next.new.self) c.in-Ok-Some.event
    (rw c.in-Ok-Some.field-0-is at c.in-Ok-Some.ensures.says)

pub loop-event-preserved : goal.loop-event-preserved
loop-event-preserved c = going_full c.in-Ok-Some.event c.loop-event.invariant (rw c.in-Ok-Some.field-0-is at c.in-Ok-Some.ensures.says) c.if-filled-slots.false

pub returns-in-Ok-None : goal.returns-in-Ok-None
returns-in-Ok-None c = drawn_none c.loop-event.invariant (rw c.in-Ok-None.field-0-is at c.in-Ok-None.ensures.says)

pub returns-in-Err : goal.returns-in-Err
returns-in-Err c = drawn_refused c.in-Err.field-0 c.loop-event.invariant c.in-Err.ensures.says
