use Rattle.std.proofs.Common.{arith}
use Rattle.source.proofs.Reading.{came, room_left, fill_more}
use Rattle.source.proofs.read_exact.Goals as goal

pub loop-filled-preserved : goal.loop-filled-preserved
loop-filled-preserved g c =
    fill_more _ _ _ _ _ c.loop-filled.invariant _ _ _ (came _ _ _ _ _ c.in_ok-n.ensures (room_left _ _ c.loop-filled-test.true) (λ e. omega arith))
