use Rattle.std.proofs.Common.{◌-◌, length}
use Rattle.source.proofs.Reading.{Filling}
use Rattle.source.proofs.read_exact.Given as goal

abbrev pub invariant-loop-filled : goal.invariant-loop-filled
invariant-loop-filled g l = Filling (g.S.Source.feed l.initial.source) l.initial.buf l.filled (g.S.Source.feed l.source) l.buf

abbrev pub decreases-loop-filled : goal.decreases-loop-filled
decreases-loop-filled g l = length l.initial.buf - l.filled
