use Rattle.std.proofs.Common.{◌≡◌, length}
use Rattle.utf8.specs.Utf8.{utf8}
use Rattle.utf8.proofs.is_utf8.Given as goal

-- the text is well-formed exactly if what is left of it is
abbrev pub invariant-loop-lead : goal.invariant-loop-lead
invariant-loop-lead l = utf8 l.fn.s ≡ utf8 l.rest

abbrev pub decreases-loop-lead : goal.decreases-loop-lead
decreases-loop-lead l = length l.rest
