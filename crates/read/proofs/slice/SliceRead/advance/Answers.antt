use Rattle.std.proofs.Common.{refl, arith, drop-drop, take-add}
use Rattle.std.proofs.lemmas.Bool.{ne_eqb}
use Rattle.read.proofs.slice.SliceRead.advance.Goals as goal

pub returns-then-n-gt0 : goal.returns-then-n-gt0
returns-then-n-gt0 c = simp (drop-drop, take-add, ne_eqb c.args.n 0 (λ e. omega arith)) refl
