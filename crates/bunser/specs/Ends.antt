-- What the declared end of a body means as it is kept.
use Rattle.std.specs.Prelude.{ℕ, cond, Some, None, Option, ◌==◌}
use Rattle.bunser.specs.declared.end.BodyEnd.TheInside.{Inside}

-- the greatest number stands for none
abbrev pub declared : Inside → Option ℕ
declared r = cond (r.stop == 18446744073709551615) None (Some r.stop)
