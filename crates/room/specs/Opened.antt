-- What a caller knows of the open levels.
use Rattle.std.specs.Prelude.{cond, List, nat_lt}
use Rattle.room.specs.Open.{Column, Open, depth}

pub record Opened : Type 0 where
  pub opens : List (Open Column)
  -- the keys of a list whose template has not begun
  pub listed : List Column

abbrev pub with_opens : Opened → List (Open Column) → Opened
with_opens o s = record { opens = s; listed = o.listed }

-- what begins where a level is free
abbrev pub if_free : Opened → Opened → Opened
if_free o begun = cond (nat_lt (depth o.opens) 128) begun o
