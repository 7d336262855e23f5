-- How a column is handed out.
use Rattle.room.specs.Open.{Column, lent, copied}
use Rattle.room.specs.declared.keys.Name.{Name}
use Rattle.room.specs.declared.keys.Name.TheVariants.{Lent, Copied}

abbrev pub name_of : Name → Column
name_of (Lent p n) = lent p n
name_of (Copied bs) = copied bs.now
