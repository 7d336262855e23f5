-- How much room the text buffer of a call has.
use Rattle.std.specs.Prelude.{ℕ}
use Rattle.de.specs.declared.entry.Call.{Call}
use Rattle.de.specs.declared.entry.Call.TheVariants.{Open, Next, Skip, Close}

abbrev pub room_of : Call → ℕ
room_of Open = 0
room_of (Next n) = n
room_of Skip = 0
room_of (Close e) = 0
