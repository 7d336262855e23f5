-- What an event changes of what was counted.
use Rattle.std.specs.Prelude.{ℕ, ◌+◌, ◌-◌, min, Bool, true, false}
use Rattle.de.specs.declared.event.Event.{Event}
use Rattle.de.specs.declared.event.Event.TheVariants as event

-- counts are 64 bits wide
abbrev pub more : ℕ → ℕ
more n = min (n + 1) 18446744073709551615

-- how many containers are open behind an event
abbrev pub depth_behind : Event → ℕ → ℕ
depth_behind event.ArrayBegin n = more n
depth_behind event.MapBegin n = more n
depth_behind event.ArrayEnd n = n - 1
depth_behind event.MapEnd n = n - 1
depth_behind (event.Key s) n = n
depth_behind (event.Int w x) n = n
depth_behind (event.Real x) n = n
depth_behind (event.Bytes s) n = n
depth_behind (event.Text s) n = n
depth_behind event.True n = n
depth_behind event.False n = n
depth_behind event.Null n = n
depth_behind event.Absent n = n

-- the key of a cell begins it
abbrev pub is_key : Event → Bool
is_key event.ArrayBegin = false
is_key event.MapBegin = false
is_key event.ArrayEnd = false
is_key event.MapEnd = false
is_key (event.Key s) = true
is_key (event.Int w x) = false
is_key (event.Real x) = false
is_key (event.Bytes s) = false
is_key (event.Text s) = false
is_key event.True = false
is_key event.False = false
is_key event.Null = false
is_key event.Absent = false
