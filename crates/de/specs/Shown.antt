-- What an event shows: its bytes lie in the input or in the text buffer.
use Rattle.std.specs.Prelude.{ℕ, List, take, drop}
use Rattle.read.specs.declared.Taken.{Taken}
use Rattle.read.specs.declared.Taken.TheVariants.{Lent, Copied}
use Rattle.bunser.specs.declared.text.Span.{Span}
use Rattle.values.specs.Values as value
use Rattle.de.specs.declared.event.Event.{Event}
use Rattle.de.specs.declared.event.Event.TheVariants as event

abbrev pub taken_bytes : List ℕ → List ℕ → Taken → ℕ → List ℕ
taken_bytes input buf (Lent p) n = take n (drop p input)
taken_bytes input buf Copied n = take n buf

abbrev pub span_bytes : List ℕ → List ℕ → Span → List ℕ
span_bytes input buf s = taken_bytes input buf s.taken s.len

abbrev pub shown : List ℕ → List ℕ → Event → value.Event
shown input buf event.ArrayBegin = value.array_begin
shown input buf event.ArrayEnd = value.array_end
shown input buf event.MapBegin = value.map_begin
shown input buf event.MapEnd = value.map_end
shown input buf (event.Key s) = value.key (span_bytes input buf s)
shown input buf (event.Int w z) = value.an_integer w z
shown input buf (event.Real n) = value.a_real n
shown input buf (event.Bytes s) = value.some_bytes (span_bytes input buf s)
shown input buf (event.Text s) = value.some_text (span_bytes input buf s)
shown input buf event.True = value.is_true
shown input buf event.False = value.is_false
shown input buf event.Null = value.is_null
shown input buf event.Absent = value.absent
