-- Events in plain numbers, laid out in slots.
use Rattle.std.specs.Prelude.{ℕ, List, [], ◌∷◌}
use Rattle.std.specs.Int.{cast_unsigned, w64}
use Rattle.read.specs.declared.Taken.{Taken}
use Rattle.read.specs.declared.Taken.TheVariants.{Lent, Copied}
use Rattle.format.specs.declared.width.Width.{Width}
use Rattle.format.specs.declared.width.Width.TheVariants.{W8, W16, W32, W64}
use Rattle.bunser.specs.declared.text.Span.{Span}
use Rattle.de.specs.declared.event.Event.{Event}
use Rattle.de.specs.declared.event.Event.TheVariants as event
use Rattle.survey.specs.declared.slot.Slot.{Slot}

abbrev pub bits_of : Width → ℕ
bits_of W8 = 8
bits_of W16 = 16
bits_of W32 = 32
bits_of W64 = 64

-- a reader that lends copies nothing
abbrev pub place_of : Taken → ℕ
place_of (Lent p) = p
place_of Copied = 0

abbrev pub bare : ℕ → Slot
bare k = record { kind = k; width = 0; value = 0; place = 0; length = 0 }

abbrev pub spanned : ℕ → Span → Slot
spanned k s = record { kind = k; width = 0; value = 0; place = place_of s.taken; length = s.len }

abbrev pub slot_of : Event → Slot
slot_of event.ArrayBegin = bare 1
slot_of event.ArrayEnd = bare 2
slot_of event.MapBegin = bare 3
slot_of event.MapEnd = bare 4
slot_of (event.Key s) = spanned 5 s
slot_of (event.Int w z) = record { kind = 6; width = bits_of w; value = cast_unsigned w64 z; place = 0; length = 0 }
slot_of (event.Real n) = record { kind = 7; width = 0; value = n; place = 0; length = 0 }
slot_of (event.Bytes s) = spanned 8 s
slot_of (event.Text s) = spanned 9 s
slot_of event.True = bare 10
slot_of event.False = bare 11
slot_of event.Null = bare 12
slot_of event.Absent = bare 13

-- the events lie in the slots in their order, as many as fit; the slots behind them stay as they were
abbrev pub laid : List Event → List Slot → List Slot
laid [] xs = xs
laid (e ∷ es) [] = []
laid (e ∷ es) (x ∷ xs) = slot_of e ∷ laid es xs
