-- What a verdict says of a table: it speaks of bytes and values, and of no call.
use Rattle.std.specs.Prelude.{◌≡◌, ℕ, ◌+◌, List, [], ◌∷◌, length}
use Rattle.values.specs.Values.{Value, Event, events}
use Rattle.values.specs.Limits.{Within, lending}
use Rattle.de.specs.declared.event.Event.{Event as GivenEvent}
use Rattle.de.specs.Shown.{shown}
use Rattle.runs.specs.Law.{Begins, HeaderAt, Declared}
use Rattle.survey.specs.declared.slot.Slot.{Slot}
use Rattle.survey.specs.declared.verdict.Verdict.{Verdict}
use Rattle.survey.specs.Slots.{laid}
use Rattle.survey.specs.Inside.{EventsInside}
use Rattle.survey.specs.Surveys.{table_view}

-- at the front of the table stands a PDU with this header, whose declared body is the whole encoding of this value
pub record Holds (table : List ℕ) (caps start size : ℕ) (w : Value) : Type 0 where
  pub header : HeaderAt (table_view table) 0 caps start size
  pub body : Declared (table_view table) start size w

-- events with the bytes that they hand out, which lie in the table
abbrev pub shows : List ℕ → List GivenEvent → List Event
shows table [] = []
shows table (e ∷ es) = shown table [] e ∷ shows table es

-- the table holds a value: these are its events, and so many bytes is the PDU long
pub record Accepted (table : List ℕ) (v : Verdict) (given : List GivenEvent) : Type 0 where
  pub caps : ℕ
  pub start : ℕ
  pub size : ℕ
  pub value : Value
  pub holds : Holds table caps start size value
  pub told : shows table given ≡ events value
  pub taken : v.taken ≡ start + size

-- not the number of a call out of turn, of another token, or of a text buffer without room
abbrev pub InTurn : ℕ → Type 0
InTurn n = (n ≡ 1 → ⊥) × (n ≡ 2 → ⊥) × (n ≡ 14 → ⊥)

pub record Means (table : List ℕ) (old : List Slot) (v : Verdict) (new : List Slot) : Type 0 where
  -- the events that have passed
  pub given : List GivenEvent
  pub counted : v.events ≡ length given
  pub slots : new ≡ laid given old
  -- the bytes that they hand out lie in the table
  pub inside : EventsInside (length table) given
  -- an accepted table holds a value, and those are its events
  pub accepted : v.number ≡ 0 → Accepted table v given
  -- of a table that holds a value, within the limits or not, the events begin that value's
  pub begins : (caps start size : ℕ) (w : Value) → Holds table caps start size w → Begins (shows table given) (events w)
  -- what the calls themselves could be refused by is never met
  pub in_turn : InTurn v.number
  -- a table that holds a value within the limits is accepted
  pub whole : (caps start size : ℕ) (w : Value) → Holds table caps start size w → Within w lending 0 0 0 → v.number ≡ 0
