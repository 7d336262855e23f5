-- What lies inside a table of some size: what a reader has taken and what comes, the columns of open templates, and what events hand out.
use Rattle.std.specs.Prelude.{ℕ, ◌+◌, ◌≤◌, List, [], ◌∷◌, length}
use Rattle.read.specs.declared.Taken.{Taken}
use Rattle.read.specs.declared.Taken.TheVariants.{Lent, Copied}
use Rattle.read.specs.Reader.{View}
use Rattle.room.specs.Open.{Column, lent, copied, Open, start, items, pairs, field, rows, row, cell}
use Rattle.de.specs.declared.event.Event.{Event}
use Rattle.de.specs.declared.event.Event.TheVariants as event
use Rattle.de.specs.Steps.{Body}

module _ (size : ℕ) where
  -- bytes that were lent, and as many as were copied
  abbrev pub TakenInside : Taken → ℕ → Type 0
  TakenInside (Lent p) n = p + n ≤ size
  TakenInside Copied n = n ≤ size

  abbrev pub EventInside : Event → Type 0
  EventInside (event.Key s) = TakenInside s.taken s.len
  EventInside (event.Bytes s) = TakenInside s.taken s.len
  EventInside (event.Text s) = TakenInside s.taken s.len
  EventInside e = Unit {0}

  abbrev pub EventsInside : List Event → Type 0
  EventsInside [] = Unit {0}
  EventsInside (e ∷ es) = EventInside e × EventsInside es

  abbrev pub Fits : View → Type 0
  Fits v = v.count + length v.coming ≤ size

  abbrev pub ColumnInside : Column → Type 0
  ColumnInside (lent p n) = p + n ≤ size
  ColumnInside (copied bs) = length bs ≤ size

  abbrev pub ColumnsInside : List Column → Type 0
  ColumnsInside [] = Unit {0}
  ColumnsInside (k ∷ ks) = ColumnInside k × ColumnsInside ks

  abbrev pub OpensInside : List (Open Column) → Type 0
  OpensInside [] = Unit {0}
  OpensInside (start ∷ s) = OpensInside s
  OpensInside (items n ∷ s) = OpensInside s
  OpensInside (pairs n ∷ s) = OpensInside s
  OpensInside (field n ∷ s) = OpensInside s
  OpensInside (rows ks n ∷ s) = ColumnsInside ks × OpensInside s
  OpensInside (row l ks n ∷ s) = ColumnsInside l × ColumnsInside ks × OpensInside s
  OpensInside (cell l ks n ∷ s) = ColumnsInside l × ColumnsInside ks × OpensInside s

  abbrev pub BodyInside : Body → Type 0
  BodyInside b = Fits b.reader × OpensInside b.opens
