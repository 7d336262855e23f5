-- What a frame means, where key room holds these columns.
use Rattle.std.specs.Prelude.{◌≡◌, ℕ, ◌+◌, ◌≤◌, cond, List, [], ◌∷◌, length, take, drop, Some, None, Option, nat_lt}
use Rattle.room.specs.Open.{Column, Open, start, items, pairs, field, rows, row, cell}
use Rattle.room.specs.declared.frame.Table.{Table}
use Rattle.room.specs.declared.frame.Frame.{Frame}
use Rattle.room.specs.declared.frame.Frame.TheVariants as frame

abbrev pub columns : List Column → Table → List Column
columns held t = take t.len (drop t.first held)

-- what is open with this frame innermost, over what is open below: nothing stands below the body itself
abbrev pub over : List Column → Frame → List (Open Column) → List (Open Column)
over held frame.Done s = []
over held frame.Start s = start ∷ []
over held (frame.Items n) s = items n ∷ s
over held (frame.Pairs n) s = pairs n ∷ s
over held (frame.Field n) s = field n ∷ s
over held (frame.Rows t n) s = rows (columns held t) n ∷ s
over held (frame.Row t n i) s = row (drop i (columns held t)) (columns held t) n ∷ s
over held (frame.Cell t n i) s = cell (drop i (columns held t)) (columns held t) n ∷ s

-- the columns of a template are there
abbrev pub Fits : List Column → Frame → Type 0
Fits held frame.Done = Unit {0}
Fits held frame.Start = Unit {0}
Fits held (frame.Items n) = Unit {0}
Fits held (frame.Pairs n) = Unit {0}
Fits held (frame.Field n) = Unit {0}
Fits held (frame.Rows t n) = t.first + t.len ≤ length held
Fits held (frame.Row t n i) = t.first + t.len ≤ length held
Fits held (frame.Cell t n i) = t.first + t.len ≤ length held

-- where the columns of a frame end there, those of the frames below end here
abbrev pub below : Frame → ℕ → ℕ
below frame.Done own = own
below frame.Start own = own
below (frame.Items n) own = own
below (frame.Pairs n) own = own
below (frame.Field n) own = own
below (frame.Rows t n) own = t.first
below (frame.Row t n i) own = t.first
below (frame.Cell t n i) own = t.first

-- the frame is one of the body itself, below all levels
abbrev pub Ground : Frame → Type 0
Ground frame.Done = Unit {0}
Ground frame.Start = Unit {0}
Ground (frame.Items n) = ⊥
Ground (frame.Pairs n) = ⊥
Ground (frame.Field n) = ⊥
Ground (frame.Rows t n) = ⊥
Ground (frame.Row t n i) = ⊥
Ground (frame.Cell t n i) = ⊥

-- the frame is one of a level, whose columns end there
abbrev pub Ends : Frame → ℕ → Type 0
Ends frame.Done own = ⊥
Ends frame.Start own = ⊥
Ends (frame.Items n) own = Unit {0}
Ends (frame.Pairs n) own = Unit {0}
Ends (frame.Field n) own = Unit {0}
Ends (frame.Rows t n) own = t.first + t.len ≡ own
Ends (frame.Row t n i) own = t.first + t.len ≡ own
Ends (frame.Cell t n i) own = t.first + t.len ≡ own

-- another frame of the same level, over the same columns
pub record Over (f g : Frame) : Type 0 where
  pub ground : Ground f → Ground g
  pub ends : (own : ℕ) → Ends f own → Ends g own
  pub below : (own : ℕ) → below g own ≡ below f own

-- a row is one level more
abbrev pub in_row : Frame → ℕ
in_row frame.Done = 0
in_row frame.Start = 0
in_row (frame.Items n) = 0
in_row (frame.Pairs n) = 0
in_row (frame.Field n) = 0
in_row (frame.Rows t n) = 0
in_row (frame.Row t n i) = 1
in_row (frame.Cell t n i) = 1

-- a frame's columns end within key room
abbrev pub Limited : Frame → Type 0
Limited frame.Done = Unit {0}
Limited frame.Start = Unit {0}
Limited (frame.Items n) = Unit {0}
Limited (frame.Pairs n) = Unit {0}
Limited (frame.Field n) = Unit {0}
Limited (frame.Rows t n) = t.first + t.len ≤ 256
Limited (frame.Row t n i) = t.first + t.len ≤ 256
Limited (frame.Cell t n i) = t.first + t.len ≤ 256

-- where key room has the key that comes next
abbrev pub column_at : Frame → Option ℕ
column_at frame.Done = None
column_at frame.Start = None
column_at (frame.Items n) = None
column_at (frame.Pairs n) = None
column_at (frame.Field n) = None
column_at (frame.Rows t n) = None
column_at (frame.Row t n i) = cond (nat_lt i t.len) (Some (t.first + i)) None
column_at (frame.Cell t n i) = None

-- an array or an object before its first
abbrev pub Plain : Frame → Type 0
Plain frame.Done = ⊥
Plain frame.Start = ⊥
Plain (frame.Items n) = Unit {0}
Plain (frame.Pairs n) = Unit {0}
Plain (frame.Field n) = ⊥
Plain (frame.Rows t n) = ⊥
Plain (frame.Row t n i) = ⊥
Plain (frame.Cell t n i) = ⊥
