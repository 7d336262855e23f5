-- What is open of a body, the innermost first, and how each event changes it.
use Rattle.std.specs.Prelude.{ℕ, zero, suc, ◌+◌, List, [], ◌∷◌, length, drop, Some, None, Option}
use Rattle.room.specs.declared.due.Due.{Due}
use Rattle.room.specs.declared.due.Due.TheVariants.{Done, Value, Cell, MapKey, RowBegin, RowKey, RowEnd, MapEnd, ArrayEnd}

-- a key of an open template: lent by the input from a place on, with so many bytes; or bytes that were copied
pub data Column : Type 0 where
  lent : ℕ → ℕ → Column
  copied : List ℕ → Column

-- what is open, by what is known of a column: where its key lies, or its name
pub data Open (C : Type 0) : Type 0 where
  -- the one value of a body is to come
  start : Open C
  -- an array with so many values to come
  items : ℕ → Open C
  -- an object with so many pairs to come, before a key; and the value of a key with so many pairs to come behind it
  pairs field : ℕ → Open C
  -- a template before a row: its columns, and so many rows to come
  rows : List C → ℕ → Open C
  -- in a row, before the key of a column and before its cell: the columns to come behind, all columns, and so many rows to come
  row cell : List C → List C → ℕ → Open C

-- what comes next
abbrev pub due : {C : Type 0} → List (Open C) → Due
due [] = Done
due (start ∷ s) = Value
due (items zero ∷ s) = ArrayEnd
due (items (suc n) ∷ s) = Value
due (pairs zero ∷ s) = MapEnd
due (pairs (suc n) ∷ s) = MapKey
due (field n ∷ s) = Value
due (rows ks zero ∷ s) = ArrayEnd
due (rows ks (suc n) ∷ s) = RowBegin
due (row [] ks n ∷ s) = RowEnd
due (row (k ∷ l) ks n ∷ s) = RowKey
due (cell l ks n ∷ s) = Cell

-- ---- what changes

-- a value has begun, and its place is taken
abbrev pub filled : {C : Type 0} → List (Open C) → List (Open C)
filled [] = []
filled (start ∷ s) = s
filled (items zero ∷ s) = items zero ∷ s
filled (items (suc n) ∷ s) = items n ∷ s
filled (pairs n ∷ s) = pairs n ∷ s
filled (field n ∷ s) = pairs n ∷ s
filled (rows ks n ∷ s) = rows ks n ∷ s
filled (row l ks n ∷ s) = row l ks n ∷ s
filled (cell l ks n ∷ s) = row l ks n ∷ s

-- the innermost has ended
abbrev pub ended : {C : Type 0} → List (Open C) → List (Open C)
ended [] = []
ended (o ∷ s) = s

-- the key of a pair has passed
abbrev pub keyed : {C : Type 0} → List (Open C) → List (Open C)
keyed [] = []
keyed (start ∷ s) = start ∷ s
keyed (items n ∷ s) = items n ∷ s
keyed (pairs zero ∷ s) = pairs zero ∷ s
keyed (pairs (suc n) ∷ s) = field n ∷ s
keyed (field n ∷ s) = field n ∷ s
keyed (rows ks n ∷ s) = rows ks n ∷ s
keyed (row l ks n ∷ s) = row l ks n ∷ s
keyed (cell l ks n ∷ s) = cell l ks n ∷ s

-- a row begins, the key of a column passes, a row ends
abbrev pub row_turned : {C : Type 0} → List (Open C) → List (Open C)
row_turned [] = []
row_turned (start ∷ s) = start ∷ s
row_turned (items n ∷ s) = items n ∷ s
row_turned (pairs n ∷ s) = pairs n ∷ s
row_turned (field n ∷ s) = field n ∷ s
row_turned (rows ks zero ∷ s) = rows ks zero ∷ s
row_turned (rows ks (suc n) ∷ s) = row ks ks n ∷ s
row_turned (row [] ks n ∷ s) = rows ks n ∷ s
row_turned (row (k ∷ l) ks n ∷ s) = cell l ks n ∷ s
row_turned (cell l ks n ∷ s) = cell l ks n ∷ s

-- the columns of the template of which a row begins next
abbrev pub row_columns : {C : Type 0} → List (Open C) → Option ℕ
row_columns [] = None
row_columns (start ∷ s) = None
row_columns (items n ∷ s) = None
row_columns (pairs n ∷ s) = None
row_columns (field n ∷ s) = None
row_columns (rows ks zero ∷ s) = None
row_columns (rows ks (suc n) ∷ s) = Some (length ks)
row_columns (row l ks n ∷ s) = None
row_columns (cell l ks n ∷ s) = None

-- the row that begins next has begun, and so many cells of it have passed
abbrev pub within_row : {C : Type 0} → ℕ → List (Open C) → List (Open C)
within_row k [] = []
within_row k (start ∷ s) = start ∷ s
within_row k (items n ∷ s) = items n ∷ s
within_row k (pairs n ∷ s) = pairs n ∷ s
within_row k (field n ∷ s) = field n ∷ s
within_row k (rows ks zero ∷ s) = rows ks zero ∷ s
within_row k (rows ks (suc n) ∷ s) = row (drop k ks) ks n ∷ s
within_row k (row l ks n ∷ s) = row l ks n ∷ s
within_row k (cell l ks n ∷ s) = cell l ks n ∷ s

-- the row that begins next has passed
abbrev pub past_row : {C : Type 0} → List (Open C) → List (Open C)
past_row [] = []
past_row (start ∷ s) = start ∷ s
past_row (items n ∷ s) = items n ∷ s
past_row (pairs n ∷ s) = pairs n ∷ s
past_row (field n ∷ s) = field n ∷ s
past_row (rows ks zero ∷ s) = rows ks zero ∷ s
past_row (rows ks (suc n) ∷ s) = rows ks n ∷ s
past_row (row l ks n ∷ s) = row l ks n ∷ s
past_row (cell l ks n ∷ s) = cell l ks n ∷ s

-- the column whose key comes next
abbrev pub column : List (Open Column) → Column
column [] = copied []
column (start ∷ s) = copied []
column (items n ∷ s) = copied []
column (pairs n ∷ s) = copied []
column (field n ∷ s) = copied []
column (rows ks n ∷ s) = copied []
column (row [] ks n ∷ s) = copied []
column (row (k ∷ l) ks n ∷ s) = k
column (cell l ks n ∷ s) = copied []

-- ---- what is taken of the fixed memory

-- the arrays, objects and templates that are open
abbrev pub depth : {C : Type 0} → List (Open C) → ℕ
depth [] = 0
depth (start ∷ s) = depth s
depth (items n ∷ s) = suc (depth s)
depth (pairs n ∷ s) = suc (depth s)
depth (field n ∷ s) = suc (depth s)
depth (rows ks n ∷ s) = suc (depth s)
depth (row l ks n ∷ s) = suc (depth s)
depth (cell l ks n ∷ s) = suc (depth s)

-- the arrays, objects, templates and rows that are open
abbrev pub nesting : {C : Type 0} → List (Open C) → ℕ
nesting [] = 0
nesting (start ∷ s) = nesting s
nesting (items n ∷ s) = suc (nesting s)
nesting (pairs n ∷ s) = suc (nesting s)
nesting (field n ∷ s) = suc (nesting s)
nesting (rows ks n ∷ s) = suc (nesting s)
nesting (row l ks n ∷ s) = suc (suc (nesting s))
nesting (cell l ks n ∷ s) = suc (suc (nesting s))

-- the key bytes of columns: what is lent takes up none
abbrev pub column_bytes : List Column → ℕ
column_bytes [] = 0
column_bytes (lent p n ∷ ks) = column_bytes ks
column_bytes (copied bs ∷ ks) = length bs + column_bytes ks

-- the keys and the key bytes that the open templates hold
abbrev pub keys_held : {C : Type 0} → List (Open C) → ℕ
keys_held [] = 0
keys_held (start ∷ s) = keys_held s
keys_held (items n ∷ s) = keys_held s
keys_held (pairs n ∷ s) = keys_held s
keys_held (field n ∷ s) = keys_held s
keys_held (rows ks n ∷ s) = keys_held s + length ks
keys_held (row l ks n ∷ s) = keys_held s + length ks
keys_held (cell l ks n ∷ s) = keys_held s + length ks

-- by how many bytes the columns of a template take
abbrev pub bytes_held : {C : Type 0} → (List C → ℕ) → List (Open C) → ℕ
bytes_held long [] = 0
bytes_held long (start ∷ s) = bytes_held long s
bytes_held long (items n ∷ s) = bytes_held long s
bytes_held long (pairs n ∷ s) = bytes_held long s
bytes_held long (field n ∷ s) = bytes_held long s
bytes_held long (rows ks n ∷ s) = bytes_held long s + long ks
bytes_held long (row l ks n ∷ s) = bytes_held long s + long ks
bytes_held long (cell l ks n ∷ s) = bytes_held long s + long ks
