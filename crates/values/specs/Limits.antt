-- The limits of this reader, which are no part of what a value is.
use Rattle.std.specs.Prelude.{ℕ, suc, ◌+◌, ◌<◌, ◌≤◌, List, [], ◌∷◌, length}
use Rattle.values.specs.Values.{Key, Value, Values, Pairs, Rows, Cells, null, yes_value, no_value, integer, real, bytes, text, array, object, template, no_values, value, no_pairs, pair, no_rows, row, no_cells, gap, cell, row_count}

-- no limits at all, or those over a reader that lends or one that copies
pub data Limits : Type 0 where
  none lending copying : Limits

-- so many arrays, objects, templates and key lists are open, and one more is to be
abbrev pub LevelFree : Limits → ℕ → Type 0
LevelFree none open_now = Unit {0}
LevelFree lending open_now = open_now < 128
LevelFree copying open_now = open_now < 128

-- so many keys, of so many bytes, are held by the open templates
abbrev pub RoomForKeys : Limits → ℕ → Type 0
RoomForKeys none keys = Unit {0}
RoomForKeys lending keys = keys ≤ 256
RoomForKeys copying keys = keys ≤ 256

abbrev pub RoomForKeyBytes : Limits → ℕ → Type 0
RoomForKeyBytes none n = Unit {0}
RoomForKeyBytes lending n = Unit {0}
RoomForKeyBytes copying n = n ≤ 4096

-- a template that has rows has a key
abbrev pub RowsKeyed : Limits → ℕ → ℕ → Type 0
RowsKeyed none rows keys = Unit {0}
RowsKeyed lending rows keys = 0 < rows → 0 < keys
RowsKeyed copying rows keys = 0 < rows → 0 < keys

abbrev pub key_bytes : List Key → ℕ
key_bytes [] = 0
key_bytes (k ∷ ks) = length k.name + key_bytes ks

-- a value is within the limits where so many containers are open and so many keys and key bytes held
abbrev mutual
  pub Within : Value → Limits → ℕ → ℕ → ℕ → Type 0
  Within null L depth keys held = Unit {0}
  Within yes_value L depth keys held = Unit {0}
  Within no_value L depth keys held = Unit {0}
  Within (integer w z) L depth keys held = Unit {0}
  Within (real n) L depth keys held = Unit {0}
  Within (bytes w bs) L depth keys held = Unit {0}
  Within (text w bs) L depth keys held = Unit {0}
  Within (array w vs) L depth keys held = LevelFree L depth × ValuesWithin vs L (suc depth) keys held
  Within (object w ps) L depth keys held = LevelFree L depth × PairsWithin ps L (suc depth) keys held
  Within (template w ks u rs) L depth keys held =
      LevelFree L depth × LevelFree L (suc depth) × RoomForKeys L (keys + length ks) × RoomForKeyBytes L (held + key_bytes ks)
      × RowsKeyed L (row_count rs) (length ks) × RowsWithin rs L (suc depth) (keys + length ks) (held + key_bytes ks)

  pub ValuesWithin : Values → Limits → ℕ → ℕ → ℕ → Type 0
  ValuesWithin no_values L depth keys held = Unit {0}
  ValuesWithin (value v vs) L depth keys held = Within v L depth keys held × ValuesWithin vs L depth keys held

  pub PairsWithin : Pairs → Limits → ℕ → ℕ → ℕ → Type 0
  PairsWithin no_pairs L depth keys held = Unit {0}
  PairsWithin (pair k v ps) L depth keys held = Within v L depth keys held × PairsWithin ps L depth keys held

  pub RowsWithin : Rows → Limits → ℕ → ℕ → ℕ → Type 0
  RowsWithin no_rows L depth keys held = Unit {0}
  RowsWithin (row cs rs) L depth keys held = CellsWithin cs L depth keys held × RowsWithin rs L depth keys held

  pub CellsWithin : Cells → Limits → ℕ → ℕ → ℕ → Type 0
  CellsWithin no_cells L depth keys held = Unit {0}
  CellsWithin (gap cs) L depth keys held = CellsWithin cs L depth keys held
  CellsWithin (cell v cs) L depth keys held = Within v L depth keys held × CellsWithin cs L depth keys held
