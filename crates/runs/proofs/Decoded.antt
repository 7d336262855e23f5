-- From what may come back to values: whatever completes the first level is the encoding of a value, with its events.
use Rattle.std.proofs.Common.{◌≡◌, ℕ, suc, List, [], ◌∷◌, ◌++◌, length, refl, ap, sym, append_assoc, append-nil, pos}
use Rattle.format.specs.declared.width.Width.{Width}
use Rattle.format.specs.declared.width.Width.TheVariants.{W8}
use Rattle.values.specs.Values.{Value, null, array, object, template, Values, no_values, value, Pairs, no_pairs, pair, Rows, no_rows, row as a_row, Cells, no_cells, gap, cell as a_cell, Key, as_bytes}
use Rattle.values.specs.Values.{value_count, pair_count, row_count, cell_count, encoding, values_encoding, pairs_encoding, rows_encoding, cells_encoding, keys_encoding, text_encoding, key_encoding, count_encoding, Event, array_begin, array_end, map_begin, map_end, key, absent, events, values_events, pairs_events, rows_events, cells_events, Fits, KeyFormed, KeysFormed, Formed, ValuesFormed, PairsFormed, RowsFormed, CellsFormed}
use Rattle.values.specs.Limits.{Limits}
use Rattle.room.specs.Open.{start, items, pairs, field, rows, row, cell, filled}
use Rattle.runs.proofs.Taking.{Level, Wants, null_is, key_names, template_front, Takes, plain_comes, array_comes, array_ends, object_comes, key_comes, object_ends, template_comes, row_begins, column_comes, gap_comes, row_ends, template_ends}
use Rattle.runs.proofs.Coming.{Completes, at_end, goes}
use Rattle.runs.proofs.Encoded.{names_count, front_apart}

-- keys of these names: the events of rows depend on nothing else of their keys
abbrev keys_named : List (List ℕ) → List Key
keys_named [] = []
keys_named (k ∷ ks) = record { tag = as_bytes; width = W8; name = k } ∷ keys_named ks

same_cells : (cs : Cells) (ks : List Key) → cells_events cs (keys_named (key_names ks)) ≡ cells_events cs ks
same_cells no_cells ks = refl
same_cells (gap cs) [] = refl
same_cells (gap cs) (k ∷ ks) = rw (same_cells cs ks)
same_cells (a_cell v cs) [] = refl
same_cells (a_cell v cs) (k ∷ ks) = rw (same_cells cs ks)

same_rows : (rs : Rows) (ks : List Key) → rows_events rs (keys_named (key_names ks)) ≡ rows_events rs ks
same_rows no_rows ks = refl
same_rows (a_row cs rs) ks = rw (same_cells cs ks, same_rows rs ks)

-- these bytes and events are those of the values, pairs, rows and cells that the levels wait for
data Fills : List Level → List ℕ → List Event → Type 0 where
  nothing_left : Fills [] [] []
  value_left : {s : List Level} {b : List ℕ} {x : List Event} (v : Value) → Formed v → Fills s b x → Fills (start ∷ s) (encoding v ++ b) (events v ++ x)
  values_left : {n : ℕ} {s : List Level} {b : List ℕ} {x : List Event} (vs : Values) → value_count vs ≡ n → ValuesFormed vs → Fills s b x →
      Fills (items n ∷ s) (values_encoding vs ++ b) (values_events vs ++ (array_end ∷ x))
  pairs_left : {n : ℕ} {s : List Level} {b : List ℕ} {x : List Event} (ps : Pairs) → pair_count ps ≡ n → PairsFormed ps → Fills s b x →
      Fills (pairs n ∷ s) (pairs_encoding ps ++ b) (pairs_events ps ++ (map_end ∷ x))
  field_left : {n : ℕ} {s : List Level} {b : List ℕ} {x : List Event} (v : Value) → Formed v → Fills (pairs n ∷ s) b x → Fills (field n ∷ s) (encoding v ++ b) (events v ++ x)
  rows_left : {ks : List (List ℕ)} {n : ℕ} {s : List Level} {b : List ℕ} {x : List Event} (rs : Rows) → row_count rs ≡ n → RowsFormed rs (length ks) → Fills s b x →
      Fills (rows ks n ∷ s) (rows_encoding rs ++ b) (rows_events rs (keys_named ks) ++ (array_end ∷ x))
  cells_left : {l ks : List (List ℕ)} {n : ℕ} {s : List Level} {b : List ℕ} {x : List Event} (cs : Cells) → cell_count cs ≡ length l → CellsFormed cs → Fills (rows ks n ∷ s) b x →
      Fills (row l ks n ∷ s) (cells_encoding cs ++ b) (cells_events cs (keys_named l) ++ (map_end ∷ x))
  gap_left : {l ks : List (List ℕ)} {n : ℕ} {s : List Level} {b : List ℕ} {x : List Event} → Fills (row l ks n ∷ s) b x → Fills (cell l ks n ∷ s) (0x0c ∷ b) (absent ∷ x)
  cell_left : {l ks : List (List ℕ)} {n : ℕ} {s : List Level} {b : List ℕ} {x : List Event} (v : Value) → Formed v → Fills (row l ks n ∷ s) b x →
      Fills (cell l ks n ∷ s) (encoding v ++ b) (events v ++ x)

-- a value before the rest
filled_by : {b : List ℕ} {x : List Event} (s : List Level) → Wants s → (v : Value) → Formed v → Fills (filled s) b x → Fills s (encoding v ++ b) (events v ++ x)
filled_by (start ∷ s) w v h f = value_left v h f
filled_by (items (suc n) ∷ s) w v h (values_left {b = c} {x = y} vs e g f) =
    rw (← append_assoc (encoding v) (values_encoding vs) c, ← append_assoc (events v) (values_events vs) (array_end ∷ y)) (values_left (value v vs) (ap suc e) (h, g) f)
filled_by (field n ∷ s) w v h f = field_left v h f
filled_by (cell l ks n ∷ s) w v h f = cell_left v h f
filled_by _ w v h f = absurd w

array_filled : {b : List ℕ} {x : List Event} (s : List Level) → Wants s → (u : Width) (n : ℕ) → Fits u (pos n) → Fills (items n ∷ filled s) b x → Fills s (0x00 ∷ (count_encoding u n ++ b)) (array_begin ∷ x)
array_filled s w u n h (values_left {b = b} {x = x} vs e g f) =
    rw (← e, ← append_assoc (count_encoding u (value_count vs)) (values_encoding vs) b, ← append_assoc (values_events vs) (array_end ∷ []) x)
    (filled_by s w (array u vs) (rw e h, g) f)

object_filled : {b : List ℕ} {x : List Event} (s : List Level) → Wants s → (u : Width) (n : ℕ) → Fits u (pos n) → Fills (pairs n ∷ filled s) b x → Fills s (0x01 ∷ (count_encoding u n ++ b)) (map_begin ∷ x)
object_filled s w u n h (pairs_left {b = b} {x = x} ps e g f) =
    rw (← e, ← append_assoc (count_encoding u (pair_count ps)) (pairs_encoding ps) b, ← append_assoc (pairs_events ps) (map_end ∷ []) x)
    (filled_by s w (object u ps) (rw e h, g) f)

template_filled : {b : List ℕ} {x : List Event} (s : List Level) → Wants s → (u : Width) (ks : List Key) (y : Width) (n : ℕ) → Fits u (pos (length ks)) → KeysFormed ks → Fits y (pos n) →
    Fills (rows (key_names ks) n ∷ filled s) b x → Fills s (template_front u ks y n ++ b) (array_begin ∷ x)
template_filled s w u ks y n g k h (rows_left {b = b} {x = x} rs e i f) =
    rw (← e, ← front_apart (count_encoding u (length ks)) (keys_encoding ks) (count_encoding y (row_count rs)) (rows_encoding rs) b, same_rows rs ks, ← append_assoc (rows_events rs ks) (array_end ∷ []) x)
    (filled_by s w (template u ks y rs) (g, k, rw e h, rw (← names_count ks) i) f)

pair_filled : {n : ℕ} {s : List Level} {b : List ℕ} {x : List Event} (k : Key) → KeyFormed k → Fills (field n ∷ s) b x → Fills (pairs (suc n) ∷ s) (key_encoding k ++ b) (key k.name ∷ x)
pair_filled k h (field_left v g (pairs_left {b = b} {x = x} ps e i f)) =
    rw (← append_assoc (encoding v) (pairs_encoding ps) b, ← append_assoc (text_encoding k.width k.name) (encoding v ++ pairs_encoding ps) b, ← append_assoc (events v) (pairs_events ps) (map_end ∷ x))
    (pairs_left (pair k v ps) (ap suc e) (h, g, i) f)

row_filled : {ks : List (List ℕ)} {n : ℕ} {s : List Level} {b : List ℕ} {x : List Event} → Fills (row ks ks n ∷ s) b x → Fills (rows ks (suc n) ∷ s) b (map_begin ∷ x)
row_filled {ks = ks} (cells_left cs d g (rows_left {b = b} {x = x} rs e h f)) =
    rw (← append_assoc (cells_encoding cs) (rows_encoding rs) b, ← append_assoc (cells_events cs (keys_named ks)) (map_end ∷ rows_events rs (keys_named ks)) (array_end ∷ x))
    (rows_left (a_row cs rs) (ap suc e) (d, g, h) f)

column_filled : {k : List ℕ} {l ks : List (List ℕ)} {n : ℕ} {s : List Level} {b : List ℕ} {x : List Event} → Fills (cell l ks n ∷ s) b x → Fills (row (k ∷ l) ks n ∷ s) b (key k ∷ x)
column_filled (gap_left (cells_left cs e g f)) = cells_left (gap cs) (ap suc e) g f
column_filled {l = l} (cell_left v h (cells_left {b = b} {x = x} cs e g f)) =
    rw (← append_assoc (encoding v) (cells_encoding cs) b, ← append_assoc (events v) (cells_events cs (keys_named l)) (map_end ∷ x)) (cells_left (a_cell v cs) (ap suc e) (h, g) f)

-- one event before the rest
one_more : {L : Limits} {s t : List Level} {c b : List ℕ} {e : Event} {x : List Event} → Takes L s c e t → Fills t b x → Fills s (c ++ b) (e ∷ x)
one_more {s = s} (plain_comes w null_is h) f = filled_by s w null h f
one_more {s = s} (plain_comes {v = v} w p h) f = filled_by s w v h f
one_more {s = s} (array_comes w u n h i) f = array_filled s w u n h f
one_more array_ends f = values_left no_values refl tt f
one_more {s = s} (object_comes w u n h i) f = object_filled s w u n h f
one_more (key_comes k h) f = pair_filled k h f
one_more object_ends f = pairs_left no_pairs refl tt f
one_more {s = s} (template_comes w u ks y n g k h i) f = template_filled s w u ks y n g k h f
one_more row_begins f = row_filled f
one_more column_comes f = column_filled f
one_more gap_comes f = gap_left f
one_more row_ends f = cells_left no_cells refl tt f
one_more template_ends f = rows_left no_rows refl tt f

fills : {L : Limits} {s : List Level} {b : List ℕ} {x : List Event} → Completes L s b x → Fills s b x
fills at_end = nothing_left
fills (goes h c) = one_more h (fills c)

-- a body is the encoding of a value
pub value_of : {L : Limits} {b : List ℕ} {x : List Event} → Completes L (start ∷ []) b x → (v : Value) × Formed v × (encoding v ≡ b) × (events v ≡ x)
value_of c = only (fills c)
  where
    only : {b : List ℕ} {x : List Event} → Fills (start ∷ []) b x → (v : Value) × Formed v × (encoding v ≡ b) × (events v ≡ x)
    only (value_left v h nothing_left) = (v, h, sym (append-nil (encoding v)), sym (append-nil (events v)))
