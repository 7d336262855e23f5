-- Worked examples at the edges: what is still well formed or within the limits, and what is no more.
use Rattle.std.specs.Prelude.{◌≡◌, ℕ, zero, suc, ◌-◌, ◌^◌, [], ◌∷◌, replicate, pos, negsuc}
use Rattle.format.specs.declared.width.Width.{Width}
use Rattle.format.specs.declared.width.Width.TheVariants.{W8, W16, W32, W64}
use Rattle.values.specs.Values.{Value, Values, Pairs, Rows, Key, as_text, null, yes_value, no_value, integer, real, bytes, text, array, object, template, no_values, value, no_pairs, pair, no_rows, row, no_cells, gap, cell, encoding, key_encoding, events, map_begin, map_end, key, some_text, is_true, is_null, Formed, KeyFormed}
use Rattle.values.specs.Limits.{Limits, none, lending, copying, Within, ValuesWithin, PairsWithin, RowsWithin, CellsWithin}
use Rattle.values.specs.Examples.{named, cp, overlong, no_table}

-- the key "k" as a text, with its length in two bytes
abbrev pub text_key : Key
text_key = record { tag = as_text; width = W16; name = 0x6b ∷ [] }

-- the last number that fits, and the first that does not
abbrev pub AtWidth : Width → ℕ → ℕ → Type 0
AtWidth w n m = record {
  most : Formed (integer w (pos n));
  more : Formed (integer w (pos m)) → ⊥;
  least : Formed (integer w (negsuc n));
  less : Formed (integer w (negsuc m)) → ⊥;
}

-- so many nulls, rows without cells, or pairs
abbrev pub nulls : ℕ → Values
nulls zero = no_values
nulls (suc n) = value null (nulls n)

abbrev pub bare_rows : ℕ → Rows
bare_rows zero = no_rows
bare_rows (suc n) = row no_cells (bare_rows n)

abbrev pub null_pairs : ℕ → Pairs
null_pairs zero = no_pairs
null_pairs (suc n) = pair (named cp) null (null_pairs n)

-- a number that does not fit its width
abbrev pub beyond : Value
beyond = integer W8 (pos 128)

abbrev pub empty : Value
empty = array W8 no_values

-- two values, one behind the other
abbrev pub both : Value → Value → Value
both v w = array W8 (value v (value w no_values))

abbrev pub in_object : Value → Value
in_object v = object W8 (pair (named cp) v no_pairs)

-- a template with a key of two bytes, and one row of this cell
abbrev pub in_row : Value → Value
in_row v = template W8 (named cp ∷ []) W8 (row (cell v no_cells) no_rows)

-- a value that holds no other takes no level, no key and no key bytes; nor does what stands behind the last
abbrev pub TakesNone : Limits → Type 0
TakesNone L = record {
  null_takes : Within null L 128 256 4096;
  yes_takes : Within yes_value L 128 256 4096;
  no_takes : Within no_value L 128 256 4096;
  integer_takes : Within (integer W8 (pos 0)) L 128 256 4096;
  real_takes : Within (real 0) L 128 256 4096;
  bytes_takes : Within (bytes W8 []) L 128 256 4096;
  text_takes : Within (text W8 []) L 128 256 4096;
  last_value : ValuesWithin no_values L 128 256 4096;
  last_pair : PairsWithin no_pairs L 128 256 4096;
  last_row : RowsWithin no_rows L 128 256 4096;
  last_cell : CellsWithin no_cells L 128 256 4096;
  gap_takes : CellsWithin (gap no_cells) L 128 256 4096;
}

-- where so many levels, keys and key bytes are taken
abbrev pub AtLimits : Limits → Type 0
AtLimits L = record {
  array_level : Within empty L 127 0 0;
  no_array_level : Within empty L 128 0 0 → ⊥;
  object_level : Within (object W8 no_pairs) L 127 0 0;
  no_object_level : Within (object W8 no_pairs) L 128 0 0 → ⊥;
  -- values that stand beside one another take the same level
  inner_level : Within (both empty empty) L 126 0 0;
  no_inner_level : Within (both null empty) L 127 0 0 → ⊥;
  pair_level : Within (in_object empty) L 126 0 0;
  no_pair_level : Within (in_object empty) L 127 0 0 → ⊥;
  -- the list of a template's keys takes a level, and gives it back before the rows
  list_level : Within no_table L 126 0 0;
  no_list_level : Within no_table L 127 0 0 → ⊥;
  cell_level : Within (in_row empty) L 126 0 0;
  no_cell_level : Within (in_row (both null empty)) L 126 0 0 → ⊥;
  key : Within (in_row null) L 0 255 0;
  no_key : Within (in_row null) L 0 256 0 → ⊥;
  inner_key : Within (in_row (in_row null)) L 0 254 0;
  no_inner_key : Within (in_row (in_row null)) L 0 255 0 → ⊥;
  -- a template that has ended holds no keys
  key_again : Within (both (in_row null) (in_row null)) L 0 255 0;
  no_rows_no_keys : Within no_table L 0 0 0;
  row_no_keys : Within (template W8 [] W8 (row no_cells no_rows)) L 0 0 0 → ⊥;
}

abbrev pub Edges : Type 0
Edges = record {
  text_bytes : encoding (text W8 (0x61 ∷ [])) ≡ 0x0d ∷ 0x03 ∷ 0x01 ∷ 0x61 ∷ [];
  text_events : events (text W8 (0x61 ∷ [])) ≡ some_text (0x61 ∷ []) ∷ [];
  text_key_bytes : key_encoding text_key ≡ 0x0d ∷ 0x04 ∷ 0x01 ∷ 0x00 ∷ 0x6b ∷ [];
  widths_of_counts : encoding (template W16 [] W8 no_rows) ≡ 0x0b ∷ 0x00 ∷ 0x04 ∷ 0x00 ∷ 0x00 ∷ 0x03 ∷ 0x00 ∷ [];
  pairs_bytes : encoding (object W8 (pair (named cp) null (pair text_key yes_value no_pairs)))
      ≡ 0x01 ∷ 0x03 ∷ 0x02 ∷ 0x02 ∷ 0x03 ∷ 0x02 ∷ 0x63 ∷ 0x70 ∷ 0x0a ∷ 0x0d ∷ 0x04 ∷ 0x01 ∷ 0x00 ∷ 0x6b ∷ 0x08 ∷ [];
  pairs_events : events (object W8 (pair (named cp) null (pair text_key yes_value no_pairs))) ≡ map_begin ∷ key cp ∷ is_null ∷ key (0x6b ∷ []) ∷ is_true ∷ map_end ∷ [];
  byte_most : Formed (bytes W8 (255 ∷ []));
  byte_beyond : Formed (bytes W8 (256 ∷ [])) → ⊥;
  one_byte : AtWidth W8 127 128;
  two_bytes : AtWidth W16 32767 32768;
  four_bytes : AtWidth W32 2147483647 2147483648;
  eight_bytes : AtWidth W64 9223372036854775807 9223372036854775808;
  least_of_one : encoding (integer W8 (negsuc 127)) ≡ 0x03 ∷ 0x80 ∷ [];
  least_of_four : encoding (integer W32 (negsuc 2147483647)) ≡ 0x05 ∷ 0x00 ∷ 0x00 ∷ 0x00 ∷ 0x80 ∷ [];
  least_of_eight : encoding (integer W64 (negsuc 9223372036854775807)) ≡ 0x06 ∷ 0x00 ∷ 0x00 ∷ 0x00 ∷ 0x00 ∷ 0x00 ∷ 0x00 ∷ 0x00 ∷ 0x80 ∷ [];
  real_most : Formed (real (2 ^ 64 - 1));
  real_beyond : Formed (real (2 ^ 64)) → ⊥;
  key_no_text : KeyFormed (named overlong) → ⊥;
  -- counts and lengths fit their widths
  array_most : Formed (array W8 (nulls 127));
  array_long : Formed (array W8 (nulls 128)) → ⊥;
  object_long : Formed (object W8 (null_pairs 128)) → ⊥;
  bytes_long : Formed (bytes W8 (replicate 128 0)) → ⊥;
  text_long : Formed (text W8 (replicate 128 0x61)) → ⊥;
  key_long : KeyFormed (named (replicate 128 0x61)) → ⊥;
  keys_long : Formed (template W8 (replicate 128 (named cp)) W16 no_rows) → ⊥;
  rows_long : Formed (template W16 [] W8 (bare_rows 128)) → ⊥;
  rows_wide : Formed (template W8 [] W16 (bare_rows 128));
  -- what stands inside has to be well formed, the first and a later one
  first_value : Formed (both beyond null) → ⊥;
  later_value : Formed (both null beyond) → ⊥;
  first_pair : Formed (in_object beyond) → ⊥;
  later_pair : Formed (object W8 (pair (named cp) null (pair text_key beyond no_pairs))) → ⊥;
  pair_key : Formed (object W8 (pair (named overlong) null no_pairs)) → ⊥;
  first_key : Formed (template W8 (named overlong ∷ []) W8 no_rows) → ⊥;
  later_key : Formed (template W8 (named cp ∷ named overlong ∷ []) W8 no_rows) → ⊥;
  first_cell : Formed (in_row beyond) → ⊥;
  later_cell : Formed (template W8 (named cp ∷ text_key ∷ []) W8 (row (cell null (cell beyond no_cells)) no_rows)) → ⊥;
  behind_gap : Formed (template W8 (named cp ∷ text_key ∷ []) W8 (row (gap (cell beyond no_cells)) no_rows)) → ⊥;
  later_row : Formed (template W8 (named cp ∷ []) W8 (row (cell null no_cells) (row (cell beyond no_cells) no_rows))) → ⊥;
  -- a row has a cell for each key
  row_short : Formed (template W8 (named cp ∷ []) W8 (row no_cells no_rows)) → ⊥;
  row_long : Formed (template W8 [] W8 (row (gap no_cells) no_rows)) → ⊥;
  lending_limits : AtLimits lending;
  copying_limits : AtLimits copying;
  lending_takes : TakesNone lending;
  copying_takes : TakesNone copying;
  -- where there are no limits
  any_level : Within empty none 128 0 0;
  any_key : Within (in_row null) none 0 256 0;
  any_key_bytes : Within (in_row null) none 0 0 4096;
  any_rows : Within (template W8 [] W8 (row no_cells no_rows)) none 0 0 0;
  -- a key that is lent takes no bytes
  lent_bytes : (n : ℕ) → Within (in_row null) lending 0 0 n;
  key_bytes : Within (in_row null) copying 0 0 4094;
  no_key_bytes : Within (in_row null) copying 0 0 4095 → ⊥;
  inner_key_bytes : Within (in_row (in_row null)) copying 0 0 4092;
  no_inner_key_bytes : Within (in_row (in_row null)) copying 0 0 4093 → ⊥;
  key_bytes_again : Within (both (in_row null) (in_row null)) copying 0 0 4094;
}
