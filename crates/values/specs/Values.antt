-- What a BSER value is: its encoding, its events, and when it is well formed.
-- A value has in it every choice that an encoding leaves free: the width of each count and length,
-- and the tag of each key.
use Rattle.std.specs.Prelude.{◌≡◌, ℕ, zero, suc, ◌-◌, ◌*◌, ◌/◌, ◌%◌, ◌^◌, ◌<◌, true, List, [], ◌∷◌, ◌++◌, length, ℤ, pos, negsuc}
use Rattle.format.specs.declared.width.Width.{Width}
use Rattle.format.specs.declared.width.Width.TheVariants.{W8, W16, W32, W64}
use Rattle.format.specs.Integers.{bytes_of, half_of}
use Rattle.utf8.specs.Utf8.{utf8}

abbrev pub Bytes : List ℕ → Type 0
Bytes [] = Unit {0}
Bytes (b ∷ bs) = (b < 256) × Bytes bs

-- ---- values

pub data KeyTag : Type 0 where
  as_bytes as_text : KeyTag

pub record Key : Type 0 where
  pub tag : KeyTag
  pub width : Width
  pub name : List ℕ

mutual
  pub data Value : Type 0 where
    null yes_value no_value : Value
    integer : Width → ℤ → Value
    real : ℕ → Value
    bytes text : Width → List ℕ → Value
    array : Width → Values → Value
    object : Width → Pairs → Value
    -- the width of the key count, the keys, the width of the row count, the rows
    template : Width → List Key → Width → Rows → Value

  pub data Values : Type 0 where
    no_values : Values
    value : Value → Values → Values

  pub data Pairs : Type 0 where
    no_pairs : Pairs
    pair : Key → Value → Pairs → Pairs

  pub data Rows : Type 0 where
    no_rows : Rows
    row : Cells → Rows → Rows

  -- a cell is a value or a gap
  pub data Cells : Type 0 where
    no_cells : Cells
    gap : Cells → Cells
    cell : Value → Cells → Cells

abbrev pub value_count : Values → ℕ
value_count no_values = 0
value_count (value v vs) = suc (value_count vs)

abbrev pub pair_count : Pairs → ℕ
pair_count no_pairs = 0
pair_count (pair k v ps) = suc (pair_count ps)

abbrev pub row_count : Rows → ℕ
row_count no_rows = 0
row_count (row cs rs) = suc (row_count rs)

abbrev pub cell_count : Cells → ℕ
cell_count no_cells = 0
cell_count (gap cs) = suc (cell_count cs)
cell_count (cell v cs) = suc (cell_count cs)

-- ---- encodings

-- so many bytes of a number, the lowest first
abbrev pub digits : ℕ → ℕ → List ℕ
digits zero n = []
digits (suc k) n = n % 256 ∷ digits k (n / 256)

-- the bits of a number by two's complement
abbrev pub bits_of : Width → ℤ → ℕ
bits_of w (pos n) = n
bits_of w (negsuc n) = 2 * half_of w - suc n

abbrev pub int_tag : Width → ℕ
int_tag W8 = 0x03
int_tag W16 = 0x04
int_tag W32 = 0x05
int_tag W64 = 0x06

abbrev pub int_encoding : Width → ℤ → List ℕ
int_encoding w z = int_tag w ∷ digits (bytes_of w) (bits_of w z)

unfoldable pub count_encoding : Width → ℕ → List ℕ
count_encoding w n = int_encoding w (pos n)

abbrev pub text_encoding : Width → List ℕ → List ℕ
text_encoding w bs = count_encoding w (length bs) ++ bs

abbrev pub key_tag : KeyTag → ℕ
key_tag as_bytes = 0x02
key_tag as_text = 0x0d

abbrev pub key_encoding : Key → List ℕ
key_encoding k = key_tag k.tag ∷ text_encoding k.width k.name

abbrev pub keys_encoding : List Key → List ℕ
keys_encoding [] = []
keys_encoding (k ∷ ks) = key_encoding k ++ keys_encoding ks

abbrev mutual
  pub encoding : Value → List ℕ
  encoding null = 0x0a ∷ []
  encoding yes_value = 0x08 ∷ []
  encoding no_value = 0x09 ∷ []
  encoding (integer w z) = int_encoding w z
  encoding (real n) = 0x07 ∷ digits 8 n
  encoding (bytes w bs) = 0x02 ∷ text_encoding w bs
  encoding (text w bs) = 0x0d ∷ text_encoding w bs
  encoding (array w vs) = 0x00 ∷ (count_encoding w (value_count vs) ++ values_encoding vs)
  encoding (object w ps) = 0x01 ∷ (count_encoding w (pair_count ps) ++ pairs_encoding ps)
  encoding (template w ks u rs) =
      0x0b ∷ 0x00 ∷ (count_encoding w (length ks) ++ (keys_encoding ks ++ (count_encoding u (row_count rs) ++ rows_encoding rs)))

  pub values_encoding : Values → List ℕ
  values_encoding no_values = []
  values_encoding (value v vs) = encoding v ++ values_encoding vs

  pub pairs_encoding : Pairs → List ℕ
  pairs_encoding no_pairs = []
  pairs_encoding (pair k v ps) = key_encoding k ++ (encoding v ++ pairs_encoding ps)

  pub rows_encoding : Rows → List ℕ
  rows_encoding no_rows = []
  rows_encoding (row cs rs) = cells_encoding cs ++ rows_encoding rs

  pub cells_encoding : Cells → List ℕ
  cells_encoding no_cells = []
  cells_encoding (gap cs) = 0x0c ∷ cells_encoding cs
  cells_encoding (cell v cs) = encoding v ++ cells_encoding cs

-- ---- events

pub data Event : Type 0 where
  array_begin array_end map_begin map_end : Event
  key : List ℕ → Event
  an_integer : Width → ℤ → Event
  a_real : ℕ → Event
  some_bytes some_text : List ℕ → Event
  is_true is_false is_null : Event
  -- a gap: there is no value under the key before it
  absent : Event

abbrev mutual
  pub events : Value → List Event
  events null = is_null ∷ []
  events yes_value = is_true ∷ []
  events no_value = is_false ∷ []
  events (integer w z) = an_integer w z ∷ []
  events (real n) = a_real n ∷ []
  events (bytes w bs) = some_bytes bs ∷ []
  events (text w bs) = some_text bs ∷ []
  events (array w vs) = array_begin ∷ (values_events vs ++ (array_end ∷ []))
  events (object w ps) = map_begin ∷ (pairs_events ps ++ (map_end ∷ []))
  events (template w ks u rs) = array_begin ∷ (rows_events rs ks ++ (array_end ∷ []))

  pub values_events : Values → List Event
  values_events no_values = []
  values_events (value v vs) = events v ++ values_events vs

  pub pairs_events : Pairs → List Event
  pairs_events no_pairs = []
  pairs_events (pair k v ps) = key k.name ∷ (events v ++ pairs_events ps)

  pub rows_events : Rows → List Key → List Event
  rows_events no_rows ks = []
  rows_events (row cs rs) ks = map_begin ∷ (cells_events cs ks ++ (map_end ∷ rows_events rs ks))

  -- each cell under the key of its own column, a gap too
  pub cells_events : Cells → List Key → List Event
  cells_events no_cells ks = []
  cells_events (gap cs) [] = []
  cells_events (gap cs) (k ∷ ks) = key k.name ∷ absent ∷ cells_events cs ks
  cells_events (cell v cs) [] = []
  cells_events (cell v cs) (k ∷ ks) = key k.name ∷ (events v ++ cells_events cs ks)

-- ---- when a value is well formed: numbers fit their widths, texts and keys are UTF-8, and each row
-- has a cell for each key

abbrev pub Fits : Width → ℤ → Type 0
Fits w (pos n) = n < half_of w
Fits w (negsuc n) = n < half_of w

abbrev pub TextFormed : Width → List ℕ → Type 0
TextFormed w bs = Fits w (pos (length bs)) × Bytes bs

abbrev pub KeyFormed : Key → Type 0
KeyFormed k = TextFormed k.width k.name × (utf8 k.name ≡ true)

abbrev pub KeysFormed : List Key → Type 0
KeysFormed [] = Unit {0}
KeysFormed (k ∷ ks) = KeyFormed k × KeysFormed ks

abbrev mutual
  pub Formed : Value → Type 0
  Formed null = Unit {0}
  Formed yes_value = Unit {0}
  Formed no_value = Unit {0}
  Formed (integer w z) = Fits w z
  Formed (real n) = n < 2 ^ 64
  Formed (bytes w bs) = TextFormed w bs
  Formed (text w bs) = TextFormed w bs × (utf8 bs ≡ true)
  Formed (array w vs) = Fits w (pos (value_count vs)) × ValuesFormed vs
  Formed (object w ps) = Fits w (pos (pair_count ps)) × PairsFormed ps
  Formed (template w ks u rs) = Fits w (pos (length ks)) × KeysFormed ks × Fits u (pos (row_count rs)) × RowsFormed rs (length ks)

  pub ValuesFormed : Values → Type 0
  ValuesFormed no_values = Unit {0}
  ValuesFormed (value v vs) = Formed v × ValuesFormed vs

  pub PairsFormed : Pairs → Type 0
  PairsFormed no_pairs = Unit {0}
  PairsFormed (pair k v ps) = KeyFormed k × Formed v × PairsFormed ps

  pub RowsFormed : Rows → ℕ → Type 0
  RowsFormed no_rows columns = Unit {0}
  RowsFormed (row cs rs) columns = (cell_count cs ≡ columns) × CellsFormed cs × RowsFormed rs columns

  pub CellsFormed : Cells → Type 0
  CellsFormed no_cells = Unit {0}
  CellsFormed (gap cs) = CellsFormed cs
  CellsFormed (cell v cs) = Formed v × CellsFormed cs
