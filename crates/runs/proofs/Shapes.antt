-- What comes, by what is open innermost: an item where a value or a gap may stand, a key, or an event without bytes.
use Rattle.std.proofs.Common.{◌≡◌, ℕ, zero, suc, ◌<◌, ◌^◌, Bool, true, false, List, [], ◌∷◌, length, ℤ, pos, refl}
use Rattle.format.specs.declared.width.Width.{Width}
use Rattle.utf8.specs.Utf8.{utf8}
use Rattle.values.specs.Values.{Value, encoding, Formed, Key, Event, array_begin, array_end, map_begin, map_end, key, an_integer, a_real, some_bytes, some_text, is_true, is_false, is_null, absent, digits, int_encoding, count_encoding, text_encoding, key_encoding, Fits, TextFormed, KeyFormed, KeysFormed}
use Rattle.values.specs.Limits.{Limits, LevelFree}
use Rattle.room.specs.Open.{start, items, pairs, field, rows, row, cell, filled, depth}
use Rattle.runs.proofs.Taking.{Level, Wants, Plain, null_is, true_is, false_is, integer_is, real_is, bytes_are, text_is, key_names, template_front, TemplateWithin, Takes, plain_comes, array_comes, array_ends, object_comes, key_comes, object_ends, template_comes, row_begins, column_comes, gap_comes, row_ends, template_ends}

-- ---- what comes where a value or a gap may

pub data Item : Type 0 where
  null_item yes_item no_item gap_item : Item
  integer_item : Width → ℤ → Item
  real_item : ℕ → Item
  bytes_item text_item : Width → List ℕ → Item
  array_item object_item : Width → ℕ → Item
  template_item : Width → List Key → Width → ℕ → Item

abbrev pub item_bytes : Item → List ℕ
item_bytes null_item = 0x0a ∷ []
item_bytes yes_item = 0x08 ∷ []
item_bytes no_item = 0x09 ∷ []
item_bytes gap_item = 0x0c ∷ []
item_bytes (integer_item w z) = int_encoding w z
item_bytes (real_item n) = 0x07 ∷ digits 8 n
item_bytes (bytes_item w bs) = 0x02 ∷ text_encoding w bs
item_bytes (text_item w bs) = 0x0d ∷ text_encoding w bs
item_bytes (array_item w n) = 0x00 ∷ count_encoding w n
item_bytes (object_item w n) = 0x01 ∷ count_encoding w n
item_bytes (template_item w ks u n) = template_front w ks u n

abbrev pub item_event : Item → Event
item_event null_item = is_null
item_event yes_item = is_true
item_event no_item = is_false
item_event gap_item = absent
item_event (integer_item w z) = an_integer w z
item_event (real_item n) = a_real n
item_event (bytes_item w bs) = some_bytes bs
item_event (text_item w bs) = some_text bs
item_event (array_item w n) = array_begin
item_event (object_item w n) = map_begin
item_event (template_item w ks u n) = array_begin

abbrev pub within_item : Item → List Level → List Level
within_item null_item s = s
within_item yes_item s = s
within_item no_item s = s
within_item gap_item s = s
within_item (integer_item w z) s = s
within_item (real_item n) s = s
within_item (bytes_item w bs) s = s
within_item (text_item w bs) s = s
within_item (array_item w n) s = items n ∷ s
within_item (object_item w n) s = pairs n ∷ s
within_item (template_item w ks u n) s = rows (key_names ks) n ∷ s

abbrev pub ItemFormed : Item → Type 0
ItemFormed null_item = Unit {0}
ItemFormed yes_item = Unit {0}
ItemFormed no_item = Unit {0}
ItemFormed gap_item = Unit {0}
ItemFormed (integer_item w z) = Fits w z
ItemFormed (real_item n) = n < 2 ^ 64
ItemFormed (bytes_item w bs) = TextFormed w bs
ItemFormed (text_item w bs) = TextFormed w bs × (utf8 bs ≡ true)
ItemFormed (array_item w n) = Fits w (pos n)
ItemFormed (object_item w n) = Fits w (pos n)
ItemFormed (template_item w ks u n) = Fits w (pos (length ks)) × KeysFormed ks × Fits u (pos n)

-- a gap stands only where a cell may, and what opens a level has it
abbrev pub ItemWithin : Limits → Bool → List Level → Item → Type 0
ItemWithin L may_gap s null_item = Unit {0}
ItemWithin L may_gap s yes_item = Unit {0}
ItemWithin L may_gap s no_item = Unit {0}
ItemWithin L may_gap s gap_item = may_gap ≡ true
ItemWithin L may_gap s (integer_item w z) = Unit {0}
ItemWithin L may_gap s (real_item n) = Unit {0}
ItemWithin L may_gap s (bytes_item w bs) = Unit {0}
ItemWithin L may_gap s (text_item w bs) = Unit {0}
ItemWithin L may_gap s (array_item w n) = LevelFree L (depth s)
ItemWithin L may_gap s (object_item w n) = LevelFree L (depth s)
ItemWithin L may_gap s (template_item w ks u n) = TemplateWithin L s ks n

-- ---- by what is innermost

pub record Comes (L : Limits) (may_gap : Bool) (s : List Level) (b : List ℕ) (e : Event) (t : List Level) : Type 0 where
  pub item : Item
  pub formed : ItemFormed item
  pub within : ItemWithin L may_gap s item
  pub bytes : b ≡ item_bytes item
  pub event : e ≡ item_event item
  pub after : t ≡ within_item item (filled s)

pub record Turns (b : List ℕ) (e f : Event) (t u : List Level) : Type 0 where
  pub bytes : b ≡ []
  pub event : e ≡ f
  pub after : t ≡ u

pub record KeyComes (n : ℕ) (s : List Level) (b : List ℕ) (e : Event) (t : List Level) : Type 0 where
  pub the_key : Key
  pub formed : KeyFormed the_key
  pub bytes : b ≡ key_encoding the_key
  pub event : e ≡ key the_key.name
  pub after : t ≡ field n ∷ s

abbrev pub Shape : Limits → List Level → List ℕ → Event → List Level → Type 0
Shape L [] b e t = ⊥
Shape L (start ∷ s) b e t = Comes L false (start ∷ s) b e t
Shape L (items zero ∷ s) b e t = Turns b e array_end t s
Shape L (items (suc n) ∷ s) b e t = Comes L false (items (suc n) ∷ s) b e t
Shape L (pairs zero ∷ s) b e t = Turns b e map_end t s
Shape L (pairs (suc n) ∷ s) b e t = KeyComes n s b e t
Shape L (field n ∷ s) b e t = Comes L false (field n ∷ s) b e t
Shape L (rows ks zero ∷ s) b e t = Turns b e array_end t s
Shape L (rows ks (suc n) ∷ s) b e t = Turns b e map_begin t (row ks ks n ∷ s)
Shape L (row [] ks n ∷ s) b e t = Turns b e map_end t (rows ks n ∷ s)
Shape L (row (k ∷ l) ks n ∷ s) b e t = Turns b e (key k) t (cell l ks n ∷ s)
Shape L (cell l ks n ∷ s) b e t = Comes L true (cell l ks n ∷ s) b e t

-- where a value is wanted, an item comes
pub record ItemWanted (L : Limits) (s : List Level) (b : List ℕ) (e : Event) (t : List Level) : Type 0 where
  pub may_gap : Bool
  to_shape : Comes L may_gap s b e t → Shape L s b e t
  pub to_item : Shape L s b e t → Comes L may_gap s b e t

pub item_wanted : (L : Limits) (s : List Level) {b : List ℕ} {e : Event} {t : List Level} → Wants s → ItemWanted L s b e t
item_wanted L [] w = absurd w
item_wanted L (start ∷ s) w = record { may_gap = false; to_shape = λ c. c; to_item = λ c. c }
item_wanted L (items zero ∷ s) w = absurd w
item_wanted L (items (suc n) ∷ s) w = record { may_gap = false; to_shape = λ c. c; to_item = λ c. c }
item_wanted L (pairs zero ∷ s) w = absurd w
item_wanted L (pairs (suc n) ∷ s) w = absurd w
item_wanted L (field n ∷ s) w = record { may_gap = false; to_shape = λ c. c; to_item = λ c. c }
item_wanted L (rows ks zero ∷ s) w = absurd w
item_wanted L (rows ks (suc n) ∷ s) w = absurd w
item_wanted L (row [] ks n ∷ s) w = absurd w
item_wanted L (row (k ∷ l) ks n ∷ s) w = absurd w
item_wanted L (cell l ks n ∷ s) w = record { may_gap = true; to_shape = λ c. c; to_item = λ c. c }

plain : {v : Value} {e : Event} (L : Limits) (may_gap : Bool) (s : List Level) → Plain v e → Formed v → Comes L may_gap s (encoding v) e (filled s)
plain L may_gap s null_is f = record { item = null_item; formed = tt; within = tt; bytes = refl; event = refl; after = refl }
plain L may_gap s true_is f = record { item = yes_item; formed = tt; within = tt; bytes = refl; event = refl; after = refl }
plain L may_gap s false_is f = record { item = no_item; formed = tt; within = tt; bytes = refl; event = refl; after = refl }
plain L may_gap s (integer_is w z) f = record { item = integer_item w z; formed = f; within = tt; bytes = refl; event = refl; after = refl }
plain L may_gap s (real_is n) f = record { item = real_item n; formed = f; within = tt; bytes = refl; event = refl; after = refl }
plain L may_gap s (bytes_are w bs) f = record { item = bytes_item w bs; formed = f; within = tt; bytes = refl; event = refl; after = refl }
plain L may_gap s (text_is w bs) f = record { item = text_item w bs; formed = f; within = tt; bytes = refl; event = refl; after = refl }

pub shaped : {L : Limits} {s t : List Level} {b : List ℕ} {e : Event} → Takes L s b e t → Shape L s b e t
shaped {L} (plain_comes {s = s} w p f) = let i = item_wanted L s w in i.to_shape (plain L i.may_gap s p f)
shaped {L} (array_comes {s = s} h w n f l) = (item_wanted L s h).to_shape (record { item = array_item w n; formed = f; within = l; bytes = refl; event = refl; after = refl })
shaped array_ends = record { bytes = refl; event = refl; after = refl }
shaped {L} (object_comes {s = s} h w n f l) = (item_wanted L s h).to_shape (record { item = object_item w n; formed = f; within = l; bytes = refl; event = refl; after = refl })
shaped (key_comes k f) = record { the_key = k; formed = f; bytes = refl; event = refl; after = refl }
shaped object_ends = record { bytes = refl; event = refl; after = refl }
shaped {L} (template_comes {s = s} h w ks u n f g i l) = (item_wanted L s h).to_shape (record { item = template_item w ks u n; formed = (f, g, i); within = l; bytes = refl; event = refl; after = refl })
shaped row_begins = record { bytes = refl; event = refl; after = refl }
shaped column_comes = record { bytes = refl; event = refl; after = refl }
shaped gap_comes = record { item = gap_item; formed = tt; within = refl; bytes = refl; event = refl; after = refl }
shaped row_ends = record { bytes = refl; event = refl; after = refl }
shaped template_ends = record { bytes = refl; event = refl; after = refl }
