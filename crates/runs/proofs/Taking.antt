-- One event as a relation: what is open, the bytes that it is read from, the event, and what is open then.
use Rattle.std.proofs.Common.{◌≡◌, ℕ, zero, suc, ◌+◌, Bool, true, false, ◌⊎◌, List, [], ◌∷◌, ◌++◌, length, take, drop, ℤ, pos, Some, None, Option, refl, arith}
use Rattle.format.specs.declared.width.Width.{Width}
use Rattle.values.specs.Values.{Value, null, yes_value, no_value, integer, real, bytes, text, Key, Event, array_begin, array_end, map_begin, map_end, key, an_integer, a_real, some_bytes, some_text, is_true, is_false, is_null, absent, encoding, count_encoding, key_encoding, keys_encoding, Formed, Fits, KeyFormed, KeysFormed}
use Rattle.values.specs.Limits.{Limits, LevelFree, RoomForKeys, RoomForKeyBytes, RowsKeyed, key_bytes}
use Rattle.room.specs.Open.{Column, lent, copied, Open, start, items, pairs, field, rows, row, cell, filled, depth, keys_held, bytes_held}
use Rattle.bunser.specs.declared.text.TextKind.{TextKind}
use Rattle.bunser.specs.declared.text.TextKind.TheVariants as kind
use Rattle.bunser.specs.declared.text.Unread.{Unread}

-- ---- what is open, with the names of the columns

abbrev pub Level : Type 0
Level = Open (List ℕ)

-- the name of a column, where this is the whole input
abbrev pub named : List ℕ → Column → List ℕ
named input (lent p n) = take n (drop p input)
named input (copied bs) = bs

abbrev pub all_named : List ℕ → List Column → List (List ℕ)
all_named input [] = []
all_named input (k ∷ ks) = named input k ∷ all_named input ks

abbrev pub level : List ℕ → Open Column → Level
level input start = start
level input (items n) = items n
level input (pairs n) = pairs n
level input (field n) = field n
level input (rows ks n) = rows (all_named input ks) n
level input (row l ks n) = row (all_named input l) (all_named input ks) n
level input (cell l ks n) = cell (all_named input l) (all_named input ks) n

abbrev pub levels : List ℕ → List (Open Column) → List Level
levels input [] = []
levels input (o ∷ s) = level input o ∷ levels input s

-- a reader that lends has its columns in the input, one that copies has copied them
abbrev pub Lies : Bool → Column → Type 0
Lies true (lent p n) = Unit {0}
Lies true (copied bs) = ⊥
Lies false (lent p n) = ⊥
Lies false (copied bs) = Unit {0}

abbrev pub AllLie : Bool → List Column → Type 0
AllLie lends [] = Unit {0}
AllLie lends (k ∷ ks) = Lies lends k × AllLie lends ks

abbrev pub Fit : Bool → List (Open Column) → Type 0
Fit lends [] = Unit {0}
Fit lends (start ∷ s) = Fit lends s
Fit lends (items n ∷ s) = Fit lends s
Fit lends (pairs n ∷ s) = Fit lends s
Fit lends (field n ∷ s) = Fit lends s
Fit lends (rows ks n ∷ s) = AllLie lends ks × Fit lends s
Fit lends (row l ks n ∷ s) = AllLie lends l × AllLie lends ks × Fit lends s
Fit lends (cell l ks n ∷ s) = AllLie lends l × AllLie lends ks × Fit lends s

abbrev pub names_long : List (List ℕ) → ℕ
names_long [] = 0
names_long (k ∷ ks) = length k + names_long ks

-- ---- one event

-- a value may come next
abbrev pub Wants : List Level → Type 0
Wants [] = ⊥
Wants (start ∷ s) = Unit {0}
Wants (items zero ∷ s) = ⊥
Wants (items (suc n) ∷ s) = Unit {0}
Wants (pairs n ∷ s) = ⊥
Wants (field n ∷ s) = Unit {0}
Wants (rows ks n ∷ s) = ⊥
Wants (row l ks n ∷ s) = ⊥
Wants (cell l ks n ∷ s) = Unit {0}

-- a value that is one event
pub data Plain : Value → Event → Type 0 where
  null_is : Plain null is_null
  true_is : Plain yes_value is_true
  false_is : Plain no_value is_false
  integer_is : (w : Width) (z : ℤ) → Plain (integer w z) (an_integer w z)
  real_is : (n : ℕ) → Plain (real n) (a_real n)
  bytes_are : (w : Width) (bs : List ℕ) → Plain (bytes w bs) (some_bytes bs)
  text_is : (w : Width) (bs : List ℕ) → Plain (text w bs) (some_text bs)

abbrev pub key_names : List Key → List (List ℕ)
key_names [] = []
key_names (k ∷ ks) = k.name ∷ key_names ks

abbrev pub template_front : Width → List Key → Width → ℕ → List ℕ
template_front w ks u n = 0x0b ∷ 0x00 ∷ (count_encoding w (length ks) ++ (keys_encoding ks ++ count_encoding u n))

pub record TemplateWithin (L : Limits) (s : List Level) (ks : List Key) (n : ℕ) : Type 0 where
  pub own_level : LevelFree L (depth s)
  pub list_level : LevelFree L (suc (depth s))
  pub few_keys : RoomForKeys L (keys_held s + length ks)
  pub few_bytes : RoomForKeyBytes L (bytes_held names_long s + key_bytes ks)
  pub keyed : RowsKeyed L n (length ks)

pub data Takes (L : Limits) : List Level → List ℕ → Event → List Level → Type 0 where
  plain_comes : {s : List Level} {v : Value} {e : Event} → Wants s → Plain v e → Formed v → Takes L s (encoding v) e (filled s)
  array_comes : {s : List Level} → Wants s → (w : Width) (n : ℕ) → Fits w (pos n) → LevelFree L (depth s) → Takes L s (0x00 ∷ count_encoding w n) array_begin (items n ∷ filled s)
  array_ends : {s : List Level} → Takes L (items zero ∷ s) [] array_end s
  object_comes : {s : List Level} → Wants s → (w : Width) (n : ℕ) → Fits w (pos n) → LevelFree L (depth s) → Takes L s (0x01 ∷ count_encoding w n) map_begin (pairs n ∷ filled s)
  key_comes : {n : ℕ} {s : List Level} (k : Key) → KeyFormed k → Takes L (pairs (suc n) ∷ s) (key_encoding k) (key k.name) (field n ∷ s)
  object_ends : {s : List Level} → Takes L (pairs zero ∷ s) [] map_end s
  template_comes : {s : List Level} → Wants s → (w : Width) (ks : List Key) (u : Width) (n : ℕ) → Fits w (pos (length ks)) → KeysFormed ks → Fits u (pos n) → TemplateWithin L s ks n →
      Takes L s (template_front w ks u n) array_begin (rows (key_names ks) n ∷ filled s)
  row_begins : {ks : List (List ℕ)} {n : ℕ} {s : List Level} → Takes L (rows ks (suc n) ∷ s) [] map_begin (row ks ks n ∷ s)
  column_comes : {k : List ℕ} {l ks : List (List ℕ)} {n : ℕ} {s : List Level} → Takes L (row (k ∷ l) ks n ∷ s) [] (key k) (cell l ks n ∷ s)
  gap_comes : {l ks : List (List ℕ)} {n : ℕ} {s : List Level} → Takes L (cell l ks n ∷ s) (0x0c ∷ []) absent (row l ks n ∷ s)
  row_ends : {ks : List (List ℕ)} {n : ℕ} {s : List Level} → Takes L (row [] ks n ∷ s) [] map_end (rows ks n ∷ s)
  template_ends : {ks : List (List ℕ)} {s : List Level} → Takes L (rows ks zero ∷ s) [] array_end s

-- ---- a text whose tag and length were taken

abbrev pub Tagged : TextKind → ℕ → Type 0
Tagged kind.Bytes t = t ≡ 0x02
Tagged kind.Text t = t ≡ 0x0d
Tagged kind.Key t = (t ≡ 0x02) ⊎ (t ≡ 0x0d)

-- the bytes that were taken of it
pub data Front : Option Unread → List ℕ → Type 0 where
  none_taken : Front None []
  head_taken : {k : TextKind} {n : ℕ} (t : ℕ) (w : Width) → Tagged k t → Fits w (pos n) → Front (Some (record { kind = k; len = n })) (t ∷ count_encoding w n)

-- where no text is awaited, nothing was taken
pub none_ahead : {u : Option Unread} {front : List ℕ} → Front u front → u ≡ None → front ≡ []
none_ahead none_taken e = refl
none_ahead (head_taken t w g f) e = let z : ◌≡◌ {A = ℕ} 0 1 = cc in absurd (omega arith)

abbrev pub KeyWanted : List Level → Type 0
KeyWanted [] = ⊥
KeyWanted (start ∷ s) = ⊥
KeyWanted (items n ∷ s) = ⊥
KeyWanted (pairs zero ∷ s) = ⊥
KeyWanted (pairs (suc n) ∷ s) = Unit {0}
KeyWanted (field n ∷ s) = ⊥
KeyWanted (rows ks n ∷ s) = ⊥
KeyWanted (row l ks n ∷ s) = ⊥
KeyWanted (cell l ks n ∷ s) = ⊥

-- it may come here
abbrev pub TextWanted : TextKind → List Level → Type 0
TextWanted kind.Bytes s = Wants s
TextWanted kind.Text s = Wants s
TextWanted kind.Key s = KeyWanted s

abbrev pub Waits : Option Unread → List Level → Type 0
Waits None s = Unit {0}
Waits (Some u) s = TextWanted u.kind s
