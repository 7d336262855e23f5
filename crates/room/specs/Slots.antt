-- Where a key lies in key room.
use Rattle.std.specs.Prelude.{◌≡◌, ℕ, ◌+◌, ◌≤◌, List, take, drop, Ok, Err, Result}
use Rattle.read.specs.Reader.{View}
use Rattle.format.specs.declared.refusal.Refusal.{Refusal}
use Rattle.bunser.specs.Outcome.{Outcome, got, bad, RefusalLeaves}
use Rattle.room.specs.Open.{Column, lent, copied}
use Rattle.room.specs.declared.slot.Slot.{Slot}
use Rattle.room.specs.declared.slot.Slot.TheVariants.{Lent, Held}

abbrev pub column_in : List ℕ → Slot → Column
column_in bytes (Lent p n) = lent p n
column_in bytes (Held i n) = copied (take n (drop i bytes))

abbrev pub begin_of : Slot → ℕ → ℕ
begin_of (Lent p n) used = used
begin_of (Held i n) used = i

abbrev pub end_of : Slot → ℕ → ℕ
end_of (Lent p n) used = used
end_of (Held i n) used = i + n

-- a slot for this column, whose bytes begin where so many are used
pub record Slotted (k : Column) (used : ℕ) (bytes : List ℕ) (s : Slot) : Type 0 where
  pub column : column_in bytes s ≡ k
  pub begins : begin_of s used ≡ used
  pub fits : end_of s used ≤ 4096

-- the bytes that are used stay
abbrev pub SlotTold : Outcome Refusal Column → ℕ → List ℕ → Result Slot Refusal → List ℕ → View → Type 0
SlotTold (got k v) used old r new w = (take used new ≡ take used old) × (w ≡ v) × (s : Slot) × (r ≡ Ok s) × Slotted k used new s
SlotTold (bad f v) used old r new w = (take used new ≡ take used old) × RefusalLeaves f v w × (r ≡ Err f)
