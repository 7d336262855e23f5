-- What key room holds.
use Rattle.std.specs.Prelude.{◌≡◌, ℕ, ◌+◌, ◌≤◌, List, [], ◌∷◌, length, take}
use Rattle.room.specs.Open.{Column}
use Rattle.room.specs.declared.slot.Slot.{Slot}
use Rattle.room.specs.declared.slot.Slot.TheVariants.{Lent, Held}
use Rattle.room.specs.Slots.{column_in}
use Rattle.room.specs.declared.keys.KeyRoom.TheInside.{Inside}

abbrev pub columns_in : List ℕ → List Slot → List Column
columns_in bytes [] = []
columns_in bytes (k ∷ ks) = column_in bytes k ∷ columns_in bytes ks

abbrev pub columns_of : Inside → List Column
columns_of r = columns_in r.bytes (take r.count r.slots)

-- the copied keys lie one behind the other, from this index to that
abbrev pub Packed : ℕ → List Slot → ℕ → Type 0
Packed i [] j = i ≡ j
Packed i (Lent p n ∷ ks) j = Packed i ks j
Packed i (Held h n ∷ ks) j = (h ≡ i) × Packed (i + n) ks j

pub record Kept (r : Inside) : Type 0 where
  pub all : length r.slots ≡ 256
  pub few : r.count ≤ 256
  pub short : r.used ≤ 4096
  pub packed : Packed 0 (take r.count r.slots) r.used
