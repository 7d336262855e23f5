-- Each cell of a row gives its events behind the key of its own column, a gap too.
use Rattle.std.specs.Prelude.{◌≡◌, ℕ, suc, ◌<◌, List, [], ◌∷◌, ◌++◌, length, take, drop, Some, None, Option}
use Rattle.values.specs.Values.{Key, Value, Cells, no_cells, gap, cell, cell_count, Event, key, absent, events, cells_events}

-- a cell holds a value, or none where there is a gap
abbrev pub held : Cells → List (Option Value)
held no_cells = []
held (gap cs) = None ∷ held cs
held (cell v cs) = Some v ∷ held cs

abbrev pub gives : Option Value → List Event
gives None = absent ∷ []
gives (Some v) = events v

-- so many columns, one behind the other
abbrev pub columns_give : List Key → List (Option Value) → List Event
columns_give [] cs = []
columns_give (k ∷ ks) [] = []
columns_give (k ∷ ks) (c ∷ cs) = key k.name ∷ (gives c ++ columns_give ks cs)

-- what a row gives at a column: behind the columns before it, its key, and then what its cell gives
pub record AtColumn (cs : Cells) (ks : List Key) (i : ℕ) : Type 0 where
  pub name : Key
  pub value : Option Value
  pub names : drop i ks ≡ name ∷ drop (suc i) ks
  pub values : drop i (held cs) ≡ value ∷ drop (suc i) (held cs)
  pub order : cells_events cs ks ≡ columns_give (take i ks) (take i (held cs)) ++ (key name.name ∷ (gives value ++ columns_give (drop (suc i) ks) (drop (suc i) (held cs))))

abbrev pub EachUnderItsKey : Type 0
EachUnderItsKey = (cs : Cells) (ks : List Key) (i : ℕ) → cell_count cs ≡ length ks → i < length ks → AtColumn cs ks i
