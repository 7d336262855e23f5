-- From values to what may come: where a value may begin, any value may come.
use Rattle.std.proofs.Common.{◌≡◌, ℕ, zero, suc, ◌+◌, List, [], ◌∷◌, ◌++◌, length, refl, ap, sym, subst₂, append_assoc, append-nil, arith}
use Rattle.values.specs.Values.{Value, null, yes_value, no_value, integer, real, bytes, text, array, object, template, Values, no_values, value, Pairs, no_pairs, pair, Rows, no_rows, row as a_row, Cells, no_cells, gap, cell as a_cell, Key}
use Rattle.values.specs.Values.{value_count, pair_count, row_count, cell_count, encoding, values_encoding, pairs_encoding, rows_encoding, cells_encoding, keys_encoding, text_encoding, count_encoding, Event, array_end, map_end, events, values_events, pairs_events, rows_events, cells_events, Formed, ValuesFormed, PairsFormed, RowsFormed, CellsFormed}
use Rattle.values.specs.Limits.{Limits, none, Within, ValuesWithin, PairsWithin, RowsWithin, CellsWithin, key_bytes}
use Rattle.room.specs.Open.{start, items, pairs, rows, row, filled, depth, keys_held, bytes_held}
use Rattle.runs.proofs.Taking.{Level, names_long, Wants, null_is, true_is, false_is, integer_is, real_is, bytes_are, text_is, key_names, plain_comes, array_comes, array_ends, object_comes, key_comes, object_ends, template_comes, row_begins, column_comes, gap_comes, row_ends, template_ends}
use Rattle.runs.proofs.Coming.{Completes, at_end, goes}

-- ---- every value is within no limits

mutual
  pub unlimited : (v : Value) (depth keys held : ℕ) → Within v none depth keys held
  unlimited null d k h = tt
  unlimited yes_value d k h = tt
  unlimited no_value d k h = tt
  unlimited (integer w z) d k h = tt
  unlimited (real n) d k h = tt
  unlimited (bytes w bs) d k h = tt
  unlimited (text w bs) d k h = tt
  unlimited (array w vs) d k h = (tt, unlimited_values vs (suc d) k h)
  unlimited (object w ps) d k h = (tt, unlimited_pairs ps (suc d) k h)
  unlimited (template w ks u rs) d k h = (tt, tt, tt, tt, tt, unlimited_rows rs (suc d) (k + length ks) (h + key_bytes ks))

  unlimited_values : (vs : Values) (depth keys held : ℕ) → ValuesWithin vs none depth keys held
  unlimited_values no_values d k h = tt
  unlimited_values (value v vs) d k h = (unlimited v d k h, unlimited_values vs d k h)

  unlimited_pairs : (ps : Pairs) (depth keys held : ℕ) → PairsWithin ps none depth keys held
  unlimited_pairs no_pairs d k h = tt
  unlimited_pairs (pair q v ps) d k h = (unlimited v d k h, unlimited_pairs ps d k h)

  unlimited_rows : (rs : Rows) (depth keys held : ℕ) → RowsWithin rs none depth keys held
  unlimited_rows no_rows d k h = tt
  unlimited_rows (a_row cs rs) d k h = (unlimited_cells cs d k h, unlimited_rows rs d k h)

  unlimited_cells : (cs : Cells) (depth keys held : ℕ) → CellsWithin cs none depth keys held
  unlimited_cells no_cells d k h = tt
  unlimited_cells (gap cs) d k h = unlimited_cells cs d k h
  unlimited_cells (a_cell v cs) d k h = (unlimited v d k h, unlimited_cells cs d k h)

-- ---- what the levels hold

-- a place that is filled holds what it held
as_filled : (P : ℕ → ℕ → ℕ → Type 0) (s : List Level) → P (depth s) (keys_held s) (bytes_held names_long s) → P (depth (filled s)) (keys_held (filled s)) (bytes_held names_long (filled s))
as_filled P [] h = h
as_filled P (items zero ∷ s) h = h
as_filled P (o ∷ s) h = h

pub names_count : (ks : List Key) → length (key_names ks) ≡ length ks
names_count [] = refl
names_count (k ∷ ks) = ap suc (names_count ks)

pub names_are_long : (ks : List Key) → names_long (key_names ks) ≡ key_bytes ks
names_are_long [] = refl
names_are_long (k ∷ ks) = ap (λ n. length k.name + n) (names_are_long ks)

-- ---- values come

-- the front of a template, its rows, and what follows
pub front_apart : (count names size cells rest : List ℕ) → (count ++ (names ++ (size ++ cells))) ++ rest ≡ (count ++ (names ++ size)) ++ (cells ++ rest)
front_apart count names size cells rest = simp append_assoc

module _ {L : Limits} where
  mutual
    value_comes : {s : List Level} {b : List ℕ} {x : List Event} (v : Value) → Wants s → Formed v → Within v L (depth s) (keys_held s) (bytes_held names_long s) →
        Completes L (filled s) b x → Completes L s (encoding v ++ b) (events v ++ x)
    value_comes null w h i c = goes (plain_comes w null_is tt) c
    value_comes yes_value w h i c = goes (plain_comes w true_is tt) c
    value_comes no_value w h i c = goes (plain_comes w false_is tt) c
    value_comes (integer u z) w h i c = goes (plain_comes w (integer_is u z) h) c
    value_comes (real n) w h i c = goes (plain_comes w (real_is n) h) c
    value_comes (bytes u bs) w h i c = goes (plain_comes w (bytes_are u bs) h) c
    value_comes (text u bs) w h i c = goes (plain_comes w (text_is u bs) h) c
    value_comes {s} {b} {x} (array u vs) w h i c =
        rw (append_assoc (count_encoding u (value_count vs)) (values_encoding vs) b, append_assoc (values_events vs) (array_end ∷ []) x)
        (goes (array_comes w u (value_count vs) h.0 i.0) (values_come vs h.1 (as_filled (λ d k m. ValuesWithin vs L (suc d) k m) s i.1) c))
    value_comes {s} {b} {x} (object u ps) w h i c =
        rw (append_assoc (count_encoding u (pair_count ps)) (pairs_encoding ps) b, append_assoc (pairs_events ps) (map_end ∷ []) x)
        (goes (object_comes w u (pair_count ps) h.0 i.0) (pairs_come ps h.1 (as_filled (λ d k m. PairsWithin ps L (suc d) k m) s i.1) c))
    value_comes {s} {b} {x} (template u ks y rs) w h i c =
        rw (front_apart (count_encoding u (length ks)) (keys_encoding ks) (count_encoding y (row_count rs)) (rows_encoding rs) b, append_assoc (rows_events rs ks) (array_end ∷ []) x)
        (goes (template_comes w u ks y (row_count rs) h.0 h.1 h.2 (record { own_level = i.0; list_level = i.1; few_keys = i.2; few_bytes = i.3; keyed = i.4 }))
        (rows_come rs ks h.3 (subst₂ (λ n m. RowsWithin rs L (suc (depth (filled s))) (keys_held (filled s) + n) (bytes_held names_long (filled s) + m)) (sym (names_count ks)) (sym (names_are_long ks))
        (as_filled (λ d k m. RowsWithin rs L (suc d) (k + length ks) (m + key_bytes ks)) s i.5)) c))

    values_come : {s : List Level} {b : List ℕ} {x : List Event} (vs : Values) → ValuesFormed vs → ValuesWithin vs L (suc (depth s)) (keys_held s) (bytes_held names_long s) →
        Completes L s b x → Completes L (items (value_count vs) ∷ s) (values_encoding vs ++ b) (values_events vs ++ (array_end ∷ x))
    values_come no_values h i c = goes array_ends c
    values_come {b = b} {x = x} (value v vs) h i c =
        rw (append_assoc (encoding v) (values_encoding vs) b, append_assoc (events v) (values_events vs) (array_end ∷ x))
        (value_comes v tt h.0 i.0 (values_come vs h.1 i.1 c))

    pairs_come : {s : List Level} {b : List ℕ} {x : List Event} (ps : Pairs) → PairsFormed ps → PairsWithin ps L (suc (depth s)) (keys_held s) (bytes_held names_long s) →
        Completes L s b x → Completes L (pairs (pair_count ps) ∷ s) (pairs_encoding ps ++ b) (pairs_events ps ++ (map_end ∷ x))
    pairs_come no_pairs h i c = goes object_ends c
    pairs_come {b = b} {x = x} (pair k v ps) h i c =
        rw (append_assoc (text_encoding k.width k.name) (encoding v ++ pairs_encoding ps) b, append_assoc (encoding v) (pairs_encoding ps) b, append_assoc (events v) (pairs_events ps) (map_end ∷ x))
        (goes (key_comes k h.0) (value_comes v tt h.1 i.0 (pairs_come ps h.2 i.1 c)))

    rows_come : {s : List Level} {b : List ℕ} {x : List Event} (rs : Rows) (ks : List Key) → RowsFormed rs (length ks) →
        RowsWithin rs L (suc (depth s)) (keys_held s + length (key_names ks)) (bytes_held names_long s + names_long (key_names ks)) →
        Completes L s b x → Completes L (rows (key_names ks) (row_count rs) ∷ s) (rows_encoding rs ++ b) (rows_events rs ks ++ (array_end ∷ x))
    rows_come no_rows ks h i c = goes template_ends c
    rows_come {b = b} {x = x} (a_row cs rs) ks h i c =
        rw (append_assoc (cells_encoding cs) (rows_encoding rs) b, append_assoc (cells_events cs ks) (map_end ∷ rows_events rs ks) (array_end ∷ x))
        (goes row_begins (cells_come cs ks (key_names ks) h.0 h.1 i.0 (rows_come rs ks h.2 i.1 c)))

    cells_come : {n : ℕ} {s : List Level} {b : List ℕ} {x : List Event} (cs : Cells) (l : List Key) (ks : List (List ℕ)) → cell_count cs ≡ length l → CellsFormed cs →
        CellsWithin cs L (suc (depth s)) (keys_held s + length ks) (bytes_held names_long s + names_long ks) →
        Completes L (rows ks n ∷ s) b x → Completes L (row (key_names l) ks n ∷ s) (cells_encoding cs ++ b) (cells_events cs l ++ (map_end ∷ x))
    cells_come no_cells [] ks e h i c = goes row_ends c
    cells_come no_cells (k ∷ l) ks e h i c = absurd (omega arith)
    cells_come (gap cs) [] ks e h i c = absurd (omega arith)
    cells_come (gap cs) (k ∷ l) ks e h i c = goes column_comes (goes gap_comes (cells_come cs l ks (omega arith) h i c))
    cells_come (a_cell v cs) [] ks e h i c = absurd (omega arith)
    cells_come {b = b} {x = x} (a_cell v cs) (k ∷ l) ks e h i c =
        rw (append_assoc (encoding v) (cells_encoding cs) b, append_assoc (events v) (cells_events cs l) (map_end ∷ x))
        (goes column_comes (value_comes v tt h.0 i.0 (cells_come cs l ks (omega arith) h.1 i.1 c)))

-- a body may be the encoding of any value
pub begins_with : {L : Limits} (v : Value) → Formed v → Within v L 0 0 0 → Completes L (start ∷ []) (encoding v) (events v)
begins_with {L} v h i = subst₂ (λ b x. Completes L (start ∷ []) b x) (append-nil (encoding v)) (append-nil (events v)) (value_comes v tt h i at_end)
