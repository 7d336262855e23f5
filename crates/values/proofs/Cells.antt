-- Each cell of a row gives its events behind the key of its own column.
use Rattle.std.proofs.Common.{◌≡◌, zero, suc, List, [], ◌∷◌, ◌++◌, take, drop, Some, None, refl, sym, ap, ◌∙◌, arith, append_assoc}
use Rattle.values.specs.Values.{Key, Cells, no_cells, gap, cell, key, absent, events, cells_events}
use Rattle.values.specs.Columns.{held, gives, columns_give, EachUnderItsKey}

row_gives : (cs : Cells) (ks : List Key) → cells_events cs ks ≡ columns_give ks (held cs)
row_gives no_cells [] = refl
row_gives no_cells (k ∷ ks) = refl
row_gives (gap cs) [] = refl
row_gives (gap cs) (k ∷ ks) = ap (λ l. key k.name ∷ absent ∷ l) (row_gives cs ks)
row_gives (cell v cs) [] = refl
row_gives (cell v cs) (k ∷ ks) = ap (λ l. key k.name ∷ (events v ++ l)) (row_gives cs ks)

pub each_under_its_key : EachUnderItsKey
each_under_its_key no_cells ks i same lt = absurd (omega arith)
each_under_its_key (gap cs) [] i same lt = absurd (omega arith)
each_under_its_key (cell v cs) [] i same lt = absurd (omega arith)
each_under_its_key (gap cs) (k ∷ ks) zero same lt = record { name = k; value = None; names = refl; values = refl; order = row_gives (gap cs) (k ∷ ks) }
each_under_its_key (cell v cs) (k ∷ ks) zero same lt = record { name = k; value = Some v; names = refl; values = refl; order = row_gives (cell v cs) (k ∷ ks) }
each_under_its_key (gap cs) (k ∷ ks) (suc i) same lt =
    let at = each_under_its_key cs ks i (omega arith) (omega arith) in
    record { name = at.name; value = at.value; names = at.names; values = at.values; order = ap (λ l. key k.name ∷ absent ∷ l) at.order }
each_under_its_key (cell v cs) (k ∷ ks) (suc i) same lt =
    let at = each_under_its_key cs ks i (omega arith) (omega arith) in
    record {
      name = at.name;
      value = at.value;
      names = at.names;
      values = at.values;
      order = ap (λ l. key k.name ∷ (events v ++ l)) at.order ∙ ap (λ l. key k.name ∷ l) (sym (append_assoc (events v) (columns_give (take i ks) (take i (held cs))) (key at.name.name ∷ (gives at.value ++ columns_give (drop (suc i) ks) (drop (suc i) (held cs))))));
    }
