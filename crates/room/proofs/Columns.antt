-- The columns that come behind one, where the columns of a template are there.
use Rattle.std.proofs.Common.{◌≡◌, ℕ, ◌+◌, ◌<◌, ◌≤◌, Bool, true, false, cond, ltb, List, [], ◌∷◌, length, get_or, drop, Some, None, refl, ap, sym, ◌∙◌, arith, length-take, drop_of_length-le}
use lib.ListN.{length-drop}
use Rattle.std.proofs.lemmas.Bool.{ltb-true, ltb-false}
use Rattle.std.proofs.lemmas.List.{drop_more, get_or-take, get_or-drop}
use Rattle.room.specs.Open.{Column, copied, Open, row, cell, due, column, row_turned}
use Rattle.room.specs.declared.due.Due.TheVariants.{RowKey}
use Rattle.room.specs.declared.frame.Table.{Table}
use Rattle.room.specs.declared.frame.Frame.{Frame}
use Rattle.room.specs.declared.frame.Frame.TheVariants as frame
use Rattle.room.specs.Frames.{columns, over, Fits, column_at}

module _ (held : List Column) (t : Table) (i n : ℕ) (s : List (Open Column)) (fits : t.first + t.len ≤ length held) (more : i < t.len) where
  columns_long : length (columns held t) ≡ t.len
  columns_long = rw (length-take, length-drop) (omega arith)

  next_column : drop i (columns held t) ≡ get_or (columns held t) i (copied []) ∷ drop (i + 1) (columns held t)
  next_column = drop_more (columns held t) i (copied []) (let l = columns_long in omega arith)

  pub key_due : RowKey ≡ due (row (drop i (columns held t)) (columns held t) n ∷ s)
  key_due = ap (λ l. due (row l (columns held t) n ∷ s)) (sym next_column)

  pub key_turned : row_turned (row (drop i (columns held t)) (columns held t) n ∷ s) ≡ cell (drop (i + 1) (columns held t)) (columns held t) n ∷ s
  key_turned = ap (λ l. row_turned (row l (columns held t) n ∷ s)) next_column

  pub column_is : column (row (drop i (columns held t)) (columns held t) n ∷ s) ≡ get_or (columns held t) i (copied [])
  column_is = ap (λ l. column (row l (columns held t) n ∷ s)) next_column

-- ---- the column that comes next

front_of : (held : List Column) (i : ℕ) (x : Column) (rest : List Column) → drop i held ≡ x ∷ rest → get_or held i (copied []) ≡ x
front_of held i x rest e = let z : i + 0 ≡ i = omega arith in sym (ap (λ k. get_or held k (copied [])) z) ∙ sym (get_or-drop i held 0 (copied [])) ∙ ap (λ l. get_or l 0 (copied [])) e

module _ (held : List Column) (s : List (Open Column)) where
  pub found_column : (f : Frame) (i : ℕ) (x : Column) (rest : List Column) → Fits held f → Some i ≡ column_at f → drop i held ≡ x ∷ rest → x ≡ column (over held f s)
  found_column frame.Done i x rest fits is e = absurd (cc)
  found_column frame.Start i x rest fits is e = absurd (cc)
  found_column (frame.Items n) i x rest fits is e = absurd (cc)
  found_column (frame.Pairs n) i x rest fits is e = absurd (cc)
  found_column (frame.Field n) i x rest fits is e = absurd (cc)
  found_column (frame.Rows t n) i x rest fits is e = absurd (cc)
  found_column (frame.Cell t n j) i x rest fits is e = absurd (cc)
  found_column (frame.Row t n j) i x rest fits is e = go (ltb j t.len) refl is
    where
      go : (b : Bool) → ltb j t.len ≡ b → Some i ≡ cond b (Some (t.first + j)) None → x ≡ column (over held (frame.Row t n j) s)
      go false q is = absurd (cc)
      go true q is =
          let more = ltb-true j t.len q in
          let at : i ≡ t.first + j = cc in
          sym (column_is held t j n s fits more ∙ get_or-take t.len (drop t.first held) j (copied []) more ∙ get_or-drop t.first held j (copied []) ∙ ap (λ k. get_or held k (copied [])) (sym at) ∙ front_of held i x rest e)

  pub no_column : (f : Frame) → Fits held f → None ≡ column_at f → copied [] ≡ column (over held f s)
  no_column frame.Done fits is = refl
  no_column frame.Start fits is = refl
  no_column (frame.Items n) fits is = refl
  no_column (frame.Pairs n) fits is = refl
  no_column (frame.Field n) fits is = refl
  no_column (frame.Rows t n) fits is = refl
  no_column (frame.Cell t n j) fits is = refl
  no_column (frame.Row t n j) fits is = go (ltb j t.len) refl is
    where
      go : (b : Bool) → ltb j t.len ≡ b → None ≡ cond b (Some (t.first + j)) None → copied [] ≡ column (over held (frame.Row t n j) s)
      go true q is = absurd (cc)
      go false q is =
          let long = ltb-false j t.len q in
          let all : length (columns held t) ≤ j = rw (length-take, length-drop) (omega arith) in
          sym (ap (λ l. column (row l (columns held t) n ∷ s)) (drop_of_length-le (columns held t) all))
