-- A row that is passed over, cell by cell.
use Rattle.std.proofs.Common.{◌≡◌, ℕ, zero, suc, ◌+◌, ◌*◌, ◌<◌, ◌≤◌, Bool, true, false, List, [], ◌∷◌, length, drop, Some, None, Ok, Err, Result, refl, sym, ap, ap₂, ◌∙◌, subst, arith, drop_of_length-le}
use Rattle.std.proofs.lemmas.List.{drop_more}
use Rattle.format.specs.declared.refusal.Refusal.{Refusal}
use Rattle.read.specs.Reader.{View}
use Rattle.room.specs.Open.{Column, copied, Open, start, items, pairs, field, rows, row, cell, due, filled, row_turned, row_columns, within_row, past_row, nesting}
use Rattle.room.specs.declared.due.Due.{Due}
use Rattle.room.specs.declared.due.Due.TheVariants.{Cell, RowBegin, RowKey, RowEnd}
use Rattle.de.specs.declared.event.Ahead.TheVariants as ahead
use Rattle.de.specs.declared.event.Event.TheVariants.{MapBegin, MapEnd}
use Rattle.de.specs.Steps.{Body, behind, counted, unread_comes, due_comes, coming, step}
use Rattle.de.specs.Calls.{PassesOver, Skips, Skip, over, stuck, last, onward}
use Rattle.de.specs.Rows.{staged, Untouched, counted_by, at_cell, CellTold}
use Rattle.de.proofs.Passing.{step_from, column_passes_over}
use Rattle.de.proofs.Skipping.{skip_stuck, skip_last, skip_onward}

-- ---- what is open in the row

record Ahead (o : List (Open Column)) (n : ℕ) : Type 0 where
  begins : due o ≡ RowBegin
  first : row_turned o ≡ within_row 0 o
  deeper : (k : ℕ) → nesting (within_row k o) ≡ suc (nesting o)
  key_due : (k : ℕ) → k < n → due (within_row k o) ≡ RowKey
  cell_due : (k : ℕ) → k < n → due (row_turned (within_row k o)) ≡ Cell
  cell_deep : (k : ℕ) → k < n → nesting (row_turned (within_row k o)) ≡ suc (nesting o)
  next : (k : ℕ) → k < n → filled (row_turned (within_row k o)) ≡ within_row (k + 1) o
  end_due : due (within_row n o) ≡ RowEnd
  ended : row_turned (within_row n o) ≡ past_row o
  level : nesting (past_row o) ≡ nesting o

ahead_of : (o : List (Open Column)) (n : ℕ) → row_columns o ≡ Some n → Ahead o n
ahead_of [] n e = absurd (cc)
ahead_of (start ∷ s) n e = absurd (cc)
ahead_of (items k ∷ s) n e = absurd (cc)
ahead_of (pairs k ∷ s) n e = absurd (cc)
ahead_of (field k ∷ s) n e = absurd (cc)
ahead_of (rows ks zero ∷ s) n e = absurd (cc)
ahead_of (row l ks k ∷ s) n e = absurd (cc)
ahead_of (cell l ks k ∷ s) n e = absurd (cc)
ahead_of (rows ks (suc m) ∷ s) n e =
    let long : length ks ≡ n = cc in
    let more = λ (k : ℕ) (lt : k < n). drop_more ks k (copied []) (omega (arith, long)) in
    let all : drop n ks ≡ [] = drop_of_length-le ks (omega (arith, long)) in
    record {
      begins = refl;
      first = refl;
      deeper = λ k. refl;
      key_due = λ k lt. ap (λ l. due (row l ks m ∷ s)) (more k lt);
      cell_due = λ k lt. ap (λ l. due (row_turned (row l ks m ∷ s))) (more k lt);
      cell_deep = λ k lt. ap (λ l. nesting (row_turned (row l ks m ∷ s))) (more k lt);
      next = λ k lt. ap (λ l. filled (row_turned (row l ks m ∷ s))) (more k lt);
      end_due = ap (λ l. due (row l ks m ∷ s)) all;
      ended = ap (λ l. row_turned (row l ks m ∷ s)) all;
      level = refl;
    }

-- ---- the events of a row that read nothing

module _ (lends : Bool) (b : Body) (calm : b.unread ≡ None) where
  comes_so : (d : Due) → due b.opens ≡ d → coming lends b ≡ due_comes d lends b
  unfolding coming
  comes_so d is = ap (λ u. unread_comes u lends b) calm ∙ ap (λ d. due_comes d lends b) is

  turned : Body
  turned = behind b b.reader (row_turned b.opens)

  begin_passes : due b.opens ≡ RowBegin → PassesOver lends (step lends None b) (Ok true) (behind b b.reader (row_turned b.opens))
  begin_passes is = step_from lends b (behind b b.reader (row_turned b.opens)) (ahead.Passed MapBegin) (Ok true) (behind b b.reader (row_turned b.opens)) (rw (comes_so RowBegin is) (refl, refl)) (refl, refl)

  end_passes : due b.opens ≡ RowEnd → PassesOver lends (step lends None b) (Ok true) (behind b b.reader (row_turned b.opens))
  end_passes is = step_from lends b (behind b b.reader (row_turned b.opens)) (ahead.Passed MapEnd) (Ok true) (behind b b.reader (row_turned b.opens)) (rw (comes_so RowEnd is) (refl, refl)) (refl, refl)

  key_passes : due b.opens ≡ RowKey → PassesOver lends (step lends None b) (Ok true) (behind b b.reader (row_turned b.opens))
  key_passes is = step_from lends b b ahead.Column (Ok true) (behind b b.reader (row_turned b.opens)) (rw (comes_so RowKey is) (refl, refl)) (column_passes_over lends b (behind b b.reader (row_turned b.opens)) refl)

skips_same : {lends : Bool} {down n : ℕ} {b c : Body} {r : Result ℕ Refusal} {t : Body} → step lends None b ≡ step lends None c → Skips lends down n c r t → Skips lends down n b r t
skips_same e (over q x y) = over (e ∙ q) x y
skips_same e (stuck q x y) = stuck (e ∙ q) x y
skips_same e (last q l x y) = last (e ∙ q) l x y
skips_same e (onward q l m h) = onward (e ∙ q) l m h

-- ---- so many cells have passed

-- before the key behind them
abbrev pub before_key : ℕ → Body → View → Body
before_key k b v = record { reader = v; end = b.end; opens = within_row k b.opens; unread = None; events = counted_by (1 + 2 * k) b.events }

pub record Within (lends : Bool) (b : Body) (n k : ℕ) (c : Body) : Type 0 where
  pub fits : k ≤ n
  pub same : Untouched b c
  pub calm : c.unread ≡ None
  pub rest : (r : Result ℕ Refusal) (t : Body) → Skips lends (nesting b.opens) (1 + 2 * k) (before_key k b c.reader) r t → Skip lends b r t

module _ (lends : Bool) (b : Body) (n : ℕ) (calm : b.unread ≡ None) (columns : row_columns b.opens ≡ Some n) (few : n ≤ 256) where
  at_row : Ahead b.opens n
  at_row = ahead_of b.opens n columns

  pub row_begins : Within lends b n 0 b
  row_begins =
      let a = at_row in
      let deep = a.deeper 0 in
      record {
        fits = omega arith;
        same = record { opens = refl; events = refl; end = refl };
        calm = calm;
        rest = λ r t h.
            skip_onward lends (nesting b.opens) 0 b (before_key 0 b b.reader)
            (subst (λ o. PassesOver lends (step lends None b) (Ok true) (behind b b.reader o)) a.first (begin_passes lends b calm a.begins))
            (omega (arith, deep)) 1 refl r t h;
      }

  module _ (k : ℕ) (c : Body) (w : Within lends b n k c) where
    abbrev v : View
    v = c.reader

    -- the cell is due: the same as it is held meanwhile
    abbrev at_it : Body
    at_it = staged c (row_turned (within_row k b.opens)) (counted_by (2 + 2 * k) b.events)

    at_it_is : behind (before_key k b v) v (row_turned (within_row k b.opens)) ≡ at_it
    at_it_is =
        let count : counted (counted_by (1 + 2 * k) b.events) ≡ counted_by (2 + 2 * k) b.events = omega arith in
        ap (λ e. record { reader = v; end = b.end; opens = row_turned (within_row k b.opens); unread = None; events = e }) count
        ∙ ap (λ u. record { reader = v; end = b.end; opens = row_turned (within_row k b.opens); unread = u; events = counted_by (2 + 2 * k) b.events }) (sym w.calm)
        ∙ ap (λ e. record { reader = v; end = e; opens = row_turned (within_row k b.opens); unread = c.unread; events = counted_by (2 + 2 * k) b.events }) (sym w.same.end)

    module _ (more : k < n) where
      pub due_it : due (row_turned (within_row k b.opens)) ≡ Cell
      due_it = (at_row).cell_due k more

      from_cell : (r : Result ℕ Refusal) (t : Body) → Skips lends (nesting b.opens) (2 + 2 * k) at_it r t → Skip lends b r t
      from_cell r t h =
          let a = at_row in
          let deep = a.cell_deep k more in
          w.rest r t
          (skip_onward lends (nesting b.opens) (1 + 2 * k) (before_key k b v) at_it
          (subst (λ x. PassesOver lends (step lends None (before_key k b v)) (Ok true) x) at_it_is (key_passes lends (before_key k b v) refl (a.key_due k more)))
          (omega (arith, deep)) (2 + 2 * k) (omega arith) r t h)

      -- another cell has passed
      pub one_more : (d : Body) → Untouched c d → d.unread ≡ c.unread → CellTold lends at_it (Ok true) (staged d (row_turned (within_row k b.opens)) (counted_by (2 + 2 * k) b.events)) → Within lends b n (k + 1) d
      one_more d same still told =
          let a = at_row in
          let deep = a.deeper (k + 1) in
          let count : counted (counted_by (2 + 2 * k) b.events) ≡ counted_by (1 + 2 * (k + 1)) b.events = omega arith in
          let is : behind (staged d (row_turned (within_row k b.opens)) (counted_by (2 + 2 * k) b.events)) d.reader (filled (row_turned (within_row k b.opens))) ≡ before_key (k + 1) b d.reader =
          ap (λ e. record { reader = d.reader; end = d.end; opens = filled (row_turned (within_row k b.opens)); unread = None; events = e }) count
          ∙ ap (λ o. record { reader = d.reader; end = d.end; opens = o; unread = None; events = counted_by (1 + 2 * (k + 1)) b.events }) (a.next k more)
          ∙ ap (λ e. record { reader = d.reader; end = e; opens = within_row (k + 1) b.opens; unread = None; events = counted_by (1 + 2 * (k + 1)) b.events }) (same.end ∙ w.same.end) in
          record {
            fits = omega arith;
            same = record { opens = same.opens ∙ w.same.opens; events = same.events ∙ w.same.events; end = same.end ∙ w.same.end };
            calm = still ∙ w.calm;
            rest = λ r t h.
                from_cell r t
                (skip_onward lends (nesting b.opens) (2 + 2 * k) at_it (before_key (k + 1) b d.reader)
                (subst (λ x. PassesOver lends (step lends None at_it) (Ok true) x) is told)
                (omega (arith, deep)) (1 + 2 * (k + 1)) (let f = few in omega arith) r t h);
          }

      -- what is held once the row is left before the cell
      stopped : (d : Body) → Untouched c d → at_cell k d ≡ staged d (row_turned (within_row k b.opens)) (counted_by (2 + 2 * k) b.events)
      stopped d same = ap₂ (λ o e. staged d (row_turned (within_row k o)) (counted_by (2 + 2 * k) e)) (same.opens ∙ w.same.opens) (same.events ∙ w.same.events)

      pub part : (d : Body) → Untouched c d → CellTold lends at_it (Ok false) (staged d (row_turned (within_row k b.opens)) (counted_by (2 + 2 * k) b.events)) → (r : Result ℕ Refusal) (t : Body) → Skips lends (nesting b.opens) (2 + 2 * k) (at_cell k d) r t → Skip lends b r t
      part d same told r t h = from_cell r t (skips_same told (subst (λ x. Skips lends (nesting b.opens) (2 + 2 * k) x r t) (stopped d same) h))

      pub refused : (d : Body) (f : Refusal) → Untouched c d → CellTold lends at_it (Err f) (staged d (row_turned (within_row k b.opens)) (counted_by (2 + 2 * k) b.events)) → Skip lends b (Err f) (at_cell k d)
      refused d f same told = from_cell (Err f) (at_cell k d) (subst (λ x. Skips lends (nesting b.opens) (2 + 2 * k) at_it (Err f) x) (sym (stopped d same)) (skip_stuck lends (nesting b.opens) (2 + 2 * k) at_it (staged d (row_turned (within_row k b.opens)) (counted_by (2 + 2 * k) b.events)) f (Err f) told refl))

    -- all cells have passed
    pub row_ends : n ≤ k → Skip lends b (Ok (2 + 2 * n)) (staged c (past_row c.opens) (counted_by (2 + 2 * n) c.events))
    row_ends none =
        let a = at_row in
        let all : k ≡ n = (let f = w.fits in omega (arith, none)) in
        let level = a.level in
        let d = staged c (past_row c.opens) (counted_by (2 + 2 * n) c.events) in
        let count : counted (counted_by (1 + 2 * n) b.events) ≡ counted_by (2 + 2 * n) b.events = omega arith in
        let is : behind (before_key n b v) v (row_turned (within_row n b.opens)) ≡ d =
        ap (λ e. record { reader = v; end = b.end; opens = row_turned (within_row n b.opens); unread = None; events = e }) count
        ∙ ap (λ o. record { reader = v; end = b.end; opens = o; unread = None; events = counted_by (2 + 2 * n) b.events }) a.ended
        ∙ ap (λ u. record { reader = v; end = b.end; opens = past_row b.opens; unread = u; events = counted_by (2 + 2 * n) b.events }) (sym w.calm)
        ∙ ap (λ e. record { reader = v; end = e; opens = past_row b.opens; unread = c.unread; events = counted_by (2 + 2 * n) b.events }) (sym w.same.end)
        ∙ ap₂ (λ o e. record { reader = v; end = c.end; opens = past_row o; unread = c.unread; events = counted_by (2 + 2 * n) e }) (sym w.same.opens) (sym w.same.events) in
        let nest = ap (λ o. nesting (past_row o)) w.same.opens in
        subst (λ k. ((r : Result ℕ Refusal) (t : Body) → Skips lends (nesting b.opens) (1 + 2 * k) (before_key k b v) r t → Skip lends b r t) → Skip lends b (Ok (2 + 2 * n)) d) (sym all)
        (λ rest. rest (Ok (2 + 2 * n)) d
        (skip_last lends (nesting b.opens) (1 + 2 * n) (before_key n b v) d
        (subst (λ x. PassesOver lends (step lends None (before_key n b v)) (Ok true) x) is (end_passes lends (before_key n b v) refl a.end_due))
        (omega (arith, level, nest)) (2 + 2 * n) (let f = few in omega arith)))
        w.rest
