-- What is open by the frames: how it changes with the innermost frame, and what it takes of the fixed memory.
use Rattle.std.proofs.Common.{◌≡◌, ℕ, zero, suc, ◌+◌, ◌<◌, ◌≤◌, List, [], ◌∷◌, ◌++◌, length, get_or, take, drop, set, refl, sym, ap, ◌∙◌, subst, arith, length-take}
use lib.ListN.{length-drop}
use Rattle.std.proofs.Math.Seq.{take-add}
use Rattle.std.proofs.lemmas.List.{get_or-set_other, take-take}
use Rattle.room.specs.Open.{Column, Open, start, items, pairs, field, rows, row, cell, lent, copied, column_bytes, depth, nesting, filled, ended, keys_held, bytes_held}
use Rattle.room.specs.declared.frame.Table.{Table}
use Rattle.room.specs.declared.frame.Frame.{Frame}
use Rattle.room.specs.declared.frame.Frame.TheVariants as frame
use Rattle.room.specs.Frames.{columns, over, Fits, Limited, below, Ground, Ends, Over, in_row, Plain}
use Rattle.room.specs.Opens.{frame_at, opens_in, Stacked, rows_in}
use Rattle.room.proofs.Parts.{front_part}

-- ---- one frame

pub frame_any : (fs : List Frame) (i : ℕ) (d : Frame) → i < length fs → get_or fs i d ≡ frame_at fs i
frame_any [] i d lt = absurd (omega arith)
frame_any (f ∷ fs) zero d lt = refl
frame_any (f ∷ fs) (suc i) d lt = frame_any fs i d (omega arith)

-- what a frame that takes a level adds
over_told : (held : List Column) (f : Frame) (own : ℕ) (s : List (Open Column)) → Ends f own → (depth (over held f s) ≡ suc (depth s)) × (nesting (over held f s) ≡ suc (in_row f + nesting s)) × (ended (over held f s) ≡ s)
over_told held frame.Done own s h = absurd h
over_told held frame.Start own s h = absurd h
over_told held (frame.Items n) own s h = (refl, ap suc (omega arith), refl)
over_told held (frame.Pairs n) own s h = (refl, ap suc (omega arith), refl)
over_told held (frame.Field n) own s h = (refl, ap suc (omega arith), refl)
over_told held (frame.Rows t n) own s h = (refl, ap suc (omega arith), refl)
over_told held (frame.Row t n i) own s h = (refl, ap suc (omega arith), refl)
over_told held (frame.Cell t n i) own s h = (refl, ap suc (omega arith), refl)

depth_over : (held : List Column) (f : Frame) (own : ℕ) (s : List (Open Column)) → Ends f own → depth (over held f s) ≡ suc (depth s)
depth_over held f own s h = (over_told held f own s h).0

nesting_over : (held : List Column) (f : Frame) (own : ℕ) (s : List (Open Column)) → Ends f own → nesting (over held f s) ≡ suc (in_row f + nesting s)
nesting_over held f own s h = (over_told held f own s h).1

pub ended_over : (held : List Column) (f : Frame) (own : ℕ) (s : List (Open Column)) → Ends f own → ended (over held f s) ≡ s
ended_over held f own s h = (over_told held f own s h).2

pub below_less : (f : Frame) (own : ℕ) → Ends f own → below f own ≤ own
below_less frame.Done own h = absurd h
below_less frame.Start own h = absurd h
below_less (frame.Items n) own h = omega arith
below_less (frame.Pairs n) own h = omega arith
below_less (frame.Field n) own h = omega arith
below_less (frame.Rows t n) own h = omega arith
below_less (frame.Row t n i) own h = omega arith
below_less (frame.Cell t n i) own h = omega arith

ends_fit : (held : List Column) (f : Frame) (own : ℕ) → Ends f own → own ≤ length held → Fits held f
ends_fit held frame.Done own h le = absurd h
ends_fit held frame.Start own h le = absurd h
ends_fit held (frame.Items n) own h le = tt
ends_fit held (frame.Pairs n) own h le = tt
ends_fit held (frame.Field n) own h le = tt
ends_fit held (frame.Rows t n) own h le = omega arith
ends_fit held (frame.Row t n i) own h le = omega arith
ends_fit held (frame.Cell t n i) own h le = omega arith

pub fits_limited : (held : List Column) (f : Frame) → Fits held f → length held ≤ 256 → Limited f
fits_limited held frame.Done h le = tt
fits_limited held frame.Start h le = tt
fits_limited held (frame.Items n) h le = tt
fits_limited held (frame.Pairs n) h le = tt
fits_limited held (frame.Field n) h le = tt
fits_limited held (frame.Rows t n) h le = omega arith
fits_limited held (frame.Row t n i) h le = omega arith
fits_limited held (frame.Cell t n i) h le = omega arith

-- ---- one frame of the body itself

record OnGround (f : Frame) : Type 0 where
  no_row : in_row f ≡ 0
  fits : (held : List Column) → Fits held f
  no_level : (held : List Column) → depth (over held f []) ≡ 0
  no_nesting : (held : List Column) → nesting (over held f []) ≡ 0
  no_keys : (held : List Column) → keys_held (over held f []) ≡ 0
  no_bytes : (held : List Column) → bytes_held column_bytes (over held f []) ≡ 0
  same : (held held' : List Column) → over held' f [] ≡ over held f []

ground : (f : Frame) → Ground f → OnGround f
ground frame.Done h = record { no_row = refl; fits = λ a. tt; no_level = λ a. refl; no_nesting = λ a. refl; no_keys = λ a. refl; no_bytes = λ a. refl; same = λ a b. refl }
ground frame.Start h = record { no_row = refl; fits = λ a. tt; no_level = λ a. refl; no_nesting = λ a. refl; no_keys = λ a. refl; no_bytes = λ a. refl; same = λ a b. refl }
ground (frame.Items n) h = absurd h
ground (frame.Pairs n) h = absurd h
ground (frame.Field n) h = absurd h
ground (frame.Rows t n) h = absurd h
ground (frame.Row t n i) h = absurd h
ground (frame.Cell t n i) h = absurd h

-- ---- one frame, and the keys that are held

-- the columns of a frame are among those that it and the frames below hold
open_same : (held held' : List Column) (f : Frame) (own : ℕ) (s : List (Open Column)) → Ends f own → take own held' ≡ take own held → over held' f s ≡ over held f s
open_same held held' f own s = go f
  where
    same : (t : Table) → t.first + t.len ≡ own → take own held' ≡ take own held → columns held' t ≡ columns held t
    same t h e =
        let le : t.first + t.len ≤ own = omega arith in
        sym (front_part t.first t.len own held' le) ∙ ap (λ l. take t.len (drop t.first l)) e ∙ front_part t.first t.len own held le

    go : (f : Frame) → Ends f own → take own held' ≡ take own held → over held' f s ≡ over held f s
    go frame.Done h e = absurd h
    go frame.Start h e = absurd h
    go (frame.Items n) h e = refl
    go (frame.Pairs n) h e = refl
    go (frame.Field n) h e = refl
    go (frame.Rows t n) h e = ap (λ l. rows l n ∷ s) (same t h e)
    go (frame.Row t n i) h e = ap (λ l. row (drop i l) l n ∷ s) (same t h e)
    go (frame.Cell t n i) h e = ap (λ l. cell (drop i l) l n ∷ s) (same t h e)

pub depth_filled : (s : List (Open Column)) → depth (filled s) ≡ depth s
depth_filled [] = refl
depth_filled (start ∷ s) = refl
depth_filled (items zero ∷ s) = refl
depth_filled (items (suc k) ∷ s) = refl
depth_filled (pairs k ∷ s) = refl
depth_filled (field k ∷ s) = refl
depth_filled (rows ks k ∷ s) = refl
depth_filled (row l ks k ∷ s) = refl
depth_filled (cell l ks k ∷ s) = refl

-- an array or an object has no columns
pub record Columnless (f : Frame) : Type 0 where
  pub ends : (own : ℕ) → Ends f own
  pub under : (own : ℕ) → below f own ≡ own
  pub no_row : in_row f ≡ 0
  pub same : (held held' : List Column) (s : List (Open Column)) → over held' f s ≡ over held f s

pub columnless : (f : Frame) → Plain f → Columnless f
columnless frame.Done h = absurd h
columnless frame.Start h = absurd h
columnless (frame.Items n) h = record { ends = λ own. tt; under = λ own. refl; no_row = refl; same = λ a b s. refl }
columnless (frame.Pairs n) h = record { ends = λ own. tt; under = λ own. refl; no_row = refl; same = λ a b s. refl }
columnless (frame.Field n) h = absurd h
columnless (frame.Rows t n) h = absurd h
columnless (frame.Row t n i) h = absurd h
columnless (frame.Cell t n i) h = absurd h

-- ---- all frames

-- what is open below the innermost
abbrev pub lower : List Column → List Frame → ℕ → List (Open Column)
lower held fs zero = []
lower held fs (suc n) = opens_in held (frame_at fs n) fs n

pub opens_top : (held : List Column) (f : Frame) (fs : List Frame) (n : ℕ) → opens_in held f fs n ≡ over held f (lower held fs n)
opens_top held f fs zero = refl
opens_top held f fs (suc n) = refl

pub depth_in : (held : List Column) (f : Frame) (fs : List Frame) (n own : ℕ) → Stacked f fs n own → depth (opens_in held f fs n) ≡ n
depth_in held f fs zero own h = (ground f h.0).no_level held
depth_in held f fs (suc n) own h = depth_over held f own (opens_in held (frame_at fs n) fs n) h.0 ∙ ap suc (depth_in held (frame_at fs n) fs n (below f own) h.1)

pub nesting_in : (held : List Column) (f : Frame) (fs : List Frame) (n own : ℕ) → Stacked f fs n own → nesting (opens_in held f fs n) ≡ n + rows_in f fs n
nesting_in held f fs zero own h = (ground f h.0).no_nesting held
nesting_in held f fs (suc n) own h = let k = nesting_in held (frame_at fs n) fs n (below f own) h.1 in let o = nesting_over held f own (opens_in held (frame_at fs n) fs n) h.0 in omega arith

pub in_row_few : (f : Frame) → in_row f ≤ 1
in_row_few frame.Done = omega arith
in_row_few frame.Start = omega arith
in_row_few (frame.Items n) = omega arith
in_row_few (frame.Pairs n) = omega arith
in_row_few (frame.Field n) = omega arith
in_row_few (frame.Rows t n) = omega arith
in_row_few (frame.Row t n i) = omega arith
in_row_few (frame.Cell t n i) = omega arith

pub rows_few : (f : Frame) (fs : List Frame) (n : ℕ) → rows_in f fs n ≤ n
rows_few f fs zero = omega arith
rows_few f fs (suc n) = let k = rows_few (frame_at fs n) fs n in let i = in_row_few f in omega arith

pub rows_top : (f : Frame) (fs : List Frame) (n own : ℕ) → Stacked f fs n own → in_row f ≤ rows_in f fs n
rows_top f fs zero own h = let k = (ground f h.0).no_row in omega arith
rows_top f fs (suc n) own h = omega arith

pub frame_fits : (held : List Column) (f : Frame) (fs : List Frame) (n own : ℕ) → Stacked f fs n own → own ≤ length held → Fits held f
frame_fits held f fs zero own h le = (ground f h.0).fits held
frame_fits held f fs (suc n) own h le = ends_fit held f own h.0 le

-- another frame of the same level stands innermost
pub stacked_over : (f g : Frame) (fs : List Frame) (n own : ℕ) → Over f g → Stacked f fs n own → Stacked g fs n own
stacked_over f g fs zero own o h = (o.ground h.0, h.1)
stacked_over f g fs (suc n) own o h = (o.ends own h.0, subst (Stacked (frame_at fs n) fs n) (sym (o.below own)) h.1)

pub rows_over : (f g : Frame) (fs : List Frame) (n own : ℕ) → Over f g → Stacked f fs n own → rows_in g fs n + in_row f ≡ rows_in f fs n + in_row g
rows_over f g fs zero own o h = let k = (ground f h.0).no_row in let l = (ground g (o.ground h.0)).no_row in omega arith
rows_over f g fs (suc n) own o h = omega arith

-- a frame that is written above leaves those below
other_frame : (fs : List Frame) (i : ℕ) (g : Frame) (n : ℕ) → n < i → frame_at (set fs i g) n ≡ frame_at fs n
other_frame fs i g n lt = get_or-set_other fs i n g (frame.Items 0) (λ e. omega arith)

pub opens_set : (held : List Column) (f : Frame) (fs : List Frame) (i : ℕ) (g : Frame) (n : ℕ) → n ≤ i → opens_in held f (set fs i g) n ≡ opens_in held f fs n
opens_set held f fs i g zero le = refl
opens_set held f fs i g (suc n) le =
    ap (over held f) (ap (λ h. opens_in held h (set fs i g) n) (other_frame fs i g n (omega arith)) ∙ opens_set held (frame_at fs n) fs i g n (omega arith))

pub rows_set : (f : Frame) (fs : List Frame) (i : ℕ) (g : Frame) (n : ℕ) → n ≤ i → rows_in f (set fs i g) n ≡ rows_in f fs n
rows_set f fs i g zero le = refl
rows_set f fs i g (suc n) le =
    ap (λ k. in_row f + k) (ap (λ h. rows_in h (set fs i g) n) (other_frame fs i g n (omega arith)) ∙ rows_set (frame_at fs n) fs i g n (omega arith))

pub stacked_set : (f : Frame) (fs : List Frame) (i : ℕ) (g : Frame) (n own : ℕ) → n ≤ i → Stacked f fs n own → Stacked f (set fs i g) n own
stacked_set f fs i g zero own le h = h
stacked_set f fs i g (suc n) own le h =
    (h.0, subst (λ h. Stacked h (set fs i g) n (below f own)) (sym (other_frame fs i g n (omega arith))) (stacked_set (frame_at fs n) fs i g n (below f own) (omega arith) h.1))

-- what keys stand behind those of the frames is of no effect
pub opens_held : (held held' : List Column) (f : Frame) (fs : List Frame) (n own : ℕ) → Stacked f fs n own → take own held' ≡ take own held → opens_in held' f fs n ≡ opens_in held f fs n
opens_held held held' f fs zero own h e = (ground f h.0).same held held'
opens_held held held' f fs (suc n) own h e =
    let le = below_less f own h.0 in
    let less : take (below f own) held' ≡ take (below f own) held = sym (take-take (below f own) own held' le) ∙ ap (take (below f own)) e ∙ take-take (below f own) own held le in
    open_same held held' f own (opens_in held' (frame_at fs n) fs n) h.0 e ∙ ap (over held f) (opens_held held held' (frame_at fs n) fs n (below f own) h.1 less)

-- ---- what is taken

bytes_append : (ks ls : List Column) → column_bytes (ks ++ ls) ≡ column_bytes ks + column_bytes ls
bytes_append [] ls = omega arith
bytes_append (lent p n ∷ ks) ls = bytes_append ks ls
bytes_append (copied bs ∷ ks) ls = let k = bytes_append ks ls in omega arith

module _ (held : List Column) where
  columns_long : (t : Table) (own : ℕ) → t.first + t.len ≡ own → own ≤ length held → length (columns held t) ≡ t.len
  columns_long t own h le = rw (length-take, length-drop) (omega arith)

  keys_over : (f : Frame) (own : ℕ) (s : List (Open Column)) → Ends f own → own ≤ length held → keys_held s ≡ below f own → keys_held (over held f s) ≡ own
  keys_over frame.Done own s h le k = absurd h
  keys_over frame.Start own s h le k = absurd h
  keys_over (frame.Items n) own s h le k = k
  keys_over (frame.Pairs n) own s h le k = k
  keys_over (frame.Field n) own s h le k = k
  keys_over (frame.Rows t n) own s h le k = let l = columns_long t own h le in omega arith
  keys_over (frame.Row t n i) own s h le k = let l = columns_long t own h le in omega arith
  keys_over (frame.Cell t n i) own s h le k = let l = columns_long t own h le in omega arith

  pub keys_in : (f : Frame) (fs : List Frame) (n own : ℕ) → Stacked f fs n own → own ≤ length held → keys_held (opens_in held f fs n) ≡ own
  keys_in f fs zero own h le = (ground f h.0).no_keys held ∙ sym h.1
  keys_in f fs (suc n) own h le =
      let l = below_less f own h.0 in
      keys_over f own (opens_in held (frame_at fs n) fs n) h.0 le (keys_in (frame_at fs n) fs n (below f own) h.1 (omega arith))

  front_bytes : (t : Table) (own : ℕ) → t.first + t.len ≡ own → column_bytes (take t.first held) + column_bytes (columns held t) ≡ column_bytes (take own held)
  front_bytes t own h = sym (bytes_append (take t.first held) (columns held t)) ∙ ap column_bytes (sym (take-add t.first t.len held)) ∙ ap (λ n. column_bytes (take n held)) h

  bytes_over : (f : Frame) (own : ℕ) (s : List (Open Column)) → Ends f own → bytes_held column_bytes s ≡ column_bytes (take (below f own) held) → bytes_held column_bytes (over held f s) ≡ column_bytes (take own held)
  bytes_over frame.Done own s h k = absurd h
  bytes_over frame.Start own s h k = absurd h
  bytes_over (frame.Items n) own s h k = k
  bytes_over (frame.Pairs n) own s h k = k
  bytes_over (frame.Field n) own s h k = k
  bytes_over (frame.Rows t n) own s h k = let l = front_bytes t own h in omega arith
  bytes_over (frame.Row t n i) own s h k = let l = front_bytes t own h in omega arith
  bytes_over (frame.Cell t n i) own s h k = let l = front_bytes t own h in omega arith

  pub bytes_in : (f : Frame) (fs : List Frame) (n own : ℕ) → Stacked f fs n own → bytes_held column_bytes (opens_in held f fs n) ≡ column_bytes (take own held)
  bytes_in f fs zero own h = (ground f h.0).no_bytes held ∙ sym (ap (λ n. column_bytes (take n held)) h.1)
  bytes_in f fs (suc n) own h = bytes_over f own (opens_in held (frame_at fs n) fs n) h.0 (bytes_in (frame_at fs n) fs n (below f own) h.1)
