-- The open levels as fields, where what stands innermost changes, or a level is taken or given back.
use Rattle.std.proofs.Common.{◌≡◌, ℕ, suc, ◌+◌, ◌-◌, ◌<◌, ◌≤◌, Bool, true, false, ltb, leb, List, [], ◌++◌, length, get_or, take, drop, set, refl, sym, ap, ◌∙◌, subst, arith, length-set, length-append, drop_of_length-le}
use Rattle.std.proofs.lemmas.Bool.{lt-ltb, le-ltb, ltb-true, ltb-false, leb-true, leb-false}
use Rattle.std.proofs.lemmas.List.{get_or-set_same, length-take-le, take-take, take_all, take_at, drop_at}
use lib.ListN.{length-drop}
use Rattle.room.specs.Open.{Column, Open, column_bytes, depth, nesting, keys_held, bytes_held, filled, ended}
use Rattle.room.specs.declared.depth.Depth.{Depth}
use Rattle.room.specs.declared.frame.Frame.{Frame}
use Rattle.room.specs.declared.frame.Frame.TheVariants as frame
use Rattle.room.specs.Frames.{over, Fits, below, Ends, Over, in_row}
use Rattle.room.specs.Opened.{Opened, with_opens}
use Rattle.room.specs.Opens.{frame_at, opens_in, Stacked, rows_in, count_of, opened, Kept}
use Rattle.room.specs.declared.opens.Opens.TheInside.{Inside}
use Rattle.room.proofs.Levels.{frame_any, lower, opens_top, opens_set, rows_set, stacked_set, stacked_over, rows_over, rows_top, depth_in, nesting_in, rows_few, below_less, ended_over, frame_fits, opens_held, keys_in, bytes_in, depth_filled}

module _ (r : Inside) (kept : Kept r) where
  abbrev n : ℕ
  n = count_of r

  abbrev pub below_top : List (Open Column)
  below_top = lower r.keys r.frames n

  pub count_few : n ≤ 128
  count_few = omega arith

  pub free_told : ltb 0 r.depth.free ≡ ltb (depth (opened r).opens) 128
  free_told = go (ltb 0 r.depth.free) refl
    where
      go : (b : Bool) → ltb 0 r.depth.free ≡ b → ltb 0 r.depth.free ≡ ltb (depth (opened r).opens) 128
      go true e =
          let some = ltb-true 0 r.depth.free e in
          let d = depth_in r.keys r.top r.frames n r.own kept.stacked in
          e ∙ sym (lt-ltb (depth (opened r).opens) 128 (let f = kept.free in omega arith))
      go false e =
          let all = ltb-false 0 r.depth.free e in
          let d = depth_in r.keys r.top r.frames n r.own kept.stacked in
          e ∙ sym (le-ltb (depth (opened r).opens) 128 (omega arith))

  pub two_told : leb 2 r.depth.free ≡ ltb (suc (depth (opened r).opens)) 128
  two_told = go (leb 2 r.depth.free) refl
    where
      go : (b : Bool) → leb 2 r.depth.free ≡ b → leb 2 r.depth.free ≡ ltb (suc (depth (opened r).opens)) 128
      go true e =
          let some = leb-true 2 r.depth.free e in
          let d = depth_in r.keys r.top r.frames n r.own kept.stacked in
          e ∙ sym (lt-ltb (suc (depth (opened r).opens)) 128 (let f = kept.free in omega arith))
      go false e =
          let all = leb-false 2 r.depth.free e in
          let d = depth_in r.keys r.top r.frames n r.own kept.stacked in
          e ∙ sym (le-ltb (suc (depth (opened r).opens)) 128 (omega arith))

  pub nesting_told : nesting (opened r).opens ≡ n + r.rows
  nesting_told = nesting_in r.keys r.top r.frames n r.own kept.stacked ∙ ap (λ k. n + k) (sym kept.rows)

  pub nesting_few : n + r.rows ≤ 256
  nesting_few = let k = rows_few r.top r.frames n in let e = kept.rows in omega arith

  -- ---- what stands innermost

  pub opens_are : (opened r).opens ≡ over r.keys r.top below_top
  opens_are = opens_top r.keys r.top r.frames n

  pub top_fits : Fits r.keys r.top
  top_fits = frame_fits r.keys r.top r.frames n r.own kept.stacked kept.own

  pub rows_less : in_row r.top ≤ r.rows
  rows_less = let k = rows_top r.top r.frames n r.own kept.stacked in let e = kept.rows in omega arith

  -- another frame of the same level stands there
  module _ (g : Frame) (same : Over r.top g) (rows : ℕ) (counts : rows ≡ r.rows - in_row r.top + in_row g) where
    abbrev changed : Inside
    changed = record { top = g; frames = r.frames; depth = r.depth; rows = rows; keys = r.keys; own = r.own }

    pub changed_kept : Kept changed
    changed_kept = record {
      all = kept.all;
      free = kept.free;
      stacked = stacked_over r.top g r.frames n r.own same kept.stacked;
      own = kept.own;
      few = kept.few;
      rows = let k = rows_over r.top g r.frames n r.own same kept.stacked in let e = kept.rows in let l = rows_less in omega arith;
    }

    pub changed_opens : (old : Opened) → opened r ≡ old → (op : List (Open Column) → List (Open Column)) → op (over r.keys r.top below_top) ≡ over r.keys g below_top → opened changed ≡ with_opens old (op old.opens)
    changed_opens old was op is = ap (λ s. record { opens = s; listed = drop r.own r.keys }) (opens_top r.keys g r.frames n ∙ sym is ∙ ap op (sym opens_are)) ∙ ap (λ o. with_opens o (op o.opens)) was

  -- one that is in a row where that one is
  module _ (g : Frame) (same : Over r.top g) (like : in_row g ≡ in_row r.top) where
    same_rows : r.rows ≡ r.rows - in_row r.top + in_row g
    same_rows = let k = rows_less in omega arith

    pub like_kept : Kept (record { top = g; frames = r.frames; depth = r.depth; rows = r.rows; keys = r.keys; own = r.own })
    like_kept = changed_kept g same r.rows same_rows

    pub like_opens : (old : Opened) → opened r ≡ old → (op : List (Open Column) → List (Open Column)) → op (over r.keys r.top below_top) ≡ over r.keys g below_top →
        opened (record { top = g; frames = r.frames; depth = r.depth; rows = r.rows; keys = r.keys; own = r.own }) ≡ with_opens old (op old.opens)
    like_opens = changed_opens g same r.rows same_rows

  -- ---- a level more

  pub free_left : (old : Opened) → opened r ≡ with_opens old (filled old.opens) → depth old.opens < 128 → 0 < r.depth.free
  free_left old is lt =
      let d = sym (depth_in r.keys r.top r.frames n r.own kept.stacked) ∙ ap (λ o. depth o.opens) is ∙ depth_filled old.opens in
      omega arith

  module _ (f : Frame) (own : ℕ) (frames : List Frame) (d : Depth) (left : 0 < r.depth.free) (put : frames ≡ set r.frames (128 - r.depth.free) r.top) (less : d.free ≡ r.depth.free - 1)
      (ends : Ends f own) (under : below f own ≡ r.own) (held : own ≤ length r.keys) (no_row : in_row f ≡ 0) where
    abbrev pushed : Inside
    pushed = record { top = f; frames = frames; depth = d; rows = r.rows; keys = r.keys; own = own }

    one_more : count_of pushed ≡ suc n
    one_more = let k = kept.free in omega arith

    next_below : frame_at frames n ≡ r.top
    next_below = ap (λ l. frame_at l n) put ∙ get_or-set_same r.frames n r.top (frame.Items 0) (let a = kept.all in let k = kept.free in omega arith)

    pub pushed_kept : Kept pushed
    pushed_kept = record {
      all = ap length put ∙ length-set r.frames n r.top ∙ kept.all;
      free = let k = kept.free in omega arith;
      stacked = subst (λ k. Stacked f frames k own) (sym one_more) (
        ends,
        subst (λ g. Stacked g frames n (below f own)) (sym next_below)
            (subst (λ l. Stacked r.top l n (below f own)) (sym put) (stacked_set r.top r.frames n r.top n (below f own) (omega arith) (subst (Stacked r.top r.frames n) (sym under) kept.stacked))),
      );
      own = held;
      few = kept.few;
      rows =
          let k = kept.rows in
          let m : rows_in f frames (suc n) ≡ in_row f + rows_in r.top r.frames n = ap (λ g. in_row f + rows_in g frames n) next_below ∙ ap (λ l. in_row f + rows_in r.top l n) put ∙ ap (λ k. in_row f + k) (rows_set r.top r.frames n r.top n (omega arith)) in
          let q = ap (rows_in f frames) one_more in
          omega arith;
    }

    pub pushed_opens : (opened pushed).opens ≡ over r.keys f (opened r).opens
    pushed_opens =
        ap (opens_in r.keys f frames) one_more
        ∙ ap (λ g. over r.keys f (opens_in r.keys g frames n)) next_below
        ∙ ap (λ l. over r.keys f (opens_in r.keys r.top l n)) put
        ∙ ap (over r.keys f) (opens_set r.keys r.top r.frames n r.top n (omega arith))

  -- ---- a level less
  module _ (m : ℕ) (d : Frame) (is : m ≡ n) (some : 0 < m) (free : ℕ) (more : free ≡ r.depth.free + 1) (rows own : ℕ)
      (fewer : rows ≡ r.rows - in_row r.top) (under : own ≡ below r.top r.own) where
    abbrev popped : Inside
    popped = record { top = get_or r.frames (m - 1) d; frames = r.frames; depth = record { free = free }; rows = rows; keys = r.keys; own = own }

    one_less : suc (n - 1) ≡ n
    one_less = omega arith

    fewer_levels : count_of popped ≡ n - 1
    fewer_levels = omega arith

    here : get_or r.frames (m - 1) d ≡ frame_at r.frames (n - 1)
    here = ap (λ m. get_or r.frames (m - 1) d) is ∙ frame_any r.frames (n - 1) d (let a = kept.all in omega arith)

    stacked_so : Ends r.top r.own × Stacked (frame_at r.frames (n - 1)) r.frames (n - 1) (below r.top r.own)
    stacked_so = subst (λ k. Stacked r.top r.frames k r.own) (sym one_less) kept.stacked

    pub popped_kept : Kept popped
    popped_kept =
        let l = below_less r.top r.own stacked_so.0 in
        record {
          all = kept.all;
          free = let k = kept.free in omega arith;
          stacked = subst (λ k. Stacked (get_or r.frames (m - 1) d) r.frames k own) (sym fewer_levels) (subst (λ f. Stacked f r.frames (n - 1) own) (sym here) (subst (Stacked (frame_at r.frames (n - 1)) r.frames (n - 1)) (sym under) stacked_so.1));
          own = let k = kept.own in omega arith;
          few = kept.few;
          rows =
              let k = ap (rows_in r.top r.frames) (sym one_less) in
              let e = kept.rows in
              let q = ap (rows_in (get_or r.frames (m - 1) d) r.frames) fewer_levels ∙ ap (λ f. rows_in f r.frames (n - 1)) here in
              omega arith;
        }

    pub popped_opens : (opened popped).opens ≡ ended (opened r).opens
    popped_opens =
        ap (opens_in r.keys (get_or r.frames (m - 1) d) r.frames) fewer_levels
        ∙ ap (λ f. opens_in r.keys f r.frames (n - 1)) here
        ∙ sym (ended_over r.keys r.top r.own (opens_in r.keys (frame_at r.frames (n - 1)) r.frames (n - 1)) stacked_so.0)
        ∙ ap (λ k. ended (opens_in r.keys r.top r.frames k)) one_less

  -- ---- keys that no template holds are given back
  module _ (keys : List Column) (cut : keys ≡ take r.own r.keys) where
    abbrev cut_short : Inside
    cut_short = record { top = r.top; frames = r.frames; depth = r.depth; rows = r.rows; keys = keys; own = r.own }

    cut_long : length keys ≡ r.own
    cut_long = ap length cut ∙ length-take-le r.own r.keys kept.own

    pub cut_kept : Kept cut_short
    cut_kept = record { all = kept.all; free = kept.free; stacked = kept.stacked; own = omega (arith, cut_long); few = (let l = cut_long in let k = kept.few in let o = kept.own in omega arith); rows = kept.rows }

    pub cut_opened : opened cut_short ≡ record { opens = (opened r).opens; listed = [] }
    cut_opened = ap (λ k. record { opens = opens_in keys r.top r.frames n; listed = k }) (drop_of_length-le keys (omega (arith, cut_long)))
        ∙ ap (λ s. record { opens = s; listed = [] }) (opens_held r.keys keys r.top r.frames n r.own kept.stacked (ap (take r.own) cut ∙ take-take r.own r.own r.keys (omega arith)))

  pub two_left : (old : Opened) → opened r ≡ old → depth old.opens + 1 < 128 → 2 ≤ r.depth.free
  two_left old is lt = let d = sym (depth_in r.keys r.top r.frames n r.own kept.stacked) ∙ ap (λ o. depth o.opens) is in omega arith

  -- ---- keys are listed: the levels that were taken for the list are given back

  module _ (none : drop r.own r.keys ≡ []) where
    all_own : length r.keys ≡ r.own
    all_own = let z = sym (length-drop r.own r.keys) ∙ ap length none in let k = kept.own in omega arith

    pub own_keys : length r.keys ≡ keys_held (opened r).opens
    own_keys = all_own ∙ sym (keys_in r.keys r.top r.frames n r.own kept.stacked kept.own)

    pub own_bytes : column_bytes r.keys ≡ bytes_held column_bytes (opened r).opens
    own_bytes = sym (bytes_in r.keys r.top r.frames n r.own kept.stacked ∙ ap column_bytes (take_all r.own r.keys (omega (arith, all_own))))

    module _ (keys more : List Column) (d : Depth) (same : d.free ≡ r.depth.free) (few : length keys ≤ 256) (grown : keys ≡ r.keys ++ more) where
      abbrev listing : Inside
      listing = record { top = r.top; frames = r.frames; depth = d; rows = r.rows; keys = keys; own = r.own }

      levels_same : count_of listing ≡ n
      levels_same = ap (λ f. 128 - f) same

      pub listing_kept : Kept listing
      listing_kept = record {
        all = kept.all;
        free = let k = kept.free in omega arith;
        stacked = subst (λ k. Stacked r.top r.frames k r.own) (sym levels_same) kept.stacked;
        own = let k = ap length grown ∙ length-append r.keys more in let o = all_own in omega arith;
        few = few;
        rows = kept.rows ∙ ap (rows_in r.top r.frames) (sym levels_same);
      }

      pub listing_opened : opened listing ≡ record { opens = (opened r).opens; listed = more }
      listing_opened =
          ap (λ l. record { opens = opens_in keys r.top r.frames (count_of listing); listed = l }) (ap (drop r.own) grown ∙ drop_at r.keys more r.own all_own)
          ∙ ap (λ k. record { opens = opens_in keys r.top r.frames k; listed = more }) levels_same
          ∙ ap (λ s. record { opens = s; listed = more })
          (opens_held r.keys keys r.top r.frames n r.own kept.stacked (ap (take r.own) grown ∙ take_at r.keys more r.own all_own ∙ sym (take_all r.own r.keys (omega (arith, all_own)))))
