-- What key room holds, as a list, where a key is looked up, given up or put behind the others.
use Rattle.std.proofs.Common.{◌≡◌, ℕ, zero, suc, ◌+◌, ◌-◌, ◌<◌, ◌≤◌, List, [], ◌∷◌, ◌++◌, length, get_or, take, drop, set, sym, refl, ap, ◌∙◌, subst, arith, length-take, length-set}
use Rattle.std.proofs.lemmas.List.{take_more, take_more_set, get_or-take, take-take}
use lib.ListN.{length-drop}
use Rattle.room.proofs.Parts.{front_part}
use Rattle.room.specs.Open.{Column, lent, copied, column_bytes}
use Rattle.room.specs.declared.slot.Slot.{Slot}
use Rattle.room.specs.declared.slot.Slot.TheVariants.{Lent, Held}
use Rattle.room.specs.Slots.{column_in, begin_of, end_of, Slotted}
use Rattle.room.specs.Keys.{columns_in, columns_of, Packed, Kept}
use Rattle.room.specs.declared.keys.KeyRoom.TheInside.{Inside}

-- ---- columns

columns_long : (bytes : List ℕ) (ks : List Slot) → length (columns_in bytes ks) ≡ length ks
columns_long bytes [] = refl
columns_long bytes (k ∷ ks) = ap suc (columns_long bytes ks)

columns_append : (bytes : List ℕ) (ks ls : List Slot) → columns_in bytes (ks ++ ls) ≡ columns_in bytes ks ++ columns_in bytes ls
columns_append bytes [] ls = refl
columns_append bytes (k ∷ ks) ls = ap (λ l. column_in bytes k ∷ l) (columns_append bytes ks ls)

columns_take : (bytes : List ℕ) (n : ℕ) (ks : List Slot) → columns_in bytes (take n ks) ≡ take n (columns_in bytes ks)
columns_take bytes zero ks = refl
columns_take bytes (suc n) [] = refl
columns_take bytes (suc n) (k ∷ ks) = ap (λ l. column_in bytes k ∷ l) (columns_take bytes n ks)

-- ---- how the copied keys lie

packed_up : (i : ℕ) (ks : List Slot) (j : ℕ) → Packed i ks j → i ≤ j
packed_up i [] j h = omega arith
packed_up i (Lent p n ∷ ks) j h = packed_up i ks j h
packed_up i (Held a n ∷ ks) j h = let k = packed_up (i + n) ks j h.1 in omega arith

packed_more : (s : Slot) (i : ℕ) (ks : List Slot) (j : ℕ) → Packed i ks j → begin_of s j ≡ j → Packed i (ks ++ s ∷ []) (end_of s j)
packed_more (Lent p n) i [] j h e = h
packed_more (Held a n) i [] j h e = (e ∙ sym h, ap (λ x. x + n) (h ∙ sym e))
packed_more s i (Lent p n ∷ ks) j h e = packed_more s i ks j h e
packed_more s i (Held a n ∷ ks) j h e = (h.0, packed_more s (i + n) ks j h.1 e)

packed_less : (s : Slot) (i : ℕ) (ks : List Slot) (j : ℕ) → Packed i (ks ++ s ∷ []) j → Packed i ks (begin_of s j) × (begin_of s j ≤ j)
packed_less (Lent p n) i [] j h = (h, omega arith)
packed_less (Held a n) i [] j h = (sym h.0, omega (arith, h.0, h.1))
packed_less s i (Lent p n ∷ ks) j h = packed_less s i ks j h
packed_less s i (Held a n ∷ ks) j h = let (k, l) = packed_less s (i + n) ks j h.1 in ((h.0, k), l)

-- what lies there does not change with the bytes behind it
columns_same : (bytes bytes' : List ℕ) (i : ℕ) (ks : List Slot) (j : ℕ) → Packed i ks j → take j bytes' ≡ take j bytes → columns_in bytes' ks ≡ columns_in bytes ks
columns_same bytes bytes' i [] j h e = refl
columns_same bytes bytes' i (Lent p n ∷ ks) j h e = ap (λ l. lent p n ∷ l) (columns_same bytes bytes' i ks j h e)
columns_same bytes bytes' i (Held a n ∷ ks) j h e =
    let up = packed_up (i + n) ks j h.1 in
    let at = h.0 in
    let le : a + n ≤ j = omega arith in
    let same = sym (front_part a n j bytes' le) ∙ ap (λ l. take n (drop a l)) e ∙ front_part a n j bytes le in
    ap (λ l. copied l ∷ columns_in bytes' ks) same ∙ ap (λ l. copied (take n (drop a bytes)) ∷ l) (columns_same bytes bytes' (i + n) ks j h.1 e)

packed_bytes : (bytes : List ℕ) (i : ℕ) (ks : List Slot) (j : ℕ) → Packed i ks j → j ≤ length bytes → i + column_bytes (columns_in bytes ks) ≡ j
packed_bytes bytes i [] j h le = omega (arith, h)
packed_bytes bytes i (Lent p n ∷ ks) j h le = packed_bytes bytes i ks j h le
packed_bytes bytes i (Held a n ∷ ks) j h le =
    let up = packed_up (i + n) ks j h.1 in
    let at = h.0 in
    let long : length (take n (drop a bytes)) ≡ n = rw (length-take, length-drop) (omega arith) in
    let more = packed_bytes bytes (i + n) ks j h.1 le in
    omega arith

packed_at : (i : ℕ) (ks : List Slot) (j x : ℕ) (s d : Slot) (u : ℕ) → Packed i ks j → x < length ks → get_or ks x d ≡ s → u ≤ j → end_of s u ≤ j
packed_at i [] j x s d u h lt e le = absurd (omega arith)
packed_at i (Lent p n ∷ ks) j zero s d u h lt e le = subst (λ s. end_of s u ≤ j) e le
packed_at i (Held a n ∷ ks) j zero s d u h lt e le = let up = packed_up (i + n) ks j h.1 in let at = h.0 in subst (λ s. end_of s u ≤ j) e (omega arith)
packed_at i (Lent p n ∷ ks) j (suc x) s d u h lt e le = packed_at i ks j x s d u h (omega arith) e le
packed_at i (Held a n ∷ ks) j (suc x) s d u h lt e le = packed_at (i + n) ks j x s d u h.1 (omega arith) e le

get_column : (bytes : List ℕ) (ks : List Slot) (x : ℕ) (d : Slot) → x < length ks → drop x (columns_in bytes ks) ≡ column_in bytes (get_or ks x d) ∷ drop (suc x) (columns_in bytes ks)
get_column bytes [] x d lt = absurd (omega arith)
get_column bytes (k ∷ ks) zero d lt = refl
get_column bytes (k ∷ ks) (suc x) d lt = get_column bytes ks x d (omega arith)

-- ---- key room

module _ (r : Inside) (kept : Kept r) where
  taken_long : length (take r.count r.slots) ≡ r.count
  taken_long = let k = kept.few in let a = kept.all in rw length-take (omega arith)

  pub count_long : r.count ≡ length (columns_of r)
  count_long = sym (columns_long r.bytes (take r.count r.slots) ∙ taken_long)

  pub used_bytes : length r.bytes ≡ 4096 → column_bytes (columns_of r) ≡ r.used
  used_bytes bytes = let b = packed_bytes r.bytes 0 (take r.count r.slots) r.used kept.packed (let k = kept.short in omega arith) in omega arith

  -- a key is looked up
  module _ (old : List Column) (is : columns_of r ≡ old) (i : ℕ) (lt : i < length old) where
    within : i < r.count
    within = let w = subst (λ l. i < length l) (sym is) lt in let l = count_long in omega arith

    pub slot_there : i < 256
    slot_there = let w = within in let f = kept.few in omega arith

    in_taken : i < length (take r.count r.slots)
    in_taken = let w = within in rw taken_long (omega arith)

    taken_is : (d : Slot) {s : Slot} → get_or r.slots i d ≡ s → get_or (take r.count r.slots) i d ≡ s
    taken_is d e = get_or-take r.count r.slots i d within ∙ e

    pub found : (d : Slot) {s : Slot} → get_or r.slots i d ≡ s → drop i old ≡ column_in r.bytes s ∷ drop (i + 1) old
    found d {s} e =
        let one : suc i ≡ i + 1 = omega arith in
        ap (drop i) (sym is)
        ∙ get_column r.bytes (take r.count r.slots) i d in_taken
        ∙ ap (λ n. column_in r.bytes (get_or (take r.count r.slots) i d) ∷ drop n (columns_of r)) one
        ∙ ap (λ s. column_in r.bytes s ∷ drop (i + 1) (columns_of r)) (taken_is d e)
        ∙ ap (λ l. column_in r.bytes s ∷ drop (i + 1) l) is

    pub found_within : (d : Slot) {s : Slot} → get_or r.slots i d ≡ s → end_of s 0 ≤ 4096
    found_within d {s} e =
        let k = kept.short in
        let h = packed_at 0 (take r.count r.slots) r.used i s d 0 kept.packed in_taken (taken_is d e) (omega arith) in
        omega arith

  -- the last key is given up
  pub popped_kept : (some : 0 < length (columns_of r)) (d : Slot) (used : ℕ) → used ≡ begin_of (get_or r.slots (r.count - 1) d) r.used →
      Kept (record { slots = r.slots; count = r.count - 1; bytes = r.bytes; used = used })
  popped_kept some d used is =
      let l = count_long in
      let f = kept.few in
      let a = kept.all in
      let k = kept.short in
      let s = get_or r.slots (r.count - 1) d in
      let one : r.count - 1 + 1 ≡ r.count = omega arith in
      let split : take r.count r.slots ≡ take (r.count - 1) r.slots ++ s ∷ [] = ap (λ n. take n r.slots) (sym one) ∙ take_more r.slots (r.count - 1) d (omega arith) in
      let (h, le) = packed_less s 0 (take (r.count - 1) r.slots) r.used (subst (λ l. Packed 0 l r.used) split kept.packed) in
      record { all = kept.all; few = omega arith; short = omega arith; packed = subst (λ u. Packed 0 (take (r.count - 1) r.slots) u) (sym is) h }

  pub popped : columns_in r.bytes (take (r.count - 1) r.slots) ≡ take (length (columns_of r) - 1) (columns_of r)
  popped =
      let fewer : r.count - 1 ≤ r.count = omega arith in
      ap (columns_in r.bytes) (sym (take-take (r.count - 1) r.count r.slots fewer))
      ∙ columns_take r.bytes (r.count - 1) (take r.count r.slots)
      ∙ ap (λ n. take (n - 1) (columns_of r)) count_long

  -- a key comes behind the others
  module _ (more : length (columns_of r) < 256) (k : Column) (bytes' : List ℕ) (same : take r.used bytes' ≡ take r.used r.bytes) (s : Slot) (in_it : Slotted k r.used bytes' s) (slots' : List Slot) (put : slots' ≡ set r.slots r.count s) where
    there : take (r.count + 1) slots' ≡ take r.count r.slots ++ s ∷ []
    there = let l = count_long in let a = kept.all in ap (take (r.count + 1)) put ∙ take_more_set r.slots r.count s (omega arith)

    pub pushed_kept : Kept (record { slots = slots'; count = r.count + 1; bytes = bytes'; used = end_of s r.used })
    pushed_kept =
        let l = count_long in
        record {
          all = ap length put ∙ length-set r.slots r.count s ∙ kept.all;
          few = omega arith;
          short = in_it.fits;
          packed = subst (λ l. Packed 0 l (end_of s r.used)) (sym there) (packed_more s 0 (take r.count r.slots) r.used kept.packed in_it.begins);
        }

    pub pushed : columns_in bytes' (take (r.count + 1) slots') ≡ columns_of r ++ k ∷ []
    pushed =
        ap (columns_in bytes') there
        ∙ columns_append bytes' (take r.count r.slots) (s ∷ [])
        ∙ ap (λ l. l ++ column_in bytes' s ∷ []) (columns_same r.bytes bytes' 0 (take r.count r.slots) r.used kept.packed same)
        ∙ ap (λ k. columns_of r ++ k ∷ []) in_it.column

  -- the free bytes have changed
  pub unchanged : (bytes' : List ℕ) → take r.used bytes' ≡ take r.used r.bytes → columns_in bytes' (take r.count r.slots) ≡ columns_of r
  unchanged bytes' same = columns_same r.bytes bytes' 0 (take r.count r.slots) r.used kept.packed same
