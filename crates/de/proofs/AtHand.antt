-- Plain cells that are at hand pass over as they would event by event.
use Rattle.std.proofs.Common.{◌≡◌, ℕ, suc, ◌+◌, ◌-◌, ◌*◌, ◌<◌, ◌≤◌, Bool, true, false, cond, eqb, ltb, List, [], ◌∷◌, ◌++◌, length, take, drop, slice_index, pos, negsuc, Some, None, Ok, Option, Result, nat_le, sym, refl, ap, ap₂, ◌∙◌, subst, add-zero, arith, take-append-drop, length-append}
use Rattle.std.proofs.lemmas.Bool.{eqb-true, ltb-true, ltb-false, lt-ltb}
use Rattle.std.proofs.lemmas.List.{drop-append-le, take-append-le}
use Rattle.read.specs.Reader.{View, advanced, lies, passable}
use Rattle.read.specs.Reader.{past as is_past}
use Rattle.read.specs.Reader.{held as held_of}
use Rattle.format.specs.Integers.{bytes_of, little_endian, twos_complement}
use Rattle.format.specs.declared.width.Width.{Width}
use Rattle.format.specs.declared.width.Width.TheVariants.{W8, W16, W32, W64}
use Rattle.format.specs.declared.tags.Tag.{Tag}
use Rattle.format.specs.declared.tags.NoTag.{NoTag}
use Rattle.utf8.specs.Utf8.{utf8}
use Rattle.bunser.specs.declared.text.TextKind.{TextKind}
use Rattle.bunser.specs.declared.text.TextKind.TheVariants as text
use Rattle.bunser.specs.declared.text.Unread.{Unread}
use Rattle.bunser.specs.Outcome.{got, and_then, placed, answer}
use Rattle.bunser.specs.Reads.{peek_read, int_read, int_width, behind_tag, tagged_int_read, count_of, told_as, count_read}
use Rattle.bunser.specs.Texts.{placed_count, textual, text_read}
use Rattle.bunser.proofs.Granting.{some_none, Granted, none_asked, granted_less, granted_on, advanced_none, advanced_more}
use Rattle.room.specs.Open.{Column, Open, due, filled, row_columns, row_turned, within_row, past_row}
use Rattle.room.specs.declared.due.Due.TheVariants.{Cell}
use Rattle.de.specs.declared.event.Event.{Event}
use Rattle.de.specs.declared.event.Event.TheVariants as event
use Rattle.de.specs.declared.event.Ahead.TheVariants as ahead
use Rattle.de.specs.Steps.{Body, moved, behind, awaiting, comes, passes, awaits, reading, int_comes, real_comes, text_comes, tag_comes, tagged, item_comes, coming, finishing, text_step, text_by, behind_text, text_front, text_puts, text_space, text_outcome, step}
use Rattle.de.specs.Calls.{PassesOver, Skip}
use Rattle.de.specs.Rows.{staged, counted_by}
use Rattle.de.specs.AtHand.{short_len, size_behind, size_of_utf8, size_if_utf8, utf8_size, size_by, plain_size, PlainCells, none, more}
use Rattle.de.proofs.Rows.{cell_comes}
use Rattle.de.proofs.RowPass.{Within, row_begins, due_it, one_more, row_ends}

none_some : {A P : Type 0} {a : A} → ◌≡◌ {A = Option A} None (Some a) → P
none_some e = some_none (sym e)

where_true : {P : Type 0} {c : ℕ} (b : Bool) {x : Option ℕ} → cond b x None ≡ Some c → (b ≡ true → x ≡ Some c → P) → P
where_true true e h = h refl e
where_true false e h = none_some e

by_test : {A P : Type 0} {c : ℕ} (f : A → Option ℕ) (b : Bool) {x y : A} → (b ≡ true → f x ≡ Some c → P) → (f y ≡ Some c → P) → f (cond b x y) ≡ Some c → P
by_test f true h k e = h refl e
by_test f false h k e = k e

-- ---- granted reads of what begins with these bytes

module _ (lends : Bool) (end : Option ℕ) (u : View) where
  shows : (t : ℕ) (rest : List ℕ) → u.coming ≡ t ∷ rest → Granted end u None 1 → peek_read end u ≡ got t (held_of u)
  shows t rest front g =
      ap (λ o. answer o u (slice_index u.coming 0) (held_of u)) (none_asked g) ∙ ap (λ l. got (slice_index l 0) (held_of u)) front

  int_given : (w : Width) → Granted end u None (bytes_of w) → int_read lends end w u ≡ got (twos_complement w (little_endian (take (bytes_of w) u.coming))) (advanced lends (bytes_of w) u)
  int_given w g = ap (λ o. answer o u (twos_complement w (little_endian (take (bytes_of w) u.coming))) (advanced lends (bytes_of w) u)) (none_asked g)

-- a count of one byte
module _ (lends : Bool) (end : Option ℕ) (u : View) (n : ℕ) (rest : List ℕ) (front : u.coming ≡ 0x03 ∷ n ∷ rest) (low : n < 128) (g : Granted end u None 2) where
  short_count : placed_count lends end u ≡ got n (advanced lends 1 (advanced lends 1 u))
  unfolding count_read tagged_int_read
  short_count =
      let u1 = advanced lends 1 u in
      let behind : u1.coming ≡ n ∷ rest = ap (drop 1) front in
      let value : twos_complement W8 (little_endian (take 1 u1.coming)) ≡ pos n =
      ap (λ l. twos_complement W8 (little_endian (take 1 l))) behind ∙ ap (twos_complement W8) (add-zero n) ∙ ap (λ b. cond b (pos n) (negsuc (256 - suc n))) (lt-ltb n 128 low) in
      ap (λ m. placed u.count (and_then (and_then m (λ t w. behind_tag lends end (int_width t) w)) (λ z w. told_as (count_of z) w))) (shows lends end u 0x03 (n ∷ rest) front (granted_less 1 (omega arith) g))
      ∙ ap (λ m. placed u.count (and_then m (λ z w. told_as (count_of z) w))) (int_given lends end u1 W8 (granted_on lends 1 1 g))
      ∙ ap (λ z. placed u.count (told_as (count_of z) (advanced lends 1 u1))) value

-- ---- cells

roomless : (lends : Bool) → text_space lends None ≡ None
roomless true = refl
roomless false = refl

module _ (lends : Bool) (b : Body) (calm : b.unread ≡ None) (due_now : due b.opens ≡ Cell) where
  abbrev u : View
  u = b.reader

  -- its tag is shown
  abbrev shown : Body
  shown = moved b (held_of u)

  -- so many bytes of it are taken
  abbrev Passes : ℕ → Type 0
  Passes c = PassesOver lends (step lends None b) (Ok true) (behind b (advanced lends c u) (filled b.opens))

  comes_tagged : (t : ℕ) (rest : List ℕ) → u.coming ≡ t ∷ rest → Granted b.end u None 1 → coming lends b ≡ tagged lends true t shown
  unfolding item_comes
  comes_tagged t rest front g = cell_comes lends b calm due_now ∙ ap (λ m. reading (placed u.count m) b (λ t v. tagged lends true t (moved b v))) (shows lends b.end u t rest front g)

  by_event : (e : Event) (c : ℕ) → coming lends b ≡ passes e shown (advanced lends c u) (filled b.opens) → Passes c
  unfolding step
  by_event e c is = subst (λ m. PassesOver lends (finishing lends None m) (Ok true) (behind b (advanced lends c u) (filled b.opens))) (sym is) (refl, refl)

  number : (w : Width) (t : ℕ) (rest : List ℕ) → u.coming ≡ t ∷ rest → tagged lends true t shown ≡ int_comes lends w shown → Granted b.end u None (1 + bytes_of w) → Passes (1 + bytes_of w)
  unfolding int_comes
  number w t rest front is g =
      let u1 = advanced lends 1 u in
      let z = twos_complement w (little_endian (take (bytes_of w) u1.coming)) in
      by_event (event.Int w z) (1 + bytes_of w)
      (comes_tagged t rest front (granted_less 1 (omega arith) g) ∙ is
      ∙ ap (λ m. reading (placed u.count m) shown (λ z v. passes (event.Int w z) shown v (filled b.opens))) (int_given lends b.end u1 w (granted_on lends 1 (bytes_of w) g))
      ∙ ap (λ v. passes (event.Int w z) shown v (filled b.opens)) (advanced_more lends 1 (bytes_of w) u))

  real : (rest : List ℕ) → u.coming ≡ 0x07 ∷ rest → Granted b.end u None 9 → Passes 9
  unfolding tagged real_comes
  real rest front g =
      let u1 = advanced lends 1 u in
      let x = little_endian (take 8 u1.coming) in
      by_event (event.Real x) 9
      (comes_tagged 0x07 rest front (granted_less 1 (omega arith) g)
      ∙ ap (λ o. reading (placed u.count (answer o u1 x (advanced lends 8 u1))) shown (λ x v. passes (event.Real x) shown v (filled b.opens))) (none_asked (granted_on lends 1 8 g))
      ∙ ap (λ v. passes (event.Real x) shown v (filled b.opens)) (advanced_more lends 1 8 u))

  only_tag : (e : Event) (t : ℕ) (rest : List ℕ) → u.coming ≡ t ∷ rest → tagged lends true t shown ≡ tag_comes lends e shown → Granted b.end u None 1 → Passes 1
  unfolding tag_comes
  only_tag e t rest front is g = by_event e 1 (comes_tagged t rest front g ∙ is)

  -- the bytes of a text are granted and are what they have to be
  abbrev Reads : TextKind → ℕ → List ℕ → Type 0
  Reads k n rest = (v : View) → v.coming ≡ rest → Granted b.end v None n → text_outcome k lends b.end None n v ≡ got (lies lends v) (advanced lends n v)

  bytes_read_so : (n : ℕ) (rest : List ℕ) → Reads text.Bytes n rest
  bytes_read_so n rest v front g = ap (λ o. answer o v (lies lends v) (advanced lends n v)) (none_asked g)

  text_read_so : (n : ℕ) (rest : List ℕ) → utf8 (take n rest) ≡ true → Reads text.Text n rest
  unfolding text_read
  text_read_so n rest is v front g =
      ap (λ m. and_then m (textual (utf8 (take n v.coming)))) (bytes_read_so n rest v front g)
      ∙ ap (λ b. textual b (lies lends v) (advanced lends n v)) (ap (λ l. utf8 (take n l)) front ∙ is)

  -- a text whose length is written in one byte
  module _ (k : TextKind) (fills : (o : List (Open Column)) → behind_text k o ≡ filled o) (t : ℕ) (same : tagged lends true t shown ≡ text_comes lends k shown) where
    short : (n : ℕ) (rest : List ℕ) → Reads k n rest → u.coming ≡ t ∷ 0x03 ∷ n ∷ rest → n < 128 → Granted b.end u None (3 + n) → Passes (3 + n)
    unfolding text_comes text_step step
    short n rest reads front low g =
        let u1 = advanced lends 1 u in
        let u3 = advanced lends 1 (advanced lends 1 u1) in
        let unread : Unread = record { kind = k; len = n } in
        let sum : u3 ≡ advanced lends 3 u = ap (advanced lends 1) (advanced_more lends 1 1 u) ∙ advanced_more lends 2 1 u in
        let found : coming lends b ≡ comes (ahead.Text unread) (awaiting shown u3 unread) =
        comes_tagged t (0x03 ∷ n ∷ rest) front (granted_less 1 (omega arith) g) ∙ same
        ∙ ap (λ m. reading m shown (awaits k shown)) (short_count lends b.end u1 n rest (ap (drop 1) front) low (granted_on lends 1 2 (granted_less 3 (omega arith) g))) in
        let bytes : text_outcome k lends b.end (text_space lends None) n u3 ≡ got (lies lends u3) (advanced lends n u3) =
        ap (λ s. text_outcome k lends b.end s n u3) (roomless lends)
        ∙ reads u3 (ap (λ v. v.coming) sum ∙ ap (drop 3) front) (subst (λ v. Granted b.end v None n) (sym sum) (granted_on lends 3 n g)) in
        subst (λ m. PassesOver lends (finishing lends None m) (Ok true) (behind b (advanced lends (3 + n) u) (filled b.opens))) (sym found)
        (subst (λ o. PassesOver lends (text_by (placed u3.count o) unread (awaiting shown u3 unread) (text_front lends (text_puts k b.end (text_space lends None) n u3))) (Ok true) (behind b (advanced lends (3 + n) u) (filled b.opens))) (sym bytes)
        (refl, ap₂ (λ v o. behind b v o) (sym (ap (advanced lends n) sum ∙ advanced_more lends 3 n u)) (sym (fills b.opens))))

    -- what is at hand of it begins with its length
    text_passes : (xs ys : List ℕ) (n : ℕ) → u.coming ≡ t ∷ (xs ++ ys) → short_len (t ∷ xs) ≡ Some n → ((rest : List ℕ) → xs ≡ 0x03 ∷ n ∷ rest → Reads k n (rest ++ ys)) → Granted b.end u None (3 + n) → Passes (3 + n)
    text_passes [] ys n front e reads g = none_some e
    text_passes (m ∷ []) ys n front e reads g = none_some e
    text_passes (m ∷ l ∷ xs) ys n front e reads g =
        where_true (ltb 2 (length (t ∷ m ∷ l ∷ xs))) e
        (λ _ e. where_true (eqb m 0x03) e
        (λ is e. where_true (ltb l 128) e
        (λ low e.
        let size : l ≡ n = cc in
        let begins : m ∷ l ∷ xs ≡ 0x03 ∷ n ∷ xs = ap₂ (λ m l. m ∷ l ∷ xs) (eqb-true m 0x03 is) size in
        short n (xs ++ ys) (reads xs begins) (front ∙ ap (λ l. t ∷ (l ++ ys)) begins) (subst (λ l. l < 128) size (ltb-true l 128 low)) g)))

  bytes_passes : (xs ys : List ℕ) (c : ℕ) (o : Option ℕ) → u.coming ≡ 0x02 ∷ (xs ++ ys) → short_len (0x02 ∷ xs) ≡ o → size_behind o ≡ Some c → Granted b.end u None c → Passes c
  unfolding tagged
  bytes_passes xs ys c None front len e g = none_some e
  bytes_passes xs ys c (Some n) front len e g =
      let size : 3 + n ≡ c = cc in
      subst Passes size (text_passes text.Bytes (λ o. refl) 0x02 refl xs ys n front len (λ rest is. bytes_read_so n (rest ++ ys)) (subst (Granted b.end u None) (sym size) g))

  utf8_passes : (xs ys : List ℕ) (c : ℕ) (o : Option ℕ) → u.coming ≡ 0x0d ∷ (xs ++ ys) → short_len (0x0d ∷ xs) ≡ o → size_if_utf8 o (0x0d ∷ xs) ≡ Some c → Granted b.end u None c → Passes c
  unfolding tagged
  utf8_passes xs ys c None front len e g = none_some e
  utf8_passes xs ys c (Some n) front len e g = go (ltb (length (0x0d ∷ xs)) (3 + n)) refl (utf8 (take n (drop 3 (0x0d ∷ xs)))) refl e
    where
      go : (far : Bool) → ltb (length (0x0d ∷ xs)) (3 + n) ≡ far → (valid : Bool) → utf8 (take n (drop 3 (0x0d ∷ xs))) ≡ valid → size_of_utf8 n (cond far None (Some (take n (drop 3 (0x0d ∷ xs))))) ≡ Some c → Passes c
      go true near valid is e = none_some e
      go false near false is e = none_some (ap (λ b. cond b (Some (3 + n)) None) (sym is) ∙ e)
      go false near true is e =
          let size : 3 + n ≡ c = (let e = ap (λ b. cond b (Some (3 + n)) None) (sym is) ∙ e in cc) in
          let long = ltb-false (length (0x0d ∷ xs)) (3 + n) near in
          subst Passes size
          (text_passes text.Text (λ o. refl) 0x0d refl xs ys n front len
          (λ rest begins.
          let size = ap length begins in
          text_read_so n (rest ++ ys) (ap utf8 (take-append-le n rest ys (omega (arith, long, size))) ∙ ap (λ l. utf8 (take n (drop 2 l))) (sym begins) ∙ is))
          (subst (Granted b.end u None) (sym size) g))

  -- a plain cell
  pub plain_passes : (xs ys : List ℕ) (c : ℕ) → u.coming ≡ xs ++ ys → plain_size xs ≡ Some c → Granted b.end u None c → Passes c
  unfolding tagged
  plain_passes [] ys c front e g = none_some e
  plain_passes (t ∷ xs) ys c front e g =
      let f = λ (r : Result Tag NoTag). size_by r (t ∷ xs) in
      let at = λ (k : ℕ) (is : eqb t k ≡ true). front ∙ ap (λ t. t ∷ (xs ++ ys)) (eqb-true t k is) in
      let grant = λ (m : ℕ) (size : m ≡ c). subst (Granted b.end u None) (sym size) g in
      let int = λ (w : Width) (k : ℕ) (is : eqb t k ≡ true) (e : Some (1 + bytes_of w) ≡ Some c) (same : tagged lends true k shown ≡ int_comes lends w shown).
      let size : 1 + bytes_of w ≡ c = cc in
      subst Passes size (number w k (xs ++ ys) (at k is) same (grant (1 + bytes_of w) size)) in
      let only = λ (v : Event) (k : ℕ) (is : eqb t k ≡ true) (e : Some 1 ≡ Some c) (same : tagged lends true k shown ≡ tag_comes lends v shown).
      let size : 1 ≡ c = cc in
      subst Passes size (only_tag v k (xs ++ ys) (at k is) same (grant 1 size)) in
      by_test f (eqb t 0x00) (λ _ e. none_some e)
      (by_test f (eqb t 0x01) (λ _ e. none_some e)
      (by_test f (eqb t 0x02) (λ is e. bytes_passes xs ys c (short_len (0x02 ∷ xs)) (at 0x02 is) refl (ap (λ t. size_behind (short_len (t ∷ xs))) (sym (eqb-true t 0x02 is)) ∙ e) g)
      (by_test f (eqb t 0x03) (λ is e. int W8 0x03 is e refl)
      (by_test f (eqb t 0x04) (λ is e. int W16 0x04 is e refl)
      (by_test f (eqb t 0x05) (λ is e. int W32 0x05 is e refl)
      (by_test f (eqb t 0x06) (λ is e. int W64 0x06 is e refl)
      (by_test f (eqb t 0x07) (λ is e. let size : 9 ≡ c = cc in subst Passes size (real (xs ++ ys) (at 0x07 is) (grant 9 size)))
      (by_test f (eqb t 0x08) (λ is e. only event.True 0x08 is e refl)
      (by_test f (eqb t 0x09) (λ is e. only event.False 0x09 is e refl)
      (by_test f (eqb t 0x0a) (λ is e. only event.Null 0x0a is e refl)
      (by_test f (eqb t 0x0b) (λ _ e. none_some e)
      (by_test f (eqb t 0x0c) (λ is e. only event.Absent 0x0c is e refl)
      (by_test f (eqb t 0x0d) (λ is e. utf8_passes xs ys c (short_len (0x0d ∷ xs)) (at 0x0d is) refl (ap (λ t. utf8_size (t ∷ xs)) (sym (eqb-true t 0x0d is)) ∙ e) g)
      (λ e. none_some e)))))))))))))) e

-- ---- the cells of a row

long_plain : {xs : List ℕ} {k s : ℕ} → PlainCells xs k s → s ≤ length xs
long_plain none = omega arith
long_plain (more p e far) = far

module _ (lends : Bool) (b : Body) (n : ℕ) (calm : b.unread ≡ None) (columns : row_columns b.opens ≡ Some n) (few : n ≤ 256) where
  -- so many bytes are taken
  abbrev past : ℕ → Body
  past s = moved b (advanced lends s b.reader)

  pub cells_pass : (xs ys : List ℕ) (k s : ℕ) → b.reader.coming ≡ xs ++ ys → Granted b.end b.reader None s → PlainCells xs k s → k ≤ n → Within lends b n k (past s)
  cells_pass xs ys k s front g none le = subst (λ v. Within lends b n 0 (moved b v)) (sym (advanced_none lends b.reader)) (row_begins lends b n calm columns few)
  cells_pass xs ys k s front g (more {k = m} {s = l} {c = c} p e far) le =
      let w = cells_pass xs ys m l front (granted_less l (omega arith) g) p (omega (arith, le)) in
      let o = row_turned (within_row m b.opens) in
      let j = counted_by (2 + 2 * m) b.events in
      let rest : (advanced lends l b.reader).coming ≡ drop l xs ++ ys = ap (drop l) front ∙ drop-append-le l xs ys (long_plain p) in
      one_more lends b n calm columns few m (past l) w (omega (arith, le)) (past (l + c)) (record { opens = refl; events = refl; end = refl }) refl
      (subst (λ v. PassesOver lends (step lends None (staged (past l) o j)) (Ok true) (behind (staged (past (l + c)) o j) v (filled o))) (advanced_more lends l c b.reader)
      (plain_passes lends (staged (past l) o j) calm (due_it lends b n calm columns few m (past l) w (omega (arith, le))) (drop l xs) ys c rest e (granted_on lends l c g)))

  -- what is at hand is what comes first
  module _ (xs : List ℕ) (reach : ℕ) (at_hand : xs ≡ take reach b.reader.coming) (k s : ℕ) (plain : PlainCells xs k s) where
    front : b.reader.coming ≡ xs ++ drop reach b.reader.coming
    front = sym (take-append-drop reach b.reader.coming) ∙ ap (λ l. l ++ drop reach b.reader.coming) (sym at_hand)

    there : s ≤ length b.reader.coming
    there = let far = long_plain plain in let long = ap length front ∙ length-append xs (drop reach b.reader.coming) in omega (arith, far, long)

    -- all of them were taken
    pub taken_pass : (c : Body) → k ≡ n → cond (is_past b.end (b.reader.count + s)) false (passable reach b.reader s) ≡ true → c ≡ moved b (advanced lends s b.reader) → Skip lends b (Ok (2 + 2 * n)) (staged c (past_row c.opens) (counted_by (2 + 2 * n) c.events))
    taken_pass c all ok is = go (is_past b.end (b.reader.count + s)) (is_past b.reader.stop (b.reader.count + s)) refl refl ok
      where
        go : (p q : Bool) → is_past b.end (b.reader.count + s) ≡ p → is_past b.reader.stop (b.reader.count + s) ≡ q → cond p false (cond q false (nat_le s (length (take reach b.reader.coming)))) ≡ true → Skip lends b (Ok (2 + 2 * n)) (staged c (past_row c.opens) (counted_by (2 + 2 * n) c.events))
        go true q e f h = absurd (cc)
        go false true e f h = absurd (cc)
        go false false e f h =
            let g : Granted b.end b.reader None s = record { before_end = e; before_stop = f; roomy = refl; there = there } in
            row_ends lends b n calm columns few k c (subst (Within lends b n k) (sym is) (cells_pass xs (drop reach b.reader.coming) k s front g plain (omega (arith, all)))) (omega (arith, all))
