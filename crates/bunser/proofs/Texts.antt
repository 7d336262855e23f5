-- How a text is told: its bytes lie where they were put, and are judged there.
use Rattle.std.proofs.Common.{◌≡◌, ℕ, ◌+◌, ◌≤◌, Bool, true, false, cond, List, ◌++◌, length, get_or, take, drop, replicate, IsErrAnd, Some, None, Ok, Err, Option, Result, sym, refl, ap, ◌∙◌, subst, arith, length-append, length-take}
use lib.ListN.{length-replicate}
use Rattle.std.proofs.lemmas.Bool.{le-ltb}
use Rattle.std.proofs.lemmas.List.{take_all, take_at, drop_at}
use Rattle.utf8.specs.Utf8.{utf8}
use Rattle.read.specs.declared.Taken.{Taken}
use Rattle.read.specs.declared.Taken.TheVariants.{Lent}
use Rattle.read.specs.Reader.{View, room, held, advanced, discarded, lies, put, part_of}
use Rattle.format.specs.declared.refusal.ReadError.{ReadError}
use Rattle.format.specs.declared.refusal.ReadError.TheVariants.{Byte, NotText}
use Rattle.format.specs.declared.refusal.Kind.{Kind}
use Rattle.format.specs.declared.refusal.Refusal.{Refusal}
use Rattle.bunser.specs.Outcome.{bad, at, placed, placed_result, asked, answer, ReadLeaves, RefusalLeaves, Tells, TellsAt}
use Rattle.bunser.specs.Reads.{peek_read, bytes_read, fronts}
use Rattle.bunser.specs.Texts.{textual, text_read, text_fronts, begins_key, placed_count, behind_key_tag, key_length_read, referred_at, is_lent, is_text}
use Rattle.bunser.proofs.Telling.{ok_err, then_ok, then_stop, told_placed, on_true, on_false}
use Rattle.bunser.proofs.Asking.{granted, Given, given}
use Rattle.bunser.proofs.Headers.{unplaced}

-- n bytes that were put to a front that long lie there
front_part : (xs ys : List ℕ) (n : ℕ) → length xs ≡ n → part_of (xs ++ ys) 0 n ≡ Some xs
front_part xs ys n long =
    let enough : 0 + n ≤ length (xs ++ ys) = rw length-append (omega arith) in
    ap (λ b. cond b None (Some (take n (xs ++ ys)))) (le-ltb (length (xs ++ ys)) (0 + n) enough) ∙ ap Some (take_at xs ys n long)

-- n bytes behind so many others lie there
back_part : (xs ys : List ℕ) (p n : ℕ) → length xs ≡ p → length ys ≡ n → part_of (xs ++ ys) p n ≡ Some ys
back_part xs ys p n before long =
    let enough : p + n ≤ length (xs ++ ys) = rw length-append (omega arith) in
    let all : length ys ≤ n = omega arith in
    ap (λ b. cond b None (Some (take n (drop p (xs ++ ys))))) (le-ltb (length (xs ++ ys)) (p + n) enough)
    ∙ ap (λ l. Some (take n l)) (drop_at xs ys p before)
    ∙ ap Some (take_all n ys all)

module _ (end : Option ℕ) (n : ℕ) (v w : View) (buf buf' : List ℕ) where
  came : (lends : Bool) (taken : Taken) → Tells (bytes_read lends end (room lends buf) n v) (Ok taken) w → Given (asked end v (room lends buf) n) (lies lends v) (advanced lends n v) taken w
  came lends taken h = given (asked end v (room lends buf) n) v (lies lends v) (advanced lends n v) taken w h

  front_long : (lends : Bool) → asked end v (room lends buf) n ≡ None → length (take n v.coming) ≡ n
  front_long lends e = let there = granted end v (room lends buf) n e in rw length-take (omega arith)

  -- the bytes of a read that was granted lie where it answered
  pub lies_there : (lends : Bool) (taken : Taken) → length v.kept ≡ cond lends v.count 0 → Tells (bytes_read lends end (room lends buf) n v) (Ok taken) w →
      buf' ≡ put lends (fronts (asked end v (room lends buf) n) n v) buf → referred_at lends w taken n buf' ≡ Some (take n v.coming)
  lies_there true taken kept h at =
      let g = came true taken h in
      ap (λ t. referred_at true w t n buf') g.value
      ∙ ap (λ x. referred_at true x (Lent v.count) n buf') g.left
      ∙ back_part v.kept (take n v.coming) v.count n kept (front_long true g.granted_it)
  lies_there false taken kept h at =
      let g = came false taken h in
      ap (λ t. referred_at false w t n buf') g.value
      ∙ ap (λ l. part_of l 0 n) at
      ∙ ap (λ o. part_of (put false (fronts o n v) buf) 0 n) g.granted_it
      ∙ front_part (take n v.coming) (drop (length (take n v.coming)) buf) n (front_long false g.granted_it)

  judged_there : (lends : Bool) (taken : Taken) (b : Bool) → length v.kept ≡ cond lends v.count 0 → Tells (bytes_read lends end (room lends buf) n v) (Ok taken) w →
      buf' ≡ put lends (fronts (asked end v (room lends buf) n) n v) buf → b ≡ is_text (referred_at lends w taken n buf') → utf8 (take n v.coming) ≡ b
  judged_there lends taken b kept h at is = sym (is ∙ ap is_text (lies_there lends taken kept h at))

  pub text_told : (lends : Bool) (taken : Taken) (b : Bool) → length v.kept ≡ cond lends v.count 0 → Tells (bytes_read lends end (room lends buf) n v) (Ok taken) w →
      buf' ≡ put lends (fronts (asked end v (room lends buf) n) n v) buf → b ≡ is_text (referred_at lends w taken n buf') → b ≡ true →
      Tells (text_read lends end (room lends buf) n v) (Ok taken) w × (buf' ≡ put lends (text_fronts (asked end v (room lends buf) n) (utf8 (take n v.coming)) n v) buf)
  unfolding text_read
  text_told lends taken b kept h at is yes_it =
      let u = judged_there lends taken b kept h at is ∙ yes_it in
      let g = came lends taken h in
      let plain : text_fronts (asked end v (room lends buf) n) (utf8 (take n v.coming)) n v ≡ fronts (asked end v (room lends buf) n) n v =
      ap (λ o. text_fronts o (utf8 (take n v.coming)) n v) g.granted_it ∙ ap (λ x. text_fronts None x n v) u ∙ ap (λ o. fronts o n v) (sym g.granted_it) in (
        then_ok ReadLeaves (bytes_read lends end (room lends buf) n v) (textual (utf8 (take n v.coming))) taken w (Ok taken) w h
            (subst (λ x. Tells (textual x taken w) (Ok taken) w) (sym u) (refl, refl)),
        at ∙ ap (λ l. put lends l buf) (sym plain),
      )

  -- where it is no text, zeros stand in its place
  zeroed : (lends : Bool) (taken : Taken) (buf'' : List ℕ) → Given (asked end v (room lends buf) n) (lies lends v) (advanced lends n v) taken w →
      buf' ≡ put lends (fronts (asked end v (room lends buf) n) n v) buf → buf'' ≡ put (is_lent taken) (replicate n 0) buf' → buf'' ≡ put lends (replicate n 0) buf
  zeroed true taken buf'' g at wiped = wiped ∙ ap (λ t. put (is_lent t) (replicate n 0) buf') g.value ∙ at
  zeroed false taken buf'' g at wiped =
      let long : length (take n v.coming) ≡ n = front_long false g.granted_it in
      let none : length (replicate {A = ℕ} n 0) ≡ n = length-replicate n 0 in
      wiped
      ∙ ap (λ t. put (is_lent t) (replicate n 0) buf') g.value
      ∙ ap (λ l. replicate n 0 ++ drop (length (replicate {A = ℕ} n 0)) l) (at ∙ ap (λ o. put false (fronts o n v) buf) g.granted_it)
      ∙ ap (λ k. replicate n 0 ++ drop k (take n v.coming ++ drop (length (take n v.coming)) buf)) none
      ∙ ap (λ l. replicate n 0 ++ l) (drop_at (take n v.coming) (drop (length (take n v.coming)) buf) n long)
      ∙ ap (λ k. replicate n 0 ++ drop k buf) (long ∙ sym none)

  pub no_text_told : (lends : Bool) (taken : Taken) (b : Bool) (buf'' : List ℕ) → length v.kept ≡ cond lends v.count 0 → Tells (bytes_read lends end (room lends buf) n v) (Ok taken) w →
      buf' ≡ put lends (fronts (asked end v (room lends buf) n) n v) buf → b ≡ is_text (referred_at lends w taken n buf') → b ≡ false → buf'' ≡ put (is_lent taken) (replicate n 0) buf' →
      Tells (text_read lends end (room lends buf) n v) (Err NotText) w × (buf'' ≡ put lends (text_fronts (asked end v (room lends buf) n) (utf8 (take n v.coming)) n v) buf)
  unfolding text_read
  no_text_told lends taken b buf'' kept h at is no_it wiped =
      let u = judged_there lends taken b kept h at is ∙ no_it in
      let g = came lends taken h in
      let zeros : text_fronts (asked end v (room lends buf) n) (utf8 (take n v.coming)) n v ≡ replicate n 0 =
      ap (λ o. text_fronts o (utf8 (take n v.coming)) n v) g.granted_it ∙ ap (λ x. text_fronts None x n v) u in (
        then_ok ReadLeaves (bytes_read lends end (room lends buf) n v) (textual (utf8 (take n v.coming))) taken w (Err NotText) w h
            (subst (λ x. Tells (textual x taken w) (Err NotText) w) (sym u) (refl, refl)),
        zeroed lends taken buf'' g at wiped ∙ ap (λ l. put lends l buf) (sym zeros),
      )

  pub text_stop : (lends : Bool) (e : ReadError) (r : Result Taken ReadError) → Tells (bytes_read lends end (room lends buf) n v) (Err e) w → IsErrAnd r (λ f. f ≡ e) →
      buf' ≡ put lends (fronts (asked end v (room lends buf) n) n v) buf →
      Tells (text_read lends end (room lends buf) n v) r w × (buf' ≡ put lends (text_fronts (asked end v (room lends buf) n) (utf8 (take n v.coming)) n v) buf)
  unfolding text_read
  text_stop lends e r h k at = (
    then_stop ReadLeaves (bytes_read lends end (room lends buf) n v) (textual (utf8 (take n v.coming))) e w r h k,
    at ∙ ap (λ l. put lends l buf) (sym (same (asked end v (room lends buf) n) h)),
  )
    where
      same : (o : Option ReadError) → Tells (answer o v (lies lends v) (advanced lends n v)) (Err e) w → text_fronts o (utf8 (take n v.coming)) n v ≡ fronts o n v
      same None h = ok_err (sym h.0)
      same (Some f) h = refl

-- ---- keys

module _ (lends : Bool) (end : Option ℕ) (kind : Kind) (v w : View) (p : ℕ) (here : p ≡ v.count) (r : Result ℕ ReadError) (peeks : Tells (peek_read end v) r w) where
  peek_told : (s : Result ℕ Refusal) → s ≡ placed_result p r → TellsAt (placed v.count (peek_read end v)) s w
  peek_told s is = told_placed (peek_read end v) p v.count r s w here peeks is

  pub key_stop : (f : Refusal) (s : Result ℕ Refusal) → Err f ≡ placed_result p r → IsErrAnd s (λ e. e ≡ f) → TellsAt (key_length_read lends end kind v) s w
  unfolding key_length_read
  key_stop f s is by = then_stop RefusalLeaves (placed v.count (peek_read end v)) (behind_key_tag lends end kind) f w s (peek_told (Err f) is) by

  -- a byte that is shown has not been taken
  shown_here : (t : ℕ) → Ok t ≡ placed_result p r → w.count ≡ v.count
  shown_here t is = ap (λ x. x.count) (given (asked end v None 1) v (get_or v.coming 0 0) (held v) t w (subst (λ r. Tells (peek_read end v) r w) (unplaced p t r is) peeks)).left

  pub no_key : (t : ℕ) (f : Refusal) → Ok t ≡ placed_result p r → begins_key t ≡ false → f ≡ at (Byte kind t) p → TellsAt (key_length_read lends end kind v) (Err f) w
  unfolding key_length_read
  no_key t f is wrong by =
      then_ok RefusalLeaves (placed v.count (peek_read end v)) (behind_key_tag lends end kind) t w (Err f) w (peek_told (Ok t) is)
      (on_false RefusalLeaves (begins_key t) (placed_count lends end (discarded lends w)) (bad (at (Byte kind t) w.count) w) (Err f) w wrong
      (ap Err (by ∙ ap (at (Byte kind t)) (here ∙ sym (shown_here t is))), refl))

  pub key_told : (t : ℕ) (u : View) (s : Result ℕ Refusal) → Ok t ≡ placed_result p r → begins_key t ≡ true → TellsAt (placed_count lends end (discarded lends w)) s u → TellsAt (key_length_read lends end kind v) s u
  unfolding key_length_read
  key_told t u s is right h =
      then_ok RefusalLeaves (placed v.count (peek_read end v)) (behind_key_tag lends end kind) t w s u (peek_told (Ok t) is)
      (on_true RefusalLeaves (begins_key t) (placed_count lends end (discarded lends w)) (bad (at (Byte kind t) w.count) w) s u right h)
