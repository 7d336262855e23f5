-- A text that is drawn in pieces comes to what one read of it would.
use Rattle.std.proofs.Common.{◌≡◌, ℕ, ◌+◌, ◌-◌, ◌*◌, ◌/◌, ◌<◌, ◌≤◌, Bool, true, false, cond, ltb, List, length, take, drop, Some, None, IsErrAnd, Ok, Err, Option, Result, sym, refl, ap, ◌∙◌, subst, arith, length-drop, length-take, take-add}
use Rattle.std.proofs.lemmas.Bool.{le-ltb, lt-ltb, ltb-false, ltb-true}
use Rattle.std.proofs.lemmas.List.{take_all, take_at}
use Rattle.utf8.specs.Utf8.{Await, character, utf8}
use Rattle.utf8.specs.Pieces.{all_turned, complete}
use Rattle.utf8.proofs.Turning.{turned_on, judged_in_pieces}
use Rattle.source.specs.declared.fault.SourceFault.{SourceFault}
use Rattle.read.specs.declared.Taken.{Taken}
use Rattle.read.specs.declared.Taken.TheVariants.{Copied}
use Rattle.read.specs.Reader.{View, Spent, past, room, shortfall, advanced, put}
use Rattle.format.specs.declared.refusal.ReadError.{ReadError}
use Rattle.format.specs.declared.refusal.ReadError.TheVariants.{Short, Source, NotText}
use Rattle.format.specs.Faults.{error_of}
use Rattle.bunser.specs.Outcome.{got, bad, and_then, judged, asked, answer, ReadLeaves, Tells}
use Rattle.bunser.specs.Reads.{bytes_read, fronts}
use Rattle.bunser.specs.Texts.{textual, text_read}
use Rattle.bunser.specs.Passing.{verdict_of, passing, whole_read, pass_read}
use Rattle.bunser.proofs.Telling.{ok_err, err_is}
use Rattle.bunser.proofs.Asking.{granted, Given, given}
use Rattle.bunser.proofs.Granting.{advanced_none, advanced_more}

-- so many bytes of a text are left, the others were drawn in whole pieces
pub record Drawn (n : ℕ) (v w : View) (left : ℕ) (a : Await) : Type 0 where
  pub rest : left ≤ n
  pub whole : 64 * ((n - left) / 64) ≡ n - left
  pub there : n - left ≤ length v.coming
  pub reader : w ≡ advanced false (n - left) v
  pub state : a ≡ all_turned character (take (n - left) v.coming)

pub drawn_none : (n : ℕ) (v : View) → Drawn n v v n character
drawn_none n v =
    let z : 0 ≡ n - n = omega arith in
    record {
      rest = omega arith;
      whole = ap (λ k. 64 * (k / 64)) (sym z) ∙ z;
      there = omega arith;
      reader = sym (advanced_none false v) ∙ ap (λ k. advanced false k v) z;
      state = ap (λ k. all_turned character (take k v.coming)) z;
    }

-- k bytes at the front of a buffer of 64
in_front : (xs piece : List ℕ) (k : ℕ) → length xs ≡ k → take k (put false xs piece) ≡ xs
in_front xs piece k long = take_at xs (drop (length xs) piece) k long

module _ (end : Option ℕ) (n : ℕ) (v w : View) (left : ℕ) (a : Await) (d : Drawn n v w left a) where
  came_at : w.coming ≡ drop (n - left) v.coming
  came_at = ap (λ x. x.coming) d.reader

  came_long : length w.coming ≡ length v.coming - (n - left)
  came_long = ap length came_at ∙ length-drop (n - left) v.coming

  module _ (k : ℕ) (few : k ≤ 64) (within : k ≤ left) where
    sum : (n - left) + k ≡ n - (left - k)
    sum = let r = d.rest in omega arith

    -- a piece has come
    module _ (u : View) (taken : Taken) (h : Tells (bytes_read false end (Some 64) k w) (Ok taken) u) where
      grant : Given (asked end w (Some 64) k) Copied (advanced false k w) taken u
      grant = given (asked end w (Some 64) k) w Copied (advanced false k w) taken u h

      enough : k ≤ length w.coming
      enough = granted end w (Some 64) k grant.granted_it

      pub moved_on : u ≡ advanced false (n - (left - k)) v
      moved_on = grant.left ∙ ap (advanced false k) d.reader ∙ advanced_more false (n - left) k v ∙ ap (λ m. advanced false m v) sum

      pub still_there : n - (left - k) ≤ length v.coming
      still_there = let e = enough in let l = came_long in let r = d.rest in let t = d.there in omega arith

      pub piece_is : (piece piece' : List ℕ) → piece' ≡ put false (fronts (asked end w (Some 64) k) k w) piece → take k piece' ≡ take k w.coming
      piece_is piece piece' at =
          let long : length (take k w.coming) ≡ k = let e = enough in rw length-take (omega arith) in
          ap (take k) (at ∙ ap (λ o. put false (fronts o k w) piece) grant.granted_it) ∙ in_front (take k w.coming) piece k long

      pub turned_by : (b : Await) (bytes : List ℕ) → bytes ≡ take k w.coming → b ≡ all_turned a bytes → b ≡ all_turned character (take (n - (left - k)) v.coming)
      turned_by b bytes are is =
          is ∙ ap (all_turned a) (are ∙ ap (take k) came_at) ∙ ap (λ x. all_turned x (take k (drop (n - left) v.coming))) d.state
          ∙ sym (turned_on character (take (n - left) v.coming) (take k (drop (n - left) v.coming)))
          ∙ ap (all_turned character) (sym (take-add (n - left) k v.coming)) ∙ ap (λ m. all_turned character (take m v.coming)) sum

    -- a piece has not come, and neither does the whole text
    module _ (ends : past end (v.count + n) ≡ false) (stops : past v.stop (v.count + n) ≡ false) where
      before : (s : Option ℕ) → past s (v.count + n) ≡ false → past s (w.count + k) ≡ false
      before None h = refl
      before (Some m) h =
          let c : w.count ≡ v.count + (n - left) = ap (λ x. x.count) d.reader in
          let r = d.rest in
          le-ltb m (w.count + k) (let l = ltb-false m (v.count + n) h in omega arith)

      asked_piece : asked end w (Some 64) k ≡ cond (ltb (length w.coming) k) (Some (error_of (shortfall w.ending))) None
      asked_piece =
          let stop : past w.stop (w.count + k) ≡ false = subst (λ s. past s (w.count + k) ≡ false) (sym (ap (λ x. x.stop) d.reader)) (before v.stop stops) in
          rw (before end ends, stop, le-ltb 64 k few) (go (ltb (length w.coming) k))
        where
          go : (b : Bool) → judged false (cond b (Some (shortfall w.ending)) None) ≡ cond b (Some (error_of (shortfall w.ending))) None
          go true = refl
          go false = refl

      asked_whole : ltb (length v.coming) n ≡ true → asked end v None n ≡ Some (error_of (shortfall v.ending))
      asked_whole short = rw (ends, stops, short) refl

      quotient : length w.coming < k → 64 * (length v.coming / 64) ≡ n - left
      quotient short =
          let l = came_long in
          let t = d.there in
          let q = d.whole in
          omega arith

      whole_refused : (checked : Bool) (f : ReadError) → length w.coming < k → error_of (shortfall v.ending) ≡ f → whole_read checked false end None n v ≡ bad f v
      unfolding text_read
      whole_refused true f short same =
          let l = came_long in let t = d.there in let r = d.rest in
          rw (asked_whole (lt-ltb (length v.coming) n (omega arith)), same) refl
      whole_refused false f short same =
          let l = came_long in let t = d.there in let r = d.rest in
          rw (asked_whole (lt-ltb (length v.coming) n (omega arith)), same) refl

      pub drawn_short : (checked : Bool) (e : ReadError) (u : View) → length w.coming < k → e ≡ error_of (shortfall v.ending) → ReadLeaves e w u → Tells (pass_read checked false end n v) (Err e) u
      unfolding pass_read
      drawn_short checked e u short is leaves = go v.ending refl
        where
          there_again : w ≡ advanced false (64 * (length v.coming / 64)) v
          there_again = d.reader ∙ ap (λ m. advanced false m v) (sym (quotient short))

          go : (o : Option SourceFault) → v.ending ≡ o → Tells (passing false (whole_read checked false end None n v)) (Err e) u
          go None z =
              let s : error_of (shortfall v.ending) ≡ Short = ap (λ o. error_of (shortfall o)) z in
              subst (λ m. Tells (passing false m) (Err e) u) (sym (whole_refused checked Short short s)) (ap Err (is ∙ s), subst (λ x. Spent x u) there_again (subst (λ e. ReadLeaves e w u) (is ∙ s) leaves))
          go (Some f) z =
              let s : error_of (shortfall v.ending) ≡ Source f = ap (λ o. error_of (shortfall o)) z in
              subst (λ m. Tells (passing false m) (Err e) u) (sym (whole_refused checked (Source f) short s)) (ap Err (is ∙ s), subst (λ x. Spent x u) there_again (subst (λ e. ReadLeaves e w u) (is ∙ s) leaves))

      -- a piece is refused only for want of bytes
      pub drawn_stop : (checked : Bool) (e : ReadError) (u : View) → Tells (bytes_read false end (Some 64) k w) (Err e) u → Tells (pass_read checked false end n v) (Err e) u
      drawn_stop checked e u h = go (ltb (length w.coming) k) refl (subst (λ o. Tells (answer o w Copied (advanced false k w)) (Err e) u) asked_piece h)
        where
          go : (b : Bool) → ltb (length w.coming) k ≡ b → Tells (answer (cond b (Some (error_of (shortfall w.ending))) None) w Copied (advanced false k w)) (Err e) u → Tells (pass_read checked false end n v) (Err e) u
          go false z t = ok_err (sym t.0)
          go true z t =
              let same : e ≡ error_of (shortfall w.ending) = cc t.0 in
              let ending : error_of (shortfall w.ending) ≡ error_of (shortfall v.ending) = ap (λ x. error_of (shortfall x.ending)) d.reader in
              drawn_short checked e u (ltb-true (length w.coming) k z) (same ∙ ending) (subst (λ f. ReadLeaves f w u) (sym same) t.1)

  -- the last piece has come
  module _ (ends : past end (v.count + n) ≡ false) (stops : past v.stop (v.count + n) ≡ false) (u : View) (few : left ≤ 64) (taken : Taken) (h : Tells (bytes_read false end (Some 64) left w) (Ok taken) u) where
    all_left : left ≤ left
    all_left = omega arith

    nothing_left : n - (left - left) ≡ n
    nothing_left = let r = d.rest in omega arith

    all_there : n ≤ length v.coming
    all_there = subst (λ m. m ≤ length v.coming) nothing_left (still_there left few all_left u taken h)

    came_all : u ≡ advanced false n v
    came_all = moved_on left few all_left u taken h ∙ ap (λ m. advanced false m v) nothing_left

    granted_whole : asked end v None n ≡ None
    granted_whole = rw (ends, stops, le-ltb (length v.coming) n all_there) refl

    whole_granted : bytes_read false end None n v ≡ got Copied (advanced false n v)
    whole_granted = ap (λ o. answer o v Copied (advanced false n v)) granted_whole

    passed_unchecked : Tells (pass_read false false end n v) (Ok tt) u
    unfolding pass_read
    passed_unchecked = subst (λ m. Tells (passing false m) (Ok tt) u) (sym whole_granted) (refl, came_all)

    module _ (piece piece' part : List ℕ) (b : Await) (at : piece' ≡ put false (fronts (asked end w (Some 64) left) left w) piece) (cut : part ≡ take left piece') (is : b ≡ all_turned a part) where
      verdict : utf8 (take n v.coming) ≡ complete b
      verdict =
          judged_in_pieces (take n v.coming)
          ∙ ap (λ m. complete (all_turned character (take m v.coming))) (sym nothing_left)
          ∙ ap complete (sym (turned_by left few all_left u taken h b part (cut ∙ piece_is left few all_left u taken h piece piece' at) is))

      passed_text : complete b ≡ true → Tells (pass_read true false end n v) (Ok tt) u
      unfolding pass_read text_read
      passed_text good =
          subst (λ m. Tells (passing false (and_then m (textual (utf8 (take n v.coming))))) (Ok tt) u) (sym whole_granted)
          (subst (λ x. Tells (passing false (textual x Copied (advanced false n v))) (Ok tt) u) (sym (verdict ∙ good)) (refl, came_all))

      passed_no_text : complete b ≡ false → Tells (pass_read true false end n v) (Err NotText) u
      unfolding pass_read text_read
      passed_no_text wrong =
          subst (λ m. Tells (passing false (and_then m (textual (utf8 (take n v.coming))))) (Err NotText) u) (sym whole_granted)
          (subst (λ x. Tells (passing false (textual x Copied (advanced false n v))) (Err NotText) u) (sym (verdict ∙ wrong)) (refl, came_all))

      pub passed_over : (checked : Bool) (r : Result Unit ReadError) → r ≡ verdict_of checked (complete b) → Tells (pass_read checked false end n v) r u
      passed_over false r told = subst (λ r. Tells (pass_read false false end n v) r u) (sym told) passed_unchecked
      passed_over true r told = go (complete b) refl told
        where
          go : (x : Bool) → complete b ≡ x → r ≡ verdict_of true x → Tells (pass_read true false end n v) r u
          go true z q = subst (λ r. Tells (pass_read true false end n v) r u) (sym q) (passed_text z)
          go false z q = subst (λ r. Tells (pass_read true false end n v) r u) (sym q) (passed_no_text z)

  pub drawn_more : (u : View) (taken : Taken) (piece piece' : List ℕ) (b : Await) → 64 ≤ left → length piece' ≡ 64 → Tells (bytes_read false end (Some 64) 64 w) (Ok taken) u →
      piece' ≡ put false (fronts (asked end w (Some 64) 64) 64 w) piece → b ≡ all_turned a piece' → Drawn n v u (left - 64) b
  drawn_more u taken piece piece' b more long h at is =
      let few : 64 ≤ 64 = omega arith in
      let r = d.rest in
      let q = d.whole in
      record {
        rest = omega arith;
        whole = omega arith;
        there = still_there 64 few more u taken h;
        reader = moved_on 64 few more u taken h;
        state = turned_by 64 few more u taken h b piece' (sym (take_all 64 piece' (omega arith)) ∙ piece_is 64 few more u taken h piece piece' at) is;
      }

-- a read of a piece of a reader that copies
module _ (lends : Bool) (end end' : Option ℕ) (piece : List ℕ) (k : ℕ) (w : View) (copies : lends ≡ false) (ends : end ≡ end') (long : length piece ≡ 64) where
  piece_read : (r : Result Taken ReadError) (u : View) → Tells (bytes_read lends end (room lends piece) k w) r u → Tells (bytes_read false end' (Some 64) k w) r u
  piece_read r u h =
      subst (λ m. Tells (bytes_read false end' (Some m) k w) r u) long
      (subst (λ x. Tells (bytes_read false x (Some (length piece)) k w) r u) ends
      (subst (λ b. Tells (bytes_read b end (room b piece) k w) r u) copies h))

  piece_put : (piece' : List ℕ) → piece' ≡ put lends (fronts (asked end w (room lends piece) k) k w) piece → piece' ≡ put false (fronts (asked end' w (Some 64) k) k w) piece
  piece_put piece' at =
      at
      ∙ ap (λ b. put b (fronts (asked end w (room b piece) k) k w) piece) copies
      ∙ ap (λ x. put false (fronts (asked x w (Some (length piece)) k) k w) piece) ends
      ∙ ap (λ m. put false (fronts (asked end' w (Some m) k) k w) piece) long

-- a piece of a reader that copies, behind those that were drawn
module _ (lends : Bool) (end end' : Option ℕ) (n : ℕ) (v w : View) (left : ℕ) (a : Await) (piece : List ℕ) (d : Drawn n v w left a) (copies : lends ≡ false) (same : end ≡ end') (long : length piece ≡ 64) where
  -- a whole piece has come, and more of the text is left
  pub piece_more : (less : ℕ) (u : View) (taken : Taken) (piece' : List ℕ) (b : Await) → 64 ≤ left → left - 64 ≡ less → length piece' ≡ 64 → Tells (bytes_read lends end (room lends piece) 64 w) (Ok taken) u →
      piece' ≡ put lends (fronts (asked end w (room lends piece) 64) 64 w) piece → b ≡ all_turned a piece' → Drawn n v u less b
  piece_more less u taken piece' b more is long' h put turned =
      subst (λ k. Drawn n v u k b) is (drawn_more end' n v w left a d u taken piece piece' b more long' (piece_read lends end end' piece 64 w copies same long (Ok taken) u h) (piece_put lends end end' piece 64 w copies same long piece' put) turned)

  module _ (checked : Bool) (ends : past end' (v.count + n) ≡ false) (stops : past v.stop (v.count + n) ≡ false) where
    by_copy : (r : Result Unit ReadError) (u : View) → Tells (pass_read checked false end' n v) r u → Tells (pass_read checked lends end' n v) r u
    by_copy r u = subst (λ b. Tells (pass_read checked b end' n v) r u) (sym copies)

    -- a `?` behind it
    pub piece_stop : (k : ℕ) (u : View) (e : ReadError) (r : Result Unit ReadError) → k ≤ 64 → k ≤ left → Tells (bytes_read lends end (room lends piece) k w) (Err e) u → IsErrAnd r (λ f. f ≡ e) → Tells (pass_read checked lends end' n v) r u
    piece_stop k u e r few within h by =
        let told = drawn_stop end' n v w left a d k few within ends stops checked e u (piece_read lends end end' piece k w copies same long (Err e) u h) in
        by_copy r u (subst (λ r. Tells (pass_read checked false end' n v) r u) (sym (err_is r e by)) told)

    -- the last piece has come
    pub piece_last : (u : View) (taken : Taken) (piece' part : List ℕ) (b : Await) (r : Result Unit ReadError) → left ≤ 64 → Tells (bytes_read lends end (room lends piece) left w) (Ok taken) u →
        piece' ≡ put lends (fronts (asked end w (room lends piece) left) left w) piece → part ≡ take left piece' → b ≡ all_turned a part → r ≡ verdict_of checked (complete b) → Tells (pass_read checked lends end' n v) r u
    piece_last u taken piece' part b r few h put cut turned told =
        let came = piece_read lends end end' piece left w copies same long (Ok taken) u h in
        let at = piece_put lends end end' piece left w copies same long piece' put in
        by_copy r u (passed_over end' n v w left a d ends stops u few taken came piece piece' part b at cut turned checked r told)
