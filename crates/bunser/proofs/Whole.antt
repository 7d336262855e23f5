-- A text that is passed over in one read, or refused in one.
use Rattle.std.proofs.Common.{◌≡◌, ℕ, zero, suc, ◌+◌, Bool, true, false, cond, ltb, [], length, take, Some, None, Ok, Err, Option, Result, sym, refl, ap, ◌∙◌, subst, arith}
use Rattle.std.proofs.lemmas.Bool.{le-ltb, lt-ltb}
use Rattle.source.specs.declared.fault.SourceFault.{SourceFault}
use Rattle.read.specs.declared.Taken.{Taken}
use Rattle.read.specs.declared.Fault.TheVariants as fault
use Rattle.read.specs.Reader.{View, past, room, shortfall, lies, advanced}
use Rattle.format.specs.declared.refusal.ReadError.{ReadError}
use Rattle.format.specs.declared.refusal.ReadError.TheVariants.{End, Stop, Room, Short, Source, Magic, Byte, Negative, TooLong, NotText}
use Rattle.utf8.specs.Utf8.{utf8}
use Rattle.bunser.specs.Outcome.{Outcome, got, bad, and_then, judged, asked, answer, ReadLeaves, Tells}
use Rattle.bunser.specs.Texts.{textual, text_read}
use Rattle.bunser.specs.Passing.{drawn_over, passing, whole_read, pass_read}
use Rattle.bunser.proofs.Telling.{ok_err}

-- a refusal after which a reader that copies has drawn nothing
abbrev pub Undrawn : ReadError → Type 0
Undrawn Short = ⊥
Undrawn (Source code) = ⊥
Undrawn End = Unit {0}
Undrawn Stop = Unit {0}
Undrawn Room = Unit {0}
Undrawn (Magic bytes) = Unit {0}
Undrawn (Byte kind b) = Unit {0}
Undrawn Negative = Unit {0}
Undrawn TooLong = Unit {0}
Undrawn NotText = Unit {0}

drawn_nothing : (e : ReadError) (v : View) → Undrawn e → drawn_over false e v ≡ v
drawn_nothing Short v h = absurd h
drawn_nothing (Source code) v h = absurd h
drawn_nothing End v h = refl
drawn_nothing Stop v h = refl
drawn_nothing Room v h = refl
drawn_nothing (Magic bytes) v h = refl
drawn_nothing (Byte kind b) v h = refl
drawn_nothing Negative v h = refl
drawn_nothing TooLong v h = refl
drawn_nothing NotText v h = refl

lent_nothing : (e : ReadError) (v : View) → drawn_over true e v ≡ v
lent_nothing Short v = refl
lent_nothing (Source code) v = refl
lent_nothing End v = refl
lent_nothing Stop v = refl
lent_nothing Room v = refl
lent_nothing (Magic bytes) v = refl
lent_nothing (Byte kind b) v = refl
lent_nothing Negative v = refl
lent_nothing TooLong v = refl
lent_nothing NotText v = refl

passes : (lends : Bool) (m : Outcome ReadError Taken) (t : Taken) (w : View) → Tells m (Ok t) w → Tells (passing lends m) (Ok tt) w
passes lends (got a u) t w (e, f) = (refl, f)
passes lends (bad x u) t w (e, f) = ok_err e

passes_not : (lends : Bool) (m : Outcome ReadError Taken) (e : ReadError) (w : View) → ((u : View) → drawn_over lends e u ≡ u) → Tells m (Err e) w → Tells (passing lends m) (Err e) w
passes_not lends (got a u) e w stays (p, q) = ok_err (sym p)
passes_not lends (bad x u) e w stays (p, q) =
    let same : x ≡ e = cc in
    (ap Err (sym same), subst (λ y. ReadLeaves x y w) (sym (ap (λ y. drawn_over lends y u) same ∙ stays u)) q)

-- what the read of a text without a buffer comes to, of a reader that copies: it is refused as any
-- read of it would be, or for want of room alone, or it is empty
data Fate (end : Option ℕ) (n : ℕ) (v : View) : Type 0 where
  refused : (e : ReadError) → Undrawn e → asked end v (Some 0) n ≡ Some e → asked end v None n ≡ Some e → (e ≡ Room → ⊥) → Fate end n v
  cramped : asked end v (Some 0) n ≡ Some Room → past end (v.count + n) ≡ false → past v.stop (v.count + n) ≡ false → Fate end n v
  empty : asked end v (Some 0) n ≡ None → asked end v None n ≡ None → Fate end n v

fate : (end : Option ℕ) (n : ℕ) (v : View) → Fate end n v
fate end n v = go (past end (v.count + n)) refl (past v.stop (v.count + n)) refl
  where
    some : (m : ℕ) → n ≡ m → past end (v.count + n) ≡ false → past v.stop (v.count + n) ≡ false → Fate end n v
    some zero e ends stops =
        let none : ltb 0 n ≡ false = le-ltb 0 n (omega arith) in
        let there : ltb (length v.coming) n ≡ false = le-ltb (length v.coming) n (omega arith) in
        empty (rw (ends, stops, none, there) refl) (rw (ends, stops, there) refl)
    some (suc k) e ends stops =
        let more : ltb 0 n ≡ true = lt-ltb 0 n (omega arith) in
        cramped (rw (ends, stops, more) refl) ends stops

    go : (b : Bool) → past end (v.count + n) ≡ b → (c : Bool) → past v.stop (v.count + n) ≡ c → Fate end n v
    go true ends c stops = refused End tt (rw ends refl) (rw ends refl) (λ e. cc)
    go false ends true stops = refused Stop tt (rw (ends, stops) refl) (rw (ends, stops) refl) (λ e. cc)
    go false ends false stops = some n refl ends stops

-- no read without a buffer is refused for want of room
never_room : (end : Option ℕ) (n : ℕ) (v : View) → asked end v None n ≡ Some Room → ⊥
never_room end n v h = go (past end (v.count + n)) (past v.stop (v.count + n)) (ltb (length v.coming) n) v.ending h
  where
    go : (b c d : Bool) (o : Option SourceFault) → judged b (cond c (Some fault.Stop) (cond d (Some (shortfall o)) None)) ≡ Some Room → ⊥
    go true c d o h = cc
    go false true d o h = cc
    go false false true None h = cc
    go false false true (Some f) h = cc
    go false false false o h = cc

module _ (checked lends : Bool) (end : Option ℕ) (n : ℕ) (v : View) where
  whole_bad : (space : Option ℕ) (e : ReadError) → asked end v space n ≡ Some e → whole_read checked lends end space n v ≡ bad e v
  unfolding text_read
  whole_bad space e h = go checked
    where
      go : (b : Bool) → whole_read b lends end space n v ≡ bad e v
      go true = ap (λ o. and_then (answer o v (lies lends v) (advanced lends n v)) (textual (utf8 (take n v.coming)))) h
      go false = ap (λ o. answer o v (lies lends v) (advanced lends n v)) h

  whole_alike : (s t : Option ℕ) → asked end v s n ≡ asked end v t n → whole_read checked lends end s n v ≡ whole_read checked lends end t n v
  unfolding text_read
  whole_alike s t h = go checked
    where
      go : (b : Bool) → whole_read b lends end s n v ≡ whole_read b lends end t n v
      go true = ap (λ o. and_then (answer o v (lies lends v) (advanced lends n v)) (textual (utf8 (take n v.coming)))) h
      go false = ap (λ o. answer o v (lies lends v) (advanced lends n v)) h

  -- what is granted is refused only since it is no text
  whole_no_text : (space : Option ℕ) (e : ReadError) (w : View) → asked end v space n ≡ None → Tells (whole_read checked lends end space n v) (Err e) w → e ≡ NotText
  unfolding text_read
  whole_no_text space e w h = go checked
    where
      told : (b : Bool) → Tells (textual b (lies lends v) (advanced lends n v)) (Err e) w → e ≡ NotText
      told true (p, q) = ok_err (sym p)
      told false (p, q) = cc

      go : (b : Bool) → Tells (whole_read b lends end space n v) (Err e) w → e ≡ NotText
      go true k = told (utf8 (take n v.coming)) (subst (λ o. Tells (and_then (answer o v (lies lends v) (advanced lends n v)) (textual (utf8 (take n v.coming)))) (Err e) w) h k)
      go false k = let z = subst (λ o. Tells (answer o v (lies lends v) (advanced lends n v)) (Err e) w) h k in ok_err (sym z.0)

bad_ok : (e : ReadError) (v w : View) (t : Taken) {P : Type 0} → Tells (bad e v) (Ok t) w → P
bad_ok e v w t (p, q) = ok_err p

bad_is : (e f : ReadError) (v w : View) → Tells {A = Taken} (bad e v) (Err f) w → f ≡ e
bad_is e f v w (p, q) = cc

module _ (checked : Bool) (end : Option ℕ) (n : ℕ) (v w : View) where
  pub passed_whole : (lends : Bool) (t : Taken) → Tells (whole_read checked lends end (room lends []) n v) (Ok t) w → Tells (pass_read checked lends end n v) (Ok tt) w
  unfolding pass_read
  passed_whole true t h = passes true (whole_read checked true end None n v) t w h
  passed_whole false t h =
      elim (fate end n v) [
        | refused e u o p ne ↦ bad_ok e v w t (subst (λ m. Tells m (Ok t) w) (whole_bad checked false end n v (Some 0) e o) h)
        | cramped o a b ↦ bad_ok Room v w t (subst (λ m. Tells m (Ok t) w) (whole_bad checked false end n v (Some 0) Room o) h)
        | empty o p ↦ passes false (whole_read checked false end None n v) t w (subst (λ m. Tells m (Ok t) w) (whole_alike checked false end n v (Some 0) None (o ∙ sym p)) h)
      ]

  pub passed_stop : (lends : Bool) (e : ReadError) → (e ≡ Room → ⊥) → Tells (whole_read checked lends end (room lends []) n v) (Err e) w → Tells (pass_read checked lends end n v) (Err e) w
  unfolding pass_read
  passed_stop true e ne h = passes_not true (whole_read checked true end None n v) e w (lent_nothing e) h
  passed_stop false e ne h =
      elim (fate end n v) [
        | refused x u o p nr ↦
            let is = bad_is x e v w (subst (λ m. Tells m (Err e) w) (whole_bad checked false end n v (Some 0) x o) h) in
            passes_not false (whole_read checked false end None n v) e w (λ y. drawn_nothing e y (subst Undrawn (sym is) u))
            (subst (λ m. Tells m (Err e) w) (whole_alike checked false end n v (Some 0) None (o ∙ sym p)) h)
        | cramped o a b ↦ absurd (ne (bad_is Room e v w (subst (λ m. Tells m (Err e) w) (whole_bad checked false end n v (Some 0) Room o) h)))
        | empty o p ↦
            let k = subst (λ m. Tells m (Err e) w) (whole_alike checked false end n v (Some 0) None (o ∙ sym p)) h in
            passes_not false (whole_read checked false end None n v) e w (λ y. drawn_nothing e y (subst Undrawn (sym (whole_no_text checked false end n v None e w p k)) tt)) k
      ]

  -- for want of room a reader that copies is refused, and only one: then it stays as it was
  pub record Crowded (lends : Bool) : Type 0 where
    pub copies : lends ≡ false
    pub ends : past end (v.count + n) ≡ false
    pub stops : past v.stop (v.count + n) ≡ false
    pub same : w ≡ v

  pub crowded : (lends : Bool) → Tells (whole_read checked lends end (room lends []) n v) (Err Room) w → Crowded lends
  crowded true h = absurd (lent (asked end v None n) refl)
    where
      lent : (o : Option ReadError) → asked end v None n ≡ o → ⊥
      lent None e = let z = whole_no_text checked true end n v None Room w e h in cc
      lent (Some x) e =
          let is = bad_is x Room v w (subst (λ m. Tells m (Err Room) w) (whole_bad checked true end n v None x e) h) in
          never_room end n v (e ∙ ap Some (sym is))
  crowded false h =
      elim (fate end n v) [
        | refused x u o p nr ↦ absurd (nr (sym (bad_is x Room v w (subst (λ m. Tells m (Err Room) w) (whole_bad checked false end n v (Some 0) x o) h))))
        | cramped o a b ↦
            let k : Tells (bad Room v) (Err Room) w = subst (λ m. Tells m (Err Room) w) (whole_bad checked false end n v (Some 0) Room o) h in
            record { copies = refl; ends = a; stops = b; same = k.1 }
        | empty o p ↦ let z = whole_no_text checked false end n v (Some 0) Room w o h in absurd (room_no_text z)
      ]
    where
      room_no_text : Room ≡ NotText → ⊥
      room_no_text e = cc

-- the text is then drawn in pieces, from where the reader stayed
module _ (checked lends : Bool) (end end' : Option ℕ) (n : ℕ) (v w : View) (stays : end' ≡ end) (e : ReadError) (full : e ≡ Room) (h : Tells (whole_read checked lends end (room lends []) n v) (Err e) w) where
  crowd : Crowded checked end n v w lends
  crowd = crowded checked end n v w lends (subst (λ f. Tells (whole_read checked lends end (room lends []) n v) (Err f) w) full h)

  pub then_copies : lends ≡ false
  then_copies = crowd.copies

  pub then_ends : past end' (w.count + n) ≡ false
  then_ends = subst (λ x. past end' (x.count + n) ≡ false) (sym crowd.same) (subst (λ o. past o (v.count + n) ≡ false) (sym stays) crowd.ends)

  pub then_stops : past w.stop (w.count + n) ≡ false
  then_stops = subst (λ x. past x.stop (x.count + n) ≡ false) (sym crowd.same) crowd.stops

  pub then_pieces : (r : Result Unit ReadError) (u : View) → Tells (pass_read checked lends end' n w) r u → Tells (pass_read checked lends end n v) r u
  then_pieces r u k = subst (λ x. Tells (pass_read checked lends end n x) r u) crowd.same (subst (λ o. Tells (pass_read checked lends o n w) r u) stays k)
