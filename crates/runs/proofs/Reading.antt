-- What a read comes to: what it has taken where it gives, and what it leaves where it is refused.
use Rattle.std.proofs.Common.{◌≡◌, ℕ, ◌+◌, ◌≤◌, Bool, true, false, cond, ltb, List, [], ◌∷◌, length, take, get_or, Some, None, Option, sym, refl, ap, subst, arith}
use Rattle.std.proofs.lemmas.List.{take-append-drop, length-take-le}
use Rattle.source.specs.declared.fault.SourceFault.{SourceFault}
use Rattle.read.specs.declared.Fault.TheVariants as fault
use Rattle.read.specs.Reader.{View, past, held, advanced, discarded, shortfall}
use Rattle.format.specs.Numbers.{latching, read_latching}
use Rattle.format.specs.declared.refusal.ReadError.{ReadError}
use Rattle.format.specs.declared.refusal.ReadError.TheVariants.{End, Stop, Short, Source}
use Rattle.format.specs.declared.refusal.Refusal.{Refusal}
use Rattle.format.specs.declared.refusal.Cause.{Cause}
use Rattle.bunser.specs.Outcome.{Outcome, got, bad, and_then, placed, judged, asked, answer}
use Rattle.bunser.specs.Reads.{peek_read}
use Rattle.bunser.proofs.Granting.{some_none, Granted, asked_none}
use Rattle.runs.proofs.Took.{took_none, Gotten, gotten_as}

-- ---- what a read comes to

-- what holds of what is given, or of what is left
abbrev pub Comes : {E A : Type 0} → (A → View → Type 0) → (E → View → Type 0) → Outcome E A → Type 0
Comes gave left (got a w) = gave a w
Comes gave left (bad e w) = left e w

-- a read that is refused for good
pub record Failed (end : Option ℕ) (v : View) (e : ReadError) (w : View) : Type 0 where
  pub latches : read_latching e ≡ true
  pub inside : past end v.count ≡ false → past end w.count ≡ false

-- the same with its place, at or after the count
pub record Halted (end : Option ℕ) (v : View) (f : Refusal) (w : View) : Type 0 where
  pub after : v.count ≤ f.place
  pub latches : latching f.cause ≡ true
  pub inside : past end v.count ≡ false → past end w.count ≡ false

pub failed_at : (end : Option ℕ) (v : View) (e : ReadError) → read_latching e ≡ true → Failed end v e v
failed_at end v e h = record { latches = h; inside = λ k. k }

halted_at : (end : Option ℕ) (v : View) (c : Cause) → latching c ≡ true → Halted end v (record { place = v.count; cause = c }) v
halted_at end v c h = record { after = omega arith; latches = h; inside = λ k. k }

-- what is refused behind what was taken
pub failed_behind : {lends : Bool} {end : Option ℕ} {v w : View} {bs : List ℕ} {e : ReadError} {u : View} → Gotten lends end v w bs → Failed end w e u → Failed end v e u
failed_behind g f = record { latches = f.latches; inside = λ h. f.inside (g.inside h) }

pub halted_behind : {lends : Bool} {end : Option ℕ} {v w : View} {bs : List ℕ} {f : Refusal} {u : View} → Gotten lends end v w bs → Halted end w f u → Halted end v f u
halted_behind g f =
    let a = f.after in
    let c = g.took.count in
    record { after = omega arith; latches = f.latches; inside = λ h. f.inside (g.inside h) }

module _ {E A B : Type 0} (gave : A → View → Type 0) (left : E → View → Type 0) (gives : B → View → Type 0) (leaves : E → View → Type 0) where
  pub then_comes : (m : Outcome E A) (f : A → View → Outcome E B) → Comes gave left m → ((a : A) (w : View) → gave a w → Comes gives leaves (f a w)) →
      ((e : E) (w : View) → left e w → leaves e w) → Comes gives leaves (and_then m f)
  then_comes (got a w) f h k l = k a w h
  then_comes (bad e w) f h k l = l e w h

-- a read that begins at or after a count
pub placed_comes : {A : Type 0} (gave : A → View → Type 0) (left : ReadError → View → Type 0) (end : Option ℕ) (v : View) (p : ℕ) (m : Outcome ReadError A) → v.count ≤ p → Comes gave left m →
    ((e : ReadError) (w : View) → left e w → Failed end v e w) → Comes gave (Halted end v) (placed p m)
placed_comes gave left end v p (got a w) after h k = h
placed_comes gave left end v p (bad e w) after h k = let f = k e w h in record { after = after; latches = f.latches; inside = f.inside }

pub cond_comes : {E A : Type 0} (gave : A → View → Type 0) (left : E → View → Type 0) (b : Bool) (m n : Outcome E A) →
    (b ≡ true → Comes gave left m) → (b ≡ false → Comes gave left n) → Comes gave left (cond b m n)
cond_comes gave left true m n h k = h refl
cond_comes gave left false m n h k = k refl

-- ---- one request

-- without a buffer no request is refused for want of room
pub asked_some : (end : Option ℕ) (v : View) (n : ℕ) (e : ReadError) → asked end v None n ≡ Some e → read_latching e ≡ true
asked_some end v n e h = go (past end (v.count + n)) (past v.stop (v.count + n)) (ltb (length v.coming) n) v.ending h
  where
    is : (f : ReadError) → read_latching f ≡ true → ◌≡◌ {A = Option ReadError} (Some f) (Some e) → read_latching e ≡ true
    is f l h = let k : f ≡ e = cc in subst (λ f. read_latching f ≡ true) k l

    go : (a b d : Bool) (o : Option SourceFault) → judged a (cond b (Some fault.Stop) (cond d (Some (shortfall o)) None)) ≡ Some e → read_latching e ≡ true
    go true b d o h = is End refl h
    go false true d o h = is Stop refl h
    go false false true None h = is Short refl h
    go false false true (Some f) h = is (Source f) refl h
    go false false false o h = some_none (sym h)

module _ {A : Type 0} (gave : A → View → Type 0) (left : ReadError → View → Type 0) (end : Option ℕ) (v : View) (space : Option ℕ) (n : ℕ) (a : A) (w : View) where
  pub answer_comes : (asked end v space n ≡ None → gave a w) → ((e : ReadError) → asked end v space n ≡ Some e → left e v) → Comes gave left (answer (asked end v space n) v a w)
  answer_comes g l = go (asked end v space n) refl
    where
      go : (o : Option ReadError) → asked end v space n ≡ o → Comes gave left (answer o v a w)
      go None e = g e
      go (Some x) e = l x e

pub gotten_advanced : (lends : Bool) (end : Option ℕ) (v : View) (space : Option ℕ) (n : ℕ) → Granted end v space n → Gotten lends end v (advanced lends n v) (take n v.coming)
gotten_advanced lends end v space n g = record {
  took = record {
    coming = sym (take-append-drop n v.coming);
    count = ap (λ k. v.count + k) (sym (length-take-le n v.coming g.there));
    ending = refl;
    stop = refl;
    kept = refl;
  };
  inside = λ _. g.before_end;
}

-- n bytes are taken as a whole, without a buffer
module _ {A : Type 0} (gave : A → View → Type 0) (lends : Bool) (end : Option ℕ) (v : View) (n : ℕ) (a : A) where
  pub whole_comes : (Gotten lends end v (advanced lends n v) (take n v.coming) → length (take n v.coming) ≡ n → gave a (advanced lends n v)) →
      Comes gave (Failed end v) (answer (asked end v None n) v a (advanced lends n v))
  whole_comes f =
      answer_comes gave (Failed end v) end v None n a (advanced lends n v)
      (λ e. let g = asked_none end v None n e in f (gotten_advanced lends end v None n g) (length-take-le n v.coming g.there))
      (λ x e. failed_at end v x (asked_some end v n x e))

-- ---- a tag

-- a byte is shown, and may then be taken
pub record Peeked (lends : Bool) (end : Option ℕ) (v : View) (t : ℕ) (w : View) : Type 0 where
  held_only : w ≡ held v
  pub gotten : Gotten lends end v (discarded lends w) (t ∷ [])

-- what is held only is still to come
pub peeked_untaken : {lends : Bool} {end : Option ℕ} {v : View} {t : ℕ} {w : View} → Peeked lends end v t w → Gotten lends end v w []
peeked_untaken {lends} {end} {v} {t} {w} s =
    let n = took_none lends v in
    subst (λ w. Gotten lends end v w []) (sym s.held_only)
    (record { took = record { coming = n.coming; count = n.count; ending = n.ending; stop = n.stop; kept = n.kept }; inside = λ h. h })

-- what is refused before a byte that was shown is taken
pub halted_before : {lends : Bool} {end : Option ℕ} {v : View} {t : ℕ} {w : View} → Peeked lends end v t w → (c : Cause) → latching c ≡ true → Halted end v (record { place = w.count; cause = c }) w
halted_before {end = end} {w = w} s c h = halted_behind (peeked_untaken s) (halted_at end w c h)

first_alone : (xs : List ℕ) → 1 ≤ length xs → take 1 xs ≡ get_or xs 0 0 ∷ []
first_alone [] h = absurd (omega arith)
first_alone (x ∷ xs) h = refl

pub peek_reads : (lends : Bool) (end : Option ℕ) (v : View) → Comes (Peeked lends end v) (Failed end v) (peek_read end v)
peek_reads lends end v =
    answer_comes (Peeked lends end v) (Failed end v) end v None 1 (get_or v.coming 0 0) (held v)
    (λ e.
    let g = asked_none end v None 1 e in
    let t = gotten_advanced lends end v None 1 g in
    let bytes = first_alone v.coming g.there in
    record { held_only = refl; gotten = gotten_as bytes t })
    (λ x e. failed_at end v x (asked_some end v 1 x e))

pub placed_peek_reads : (lends : Bool) (end : Option ℕ) (v : View) → Comes (Peeked lends end v) (Halted end v) (placed v.count (peek_read end v))
placed_peek_reads lends end v = placed_comes (Peeked lends end v) (Failed end v) end v v.count (peek_read end v) (omega arith) (peek_reads lends end v) (λ e w h. h)
