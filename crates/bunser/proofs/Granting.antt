-- Requests that are granted one after the other, and what they have taken together.
use Rattle.std.proofs.Common.{◌≡◌, ℕ, zero, suc, ◌+◌, ◌≤◌, Bool, true, false, cond, eqb, ltb, List, ◌++◌, length, take, drop, Some, None, Err, Option, sym, refl, ap, ap₂, ◌∙◌, subst, add-zero, add_assoc, arith, length-drop, drop-drop, take-add}
use Rattle.std.proofs.lemmas.Bool.{ne_eqb, le-ltb, ltb-false}
use Rattle.std.proofs.lemmas.List.{append_assoc, append-nil}
use Rattle.read.specs.declared.Fault.TheVariants as fault
use Rattle.read.specs.Reader.{View, past, cramped, shortfall, keeping, advanced}
use Rattle.format.specs.declared.refusal.ReadError.{ReadError}
use Rattle.bunser.specs.Outcome.{judged, asked, answer, Tells}
use Rattle.bunser.proofs.Telling.{ok_err}

-- ---- what was taken

still_held : (t k : ℕ) (p : Bool) → cond (eqb k 0) (cond (eqb t 0) p false) false ≡ cond (eqb (t + k) 0) p false
still_held zero zero p = refl
still_held (suc t) zero p = ap (λ b. cond b p false) (ne_eqb (suc t) 0 (λ e. omega arith)) ∙ sym (ap (λ b. cond b p false) (ne_eqb (suc t + 0) 0 (λ e. omega arith)))
still_held t (suc k) p =
    ap (λ b. cond b (cond (eqb t 0) p false) false) (ne_eqb (suc k) 0 (λ e. omega arith))
    ∙ sym (ap (λ b. cond b p false) (ne_eqb (t + suc k) 0 (λ e. omega arith)))

kept_none : (lends : Bool) (kept xs : List ℕ) → keeping lends kept (take 0 xs) ≡ kept
kept_none true kept xs = append-nil kept
kept_none false kept xs = refl

kept_more : (lends : Bool) (t k : ℕ) (kept xs : List ℕ) → keeping lends (keeping lends kept (take t xs)) (take k (drop t xs)) ≡ keeping lends kept (take (t + k) xs)
kept_more true t k kept xs = append_assoc kept (take t xs) (take k (drop t xs)) ∙ ap (λ l. kept ++ l) (sym (take-add t k xs))
kept_more false t k kept xs = refl

module _ (lends : Bool) where
  pub advanced_none : (v : View) → advanced lends 0 v ≡ v
  advanced_none v =
      ap₂ (λ n l. record { coming = v.coming; ending = v.ending; count = n; stop = v.stop; peeked = v.peeked; kept = l }) (add-zero v.count) (kept_none lends v.kept v.coming)

  pub advanced_more : (t k : ℕ) (v : View) → advanced lends k (advanced lends t v) ≡ advanced lends (t + k) v
  advanced_more t k v =
      ap₂ (λ l m. record { coming = l; ending = v.ending; count = (v.count + t) + k; stop = v.stop; peeked = cond (eqb k 0) (cond (eqb t 0) v.peeked false) false; kept = m }) (drop-drop k t v.coming) (kept_more lends t k v.kept v.coming)
      ∙ ap₂ (λ n p. record { coming = drop (t + k) v.coming; ending = v.ending; count = n; stop = v.stop; peeked = p; kept = keeping lends v.kept (take (t + k) v.coming) }) (add_assoc v.count t k) (still_held t k v.peeked)

-- ---- a request that is granted

pub record Granted (end : Option ℕ) (v : View) (space : Option ℕ) (n : ℕ) : Type 0 where
  pub before_end : past end (v.count + n) ≡ false
  pub before_stop : past v.stop (v.count + n) ≡ false
  pub roomy : cramped space n ≡ false
  pub there : n ≤ length v.coming

pub some_none : {A : Type 0} {a : A} {P : Type 0} → ◌≡◌ {A = Option A} (Some a) None → P
some_none e = let z : ◌≡◌ {A = ℕ} 0 1 = cc in absurd (omega arith)

pub asked_none : (end : Option ℕ) (v : View) (space : Option ℕ) (n : ℕ) → asked end v space n ≡ None → Granted end v space n
asked_none end v space n h = go (past end (v.count + n)) (past v.stop (v.count + n)) (cramped space n) (ltb (length v.coming) n) refl refl refl refl h
  where
    go : (a b c d : Bool) → past end (v.count + n) ≡ a → past v.stop (v.count + n) ≡ b → cramped space n ≡ c → ltb (length v.coming) n ≡ d →
        judged a (cond b (Some fault.Stop) (cond c (Some fault.Room) (cond d (Some (shortfall v.ending)) None))) ≡ None → Granted end v space n
    go true b c d p s q r h = some_none h
    go false true c d p s q r h = some_none h
    go false false true d p s q r h = some_none h
    go false false false true p s q r h = some_none h
    go false false false false p s q r h = record { before_end = p; before_stop = s; roomy = q; there = ltb-false (length v.coming) n r }

pub none_asked : {end : Option ℕ} {v : View} {space : Option ℕ} {n : ℕ} → Granted end v space n → asked end v space n ≡ None
none_asked {end} {v} {space} {n} g =
    ap (λ a. judged a (cond (past v.stop (v.count + n)) (Some fault.Stop) (cond (cramped space n) (Some fault.Room) (cond (ltb (length v.coming) n) (Some (shortfall v.ending)) None)))) g.before_end
    ∙ ap (λ b. judged false (cond b (Some fault.Stop) (cond (cramped space n) (Some fault.Room) (cond (ltb (length v.coming) n) (Some (shortfall v.ending)) None)))) g.before_stop
    ∙ ap (λ c. judged false (cond c (Some fault.Room) (cond (ltb (length v.coming) n) (Some (shortfall v.ending)) None))) g.roomy
    ∙ ap (λ d. judged false (cond d (Some (shortfall v.ending)) None)) (le-ltb (length v.coming) n g.there)

-- what is not past a stop is not past it before
earlier : (s : Option ℕ) (m n : ℕ) → m ≤ n → past s n ≡ false → past s m ≡ false
earlier None m n le e = refl
earlier (Some s) m n le e = let far = ltb-false s n e in le-ltb s m (omega (arith, far, le))

-- fewer bytes are granted too, and the rest behind them
pub granted_less : {end : Option ℕ} {v : View} {n : ℕ} (m : ℕ) → m ≤ n → Granted end v None n → Granted end v None m
granted_less {end} {v} {n} m le g = record {
  before_end = earlier end (v.count + m) (v.count + n) (omega (arith, le)) g.before_end;
  before_stop = earlier v.stop (v.count + m) (v.count + n) (omega (arith, le)) g.before_stop;
  roomy = refl;
  there = (let far = g.there in omega (arith, le, far));
}

pub granted_on : {end : Option ℕ} {v : View} (lends : Bool) (m n : ℕ) → Granted end v None (m + n) → Granted end (advanced lends m v) None n
granted_on {end} {v} lends m n g = record {
  before_end = subst (λ k. past end k ≡ false) (sym (add_assoc v.count m n)) g.before_end;
  before_stop = subst (λ k. past v.stop k ≡ false) (sym (add_assoc v.count m n)) g.before_stop;
  roomy = refl;
  there = (let far = g.there in let long = length-drop m v.coming in omega (arith, far, long));
}

-- where the bytes are there a refusal changes nothing
pub unmoved : {A : Type 0} (end : Option ℕ) (v : View) (space : Option ℕ) (n : ℕ) (x : A) (t : View) (e : ReadError) (w : View) → n ≤ length v.coming → Tells (answer (asked end v space n) v x t) (Err e) w → w ≡ v
unmoved end v space n x t e w far h = go (past end (v.count + n)) (past v.stop (v.count + n)) (cramped space n) (subst (λ d. Tells (answer (judged (past end (v.count + n)) (cond (past v.stop (v.count + n)) (Some fault.Stop) (cond (cramped space n) (Some fault.Room) (cond d (Some (shortfall v.ending)) None)))) v x t) (Err e) w) (le-ltb (length v.coming) n far) h)
  where
    go : (a b c : Bool) → Tells (answer (judged a (cond b (Some fault.Stop) (cond c (Some fault.Room) None))) v x t) (Err e) w → w ≡ v
    go true b c (is, q) = q
    go false true c (is, q) = q
    go false false true (is, q) = q
    go false false false (is, q) = ok_err (sym is)
