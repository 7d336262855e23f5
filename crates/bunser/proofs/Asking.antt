-- When a read is granted, and what it then gives.
use Rattle.std.proofs.Common.{◌≡◌, ℕ, ◌+◌, ◌-◌, ◌≤◌, Bool, true, false, cond, ltb, List, ◌++◌, length, take, drop, replicate, IsErrAnd, Some, None, Ok, Err, Option, Result, sym, refl, ap, ◌∙◌, subst, arith, length-take, length-append}
use Rattle.std.proofs.lemmas.Bool.{le-ltb, ltb-false}
use Rattle.std.proofs.lemmas.List.{take_all, drop_at, drop-replicate, append-nil, length-replicate}
use Rattle.read.specs.declared.Fault.{Fault}
use Rattle.read.specs.declared.Fault.TheVariants as fault
use Rattle.read.specs.declared.Taken.{Taken}
use Rattle.read.specs.Reader.{View, past, room, cramped, shortfall, refusal, advanced, lies, put}
use Rattle.format.specs.declared.refusal.ReadError.{ReadError}
use Rattle.bunser.specs.Outcome.{judged, asked, answer, Tells}
use Rattle.bunser.specs.Reads.{bytes_read, fronts, kept_or, lent_or, array_read}
use Rattle.bunser.proofs.Telling.{ok_err, err_is}

no_some : {A : Type 0} {a : A} {P : Type 0} → ◌≡◌ {A = Option A} (Some a) None → P
no_some e = let z : ◌≡◌ {A = ℕ} 0 1 = cc in absurd (omega arith)

judged_none : (b : Bool) (o : Option Fault) → judged b o ≡ None → o ≡ None
judged_none true o e = no_some e
judged_none false None e = refl
judged_none false (Some f) e = no_some e

three_no : (a b c : Bool) (x y z : Fault) → cond a (Some x) (cond b (Some y) (cond c (Some z) None)) ≡ None → c ≡ false
three_no true b c x y z e = no_some e
three_no false true c x y z e = no_some e
three_no false false true x y z e = no_some e
three_no false false false x y z e = refl

-- the bytes of a read that is granted are there
pub granted : (end : Option ℕ) (v : View) (space : Option ℕ) (n : ℕ) → asked end v space n ≡ None → n ≤ length v.coming
granted end v space n e =
    let r = judged_none (past end (v.count + n)) (refusal v space n) e in
    ltb-false (length v.coming) n (three_no (past v.stop (v.count + n)) (cramped space n) (ltb (length v.coming) n) fault.Stop fault.Room (shortfall v.ending) r)

-- a granted read has given what it should
pub record Given {A : Type 0} (o : Option ReadError) (x : A) (t : View) (a : A) (w : View) : Type 0 where
  pub granted_it : o ≡ None
  pub value : a ≡ x
  pub left : w ≡ t

pub given : {A : Type 0} (o : Option ReadError) (v : View) (x : A) (t : View) (a : A) (w : View) → Tells (answer o v x t) (Ok a) w → Given o x t a w
given None v x t a w (e, h) = record { granted_it = refl; value = cc; left = h }
given (Some f) v x t a w (e, h) = ok_err e

pub give : {A : Type 0} (o : Option ReadError) (v : View) (x : A) (t : View) (a : A) (w : View) → Given o x t a w → Tells (answer o v x t) (Ok a) w
give o v x t a w g = subst (λ o. Tells (answer o v x t) (Ok a) w) (sym g.granted_it) (ap Ok g.value, g.left)

-- a refused read is refused whatever it would have given
pub answer_stop : {A B : Type 0} (o : Option ReadError) (v : View) (x : A) (y : B) (t : View) (e : ReadError) (w : View) (r : Result B ReadError) →
    Tells (answer o v x t) (Err e) w → IsErrAnd r (λ f. f ≡ e) → Tells (answer o v y t) r w
answer_stop None v x y t e w r h k = ok_err (sym h.0)
answer_stop (Some f) v x y t e w r h k = let z : e ≡ f = cc h.0 in (err_is r e k ∙ ap Err z, h.1)

-- n bytes are room enough for n
roomy : (lends : Bool) (end : Option ℕ) (v : View) (n : ℕ) → asked end v (room lends (replicate n 0)) n ≡ asked end v None n
roomy true end v n = refl
roomy false end v n =
    let long : length {A = ℕ} (replicate n 0) ≡ n = length-replicate n 0 in
    let wide : n ≤ length {A = ℕ} (replicate n 0) = omega (arith, long) in
    ap (λ b. judged (past end (v.count + n)) (cond (past v.stop (v.count + n)) (Some fault.Stop) (cond b (Some fault.Room) (cond (ltb (length v.coming) n) (Some (shortfall v.ending)) None)))) (le-ltb (length (replicate n 0)) n wide)

module _ (lends : Bool) (end : Option ℕ) (n : ℕ) (v w : View) where
  pub array_stop : (e : ReadError) (r : Result (List ℕ) ReadError) → Tells (bytes_read lends end (room lends (replicate n 0)) n v) (Err e) w → IsErrAnd r (λ f. f ≡ e) → Tells (array_read lends end n v) r w
  array_stop e r h k =
      answer_stop (asked end v None n) v (lies lends v) (take n v.coming) (advanced lends n v) e w r
      (subst (λ o. Tells (answer o v (lies lends v) (advanced lends n v)) (Err e) w) (roomy lends end v n) h) k

  module _ (taken : Taken) (kept : length v.kept ≡ cond lends v.count 0) (h : Tells (bytes_read lends end (room lends (replicate n 0)) n v) (Ok taken) w) where
    g : Given (asked end v (room lends (replicate n 0)) n) (lies lends v) (advanced lends n v) taken w
    g = given (asked end v (room lends (replicate n 0)) n) v (lies lends v) (advanced lends n v) taken w h

    long : length (take n v.coming) ≡ n
    long = let there = granted end v (room lends (replicate n 0)) n g.granted_it in rw length-take (omega arith)

    -- what is lent, or what was copied, is what was to come
    came : (lends : Bool) → length v.kept ≡ cond lends v.count 0 → lent_or lends (advanced lends n v) (lies lends v) (put lends (take n v.coming) (replicate n 0)) ≡ take n v.coming
    came true kept =
        let wide : v.count + length {A = ℕ} (replicate n 0) ≤ length (v.kept ++ take n v.coming) = omega (arith, length-append v.kept (take n v.coming), long, kept, length-replicate {A = ℕ} n 0) in
        ap (λ b. kept_or (cond b None (Some (take (length {A = ℕ} (replicate n 0)) (drop v.count (v.kept ++ take n v.coming))))) (replicate n 0)) (le-ltb (length (v.kept ++ take n v.coming)) (v.count + length {A = ℕ} (replicate n 0)) wide)
        ∙ ap (λ k. take k (drop v.count (v.kept ++ take n v.coming))) (length-replicate {A = ℕ} n 0)
        ∙ ap (take n) (drop_at v.kept (take n v.coming) v.count kept)
        ∙ take_all n (take n v.coming) (omega (arith, long))
    came false kept =
        let none : n - n ≡ 0 = omega arith in
        ap (λ k. take n v.coming ++ drop k (replicate n 0)) long
        ∙ ap (λ l. take n v.coming ++ l) (drop-replicate n n 0 ∙ ap (λ k. replicate k 0) none)
        ∙ append-nil (take n v.coming)

    pub array_told : (blank bytes : List ℕ) → blank ≡ put lends (fronts (asked end v (room lends (replicate n 0)) n) n v) (replicate n 0) → bytes ≡ lent_or lends w taken blank → Tells (array_read lends end n v) (Ok bytes) w
    array_told blank bytes at is =
        give (asked end v None n) v (take n v.coming) (advanced lends n v) bytes w
        (record {
          granted_it = sym (roomy lends end v n) ∙ g.granted_it;
          value = is ∙ ap (λ x. lent_or lends x taken blank) g.left ∙ ap (λ t. lent_or lends (advanced lends n v) t blank) g.value
              ∙ ap (lent_or lends (advanced lends n v) (lies lends v)) (at ∙ ap (λ o. put lends (fronts o n v) (replicate n 0)) g.granted_it) ∙ came lends kept;
          left = g.left;
        })
