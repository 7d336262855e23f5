-- What was taken of a reader, one time and again.
use Rattle.std.proofs.Common.{◌≡◌, ℕ, suc, ◌+◌, Bool, true, false, cond, List, [], ◌∷◌, ◌++◌, length, Option, sym, refl, ap, ◌∙◌, subst, append_assoc, arith, length-append}
use Rattle.std.proofs.lemmas.List.{append-nil}
use Rattle.source.specs.Bytes.{Octets}
use Rattle.read.specs.Reader.{View, past, keeping}
use Rattle.runs.proofs.Stepped.{Took, Solid}

keeping_none : (lends : Bool) (kept : List ℕ) → kept ≡ keeping lends kept []
keeping_none true kept = sym (append-nil kept)
keeping_none false kept = refl

keeping_more : (lends : Bool) (kept xs ys : List ℕ) → keeping lends (keeping lends kept xs) ys ≡ keeping lends kept (xs ++ ys)
keeping_more true kept xs ys = append_assoc kept xs ys
keeping_more false kept xs ys = refl

pub took_none : (lends : Bool) (v : View) → Took lends v v []
took_none lends v = record { coming = refl; count = omega arith; ending = refl; stop = refl; kept = keeping_none lends v.kept }

pub took_more : {lends : Bool} {v w u : View} {xs ys : List ℕ} → Took lends v w xs → Took lends w u ys → Took lends v u (xs ++ ys)
took_more {lends} {v} {w} {u} {xs} {ys} p q = record {
  coming = p.coming ∙ ap (λ l. xs ++ l) q.coming ∙ sym (append_assoc xs ys u.coming);
  count = simp length-append (omega (arith, p.count, q.count));
  ending = q.ending ∙ p.ending;
  stop = q.stop ∙ p.stop;
  kept = q.kept ∙ ap (λ k. keeping lends k ys) p.kept ∙ keeping_more lends v.kept xs ys;
}

octets_behind : (xs ys : List ℕ) → Octets (xs ++ ys) → Octets ys
octets_behind [] ys h = h
octets_behind (x ∷ xs) ys h = octets_behind xs ys (λ i. h (suc i))

kept_on : (lends : Bool) (kept bs : List ℕ) (n m : ℕ) → length kept ≡ cond lends n 0 → m ≡ n + length bs → length (keeping lends kept bs) ≡ cond lends m 0
kept_on true kept bs n m h e = simp length-append (omega arith)
kept_on false kept bs n m h e = h

whole_on : (lends : Bool) (input kept coming bs rest : List ℕ) → (lends ≡ true → input ≡ kept ++ coming) → coming ≡ bs ++ rest → lends ≡ true → input ≡ keeping lends kept bs ++ rest
whole_on true input kept coming bs rest h e lent = h lent ∙ ap (λ l. kept ++ l) e ∙ sym (append_assoc kept bs rest)
whole_on false input kept coming bs rest h e lent = absurd (cc)

pub octets_on : {lends : Bool} {v w : View} {bs : List ℕ} → Took lends v w bs → Octets v.coming → Octets w.coming
octets_on {lends} {v} {w} {bs} t h = octets_behind bs w.coming (subst Octets t.coming h)

-- a reader stays sound
pub solid_on : {lends : Bool} {input : List ℕ} {v w : View} {bs : List ℕ} → Took lends v w bs → Solid lends input v → Solid lends input w
solid_on {lends} {input} {v} {w} {bs} t s = record {
  octets = octets_on t s.octets;
  kept_all = ap length t.kept ∙ kept_on lends v.kept bs v.count w.count s.kept_all t.count;
  whole = λ e. whole_on lends input v.kept v.coming bs w.coming s.whole t.coming e ∙ ap (λ k. k ++ w.coming) (sym t.kept);
}

-- these bytes were taken, and no end was passed
pub record Gotten (lends : Bool) (end : Option ℕ) (v w : View) (bs : List ℕ) : Type 0 where
  pub took : Took lends v w bs
  pub inside : past end v.count ≡ false → past end w.count ≡ false

pub gotten_none : (lends : Bool) (end : Option ℕ) (v : View) → Gotten lends end v v []
gotten_none lends end v = record { took = took_none lends v; inside = λ h. h }

pub gotten_more : {lends : Bool} {end : Option ℕ} {v w u : View} {xs ys : List ℕ} → Gotten lends end v w xs → Gotten lends end w u ys → Gotten lends end v u (xs ++ ys)
gotten_more p q = record { took = took_more p.took q.took; inside = λ h. q.inside (p.inside h) }

pub gotten_as : {lends : Bool} {end : Option ℕ} {v w : View} {xs ys : List ℕ} → xs ≡ ys → Gotten lends end v w xs → Gotten lends end v w ys
gotten_as {lends} {end} {v} {w} e g = subst (λ bs. Gotten lends end v w bs) e g

pub gotten_on : {lends : Bool} {end : Option ℕ} {input : List ℕ} {v w : View} {bs : List ℕ} → Gotten lends end v w bs → Solid lends input v → Solid lends input w
gotten_on g s = solid_on g.took s
