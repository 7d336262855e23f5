-- The keys of a list are read one after the other.
use Rattle.std.proofs.Common.{◌≡◌, ℕ, suc, ◌+◌, ◌-◌, ◌<◌, Bool, List, [], ◌∷◌, ◌++◌, length, IsErrAnd, Ok, Err, Option, Result, sym, refl, ap, ◌∙◌, subst, arith, length-append}
use Rattle.std.proofs.lemmas.List.{append_assoc, append-nil}
use Rattle.read.specs.Reader.{View}
use Rattle.format.specs.declared.refusal.Refusal.{Refusal}
use Rattle.format.specs.declared.refusal.Kind.TheVariants.{TemplateKey}
use Rattle.bunser.specs.Outcome.{Outcome, got, bad, and_then, TellsAt}
use Rattle.bunser.specs.Texts.{key_length_read}
use Rattle.bunser.proofs.Telling.{ok_err, err_is}
use Rattle.room.specs.Open.{Column, lent, copied, column_bytes}
use Rattle.room.specs.KeyList.{key_text_read, key_read, keys_read, KeyTold, KeysTold}

module _ (lends : Bool) (end : Option ℕ) where
  pub key_stop : (held : ℕ) (old : List Column) (v w : View) (f : Refusal) (s : Result Unit Refusal) → TellsAt (key_length_read lends end TemplateKey v) (Err f) w → IsErrAnd s (λ g. g ≡ f) → KeyTold (key_read lends end held v) old s old w
  unfolding key_read
  key_stop held old v w f s h e = go (key_length_read lends end TemplateKey v) h
    where
      go : (m : Outcome Refusal ℕ) → TellsAt m (Err f) w → KeyTold (and_then m (key_text_read lends end held)) old s old w
      go (got n u) (x, y) = ok_err (sym x)
      go (bad g u) (x, y) = let z : f ≡ g = cc in (err_is s f e ∙ ap Err z, y, refl)

  pub key_told : (held : ℕ) (old new : List Column) (v w u : View) (n : ℕ) (r : Result Unit Refusal) → TellsAt (key_length_read lends end TemplateKey v) (Ok n) w → KeyTold (key_text_read lends end held n w) old r new u → KeyTold (key_read lends end held v) old r new u
  unfolding key_read
  key_told held old new v w u n r h k = go (key_length_read lends end TemplateKey v) h
    where
      go : (m : Outcome Refusal ℕ) → TellsAt m (Ok n) w → KeyTold (and_then m (key_text_read lends end held)) old r new u
      go (got m t) (x, y) = let z : n ≡ m = cc in subst (λ m. KeyTold (key_text_read lends end held m t) old r new u) z (subst (λ t. KeyTold (key_text_read lends end held n t) old r new u) y k)
      go (bad f t) (x, y) = ok_err x

  bytes_more : (ks : List Column) (k : Column) → column_bytes (ks ++ k ∷ []) ≡ column_bytes ks + column_bytes (k ∷ [])
  bytes_more [] k = omega arith
  bytes_more (lent p n ∷ ks) k = bytes_more ks k
  bytes_more (copied bs ∷ ks) k = let b = bytes_more ks k in omega arith

  -- what the rest of the list comes to from here is what the whole comes to
  abbrev pub Onward : ℕ → List Column → View → ℕ → List Column → View → Type 0
  Onward n old v left now w = (r : Result Unit Refusal) (new : List Column) (u : View) → KeysTold (keys_read lends end (column_bytes now) left w) now r new u → KeysTold (keys_read lends end (column_bytes old) n v) old r new u

  -- a list without keys
  pub none_left : (old : List Column) (v : View) → KeysTold (keys_read lends end (column_bytes old) 0 v) old (Ok tt) old v
  none_left old v = (refl, refl, sym (append-nil old))

  keys_stop : (n : ℕ) (old new : List Column) (v w : View) (f : Refusal) (s : Result Unit Refusal) → KeyTold (key_read lends end (column_bytes old) v) old (Err f) new w → IsErrAnd s (λ g. g ≡ f) →
      KeysTold (keys_read lends end (column_bytes old) (suc n) v) old s new w
  keys_stop n old new v w f s h e = go (key_read lends end (column_bytes old) v) h
    where
      go : (m : Outcome Refusal Column) → KeyTold m old (Err f) new w → KeysTold (and_then m (λ k w. and_then (keys_read lends end (column_bytes old + column_bytes (k ∷ [])) n w) (λ ks u. got (k ∷ ks) u))) old s new w
      go (got k u) (x, y, z) = ok_err (sym x)
      go (bad g u) (x, y, z) = let q : f ≡ g = cc in (err_is s f e ∙ ap Err q, y, [], z ∙ sym (append-nil old))

  one_more : (n : ℕ) (old new : List Column) (v w : View) → KeyTold (key_read lends end (column_bytes old) v) old (Ok tt) new w → Onward (suc n) old v n new w
  one_more n old new v w h r last u k = go (key_read lends end (column_bytes old) v) h
    where
      go : (m : Outcome Refusal Column) → KeyTold m old (Ok tt) new w → KeysTold (and_then m (λ k w. and_then (keys_read lends end (column_bytes old + column_bytes (k ∷ [])) n w) (λ ks u. got (k ∷ ks) u))) old r last u
      go (bad g t) (x, y, z) = ok_err x
      go (got c t) (x, y, z) = by (keys_read lends end (column_bytes old + column_bytes (c ∷ [])) n t) (subst (λ b. KeysTold (keys_read lends end b n t) new r last u) (ap column_bytes z ∙ bytes_more old c) (subst (λ t. KeysTold (keys_read lends end (column_bytes new) n t) new r last u) y k))
        where
          by : (m : Outcome Refusal (List Column)) → KeysTold m new r last u → KeysTold (and_then m (λ ks u. got (c ∷ ks) u)) old r last u
          by (got ks a) (p, q, s) = (p, q, s ∙ ap (λ l. l ++ ks) z ∙ append_assoc old (c ∷ []) ks)
          by (bad f a) (p, q, more, s) = (p, q, c ∷ more, s ∙ ap (λ l. l ++ more) z ∙ append_assoc old (c ∷ []) more)

  one_longer : (old new : List Column) (v w : View) → KeyTold (key_read lends end (column_bytes old) v) old (Ok tt) new w → length new ≡ length old + 1
  one_longer old new v w h = go (key_read lends end (column_bytes old) v) h
    where
      go : (m : Outcome Refusal Column) → KeyTold m old (Ok tt) new w → length new ≡ length old + 1
      go (got c t) (x, y, z) = ap length z ∙ length-append old (c ∷ [])
      go (bad g t) (x, y, z) = ok_err x

  -- the next of the keys that are left is read
  module _ (n k : ℕ) (old now new : List Column) (v w u : View) (e : Option ℕ) (some : k < n) (same : e ≡ end) (rest : Onward n old v (n - k) now w) where
    one_left : n - k ≡ suc (n - (k + 1))
    one_left = omega arith

    onward : Onward n old v (suc (n - (k + 1))) now w
    onward = subst (λ m. Onward n old v m now w) one_left rest

    by_end : (r : Result Unit Refusal) → KeyTold (key_read lends e (column_bytes now) w) now r new u → KeyTold (key_read lends end (column_bytes now) w) now r new u
    by_end r = subst (λ e. KeyTold (key_read lends e (column_bytes now) w) now r new u) same

    pub next_stop : (f : Refusal) (s : Result Unit Refusal) → KeyTold (key_read lends e (column_bytes now) w) now (Err f) new u → IsErrAnd s (λ g. g ≡ f) → KeysTold (keys_read lends end (column_bytes old) n v) old s new u
    next_stop f s h is = onward s new u (keys_stop (n - (k + 1)) now new w u f s (by_end (Err f) h) is)

    pub next_more : KeyTold (key_read lends e (column_bytes now) w) now (Ok tt) new u → Onward n old v (n - (k + 1)) new u × (length new ≡ length now + 1)
    next_more h = (λ r last x q. onward r last x (one_more (n - (k + 1)) now new w u (by_end (Ok tt) h) r last x q), one_longer now new w u (by_end (Ok tt) h))
