-- How what a read comes to goes into what comes of a body.
use Rattle.std.proofs.Common.{◌≡◌, ℕ, Bool, true, false, cond, ltb, List, ◌∷◌, Ok, Err, Result, IsErrAnd, sym, refl, ap, ◌∙◌, subst, subst₂}
use Rattle.read.specs.Reader.{View, discarded}
use Rattle.format.specs.declared.refusal.Refusal.{Refusal}
use Rattle.bunser.specs.Outcome.{Outcome, got, bad, TellsAt}
use Rattle.format.specs.declared.refusal.Cause.TheVariants.{NoKeys, Depth}
use Rattle.bunser.specs.Texts.{placed_count}
use Rattle.room.specs.Open.{Column, column_bytes, rows, filled, depth, keys_held, bytes_held}
use Rattle.room.specs.Opened.{Opened}
use Rattle.room.specs.KeyList.{key_list_read, ListTold}
use Rattle.de.specs.declared.event.Event.TheVariants.{ArrayBegin}
use Rattle.bunser.proofs.Telling.{ok_err, err_is}
use Rattle.de.specs.declared.event.Ahead.{Ahead}
use Rattle.de.specs.Steps.{Body, moved, Coming, halts, passes, reading, refuse, keyless, rows_by, rows_come, template_comes, Apart, Finds}

-- a read of the body that gives, and what is done with what it gives
pub then_finds : {A : Type 0} (m : Outcome Refusal A) (b : Body) (f : A → View → Coming) (a : A) (w : View) (r : Result Ahead Refusal) (c : Body) → TellsAt m (Ok a) w → Finds (f a w) r c → Finds (reading m b f) r c
then_finds (got x v) b f a w r c (p, q) h = let same : a ≡ x = cc in subst₂ (λ x v. Finds (f x v) r c) same q h
then_finds (bad g v) b f a w r c (p, q) h = ok_err p

-- a `?` behind a read of the body
pub stop_finds : {A : Type 0} (m : Outcome Refusal A) (b : Body) (f : A → View → Coming) (e : Refusal) (w : View) (r : Result Ahead Refusal) (c : Body) → TellsAt m (Err e) w → IsErrAnd r (λ g. g ≡ e) → c ≡ moved b w → Finds (reading m b f) r c
stop_finds (got x v) b f e w r c (p, q) h is = ok_err (sym p)
stop_finds (bad g v) b f e w r c (p, q) h is =
    let same : e ≡ g = cc in (
      err_is r e h ∙ ap Err same,
      subst (λ c. Apart g (moved b v) c) (sym is) (record { reader = q; end = refl; opens = refl; unread = refl; events = refl }),
    )

-- the row count behind a key list that was read
pub rows_find : (lends : Bool) (ks : List Column) (b mid : Body) (w : View) (r : Result Ahead Refusal) (c : Body) → mid ≡ moved b w → Finds (rows_come lends ks mid mid.reader) r c → Finds (rows_come lends ks b w) r c
unfolding rows_come
rows_find lends ks b mid w r c is h = go (placed_count lends b.end w) (subst (λ m. Finds (reading (placed_count lends m.end m.reader) m (λ n u. rows_by ks m.reader.count n m u)) r c) is h)
  where
    turned : (n : ℕ) (u : View) (k : Bool) → Finds (cond k (halts (refuse NoKeys w.count) (moved b u)) (passes ArrayBegin (moved b w) u (rows ks n ∷ filled b.opens))) r c → Finds (cond k (halts (refuse NoKeys w.count) (moved b u)) (passes ArrayBegin b u (rows ks n ∷ filled b.opens))) r c
    turned n u true h = h
    turned n u false h = h

    go : (m : Outcome Refusal ℕ) → Finds (reading m (moved b w) (λ n u. rows_by ks w.count n (moved b w) u)) r c → Finds (reading m b (λ n u. rows_by ks w.count n b u)) r c
    go (got n u) h = turned n u (keyless n ks) h
    go (bad g u) h = h

-- a template whose keys were listed
pub template_finds : (lends : Bool) (b mid : Body) (o : Opened) (w : View) (r : Result Ahead Refusal) (c : Body) → ltb (depth b.opens) 128 ≡ true →
    ListTold (key_list_read lends b.end (depth b.opens) (keys_held b.opens) (bytes_held column_bytes b.opens) (discarded lends b.reader)) b.opens (Ok tt) o w →
    mid ≡ record { reader = w; end = b.end; opens = o.opens; unread = b.unread; events = b.events } → Finds (rows_come lends o.listed mid mid.reader) r c → Finds (template_comes lends b) r c
unfolding template_comes
template_finds lends b mid o w r c free told is h =
    subst (λ k. Finds (cond k (reading (key_list_read lends b.end (depth b.opens) (keys_held b.opens) (bytes_held column_bytes b.opens) (discarded lends b.reader)) b (λ ks v. rows_come lends ks b v)) (halts (refuse Depth b.reader.count) b)) r c) (sym free)
    (go (key_list_read lends b.end (depth b.opens) (keys_held b.opens) (bytes_held column_bytes b.opens) (discarded lends b.reader)) told)
  where
    go : (m : Outcome Refusal (List Column)) → ListTold m b.opens (Ok tt) o w → Finds (reading m b (λ ks v. rows_come lends ks b v)) r c
    go (got ks v) (x, y, z) =
        let here : mid ≡ moved b w = is ∙ ap (λ o. record { reader = w; end = b.end; opens = o.opens; unread = b.unread; events = b.events }) z in
        subst (λ v. Finds (rows_come lends ks b v) r c) y (rows_find lends ks b mid w r c here (subst (λ o. Finds (rows_come lends o.listed mid mid.reader) r c) z h))
    go (bad f v) (x, y, z) = ok_err x
