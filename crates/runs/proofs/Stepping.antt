-- What a step that gives, or that is refused, has done.
use Rattle.std.proofs.Common.{◌≡◌, ℕ, zero, suc, Bool, true, false, cond, inr, List, [], ◌∷◌, length, take, drop, Some, None, Option, sym, refl, ap, ◌∙◌, subst, arith}
use Rattle.std.proofs.lemmas.List.{take_at}
use Rattle.read.specs.declared.Taken.TheVariants.{Lent, Copied}
use Rattle.read.specs.Reader.{View, cramped}
use Rattle.format.specs.declared.refusal.ReadError.TheVariants as error
use Rattle.format.specs.declared.refusal.Refusal.{Refusal}
use Rattle.bunser.specs.declared.text.Unread.{Unread}
use Rattle.bunser.specs.Outcome.{at}
use Rattle.room.specs.Open.{Column, lent, copied, Open, start, items, pairs, field, rows, row, cell, filled}
use Rattle.room.specs.Open as room
use Rattle.values.specs.Values as value
use Rattle.de.specs.declared.event.Event.{Event}
use Rattle.de.specs.declared.event.Event.TheVariants as event
use Rattle.de.specs.Shown.{shown}
use Rattle.de.specs.Steps.{Body, gives, stops, due_comes, coming, column_by, column_step, finishing, step, text_space, turns, unread_comes, column_passes}
use Rattle.runs.specs.Law.{PartOf, HandedOut, limits}
use Rattle.runs.proofs.Taking.{levels, named, Lies, Fit, Takes, array_ends, object_ends, row_begins, column_comes, row_ends, template_ends}
use Rattle.runs.proofs.Taking as taking
use Rattle.runs.proofs.Stepped.{Ready, Stepped, Stopped}
use Rattle.runs.proofs.Took.{gotten_none}
use Rattle.runs.proofs.Made.{Made, Goes, passed}
use Rattle.runs.proofs.TextSteps.{waits_still, text_made}
use Rattle.runs.proofs.Items.{key_made, item_made}

-- ---- the key of a column

-- a key lies where the reader hands out its bytes
lent_part : (lends : Bool) (p n : ℕ) → Lies lends (lent p n) → PartOf lends (Lent p)
lent_part true p n lie = tt
lent_part false p n lie = lie

copied_part : (lends : Bool) (bs : List ℕ) → Lies lends (copied bs) → PartOf lends Copied
copied_part true bs lie = lie
copied_part false bs lie = tt

-- only a copying reader's text buffer is too short
limited : (lends : Bool) (space : Option ℕ) (bs : List ℕ) → Lies lends (copied bs) → cramped space (length bs) ≡ true → text_space lends space ≡ None → ⊥
limited true space bs lie full none = absurd lie
limited false space bs lie full none = let z : false ≡ true = ap (λ s. cramped s (length bs)) (sym none) ∙ full in absurd (cc)

module _ (lends : Bool) (input : List ℕ) (space : Option ℕ) (b : Body) (ready : Ready lends input b) (calm : b.unread ≡ None) where
  column_made : (c : Column) → Lies lends c → (b.opens ≡ [] → ⊥) → Takes (limits lends) (levels input b.opens) [] (value.key (named input c)) (levels input (room.row_turned b.opens)) →
      Fit lends (room.row_turned b.opens) → Made lends input space b (column_by c space b)
  column_made (lent p n) lie more takes fit =
      passed lends input b ready calm (event.Key (record { taken = Lent p; len = n })) [] (value.key (take n (drop p input))) b.reader [] (room.row_turned b.opens) (gotten_none lends b.end b.reader) takes fit (lent_part lends p n lie) (λ buf. refl)
  column_made (copied bs) lie more takes fit = by_room (cramped space (length bs)) refl
    where
      by_room : (q : Bool) → cramped space (length bs) ≡ q → Made lends input space b (cond q (stops (at error.Room b.reader.count) b []) (column_passes (record { taken = Copied; len = length bs }) b bs))
      by_room true full = record { after = omega arith; end = refl; opens = refl; events = refl; inside = λ h. h; more = more; kind = inr (refl, limited lends space bs lie full, waits_still lends input b ready) }
      by_room false loose =
          passed lends input b ready calm (event.Key (record { taken = Copied; len = length bs })) bs (value.key bs) b.reader [] (room.row_turned b.opens) (gotten_none lends b.end b.reader) takes fit (copied_part lends bs lie)
          (λ buf. ap value.key (take_at bs (drop (length bs) buf) (length bs) refl))

-- ---- a step

module _ (lends : Bool) (input : List ℕ) (space : Option ℕ) (v : View) (end : Option ℕ) (n : ℕ) where
  -- by what is open, where no text is awaited
  abbrev calm : List (Open Column) → Body
  calm o = record { reader = v; end = end; opens = o; unread = None; events = n }

  turns_made : (o : List (Open Column)) → Ready lends input (calm o) → (e : Event) (t : value.Event) (l : List (Open Column)) → Takes (limits lends) (levels input o) [] t (levels input l) →
      Fit lends l → HandedOut lends e → ((buf : List ℕ) → shown input buf e ≡ t) →
      Goes lends input space (calm o) (turns e (calm o) l)
  turns_made o ready e t l takes fit origin shows = passed lends input (calm o) ready refl e [] t v [] l (gotten_none lends end v) takes fit origin shows

  no_gap : (o : List (Open Column)) → false ≡ true → Takes (limits lends) (levels input o) (0x0c ∷ []) value.absent (filled (levels input o))
  no_gap o e = absurd (cc)

  due_made : (o : List (Open Column)) → Ready lends input (calm o) → Goes lends input space (calm o) (due_comes (room.due o) lends (calm o))
  unfolding column_step
  due_made [] ready = tt
  due_made (start ∷ o) ready = item_made lends input space (calm (start ∷ o)) ready refl tt false (no_gap (start ∷ o))
  due_made (items zero ∷ o) ready = turns_made (items zero ∷ o) ready event.ArrayEnd value.array_end o array_ends ready.fit tt (λ buf. refl)
  due_made (items (suc m) ∷ o) ready = item_made lends input space (calm (items (suc m) ∷ o)) ready refl tt false (no_gap (items (suc m) ∷ o))
  due_made (pairs zero ∷ o) ready = turns_made (pairs zero ∷ o) ready event.MapEnd value.map_end o object_ends ready.fit tt (λ buf. refl)
  due_made (pairs (suc m) ∷ o) ready = key_made lends input space (calm (pairs (suc m) ∷ o)) ready refl tt
  due_made (field m ∷ o) ready = item_made lends input space (calm (field m ∷ o)) ready refl tt false (no_gap (field m ∷ o))
  due_made (rows ks zero ∷ o) ready = turns_made (rows ks zero ∷ o) ready event.ArrayEnd value.array_end o template_ends ready.fit.1 tt (λ buf. refl)
  due_made (rows ks (suc m) ∷ o) ready = turns_made (rows ks (suc m) ∷ o) ready event.MapBegin value.map_begin (row ks ks m ∷ o) row_begins (ready.fit.0, ready.fit.0, ready.fit.1) tt (λ buf. refl)
  due_made (row [] ks m ∷ o) ready = turns_made (row [] ks m ∷ o) ready event.MapEnd value.map_end (rows ks m ∷ o) row_ends (ready.fit.1, ready.fit.2) tt (λ buf. refl)
  due_made (row (k ∷ l) ks m ∷ o) ready = column_made lends input space (calm (row (k ∷ l) ks m ∷ o)) ready refl k ready.fit.0.0 (λ e. cc) column_comes (ready.fit.0.1, ready.fit.1, ready.fit.2)
  due_made (cell l ks m ∷ o) ready = item_made lends input space (calm (cell l ks m ∷ o)) ready refl tt true (λ e. taking.gap_comes)

step_made : (lends : Bool) (input : List ℕ) (space : Option ℕ) (b : Body) → Ready lends input b → Made lends input space b (step lends space b)
unfolding step coming
step_made lends input space b ready = by_unread b.unread refl
  where
    by_unread : (u : Option Unread) → b.unread ≡ u → Goes lends input space b (unread_comes u lends b)
    by_unread (Some u) e = text_made lends input b ready space u e
    by_unread None e =
        subst (λ c. Made lends input space c (finishing lends space (due_comes (room.due b.opens) lends c))) (ap (λ u. record { reader = b.reader; end = b.end; opens = b.opens; unread = u; events = b.events }) (sym e))
        (due_made lends input space b.reader b.end b.events b.opens (subst (λ u. Ready lends input (record { reader = b.reader; end = b.end; opens = b.opens; unread = u; events = b.events })) e ready))

pub step_gives : {lends : Bool} {input : List ℕ} (space : Option ℕ) (b : Body) (e : Event) (c : Body) (x : List ℕ) → Ready lends input b → step lends space b ≡ gives (Some e) c x →
    Stepped lends input b e c x
step_gives {lends} {input} space b e c x ready h = subst (Made lends input space b) h (step_made lends input space b ready)

pub step_stops : {lends : Bool} {input : List ℕ} (space : Option ℕ) (b : Body) (f : Refusal) (c : Body) (x : List ℕ) → Ready lends input b → step lends space b ≡ stops f c x →
    Stopped lends input space b f c
step_stops {lends} {input} space b f c x ready h = subst (Made lends input space b) h (step_made lends input space b ready)
