-- Where a skip of the body ends, and what it has passed by then.
use Rattle.std.proofs.Common.{◌≡◌, ℕ, suc, ◌+◌, ◌<◌, ◌≤◌, Bool, true, false, List, [], ◌∷◌, ◌++◌, length, None, Ok, Err, Result, inl, inr, refl, sym, ap, ◌∙◌, subst, append_assoc, append-nil, length-append, arith}
use Rattle.read.specs.Reader.{View}
use Rattle.format.specs.Numbers.{latching}
use Rattle.format.specs.declared.refusal.Refusal.{Refusal}
use Rattle.values.specs.Values.{Event}
use Rattle.room.specs.Open.{Column, Open, items, pairs, field, rows, row, cell, nesting}
use Rattle.room.specs.Open as room
use Rattle.de.specs.declared.event.Event as event
use Rattle.de.specs.Steps.{Body, gives, stops, step, counted, Apart, text_space}
use Rattle.de.specs.Calls as calls
use Rattle.de.specs.Calls.{here, drawn, Skips}
use Rattle.runs.specs.Law.{all_bytes, limits, deeper, stretch}
use Rattle.runs.proofs.Taking.{levels, Front}
use Rattle.runs.proofs.Stretching.{Runs, last, onward, stretch_on}
use Rattle.runs.proofs.Stepped.{ForGoodOrWaits, Stepped, Stopped}
use Rattle.runs.proofs.Stepping.{step_gives, step_stops}
use Rattle.runs.proofs.Ending.{step_none}
use Rattle.runs.proofs.Drawing.{step_draws}
use Rattle.runs.proofs.Bodies.{Live, Stuck, Advanced, advance, counts_one, before_end, after_end, stuck, count_left}

-- as deep with the names of the columns as without
pub named_nesting : (input : List ℕ) (o : List (Open Column)) → nesting (levels input o) ≡ nesting o
named_nesting input [] = refl
named_nesting input (room.start ∷ o) = named_nesting input o
named_nesting input (items n ∷ o) = ap suc (named_nesting input o)
named_nesting input (pairs n ∷ o) = ap suc (named_nesting input o)
named_nesting input (field n ∷ o) = ap suc (named_nesting input o)
named_nesting input (rows ks n ∷ o) = ap suc (named_nesting input o)
named_nesting input (row l ks n ∷ o) = ap (λ n. suc (suc n)) (named_nesting input o)
named_nesting input (cell l ks n ∷ o) = ap (λ n. suc (suc n)) (named_nesting input o)

-- a skip has passed these events: none where all had passed, or a whole stretch
pub data StretchPassed (lends : Bool) (v : View) (start : ℕ) (down : ℕ) (b t : Body) (taken now : List ℕ) : List Event → Type 0 where
  nothing : b.opens ≡ [] → now ≡ taken → StretchPassed lends v start down b t taken now []
  something : {more : List Event} → Runs (limits lends) down (levels (all_bytes v) b.opens) more (levels (all_bytes v) t.opens) → t.reader.count ≡ start + length now →
      StretchPassed lends v start down b t taken now more

-- what a skip has passed, ended or refused, and what holds then
pub data SkipEnd (lends : Bool) (v : View) (start size : ℕ) (taken : List ℕ) (es : List Event) (b : Body) (down n : ℕ) (t : Body) : Result ℕ Refusal → Type 0 where
  done : (more : List Event) (now : List ℕ) {k : ℕ} → Live lends v start size now (es ++ more) t → k ≡ n + length more → StretchPassed lends v start down b t taken now more →
      SkipEnd lends v start size taken es b down n t (Ok k)
  cut : (more : List Event) (now : List ℕ) {f : Refusal} → length taken ≤ length now → latching f.cause ≡ true → Stuck lends v start size now (es ++ more) f t →
      ((d : ℕ) → nesting (levels (all_bytes v) b.opens) ≡ down + d → stretch d more ≡ length more) → SkipEnd lends v start size taken es b down n t (Err f)

-- no room is needed
no_space : (lends : Bool) → text_space lends None ≡ None
no_space true = refl
no_space false = refl

module _ {lends : Bool} {v : View} {start size : ℕ} (small : start + size ≤ 1152921504606846976) where
  nothing_ends : {taken : List ℕ} {es : List Event} {b : Body} {down n : ℕ} → Live lends v start size taken es b → b.opens ≡ [] → SkipEnd lends v start size taken es b down n b (Ok n)
  nothing_ends {taken} {es} {b} l closed = done [] taken (subst (λ es. Live lends v start size taken es b) (sym (append-nil es)) l) (omega arith) (nothing closed refl)

  refused_ends : {taken : List ℕ} {es : List Event} {b c t : Body} {down n : ℕ} {f : Refusal} {x : List ℕ} → Live lends v start size taken es b → step lends None b ≡ stops f c x →
      Apart f (drawn lends f c) t → SkipEnd lends v start size taken es b down n t (Err f)
  refused_ends {taken} {es} {b} {c} {t} {f = f} {x = x} l stop apart = cut [] taken (omega arith) latches (rw (append-nil es) (stuck None l st stop latches t apart.opens apart.events inside)) (λ d at. refl)
    where
      st : Stopped lends (all_bytes v) None b f c
      st = step_stops None b f c x l.ready stop

      inside : t.reader.count ≤ start + size
      inside = rw (count_left f.cause (drawn lends f c).reader t.reader apart.reader) (after_end (drawn lends f c).reader.count l (rw (← st.end) (step_draws lends None b f c x stop (rw st.end (st.inside (before_end l))))))

      roomy : ForGoodOrWaits lends (all_bytes v) None f b c → latching f.cause ≡ true
      roomy (inl latches) = latches
      roomy (inr (full, limited, waiting)) = absurd (limited (no_space lends))

      latches : latching f.cause ≡ true
      latches = roomy st.kind

  -- an event more before what passes
  one_before : {taken : List ℕ} {es : List Event} {b c t : Body} {e : event.Event} {down n m : ℕ} {r : Result ℕ Refusal} {x : List ℕ} (st : Stepped lends (all_bytes v) b e c x) (front : List ℕ) →
      Front b.unread front →
      (adv : Advanced lends v start size taken (es ++ (st.says ∷ [])) c) → down < nesting c.opens → m ≡ suc n → SkipEnd lends v start size adv.taken_now (es ++ (st.says ∷ [])) c down m t r → SkipEnd lends v start size taken es b down n t r
  one_before {taken} {es} {b} {c} {t} {down = down} st front fronts adv deep one (done more now live long passed) =
      done (st.says ∷ more) now (subst (λ es. Live lends v start size now es t) (append_assoc es (st.says ∷ []) more) live) (omega arith) (behind passed)
    where
      behind : {more : List Event} → StretchPassed lends v start down c t adv.taken_now now more → StretchPassed lends v start down b t taken now (st.says ∷ more)
      behind (nothing closed same) = absurd (omega (arith, ap nesting closed))
      behind (something runs here) = something (onward (st.takes front fronts) (rw (named_nesting (all_bytes v) c.opens) deep) runs) here
  one_before {taken} {es} {b} {c} {t} {down = down} st front fronts adv deep one (cut more now {f} grows latches stands short) =
      let grown = adv.grows in
      cut (st.says ∷ more) now (omega arith) latches (subst (λ es. Stuck lends v start size now es f t) (append_assoc es (st.says ∷ []) more) stands) longer
    where
      longer : (d : ℕ) → nesting (levels (all_bytes v) b.opens) ≡ down + d → stretch d (st.says ∷ more) ≡ suc (length more)
      longer d there =
          let (then, on) = stretch_on d there (st.takes front fronts) (rw (named_nesting (all_bytes v) c.opens) deep) in
          on more ∙ ap suc (short (deeper d st.says) then)

  pub skip_ends : {down n : ℕ} {b t : Body} {r : Result ℕ Refusal} {taken : List ℕ} {es : List Event} → Skips lends down n b r t → Live lends v start size taken es b → n ≤ length es →
      SkipEnd lends v start size taken es b down n t r
  skip_ends {b = b} (calls.over {c = c} {x = x} gave r t) l few =
      let (same, closed, calm) = step_none lends None b c x gave in
      rw (r, t, same) (nothing_ends l closed)
  skip_ends (calls.stuck stop r apart) l few = rw r (refused_ends l stop apart)
  skip_ends {down} {n} {b} {taken = taken} {es = es} (calls.last {c = c} {e = e} {x = x} gave low r t) l few =
      let st = step_gives None b e c x l.ready gave in
      let adv = advance small l st in
      rw (r, t) (done (st.says ∷ []) adv.taken_now {k = counted n} adv.live (rw (counts_one n small l few) (omega arith)) (something (last (st.takes l.front l.fronts) (rw (named_nesting (all_bytes v) c.opens) low)) adv.here))
  skip_ends {down} {n} {b} {taken = taken} {es = es} (calls.onward {c = c} {e = e} {x = x} gave deep m rest) l few =
      let st = step_gives None b e c x l.ready gave in
      let adv = advance small l st in
      one_before st l.front l.fronts adv deep (m ∙ counts_one n small l few) (skip_ends rest adv.live (rw (m, counts_one n small l few) (simp length-append (omega arith))))

-- where no event comes, none is passed
pub none_skipped : {lends : Bool} {down n : ℕ} {b t : Body} {r : Result ℕ Refusal} → Skips lends down n b r t → step lends None b ≡ gives None b [] → r ≡ Ok n
none_skipped (calls.over gave r t) ended = r
none_skipped (calls.stuck stop r apart) ended = absurd (cc)
none_skipped (calls.last gave low r t) ended = absurd (cc)
none_skipped (calls.onward gave deep m rest) ended = absurd (cc)
