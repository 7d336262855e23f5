-- What a run has logged, call after call.
use Rattle.std.proofs.Common.{◌≡◌, ℕ, ◌+◌, ◌<◌, ◌≤◌, Bool, List, [], ◌∷◌, ◌++◌, length, get_or, take, drop, Ok, Err, Result, IsErr, refl, sym, ap, ap₂, ◌∙◌, subst, arith, append-nil, append_assoc}
use Rattle.std.proofs.lemmas.List.{take_more, take_all}
use lib.ListN.{take-append-drop}
use Rattle.read.specs.Reader.{View, Sound}
use Rattle.de.specs.declared.entry.Call.{Call}
use Rattle.de.specs.declared.entry.Entry.{Entry}
use Rattle.de.specs.Calls.{State, fresh}
use Rattle.de.specs.Made.{Logged, CallsMade, none_made, one_more, moment}
use Rattle.runs.specs.Ran.{moments, called, Ran}
use Rattle.runs.proofs.Lawful.{lawful}

moments_append : (es fs : List Entry) → moments (es ++ fs) ≡ moments es ++ moments fs
moments_append [] fs = refl
moments_append (e ∷ es) fs = ap (λ l. moment e ∷ l) (moments_append es fs)

called_append : (es fs : List Entry) → called (es ++ fs) ≡ called es ++ called fs
called_append [] fs = refl
called_append (e ∷ es) fs = ap (λ l. e.call ∷ l) (called_append es fs)

-- the first n calls have been made, and the decoder is in this state
pub record Going (lends : Bool) (v : View) (calls : List Call) (old new : List Entry) (s : State) (n : ℕ) : Type 0 where
  pub told : List Entry
  pub logged : new ≡ old ++ told
  pub made : called told ≡ take n calls
  pub runs : CallsMade lends (fresh v) (moments told) s

module _ {lends : Bool} {v : View} {calls : List Call} {old : List Entry} where
  pub going_first : {s : State} → s ≡ fresh v → Going lends v calls old old s 0
  going_first is = record { told = []; logged = sym (append-nil old); made = refl; runs = subst (λ s. CallsMade lends (fresh v) [] s) (sym is) none_made }

  pub going_more : {new last : List Entry} {s t : State} {n : ℕ} (e : Entry) (d : Call) → Going lends v calls old new s n → n < length calls → e.call ≡ get_or calls n d → Logged lends s (moment e) t → last ≡ new ++ e ∷ [] →
      Going lends v calls old last t (n + 1)
  going_more {t = t} {n = n} e d g more is l put = record {
    told = g.told ++ e ∷ [];
    logged = put ∙ ap (λ l. l ++ e ∷ []) g.logged ∙ append_assoc old g.told (e ∷ []);
    made = called_append g.told (e ∷ []) ∙ ap₂ (λ l c. l ++ c ∷ []) g.made is ∙ sym (take_more calls n d more);
    runs = subst (λ h. CallsMade lends (fresh v) h t) (sym (moments_append g.told (e ∷ []))) (one_more (moment e) g.runs l);
  }

  pub stopped : {E : Type 0} {new : List Entry} {s : State} {n : ℕ} (r : Result Unit E) → Sound lends v → Going lends v calls old new s n → IsErr r → Ran lends v calls old r new
  stopped (Ok x) sound g err = let z : ◌≡◌ {A = ℕ} 0 1 = cc in absurd (omega arith)
  stopped {n = n} (Err e) sound g err = record { told = g.told; logged = g.logged; made = (drop n calls, sym (ap (λ l. l ++ drop n calls) g.made ∙ take-append-drop n calls)); left = _; answered = g.runs; lawful = lawful sound g.runs }

  pub finished : {E : Type 0} {new : List Entry} {s : State} {n : ℕ} (x : Unit {0}) → Sound lends v → Going lends v calls old new s n → length calls ≤ n → Ran {E = E} lends v calls old (Ok x) new
  finished {n = n} x sound g all = record { told = g.told; logged = g.logged; made = g.made ∙ take_all n calls all; left = _; answered = g.runs; lawful = lawful sound g.runs }
