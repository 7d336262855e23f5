-- What skip passes: one event, or all from a begin to its end.
use Rattle.std.proofs.Common.{◌≡◌, ℕ, zero, suc, pred, cond, ◌+◌, ◌<◌, ◌≤◌, List, [], ◌∷◌, ◌++◌, length, refl, ap, ◌∙◌, subst, arith}
use Rattle.std.proofs.lemmas.Bool.{ne_eqb}
use Rattle.values.specs.Values.{Event, array_begin, array_end, map_begin, map_end}
use Rattle.values.specs.Limits.{Limits}
use Rattle.room.specs.Open.{items, filled, nesting}
use Rattle.runs.specs.Law.{deeper, stretch}
use Rattle.runs.proofs.Taking.{Level, null_is, Takes, plain_comes, array_comes, object_comes, template_comes}

-- a value takes a place at the same depth
filled_nesting : (s : List Level) → nesting (filled s) ≡ nesting s
filled_nesting [] = refl
filled_nesting (items zero ∷ s) = refl
filled_nesting (o ∷ s) = refl

-- the levels are nested as deep as the events say
nests : {L : Limits} {s t : List Level} {c : List ℕ} {e : Event} → Takes L s c e t → nesting t ≡ deeper (nesting s) e
nests {s = s} (plain_comes w null_is h) = filled_nesting s
nests {s = s} (plain_comes w p h) = filled_nesting s
nests {s = s} (array_comes w u n h i) = ap suc (filled_nesting s)
nests {s = s} (object_comes w u n h i) = ap suc (filled_nesting s)
nests {s = s} (template_comes w u ks y n g h k i) = ap suc (filled_nesting s)
nests _ = refl

-- these events come from levels s to levels t, the first that are nested so deep or less
pub data Runs (L : Limits) (down : ℕ) : List Level → List Event → List Level → Type 0 where
  last : {s t : List Level} {c : List ℕ} {e : Event} → Takes L s c e t → nesting t ≤ down → Runs L down s (e ∷ []) t
  onward : {s t u : List Level} {c : List ℕ} {e : Event} {es : List Event} → Takes L s c e t → down < nesting t → Runs L down t es u → Runs L down s (e ∷ es) u

-- One event, where the depth is counted from the outermost level and from where the stretch began: a stretch counts from there, and not below.
lower : (down d : ℕ) → pred (down + d) ≤ down → pred d ≡ 0
lower down d h = omega arith

lower_deep : (down d : ℕ) → down < pred (down + d) → (pred (down + d) ≡ down + pred d) × (0 < pred d)
lower_deep down d h = omega arith

ends_here : (down d : ℕ) (e : Event) → deeper (down + d) e ≤ down → deeper d e ≡ 0
ends_here down d array_begin h = omega arith
ends_here down d array_end h = lower down d h
ends_here down d map_begin h = omega arith
ends_here down d map_end h = lower down d h
ends_here down d _ h = omega arith

goes_on : (down d : ℕ) (e : Event) → down < deeper (down + d) e → (deeper (down + d) e ≡ down + deeper d e) × (0 < deeper d e)
goes_on down d array_begin h = omega arith
goes_on down d array_end h = lower_deep down d h
goes_on down d map_begin h = omega arith
goes_on down d map_end h = lower_deep down d h
goes_on down d _ h = omega arith

-- an event behind which the stretch goes on
pub stretch_on : {L : Limits} {down : ℕ} {s t : List Level} {c : List ℕ} {e : Event} (d : ℕ) → nesting s ≡ down + d → Takes L s c e t → down < nesting t →
    (nesting t ≡ down + deeper d e) × ((es : List Event) → stretch d (e ∷ es) ≡ suc (stretch (deeper d e) es))
stretch_on {down = down} {e = e} d at h deep =
    let after = nests h ∙ ap (λ n. deeper n e) at in
    let (there, above) = goes_on down d e (subst (λ n. down < n) after deep) in
    (after ∙ there, λ es. ap (λ b. suc (cond b 0 (stretch (deeper d e) es))) (ne_eqb (deeper d e) 0 (λ z. omega arith)))

stretch_from : {L : Limits} {down : ℕ} {s t : List Level} {es : List Event} (d : ℕ) → nesting s ≡ down + d → Runs L down s es t → (x : List Event) → stretch d (es ++ x) ≡ length es
stretch_from {down = down} d at (last {e = e} h low) x = rw (ends_here down d e (subst (λ n. n ≤ down) (nests h ∙ ap (λ n. deeper n e) at) low))
stretch_from {down = down} d at (onward {e = e} h deep r) x =
    let (there, longer) = stretch_on d at h deep in
    longer _ ∙ ap suc (stretch_from (deeper d e) there r x)

-- what has passed where skip ends is the whole stretch
pub stretch_of : {L : Limits} {down : ℕ} {s t : List Level} {es : List Event} → Runs L down s es t → down ≡ nesting s → (x : List Event) → stretch 0 (es ++ x) ≡ length es
stretch_of r at x = stretch_from 0 (omega arith) r x
