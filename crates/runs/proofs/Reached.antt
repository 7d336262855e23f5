-- What is true of the levels that are reached when these bytes have been taken and these events have passed.
use Rattle.std.proofs.Common.{◌≡◌, ℕ, ◌+◌, ◌*◌, ◌≤◌, Bool, List, [], ◌∷◌, ◌++◌, length, refl, ap, sym, subst, subst₂, ◌∙◌, append_assoc, append-nil, length-append, arith}
use Rattle.std.proofs.lemmas.List.{append_cancel_left}
use Rattle.values.specs.Values.{Value, null, encoding, Event, events, Formed}
use Rattle.values.specs.Limits.{Limits, none, Within}
use Rattle.room.specs.Open.{start}
use Rattle.runs.specs.Law.{limits}
use Rattle.runs.proofs.Taking.{Level, Takes}
use Rattle.runs.proofs.Alike.{takes_same}
use Rattle.runs.proofs.Coming.{Completes, at_end, goes, freed, nothing_comes, completion}
use Rattle.runs.proofs.Encoded.{unlimited, begins_with}
use Rattle.runs.proofs.Decoded.{value_of}
use Rattle.de.proofs.Falling.{idle}
use Rattle.runs.proofs.Paying.{pays}

-- where these bytes are the first to come, the event that was read from them is the first to come
next_comes : {L K : Limits} {s t : List Level} {c y : List ℕ} {e : Event} {z : List Event} (b : List ℕ) → Takes K s c e t → Completes L s y z → y ≡ c ++ b → (x : List Event) × (z ≡ e ∷ x) × Completes L t b x
next_comes b k at_end q = absurd (nothing_comes k)
next_comes {L} {c = c} b k (goes {b = r} {x = x} h p) q =
    let (same, event, levels) = takes_same r b h k q in
    let rest : r ≡ b = append_cancel_left c r b (ap (λ d. d ++ r) (sym same) ∙ q) in
    (x, ap (λ f. f ∷ x) event, subst₂ (λ u d. Completes L u d x) levels rest p)

-- a value whose encoding begins with the bytes taken: its events begin with those that have passed, and the others may still come
abbrev pub Continues : Limits → List ℕ → List Event → List Level → Value → Type 0
Continues L taken es s w = (b : List ℕ) → encoding w ≡ taken ++ b → (x : List Event) × (events w ≡ es ++ x) × Completes L s b x

first_on : {L : Limits} (w : Value) → Formed w → Within w L 0 0 0 → Continues L [] [] (start ∷ []) w
first_on {L} w h i b q = (events w, refl, subst (λ c. Completes L (start ∷ []) c (events w)) q (begins_with w h i))

more_on : {L K : Limits} {c : List ℕ} {e : Event} {s t : List Level} (taken : List ℕ) (es : List Event) (w : Value) → Continues L taken es s w → Takes K s c e t → Continues L (taken ++ c) (es ++ (e ∷ [])) t w
more_on {c = c} {e = e} taken es w p k b q =
    let (z, f, m) = p (c ++ b) (q ∙ append_assoc taken c b) in
    let (x, g, n) = next_comes b k m refl in
    (x, f ∙ ap (λ y. es ++ y) g ∙ sym (append_assoc es (e ∷ []) x), n)

pub record Reached (lends : Bool) (taken : List ℕ) (es : List Event) (s : List Level) : Type 0 where
  pub every : (w : Value) → Formed w → Continues none taken es s w
  pub whole : (w : Value) → Formed w → Within w (limits lends) 0 0 0 → Continues (limits lends) taken es s w
  -- what may still come makes a whole body of what has come
  pub completed : (b : List ℕ) (x : List Event) → Completes none s b x → Completes none (start ∷ []) (taken ++ b) (es ++ x)
  pub some : (w : Value) × Formed w × (b : List ℕ) × (encoding w ≡ taken ++ b)
  pub paid : length es + idle s ≤ 4 * length taken

pub reached_first : {lends : Bool} → Reached lends [] [] (start ∷ [])
reached_first = record {
  every = λ w h. first_on w h (unlimited w 0 0 0);
  whole = first_on;
  completed = λ b x c. c;
  some = (null, tt, encoding null, refl);
  paid = omega arith;
}

pub reached_more : {lends : Bool} {taken bs : List ℕ} {es : List Event} {e : Event} {s t : List Level} → Reached lends taken es s → Takes (limits lends) s bs e t → Reached lends (taken ++ bs) (es ++ (e ∷ [])) t
reached_more {lends} {taken} {bs} {es} {e} {s} {t} p k = record {
  every = λ w h. more_on taken es w (p.every w h) k;
  whole = λ w h i. more_on taken es w (p.whole w h i) k;
  completed = on;
  some = let (b, x, c) = completion t in let (w, h, q, _) = value_of (on b x c) in (w, h, b, q);
  paid = simp length-append (omega (arith, pays lends k, p.paid));
}
  where
    on : (b : List ℕ) (x : List Event) → Completes none t b x → Completes none (start ∷ []) ((taken ++ bs) ++ b) ((es ++ (e ∷ [])) ++ x)
    on b x c = rw (append_assoc taken bs b, append_assoc es (e ∷ []) x) (p.completed (bs ++ b) (e ∷ x) (goes (freed k) c))

-- where the value has ended, the bytes taken are its encoding
pub whole_body : {lends : Bool} {taken : List ℕ} {es : List Event} → Reached lends taken es [] → (w : Value) × Formed w × (encoding w ≡ taken) × (events w ≡ es)
whole_body {taken = taken} {es = es} p = let (w, h, q, g) = value_of (p.completed [] [] at_end) in (w, h, q ∙ append-nil taken, g ∙ append-nil es)
