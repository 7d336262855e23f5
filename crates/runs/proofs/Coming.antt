-- What may still come where these levels are open: one event after another, until the value has ended.
use Rattle.std.proofs.Common.{◌≡◌, ℕ, zero, suc, List, [], ◌∷◌, ◌++◌, length, refl, ap, arith}
use Rattle.format.specs.declared.width.Width.TheVariants.{W8}
use Rattle.utf8.specs.Utf8.{utf8}
use Rattle.values.specs.Values.{Event, as_bytes, Key, KeyFormed}
use Rattle.values.specs.Limits.{Limits, none}
use Rattle.room.specs.Open.{start, items, pairs, field, rows, row, cell}
use Rattle.runs.proofs.Taking.{Level, null_is, Takes, plain_comes, array_comes, array_ends, object_comes, key_comes, object_ends, template_comes, row_begins, column_comes, gap_comes, row_ends, template_ends}

-- these bytes and these events may still come within the limits
pub data Completes (L : Limits) : List Level → List ℕ → List Event → Type 0 where
  at_end : Completes L [] [] []
  goes : {s t : List Level} {c b : List ℕ} {e : Event} {x : List Event} → Takes L s c e t → Completes L t b x → Completes L s (c ++ b) (e ∷ x)

-- what is taken within some limits is taken without them
pub freed : {L : Limits} {s t : List Level} {c : List ℕ} {e : Event} → Takes L s c e t → Takes none s c e t
freed (plain_comes w p h) = plain_comes w p h
freed (array_comes w u n h i) = array_comes w u n h tt
freed array_ends = array_ends
freed (object_comes w u n h i) = object_comes w u n h tt
freed (key_comes k h) = key_comes k h
freed object_ends = object_ends
freed (template_comes w u ks y n g h k i) = template_comes w u ks y n g h k (record { own_level = tt; list_level = tt; few_keys = tt; few_bytes = tt; keyed = tt })
freed row_begins = row_begins
freed column_comes = column_comes
freed gap_comes = gap_comes
freed row_ends = row_ends
freed template_ends = template_ends

-- ---- the end

pub nothing_comes : {L : Limits} {t : List Level} {c : List ℕ} {e : Event} → Takes L [] c e t → ⊥
nothing_comes (plain_comes w p h) = w
nothing_comes (array_comes w u n h i) = w
nothing_comes (object_comes w u n h i) = w
nothing_comes (template_comes w u ks y n g h k i) = w

-- nothing comes behind the value
pub ended : {L : Limits} {b : List ℕ} {x : List Event} → Completes L [] b x → (b ≡ []) × (x ≡ [])
ended at_end = (refl, refl)
ended (goes h c) = absurd (nothing_comes h)

-- where no event comes any more, the value has ended
pub all_come : {L : Limits} {s : List Level} {b : List ℕ} {x : List Event} → Completes L s b x → x ≡ [] → (s ≡ []) × (b ≡ [])
all_come at_end e = (refl, refl)
all_come (goes h c) e = absurd (omega (arith, ap length e))

-- ---- without limits, every list of levels can be completed: by nulls under empty names, and by gaps

abbrev pub Completion : List Level → Type 0
Completion s = (b : List ℕ) × (x : List Event) × Completes none s b x

empty_name : Key
empty_name = record { tag = as_bytes; width = W8; name = [] }

empty_formed : KeyFormed empty_name
unfolding empty_name utf8
empty_formed = ((omega arith, tt), refl)

onto : {s t : List Level} {c : List ℕ} {e : Event} → Takes none s c e t → Completion t → Completion s
onto h (b, x, c) = (_, _, goes h c)

items_completed : (n : ℕ) {s : List Level} → Completion s → Completion (items n ∷ s)
items_completed zero c = onto array_ends c
items_completed (suc n) c = onto (plain_comes tt null_is tt) (items_completed n c)

pairs_completed : (n : ℕ) {s : List Level} → Completion s → Completion (pairs n ∷ s)
pairs_completed zero c = onto object_ends c
pairs_completed (suc n) c = onto (key_comes empty_name empty_formed) (onto (plain_comes tt null_is tt) (pairs_completed n c))

row_completed : (l ks : List (List ℕ)) (n : ℕ) {s : List Level} → Completion (rows ks n ∷ s) → Completion (row l ks n ∷ s)
row_completed [] ks n c = onto row_ends c
row_completed (k ∷ l) ks n c = onto column_comes (onto gap_comes (row_completed l ks n c))

rows_completed : (ks : List (List ℕ)) (n : ℕ) {s : List Level} → Completion s → Completion (rows ks n ∷ s)
rows_completed ks zero c = onto template_ends c
rows_completed ks (suc n) c = onto row_begins (row_completed ks ks n (rows_completed ks n c))

pub completion : (s : List Level) → Completion s
completion [] = (_, _, at_end)
completion (start ∷ s) = onto (plain_comes tt null_is tt) (completion s)
completion (items n ∷ s) = items_completed n (completion s)
completion (pairs n ∷ s) = pairs_completed n (completion s)
completion (field n ∷ s) = onto (plain_comes tt null_is tt) (pairs_completed n (completion s))
completion (rows ks n ∷ s) = rows_completed ks n (completion s)
completion (row l ks n ∷ s) = row_completed l ks n (rows_completed ks n (completion s))
completion (cell l ks n ∷ s) = onto gap_comes (row_completed l ks n (rows_completed ks n (completion s)))
