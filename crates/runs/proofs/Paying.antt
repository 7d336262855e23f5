-- How few events there are to the bytes: at most four for each, counted by what the open levels owe.
use Rattle.std.proofs.Common.{◌≡◌, ℕ, zero, suc, ◌+◌, ◌*◌, ◌<◌, ◌≤◌, Bool, true, false, List, [], ◌∷◌, length, refl, arith}
use Rattle.format.specs.declared.width.Width.{Width}
use Rattle.values.specs.Values.{Key, Event, count_encoding}
use Rattle.values.specs.Limits.{RowsKeyed}
use Rattle.de.proofs.Falling.{spare, idle, filled_little}
use Rattle.runs.specs.Law.{limits}
use Rattle.runs.proofs.Taking.{Level, null_is, key_names, Takes, plain_comes, array_comes, object_comes, template_comes, row_begins, gap_comes}

-- What is idle of the open levels is what they owe: so many events may come for bytes that were taken before. A byte pays for four, as
-- where a gap is the last of its row: the gap, the end of the row, the begin of the next, and its first key.

counted_byte : (w : Width) (n : ℕ) → 1 ≤ length (count_encoding w n)
unfolding count_encoding
counted_byte w n = omega arith

pub keyed_rows : (lends : Bool) (n k : ℕ) → RowsKeyed (limits lends) n k → 0 < n → 0 < k
keyed_rows true n k h = h
keyed_rows false n k h = h

none_free : (ks : List Key) (n : ℕ) → (0 < n → 0 < length ks) → spare (key_names ks) n ≡ 0
none_free [] zero h = refl
none_free [] (suc n) h = absurd (omega (arith, h (omega arith)))
none_free (k ∷ ks) n h = refl

pub pays : (lends : Bool) {s t : List Level} {c : List ℕ} {e : Event} → Takes (limits lends) s c e t → 1 + idle t ≤ idle s + 4 * length c
pays lends {s} (plain_comes w null_is h) = omega (arith, filled_little s)
pays lends {s} (plain_comes w p h) = omega (arith, filled_little s)
pays lends {s} (array_comes w u n h i) = omega (arith, filled_little s, counted_byte u n)
pays lends {s} (object_comes w u n h i) = omega (arith, filled_little s, counted_byte u n)
pays lends {s} (template_comes w u ks y n g k h i) = omega (arith, filled_little s, none_free ks n (keyed_rows lends n (length ks) i.keyed))
pays lends (row_begins {ks = []}) = omega arith
pays lends (gap_comes {l = []}) = omega arith
pays lends _ = omega arith
