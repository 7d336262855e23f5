-- A number that falls with every event: a value takes a byte at least, and few events pass for nothing.
use Rattle.std.proofs.Common.{◌≡◌, ℕ, zero, suc, ◌+◌, ◌*◌, ◌<◌, ◌≤◌, Bool, true, false, cond, List, [], ◌∷◌, length, take, Some, None, Ok, Err, Option, Result, ◌==◌, ◌&&◌, nat_lt, nat_le, refl, subst, arith}
use Rattle.std.proofs.lemmas.Bool.{ltb-false}
use Rattle.std.proofs.lemmas.List.{length-drop}
use Rattle.utf8.specs.Utf8.{utf8}
use Rattle.read.specs.declared.Taken.{Taken}
use Rattle.read.specs.Reader.{View, held, advanced, discarded, cramped}
use Rattle.format.specs.declared.width.Width.{Width}
use Rattle.format.specs.declared.refusal.ReadError.{ReadError}
use Rattle.format.specs.declared.refusal.Kind.{Kind}
use Rattle.format.specs.declared.refusal.Kind.TheVariants.{TemplateKey, MapKey}
use Rattle.format.specs.declared.refusal.Cause.TheVariants.{NoKeys}
use Rattle.format.specs.declared.refusal.Refusal.{Refusal}
use Rattle.format.specs.Integers.{bytes_of}
use Rattle.bunser.specs.Outcome.{Outcome, asked, answer}
use Rattle.bunser.specs.Reads.{peek_read, bytes_read, int_read, real_read, int_width, behind_tag, tagged_int_read, count_of, told_as, count_read}
use Rattle.bunser.specs.Texts.{textual, text_read, begins_key, placed_count, key_length_read}
use Rattle.bunser.specs.declared.text.TextKind.{TextKind}
use Rattle.bunser.specs.declared.text.TextKind.TheVariants as text
use Rattle.bunser.specs.declared.text.Unread.{Unread}
use Rattle.bunser.proofs.Asking.{granted}
use Rattle.de.proofs.Got.{IfGot, gave, refused, got_then, got_placed, got_roomed, got_if, got_answer}
use Rattle.de.proofs.Tags.{by_tag}
use Rattle.room.specs.Open.{Column, lent, copied, column_bytes, Open, start, items, pairs, field, rows, row, cell, due, filled, keyed, row_turned, column, depth, keys_held, bytes_held}
use Rattle.room.specs.KeyList.{key_space, key_read, keys_read, listed_read, key_list_read}
use Rattle.de.specs.declared.event.Event.{Event}
use Rattle.de.specs.declared.event.Event.TheVariants as event
use Rattle.de.specs.declared.event.Ahead.TheVariants as ahead
use Rattle.de.specs.Steps.{Body, moved, Coming, comes, halts, reading, int_comes, real_comes, text_comes, key_comes, tag_comes, array_comes, object_comes, refuse, passes, keyless, rows_by, rows_come, template_comes, tagged, item_comes, due_comes, unread_comes, coming, Out, gives, stops, text_outcome, text_space, behind_text, text_by, text_step, column_by, column_step, finishing, step}

-- ---- the number

-- twice the rows to come of a template without keys, which begin and end for nothing
abbrev pub spare : {C : Type 0} → List C → ℕ → ℕ
spare [] n = 2 * n
spare (k ∷ ks) n = 0

-- no fewer than the events that what is open lets pass while nothing is read
abbrev pub idle : {C : Type 0} → List (Open C) → ℕ
idle [] = 0
idle (start ∷ s) = idle s
idle (items n ∷ s) = 1 + idle s
idle (pairs n ∷ s) = 1 + idle s
idle (field n ∷ s) = 1 + idle s
idle (rows ks n ∷ s) = 3 + spare ks n + idle s
idle (row [] ks n ∷ s) = 4 + spare ks n + idle s
idle (row (k ∷ l) ks n ∷ s) = 2 + spare ks n + idle s
idle (cell l ks n ∷ s) = 1 + spare ks n + idle s

-- with so many bytes to come: a byte weighs more than a value adds to what is idle, which is 6 at most
abbrev pub weight : ℕ → List (Open Column) → ℕ
weight n o = 8 * n + idle o

-- a text whose tag was taken, and whose event has not passed, counts as a byte
abbrev pub awaited : Option Unread → ℕ
awaited (Some u) = 1
awaited None = 0

abbrev pub left : Body → ℕ
left b = weight (awaited b.unread + length b.reader.coming) b.opens

-- ---- what is open

-- a value that begins adds most behind the last cell of a row
pub filled_little : {C : Type 0} (s : List (Open C)) → idle (filled s) ≤ 3 + idle s
filled_little [] = omega arith
filled_little (start ∷ s) = omega arith
filled_little (items zero ∷ s) = omega arith
filled_little (items (suc n) ∷ s) = omega arith
filled_little (pairs n ∷ s) = omega arith
filled_little (field n ∷ s) = omega arith
filled_little (rows ks n ∷ s) = omega arith
filled_little (row l ks n ∷ s) = omega arith
filled_little (cell [] ks n ∷ s) = omega arith
filled_little (cell (k ∷ l) ks n ∷ s) = omega arith

-- a key adds nothing, for its value is still to come
keyed_little : {C : Type 0} (s : List (Open C)) → idle (keyed s) ≤ idle s
keyed_little [] = omega arith
keyed_little (start ∷ s) = omega arith
keyed_little (items n ∷ s) = omega arith
keyed_little (pairs zero ∷ s) = omega arith
keyed_little (pairs (suc n) ∷ s) = omega arith
keyed_little (field n ∷ s) = omega arith
keyed_little (rows ks n ∷ s) = omega arith
keyed_little (row l ks n ∷ s) = omega arith
keyed_little (cell l ks n ∷ s) = omega arith

text_little : (k : TextKind) (s : List (Open Column)) → idle (behind_text k s) ≤ 3 + idle s
text_little text.Bytes s = filled_little s
text_little text.Text s = filled_little s
text_little text.Key s = omega (arith, keyed_little s)

-- ---- reads

-- fewer than so many bytes are to come
abbrev Fewer : ℕ → View → Type 0
Fewer n v = length v.coming < n

-- after a read that gives anything
abbrev Few : ℕ → {A : Type 0} → A → View → Type 0
Few n a v = Fewer n v

module _ (lends : Bool) (end : Option ℕ) (most : ℕ) where
  -- a tag that is shown is still to come, and can be taken
  peek_fewer : (v : View) → length v.coming ≤ most → IfGot (λ t w. Fewer most (discarded lends w)) (peek_read end v)
  peek_fewer v h = got_answer (asked end v None 1) v _ (held v) (λ e. let some = granted end v None 1 e in omega (arith, length-drop 1 v.coming))

  taken_fewer : {A : Type 0} (space : Option ℕ) (n : ℕ) (v : View) (a : A) → Fewer most v → IfGot (Few most) (answer (asked end v space n) v a (advanced lends n v))
  taken_fewer space n v a h = got_answer (asked end v space n) v a (advanced lends n v) (λ e. omega (arith, length-drop n v.coming))

  bytes_fewer : (space : Option ℕ) (n : ℕ) (v : View) → Fewer most v → IfGot (Few most) (bytes_read lends end space n v)
  bytes_fewer space n v = taken_fewer space n v _

  int_fewer : (w : Width) (v : View) → Fewer most v → IfGot (Few most) (int_read lends end w v)
  int_fewer w v = taken_fewer None (bytes_of w) v _

  real_fewer : (v : View) → Fewer most v → IfGot (Few most) (real_read lends end v)
  real_fewer v = taken_fewer None 8 v _

  count_fewer : (v : View) → Fewer most v → IfGot (Few most) (placed_count lends end v)
  unfolding count_read tagged_int_read
  count_fewer v h = got_placed v.count (got_then (got_then (peek_fewer v (omega arith)) (λ t. behind (int_width t))) (λ z. result (count_of z)))
    where
      behind : (r : Result Width ReadError) (w : View) → Fewer most (discarded lends w) → IfGot (Few most) (behind_tag lends end r w)
      behind (Ok k) w = int_fewer k (discarded lends w)
      behind (Err e) w = λ _. refused

      result : {A : Type 0} (r : Result A ReadError) (w : View) → Fewer most w → IfGot (Few most) (told_as r w)
      result (Ok a) w = gave
      result (Err e) w = λ _. refused

  text_fewer : (space : Option ℕ) (n : ℕ) (v : View) → Fewer most v → IfGot (Few most) (text_read lends end space n v)
  unfolding text_read
  text_fewer space n v h = got_then (bytes_fewer space n v h) (judged (utf8 (take n v.coming)))
    where
      judged : (b : Bool) (t : Taken) (w : View) → Fewer most w → IfGot (Few most) (textual b t w)
      judged true t w = gave
      judged false t w = λ _. refused

  outcome_fewer : (space : Option ℕ) (n : ℕ) (v : View) → Fewer most v → (k : TextKind) → IfGot (Few most) (text_outcome k lends end space n v)
  outcome_fewer space n v h text.Bytes = bytes_fewer space n v h
  outcome_fewer space n v h text.Text = text_fewer space n v h
  outcome_fewer space n v h text.Key = text_fewer space n v h

  key_length_fewer : (kind : Kind) (v : View) → length v.coming ≤ most → IfGot (Few most) (key_length_read lends end kind v)
  unfolding key_length_read
  key_length_fewer kind v h = got_then (got_placed v.count (peek_fewer v h)) (λ t w l. got_if (begins_key t) (count_fewer (discarded lends w) l) refused)

  key_fewer : (taken : ℕ) (v : View) → Fewer most v → IfGot (Few most) (key_read lends end taken v)
  unfolding key_read
  key_fewer taken v h = got_then (key_length_fewer TemplateKey v (omega arith)) (λ n w l. got_then (got_roomed w.count (text_fewer (key_space lends taken) n w l)) (λ t u. gave))

  keys_fewer : (taken n : ℕ) (v : View) → Fewer most v → IfGot (Few most) (keys_read lends end taken n v)
  keys_fewer taken zero v h = gave h
  keys_fewer taken (suc n) v h = got_then (key_fewer taken v h) (λ k w l. got_then (keys_fewer (taken + column_bytes (k ∷ [])) n w l) (λ ks u. gave))

  key_list_fewer : (levels keys taken : ℕ) (v : View) → Fewer most v → IfGot (Few most) (key_list_read lends end levels keys taken v)
  unfolding key_list_read
  key_list_fewer levels keys taken v h = got_then (got_placed v.count (peek_fewer v (omega arith))) (λ t w l. got_if (t == 0x00) (got_if (nat_lt (suc levels) 128) (listed w l) refused) refused)
    where
      listed : (w : View) → Fewer most (discarded lends w) → IfGot (Few most) (listed_read lends end keys taken w)
      listed w l = got_then (count_fewer (discarded lends w) l) (λ n u g. got_if (nat_le (keys + n) 256) (keys_fewer taken n u g) refused)

-- ---- what comes

-- once its event has passed, less than this is left
data Falls (n : ℕ) : Coming → Type 0 where
  falls : {e : Event} {b : Body} → left b < n → Falls n (comes (ahead.Passed e) b)
  falls_text : {u : Unread} {b : Body} → weight (length b.reader.coming) (behind_text u.kind b.opens) < n → Falls n (comes (ahead.Text u) b)
  falls_column : {b : Body} → weight (length b.reader.coming) (row_turned b.opens) < n → Falls n (comes ahead.Column b)
  ends : {b : Body} → Falls n (comes ahead.Nothing b)
  halted : {f : Refusal} {b : Body} → Falls n (halts f b)

falls_if : {n : ℕ} {x y : Coming} (b : Bool) → Falls n x → Falls n y → Falls n (cond b x y)
falls_if true h k = h
falls_if false h k = k

falls_reading : {A : Type 0} {n : ℕ} {P : A → View → Type 0} {m : Outcome Refusal A} {f : A → View → Coming} (b : Body) → IfGot P m → ((a : A) (v : View) → P a v → Falls n (f a v)) → Falls n (reading m b f)
falls_reading b (gave {a} {v} h) k = k a v h
falls_reading b refused k = halted

-- a value, whose tag is shown
module _ (lends : Bool) (most : ℕ) (b : Body) (shown : Fewer most (discarded lends b.reader)) where
  abbrev Value : Coming → Type 0
  Value c = Falls (weight most b.opens) c

  counting : (f : ℕ → View → Coming) → ((n : ℕ) (v : View) → Fewer most v → Value (f n v)) → Value (reading (placed_count lends b.end (discarded lends b.reader)) b f)
  counting f k = falls_reading b (count_fewer lends b.end most (discarded lends b.reader) shown) k

  int_falls : (w : Width) → Value (int_comes lends w b)
  unfolding int_comes
  int_falls w = falls_reading b (got_placed b.reader.count (int_fewer lends b.end most w (discarded lends b.reader) shown)) (λ z v l. falls (omega (arith, filled_little b.opens)))

  real_falls : Value (real_comes lends b)
  unfolding real_comes
  real_falls = falls_reading b (got_placed b.reader.count (real_fewer lends b.end most (discarded lends b.reader) shown)) (λ z v l. falls (omega (arith, filled_little b.opens)))

  text_falls : (k : TextKind) → Value (text_comes lends k b)
  unfolding text_comes
  text_falls k = counting _ (λ n v l. falls_text (omega (arith, text_little k b.opens)))

  tag_falls : (e : Event) → Value (tag_comes lends e b)
  unfolding tag_comes
  tag_falls e = falls (omega (arith, filled_little b.opens))

  array_falls : Value (array_comes lends b)
  unfolding array_comes
  array_falls = falls_if (nat_lt (depth b.opens) 128) (counting _ (λ n v l. falls (omega (arith, filled_little b.opens)))) halted

  object_falls : Value (object_comes lends b)
  unfolding object_comes
  object_falls = falls_if (nat_lt (depth b.opens) 128) (counting _ (λ n v l. falls (omega (arith, filled_little b.opens)))) halted

  -- rows without keys are refused, and so none of the rows pass for nothing
  rows_falls : (ks : List Column) (p n : ℕ) (v : View) → Fewer most v → Value (rows_by ks p n b v)
  rows_falls (k ∷ ks) p n v l = falls_if (keyless n (k ∷ ks)) halted (falls (omega (arith, filled_little b.opens)))
  rows_falls [] p n v l = go (nat_lt 0 n) refl
    where
      go : (some : Bool) → nat_lt 0 n ≡ some → Value (cond (some && true) (halts (refuse NoKeys p) (moved b v)) (passes event.ArrayBegin b v (rows [] n ∷ filled b.opens)))
      go true e = halted
      go false e = let none = ltb-false 0 n e in falls (omega (arith, filled_little b.opens))

  template_falls : Value (template_comes lends b)
  unfolding template_comes rows_come
  template_falls =
      falls_if (nat_lt (depth b.opens) 128)
      (falls_reading b (key_list_fewer lends b.end most (depth b.opens) (keys_held b.opens) (bytes_held column_bytes b.opens) (discarded lends b.reader) shown)
      (λ ks v l. falls_reading b (count_fewer lends b.end most v l) (rows_falls ks v.count)))
      halted

  tagged_falls : (gap : Bool) (t : ℕ) → Value (tagged lends gap t b)
  tagged_falls gap t =
      by_tag lends b t (Falls (weight most b.opens)) array_falls object_falls template_falls text_falls int_falls real_falls (tag_falls event.True) (tag_falls event.False) (tag_falls event.Null) (tag_falls event.Absent)
      halted gap

module _ (lends : Bool) where
  item_falls : (gap : Bool) (b : Body) → Falls (weight (length b.reader.coming) b.opens) (item_comes lends gap b)
  unfolding item_comes
  item_falls gap b =
      falls_reading b (got_placed b.reader.count (peek_fewer lends b.end (length b.reader.coming) b.reader (omega arith))) (λ t v l. tagged_falls lends (length b.reader.coming) (moved b v) l gap t)

  key_falls : (b : Body) → Falls (weight (length b.reader.coming) b.opens) (key_comes lends b)
  unfolding key_comes
  key_falls b = falls_reading b (key_length_fewer lends b.end (length b.reader.coming) MapKey b.reader (omega arith)) (λ n v l. falls_text (omega (arith, keyed_little b.opens)))

  due_falls : (b : Body) (s : List (Open Column)) → Falls (weight (length b.reader.coming) s) (due_comes (due s) lends (record b { opens = s }))
  due_falls b [] = ends
  due_falls b (start ∷ s) = item_falls false (record b { opens = start ∷ s })
  due_falls b (items zero ∷ s) = falls (omega arith)
  due_falls b (items (suc n) ∷ s) = item_falls false (record b { opens = items (suc n) ∷ s })
  due_falls b (pairs zero ∷ s) = falls (omega arith)
  due_falls b (pairs (suc n) ∷ s) = key_falls (record b { opens = pairs (suc n) ∷ s })
  due_falls b (field n ∷ s) = item_falls false (record b { opens = field n ∷ s })
  due_falls b (rows ks zero ∷ s) = falls (omega arith)
  due_falls b (rows [] (suc n) ∷ s) = falls (omega arith)
  due_falls b (rows (k ∷ ks) (suc n) ∷ s) = falls (omega arith)
  due_falls b (row [] ks n ∷ s) = falls (omega arith)
  due_falls b (row (k ∷ l) ks n ∷ s) = falls_column (omega arith)
  due_falls b (cell l ks n ∷ s) = item_falls true (record b { opens = cell l ks n ∷ s })

  coming_falls : (b : Body) → Falls (left b) (coming lends b)
  unfolding coming
  coming_falls b = go b.unread
    where
      go : (u : Option Unread) → Falls (weight (awaited u + length b.reader.coming) b.opens) (unread_comes u lends b)
      go (Some u) = falls_text (omega (arith, text_little u.kind b.opens))
      go None = subst (λ n. Falls n (unread_comes None lends b)) (omega arith) (due_falls b b.opens)

-- ---- the step

-- an event was given, and less than this is left
data Given (n : ℕ) : Out → Type 0 where
  given : {e : Event} {b : Body} {x : List ℕ} → left b < n → Given n (gives (Some e) b x)
  nothing : {b : Body} {x : List ℕ} → Given n (gives None b x)
  stopped : {f : Refusal} {b : Body} {x : List ℕ} → Given n (stops f b x)

given_if : {n : ℕ} {x y : Out} (b : Bool) → Given n x → Given n y → Given n (cond b x y)
given_if true h k = h
given_if false h k = k

module _ (lends : Bool) (space : Option ℕ) where
  text_given : (n : ℕ) (u : Unread) (b : Body) → weight (length b.reader.coming) (behind_text u.kind b.opens) < n → Given n (text_step lends space u b)
  unfolding text_step
  text_given n u b h = by (got_placed b.reader.count (outcome_fewer lends b.end (1 + length b.reader.coming) (text_space lends space) u.len b.reader (omega arith) u.kind)) _
    where
      by : {m : Outcome Refusal Taken} → IfGot (Few (1 + length b.reader.coming)) m → (x : List ℕ) → Given n (text_by m u b x)
      by (gave l) x = given (omega arith)
      by refused x = stopped

  column_given : (n : ℕ) (b : Body) → weight (length b.reader.coming) (row_turned b.opens) < n → Given n (column_step space b)
  unfolding column_step
  column_given n b h = by (column b.opens)
    where
      by : (k : Column) → Given n (column_by k space b)
      by (lent p m) = given (omega arith)
      by (copied bs) = given_if (cramped space (length bs)) stopped (given (omega arith))

  finished : {n : ℕ} {c : Coming} → Falls n c → Given n (finishing lends space c)
  finished (falls h) = given h
  finished {n} (falls_text {u} {b} h) = text_given n u b h
  finished {n} (falls_column {b} h) = column_given n b h
  finished ends = nothing
  finished halted = stopped

  pub step_falls : (b : Body) (e : Event) (c : Body) (x : List ℕ) → step lends space b ≡ gives (Some e) c x → left c < left b
  unfolding step
  step_falls b e c x h = go (finished (coming_falls lends b)) h
    where
      go : {o : Out} → Given (left b) o → o ≡ gives (Some e) c x → left c < left b
      go (given {e = f} {b = d} l) q = let same : d ≡ c = cc in subst (λ d. left d < left b) same l
      go nothing q = absurd (cc)
      go stopped q = absurd (cc)
