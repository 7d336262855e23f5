-- What the events of a lent table hand out lies inside the table.
use Rattle.std.proofs.Common.{ℕ, zero, suc, ◌+◌, ◌≤◌, Bool, true, false, cond, List, [], ◌∷◌, length, take, Some, None, Ok, Err, Option, Result, ◌==◌, nat_lt, nat_le, arith}
use Rattle.std.proofs.lemmas.List.{length-drop}
use Rattle.utf8.specs.Utf8.{utf8}
use Rattle.read.specs.declared.Taken.{Taken}
use Rattle.read.specs.declared.Taken.TheVariants.{Lent}
use Rattle.read.specs.Reader.{View, held, advanced, discarded, cramped}
use Rattle.format.specs.declared.width.Width.{Width}
use Rattle.format.specs.declared.refusal.ReadError.{ReadError}
use Rattle.format.specs.declared.refusal.Kind.{Kind}
use Rattle.format.specs.declared.refusal.Kind.TheVariants.{TemplateKey, MapKey}
use Rattle.format.specs.declared.refusal.Refusal.{Refusal}
use Rattle.format.specs.Integers.{bytes_of}
use Rattle.bunser.specs.Outcome.{Outcome, asked, answer}
use Rattle.bunser.specs.Reads.{peek_read, bytes_read, int_read, real_read, int_width, behind_tag, tagged_int_read, count_of, told_as, count_read, magical, magic_read, capabilities_read, length_read, header_read}
use Rattle.bunser.specs.Texts.{textual, text_read, begins_key, placed_count, key_length_read}
use Rattle.bunser.specs.declared.text.TextKind.{TextKind}
use Rattle.bunser.specs.declared.text.TextKind.TheVariants as text
use Rattle.bunser.specs.declared.text.Unread.{Unread}
use Rattle.bunser.proofs.Asking.{granted}
use Rattle.de.proofs.Got.{IfGot, gave, refused, got_then, got_placed, got_roomed, got_if, got_answer}
use Rattle.de.proofs.Tags.{by_tag}
use Rattle.room.specs.Open.{Column, lent, copied, column_bytes, Open, start, items, pairs, field, rows, row, cell, due, filled, keyed, row_turned, column, depth, keys_held, bytes_held}
use Rattle.room.specs.KeyList.{key_space, key_read, keys_read, listed_read, key_list_read}
use Rattle.de.specs.declared.event.Event.{Event}
use Rattle.de.specs.declared.event.Event.TheVariants as event
use Rattle.de.specs.declared.event.Ahead.{Ahead}
use Rattle.de.specs.declared.event.Ahead.TheVariants as ahead
use Rattle.de.specs.Steps.{Body, moved, Coming, comes, halts, reading, int_comes, real_comes, text_comes, key_comes, tag_comes, array_comes, object_comes, keyless, rows_come, template_comes, tagged, item_comes, due_comes, unread_comes, coming, Out, gives, stops, text_outcome, text_event, behind_text, text_by, text_step, column_by, column_step, finishing, step}
use Rattle.survey.specs.Inside.{TakenInside, EventInside, Fits, ColumnInside, ColumnsInside, OpensInside, BodyInside}

module _ (size : ℕ) where
  abbrev pub Gives : {A : Type 0} → A → View → Type 0
  Gives a v = Fits size v

  fits_advanced : (n : ℕ) (v : View) → Fits size v → n ≤ length v.coming → Fits size (advanced true n v)
  fits_advanced n v h there = omega (arith, length-drop n v.coming)

  -- ---- what is open

  filled_inside : (s : List (Open Column)) → OpensInside size s → OpensInside size (filled s)
  filled_inside [] h = tt
  filled_inside (start ∷ s) h = h
  filled_inside (items zero ∷ s) h = h
  filled_inside (items (suc n) ∷ s) h = h
  filled_inside (pairs n ∷ s) h = h
  filled_inside (field n ∷ s) h = h
  filled_inside (rows ks n ∷ s) h = h
  filled_inside (row l ks n ∷ s) h = h
  filled_inside (cell l ks n ∷ s) h = h

  keyed_inside : (s : List (Open Column)) → OpensInside size s → OpensInside size (keyed s)
  keyed_inside [] h = tt
  keyed_inside (start ∷ s) h = h
  keyed_inside (items n ∷ s) h = h
  keyed_inside (pairs zero ∷ s) h = h
  keyed_inside (pairs (suc n) ∷ s) h = h
  keyed_inside (field n ∷ s) h = h
  keyed_inside (rows ks n ∷ s) h = h
  keyed_inside (row l ks n ∷ s) h = h
  keyed_inside (cell l ks n ∷ s) h = h

  text_behind_inside : (k : TextKind) (s : List (Open Column)) → OpensInside size s → OpensInside size (behind_text k s)
  text_behind_inside text.Bytes s h = filled_inside s h
  text_behind_inside text.Text s h = filled_inside s h
  text_behind_inside text.Key s h = keyed_inside s h

  column_inside : (s : List (Open Column)) → OpensInside size s → ColumnInside size (column s)
  column_inside [] h = omega arith
  column_inside (start ∷ s) h = omega arith
  column_inside (items n ∷ s) h = omega arith
  column_inside (pairs n ∷ s) h = omega arith
  column_inside (field n ∷ s) h = omega arith
  column_inside (rows ks n ∷ s) h = omega arith
  column_inside (row [] ks n ∷ s) h = omega arith
  column_inside (row (k ∷ l) ks n ∷ s) ((here, others), keys, h) = here
  column_inside (cell l ks n ∷ s) h = omega arith

  turned_inside : (s : List (Open Column)) → OpensInside size s → OpensInside size (row_turned s)
  turned_inside [] h = tt
  turned_inside (start ∷ s) h = h
  turned_inside (items n ∷ s) h = h
  turned_inside (pairs n ∷ s) h = h
  turned_inside (field n ∷ s) h = h
  turned_inside (rows ks zero ∷ s) h = h
  turned_inside (rows ks (suc n) ∷ s) (keys, h) = (keys, keys, h)
  turned_inside (row [] ks n ∷ s) (none, keys, h) = (keys, h)
  turned_inside (row (k ∷ l) ks n ∷ s) ((here, others), keys, h) = (others, keys, h)
  turned_inside (cell l ks n ∷ s) h = h

  -- ---- reads

  module _ (end : Option ℕ) where
    peek_fits : (v : View) → Fits size v → IfGot (λ t w. Fits size (discarded true w)) (peek_read end v)
    peek_fits v h = got_answer (asked end v None 1) v _ (held v) (λ e. fits_advanced 1 v h (granted end v None 1 e))

    taken_fits : {A : Type 0} (space : Option ℕ) (n : ℕ) (v : View) (a : A) → Fits size v → IfGot Gives (answer (asked end v space n) v a (advanced true n v))
    taken_fits space n v a h = got_answer (asked end v space n) v a (advanced true n v) (λ e. fits_advanced n v h (granted end v space n e))

    int_fits : (w : Width) (v : View) → Fits size v → IfGot Gives (int_read true end w v)
    int_fits w v = taken_fits None (bytes_of w) v _

    real_fits : (v : View) → Fits size v → IfGot Gives (real_read true end v)
    real_fits v = taken_fits None 8 v _

    count_fits : (v : View) → Fits size v → IfGot Gives (placed_count true end v)
    unfolding count_read tagged_int_read
    count_fits v h = got_placed v.count (got_then (got_then (peek_fits v h) (λ t. behind (int_width t))) (λ z. result (count_of z)))
      where
        behind : (r : Result Width ReadError) (w : View) → Fits size (discarded true w) → IfGot Gives (behind_tag true end r w)
        behind (Ok k) w = int_fits k (discarded true w)
        behind (Err e) w = λ _. refused

        result : {A : Type 0} (r : Result A ReadError) (w : View) → Fits size w → IfGot Gives (told_as r w)
        result (Ok a) w = gave
        result (Err e) w = λ _. refused

    -- the bytes that come are there
    TextFits : ℕ → View → Taken → View → Type 0
    TextFits n v t w = (v.count + n ≤ size) × TakenInside size t n × Fits size w

    bytes_fits : (space : Option ℕ) (n : ℕ) (v : View) → Fits size v → IfGot (TextFits n v) (bytes_read true end space n v)
    unfolding TextFits
    bytes_fits space n v h =
        got_answer (asked end v space n) v (Lent v.count) (advanced true n v)
        (λ e. let there = granted end v space n e in let near : v.count + n ≤ size = omega arith in (near, near, fits_advanced n v h there))

    text_fits : (space : Option ℕ) (n : ℕ) (v : View) → Fits size v → IfGot (TextFits n v) (text_read true end space n v)
    unfolding text_read
    text_fits space n v h = got_then (bytes_fits space n v h) (judged (utf8 (take n v.coming)))
      where
        judged : (b : Bool) (t : Taken) (w : View) → TextFits n v t w → IfGot (TextFits n v) (textual b t w)
        judged true t w = gave
        judged false t w = λ _. refused

    outcome_fits : (space : Option ℕ) (n : ℕ) (v : View) → Fits size v → (k : TextKind) → IfGot (TextFits n v) (text_outcome k true end space n v)
    outcome_fits space n v h text.Bytes = bytes_fits space n v h
    outcome_fits space n v h text.Text = text_fits space n v h
    outcome_fits space n v h text.Key = text_fits space n v h

    key_length_fits : (kind : Kind) (v : View) → Fits size v → IfGot Gives (key_length_read true end kind v)
    unfolding key_length_read
    key_length_fits kind v h = got_then (got_placed v.count (peek_fits v h)) (λ t w l. got_if (begins_key t) (count_fits (discarded true w) l) refused)

    KeysFit : List Column → View → Type 0
    KeysFit ks v = ColumnsInside size ks × Fits size v

    key_fits : (taken : ℕ) (v : View) → Fits size v → IfGot (λ k w. ColumnInside size k × Fits size w) (key_read true end taken v)
    unfolding key_read TextFits
    key_fits taken v h = got_then (key_length_fits TemplateKey v h) (λ n w l. got_then (got_roomed w.count (text_fits (key_space true taken) n w l)) (λ t u r. gave (r.0, r.2)))

    keys_fit : (taken n : ℕ) (v : View) → Fits size v → IfGot KeysFit (keys_read true end taken n v)
    unfolding KeysFit
    keys_fit taken zero v h = gave (tt, h)
    keys_fit taken (suc n) v h = got_then (key_fits taken v h) (λ k w l. got_then (keys_fit (taken + column_bytes (k ∷ [])) n w l.1) (λ ks u r. gave ((l.0, r.0), r.1)))

    key_list_fits : (levels keys taken : ℕ) (v : View) → Fits size v → IfGot KeysFit (key_list_read true end levels keys taken v)
    unfolding key_list_read
    key_list_fits levels keys taken v h = got_then (got_placed v.count (peek_fits v h)) (λ t w l. got_if (t == 0x00) (got_if (nat_lt (suc levels) 128) (listed w l) refused) refused)
      where
        listed : (w : View) → Fits size (discarded true w) → IfGot KeysFit (listed_read true end keys taken w)
        listed w l = got_then (count_fits (discarded true w) l) (λ n u g. got_if (nat_le (keys + n) 256) (keys_fit taken n u g) refused)

  pub header_fits : (v : View) → Fits size v → IfGot Gives (header_read true v)
  unfolding header_read magic_read capabilities_read length_read
  header_fits v h =
      got_then (got_then (got_placed v.count (taken_fits None None 2 v _ h)) (λ bs w l. got_if (magical bs) (gave l) refused))
      (λ _ w l.
      got_then (got_placed w.count (taken_fits None None 4 w _ l))
      (λ caps u f. got_then (count_fits None u f) (λ n x g. got_if _ refused (gave g))))

  -- ---- what comes

  abbrev AheadInside : Ahead → Type 0
  AheadInside ahead.Nothing = Unit {0}
  AheadInside (ahead.Passed e) = EventInside size e
  AheadInside (ahead.Text u) = Unit {0}
  AheadInside ahead.Column = Unit {0}

  data Comes : Coming → Type 0 where
    inside : {a : Ahead} {b : Body} → AheadInside a → BodyInside size b → Comes (comes a b)
    halted : {f : Refusal} {b : Body} → Comes (halts f b)

  comes_if : {x y : Coming} (b : Bool) → Comes x → Comes y → Comes (cond b x y)
  comes_if true h k = h
  comes_if false h k = k

  comes_reading : {A : Type 0} {P : A → View → Type 0} {m : Outcome Refusal A} {f : A → View → Coming} (b : Body) → IfGot P m → ((a : A) (v : View) → P a v → Comes (f a v)) → Comes (reading m b f)
  comes_reading b (gave {a} {v} h) k = k a v h
  comes_reading b refused k = halted

  -- a value, whose tag is shown
  module _ (b : Body) (shown : Fits size (discarded true b.reader)) (opens : OpensInside size b.opens) where
    counting : (f : ℕ → View → Coming) → ((n : ℕ) (v : View) → Fits size v → Comes (f n v)) → Comes (reading (placed_count true b.end (discarded true b.reader)) b f)
    counting f k = comes_reading b (count_fits b.end (discarded true b.reader) shown) k

    int_inside : (w : Width) → Comes (int_comes true w b)
    unfolding int_comes
    int_inside w = comes_reading b (got_placed b.reader.count (int_fits b.end w (discarded true b.reader) shown)) (λ z v l. inside tt (l, filled_inside b.opens opens))

    real_inside : Comes (real_comes true b)
    unfolding real_comes
    real_inside = comes_reading b (got_placed b.reader.count (real_fits b.end (discarded true b.reader) shown)) (λ z v l. inside tt (l, filled_inside b.opens opens))

    text_inside : (k : TextKind) → Comes (text_comes true k b)
    unfolding text_comes
    text_inside k = counting _ (λ n v l. inside tt (l, opens))

    tag_inside : (e : Event) → EventInside size e → Comes (tag_comes true e b)
    unfolding tag_comes
    tag_inside e h = inside h (shown, filled_inside b.opens opens)

    array_inside : Comes (array_comes true b)
    unfolding array_comes
    array_inside = comes_if (nat_lt (depth b.opens) 128) (counting _ (λ n v l. inside tt (l, filled_inside b.opens opens))) halted

    object_inside : Comes (object_comes true b)
    unfolding object_comes
    object_inside = comes_if (nat_lt (depth b.opens) 128) (counting _ (λ n v l. inside tt (l, filled_inside b.opens opens))) halted

    template_inside : Comes (template_comes true b)
    unfolding template_comes rows_come KeysFit
    template_inside =
        comes_if (nat_lt (depth b.opens) 128)
        (comes_reading b (key_list_fits b.end (depth b.opens) (keys_held b.opens) (bytes_held column_bytes b.opens) (discarded true b.reader) shown)
        (λ ks v l. comes_reading b (count_fits b.end v l.1) (λ n w f. comes_if (keyless n ks) halted (inside tt (f, (l.0, filled_inside b.opens opens))))))
        halted

    tagged_inside : (gap : Bool) (t : ℕ) → Comes (tagged true gap t b)
    tagged_inside gap t =
        by_tag true b t Comes array_inside object_inside template_inside text_inside int_inside real_inside (tag_inside event.True tt) (tag_inside event.False tt) (tag_inside event.Null tt) (tag_inside event.Absent tt)
        halted gap

  item_inside : (gap : Bool) (b : Body) → BodyInside size b → Comes (item_comes true gap b)
  unfolding item_comes
  item_inside gap b (fits, opens) = comes_reading b (got_placed b.reader.count (peek_fits b.end b.reader fits)) (λ t v l. tagged_inside (moved b v) l opens gap t)

  key_inside : (b : Body) → BodyInside size b → Comes (key_comes true b)
  unfolding key_comes
  key_inside b (fits, opens) = comes_reading b (key_length_fits b.end MapKey b.reader fits) (λ n v l. inside tt (l, opens))

  due_inside : (b : Body) (s : List (Open Column)) → Fits size b.reader → OpensInside size s → Comes (due_comes (due s) true (record b { opens = s }))
  due_inside b [] f o = inside tt (f, o)
  due_inside b (start ∷ s) f o = item_inside false (record b { opens = start ∷ s }) (f, o)
  due_inside b (items zero ∷ s) f o = inside tt (f, o)
  due_inside b (items (suc n) ∷ s) f o = item_inside false (record b { opens = items (suc n) ∷ s }) (f, o)
  due_inside b (pairs zero ∷ s) f o = inside tt (f, o)
  due_inside b (pairs (suc n) ∷ s) f o = key_inside (record b { opens = pairs (suc n) ∷ s }) (f, o)
  due_inside b (field n ∷ s) f o = item_inside false (record b { opens = field n ∷ s }) (f, o)
  due_inside b (rows ks zero ∷ s) f o = inside tt (f, o.1)
  due_inside b (rows ks (suc n) ∷ s) f o = inside tt (f, turned_inside (rows ks (suc n) ∷ s) o)
  due_inside b (row [] ks n ∷ s) f o = inside tt (f, turned_inside (row [] ks n ∷ s) o)
  due_inside b (row (k ∷ l) ks n ∷ s) f o = inside tt (f, o)
  due_inside b (cell l ks n ∷ s) f o = item_inside true (record b { opens = cell l ks n ∷ s }) (f, o)

  coming_inside : (b : Body) → BodyInside size b → Comes (coming true b)
  unfolding coming
  coming_inside b (fits, opens) = go b.unread
    where
      go : (u : Option Unread) → Comes (unread_comes u true b)
      go (Some u) = inside tt (fits, opens)
      go None = due_inside b b.opens fits opens

  -- ---- the step

  abbrev pub StepInside : Out → Type 0
  StepInside (gives (Some e) b x) = EventInside size e × BodyInside size b
  StepInside (gives None b x) = BodyInside size b
  StepInside (stops f b x) = Unit {0}

  step_if : (x y : Out) (b : Bool) → StepInside x → StepInside y → StepInside (cond b x y)
  step_if x y true h k = h
  step_if x y false h k = k

  module _ (space : Option ℕ) where
    text_event_inside : (k : TextKind) (t : Taken) (n : ℕ) → TakenInside size t n → EventInside size (text_event k (record { taken = t; len = n }))
    text_event_inside text.Bytes t n h = h
    text_event_inside text.Text t n h = h
    text_event_inside text.Key t n h = h

    text_step_inside : (u : Unread) (b : Body) → BodyInside size b → StepInside (text_step true space u b)
    unfolding text_step TextFits
    text_step_inside u b (fits, opens) = by (got_placed b.reader.count (outcome_fits b.end None u.len b.reader fits u.kind))
      where
        by : {m : Outcome Refusal Taken} → IfGot (TextFits b.end u.len b.reader) m → StepInside (text_by m u b [])
        by (gave {a = t} (near, there, f)) = (text_event_inside u.kind t u.len there, (f, text_behind_inside u.kind b.opens opens))
        by refused = tt

    column_step_inside : (b : Body) → BodyInside size b → StepInside (column_step space b)
    unfolding column_step
    column_step_inside b (fits, opens) = by (column b.opens) (column_inside b.opens opens)
      where
        by : (k : Column) → ColumnInside size k → StepInside (column_by k space b)
        by (lent p n) h = (h, (fits, turned_inside b.opens opens))
        by (copied bs) h = step_if _ _ (cramped space (length bs)) tt (h, (fits, turned_inside b.opens opens))

    finished_inside : {c : Coming} → Comes c → StepInside (finishing true space c)
    finished_inside (inside {a} {b} h g) = go a h
      where
        go : (a : Ahead) → AheadInside a → StepInside (finishing true space (comes a b))
        go ahead.Nothing h = g
        go (ahead.Passed e) h = (h, g)
        go (ahead.Text u) h = text_step_inside u b g
        go ahead.Column h = column_step_inside b g
    finished_inside halted = tt

    pub step_inside : (b : Body) → BodyInside size b → StepInside (step true space b)
    unfolding step
    step_inside b h = finished_inside (coming_inside b h)
