-- A text that comes is awaited, and where what comes is refused none is.
use Rattle.std.proofs.Common.{◌≡◌, ℕ, Bool, true, false, cond, ltb, List, ◌∷◌, Some, None, Option, refl}
use Rattle.read.specs.Reader.{View, discarded}
use Rattle.format.specs.declared.refusal.Refusal.{Refusal}
use Rattle.format.specs.declared.width.Width.{Width}
use Rattle.format.specs.declared.refusal.Cause.TheVariants.{Depth, NoKeys}
use Rattle.format.specs.declared.refusal.Kind.TheVariants.{MapKey}
use Rattle.bunser.specs.declared.text.TextKind.{TextKind}
use Rattle.bunser.specs.declared.text.TextKind.TheVariants as text
use Rattle.bunser.specs.declared.text.Unread.{Unread}
use Rattle.bunser.specs.Outcome.{Outcome, got, bad, placed}
use Rattle.bunser.specs.Reads.{peek_read, int_read, real_read}
use Rattle.bunser.specs.Texts.{placed_count, key_length_read}
use Rattle.room.specs.declared.due.Due.{Due}
use Rattle.room.specs.declared.due.Due.TheVariants as due
use Rattle.room.specs.Open.{Column, column_bytes, depth, keys_held, bytes_held, items, pairs, rows, filled}
use Rattle.room.specs.Open as room
use Rattle.room.specs.KeyList.{key_list_read}
use Rattle.de.specs.declared.event.Event.{Event}
use Rattle.de.specs.declared.event.Event.TheVariants as event
use Rattle.de.specs.declared.event.Ahead.TheVariants as ahead
use Rattle.de.proofs.Tags.{by_tag}
use Rattle.de.specs.Steps.{Body, moved, Coming, comes, halts, reading, levelled, keyless, refuse, passes, awaits, rows_by, rows_come, int_comes, real_comes, text_comes, key_comes, tag_comes, array_comes, object_comes, template_comes, tagged, item_comes, due_comes, unread_comes, coming}

abbrev pub Awaited : Coming → Type 0
Awaited (comes ahead.Nothing b) = Unit {0}
Awaited (comes (ahead.Passed e) b) = Unit {0}
Awaited (comes (ahead.Text u) b) = b.unread ≡ Some u
Awaited (comes ahead.Column b) = Unit {0}
Awaited (halts f b) = b.unread ≡ None

cond_awaits : (k : Bool) (c d : Coming) → Awaited c → Awaited d → Awaited (cond k c d)
cond_awaits true c d h i = h
cond_awaits false c d h i = i

reading_awaits : {A : Type 0} (m : Outcome Refusal A) (b : Body) (f : A → View → Coming) → b.unread ≡ None → ((a : A) (v : View) → Awaited (f a v)) → Awaited (reading m b f)
reading_awaits (got a v) b f e h = h a v
reading_awaits (bad g v) b f e h = e

module _ (lends : Bool) (b : Body) (e : b.unread ≡ None) where
  levelled_awaits : (c : Coming) → Awaited c → Awaited (levelled b c)
  levelled_awaits c h = cond_awaits (ltb (depth b.opens) 128) c (halts (refuse Depth b.reader.count) b) h e

  rows_awaits : (ks : List Column) (v : View) → Awaited (rows_come lends ks b v)
  unfolding rows_come
  rows_awaits ks v = reading_awaits (placed_count lends b.end v) b (λ n w. rows_by ks v.count n b w) e
      (λ n w. cond_awaits (keyless n ks) (halts (refuse NoKeys v.count) (moved b w)) (passes event.ArrayBegin b w (rows ks n ∷ filled b.opens)) e tt)

  template_awaits : Awaited (template_comes lends b)
  unfolding template_comes
  template_awaits = levelled_awaits (reading (key_list_read lends b.end (depth b.opens) (keys_held b.opens) (bytes_held column_bytes b.opens) (discarded lends b.reader)) b (λ ks v. rows_come lends ks b v))
      (reading_awaits (key_list_read lends b.end (depth b.opens) (keys_held b.opens) (bytes_held column_bytes b.opens) (discarded lends b.reader)) b (λ ks v. rows_come lends ks b v) e rows_awaits)

  array_awaits : Awaited (array_comes lends b)
  unfolding array_comes
  array_awaits = levelled_awaits (reading (placed_count lends b.end (discarded lends b.reader)) b (λ n v. passes event.ArrayBegin b v (items n ∷ filled b.opens)))
      (reading_awaits (placed_count lends b.end (discarded lends b.reader)) b (λ n v. passes event.ArrayBegin b v (items n ∷ filled b.opens)) e (λ n v. tt))

  object_awaits : Awaited (object_comes lends b)
  unfolding object_comes
  object_awaits = levelled_awaits (reading (placed_count lends b.end (discarded lends b.reader)) b (λ n v. passes event.MapBegin b v (pairs n ∷ filled b.opens)))
      (reading_awaits (placed_count lends b.end (discarded lends b.reader)) b (λ n v. passes event.MapBegin b v (pairs n ∷ filled b.opens)) e (λ n v. tt))

  int_awaits : (w : Width) → Awaited (int_comes lends w b)
  unfolding int_comes
  int_awaits w = reading_awaits (placed b.reader.count (int_read lends b.end w (discarded lends b.reader))) b (λ z v. passes (event.Int w z) b v (filled b.opens)) e (λ z v. tt)

  real_awaits : Awaited (real_comes lends b)
  unfolding real_comes
  real_awaits = reading_awaits (placed b.reader.count (real_read lends b.end (discarded lends b.reader))) b (λ n v. passes (event.Real n) b v (filled b.opens)) e (λ n v. tt)

  text_awaits : (k : TextKind) → Awaited (text_comes lends k b)
  unfolding text_comes
  text_awaits k = reading_awaits (placed_count lends b.end (discarded lends b.reader)) b (awaits k b) e (λ n v. refl)

  key_awaits : Awaited (key_comes lends b)
  unfolding key_comes
  key_awaits = reading_awaits (key_length_read lends b.end MapKey b.reader) b (awaits text.Key b) e (λ n v. refl)

  tag_awaits : (x : Event) → Awaited (tag_comes lends x b)
  unfolding tag_comes
  tag_awaits x = tt

  tagged_awaits : (cell : Bool) (t : ℕ) → Awaited (tagged lends cell t b)
  tagged_awaits cell t =
      by_tag lends b t Awaited array_awaits object_awaits template_awaits text_awaits int_awaits real_awaits (tag_awaits event.True) (tag_awaits event.False) (tag_awaits event.Null) (tag_awaits event.Absent) e cell

item_awaits : (lends cell : Bool) (b : Body) → b.unread ≡ None → Awaited (item_comes lends cell b)
unfolding item_comes
item_awaits lends cell b e = reading_awaits (placed b.reader.count (peek_read b.end b.reader)) b (λ t v. tagged lends cell t (moved b v)) e (λ t v. tagged_awaits lends (moved b v) e cell t)

due_awaits : (lends : Bool) (d : Due) (b : Body) → b.unread ≡ None → Awaited (due_comes d lends b)
due_awaits lends due.Done b e = tt
due_awaits lends due.Value b e = item_awaits lends false b e
due_awaits lends due.Cell b e = item_awaits lends true b e
due_awaits lends due.MapKey b e = key_awaits lends b e
due_awaits lends due.RowBegin b e = tt
due_awaits lends due.RowKey b e = tt
due_awaits lends due.RowEnd b e = tt
due_awaits lends due.MapEnd b e = tt
due_awaits lends due.ArrayEnd b e = tt

pub coming_awaits : (lends : Bool) (b : Body) → Awaited (coming lends b)
unfolding coming
coming_awaits lends b = go b.unread refl
  where
    go : (u : Option Unread) → b.unread ≡ u → Awaited (unread_comes u lends b)
    go (Some u) e = e
    go None e = due_awaits lends (room.due b.opens) b e
