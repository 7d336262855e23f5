-- Every way that a step may go: what holds of an event, of a refusal and of the step of a text holds of each step.
use Rattle.std.proofs.Common.{◌≡◌, ℕ, suc, Bool, true, false, cond, ltb, List, [], ◌∷◌, length, Some, None, Option, refl}
use Rattle.read.specs.Reader.{View, cramped, discarded}
use Rattle.format.specs.declared.width.Width.{Width}
use Rattle.format.specs.declared.refusal.ReadError.TheVariants as error
use Rattle.format.specs.declared.refusal.Kind.TheVariants as kind
use Rattle.format.specs.declared.refusal.Refusal.{Refusal}
use Rattle.read.specs.declared.Taken.TheVariants.{Copied}
use Rattle.bunser.specs.declared.text.Unread.{Unread}
use Rattle.bunser.specs.Outcome.{Outcome, got, bad, at, placed}
use Rattle.bunser.specs.Reads.{peek_read, int_read, real_read}
use Rattle.bunser.specs.Texts.{placed_count, key_length_read}
use Rattle.room.specs.declared.due.Due.{Due}
use Rattle.room.specs.declared.due.Due.TheVariants as due
use Rattle.room.specs.Open.{Column, lent, copied, column_bytes, Open, items, pairs, rows, row, depth, keys_held, bytes_held, column}
use Rattle.room.specs.Open as room
use Rattle.room.specs.KeyList.{key_list_read}
use Rattle.de.specs.declared.event.Event.{Event}
use Rattle.de.proofs.Tags.{by_tag}
use Rattle.de.specs.Steps.{Body, Coming, Out, gives, stops, moved, reading, int_comes, real_comes, text_comes, key_comes, tag_comes, levelled, array_comes, object_comes, keyless, rows_come, template_comes, tagged, item_comes, due_comes, unread_comes, coming, text_step, column_by, column_passes, column_step, finishing, step}

none_due : (o : List (Open Column)) → room.due o ≡ due.Done → o ≡ []
none_due [] e = refl
none_due (items (suc n) ∷ o) e = absurd (cc)
none_due (pairs (suc n) ∷ o) e = absurd (cc)
none_due (rows ks (suc n) ∷ o) e = absurd (cc)
none_due (row (k ∷ l) ks n ∷ o) e = absurd (cc)
none_due (l ∷ o) e = absurd (cc)

-- what holds of each way that a step may go
module _ (lends : Bool) (space : Option ℕ) (Holds : Out → Type 0) (passed : (e : Event) (c : Body) (x : List ℕ) → Holds (gives (Some e) c x)) (refused : (f : Refusal) (c : Body) (x : List ℕ) → c.unread ≡ None → Holds (stops f c x))
    (text : (u : Unread) (b : Body) → b.unread ≡ Some u → Holds (text_step lends space u b)) where
  cond_holds : (q : Bool) (m n : Coming) → Holds (finishing lends space m) → Holds (finishing lends space n) → Holds (finishing lends space (cond q m n))
  cond_holds true m n h k = h
  cond_holds false m n h k = k

  reading_holds : {A : Type 0} (m : Outcome Refusal A) (b : Body) (f : A → View → Coming) → b.unread ≡ None → ((a : A) (w : View) → Holds (finishing lends space (f a w))) →
      Holds (finishing lends space (reading m b f))
  reading_holds (got a w) b f calm h = h a w
  reading_holds (bad r w) b f calm h = refused r (moved b w) [] calm

  column_holds : (c : Column) (b : Body) → b.unread ≡ None → Holds (column_by c space b)
  column_holds (lent p n) b calm = passed _ _ _
  column_holds (copied bs) b calm = by_room (cramped space (length bs))
    where
      by_room : (q : Bool) → Holds (cond q (stops (at error.Room b.reader.count) b []) (column_passes (record { taken = Copied; len = length bs }) b bs))
      by_room true = refused _ b [] calm
      by_room false = passed _ _ _

  key_holds : (b : Body) → b.unread ≡ None → Holds (finishing lends space (key_comes lends b))
  unfolding key_comes
  key_holds b calm = reading_holds (key_length_read lends b.end kind.MapKey b.reader) b _ calm (λ n v. text _ _ refl)

  int_holds : (w : Width) (b : Body) → b.unread ≡ None → Holds (finishing lends space (int_comes lends w b))
  unfolding int_comes
  int_holds w b calm = reading_holds (placed b.reader.count (int_read lends b.end w (discarded lends b.reader))) b _ calm (λ z v. passed _ _ _)

  rows_hold : (ks : List Column) (b : Body) (v : View) → b.unread ≡ None → Holds (finishing lends space (rows_come lends ks b v))
  unfolding rows_come
  rows_hold ks b v calm = reading_holds (placed_count lends b.end v) b _ calm (λ n w. cond_holds (keyless n ks) _ _ (refused _ _ [] calm) (passed _ _ _))

  tagged_holds : (may : Bool) (t : ℕ) (b : Body) → b.unread ≡ None → Holds (finishing lends space (tagged lends may t b))
  unfolding array_comes object_comes text_comes real_comes tag_comes template_comes
  tagged_holds may t b calm =
      by_tag lends b t (λ c. Holds (finishing lends space c)) (deeper _ (counted _ (λ n v. passed _ _ _))) (deeper _ (counted _ (λ n v. passed _ _ _)))
      (deeper _ (reading_holds (key_list_read lends b.end (depth b.opens) (keys_held b.opens) (bytes_held column_bytes b.opens) (discarded lends b.reader)) b _ calm (λ ks v. rows_hold ks b v calm)))
      (λ k. counted _ (λ n v. text _ _ refl)) (λ w. int_holds w b calm) (reading_holds (placed b.reader.count (real_read lends b.end (discarded lends b.reader))) b _ calm (λ n v. passed _ _ _))
      (passed _ _ _) (passed _ _ _) (passed _ _ _) (passed _ _ _) (refused _ b [] calm) may
    where
      deeper : (m : Coming) → Holds (finishing lends space m) → Holds (finishing lends space (levelled b m))
      deeper m h = cond_holds (ltb (depth b.opens) 128) m _ h (refused _ b [] calm)

      counted : (f : ℕ → View → Coming) → ((n : ℕ) (v : View) → Holds (finishing lends space (f n v))) →
          Holds (finishing lends space (reading (placed_count lends b.end (discarded lends b.reader)) b f))
      counted f h = reading_holds (placed_count lends b.end (discarded lends b.reader)) b f calm h

  item_holds : (may : Bool) (b : Body) → b.unread ≡ None → Holds (finishing lends space (item_comes lends may b))
  unfolding item_comes
  item_holds may b calm = reading_holds (placed b.reader.count (peek_read b.end b.reader)) b _ calm (λ t v. tagged_holds may t (moved b v) calm)

  due_holds : (b : Body) → b.unread ≡ None → (b.opens ≡ [] → Holds (gives None b [])) → (d : Due) → room.due b.opens ≡ d → Holds (finishing lends space (due_comes d lends b))
  unfolding column_step
  due_holds b calm none due.Done is = none (none_due b.opens is)
  due_holds b calm none due.Value is = item_holds false b calm
  due_holds b calm none due.Cell is = item_holds true b calm
  due_holds b calm none due.MapKey is = key_holds b calm
  due_holds b calm none due.RowBegin is = passed _ _ _
  due_holds b calm none due.RowKey is = column_holds (column b.opens) b calm
  due_holds b calm none due.RowEnd is = passed _ _ _
  due_holds b calm none due.MapEnd is = passed _ _ _
  due_holds b calm none due.ArrayEnd is = passed _ _ _

  pub step_holds : (b : Body) → (b.unread ≡ None → b.opens ≡ [] → Holds (gives None b [])) → Holds (step lends space b)
  unfolding step coming
  step_holds b none = by_unread b.unread refl
    where
      by_unread : (u : Option Unread) → b.unread ≡ u → Holds (finishing lends space (unread_comes u lends b))
      by_unread (Some u) is = text u b is
      by_unread None is = due_holds b is (none is) (room.due b.opens) refl
