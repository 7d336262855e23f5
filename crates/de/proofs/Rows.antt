-- Rows that are passed over.
use Rattle.std.proofs.Common.{◌≡◌, ℕ, Bool, true, false, List, Some, None, Ok, Err, Option, Result, refl, sym, ap, ◌∙◌, subst, slice_index}
use Rattle.read.specs.Reader.{View}
use Rattle.read.specs.Reader.{held as held_of}
use Rattle.format.specs.declared.refusal.ReadError.{ReadError}
use Rattle.format.specs.declared.refusal.Refusal.{Refusal}
use Rattle.bunser.specs.Outcome.{Outcome, got, bad, placed, placed_result, asked, answer, Tells, TellsAt}
use Rattle.bunser.specs.Reads.{peek_read}
use Rattle.bunser.proofs.Telling.{ok_err, told_placed}
use Rattle.room.specs.Open.{due}
use Rattle.room.specs.declared.due.Due.TheVariants.{Cell}
use Rattle.de.specs.declared.event.Ahead.{Ahead}
use Rattle.de.specs.declared.event.Ahead.TheVariants as ahead
use Rattle.de.specs.Calls.{PassesOver}
use Rattle.de.specs.Rows.{BytesTold, CellTold}
use Rattle.bunser.specs.declared.text.Unread.{Unread}
use Rattle.de.proofs.Finding.{then_finds, stop_finds}
use Rattle.de.proofs.Passing.{step_from, step_stops}
use Rattle.format.specs.declared.tags.Tag.{Tag}
use Rattle.format.specs.declared.tags.Tag.TheVariants as tag
use Rattle.room.specs.Open.{Column, Open, filled}
use Rattle.de.specs.Steps.{Body, moved, behind, awaiting, behind_text, reading, tagged, item_comes, due_comes, unread_comes, coming, finishing, step, Finds}
use Rattle.de.specs.Held.{kind_of}

pub kind_fills : (t : Tag) (s : List (Open Column)) → behind_text (kind_of t) s ≡ filled s
kind_fills tag.ByteString s = refl
kind_fills tag.Utf8String s = refl
kind_fills tag.Array s = refl
kind_fills tag.Object s = refl
kind_fills (tag.Int w) s = refl
kind_fills tag.Real s = refl
kind_fills tag.True s = refl
kind_fills tag.False s = refl
kind_fills tag.Null s = refl
kind_fills tag.Template s = refl
kind_fills tag.Skip s = refl

-- ---- a cell that comes next

module _ (lends : Bool) (b : Body) (calm : b.unread ≡ None) (due_it : due b.opens ≡ Cell) where
  pub cell_comes : coming lends b ≡ item_comes lends true b
  unfolding coming
  cell_comes = ap (λ u. unread_comes u lends b) calm ∙ ap (λ d. due_comes d lends b) due_it

  -- its tag was shown
  module _ (p : ℕ) (here : p ≡ b.reader.count) (r : Result ℕ ReadError) (w : View) (reads : Tells (peek_read b.end b.reader) r w) (k : Result ℕ Refusal) (is_placed : k ≡ placed_result p r) where
    shown : TellsAt (placed b.reader.count (peek_read b.end b.reader)) k w
    shown = told_placed (peek_read b.end b.reader) p b.reader.count r k w here reads is_placed

    -- or was not there
    pub cell_stops : (f : Refusal) (c : Body) → k ≡ Err f → c ≡ moved b w → PassesOver lends (step lends None b) (Err f) c
    unfolding item_comes
    cell_stops f c err is =
        step_stops lends b c f (Err f)
        (subst (λ m. Finds m (Err f) c) (sym cell_comes) (stop_finds (placed b.reader.count (peek_read b.end b.reader)) b (λ t v. tagged lends true t (moved b v)) f w (Err f) c (subst (λ k. TellsAt (placed b.reader.count (peek_read b.end b.reader)) k w) err shown) refl is))
        refl

    module _ (t : ℕ) (ok : k ≡ Ok t) where
      pub cell_finds : (r : Result Ahead Refusal) (c : Body) → Finds (tagged lends true t (moved b w)) r c → Finds (coming lends b) r c
      unfolding item_comes
      cell_finds r c h =
          subst (λ m. Finds m r c) (sym cell_comes)
          (then_finds (placed b.reader.count (peek_read b.end b.reader)) b (λ t v. tagged lends true t (moved b v)) t w r c (subst (λ k. TellsAt (placed b.reader.count (peek_read b.end b.reader)) k w) ok shown) h)

      comes_so : item_comes lends true b ≡ tagged lends true t (moved b w)
      unfolding item_comes
      comes_so = go (placed b.reader.count (peek_read b.end b.reader)) (subst (λ k. TellsAt (placed b.reader.count (peek_read b.end b.reader)) k w) ok shown)
        where
          go : (m : Outcome Refusal ℕ) → TellsAt m (Ok t) w → reading m b (λ t v. tagged lends true t (moved b v)) ≡ tagged lends true t (moved b w)
          go (got u v) (x, y) = let same : t ≡ u = cc in ap (λ u. tagged lends true u (moved b v)) (sym same) ∙ ap (λ v. tagged lends true t (moved b v)) (sym y)
          go (bad f v) (x, y) = ok_err x

      -- what was shown is shown again
      shown_again : peek_read b.end w ≡ got t w
      shown_again = go (asked b.end b.reader None 1) refl (subst (λ k. TellsAt (placed b.reader.count (peek_read b.end b.reader)) k w) ok shown)
        where
          go : (o : Option ReadError) → asked b.end b.reader None 1 ≡ o → TellsAt (placed b.reader.count (answer o b.reader (slice_index b.reader.coming 0) (held_of b.reader))) (Ok t) w → peek_read b.end w ≡ got t w
          go None q (x, y) =
              let same : t ≡ slice_index b.reader.coming 0 = cc in
              subst (λ w. peek_read b.end w ≡ got t w) (sym y)
              (ap (λ o. answer o (held_of b.reader) (slice_index b.reader.coming 0) (held_of b.reader)) q ∙ ap (λ t. got t (held_of b.reader)) (sym same))
          go (Some e) q (x, y) = ok_err x

      -- a cell of which the tag was shown passes over as it would have
      pub cell_again : step lends None b ≡ step lends None (moved b w)
      unfolding step item_comes coming
      cell_again = sym (ap (finishing lends None)
          (ap (λ u. unread_comes u lends (moved b w)) calm ∙ ap (λ d. due_comes d lends (moved b w)) due_it
          ∙ ap (λ m. reading (placed w.count m) (moved b w) (λ t v. tagged lends true t (moved b v))) shown_again
          ∙ sym comes_so ∙ sym cell_comes))

-- a text is found, and its bytes are passed over
pub text_cell : (lends : Bool) (b c d : Body) (u : Unread) (r : Result Bool Refusal) → Finds (coming lends b) (Ok (ahead.Text u)) (awaiting c c.reader u) → ((s : List (Open Column)) → behind_text u.kind s ≡ filled s) → BytesTold lends u c r d → CellTold lends b r d
text_cell lends b c d u (Ok true) finds kind (e, p) =
    subst (λ o. PassesOver lends (step lends None b) (Ok true) (behind d d.reader o)) (kind d.opens)
    (step_from lends b (awaiting c c.reader u) (ahead.Text u) (Ok true) (behind d d.reader (behind_text u.kind d.opens)) finds p)
text_cell lends b c d u (Ok false) finds kind (e, p) = absurd (cc)
text_cell lends b c d u (Err f) finds kind p = step_from lends b (awaiting c c.reader u) (ahead.Text u) (Err f) d finds p
