-- A text that is passed over does what a read of it would do, of which nothing is kept.
use Rattle.std.proofs.Common.{◌≡◌, ℕ, Bool, true, false, List, IsErrAnd, Some, None, Ok, Err, Option, Result, refl, sym, ap, ◌∙◌, subst, subst₂}
use Rattle.read.specs.Reader.{View}
use Rattle.read.specs.declared.Taken.{Taken}
use Rattle.format.specs.declared.refusal.ReadError.{ReadError}
use Rattle.format.specs.declared.refusal.Refusal.{Refusal}
use Rattle.bunser.specs.declared.text.TextKind.{TextKind}
use Rattle.bunser.specs.declared.text.TextKind.TheVariants as kind
use Rattle.bunser.specs.declared.text.Unread.{Unread}
use Rattle.bunser.specs.Outcome.{Outcome, got, bad, at, placed, placed_result, ReadLeaves, Tells, TellsAt}
use Rattle.bunser.specs.Texts.{checked}
use Rattle.bunser.specs.Passing.{passing, whole_read, pass_read, text_passed}
use Rattle.bunser.proofs.Telling.{ok_err, err_is, told_placed}
use Rattle.format.specs.declared.refusal.Cause.{Cause}
use Rattle.format.specs.declared.refusal.Cause.TheVariants as cause
use Rattle.room.specs.Open.{Column, lent, copied, column, row_turned}
use Rattle.de.specs.declared.event.Ahead.{Ahead}
use Rattle.de.specs.Steps.{Body, moved, behind, Coming, comes, halts, coming, finishes, finishing, text_space, text_outcome, text_puts, text_front, text_by, behind_text, text_step, column_by, column_step, step, Apart, Finds}
use Rattle.de.specs.Calls.{drawn, drawn_by, drawn_view, PassesOver}
use Rattle.de.proofs.Awaiting.{Awaited, coming_awaits}

same_read : (k : TextKind) (lends : Bool) (end : Option ℕ) (n : ℕ) (v : View) → text_outcome k lends end (text_space lends None) n v ≡ whole_read (checked k) lends end None n v
same_read kind.Bytes true end n v = refl
same_read kind.Bytes false end n v = refl
same_read kind.Text true end n v = refl
same_read kind.Text false end n v = refl
same_read kind.Key true end n v = refl
same_read kind.Key false end n v = refl

-- what is told of a text that is passed over
abbrev pub Over : Outcome ReadError Taken → Bool → ℕ → Unread → Body → List ℕ → Result Bool Refusal → Body → Type 0
Over m lends p u b x r c = PassesOver lends (text_by (placed p m) u b x) r c

undrawn : (lends : Bool) (f : Refusal) (b : Body) → b.unread ≡ None → drawn lends f b ≡ b
undrawn lends f b calm = ap (moved b) (go f.cause)
  where
    go : (k : Cause) → drawn_view lends k b ≡ b.reader
    go cause.OutOfTurn = refl
    go cause.Token = refl
    go (cause.Read e) = ap (λ o. drawn_by lends o e b.reader) calm
    go cause.Depth = refl
    go cause.KeyRoom = refl
    go cause.NoKeys = refl
    go cause.Unfinished = refl
    go (cause.Length expected count) = refl

module _ (lends : Bool) (u : Unread) (b : Body) (waits : b.unread ≡ Some u) (w : View) (p : ℕ) (here : p ≡ b.reader.count) (r : Result Unit ReadError) (reads : Tells (text_passed lends b.end u b.reader) r w)
    (k : Result Unit Refusal) (is_placed : k ≡ placed_result p r) where
  told : TellsAt (placed b.reader.count (passing lends (text_outcome u.kind lends b.end (text_space lends None) u.len b.reader))) k w
  unfolding pass_read
  told = subst (λ m. TellsAt (placed b.reader.count (passing lends m)) k w) (sym (same_read u.kind lends b.end u.len b.reader)) (told_placed (text_passed lends b.end u b.reader) p b.reader.count r k w here reads is_placed)

  pub text_passes : (x : Unit {0}) (c : Body) → k ≡ Ok x → c ≡ behind b w (behind_text u.kind b.opens) → PassesOver lends (text_step lends None u b) (Ok true) c
  unfolding text_step
  text_passes x c ok is = go (text_outcome u.kind lends b.end (text_space lends None) u.len b.reader) told
    where
      go : (m : Outcome ReadError Taken) → TellsAt (placed b.reader.count (passing lends m)) k w → Over m lends b.reader.count u b (text_front lends (text_puts u.kind b.end (text_space lends None) u.len b.reader)) (Ok true) c
      go (got t v) (y, q) = (refl, is ∙ ap (λ v. behind b v (behind_text u.kind b.opens)) q)
      go (bad e v) (y, q) = ok_err (sym ok ∙ y)

  pub text_stops : (f : Refusal) (s : Result Bool Refusal) (c : Body) → k ≡ Err f → IsErrAnd s (λ g. g ≡ f) → c ≡ moved b w → PassesOver lends (text_step lends None u b) s c
  unfolding text_step
  text_stops f s c err stop is = go (text_outcome u.kind lends b.end (text_space lends None) u.len b.reader) told
    where
      go : (m : Outcome ReadError Taken) → TellsAt (placed b.reader.count (passing lends m)) k w → Over m lends b.reader.count u b (text_front lends (text_puts u.kind b.end (text_space lends None) u.len b.reader)) s c
      go (got t v) (y, q) = ok_err (sym y ∙ err)
      go (bad e v) (y, q) =
          let same : ◌≡◌ {A = Result Unit Refusal} (Err f) (Err (at e b.reader.count)) = sym err ∙ y in
          let one : f ≡ at e b.reader.count = cc in (
            err_is s f stop ∙ ap Err one,
            subst (λ c. Apart (at e b.reader.count) (drawn lends (at e b.reader.count) (moved b v)) c) (sym is)
                (record { reader = subst (λ o. ReadLeaves e (drawn_by lends o e v) w) (sym waits) q; end = refl; opens = refl; unread = refl; events = refl }),
          )

-- ---- a step

-- where what comes is refused, nothing of a text has been drawn
pub step_stops : (lends : Bool) (b c : Body) (f : Refusal) (r : Result Bool Refusal) → Finds (coming lends b) (Err f) c → IsErrAnd r (λ g. g ≡ f) → PassesOver lends (step lends None b) r c
unfolding step
step_stops lends b c f r found stop = go (coming lends b) (coming_awaits lends b) found
  where
    go : (m : Coming) → Awaited m → Finds m (Err f) c → PassesOver lends (finishing lends None m) r c
    go (comes a d) calm (x, y) = ok_err (sym x)
    go (halts g d) calm (x, y) = let same : f ≡ g = cc in (err_is r f stop ∙ ap Err same, subst (λ d. Apart g d c) (sym (undrawn lends g d calm)) y)

-- what comes is told, and the rest of the step from there
pub step_from : (lends : Bool) (b c : Body) (a : Ahead) (r : Result Bool Refusal) (d : Body) → Finds (coming lends b) (Ok a) c → PassesOver lends (finishes lends None a c) r d → PassesOver lends (step lends None b) r d
unfolding step
step_from lends b c a r d found rest = go (coming lends b) found
  where
    go : (m : Coming) → Finds m (Ok a) c → PassesOver lends (finishing lends None m) r d
    go (comes x y) (p, q) = let same : a ≡ x = cc in subst₂ (λ a c. PassesOver lends (finishes lends None a c) r d) same q rest
    go (halts g y) (p, q) = ok_err p

-- the key of a column is not copied
pub column_passes_over : (lends : Bool) (b c : Body) → c ≡ behind b b.reader (row_turned b.opens) → PassesOver lends (column_step None b) (Ok true) c
unfolding column_step
column_passes_over lends b c is = go (column b.opens)
  where
    go : (k : Column) → PassesOver lends (column_by k None b) (Ok true) c
    go (lent p n) = (refl, is)
    go (copied bs) = (refl, is)
