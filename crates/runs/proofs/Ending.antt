-- A step gives no event only where nothing is open, and then changes nothing.
use Rattle.std.proofs.Common.{◌≡◌, ℕ, Bool, List, [], None, Option, ap, ◌∙◌}
use Rattle.format.specs.declared.refusal.Refusal.{Refusal}
use Rattle.read.specs.declared.Taken.{Taken}
use Rattle.bunser.specs.declared.text.Unread.{Unread}
use Rattle.bunser.specs.Outcome.{Outcome, got, bad, placed}
use Rattle.de.specs.Steps.{Body, gives, text_space, text_outcome, text_puts, text_front, text_by, text_step, coming, unread_comes, due_comes, finishing, step}
use Rattle.room.specs.Open as room
use Rattle.runs.proofs.Ways.{step_holds}

text_speaks : (lends : Bool) (space : Option ℕ) (u : Unread) (b c : Body) (x : List ℕ) → text_step lends space u b ≡ gives None c x → ⊥
unfolding text_step
text_speaks lends space u b c x e = by_read (placed b.reader.count (text_outcome u.kind lends b.end (text_space lends space) u.len b.reader)) e
  where
    by_read : (m : Outcome Refusal Taken) → text_by m u b (text_front lends (text_puts u.kind b.end (text_space lends space) u.len b.reader)) ≡ gives None c x → ⊥
    by_read (got t w) e = absurd (cc)
    by_read (bad f w) e = absurd (cc)

pub step_none : (lends : Bool) (space : Option ℕ) (b c : Body) (x : List ℕ) → step lends space b ≡ gives None c x → (c ≡ b) × (b.opens ≡ []) × (b.unread ≡ None)
step_none lends space b c x h =
    step_holds lends space (λ o. o ≡ gives None c x → (c ≡ b) × (b.opens ≡ []) × (b.unread ≡ None)) (λ e d y h. absurd (cc)) (λ f d y calm h. absurd (cc)) (λ u d is h. absurd (text_speaks lends space u d c x h))
    b (λ calm done h. (cc, done, calm)) h

-- where nothing is open and no text is awaited, no event comes
pub step_done : (lends : Bool) (space : Option ℕ) (b : Body) → b.unread ≡ None → b.opens ≡ [] → step lends space b ≡ gives None b []
unfolding step coming
step_done lends space b calm done = ap (λ u. finishing lends space (unread_comes u lends b)) calm ∙ ap (λ o. finishing lends space (due_comes (room.due o) lends b)) done
