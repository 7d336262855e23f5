-- What is drawn of a text that is passed over stays before the declared end.
use Rattle.std.proofs.Common.{◌≡◌, ℕ, ◌+◌, ◌*◌, ◌/◌, ◌<◌, Bool, true, false, cond, ltb, List, length, take, Some, None, Option, refl, sym, ap, subst, arith}
use Rattle.std.proofs.lemmas.Bool.{ltb-true}
use Rattle.utf8.specs.Utf8.{utf8}
use Rattle.read.specs.declared.Fault.TheVariants as fault
use Rattle.read.specs.declared.Taken.{Taken}
use Rattle.read.specs.Reader.{View, past, cramped, advanced, lies, shortfall}
use Rattle.format.specs.declared.refusal.ReadError.{ReadError}
use Rattle.format.specs.declared.refusal.ReadError.TheVariants as error
use Rattle.format.specs.declared.refusal.Refusal.{Refusal}
use Rattle.format.specs.declared.refusal.Cause.{Cause}
use Rattle.format.specs.declared.refusal.Cause.TheVariants as cause
use Rattle.bunser.specs.declared.text.TextKind.{TextKind}
use Rattle.bunser.specs.declared.text.TextKind.TheVariants as text
use Rattle.bunser.specs.declared.text.Unread.{Unread}
use Rattle.bunser.specs.Outcome.{Outcome, got, bad, placed, judged, asked}
use Rattle.bunser.specs.Passing.{whole_pieces, drawn_over}
use Rattle.bunser.specs.Reads.{bytes_read}
use Rattle.bunser.specs.Texts.{textual, text_read}
use Rattle.de.specs.Calls.{drawn, drawn_by, drawn_view}
use Rattle.de.specs.Steps.{Body, Out, gives, stops, text_space, text_outcome, text_puts, text_front, text_by, text_step, step}
use Rattle.runs.proofs.Reading.{Comes, then_comes, answer_comes}
use Rattle.runs.proofs.Standing.{past_less}
use Rattle.runs.proofs.Ways.{step_holds}

-- no text is awaited: nothing is drawn
undrawn_without_text : (lends : Bool) (f : Refusal) (c : Body) → c.unread ≡ None → (drawn lends f c).reader ≡ c.reader
undrawn_without_text lends f c calm = by_cause f.cause
  where
    by_cause : (k : Cause) → drawn_view lends k c ≡ c.reader
    by_cause (cause.Read e) = ap (λ u. drawn_by lends u e c.reader) calm
    by_cause _ = refl

-- too few bytes came
abbrev Shortfall : ReadError → Type 0
Shortfall error.Short = Unit {0}
Shortfall (error.Source code) = Unit {0}
Shortfall _ = ⊥

-- then the request did not pass the end
short_before : (end : Option ℕ) (v : View) (space : Option ℕ) (n : ℕ) (e : ReadError) → asked end v space n ≡ Some e → Shortfall e → (past end (v.count + n) ≡ false) × (length v.coming < n)
short_before end v space n e h short = go (past end (v.count + n)) (past v.stop (v.count + n)) (cramped space n) (ltb (length v.coming) n) refl refl h
  where
    other : {f : ReadError} → Some f ≡ Some e → (Shortfall f → ⊥) → (past end (v.count + n) ≡ false) × (length v.coming < n)
    other {f} is none = let same : e ≡ f = cc in absurd (none (subst Shortfall same short))

    go : (a b c d : Bool) → past end (v.count + n) ≡ a → ltb (length v.coming) n ≡ d →
        judged a (cond b (Some fault.Stop) (cond c (Some fault.Room) (cond d (Some (shortfall v.ending)) None))) ≡ Some e →
        (past end (v.count + n) ≡ false) × (length v.coming < n)
    go true b c d p q h = other h (λ z. z)
    go false true c d p q h = other h (λ z. z)
    go false false true d p q h = other h (λ z. z)
    go false false false true p q h = (p, ltb-true (length v.coming) n q)
    go false false false false p q h = absurd (cc)

pieces_before : (lends : Bool) (end : Option ℕ) (v : View) (n : ℕ) → (past end (v.count + n) ≡ false) × (length v.coming < n) → past end v.count ≡ false → past end (whole_pieces lends v).count ≡ false
pieces_before true end v n (before, few) k = k
pieces_before false end v n (before, few) k = past_less end (v.count + 64 * (length v.coming / 64)) (v.count + n) (omega arith) before

-- what has been drawn of a text whose read was refused
DrawnBefore : Bool → Option ℕ → ReadError → View → Type 0
DrawnBefore lends end e w = past end w.count ≡ false → past end (drawn_over lends e w).count ≡ false

refused_draws : (lends : Bool) (end : Option ℕ) (v : View) (space : Option ℕ) (n : ℕ) (e : ReadError) → asked end v space n ≡ Some e → DrawnBefore lends end e v
unfolding DrawnBefore
refused_draws lends end v space n error.Short h = pieces_before lends end v n (short_before end v space n error.Short h tt)
refused_draws lends end v space n (error.Source code) h = pieces_before lends end v n (short_before end v space n (error.Source code) h tt)
refused_draws lends end v space n _ h = λ k. k

text_draws : (k : TextKind) (lends : Bool) (end space : Option ℕ) (n : ℕ) (v : View) → Comes {A = Taken} (λ t w. Unit {0}) (DrawnBefore lends end) (text_outcome k lends end space n v)
unfolding text_read DrawnBefore
text_draws k lends end space n v = by_kind k
  where
    bytes : Comes {A = Taken} (λ t w. Unit {0}) (DrawnBefore lends end) (bytes_read lends end space n v)
    bytes = answer_comes (λ t w. Unit {0}) (DrawnBefore lends end) end v space n (lies lends v) (advanced lends n v) (λ e. tt) (λ e h. refused_draws lends end v space n e h)

    judged_text : (b : Bool) (t : Taken) (w : View) → Comes {A = Taken} (λ t w. Unit {0}) (DrawnBefore lends end) (textual b t w)
    judged_text true t w = tt
    judged_text false t w = λ h. h

    texts : Comes {A = Taken} (λ t w. Unit {0}) (DrawnBefore lends end) (text_read lends end space n v)
    texts = then_comes (λ (t : Taken) w. Unit {0}) (DrawnBefore lends end) (λ (t : Taken) w. Unit {0}) (DrawnBefore lends end) (bytes_read lends end space n v) (textual (utf8 (take n v.coming))) bytes (λ t w u. judged_text (utf8 (take n v.coming)) t w) (λ e w h. h)

    by_kind : (k : TextKind) → Comes {A = Taken} (λ t w. Unit {0}) (DrawnBefore lends end) (text_outcome k lends end space n v)
    by_kind text.Bytes = bytes
    by_kind text.Text = texts
    by_kind text.Key = texts

abbrev Draws : Bool → Out → Type 0
Draws lends (gives e c x) = Unit {0}
Draws lends (stops f c x) = past c.end c.reader.count ≡ false → past c.end (drawn lends f c).reader.count ≡ false

text_step_draws : (lends : Bool) (space : Option ℕ) (u : Unread) (b : Body) → b.unread ≡ Some u → Draws lends (text_step lends space u b)
unfolding text_step DrawnBefore
text_step_draws lends space u b is = by_read (text_outcome u.kind lends b.end (text_space lends space) u.len b.reader) (text_draws u.kind lends b.end (text_space lends space) u.len b.reader)
  where
    by_read : (m : Outcome ReadError Taken) → Comes {A = Taken} (λ t w. Unit {0}) (DrawnBefore lends b.end) m →
        Draws lends (text_by (placed b.reader.count m) u b (text_front lends (text_puts u.kind b.end (text_space lends space) u.len b.reader)))
    by_read (got t w) h = tt
    by_read (bad e w) h = λ before. subst (λ o. past b.end (drawn_by lends o e w).count ≡ false) (sym is) (h before)

pub step_draws : (lends : Bool) (space : Option ℕ) (b : Body) (f : Refusal) (c : Body) (x : List ℕ) → step lends space b ≡ stops f c x → past c.end c.reader.count ≡ false →
    past c.end (drawn lends f c).reader.count ≡ false
step_draws lends space b f c x stop =
    subst (Draws lends) stop (step_holds lends space (Draws lends) (λ e c x. tt) (λ f c x calm before. rw (undrawn_without_text lends f c calm) before) (text_step_draws lends space) b (λ calm done. tt))
