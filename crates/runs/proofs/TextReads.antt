-- Reads of texts: what they took, and what they leave where they are refused.
use Rattle.std.proofs.Common.{◌≡◌, ℕ, Bool, true, false, List, length, take, None, Option, refl, subst, Some, sym, ap, ◌∙◌}
use Rattle.std.proofs.lemmas.List.{length-take-le}
use Rattle.read.specs.declared.Taken.{Taken}
use Rattle.format.specs.Numbers.{read_latching}
use Rattle.read.specs.Reader.{View, past, advanced, lies}
use Rattle.format.specs.declared.refusal.ReadError.{ReadError}
use Rattle.format.specs.declared.refusal.ReadError.TheVariants.{Room}
use Rattle.utf8.specs.Utf8.{utf8}
use Rattle.bunser.specs.declared.text.TextKind.{TextKind}
use Rattle.bunser.specs.declared.text.TextKind.TheVariants as kind
use Rattle.de.specs.Steps.{text_outcome}
use Rattle.bunser.specs.Outcome.{Outcome, got, bad, asked}
use Rattle.bunser.specs.Reads.{bytes_read}
use Rattle.bunser.specs.Texts.{textual, text_read}
use Rattle.runs.proofs.Took.{Gotten}
use Rattle.bunser.proofs.Granting.{asked_none}
use Rattle.runs.proofs.Reading.{asked_some, Comes, then_comes, answer_comes, gotten_advanced}

-- what has to be UTF-8 is
abbrev pub Textual : TextKind → List ℕ → Type 0
Textual kind.Bytes bs = Unit {0}
Textual kind.Text bs = utf8 bs ≡ true
Textual kind.Key bs = utf8 bs ≡ true

module _ (k : TextKind) (lends : Bool) (end : Option ℕ) (space : Option ℕ) (n : ℕ) (v : View) where
  pub record TextRead (t : Taken) (u : View) : Type 0 where
    pub granted : asked end v space n ≡ None
    pub lie : t ≡ lies lends v
    pub long : length (take n v.coming) ≡ n
    pub textual : Textual k (take n v.coming)
    pub gotten : Gotten lends end v u (take n v.coming)

  -- for want of room nothing is taken
  pub record TextRefused (e : ReadError) (u : View) : Type 0 where
    pub inside : past end v.count ≡ false → past end u.count ≡ false
    pub roomless : e ≡ Room → u ≡ v
    pub limited : e ≡ Room → space ≡ None → ⊥

module _ (lends : Bool) (end : Option ℕ) (space : Option ℕ) (n : ℕ) (v : View) where
  bytes_reads : Comes (TextRead kind.Bytes lends end space n v) (TextRefused kind.Bytes lends end space n v) (bytes_read lends end space n v)
  bytes_reads =
      answer_comes (TextRead kind.Bytes lends end space n v) (TextRefused kind.Bytes lends end space n v) end v space n (lies lends v) (advanced lends n v)
      (λ e.
      let g = asked_none end v space n e in
      record { granted = e; lie = refl; long = length-take-le n v.coming g.there; textual = tt; gotten = gotten_advanced lends end v space n g })
      (λ x e. record { inside = λ h. h; roomless = λ _. refl; limited = λ full none. let latches = asked_some end v n x (subst (λ s. asked end v s n ≡ Some x) none e) in let z : false ≡ true = sym (ap read_latching full) ∙ latches in absurd (cc) })

  -- bytes that have to be UTF-8
  utf8_reads : Comes (TextRead kind.Text lends end space n v) (TextRefused kind.Text lends end space n v) (text_read lends end space n v)
  unfolding text_read
  utf8_reads =
      then_comes (TextRead kind.Bytes lends end space n v) (TextRefused kind.Bytes lends end space n v) (TextRead kind.Text lends end space n v) (TextRefused kind.Text lends end space n v)
      (bytes_read lends end space n v) (textual (utf8 (take n v.coming))) bytes_reads (λ t w r. judged_text (utf8 (take n v.coming)) refl t w r)
      (λ e w r. record { inside = r.inside; roomless = r.roomless; limited = r.limited })
    where
      judged_text : (b : Bool) → utf8 (take n v.coming) ≡ b → (t : Taken) (w : View) → TextRead kind.Bytes lends end space n v t w →
          Comes (TextRead kind.Text lends end space n v) (TextRefused kind.Text lends end space n v) (textual b t w)
      judged_text true e t w r = record { granted = r.granted; lie = r.lie; long = r.long; textual = e; gotten = r.gotten }
      judged_text false e t w r = record { inside = r.gotten.inside; roomless = λ z. absurd (cc); limited = λ z. absurd (cc) }

  pub text_reads : (k : TextKind) → Comes (TextRead k lends end space n v) (TextRefused k lends end space n v) (text_outcome k lends end space n v)
  text_reads kind.Bytes = bytes_reads
  text_reads kind.Text = utf8_reads
  text_reads kind.Key = as_key (text_read lends end space n v) utf8_reads
    where
      as_key : (m : Outcome ReadError Taken) → Comes (TextRead kind.Text lends end space n v) (TextRefused kind.Text lends end space n v) m →
          Comes (TextRead kind.Key lends end space n v) (TextRefused kind.Key lends end space n v) m
      as_key (got t u) r = record { granted = r.granted; lie = r.lie; long = r.long; textual = r.textual; gotten = r.gotten }
      as_key (bad e u) r = record { inside = r.inside; roomless = r.roomless; limited = r.limited }
