-- What the events of a body hold, as the calls define it.
use Rattle.std.specs.Prelude.{◌≡◌, ℕ, ◌+◌, Bool, true, false, cond, List, [], ◌∷◌, length, Some, None, Ok, Err, Result, nat_lt}
use Rattle.read.specs.declared.Taken.TheVariants.{Lent, Copied}
use Rattle.read.specs.Reader.{View}
use Rattle.format.specs.declared.tags.Tag.{Tag}
use Rattle.format.specs.declared.tags.Tag.TheVariants as tag
use Rattle.bunser.specs.declared.text.TextKind.{TextKind}
use Rattle.bunser.specs.declared.text.TextKind.TheVariants as text
use Rattle.format.specs.declared.refusal.ReadError.TheVariants.{Room}
use Rattle.format.specs.declared.refusal.Refusal.{Refusal}
use Rattle.bunser.specs.declared.Header.{Header}
use Rattle.bunser.specs.Outcome.{Outcome, got, bad, at}
use Rattle.bunser.specs.declared.text.Span.{Span}
use Rattle.room.specs.Open.{Column, lent, copied, start}
use Rattle.room.specs.declared.due.Due.{Due}
use Rattle.room.specs.declared.due.Due.TheVariants as due
use Rattle.de.specs.declared.events.Events.{Events}
use Rattle.de.specs.Steps.{Body, Apart}

abbrev pub body_of : {R : Type 0} → (R → View) → Events R → Body
body_of view e = record { reader = view e.bunser.read; end = e.bunser.end; opens = e.opens.opens; unread = e.unread; events = e.passed }

-- a reader of which nothing was asked
abbrev pub unread_body : View → Body
unread_body v = record { reader = v; end = None; opens = []; unread = None; events = 0 }

-- a gap may stand where a cell is due
abbrev pub may_gap : Due → Bool
may_gap due.Cell = true
may_gap due.Done = false
may_gap due.Value = false
may_gap due.MapKey = false
may_gap due.RowBegin = false
may_gap due.RowKey = false
may_gap due.RowEnd = false
may_gap due.MapEnd = false
may_gap due.ArrayEnd = false

-- what the bytes of a text are, by the tag that it begins with
abbrev pub kind_of : Tag → TextKind
kind_of tag.ByteString = text.Bytes
kind_of tag.Utf8String = text.Text
kind_of tag.Array = text.Text
kind_of tag.Object = text.Text
kind_of (tag.Int w) = text.Text
kind_of tag.Real = text.Text
kind_of tag.True = text.Text
kind_of tag.False = text.Text
kind_of tag.Null = text.Text
kind_of tag.Template = text.Text
kind_of tag.Skip = text.Text

-- where the key of a column lies once it is shown
abbrev pub span_of : Column → Span
span_of (lent p n) = record { taken = Lent p; len = n }
span_of (copied bs) = record { taken = Copied; len = length bs }

-- a column is shown where the buffer has room for a copied key
abbrev pub column_shown : Column → ℕ → ℕ → Result Span Refusal
column_shown (lent p n) place space = Ok (span_of (lent p n))
column_shown (copied bs) place space = cond (nat_lt space (length bs)) (Err (at Room place)) (Ok (span_of (copied bs)))

-- what is then put to the front of the buffer
abbrev pub column_front : Column → ℕ → List ℕ
column_front (lent p n) space = []
column_front (copied bs) space = cond (nat_lt space (length bs)) [] bs

-- what a header leaves: its body is to come, or it is refused and no end is declared
abbrev pub HeaderTold : Outcome Refusal Header → Body → Result Header Refusal → Body → Type 0
HeaderTold (got h v) b r c = (r ≡ Ok h) × (c ≡ record { reader = v; end = Some (h.start + h.length); opens = start ∷ []; unread = None; events = 0 })
HeaderTold (bad f v) b r c = (r ≡ Err f) × Apart f (record { reader = v; end = None; opens = b.opens; unread = b.unread; events = b.events }) c
