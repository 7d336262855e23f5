-- How the cells of a row pass over, whatever is open meanwhile.
use Rattle.std.specs.Prelude.{◌≡◌, ℕ, ◌+◌, ◌*◌, min, Bool, true, false, List, Some, None, Ok, Err, Option, Result}
use Rattle.format.specs.declared.refusal.Refusal.{Refusal}
use Rattle.bunser.specs.declared.text.Unread.{Unread}
use Rattle.room.specs.Open.{Column, Open, filled, row_turned, within_row, nesting}
use Rattle.de.specs.declared.event.Plain.{Plain}
use Rattle.de.specs.declared.event.Plain.TheVariants.{Other, Passed, Text}
use Rattle.de.specs.declared.event.RowPass.{RowPass}
use Rattle.de.specs.declared.event.RowPass.TheVariants.{Whole, Part}
use Rattle.de.specs.declared.event.Ahead.{Ahead}
use Rattle.de.specs.declared.event.Ahead.TheVariants as ahead
use Rattle.de.specs.Steps.{Body, behind, awaiting, behind_text, tagged, text_step, step, Finds}
use Rattle.de.specs.Calls.{PassesOver, Skips, Skip}

-- what is held where this is open and so many events have passed
abbrev pub staged : Body → List (Open Column) → ℕ → Body
staged b o n = record { reader = b.reader; end = b.end; opens = o; unread = b.unread; events = n }

-- no event has passed, and what is open is as it was
pub record Untouched (b c : Body) : Type 0 where
  pub opens : c.opens ≡ b.opens
  pub events : c.events ≡ b.events
  pub end : c.end ≡ b.end

-- what is held once a cell that was found has passed, or while its text is awaited
abbrev pub taken_up : Result Ahead Refusal → Body → Body
taken_up (Ok ahead.Nothing) b = b
taken_up (Ok (ahead.Passed e)) b = behind b b.reader (filled b.opens)
taken_up (Ok (ahead.Text u)) b = awaiting b b.reader u
taken_up (Ok ahead.Column) b = b
taken_up (Err f) b = b

-- a cell behind its tag, which was shown: where it passes, its place is taken by the caller
abbrev pub PlainTold : Bool → ℕ → Body → Result Plain Refusal → Body → Type 0
PlainTold lends t b (Ok Other) c = c ≡ b
PlainTold lends t b (Ok (Passed e)) c = Finds (tagged lends true t b) (Ok (ahead.Passed e)) (behind c c.reader (filled c.opens))
PlainTold lends t b (Ok (Text u)) c = Finds (tagged lends true t b) (Ok (ahead.Text u)) (awaiting c c.reader u) × ((s : List (Open Column)) → behind_text u.kind s ≡ filled s)
PlainTold lends t b (Err f) c = Finds (tagged lends true t b) (Err f) c

-- the bytes of a text
abbrev pub BytesTold : Bool → Unread → Body → Result Bool Refusal → Body → Type 0
BytesTold lends u b (Ok k) c = (k ≡ true) × PassesOver lends (text_step lends None u (awaiting b b.reader u)) (Ok true) (behind c c.reader (behind_text u.kind c.opens))
BytesTold lends u b (Err f) c = PassesOver lends (text_step lends None u (awaiting b b.reader u)) (Err f) c

-- a cell: it has passed, or its tag was shown alone, and it passes over from there as it would have
abbrev pub CellTold : Bool → Body → Result Bool Refusal → Body → Type 0
CellTold lends b (Ok true) c = PassesOver lends (step lends None b) (Ok true) (behind c c.reader (filled c.opens))
CellTold lends b (Ok false) c = step lends None b ≡ step lends None c
CellTold lends b (Err f) c = PassesOver lends (step lends None b) (Err f) c

-- so many events more, in a number of 64 bits
abbrev pub counted_by : ℕ → ℕ → ℕ
counted_by k n = min (n + k) 18446744073709551615

-- the row has begun, so many cells of it have passed, and the key of the next
abbrev pub at_cell : ℕ → Body → Body
at_cell k b = staged b (row_turned (within_row k b.opens)) (counted_by (2 + 2 * k) b.events)

-- a row that is passed over, up to its end or to a cell from which the skip goes on as it would have
abbrev pub RowTold : Bool → Body → Result RowPass Refusal → Body → Type 0
RowTold lends b (Ok (Whole n)) c = Skip lends b (Ok n) c
RowTold lends b (Ok (Part n)) c = (r : Result ℕ Refusal) (t : Body) → Skips lends (nesting b.opens) n c r t → Skip lends b r t
RowTold lends b (Err f) c = Skip lends b (Err f) c

-- a row at hand that is passed over, or nothing has changed
abbrev pub AtHandTold : Bool → Body → Option ℕ → Body → Type 0
AtHandTold lends b (Some n) c = Skip lends b (Ok n) c
AtHandTold lends b None c = c ≡ b
