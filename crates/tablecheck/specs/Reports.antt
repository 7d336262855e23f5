-- When all is well with a file, and what its readers mean at first.
use Rattle.std.specs.Prelude.{◌≡◌, ◌≢◌, ℕ, false, List, [], ◌∷◌, Option, Some, None, Result, Ok, Err, IsOk, All}
use Rattle.read.specs.Reader.{View}
use Rattle.format.specs.declared.refusal.Refusal.{Refusal}
use Rattle.bunser.specs.declared.Header.{Header}
use Rattle.bunser.specs.Outcome.{Outcome, got, bad}
use Rattle.tablecheck.specs.declared.report.PduReport.{PduReport}
use Rattle.tablecheck.specs.declared.report.FileReport.{FileReport}

-- there are PDUs, each was accepted, and no header behind them was refused
pub record IsGood (r : FileReport) : Type 0 where
  pub found : r.pdus.items ≢ []
  pub accepted : All (λ p. IsOk p.outcome) r.pdus.items
  pub whole : r.unopened ≡ None

-- a reader that lends the bytes of a file, of which nothing was asked
abbrev pub file_view : List ℕ → View
file_view bytes = record { coming = bytes; ending = None; count = 0; stop = None; peeked = false; kept = [] }

-- what a read of a header tells of it
abbrev pub header_told : Outcome Refusal Header → Result Header Refusal
header_told (got h v) = Ok h
header_told (bad f v) = Err f

abbrev pub first_of : List PduReport → Option Refusal → Option (Result Header Refusal)
first_of (p ∷ ps) o = Some (Ok p.header)
first_of [] (Some f) = Some (Err f)
first_of [] None = None

-- the header of the first PDU that a report tells of, or why it was refused
abbrev pub first_header : FileReport → Option (Result Header Refusal)
first_header r = first_of r.pdus.items r.unopened
