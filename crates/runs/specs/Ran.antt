-- What a run has logged.
use Rattle.std.specs.Prelude.{◌≡◌, Bool, List, [], ◌∷◌, ◌++◌, Ok, Err, Result}
use Rattle.read.specs.Reader.{View}
use Rattle.de.specs.declared.entry.Call.{Call}
use Rattle.de.specs.declared.entry.Entry.{Entry}
use Rattle.de.specs.Calls.{State, fresh}
use Rattle.de.specs.Made.{Moment, CallsMade, moment}
use Rattle.runs.specs.Law.{Law, Begins}

abbrev pub moments : List Entry → List Moment
moments [] = []
moments (e ∷ es) = moment e ∷ moments es

abbrev pub called : List Entry → List Call
called [] = []
called (e ∷ es) = e.call ∷ called es

-- all calls were made, unless memory was wanting
abbrev pub All : {E : Type 0} → Result Unit E → List Call → List Entry → Type 0
All (Ok x) calls es = called es ≡ calls
All (Err e) calls es = Begins (called es) calls

pub record Ran {E : Type 0} (lends : Bool) (v : View) (calls : List Call) (old : List Entry) (r : Result Unit E) (new : List Entry) : Type 0 where
  -- what was logged behind what stood there
  pub told : List Entry
  pub logged : new ≡ old ++ told
  pub made : All r calls told
  -- what the decoder held in the end: each call answered what it has to
  pub left : State
  pub answered : CallsMade lends (fresh v) (moments told) left
  pub lawful : Law lends v (moments told)
