-- How a reader's fault is refused.
use Rattle.read.specs.declared.Fault.{Fault}
use Rattle.read.specs.declared.Fault.TheVariants as fault
use Rattle.format.specs.declared.refusal.ReadError.{ReadError}
use Rattle.format.specs.declared.refusal.ReadError.TheVariants.{Stop, Room, Short, Source}

abbrev pub error_of : Fault → ReadError
error_of fault.Stop = Stop
error_of fault.Room = Room
error_of fault.Short = Short
error_of (fault.Source code) = Source code
