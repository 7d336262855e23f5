-- Whether a call of next or skip is in its turn.
use Rattle.std.specs.Prelude.{◌≡◌, Some, None, Ok, Err, Option, Result}
use Rattle.format.specs.declared.refusal.Refusal.{Refusal}
use Rattle.format.specs.declared.refusal.Cause.TheVariants.{OutOfTurn}
use Rattle.de.specs.declared.pdu.Extent.{Extent}
use Rattle.de.specs.declared.event.Refused.{Refused}
use Rattle.de.specs.Calls.{State, here, telling, refused_of}

abbrev pub OpenPdu : Option Extent → State → Result Unit Refused → State → Type 0
OpenPdu None s r t = (r ≡ Err (refused_of (here OutOfTurn s))) × (t ≡ telling (here OutOfTurn s) s)
OpenPdu (Some e) s r t = (r ≡ Ok tt) × (t ≡ s)

abbrev pub InTurn : Option Refusal → State → Result Unit Refused → State → Type 0
InTurn (Some f) s r t = (r ≡ Err (refused_of f)) × (t ≡ telling f s)
InTurn None s r t = OpenPdu s.pdu s r t
