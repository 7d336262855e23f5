-- What a decoder holds, as the calls define it.
use Rattle.std.specs.Prelude.{Some, None, Option}
use Rattle.read.specs.Reader.{View}
use Rattle.format.specs.declared.refusal.Refusal.{Refusal}
use Rattle.de.specs.declared.pdu.Extent.{Extent}
use Rattle.de.specs.declared.pdu.OpenPdu.{OpenPdu}
use Rattle.de.specs.declared.turn.Turn.{Turn}
use Rattle.de.specs.declared.turn.Turn.TheVariants.{Closed, Open, Latched}
use Rattle.de.specs.declared.decoder.Decoder.{Decoder}
use Rattle.de.specs.Held.{body_of}
use Rattle.de.specs.Calls.{State}

abbrev pub extent_of : OpenPdu → Extent
extent_of p = record { start = p.start; length = p.length }

abbrev pub open_extent : Option OpenPdu → Option Extent
open_extent (Some p) = Some (extent_of p)
open_extent None = None

abbrev pub pdu_of : Turn → Option OpenPdu
pdu_of Closed = None
pdu_of (Open p) = Some p
pdu_of (Latched f p) = p

abbrev pub latched_of : Turn → Option Refusal
latched_of Closed = None
latched_of (Open p) = None
latched_of (Latched f p) = Some f

abbrev pub state_of : {R : Type 0} → (R → View) → Decoder R → State
state_of view d = record { body = body_of view d.events; pdu = open_extent (pdu_of d.turn); last = d.last; latched = latched_of d.turn; refused = d.refused }
