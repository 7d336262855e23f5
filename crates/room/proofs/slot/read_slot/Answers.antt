use Rattle.std.proofs.Common.{sym}
use Rattle.room.proofs.Slotting.{slot_stop, slot_lent, slot_copied}
use Rattle.room.proofs.slot.read_slot.Goals as goal

pub returns-in_err-taken : goal.returns-in_err-taken
returns-in_err-taken g c =
    let h = c.next_text.ensures in
    record { reads = slot_stop _ _ _ _ _ _ _ _ c.told-bytes c.requires _ c.read_count-place.ensures _ h.reads.reads _ _ c.in_err-taken.ensures c.from_residual.ensures.1; same = h.reads.same }

pub returns-in-Lent : goal.returns-in-Lent
returns-in-Lent g c =
    let h = c.next_text.ensures in
    record { reads = slot_lent _ _ _ _ _ _ _ _ c.told-bytes c.requires _ c.read_count-place.ensures _ h.reads.reads _ c.in_ok-taken.ensures h.puts _ (sym c.in-Lent.is); same = h.reads.same }

pub returns-in-Copied : goal.returns-in-Copied
returns-in-Copied g c =
    let h = c.next_text.ensures in
    record { reads = slot_copied _ _ _ _ _ _ _ _ c.told-bytes c.requires _ c.read_count-place.ensures _ h.reads.reads _ c.in_ok-taken.ensures h.puts (sym c.in-Copied.is); same = h.reads.same }
