use Rattle.std.proofs.Common.{sym}
use Rattle.bunser.proofs.Headers.{magic_stop, magic_wrong, magic_right}
use Rattle.bunser.proofs.Bunser.read_magic.Goals as goal

pub returns-in_err-bytes : goal.returns-in_err-bytes
returns-in_err-bytes g c =
    let h = c.read_array.ensures in
    record { reads = magic_stop _ _ _ _ _ c.read_count-place.ensures _ h.reads _ _ c.in_err-bytes.ensures c.from_residual.ensures.1; same = h.same }

pub returns-then-not-is_magic : goal.returns-then-not-is_magic
returns-then-not-is_magic g c =
    let h = c.read_array.ensures in
    record { reads = magic_wrong _ _ _ _ _ c.read_count-place.ensures _ h.reads _ _ c.in_ok-bytes.ensures (sym c.if-not-is_magic.ensures) c.at.ensures; same = h.same }

pub returns : goal.returns
returns g c =
    let h = c.read_array.ensures in
    record { reads = magic_right _ _ _ _ _ c.read_count-place.ensures _ h.reads _ c.in_ok-bytes.ensures (sym c.if-not-is_magic.ensures); same = h.same }
