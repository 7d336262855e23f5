-- What a reader over a slice means.
use Rattle.std.specs.Prelude.{true, take, drop, None}
use Rattle.std.proofs.Common.{arith, length-take, length-drop}
use Rattle.source.specs.Sound.{octets_drop, octets_take, clean_coded}
use Rattle.read.specs.declared.slice.SliceRead.{SliceRead}
use Rattle.read.specs.Reader.{View, Sound}

-- the bytes before the index were taken
abbrev pub slice_view : SliceRead → View
slice_view s = record { coming = drop s.index s.slice.now; ending = None; count = s.index; stop = None; peeked = s.peeked; kept = take s.index s.slice.now }

pub slice_sound : (s : SliceRead) → Sound true (slice_view s)
slice_sound s =
    let within = s.within in
    record {
      octets = octets_drop s.index s.slice.now s.octets;
      kept_octets = octets_take s.index s.slice.now s.octets;
      kept_all = rw length-take (omega arith);
      held_there = λ e. let h = s.held e in rw length-drop (omega arith);
      coded = clean_coded;
      counted = let long = s.long in omega arith;
    }
