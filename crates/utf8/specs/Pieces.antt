-- A text that comes in pieces: what may come next.
use Rattle.std.specs.Prelude.{ℕ, Bool, true, false, if◌then◌else◌, List, fold}
use Rattle.utf8.specs.declared.pieces.Awaited.{Awaited}
use Rattle.utf8.specs.declared.pieces.Awaited.TheVariants as awaited
use Rattle.utf8.specs.Utf8.{Await, character, broken, range, within, first, further}

abbrev pub await : Awaited → Await
await awaited.Character = character
await (awaited.Range lo hi k) = range lo hi k
await awaited.Nothing = broken

-- one byte has come
abbrev pub turned : Await → ℕ → Await
turned character b = first b
turned (range lo hi k) b = if within lo hi b then further k else broken
turned broken b = broken

-- all these bytes have come
abbrev pub all_turned : Await → List ℕ → Await
all_turned w bs = fold turned w bs

abbrev pub complete : Await → Bool
complete character = true
complete (range lo hi k) = false
complete broken = false
