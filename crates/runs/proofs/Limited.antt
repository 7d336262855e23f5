-- What the limits allow is there where a step asks for it.
use Rattle.std.proofs.Common.{◌≡◌, Bool, true, false, ℕ, zero, nat_lt, ◌==◌, ◌≤◌, ◌<◌, suc, ◌+◌, List, length, refl, arith}
use Rattle.std.proofs.lemmas.Bool.{and_right, ne_eqb}
use Rattle.values.specs.Limits.{LevelFree, RoomForKeys, RoomForKeyBytes, RowsKeyed}
use Rattle.de.specs.Steps.{keyless}
use Rattle.runs.specs.Law.{limits}
use Rattle.room.specs.Open.{Column, Open, column_bytes, bytes_held}
use Rattle.runs.proofs.Taking.{levels, Fit, names_long}
use Rattle.runs.proofs.Levels.{levels_bytes}
use Rattle.runs.proofs.Paying.{keyed_rows}

pub level_allows : (lends : Bool) (n : ℕ) → LevelFree (limits lends) n → n < 128
level_allows true n h = h
level_allows false n h = h

pub keys_allow : (lends : Bool) (n : ℕ) → RoomForKeys (limits lends) n → n ≤ 256
keys_allow true n h = h
keys_allow false n h = h

pub bytes_allow : (lends : Bool) (input : List ℕ) (o : List (Open Column)) (n : ℕ) → Fit lends o → RoomForKeyBytes (limits lends) (bytes_held names_long (levels input o) + n) → RoomForKeyBytes (limits lends) (bytes_held column_bytes o + n)
bytes_allow true input o n fit h = tt
bytes_allow false input o n fit h = omega (arith, levels_bytes input o fit)

pub not_keyless : (lends : Bool) (n keys : ℕ) (ks : List Column) → length ks ≡ keys → RowsKeyed (limits lends) n keys → keyless n ks ≡ false
not_keyless lends zero keys ks same h = refl
not_keyless lends (suc n) keys ks same h =
    let keyed = keyed_rows lends (suc n) keys h (omega arith) in
    and_right (nat_lt 0 (suc n)) (length ks == 0) (ne_eqb (length ks) 0 (λ none. omega arith))
