-- What is open by columns and by their names: the one changes as the other does, and as much is held.
use Rattle.std.proofs.Common.{◌≡◌, ℕ, suc, ◌+◌, ◌≤◌, Bool, true, false, List, [], ◌∷◌, length, sym, refl, ap, subst, arith}
use Rattle.values.specs.Values.{Event}
use Rattle.values.specs.Limits.{Limits, none, lending, copying, LevelFree, RoomForKeys, RoomForKeyBytes, key_bytes}
use Rattle.room.specs.Open.{Column, lent, copied, column_bytes, Open, start, items, pairs, rows, row, cell, filled, keyed, depth, keys_held, bytes_held}
use Rattle.runs.specs.Law.{limits}
use Rattle.runs.proofs.Encoded.{names_are_long}
use Rattle.runs.proofs.Taking.{Level, all_named, levels, AllLie, Fit, names_long, Wants, key_names, plain_comes, array_comes, array_ends, object_comes, key_comes, object_ends, template_comes, row_begins, column_comes, gap_comes, row_ends, template_ends, Takes, KeyWanted}

-- ---- what is held

-- a value that begins changes nothing of it
pub filled_holds : {C : Type 0} (long : List C → ℕ) (s : List (Open C)) → bytes_held long (filled s) ≡ bytes_held long s
filled_holds long (items (suc n) ∷ s) = refl
filled_holds long s = refl

-- and so does the key of a pair
pub keyed_holds : {C : Type 0} (long : List C → ℕ) (s : List (Open C)) → bytes_held long (keyed s) ≡ bytes_held long s
keyed_holds long (pairs (suc n) ∷ s) = refl
keyed_holds long s = refl

room_for_fewer : (L : Limits) (n m : ℕ) → m ≤ n → RoomForKeyBytes L n → RoomForKeyBytes L m
room_for_fewer none n m h r = tt
room_for_fewer lending n m h r = tt
room_for_fewer copying n m h r = omega arith

-- the key bytes that are held stay within the limits
pub takes_within : {L : Limits} {s : List Level} {bs : List ℕ} {e : Event} {t : List Level} → RoomForKeyBytes L (bytes_held names_long s) → Takes L s bs e t →
    RoomForKeyBytes L (bytes_held names_long t)
takes_within {L} r (plain_comes {s} w p f) = subst (RoomForKeyBytes L) (sym (filled_holds names_long s)) r
takes_within {L} r (array_comes {s} w k n f l) = subst (RoomForKeyBytes L) (sym (filled_holds names_long s)) r
takes_within r array_ends = r
takes_within {L} r (object_comes {s} w k n f l) = subst (RoomForKeyBytes L) (sym (filled_holds names_long s)) r
takes_within r (key_comes k f) = r
takes_within r object_ends = r
takes_within {L} r (template_comes {s} w k ks u n f g h i) =
    let e : bytes_held names_long s + key_bytes ks ≡ bytes_held names_long (filled s) + names_long (key_names ks) = let a = filled_holds names_long s in let b = names_are_long ks in omega arith in
    subst (RoomForKeyBytes L) e i.few_bytes
takes_within r row_begins = r
takes_within r column_comes = r
takes_within r gap_comes = r
takes_within r row_ends = r
takes_within {L} r (template_ends {ks} {s}) = room_for_fewer L (bytes_held names_long s + names_long ks) (bytes_held names_long s) (omega arith) r

-- ---- by columns and by names

module _ (input : List ℕ) where
  pub many_named : (ks : List Column) → length (all_named input ks) ≡ length ks
  many_named [] = refl
  many_named (k ∷ ks) = ap suc (many_named ks)

  pub levels_filled : (o : List (Open Column)) → levels input (filled o) ≡ filled (levels input o)
  levels_filled (items (suc n) ∷ o) = refl
  levels_filled o = refl

  pub levels_keyed : (o : List (Open Column)) → levels input (keyed o) ≡ keyed (levels input o)
  levels_keyed (pairs (suc n) ∷ o) = refl
  levels_keyed o = refl

  pub levels_depth : (o : List (Open Column)) → depth (levels input o) ≡ depth o
  levels_depth [] = refl
  levels_depth (start ∷ o) = levels_depth o
  levels_depth (l ∷ o) = ap suc (levels_depth o)

  pub levels_keys : (o : List (Open Column)) → keys_held (levels input o) ≡ keys_held o
  levels_keys [] = refl
  levels_keys (rows ks n ∷ o) = let a = levels_keys o in let b = many_named ks in omega arith
  levels_keys (row l ks n ∷ o) = let a = levels_keys o in let b = many_named ks in omega arith
  levels_keys (cell l ks n ∷ o) = let a = levels_keys o in let b = many_named ks in omega arith
  levels_keys (l ∷ o) = levels_keys o

  names_bytes : (ks : List Column) → AllLie false ks → names_long (all_named input ks) ≡ column_bytes ks
  names_bytes [] h = refl
  names_bytes (lent p n ∷ ks) h = absurd h.0
  names_bytes (copied bs ∷ ks) h = ap (λ n. length bs + n) (names_bytes ks h.1)

  pub levels_bytes : (o : List (Open Column)) → Fit false o → bytes_held names_long (levels input o) ≡ bytes_held column_bytes o
  levels_bytes [] f = refl
  levels_bytes (rows ks n ∷ o) f = let a = levels_bytes o f.1 in let b = names_bytes ks f.0 in omega arith
  levels_bytes (row l ks n ∷ o) f = let a = levels_bytes o f.2 in let b = names_bytes ks f.1 in omega arith
  levels_bytes (cell l ks n ∷ o) f = let a = levels_bytes o f.2 in let b = names_bytes ks f.1 in omega arith
  levels_bytes (l ∷ o) f = levels_bytes o f

  -- what a reader has admitted by its columns is admitted by their names, and the other way
  pub room_by_columns : (lends : Bool) (o : List (Open Column)) → Fit lends o → RoomForKeyBytes (limits lends) (bytes_held names_long (levels input o)) →
      RoomForKeyBytes (limits lends) (bytes_held column_bytes o)
  room_by_columns true o f r = tt
  room_by_columns false o f r = let e = levels_bytes o f in omega arith

  pub room_by_names : (lends : Bool) (o : List (Open Column)) (n : ℕ) → Fit lends o → RoomForKeyBytes (limits lends) (bytes_held column_bytes o + n) →
      RoomForKeyBytes (limits lends) (bytes_held names_long (levels input o) + n)
  room_by_names true o n f r = tt
  room_by_names false o n f r = let e = levels_bytes o f in omega arith

  pub wanted_open : (o : List (Open Column)) → Wants (levels input o) → o ≡ [] → ⊥
  wanted_open [] w e = w
  wanted_open (l ∷ o) w e = cc

  pub key_wanted_open : (o : List (Open Column)) → KeyWanted (levels input o) → o ≡ [] → ⊥
  key_wanted_open [] w e = w
  key_wanted_open (l ∷ o) w e = cc

pub fit_filled : (lends : Bool) (o : List (Open Column)) → Fit lends o → Fit lends (filled o)
fit_filled lends (items (suc n) ∷ o) f = f
fit_filled lends o f = f

pub fit_keyed : (lends : Bool) (o : List (Open Column)) → Fit lends o → Fit lends (keyed o)
fit_keyed lends (pairs (suc n) ∷ o) f = f
fit_keyed lends o f = f

-- ---- the limits of both kinds of readers

pub level_free : (lends : Bool) (n : ℕ) → suc n ≤ 128 → LevelFree (limits lends) n
level_free true n h = h
level_free false n h = h

pub keys_fit : (lends : Bool) (n : ℕ) → n ≤ 256 → RoomForKeys (limits lends) n
keys_fit true n h = h
keys_fit false n h = h
