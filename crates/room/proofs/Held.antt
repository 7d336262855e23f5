-- How the read of a key is told of the list that key room holds.
use Rattle.std.proofs.Common.{◌≡◌, ℕ, ◌+◌, ◌<◌, ◌≤◌, Bool, List, [], ◌∷◌, ◌++◌, length, take, set, IsErrAnd, Ok, Err, Option, Result, sym, refl, ap, ◌∙◌, subst}
use Rattle.read.specs.Reader.{View}
use Rattle.format.specs.declared.refusal.Refusal.{Refusal}
use Rattle.bunser.specs.Outcome.{Outcome, got, bad}
use Rattle.bunser.proofs.Telling.{ok_err, err_is}
use Rattle.room.specs.Open.{Column, column_bytes}
use Rattle.room.specs.KeyList.{key_text_read, KeyTold}
use Rattle.room.specs.declared.slot.Slot.{Slot}
use Rattle.room.specs.Slots.{end_of, Slotted, SlotTold}
use Rattle.room.specs.Keys.{columns_in, columns_of, Kept}
use Rattle.room.specs.declared.keys.KeyRoom.TheInside.{Inside}
use Rattle.room.proofs.Holding.{used_bytes, pushed_kept, pushed, unchanged}

-- a slot that was read
pub record Read (m : Outcome Refusal Column) (used : ℕ) (bytes : List ℕ) (s : Slot) (bytes' : List ℕ) (w : View) : Type 0 where
  pub column : Column
  pub gave : m ≡ got column w
  pub same : take used bytes' ≡ take used bytes
  pub slotted : Slotted column used bytes' s

pub read : (m : Outcome Refusal Column) (used : ℕ) (bytes : List ℕ) (s : Slot) (bytes' : List ℕ) (w : View) → SlotTold m used bytes (Ok s) bytes' w → Read m used bytes s bytes' w
read (got k v) used bytes s bytes' w (same, left, t, is, h) = let z : t ≡ s = cc in record { column = k; gave = ap (got k) (sym left); same = same; slotted = subst (λ s. Slotted k used bytes' s) z h }
read (bad f v) used bytes s bytes' w (same, left, is) = ok_err is

module _ (r : Inside) (kept : Kept r) (long : length r.bytes ≡ 4096) (old : List Column) (is : columns_of r ≡ old) (lends : Bool) (end : Option ℕ) (n : ℕ) (v w : View) (bytes' : List ℕ) where
  held_is : r.used ≡ column_bytes old
  held_is = sym (used_bytes r kept long) ∙ ap column_bytes is

  pub text_stop : (f : Refusal) (s : Result Unit Refusal) → SlotTold (key_text_read lends end r.used n v) r.used r.bytes (Err f) bytes' w → IsErrAnd s (λ g. g ≡ f) →
      KeyTold (key_text_read lends end (column_bytes old) n v) old s (columns_in bytes' (take r.count r.slots)) w
  text_stop f s h e = subst (λ k. KeyTold (key_text_read lends end k n v) old s (columns_in bytes' (take r.count r.slots)) w) held_is (go (key_text_read lends end r.used n v) h)
    where
      go : (m : Outcome Refusal Column) → SlotTold m r.used r.bytes (Err f) bytes' w → KeyTold m old s (columns_in bytes' (take r.count r.slots)) w
      go (got k u) (same, left, t, x, h) = ok_err (sym x)
      go (bad g u) (same, left, x) = let z : f ≡ g = cc in (err_is s f e ∙ ap Err z, left, unchanged r kept bytes' same ∙ is)

  module _ (more : length old < 256) (s : Slot) (h : SlotTold (key_text_read lends end r.used n v) r.used r.bytes (Ok s) bytes' w) where
    it : Read (key_text_read lends end r.used n v) r.used r.bytes s bytes' w
    it = read (key_text_read lends end r.used n v) r.used r.bytes s bytes' w h

    pub ends_within : end_of s r.used ≤ 4096
    ends_within = it.slotted.fits

    room_left : length (columns_of r) < 256
    room_left = subst (λ l. length l < 256) (sym is) more

    pub text_kept : (used : ℕ) → used ≡ end_of s r.used → Kept (record { slots = set r.slots r.count s; count = r.count + 1; bytes = bytes'; used = used })
    text_kept used at = subst (λ u. Kept (record { slots = set r.slots r.count s; count = r.count + 1; bytes = bytes'; used = u })) (sym at) (pushed_kept r kept room_left it.column bytes' it.same s it.slotted (set r.slots r.count s) refl)

    pub text_told : KeyTold (key_text_read lends end (column_bytes old) n v) old (Ok tt) (columns_in bytes' (take (r.count + 1) (set r.slots r.count s))) w
    text_told =
        subst (λ k. KeyTold (key_text_read lends end k n v) old (Ok tt) (columns_in bytes' (take (r.count + 1) (set r.slots r.count s))) w) held_is
        (subst (λ m. KeyTold m old (Ok tt) (columns_in bytes' (take (r.count + 1) (set r.slots r.count s))) w) (sym it.gave)
        (refl, refl, pushed r kept room_left it.column bytes' it.same s it.slotted (set r.slots r.count s) refl ∙ ap (λ l. l ++ it.column ∷ []) is))
