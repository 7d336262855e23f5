use Rattle.std.proofs.Common.{◌≡◌, ℕ, ◌<◌, Bool, true, false, cond, List, drop, Some, None, Ok, Option, refl, subst, length, slice_index}
use Rattle.std.proofs.lemmas.Bool.{le-ltb}
use Rattle.std.specs.Int.NonZero.{non_zero_u16_get}
use Rattle.source.specs.Bytes.{Octets}
use Rattle.source.specs.declared.fault.SourceFault.{SourceFault}
use Rattle.source.specs.Feed.{Coded}
use Rattle.source.specs.Sound.{octets_drop, octets_take}
use Rattle.read.specs.declared.Fault.{Fault}
use Rattle.read.specs.declared.Fault.TheVariants.{Stop, Room, Source}
use Rattle.read.specs.Reader.{View, shortfall, ByteBy, lent_part}
use Rattle.read.proofs.every_reader_assures.Goals as goal

first_given : (o : Option Fault) (v t w : View) (b : ℕ) → ByteBy o v t (Ok b) w → slice_index v.coming 0 ≡ b
first_given (Some f) v t w b (e, left) = absurd (cc)
first_given None v t w b (e, left) = cc

chosen : (c : Bool) (x b : ℕ) → cond c (Some x) None ≡ Some b → x ≡ b
chosen true x b e = cc
chosen false x b e = absurd (cc)

found : (c : Bool) (xs ys : List ℕ) → cond c None (Some xs) ≡ Some ys → xs ≡ ys
found true xs ys e = absurd (cc)
found false xs ys e = cc

lent : (lends : Bool) (v : View) (p n : ℕ) (bytes : List ℕ) → Octets v.kept → lent_part lends v p n ≡ Some bytes → Octets bytes
lent true v p n bytes h e = subst Octets (found _ _ _ e) (octets_take n (drop p v.kept) (octets_drop p v.kept h))
lent false v p n bytes h e = absurd (cc)

coded : (stop room short : Bool) (e : Option SourceFault) (f : SourceFault) → Coded e → cond stop (Some Stop) (cond room (Some Room) (cond short (Some (shortfall e)) None)) ≡ Some (Source f) → non_zero_u16_get f.0 < 65536
coded true room short e f h is = absurd (cc)
coded false true short e f h is = absurd (cc)
coded false false false e f h is = absurd (cc)
coded false false true None f h is = absurd (cc)
coded false false true (Some g) f h is = let same : g ≡ f = cc in subst (λ (f : SourceFault). non_zero_u16_get f.0 < 65536) same (h g refl)

pub returns : goal.returns
returns c lends v sound = record {
  next = λ b w h. let first = first_given _ _ _ _ _ h in let byte = sound.octets 0 in subst (λ b. b < 256) first byte;
  kept = λ p b e. subst (λ b. b < 256) (chosen _ _ _ e) (sound.kept_octets p);
  part = λ p n bytes e. lent lends v p n bytes sound.kept_octets e;
  peeked = λ e. rw (le-ltb (length v.coming) 1 (sound.held_there e)) refl;
  code = λ room n f e. coded _ _ _ v.ending f sound.coded e;
}
