-- What holds of a read that gives something, through whatever it is made of.
use Rattle.std.proofs.Common.{◌≡◌, ℕ, Bool, true, false, cond, Some, None, Option, refl}
use Rattle.read.specs.Reader.{View}
use Rattle.format.specs.declared.refusal.ReadError.{ReadError}
use Rattle.bunser.specs.Outcome.{Outcome, got, bad, and_then, placed, answer}
use Rattle.room.specs.KeyList.{in_key_room}

-- of what is given and of what it leaves
pub data IfGot {E A : Type 0} (P : A → View → Type 0) : Outcome E A → Type 0 where
  gave : {a : A} {v : View} → P a v → IfGot P (got a v)
  refused : {e : E} {v : View} → IfGot P (bad e v)

pub got_then : {E A B : Type 0} {P : A → View → Type 0} {Q : B → View → Type 0} {m : Outcome E A} {f : A → View → Outcome E B} → IfGot P m → ((a : A) (v : View) → P a v → IfGot Q (f a v)) → IfGot Q (and_then m f)
got_then (gave {a} {v} h) k = k a v h
got_then refused k = refused

pub got_placed : {A : Type 0} {P : A → View → Type 0} {m : Outcome ReadError A} (p : ℕ) → IfGot P m → IfGot P (placed p m)
got_placed p (gave h) = gave h
got_placed p refused = refused

pub got_roomed : {A : Type 0} {P : A → View → Type 0} {m : Outcome ReadError A} (p : ℕ) → IfGot P m → IfGot P (in_key_room p m)
got_roomed p (gave h) = gave h
got_roomed p refused = refused

pub got_if : {E A : Type 0} {P : A → View → Type 0} {m n : Outcome E A} (b : Bool) → IfGot P m → IfGot P n → IfGot P (cond b m n)
got_if true h k = h
got_if false h k = k

pub got_answer : {A : Type 0} {P : A → View → Type 0} (o : Option ReadError) (v : View) (a : A) (w : View) → (o ≡ None → P a w) → IfGot P (answer o v a w)
got_answer None v a w h = gave (h refl)
got_answer (Some e) v a w h = refused
