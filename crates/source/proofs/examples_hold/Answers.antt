use Rattle.std.proofs.Common.{◌≡◌, zero, suc, ◌<◌, [], ◌∷◌, Some, refl, sym, ap, ◌∙◌, arith}
use Rattle.std.specs.Int.NonZero.{non_zero_u16_get}
use Rattle.source.specs.Bytes.{Octets}
use Rattle.source.specs.declared.fault.SourceFault.{SourceFault}
use Rattle.source.specs.Feed.{Coded}
use Rattle.source.proofs.examples_hold.Goals as goal

byte_most : Octets (255 ∷ [])
byte_most zero = omega arith
byte_most (suc i) = omega arith

code_most : (f : SourceFault) → non_zero_u16_get f.0 ≡ 65535 → Coded (Some f)
code_most f h x e = let same : f ≡ x = cc in let code : non_zero_u16_get x.0 ≡ 65535 = sym (ap (λ (f : SourceFault). non_zero_u16_get f.0) same) ∙ h in omega arith

pub returns : goal.returns
returns c = record {
  byte_most = byte_most;
  byte_beyond = λ h. let most : 256 < 256 = h 0 in absurd (omega arith);
  code_most = code_most;
  code_beyond = λ f h coded. let most = coded f refl in absurd (omega arith);
  full = λ e. record { fills = λ r g buf h. h };
  not_full = λ e. record { fills = λ r g buf h. h };
}
