-- Whether a key is the name of a column.
use Rattle.std.proofs.Common.{◌≡◌, ℕ, Bool, false, List, Some, IsTrue, slice_get, option_map, length, ◌≤◌, ◌↔◌, eqb, sym, ◌∙◌, ap}
use Rattle.std.specs.Cmp.Lexicographic.{pointwise}
use Rattle.std.specs.Bool.{Decides}
use Rattle.std.proofs.lemmas.Bool.Decides.{Decides-eqb}
use Rattle.std.proofs.lemmas.Slice.Eq.{slice_eq-Decides}
use Rattle.std.proofs.lemmas.Option.{slice_get_past}

module _ {S : Type 0} (name : S → List ℕ) (xs : List S) (i : ℕ) (key : List ℕ) where
  pub column_is : (x : S) (bytes : List ℕ) (r : Bool) → slice_get xs i ≡ Some x → bytes ≡ name x → r ≡ pointwise eqb bytes key → IsTrue r ↔ (option_map name (slice_get xs i) ≡ Some key)
  column_is x bytes r here named compared = (λ t. ap (option_map name) here ∙ ap Some (sym named ∙ same.0 t), λ e. same.1 (named ∙ inside (sym (ap (option_map name) here) ∙ e)))
    where
      inside : {a b : List ℕ} → Some a ≡ Some b → a ≡ b
      inside e = cc

      same : Decides r (bytes ≡ key)
      same = slice_eq-Decides Decides-eqb bytes key r compared

  pub column_lacks : length xs ≤ i → IsTrue false ↔ (option_map name (slice_get xs i) ≡ Some key)
  column_lacks past = rw (slice_get_past xs i past) ((λ t. absurd (cc)), λ e. absurd (cc))
