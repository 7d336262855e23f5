-- A text in pieces is judged as the whole text is.
use Rattle.std.proofs.Common.{◌≡◌, ℕ, Bool, true, false, if◌then◌else◌, ◌&&◌, List, [], ◌∷◌, ◌++◌, sym, refl, ap}
use Rattle.std.proofs.lemmas.List.Folds.{fold_stays}
use Rattle.std.proofs.lemmas.List.Sums.{fold-append}
use Rattle.utf8.specs.Utf8.{Await, character, broken, range, within, first, further, utf8_after, utf8}
use Rattle.utf8.specs.Pieces.{turned, all_turned, complete}

pub turned_on : (w : Await) (xs ys : List ℕ) → all_turned w (xs ++ ys) ≡ all_turned (all_turned w xs) ys
turned_on w xs ys = fold-append turned w xs ys

stays_broken : (bs : List ℕ) → complete (all_turned broken bs) ≡ false
stays_broken bs = ap complete (fold_stays turned broken (λ b. refl) bs)

judged : (w : Await) (bs : List ℕ) → utf8_after w bs ≡ complete (all_turned w bs)
judged character [] = refl
judged character (b ∷ bs) = judged (first b) bs
judged broken [] = refl
judged broken (b ∷ bs) = sym (stays_broken bs)
judged (range lo hi k) [] = refl
judged (range lo hi k) (b ∷ bs) = go (within lo hi b) (judged (further k) bs)
  where
    go : (t : Bool) → utf8_after (further k) bs ≡ complete (all_turned (further k) bs) → (t && utf8_after (further k) bs) ≡ complete (all_turned (if t then further k else broken) bs)
    go true h = h
    go false h = sym (stays_broken bs)

pub judged_in_pieces : (bs : List ℕ) → utf8 bs ≡ complete (all_turned character bs)
unfolding utf8
judged_in_pieces bs = judged character bs
