use Rattle.std.proofs.Common.{◌≡◌, ◌∷◌, [], subst, rules}
use Rattle.std.proofs.lemmas.Fn.{fold_over, slice_gives, fronts}
use Rattle.std.proofs.lemmas.List.Sums.{fold-append}
use Rattle.utf8.specs.Pieces.{await, turned, all_turned}
use Rattle.utf8.proofs.pieces.Awaited.after.Goals as goal

pub returns : goal.returns
returns c =
    let from = await c.args.self in
    subst (λ bytes. await c.fold.result ≡ all_turned from bytes) c.iter.ensures.rest
    (fold_over fronts (λ byte. byte.now) _ (λ bytes state. await state ≡ all_turned from bytes) _
    (λ bytes a x b f' so_far call. let more = fold-append turned from bytes (x.now ∷ []) in search rules)
    _ _ _ _ (slice_gives c.iter.result) (search rules) c.fold.ensures.ran)
