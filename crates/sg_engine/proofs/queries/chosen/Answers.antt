use Rattle.std.proofs.Common.{ℕ, List, [], ◌∷◌, ◌++◌, refl, sym, subst, slice_index_or}
use Rattle.sg_plain.specs.Keys.{IsRising}
use Rattle.sg_engine.proofs.Choices.{chosen_next}
use Rattle.sg_engine.proofs.queries.chosen.Goals as goal

pub push-requires : goal.push-requires
push-requires c =
    let items = c.as_slice-key-items.result.now in
    let item : ℕ = slice_index_or items c.loop-key.key-index 0 in
    subst (λ (ks : List ℕ). IsRising (ks ++ item ∷ [])) (sym c.loop-key.invariant)
    (chosen_next c.as_slice-sure.result.now c.as_slice-tested.result.now items c.loop-key.key-index item (subst IsRising (sym c.as_slice-key-items.ensures.all) c.as_slice-key-items.ensures.rising) c.loop-key-test.true refl)
