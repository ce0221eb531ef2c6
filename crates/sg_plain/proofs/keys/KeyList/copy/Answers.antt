use Rattle.std.proofs.Common.{List, ℕ, ◌++◌, ◌∷◌, [], get_or, refl, sym, subst}
use Rattle.sg_plain.specs.Keys.{IsRising}
use Rattle.sg_plain.proofs.KeyLemmas.{rising_next}
use Rattle.sg_plain.proofs.keys.KeyList.copy.Goals as goal

pub push-requires : goal.push-requires
push-requires c =
    let all = c.as_slice-key-items.result.now in
    let at = c.loop-key.key-index in
    subst (λ (ks : List ℕ). IsRising (ks ++ get_or all at 0 ∷ [])) (sym c.loop-key.invariant)
    (rising_next all at (get_or all at 0) (subst IsRising (sym c.as_slice-key-items.ensures) c.self.invariant) c.loop-key-test.true refl)
