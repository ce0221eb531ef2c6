-- Numbers that are computed exactly.
use Rattle.std.proofs.Common.{◌≡◌, ℤ, SFits, w64, to_z, of_z, ◌∙◌}
use Rattle.std.proofs.lemmas.Int.{to_z-of_z}

pub clean : (r x : ℤ) → SFits w64 r → r ≡ x → to_z w64 (of_z w64 r) ≡ x
clean r x f e = to_z-of_z w64 r f ∙ e
