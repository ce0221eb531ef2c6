-- What holds as the sessions of a set are taken from it, the least first, and a piece of text is put for each.
use Rattle.std.proofs.Common.{◌≡◌, ℕ, List, [], ◌∷◌, ◌++◌, refl, sym, ap, ◌∙◌}
use Rattle.std.specs.Prelude.{None, slice_get}
use Rattle.std.specs.List.{flat_map}
use Rattle.std.proofs.lemmas.List.{append-nil}
use Rattle.sg_modes.specs.Sessions.{AreSessions}

-- the pieces of all but the rest are put; and if the rest is a set, so are all
pub record Appended (piece : ℕ → List ℕ) (old now : List ℕ) (all rest : List ℕ) : Type 0 where
  pub text : now ++ flat_map piece rest ≡ old ++ flat_map piece all
  pub set : AreSessions rest → AreSessions all

no_first : (ns : List ℕ) → slice_get ns 0 ≡ None → ns ≡ []
no_first [] e = refl
no_first (n ∷ ns) e = absurd (cc)

pub appended_all : (piece : ℕ → List ℕ) (old now : List ℕ) (all rest : List ℕ) → Appended piece old now all rest → slice_get rest 0 ≡ None →
    now ≡ old ++ flat_map piece all
appended_all piece old now all rest h none =
    sym (append-nil now) ∙ ap (λ ns. now ++ flat_map piece ns) (sym (no_first rest none)) ∙ h.text
