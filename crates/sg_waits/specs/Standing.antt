-- Standing waits as blockers by session.
use Rattle.std.specs.Prelude.{◌≡◌, ℕ, suc, false, List, [], ◌∷◌}
use Rattle.sg_modes.specs.Sessions.{has_session}
use Rattle.sg_modes.specs.Waits.{Wait}

-- the waits of the sessions after the low one, by the blockers of each; no blockers, no wait
abbrev pub standing_above : List (List ℕ) → ℕ → List Wait
standing_above [] low = []
standing_above ([] ∷ rest) low = standing_above rest (suc low)
standing_above ((b ∷ bs) ∷ rest) low = record { session = suc low; blockers = b ∷ bs } ∷ standing_above rest (suc low)

unfoldable pub standing : List (List ℕ) → List Wait
standing named = standing_above named 0

-- no session after the low one is its own blocker
abbrev pub NamesOthers : List (List ℕ) → ℕ → Type 0
NamesOthers [] low = Unit {0}
NamesOthers (bs ∷ rest) low = (has_session bs (suc low) ≡ false) × NamesOthers rest (suc low)
