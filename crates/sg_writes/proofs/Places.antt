-- The pair at the place of the first that passes a test is the one that is looked up.
use Rattle.std.proofs.Common.{◌≡◌, ◌<◌, ◌≤◌, Bool, List, [], ◌∷◌, ℕ, length, get_or, Some, None, refl, arith}
use Rattle.std.proofs.lemmas.Grind.{common_steps}
use Rattle.std.specs.Map.{lookup_entry}
use Rattle.sg_pages.specs.Sorted.{first_place}

pub found_at_place : {K V : Type 0} (test : K → Bool) (es : List (K × V)) (d : K × V) → first_place (λ e. test e.0) es < length es → lookup_entry test es ≡ Some (get_or es (first_place (λ e. test e.0) es) d)
found_at_place test [] d lt = absurd (omega arith)
found_at_place test (e ∷ es) d lt = grind (arith, common_steps, found_at_place test es d)

pub absent_past_end : {K V : Type 0} (test : K → Bool) (es : List (K × V)) → length es ≤ first_place (λ e. test e.0) es → lookup_entry test es ≡ None
absent_past_end test [] le = refl
absent_past_end test (e ∷ es) le = grind (arith, common_steps, absent_past_end test es)
