-- Turns one after another.
use Rattle.std.specs.Prelude.{◌≡◌, ℕ, List, [], ◌∷◌, ◌++◌, refl}
use Rattle.std.proofs.Common.{sym, ap, ◌∙◌, subst}
use Rattle.sg_run.specs.Runs.{RunShown}
use Rattle.sg_driver.specs.Drives.{Leads, after_turns}

-- the turns of a list come after those before it
pub after_is : (ss before : List ℕ) → after_turns ss before ≡ after_turns ss [] ++ before
after_is [] before = refl
after_is (s ∷ ss) before =
    after_is ss (s ∷ before)
    ∙ (sym (append_one (after_turns ss []) s before) ∙ ap (λ (xs : List ℕ). xs ++ before) (sym (after_is ss (s ∷ []))))
  where
    append_one : (xs : List ℕ) (x : ℕ) (ys : List ℕ) → (xs ++ x ∷ []) ++ ys ≡ xs ++ x ∷ ys
    append_one [] x ys = refl
    append_one (y ∷ xs) x ys = ap (λ (zs : List ℕ). y ∷ zs) (append_one xs x ys)

-- turns and then more of them
pub leads_on : (xs ys : List ℕ) (a b c : RunShown) → Leads ys a b → Leads xs b c → Leads (xs ++ ys) a c
leads_on [] ys a b c h k = subst (λ (v : RunShown). Leads ys a v) (sym k) h
leads_on (x ∷ xs) ys a b c h k = (k.0, leads_on xs ys a b k.0 h k.1, k.2)

pub leads_after : (ss before : List ℕ) (a b c : RunShown) → Leads before a b → Leads (after_turns ss []) b c → Leads (after_turns ss before) a c
leads_after ss before a b c h k = subst (λ (ts : List ℕ). Leads ts a c) (sym (after_is ss before)) (leads_on (after_turns ss []) before a b c h k)

-- one turn more of a list
pub after_more : (ss : List ℕ) (s : ℕ) (before : List ℕ) → after_turns (ss ++ s ∷ []) before ≡ s ∷ after_turns ss before
after_more [] s before = refl
after_more (r ∷ ss) s before = after_more ss s (r ∷ before)
