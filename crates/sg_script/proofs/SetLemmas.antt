-- Sets of sessions that are told by rising numbers.
use Rattle.std.proofs.Common.{◌≡◌, ℕ, zero, suc, ◌+◌, ◌<◌, ◌≤◌, cond, eqb, ltb, List, [], ◌∷◌, length, get_or, take, refl, ap, ◌∙◌, arith}
use Rattle.std.proofs.lemmas.Bool.Decides.{nat_tests}
use Rattle.sg_modes.specs.Sessions.{with_session}
use Rattle.sg_plain.specs.Keys.{RisesFrom}
use Rattle.sg_script.specs.Plans.{numbers_of}
use Rattle.sg_script.specs.declared.sessions.SessionScript.{SessionScript}

-- each number is at least the low one
rises_at : (low : ℕ) (ss : List SessionScript) (i : ℕ) (d : SessionScript) → i < length ss → RisesFrom low (numbers_of ss) → low ≤ (get_or ss i d).session
rises_at low [] i d h r = absurd (omega arith)
rises_at low (s ∷ ss) zero d h r = r.0
rises_at low (s ∷ ss) (suc i) d h r =
    let a : low ≤ s.session = r.0 in
    let b : s.session + 1 ≤ (get_or ss i d).session = rises_at (s.session + 1) ss i d (omega arith) r.1 in
    omega arith

after : (x s : ℕ) (a b c : List ℕ) → x < s → cond (ltb s x) a (cond (eqb s x) b c) ≡ c
after x s a b c h = grind (arith, nat_tests)

-- the next number of a rising list goes last
pub set_more : (low : ℕ) (ss : List SessionScript) (i : ℕ) (d : SessionScript) → i < length ss → RisesFrom low (numbers_of ss) →
    with_session (numbers_of (take i ss)) (get_or ss i d).session ≡ numbers_of (take (suc i) ss)
set_more low [] i d h r = absurd (omega arith)
set_more low (s ∷ ss) zero d h r = refl
set_more low (s ∷ ss) (suc i) d h r =
    let b : s.session + 1 ≤ (get_or ss i d).session = rises_at (s.session + 1) ss i d (omega arith) r.1 in
    after s.session (get_or ss i d).session _ _ _ (omega arith) ∙ ap (λ (ns : List ℕ). s.session ∷ ns) (set_more (s.session + 1) ss i d (omega arith) r.1)
