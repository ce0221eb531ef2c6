-- A cycle has one victim.
use Rattle.std.specs.Prelude.{◌≡◌, ℕ, ℤ, ◌≤◌, ◌≤ℤ◌, List}
use Rattle.std.proofs.Common.{sym, arith}
use Rattle.std.proofs.lemmas.Int.{ints}
use Rattle.sg_modes.specs.Victims.{IsVictim}

pub IsVictim-unique : (priority : ℕ → ℤ) (cost : ℕ → ℕ) (cycle : List ℕ) (v w : ℕ) → IsVictim priority cost cycle v → IsVictim priority cost cycle w → v ≡ w
IsVictim-unique priority cost cycle v w a b =
    let p : priority v ≡ priority w = same_priority (priority v) (priority w) (a.lowest w b.member) (b.lowest v a.member) in
    let l : cost v ≤ cost w = a.cheapest w b.member (sym p) in
    let m : cost w ≤ cost v = b.cheapest v a.member p in
    let c : cost v ≡ cost w = omega arith in
    let g : w ≤ v = a.greatest w b.member (sym p) (sym c) in
    let h : v ≤ w = b.greatest v a.member p c in
    omega arith
  where
    same_priority : (x y : ℤ) → x ≤ℤ y → y ≤ℤ x → x ≡ y
    same_priority x y l m = omega (arith, ints)
