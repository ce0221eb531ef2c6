-- The spots of neighbouring places share a side, and the curve goes from the lower left to the lower right.
use Rattle.std.proofs.Common.{ℕ, zero, suc, ◌≡◌, ◌+◌, ◌-◌, ◌*◌, ◌/◌, ◌%◌, ◌<◌, arith, refl, sym, subst, inl, inr}
use Rattle.std.proofs.lemmas.Bool.{cases_order}
use Rattle.std.proofs.lemmas.Nat.{div-add-mod', mod_below, mul-le}
use Rattle.sg_hilbert.proofs.Undo.{two_pos, four_pos, IsSpot, spot_fits, spot_in}
use Rattle.sg_hilbert.specs.Curve.{four_to, two_to, in_quarter, spot_at, Beside}

quarter_beside : (q n : ℕ) (s t : ℕ × ℕ) → IsSpot n s → IsSpot n t → Beside s t → Beside (in_quarter q n s) (in_quarter q n t)
quarter_beside zero n s t hs ht (inl h) = inr h
quarter_beside zero n s t hs ht (inr h) = inl h
quarter_beside (suc zero) n s t hs ht (inl h) = inl (h.0, elim h.1 [ inl e ↦ inl (omega arith) | inr e ↦ inr (omega arith) ])
quarter_beside (suc zero) n s t hs ht (inr h) = inr (let e = h.0 in omega arith, h.1)
quarter_beside (suc (suc zero)) n s t hs ht (inl h) = inl (let e = h.0 in omega arith, elim h.1 [ inl e ↦ inl (omega arith) | inr e ↦ inr (omega arith) ])
quarter_beside (suc (suc zero)) n s t hs ht (inr h) = inr (let e = h.0 in omega arith, elim h.1 [ inl e ↦ inl (omega arith) | inr e ↦ inr (omega arith) ])
quarter_beside (suc (suc (suc q))) n s t hs ht (inl h) = inr (let e = h.0 in omega arith, elim h.1 [ inl e ↦ inr (omega arith) | inr e ↦ inl (omega arith) ])
quarter_beside (suc (suc (suc q))) n s t hs ht (inr h) = inl (let e = h.0 in omega arith, elim h.1 [ inl e ↦ inr (omega arith) | inr e ↦ inl (omega arith) ])

-- the curve begins at the lower left and ends at the lower right
pub record At (s : ℕ × ℕ) (x y : ℕ) : Type 0 where
  pub column : s.0 ≡ x
  pub row : s.1 ≡ y

at_same : (s t : ℕ × ℕ) (x y : ℕ) → s ≡ t → At t x y → At s x y
at_same s t x y e h = subst (λ s. At s x y) (sym e) h

pub first_spot : (k : ℕ) → At (spot_at k 0) 0 0
first_spot zero = record { column = refl; row = refl }
first_spot (suc k) =
    let ih = first_spot k in
    let e : spot_at (suc k) 0 ≡ in_quarter 0 (two_to k) (spot_at k 0) = subst (λ d. spot_at (suc k) d ≡ in_quarter 0 (two_to k) (spot_at k 0)) (grind arith) (spot_in k 0 0 (four_pos k)) in
    at_same (spot_at (suc k) 0) _ 0 0 e (record { column = ih.row; row = ih.column })

pub last_spot : (k d : ℕ) → suc d ≡ four_to k → At (spot_at k d) (two_to k - 1) 0
last_spot zero d h = record { column = refl; row = refl }
last_spot (suc k) d h =
    let f = four_pos k in
    let v = four_to k - 1 in
    let ih = last_spot k v (omega arith) in
    let e : spot_at (suc k) d ≡ in_quarter 3 (two_to k) (spot_at k v) = subst (λ d. spot_at (suc k) d ≡ in_quarter 3 (two_to k) (spot_at k v)) (omega arith) (spot_in k 3 v (omega arith)) in
    let c = ih.column in
    let r = ih.row in
    let t = two_pos k in
    at_same (spot_at (suc k) d) _ (two_to (suc k) - 1) 0 e (record { column = omega arith; row = omega arith })

-- from a quarter's last place to the first of the next
cross : (k q : ℕ) (s t : ℕ × ℕ) → q < 3 → 0 < two_to k → At s (two_to k - 1) 0 → At t 0 0 → Beside (in_quarter q (two_to k) s) (in_quarter (suc q) (two_to k) t)
cross k zero s t h p a b = inl (let x = a.row in let y = b.column in omega arith, inr (let x = a.column in let y = b.row in omega arith))
cross k (suc zero) s t h p a b = inr (let x = a.row in let y = b.row in omega arith, inr (let x = a.column in let y = b.column in omega arith))
cross k (suc (suc zero)) s t h p a b = inl (let x = a.column in let y = b.row in omega arith, inl (let x = a.row in let y = b.column in omega arith))
cross k (suc (suc (suc q))) s t h p a b = absurd (omega arith)

pub neighbours : (k d : ℕ) → suc d < four_to k → Beside (spot_at k d) (spot_at k (suc d))
neighbours zero d h = absurd (omega arith)
neighbours (suc k) d h =
    elim (cases_order (suc r) f) [
      | inl e ↦ subst (λ s. Beside s (spot_at (suc k) (suc d))) (sym here)
          (subst (λ s. Beside (in_quarter q n (spot_at k r)) s) (sym (next_quarter e))
          (cross k q (spot_at k r) (spot_at k 0) (fewer e) (two_pos k) (last_spot k r e) (first_spot k)))
      | inr (inl l) ↦ subst (λ s. Beside s (spot_at (suc k) (suc d))) (sym here)
          (subst (λ s. Beside (in_quarter q n (spot_at k r)) s) (sym (same_quarter l))
          (quarter_beside q n (spot_at k r) (spot_at k (suc r)) (spot_fits k r) (spot_fits k (suc r)) (neighbours k r l)))
      | inr (inr l) ↦ absurd (let z = below in omega arith)
    ]
  where
    f : ℕ
    f = four_to k

    n : ℕ
    n = two_to k

    q : ℕ
    q = d / f

    r : ℕ
    r = d % f

    below : r < f
    below = mod_below d f (four_pos k)

    whole : q * f + r ≡ d
    whole = div-add-mod' d f

    here : spot_at (suc k) d ≡ in_quarter q n (spot_at k r)
    here = refl

    same_quarter : suc r < f → spot_at (suc k) (suc d) ≡ in_quarter q n (spot_at k (suc r))
    same_quarter l = subst (λ d. spot_at (suc k) d ≡ in_quarter q n (spot_at k (suc r))) (let w = whole in omega arith) (spot_in k q (suc r) l)

    next_quarter : suc r ≡ f → spot_at (suc k) (suc d) ≡ in_quarter (suc q) n (spot_at k 0)
    next_quarter e = subst (λ d. spot_at (suc k) d ≡ in_quarter (suc q) n (spot_at k 0)) (let w = whole in grind arith) (spot_in k (suc q) 0 (four_pos k))

    fewer : suc r ≡ f → q < 3
    fewer e = elim (cases_order q 3) [
      | inl z ↦ absurd (let m = mul-le 3 f q f (omega arith) (omega arith) in let w = whole in omega arith)
      | inr (inl z) ↦ z
      | inr (inr z) ↦ absurd (let m = mul-le 3 f q f (omega arith) (omega arith) in let w = whole in omega arith)
    ]
