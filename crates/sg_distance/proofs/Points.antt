-- A figure has a point exactly where the point's status isn't Out.
use Rattle.std.proofs.Common.{ℕ, ◌≡◌, ◌<◌, ◌+◌, ◌%◌, arith, refl, sym, ap, ◌∙◌, subst, Bool, true, false, cond, not, List, [], ◌∷◌, ◌++◌, zero, suc}
use Rattle.std.specs.List.{list_any, count_by}
use Rattle.std.proofs.lemmas.List.Sums.{sum_by-cons}
use mathlib.Core.Bool.{◌&&◌, ◌||◌}
use mathlib.Core.Logic.{inl, inr}
use lib.IntN.{ℤ, pos, ◌+ℤ◌, ◌*ℤ◌, *ℤ_comm, zero-*ℤ}
use lib.Signed.{◌≤ℤ◌, le_z}
use Rattle.sg_algebra.proofs.Ring.{sums}
use Rattle.sg_algebra.proofs.Comparisons.{le-from_true, left_true, right_true, both, either_true, or_left, or_right, eq-from_true, true-from_eq, same_test}
use Rattle.sg_distance.proofs.Mix.{Along, along-on, on-from, on-to, one_times}
use Rattle.sg_algebra.proofs.Edges.{between-not_after}
use Rattle.sg_distance.proofs.Walk.{any-left, any-right}
use Rattle.sg_distance.proofs.Reach.{any-split}
use Rattle.sg_distance.proofs.Whole.{edges-append}
use Rattle.sg_shape.specs.Plane.{Point, Parts, Status, In, Bd, Out, status, lines_status, area_status, is_in, is_bd, odd, eq_z, between, is_at, same_spot, last_of, ends_at, on_edge, crosses_ray, edges_from, edges_of}
use Rattle.sg_shape.specs.Boxes.{is_held}
use Rattle.sg_segment.specs.Sides.{point_at}
use Rattle.sg_segment.specs.Statuses.{xor, parity}
use Rattle.sg_distance.specs.Figure.{on_any, bones, rings_of, dots, inside_any, has, Joined, Sound}
use Rattle.sg_shape.specs.declared.spots.Spot.{Spot}
use Rattle.sg_shape.specs.declared.spots.Edge.{Edge}

-- ---- parity
odd-suc : (n : ℕ) → odd (1 + n) ≡ not (odd n)
odd-suc n = by_rest (n % 2) (omega arith) refl
  where
    by_rest : (r : ℕ) → r < 2 → n % 2 ≡ r → odd (1 + n) ≡ not (odd n)
    by_rest zero h e = let f : (1 + n) % 2 ≡ 1 = omega arith in rw (e, f) refl
    by_rest (suc zero) h e = let f : (1 + n) % 2 ≡ 0 = omega arith in rw (e, f) refl
    by_rest (suc (suc r)) h e = absurd (omega arith)

odd-parity : (es : List Edge) (p : Point) → odd (count_by (λ e. crosses_ray e p) es) ≡ parity es p
odd-parity [] p = refl
odd-parity (e ∷ es) p =
    ap odd (sum_by-cons (λ f. cond (crosses_ray f p) 1 0) e es) ∙ by_test (crosses_ray e p) (count_by (λ f. crosses_ray f p) es) (parity es p) (odd-parity es p)
  where
    by_test : (b : Bool) (n : ℕ) (t : Bool) → odd n ≡ t → odd (cond b 1 0 + n) ≡ xor b t
    by_test true n t e = odd-suc n ∙ ap not e
    by_test false n t e = let f : 0 + n ≡ n = omega arith in rw f e

-- an odd count counts something
counted : (f : List Spot → Bool) (xs : List (List Spot)) → odd (count_by f xs) ≡ true → list_any f xs ≡ true
counted f [] h = absurd (cc)
counted f (x ∷ xs) h = by_test (counted f xs) (f x) refl (sym (ap odd (sum_by-cons (λ y. cond (f y) 1 0) x xs)) ∙ h)
  where
    by_test : (odd (count_by f xs) ≡ true → list_any f xs ≡ true) → (b : Bool) → f x ≡ b → odd (cond b 1 0 + count_by f xs) ≡ true → (f x || list_any f xs) ≡ true
    by_test r true e g = or_left (f x) (list_any f xs) e
    by_test r false e g = let q : 0 + count_by f xs ≡ count_by f xs = omega arith in or_right (f x) (list_any f xs) (r (subst (λ n. odd n ≡ true) q g))

-- ---- a spot and the edge from it to itself
at_along : (s : Spot) (p : Point) → is_at s p ≡ true → Along (point_at s) (point_at s) p
at_along s p h =
    let x : p.x ≡ s.x *ℤ pos p.n = eq-from_true p.x (s.x *ℤ pos p.n) (left_true (eq_z p.x (s.x *ℤ pos p.n)) (eq_z p.y (s.y *ℤ pos p.n)) h) in
    let y : p.y ≡ s.y *ℤ pos p.n = eq-from_true p.y (s.y *ℤ pos p.n) (right_true (eq_z p.x (s.x *ℤ pos p.n)) (eq_z p.y (s.y *ℤ pos p.n)) h) in
    record {
      k = pos 1;
      s = pos p.n;
      t = pos 0;
      k_over = omega (arith, sums);
      s_over = omega (arith, sums);
      t_over = omega (arith, sums);
      in_x = sum p.x s.x (pos p.n) x;
      in_y = sum p.y s.y (pos p.n) y;
      in_n = sum (pos p.n) (pos 1) (pos p.n) (sym (one_times (pos p.n)));
    }
  where
    sum : (v a n : ℤ) → v ≡ a *ℤ n → pos 1 *ℤ v ≡ n *ℤ a +ℤ pos 0 *ℤ a
    sum v a n e =
        let f : pos 1 *ℤ v ≡ v = one_times v in
        let g : n *ℤ a ≡ a *ℤ n = *ℤ_comm n a in
        let h : pos 0 *ℤ a ≡ pos 0 = zero-*ℤ a in
        omega (arith, sums)

at_on : (e : Edge) (s : Spot) (p : Point) → on_edge e (point_at s) ≡ true → is_at s p ≡ true → on_edge e p ≡ true
at_on e s p o h = along-on e (point_at s) (point_at s) p (at_along s p h) o o

on_dot : (s : Spot) (p : Point) → on_edge (record { from = s; to = s }) p ≡ true → is_at s p ≡ true
on_dot s p h =
    both (eq_z p.x (s.x *ℤ pos p.n)) (eq_z p.y (s.y *ℤ pos p.n))
    (pinned (s.x *ℤ pos p.n) p.x (left_true _ _ (right_true _ _ h)))
    (pinned (s.y *ℤ pos p.n) p.y (right_true _ _ (right_true _ _ h)))
  where
    pinned : (a x : ℤ) → between a a x ≡ true → eq_z x a ≡ true
    pinned a x h =
        let w : (le_z a x && le_z x a) ≡ true = sym (between-not_after a a x (omega (arith, sums))) ∙ h in
        let l1 : a ≤ℤ x = le-from_true a x (left_true (le_z a x) (le_z x a) w) in
        let l2 : x ≤ℤ a = le-from_true x a (right_true (le_z a x) (le_z x a) w) in
        true-from_eq x a (omega (arith, sums))

dots_on : (ss : List Spot) (p : Point) → list_any (λ s. is_at s p) ss ≡ true → on_any (edges_of (dots ss)) p ≡ true
dots_on [] p h = h
dots_on (s ∷ ss) p h = elim (either_true (is_at s p) (list_any (λ t. is_at t p) ss) h) [
  | inl l ↦ or_left (on_edge (record { from = s; to = s }) p) (on_any (edges_of (dots ss)) p) (at_on (record { from = s; to = s }) s p (on-from s s) l)
  | inr r ↦ or_right (on_edge (record { from = s; to = s }) p) (on_any (edges_of (dots ss)) p) (dots_on ss p r)
]

on_dots : (ss : List Spot) (p : Point) → on_any (edges_of (dots ss)) p ≡ true → list_any (λ s. is_at s p) ss ≡ true
on_dots [] p h = h
on_dots (s ∷ ss) p h = elim (either_true (on_edge (record { from = s; to = s }) p) (on_any (edges_of (dots ss)) p) h) [
  | inl l ↦ or_left (is_at s p) (list_any (λ t. is_at t p) ss) (on_dot s p l)
  | inr r ↦ or_right (is_at s p) (list_any (λ t. is_at t p) ss) (on_dots ss p r)
]

-- ---- lines: an end lies on the line
last_on : (s t : Spot) (ss : List Spot) (p : Point) → is_at (last_of s (t ∷ ss)) p ≡ true → on_any (edges_from s (t ∷ ss)) p ≡ true
last_on s t [] p h = or_left (on_edge (record { from = s; to = t }) p) false (at_on (record { from = s; to = t }) t p (on-to s t) h)
last_on s t (u ∷ ss) p h = or_right (on_edge (record { from = s; to = t }) p) (on_any (edges_from t (u ∷ ss)) p) (last_on t u ss p h)

ends_on : (ls : List (List Spot)) (p : Point) → Joined ls → list_any (ends_at p) ls ≡ true → on_any (edges_of ls) p ≡ true
ends_on [] p j h = h
ends_on ([] ∷ ls) p j h = absurd j
ends_on ((s ∷ []) ∷ ls) p j h = absurd j
ends_on ((s ∷ t ∷ ss) ∷ ls) p j h = elim (either_true (ends_at p (s ∷ t ∷ ss)) (list_any (ends_at p) ls) h) [
  | inl l ↦ any-left (λ e. on_edge e p) (edges_from s (t ∷ ss)) (edges_of ls)
      (elim (either_true (is_at s p) (is_at (last_of s (t ∷ ss)) p) (right_true (not (same_spot s (last_of s (t ∷ ss)))) _ l)) [
        | inl a ↦ or_left (on_edge (record { from = s; to = t }) p) (on_any (edges_from t ss) p) (at_on (record { from = s; to = t }) s p (on-from s t) a)
        | inr b ↦ last_on s t ss p b
      ])
  | inr r ↦ any-right (λ e. on_edge e p) (edges_from s (t ∷ ss)) (edges_of ls) (ends_on ls p j r)
]

lines_of : (ls : List (List Spot)) (p : Point) → Joined ls → is_held (lines_status ls p) ≡ on_any (edges_of ls) p
lines_of ls p j = by_tests (odd (count_by (ends_at p) ls)) refl (on_any (edges_of ls) p) refl
  where
    clash : (b : Bool) → b ≡ true → b ≡ false → ⊥
    clash true e f = cc
    clash false e f = cc

    by_tests : (a : Bool) → odd (count_by (ends_at p) ls) ≡ a → (b : Bool) → on_any (edges_of ls) p ≡ b → is_held (cond a Bd (cond b In Out)) ≡ b
    by_tests true e true f = refl
    by_tests false e true f = refl
    by_tests false e false f = refl
    by_tests true e false f = absurd (clash (on_any (edges_of ls) p) (ends_on ls p j (counted (ends_at p) ls e)) f)

area_of : (a : List (List Spot)) (p : Point) → is_held (area_status a p) ≡ (on_any (edges_of a) p || parity (edges_of a) p)
area_of a p = rw (odd-parity (edges_of a) p) (by_tests (on_any (edges_of a) p) (parity (edges_of a) p))
  where
    by_tests : (o c : Bool) → is_held (cond o Bd (cond c In Out)) ≡ (o || c)
    by_tests true true = refl
    by_tests true false = refl
    by_tests false true = refl
    by_tests false false = refl

in_or_bd : (t : Status) → (is_in t || is_bd t) ≡ is_held t
in_or_bd In = refl
in_or_bd Bd = refl
in_or_bd Out = refl

areas_of : (as' : List (List (List Spot))) (p : Point) → (list_any (λ a. is_in (area_status a p)) as' || list_any (λ a. is_bd (area_status a p)) as') ≡ (on_any (edges_of (rings_of as')) p || inside_any as' p)
areas_of [] p = refl
areas_of (a ∷ as') p =
    shuffle (is_in (area_status a p)) (list_any (λ b. is_in (area_status b p)) as') (is_bd (area_status a p)) (list_any (λ b. is_bd (area_status b p)) as')
    ∙ two (in_or_bd (area_status a p) ∙ area_of a p) (areas_of as' p)
    ∙ shuffle (on_any (edges_of a) p) (parity (edges_of a) p) (on_any (edges_of (rings_of as')) p) (inside_any as' p)
    ∙ ap (λ (b : Bool). b || (parity (edges_of a) p || inside_any as' p)) (sym (any-append (edges_of a) (edges_of (rings_of as')) p) ∙ ap (λ (es : List Edge). on_any es p) (sym (edges-append a (rings_of as'))))
  where
    shuffle : (a b c d : Bool) → ((a || b) || (c || d)) ≡ ((a || c) || (b || d))
    shuffle true b c d = refl
    shuffle false true true d = refl
    shuffle false true false d = refl
    shuffle false false true d = refl
    shuffle false false false d = refl

    two : {a b c d : Bool} → a ≡ c → b ≡ d → (a || b) ≡ (c || d)
    two {a} {b} {c} {d} e f = rw (e, f) refl

    any-append : (es fs : List Edge) (p : Point) → on_any (es ++ fs) p ≡ (on_any es p || on_any fs p)
    any-append es fs p = same_test (λ t. elim (any-split (λ e. on_edge e p) es fs t) [ inl l ↦ or_left (on_any es p) (on_any fs p) l | inr r ↦ or_right (on_any es p) (on_any fs p) r ])
        (λ t. elim (either_true (on_any es p) (on_any fs p) t) [ inl l ↦ any-left (λ e. on_edge e p) es fs l | inr r ↦ any-right (λ e. on_edge e p) es fs r ])

joined_left : (ls ms : List (List Spot)) → Joined (ls ++ ms) → Joined ls
joined_left [] ms j = tt
joined_left ([] ∷ ls) ms j = absurd j
joined_left ((s ∷ []) ∷ ls) ms j = absurd j
joined_left ((s ∷ t ∷ ss) ∷ ls) ms j = joined_left ls ms j

joined_right : (ls ms : List (List Spot)) → Joined (ls ++ ms) → Joined ms
joined_right [] ms j = j
joined_right ([] ∷ ls) ms j = absurd j
joined_right ((s ∷ []) ∷ ls) ms j = absurd j
joined_right ((s ∷ t ∷ ss) ∷ ls) ms j = joined_right ls ms j

pub has_status : (k : Parts) → Sound k → (p : Point) → has k p ≡ is_held (status k p)
has_status k s p =
    let jl : Joined k.lines = joined_left k.lines (rings_of k.areas) (joined_right (dots k.points) (k.lines ++ rings_of k.areas) s.joined) in
    ap (λ (b : Bool). b || inside_any k.areas p) bone_parts
    ∙ ap (λ (b : Bool). ((b || (on_any (edges_of k.lines) p || on_any (edges_of (rings_of k.areas)) p)) || inside_any k.areas p)) (same_test (on_dots k.points p) (dots_on k.points p))
    ∙ collect (list_any (λ t. is_at t p) k.points) (on_any (edges_of k.lines) p) (on_any (edges_of (rings_of k.areas)) p) (inside_any k.areas p)
    ∙ three refl (sym (lines_of k.lines p jl) ∙ sym (in_or_bd (lines_status k.lines p))) (sym (areas_of k.areas p))
    ∙ spread (list_any (λ t. is_at t p) k.points) (is_in (lines_status k.lines p)) (is_bd (lines_status k.lines p)) (list_any (λ a. is_in (area_status a p)) k.areas) (list_any (λ a. is_bd (area_status a p)) k.areas)
  where
    any-append : (es fs : List Edge) (p : Point) → on_any (es ++ fs) p ≡ (on_any es p || on_any fs p)
    any-append es fs p = same_test (λ t. elim (any-split (λ e. on_edge e p) es fs t) [ inl l ↦ or_left (on_any es p) (on_any fs p) l | inr r ↦ or_right (on_any es p) (on_any fs p) r ])
        (λ t. elim (either_true (on_any es p) (on_any fs p) t) [ inl l ↦ any-left (λ e. on_edge e p) es fs l | inr r ↦ any-right (λ e. on_edge e p) es fs r ])

    bone_parts : on_any (bones k) p ≡ (on_any (edges_of (dots k.points)) p || (on_any (edges_of k.lines) p || on_any (edges_of (rings_of k.areas)) p))
    bone_parts =
        ap (λ (es : List Edge). on_any es p) (edges-append (dots k.points) (k.lines ++ rings_of k.areas))
        ∙ any-append (edges_of (dots k.points)) (edges_of (k.lines ++ rings_of k.areas)) p
        ∙ ap (λ (b : Bool). on_any (edges_of (dots k.points)) p || b)
        (ap (λ (es : List Edge). on_any es p) (edges-append k.lines (rings_of k.areas)) ∙ any-append (edges_of k.lines) (edges_of (rings_of k.areas)) p)

    collect : (a b c d : Bool) → ((a || (b || c)) || d) ≡ (a || (b || (c || d)))
    collect true b c d = refl
    collect false true c d = refl
    collect false false c d = refl

    three : {a b c d e f : Bool} → a ≡ d → b ≡ e → c ≡ f → (a || (b || c)) ≡ (d || (e || f))
    three {a} {b} {c} {d} {e} {f} g h i = rw (g, h, i) refl

    spread : (a b c d e : Bool) → (a || ((b || c) || (d || e))) ≡ is_held (cond (a || b || d) In (cond (c || e) Bd Out))
    spread true true c d e = refl
    spread true false c d e = refl
    spread false true c d e = refl
    spread false false c true e = by_c c e
      where
        by_c : (c e : Bool) → (c || (true || e)) ≡ true
        by_c true e = refl
        by_c false e = refl
    spread false false true false e = refl
    spread false false false false true = refl
    spread false false false false false = refl
