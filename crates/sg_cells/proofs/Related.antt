-- A cell's id is in a range exactly where the cell is a query's, or an ancestor or descendant of one.
use Rattle.std.proofs.Common.{ℕ, zero, suc, ◌≡◌, ◌<◌, arith, refl, sym, ap, ◌∙◌, subst, Bool, true, false, not, cond, eqb, leb, List, [], ◌∷◌, ◌++◌, map, inl, inr, ◌⊎◌}
use mathlib.Core.Bool.{◌&&◌, ◌||◌}
use Rattle.std.proofs.lemmas.Bool.{eqb-true, eq-eqb, leb-true, le-leb, or_cases, or_left, or_right}
use Rattle.sg_algebra.proofs.Comparisons.{left_true, right_true, both, same_test}
use Rattle.sg_cells.proofs.Ids.{contains_interval, id_injective}
use Rattle.sg_cells.specs.Cells.{Cell, IsCode, begins, contains, id_of, last_of}
use Rattle.sg_cells.specs.Ranges.{ancestors, is_ancestor, fresh, alone, ranges_after, ranges, in_pairs, related, related_any}
use Rattle.sg_cells.specs.Laws.{Has, IsDeep, AllCodes}

clash : (b : Bool) → b ≡ true → b ≡ false → ⊥
clash b u v = cc

pub begins_self : (c : Cell) → begins c c ≡ true
begins_self [] = refl
begins_self (d ∷ ds) = both (eqb d d) (begins ds ds) (eq-eqb d d refl) (begins_self ds)

pub begins_trans : (a b c : Cell) → begins a b ≡ true → begins b c ≡ true → begins a c ≡ true
begins_trans [] b c p q = refl
begins_trans (d ∷ ds) [] c p q = absurd (cc)
begins_trans (d ∷ ds) (e ∷ es) [] p q = absurd (cc)
begins_trans (d ∷ ds) (e ∷ es) (f ∷ fs) p q =
    let x = eqb-true d e (left_true (eqb d e) (begins ds es) p) in
    let y = eqb-true e f (left_true (eqb e f) (begins es fs) q) in
    both (eqb d f) (begins ds fs) (eq-eqb d f (x ∙ y)) (begins_trans ds es fs (right_true (eqb d e) (begins ds es) p) (right_true (eqb e f) (begins es fs) q))

pub contains_self : (c : Cell) → contains c c ≡ true
contains_self [] = refl
contains_self (d ∷ ds) = begins_self (d ∷ ds)

pub contains_trans : (a b c : Cell) → contains a b ≡ true → contains b c ≡ true → contains a c ≡ true
contains_trans [] [] c p q = q
contains_trans [] (e ∷ es) c p q = absurd (cc)
contains_trans (d ∷ ds) [] c p q = absurd (cc)
contains_trans (d ∷ ds) (e ∷ es) c p q = begins_trans (d ∷ ds) (e ∷ es) c p q

-- ---- ancestors
has_map : (d : ℕ) (c : Cell) (cs : List Cell) → Has cs c → Has (map (λ a. d ∷ a) cs) (d ∷ c)
has_map d c [] h = h
has_map d c (x ∷ xs) (inl e) = inl (ap (λ a. d ∷ a) e)
has_map d c (x ∷ xs) (inr h) = inr (has_map d c xs h)

-- a cell strictly above another is one of its ancestors
above_has : (c q : Cell) → IsDeep c → begins c q ≡ true → begins q c ≡ false → Has (ancestors q) c
above_has [] q h b n = absurd h
above_has (d ∷ ds) [] h b n = absurd (cc)
above_has (d ∷ []) (e ∷ []) h b n =
    let s = eqb-true d e (left_true (eqb d e) true b) in
    let t : (eqb e d && true) ≡ true = both (eqb e d) true (eq-eqb e d (sym s)) refl in
    absurd (clash _ t n)
above_has (d ∷ f ∷ fs) (e ∷ []) h b n = let z : false ≡ true = right_true (eqb d e) false b in absurd (cc)
above_has (d ∷ []) (e ∷ f ∷ fs) h b n = let s = eqb-true d e (left_true (eqb d e) true b) in inl (ap (λ x. x ∷ []) (sym s))
above_has (d ∷ g ∷ gs) (e ∷ f ∷ fs) h b n =
    let s = eqb-true d e (left_true (eqb d e) _ b) in
    let r = right_true (eqb d e) (begins (g ∷ gs) (f ∷ fs)) b in
    let m : begins (f ∷ fs) (g ∷ gs) ≡ false = rw (eq-eqb e d (sym s)) at n in
    inr (subst (λ x. Has (map (λ a. e ∷ a) (ancestors (f ∷ fs))) (x ∷ g ∷ gs)) (sym s) (has_map e (g ∷ gs) (ancestors (f ∷ fs)) (above_has (g ∷ gs) (f ∷ fs) tt r m)))

-- what holds of a cell's ancestors
pub record Above (n : ℕ) (a q : Cell) : Type 0 where
  pub is_deep : IsDeep a
  pub begins_it : begins a q ≡ true
  pub code : IsCode n a

above_map : (n d : ℕ) (q a : Cell) (as' : List Cell) → d < 256 → ((b : Cell) → Has as' b → Above n b q) → Has (map (λ a. d ∷ a) as') a → Above (suc n) a (d ∷ q)
above_map n d q a [] h f m = absurd m
above_map n d q a (x ∷ xs) h f (inl e) =
    let u = f x (inl refl) in
    subst (λ a. Above (suc n) a (d ∷ q)) e (record { is_deep = tt; begins_it = both (eqb d d) (begins x q) (eq-eqb d d refl) u.begins_it; code = (h, u.code) })
above_map n d q a (x ∷ xs) h f (inr m) = above_map n d q a xs h (λ b w. f b (inr w)) m

pub has_above : (n : ℕ) (q a : Cell) → IsCode n q → Has (ancestors q) a → Above n a q
has_above n [] a k h = absurd h
has_above n (d ∷ []) a k h = absurd h
has_above zero (d ∷ e ∷ es) a k h = absurd k
has_above (suc n) (d ∷ e ∷ es) a k (inl r) = subst (λ a. Above (suc n) a (d ∷ e ∷ es)) r (record { is_deep = tt; begins_it = both (eqb d d) true (eq-eqb d d refl) refl; code = (k.0, tt) })
has_above (suc n) (d ∷ e ∷ es) a k (inr h) = above_map n d (e ∷ es) a (ancestors (e ∷ es)) k.0 (λ b w. has_above n (e ∷ es) b k.1 w) h

pub above_contains : (n : ℕ) (a q : Cell) → Above n a q → contains a q ≡ true
above_contains n [] q u = absurd u.is_deep
above_contains n (d ∷ ds) q u = u.begins_it

pub is_ancestor_has : (c q : Cell) → is_ancestor c q ≡ true → Has (ancestors q) c
is_ancestor_has [] [] e = absurd (cc)
is_ancestor_has [] (f ∷ fs) e = absurd (cc)
is_ancestor_has (d ∷ ds) [] e = absurd (cc)
is_ancestor_has (d ∷ ds) (f ∷ fs) e =
    above_has (d ∷ ds) (f ∷ fs) tt (left_true (begins (d ∷ ds) (f ∷ fs)) _ e) (flip (begins (f ∷ fs) (d ∷ ds)) (right_true (begins (d ∷ ds) (f ∷ fs)) _ e))
  where
    flip : (b : Bool) → not b ≡ true → b ≡ false
    flip true e = cc
    flip false e = refl

-- ---- pairs
in_pairs-append : (xs ys : List (ℕ × ℕ)) (c : ℕ) → in_pairs (xs ++ ys) c ≡ (in_pairs xs c || in_pairs ys c)
in_pairs-append [] ys c = refl
in_pairs-append (x ∷ xs) ys c = go (leb x.0 c && leb c x.1) (in_pairs-append xs ys c)
  where
    go : (b : Bool) → in_pairs (xs ++ ys) c ≡ (in_pairs xs c || in_pairs ys c) → (b || in_pairs (xs ++ ys) c) ≡ ((b || in_pairs xs c) || in_pairs ys c)
    go true e = refl
    go false e = e

alone_in : (n : ℕ) (a : Cell) (as' : List Cell) → Has as' a → in_pairs (alone n as') (id_of n a) ≡ true
alone_in n a [] h = absurd h
alone_in n a (x ∷ xs) (inl e) =
    let z = ap (id_of n) e in
    or_left (leb (id_of n x) (id_of n a) && leb (id_of n a) (id_of n x)) _ (both _ _ (le-leb (id_of n x) (id_of n a) (omega arith)) (le-leb (id_of n a) (id_of n x) (omega arith)))
alone_in n a (x ∷ xs) (inr h) = or_right (leb (id_of n x) (id_of n a) && leb (id_of n a) (id_of n x)) _ (alone_in n a xs h)

-- a cell whose id is among those of a list of cells is one of them
in_alone : (n : ℕ) (c : Cell) (as' : List Cell) → n < 256 → IsCode n c → ((a : Cell) → Has as' a → IsCode n a) → in_pairs (alone n as') (id_of n c) ≡ true → Has as' c
in_alone n c [] h k f e = absurd (cc)
in_alone n c (x ∷ xs) h k f e =
    elim (or_cases (leb (id_of n x) (id_of n c) && leb (id_of n c) (id_of n x)) _ e) [
      | inl u ↦
          let a = leb-true (id_of n x) (id_of n c) (left_true _ _ u) in
          let b = leb-true (id_of n c) (id_of n x) (right_true _ _ u) in
          inl (id_injective n x c h (f x (inl refl)) k (omega arith))
      | inr u ↦ inr (in_alone n c xs h k (λ a w. f a (inr w)) u)
    ]

pub fresh_has : (p a : Cell) (as' : List Cell) → Has as' a → is_ancestor a p ≡ false → Has (fresh p as') a
fresh_has p a [] h n = absurd h
fresh_has p a (x ∷ xs) h n = go (λ w. fresh_has p a xs w n) (is_ancestor x p) refl h
  where
    go : (Has xs a → Has (fresh p xs) a) → (b : Bool) → is_ancestor x p ≡ b → Has (x ∷ xs) a → Has (cond b (fresh p xs) (x ∷ fresh p xs)) a
    go ih true e (inl r) = absurd (clash (is_ancestor a p) (subst (λ x. is_ancestor x p ≡ true) r e) n)
    go ih true e (inr r) = ih r
    go ih false e (inl r) = inl r
    go ih false e (inr r) = inr (ih r)

pub has_fresh : (p a : Cell) (as' : List Cell) → Has (fresh p as') a → (Has as' a) × (is_ancestor a p ≡ false)
has_fresh p a [] h = absurd h
has_fresh p a (x ∷ xs) h = go (has_fresh p a xs) (is_ancestor x p) refl h
  where
    go : (Has (fresh p xs) a → (Has xs a) × (is_ancestor a p ≡ false)) → (b : Bool) → is_ancestor x p ≡ b → Has (cond b (fresh p xs) (x ∷ fresh p xs)) a → (Has (x ∷ xs) a) × (is_ancestor a p ≡ false)
    go ih true e h = let r = ih h in (inr r.0, r.1)
    go ih false e (inl r) = (inl r, subst (λ x. is_ancestor x p ≡ false) r e)
    go ih false e (inr h) = let r = ih h in (inr r.0, r.1)

abbrev pair_test : ℕ → Cell → Cell → Bool
pair_test n q c = leb (id_of n q) (id_of n c) && leb (id_of n c) (last_of n q)

-- in a range, so related
in_related : (n : ℕ) (p c : Cell) (qs : List Cell) → n < 256 → IsCode n c → AllCodes n qs → in_pairs (ranges_after n p qs) (id_of n c) ≡ true → related_any c qs ≡ true
in_related n p c [] h k a e = absurd (cc)
in_related n p c (q ∷ qs) h k a e =
    go (λ u. in_related n q c qs h k a.1 u) (or_cases (in_pairs (alone n (fresh p (ancestors q))) (id_of n c)) (in_pairs ((id_of n q, last_of n q) ∷ ranges_after n q qs) (id_of n c)) (sym (in_pairs-append (alone n (fresh p (ancestors q))) ((id_of n q, last_of n q) ∷ ranges_after n q qs) (id_of n c)) ∙ e))
  where
    code_at : (b : Cell) → Has (fresh p (ancestors q)) b → IsCode n b
    code_at b w = let u = has_above n q b a.0 (has_fresh p b (ancestors q) w).0 in u.code

    here : related c q ≡ true → (related c q || related_any c qs) ≡ true
    here u = or_left (related c q) (related_any c qs) u

    next : (in_pairs (ranges_after n q qs) (id_of n c) ≡ true → related_any c qs ≡ true) → (pair_test n q c ≡ true) ⊎ (in_pairs (ranges_after n q qs) (id_of n c) ≡ true) → (related c q || related_any c qs) ≡ true
    next ih (inl u) = here (or_right (contains c q) (contains q c) (contains_interval n q c h a.0 k ∙ u))
    next ih (inr u) = or_right (related c q) (related_any c qs) (ih u)

    go : (in_pairs (ranges_after n q qs) (id_of n c) ≡ true → related_any c qs ≡ true)
        → (in_pairs (alone n (fresh p (ancestors q))) (id_of n c) ≡ true) ⊎ (in_pairs ((id_of n q, last_of n q) ∷ ranges_after n q qs) (id_of n c) ≡ true)
        → (related c q || related_any c qs) ≡ true
    go ih (inl u) =
        let w = in_alone n c (fresh p (ancestors q)) h k code_at u in
        let v = has_above n q c a.0 (has_fresh p c (ancestors q) w).0 in
        here (or_left (contains c q) (contains q c) (above_contains n c q v))
    go ih (inr u) = next ih (or_cases (pair_test n q c) (in_pairs (ranges_after n q qs) (id_of n c)) u)

-- related, so in a range, or above the cell before
related_in : (n : ℕ) (p c : Cell) (qs : List Cell) → n < 256 → IsCode n c → AllCodes n qs → related_any c qs ≡ true → (in_pairs (ranges_after n p qs) (id_of n c) ≡ true) ⊎ (is_ancestor c p ≡ true)
related_in n p c [] h k a e = absurd (cc)
related_in n p c (q ∷ qs) h k a e = go (λ u. related_in n q c qs h k a.1 u) (or_cases (related c q) (related_any c qs) e)
  where
    front : List (ℕ × ℕ)
    front = alone n (fresh p (ancestors q))

    rest : List (ℕ × ℕ)
    rest = (id_of n q, last_of n q) ∷ ranges_after n q qs

    Goal : Type 0
    Goal = (in_pairs (front ++ rest) (id_of n c) ≡ true) ⊎ (is_ancestor c p ≡ true)

    in_front : in_pairs front (id_of n c) ≡ true → Goal
    in_front u = inl (in_pairs-append front rest (id_of n c) ∙ or_left (in_pairs front (id_of n c)) _ u)

    in_rest : in_pairs rest (id_of n c) ≡ true → Goal
    in_rest u = inl (in_pairs-append front rest (id_of n c) ∙ or_right (in_pairs front (id_of n c)) _ u)

    over : is_ancestor c q ≡ true → Goal
    over u = pick (is_ancestor c p) refl
      where
        pick : (b : Bool) → is_ancestor c p ≡ b → Goal
        pick true e = inr e
        pick false e = in_front (alone_in n c (fresh p (ancestors q)) (fresh_has p c (ancestors q) (is_ancestor_has c q u) e))

    within : contains q c ≡ true → Goal
    within u = in_rest (or_left (pair_test n q c) _ (sym (contains_interval n q c h a.0 k) ∙ u))

    near : (b : Bool) → contains q c ≡ b → contains c q ≡ true → Goal
    near true e u = within e
    near false e u = over (both (contains c q) (not (contains q c)) u (rw e refl))

    go : (related_any c qs ≡ true → (in_pairs (ranges_after n q qs) (id_of n c) ≡ true) ⊎ (is_ancestor c q ≡ true)) → (related c q ≡ true) ⊎ (related_any c qs ≡ true) → Goal
    go ih (inl u) = elim (or_cases (contains c q) (contains q c) u) [ inl v ↦ near (contains q c) refl v | inr v ↦ within v ]
    go ih (inr u) = elim (ih u) [ inl v ↦ in_rest (or_right (pair_test n q c) _ v) | inr v ↦ over v ]

pub above_none : (c : Cell) → is_ancestor c [] ≡ false
above_none [] = refl
above_none (d ∷ ds) = refl

pub ranges_related : (n : ℕ) (c : Cell) (qs : List Cell) → n < 256 → IsCode n c → AllCodes n qs → in_pairs (ranges n qs) (id_of n c) ≡ related_any c qs
ranges_related n c qs h k a =
    same_test {s = in_pairs (ranges n qs) (id_of n c)} {t = related_any c qs}
    (in_related n [] c qs h k a)
    (λ e. elim (related_in n [] c qs h k a e) [ inl u ↦ u | inr u ↦ absurd (clash (is_ancestor c []) u (above_none c)) ])
