-- Views in the list of all of them: one that is replaced, and one that is added.
use Rattle.std.proofs.Common.{◌≡◌, ◌≢◌, ℕ, zero, suc, ◌<◌, Bool, true, false, ◌⊎◌, List, [], ◌∷◌, ◌++◌, length, set, eqb, Some, refl, sym, ap, ◌∙◌, subst, inl, inr, ⊎_elim, arith}
use Rattle.std.proofs.lemmas.Bool.{eqb-true, eqb-false}
use mathlib.Core.Option.{some, some-injective, some-ne-none}
use lib.ListN.{get_elem?}
use Rattle.atomic_table.proofs.Lists.{at_set, at_longer, set_here, set_else}
use Rattle.sg_modes.specs.Sessions.{IsSession}
use Rattle.sg_history.specs.Views.{Pen, Known, IsThere, Holds}

pub within : (l : List Known) (i : ℕ) (v : Known) → get_elem? l i ≡ some v → i < length l
within [] i v e = absurd (some-ne-none v (sym e))
within (x ∷ xs) zero v e = omega arith
within (x ∷ xs) (suc i) v e = let r = within xs i v e in omega arith

-- the last one of a list that has one more
pub at_end : (l : List Known) (a b : Known) (j : ℕ) → get_elem? (l ++ a ∷ []) j ≡ some b → (get_elem? l j ≡ some b) ⊎ ((j ≡ length l) × (a ≡ b))
at_end [] a b zero e = inr (refl, some-injective a b e)
at_end [] a b (suc j) e = absurd (some-ne-none b (sym e))
at_end (x ∷ xs) a b zero e = inl e
at_end (x ∷ xs) a b (suc j) e = ⊎_elim (λ q. inl q) (λ q. inr (ap suc q.0, q.1)) (at_end xs a b j e)

pub same_view : (l : List Known) (i : ℕ) (u v : Known) → IsThere l i u → IsThere l i v → u ≡ v
same_view l i u v p q = some-injective u v (sym p.0 ∙ q.0)

-- ---- what holds of each view
pub each_set : (F : ℕ → Known → Type 0) (views : List Known) (id : ℕ) (w : Known) → ((j : ℕ) (u : Known) → j ≢ id → IsThere views j u → F j u) → (w.spent ≡ false → F id w) → (j : ℕ) (u : Known) → IsThere (set views id w) j u → F j u
each_set F views id w others mine j u h =
    ⊎_elim
    (λ (x : (j ≡ id) × (w ≡ u)). subst (λ (y : ℕ × Known). F y.0 y.1) (λ i. (sym x.0 i, x.1 i)) (mine (ap (λ (v : Known). v.spent) x.1 ∙ h.1)))
    (λ (x : (j ≢ id) × (get_elem? views j ≡ some u)). others j u x.0 (x.1, h.1))
    (at_set views id j w u h.0)

pub each_more : (F : ℕ → Known → Type 0) (views : List Known) (w : Known) → ((j : ℕ) (u : Known) → IsThere views j u → F j u) → (w.spent ≡ false → F (length views) w) → (j : ℕ) (u : Known) → IsThere (views ++ w ∷ []) j u → F j u
each_more F views w others mine j u h =
    ⊎_elim
    (λ (x : get_elem? views j ≡ some u). others j u (x, h.1))
    (λ (x : (j ≡ length views) × (w ≡ u)). subst (λ (y : ℕ × Known). F y.0 y.1) (λ i. (sym x.0 i, x.1 i)) (mine (ap (λ (v : Known). v.spent) x.1 ∙ h.1)))
    (at_end views w u j h.0)

-- ---- one that is there still is, or another of its session
abbrev pub Covers : List Known → List Known → Type 0
Covers old new = (i : ℕ) (u : Known) → IsThere old i u → u.session ≢ 0 → (j : ℕ) × ((v : Known) × IsThere new j v × (v.session ≡ u.session))

pub covers_set : (views : List Known) (id : ℕ) (v w : Known) → IsThere views id v → w.spent ≡ false → w.session ≡ v.session → Covers views (set views id w)
covers_set views id v w at live same i u h n = go (eqb i id) refl
  where
    go : (b : Bool) → eqb i id ≡ b → (j : ℕ) × ((x : Known) × IsThere (set views id w) j x × (x.session ≡ u.session))
    go true q =
        let e : i ≡ id = eqb-true i id q in
        let is : u ≡ v = same_view views id u v (ap (get_elem? views) (sym e) ∙ h.0, h.1) at in
        (id, (w, (set_here views id w (within views id v at.0), live), same ∙ ap (λ (x : Known). x.session) (sym is)))
    go false q = (i, (u, (set_else views id i w (eqb-false i id q) ∙ h.0, h.1), refl))

-- one of no session may be given up
pub covers_spent : (views : List Known) (id : ℕ) (v w : Known) → IsThere views id v → v.session ≡ 0 → Covers views (set views id w)
covers_spent views id v w at none i u h n = go (eqb i id) refl
  where
    go : (b : Bool) → eqb i id ≡ b → (j : ℕ) × ((x : Known) × IsThere (set views id w) j x × (x.session ≡ u.session))
    go true q =
        let e : i ≡ id = eqb-true i id q in
        let is : u ≡ v = same_view views id u v (ap (get_elem? views) (sym e) ∙ h.0, h.1) at in
        absurd (n (ap (λ (x : Known). x.session) is ∙ none))
    go false q = (i, (u, (set_else views id i w (eqb-false i id q) ∙ h.0, h.1), refl))

pub covers_more : (views : List Known) (w : Known) → Covers views (views ++ w ∷ [])
covers_more views w i u h n = (i, (u, (at_longer views (w ∷ []) i u h.0, h.1), refl))

pub covers_through : (xs ys zs : List Known) → Covers xs ys → Covers ys zs → Covers xs zs
covers_through xs ys zs p q i u h n =
    let a = p i u h n in
    let b = q a.0 a.1.0 a.1.1 (λ e. n (sym a.1.2 ∙ e)) in
    (b.0, (b.1.0, b.1.1, b.1.2 ∙ a.1.2))

some_session : (s : ℕ) → IsSession s → s ≢ 0
some_session s h e = let k = h.0 in omega (arith, e)

-- no view is of this session
abbrev pub Unseated : List Known → ℕ → Type 0
Unseated views s = (i : ℕ) (v : Known) → IsThere views i v → v.session ≢ s

pub unseated_before : (old new : List Known) → Covers old new → (s : ℕ) → IsSession s → Unseated new s → Unseated old s
unseated_before old new c s is none i v h e =
    let d = c i v h (λ z. some_session s is (sym e ∙ z)) in
    none d.0 d.1.0 d.1.1 (d.1.2 ∙ e)

-- ---- who has the pen
pub holds_set : (views : List Known) (at : ℕ) (p : Pen) (id : ℕ) (v w : Known) → Holds views at p → IsThere views id v → w.spent ≡ false → w.pen ≡ v.pen → Holds (set views id w) at p
holds_set views at p id v w h there live same = go (eqb at id) refl
  where
    go : (b : Bool) → eqb at id ≡ b → Holds (set views id w) at p
    go true q =
        let e : at ≡ id = eqb-true at id q in
        let is : h.view ≡ v = same_view views id h.view v (ap (get_elem? views) (sym e) ∙ h.there.0, h.there.1) there in
        record {
          view = w;
          there = (ap (get_elem? (set views id w)) e ∙ set_here views id w (within views id v there.0), live);
          has = same ∙ (ap (λ (x : Known). x.pen) (sym is) ∙ h.has);
        }
    go false q = record { view = h.view; there = (set_else views id at w (eqb-false at id q) ∙ h.there.0, h.there.1); has = h.has }

pub holds_more : (views : List Known) (at : ℕ) (p : Pen) (w : Known) → Holds views at p → Holds (views ++ w ∷ []) at p
holds_more views at p w h = record { view = h.view; there = (at_longer views (w ∷ []) at h.view h.there.0, h.there.1); has = h.has }

-- the view that is put in place of another has it now
pub holds_here : (views : List Known) (id : ℕ) (v w : Known) (p : Pen) → IsThere views id v → w.spent ≡ false → w.pen ≡ Some p → Holds (set views id w) id p
holds_here views id v w p at live has = record { view = w; there = (set_here views id w (within views id v at.0), live); has = has }
