-- The rows that are left to be tested, as they are gathered.
use Rattle.std.specs.Prelude.{IsSome, not}
use Rattle.std.proofs.Common.{◌≡◌, ◌≢◌, ℕ, zero, suc, ◌+◌, ◌≤◌, ◌<◌, ◌==◌, Bool, true, false, cond, ◌&&◌, ◌||◌, List, [], ◌∷◌, ◌++◌, length, take, get_or, Option, Some, None, arith, inl, inr, refl, sym, ap, ap₂, ◌∙◌, subst}
use Rattle.std.proofs.lemmas.Bool.{cases_eq, cond_both, eq-eqb, ne_eqb}
use Rattle.std.proofs.lemmas.List.{take_more}
use Rattle.sg_shape.specs.declared.shapes.Shape.{Shape}
use Rattle.sg_plain.specs.Keys.{RisesFrom, IsRising}
use Rattle.sg_plain.specs.Rows.{Rows, AreRows, keys_of, shape_at}
use Rattle.sg_plain.proofs.Lookups.{shape_at-append_absent, shape_at-append_present, shape_at-same, shape_at-other, held_at_least}
use Rattle.sg_plain.proofs.KeyLemmas.{Has, greater_later}
use Rattle.sg_trace.specs.Pending.{has_key, is_pending, ArePending, IsAboveAll, added, offered}

-- ---- keys in lists
or_rest : (x y : Bool) → x ≡ false → (x || y) ≡ true → y ≡ true
or_rest true y e h = absurd (cc)
or_rest false y e h = h

or_assoc : (a b c : Bool) → (a || (b || c)) ≡ ((a || b) || c)
or_assoc true b c = refl
or_assoc false b c = refl

or_false : (b : Bool) → (b || false) ≡ b
or_false true = refl
or_false false = refl

and_false : (b : Bool) → (b && false) ≡ false
and_false true = refl
and_false false = refl

pub Has-from_test : (xs : List ℕ) (k : ℕ) → has_key xs k ≡ true → Has xs k
Has-from_test [] k e = absurd (cc)
Has-from_test (x ∷ xs) k e = elim (cases_eq x k) [
  | inl same ↦ inl same
  | inr other ↦ inr (Has-from_test xs k (or_rest (x == k) (has_key xs k) (ne_eqb x k other) e))
]

has_key-push : (xs : List ℕ) (x k : ℕ) → has_key (xs ++ x ∷ []) k ≡ (has_key xs k || (x == k))
has_key-push [] x k = or_false (x == k)
has_key-push (y ∷ xs) x k = ap (λ (b : Bool). (y == k) || b) (has_key-push xs x k) ∙ or_assoc (y == k) (has_key xs k) (x == k)

-- the keys up to the next one
has_key-next : (xs : List ℕ) (i key k : ℕ) → i < length xs → key ≡ get_or xs i 0 → has_key (take (i + 1) xs) k ≡ (has_key (take i xs) k || (key == k))
has_key-next xs i key k within e =
    ap (λ (ys : List ℕ). has_key ys k) (take_more xs i 0 within ∙ ap (λ (x : ℕ). take i xs ++ x ∷ []) (sym e)) ∙ has_key-push (take i xs) key k

has_key-itself : (xs : List ℕ) (i key : ℕ) → i < length xs → key ≡ get_or xs i 0 → has_key (take (i + 1) xs) key ≡ true
has_key-itself xs i key within e =
    has_key-next xs i key key within e ∙ (ap (λ (b : Bool). has_key (take i xs) key || b) (eq-eqb key key refl) ∙ or_true (has_key (take i xs) key))
  where
    or_true : (b : Bool) → (b || true) ≡ true
    or_true true = refl
    or_true false = refl

has_key-other : (xs : List ℕ) (i key k : ℕ) → i < length xs → key ≡ get_or xs i 0 → key ≢ k → has_key (take (i + 1) xs) k ≡ has_key (take i xs) k
has_key-other xs i key k within e other =
    has_key-next xs i key k within e ∙ (ap (λ (b : Bool). has_key (take i xs) k || b) (ne_eqb key k other) ∙ or_false (has_key (take i xs) k))

nothing : IsSome {T = Shape} None → ⊥
nothing e = cc

-- ---- a row added at the end
shape_at-added_other : (o : Option Shape) (key : ℕ) (items : Rows) (k : ℕ) → key ≢ k → shape_at (added o key items) k ≡ shape_at items k
shape_at-added_other None key items k other = refl
shape_at-added_other (Some s) key items k other = by_look (shape_at items k) refl
  where
    by_look : (o : Option Shape) → shape_at items k ≡ o → shape_at (items ++ (key, s) ∷ []) k ≡ shape_at items k
    by_look None e = shape_at-append_absent items ((key, s) ∷ []) k e ∙ (shape_at-other (key, s) [] k other ∙ sym e)
    by_look (Some t) e = shape_at-append_present items ((key, s) ∷ []) k t e ∙ sym e

-- no row stands at a key above all
absent : (key : ℕ) (items : Rows) → IsAboveAll items key → shape_at items key ≡ None
absent key items above = by_look (shape_at items key) refl
  where
    by_look : (o : Option Shape) → shape_at items key ≡ o → shape_at items key ≡ None
    by_look None e = e
    by_look (Some t) e = absurd (let lt : key < key = above key (subst IsSome (sym e) refl) in omega arith)

shape_at-added_same : (o : Option Shape) (key : ℕ) (items : Rows) → IsAboveAll items key → shape_at (added o key items) key ≡ o
shape_at-added_same None key items above = absent key items above
shape_at-added_same (Some s) key items above =
    shape_at-append_absent items ((key, s) ∷ []) key (absent key items above) ∙ shape_at-same (key, s) [] key refl

-- ---- steps through the keys that were found
pending_at : Rows → List ℕ → List ℕ → ℕ → Option Shape
pending_at seen found sure k = cond (is_pending found sure k) (shape_at seen k) None

same_test : (seen : Rows) (k : ℕ) (b c : Bool) → b ≡ c → cond b (shape_at seen k) None ≡ cond c (shape_at seen k) None
same_test seen k b c e = ap (λ (t : Bool). cond t (shape_at seen k) None) e

pub pending_step : (seen : Rows) (found sure : List ℕ) (items : Rows) (i key : ℕ) → i < length found → key ≡ get_or found i 0 → has_key sure key ≡ false →
    IsAboveAll items key → ArePending seen (take i found) sure items → ArePending seen (take (i + 1) found) sure (added (shape_at seen key) key items)
pending_step seen found sure items i key within e unsure above h k = elim (cases_eq key k) [
  | inl same ↦ subst (λ (j : ℕ). shape_at (added (shape_at seen key) key items) j ≡ cond (is_pending (take (i + 1) found) sure j) (shape_at seen j) None) same
      (shape_at-added_same (shape_at seen key) key items above
      ∙ sym (same_test seen key (is_pending (take (i + 1) found) sure key) true
      (ap₂ (λ (a b : Bool). a && not b) (has_key-itself found i key within e) unsure)))
  | inr other ↦ shape_at-added_other (shape_at seen key) key items k other
      ∙ (h k ∙ same_test seen k (is_pending (take i found) sure k) (is_pending (take (i + 1) found) sure k)
      (ap (λ (a : Bool). a && not (has_key sure k)) (sym (has_key-other found i key k within e other))))
]

pub pending_skip : (seen : Rows) (found sure : List ℕ) (items : Rows) (i key : ℕ) → i < length found → key ≡ get_or found i 0 → has_key sure key ≡ true →
    ArePending seen (take i found) sure items → ArePending seen (take (i + 1) found) sure items
pending_skip seen found sure items i key within e known h k = h k ∙ same_test seen k (is_pending (take i found) sure k) (is_pending (take (i + 1) found) sure k) (elim (cases_eq key k) [
  | inl same ↦ subst (λ (j : ℕ). is_pending (take i found) sure j ≡ is_pending (take (i + 1) found) sure j) same
      (none (has_key (take i found) key) ∙ sym (none (has_key (take (i + 1) found) key)))
  | inr other ↦ ap (λ (a : Bool). a && not (has_key sure k)) (sym (has_key-other found i key k within e other))
])
  where
    none : (a : Bool) → (a && not (has_key sure key)) ≡ false
    none a = ap (λ (b : Bool). a && not b) known ∙ and_false a

-- the rows gathered so far have lesser keys than the next
pub pending_below : (seen : Rows) (found sure : List ℕ) (items : Rows) (i key : ℕ) → IsRising found → i < length found → key ≡ get_or found i 0 →
    ArePending seen (take i found) sure items → IsAboveAll items key
pending_below seen found sure items i key rising within e h k some = lesser i (Has-from_test (take i found) k (front (is_pending (take i found) sure k) refl))
  where
    front : (b : Bool) → is_pending (take i found) sure k ≡ b → has_key (take i found) k ≡ true
    front false f = absurd (nothing (subst IsSome (h k ∙ ap (λ (t : Bool). cond t (shape_at seen k) None) f) some))
    front true f = left (has_key (take i found) k) (not (has_key sure k)) f
      where
        left : (a b : Bool) → (a && b) ≡ true → a ≡ true
        left true b g = refl
        left false b g = g

    lesser : (j : ℕ) → Has (take i found) k → k < key
    lesser j has = let p = place (take i found) has in
        let lt = greater_later 0 found p.0 i rising (short found i p.0 p.1) within in
        let same : get_or found p.0 0 ≡ k = kept found i p.0 (short found i p.0 p.1) ∙ p.2 in omega (arith, e)
      where
        place : (xs : List ℕ) → Has xs k → (n : ℕ) × (n < length xs) × (get_or xs n 0 ≡ k)
        place [] none = absurd none
        place (x ∷ xs) (inl same) = (0, omega arith, same)
        place (x ∷ xs) (inr rest) = let p = place xs rest in (suc p.0, omega (arith, p.1), p.2)

        short : (xs : List ℕ) (i n : ℕ) → n < length (take i xs) → n < i
        short xs zero n lt = absurd (omega arith)
        short [] (suc i) n lt = absurd (omega arith)
        short (x ∷ xs) (suc i) zero lt = omega arith
        short (x ∷ xs) (suc i) (suc n) lt = let l = short xs i n (omega arith) in omega arith

        kept : (xs : List ℕ) (i n : ℕ) → n < i → get_or xs n 0 ≡ get_or (take i xs) n 0
        kept xs zero n lt = absurd (omega arith)
        kept [] (suc i) n lt = refl
        kept (x ∷ xs) (suc i) zero lt = refl
        kept (x ∷ xs) (suc i) (suc n) lt = kept xs i n (omega arith)

-- the next key is offered
pub pending_next : (seen : Rows) (found sure : List ℕ) (items : Rows) (i key : ℕ) → i < length found → key ≡ get_or found i 0 →
    IsAboveAll items key → ArePending seen (take i found) sure items → ArePending seen (take (i + 1) found) sure (offered (has_key sure key) (shape_at seen key) key items)
pending_next seen found sure items i key within e above h =
    cond_both (has_key sure key) items (added (shape_at seen key) key items) (λ (rows : Rows). ArePending seen (take (i + 1) found) sure rows)
    (λ known. pending_skip seen found sure items i key within e known h)
    (λ unsure. pending_step seen found sure items i key within e unsure above h)

-- a row above all goes last
goes_from : (low : ℕ) (rows : Rows) (key : ℕ) → RisesFrom low (keys_of rows) → low ≤ key → IsAboveAll rows key → RisesFrom low (keys_of rows ++ key ∷ [])
goes_from low [] key rising le above = (le, tt)
goes_from low (row ∷ rows) key rising le above =
    let lt : row.0 < key = above row.0 (subst IsSome (sym (shape_at-same row rows row.0 refl)) refl) in
    (rising.0, goes_from (row.0 + 1) rows key rising.1 (omega arith) (λ k some. above k (subst IsSome (sym (shape_at-other row rows k (later k some))) some)))
  where
    later : (k : ℕ) → IsSome (shape_at rows k) → row.0 ≢ k
    later k some = by_look (shape_at rows k) refl some
      where
        by_look : (o : Option Shape) → shape_at rows k ≡ o → IsSome o → row.0 ≢ k
        by_look None e none = absurd (nothing none)
        by_look (Some s) e some' = λ same. let le' = held_at_least (row.0 + 1) rows k s rising.1 e in omega arith

pub goes_last : (rows : Rows) (key : ℕ) → AreRows rows → IsAboveAll rows key → IsRising (keys_of rows ++ key ∷ [])
goes_last rows key are above = goes_from 0 rows key are.rising (omega arith) above
