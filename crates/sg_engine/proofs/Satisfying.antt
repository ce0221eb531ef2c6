-- The sure candidates of a query and those that pass its test are the rows that satisfy it.
use Rattle.std.specs.Prelude.{IsSomeAnd, filter, not, All, IfSome}
use Rattle.std.specs.Option.{option_copied}
use Rattle.std.proofs.Common.{◌≡◌, ◌≢◌, ℕ, ◌+◌, ◌≤◌, Bool, true, false, cond, ◌&&◌, ◌||◌, ◌⊎◌, List, [], ◌∷◌, length, Option, Some, None, arith, inl, inr, refl, sym, ap, ap₂, ◌∙◌, subst, subst₂, Bor}
use Rattle.std.proofs.lemmas.Bool.{cases_eq, cond_both, cond-true}
use Rattle.std.proofs.lemmas.List.Elements.{All-head, All-tail}
use Rattle.sg_shape.specs.declared.shapes.Shape.{Shape}
use Rattle.sg_shape.specs.Sound.{IsSound}
use Rattle.sg_cells.specs.declared.settings.Settings.{Settings}
use Rattle.sg_plain.specs.declared.statements.Query.{Query}
use Rattle.sg_plain.specs.declared.statements.Test.{Test}
use Rattle.sg_plain.specs.Keys.{RisesFrom, IsRising}
use Rattle.sg_plain.specs.Rows.{Rows, AreRows, IsKeysWith, keys_of, shape_at}
use Rattle.sg_plain.specs.Sat.{Sat, Satisfies, IsSoundQuery}
use Rattle.sg_plain.proofs.KeyLemmas.{Has, any_has, RisesFrom-lower, Has-from_Contains, Contains-from_Has}
use Rattle.sg_plain.proofs.Lookups.{shape_at-same, shape_at-other, held_at_least}
use Rattle.sg_trace.specs.Candidates.{touches, proves_in, is_proved}
use Rattle.sg_trace.specs.Laws.{AreSettings}
use Rattle.sg_trace.proofs.Found.{finds_each, sure_satisfy}
use Rattle.sg_scan.specs.declared.searches.Found.{Found}
use Rattle.sg_scan.specs.Scans.{IsFound}
use Rattle.sg_trace.specs.Pending.{has_key, is_pending, ArePending, chosen}
use Rattle.sg_engine.proofs.Gathered.{Has-from_test}

-- ---- keys of the rows whose shapes pass a test
module _ (test : Shape → Bool) where
  abbrev passing : Rows → List ℕ
  passing rows = keys_of (filter (λ row. test row.1) rows)

  -- the row at the key passes
  abbrev PassesAt : Rows → ℕ → Type 0
  PassesAt rows k = (s : Shape) × (shape_at rows k ≡ Some s) × (test s ≡ true)

  behind : (low : ℕ) (row : ℕ × Shape) (rows : Rows) (k : ℕ) → RisesFrom low (keys_of (row ∷ rows)) → PassesAt rows k → PassesAt (row ∷ rows) k
  behind low row rows k rising p =
      let le : row.0 + 1 ≤ k = held_at_least (row.0 + 1) rows k p.0 rising.1 p.1 in
      let other : row.0 ≢ k = λ same. omega arith in
      (p.0, shape_at-other row rows k other ∙ p.1, p.2)

  pub passing_holds : (low : ℕ) (rows : Rows) (k : ℕ) → RisesFrom low (keys_of rows) → Has (passing rows) k → PassesAt rows k
  passing_holds low [] k rising h = absurd h
  passing_holds low (row ∷ rows) k rising h = by_test (test row.1) refl (passing_holds (row.0 + 1) rows k rising.1) h
    where
      by_test : (b : Bool) → test row.1 ≡ b → (Has (passing rows) k → PassesAt rows k) → Has (keys_of (cond b (row ∷ filter (λ r. test r.1) rows) (filter (λ r. test r.1) rows))) k → PassesAt (row ∷ rows) k
      by_test true e rest (inl same) = (row.1, shape_at-same row rows k same, e)
      by_test true e rest (inr later) = behind low row rows k rising (rest later)
      by_test false e rest later = behind low row rows k rising (rest later)

  pub passing_has : (low : ℕ) (rows : Rows) (k : ℕ) → RisesFrom low (keys_of rows) → PassesAt rows k → Has (passing rows) k
  passing_has low [] k rising p = absurd (none (p.1))
    where
      none : None ≡ Some p.0 → ⊥
      none e = cc
  passing_has low (row ∷ rows) k rising p = elim (cases_eq row.0 k) [
    | inl same ↦ here (same_shape (sym (shape_at-same row rows k same) ∙ p.1)) same
    | inr other ↦ later (passing_has (row.0 + 1) rows k rising.1 (p.0, sym (shape_at-other row rows k other) ∙ p.1, p.2))
  ]
    where
      same_shape : Some row.1 ≡ Some p.0 → row.1 ≡ p.0
      same_shape e = cc

      here : row.1 ≡ p.0 → row.0 ≡ k → Has (passing (row ∷ rows)) k
      here e same = subst (λ (rs : Rows). Has (keys_of rs) k) (sym (cond-true (test row.1) (row ∷ filter (λ r. test r.1) rows) (filter (λ r. test r.1) rows) (ap test e ∙ p.2))) (inl same)

      later : Has (passing rows) k → Has (passing (row ∷ rows)) k
      later h = cond_both (test row.1) (row ∷ filter (λ r. test r.1) rows) (filter (λ r. test r.1) rows) (λ (rs : Rows). Has (keys_of rs) k) (λ _. inr h) (λ _. h)

-- ---- keys chosen
chosen_from : (low : ℕ) (sure passed found : List ℕ) → RisesFrom low found → RisesFrom low (chosen sure passed found)
chosen_from low sure passed [] rising = tt
chosen_from low sure passed (x ∷ xs) rising =
    cond_both (has_key sure x || has_key passed x) (x ∷ chosen sure passed xs) (chosen sure passed xs) (RisesFrom low)
    (λ _. (rising.0, chosen_from (x + 1) sure passed xs rising.1))
    (λ _. RisesFrom-lower low (x + 1) (chosen sure passed xs) (omega (arith, rising.0)) (chosen_from (x + 1) sure passed xs rising.1))

chosen_is : (sure passed found : List ℕ) (k : ℕ) → Has (chosen sure passed found) k → Has found k × ((has_key sure k || has_key passed k) ≡ true)
chosen_is sure passed [] k h = absurd h
chosen_is sure passed (x ∷ xs) k h = by_test (has_key sure x || has_key passed x) refl (chosen_is sure passed xs k) h
  where
    by_test : (b : Bool) → (has_key sure x || has_key passed x) ≡ b → (Has (chosen sure passed xs) k → Has xs k × ((has_key sure k || has_key passed k) ≡ true)) →
        Has (cond b (x ∷ chosen sure passed xs) (chosen sure passed xs)) k → Has (x ∷ xs) k × ((has_key sure k || has_key passed k) ≡ true)
    by_test true e rest (inl same) = (inl same, subst (λ (j : ℕ). (has_key sure j || has_key passed j) ≡ true) same e)
    by_test true e rest (inr later) = let p = rest later in (inr p.0, p.1)
    by_test false e rest later = let p = rest later in (inr p.0, p.1)

chosen_has : (sure passed found : List ℕ) (k : ℕ) → Has found k → (has_key sure k || has_key passed k) ≡ true → Has (chosen sure passed found) k
chosen_has sure passed [] k h e = absurd h
chosen_has sure passed (x ∷ xs) k (inl same) e =
    subst (λ (ks : List ℕ). Has ks k) (sym (cond-true (has_key sure x || has_key passed x) (x ∷ chosen sure passed xs) (chosen sure passed xs) (subst (λ (j : ℕ). (has_key sure j || has_key passed j) ≡ true) (sym same) e))) (inl same)
chosen_has sure passed (x ∷ xs) k (inr rest) e =
    cond_both (has_key sure x || has_key passed x) (x ∷ chosen sure passed xs) (chosen sure passed xs) (λ (ks : List ℕ). Has ks k)
    (λ _. inr (chosen_has sure passed xs k rest e)) (λ _. chosen_has sure passed xs k rest e)

-- ---- the answer of a query
found_sound : (rows : Rows) (k : ℕ) (s : Shape) → All (λ row. IsSound row.1) rows → shape_at rows k ≡ Some s → IsSound s
found_sound [] k s all e = absurd (cc)
found_sound (row ∷ rows) k s all e = elim (cases_eq row.0 k) [
  | inl same ↦ subst IsSound (inner (sym (shape_at-same row rows k same) ∙ e)) (All-head (λ r. IsSound r.1) row rows all)
  | inr other ↦ found_sound rows k s (All-tail (λ r. IsSound r.1) row rows all) (sym (shape_at-other row rows k other) ∙ e)
]
  where
    inner : Some row.1 ≡ Some s → row.1 ≡ s
    inner f = cc

sound_at : (rows : Rows) (k : ℕ) (s : Shape) → AreRows rows → shape_at rows k ≡ Some s → IsSound s
sound_at rows k s are e = found_sound rows k s are.sound e

either : (a b : Bool) → (a || b) ≡ true → (a ≡ true) ⊎ (b ≡ true)
either true b e = inl refl
either false b e = inr e

or_first : (a b : Bool) → a ≡ true → (a || b) ≡ true
or_first true b e = refl
or_first false b e = absurd (cc)

or_second : (a b : Bool) → b ≡ true → (a || b) ≡ true
or_second true b e = refl
or_second false b e = e

module _ (c : Settings) (q : Query) (seen : Rows) (found : Found) (items : Rows) (passed : List ℕ) (settings : AreSettings c) (sound : IsSoundQuery q) (are : AreRows seen)
    (is : IsFound c q seen found) (pending : ArePending seen found.candidates found.sure items) (keys : IsKeysWith (λ s. Sat q.test s q.shape) items passed) where
  abbrev answer : List ℕ
  answer = chosen found.sure passed found.candidates

  -- the row at a key satisfies the query
  abbrev SatisfiesAt : ℕ → Type 0
  SatisfiesAt k = IsSomeAnd (shape_at seen k) (Satisfies q)

  from_sure : (k : ℕ) → has_key found.sure k ≡ true → SatisfiesAt k
  from_sure k e =
      let p = passing_holds (is_proved c q) 0 seen k are.rising (subst (λ (ks : List ℕ). Has ks k) is.sure_are (Has-from_test found.sure k e)) in
      subst (λ (o : Option Shape). IsSomeAnd o (Satisfies q)) (sym p.1) (sure_satisfy c q p.0 settings sound (sound_at seen k p.0 are p.1) p.2)

  from_passed : (k : ℕ) → has_key passed k ≡ true → SatisfiesAt k
  from_passed k e = by_test (is_pending found.candidates found.sure k) refl
    where
      sat : IsSomeAnd (shape_at items k) (λ s. Sat q.test s q.shape)
      sat = (keys.each k).0 (Contains-from_Has passed k (Has-from_test passed k e))

      by_test : (b : Bool) → is_pending found.candidates found.sure k ≡ b → SatisfiesAt k
      by_test true f = subst (λ (o : Option Shape). IsSomeAnd o (Satisfies q)) (pending k ∙ ap (λ (b : Bool). cond b (shape_at seen k) None) f) sat
      by_test false f = absurd (subst (λ (o : Option Shape). IsSomeAnd o (Satisfies q)) (pending k ∙ ap (λ (b : Bool). cond b (shape_at seen k) None) f) sat)

  to_answer : (k : ℕ) (s : Shape) → shape_at seen k ≡ Some s → Satisfies q s → Has answer k
  to_answer k s e sat = chosen_has found.sure passed found.candidates k candidate (by_test (has_key found.sure k) refl)
    where
      candidate : Has found.candidates k
      candidate = subst (λ (ks : List ℕ). Has ks k) (sym is.candidates_are)
          (passing_has (touches c q) 0 seen k are.rising (s, e, finds_each c q s settings sound (sound_at seen k s are e) sat))

      left : has_key found.sure k ≡ false → shape_at items k ≡ Some s
      left f = pending k ∙ (ap (λ (b : Bool). cond b (shape_at seen k) None) (ap₂ (λ (a b : Bool). a && not b) (any_has found.candidates k candidate) f) ∙ e)

      by_test : (b : Bool) → has_key found.sure k ≡ b → (has_key found.sure k || has_key passed k) ≡ true
      by_test true f = or_first (has_key found.sure k) (has_key passed k) f
      by_test false f = or_second (has_key found.sure k) (has_key passed k)
          (any_has passed k (Has-from_Contains passed k ((keys.each k).1 (subst (λ (o : Option Shape). IsSomeAnd o (λ t. Sat q.test t q.shape)) (sym (left f)) sat))))

  pub satisfied : IsRising found.candidates → IsKeysWith (Satisfies q) seen answer
  satisfied rising = record {
    rising = chosen_from 0 found.sure passed found.candidates rising;
    each = λ k. (λ has. there k (chosen_is found.sure passed found.candidates k (Has-from_Contains answer k has)), λ at. Contains-from_Has answer k (back k (shape_at seen k) refl at));
  }
    where
      there : (k : ℕ) → Has found.candidates k × ((has_key found.sure k || has_key passed k) ≡ true) → SatisfiesAt k
      there k p = elim (either (has_key found.sure k) (has_key passed k) p.1) [ inl e ↦ from_sure k e | inr e ↦ from_passed k e ]

      back : (k : ℕ) (o : Option Shape) → shape_at seen k ≡ o → IsSomeAnd o (Satisfies q) → Has answer k
      back k None e none = absurd none
      back k (Some s) e sat = to_answer k s e sat

-- the test and the shape that a job has are those of the query
pub asked : (t u : Test) (k l : Shape) (items : Rows) (keys : List ℕ) → t ≡ u → k ≡ l → IsKeysWith (λ s. Sat t s k) items keys → IsKeysWith (λ s. Sat u s l) items keys
asked t u k l items keys e f h = subst₂ (λ (v : Test) (m : Shape). IsKeysWith (λ s. Sat v s m) items keys) e f h

-- a shape that is seen is sound
pub seen_sound : (r : Option (Bor Shape)) (rows : Rows) (k : ℕ) → AreRows rows → option_copied r ≡ shape_at rows k → IfSome r (λ s. IsSound s.now)
seen_sound None rows k are e = tt
seen_sound (Some s) rows k are e = sound_at rows k s.now are (sym e)

-- ---- counts
fewer : (a b : Shape → Bool) (rows : Rows) → length (keys_of (filter (λ row. a row.1 && b row.1) rows)) ≤ length (keys_of (filter (λ row. a row.1) rows))
fewer a b [] = omega arith
fewer a b (row ∷ rows) = by_tests (a row.1) (b row.1) (fewer a b rows)
  where
    by_tests : (x y : Bool) → length (keys_of (filter (λ row. a row.1 && b row.1) rows)) ≤ length (keys_of (filter (λ row. a row.1) rows)) →
        length (keys_of (cond (x && y) (row ∷ filter (λ row. a row.1 && b row.1) rows) (filter (λ row. a row.1 && b row.1) rows))) ≤ length (keys_of (cond x (row ∷ filter (λ row. a row.1) rows) (filter (λ row. a row.1) rows)))
    by_tests true true le = omega arith
    by_tests true false le = omega arith
    by_tests false y le = le

-- of the candidates no more are sure than there are
pub fewer_sure : (c : Settings) (q : Query) (seen : Rows) (found : Found) → IsFound c q seen found → length found.sure ≤ length found.candidates
fewer_sure c q seen found is =
    subst₂ (λ (sure all : List ℕ). length sure ≤ length all) (sym is.sure_are) (sym is.candidates_are)
    (fewer (touches c q) (proves_in c.grid c.window q) seen)
