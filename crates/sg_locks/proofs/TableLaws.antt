-- What a lock table's two orders say of its grants.
use Rattle.std.specs.Prelude.{not}
use Rattle.std.proofs.Common.{◌≡◌, ℕ, Bool, true, false, ◌||◌, ◌&&◌, List, [], ◌∷◌, refl, sym, ap, ◌∙◌, eqb, eqb-true, subst}
use Rattle.std.specs.declared.cmp.Ordering.{Ordering}
use Rattle.std.specs.declared.cmp.Ordering.TheVariants.{Less}
use Rattle.std.specs.Ordering.{is_eq, ordering_then, nat_cmp}
use Rattle.std.specs.Cmp.{IsTotalOrder, on_total, then_total}
use Rattle.std.specs.List.{AllByRecursion, list_any}
use Rattle.std.specs.List.Sorted.{IsStrictlySortedBy}
use Rattle.sg_modes.specs.declared.modes.Mode.{Mode}
use Rattle.sg_modes.specs.declared.modes.Mode.TheVariants.{S, U, X, RangeSS, RangeSU, RangeIN, RangeXX}
use Rattle.sg_modes.specs.contracts.numbers.SessionOrd.TheImpl as sessions
use Rattle.sg_modes.specs.contracts.numbers.SessionOrd.TheImpl.Laws as session_laws
use Rattle.sg_modes.specs.contracts.modes.ModeOrd.TheImpl as modes
use Rattle.sg_modes.specs.contracts.modes.ModeOrd.TheImpl.Laws as mode_laws
use Rattle.sg_modes.specs.Modes.{is_compatible}
use Rattle.sg_modes.specs.Sessions.{has_session, with_session}
use Rattle.sg_modes.proofs.SessionLaws.{has_session-with}
use Rattle.sg_locks.specs.Grants.{Grant, mode_place, is_same_mode, is_same_grant, has_grant, blocks, grant_cmp, HasRisingGrants, AddsGrant, RemovesSession}
use Rattle.sg_groups.specs.Groups.{pair_cmp, HasRisingPairs, has_pair, items_of}
use Rattle.sg_locks.specs.Mirrors.{grant_on, grants_on, grant_of, grants_of, Mirrors, IsLockTable}
use Rattle.sg_locks.proofs.GrantLaws.{is_eq-then, is_eq-nat_cmp, and_first, and_none}

-- ---- the orders of the parts
abbrev pub session_cmp : ℕ → ℕ → Ordering
session_cmp = sessions.ghosts.cmp

abbrev pub mode_cmp : Mode → Mode → Ordering
mode_cmp = modes.ghosts.cmp

same_sessions : (r s : ℕ) → session_cmp r s ≡ nat_cmp r s
same_sessions r s = refl

same_modes : (m n : Mode) → mode_cmp m n ≡ nat_cmp (mode_place m) (mode_place n)
same_modes S S = refl
same_modes S U = refl
same_modes S X = refl
same_modes S RangeSS = refl
same_modes S RangeSU = refl
same_modes S RangeIN = refl
same_modes S RangeXX = refl
same_modes U S = refl
same_modes U U = refl
same_modes U X = refl
same_modes U RangeSS = refl
same_modes U RangeSU = refl
same_modes U RangeIN = refl
same_modes U RangeXX = refl
same_modes X S = refl
same_modes X U = refl
same_modes X X = refl
same_modes X RangeSS = refl
same_modes X RangeSU = refl
same_modes X RangeIN = refl
same_modes X RangeXX = refl
same_modes RangeSS S = refl
same_modes RangeSS U = refl
same_modes RangeSS X = refl
same_modes RangeSS RangeSS = refl
same_modes RangeSS RangeSU = refl
same_modes RangeSS RangeIN = refl
same_modes RangeSS RangeXX = refl
same_modes RangeSU S = refl
same_modes RangeSU U = refl
same_modes RangeSU X = refl
same_modes RangeSU RangeSS = refl
same_modes RangeSU RangeSU = refl
same_modes RangeSU RangeIN = refl
same_modes RangeSU RangeXX = refl
same_modes RangeIN S = refl
same_modes RangeIN U = refl
same_modes RangeIN X = refl
same_modes RangeIN RangeSS = refl
same_modes RangeIN RangeSU = refl
same_modes RangeIN RangeIN = refl
same_modes RangeIN RangeXX = refl
same_modes RangeXX S = refl
same_modes RangeXX U = refl
same_modes RangeXX X = refl
same_modes RangeXX RangeSS = refl
same_modes RangeXX RangeSU = refl
same_modes RangeXX RangeIN = refl
same_modes RangeXX RangeXX = refl

pub session_total : IsTotalOrder session_cmp
session_total = session_laws.total-law

pub mode_total : IsTotalOrder mode_cmp
mode_total = mode_laws.total-law

is_eq-session : (r s : ℕ) → is_eq (session_cmp r s) ≡ eqb r s
is_eq-session r s = ap is_eq (same_sessions r s) ∙ is_eq-nat_cmp r s

is_eq-mode : (m n : Mode) → is_eq (mode_cmp m n) ≡ is_same_mode m n
is_eq-mode m n = ap is_eq (same_modes m n) ∙ is_eq-nat_cmp (mode_place m) (mode_place n)

-- by the session, and then by the mode
abbrev pub holder_cmp : ℕ × Mode → ℕ × Mode → Ordering
holder_cmp x y = ordering_then (session_cmp x.0 y.0) (mode_cmp x.1 y.1)

pub holder_total : IsTotalOrder holder_cmp
holder_total = then_total (on_total (λ (t : ℕ × Mode). t.0) session_total) (on_total (λ (t : ℕ × Mode). t.1) mode_total)

both : {a b c d : Bool} → a ≡ c → b ≡ d → (a || b) ≡ (c || d)
both {a} {b} {c} {d} e f = rw (e, f) refl

both_and : {a b c d : Bool} → a ≡ c → b ≡ d → (a && b) ≡ (c && d)
both_and {a} {b} {c} {d} e f = rw (e, f) refl

module _ {K : Type 0} (cmp : K → K → Ordering) where
  -- by the key, and then by the mode
  abbrev pub held_cmp : K × Mode → K × Mode → Ordering
  held_cmp x y = ordering_then (cmp x.0 y.0) (mode_cmp x.1 y.1)

  pub held_total : IsTotalOrder cmp → IsTotalOrder held_cmp
  held_total total = then_total (on_total (λ (t : K × Mode). t.0) total) (on_total (λ (t : K × Mode). t.1) mode_total)

  same_on : (s : ℕ) (k : K) (m : Mode) (p : K × (ℕ × Mode)) → is_eq (pair_cmp cmp holder_cmp (k, (s, m)) p) ≡ is_same_grant cmp s k m (grant_on p)
  same_on s k m p =
      is_eq-then (cmp k p.0) (holder_cmp (s, m) p.1) ∙ ap (λ t. is_eq (cmp k p.0) && t) (is_eq-then (session_cmp s p.1.0) (mode_cmp m p.1.1))
      ∙ and_first (is_eq (cmp k p.0)) (is_eq (session_cmp s p.1.0)) (is_eq (mode_cmp m p.1.1)) (eqb s p.1.0) (is_eq-session s p.1.0)
      ∙ ap (λ t. eqb s p.1.0 && (is_eq (cmp k p.0) && t)) (is_eq-mode m p.1.1)

  same_of : (s : ℕ) (k : K) (m : Mode) (q : ℕ × (K × Mode)) → is_eq (pair_cmp session_cmp held_cmp (s, (k, m)) q) ≡ is_same_grant cmp s k m (grant_of q)
  same_of s k m q =
      is_eq-then (session_cmp s q.0) (held_cmp (k, m) q.1)
      ∙ both_and (is_eq-session s q.0) (is_eq-then (cmp k q.1.0) (mode_cmp m q.1.1) ∙ ap (λ t. is_eq (cmp k q.1.0) && t) (is_eq-mode m q.1.1))

  pub has_grant-on : (s : ℕ) (k : K) (m : Mode) (ps : List (K × (ℕ × Mode))) → has_pair cmp holder_cmp ps k (s, m) ≡ has_grant cmp (grants_on ps) s k m
  has_grant-on s k m [] = refl
  has_grant-on s k m (p ∷ ps) = both (same_on s k m p) (has_grant-on s k m ps)

  pub has_grant-of : (s : ℕ) (k : K) (m : Mode) (qs : List (ℕ × (K × Mode))) → has_pair session_cmp held_cmp qs s (k, m) ≡ has_grant cmp (grants_of qs) s k m
  has_grant-of s k m [] = refl
  has_grant-of s k m (q ∷ qs) = both (same_of s k m q) (has_grant-of s k m qs)

  -- ---- the order of the grants
  pair_is : (p q : K × (ℕ × Mode)) → pair_cmp cmp holder_cmp p q ≡ grant_cmp cmp (grant_on p) (grant_on q)
  pair_is p q = ap (λ t. ordering_then (cmp p.0 q.0) (ordering_then (session_cmp p.1.0 q.1.0) t)) (same_modes p.1.1 q.1.1) ∙ ap (λ t. ordering_then (cmp p.0 q.0) (ordering_then t (nat_cmp (mode_place p.1.1) (mode_place q.1.1)))) (same_sessions p.1.0 q.1.0)

  less_on : (p : K × (ℕ × Mode)) (ps : List (K × (ℕ × Mode))) → AllByRecursion (λ q. pair_cmp cmp holder_cmp p q ≡ Less) ps → AllByRecursion (λ h. grant_cmp cmp (grant_on p) h ≡ Less) (grants_on ps)
  less_on p [] all = tt
  less_on p (q ∷ ps) all = (sym (pair_is p q) ∙ all.0, less_on p ps all.1)

  pub rising-on : (ps : List (K × (ℕ × Mode))) → HasRisingPairs cmp holder_cmp ps → HasRisingGrants cmp (grants_on ps)
  unfolding IsStrictlySortedBy
  rising-on [] rising = tt
  rising-on (p ∷ ps) rising = (less_on p ps rising.0, rising-on ps rising.1)

  -- no grants at all
  pub empty_table : (ps : List (K × (ℕ × Mode))) (qs : List (ℕ × (K × Mode))) → ps ≡ [] → qs ≡ [] → IsLockTable cmp ps qs
  unfolding IsStrictlySortedBy
  empty_table ps qs e f = rw (e, f) (record { mirrors = λ s k m. refl; rising = tt })

  -- ---- one grant more
  -- the pairs are the old ones and this one
  abbrev pub AddsPair : {A B : Type 0} → (A → A → Ordering) → (B → B → Ordering) → List (A × B) → List (A × B) → A → B → Type 0
  AddsPair {A} {B} by_group by_item old new x y = (a : A) (b : B) → has_pair by_group by_item new a b ≡ (is_eq (pair_cmp by_group by_item (a, b) (x, y)) || has_pair by_group by_item old a b)

  pub added-on : (old new : List (K × (ℕ × Mode))) (s : ℕ) (k : K) (m : Mode) → AddsPair cmp holder_cmp old new k (s, m) → AddsGrant cmp (grants_on old) (grants_on new) (record { session = s; key = k; mode = m })
  added-on old new s k m h r j n = sym (has_grant-on r j n new) ∙ h j (r, n) ∙ both (same_on r j n (k, (s, m))) (has_grant-on r j n old)

  added-of : (old new : List (ℕ × (K × Mode))) (s : ℕ) (k : K) (m : Mode) → AddsPair session_cmp held_cmp old new s (k, m) → AddsGrant cmp (grants_of old) (grants_of new) (record { session = s; key = k; mode = m })
  added-of old new s k m h r j n = sym (has_grant-of r j n new) ∙ h r (j, n) ∙ both (same_of r j n (s, (k, m))) (has_grant-of r j n old)

  pub added-table : (ps ps' : List (K × (ℕ × Mode))) (qs qs' : List (ℕ × (K × Mode))) (s : ℕ) (k : K) (m : Mode) → Mirrors cmp ps qs
      → AddsPair cmp holder_cmp ps ps' k (s, m) → AddsPair session_cmp held_cmp qs qs' s (k, m) → HasRisingPairs cmp holder_cmp ps' → IsLockTable cmp ps' qs'
  added-table ps ps' qs qs' s k m mirrors h i rising = record {
    mirrors = λ r j n. added-on ps ps' s k m h r j n ∙ ap (λ t. is_same_grant cmp r j n (record { session = s; key = k; mode = m }) || t) (mirrors r j n) ∙ sym (added-of qs qs' s k m i r j n);
    rising = rising-on ps' rising;
  }

  -- ---- one grant less
  abbrev pub DropsPair : {A B : Type 0} → (A → A → Ordering) → (B → B → Ordering) → List (A × B) → List (A × B) → A → B → Type 0
  DropsPair {A} {B} by_group by_item old new x y = (a : A) (b : B) → has_pair by_group by_item new a b ≡ (not (is_eq (pair_cmp by_group by_item (a, b) (x, y))) && has_pair by_group by_item old a b)

  dropped-on : (old new : List (K × (ℕ × Mode))) (s : ℕ) (k : K) (m : Mode) → DropsPair cmp holder_cmp old new k (s, m)
      → (r : ℕ) (j : K) (n : Mode) → has_grant cmp (grants_on new) r j n ≡ (not (is_same_grant cmp r j n (record { session = s; key = k; mode = m })) && has_grant cmp (grants_on old) r j n)
  dropped-on old new s k m h r j n = sym (has_grant-on r j n new) ∙ h j (r, n) ∙ both_and (ap not (same_on r j n (k, (s, m)))) (has_grant-on r j n old)

  dropped-of : (old new : List (ℕ × (K × Mode))) (s : ℕ) (k : K) (m : Mode) → DropsPair session_cmp held_cmp old new s (k, m)
      → (r : ℕ) (j : K) (n : Mode) → has_grant cmp (grants_of new) r j n ≡ (not (is_same_grant cmp r j n (record { session = s; key = k; mode = m })) && has_grant cmp (grants_of old) r j n)
  dropped-of old new s k m h r j n = sym (has_grant-of r j n new) ∙ h r (j, n) ∙ both_and (ap not (same_of r j n (s, (k, m)))) (has_grant-of r j n old)

  pub dropped-table : (ps ps' : List (K × (ℕ × Mode))) (qs qs' : List (ℕ × (K × Mode))) (s : ℕ) (k : K) (m : Mode) → Mirrors cmp ps qs
      → DropsPair cmp holder_cmp ps ps' k (s, m) → DropsPair session_cmp held_cmp qs qs' s (k, m) → HasRisingPairs cmp holder_cmp ps' → IsLockTable cmp ps' qs'
  dropped-table ps ps' qs qs' s k m mirrors h i rising = record {
    mirrors = λ r j n. dropped-on ps ps' s k m h r j n ∙ ap (λ t. not (is_same_grant cmp r j n (record { session = s; key = k; mode = m })) && t) (mirrors r j n) ∙ sym (dropped-of qs qs' s k m i r j n);
    rising = rising-on ps' rising;
  }

  -- the grants of other sessions are as they were
  abbrev pub KeepsOthers : List (Grant K) → List (Grant K) → ℕ → Type 0
  KeepsOthers old new s = (r : ℕ) (j : K) (n : Mode) → eqb r s ≡ false → has_grant cmp new r j n ≡ has_grant cmp old r j n

  pub others-dropped : (first : List (Grant K)) (old new : List (K × (ℕ × Mode))) (s : ℕ) (k : K) (m : Mode) → DropsPair cmp holder_cmp old new k (s, m) → KeepsOthers first (grants_on old) s → KeepsOthers first (grants_on new) s
  others-dropped first old new s k m h kept r j n other = dropped-on old new s k m h r j n ∙ rw other (kept r j n other)

  none_of_by : (s : ℕ) (k : K) (m : Mode) (q : ℕ × (K × Mode)) (qs : List (ℕ × (K × Mode))) (t : Bool) → is_eq (session_cmp s q.0) ≡ t → (items_of session_cmp s qs ≡ [] → has_grant cmp (grants_of qs) s k m ≡ false) → items_of session_cmp s (q ∷ qs) ≡ [] → has_grant cmp (grants_of (q ∷ qs)) s k m ≡ false
  none_of_by s k m q qs true h rest e = absurd (let f = rw h at e in cc)
  none_of_by s k m q qs false h rest e = let other = sym (is_eq-session s q.0) ∙ h in rw other (rest (rw h at e))

  none_of : (s : ℕ) (k : K) (m : Mode) (qs : List (ℕ × (K × Mode))) → items_of session_cmp s qs ≡ [] → has_grant cmp (grants_of qs) s k m ≡ false
  none_of s k m [] e = refl
  none_of s k m (q ∷ qs) e = none_of_by s k m q qs _ refl (none_of s k m qs) e

  -- once the session has no grants left, its grants are what was removed
  pub released : (first : List (Grant K)) (ps : List (K × (ℕ × Mode))) (qs : List (ℕ × (K × Mode))) (s : ℕ) → Mirrors cmp ps qs → KeepsOthers first (grants_on ps) s → items_of session_cmp s qs ≡ [] → RemovesSession cmp first (grants_on ps) s
  released first ps qs s mirrors kept e r j n = by_test (eqb r s) refl
    where
      by_test : (t : Bool) → eqb r s ≡ t → has_grant cmp (grants_on ps) r j n ≡ (not (eqb r s) && has_grant cmp first r j n)
      by_test true h = let same : r ≡ s = eqb-true r s h in rw h (mirrors r j n ∙ subst (λ (z : ℕ). has_grant cmp (grants_of qs) z j n ≡ false) (sym same) (none_of s j n qs e))
      by_test false h = rw h (kept r j n h)

-- ---- who stands in the way
-- of these holders, session n isn't s and holds a mode that doesn't go with the one asked for
abbrev pub blocked_by : List (ℕ × Mode) → ℕ → Mode → ℕ → Bool
blocked_by items s asked n = not (eqb n s) && list_any (λ i. eqb n i.0 && not (is_compatible i.1 asked)) items

module _ {K : Type 0} (cmp : K → K → Ordering) (k : K) (asked : Mode) (n : ℕ) where
  abbrev holds_one : List (Grant K) → Bool
  holds_one grants = list_any (λ g. eqb n g.session && (is_eq (cmp k g.key) && not (is_compatible g.mode asked))) grants

  abbrev has_one : List (ℕ × Mode) → Bool
  has_one items = list_any (λ i. eqb n i.0 && not (is_compatible i.1 asked)) items

  any_items_by : (p : K × (ℕ × Mode)) (ps : List (K × (ℕ × Mode))) (t : Bool) → is_eq (cmp k p.0) ≡ t → holds_one (grants_on ps) ≡ has_one (items_of cmp k ps) → holds_one (grants_on (p ∷ ps)) ≡ has_one (items_of cmp k (p ∷ ps))
  any_items_by p ps true h rest = rw h (ap (λ t. (eqb n p.1.0 && not (is_compatible p.1.1 asked)) || t) rest)
  any_items_by p ps false h rest = rw h (both (and_none (eqb n p.1.0)) rest)

  any_items : (ps : List (K × (ℕ × Mode))) → holds_one (grants_on ps) ≡ has_one (items_of cmp k ps)
  any_items [] = refl
  any_items (p ∷ ps) = any_items_by p ps _ refl (any_items ps)

  -- the blockers are among the holders of the key
  pub blocks-items : (ps : List (K × (ℕ × Mode))) (s : ℕ) → blocks cmp (grants_on ps) s k asked n ≡ blocked_by (items_of cmp k ps) s asked n
  blocks-items ps s = ap (λ t. not (eqb n s) && t) (any_items ps)

spread : (d x y : Bool) → (d && (x || y)) ≡ ((d && x) || (d && y))
spread true x y = refl
spread false x y = refl

or_move : (h e r : Bool) → (h || (e || r)) ≡ ((e || h) || r)
or_move true true r = refl
or_move true false r = refl
or_move false true r = refl
or_move false false r = refl

own : (n c s : ℕ) (x t : Bool) → eqb n c ≡ t → (not (eqb n s) && (eqb n c && x)) ≡ ((not (eqb c s) && x) && eqb n c)
own n c s x false e = rw e (and_none (not (eqb n s)) ∙ sym (and_none (not (eqb c s) && x)))
own n c s x true e = let same : n ≡ c = eqb-true n c e in rw e (subst (λ (z : ℕ). (not (eqb n s) && x) ≡ ((not (eqb z s) && x) && true)) same (and_true (not (eqb n s) && x)))
  where
    and_true : (b : Bool) → b ≡ (b && true)
    and_true true = refl
    and_true false = refl

-- those found so far, and those among the rest
abbrev pub IsFoundSoFar : List (ℕ × Mode) → List (ℕ × Mode) → List ℕ → ℕ → Mode → Type 0
IsFoundSoFar all rest found s asked = (n : ℕ) → blocked_by all s asked n ≡ (has_session found n || blocked_by rest s asked n)

first_rest : (c : ℕ × Mode) (rest : List (ℕ × Mode)) (s : ℕ) (asked : Mode) (n : ℕ) → blocked_by (c ∷ rest) s asked n ≡ (((not (eqb c.0 s) && not (is_compatible c.1 asked)) && eqb n c.0) || blocked_by rest s asked n)
first_rest c rest s asked n =
    spread (not (eqb n s)) (eqb n c.0 && not (is_compatible c.1 asked)) (list_any (λ i. eqb n i.0 && not (is_compatible i.1 asked)) rest)
    ∙ ap (λ t. t || blocked_by rest s asked n) (own n c.0 s (not (is_compatible c.1 asked)) _ refl)

pub found_more : (all above rest : List (ℕ × Mode)) (c : ℕ × Mode) (found : List ℕ) (s : ℕ) (asked : Mode) → IsFoundSoFar all above found s asked → above ≡ c ∷ rest → (not (eqb c.0 s) && not (is_compatible c.1 asked)) ≡ true → IsFoundSoFar all rest (with_session found c.0) s asked
found_more all above rest c found s asked so_far e way n =
    so_far n ∙ ap (λ ks. has_session found n || blocked_by ks s asked n) e ∙ ap (λ t. has_session found n || t) (first_rest c rest s asked n ∙ rw way refl)
    ∙ or_move (has_session found n) (eqb n c.0) (blocked_by rest s asked n) ∙ ap (λ t. t || blocked_by rest s asked n) (sym (has_session-with found c.0 n))

pub found_same : (all above rest : List (ℕ × Mode)) (c : ℕ × Mode) (found : List ℕ) (s : ℕ) (asked : Mode) → IsFoundSoFar all above found s asked → above ≡ c ∷ rest → (not (eqb c.0 s) && not (is_compatible c.1 asked)) ≡ false → IsFoundSoFar all rest found s asked
found_same all above rest c found s asked so_far e way n =
    so_far n ∙ ap (λ ks. has_session found n || blocked_by ks s asked n) e ∙ ap (λ t. has_session found n || t) (first_rest c rest s asked n ∙ rw way refl)

-- at first none is found, and at the end nothing is left
pub found_none : (all above : List (ℕ × Mode)) (s : ℕ) (asked : Mode) → above ≡ all → IsFoundSoFar all above [] s asked
found_none all above s asked e n = ap (λ ks. blocked_by ks s asked n) (sym e)

pub found_all : (all above : List (ℕ × Mode)) (found : List ℕ) (s : ℕ) (asked : Mode) → IsFoundSoFar all above found s asked → above ≡ [] → (n : ℕ) → has_session found n ≡ blocked_by all s asked n
found_all all above found s asked so_far e n = sym (so_far n ∙ ap (λ ks. has_session found n || blocked_by ks s asked n) e ∙ none_left (has_session found n) (not (eqb n s)))
  where
    none_left : (h b : Bool) → (h || (b && false)) ≡ h
    none_left true b = refl
    none_left false b = and_none b
