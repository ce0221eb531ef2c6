-- Laws of waits and of cycles.
use Rattle.std.specs.Prelude.{◌≡◌, ◌≢◌, ℕ, ◌<◌, ◌≤◌, Bool, true, false, not, ◌||◌, ◌⊎◌, cond, List, [], ◌∷◌, eqb, ltb, refl}
use Rattle.std.proofs.Common.{sym, ap, ◌∙◌, subst, inl, inr, arith, eqb-true, eq-eqb}
use Rattle.sg_modes.specs.Sessions.{AreSessions, has_session}
use Rattle.sg_modes.proofs.BoolLaws.{true_or_false, clash, neither, ne-eqb, eqb-false, ltb-lt, ltb-le, by_test, or_left}
use Rattle.sg_modes.proofs.SessionLaws.{same_sessions}
use Rattle.sg_modes.specs.Waits.{Wait, is_waiting, blockers_of, RisingWaits, with_wait, ends_with, waits_after, IsSteps, IsNextMember, AreNextMembers, NoCycle, IsCycle, IsCycleSet}

-- ---- the cycle is one

IsNextMember-steps : (f : ℕ → List ℕ) (s x y z : ℕ) (a : IsNextMember f s x y) (b : IsNextMember f s x z) → a.steps ≡ b.steps
IsNextMember-steps f s x y z a b = let l : a.steps ≤ b.steps = a.fewest z b.steps b.waits b.leads in let m : b.steps ≤ a.steps = b.fewest y a.steps a.waits a.leads in omega arith

-- one session comes next
pub IsNextMember-unique : (f : ℕ → List ℕ) (s x y z : ℕ) → IsNextMember f s x y → IsNextMember f s x z → y ≡ z
IsNextMember-unique f s x y z a b =
    let q : a.steps ≡ b.steps = IsNextMember-steps f s x y z a b in
    let l : y ≤ z = a.least z b.waits (subst (λ (n : ℕ). IsSteps f z s n) (sym q) b.leads) in
    let m : z ≤ y = b.least y a.waits (subst (λ (n : ℕ). IsSteps f y s n) q a.leads) in
    omega arith

AreNextMembers-unique : (f : ℕ → List ℕ) (s x : ℕ) (ys zs : List ℕ) → AreNextMembers f s x ys → AreNextMembers f s x zs → ys ≡ zs
AreNextMembers-unique f s x [] [] a b = refl
AreNextMembers-unique f s x [] (z ∷ zs) a b = absurd (b.1 (IsNextMember-unique f s x z s b.0 a))
AreNextMembers-unique f s x (y ∷ ys) [] a b = absurd (a.1 (IsNextMember-unique f s x y s a.0 b))
AreNextMembers-unique f s x (y ∷ ys) (z ∷ zs) a b = let q : y ≡ z = IsNextMember-unique f s x y z a.0 b.0 in
    joined q (AreNextMembers-unique f s y ys zs a.2 (subst (λ (v : ℕ). AreNextMembers f s v zs) (sym q) b.2))
  where
    joined : y ≡ z → ys ≡ zs → (y ∷ ys) ≡ (z ∷ zs)
    joined q r = cc

AreNextMembers-NoCycle : (f : ℕ → List ℕ) (s : ℕ) (ys : List ℕ) → AreNextMembers f s s ys → NoCycle f s → ⊥
AreNextMembers-NoCycle f s [] a n = n s a.steps a.waits a.leads.chain
AreNextMembers-NoCycle f s (y ∷ ys) a n = n y a.0.steps a.0.waits a.0.leads.chain

-- a session has one cycle
pub IsCycle-unique : (f : ℕ → List ℕ) (s : ℕ) (c d : List ℕ) → IsCycle f s c → IsCycle f s d → c ≡ d
IsCycle-unique f s [] [] a b = refl
IsCycle-unique f s [] (y ∷ ys) a b = absurd (AreNextMembers-NoCycle f s ys b.1 a)
IsCycle-unique f s (x ∷ xs) [] a b = absurd (AreNextMembers-NoCycle f s xs a.1 b)
IsCycle-unique f s (x ∷ xs) (y ∷ ys) a b = joined (a.0 ∙ sym b.0) (AreNextMembers-unique f s s xs ys a.1 b.1)
  where
    joined : x ≡ y → xs ≡ ys → (x ∷ xs) ≡ (y ∷ ys)
    joined q r = cc

-- and one set of its members
pub IsCycleSet-unique : (f : ℕ → List ℕ) (s : ℕ) (c d : List ℕ) → AreSessions c → AreSessions d → IsCycleSet f s c → IsCycleSet f s d → c ≡ d
IsCycleSet-unique f s c d h k a b = same_sessions c d 0 h k (λ n l m. a.members n ∙ ap (λ (o : List ℕ). has_session o n) (IsCycle-unique f s a.order b.order a.cycle b.cycle) ∙ sym (b.members n))

-- the set is empty exactly where there is no cycle
pub IsCycleSet-empty : (f : ℕ → List ℕ) (s : ℕ) → IsCycleSet f s [] → NoCycle f s
IsCycleSet-empty f s a = go a.order a.cycle a.members
  where
    go : (order : List ℕ) → IsCycle f s order → ((n : ℕ) → false ≡ has_session order n) → NoCycle f s
    go [] c e = c
    go (x ∷ xs) c e = absurd (clash (has_session (x ∷ xs) x) (or_left (eqb x x) (has_session xs x) (eq-eqb x x refl)) (sym (e x)))

pub IsCycleSet-none : (f : ℕ → List ℕ) (s : ℕ) (set : List ℕ) → IsCycleSet f s set → NoCycle f s → set ≡ []
IsCycleSet-none f s set a n = go a.order a.cycle a.members
  where
    no_member : (set : List ℕ) → ((n : ℕ) → has_session set n ≡ false) → set ≡ []
    no_member [] e = refl
    no_member (x ∷ xs) e = absurd (clash (has_session (x ∷ xs) x) (or_left (eqb x x) (has_session xs x) (eq-eqb x x refl)) (e x))

    go : (order : List ℕ) → IsCycle f s order → ((n : ℕ) → has_session set n ≡ has_session order n) → set ≡ []
    go [] c e = no_member set e
    go (x ∷ xs) c e = absurd (AreNextMembers-NoCycle f s xs c.1 n)

-- where there is a cycle, the session itself is a member
pub IsCycleSet-itself : (f : ℕ → List ℕ) (s : ℕ) (set : List ℕ) → IsCycleSet f s set → set ≢ [] → has_session set s ≡ true
IsCycleSet-itself f s set a n = go a.order a.cycle a.members
  where
    go : (order : List ℕ) → IsCycle f s order → ((n : ℕ) → has_session set n ≡ has_session order n) → has_session set s ≡ true
    go [] c e = absurd (n (IsCycleSet-none f s set a c))
    go (x ∷ xs) c e = e s ∙ or_left (eqb s x) (has_session xs s) (eq-eqb s x (sym c.0))

-- ---- lists of waits

pub RisingWaits-lower : (ws : List Wait) (low least : ℕ) → RisingWaits low ws → least ≤ low → RisingWaits least ws
RisingWaits-lower [] low least h l = tt
RisingWaits-lower (w ∷ ws) low least h l = let a : low < w.session = h.0 in (omega arith, h.1, h.2, h.3, h.4)

pub blockers_of-below : (ws : List Wait) (low s : ℕ) → RisingWaits low ws → s ≤ low → blockers_of ws s ≡ []
blockers_of-below [] low s h l = refl
blockers_of-below (w ∷ ws) low s h l = let a : low < w.session = h.0 in
    rw (ne-eqb s w.session (omega arith)) (blockers_of-below ws w.session s h.4 (omega arith))

pub blockers_of-above : (ws : List Wait) (low s : ℕ) → RisingWaits low ws → 64 < s → blockers_of ws s ≡ []
blockers_of-above [] low s h l = refl
blockers_of-above (w ∷ ws) low s h l = let a : w.session ≤ 64 = h.1 in
    rw (ne-eqb s w.session (omega arith)) (blockers_of-above ws w.session s h.4 l)

-- a session waits exactly where it waits for somebody
pub is_waiting-blockers : (ws : List Wait) (low s : ℕ) → RisingWaits low ws → is_waiting ws s ≡ false → blockers_of ws s ≡ []
is_waiting-blockers [] low s h e = refl
is_waiting-blockers (w ∷ ws) low s h e = let p = neither (eqb s w.session) (is_waiting ws s) e in rw p.0 (is_waiting-blockers ws w.session s h.4 p.1)

pub blockers-is_waiting : (ws : List Wait) (low s : ℕ) → RisingWaits low ws → blockers_of ws s ≡ [] → is_waiting ws s ≡ false
blockers-is_waiting [] low s h e = refl
blockers-is_waiting (w ∷ ws) low s h e = go (eqb s w.session) (λ f. blockers-is_waiting ws w.session s h.4 f) e
  where
    go : (b : Bool) → (blockers_of ws s ≡ [] → is_waiting ws s ≡ false) → cond b w.blockers (blockers_of ws s) ≡ [] → (b || is_waiting ws s) ≡ false
    go true rest e = absurd (h.2 e)
    go false rest e = rest e

first_blockers : (w : Wait) (ws : List Wait) → blockers_of (w ∷ ws) w.session ≡ w.blockers
first_blockers w ws = rw (eq-eqb w.session w.session refl) refl

-- two lists of waits with the same blockers are one
pub same_waits : (vs ws : List Wait) (low : ℕ) → RisingWaits low vs → RisingWaits low ws → ((s : ℕ) → low < s → s ≤ 64 → blockers_of vs s ≡ blockers_of ws s) → vs ≡ ws
same_waits [] [] low h k e = refl
same_waits [] (w ∷ ws) low h k e = absurd (k.2 (sym (first_blockers w ws) ∙ sym (e w.session k.0 k.1)))
same_waits (v ∷ vs) [] low h k e = absurd (h.2 (sym (first_blockers v vs) ∙ e v.session h.0 h.1))
same_waits (v ∷ vs) (w ∷ ws) low h k e = elim (apart v.session w.session) [
  | inl q ↦ joined (same_wait v w q (sym (first_blockers v vs) ∙ e v.session h.0 h.1 ∙ subst (λ (z : ℕ). blockers_of (w ∷ ws) z ≡ w.blockers) (sym q) (first_blockers w ws)))
      (same_waits vs ws v.session h.4 (subst (λ (z : ℕ). RisingWaits z ws) (sym q) k.4) (rest q))
  | inr (inl l) ↦ absurd (h.2 (sym (first_blockers v vs) ∙ e v.session h.0 h.1 ∙ missing v.session w ws l k.4))
  | inr (inr l) ↦ absurd (k.2 (sym (first_blockers w ws) ∙ sym (e w.session k.0 k.1) ∙ missing w.session v vs l h.4))
]
  where
    apart : (n m : ℕ) → (n ≡ m) ⊎ ((n < m) ⊎ (m < n))
    apart n m = grind arith

    later : (w : Wait) (ws : List Wait) (s : ℕ) → w.session < s → blockers_of (w ∷ ws) s ≡ blockers_of ws s
    later w ws s l = rw (ne-eqb s w.session (omega arith)) refl

    missing : (n : ℕ) (w : Wait) (ws : List Wait) → n < w.session → RisingWaits w.session ws → blockers_of (w ∷ ws) n ≡ []
    missing n w ws l h = rw (ne-eqb n w.session (omega arith)) (blockers_of-below ws w.session n h (omega arith))

    same_wait : (v w : Wait) → v.session ≡ w.session → v.blockers ≡ w.blockers → v ≡ w
    same_wait v w q r = λ i. record { session = q i; blockers = r i }

    joined : v ≡ w → vs ≡ ws → (v ∷ vs) ≡ (w ∷ ws)
    joined q r = cc

    rest : v.session ≡ w.session → (s : ℕ) → v.session < s → s ≤ 64 → blockers_of vs s ≡ blockers_of ws s
    rest q s l b = let a : low < v.session = h.0 in
        sym (later v vs s l) ∙ e s (omega arith) b ∙ later w ws s (omega arith)

-- ---- one wait more
pub blockers_of-with : (ws : List Wait) (w : Wait) (s : ℕ) → is_waiting ws w.session ≡ false → blockers_of (with_wait ws w) s ≡ cond (eqb s w.session) w.blockers (blockers_of ws s)
blockers_of-with [] w s e = refl
blockers_of-with (v ∷ vs) w s e = let p = neither (eqb w.session v.session) (is_waiting vs w.session) e in
    by_test (λ ks. blockers_of ks s ≡ cond (eqb s w.session) w.blockers (blockers_of (v ∷ vs) s)) (ltb w.session v.session) (w ∷ v ∷ vs) (v ∷ with_wait vs w) (λ t. refl)
    (λ f. ap (λ (bs : List ℕ). cond (eqb s v.session) v.blockers bs) (blockers_of-with vs w s p.1) ∙ turn (eqb s v.session) (eqb s w.session) v.blockers w.blockers (blockers_of vs s)
    (λ a b. eqb-false w.session v.session p.0 (sym (eqb-true s w.session b) ∙ eqb-true s v.session a)))
  where
    turn : (a b : Bool) (x y z : List ℕ) → (a ≡ true → b ≡ true → ⊥) → cond a x (cond b y z) ≡ cond b y (cond a x z)
    turn true true x y z n = absurd (n refl refl)
    turn true false x y z n = refl
    turn false b x y z n = refl

pub RisingWaits-with : (ws : List Wait) (low : ℕ) (w : Wait) → RisingWaits low ws → is_waiting ws w.session ≡ false → low < w.session → w.session ≤ 64 → w.blockers ≢ [] → has_session w.blockers w.session ≡ false → RisingWaits low (with_wait ws w)
RisingWaits-with [] low w h e l b n o = (l, b, n, o, tt)
RisingWaits-with (v ∷ vs) low w h e l b n o = let p = neither (eqb w.session v.session) (is_waiting vs w.session) e in
    by_test (λ ks. RisingWaits low ks) (ltb w.session v.session) (w ∷ v ∷ vs) (v ∷ with_wait vs w) (λ t. (l, b, n, o, (ltb-lt w.session v.session t, h.1, h.2, h.3, h.4)))
    (λ f. (h.0, h.1, h.2, h.3, RisingWaits-with vs v.session w h.4 p.1 (after w.session v.session (ltb-le w.session v.session f) (eqb-false w.session v.session p.0)) b n o))
  where
    after : (s m : ℕ) → m ≤ s → (s ≡ m → ⊥) → m < s
    after s m l n = grind arith

-- ---- the waits after a session's end
pub RisingWaits-after : (ws : List Wait) (low s : ℕ) → RisingWaits low ws → RisingWaits low (waits_after s ws)
RisingWaits-after [] low s h = tt
RisingWaits-after (w ∷ ws) low s h =
    by_test (λ ks. RisingWaits low ks) (not (ends_with s w)) (w ∷ waits_after s ws) (waits_after s ws) (λ t. (h.0, h.1, h.2, h.3, RisingWaits-after ws w.session s h.4))
    (λ f. let a : low < w.session = h.0 in RisingWaits-lower (waits_after s ws) w.session low (RisingWaits-after ws w.session s h.4) (omega arith))

pub blockers_of-after : (ws : List Wait) (low e s : ℕ) → RisingWaits low ws → blockers_of (waits_after e ws) s ≡ cond (eqb e s || has_session (blockers_of ws s) e) [] (blockers_of ws s)
blockers_of-after [] low e s h = nothing (eqb e s || false)
  where
    nothing : (b : Bool) → (let none : List ℕ = [] in none ≡ cond b none none)
    nothing true = refl
    nothing false = refl
blockers_of-after (w ∷ ws) low e s h = elim (true_or_false (eqb s w.session)) [
  | inl t ↦ own (eqb-true s w.session t) t
  | inr f ↦ by_test (λ ks. blockers_of ks s ≡ cond (eqb e s || has_session (blockers_of (w ∷ ws) s) e) [] (blockers_of (w ∷ ws) s)) (not (ends_with e w)) (w ∷ waits_after e ws) (waits_after e ws)
      (λ t. rw f (blockers_of-after ws w.session e s h.4)) (λ g. rw f (blockers_of-after ws w.session e s h.4))
]
  where
    own : s ≡ w.session → eqb s w.session ≡ true → blockers_of (waits_after e (w ∷ ws)) s ≡ cond (eqb e s || has_session (blockers_of (w ∷ ws) s) e) [] (blockers_of (w ∷ ws) s)
    own q t = rw t (subst (λ (z : ℕ). blockers_of (cond (not (ends_with e w)) (w ∷ waits_after e ws) (waits_after e ws)) s ≡ cond (eqb e z || has_session w.blockers e) [] w.blockers) (sym q)
        (go (ends_with e w) refl))
      where
        go : (b : Bool) → ends_with e w ≡ b → blockers_of (cond (not b) (w ∷ waits_after e ws) (waits_after e ws)) s ≡ cond b [] w.blockers
        go true g = blockers_of-below (waits_after e ws) w.session s (RisingWaits-after ws w.session e h.4) (omega arith)
        go false g = rw t refl
