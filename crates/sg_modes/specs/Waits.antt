-- Waits of sessions for one another, and the cycle that a wait closes.
use Rattle.std.specs.Prelude.{◌≡◌, ◌≢◌, ℕ, zero, suc, ◌<◌, ◌≤◌, Bool, true, false, not, ◌||◌, cond, List, [], ◌∷◌, eqb, ltb, filter}
use Rattle.std.specs.List.{list_any}
use Rattle.sg_modes.specs.Sessions.{has_session}

-- a standing wait: the session that waits, and the blockers that it names
pub record Wait : Type 0 where
  pub session : ℕ
  pub blockers : List ℕ

-- the session waits
abbrev pub is_waiting : List Wait → ℕ → Bool
is_waiting ws s = list_any (λ w. eqb s w.session) ws

-- for whom the session waits: the blockers of its standing wait, or nobody
abbrev pub blockers_of : List Wait → ℕ → List ℕ
blockers_of [] s = []
blockers_of (w ∷ ws) s = cond (eqb s w.session) w.blockers (blockers_of ws s)

-- waits by rising session, each above the low number and at most 64; each names some session, and not its own
abbrev pub RisingWaits : ℕ → List Wait → Type 0
RisingWaits low [] = Unit {0}
RisingWaits low (w ∷ ws) = (low < w.session) × (w.session ≤ 64) × (w.blockers ≢ []) × (has_session w.blockers w.session ≡ false) × RisingWaits w.session ws

-- standing waits: at most one of each session
abbrev pub AreWaits : List Wait → Type 0
AreWaits ws = RisingWaits 0 ws

-- the waits with one more
abbrev pub with_wait : List Wait → Wait → List Wait
with_wait [] w = w ∷ []
with_wait (v ∷ vs) w = cond (ltb w.session v.session) (w ∷ v ∷ vs) (v ∷ with_wait vs w)

-- a wait ends with its own session and with the first of its blockers
abbrev pub ends_with : ℕ → Wait → Bool
ends_with s w = eqb s w.session || has_session w.blockers s

-- the waits that still stand when the session has ended
abbrev pub waits_after : ℕ → List Wait → List Wait
waits_after s ws = filter (λ w. not (ends_with s w)) ws

-- ---- chains; f gives the sessions for which each session waits

-- a chain of n waits goes from x to s
abbrev pub Chain : (ℕ → List ℕ) → ℕ → ℕ → ℕ → Type 0
Chain f zero x s = x ≡ s
Chain f (suc n) x s = (y : ℕ) × (has_session (f x) y ≡ true) × Chain f n y s

-- x leads to s, and its steps to s, the fewest waits in a chain from x to s, are n
pub record IsSteps (f : ℕ → List ℕ) (x s n : ℕ) : Type 0 where
  pub chain : Chain f n x s
  pub fewest : (m : ℕ) → Chain f m x s → n ≤ m

-- after the member x in the cycle of s comes y: of the sessions that x waits for and that lead to s, one of the fewest steps to s, and of these the one of the least number
pub record IsNextMember (f : ℕ → List ℕ) (s x y : ℕ) : Type 0 where
  pub steps : ℕ
  pub waits : has_session (f x) y ≡ true
  pub leads : IsSteps f y s steps
  pub fewest : (z n : ℕ) → has_session (f x) z ≡ true → IsSteps f z s n → steps ≤ n
  pub least : (z : ℕ) → has_session (f x) z ≡ true → IsSteps f z s steps → y ≤ z

-- the members that come after x, up to where s would come again
abbrev pub AreNextMembers : (ℕ → List ℕ) → ℕ → ℕ → List ℕ → Type 0
AreNextMembers f s x [] = IsNextMember f s x s
AreNextMembers f s x (y ∷ ys) = IsNextMember f s x y × (y ≢ s) × AreNextMembers f s y ys

-- no session that s waits for leads to s
abbrev pub NoCycle : (ℕ → List ℕ) → ℕ → Type 0
NoCycle f s = (y n : ℕ) → has_session (f s) y ≡ true → Chain f n y s → ⊥

-- the cycle of s in its order, from s on; it is empty where there is none
abbrev pub IsCycle : (ℕ → List ℕ) → ℕ → List ℕ → Type 0
IsCycle f s [] = NoCycle f s
IsCycle f s (x ∷ xs) = (x ≡ s) × AreNextMembers f s s xs

-- the set of the members of the cycle of s
pub record IsCycleSet (f : ℕ → List ℕ) (s : ℕ) (set : List ℕ) : Type 0 where
  pub order : List ℕ
  pub cycle : IsCycle f s order
  pub members : (n : ℕ) → has_session set n ≡ has_session order n
