-- What was made so far, one after another, and what follows from it.
use Rattle.std.proofs.Common.{◌≡◌, ℕ, zero, suc, ◌+◌, ◌<◌, ◌≤◌, List, [], ◌∷◌, ◌++◌, refl, sym, ap, subst, ◌∙◌, arith}
use Rattle.sg_plain.specs.Keys.{RisesFrom, IsRising}
use Rattle.sg_plain.specs.Rows.{Rows, keys_of}
use Rattle.sg_plain.specs.Transactions.{TransactionPlan}
use Rattle.sg_script.specs.declared.sessions.SessionScript.{SessionScript}
use Rattle.sg_script.specs.Plans.{Plan, above_all, numbers_of, with_transaction}
use Rattle.sg_shape.specs.declared.shapes.Shape.{Shape}
use Rattle.sg_workload.specs.Workload.{Draws, for_each, rect, row, script_of, session_of, settings}

-- those below this number were made from the first state, and led to the state that is now
pub record Made (A : Type 0) (make : ℕ → Draws A) (made : List A) (number first now : ℕ) : Type 0 where
  pub count : ℕ
  pub number_is : number ≡ suc count
  pub made_is : made ≡ (for_each count make first).0
  pub state_is : now ≡ (for_each count make first).1

-- with the one of this number
pub made_more : {A : Type 0} (make : ℕ → Draws A) (made new : List A) (number first now later : ℕ) (last : A) → Made A make made number first now →
    new ≡ made ++ last ∷ [] → last ≡ (make number now).0 → later ≡ (make number now).1 → Made A make new (number + 1) first later
made_more {A} make made new number first now later last m e l s = record {
  count = suc m.count;
  number_is = omega (arith, m.number_is);
  made_is = e ∙ (ap (λ (x : A). made ++ x ∷ []) (l ∙ same.0) ∙ ap (λ (xs : List A). xs ++ (make (suc m.count) (for_each m.count make first).1).0 ∷ []) m.made_is);
  state_is = s ∙ same.1;
}
  where
    same : ((make number now).0 ≡ (make (suc m.count) (for_each m.count make first).1).0) × ((make number now).1 ≡ (make (suc m.count) (for_each m.count make first).1).1)
    same = (
      ap (λ (k : ℕ). (make k now).0) m.number_is ∙ ap (λ (t : ℕ). (make (suc m.count) t).0) m.state_is,
      ap (λ (k : ℕ). (make k now).1) m.number_is ∙ ap (λ (t : ℕ). (make (suc m.count) t).1) m.state_is,
    )

-- all of them
pub made_all : {A : Type 0} (make : ℕ → Draws A) (made : List A) (number first now n : ℕ) → Made A make made number first now → number ≡ n + 1 →
    (made ≡ (for_each n make first).0) × (now ≡ (for_each n make first).1)
made_all {A} make made number first now n m e =
    let same : m.count ≡ n = omega (arith, m.number_is) in
    (m.made_is ∙ ap (λ (k : ℕ). (for_each k make first).0) same, m.state_is ∙ ap (λ (k : ℕ). (for_each k make first).1) same)

-- ---- rows
rises_more : (low : ℕ) (ks : List ℕ) (k m : ℕ) → RisesFrom low (ks ++ k ∷ []) → k < m → RisesFrom low ((ks ++ k ∷ []) ++ m ∷ [])
rises_more low [] k m h l = (h.0, (omega arith, tt))
rises_more low (x ∷ ks) k m h l = (h.0, rises_more (x + 1) ks k m h.1 l)

keys_of-append : (rows : Rows) (key : ℕ) (shape : Shape) → keys_of (rows ++ (key, shape) ∷ []) ≡ keys_of rows ++ key ∷ []
keys_of-append [] key shape = refl
keys_of-append (r ∷ rows) key shape = ap (λ (ks : List ℕ). r.0 ∷ ks) (keys_of-append rows key shape)

-- the key after those of the rows
keys_rise : (n first : ℕ) → IsRising (keys_of (for_each n row first).0 ++ suc n ∷ [])
keys_rise zero first = (omega arith, tt)
keys_rise (suc n) first =
    subst (λ (ks : List ℕ). IsRising (ks ++ suc (suc n) ∷ [])) (sym (keys_of-append (for_each n row first).0 (suc n) (rect (for_each n row first).1).0))
    (rises_more 0 (keys_of (for_each n row first).0) (suc n) (suc (suc n)) (keys_rise n first) (omega arith))

pub row_more : (rows new : Rows) (key first now later : ℕ) (shape : Shape) → Made (ℕ × Shape) row rows key first now →
    new ≡ rows ++ (key, shape) ∷ [] → shape ≡ (rect now).0 → later ≡ (rect now).1 → Made (ℕ × Shape) row new (key + 1) first later
row_more rows new key first now later shape m e s l = made_more row rows new key first now later (key, shape) m e (ap (λ (t : Shape). (key, t)) s) l

pub next_rises : (rows : Rows) (key first now : ℕ) → Made (ℕ × Shape) row rows key first now → IsRising (keys_of rows ++ key ∷ [])
next_rises rows key first now m =
    subst (λ (k : ℕ). IsRising (keys_of rows ++ k ∷ [])) (sym m.number_is)
    (subst (λ (rs : Rows). IsRising (keys_of rs ++ suc m.count ∷ [])) (sym m.made_is) (keys_rise m.count first))

-- ---- sessions
above_last : (ks : List ℕ) (k : ℕ) → above_all (ks ++ k ∷ []) ≡ k + 1
above_last [] k = refl
above_last (x ∷ []) k = refl
above_last (x ∷ y ∷ ks) k = above_last (y ∷ ks) k

numbers_of-append : (ss : List SessionScript) (s : SessionScript) → numbers_of (ss ++ s ∷ []) ≡ numbers_of ss ++ s.session ∷ []
numbers_of-append [] s = refl
numbers_of-append (t ∷ ss) s = ap (λ (ns : List ℕ). t.session ∷ ns) (numbers_of-append ss s)

number_of : (rows number state : ℕ) → (session_of rows number state).0.session ≡ number
unfolding session_of
number_of rows number state = refl

numbers_below : (rows n first : ℕ) → above_all (numbers_of (for_each n (session_of rows) first).0) ≤ suc n
numbers_below rows zero first = omega arith
numbers_below rows (suc n) first =
    let last = (session_of rows (suc n) (for_each n (session_of rows) first).1).0 in
    let e : above_all (numbers_of ((for_each n (session_of rows) first).0 ++ last ∷ [])) ≡ last.session + 1 =
    ap above_all (numbers_of-append (for_each n (session_of rows) first).0 last) ∙ above_last (numbers_of (for_each n (session_of rows) first).0) last.session in
    omega (arith, e, number_of rows (suc n) (for_each n (session_of rows) first).1)

pub next_above : (rows : ℕ) (ss : List SessionScript) (number first now : ℕ) → Made SessionScript (session_of rows) ss number first now → above_all (numbers_of ss) ≤ number
next_above rows ss number first now m =
    let below = numbers_below rows m.count first in
    subst (λ (us : List SessionScript). above_all (numbers_of us) ≤ number) (sym m.made_is) (omega (arith, below, m.number_is))

-- a further transaction of the session that stands last
pub last_gets : (ss : List SessionScript) (s : SessionScript) (t : TransactionPlan) → with_transaction t (ss ++ s ∷ []) ≡ ss ++ record s { transactions = s.transactions ++ t ∷ [] } ∷ []
last_gets [] s t = refl
last_gets (u ∷ []) s t = refl
last_gets (u ∷ v ∷ ss) s t = ap (λ (us : List SessionScript). u ∷ us) (last_gets (v ∷ ss) s t)

-- ---- scripts
-- the script has its settings and rows, and the sessions below this number
pub record MadeScript (seed rows : ℕ) (plan : Plan) (number now : ℕ) : Type 0 where
  pub settings_are : plan.settings ≡ settings
  pub rows_are : plan.rows ≡ (for_each rows row seed).0
  pub sessions_are : Made SessionScript (session_of rows) plan.sessions number (for_each rows row seed).1 now
  pub order_is : plan.order ≡ []

pub script_more : (seed rows number now later : ℕ) (plan new : Plan) → MadeScript seed rows plan number now →
    new ≡ record plan { sessions = plan.sessions ++ (session_of rows number now).0 ∷ [] } → later ≡ (session_of rows number now).1 →
    MadeScript seed rows new (number + 1) later
script_more seed rows number now later plan new m e l =
    subst (λ (p : Plan). MadeScript seed rows p (number + 1) later) (sym e)
    (record {
      settings_are = m.settings_are;
      rows_are = m.rows_are;
      sessions_are = made_more (session_of rows) plan.sessions _ number _ now later (session_of rows number now).0 m.sessions_are refl refl l;
      order_is = m.order_is;
    })

same_plan : (a b : Plan) → a.settings ≡ b.settings → a.rows ≡ b.rows → a.sessions ≡ b.sessions → a.order ≡ b.order → a ≡ b
same_plan a b s r t o = λ i. record { settings = s i; rows = r i; sessions = t i; order = o i }

pub script_made : (seed rows sessions number now : ℕ) (plan : Plan) → MadeScript seed rows plan number now → number ≡ sessions + 1 → plan ≡ script_of seed rows sessions
script_made seed rows sessions number now plan m e =
    same_plan plan (script_of seed rows sessions) m.settings_are m.rows_are (made_all (session_of rows) plan.sessions number _ now sessions m.sessions_are e).0 m.order_is
