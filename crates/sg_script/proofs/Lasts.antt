-- The last session of a script.
use Rattle.std.proofs.Common.{Contains, Some, take, append_assoc, ◌≡◌, ◌≢◌, ℕ, zero, suc, ◌-◌, ◌+◌, ◌≤◌, ◌<◌, List, [], ◌∷◌, ◌++◌, length, get_or, map, refl, sym, ap, ◌∙◌, subst, arith}
use Rattle.std.proofs.Math.ListN.{set}
use Rattle.sg_cells.specs.declared.settings.Settings.{Settings}
use Rattle.sg_plain.specs.Transactions.{TransactionPlan}
use Rattle.sg_script.specs.declared.sessions.SessionScript.{SessionScript}
use Rattle.sg_plain.specs.Rows.{Rows}
use Rattle.std.proofs.lemmas.List.{take_more}
use Rattle.std.proofs.lemmas.List.Elements.{Contains-append_left, All-weaker, All-append, All-take}
use Rattle.std.proofs.lemmas.Option.{get_or_from_slice_get, slice_get_within}
use Rattle.std.specs.Prelude.{slice_get}
use Rattle.sg_script.specs.Plans.{IsOrderOf, Plan, above_all, with_transaction, numbers_of}
use Rattle.sg_plain.specs.Keys.{IsRising, RisesFrom}

abbrev pub longer : TransactionPlan → SessionScript → SessionScript
longer t s = record s { transactions = s.transactions ++ t ∷ [] }

pub with_transaction-set : (t : TransactionPlan) (ss : List SessionScript) (n : ℕ) (x : SessionScript) →
    suc n ≡ length ss → x ≡ get_or ss n x → with_transaction t ss ≡ set ss n (longer t x)
with_transaction-set t [] n x e f = cc
with_transaction-set t (s ∷ []) zero x e f = ap (λ (u : SessionScript). longer t u ∷ []) (sym f)
with_transaction-set t (s ∷ []) (suc n) x e f = cc
with_transaction-set t (s ∷ u ∷ rest) zero x e f = cc
with_transaction-set t (s ∷ u ∷ rest) (suc n) x e f =
    ap (λ (us : List SessionScript). s ∷ us) (with_transaction-set t (u ∷ rest) n x (suc_same e) f)
  where
    suc_same : {a b : ℕ} → suc a ≡ suc b → a ≡ b
    suc_same h = cc

pub numbers_of-with : (t : TransactionPlan) (ss : List SessionScript) → numbers_of (with_transaction t ss) ≡ numbers_of ss
numbers_of-with t [] = refl
numbers_of-with t (s ∷ []) = refl
numbers_of-with t (s ∷ u ∷ rest) = ap (λ (ns : List ℕ). s.session ∷ ns) (numbers_of-with t (u ∷ rest))

-- a session of the same number in the place of one changes no numbers
pub numbers_of-set : (ss : List SessionScript) (n : ℕ) (x y : SessionScript) → y.session ≡ x.session → x ≡ get_or ss n x → numbers_of (set ss n y) ≡ numbers_of ss
numbers_of-set [] n x y e f = refl
numbers_of-set (s ∷ ss) zero x y e f = ap (λ (n : ℕ). n ∷ numbers_of ss) (e ∙ ap (λ (u : SessionScript). u.session) f)
numbers_of-set (s ∷ ss) (suc n) x y e f = ap (λ (ns : List ℕ). s.session ∷ ns) (numbers_of-set ss n x y e f)

abbrev plan_with : Settings → Rows → List ℕ → List SessionScript → Plan
plan_with settings rows order sessions = record { settings = settings; rows = rows; sessions = sessions; order = order }

some_length : (ss : List SessionScript) → ss ≢ [] → suc (length ss - 1) ≡ length ss
some_length [] e = absurd (e refl)
some_length (s ∷ ss) e = omega arith

-- the last place is one of the list
pub last_within : (ss : List SessionScript) (n : ℕ) → ss ≢ [] → n ≡ length ss → n - 1 < length ss
last_within ss n some e = omega (arith, some_length ss some)

pub added_last : (plan : Plan) (settings : Settings) (rows : Rows) (order : List ℕ) (items : List SessionScript) (n : ℕ) (x : SessionScript) (ts : List TransactionPlan) (t : TransactionPlan) →
    plan_with settings rows order items ≡ plan → plan.sessions ≢ [] → n ≡ length items → x ≡ get_or items (n - 1) x → ts ≡ x.transactions ++ t ∷ [] →
    plan_with settings rows order (set items (n - 1) (record { session = x.session; priority = x.priority; transactions = ts })) ≡ record plan { sessions = with_transaction t plan.sessions }
added_last plan settings rows order items n x ts t e some len at more =
    let f : Plan → Type 0 = λ (p : Plan). p.sessions ≢ [] → plan_with settings rows order (set items (n - 1) (record { session = x.session; priority = x.priority; transactions = ts })) ≡ record p { sessions = with_transaction t p.sessions } in
    subst f e inside some
  where
    inside : items ≢ [] → plan_with settings rows order (set items (n - 1) (record { session = x.session; priority = x.priority; transactions = ts })) ≡ plan_with settings rows order (with_transaction t items)
    inside s =
        let one : suc (n - 1) ≡ length items = ap (λ (m : ℕ). suc (m - 1)) len ∙ some_length items s in
        ap (plan_with settings rows order)
        (ap (λ (us : List TransactionPlan). set items (n - 1) (record { session = x.session; priority = x.priority; transactions = us })) more
        ∙ sym (with_transaction-set t items (n - 1) x one at))

-- ---- above all
pub above_all-last : {X : Type 0} (f : X → ℕ) (xs : List X) (n : ℕ) (d : X) → suc n ≡ length xs → above_all (map f xs) ≡ f (get_or xs n d) + 1
above_all-last f [] n d e = cc
above_all-last f (x ∷ []) zero d e = refl
above_all-last f (x ∷ []) (suc n) d e = cc
above_all-last f (x ∷ y ∷ xs) zero d e = cc
above_all-last f (x ∷ y ∷ xs) (suc n) d e = above_all-last f (y ∷ xs) n d (suc_same e)
  where
    suc_same : {a b : ℕ} → suc a ≡ suc b → a ≡ b
    suc_same h = cc

rises_on : (low j : ℕ) (ks : List ℕ) (k : ℕ) → RisesFrom low (j ∷ ks) → above_all (j ∷ ks) ≤ k → RisesFrom low (j ∷ (ks ++ k ∷ []))
rises_on low j [] k h a = (h.0, (a, tt))
rises_on low j (l ∷ ks) k h a = (h.0, rises_on (j + 1) l ks k h.1 a)

-- a number above all of them goes on
pub rising_push : (ks : List ℕ) (k : ℕ) → IsRising ks → above_all ks ≤ k → IsRising (ks ++ k ∷ [])
rising_push [] k h a = (a, tt)
rising_push (j ∷ ks) k h a = rises_on 0 j ks k h a

pub numbers_of-append : (ss : List SessionScript) (s : SessionScript) → numbers_of (ss ++ s ∷ []) ≡ numbers_of ss ++ s.session ∷ []
numbers_of-append [] s = refl
numbers_of-append (t ∷ ss) s = ap (λ (ns : List ℕ). t.session ∷ ns) (numbers_of-append ss s)

pub some_more : {X : Type 0} (xs : List X) (x : X) → xs ++ x ∷ [] ≢ []
some_more [] x e = cc
some_more (y ∷ xs) x e = cc

-- ---- the order of turns
later : (ns : List ℕ) (k m : ℕ) → Contains ns m → Contains (ns ++ k ∷ []) m
later ns k m h = Contains-append_left ns (k ∷ []) m h

-- a further session leaves the order one of the script's sessions
pub order_later : (ss : List SessionScript) (s : SessionScript) (order : List ℕ) → IsOrderOf (numbers_of ss) order → IsOrderOf (numbers_of (ss ++ s ∷ [])) order
order_later ss s order h =
    subst (λ (ns : List ℕ). IsOrderOf ns order) (sym (numbers_of-append ss s))
    (All-weaker (λ n. Contains (numbers_of ss) n) (λ n. Contains (numbers_of ss ++ s.session ∷ []) n) (λ n. later (numbers_of ss) s.session n) order h)

-- a further turn of these, after those that were put
pub turn_put : (old order new turns : List ℕ) (i s : ℕ) → order ≡ old ++ take i turns → slice_get turns i ≡ Some s → new ≡ order ++ s ∷ [] → new ≡ old ++ take (i + 1) turns
turn_put old order new turns i s o at n =
    n ∙ (ap (λ (xs : List ℕ). xs ++ s ∷ []) o
    ∙ (append_assoc old (take i turns) (s ∷ [])
    ∙ ap (λ (xs : List ℕ). old ++ xs)
    (ap (λ (x : ℕ). take i turns ++ x ∷ []) (sym (get_or_from_slice_get turns i s 0 at)) ∙ sym (take_more turns i 0 (slice_get_within turns i s at)))))

-- all that was put is of the sessions
pub put_each : (numbers old order turns : List ℕ) (i : ℕ) → order ≡ old ++ take i turns → IsOrderOf numbers old → IsOrderOf numbers turns → IsOrderOf numbers order
put_each numbers old order turns i o h t =
    subst (IsOrderOf numbers) (sym o) (All-append (Contains numbers) old (take i turns) h (All-take (Contains numbers) i turns t))
