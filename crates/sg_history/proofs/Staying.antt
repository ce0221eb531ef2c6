-- What the events of others leave of a session: all is as it was, unless it was made a victim.
use Rattle.std.proofs.Common.{◌≡◌, ◌≢◌, ℕ, Bool, true, false, cond, not, ◌&&◌, ◌⊎◌, List, [], ◌∷◌, ◌++◌, length, eqb, Some, None, refl, sym, ap, ◌∙◌, subst, inl, inr, ⊎_elim, arith, length-append}
use Rattle.std.proofs.lemmas.Bool.{eqb-true, eqb-false, eq-eqb, ne_eqb}
use Rattle.sg_cells.specs.Laws.{Has}
use Rattle.sg_modes.specs.Sessions.{has_session}
use Rattle.sg_plain.specs.declared.statements.Statement.{Statement}
use Rattle.sg_trace.specs.Traces.{Local, Stage, Event, Begin, Ask, Take, Put, Wait, Victim, Answered, Commit, Rollback, session_of, state, after, idle}
use Rattle.sg_trace.specs.Legal.{IsLegal, waits}
use Rattle.sg_trace.specs.Scripts.{is_victim}
use Rattle.sg_turns.proofs.Cycles.{chosen_waits}
use Rattle.sg_turns.proofs.Driven.{waits_open}
use Rattle.sg_history.specs.Histories.{own, is_own}
use Rattle.sg_history.specs.Staying.{local, IsClosed}

pub own_append : (s : ℕ) (xs ys : List Event) → own s (xs ++ ys) ≡ own s xs ++ own s ys
own_append s [] ys = refl
own_append s (x ∷ xs) ys = go (is_own s x) (own_append s xs ys)
  where
    go : (b : Bool) → own s (xs ++ ys) ≡ own s xs ++ own s ys → cond b (x ∷ own s (xs ++ ys)) (own s (xs ++ ys)) ≡ cond b (x ∷ own s xs) (own s xs) ++ own s ys
    go true e = ap (λ l. x ∷ l) e
    go false e = e

nil_front : (xs ys : List Event) → xs ++ ys ≡ ys → xs ≡ []
nil_front [] ys e = refl
nil_front (x ∷ xs) ys e = absurd (let a = ap length e in let b = length-append (x ∷ xs) ys in omega arith)

-- where a session's own events are the same, none came in between
pub none_own : (s : ℕ) (more es : List Event) → own s (more ++ es) ≡ own s es → own s more ≡ []
none_own s more es e = nil_front (own s more) (own s es) (sym (own_append s more es) ∙ e)

-- an event that isn't its own is another session's, or makes it a victim
other : (s : ℕ) (e : Event) (es : List Event) → own s (e ∷ es) ≡ [] → (own s es ≡ []) × ((session_of e ≢ s) ⊎ ((c : List ℕ) × (e ≡ Victim s c)))
other s e es h = go (is_own s e) refl h
  where
    victim : (e : Event) → eqb (session_of e) s ≡ true → (true && not (is_victim e)) ≡ false → (c : List ℕ) × (e ≡ Victim s c)
    victim (Victim u c) q n = (c, ap (λ v. Victim v c) (eqb-true u s q))
    victim (Begin u t) q n = absurd (cc)
    victim (Ask u t st) q n = absurd (cc)
    victim (Take u k m) q n = absurd (cc)
    victim (Put u k m) q n = absurd (cc)
    victim (Wait u k m b) q n = absurd (cc)
    victim (Answered u a) q n = absurd (cc)
    victim (Commit u p) q n = absurd (cc)
    victim (Rollback u c) q n = absurd (cc)

    which : (b : Bool) → eqb (session_of e) s ≡ b → (b && not (is_victim e)) ≡ false → (session_of e ≢ s) ⊎ ((c : List ℕ) × (e ≡ Victim s c))
    which true q n = inr (victim e q n)
    which false q n = inl (eqb-false (session_of e) s q)

    go : (b : Bool) → is_own s e ≡ b → cond b (e ∷ own s es) (own s es) ≡ [] → (own s es ≡ []) × ((session_of e ≢ s) ⊎ ((c : List ℕ) × (e ≡ Victim s c)))
    go true q h = absurd (cc)
    go false q h = (h, which (eqb (session_of e) s) refl q)

-- an event of another session leaves this one as it was
pub beside : (w : Stage) (e : Event) (es : List Event) (s : ℕ) → session_of e ≢ s → local w (e ∷ es) s ≡ local w es s
beside w e es s n = ap (λ b. cond b (after e ((state w es).of (session_of e))) ((state w es).of s)) (ne_eqb (session_of e) s n)

victim_idle : (w : Stage) (es : List Event) (s : ℕ) (c : List ℕ) → local w (Victim s c ∷ es) s ≡ idle (local w es s).begun
victim_idle w es s c = ap (λ b. cond b (idle ((state w es).of s).begun) ((state w es).of s)) (eq-eqb s s refl)

-- The events of others leave the session as it was; or one of them made it a victim, and it isn't live.
pub stays_or_yields : (w : Stage) (s : ℕ) (more es : List Event) → own s more ≡ [] → (local w (more ++ es) s ≡ local w es s) ⊎ ((c : List ℕ) × Has more (Victim s c) × (local w (more ++ es) s ≡ idle (local w es s).begun))
stays_or_yields w s [] es h = inl refl
stays_or_yields w s (e ∷ more) es h = go (stays_or_yields w s more es (other s e more h).0) (other s e more h).1
  where
    P : Type 0
    P = (local w (more ++ es) s ≡ local w es s) ⊎ ((c : List ℕ) × Has more (Victim s c) × (local w (more ++ es) s ≡ idle (local w es s).begun))

    go : P → (session_of e ≢ s) ⊎ ((c : List ℕ) × (e ≡ Victim s c)) → (local w (e ∷ (more ++ es)) s ≡ local w es s) ⊎ ((c : List ℕ) × Has (e ∷ more) (Victim s c) × (local w (e ∷ (more ++ es)) s ≡ idle (local w es s).begun))
    go (inl same) (inl n) = inl (beside w e (more ++ es) s n ∙ same)
    go (inr v) (inl n) = inr (v.0, inr v.1, beside w e (more ++ es) s n ∙ v.2)
    go (inl same) (inr v) = inr (v.0, inl v.1, subst (λ (d : Event). local w (d ∷ (more ++ es)) s ≡ idle (local w es s).begun) (sym v.1) (victim_idle w (more ++ es) s v.0 ∙ ap (λ (x : Local). idle x.begun) same))
    go (inr y) (inr v) = inr (v.0, inl v.1, subst (λ (d : Event). local w (d ∷ (more ++ es)) s ≡ idle (local w es s).begun) (sym v.1) (victim_idle w (more ++ es) s v.0 ∙ ap (λ (x : Local). idle x.begun) y.2))

-- a victim waits, so it has a statement open
victim_open : (w : Stage) (es : List Event) (s : ℕ) (c : List ℕ) → IsLegal w (Victim s c ∷ es) → IsClosed (local w es s) → ⊥
victim_open w es s c l closed = go (waits_open w es l.0 s)
  where
    go : (waits es s ≡ []) ⊎ ((((state w es).of s).live ≡ true) × ((st : Statement) × (((state w es).of s).open_one ≡ Some st))) → ⊥
    go (inl e) = let y = chosen_waits w es s c l.1 in let t : false ≡ true = ap (λ xs. has_session xs y.0) (sym e) ∙ y.1 in absurd (cc)
    go (inr o) = let q : Some o.1.0 ≡ None = sym o.1.1 ∙ closed in absurd (cc)

-- a session that has no statement open stays as it was, whatever others do
pub closed_stays : (w : Stage) (s : ℕ) (more es : List Event) → IsLegal w (more ++ es) → own s more ≡ [] → IsClosed (local w es s) → (local w (more ++ es) s ≡ local w es s) × ((c : List ℕ) → Has more (Victim s c) → ⊥)
closed_stays w s [] es l h closed = (refl, λ c has. has)
closed_stays w s (e ∷ more) es l h closed = go (closed_stays w s more es l.0 (other s e more h).0 closed) (other s e more h).1
  where
    go : (local w (more ++ es) s ≡ local w es s) × ((c : List ℕ) → Has more (Victim s c) → ⊥) → (session_of e ≢ s) ⊎ ((c : List ℕ) × (e ≡ Victim s c)) → (local w (e ∷ (more ++ es)) s ≡ local w es s) × ((c : List ℕ) → Has (e ∷ more) (Victim s c) → ⊥)
    go ih (inl n) = (beside w e (more ++ es) s n ∙ ih.0, λ c has. ⊎_elim (λ (q : e ≡ Victim s c). n (ap session_of q)) (λ (r : Has more (Victim s c)). ih.1 c r) has)
    go ih (inr v) = absurd (victim_open w (more ++ es) s v.0 (subst (λ (d : Event). IsLegal w (d ∷ (more ++ es))) v.1 l) (ap (λ (x : Local). x.open_one) ih.0 ∙ closed))

-- A session that others made a victim has nothing open, and isn't live.
pub yielded : (w : Stage) (s : ℕ) (c : List ℕ) (more es : List Event) → own s more ≡ [] → Has more (Victim s c) → (n : ℕ) × (local w (more ++ es) s ≡ idle n)
yielded w s c [] es h has = absurd has
yielded w s c (e ∷ more) es h (inl q) = ((local w (more ++ es) s).begun, subst (λ (d : Event). local w (d ∷ (more ++ es)) s ≡ idle (local w (more ++ es) s).begun) (sym q) (victim_idle w (more ++ es) s c))
yielded w s c (e ∷ more) es h (inr has) = go (yielded w s c more es (other s e more h).0 has) (other s e more h).1
  where
    go : (n : ℕ) × (local w (more ++ es) s ≡ idle n) → (session_of e ≢ s) ⊎ ((d : List ℕ) × (e ≡ Victim s d)) → (n : ℕ) × (local w (e ∷ (more ++ es)) s ≡ idle n)
    go ih (inl n) = (ih.0, beside w e (more ++ es) s n ∙ ih.1)
    go ih (inr v) = ((local w (more ++ es) s).begun, subst (λ (d : Event). local w (d ∷ (more ++ es)) s ≡ idle (local w (more ++ es) s).begun) (sym v.1) (victim_idle w (more ++ es) s v.0))

-- and it is so once
pub one_victim : (w : Stage) (s : ℕ) (c d : List ℕ) (more es : List Event) → IsLegal w (more ++ es) → own s more ≡ [] → Has more (Victim s c) → Has more (Victim s d) → d ≡ c
one_victim w s c d [] es l h p q = absurd p
one_victim w s c d (e ∷ more) es l h (inl p) (inl q) = let r : Victim s d ≡ Victim s c = sym q ∙ p in cc r
one_victim w s c d (e ∷ more) es l h (inl p) (inr q) =
    let y = yielded w s d more es (other s e more h).0 q in
    absurd (victim_open w (more ++ es) s c (subst (λ (x : Event). IsLegal w (x ∷ (more ++ es))) p l) (ap (λ (x : Local). x.open_one) y.1))
one_victim w s c d (e ∷ more) es l h (inr p) (inl q) =
    let y = yielded w s c more es (other s e more h).0 p in
    absurd (victim_open w (more ++ es) s d (subst (λ (x : Event). IsLegal w (x ∷ (more ++ es))) q l) (ap (λ (x : Local). x.open_one) y.1))
one_victim w s c d (e ∷ more) es l h (inr p) (inr q) = one_victim w s c d more es l.0 (other s e more h).0 p q
