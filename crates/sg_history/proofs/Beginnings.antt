-- Beginnings of histories, and a session's own events.
use Rattle.std.proofs.Common.{◌≡◌, ◌≢◌, ℕ, Bool, true, false, cond, not, ◌&&◌, ◌⊎◌, List, [], ◌∷◌, ◌++◌, eqb, refl, sym, ap, ◌∙◌, inl, inr, append_assoc, append-nil}
use Rattle.std.proofs.lemmas.Bool.{ne_eqb}
use Rattle.sg_trace.specs.Traces.{Event, session_of}
use Rattle.sg_trace.specs.Scripts.{is_victim}
use Rattle.sg_history.specs.Histories.{Begins, own, is_own}

pub begins_itself : (es : List Event) → Begins es es
begins_itself es = ([], refl)

pub begins_empty : (es : List Event) → Begins [] es
begins_empty es = (es, sym (append-nil es))

pub begins_longer : (e : Event) (xs ys : List Event) → Begins xs ys → Begins xs (e ∷ ys)
begins_longer e xs ys p = (e ∷ p.0, ap (λ l. e ∷ l) p.1)

pub begins_through : (xs ys zs : List Event) → Begins xs ys → Begins ys zs → Begins xs zs
begins_through xs ys zs p q = (q.0 ++ p.0, q.1 ∙ (ap (λ l. q.0 ++ l) p.1 ∙ sym (append_assoc q.0 p.0 xs)))

-- an event of another session, or a victim's, isn't the session's own
pub not_own : (s u : ℕ) (e : Event) → (session_of e ≡ u) ⊎ (is_victim e ≡ true) → s ≢ u → is_own s e ≡ false
not_own s u e (inl q) n = ap (λ b. b && not (is_victim e)) (ne_eqb (session_of e) s (λ r. n (sym r ∙ q)))
not_own s u e (inr q) n = ap (λ b. eqb (session_of e) s && not b) q ∙ no (eqb (session_of e) s)
  where
    no : (b : Bool) → (b && false) ≡ false
    no true = refl
    no false = refl

pub own_without : (s u : ℕ) (e : Event) (es : List Event) → (session_of e ≡ u) ⊎ (is_victim e ≡ true) → s ≢ u → own s (e ∷ es) ≡ own s es
own_without s u e es w n = ap (λ b. cond b (e ∷ own s es) (own s es)) (not_own s u e w n)
