-- What its own events alone leave of a session that is live is what the whole history leaves of it.
use Rattle.std.proofs.Common.{◌≡◌, ℕ, suc, Bool, true, false, cond, not, ◌&&◌, List, [], ◌∷◌, eqb, refl, sym, ap, subst}
use Rattle.std.proofs.lemmas.Bool.{eqb-true}
use Rattle.sg_trace.specs.Traces.{Local, Stage, Event, Begin, Ask, Take, Put, Wait, Victim, Answered, Commit, Rollback, session_of, after, idle}
use Rattle.sg_trace.specs.Legal.{IsLegal}
use Rattle.sg_trace.specs.Scripts.{is_victim}
use Rattle.sg_history.specs.Histories.{own}
use Rattle.sg_history.specs.Staying.{local, made}

-- as many transactions were begun, and all is the same where one is live
record IsAlike (x y : Local) : Type 0 where
  begun : x.begun ≡ y.begun
  same : y.live ≡ true → x ≡ y

alike : (x y : Local) → x ≡ y → IsAlike x y
alike x y e = record { begun = ap (λ (z : Local). z.begun) e; same = λ _. e }

-- the session's own event, but not that which made it a victim
own_alike : (w : Stage) (e : Event) (es : List Event) → IsLegal w (e ∷ es) → is_victim e ≡ false → (x : Local) → IsAlike x (local w es (session_of e)) → IsAlike (after e x) (after e (local w es (session_of e)))
own_alike w (Begin u n) es l q x h = alike (after (Begin u n) x) (after (Begin u n) (local w es u)) (ap (λ m. record (idle (suc m)) { live = true }) h.begun)
own_alike w (Ask u n st) es l q x h = alike (after (Ask u n st) x) (after (Ask u n st) (local w es u)) (ap (after (Ask u n st)) (h.same l.1.0.live))
own_alike w (Take u k m) es l q x h = alike (after (Take u k m) x) (after (Take u k m) (local w es u)) (ap (after (Take u k m)) (h.same l.1.1.live))
own_alike w (Put u k m) es l q x h = alike (after (Put u k m) x) (after (Put u k m) (local w es u)) (ap (after (Put u k m)) (h.same l.1.1.live))
own_alike w (Wait u k m b) es l q x h = h
own_alike w (Victim u c) es l q x h = absurd (cc)
own_alike w (Answered u a) es l q x h = alike (after (Answered u a) x) (after (Answered u a) (local w es u)) (ap (after (Answered u a)) (h.same l.1.1.live))
own_alike w (Commit u p) es l q x h = alike (idle x.begun) (idle (local w es u).begun) (ap idle h.begun)
own_alike w (Rollback u c) es l q x h = alike (idle x.begun) (idle (local w es u).begun) (ap idle h.begun)

victim_alike : (w : Stage) (e : Event) (es : List Event) → is_victim e ≡ true → (x : Local) → IsAlike x (local w es (session_of e)) → IsAlike x (after e (local w es (session_of e)))
victim_alike w (Victim u c) es q x h = record { begun = h.begun; same = λ live. absurd (cc) }
victim_alike w (Begin u n) es q x h = absurd (cc)
victim_alike w (Ask u n st) es q x h = absurd (cc)
victim_alike w (Take u k m) es q x h = absurd (cc)
victim_alike w (Put u k m) es q x h = absurd (cc)
victim_alike w (Wait u k m b) es q x h = absurd (cc)
victim_alike w (Answered u a) es q x h = absurd (cc)
victim_alike w (Commit u p) es q x h = absurd (cc)
victim_alike w (Rollback u c) es q x h = absurd (cc)

all_alike : (w : Stage) (s : ℕ) (es : List Event) → IsLegal w es → IsAlike (made (own s es)) (local w es s)
all_alike w s [] l = alike (idle 0) (idle 0) refl
all_alike w s (e ∷ es) l = go (eqb (session_of e) s) refl (all_alike w s es l.0)
  where
    same : session_of e ≡ s → IsAlike (made (own s es)) (local w es s) → (v : Bool) → is_victim e ≡ v → IsAlike (made (cond (true && not v) (e ∷ own s es) (own s es))) (after e (local w es (session_of e)))
    same q h true is = victim_alike w e es is (made (own s es)) (subst (λ u. IsAlike (made (own s es)) (local w es u)) (sym q) h)
    same q h false is = own_alike w e es l is (made (own s es)) (subst (λ u. IsAlike (made (own s es)) (local w es u)) (sym q) h)

    go : (b : Bool) → eqb (session_of e) s ≡ b → IsAlike (made (own s es)) (local w es s) → IsAlike (made (cond (b && not (is_victim e)) (e ∷ own s es) (own s es))) (cond b (after e (local w es (session_of e))) (local w es s))
    go true q h = same (eqb-true (session_of e) s q) h (is_victim e) refl
    go false q h = h

pub made_is : (w : Stage) (s : ℕ) (es : List Event) → IsLegal w es → (local w es s).live ≡ true → made (own s es) ≡ local w es s
made_is w s es l live = (all_alike w s es l).same live
