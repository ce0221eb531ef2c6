-- Sound sessions: they stay sound with a further transaction, and what is looked up of them is sound.
use Rattle.std.proofs.Common.{◌≡◌, ℕ, ◌<◌, List, [], ◌∷◌, ◌++◌, length, get_or, Bool, true, false, cond, Option, Some, None, Result, Ok, Err, sym, ap, ◌∙◌, subst, inl, inr, All, eqb}
use Rattle.std.specs.Prelude.{IfSome, OnOk, OnErr, slice_get}
use Rattle.std.specs.Borrow.{Bor}
use Rattle.std.specs.Option.{option_copied}
use Rattle.std.proofs.lemmas.List.Elements.{All-push, All-get_or, All-set, All-head, All-tail, All-nil}
use Rattle.std.proofs.lemmas.Option.{slice_get_cases}
use Rattle.std.proofs.Math.ListN.{set}
use Rattle.sg_modes.specs.Priorities.{IsPriority}
use Rattle.sg_plain.specs.Sat.{AreSound}
use Rattle.sg_plain.specs.Transactions.{TransactionPlan}
use Rattle.sg_script.specs.declared.sessions.SessionScript.{SessionScript}
use Rattle.sg_script.specs.Plans.{IsSoundSession, session_at}

abbrev HasSound : TransactionPlan → Type 0
HasSound t = AreSound t.statements

-- a session without transactions is
pub sound_begun : (ss : List SessionScript) (s : SessionScript) → All IsSoundSession ss → IsPriority s.priority → s.transactions ≡ [] → All IsSoundSession (ss ++ s ∷ [])
sound_begun ss s h p none = All-push IsSoundSession ss s h (record { priority = p; statements = subst (All HasSound) (sym none) (All-nil HasSound) })

more_sound : {T E : Type 0} (ts us : List TransactionPlan) (t : TransactionPlan) (r : Result T E) → All HasSound ts → HasSound t →
    OnOk r (us ≡ ts ++ t ∷ []) → OnErr r (us ≡ ts) → All HasSound us
more_sound ts us t (Ok x) h sound ok err = subst (All HasSound) (sym ok) (All-push HasSound ts t h sound)
more_sound ts us t (Err e) h sound ok err = subst (All HasSound) (sym err) h

-- with a further transaction of one session, or with none where it was not pushed
pub sound_pushed : {T E : Type 0} (ss : List SessionScript) (n : ℕ) (x : SessionScript) (us : List TransactionPlan) (t : TransactionPlan) (r : Result T E) →
    All IsSoundSession ss → n < length ss → x ≡ get_or ss n x → HasSound t → OnOk r (us ≡ x.transactions ++ t ∷ []) → OnErr r (us ≡ x.transactions) →
    All IsSoundSession (set ss n (record { session = x.session; priority = x.priority; transactions = us }))
sound_pushed ss n x us t r h within at sound ok err =
    let found : IsSoundSession x = subst IsSoundSession (sym at) (All-get_or IsSoundSession ss n x within h) in
    All-set IsSoundSession ss n (record { session = x.session; priority = x.priority; transactions = us })
    (record { priority = found.priority; statements = more_sound x.transactions us t r found.statements sound ok err }) h

pub sound_session : (ss : List SessionScript) (n : ℕ) → All IsSoundSession ss → IfSome (session_at ss n) IsSoundSession
sound_session [] n h = tt
sound_session (s ∷ ss) n h = go (eqb s.session n) (session_at ss n) (sound_session ss n (All-tail IsSoundSession s ss h))
  where
    go : (b : Bool) (rest : Option SessionScript) → IfSome rest IsSoundSession → IfSome (cond b (Some s) rest) IsSoundSession
    go true rest r = All-head IsSoundSession s ss h
    go false rest r = r

-- a session that was found, among these or equal ones, is sound
pub sound_found : (o : Option (Bor SessionScript)) (x : Bor SessionScript) (ss ts : List SessionScript) (n : ℕ) → o ≡ Some x → option_copied o ≡ session_at ss n →
    ss ≡ ts → All IsSoundSession ts → IsSoundSession x.now
sound_found o x ss ts n e f same h =
    let g : session_at ss n ≡ Some x.now = sym f ∙ ap option_copied e in
    subst (λ (p : Option SessionScript). IfSome p IsSoundSession) g (sound_session ss n (subst (All IsSoundSession) (sym same) h))

sound_at : (ts : List TransactionPlan) (place : ℕ) → All HasSound ts → IfSome (slice_get ts place) HasSound
sound_at ts place h = elim (slice_get_cases ts place).1 [
  | inl w ↦ subst (λ (o : Option TransactionPlan). IfSome o HasSound) (sym w.2) (subst HasSound w.3 (All-get_or HasSound ts place w.0 w.1 h))
  | inr w ↦ subst (λ (o : Option TransactionPlan). IfSome o HasSound) (sym w.1) tt
]

-- and so is a transaction that was found in it
pub sound_lent : (o : Option (Bor TransactionPlan)) (s : SessionScript) (place : ℕ) → option_copied o ≡ slice_get s.transactions place → IsSoundSession s →
    IfSome o (λ t. HasSound t.now)
sound_lent None s place e h = tt
sound_lent (Some t) s place e h = subst (λ (q : Option TransactionPlan). IfSome q HasSound) (sym e) (sound_at s.transactions place h.statements)
