-- A result is that of the job that is waited for, or it is a stranger for one reason.
use Rattle.std.specs.Prelude.{OnOk, IfErr, IsOk, Result, Ok, Err}
use Rattle.std.proofs.Common.{◌≡◌, ◌↔◌, ◌⊎◌, inl, inr, ℕ, zero, suc, ◌<◌, List, [], ◌∷◌, Option, Some, None, take, slice_get, refl, ap, subst, arith}
use Rattle.sg_plain.specs.Rows.{Rows}
use Rattle.sg_refine.specs.Jobs.{Job}
use Rattle.sg_engine.specs.declared.delivery.Stranger.{Stranger}
use Rattle.sg_engine.specs.declared.delivery.Stranger.TheVariants.{Name, Asked, Item}
use Rattle.sg_engine.specs.Strangers.{IsFirstOther, IsStranger}

-- lists that begin alike have the same item there
within : {A : Type 0} (xs ys : List A) (n m : ℕ) → n < m → take m xs ≡ take m ys → slice_get xs n ≡ slice_get ys n
within xs ys n zero h e = absurd (omega arith)
within [] [] n (suc m) h e = refl
within [] (y ∷ ys) n (suc m) h e = absurd (cc)
within (x ∷ xs) [] n (suc m) h e = absurd (cc)
within (x ∷ xs) (y ∷ ys) zero (suc m) h e = cc
within (x ∷ xs) (y ∷ ys) (suc n) (suc m) h e = within xs ys n m (omega arith) (cc)

order : (n m : ℕ) → (n < m) ⊎ (n ≡ m) ⊎ (m < n)
order zero zero = inr (inl refl)
order zero (suc m) = inl (omega arith)
order (suc n) zero = inr (inr (omega arith))
order (suc n) (suc m) = elim (order n m) [ inl h ↦ inl (omega arith) | inr (inl e) ↦ inr (inl (ap suc e)) | inr (inr h) ↦ inr (inr (omega arith)) ]

first_alone : (xs ys : Rows) (n m : ℕ) → IsFirstOther xs ys n → IsFirstOther xs ys m → n ≡ m
first_alone xs ys n m p q = elim (order n m) [ inl h ↦ absurd (p.other (within xs ys n m h q.before)) | inr (inl e) ↦ e | inr (inr h) ↦ absurd (q.other (within xs ys m n h p.before)) ]

-- there is one reason
alone : (o : Option Job) (come : Job) (a b : Stranger) → IsStranger o come a → IsStranger o come b → a ≡ b
alone None come (Name e g) (Name e' g') p q = cc
alone None come (Name e g) (Asked g') p q = absurd q
alone None come (Name e g) (Item n') p q = absurd q
alone None come (Asked g) b p q = absurd p
alone None come (Item n) b p q = absurd p
alone (Some job) come (Name e g) (Name e' g') p q = cc
alone (Some job) come (Name e g) (Asked g') p q = absurd (p.2 q.1)
alone (Some job) come (Name e g) (Item n') p q = absurd (p.2 q.0)
alone (Some job) come (Asked g) (Name e' g') p q = absurd (q.2 p.1)
alone (Some job) come (Asked g) (Asked g') p q = cc
alone (Some job) come (Asked g) (Item n') p q = absurd (p.2 q.1)
alone (Some job) come (Item n) (Name e' g') p q = absurd (q.2 p.0)
alone (Some job) come (Item n) (Asked g') p q = absurd (q.2 p.1)
alone (Some job) come (Item n) (Item n') p q = ap Item (first_alone job.items come.items n n' p.2 q.2)

-- and none for the job itself
not_itself : (job : Job) (a : Stranger) → IsStranger (Some job) job a → ⊥
not_itself job (Name e g) p = p.2 refl
not_itself job (Asked g) p = p.2 (record { test = refl; query = refl })
not_itself job (Item n) p = p.2.other refl

module _ (o : Option Job) (come : Job) where
  pub taken : (r : Result Unit Stranger) → OnOk r (o ≡ Some come) → IfErr r (IsStranger o come) → IsOk r ↔ (o ≡ Some come)
  taken (Ok x) h k = (λ _. h, λ _. refl)
  taken (Err why) h k = (λ e. absurd (cc), λ e. absurd (not_itself come why (subst (λ (p : Option Job). IsStranger p come why) e k)))

  pub refused : (r : Result Unit Stranger) → OnOk r (o ≡ Some come) → IfErr r (IsStranger o come) → (why : Stranger) → (r ≡ Err why) ↔ IsStranger o come why
  refused (Ok x) h k why = (λ e. absurd (cc), λ s. absurd (not_itself come why (subst (λ (p : Option Job). IsStranger p come why) h s)))
  refused (Err a) h k why = (λ e. let same : a ≡ why = cc in subst (IsStranger o come) same k, λ s. ap Err (alone o come a why k s))
