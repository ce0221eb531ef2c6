-- Members and properties of each member of a list.
use Rattle.std.proofs.Common.{◌≡◌, refl, sym, ap, ◌∙◌, subst, Bool, true, List, [], ◌∷◌, ◌++◌, map}
use Rattle.std.specs.List.{list_any, flat_map}
use mathlib.Core.Logic.{◌⊎◌, inl, inr}
use Rattle.sg_algebra.proofs.Comparisons.{or_left, or_right, either_true}

abbrev pub Has : {A : Type 0} → List A → A → Type 0
Has [] a = ⊥
Has (x ∷ xs) a = (x ≡ a) ⊎ Has xs a

abbrev pub Each : {A : Type 0} → (A → Type 0) → List A → Type 0
Each P [] = Unit {0}
Each P (x ∷ xs) = P x × Each P xs

pub each_more : {A : Type 0} {P Q : A → Type 0} → ((x : A) → P x → Q x) → (xs : List A) → Each P xs → Each Q xs
each_more f [] h = tt
each_more f (x ∷ xs) h = (f x h.0, each_more f xs h.1)

pub each_both : {A : Type 0} {P Q R : A → Type 0} → ((x : A) → P x → Q x → R x) → (xs : List A) → Each P xs → Each Q xs → Each R xs
each_both f [] h k = tt
each_both f (x ∷ xs) h k = (f x h.0 k.0, each_both f xs h.1 k.1)

pub each_from-map : {A B : Type 0} (P : B → Type 0) (f : A → B) (xs : List A) → Each P (map f xs) → Each (λ x. P (f x)) xs
each_from-map P f [] h = tt
each_from-map P f (x ∷ xs) h = (h.0, each_from-map P f xs h.1)

pub each_left : {A : Type 0} (P : A → Type 0) (xs ys : List A) → Each P (xs ++ ys) → Each P xs
each_left P [] ys h = tt
each_left P (x ∷ xs) ys h = (h.0, each_left P xs ys h.1)

pub each_right : {A : Type 0} (P : A → Type 0) (xs ys : List A) → Each P (xs ++ ys) → Each P ys
each_right P [] ys h = h
each_right P (x ∷ xs) ys h = each_right P xs ys h.1

pub each_from-flat : {A B : Type 0} (P : B → Type 0) (f : A → List B) (xs : List A) → Each P (flat_map f xs) → Each (λ x. Each P (f x)) xs
each_from-flat P f [] h = tt
each_from-flat P f (x ∷ xs) h = (each_left P (f x) (flat_map f xs) h, each_from-flat P f xs (each_right P (f x) (flat_map f xs) h))

pub has-left : {A : Type 0} (xs ys : List A) (a : A) → Has xs a → Has (xs ++ ys) a
has-left [] ys a h = absurd h
has-left (x ∷ xs) ys a (inl e) = inl e
has-left (x ∷ xs) ys a (inr h) = inr (has-left xs ys a h)

pub has-right : {A : Type 0} (xs ys : List A) (a : A) → Has ys a → Has (xs ++ ys) a
has-right [] ys a h = h
has-right (x ∷ xs) ys a h = inr (has-right xs ys a h)

pub has-map : {A B : Type 0} (f : A → B) (xs : List A) (a : A) → Has xs a → Has (map f xs) (f a)
has-map f [] a h = absurd h
has-map f (x ∷ xs) a (inl e) = inl (ap f e)
has-map f (x ∷ xs) a (inr h) = inr (has-map f xs a h)

pub has-flat : {A B : Type 0} (f : A → List B) (xs : List A) (a : A) (b : B) → Has xs a → Has (f a) b → Has (flat_map f xs) b
has-flat f [] a b h k = absurd h
has-flat f (x ∷ xs) a b (inl e) k = has-left (f x) (flat_map f xs) b (subst (λ z. Has (f z) b) (sym e) k)
has-flat f (x ∷ xs) a b (inr h) k = has-right (f x) (flat_map f xs) b (has-flat f xs a b h k)

pub any-has : {A : Type 0} (t : A → Bool) (xs : List A) (a : A) → Has xs a → t a ≡ true → list_any t xs ≡ true
any-has t [] a h e = absurd h
any-has t (x ∷ xs) a (inl g) e = or_left (t x) (list_any t xs) (ap t g ∙ e)
any-has t (x ∷ xs) a (inr h) e = or_right (t x) (list_any t xs) (any-has t xs a h e)

pub has-any : {A : Type 0} (t : A → Bool) (xs : List A) → list_any t xs ≡ true → (a : A) × (t a ≡ true)
has-any t [] e = absurd (cc)
has-any t (x ∷ xs) e = elim (either_true (t x) (list_any t xs) e) [ inl h ↦ (x, h) | inr h ↦ has-any t xs h ]

pub each_append : {A : Type 0} (P : A → Type 0) (xs ys : List A) → Each P xs → Each P ys → Each P (xs ++ ys)
each_append P [] ys h k = k
each_append P (x ∷ xs) ys h k = (h.0, each_append P xs ys h.1 k)

pub each_to-flat : {A B : Type 0} (P : B → Type 0) (f : A → List B) → ((x : A) → Each P (f x)) → (xs : List A) → Each P (flat_map f xs)
each_to-flat P f h [] = tt
each_to-flat P f h (x ∷ xs) = each_append P (f x) (flat_map f xs) (h x) (each_to-flat P f h xs)

pub each_has : {A : Type 0} (P : A → Type 0) (xs : List A) (a : A) → Each P xs → Has xs a → P a
each_has P [] a h k = absurd k
each_has P (x ∷ xs) a h (inl e) = subst P e h.0
each_has P (x ∷ xs) a h (inr k) = each_has P xs a h.1 k

pub any-member : {A : Type 0} (t : A → Bool) (xs : List A) → list_any t xs ≡ true → (a : A) × Has xs a × (t a ≡ true)
any-member t [] h = absurd (cc)
any-member t (x ∷ xs) h =
    elim (either_true (t x) (list_any t xs) h) [
      | inl k ↦ (x, inl refl, k)
      | inr k ↦ let r : (a : _) × Has xs a × (t a ≡ true) = any-member t xs k in (r.0, inr r.1, r.2)
    ]
