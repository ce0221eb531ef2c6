-- Laws of words of sessions.
use Rattle.std.specs.Prelude.{◌≡◌, ◌≢◌, ℕ, zero, suc, ◌+◌, ◌-◌, ◌*◌, ◌%◌, ◌^◌, ◌<◌, ◌≤◌, Bool, true, false, not, ◌&&◌, ◌||◌, ◌⊎◌, List, [], ◌∷◌, eqb, refl, bit_or, bit_and, Option, Some, None, slice_get, filter, min}
use Rattle.std.proofs.Common.{sym, ap, ◌∙◌, subst, inl, inr, arith, eqb-true, eq-eqb, w64}
use Rattle.std.proofs.lemmas.Nat.{or_lt, pow_pos}
use Rattle.std.proofs.Math.Pow.{pow-lt}
use Rattle.std.proofs.lemmas.Nat.Bits.{bit_at-zero, bit_at_ones, bit_at_and, bit_at-lt, bit_at_set_same, bit_at_set_other, bit_at_clear_same, bit_at_clear_other, bit_at-trailing_zeros, and_pow, same_from_bits_below}
use lib.Count.{count_trailing_zeros}
use Rattle.std.specs.Option.{SomeIff}
use Rattle.std.specs.Int.{bit_at, bit_not, trailing_zeros}
use Rattle.sg_modes.specs.Sessions.{IsSession, RisingAbove, AreSessions, has_session, with_session, without_session}
use Rattle.sg_modes.specs.Words.{is_set, members_from, members, word_of}
use Rattle.sg_modes.proofs.BoolLaws.{true_or_false, clash, same_tests, or_left, ne-eqb, eqb-false, by_test}
use Rattle.sg_modes.proofs.SessionLaws.{RisingAbove-lower, has_session-below, same_sessions, has_session-with, AreSessions-with, has_session-without, AreSessions-without, RisingAbove-filter, has_session-filter}

same_or_after : (i y : ℕ) → i ≤ y → (i ≡ y) ⊎ (suc i ≤ y)
same_or_after i y l = grind arith

-- the members from bit i on are above i
pub members_from-RisingAbove : (word count i : ℕ) → i + count ≤ 64 → RisingAbove i (members_from word count i)
members_from-RisingAbove word zero i h = tt
members_from-RisingAbove word (suc count) i h =
    let rest : RisingAbove (suc i) (members_from word count (suc i)) = members_from-RisingAbove word count (suc i) (omega arith) in
    by_test (λ ks. RisingAbove i ks) (is_set word i) (suc i ∷ members_from word count (suc i)) (members_from word count (suc i)) (λ t. (omega arith, omega arith, rest))
    (λ f. RisingAbove-lower (members_from word count (suc i)) (suc i) i rest (omega arith))

-- bit y is session y + 1
pub has_session-members_from : (word count i y : ℕ) → i + count ≤ 64 → i ≤ y → y < i + count → has_session (members_from word count i) (suc y) ≡ is_set word y
has_session-members_from word zero i y b l h = absurd (omega arith)
has_session-members_from word (suc count) i y b l h = elim (same_or_after i y l) [
  | inl q ↦ subst (λ (z : ℕ). has_session (members_from word (suc count) i) (suc z) ≡ is_set word z) q here
  | inr m ↦ by_test (λ ks. has_session ks (suc y) ≡ is_set word y) (is_set word i) (suc i ∷ members_from word count (suc i)) (members_from word count (suc i))
      (λ t. rw (ne-eqb (suc y) (suc i) (omega arith)) (has_session-members_from word count (suc i) y (omega arith) m (omega arith)))
      (λ f. has_session-members_from word count (suc i) y (omega arith) m (omega arith))
]
  where
    here : has_session (members_from word (suc count) i) (suc i) ≡ is_set word i
    here = by_test (λ ks. has_session ks (suc i) ≡ is_set word i) (is_set word i) (suc i ∷ members_from word count (suc i)) (members_from word count (suc i))
        (λ t. or_left (eqb (suc i) (suc i)) (has_session (members_from word count (suc i)) (suc i)) (eq-eqb (suc i) (suc i) refl) ∙ sym t)
        (λ f. has_session-below (members_from word count (suc i)) (suc i) (suc i) (members_from-RisingAbove word count (suc i) (omega arith)) (omega arith) ∙ sym f)

pub members-AreSessions : (word : ℕ) → AreSessions (members word)
unfolding members
members-AreSessions word = members_from-RisingAbove word 64 0 (omega arith)

pub has_session-members : (word y : ℕ) → y < 64 → has_session (members word) (suc y) ≡ is_set word y
unfolding members
has_session-members word y h = has_session-members_from word 64 0 y (omega arith) (omega arith) (omega arith)

-- a session's bit
pub has_session-bit : (word s : ℕ) → IsSession s → has_session (members word) s ≡ is_set word (s - 1)
has_session-bit word s h =
    let l : 1 ≤ s = h.0 in let b : s ≤ 64 = h.1 in let q : suc (s - 1) ≡ s = omega arith in
    subst (λ (z : ℕ). has_session (members word) z ≡ is_set word (s - 1)) q (has_session-members word (s - 1) (omega arith))

-- the members are known by the bits
pub members-are : (word : ℕ) (ns : List ℕ) → AreSessions ns → ((s : ℕ) → IsSession s → is_set word (s - 1) ≡ has_session ns s) → members word ≡ ns
members-are word ns h e = same_sessions (members word) ns 0 (members-AreSessions word) h (λ s l b. has_session-bit word s (omega arith, b) ∙ e s (omega arith, b))

-- ---- bits
pub is_set-zero : (i : ℕ) → is_set 0 i ≡ false
is_set-zero i = rw (bit_at-zero i) refl

pub is_set-with : (word k i : ℕ) → k < 64 → is_set (bit_or word (1 * 2 ^ k % 2 ^ 64)) i ≡ (eqb i k || is_set word i)
is_set-with word k i h = elim (true_or_false (eqb i k)) [
  | inl e ↦ let q : i ≡ k = eqb-true i k e in rw e (subst (λ (z : ℕ). is_set (bit_or word (1 * 2 ^ k % 2 ^ 64)) z ≡ true) (sym q) (eq-eqb (bit_at (bit_or word (1 * 2 ^ k % 2 ^ 64)) k) 1 (bit_at_set_same w64 word k h)))
  | inr e ↦ rw e (ap (λ (n : ℕ). eqb n 1) (bit_at_set_other w64 word k h i (eqb-false i k e)))
]

pub is_set-without : (word k i : ℕ) → k < 64 → i < 64 → is_set (bit_and word (bit_not w64 (1 * 2 ^ k % 2 ^ 64))) i ≡ (not (eqb i k) && is_set word i)
is_set-without word k i h l = elim (true_or_false (eqb i k)) [
  | inl e ↦ let q : i ≡ k = eqb-true i k e in rw e (subst (λ (z : ℕ). is_set (bit_and word (bit_not w64 (1 * 2 ^ k % 2 ^ 64))) z ≡ false) (sym q) (ap (λ (n : ℕ). eqb n 1) (bit_at_clear_same w64 word k h)))
  | inr e ↦ rw e (ap (λ (n : ℕ). eqb n 1) (bit_at_clear_other w64 word k h i l (eqb-false i k e)))
]

eqb-pred : (s n : ℕ) → 1 ≤ s → 1 ≤ n → eqb (s - 1) (n - 1) ≡ eqb s n
eqb-pred s n h k = same_tests (eqb (s - 1) (n - 1)) (eqb s n)
    (λ t. let q : s - 1 ≡ n - 1 = eqb-true (s - 1) (n - 1) t in eq-eqb s n (omega arith))
    (λ t. let q : s ≡ n = eqb-true s n t in eq-eqb (s - 1) (n - 1) (omega arith))

-- ---- the set's calls
pub members-zero : members 0 ≡ []
members-zero = members-are 0 [] tt (λ s h. is_set-zero (s - 1))

pub members-with : (word s : ℕ) → IsSession s → members (bit_or word (1 * 2 ^ (s - 1) % 2 ^ 64)) ≡ with_session (members word) s
members-with word s h =
    let l : 1 ≤ s = h.0 in let b : s ≤ 64 = h.1 in
    members-are (bit_or word (1 * 2 ^ (s - 1) % 2 ^ 64)) (with_session (members word) s) (AreSessions-with (members word) s (members-AreSessions word) h)
    (λ n k. is_set-with word (s - 1) (n - 1) (omega arith) ∙ both (eqb-pred n s k.0 l) (sym (has_session-bit word n k)) ∙ sym (has_session-with (members word) s n))
  where
    both : {a b c d : Bool} → a ≡ c → b ≡ d → (a || b) ≡ (c || d)
    both {a} {b} {c} {d} e f = rw (e, f) refl

pub members-without : (word s : ℕ) → IsSession s → members (bit_and word (bit_not w64 (1 * 2 ^ (s - 1) % 2 ^ 64))) ≡ without_session (members word) s
members-without word s h =
    let l : 1 ≤ s = h.0 in let b : s ≤ 64 = h.1 in
    members-are (bit_and word (bit_not w64 (1 * 2 ^ (s - 1) % 2 ^ 64))) (without_session (members word) s) (AreSessions-without (members word) s (members-AreSessions word))
    (λ n k. let nb : n ≤ 64 = k.1 in let nl : 1 ≤ n = k.0 in is_set-without word (s - 1) (n - 1) (omega arith) (omega arith) ∙ both (ap not (eqb-pred n s nl l)) (sym (has_session-bit word n k)) ∙ sym (has_session-without (members word) 0 s n (members-AreSessions word)))
  where
    both : {a b c d : Bool} → a ≡ c → b ≡ d → (a && b) ≡ (c && d)
    both {a} {b} {c} {d} e f = rw (e, f) refl

pub is_set-both : (a b i : ℕ) → is_set (bit_and a b) i ≡ (is_set a i && is_set b i)
is_set-both a b i = ap (λ (n : ℕ). eqb n 1) (bit_at_and a b i) ∙ least (bit_at a i) (bit_at b i) (bit_at-lt a i) (bit_at-lt b i)
  where
    least : (x y : ℕ) → x < 2 → y < 2 → eqb (min x y) 1 ≡ (eqb x 1 && eqb y 1)
    least x y h k = grind arith

pub members-both : (a b : ℕ) → members (bit_and a b) ≡ filter (λ n. has_session (members b) n) (members a)
members-both a b =
    members-are (bit_and a b) (filter (λ n. has_session (members b) n) (members a)) (RisingAbove-filter (λ n. has_session (members b) n) (members a) 0 (members-AreSessions a))
    (λ s h. is_set-both a b (s - 1) ∙ both (sym (has_session-bit a s h)) (sym (has_session-bit b s h)) ∙ sym (has_session-filter (λ n. has_session (members b) n) (members a) s))
  where
    both : {a b c d : Bool} → a ≡ c → b ≡ d → (a && b) ≡ (c && d)
    both {a} {b} {c} {d} e f = rw (e, f) refl

-- the code's test of a bit
pub bit_test : (word s : ℕ) → IsSession s → not (eqb (bit_and word (1 * 2 ^ (s - 1) % 2 ^ 64)) 0) ≡ has_session (members word) s
bit_test word s h =
    let b : s ≤ 64 = h.1 in let l : 1 ≤ s = h.0 in
    ap (λ (p : ℕ). not (eqb (bit_and word p) 0)) (power (s - 1) (omega arith)) ∙ ap (λ (n : ℕ). not (eqb n 0)) (and_pow word (s - 1))
    ∙ masked (bit_at word (s - 1)) (2 ^ (s - 1)) (bit_at-lt word (s - 1)) (pow_pos (s - 1)) ∙ sym (has_session-bit word s h)
  where
    power : (k : ℕ) → k < 64 → 1 * 2 ^ k % 2 ^ 64 ≡ 2 ^ k
    power k h = let l : 2 ^ k < 2 ^ 64 = pow-lt h in omega arith

    masked : (b p : ℕ) → b < 2 → 0 < p → not (eqb (b * p) 0) ≡ eqb b 1
    masked b p h k = elim (zero_or_one b h) [
      | inl e ↦ let z : b * p ≡ 0 = subst (λ (v : ℕ). v * p ≡ 0) (sym e) (omega arith) in rw (z, e) refl
      | inr e ↦ let z : b * p ≡ p = subst (λ (v : ℕ). v * p ≡ p) (sym e) (omega arith) in ap (λ (v : ℕ). not (eqb v 0)) z ∙ ap not (ne-eqb p 0 (omega arith)) ∙ sym (eq-eqb b 1 e)
    ]
      where
        zero_or_one : (b : ℕ) → b < 2 → (b ≡ 0) ⊎ (b ≡ 1)
        zero_or_one b h = grind arith

-- ---- the word of its members
is_set-word_of : (ns : List ℕ) (low y : ℕ) → RisingAbove low ns → y < 64 → is_set (word_of ns) y ≡ has_session ns (suc y)
is_set-word_of [] low y h l = is_set-zero y
is_set-word_of (n ∷ ns) low y h l =
    let a : low < n = h.0 in let b : n ≤ 64 = h.1 in let q : suc y - 1 ≡ y = omega arith in
    is_set-with (word_of ns) (n - 1) y (omega arith) ∙ both (subst (λ (z : ℕ). eqb z (n - 1) ≡ eqb (suc y) n) q (eqb-pred (suc y) n (omega arith) (omega arith))) (is_set-word_of ns n y h.2 l)
  where
    both : {a b c d : Bool} → a ≡ c → b ≡ d → (a || b) ≡ (c || d)
    both {a} {b} {c} {d} e f = rw (e, f) refl

word_of-small : (ns : List ℕ) → word_of ns < 2 ^ 64
word_of-small [] = omega arith
word_of-small (n ∷ ns) = or_lt 64 (word_of ns) (1 * 2 ^ (n - 1) % 2 ^ 64) (word_of-small ns) (omega arith)

same_bit : (a b i : ℕ) → is_set a i ≡ is_set b i → bit_at a i ≡ bit_at b i
same_bit a b i e = elim (true_or_false (is_set a i)) [
  | inl t ↦ eqb-true (bit_at a i) 1 t ∙ sym (eqb-true (bit_at b i) 1 (sym e ∙ t))
  | inr f ↦ zeros (bit_at-lt a i) (bit_at-lt b i) (eqb-false (bit_at a i) 1 f) (eqb-false (bit_at b i) 1 (sym e ∙ f))
]
  where
    zeros : {x y : ℕ} → x < 2 → y < 2 → (x ≡ 1 → ⊥) → (y ≡ 1 → ⊥) → x ≡ y
    zeros h k m n = omega arith

pub word_of-members : (word : ℕ) → word < 2 ^ 64 → word_of (members word) ≡ word
word_of-members word h =
    same_from_bits_below 64 (word_of (members word)) word (word_of-small (members word)) h
    (λ i l. same_bit (word_of (members word)) word i (is_set-word_of (members word) 0 i (members-AreSessions word) l ∙ has_session-members word i l))

pub empty_word : (word : ℕ) → word < 2 ^ 64 → members word ≡ [] → word ≡ 0
empty_word word h e = sym (word_of-members word h) ∙ ap word_of e

pub word_empty : (word : ℕ) → word ≡ 0 → members word ≡ []
word_empty word e = ap members e ∙ members-zero

-- a set is known by its word
pub same_words : (ns ms : List ℕ) → AreSessions ns → AreSessions ms → word_of ns ≡ word_of ms → ns ≡ ms
same_words ns ms h k e = same_sessions ns ms 0 h k (λ s l b. each s (omega arith) b)
  where
    each : (s : ℕ) → 1 ≤ s → s ≤ 64 → has_session ns s ≡ has_session ms s
    each s l b =
        let q : suc (s - 1) ≡ s = omega arith in
        subst (λ (z : ℕ). has_session ns z ≡ has_session ms z) q
        (sym (is_set-word_of ns 0 (s - 1) h (omega arith)) ∙ ap (λ (w : ℕ). is_set w (s - 1)) e ∙ is_set-word_of ms 0 (s - 1) k (omega arith))

-- ---- the least member
first_from : (word count i y : ℕ) → i ≤ y → y < i + count → is_set word y ≡ true → ((z : ℕ) → z < y → is_set word z ≡ false) → slice_get (members_from word count i) 0 ≡ Some (suc y)
first_from word zero i y l h e f = absurd (omega arith)
first_from word (suc count) i y l h e f = elim (same_or_after i y l) [
  | inl q ↦ by_test (λ ks. slice_get ks 0 ≡ Some (suc y)) (is_set word i) (suc i ∷ members_from word count (suc i)) (members_from word count (suc i)) (λ t. ap (λ (z : ℕ). Some (suc z)) q)
      (λ g. absurd (clash (is_set word y) e (subst (λ (z : ℕ). is_set word z ≡ false) q g)))
  | inr m ↦ by_test (λ ks. slice_get ks 0 ≡ Some (suc y)) (is_set word i) (suc i ∷ members_from word count (suc i)) (members_from word count (suc i))
      (λ t. absurd (clash (is_set word i) t (f i (omega arith)))) (λ g. first_from word count (suc i) y m (omega arith) e f)
]

pub members-first : (word : ℕ) → word ≢ 0 → word < 2 ^ 64 → (trailing_zeros w64 word < 64) × (slice_get (members word) 0 ≡ Some (trailing_zeros w64 word + 1))
unfolding members
members-first word n h =
    let r = bit_at-trailing_zeros w64 word (omega arith) h in
    let b : trailing_zeros w64 word < 64 = r.0 in
    let q : suc (trailing_zeros w64 word) ≡ trailing_zeros w64 word + 1 = omega arith in
    (b, first_from word 64 0 (trailing_zeros w64 word) (omega arith) (omega arith) (eq-eqb (bit_at word (trailing_zeros w64 word)) 1 r.1) (λ z l. ap (λ (v : ℕ). eqb v 1) (r.2 z l)) ∙ ap Some q)

pub first-zero : (word : ℕ) → word ≡ 0 → slice_get (members word) 0 ≡ None
first-zero word e = ap (λ (w : ℕ). slice_get (members w) 0) e ∙ ap (λ (ns : List ℕ). slice_get ns 0) members-zero

zero_or_over : (n : ℕ) → (n ≡ 0) ⊎ (0 < n)
zero_or_over n = grind arith

no_ones : trailing_zeros w64 0 ≡ 64
unfolding count_trailing_zeros
no_ones = refl

-- the session after the word's trailing zeros
pub first_of : (word : ℕ) (o : Option ℕ) → word < 2 ^ 64 → SomeIff o (IsSession (trailing_zeros w64 word + 1)) (trailing_zeros w64 word + 1) → o ≡ slice_get (members word) 0
first_of word None h f = elim (zero_or_over word) [
  | inl e ↦ sym (first-zero word e)
  | inr l ↦ absurd (let m = members-first word (omega arith) h in let b : trailing_zeros w64 word < 64 = m.0 in f (omega arith, omega arith))
]
first_of word (Some s) h f = elim (zero_or_over word) [
  | inl e ↦ absurd (let z : trailing_zeros w64 word ≡ 64 = ap (λ (w : ℕ). trailing_zeros w64 w) e ∙ no_ones in let b : trailing_zeros w64 word + 1 ≤ 64 = f.0.1 in omega arith)
  | inr l ↦ ap Some f.1 ∙ sym ((members-first word (omega arith) h).1)
]

-- the word of ones has every session
pub has_session-ones : (n : ℕ) → IsSession n → has_session (members (2 ^ 64 - 1)) n ≡ true
has_session-ones n h = let l : 1 ≤ n = h.0 in let b : n ≤ 64 = h.1 in has_session-bit (2 ^ 64 - 1) n h ∙ eq-eqb (bit_at (2 ^ 64 - 1) (n - 1)) 1 (bit_at_ones 64 (n - 1) (omega arith))

-- a word that is at most another one is the word of its members
pub word_of-below : (word bound : ℕ) → word ≤ bound → bound < 2 ^ 64 → (word < 2 ^ 64) × (word_of (members word) ≡ word)
word_of-below word bound le lt = let h : word < 2 ^ 64 = omega arith in (h, word_of-members word h)
