-- Chains of waits: the layers of the search, and why one that doesn't grow ends it.
use Rattle.std.proofs.Common.{ℕ, ◌≡◌, ◌≢◌, ◌+◌, ◌<◌, ◌≤◌, arith, refl, sym, ap, ◌∙◌, subst, Bool, true, false, zero, suc, List, [], ◌∷◌, length, eqb, eqb-true, eq-eqb, inl, inr, filter, slice_index_or, slice_set}
use mathlib.Core.Bool.{◌||◌}
use mathlib.Core.Logic.{◌⊎◌}
use Rattle.std.specs.List.{list_any}
use Rattle.sg_modes.proofs.BoolLaws.{true_or_false, clash, or_left, or_right, either, or_none, same_tests}
use Rattle.sg_modes.specs.Sessions.{IsSession, AreSessions, has_session, with_session}
use Rattle.sg_modes.proofs.SessionLaws.{AreSessions-with, has_session-with}
use Rattle.sg_modes.specs.Waits.{Chain, IsNextMember, NoCycle}
use Rattle.sg_waits.specs.Search.{within, Layer, Ahead, near_or_waiting}
use Rattle.sg_waits.proofs.Named.{index_same, index_other, length-set}
use Rattle.sg_waits.proofs.Finds.{Found, any_found, any_here, same_any, filter_none, filter_some, grows, few_sessions, Least}

pub chain_within : (f : ℕ → List ℕ) (s n x : ℕ) → Chain f n x s → within f s n x ≡ true
chain_within f s zero x l = eq-eqb x s l
chain_within f s (suc n) x l = or_right (within f s n x) (list_any (within f s n) (f x)) (any_here (within f s n) (f x) l.0 l.1 (chain_within f s n l.0 l.2))

-- a chain of at most n waits
pub record UpTo (f : ℕ → List ℕ) (s n x : ℕ) : Type 0 where
  pub count : ℕ
  pub few : count ≤ n
  pub chain : Chain f count x s

pub within_chain : (f : ℕ → List ℕ) (s n x : ℕ) → within f s n x ≡ true → UpTo f s n x
within_chain f s zero x h = record { count = 0; few = omega arith; chain = eqb-true x s h }
within_chain f s (suc n) x h = elim (either (within f s n x) (list_any (within f s n) (f x)) h) [
  | inl t ↦ let r : UpTo f s n x = within_chain f s n x t in let l : r.count ≤ n = r.few in record { count = r.count; few = omega arith; chain = r.chain }
  | inr t ↦ let y : Found (within f s n) (f x) = any_found (within f s n) (f x) t in
      let r : UpTo f s n y.member = within_chain f s n y.member y.holds in let l : r.count ≤ n = r.few in
      record { count = suc r.count; few = omega arith; chain = (y.member, y.is_in, r.chain) }
]

more_within : (f : ℕ → List ℕ) (s n x : ℕ) → within f s n x ≡ true → (k : ℕ) → within f s (k + n) x ≡ true
more_within f s n x h zero = let q : zero + n ≡ n = omega arith in rw q h
more_within f s n x h (suc k) = let q : suc k + n ≡ suc (k + n) = omega arith in rw q (or_left (within f s (k + n) x) (list_any (within f s (k + n)) (f x)) (more_within f s n x h k))

le_or_lt : (n m : ℕ) → (n ≤ m) ⊎ (m < n)
le_or_lt n m = grind arith

-- ---- the nearest ahead
nearest : (f : ℕ → List ℕ) (s x n z m : ℕ) → Ahead f s x n → has_session (f x) z ≡ true → Chain f m z s → n ≤ m
nearest f s x n z m a h c = elim (le_or_lt n m) [
  | inl l ↦ l
  | inr l ↦ absurd (clash (list_any (within f s m) (f x)) (any_here (within f s m) (f x) z h (chain_within f s m z c)) (a.fewest m l))
]

pub next_is : (f : ℕ → List ℕ) (s x n y : ℕ) → Ahead f s x n → Least (within f s n) (f x) y → IsNextMember f s x y
next_is f s x n y a l = record {
  steps = n;
  waits = l.is_in;
  leads = record { chain = exact (within_chain f s n y l.holds); fewest = λ m c. nearest f s x n y m a l.is_in c };
  fewest = λ z m h st. nearest f s x n z m a h st.chain;
  least = λ z h st. l.least z h (chain_within f s n z st.chain);
}
  where
    exact : UpTo f s n y → Chain f n y s
    exact u = let few : u.count ≤ n = u.few in let more : n ≤ u.count = nearest f s x n y u.count a l.is_in u.chain in
        let q : u.count ≡ n = omega arith in subst (λ (m : ℕ). Chain f m y s) q u.chain

pub ahead_more : (f : ℕ → List ℕ) (s x n y : ℕ) → Ahead f s x (suc n) → has_session (f x) y ≡ true → within f s (suc n) y ≡ true → Ahead f s y n
ahead_more f s x n y a h w = record {
  leads = elim (either (within f s n y) (list_any (within f s n) (f y)) w) [
    | inr t ↦ t
    | inl t ↦ absurd (clash (list_any (within f s n) (f x)) (any_here (within f s n) (f x) y h t) (a.fewest n (omega arith)))
  ];
  fewest = λ m l. elim (true_or_false (list_any (within f s m) (f y))) [
    | inr t ↦ t
    | inl t ↦ absurd (clash (list_any (within f s (suc m)) (f x)) (any_here (within f s (suc m)) (f x) y h (or_right (within f s m y) (list_any (within f s m) (f y)) t)) (a.fewest (suc m) (omega arith)))
  ];
}

pub ahead_other : (f : ℕ → List ℕ) (s x n y : ℕ) → Ahead f s x (suc n) → has_session (f x) y ≡ true → y ≢ s
ahead_other f s x n y a h e = clash (list_any (within f s 0) (f x)) (any_here (within f s 0) (f x) y h (eq-eqb y s e)) (a.fewest 0 (omega arith))

-- ---- layers
pub layer_any : (f : ℕ → List ℕ) (s n : ℕ) (near : List ℕ) → Layer f s n near → (x : ℕ) → list_any (has_session near) (f x) ≡ list_any (within f s n) (f x)
layer_any f s n near l x = same_any (has_session near) (within f s n) l.is (f x)

layer_more : (f : ℕ → List ℕ) (s n : ℕ) (near wider : List ℕ) → Layer f s n near → ((x : ℕ) → has_session wider x ≡ near_or_waiting f near x) → Layer f s (suc n) wider
layer_more f s n near wider l e = record { is = λ x. e x ∙ both (l.is x) (layer_any f s n near l x) }
  where
    both : {a b c d : Bool} → a ≡ c → b ≡ d → (a || b) ≡ (c || d)
    both {a} {b} {c} {d} e f = rw (e, f) refl

-- a layer that doesn't grow never grows again
stays : (f : ℕ → List ℕ) (s n : ℕ) → ((x : ℕ) → within f s (suc n) x ≡ within f s n x) → (k x : ℕ) → within f s (k + n) x ≡ within f s n x
stays f s n e zero x = let q : zero + n ≡ n = omega arith in rw q refl
stays f s n e (suc k) x =
    let q : suc k + n ≡ suc (k + n) = omega arith in
    ap (λ (m : ℕ). within f s m x) q ∙ both (stays f s n e k x) (same_any (within f s (k + n)) (within f s n) (stays f s n e k) (f x)) ∙ e x
  where
    both : {a b c d : Bool} → a ≡ c → b ≡ d → (a || b) ≡ (c || d)
    both {a} {b} {c} {d} e f = rw (e, f) refl

-- ---- the search
pub record Search (f : ℕ → List ℕ) (s : ℕ) (near : List ℕ) (steps : ℕ) (layers : List (List ℕ)) : Type 0 where
  pub sized : length layers ≡ 64
  pub set : AreSessions near
  pub few : steps < length near
  pub layer : Layer f s steps near
  pub kept : (k : ℕ) → k < steps → Layer f s k (slice_index_or layers k [])
  pub fewest : (m : ℕ) → m < steps → list_any (within f s m) (f s) ≡ false

pub search_first : (f : ℕ → List ℕ) (s : ℕ) (near : List ℕ) (layers : List (List ℕ)) → length layers ≡ 64 → IsSession s → near ≡ with_session [] s → Search f s near 0 layers
search_first f s near layers q h e = subst (λ (ns : List ℕ). Search f s ns 0 layers) (sym e) (record {
  sized = q;
  set = AreSessions-with [] s tt h;
  few = omega arith;
  layer = record { is = λ x. or_none (eqb x s) };
  kept = λ k l. absurd (omega arith);
  fewest = λ m l. absurd (omega arith);
})

pub room : (f : ℕ → List ℕ) (s : ℕ) (near : List ℕ) (steps : ℕ) (layers : List (List ℕ)) → Search f s near steps layers → steps < 64
room f s near steps layers r = let l : steps < length near = r.few in let b : length near + 0 ≤ 64 = few_sessions near 0 r.set (omega arith) in omega arith

last_or_before : (x y : ℕ) → y < x + 1 → (y < x) ⊎ (y ≡ x)
last_or_before x y h = grind arith

pub search_kept : (f : ℕ → List ℕ) (s : ℕ) (near : List ℕ) (steps : ℕ) (layers : List (List ℕ)) → Search f s near steps layers → (k : ℕ) → k < steps + 1 → Layer f s k (slice_index_or (slice_set layers steps near) k [])
search_kept f s near steps layers r k l = let q : length layers ≡ 64 = r.sized in let b : steps < 64 = room f s near steps layers r in elim (last_or_before steps k l) [
  | inl m ↦ subst (λ (ns : List ℕ). Layer f s k ns) (sym (index_other layers steps k near (omega arith))) (r.kept k m)
  | inr e ↦ subst (λ (z : ℕ). Layer f s z (slice_index_or (slice_set layers steps near) z [])) (sym e)
      (subst (λ (ns : List ℕ). Layer f s steps ns) (sym (index_same layers steps near (omega arith))) r.layer)
]

pub search_more : (f : ℕ → List ℕ) (s : ℕ) (near wider : List ℕ) (steps : ℕ) (layers : List (List ℕ)) → Search f s near steps layers → ((x : ℕ) → has_session wider x ≡ near_or_waiting f near x) → AreSessions wider → near ≢ wider →
    filter (λ n. has_session near n) (f s) ≡ [] → (length near < length wider) × Search f s wider (steps + 1) (slice_set layers steps near)
search_more f s near wider steps layers r e w n z =
    let longer : length near < length wider = over (grows near wider 0 r.set w (λ x h. e x ∙ or_left (has_session near x) (list_any (has_session near) (f x)) h)) in
    let l : steps < length near = r.few in
    let one : steps + 1 ≡ suc steps = omega arith in (
      longer,
      record {
        sized = length-set layers steps near ∙ r.sized;
        set = w;
        few = omega arith;
        layer = subst (λ (m : ℕ). Layer f s m wider) (sym one) (layer_more f s steps near wider r.layer e);
        kept = search_kept f s near steps layers r;
        fewest = λ m k. elim (last_or_before steps m k) [
          | inl b ↦ r.fewest m b
          | inr o ↦ subst (λ (v : ℕ). list_any (within f s v) (f s) ≡ false) (sym o) (sym (layer_any f s steps near r.layer s) ∙ filter_none (λ n. has_session near n) (f s) z)
        ];
      },
    )
  where
    over : (near ≡ wider) ⊎ (length near < length wider) → length near < length wider
    over (inl e) = absurd (n e)
    over (inr l) = l

pub search_ends : (f : ℕ → List ℕ) (s : ℕ) (near wider : List ℕ) (steps : ℕ) (layers : List (List ℕ)) → Search f s near steps layers → ((x : ℕ) → has_session wider x ≡ near_or_waiting f near x) → near ≡ wider →
    filter (λ n. has_session near n) (f s) ≡ [] → NoCycle f s
search_ends f s near wider steps layers r e o z y n h c =
    clash (list_any (within f s (n + steps)) (f s)) (any_here (within f s (n + steps)) (f s) y h (later (chain_within f s n y c)))
    (same_any (within f s (n + steps)) (within f s steps) (stays f s steps same n) (f s) ∙ sym (layer_any f s steps near r.layer s) ∙ filter_none (λ m. has_session near m) (f s) z)
  where
    same : (x : ℕ) → within f s (suc steps) x ≡ within f s steps x
    same x = let m : Layer f s (suc steps) wider = layer_more f s steps near wider r.layer e in
        sym (m.is x) ∙ ap (λ (ns : List ℕ). has_session ns x) (sym o) ∙ r.layer.is x

    later : within f s n y ≡ true → within f s (n + steps) y ≡ true
    later w = let q : n + steps ≡ steps + n = omega arith in rw q (more_within f s n y w steps)

pub search_ahead : (f : ℕ → List ℕ) (s : ℕ) (near : List ℕ) (steps : ℕ) (layers : List (List ℕ)) → Search f s near steps layers → filter (λ n. has_session near n) (f s) ≢ [] → Ahead f s s steps
search_ahead f s near steps layers r n = record { leads = sym (layer_any f s steps near r.layer s) ∙ filter_some (λ m. has_session near m) (f s) n; fewest = r.fewest }

-- ---- the loop that widens a layer: the sessions found, and the rest to look at
pub record Widened (f : ℕ → List ℕ) (near found rest : List ℕ) : Type 0 where
  pub set : AreSessions found
  pub sound : (x : ℕ) → has_session found x ≡ true → near_or_waiting f near x ≡ true
  pub kept : (x : ℕ) → has_session near x ≡ true → has_session found x ≡ true
  pub done : (x : ℕ) → list_any (has_session near) (f x) ≡ true → (has_session found x || has_session rest x) ≡ true

pub widened_first : (f : ℕ → List ℕ) (near rest : List ℕ) → AreSessions near → ((n : ℕ) → IsSession n → has_session rest n ≡ true) → ((x : ℕ) → (IsSession x → ⊥) → f x ≡ []) → Widened f near near rest
widened_first f near rest h all n = record {
  set = h;
  sound = λ x m. or_left (has_session near x) (list_any (has_session near) (f x)) m;
  kept = λ x m. m;
  done = λ x m. or_right (has_session near x) (has_session rest x) (elim (one x) [
    | inl s ↦ all x s
    | inr o ↦ absurd (clash (list_any (has_session near) (f x)) m (ap (λ (ns : List ℕ). list_any (has_session near) ns) (n x o)))
  ]);
}
  where
    one : (x : ℕ) → (IsSession x) ⊎ (IsSession x → ⊥)
    one x = elim (le_or_lt 1 x) [
      | inl l ↦ elim (le_or_lt x 64) [ inl m ↦ inl (l, m) | inr m ↦ inr (λ s. let b : x ≤ 64 = s.1 in omega arith) ]
      | inr l ↦ inr (λ s. let b : 1 ≤ x = s.0 in omega arith)
    ]

pub widened_more : (f : ℕ → List ℕ) (near found rest more : List ℕ) (x : ℕ) → IsSession x → Widened f near found (x ∷ rest) → filter (λ n. has_session near n) (f x) ≢ [] → more ≡ with_session found x → Widened f near more rest
widened_more f near found rest more x h w n e = subst (λ (ns : List ℕ). Widened f near ns rest) (sym e) (record {
  set = AreSessions-with found x w.set h;
  sound = λ y m. elim (either (eqb y x) (has_session found y) (sym (has_session-with found x y) ∙ m)) [
    | inr t ↦ w.sound y t
    | inl t ↦ let q : y ≡ x = eqb-true y x t in
        or_right (has_session near y) (list_any (has_session near) (f y)) (subst (λ (z : ℕ). list_any (has_session near) (f z) ≡ true) (sym q) (filter_some (λ m. has_session near m) (f x) n))
  ];
  kept = λ y m. has_session-with found x y ∙ or_right (eqb y x) (has_session found y) (w.kept y m);
  done = λ y m. ap (λ (b : Bool). b || has_session rest y) (has_session-with found x y) ∙ turn (eqb y x) (has_session found y) (has_session rest y) ∙ w.done y m;
})
  where
    turn : (a b c : Bool) → ((a || b) || c) ≡ (b || (a || c))
    turn true true c = refl
    turn true false c = refl
    turn false b c = refl

pub widened_same : (f : ℕ → List ℕ) (near found rest : List ℕ) (x : ℕ) → Widened f near found (x ∷ rest) → filter (λ n. has_session near n) (f x) ≡ [] → Widened f near found rest
widened_same f near found rest x w e = record {
  set = w.set;
  sound = w.sound;
  kept = w.kept;
  done = λ y m. elim (either (has_session found y) (eqb y x || has_session rest y) (w.done y m)) [
    | inl t ↦ or_left (has_session found y) (has_session rest y) t
    | inr t ↦ elim (either (eqb y x) (has_session rest y) t) [
      | inr r ↦ or_right (has_session found y) (has_session rest y) r
      | inl r ↦ let q : y ≡ x = eqb-true y x r in
          absurd (clash (list_any (has_session near) (f x)) (subst (λ (z : ℕ). list_any (has_session near) (f z) ≡ true) q m) (filter_none (λ n. has_session near n) (f x) e))
    ]
  ];
}

pub widened_last : (f : ℕ → List ℕ) (near found rest : List ℕ) → rest ≡ [] → Widened f near found rest → (x : ℕ) → has_session found x ≡ near_or_waiting f near x
widened_last f near found rest e w x = same_tests (has_session found x) (near_or_waiting f near x) (w.sound x) (λ m. elim (either (has_session near x) (list_any (has_session near) (f x)) m) [
  | inl t ↦ w.kept x t
  | inr t ↦ elim (either (has_session found x) (has_session rest x) (w.done x t)) [
    | inl r ↦ r
    | inr r ↦ absurd (clash (has_session rest x) r (ap (λ (ns : List ℕ). has_session ns x) e))
  ]
])
