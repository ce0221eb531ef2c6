-- A path that is gone through spot by spot, while some of its spots are left out.
use Rattle.std.proofs.Common.{ℕ, ◌≡◌, ◌+◌, ◌-◌, ◌<◌, ◌≤◌, arith, refl, sym, ap, ◌∙◌, subst, true, false, List, [], ◌∷◌, ◌++◌, length, get_or, drop, suc, zero, drop-cons, append_assoc, inl, inr, ◌⊎◌}
use Rattle.std.specs.List.{All, Contains}
use Rattle.std.proofs.lemmas.List.{length-append, drop_all}
use Rattle.std.proofs.lemmas.List.Elements.{Contains-get_or}
use Rattle.sg_segment.proofs.InTurn.{no_spot}
use Rattle.sg_distance.proofs.Soundness.{all_cons}
use Rattle.sg_shape.specs.declared.cells.CellBox.{CellBox}
use Rattle.sg_shape.specs.declared.spots.Spot.{Spot}
use Rattle.sg_shape.specs.Sound.{is_out}
use Rattle.sg_plane.proofs.Lists.{Each, each_append}
use Rattle.sg_nearby.specs.Nearby.{are_beside, IsThin}
use Rattle.sg_nearby.proofs.Beside.{idle}
use Rattle.sg_nearby.proofs.Shorter.{Alike, alike_first, shorter}

abbrev Fits : Spot → Type 0
Fits s = is_out s ≡ false

-- the spots that are kept end in `last`, and with those still to come they do for the path
pub record Thinning (c : CellBox) (path kept : List Spot) (last : Spot) (i spare : ℕ) : Type 0 where
  pub front : List Spot
  pub kept_is : kept ≡ front ++ last ∷ []
  pub alike : Alike c (kept ++ drop i path) path
  pub within : Each Fits kept
  pub among : Each (Contains path) kept
  pub last_in : Fits last
  pub most : length kept ≤ i
  pub long : 4 ≤ length path → 4 + spare ≤ length kept + (length path - i)
  pub short : length path < 4 → (spare ≡ 0) × (length kept + (length path - i) ≡ length path)

pub each_of : (P : Spot → Type 0) (ss : List Spot) → All P ss → Each P ss
each_of P [] h = tt
each_of P (s ∷ ss) h = (h 0 s (omega arith), each_of P ss (λ n d l. h (suc n) d (omega arith)))

pub all_of : (P : Spot → Type 0) (ss : List Spot) → Each P ss → All P ss
all_of P [] h = λ n d l. absurd (omega arith)
all_of P (s ∷ ss) h = all_cons P s ss h.0 (all_of P ss h.1)

-- the spot at a place
abbrev pub spot_at : List Spot → ℕ → Spot
spot_at path i = get_or path i no_spot

next : (path : List Spot) (i : ℕ) → i < length path → drop i path ≡ spot_at path i ∷ drop (i + 1) path
next path i h = let q : i + 1 ≡ suc i = omega arith in drop-cons path i no_spot h ∙ ap (λ (k : ℕ). spot_at path i ∷ drop k path) (sym q)

pub thinning_first : (c : CellBox) (path kept : List Spot) (spare : ℕ) → 2 ≤ length path → All Fits path → kept ≡ [] ++ spot_at path 0 ∷ [] → spare ≡ length path - 4 → Thinning c path kept (spot_at path 0) 1 spare
thinning_first c [] kept spare h w k q = absurd (omega arith)
thinning_first c (s ∷ ss) kept spare h w k q =
    let f : Fits s = w 0 no_spot (omega arith) in
    let n : length kept ≡ 1 = ap length k in
    record {
      front = [];
      kept_is = k;
      alike = subst (λ (l : List Spot). Alike c (l ++ ss) (s ∷ ss)) (sym k) (alike_first c (s ∷ ss));
      within = subst (Each Fits) (sym k) (f, tt);
      among = subst (Each (Contains (s ∷ ss))) (sym k) (Contains-get_or (s ∷ ss) 0 no_spot (omega arith), tt);
      last_in = f;
      most = omega arith;
      long = λ l. omega arith;
      short = λ l. (omega arith, omega arith);
    }

-- the next spot is kept
pub thinning_keep : (c : CellBox) (path kept more : List Spot) (last : Spot) (i spare : ℕ) → i < length path → All Fits path → more ≡ kept ++ spot_at path i ∷ [] → Thinning c path kept last i spare → Thinning c path more (spot_at path i) (i + 1) spare
thinning_keep c path kept more last i spare h w m t =
    let s = spot_at path i in
    let f : Fits s = w i no_spot h in
    let n : length more ≡ length kept + 1 = ap length m ∙ length-append kept (s ∷ []) in
    let a = t.most in
    record {
      front = kept;
      kept_is = m;
      alike = subst (λ (l : List Spot). Alike c l path)
          (ap (λ (r : List Spot). kept ++ r) (next path i h) ∙ sym (append_assoc kept (s ∷ []) (drop (i + 1) path)) ∙ ap (λ (r : List Spot). r ++ drop (i + 1) path) (sym m)) t.alike;
      within = subst (Each Fits) (sym m) (each_append Fits kept (s ∷ []) t.within (f, tt));
      among = subst (Each (Contains path)) (sym m) (each_append (Contains path) kept (s ∷ []) t.among (Contains-get_or path i no_spot h, tt));
      last_in = f;
      most = omega arith;
      long = λ l. let b = t.long l in omega arith;
      short = λ l. let b = t.short l in (b.0, (let d = b.1 in omega arith));
    }

-- the next spot is left out
pub thinning_drop : (c : CellBox) (path kept : List Spot) (last : Spot) (i spare : ℕ) → i + 1 < length path → All Fits path → 0 < spare → are_beside c last (spot_at path i) (spot_at path (i + 1)) ≡ true → Thinning c path kept last i spare → Thinning c path kept last (i + 1) (spare - 1)
thinning_drop c path kept last i spare h w o b t =
    let s = spot_at path i in
    let u = spot_at path (i + 1) in
    let f : Fits s = w i no_spot (omega arith) in
    let k : Fits u = w (i + 1) no_spot h in
    let a = t.most in
    let rest = drop (i + 1 + 1) path in
    let d : drop i path ≡ s ∷ u ∷ rest = next path i (omega arith) ∙ ap (λ (r : List Spot). s ∷ r) (next path (i + 1) h) in
    let first : kept ++ drop i path ≡ t.front ++ last ∷ s ∷ u ∷ rest = (λ j. t.kept_is j ++ d j) ∙ append_assoc t.front (last ∷ []) (s ∷ u ∷ rest) in
    let second : t.front ++ last ∷ u ∷ rest ≡ kept ++ drop (i + 1) path = sym ((λ j. t.kept_is j ++ next path (i + 1) h j) ∙ append_assoc t.front (last ∷ []) (u ∷ rest)) in
    record {
      front = t.front;
      kept_is = t.kept_is;
      alike = subst (λ (l : List Spot). Alike c l path) second
          (shorter c last s u t.front rest path (idle c last s u t.last_in f k b) (subst (λ (l : List Spot). Alike c l path) first t.alike));
      within = t.within;
      among = t.among;
      last_in = t.last_in;
      most = omega arith;
      long = λ l. let b = t.long l in omega arith;
      short = λ l. let b = t.short l in absurd (let z = b.0 in omega arith);
    }

-- the same by other names
pub moved : (c : CellBox) (path kept more : List Spot) (last s : Spot) (i spare left : ℕ) → more ≡ kept → s ≡ last → left ≡ spare → Thinning c path kept last i spare → Thinning c path more s i left
moved c path kept more last s i spare left e f g t =
    subst (λ (z : List Spot). Thinning c path z s i left) (sym e) (subst (λ (z : Spot). Thinning c path kept z i left) (sym f) (subst (λ (z : ℕ). Thinning c path kept last i z) (sym g) t))

-- the last spot is kept
pub thinning_last : (c : CellBox) (path kept all : List Spot) (last : Spot) (i spare : ℕ) → i + 1 ≡ length path → All Fits path → all ≡ kept ++ spot_at path i ∷ [] → Thinning c path kept last i spare → IsThin c path all
thinning_last c path kept all last i spare h w m t =
    let z = thinning_keep c path kept all last i spare (omega arith) w m t in
    let d : drop (i + 1) path ≡ [] = drop_all (i + 1) path (omega arith) in
    let a : Alike c all path = subst (λ (l : List Spot). Alike c l path) (ap (λ (r : List Spot). all ++ r) d ∙ append_nil all) z.alike in
    record {
      on = a.on;
      odd = a.odd;
      ends = a.ends;
      tips = a.tips;
      most = let n = z.most in omega arith;
      least = by_length (cases (length path)) z;
      within = all_of Fits all z.within;
      among = all_of (Contains path) all z.among;
    }
  where
    append_nil : (xs : List Spot) → xs ++ [] ≡ xs
    append_nil [] = refl
    append_nil (x ∷ xs) = ap (λ r. x ∷ r) (append_nil xs)

    cases : (n : ℕ) → (n < 4) ⊎ (4 ≤ n)
    cases zero = inl (omega arith)
    cases (suc zero) = inl (omega arith)
    cases (suc (suc zero)) = inl (omega arith)
    cases (suc (suc (suc zero))) = inl (omega arith)
    cases (suc (suc (suc (suc n)))) = inr (omega arith)

    by_length : (length path < 4) ⊎ (4 ≤ length path) → Thinning c path all (spot_at path i) (i + 1) spare → (length all ≡ length path) ⊎ (4 ≤ length all)
    by_length (inl l) z = inl (let b = z.short l in let d = b.1 in omega arith)
    by_length (inr l) z = inr (let b = z.long l in omega arith)
