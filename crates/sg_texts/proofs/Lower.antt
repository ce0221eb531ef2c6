-- The places of a cell below its first.
use Rattle.std.proofs.Common.{◌≡◌, ℕ, ◌+◌, ◌-◌, ◌<◌, ◌≤◌, List, [], ◌∷◌, ◌++◌, length, get_or, take, drop, slice_index, arith, sym, ap, subst, ◌∙◌}
use Rattle.std.specs.List.{flat_map}
use Rattle.std.proofs.lemmas.Grind.{get_or_after_one, get_or_default_zero}
use Rattle.sg_texts.specs.Labels.{dotted}
use Rattle.sg_texts.proofs.Fits.{fits_more, text_more}

-- the place that is read for a level stands there among those below the first
read_below : (cell : List ℕ) (level x : ℕ) → 1 ≤ level → level < length cell → x ≡ slice_index cell (level + 1 - 1) → x ≡ get_or (drop 1 cell) (level - 1) x
read_below cell level x least within read =
    let same : level + 1 - 1 ≡ 1 + (level - 1) = omega arith in
    let inside : 1 + (level - 1) < length cell = omega arith in
    read ∙ ap (λ (n : ℕ). get_or cell n 0) same ∙ sym (get_or_default_zero cell (1 + (level - 1)) x inside) ∙ sym (get_or_after_one cell (level - 1) x)

inside_below : (cell : List ℕ) (level : ℕ) → 1 ≤ level → level < length cell → level - 1 < length (drop 1 cell)
inside_below [] level least within = absurd (omega arith)
inside_below (d ∷ ds) level least within = omega arith

-- the places put and seen so far, before a level
pub record IsLowerTo (cell old now : List ℕ) (level : ℕ) : Type 0 where
  pub least : 1 ≤ level
  pub text : now ≡ old ++ flat_map dotted (take (level - 1) (drop 1 cell))
  pub fits : (k d : ℕ) → k < level - 1 → get_or (drop 1 cell) k d < 256

pub lower_more : (cell old now new : List ℕ) (level x : ℕ) → IsLowerTo cell old now level → level < length cell → x ≡ slice_index cell (level + 1 - 1) → x < 256 →
    new ≡ now ++ dotted x → IsLowerTo cell old new (level + 1)
lower_more cell old now new level x h within read byte put =
    let at : x ≡ get_or (drop 1 cell) (level - 1) x = read_below cell level x h.least within read in
    let inside = inside_below cell level h.least within in
    let same : level - 1 + 1 ≡ level + 1 - 1 = let least = h.least in omega arith in
    record {
      least = omega arith;
      text = subst (λ (n : ℕ). new ≡ old ++ flat_map dotted (take n (drop 1 cell))) same (text_more dotted old now new (drop 1 cell) (level - 1) x inside at h.text put);
      fits = λ k d less.
          let below : k < level - 1 + 1 = omega arith in
          fits_more (λ (n : ℕ). n < 256) (drop 1 cell) (level - 1) x inside at h.fits byte k d below;
    }
