-- Two shapes with a common point have related cells, and a sure candidate has_point a common point with its query.
use Rattle.std.proofs.Common.{ℕ, zero, suc, ◌≡◌, ◌+◌, ◌-◌, ◌<◌, ◌≤◌, arith, refl, sym, ap, ◌∙◌, subst, Bool, true, false, not, cond, eqb, List, [], ◌∷◌, ◌++◌, length, inl, inr, ◌⊎◌}
use mathlib.Core.Bool.{◌&&◌, ◌||◌}
use Rattle.std.proofs.lemmas.Bool.{eqb-true, eq-eqb, or_cases, or_left, or_right, true_from_ne_false}
use Rattle.sg_algebra.proofs.Comparisons.{left_true, right_true, same_test}
use Rattle.sg_cells.proofs.Ids.{code_of_path}
use Rattle.sg_cells.proofs.Split.{Sits, Sits-root, Sits-into, outer, one_child}
use Rattle.sg_cells.proofs.Related.{ranges_related}
use Rattle.sg_cells.proofs.Tessellates.{tally, kids_tally, rounds_tally, kids_entries, rounds_entries, kids_spread, rounds_spread}
use Rattle.sg_cells.specs.Cells.{Grid, Block, Cell, IsPath, AreSides, box_at, box_of, root, into, whole, block_from, begins, contains, cell_holds, filled, id_of, last_from}
use Rattle.sg_cells.specs.declared.marks.Mark.TheVariants.{Part, Cover}
use Rattle.sg_cells.specs.declared.marks.Mark.{Mark}
use Rattle.sg_cells.specs.Tess.{Look, Entry, is_cover, kids, rounds, tess}
use Rattle.sg_cells.specs.Ranges.{cells_of, ranges, in_pairs, related, related_any, proves, accepted, is_candidate, is_sure}
use Rattle.sg_cells.specs.Laws.{ind, hits, box_hits, Has, Spread, IsDeep, IsEntry, AllEntries, Stands, Common, AllCodes}
use Rattle.sg_cells.specs.Tess.{Sees}
use Rattle.sg_shape.specs.Boxes.{in_box, is_held, has_point}
use Rattle.sg_shape.specs.declared.cells.CellBox.{CellBox}
use Rattle.sg_shape.specs.declared.shapes.Shape.{Shape}
use Rattle.sg_shape.specs.declared.matrices.Pred.{Pred}
use Rattle.sg_shape.specs.declared.matrices.Pred.TheVariants.{Intersects, Contains, Within, Equals, Touches}
use Rattle.sg_shape.specs.Plane.{Point, Parts, Status, In, Bd, Out}
use Rattle.sg_shape.specs.Shapes.{parts_of, status_in}
use Rattle.sg_shape.specs.Matrix.{Meets, Relates}

clash : (b : Bool) → b ≡ true → b ≡ false → ⊥
clash b u v = cc

-- ---- containment of cells is containment of their points
block_outer : (g : Grid) (p : Point) (ks : List ℕ) (c : Cell) (b : Block) → Sits b → in_box (box_at g (block_from ks c b)) p ≡ true → in_box (box_at g b) p ≡ true
block_outer g p ks [] b s h = h
block_outer g p [] (d ∷ ds) b s h = outer g b 0 d p s (block_outer g p [] ds (into 0 d b) (Sits-into 0 d b s) h)
block_outer g p (k ∷ ks) (d ∷ ds) b s h = outer g b k d p s (block_outer g p ks ds (into k d b) (Sits-into k d b s) h)

block_begins : (g : Grid) (p : Point) (ks : List ℕ) (c q : Cell) (b : Block) → Sits b → begins c q ≡ true → in_box (box_at g (block_from ks q b)) p ≡ true → in_box (box_at g (block_from ks c b)) p ≡ true
block_begins g p ks [] q b s e h = block_outer g p ks q b s h
block_begins g p ks (d ∷ ds) [] b s e h = absurd (cc)
block_begins g p [] (d ∷ ds) (f ∷ fs) b s e h =
    let i = eqb-true d f (left_true (eqb d f) (begins ds fs) e) in
    block_begins g p [] ds fs (into 0 d b) (Sits-into 0 d b s) (right_true (eqb d f) (begins ds fs) e) (subst (λ x. in_box (box_at g (block_from [] fs (into 0 x b))) p ≡ true) (sym i) h)
block_begins g p (k ∷ ks) (d ∷ ds) (f ∷ fs) b s e h =
    let i = eqb-true d f (left_true (eqb d f) (begins ds fs) e) in
    block_begins g p ks ds fs (into k d b) (Sits-into k d b s) (right_true (eqb d f) (begins ds fs) e) (subst (λ x. in_box (box_at g (block_from ks fs (into k x b))) p ≡ true) (sym i) h)

pub contains_holds : (g : Grid) (c q : Cell) (p : Point) → contains c q ≡ true → cell_holds g q p ≡ true → cell_holds g c p ≡ true
contains_holds g [] [] p e h = h
contains_holds g [] (f ∷ fs) p e h = absurd (cc)
contains_holds g (d ∷ ds) [] p e h = absurd (cc)
contains_holds g (d ∷ ds) (f ∷ fs) p e h = block_begins g p g.sides (d ∷ ds) (f ∷ fs) root Sits-root e h

-- ---- two cells with a common point are related
blocks_related : (g : Grid) (p : Point) (ks : List ℕ) (c q : Cell) (b : Block) → Sits b → IsPath ks c → IsPath ks q → in_box (box_at g (block_from ks c b)) p ≡ true → in_box (box_at g (block_from ks q b)) p ≡ true → (begins c q || begins q c) ≡ true
blocks_related g p ks [] q b s hc hq x y = refl
blocks_related g p ks (d ∷ ds) [] b s hc hq x y = refl
blocks_related g p [] (d ∷ ds) (f ∷ fs) b s hc hq x y = absurd hc
blocks_related g p (k ∷ ks) (d ∷ ds) (f ∷ fs) b s hc hq x y =
    let u = block_outer g p ks ds (into k d b) (Sits-into k d b s) x in
    let v = block_outer g p ks fs (into k f b) (Sits-into k f b s) y in
    let i = one_child g b k d f p s hc.0 hq.0 u v in
    let ih = blocks_related g p ks ds fs (into k d b) (Sits-into k d b s) hc.1 hq.1 x (subst (λ z. in_box (box_at g (block_from ks fs (into k z b))) p ≡ true) (sym i) y) in
    rw (eq-eqb d f i, eq-eqb f d (sym i)) ih

flip : (b : Bool) → not b ≡ true → b ≡ true → ⊥
flip true u v = cc
flip false u v = cc

pub holds_related : (g : Grid) (c q : Cell) (p : Point) → IsPath g.sides c → IsPath g.sides q → cell_holds g c p ≡ true → cell_holds g q p ≡ true → related c q ≡ true
holds_related g [] [] p hc hq x y = refl
holds_related g [] (f ∷ fs) p hc hq x y = absurd (flip (in_box (whole g) p) x (block_outer g p g.sides (f ∷ fs) root Sits-root y))
holds_related g (d ∷ ds) [] p hc hq x y = absurd (flip (in_box (whole g) p) y (block_outer g p g.sides (d ∷ ds) root Sits-root x))
holds_related g (d ∷ ds) (f ∷ fs) p hc hq x y = blocks_related g p g.sides (d ∷ ds) (f ∷ fs) root Sits-root hc hq x y

-- ---- tessellation
pub record Held (g : Grid) (p : Point) (es : List Entry) : Type 0 where
  pub entry : Entry
  pub has : Has es entry
  pub holds : cell_holds g entry.0 p ≡ true

pub held : (g : Grid) (p : Point) (es : List Entry) → 0 < hits g p (cells_of es) → Held g p es
held g p [] h = absurd (omega arith)
held g p (e ∷ es) h = go (cell_holds g e.0 p) refl (λ l. held g p es l)
  where
    go : (b : Bool) → cell_holds g e.0 p ≡ b → (0 < hits g p (cells_of es) → Held g p es) → Held g p (e ∷ es)
    go true q ih = record { entry = e; has = inl refl; holds = q }
    go false q ih =
        let z : ind (cell_holds g e.0 p) ≡ 0 = rw q refl in
        let r = ih (omega arith) in
        record { entry = r.entry; has = inr r.has; holds = r.holds }

entry_at : (g : Grid) (j : Look) (es : List Entry) (e : Entry) → AllEntries g j es → Has es e → IsEntry g j e
entry_at g j [] e a h = absurd h
entry_at g j (x ∷ xs) e a (inl q) = subst (IsEntry g j) q a.0
entry_at g j (x ∷ xs) e a (inr h) = entry_at g j xs e a.1 h

deep_holds : (g : Grid) (c : Cell) (p : Point) → IsDeep c → cell_holds g c p ≡ in_box (box_of g c) p
deep_holds g [] p h = absurd h
deep_holds g (d ∷ ds) p h = refl

deep_hits : (g : Grid) (j : Look) (p : Point) (es : List Entry) → AllEntries g j es → hits g p (cells_of es) ≡ box_hits g p (cells_of es)
deep_hits g j p [] a = refl
deep_hits g j p (e ∷ es) a = let ih = deep_hits g j p es a.1 in let z = ap ind (deep_holds g e.0 p a.0.is_deep) in omega arith

mark_cover : (b : Bool) (m : Mark) → m ≡ cond b Cover Part → m ≡ Cover → b ≡ true
mark_cover true m e c = refl
mark_cover false m e c = absurd (cc)

module _ (n : ℕ) (g : Grid) (f : Parts) (j : Look) (limit : ℕ) (s : Sees f j) (a : AreSides g.sides) (few : n < 256) (fits : length g.sides ≤ n) (some : 0 < length g.sides) where
  inside : List Entry
  inside = rounds g j limit 1 (length g.sides - 1) (kids g j [])

  inside_entries : AllEntries g j inside
  unfolding inside
  inside_entries = rounds_entries g j limit 1 (length g.sides - 1) (kids g j []) (omega arith) (kids_entries g j [] tt some)

  inside_hits : (p : Point) → has_point f p ≡ true → box_hits g p (cells_of inside) ≡ ind (in_box (whole g) p)
  unfolding inside tally
  inside_hits p h = rounds_tally g f j p limit 1 (length g.sides - 1) (kids g j []) s h ∙ kids_tally g f j p [] s h

  ind_both : (b : Bool) → ind (not b) + ind b ≡ 1
  ind_both true = omega arith
  ind_both false = omega arith

  once_at : (p : Point) → has_point f p ≡ true → (b : Bool) → j.leaves (whole g) ≡ b → hits g p (cells_of (cond b (([], Part) ∷ []) [] ++ inside)) ≡ 1
  once_at p h true e =
      let i = inside_hits p h in
      let d = deep_hits g j p inside inside_entries in
      let b = ind_both (in_box (whole g) p) in
      omega arith
  once_at p h false e =
      let i = inside_hits p h in
      let d = deep_hits g j p inside inside_entries in
      let w : in_box (whole g) p ≡ true = true_from_ne_false (in_box (whole g) p) (λ q. clash (j.leaves (whole g)) ((s.leaves (whole g)).1 (p, h, q)) e) in
      let z : ind (in_box (whole g) p) ≡ 1 = rw w refl in
      omega arith

  split_has : (e : Entry) (b : Bool) → Has (cond b (([], Part) ∷ []) [] ++ inside) e → ((b ≡ true) × (([], Part) ≡ e)) ⊎ Has inside e
  split_has e true (inl q) = inl (refl, q)
  split_has e true (inr h) = inr h
  split_has e false h = inr h

  -- an entry is cell 0, where the shape leaves the box, or one of the others
  which : (e : Entry) → Has (tess g j limit) e → ((j.leaves (whole g) ≡ true) × (([], Part) ≡ e)) ⊎ IsEntry g j e
  unfolding inside
  which e h = elim (split_has e (j.leaves (whole g)) h) [ inl q ↦ inl q | inr w ↦ inr (entry_at g j inside e inside_entries w) ]

  out_point : (e : Entry) → j.leaves (whole g) ≡ true → ([], Part) ≡ e → (p : Point) × (cell_holds g e.0 p ≡ true) × (has_point f p ≡ true)
  out_point e l q =
      let w = (s.leaves (whole g)).0 l in
      (w.0, subst (λ (e : Entry). cell_holds g e.0 w.0 ≡ true) q (rw w.2 refl), w.1)

  met_point : (e : Entry) → IsEntry g j e → (p : Point) × (cell_holds g e.0 p ≡ true) × (has_point f p ≡ true)
  met_point e i =
      let w = (s.meets (box_of g e.0)).0 i.met in
      (w.0, deep_holds g e.0 w.0 i.is_deep ∙ w.2, w.1)

  covered_point : (e : Entry) → IsEntry g j e → e.1 ≡ Cover → (p : Point) → cell_holds g e.0 p ≡ true → has_point f p ≡ true
  covered_point e i c p h = (s.covers (box_of g e.0)).0 (mark_cover _ e.1 i.mark c) p (sym (deep_holds g e.0 p i.is_deep) ∙ h)

  part_cover : (e : Entry) → ([], Part) ≡ e → e.1 ≡ Cover → ⊥
  part_cover e q c = let z : Part ≡ e.1 = ap (λ (e : Entry). e.1) q in cc

  deep_none : (e : Entry) → ([], Part) ≡ e → IsDeep e.0 → ⊥
  deep_none e q d = let z : IsDeep [] = subst (λ (e : Entry). IsDeep e.0) (sym q) d in z

  entry_covered : (e : Entry) → IsEntry g j e → ((p : Point) → cell_holds g e.0 p ≡ true → has_point f p ≡ true) → e.1 ≡ Cover
  entry_covered e i h =
      let c = (s.covers (box_of g e.0)).1 (λ p x. h p (deep_holds g e.0 p i.is_deep ∙ x)) in
      i.mark ∙ (rw c refl)

  deep_not : (c : Cell) → IsDeep c → c ≡ [] → ⊥
  deep_not [] d q = d
  deep_not (x ∷ xs) d q = cc

  spread_all : (b : Bool) → Spread n 0 (filled n + n) (cells_of (cond b (([], Part) ∷ []) [] ++ inside))
  unfolding inside
  spread_all b =
      let k : Spread n 1 (filled n + n) (cells_of (kids g j [])) = subst (λ h. Spread n 1 h (cells_of (kids g j []))) (all n) (kids_spread n g j [] 1 a few (omega arith) (first n (omega arith))) in
      let r : Spread n 1 (filled n + n) (cells_of inside) = rounds_spread n g j limit 1 (length g.sides - 1) 1 (filled n + n) (kids g j []) a few fits (omega arith) (kids_entries g j [] tt some) k in
      both_ways n b r
    where
      all : (n : ℕ) → last_from n 0 [] ≡ filled n + n
      all n = omega arith

      first : (n : ℕ) → 0 < n → 1 ≤ id_of n (0 ∷ [])
      first zero h = absurd (omega arith)
      first (suc n) h = omega arith

      both_ways : (n : ℕ) (b : Bool) → Spread n 1 (filled n + n) (cells_of inside) → Spread n 0 (filled n + n) (cells_of (cond b (([], Part) ∷ []) [] ++ inside))
      both_ways n true r = (omega arith, (omega arith, r))
      both_ways n false r = lower n (cells_of inside) r
        where
          lower : (n : ℕ) (cs : List Cell) → Spread n 1 (filled n + n) cs → Spread n 0 (filled n + n) cs
          lower n [] r = tt
          lower n (c ∷ cs) r = (omega arith, r.1)

  -- The cells of a shape stand for it.
  pub tess_stands : Stands n g f (tess g j limit)
  unfolding inside
  tess_stands = record {
    once = λ p h. once_at p h (j.leaves (whole g)) refl;
    met = λ e h. elim (which e h) [ inl q ↦ out_point e q.0 q.1 | inr i ↦ met_point e i ];
    cover = λ e h c. elim (which e h) [ inl q ↦ absurd (part_cover e q.1 c) | inr i ↦ covered_point e i c ];
    covered = λ e h d w. elim (which e h) [ inl q ↦ absurd (deep_none e q.1 d) | inr i ↦ entry_covered e i w ];
    outside_part = λ e h z. elim (which e h) [ inl q ↦ ap (λ (e : Entry). e.1) (sym q.1) | inr i ↦ absurd (deep_not e.0 i.is_deep z) ];
    paths = λ e h. elim (which e h) [ inl q ↦ subst (λ (e : Entry). IsPath g.sides e.0) q.1 tt | inr i ↦ i.path ];
    apart = spread_all (j.leaves (whole g));
  }

-- ---- the central theorem
pub related_of : (c : Cell) (qs : List Entry) (e : Entry) → Has qs e → related c e.0 ≡ true → related_any c (cells_of qs) ≡ true
related_of c [] e h r = absurd h
related_of c (x ∷ xs) e (inl q) r = or_left (related c x.0) _ (subst (λ (e : Entry). related c e.0 ≡ true) (sym q) r)
related_of c (x ∷ xs) e (inr h) r = or_right (related c x.0) _ (related_of c xs e h r)

pub candidate_of : (n : ℕ) (rs qs : List Entry) (e : Entry) → Has rs e → in_pairs (ranges n (cells_of qs)) (id_of n e.0) ≡ true → is_candidate n rs qs ≡ true
candidate_of n [] qs e h r = absurd h
candidate_of n (x ∷ xs) qs e (inl q) r = or_left _ _ (subst (λ (e : Entry). in_pairs (ranges n (cells_of qs)) (id_of n e.0) ≡ true) (sym q) r)
candidate_of n (x ∷ xs) qs e (inr h) r = or_right (in_pairs (ranges n (cells_of qs)) (id_of n x.0)) _ (candidate_of n xs qs e h r)

pub codes_of : (n : ℕ) (g : Grid) (qs : List Entry) → length g.sides ≤ n → AreSides g.sides → ((e : Entry) → Has qs e → IsPath g.sides e.0) → AllCodes n (cells_of qs)
codes_of n g [] l a h = tt
codes_of n g (x ∷ xs) l a h = (code_of_path n g.sides x.0 l a (h x (inl refl)), codes_of n g xs l a (λ e w. h e (inr w)))

-- Where a row's shape and the query's share a point, the row is a candidate.
pub common_candidate : (n : ℕ) (g : Grid) (a b : Parts) (rs qs : List Entry) → AreSides g.sides → n < 256 → length g.sides ≤ n → Stands n g a rs → Stands n g b qs → Common a b → is_candidate n rs qs ≡ true
common_candidate n g a b rs qs sd few l sa sb c =
    let p = c.0 in
    let x = held g p rs (let z = sa.once p c.1 in omega arith) in
    let y = held g p qs (let z = sb.once p c.2 in omega arith) in
    let px = sa.paths x.entry x.has in
    let py = sb.paths y.entry y.has in
    let r = holds_related g x.entry.0 y.entry.0 p px py x.holds y.holds in
    let m = related_of x.entry.0 qs y.entry y.has r in
    let t = ranges_related n x.entry.0 (cells_of qs) few (code_of_path n g.sides x.entry.0 l sd px) (codes_of n g qs l sd sb.paths) in
    candidate_of n rs qs x.entry x.has (t ∙ m)

-- ---- sure
record Proof (r : Entry) (qs : List Entry) : Type 0 where
  entry : Entry
  has : Has qs entry
  proves : proves r entry ≡ true

proof_of : (r : Entry) (qs : List Entry) → accepted r qs ≡ true → Proof r qs
proof_of r [] e = absurd (cc)
proof_of r (q ∷ qs) e = go (λ u. proof_of r qs u) (or_cases (proves r q) (accepted r qs) e)
  where
    go : (accepted r qs ≡ true → Proof r qs) → (proves r q ≡ true) ⊎ (accepted r qs ≡ true) → Proof r (q ∷ qs)
    go ih (inl u) = record { entry = q; has = inl refl; proves = u }
    go ih (inr u) = let w = ih u in record { entry = w.entry; has = inr w.has; proves = w.proves }

is_cover_true : (m : Mark) → is_cover m ≡ true → m ≡ Cover
is_cover_true Part e = absurd (cc)
is_cover_true Cover e = refl

sure_pair : (n : ℕ) (g : Grid) (a b : Parts) (rs qs : List Entry) (r q : Entry) → Stands n g a rs → Stands n g b qs → Has rs r → Has qs q → proves r q ≡ true → Common a b
sure_pair n g a b rs qs r q sa sb hr hq e =
    elim (or_cases (contains q.0 r.0 && is_cover q.1) (contains r.0 q.0 && is_cover r.1) e) [
      | inl u ↦
          let w = sa.met r hr in
          let h = contains_holds g q.0 r.0 w.0 (left_true (contains q.0 r.0) (is_cover q.1) u) w.1 in
          (w.0, w.2, sb.cover q hq (is_cover_true q.1 (right_true (contains q.0 r.0) (is_cover q.1) u)) w.0 h)
      | inr u ↦
          let w = sb.met q hq in
          let h = contains_holds g r.0 q.0 w.0 (left_true (contains r.0 q.0) (is_cover r.1) u) w.1 in
          (w.0, sa.cover r hr (is_cover_true r.1 (right_true (contains r.0 q.0) (is_cover r.1) u)) w.0 h, w.2)
    ]

-- A sure candidate has_point a point in common with the query.
pub sure_common : (n : ℕ) (g : Grid) (a b : Parts) (rs qs rest : List Entry) → Stands n g a rs → Stands n g b qs → ((e : Entry) → Has rest e → Has rs e) → is_sure rest qs ≡ true → Common a b
sure_common n g a b rs qs [] sa sb f e = absurd (cc)
sure_common n g a b rs qs (r ∷ rest) sa sb f e = go (λ u. sure_common n g a b rs qs rest sa sb (λ e w. f e (inr w)) u) (or_cases (accepted r qs) (is_sure rest qs) e)
  where
    go : (is_sure rest qs ≡ true → Common a b) → (accepted r qs ≡ true) ⊎ (is_sure rest qs ≡ true) → Common a b
    go ih (inl u) = let w = proof_of r qs u in sure_pair n g a b rs qs r w.entry sa sb (f r (inl refl)) w.has w.proves
    go ih (inr u) = ih u

-- ---- the predicates
held_by : (a : Shape) (p : Point) (i : Status) → status_in a p ≡ i → is_held i ≡ true → has_point (parts_of a) p ≡ true
held_by a p i e h = ap is_held e ∙ h

pub meets_common : (i k : Status) (a b : Shape) → is_held i ≡ true → is_held k ≡ true → Meets i k a b → Common (parts_of a) (parts_of b)
meets_common i k a b hi hk m = (m.0, held_by a m.0 i m.1 hi, held_by b m.0 k m.2 hk)

-- shapes that are related by a predicate have a common point
pub relates_common : (q : Pred) (a b : Shape) → Relates q a b → Common (parts_of a) (parts_of b)
relates_common Intersects a b (inl m) = meets_common In In a b refl refl m
relates_common Intersects a b (inr (inl m)) = meets_common In Bd a b refl refl m
relates_common Intersects a b (inr (inr (inl m))) = meets_common Bd In a b refl refl m
relates_common Intersects a b (inr (inr (inr m))) = meets_common Bd Bd a b refl refl m
relates_common Contains a b h = meets_common In In a b refl refl h.0
relates_common Within a b h = meets_common In In a b refl refl h.0
relates_common Equals a b h = meets_common In In a b refl refl h.0
relates_common Touches a b h =
    elim h.0 [
      | inl m ↦ meets_common In Bd a b refl refl m
      | inr w ↦ elim w [ inl m ↦ meets_common Bd In a b refl refl m | inr m ↦ meets_common Bd Bd a b refl refl m ]
    ]

-- and a common point is one of four
pub common_intersects : (a b : Shape) → Common (parts_of a) (parts_of b) → Relates Intersects a b
common_intersects a b c = go (status_in a c.0) (status_in b c.0) refl refl c.1 c.2
  where
    go : (i k : Status) → status_in a c.0 ≡ i → status_in b c.0 ≡ k → is_held (status_in a c.0) ≡ true → is_held (status_in b c.0) ≡ true → Relates Intersects a b
    go In In e f x y = inl (c.0, e, f)
    go In Bd e f x y = inr (inl (c.0, e, f))
    go Bd In e f x y = inr (inr (inl (c.0, e, f)))
    go Bd Bd e f x y = inr (inr (inr (c.0, e, f)))
    go Out k e f x y = absurd (let z : false ≡ true = rw e at x in cc)
    go In Out e f x y = absurd (let z : false ≡ true = rw f at y in cc)
    go Bd Out e f x y = absurd (let z : false ≡ true = rw f at y in cc)

-- ---- an empty shape has no cells
pub empty_cells : (n : ℕ) (g : Grid) (f : Parts) (es : List Entry) → Stands n g f es → ((p : Point) → has_point f p ≡ false) → es ≡ []
empty_cells n g f [] s h = refl
empty_cells n g f (e ∷ es) s h = absurd (let w = s.met e (inl refl) in clash (has_point f w.0) w.2 (h w.0))

-- ---- two right looks give the same cells
pub tess_unique : (g : Grid) (f : Parts) (j k : Look) (limit : ℕ) → Sees f j → Sees f k → tess g j limit ≡ tess g k limit
tess_unique g f j k limit s t = ap (λ j. tess g j limit) same
  where
    meets_same : (b : CellBox) → j.meets b ≡ k.meets b
    meets_same b = same_test (λ e. (t.meets b).1 ((s.meets b).0 e)) (λ e. (s.meets b).1 ((t.meets b).0 e))

    covers_same : (b : CellBox) → j.covers b ≡ k.covers b
    covers_same b = same_test (λ e. (t.covers b).1 ((s.covers b).0 e)) (λ e. (s.covers b).1 ((t.covers b).0 e))

    leaves_same : (b : CellBox) → j.leaves b ≡ k.leaves b
    leaves_same b = same_test (λ e. (t.leaves b).1 ((s.leaves b).0 e)) (λ e. (s.leaves b).1 ((t.leaves b).0 e))

    same : j ≡ k
    same = λ i. record { meets = λ b. meets_same b i; covers = λ b. covers_same b i; leaves = λ b. leaves_same b i }
