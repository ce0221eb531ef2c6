use Rattle.std.proofs.Common.{◌≡◌, [], ◌<◌, length, ℕ, sym, ap, ◌∙◌, arith}
use Rattle.sg_hilbert.specs.Curve.{four_to}
use Rattle.sg_cells.specs.Cells.{Grid, Cell, split_of}
use Rattle.sg_cells.specs.Tess.{Look, look_at, kids}
use Rattle.sg_tess.proofs.Steps.{kids_length}
use Rattle.sg_tess.proofs.sights.Sight.first_level.Goals as goal

never : (g : Grid) (j : Look) (c d : Cell) (n : ℕ) → c ≡ [] → d ≡ [] → n ≡ four_to (split_of g.sides c) → n < length (kids g j d) → ⊥
never g j c d n e f q h =
    let k = kids_length g j d in
    let x : four_to (split_of g.sides c) ≡ four_to (split_of g.sides d) = ap (λ c. four_to (split_of g.sides c)) (e ∙ sym f) in
    omega arith

pub unreachable-requires : goal.unreachable-requires
unreachable-requires g c =
    never c.args.self.now.grid.now (look_at c.args.self.now.shape.now) c.outside.result c.outside-2.result c.places_in-most.result c.outside.ensures c.outside-2.ensures c.places_in-most.ensures.places
    (rw c.in-None.is at c.in_ok-entries.ensures)
