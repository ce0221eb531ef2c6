-- A turn of the reading of spots.
use Rattle.std.proofs.Common.{◌≡◌, ℕ, zero, suc, ◌-◌, ◌<◌, refl, arith}
use Rattle.sg_wkt.specs.declared.drafts.Draft.{Draft}
use Rattle.sg_wkt.specs.Tokens.{Tokens}
use Rattle.sg_wkt.specs.Grammar.{◌>>=◌, no_room, spots, step, until_whole}

-- where there is room, a spot must come
pub spots-turn : (room : ℕ) (d : Draft) (ts : Tokens) → 0 < room →
    spots room d ts ≡ (step d ts >>= until_whole (λ further rest. spots (room - 1) further rest))
unfolding spots
spots-turn zero d ts h = absurd (omega arith)
spots-turn (suc room) d ts h = let less : suc room - 1 ≡ room = omega arith in rw less refl

-- where there is none, no spot may come
pub spots-none : (room : ℕ) (d : Draft) (ts : Tokens) → room ≡ 0 → spots room d ts ≡ no_room ts
unfolding spots
spots-none zero d ts e = refl
spots-none (suc room) d ts e = absurd (omega arith)
