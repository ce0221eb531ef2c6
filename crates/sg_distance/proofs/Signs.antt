-- Signs of products, and of the four weights of two crossing lines.
use Rattle.std.proofs.Common.{◌≡◌, arith}
use lib.IntN.{ℤ, pos, ◌+ℤ◌, ◌*ℤ◌, neg_ℤ}
use lib.Signed.{◌<ℤ◌, ◌≤ℤ◌}
use Rattle.sg_algebra.proofs.Ring.{sums, mul-nonneg, mul-pos, mul-neg, neg-mul}
use Rattle.sg_algebra.specs.Orders.{cmp, less, same, more}

-- products: p above 0, m below, n not below, w not above
pub p*p : (a b : ℤ) → pos 0 <ℤ a → pos 0 <ℤ b → pos 0 <ℤ (a *ℤ b)
p*p a b h k = mul-pos a b h k

pub m*p : (a b : ℤ) → a <ℤ pos 0 → pos 0 <ℤ b → (a *ℤ b) <ℤ pos 0
m*p a b h k =
    let r : pos 0 <ℤ (neg_ℤ a *ℤ b) = mul-pos (neg_ℤ a) b (omega (arith, sums)) k in
    let e : neg_ℤ a *ℤ b ≡ neg_ℤ (a *ℤ b) = neg-mul a b in
    omega (arith, sums)

pub n*n : (a b : ℤ) → pos 0 ≤ℤ a → pos 0 ≤ℤ b → pos 0 ≤ℤ (a *ℤ b)
n*n a b h k = mul-nonneg a b h k

pub n*w : (a b : ℤ) → pos 0 ≤ℤ a → b ≤ℤ pos 0 → (a *ℤ b) ≤ℤ pos 0
n*w a b h k =
    let r : pos 0 ≤ℤ (a *ℤ neg_ℤ b) = mul-nonneg a (neg_ℤ b) h (omega (arith, sums)) in
    let e : a *ℤ neg_ℤ b ≡ neg_ℤ (a *ℤ b) = mul-neg a b in
    omega (arith, sums)

pub w*n : (a b : ℤ) → a ≤ℤ pos 0 → pos 0 ≤ℤ b → (a *ℤ b) ≤ℤ pos 0
w*n a b h k =
    let r : pos 0 ≤ℤ (neg_ℤ a *ℤ b) = mul-nonneg (neg_ℤ a) b (omega (arith, sums)) k in
    let e : neg_ℤ a *ℤ b ≡ neg_ℤ (a *ℤ b) = neg-mul a b in
    omega (arith, sums)

pub w*w : (a b : ℤ) → a ≤ℤ pos 0 → b ≤ℤ pos 0 → pos 0 ≤ℤ (a *ℤ b)
w*w a b h k =
    let r : (neg_ℤ a *ℤ b) ≤ℤ pos 0 = n*w (neg_ℤ a) b (omega (arith, sums)) k in
    let e : neg_ℤ a *ℤ b ≡ neg_ℤ (a *ℤ b) = neg-mul a b in
    omega (arith, sums)

-- a factor's sign, from the product's and the other's
pub p/p : (a b : ℤ) → pos 0 <ℤ (a *ℤ b) → pos 0 ≤ℤ b → pos 0 <ℤ a
p/p a b h k = elim (cmp a (pos 0)) [
  | less l ↦ absurd (let r : (a *ℤ b) ≤ℤ pos 0 = w*n a b (omega (arith, sums)) k in omega (arith, sums))
  | same l ↦ absurd (let r : (a *ℤ b) ≤ℤ pos 0 = w*n a b (omega (arith, sums)) k in omega (arith, sums))
  | more l ↦ l
]

pub m/p : (a b : ℤ) → (a *ℤ b) <ℤ pos 0 → pos 0 ≤ℤ b → a <ℤ pos 0
m/p a b h k = elim (cmp a (pos 0)) [
  | less l ↦ l
  | same l ↦ absurd (let r : pos 0 ≤ℤ (a *ℤ b) = n*n a b (omega (arith, sums)) k in omega (arith, sums))
  | more l ↦ absurd (let r : pos 0 ≤ℤ (a *ℤ b) = n*n a b (omega (arith, sums)) k in omega (arith, sums))
]

pub n/p : (a b : ℤ) → pos 0 ≤ℤ (a *ℤ b) → pos 0 <ℤ b → pos 0 ≤ℤ a
n/p a b h k = elim (cmp a (pos 0)) [
  | less l ↦ absurd (let r : (a *ℤ b) <ℤ pos 0 = m*p a b l k in omega (arith, sums))
  | same l ↦ omega (arith, sums)
  | more l ↦ omega (arith, sums)
]

pub w/p : (a b : ℤ) → (a *ℤ b) ≤ℤ pos 0 → pos 0 <ℤ b → a ≤ℤ pos 0
w/p a b h k = elim (cmp a (pos 0)) [
  | less l ↦ omega (arith, sums)
  | same l ↦ omega (arith, sums)
  | more l ↦ absurd (let r : pos 0 <ℤ (a *ℤ b) = mul-pos a b l k in omega (arith, sums))
]

pub p/w : (a b : ℤ) → pos 0 <ℤ (a *ℤ b) → b ≤ℤ pos 0 → a <ℤ pos 0
p/w a b h k = elim (cmp a (pos 0)) [
  | less l ↦ l
  | same l ↦ absurd (let r : (a *ℤ b) ≤ℤ pos 0 = n*w a b (omega (arith, sums)) k in omega (arith, sums))
  | more l ↦ absurd (let r : (a *ℤ b) ≤ℤ pos 0 = n*w a b (omega (arith, sums)) k in omega (arith, sums))
]

pub m/w : (a b : ℤ) → (a *ℤ b) <ℤ pos 0 → b ≤ℤ pos 0 → pos 0 <ℤ a
m/w a b h k = elim (cmp a (pos 0)) [
  | less l ↦ absurd (let r : pos 0 ≤ℤ (a *ℤ b) = w*w a b (omega (arith, sums)) k in omega (arith, sums))
  | same l ↦ absurd (let r : pos 0 ≤ℤ (a *ℤ b) = w*w a b (omega (arith, sums)) k in omega (arith, sums))
  | more l ↦ l
]

-- the weights all point one way
pub data Alike (a b c d : ℤ) : Type 0 where
  over : pos 0 ≤ℤ a → pos 0 ≤ℤ b → pos 0 <ℤ (a +ℤ b) → pos 0 ≤ℤ c → pos 0 ≤ℤ d → Alike a b c d
  under : a ≤ℤ pos 0 → b ≤ℤ pos 0 → (a +ℤ b) <ℤ pos 0 → c ≤ℤ pos 0 → d ≤ℤ pos 0 → Alike a b c d

-- how the weights a, b of p, q and c, d of u, v hang together, by the heights of q, u and v above p, of u and v above q, and of v above u
pub record Ties (a b c d qp up vp uq vq vu : ℤ) : Type 0 where
  pub at_p : b *ℤ qp ≡ c *ℤ up +ℤ d *ℤ vp
  pub at_q : a *ℤ qp +ℤ (c *ℤ uq +ℤ d *ℤ vq) ≡ pos 0
  pub at_u : a *ℤ up +ℤ (b *ℤ uq +ℤ d *ℤ vu) ≡ pos 0
  pub at_v : a *ℤ vp +ℤ b *ℤ vq ≡ c *ℤ vu

-- u not above p, v above p and not above q
pub low_mid_1 : (a b c d qp up vp uq vq vu : ℤ) → Ties a b c d qp up vp uq vq vu →
    pos 0 <ℤ qp → pos 0 <ℤ vu → up ≤ℤ pos 0 → pos 0 <ℤ vp → vq ≤ℤ pos 0 → b <ℤ pos 0 → c ≤ℤ pos 0 → Alike a b c d
low_mid_1 a b c d qp up vp uq vq vu t A G B C E k m =
    let x1 : (b *ℤ qp) <ℤ pos 0 = m*p b qp k A in
    let x2 : pos 0 ≤ℤ (c *ℤ up) = w*w c up m B in
    let e1 : b *ℤ qp ≡ c *ℤ up +ℤ d *ℤ vp = t.at_p in
    let d1 : d <ℤ pos 0 = m/p d vp (omega (arith, sums)) (omega (arith, sums)) in
    let x3 : (c *ℤ vu) ≤ℤ pos 0 = w*n c vu m (omega (arith, sums)) in
    let x4 : pos 0 ≤ℤ (b *ℤ vq) = w*w b vq (omega (arith, sums)) E in
    let e2 : a *ℤ vp +ℤ b *ℤ vq ≡ c *ℤ vu = t.at_v in
    let a1 : a ≤ℤ pos 0 = w/p a vp (omega (arith, sums)) C in
    under a1 (omega (arith, sums)) (omega (arith, sums)) m (omega (arith, sums))

pub low_mid_2 : (a b c d qp up vp uq vq vu : ℤ) → Ties a b c d qp up vp uq vq vu →
    pos 0 <ℤ qp → pos 0 <ℤ vu → up ≤ℤ pos 0 → pos 0 <ℤ vp → vq ≤ℤ pos 0 → pos 0 ≤ℤ b → pos 0 <ℤ c → Alike a b c d
low_mid_2 a b c d qp up vp uq vq vu t A G B C E k m =
    let x1 : pos 0 ≤ℤ (b *ℤ qp) = n*n b qp k (omega (arith, sums)) in
    let x2 : (c *ℤ up) ≤ℤ pos 0 = n*w c up (omega (arith, sums)) B in
    let e1 : b *ℤ qp ≡ c *ℤ up +ℤ d *ℤ vp = t.at_p in
    let d1 : pos 0 ≤ℤ d = n/p d vp (omega (arith, sums)) C in
    let x3 : pos 0 <ℤ (c *ℤ vu) = p*p c vu m G in
    let x4 : (b *ℤ vq) ≤ℤ pos 0 = n*w b vq k E in
    let e2 : a *ℤ vp +ℤ b *ℤ vq ≡ c *ℤ vu = t.at_v in
    let a1 : pos 0 <ℤ a = p/p a vp (omega (arith, sums)) (omega (arith, sums)) in
    over (omega (arith, sums)) k (omega (arith, sums)) (omega (arith, sums)) d1

-- u above neither, v above both
pub low_high_1 : (a b c d qp up vp uq vq vu : ℤ) → Ties a b c d qp up vp uq vq vu →
    pos 0 <ℤ vu → up ≤ℤ pos 0 → uq ≤ℤ pos 0 → pos 0 <ℤ vp → pos 0 <ℤ vq → b <ℤ pos 0 → a ≤ℤ pos 0 → Alike a b c d
low_high_1 a b c d qp up vp uq vq vu t G B D C E k m =
    let x1 : (a *ℤ vp) ≤ℤ pos 0 = w*n a vp m (omega (arith, sums)) in
    let x2 : (b *ℤ vq) <ℤ pos 0 = m*p b vq k E in
    let e1 : a *ℤ vp +ℤ b *ℤ vq ≡ c *ℤ vu = t.at_v in
    let c1 : c <ℤ pos 0 = m/p c vu (omega (arith, sums)) (omega (arith, sums)) in
    let x3 : pos 0 ≤ℤ (a *ℤ up) = w*w a up m B in
    let x4 : pos 0 ≤ℤ (b *ℤ uq) = w*w b uq (omega (arith, sums)) D in
    let e2 : a *ℤ up +ℤ (b *ℤ uq +ℤ d *ℤ vu) ≡ pos 0 = t.at_u in
    let d1 : d ≤ℤ pos 0 = w/p d vu (omega (arith, sums)) G in
    under m (omega (arith, sums)) (omega (arith, sums)) (omega (arith, sums)) d1

pub low_high_2 : (a b c d qp up vp uq vq vu : ℤ) → Ties a b c d qp up vp uq vq vu →
    pos 0 <ℤ vu → up ≤ℤ pos 0 → uq ≤ℤ pos 0 → pos 0 <ℤ vp → pos 0 <ℤ vq → pos 0 ≤ℤ b → pos 0 <ℤ a → Alike a b c d
low_high_2 a b c d qp up vp uq vq vu t G B D C E k m =
    let x1 : pos 0 <ℤ (a *ℤ vp) = p*p a vp m C in
    let x2 : pos 0 ≤ℤ (b *ℤ vq) = n*n b vq k (omega (arith, sums)) in
    let e1 : a *ℤ vp +ℤ b *ℤ vq ≡ c *ℤ vu = t.at_v in
    let c1 : pos 0 <ℤ c = p/p c vu (omega (arith, sums)) (omega (arith, sums)) in
    let x3 : (a *ℤ up) ≤ℤ pos 0 = n*w a up (omega (arith, sums)) B in
    let x4 : (b *ℤ uq) ≤ℤ pos 0 = n*w b uq k D in
    let e2 : a *ℤ up +ℤ (b *ℤ uq +ℤ d *ℤ vu) ≡ pos 0 = t.at_u in
    let d1 : pos 0 ≤ℤ d = n/p d vu (omega (arith, sums)) G in
    over (omega (arith, sums)) k (omega (arith, sums)) (omega (arith, sums)) d1

-- both above p and not above q
pub mid_mid_1 : (a b c d qp up vp uq vq vu : ℤ) → Ties a b c d qp up vp uq vq vu →
    pos 0 <ℤ qp → pos 0 <ℤ up → pos 0 <ℤ vp → uq ≤ℤ pos 0 → vq ≤ℤ pos 0 → d <ℤ pos 0 → c ≤ℤ pos 0 → Alike a b c d
mid_mid_1 a b c d qp up vp uq vq vu t A B C D E k m =
    let x1 : (c *ℤ up) ≤ℤ pos 0 = w*n c up m (omega (arith, sums)) in
    let x2 : (d *ℤ vp) <ℤ pos 0 = m*p d vp k C in
    let e1 : b *ℤ qp ≡ c *ℤ up +ℤ d *ℤ vp = t.at_p in
    let b1 : b <ℤ pos 0 = m/p b qp (omega (arith, sums)) (omega (arith, sums)) in
    let x3 : pos 0 ≤ℤ (c *ℤ uq) = w*w c uq m D in
    let x4 : pos 0 ≤ℤ (d *ℤ vq) = w*w d vq (omega (arith, sums)) E in
    let e2 : a *ℤ qp +ℤ (c *ℤ uq +ℤ d *ℤ vq) ≡ pos 0 = t.at_q in
    let a1 : a ≤ℤ pos 0 = w/p a qp (omega (arith, sums)) A in
    under a1 (omega (arith, sums)) (omega (arith, sums)) m (omega (arith, sums))

pub mid_mid_2 : (a b c d qp up vp uq vq vu : ℤ) → Ties a b c d qp up vp uq vq vu →
    pos 0 <ℤ qp → pos 0 <ℤ up → pos 0 <ℤ vp → uq ≤ℤ pos 0 → vq ≤ℤ pos 0 → pos 0 ≤ℤ d → pos 0 <ℤ c → Alike a b c d
mid_mid_2 a b c d qp up vp uq vq vu t A B C D E k m =
    let x1 : pos 0 <ℤ (c *ℤ up) = p*p c up m B in
    let x2 : pos 0 ≤ℤ (d *ℤ vp) = n*n d vp k (omega (arith, sums)) in
    let e1 : b *ℤ qp ≡ c *ℤ up +ℤ d *ℤ vp = t.at_p in
    let b1 : pos 0 <ℤ b = p/p b qp (omega (arith, sums)) (omega (arith, sums)) in
    let x3 : (c *ℤ uq) ≤ℤ pos 0 = n*w c uq (omega (arith, sums)) D in
    let x4 : (d *ℤ vq) ≤ℤ pos 0 = n*w d vq k E in
    let e2 : a *ℤ qp +ℤ (c *ℤ uq +ℤ d *ℤ vq) ≡ pos 0 = t.at_q in
    let a1 : pos 0 ≤ℤ a = n/p a qp (omega (arith, sums)) A in
    over a1 (omega (arith, sums)) (omega (arith, sums)) (omega (arith, sums)) k

-- u above p and not above q, v above both
pub mid_high_1 : (a b c d qp up vp uq vq vu : ℤ) → Ties a b c d qp up vp uq vq vu →
    pos 0 <ℤ qp → pos 0 <ℤ vu → pos 0 <ℤ up → uq ≤ℤ pos 0 → pos 0 <ℤ vq → pos 0 <ℤ a → pos 0 ≤ℤ d → Alike a b c d
mid_high_1 a b c d qp up vp uq vq vu t A G B D E k m =
    let x1 : pos 0 <ℤ (a *ℤ qp) = p*p a qp k A in
    let x2 : pos 0 ≤ℤ (d *ℤ vq) = n*n d vq m (omega (arith, sums)) in
    let e1 : a *ℤ qp +ℤ (c *ℤ uq +ℤ d *ℤ vq) ≡ pos 0 = t.at_q in
    let c1 : pos 0 <ℤ c = m/w c uq (omega (arith, sums)) D in
    let x3 : pos 0 <ℤ (a *ℤ up) = p*p a up k B in
    let x4 : pos 0 ≤ℤ (d *ℤ vu) = n*n d vu m (omega (arith, sums)) in
    let e2 : a *ℤ up +ℤ (b *ℤ uq +ℤ d *ℤ vu) ≡ pos 0 = t.at_u in
    let b1 : pos 0 <ℤ b = m/w b uq (omega (arith, sums)) D in
    over (omega (arith, sums)) (omega (arith, sums)) (omega (arith, sums)) (omega (arith, sums)) m

pub mid_high_2 : (a b c d qp up vp uq vq vu : ℤ) → Ties a b c d qp up vp uq vq vu →
    pos 0 <ℤ qp → pos 0 <ℤ vu → pos 0 <ℤ up → uq ≤ℤ pos 0 → pos 0 <ℤ vq → a ≤ℤ pos 0 → d <ℤ pos 0 → Alike a b c d
mid_high_2 a b c d qp up vp uq vq vu t A G B D E k m =
    let x1 : (a *ℤ qp) ≤ℤ pos 0 = w*n a qp k (omega (arith, sums)) in
    let x2 : (d *ℤ vq) <ℤ pos 0 = m*p d vq m E in
    let e1 : a *ℤ qp +ℤ (c *ℤ uq +ℤ d *ℤ vq) ≡ pos 0 = t.at_q in
    let c1 : c <ℤ pos 0 = p/w c uq (omega (arith, sums)) D in
    let x3 : (a *ℤ up) ≤ℤ pos 0 = w*n a up k (omega (arith, sums)) in
    let x4 : (d *ℤ vu) <ℤ pos 0 = m*p d vu m G in
    let e2 : a *ℤ up +ℤ (b *ℤ uq +ℤ d *ℤ vu) ≡ pos 0 = t.at_u in
    let b1 : b <ℤ pos 0 = p/w b uq (omega (arith, sums)) D in
    under k (omega (arith, sums)) (omega (arith, sums)) (omega (arith, sums)) (omega (arith, sums))
