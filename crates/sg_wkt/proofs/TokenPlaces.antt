-- Each token of a text stands at its place.
use Rattle.std.proofs.Common.{◌≡◌, ◌≤◌, ℕ, zero, suc, ◌+◌, Bool, true, false, cond, not, ◌||◌, List, [], ◌∷◌, length, take, drop, refl, sym, ap, ◌∙◌, subst, arith}
use Rattle.sg_wkt.specs.Tokens.{Token, Tokens, Ends, Begins, is_blank, is_mark, is_plain, begins_plain, lengthened, tokens_from, tokens}
use Rattle.sg_wkt.specs.Faults.{led_by}
use Rattle.sg_wkt.proofs.Fronts.{not_either}

-- a token of a text that begins at this place
record StandsFrom (at : ℕ) (text : List ℕ) (token : Token) : Type 0 where
  pub skipped : ℕ
  pub place : token.at ≡ at + skipped
  pub there : take (length token.bytes) (drop skipped text) ≡ token.bytes
  pub some : 1 ≤ length token.bytes

abbrev EachStands : ℕ → List ℕ → Tokens → Type 0
EachStands at text (Ends end) = Unit {0}
EachStands at text (Begins token rest) = StandsFrom at text token × EachStands at text rest

-- with a byte before the text
shifted : (at b : ℕ) (bs : List ℕ) (token : Token) → StandsFrom (at + 1) bs token → StandsFrom at (b ∷ bs) token
shifted at b bs token h = record { skipped = suc h.skipped; place = omega (arith, h.place); there = h.there; some = h.some }

all_shifted : (at b : ℕ) (bs : List ℕ) (ts : Tokens) → EachStands (at + 1) bs ts → EachStands at (b ∷ bs) ts
all_shifted at b bs (Ends end) h = tt
all_shifted at b bs (Begins token rest) h = (shifted at b bs token h.0, all_shifted at b bs rest h.1)

alone : (at b : ℕ) (bs : List ℕ) → StandsFrom at (b ∷ bs) (record { at = at; bytes = b ∷ [] })
alone at b bs = record { skipped = 0; place = omega arith; there = refl; some = omega arith }

-- the first token stands right here
abbrev IsFirstAt : ℕ → Tokens → Type 0
IsFirstAt at (Ends end) = ⊥
IsFirstAt at (Begins token rest) = token.at ≡ at

first_lengthened : (at b : ℕ) (ts : Tokens) → IsFirstAt at (lengthened at b ts)
first_lengthened at b (Ends end) = refl
first_lengthened at b (Begins token rest) = refl

first_step : (t u : Bool) (at b : ℕ) (ts : Tokens) → t ≡ false → IsFirstAt at (cond t ts (cond u (Begins (record { at = at; bytes = b ∷ [] }) ts) (lengthened at b ts)))
first_step true u at b ts e = cc
first_step false true at b ts e = refl
first_step false false at b ts e = first_lengthened at b ts

first_at : (at : ℕ) (text : List ℕ) → begins_plain text ≡ true → IsFirstAt at (tokens_from at text)
first_at at [] e = cc
first_at at (b ∷ bs) e =
    first_step (is_blank b) (is_mark b || not (begins_plain bs)) at b (tokens_from (at + 1) bs) (not_either (is_blank b) (is_mark b) e).0

longer : (at b : ℕ) (bs : List ℕ) (token : Token) → token.at ≡ at + 1 → StandsFrom (at + 1) bs token → StandsFrom at (b ∷ bs) (record { at = at; bytes = b ∷ token.bytes })
longer at b bs token e h =
    let none : h.skipped ≡ 0 = omega (arith, e, h.place) in
    let rest : take (length token.bytes) bs ≡ token.bytes = ap (λ (k : ℕ). take (length token.bytes) (drop k bs)) (sym none) ∙ h.there in
    record { skipped = 0; place = omega arith; there = ap (λ (xs : List ℕ). b ∷ xs) rest; some = omega arith }

all_longer : (at b : ℕ) (bs : List ℕ) (ts : Tokens) → IsFirstAt (at + 1) ts → EachStands (at + 1) bs ts → EachStands at (b ∷ bs) (lengthened at b ts)
all_longer at b bs (Ends end) e h = absurd e
all_longer at b bs (Begins token rest) e h = (longer at b bs token e h.0, all_shifted at b bs rest h.1)

none_plain : (m p : Bool) → (m || not p) ≡ false → p ≡ true
none_plain true p e = cc
none_plain false true e = refl
none_plain false false e = cc

each_step : (t u : Bool) (at b : ℕ) (bs : List ℕ) (ts : Tokens) → EachStands (at + 1) bs ts → (u ≡ false → IsFirstAt (at + 1) ts) →
    EachStands at (b ∷ bs) (cond t ts (cond u (Begins (record { at = at; bytes = b ∷ [] }) ts) (lengthened at b ts)))
each_step true u at b bs ts h first = all_shifted at b bs ts h
each_step false true at b bs ts h first = (alone at b bs, all_shifted at b bs ts h)
each_step false false at b bs ts h first = all_longer at b bs ts (first refl) h

each_stands : (at : ℕ) (text : List ℕ) → EachStands at text (tokens_from at text)
each_stands at [] = tt
each_stands at (b ∷ bs) =
    each_step (is_blank b) (is_mark b || not (begins_plain bs)) at b bs (tokens_from (at + 1) bs) (each_stands (at + 1) bs)
    (λ e. first_at (at + 1) bs (none_plain (is_mark b) (begins_plain bs) e))

among : (at : ℕ) (text : List ℕ) (before : List Token) (token : Token) (rest : Tokens) → EachStands at text (led_by before (Begins token rest)) → StandsFrom at text token
among at text [] token rest h = h.0
among at text (t ∷ ts) token rest h = among at text ts token rest h.1

-- a token of a whole text: its bytes are those from its place on
pub token-stands : (text : List ℕ) (before : List Token) (token : Token) (rest : Tokens) → tokens text ≡ led_by before (Begins token rest) →
    (take (length token.bytes) (drop token.at text) ≡ token.bytes) × (1 ≤ length token.bytes)
token-stands text before token rest e =
    let h = among 0 text before token rest (subst (EachStands 0 text) e (each_stands 0 text)) in
    let same : token.at ≡ h.skipped = omega (arith, h.place) in
    (ap (λ (k : ℕ). take (length token.bytes) (drop k text)) same ∙ h.there, h.some)
