-- Where reading can be after some tokens, and what it tells there.
use Rattle.std.proofs.Common.{◌≡◌, ◌≤◌, ◌<◌, ℕ, zero, suc, ◌+◌, ◌*◌, Bool, true, false, cond, not, ◌&&◌, ◌⊎◌, inl, inr, List, [], ◌∷◌, ◌++◌, codes, ℤ, refl, sym, ap, ◌∙◌, subst, Result, Ok, Err, arith, append_assoc, append-nil}
use Rattle.std.specs.Prelude.{IsTrue, IsFalse}
use Rattle.sg_shape.specs.declared.shapes.Shape.{Shape}
use Rattle.sg_shape.specs.Sound.{IsSound, coord_ok}
use Rattle.sg_wkt.specs.declared.faults.WktFault.{WktFault}
use Rattle.sg_wkt.specs.declared.faults.WktKind.{WktKind}
use Rattle.sg_wkt.specs.declared.faults.WktKind.TheVariants as kinds
use Rattle.sg_wkt.specs.Tokens.{Token, Tokens, Ends, Begins, is_mark}
use Rattle.sg_wkt.specs.Numbers.{is_number, are_zeros, after_dot, value, coordinate}
use Rattle.sg_wkt.specs.Grammar.{Reading, ◌>>=◌, fault, is_one, and_nothing, shape, lone_shape, most_spots}
use Rattle.sg_wkt.specs.Spelled.{Texts, texts_of, Spells}
use Rattle.sg_wkt.specs.Faults.{led_by, bytes_of, numbers, CanGoOn, MayStand, WantsNumber, WantsMark, AreRead, CanBeRead, HasFour, HasRoom, Applies}
use Rattle.sg_wkt.proofs.Sound.{bind_ok, sound_shape, nothing_after}
use Rattle.sg_wkt.proofs.Consumed.{Spells-lone_shape, is_byte}

-- ---- what is known at a fault while reading: all but that a wrong bracket may not stand
abbrev pub Raw : WktKind → Texts → List ℕ → Type 0
Raw kinds.Punctuation before token = WantsMark before
Raw kinds.Keyword before token = Applies kinds.Keyword before token
Raw kinds.Number before token = Applies kinds.Number before token
Raw kinds.Fraction before token = Applies kinds.Fraction before token
Raw kinds.CoordOut before token = Applies kinds.CoordOut before token
Raw kinds.TooMany before token = Applies kinds.TooMany before token
Raw kinds.TooFew before token = Applies kinds.TooFew before token
Raw kinds.RingOpen before token = Applies kinds.RingOpen before token
Raw kinds.After before token = Applies kinds.After before token
Raw kinds.End before token = ⊥

-- what stands before can be completed to texts that are read, where there is room for four more spots
abbrev pub Completed : Texts → Type 0
Completed b = HasFour b → CanBeRead b

-- the fault stands at a token, and whatever stands behind this
pub record StopsAt (ts : Tokens) (f : WktFault) : Type 0 where
  pub before : List Token
  pub token : Token
  pub rest : Tokens
  pub splits : ts ≡ led_by before (Begins token rest)
  pub place : f.at ≡ token.at
  pub raw : Raw f.kind (bytes_of before) token.bytes
  pub completed : Completed (bytes_of before)
  pub same : (more : Tokens) → lone_shape (led_by before (Begins token more)) ≡ Err f

pub record EndsAt (ts : Tokens) (f : WktFault) : Type 0 where
  pub before : List Token
  pub end : ℕ
  pub splits : ts ≡ led_by before (Ends end)
  pub is : f ≡ record { at = end; kind = kinds.End }
  pub goes_on : CanGoOn (bytes_of before)
  pub completed : Completed (bytes_of before)

abbrev pub Told : Tokens → Result Shape WktFault → Type 0
Told ts (Ok s) = Unit {0}
Told ts (Err f) = StopsAt ts f ⊎ EndsAt ts f

-- ---- where reading is
abbrev pub State : Type 0
State = Tokens → Result Shape WktFault

-- after these tokens, with these bytes, what comes next decides as said
pub record Comes (before : List Token) (b : Texts) (S : State) : Type 0 where
  pub bytes : bytes_of before ≡ b
  pub decides : (more : Tokens) → lone_shape (led_by before more) ≡ S more

-- tokens that lead from a state to a shape
abbrev pub Finishes : State → Type 0
Finishes S = (more : Tokens) × (s : Shape) × (S more ≡ Ok s)

-- and where there is room
abbrev pub Ends4 : Texts → State → Type 0
Ends4 b S = HasFour b → Finishes S

abbrev pub Goal : List Token → State → Tokens → Type 0
Goal before S ts = Told (led_by before ts) (S ts)

-- from wherever these texts lead to this state
abbrev pub Tells : Texts → State → Type 0
Tells b S = (before : List Token) → Comes before b S → (ts : Tokens) → Goal before S ts

led_by-more : (before : List Token) (token : Token) (more : Tokens) → led_by (before ++ token ∷ []) more ≡ led_by before (Begins token more)
led_by-more [] token more = refl
led_by-more (t ∷ ts) token more = ap (Begins t) (led_by-more ts token more)

bytes_of-more : (before : List Token) (token : Token) → bytes_of (before ++ token ∷ []) ≡ bytes_of before ++ token.bytes ∷ []
bytes_of-more [] token = refl
bytes_of-more (t ∷ ts) token = ap (λ (b : Texts). t.bytes ∷ b) (bytes_of-more ts token)

pub texts_of-led : (before : List Token) (rest : Tokens) → texts_of (led_by before rest) ≡ bytes_of before ++ texts_of rest
texts_of-led [] rest = refl
texts_of-led (t ∷ ts) rest = ap (λ (b : Texts). t.bytes ∷ b) (texts_of-led ts rest)

-- a further token
comes-next : (before : List Token) (b : Texts) (w : List ℕ) (S S' : State) (token : Token) → Comes before b S → token.bytes ≡ w →
    ((more : Tokens) → S (Begins token more) ≡ S' more) → Comes (before ++ token ∷ []) (b ++ w ∷ []) S'
comes-next before b w S S' token at is e = record {
  bytes = bytes_of-more before token ∙ ap (λ (x : Texts). x ++ token.bytes ∷ []) at.bytes ∙ ap (λ (x : List ℕ). b ++ x ∷ []) is;
  decides = λ more. ap lone_shape (led_by-more before token more) ∙ at.decides (Begins token more) ∙ e more;
}

pub told-next : (before : List Token) (b : Texts) (w : List ℕ) (S S' : State) (token : Token) (rest : Tokens) → Comes before b S → token.bytes ≡ w →
    ((more : Tokens) → S (Begins token more) ≡ S' more) → Tells (b ++ w ∷ []) S' → Goal before S (Begins token rest)
told-next before b w S S' token rest at is e h =
    subst (λ (r : Result Shape WktFault). Told (led_by before (Begins token rest)) r) (sym (e rest))
    (subst (λ (ts : Tokens). Told ts (S' rest)) (led_by-more before token rest) (h (before ++ token ∷ []) (comes-next before b w S S' token at is e) rest))

-- ---- what is read
pub IsSound-lone_shape : (ts : Tokens) (s : Shape) → lone_shape ts ≡ Ok s → IsSound s
unfolding lone_shape
IsSound-lone_shape ts s e =
    let step = bind_ok (shape ts) _ s e in
    subst IsSound (nothing_after step.0.0 step.0.1 s step.2) (sound_shape ts step.0 step.1)

can_be_read : (before : List Token) (b : Texts) (S : State) → Comes before b S → Finishes S → CanBeRead b
can_be_read before b S at (more, s, e) =
    let ts : Tokens = led_by before more in
    let read : lone_shape ts ≡ Ok s = at.decides more ∙ e in
    let all : texts_of ts ≡ b ++ texts_of more = texts_of-led before more ∙ ap (λ (x : Texts). x ++ texts_of more) at.bytes in
    (texts_of more, (s, subst (λ (x : Texts). Spells x s) all (Spells-lone_shape ts s read), IsSound-lone_shape ts s read))

pub fault-here : (before : List Token) (b : Texts) (S : State) (token : Token) (rest : Tokens) (k : WktKind) → Comes before b S →
    ((more : Tokens) → S (Begins token more) ≡ fault token.at k) → Raw k b token.bytes → Ends4 b S → Goal before S (Begins token rest)
fault-here before b S token rest k at e r fin =
    subst (λ (r : Result Shape WktFault). Told (led_by before (Begins token rest)) r) (sym (e rest)) (inl (record {
      before = before;
      token = token;
      rest = rest;
      splits = refl;
      place = refl;
      raw = subst (λ (x : Texts). Raw k x token.bytes) (sym at.bytes) r;
      completed = subst Completed (sym at.bytes) (λ four. can_be_read before b S at (fin four));
      same = λ more. at.decides (Begins token more) ∙ e more;
    }))

pub end-here : (before : List Token) (b : Texts) (S : State) (end : ℕ) → Comes before b S → S (Ends end) ≡ fault end kinds.End → CanGoOn b → Ends4 b S → Goal before S (Ends end)
end-here before b S end at e g fin =
    subst (λ (r : Result Shape WktFault). Told (led_by before (Ends end)) r) (sym e) (inr (record { before = before; end = end; splits = refl; is = refl; goes_on = subst CanGoOn (sym at.bytes) g; completed = subst Completed (sym at.bytes) (λ four. can_be_read before b S at (fin four)) }))

-- ---- a bracket or a comma
pub may_go_on : (b : Texts) (w : List ℕ) → MayStand b w → CanGoOn b
may_go_on b w h = (w ∷ h.0, h.1, h.2)

pub mark-told : (byte : ℕ) (b : Texts) (S S' : State) → ((end : ℕ) → S (Ends end) ≡ fault end kinds.End) →
    ((token : Token) (more : Tokens) → is_one byte token ≡ true → S (Begins token more) ≡ S' more) →
    ((token : Token) (more : Tokens) → is_one byte token ≡ false → S (Begins token more) ≡ fault token.at kinds.Punctuation) →
    is_mark byte ≡ true → MayStand b (byte ∷ []) → Ends4 b S → Tells (b ++ (byte ∷ []) ∷ []) S' → Tells b S
mark-told byte b S S' at_end found wrong is may fin h before at (Ends end) = end-here before b S end at (at_end end) (may_go_on b (byte ∷ []) may) fin
mark-told byte b S S' at_end found wrong is may fin h before at (Begins token rest) = choose (is_one byte token) refl
  where
    choose : (t : Bool) → is_one byte token ≡ t → Goal before S (Begins token rest)
    choose true e = told-next before b (byte ∷ []) S S' token rest at (is_byte byte token e) (λ more. found token more e) h
    choose false e = fault-here before b S token rest kinds.Punctuation at (λ more. wrong token more e) (byte, is, may) fin

-- ---- a number
is_numeral : (a b c : Bool) (v z : ℤ) → cond (not a) (Err kinds.Number) (cond (not b) (Err kinds.Fraction) (cond (not c) (Err kinds.CoordOut) (Ok v))) ≡ Ok z → a ≡ true
is_numeral true b c v z e = refl
is_numeral false b c v z e = cc

pub coordinate-is_number : (w : List ℕ) (z : ℤ) → coordinate w ≡ Ok z → is_number w ≡ true
coordinate-is_number w z e = is_numeral (is_number w) (are_zeros (after_dot w)) (coord_ok (value w)) (value w) z e

raw-number : (b : Texts) (w : List ℕ) (k : WktKind) → HasRoom b → coordinate w ≡ Err k → Raw k b w
raw-number b w k room e = choose (is_number w) (are_zeros (after_dot w)) (coord_ok (value w)) refl refl refl e
  where
    choose : (x y z : Bool) → is_number w ≡ x → are_zeros (after_dot w) ≡ y → coord_ok (value w) ≡ z →
        cond (not x) (Err kinds.Number) (cond (not y) (Err kinds.Fraction) (cond (not z) (Err kinds.CoordOut) (Ok (value w)))) ≡ Err k → Raw k b w
    choose false y z ex ey ez f = let is : kinds.Number ≡ k = cc in subst (λ (q : WktKind). Raw q b w) is (room, ex)
    choose true false z ex ey ez f = let is : kinds.Fraction ≡ k = cc in subst (λ (q : WktKind). Raw q b w) is (room, ex, ey)
    choose true true false ex ey ez f = let is : kinds.CoordOut ≡ k = cc in subst (λ (q : WktKind). Raw q b w) is (room, ex, ey, ez)
    choose true true true ex ey ez f = cc

pub number-told : (b : Texts) (S : State) (S' : ℤ → State) → ((end : ℕ) → S (Ends end) ≡ fault end kinds.End) →
    ((token : Token) (more : Tokens) (z : ℤ) → coordinate token.bytes ≡ Ok z → S (Begins token more) ≡ S' z more) →
    ((token : Token) (more : Tokens) (k : WktKind) → coordinate token.bytes ≡ Err k → S (Begins token more) ≡ fault token.at k) →
    HasRoom b → Ends4 b S → ((w : List ℕ) (z : ℤ) → coordinate w ≡ Ok z → Tells (b ++ w ∷ []) (S' z)) → Tells b S
number-told b S S' at_end found wrong room fin h before at (Ends end) = end-here before b S end at (at_end end) (may_go_on b (codes "0") room.0) fin
number-told b S S' at_end found wrong room fin h before at (Begins token rest) = choose (coordinate token.bytes) refl
  where
    choose : (r : Result ℤ WktKind) → coordinate token.bytes ≡ r → Goal before S (Begins token rest)
    choose (Ok z) e = told-next before b token.bytes S (S' z) token rest at refl (λ more. found token more z e) (h token.bytes z e)
    choose (Err k) e = fault-here before b S token rest k at (λ more. wrong token more k e) (raw-number b token.bytes k room e) fin

-- ---- a whole shape
-- a text that is read leaves nothing to be said of what is behind it
read_here : (before : List Token) (b : Texts) (s : Shape) → Comes before b (and_nothing s) → AreRead b
read_here before b s at =
    let ts : Tokens = led_by before (Ends 0) in
    let all : texts_of ts ≡ b = texts_of-led before (Ends 0) ∙ append-nil (bytes_of before) ∙ at.bytes in
    (s, subst (λ (x : Texts). Spells x s) all (Spells-lone_shape ts s (at.decides (Ends 0))), IsSound-lone_shape ts s (at.decides (Ends 0)))

pub done-told : (b : Texts) (s : Shape) → Tells b (and_nothing s)
done-told b s before at (Ends end) = tt
done-told b s before at (Begins token rest) =
    fault-here before b (and_nothing s) token rest kinds.After at (λ more. refl) (read_here before b s at) (λ four. (Ends 0, s, refl))
