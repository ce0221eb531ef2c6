-- Faults of whole texts, in their own words.
use Rattle.std.proofs.Common.{◌≡◌, ◌≤◌, ◌<◌, ℕ, zero, suc, ◌+◌, Bool, true, false, cond, not, ◌||◌, ◌⊎◌, inl, inr, List, [], ◌∷◌, ◌++◌, length, take, drop, codes, refl, sym, ap, ◌∙◌, subst, Result, Ok, Err, arith, append-nil}
use Rattle.sg_shape.specs.declared.shapes.Shape.{Shape}
use Rattle.sg_wkt.specs.declared.faults.WktFault.{WktFault}
use Rattle.sg_wkt.specs.declared.faults.WktKind.{WktKind}
use Rattle.sg_wkt.specs.declared.faults.WktKind.TheVariants as kinds
use Rattle.sg_wkt.specs.Tokens.{Token, Tokens, Ends, Begins, is_blank, is_mark, begins_plain, lengthened, tokens_from, tokens}
use Rattle.sg_wkt.specs.Grammar.{lone_shape, shape_in}
use Rattle.sg_wkt.specs.Spelled.{Texts, texts_of, Spells}
use Rattle.sg_wkt.specs.Faults.{led_by, bytes_of, MayStand, AreRead, Applies, IsAtToken, IsAtEnd, IsFault}
use Rattle.sg_wkt.specs.Laws.{TellsFaults}
use Rattle.sg_wkt.proofs.Complete.{lone_shape-Spells}
use Rattle.sg_wkt.proofs.FaultStates.{Raw, StopsAt, EndsAt, Told, Comes, texts_of-led}
use Rattle.sg_wkt.proofs.FaultWords.{lone_shape-told}
use Rattle.sg_wkt.proofs.TokenPlaces.{token-stands}
use Rattle.sg_wkt.proofs.FaultMild.{IsLimit, Mild, lone_shape-mild}

-- ---- where the tokens of a text end
abbrev end_of : Tokens → ℕ
end_of (Ends end) = end
end_of (Begins token rest) = end_of rest

end-lengthened : (at b : ℕ) (ts : Tokens) → end_of (lengthened at b ts) ≡ end_of ts
end-lengthened at b (Ends end) = refl
end-lengthened at b (Begins token rest) = refl

end-step : (t u : Bool) (at b : ℕ) (ts : Tokens) → end_of (cond t ts (cond u (Begins (record { at = at; bytes = b ∷ [] }) ts) (lengthened at b ts))) ≡ end_of ts
end-step true u at b ts = refl
end-step false true at b ts = refl
end-step false false at b ts = end-lengthened at b ts

end-tokens_from : (at : ℕ) (text : List ℕ) → end_of (tokens_from at text) ≡ at + length text
end-tokens_from at [] = omega arith
end-tokens_from at (b ∷ bs) =
    let next = end-tokens_from (at + 1) bs in
    let sum : at + 1 + length bs ≡ at + length (b ∷ bs) = omega arith in
    end-step (is_blank b) (is_mark b || not (begins_plain bs)) at b (tokens_from (at + 1) bs) ∙ next ∙ sum

end-led : (before : List Token) (end : ℕ) → end_of (led_by before (Ends end)) ≡ end
end-led [] end = refl
end-led (t ∷ ts) end = end-led ts end

end_is : (text : List ℕ) (before : List Token) (end : ℕ) → tokens text ≡ led_by before (Ends end) → end ≡ length text
end_is text before end e =
    let none : 0 + length text ≡ length text = omega arith in
    sym (end-led before end) ∙ sym (ap end_of e) ∙ end-tokens_from 0 text ∙ none

-- ---- tokens with these texts
abbrev of_texts : Texts → Tokens
of_texts [] = Ends 0
of_texts (w ∷ ws) = Begins (record { at = 0; bytes = w }) (of_texts ws)

texts_of-of : (ws : Texts) → texts_of (of_texts ws) ≡ ws
texts_of-of [] = refl
texts_of-of (w ∷ ws) = ap (λ (x : Texts). w ∷ x) (texts_of-of ws)

-- a fault that no limit is the cause of: with its token the texts spell nothing
spells_nothing : (before : List Token) (token : Token) (f : WktFault) → ((more : Tokens) → lone_shape (led_by before (Begins token more)) ≡ Err f) →
    MayStand (bytes_of before) token.bytes → IsLimit f.kind
spells_nothing before token f same (rest, s, h) =
    let ts : Tokens = led_by before (Begins token (of_texts rest)) in
    let all : texts_of ts ≡ bytes_of before ++ token.bytes ∷ rest =
    texts_of-led before (Begins token (of_texts rest)) ∙ ap (λ (x : Texts). bytes_of before ++ token.bytes ∷ x) (texts_of-of rest) in
    subst Mild (same (of_texts rest)) (lone_shape-mild ts s (subst (λ (x : Texts). Spells x s) (sym all) h))

-- and with any fault's token no text is read
refused : (before : List Token) (token : Token) (f : WktFault) → ((more : Tokens) → lone_shape (led_by before (Begins token more)) ≡ Err f) →
    (more : Texts) → ¬ AreRead (bytes_of before ++ token.bytes ∷ more)
refused before token f same more (s, h, sound) =
    let ts : Tokens = led_by before (Begins token (of_texts more)) in
    let all : texts_of ts ≡ bytes_of before ++ token.bytes ∷ more =
    texts_of-led before (Begins token (of_texts more)) ∙ ap (λ (x : Texts). bytes_of before ++ token.bytes ∷ x) (texts_of-of more) in
    let read : Ok s ≡ Err f = sym (lone_shape-Spells ts s (subst (λ (x : Texts). Spells x s) (sym all) h) sound) ∙ same (of_texts more) in
    cc

applies : (k : WktKind) (b : Texts) (w : List ℕ) → Raw k b w → (MayStand b w → IsLimit k) → Applies k b w
applies kinds.Punctuation b w r none = (r, none)
applies kinds.Keyword b w r none = r
applies kinds.Number b w r none = r
applies kinds.Fraction b w r none = r
applies kinds.CoordOut b w r none = r
applies kinds.TooMany b w r none = r
applies kinds.TooFew b w r none = r
applies kinds.RingOpen b w r none = r
applies kinds.After b w r none = r
applies kinds.End b w r none = r

pub told : (ts : Tokens) → Told ts (lone_shape ts)
told ts = lone_shape-told [] (record { bytes = refl; decides = λ more. refl }) ts

pub told-fault : (ts : Tokens) (f : WktFault) → lone_shape ts ≡ Err f → StopsAt ts f ⊎ EndsAt ts f
told-fault ts f e = subst (Told ts) e (told ts)

at_token : (text : List ℕ) (f : WktFault) → StopsAt (tokens text) f → IsAtToken text f
at_token text f s =
    let stands = token-stands text s.before s.token s.rest s.splits in
    record {
      before = s.before;
      token = s.token;
      rest = s.rest;
      splits = s.splits;
      place = s.place;
      bytes = ap (λ (n : ℕ). take (length s.token.bytes) (drop n text)) s.place ∙ stands.0;
      some = stands.1;
      applies = applies f.kind (bytes_of s.before) s.token.bytes s.raw (spells_nothing s.before s.token f s.same);
      completed = s.completed;
      decides = record {
        behind = λ other more e. ap lone_shape e ∙ s.same more;
        refused = refused s.before s.token f s.same;
      };
    }

ends_mild : (before : List Token) (end : ℕ) (f : WktFault) (s : Shape) → lone_shape (led_by before (Ends end)) ≡ Err f → Spells (bytes_of before) s → IsLimit f.kind
ends_mild before end f s e h =
    let all : texts_of (led_by before (Ends end)) ≡ bytes_of before = texts_of-led before (Ends end) ∙ append-nil (bytes_of before) in
    subst Mild e (lone_shape-mild (led_by before (Ends end)) s (subst (λ (x : Texts). Spells x s) (sym all) h))

at_end : (text : List ℕ) (f : WktFault) → shape_in text ≡ Err f → EndsAt (tokens text) f → IsAtEnd text f
at_end text f e s =
    let end : s.end ≡ length text = end_is text s.before s.end s.splits in
    let kind : f.kind ≡ kinds.End = ap (λ (x : WktFault). x.kind) s.is in
    record {
      before = s.before;
      splits = s.splits ∙ ap (λ (n : ℕ). led_by s.before (Ends n)) end;
      place = ap (λ (x : WktFault). x.at) s.is ∙ end;
      end = kind;
      goes_on = s.goes_on;
      completed = s.completed;
      spells_none = λ t h. subst IsLimit kind (ends_mild s.before s.end f t (ap lone_shape (sym s.splits) ∙ e) h);
    }

pub shape_in-faults : TellsFaults
shape_in-faults text f e = choose (told-fault (tokens text) f e)
  where
    choose : StopsAt (tokens text) f ⊎ EndsAt (tokens text) f → IsFault text f
    choose (inl s) = inl (at_token text f s)
    choose (inr s) = inr (at_end text f e s)
