-- What is kept as labels come one after another.
use Rattle.std.proofs.Common.{◌≡◌, ℕ, suc, ◌+◌, ◌<◌, Bool, true, false, cond, List, [], ◌∷◌, ◌++◌, length, take, drop, get_or, eqb, refl, sym, ap, ◌∙◌, subst, arith, append-nil}
use Rattle.std.proofs.Math.Seq.{drop-cons, take-suc}
use Rattle.std.proofs.lemmas.Bool.{eq-eqb, eqb-true}
use Rattle.std.proofs.lemmas.List.{length-append, take-append-drop}
use Rattle.sg_modes.specs.Sessions.{IsSession}
use Rattle.sg_trace.specs.declared.labels.Label.{Label}
use Rattle.sg_run.specs.declared.outcomes.Outcome.{Outcome}
use Rattle.sg_run.specs.declared.courses.Course.{Course}
use Rattle.sg_run.specs.Ends.{end_by, ends}
use Rattle.sg_run.specs.Courses.{course_in, with_ends, ended, HasRoomFor}
use Rattle.sg_run.proofs.Kept.{with_append, room_with}
use Rattle.sg_run.proofs.Goes.{ends_append}

-- so many labels were looked at
pub record AreNoted (labels : List Label) (i : ℕ) (old new : List Course) : Type 0 where
  pub size : length new ≡ 64
  pub each : (u : ℕ) → IsSession u → course_in new u ≡ with_ends (ends u (take i labels)) (course_in old u)

-- the labels up to the next one, it, and those behind it
split : (labels : List Label) (i : ℕ) (l : Label) → i < length labels → l ≡ get_or labels i l → labels ≡ take i labels ++ (l ∷ drop (suc i) labels)
split labels i l lt is =
    sym (take-append-drop i labels) ∙ ap (λ (ls : List Label). take i labels ++ ls) (drop-cons labels i l lt ∙ ap (λ (x : Label). x ∷ drop (suc i) labels) (sym is))

fewer : (os more : List Outcome) (c : Course) → HasRoomFor (os ++ more) c → HasRoomFor os c
fewer os more c h = let l = length-append os more in let a = h.over in let b = h.numbers in record { over = omega arith; numbers = omega arith }

pub note_room : (labels : List Label) (i : ℕ) (l : Label) → i < length labels → l ≡ get_or labels i l → (u : ℕ) (c : Course) → HasRoomFor (ends u labels) c → HasRoomFor (end_by u l) (with_ends (ends u (take i labels)) c)
note_room labels i l lt is u c room =
    let all : ends u labels ≡ ends u (take i labels) ++ (end_by u l ++ ends u (drop (suc i) labels)) = ap (λ (ls : List Label). ends u ls) (split labels i l lt is) ∙ ends_append u (take i labels) (l ∷ drop (suc i) labels) in
    fewer (end_by u l) (ends u (drop (suc i) labels)) (with_ends (ends u (take i labels)) c)
    (room_with (ends u (take i labels)) (end_by u l ++ ends u (drop (suc i) labels)) c (subst (λ (os : List Outcome). HasRoomFor os c) all room))

pub note_next : (labels : List Label) (i : ℕ) (l : Label) → i < length labels → l ≡ get_or labels i l → (u : ℕ) (c : Course) → with_ends (end_by u l) (with_ends (ends u (take i labels)) c) ≡ with_ends (ends u (take (i + 1) labels)) c
note_next labels i l lt is u c =
    let next : take (i + 1) labels ≡ take i labels ++ l ∷ [] = (let e : i + 1 ≡ suc i = omega arith in ap (λ n. take n labels) e ∙ (take-suc labels i l lt ∙ ap (λ (x : Label). take i labels ++ x ∷ []) (sym is))) in
    let all : ends u (take (i + 1) labels) ≡ ends u (take i labels) ++ end_by u l =
    ap (λ (ls : List Label). ends u ls) next ∙ (ends_append u (take i labels) (l ∷ []) ∙ ap (λ (os : List Outcome). ends u (take i labels) ++ os) (append-nil (end_by u l))) in
    sym (ap (λ (os : List Outcome). with_ends os c) all ∙ with_append (ends u (take i labels)) (end_by u l) c)

-- ---- one end
-- what a label that ends a transaction of session v with this outcome leaves of session u
pub ended_by : (old new : List Course) (v : ℕ) (o : Outcome) → course_in new v ≡ ended o (course_in old v) → ((u : ℕ) → IsSession u → (u ≡ v → ⊥) → course_in new u ≡ course_in old u)
    → (u : ℕ) → IsSession u → course_in new u ≡ with_ends (cond (eqb v u) (o ∷ []) []) (course_in old u)
ended_by old new v o own others u is = go (eqb v u) refl
  where
    go : (b : Bool) → eqb v u ≡ b → course_in new u ≡ with_ends (cond b (o ∷ []) []) (course_in old u)
    go true e = subst (λ n. course_in new n ≡ ended o (course_in old n)) (eqb-true v u e) own
    go false e = others u is (λ q. let f : true ≡ false = sym (eq-eqb v u (sym q)) ∙ e in cc)

pub own_room : (v : ℕ) (o : Outcome) (c : Course) → HasRoomFor (cond (eqb v v) (o ∷ []) []) c → HasRoomFor (o ∷ []) c
own_room v o c h = subst (λ b. HasRoomFor (cond b (o ∷ []) []) c) (eq-eqb v v refl) h
