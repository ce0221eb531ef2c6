-- A label that is looked for among others.
use Rattle.std.proofs.Common.{◌≡◌, ℕ, zero, suc, ◌+◌, ◌<◌, List, [], ◌∷◌, ◌++◌, length, take, get_or, sym, ap, ◌∙◌, subst, inl, inr, ⊎_elim, arith}
use Rattle.std.proofs.Math.Seq.{take-suc}
use Rattle.sg_cells.specs.Laws.{Has}
use Rattle.sg_trace.specs.declared.labels.Label.{Label}
use Rattle.sg_trace.specs.declared.labels.Label.TheVariants as label
use Rattle.sg_db.proofs.Advancing.{has_labels}

-- none of these is of a victim of the session
abbrev pub NoneOf : ℕ → List Label → Type 0
NoneOf s ls = (c : List ℕ) → Has ls (label.Victim s c) → ⊥

pub next_none : (s : ℕ) (ls : List Label) (i : ℕ) (l : Label) → i < length ls → l ≡ get_or ls i l → NoneOf s (take i ls) → ((c : List ℕ) → l ≡ label.Victim s c → ⊥) → NoneOf s (take (i + 1) ls)
next_none s ls i l lt is none other c has =
    let next : take (i + 1) ls ≡ take i ls ++ l ∷ [] = (let e : i + 1 ≡ suc i = omega arith in ap (λ n. take n ls) e ∙ (take-suc ls i l lt ∙ ap (λ (x : Label). take i ls ++ x ∷ []) (sym is))) in
    ⊎_elim (none c) (other c) (has_labels (take i ls) l (label.Victim s c) (subst (λ (x : List Label). Has x (label.Victim s c)) next has))

pub at_place : (ls : List Label) (i : ℕ) (l : Label) → i < length ls → l ≡ get_or ls i l → Has ls l
at_place [] i l lt is = absurd (omega arith)
at_place (x ∷ ls) zero l lt is = inl (sym is)
at_place (x ∷ ls) (suc i) l lt is = inr (at_place ls i l (omega arith) is)
