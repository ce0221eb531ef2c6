-- Fronts of lists that a loop goes over.
use Rattle.std.proofs.Common.{◌≡◌, ℕ, zero, suc, ◌+◌, ◌-◌, ◌<◌, ◌≤◌, List, [], ◌∷◌, ◌++◌, length, map, take, take_all, flat_map, Some, refl, sym, ap, ◌∙◌, arith, append_assoc, append-nil}
use Rattle.std.specs.Prelude.{slice_get}
use Rattle.sg_texts.specs.Texts.{Commit}
use Rattle.sg_texts.specs.declared.others.Other.{Other}
use Rattle.sg_script.specs.declared.sessions.SessionScript.{SessionScript}
use Rattle.sg_trace.specs.Traces.{count_from}
use Rattle.sg_run.specs.Runs.{RunShown}
use Rattle.std.proofs.lemmas.List.{length-map}
use Rattle.sg_report.specs.Reports.{scripted, journal_in, commit_of, other_at, others_of}

-- one more item
pub take_more : {A : Type 0} (xs : List A) (i : ℕ) (x : A) → slice_get xs i ≡ Some x → take (suc i) xs ≡ take i xs ++ x ∷ []
take_more [] i x e = absurd (cc)
take_more (y ∷ xs) zero x e = let q : y ≡ x = cc in ap (λ z. z ∷ []) q
take_more (y ∷ xs) (suc i) x e = ap (λ ys. y ∷ ys) (take_more xs i x e)

-- one more number
count_more : (n m : ℕ) → count_from n (suc m) ≡ count_from n m ++ (n + m) ∷ []
count_more n zero = let q : n ≡ n + 0 = omega arith in ap (λ k. k ∷ []) q
count_more n (suc m) =
    let q : suc n + m ≡ n + suc m = omega arith in
    ap (λ ks. n ∷ ks) (count_more (suc n) m ∙ ap (λ k. count_from (suc n) m ++ k ∷ []) q)

flat_last : {A B : Type 0} (f : A → List B) (xs : List A) (x : A) → flat_map f (xs ++ x ∷ []) ≡ flat_map f xs ++ f x
flat_last f [] x = append-nil (f x)
flat_last f (y ∷ xs) x = ap (λ ys. f y ++ ys) (flat_last f xs x) ∙ sym (append_assoc (f y) (flat_map f xs) (f x))

-- what each number gives, from 1 to one more
pub flat_more : {B : Type 0} (f : ℕ → List B) (m : ℕ) → flat_map f (count_from 1 (m + 1)) ≡ flat_map f (count_from 1 m) ++ f (m + 1)
flat_more {B} f m =
    let q : m + 1 ≡ suc m = omega arith in
    let r : 1 + m ≡ m + 1 = omega arith in
    ap (λ (k : ℕ). flat_map f (count_from 1 k)) q
    ∙ (ap (flat_map f) (count_more 1 m) ∙ (flat_last f (count_from 1 m) (1 + m) ∙ ap (λ (k : ℕ). flat_map f (count_from 1 m) ++ f k) r))

-- ---- the commits that are told so far
pub record AreCommits (v : RunShown) (count place : ℕ) (now : List Commit) : Type 0 where
  pub all : count ≡ length v.engine.journal
  pub is : now ≡ take place (map commit_of (journal_in v))

pub commits_start : (v : RunShown) (count : ℕ) (now : List Commit) → count ≡ length v.engine.journal → now ≡ [] → AreCommits v count 0 now
commits_start v count now all e = record { all = all; is = e ∙ sym (none (map commit_of (journal_in v))) }
  where
    none : (cs : List Commit) → take 0 cs ≡ []
    none [] = refl
    none (c ∷ cs) = refl

pub commits_more : (v : RunShown) (count place : ℕ) (c : Commit) (old new : List Commit) → AreCommits v count place old → slice_get (map commit_of (journal_in v)) (place + 1 - 1) ≡ Some c → new ≡ old ++ c ∷ [] → AreCommits v count (place + 1) new
commits_more v count place c old new a at e =
    let q : place + 1 - 1 ≡ place = omega arith in
    let r : suc place ≡ place + 1 = omega arith in
    record {
      all = a.all;
      is = e ∙ (ap (λ (cs : List Commit). cs ++ c ∷ []) a.is ∙ (sym (take_more (map commit_of (journal_in v)) place c (ap (slice_get (map commit_of (journal_in v))) (sym q) ∙ at))
          ∙ ap (λ (k : ℕ). take k (map commit_of (journal_in v))) r));
    }

pub commits_end : (v : RunShown) (count place : ℕ) (now : List Commit) → AreCommits v count place now → count ≤ place → now ≡ map commit_of (journal_in v)
commits_end v count place now a h =
    let l = length-map (journal_in v) commit_of in
    let m = length-map v.engine.journal (scripted v.past) in
    a.is ∙ take_all place (map commit_of (journal_in v)) (omega (arith, a.all, l, m))

-- ---- the others of a session that are told so far, behind those that came before
pub record AreOthers (v : RunShown) (x : SessionScript) (before : List Other) (count place : ℕ) (now : List Other) : Type 0 where
  pub all : count ≡ length x.transactions
  pub within : place ≤ count
  pub is : now ≡ before ++ flat_map (other_at v x.session) (count_from 1 place)

pub others_start : (v : RunShown) (x : SessionScript) (before : List Other) (count : ℕ) → count ≡ length x.transactions → AreOthers v x before count 0 before
others_start v x before count all = record { all = all; within = omega arith; is = sym (append-nil before) }

pub others_more : (v : RunShown) (x : SessionScript) (before : List Other) (count place : ℕ) (old new : List Other) → AreOthers v x before count place old → place < count → new ≡ old ++ other_at v x.session (place + 1) → AreOthers v x before count (place + 1) new
others_more v x before count place old new a lt e = record {
  all = a.all;
  within = omega arith;
  is = e ∙ (ap (λ (os : List Other). os ++ other_at v x.session (place + 1)) a.is
      ∙ (append_assoc before (flat_map (other_at v x.session) (count_from 1 place)) (other_at v x.session (place + 1))
      ∙ ap (λ (os : List Other). before ++ os) (sym (flat_more (other_at v x.session) place))));
}

pub others_end : (v : RunShown) (x : SessionScript) (before : List Other) (count place : ℕ) (now : List Other) → AreOthers v x before count place now → count ≤ place → now ≡ before ++ others_of v x
others_end v x before count place now a h =
    let w = a.within in
    let q : place ≡ length x.transactions = omega (arith, a.all, w) in
    a.is ∙ ap (λ (k : ℕ). before ++ flat_map (other_at v x.session) (count_from 1 k)) q
