-- Turns of a list, one after another.
use Rattle.std.specs.Prelude.{◌≡◌, ℕ, ◌+◌, ◌<◌, ◌≤◌, List, [], ◌∷◌, ◌++◌, length, take, slice_get, Some, None, refl}
use Rattle.std.proofs.Common.{sym, ap, ◌∙◌, subst, arith, inl, inr, zero, suc}
use Rattle.std.proofs.lemmas.List.{append_assoc}
use Rattle.std.proofs.lemmas.Option.{slice_get_within, slice_get-get_or}
use Rattle.sg_script.specs.declared.sessions.SessionScript.{SessionScript}
use Rattle.sg_script.specs.Plans.{Plan, numbers_of}
use Rattle.sg_run.specs.Runs.{RunShown}
use Rattle.sg_driver.specs.Drives.{HasMoved, Leads, after_turns, after_rounds, IsFinished, IsDriven}
use Rattle.sg_driver.proofs.Leading.{after_is, after_more, leads_on, leads_after}

-- the script stays
pub moved_script : (s : ℕ) (old new : RunShown) → HasMoved s old new → new.script ≡ old.script
moved_script s old new h = elim h.moves [
  | inl stuck ↦ ap (λ (v : RunShown). v.script) stuck.1
  | inr free ↦ elim free.1 [
    | inl g ↦ g.goes.script
    | inr l ↦ l.script
  ]
]

pub leads_script : (ts : List ℕ) (old new : RunShown) → Leads ts old new → new.script ≡ old.script
leads_script [] old new h = ap (λ (v : RunShown). v.script) h
leads_script (s ∷ ts) old new h = moved_script s h.0 new h.2 ∙ leads_script ts old h.0 h.1

-- the turns of the list's first sessions lead here, and all of them are so many
pub record IsAmid (list : List ℕ) (old : RunShown) (count place : ℕ) (now : RunShown) : Type 0 where
  pub all : count ≡ length list
  pub within : place ≤ length list
  pub leads : Leads (after_turns (take place list) []) old now

take_one : (list : List ℕ) (place s : ℕ) → slice_get list place ≡ Some s → take (suc place) list ≡ take place list ++ s ∷ []
take_one [] place s e = absurd (cc)
take_one (x ∷ list) zero s e = let h : x ≡ s = cc in ap (λ n. n ∷ []) h
take_one (x ∷ list) (suc place) s e = ap (λ (xs : List ℕ). x ∷ xs) (take_one list place s e)

take_all : (list : List ℕ) (n : ℕ) → length list ≤ n → take n list ≡ list
take_all [] zero h = refl
take_all [] (suc n) h = refl
take_all (x ∷ list) zero h = absurd (omega arith)
take_all (x ∷ list) (suc n) h = ap (λ (xs : List ℕ). x ∷ xs) (take_all list n (omega arith))

pub amid_start : (list : List ℕ) (old : RunShown) (count : ℕ) → count ≡ length list → IsAmid list old count 0 old
amid_start list old count e = record { all = e; within = omega arith; leads = by_list list }
  where
    by_list : (list : List ℕ) → Leads (after_turns (take 0 list) []) old old
    by_list [] = refl
    by_list (x ∷ list) = refl

pub amid_more : (list : List ℕ) (old : RunShown) (count place s : ℕ) (now new : RunShown) → IsAmid list old count place now → slice_get list place ≡ Some s → HasMoved s now new → IsAmid list old count (place + 1) new
amid_more list old count place s now new a e h = record {
  all = a.all;
  within = (let lt = slice_get_within list place s e in omega arith);
  leads =
      let n : place + 1 ≡ suc place = omega arith in
      subst (λ k. Leads (after_turns (take k list) []) old new) (sym n)
      (subst (λ (ts : List ℕ). Leads ts old new) (sym (ap (λ (xs : List ℕ). after_turns xs []) (take_one list place s e) ∙ after_more (take place list) s [])) (now, a.leads, h));
}

pub amid_end : (list : List ℕ) (old : RunShown) (count place : ℕ) (now : RunShown) → IsAmid list old count place now → count ≤ place → Leads (after_turns list []) old now
amid_end list old count place now a le = subst (λ (xs : List ℕ). Leads (after_turns xs []) old now) (take_all list place (let e = a.all in omega arith)) a.leads

-- before its end there is a session
pub amid_none : (list : List ℕ) (old : RunShown) (count place : ℕ) (now : RunShown) → IsAmid list old count place now → place < count → slice_get list place ≡ None → ⊥
amid_none list old count place now a lt e = let there = slice_get-get_or list place 0 (let l = a.all in omega arith) in absurd (cc)

pub amid_script : (list : List ℕ) (old : RunShown) (count place : ℕ) (now : RunShown) → IsAmid list old count place now → now.script ≡ old.script
amid_script list old count place now a = leads_script (after_turns (take place list) []) old now a.leads

pub same_numbers : (sessions : List SessionScript) → length sessions ≡ length (numbers_of sessions)
same_numbers [] = refl
same_numbers (x ∷ rest) = ap suc (same_numbers rest)

-- ---- rounds
-- so many rounds lead here
pub record IsOnTheWay (start now : RunShown) : Type 0 where
  pub rounds : ℕ
  pub leads : Leads (after_rounds start.script rounds []) start now

pub way_more : (start now new : RunShown) → IsOnTheWay start now → Leads (after_turns (numbers_of now.script.sessions) []) now new → IsOnTheWay start new
way_more start now new way h = record {
  rounds = suc way.rounds;
  leads =
      leads_after (numbers_of start.script.sessions) (after_rounds start.script way.rounds []) start now new way.leads
      (subst (λ (x : Plan). Leads (after_turns (numbers_of x.sessions) []) now new) (leads_script (after_rounds start.script way.rounds []) start now way.leads) h);
}

-- rounds after other turns
rounds_are : (plan : Plan) (n : ℕ) (before : List ℕ) → after_rounds plan n before ≡ after_rounds plan n [] ++ before
rounds_are plan zero before = refl
rounds_are plan (suc n) before =
    let ss = numbers_of plan.sessions in
    let round = after_turns ss [] in
    after_is ss (after_rounds plan n before)
    ∙ (ap (λ (xs : List ℕ). round ++ xs) (rounds_are plan n before)
    ∙ (sym (append_assoc round (after_rounds plan n []) before)
    ∙ ap (λ (xs : List ℕ). xs ++ before) (sym (after_is ss (after_rounds plan n [])))))

-- the turns of the order, and then a run that was finished
pub driven : (start mid new : RunShown) → Leads (after_turns start.script.order []) start mid → IsFinished mid new → IsDriven start new
driven start mid new order f =
    let ordered = after_turns start.script.order [] in
    record {
      rounds = f.rounds;
      leads =
          subst (λ (ts : List ℕ). Leads ts start new) (sym (rounds_are start.script f.rounds ordered))
          (leads_on (after_rounds start.script f.rounds []) ordered start mid new order
          (subst (λ (x : Plan). Leads (after_rounds x f.rounds []) mid new) (leads_script ordered start mid order) f.leads));
      ended = f.ended;
    }
