-- A journal in the order of the script without the transactions that were left unbegun is in that of the script.
use Rattle.std.proofs.Common.{◌≡◌, ℕ, zero, suc, ◌-◌, ◌<◌, ◌≤◌, List, [], ◌∷◌, map, get_or, refl, sym, ap, ◌∙◌, subst, arith}
use Rattle.std.specs.Prelude.{slice_get, All, AllPairs, Contains}
use Rattle.std.proofs.lemmas.List.Elements.{All-map, All-head, All-tail}
use Rattle.std.proofs.lemmas.List.Kept.{AllPairs-cons}
use Rattle.sg_plain.specs.Serial.{Entry, ScriptOrder, IsCommitOf, RisesInSession}
use Rattle.sg_plain.specs.Transactions.{TransactionPlan, SessionPlan}
use Rattle.sg_trace.specs.Scripts.{Script}
use Rattle.sg_run.specs.Ends.{Past, begun_count, begun_ones}
use Rattle.sg_run.specs.Runs.{past_in, without_unbegun, number_of}
use Rattle.sg_program.proofs.Scripted.{nth_least, nth_rises, begun_at}
use Rattle.sg_report.specs.Reports.{scripted}

-- ---- each and each later one
module _ {X : Type 0} (R : X → X → Type 0) where
  pairs_head : (x : X) (xs : List X) → AllPairs R (x ∷ xs) → All (R x) xs
  pairs_head x xs h k d within = h 0 (suc k) d (omega arith) (omega arith)

  pairs_tail : (x : X) (xs : List X) → AllPairs R (x ∷ xs) → AllPairs R xs
  pairs_tail x xs h i j d lt within = h (suc i) (suc j) d (omega arith) (omega arith)

-- what the images of each two have to be, where each of them is P
pairs_map : {X Y : Type 0} (P : X → Type 0) (R : X → X → Type 0) (S : Y → Y → Type 0) (f : X → Y) → ((a b : X) → P a → P b → R a b → S (f a) (f b)) →
    (xs : List X) → All P xs → AllPairs R xs → AllPairs S (map f xs)
pairs_map P R S f step [] all h = λ i j d lt within. absurd (omega arith)
pairs_map P R S f step (x ∷ xs) all h =
    AllPairs-cons S (f x) (map f xs)
    (All-map (S (f x)) f xs (λ k d within. step x (get_or xs k d) (All-head P x xs all) (All-tail P x xs all k d within) (pairs_head R x xs h k d within)))
    (pairs_map P R S f step xs (All-tail P x xs all) (pairs_tail R x xs h))

-- ---- one entry
record IsImage {X Y : Type 0} (f : X → Y) (xs : List X) (y : Y) : Type 0 where
  pub x : X
  pub there : Contains xs x
  pub is : f x ≡ y

image : {X Y : Type 0} (f : X → Y) (xs : List X) (y : Y) → Contains (map f xs) y → IsImage f xs y
image f [] y c = let l = c.1 in absurd (omega arith)
image f (x ∷ xs) y (zero, l, e) = record { x = x; there = (0, omega arith, refl); is = e }
image f (x ∷ xs) y (suc i, l, e) =
    let r = image f xs y (i, omega arith, e) in
    let c = r.there in
    record { x = r.x; there = (suc c.0, omega (arith, c.1), c.2); is = r.is }

-- the number of its transaction is one of those that were begun and are over
pub record IsCounted (past : List Past) (e : Entry) : Type 0 where
  pub least : 1 ≤ e.transaction
  pub most : e.transaction ≤ begun_count (past_in past e.session)

abbrev session_without : List Past → SessionPlan → SessionPlan
session_without past p = record { number = p.number; transactions = begun_ones (past_in past p.number) p.transactions }

commit_scripted : (past : List Past) (ps : Script) (e : Entry) → IsCounted past e → IsCommitOf (without_unbegun past ps) e → IsCommitOf ps (scripted past e)
commit_scripted past ps e counted c =
    let found = image (session_without past) ps c.session c.of_script in
    let number : found.x.number ≡ e.session = ap (λ (p : SessionPlan). p.number) found.is ∙ c.session_number in
    let own : begun_ones (past_in past e.session) found.x.transactions ≡ c.session.transactions =
    ap (λ (s : ℕ). begun_ones (past_in past s) found.x.transactions) (sym number) ∙ ap (λ (p : SessionPlan). p.transactions) found.is in
    let least = counted.least in
    let most = counted.most in
    record {
      session = found.x;
      transaction = c.transaction;
      of_script = found.there;
      session_number = number;
      counted_from_one = nth_least 1 (past_in past e.session) (e.transaction - 1) (omega arith);
      at_its_number = begun_at 1 (past_in past e.session) found.x.transactions (e.transaction - 1) c.transaction (omega arith)
          (ap (λ (ts : List TransactionPlan). slice_get ts (e.transaction - 1)) own ∙ c.at_its_number);
      commits = c.commits;
      statements = c.statements;
    }

rises_scripted : (past : List Past) (d e : Entry) → IsCounted past d → IsCounted past e → RisesInSession d e → RisesInSession (scripted past d) (scripted past e)
rises_scripted past d e counted counted' rises same =
    let lt = rises same in
    let least = counted.least in
    let most = counted'.most in
    subst (λ (s : ℕ). number_of (past_in past s) d.transaction < number_of (past_in past e.session) e.transaction) (sym same)
    (nth_rises 1 (past_in past e.session) (d.transaction - 1) (e.transaction - 1) (omega arith) (omega arith))

pub order_scripted : (past : List Past) (ps : Script) (js : List Entry) → All (IsCounted past) js → ScriptOrder (without_unbegun past ps) js → ScriptOrder ps (map (scripted past) js)
order_scripted past ps js counted o = record {
  commits = All-map (IsCommitOf ps) (scripted past) js (λ k d within. commit_scripted past ps (get_or js k d) (counted k d within) (o.commits k d within));
  in_order = pairs_map (IsCounted past) RisesInSession RisesInSession (scripted past) (rises_scripted past) js counted o.in_order;
}
