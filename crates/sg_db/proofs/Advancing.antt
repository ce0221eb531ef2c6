-- One step of an open statement, with what others did before.
use Rattle.std.proofs.Common.{◌≡◌, ◌≢◌, ◌⊎◌, ℕ, suc, ◌-◌, ◌≤◌, Bool, true, false, cond, List, [], ◌∷◌, ◌++◌, length, take, drop, eqb, Option, Some, None, refl, sym, ap, ◌∙◌, subst, inl, inr, ⊎_elim, append_assoc, append-nil, arith}
use Rattle.sg_cells.specs.Laws.{Has}
use Rattle.sg_trace.specs.declared.labels.Label.{Label}
use Rattle.sg_trace.specs.declared.labels.Label.TheVariants as label
use Rattle.sg_trace.specs.declared.labels.Cause.TheVariants.{NoMemory}
use Rattle.sg_trace.specs.Traces.{Stage, Event, Begin, Ask, Take, Put, Wait, Victim, Answered, Commit, Rollback, Local, idle, label_of, labels_of}
use Rattle.sg_trace.specs.Legal.{IsLegal}
use Rattle.sg_history.specs.Histories.{own}
use Rattle.sg_history.specs.Views.{Known}
use Rattle.sg_history.specs.Staying.{local}
use Rattle.sg_history.proofs.Staying.{own_append, stays_or_yields, yielded, one_victim}
use Rattle.sg_db.specs.declared.going.End.{End}
use Rattle.sg_db.specs.declared.going.End.TheVariants as end
use Rattle.sg_db.specs.declared.going.Going.{Going}
use Rattle.sg_db.specs.declared.going.Going.TheVariants.{On, Waits, Job, Over}
use Rattle.sg_db.specs.Locks.{LockedShown, HasDone}
use Rattle.sg_db.specs.Callers.{IsCaller, Goes}
use Rattle.sg_db.specs.Executions.{AreSteps, EndsNone, IsAsking, IsLiveClosed, IsOver, NoVictim, IsYielded, IsStillGoing}
use Rattle.sg_db.specs.Ends.{HasEnded, Advanced, Ended}
use Rattle.sg_db.proofs.Telling.{labels_append, length_labels}
use Rattle.sg_db.proofs.Knowing.{goes_on, knows_all, done_goes}
use Rattle.sg_db.proofs.Parts.{own_here, local_here, has_append, none_append, ends_append}
use Rattle.sg_db.proofs.Under.{same_local, gave_up}

-- ---- victims among labels
victim_label : (s : ℕ) (c : List ℕ) (e : Event) → e ≡ Victim s c → label_of e ≡ label.Victim s c
victim_label s c e q = ap label_of q

label_victim : (s : ℕ) (c : List ℕ) (e : Event) → label_of e ≡ label.Victim s c → e ≡ Victim s c
label_victim s c (Victim u d) q = let a : u ≡ s = cc q in let b : d ≡ c = cc q in λ i. Victim (a i) (b i)
label_victim s c (Begin u t) q = absurd (cc q)
label_victim s c (Ask u n st) q = absurd (cc q)
label_victim s c (Take u k m) q = absurd (cc q)
label_victim s c (Put u k m) q = absurd (cc q)
label_victim s c (Wait u k m b) q = absurd (cc q)
label_victim s c (Answered u a) q = absurd (cc q)
label_victim s c (Commit u p) q = absurd (cc q)
label_victim s c (Rollback u d) q = absurd (cc q)

pub has_labels : {A : Type 0} (xs : List A) (x y : A) → Has (xs ++ x ∷ []) y → Has xs y ⊎ (x ≡ y)
has_labels [] x y (inl q) = inr q
has_labels [] x y (inr h) = absurd h
has_labels (z ∷ xs) x y (inl q) = inl (inl q)
has_labels (z ∷ xs) x y (inr h) = ⊎_elim (λ p. inl (inr p)) (λ p. inr p) (has_labels xs x y h)

has_first : {A : Type 0} (xs : List A) (x y : A) → Has xs y → Has (xs ++ x ∷ []) y
has_first [] x y h = absurd h
has_first (z ∷ xs) x y (inl q) = inl q
has_first (z ∷ xs) x y (inr h) = inr (has_first xs x y h)

has_last : {A : Type 0} (xs : List A) (x y : A) → x ≡ y → Has (xs ++ x ∷ []) y
has_last [] x y q = inl q
has_last (z ∷ xs) x y q = inr (has_last xs x y q)

pub labelled : (s : ℕ) (c : List ℕ) (es : List Event) → Has es (Victim s c) → Has (labels_of es) (label.Victim s c)
labelled s c [] h = absurd h
labelled s c (e ∷ es) (inl q) = has_last (labels_of es) (label_of e) (label.Victim s c) (victim_label s c e q)
labelled s c (e ∷ es) (inr h) = has_first (labels_of es) (label_of e) (label.Victim s c) (labelled s c es h)

pub unlabelled : (s : ℕ) (c : List ℕ) (es : List Event) → Has (labels_of es) (label.Victim s c) → Has es (Victim s c)
unlabelled s c [] h = absurd h
unlabelled s c (e ∷ es) h = ⊎_elim (λ p. inr (unlabelled s c es p)) (λ p. inl (label_victim s c e p)) (has_labels (labels_of es) (label_of e) (label.Victim s c) h)

-- ---- what others did to an open statement
pub record Looked (s : ℕ) (v w : Known) : Type 0 where
  pub others : List Event
  pub goes : Goes s others v w
  pub own : own s others ≡ []
  pub legal : IsLegal v.stage (others ++ v.seen)

pub looked : (s : ℕ) (old new : LockedShown) (v w : Known) → IsCaller s v → HasDone [] old new v w → Looked s v w
looked s old new v w c d =
    let b = done_goes s [] old new v w c d in
    record { others = b.others; goes = b.goes; own = b.none; legal = subst (IsLegal v.stage) b.goes.seen (subst (λ (x : Stage). IsLegal x w.seen) b.goes.stage b.goes.caller.history.legal) }

-- the labels that the seat hadn't seen are those of the others' events
pub unseen : (s : ℕ) (old new : LockedShown) (v w : Known) → IsCaller s v → (d : HasDone [] old new v w) → (l : Looked s v w) → drop (length v.seen) new.engine.labels ≡ labels_of l.others
unseen s old new v w c d l =
    let k = knows_all s [] old new v w c d in
    let labels : new.engine.labels ≡ labels_of v.seen ++ labels_of l.others = k.run.shows.labels ∙ (ap labels_of (sym k.seen ∙ l.goes.seen) ∙ labels_append l.others v.seen) in
    ap (drop (length v.seen)) labels ∙ (ap (λ n. drop n (labels_of v.seen ++ labels_of l.others)) (sym (length_labels v.seen)) ∙ front (labels_of v.seen) (labels_of l.others))
  where
    front : (xs ys : List Label) → drop (length xs) (xs ++ ys) ≡ ys
    front [] ys = refl
    front (x ∷ xs) ys = front xs ys

pub seen_within : (s : ℕ) (old new : LockedShown) (v w : Known) → IsCaller s v → HasDone [] old new v w → Looked s v w → length v.seen ≤ length new.engine.labels
seen_within s old new v w c d l =
    let k = knows_all s [] old new v w c d in
    let a = ap length (k.run.shows.labels ∙ (ap labels_of (sym k.seen ∙ l.goes.seen) ∙ labels_append l.others v.seen)) in
    let b = Rattle.std.proofs.Common.length-append (labels_of v.seen) (labels_of l.others) in
    let n = length_labels v.seen in
    omega arith

-- it is still live, and then as it was
pub still : (s : ℕ) (v w : Known) → IsAsking (local v.stage v.seen s) → (l : Looked s v w) → (local w.stage w.seen s).live ≡ true → (local v.stage (l.others ++ v.seen) s ≡ local v.stage v.seen s) × NoVictim s l.others
still s v w a l live =
    let at = same_local s l.others v w l.goes in
    (go at (stays_or_yields v.stage s l.others v.seen l.own), λ c has. let y = yielded v.stage s c l.others v.seen l.own has in let q : true ≡ false = sym live ∙ ap (λ (x : Local). x.live) (at ∙ y.1) in absurd (cc))
  where
    go : local w.stage w.seen s ≡ local v.stage (l.others ++ v.seen) s → (local v.stage (l.others ++ v.seen) s ≡ local v.stage v.seen s) ⊎ ((c : List ℕ) × Has l.others (Victim s c) × (local v.stage (l.others ++ v.seen) s ≡ idle (local v.stage v.seen s).begun)) → local v.stage (l.others ++ v.seen) s ≡ local v.stage v.seen s
    go at (inl same) = same
    go at (inr y) = let q : true ≡ false = sym live ∙ ap (λ (x : Local). x.live) (at ∙ y.2) in absurd (cc)

-- or it isn't, and one of the others' events made it a victim
pub gone : (s : ℕ) (v w : Known) → IsAsking (local v.stage v.seen s) → (l : Looked s v w) → (local w.stage w.seen s).live ≡ false → (c : List ℕ) × Has l.others (Victim s c)
gone s v w a l dead = go (stays_or_yields v.stage s l.others v.seen l.own)
  where
    go : (local v.stage (l.others ++ v.seen) s ≡ local v.stage v.seen s) ⊎ ((c : List ℕ) × Has l.others (Victim s c) × (local v.stage (l.others ++ v.seen) s ≡ idle (local v.stage v.seen s).begun)) → (c : List ℕ) × Has l.others (Victim s c)
    go (inl same) = let q : true ≡ false = sym a.live ∙ (ap (λ (x : Local). x.live) (sym same ∙ sym (same_local s l.others v w l.goes)) ∙ dead) in absurd (cc)
    go (inr y) = (y.0, y.1)

pub is_yielded : (s : ℕ) (c : List ℕ) (v w : Known) (l : Looked s v w) → Has l.others (Victim s c) → IsYielded s c v.stage v.seen l.others
is_yielded s c v w l has =
    let y = yielded v.stage s c l.others v.seen l.own has in record {
      victim = has;
      once = λ d other. one_victim v.stage s c d l.others v.seen l.legal l.own has other;
      ends = subst EndsNone (sym l.own) tt;
      over = record { live = ap (λ (x : Local). x.live) y.1; closed = ap (λ (x : Local). x.open_one) y.1 };
    }

-- ---- a step on top of what others did
module _ (s : ℕ) (u v w : Known) (l : Looked s u v) (same : local u.stage (l.others ++ u.seen) s ≡ local u.stage u.seen s) (calm : NoVictim s l.others) where
  abbrev all : List Event → List Event
  all more = more ++ l.others

  own_all : (more : List Event) → own s (more ++ l.others) ≡ own s more
  own_all more = own_append s more l.others ∙ (ap (λ x. own s more ++ x) l.own ∙ append-nil (own s more))

  local_all : (more : List Event) → local v.stage (more ++ v.seen) s ≡ local u.stage ((more ++ l.others) ++ u.seen) s
  local_all more = (λ i. local (l.goes.stage i) (more ++ l.goes.seen i) s) ∙ sym (ap (λ x. local u.stage x s) (append_assoc more l.others u.seen))

  was : local v.stage v.seen s ≡ local u.stage u.seen s
  was = same_local s l.others u v l.goes ∙ same

  pub still_all : (more : List Event) → IsStillGoing s v.stage v.seen more → IsStillGoing s u.stage u.seen (more ++ l.others)
  still_all more h = record { are_steps = subst AreSteps (sym (own_all more)) h.are_steps; none = none_append s more l.others h.none calm; asking = subst IsAsking (local_all more) h.asking }

  pub ended_all : (more : List Event) (it : End) → HasEnded s v.stage v.seen more it → HasEnded s u.stage u.seen (more ++ l.others) it
  ended_all more (end.Answered a) h = record { own = own_all more ∙ h.own; none = none_append s more l.others h.none calm; live = subst IsLiveClosed (local_all more) h.live }
  ended_all more (end.Victim c) h = record {
    victim = Rattle.sg_db.proofs.Parts.has_left more l.others (Victim s c) h.victim;
    once = λ d has. ⊎_elim (λ (x : Has more (Victim s d)). h.once d x) (λ (x : Has l.others (Victim s d)). absurd (calm d x)) (has_append more l.others (Victim s d) has);
    ends = subst EndsNone (sym (own_all more)) h.ends;
    over = subst IsOver (local_all more) h.over;
  }
  ended_all more end.NoMemory h = record {
    last = ⊎_elim
        (λ (x : ((local v.stage v.seen s).live ≡ false) × (own s more ≡ [])). inl (ap (λ (y : Local). y.live) (sym was) ∙ x.0, own_all more ∙ x.1))
        (λ (x : (rest : List Event) × (own s more ≡ Rollback s NoMemory ∷ rest)). inr (x.0, own_all more ∙ x.1))
        h.last;
    none = none_append s more l.others h.none calm;
    ends = subst EndsNone (sym (own_all more)) h.ends;
    over = subst IsOver (local_all more) h.over;
  }

  pub advanced_all : (going : Going) → Advanced s v w going → Advanced s u w going
  advanced_all On h = record { more = h.more ++ l.others; goes = goes_on s l.others h.more u v w l.goes h.goes; now = still_all h.more h.now }
  advanced_all Waits h = record { more = h.more ++ l.others; goes = goes_on s l.others h.more u v w l.goes h.goes; now = still_all h.more h.now }
  advanced_all (Job job) h = record { more = h.more ++ l.others; goes = goes_on s l.others h.more u v w l.goes h.goes; now = (still_all h.more h.now.0, own_all h.more ∙ h.now.1) }
  advanced_all (Over it) h = record { more = h.more ++ l.others; goes = goes_on s l.others h.more u v w l.goes h.goes; now = ended_all h.more it h.now }

-- ---- at the call
pub not_true : (b : Bool) → Rattle.std.proofs.Common.not b ≡ true → b ≡ false
not_true true h = absurd (cc)
not_true false h = refl

pub not_false : (b : Bool) → Rattle.std.proofs.Common.not b ≡ false → b ≡ true
not_false true h = refl
not_false false h = absurd (cc)

pub place_within : (s n : ℕ) (old new : LockedShown) (v w : Known) (ls : List Label) → IsCaller s v → HasDone [] old new v w → n ≡ length v.seen → ls ≡ new.engine.labels → n ≤ length ls
place_within s n old new v w ls c d from is = let r = seen_within s old new v w c d (looked s old new v w c d) in let e = ap length is in omega (arith, from)

pub victim_there : (s n : ℕ) (old new : LockedShown) (v w : Known) (ls : List Label) → IsCaller s v → IsAsking (local v.stage v.seen s) → HasDone [] old new v w → (local w.stage w.seen s).live ≡ false → n ≡ length v.seen → ls ≡ new.engine.labels
    → (c : List ℕ) × Has (drop n ls) (label.Victim s c)
victim_there s n old new v w ls c a d dead from is =
    let l = looked s old new v w c d in
    let x = gone s v w a l dead in
    (x.0, subst (λ (ms : List Label). Has ms (label.Victim s x.0)) (sym ((λ i. drop (from i) (is i)) ∙ unseen s old new v w c d l)) (labelled s x.0 l.others x.1))

pub victim_found : (s n : ℕ) (c : List ℕ) (old new : LockedShown) (v w : Known) (ls : List Label) → IsCaller s v → HasDone [] old new v w → n ≡ length v.seen → ls ≡ new.engine.labels → Has (drop n ls) (label.Victim s c) → Ended s v w (end.Victim c)
victim_found s n c old new v w ls call d from is has =
    let l = looked s old new v w call d in
    record {
      more = l.others;
      goes = l.goes;
      now = is_yielded s c v w l (unlabelled s c l.others (subst (λ (ms : List Label). Has ms (label.Victim s c)) ((λ i. drop (from i) (is i)) ∙ unseen s old new v w call d l) has));
    }

pub over_so : (s : ℕ) (v w : Known) (it : End) → Ended s v w it → Advanced s v w (Over it)
over_so s v w it h = record { more = h.more; goes = h.goes; now = h.now }

-- it goes on from what others did
pub still_asking : (s : ℕ) (old new : LockedShown) (v w : Known) → IsCaller s v → IsAsking (local v.stage v.seen s) → HasDone [] old new v w → (local w.stage w.seen s).live ≡ true → IsAsking (local w.stage w.seen s)
still_asking s old new v w c a d live =
    let l = looked s old new v w c d in
    subst IsAsking (sym (same_local s l.others v w l.goes ∙ (still s v w a l live).0)) a

pub advanced_so : (s : ℕ) (old new : LockedShown) (u v w : Known) (going : Going) → IsCaller s u → IsAsking (local u.stage u.seen s) → HasDone [] old new u v → (local v.stage v.seen s).live ≡ true → Advanced s v w going → Advanced s u w going
advanced_so s old new u v w going c a d live h =
    let l = looked s old new u v c d in
    let t = still s u v a l live in
    advanced_all s u v w l t.0 t.1 going h

-- it is given up after what others did
pub given_up : (s : ℕ) (old new : LockedShown) (u v w : Known) → IsCaller s u → IsAsking (local u.stage u.seen s) → HasDone [] old new u v → (local v.stage v.seen s).live ≡ true → Goes s (Rollback s NoMemory ∷ []) v w → Ended s u w end.NoMemory
given_up s old new u v w c a d live r =
    let l = looked s old new u v c d in
    let t = still s u v a l live in
    let o = gave_up s l.others u v w l.goes t.1 (subst EndsNone (sym l.own) tt) r in
    record { more = o.more; goes = o.goes; now = o.now }
