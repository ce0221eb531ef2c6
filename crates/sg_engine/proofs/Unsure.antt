-- What a guarded search has left to refine stays as it is, whatever other sessions do.
use Rattle.std.proofs.Common.{◌≡◌, ◌≢◌, ℕ, Bool, true, false, cond, not, ◌&&◌, List, ◌∷◌, Option, Some, None, refl, sym, ap, ◌∙◌, subst}
use Rattle.std.specs.Prelude.{is_some}
use Rattle.std.proofs.lemmas.Bool.{ne_eqb}
use Rattle.sg_shape.specs.declared.shapes.Shape.{Shape}
use Rattle.sg_cells.specs.declared.settings.Settings.{Settings}
use Rattle.sg_plain.specs.declared.statements.Query.{Query}
use Rattle.sg_plain.specs.declared.statements.Statement.{Statement}
use Rattle.sg_plain.specs.declared.statements.Statement.TheVariants.{Insert, Update, Delete, Get, Select, Plan, Filter, DeleteWhere}
use Rattle.sg_plain.specs.Rows.{Rows, AreRows}
use Rattle.sg_trace.specs.Candidates.{touches, proves_in}
use Rattle.sg_trace.specs.Replies.{meeting}
use Rattle.sg_trace.specs.Traces.{Stage, Event, Local, State, session_of, state, with_one, effects, view}
use Rattle.sg_trace.specs.Legal.{IsStage, IsLegal}
use Rattle.sg_laws.specs.Changes.{lookup, look, seen_at}
use Rattle.sg_laws.specs.Reading.{IsGuarded}
use Rattle.sg_laws.proofs.Lists.{rows_rise, AreRows-effects}
use Rattle.sg_laws.proofs.Same.{pick, kept_same}
use Rattle.sg_laws.proofs.Ends.{ended, seen_kept}
use Rattle.sg_laws.proofs.Kept.{legal_good, by_event}
use Rattle.sg_engine.specs.Phases.{is_unsure, unsure_rows, AreLeft}

-- of a statement that looks at the shapes that pass a test, the same pass
picked_by : (g : Settings) (st : Statement) (k : ℕ) (f : Shape → Bool) → ((s : Shape) → look g st k s ≡ cond (f s) (Some (Some s)) None) → (a b : Option Shape) → seen_at g st k a ≡ seen_at g st k b → pick f a ≡ pick f b
picked_by g st k f is None None e = refl
picked_by g st k f is None (Some t) e = go (f t) (e ∙ is t)
  where
    go : (b : Bool) → None ≡ cond b (Some (Some t)) None → None ≡ cond b (Some t) None
    go true q = absurd (cc)
    go false q = refl
picked_by g st k f is (Some s) None e = go (f s) (sym (is s) ∙ e)
  where
    go : (b : Bool) → cond b (Some (Some s)) None ≡ None → cond b (Some s) None ≡ None
    go true q = absurd (cc)
    go false q = refl
picked_by g st k f is (Some s) (Some t) e = go (f s) (f t) (sym (is s) ∙ (e ∙ is t))
  where
    go : (b c : Bool) → cond b (Some (Some s)) None ≡ cond c (Some (Some t)) None → cond b (Some s) None ≡ cond c (Some t) None
    go true true q = cc
    go true false q = absurd (cc)
    go false true q = absurd (cc)
    go false false q = refl

-- and of those the same pass another one
picked_less : (f h : Shape → Bool) (a b : Option Shape) → pick f a ≡ pick f b → pick (λ s. f s && h s) a ≡ pick (λ s. f s && h s) b
picked_less f h None None e = refl
picked_less f h None (Some t) e = go (f t) e
  where
    go : (b : Bool) → None ≡ cond b (Some t) None → None ≡ cond (b && h t) (Some t) None
    go true q = absurd (cc)
    go false q = refl
picked_less f h (Some s) None e = go (f s) e
  where
    go : (b : Bool) → cond b (Some s) None ≡ None → cond (b && h s) (Some s) None ≡ None
    go true q = absurd (cc)
    go false q = refl
picked_less f h (Some s) (Some t) e = go (f s) (f t) e
  where
    go : (b c : Bool) → cond b (Some s) None ≡ cond c (Some t) None → cond (b && h s) (Some s) None ≡ cond (c && h t) (Some t) None
    go true true q = let q' : s ≡ t = cc in ap (λ u. cond (h u) (Some u) None) q'
    go true false q = absurd (cc)
    go false true q = absurd (cc)
    go false false q = refl

module _ (c : Settings) (xs ys : Rows) (rx : AreRows xs) (ry : AreRows ys) where
  unsure_same : (st : Statement) (q : Query) → ((k : ℕ) (s : Shape) → look c st k s ≡ cond (touches c q s) (Some (Some s)) None) → ((k : ℕ) → seen_at c st k (lookup xs k) ≡ seen_at c st k (lookup ys k)) → unsure_rows c q xs ≡ unsure_rows c q ys
  unsure_same st q is e =
      kept_same (is_unsure c q) xs ys (rows_rise xs rx) (rows_rise ys ry)
      (λ k. picked_less (touches c q) (λ s. not (proves_in c.grid c.window q s)) (lookup xs k) (lookup ys k) (picked_by c st k (touches c q) (is k) (lookup xs k) (lookup ys k) (e k)))

  -- rows that look alike to a statement leave it the same to refine
  left_same : (st : Statement) (items : Rows) → ((k : ℕ) → seen_at c st k (lookup xs k) ≡ seen_at c st k (lookup ys k)) → AreLeft c xs st items → AreLeft c ys st items
  left_same (Select q) items e h = h ∙ unsure_same (Select q) q (λ k s. refl) e
  left_same (Plan q) items e h = h ∙ unsure_same (Plan q) q (λ k s. refl) e
  left_same (DeleteWhere q) items e h = h ∙ unsure_same (DeleteWhere q) q (λ k s. refl) e
  left_same (Filter f) items e h =
      (h.0, h.1 ∙ unsure_same (Filter f) (meeting f) (λ k s. ap (λ b. cond (touches c (meeting f) s) (cond b (Some None) (Some (Some s))) None) (ap is_some h.0)) e)
  left_same (Get k) items e h = absurd h
  left_same (Insert k s) items e h = absurd h
  left_same (Update k s) items e h = absurd h
  left_same (Delete k) items e h = absurd h

-- ---- an event of another session
untouched : (z : State) (u s : ℕ) (x : Local) → u ≢ s → with_one z.of u x s ≡ z.of s
untouched z u s x ne = let i = ne_eqb u s ne in rw i refl

left_of : (z : State) (u s : ℕ) (t : Rows) → u ≢ s → (ended z u t).of s ≡ z.of s
left_of z u s t ne = let i = ne_eqb u s ne in rw i refl

pub left_stays : (w : Stage) (r : IsStage w) (e : Event) (es : List Event) → IsLegal w (e ∷ es) → (s : ℕ) → session_of e ≢ s → (st : Statement) (items : Rows) → IsGuarded w es s st
    → AreLeft w.settings (view (state w es) s) st items → AreLeft w.settings (view (state w (e ∷ es)) s) st items
left_stays w r e es l s ne st items h left =
    let z = state w es in
    let ok = legal_good w r es l.0 in
    let u = session_of e in
    let ds = (z.of s).done in
    by_event w es e ok l.1 (λ z'. AreLeft w.settings (view z' s) st items)
    (λ x c. subst (λ (y : Local). AreLeft w.settings (effects y.done z.rows) st items) (sym (untouched z u s x ne)) left)
    (λ t are moves.
    subst (λ (y : Local). AreLeft w.settings (effects y.done t) st items) (sym (left_of z u s t ne))
    (left_same w.settings (effects ds z.rows) (effects ds t) (AreRows-effects ds z.rows (ok.sound.statements s).done ok.sound.rows) (AreRows-effects ds t (ok.sound.statements s).done are) st items
    (λ k. sym (seen_kept w.settings z u t ok.sound moves s (λ i. ne (sym i)) st h ds k)) left))
