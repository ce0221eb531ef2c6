-- What a parse comes to, word by word.
use Rattle.std.proofs.Common.{◌≡◌, ℕ, true, false, List, [], ◌∷◌, refl, ap, sym, ◌∙◌, Option, Some, None}
use Rattle.std.specs.Prelude.{if◌then◌else◌}
use Rattle.std.specs.List.{fold}
use Rattle.std.proofs.lemmas.Bool.{false≢true}
use Rattle.clap.specs.Walk.{Held, Walk, Row, finished, idle, settled, walked}
use Rattle.clap.specs.Simple.{Shape}
use Rattle.clap.specs.Kinds.{Kinds, or_else}
use Rattle.clap.specs.Faults.{check_fault, defaults_fault, settle_fault, turn_fault, walk_fault}
use Rattle.sg_command.specs.Words.{Word}
use Rattle.sg_command.specs.Usage.{clear}

-- between two options, where the positional p comes next
abbrev pub resting_at : ℕ → Held → Walk
resting_at p h = record { held = h; waiting = idle; position = p; is_trailing = false; stopped = None }

abbrev pub resting : Held → Walk
resting = resting_at 1

module _ (s : Shape) where
  abbrev pub end_fault : Held → Kinds
  end_fault h = or_else (settle_fault s.rules s.args_override_self h)
      (or_else (defaults_fault (settled s.rules h).rows s.rules) (check_fault s (finished s.rules h) false))

  abbrev pub held_after : Walk → List Word → Held
  held_after w ws = (fold (walked s.rules []) w ws).held

  -- the rows at the end, where the parse has no fault
  abbrev pub outcome : Walk → List Word → Option (List Row)
  outcome w ws = if clear (or_else (walk_fault s [] w ws) (end_fault (held_after w ws))) then Some (finished s.rules (held_after w ws)) else None

  first_turn : (r : Option (List Row)) (turn rest end : Kinds) → (if clear (or_else (or_else turn rest) end) then r else None) ≡ (if clear turn then (if clear (or_else rest end) then r else None) else None)
  first_turn r [] rest end = refl
  first_turn r (k ∷ ks) rest end = refl

  outcome_next : (w : Walk) (x : Word) (ws : List Word) → outcome w (x ∷ ws) ≡ (if clear (turn_fault s [] w x) then outcome (walked s.rules [] w x) ws else None)
  unfolding walk_fault
  outcome_next w x ws = first_turn _ (turn_fault s [] w x) (walk_fault s [] (walked s.rules [] w x) ws) (end_fault (held_after (walked s.rules [] w x) ws))

  outcome_end : (w : Walk) → outcome w [] ≡ (if clear (end_fault w.held) then Some (finished s.rules w.held) else None)
  unfolding walk_fault
  outcome_end w = refl

  -- a word that fails, and one that passes
  pub fails : (w : Walk) (x : Word) (ws : List Word) → clear (turn_fault s [] w x) ≡ false → outcome w (x ∷ ws) ≡ None
  fails w x ws e = outcome_next w x ws ∙ ap (λ b. if b then outcome (walked s.rules [] w x) ws else None) e

  pub passes : (w next : Walk) (x : Word) (ws : List Word) → clear (turn_fault s [] w x) ≡ true → walked s.rules [] w x ≡ next → outcome w (x ∷ ws) ≡ outcome next ws
  passes w next x ws e n = outcome_next w x ws ∙ ap (λ b. if b then outcome (walked s.rules [] w x) ws else None) e ∙ ap (λ v. outcome v ws) n

  pub ends : (w : Walk) → end_fault w.held ≡ [] → outcome w [] ≡ Some (finished s.rules w.held)
  ends w e = outcome_end w ∙ ap (λ k. if clear k then Some (finished s.rules w.held) else None) e

  pub ends_badly : (w : Walk) → clear (end_fault w.held) ≡ false → outcome w [] ≡ None
  ends_badly w e = outcome_end w ∙ ap (λ b. if b then Some (finished s.rules w.held) else None) e

pub clear_first : (a b : Kinds) → clear a ≡ false → clear (or_else a b) ≡ false
clear_first [] b e = absurd (false≢true (sym e))
clear_first (k ∷ ks) b e = refl
