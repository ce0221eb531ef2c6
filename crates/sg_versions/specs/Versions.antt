-- Keys with what the last commit left there, and what a session has written since.
use Rattle.std.specs.Prelude.{ℕ, Bool, false, not, ◌&&◌, cond, eqb, List, map, filter, Option, Some, None, refl}
use Rattle.std.specs.Option.{is_none}
use Rattle.std.specs.Map.{lookup, set_value}
use Rattle.std.specs.Coded.{Coded, code_by, coded×, coded_ℕ, coded_list, coded_option}
use Rattle.sg_versions.specs.declared.version.Version.{Version}
use Rattle.sg_versions.specs.declared.version.WritesEnd.{WritesEnd}
use Rattle.sg_versions.specs.declared.version.WritesEnd.TheVariants.{Keep, Undo}

-- the rows by rising key, and how many new keys fit without further memory
pub record Versioned (K V : Type 0) : Type 0 where
  pub rows : List (K × Version V)
  pub spare : ℕ

-- the session is the writer
abbrev pub is_writer : ℕ → Option ℕ → Bool
is_writer s None = false
is_writer s (Some w) = eqb s w

module _ {V : Type 0} where
  -- what the session sees at a key: what it wrote itself, or else what is committed
  abbrev pub seen : ℕ → Version V → Option V
  seen s v = cond (is_writer s v.writer) v.live v.committed

  -- and nothing where the key isn't there
  abbrev pub visible : ℕ → Option (Version V) → Option V
  visible s None = None
  visible s (Some v) = seen s v

  -- a key that the session has just put in
  abbrev pub fresh : ℕ → Version V
  fresh s = record { committed = None; writer = Some s; live = None }

  -- a key with a committed value
  abbrev pub kept_value : V → Version V
  kept_value x = record { committed = Some x; writer = None; live = None }

  -- after the session has written
  abbrev pub written : ℕ → Option V → Version V → Version V
  written s value v = record { committed = v.committed; writer = Some s; live = value }

  -- what the end of the writer's writes leaves
  abbrev pub outcome : WritesEnd → Version V → Option V
  outcome Keep v = v.live
  outcome Undo v = v.committed

  abbrev pub ended : WritesEnd → Version V → Version V
  ended e v = record { committed = outcome e v; writer = None; live = None }

  -- the session is the writer, and the end of its writes leaves nothing
  abbrev pub is_emptied : WritesEnd → ℕ → Version V → Bool
  is_emptied e s v = is_writer s v.writer && is_none (outcome e v)

  -- the writes of this session have ended, and those of the others stand
  abbrev pub ended_of : WritesEnd → ℕ → Version V → Version V
  ended_of e s v = cond (is_writer s v.writer) (ended e v) v

  -- what is left of a key where all writes of this session have ended
  abbrev pub settled_version : WritesEnd → ℕ → Option (Version V) → Option (Version V)
  settled_version e s None = None
  settled_version e s (Some v) = cond (is_emptied e s v) None (Some (ended_of e s v))

module _ {K V : Type 0} where
  -- all writes of the session have ended, and the keys at which nothing is left are gone
  abbrev pub settled : WritesEnd → ℕ → List (K × Version V) → List (K × Version V)
  settled e s rows = map (λ r. (r.0, ended_of e s r.1)) (filter (λ r. not (is_emptied e s r.1)) rows)

  -- with f of the version of the first key that passes, whose version is this
  abbrev pub change_by : (K → Bool) → (Version V → Version V) → List (K × Version V) → Option (Version V) → List (K × Version V)
  change_by test f rows None = rows
  change_by test f rows (Some v) = set_value test rows (f v)

  -- with f of the version of the first key that passes
  abbrev pub change_at : (K → Bool) → (Version V → Version V) → List (K × Version V) → List (K × Version V)
  change_at test f rows = change_by test f rows (lookup test rows)

abbrev pub version_code : {V : Type 0} → Coded V → Coded (Version V)
version_code {V} value =
    code_by (Option V × (Option ℕ × Option V)) (coded× (coded_option value) (coded× (coded_option coded_ℕ) (coded_option value))) (λ v. (v.committed, (v.writer, v.live))) (λ p. record { committed = p.0; writer = p.1.0; live = p.1.1 }) (λ _. refl)

abbrev pub versioned_code : {K V : Type 0} → Coded K → Coded V → Coded (Versioned K V)
versioned_code {K} {V} key value =
    code_by (List (K × Version V) × ℕ) (coded× (coded_list (coded× key (version_code value))) coded_ℕ) (λ s. (s.rows, s.spare)) (λ p. record { rows = p.0; spare = p.1 }) (λ _. refl)
