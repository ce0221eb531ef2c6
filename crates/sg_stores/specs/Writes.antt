-- What a session's write does to a key of a store.
use Rattle.std.specs.Prelude.{◌≡◌, ◌⊎◌, ℕ, cond, List, Option, Some, None}
use Rattle.std.specs.declared.cmp.Ordering.{Ordering}
use Rattle.std.specs.Ordering.{is_eq}
use Rattle.std.specs.Map.{lookup}
use Rattle.std.specs.BTreeMap.{is_at}
use Rattle.sg_versions.specs.declared.version.Version.{Version}
use Rattle.sg_versions.specs.Versions.{fresh, written}
use Rattle.sg_versions.specs.Writers.{writer_of}

-- no other session has written there
abbrev pub IsOwn : {V : Type 0} → ℕ → Option (Version V) → Type 0
IsOwn s o = (writer_of o ≡ None) ⊎ (writer_of o ≡ Some s)

-- the version that the session writes at: the one there, or a fresh one
abbrev pub made : {V : Type 0} → ℕ → Option (Version V) → Version V
made s None = fresh s
made s (Some v) = v

module _ {K V : Type 0} (cmp : K → K → Ordering) where
  -- the key is there, and nothing else has changed
  abbrev pub IsMade : ℕ → K → List (K × Version V) → List (K × Version V) → Type 0
  IsMade s key old new = (k : K) → lookup (is_at (cmp k)) new ≡ cond (is_eq (cmp key k)) (Some (made s (lookup (is_at (cmp k)) old))) (lookup (is_at (cmp k)) old)

  -- the session has left this value, or none, at the key, and nothing else has changed
  abbrev pub IsWritten : ℕ → K → Option V → List (K × Version V) → List (K × Version V) → Type 0
  IsWritten s key value old new = (k : K) → lookup (is_at (cmp k)) new ≡ cond (is_eq (cmp key k)) (Some (written s value (made s (lookup (is_at (cmp k)) old)))) (lookup (is_at (cmp k)) old)
