-- Two orders of the grants: by the key, and by the session.
use Rattle.std.specs.Prelude.{◌≡◌, ℕ, List, map}
use Rattle.std.specs.declared.cmp.Ordering.{Ordering}
use Rattle.sg_modes.specs.declared.modes.Mode.{Mode}
use Rattle.sg_locks.specs.Grants.{Grant, has_grant, HasRisingGrants}

abbrev pub grant_on : {K : Type 0} → K × (ℕ × Mode) → Grant K
grant_on p = record { session = p.1.0; key = p.0; mode = p.1.1 }

-- the grants of pairs in groups of keys
abbrev pub grants_on : {K : Type 0} → List (K × (ℕ × Mode)) → List (Grant K)
grants_on ps = map grant_on ps

abbrev pub grant_of : {K : Type 0} → ℕ × (K × Mode) → Grant K
grant_of p = record { session = p.0; key = p.1.0; mode = p.1.1 }

-- the grants of pairs in groups of sessions
abbrev pub grants_of : {K : Type 0} → List (ℕ × (K × Mode)) → List (Grant K)
grants_of ps = map grant_of ps

-- both hold the same grants
abbrev pub Mirrors : {K : Type 0} → (K → K → Ordering) → List (K × (ℕ × Mode)) → List (ℕ × (K × Mode)) → Type 0
Mirrors {K} cmp ps qs = (s : ℕ) (k : K) (m : Mode) → has_grant cmp (grants_on ps) s k m ≡ has_grant cmp (grants_of qs) s k m

pub record IsLockTable {K : Type 0} (cmp : K → K → Ordering) (ps : List (K × (ℕ × Mode))) (qs : List (ℕ × (K × Mode))) : Type 0 where
  pub mirrors : Mirrors cmp ps qs
  pub rising : HasRisingGrants cmp (grants_on ps)
