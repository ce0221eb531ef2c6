-- A lock table as contracts see it: which session holds which key in which mode.
use Rattle.std.specs.Prelude.{◌≡◌, ℕ, Bool, false, not, ◌&&◌, ◌||◌, List, eqb, refl}
use Rattle.std.specs.declared.cmp.Ordering.{Ordering}
use Rattle.std.specs.Ordering.{is_eq, nat_cmp, ordering_then}
use Rattle.std.specs.List.{list_any}
use Rattle.std.specs.List.Sorted.{IsStrictlySortedBy}
use Rattle.std.specs.Coded.{Coded, code_by, coded×, coded_ℕ, coded_list}
use Rattle.sg_modes.specs.declared.modes.Mode.{Mode}
use Rattle.sg_modes.specs.declared.modes.Mode.TheVariants.{S, U, X, RangeSS, RangeSU, RangeIN, RangeXX}
use Rattle.sg_modes.specs.contracts.modes.Mode as modes
use Rattle.sg_modes.specs.Modes.{is_compatible}

-- a session, by its number, holds a key in a mode
pub record Grant (K : Type 0) : Type 0 where
  pub session : ℕ
  pub key : K
  pub mode : Mode

-- the grants in one order, and how many new ones fit without further memory
pub record Granted (K : Type 0) : Type 0 where
  pub grants : List (Grant K)
  pub spare : ℕ

abbrev pub grant_code : {K : Type 0} → Coded K → Coded (Grant K)
grant_code {K} key =
    code_by (ℕ × (K × Mode)) (coded× coded_ℕ (coded× key modes.the_row.coded)) (λ g. (g.session, (g.key, g.mode))) (λ p. record { session = p.0; key = p.1.0; mode = p.1.1 }) (λ _. refl)

abbrev pub granted_code : {K : Type 0} → Coded K → Coded (Granted K)
granted_code {K} key =
    code_by (List (Grant K) × ℕ) (coded× (coded_list (grant_code key)) coded_ℕ) (λ s. (s.grants, s.spare)) (λ p. record { grants = p.0; spare = p.1 }) (λ _. refl)

-- the modes in their order
abbrev pub mode_place : Mode → ℕ
mode_place S = 0
mode_place U = 1
mode_place X = 2
mode_place RangeSS = 3
mode_place RangeSU = 4
mode_place RangeIN = 5
mode_place RangeXX = 6

abbrev pub is_same_mode : Mode → Mode → Bool
is_same_mode m n = eqb (mode_place m) (mode_place n)

module _ {K : Type 0} (cmp : K → K → Ordering) where
  -- two grants are one: of one session, on one key, in one mode
  abbrev pub is_same_grant : ℕ → K → Mode → Grant K → Bool
  is_same_grant s k m g = eqb s g.session && (is_eq (cmp k g.key) && is_same_mode m g.mode)

  -- the session holds the key in the mode
  abbrev pub has_grant : List (Grant K) → ℕ → K → Mode → Bool
  has_grant grants s k m = list_any (is_same_grant s k m) grants

  -- the session holds the key in a mode that locks the gap below it too
  abbrev pub has_range : List (Grant K) → ℕ → K → Bool
  has_range grants s k = has_grant grants s k RangeSS || (has_grant grants s k RangeSU || has_grant grants s k RangeXX)

  -- session n isn't s, and holds the key in a mode beside which s can't have it in the mode asked for
  abbrev pub blocks : List (Grant K) → ℕ → K → Mode → ℕ → Bool
  blocks grants s k asked n = not (eqb n s) && list_any (λ g. eqb n g.session && (is_eq (cmp k g.key) && not (is_compatible g.mode asked))) grants

  -- by the key, then by the session, then by the mode
  abbrev pub grant_cmp : Grant K → Grant K → Ordering
  grant_cmp g h = ordering_then (cmp g.key h.key) (ordering_then (nat_cmp g.session h.session) (nat_cmp (mode_place g.mode) (mode_place h.mode)))

  -- each grant is below those after it, so that none stands twice
  abbrev pub HasRisingGrants : List (Grant K) → Type 0
  HasRisingGrants grants = IsStrictlySortedBy grant_cmp grants

  -- no other session stands in the way
  abbrev pub IsUnblocked : List (Grant K) → ℕ → K → Mode → Type 0
  IsUnblocked grants s k asked = (n : ℕ) → blocks grants s k asked n ≡ false

  -- the new grants are the old ones and this one
  abbrev pub AddsGrant : List (Grant K) → List (Grant K) → Grant K → Type 0
  AddsGrant old new g = (s : ℕ) (k : K) (m : Mode) → has_grant new s k m ≡ (is_same_grant s k m g || has_grant old s k m)

  -- the new grants are the old ones without those of the session
  abbrev pub RemovesSession : List (Grant K) → List (Grant K) → ℕ → Type 0
  RemovesSession old new s = (r : ℕ) (k : K) (m : Mode) → has_grant new r k m ≡ (not (eqb r s) && has_grant old r k m)
