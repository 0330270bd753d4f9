-- How the state of a reply is written: as the state that the rules lead to, in its normal spelling at the sort that they
-- leave it at.
-- Source: this project's normal form and its sorts of states.
use Rattle.std.specs.Prelude.{◌≡◌, ℕ, ⊤}
use Rattle.kp_kore.specs.Syntax.{KoreSort, KorePattern}
use Rattle.kp_kore.specs.Value.{Value}
use Rattle.kp_kore.specs.Instance.{Valuation, instance}
use Rattle.kp_kore.specs.Causes.{foreign}
use Rattle.kp_kore.specs.Theory.{Theory}
use Rattle.kp_run.specs.Causes.{Written, IsStateIn}
use Rattle.kp_run.specs.Runs.{IsFirstUnknown}
use Rattle.kp_results.specs.Results.{Ending, aborted}
use Rattle.kp_compile.specs.Spelled.{spelling}

-- so many steps on from what the pattern of this sort means
pub record IsLater (t : Theory) (p : KorePattern) (sort : KoreSort) (steps : ℕ) (later : Written) : Type 0 where
  pub start : Value
  pub means : (v : Valuation) → instance t.signature v p ≡ start
  pub reached : IsStateIn t steps (record { value = start; sort = sort }) later

-- the pattern spells that state
pub record IsNormal (t : Theory) (p : KorePattern) (sort : KoreSort) (steps : ℕ) (written : KorePattern) : Type 0 where
  pub later : Written
  pub is_later : IsLater t p sort steps later
  pub spelled : written ≡ spelling t.signature later.sort later.value

-- of the foreign rules that might rewrite the configuration, the one that is told is the first by priority, then in order
abbrev pub TellsFirst : Theory → Ending → Value → Type 0
TellsFirst t (aborted (foreign id)) c = IsFirstUnknown t c id
TellsFirst t _ c = ⊤
