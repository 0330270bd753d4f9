-- A run of symbolic states over the variables at hand: where so many steps lead, and what they pass.
-- Source: All-Path Reachability Logic; the K Haskell backend's JSON-RPC documentation (execute).
use Rattle.std.specs.Prelude.{◌≡◌, ◌<◌, ℕ, suc, List}
use Rattle.kp_kore.specs.Syntax.{Text}
use Rattle.kp_kore.specs.Value.{Value}
use Rattle.kp_kore.specs.Instance.{Valuation, GivesSorts}
use Rattle.kp_kore.specs.Theory.{Theory}
use Rattle.kp_kore.specs.Steps.{StepsIn, IsFinal}
use Rattle.kp_kore.specs.Replies.{NoneListed}
use Rattle.kp_kore.specs.Cases.{HasTurnAlone}
use Rattle.kp_kore.specs.Scopes.{Extends}
use Rattle.kp_symbolic.specs.States.{SymbolicState, IsStateInstance}
use Rattle.kp_symbolic.specs.WellFormed.{AreAtHand}
use Rattle.kp_case_laws.specs.Parts.{whole, OfEachInstance, IsGrown}

-- Whatever the variables of s stand for, the configurations d steps after its instance are exactly the instances of the later
-- state, whose further variables stand for some values.
pub record StateLeads (t : Theory) (s later : SymbolicState) (d : ℕ) : Type 0 where
  pub at_hand : AreAtHand s.variables later.variables
  pub found : OfEachInstance t.signature (whole s) (λ w c. (e : Value) → StepsIn t d c e →
      (x : Valuation) × Extends t.signature s.variables later.variables w x × IsStateInstance t.signature x later e)
  pub only : (x : Valuation) (e : Value) → GivesSorts t.signature x later.variables → IsStateInstance t.signature x later e →
      (c : Value) × IsStateInstance t.signature x s c × StepsIn t d c e

-- fewer than d steps after an instance no configuration is final, and on none a listed rule has its turn
pub record StatePasses (t : Theory) (listed : List Text) (s : SymbolicState) (d : ℕ) : Type 0 where
  pub not_final : OfEachInstance t.signature (whole s) (λ w c. (n : ℕ) (e : Value) → n < d → StepsIn t n c e → ¬ IsFinal t e)
  pub none_listed : OfEachInstance t.signature (whole s) (λ w c. (n : ℕ) (e : Value) → n < d → StepsIn t n c e → NoneListed t listed e)

-- fewer than d steps after the instances one rule alone has its turn, at each depth the same for all
abbrev pub IsByOne : Theory → SymbolicState → ℕ → Type 0
IsByOne t s d = (n : ℕ) → n < d → (id : Text) × OfEachInstance t.signature (whole s) (λ w c. (e : Value) → StepsIn t n c e → HasTurnAlone t id e)

-- some instance goes on for so many steps
pub record StateReaches (t : Theory) (s : SymbolicState) (d : ℕ) : Type 0 where
  pub valuation : Valuation
  pub first : Value
  pub sorts : GivesSorts t.signature valuation s.variables
  pub met : IsStateInstance t.signature valuation s first
  pub last : Value
  pub steps : StepsIn t d first last

-- the run of s has come to the later state, each time by one rule
pub record HasRunTo (t : Theory) (used : List Text) (s later : SymbolicState) (d : ℕ) : Type 0 where
  pub leads : StateLeads t s later d
  pub reached : (n : ℕ) → d ≡ suc n → StateReaches t s n
  pub by_one : IsByOne t s d
  pub grown : IsGrown t.signature used (whole s) (whole later)

-- one step before the end the rule of this id has its turn alone; nothing before is final or listed
pub record RunEndsBy (t : Theory) (listed : List Text) (s : SymbolicState) (before : ℕ) (id : Text) : Type 0 where
  pub passes : StatePasses t listed s before
  pub turn : OfEachInstance t.signature (whole s) (λ w c. (e : Value) → StepsIn t before c e → HasTurnAlone t id e)
