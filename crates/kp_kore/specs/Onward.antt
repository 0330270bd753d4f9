-- So many steps on from a state: where the steps lead, and what they pass.
-- Source: All-Path Reachability Logic; the K Haskell backend's JSON-RPC documentation (execute).
use Rattle.std.specs.Prelude.{ℕ, ◌<◌, List, []}
use Rattle.kp_kore.specs.Syntax.{Text, KorePattern}
use Rattle.kp_kore.specs.Parts.{free_variables}
use Rattle.kp_kore.specs.Value.{Value}
use Rattle.kp_kore.specs.Instance.{Valuation, GivesSorts}
use Rattle.kp_kore.specs.Theory.{Theory}
use Rattle.kp_kore.specs.Steps.{StepsIn, IsFinal}
use Rattle.kp_kore.specs.Replies.{IsAfter, NoneListed}
use Rattle.kp_kore.specs.AtHand.{OfEach, IsOver, HasNewNames}

-- for every valuation, the configurations d steps after the instance of s are exactly the instances of s' over it
pub record Leads (t : Theory) (s s' : KorePattern) (d : ℕ) : Type 0 where
  pub found : OfEach t.signature [] s (λ v c. (later : Value) → StepsIn t d c later → IsOver t.signature s v s' later)
  pub only : (v : Valuation) (later : Value) → GivesSorts t.signature v (free_variables s) → IsOver t.signature s v s' later → IsAfter t s v d later
  pub names : HasNewNames s s s'

-- fewer than d steps after s no configuration is final, and on none a listed rule has its turn
pub record Passes (t : Theory) (listed : List Text) (s : KorePattern) (d : ℕ) : Type 0 where
  pub not_final : OfEach t.signature [] s (λ v c. (n : ℕ) (later : Value) → n < d → StepsIn t n c later → ¬ IsFinal t later)
  pub none_listed : OfEach t.signature [] s (λ v c. (n : ℕ) (later : Value) → n < d → StepsIn t n c later → NoneListed t listed later)
