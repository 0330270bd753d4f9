-- When the reply to an execute request is right.
-- Source: the K Haskell backend's JSON-RPC documentation (execute and its seven reasons); All-Path Reachability Logic.
use Rattle.std.specs.Prelude.{◌≡◌, ℕ, suc, ◌<◌, ◌≤◌, Bool, true, false, Some, List, [], ◌∷◌, ◌++◌, ⊤}
use Rattle.std.specs.List.{list_any}
use Rattle.std.specs.Str.{bytes_eq}
use Rattle.kp_kore.specs.Syntax.{Text, KorePattern}
use Rattle.kp_kore.specs.Value.{Value}
use Rattle.kp_kore.specs.Theory.{Theory}
use Rattle.kp_kore.specs.Steps.{StepsIn, IsUnknown, NoneFires}
use Rattle.kp_kore.specs.Replies.{IsComputed}
use Rattle.kp_kore.specs.AtHand.{OfEach, OfSome, HasSome}
use Rattle.kp_kore.specs.Onward.{Leads, Passes}
use Rattle.kp_kore.specs.Cases.{NextState, HasTwoCases, HasTurnAlone, AreNextStates}
use Rattle.kp_kore.specs.Causes.{Cause, IsShown, IsDecided}

-- ---- options and results

-- the bound, and the rules to stop before and behind
pub record Options : Type 0 where
  pub bound : ℕ
  pub cut_points : List Text
  pub terminals : List Text

-- both lists together
abbrev pub listed_in : Options → List Text
listed_in o = o.cut_points ++ o.terminals

abbrev pub is_among : List Text → Text → Bool
is_among ids id = list_any (bytes_eq id) ids

pub data Reason : Type 0 where
  vacuous depth_bound stuck : Reason
  branching : List NextState → Reason
  cut_point : Text → NextState → Reason
  terminal : Text → Reason
  aborted : Cause → Reason

pub record Executed : Type 0 where
  pub depth : ℕ
  pub reason : Reason
  pub state : KorePattern

-- ---- how the run came to its end

-- The rule ended the run behind its step: one step before the end it has its turn alone, and no configuration before
-- that one is final or has the turn of a listed rule.
pub record EndsBy (t : Theory) (o : Options) (request s : KorePattern) (d : ℕ) (id : Text) : Type 0 where
  pub before : ℕ
  pub one_less : d ≡ suc before
  pub leads : Leads t request s d
  pub passes : Passes t (listed_in o) request before
  pub turn : OfEach t.signature [] request (λ v c. (later : Value) → StepsIn t before c later → HasTurnAlone t id later)
  pub is_terminal : is_among o.terminals id ≡ true
  pub no_cut_point : is_among o.cut_points id ≡ false

abbrev pub RunsTo : Theory → Options → KorePattern → KorePattern → ℕ → Reason → Type 0
RunsTo t o request s d (terminal id) = EndsBy t o request s d id
RunsTo t o request s d _ = Leads t request s d × Passes t (listed_in o) request d

-- ---- the reasons

-- no rule fires on an instance, and none is unknown; there is one
pub record IsStuck (t : Theory) (request s : KorePattern) : Type 0 where
  pub has : HasSome t.signature (request ∷ []) s
  pub final : OfEach t.signature (request ∷ []) s (λ v c. NoneFires t c × ¬ IsUnknown t c)

-- no instance is unknown, two cases have one, and these are the next states
pub record IsBranching (t : Theory) (request s : KorePattern) (nexts : List NextState) : Type 0 where
  pub known : OfEach t.signature (request ∷ []) s (λ v c. ¬ IsUnknown t c)
  pub two : HasTwoCases t (request ∷ []) s
  pub next_states : AreNextStates t request s nexts

-- on each instance, of which there is one, the rule has its turn alone; it is one to stop before
pub record IsCutPoint (t : Theory) (o : Options) (request s : KorePattern) (id : Text) (next : NextState) : Type 0 where
  pub has : HasSome t.signature (request ∷ []) s
  pub turn : OfEach t.signature (request ∷ []) s (λ v c. HasTurnAlone t id c)
  pub is_cut_point : is_among o.cut_points id ≡ true
  pub by_rule : next.rule ≡ Some id
  pub next_states : AreNextStates t request s (next ∷ [])

-- vacuous: the state has no instance.
-- depth-bound: at the bound; a state of which that is decided has an instance.
-- stuck, branching, cut-point-rule, aborted: below the bound.
-- terminal-rule: all is said by how the run came to its end.
abbrev pub IsRightReason : Theory → Options → KorePattern → KorePattern → ℕ → Reason → Type 0
IsRightReason t o request s d vacuous = ¬ HasSome t.signature (request ∷ []) s
IsRightReason t o request s d depth_bound = (d ≡ o.bound) × (IsDecided s → HasSome t.signature (request ∷ []) s)
IsRightReason t o request s d stuck = (d < o.bound) × IsStuck t request s
IsRightReason t o request s d (branching nexts) = (d < o.bound) × IsBranching t request s nexts
IsRightReason t o request s d (cut_point id next) = (d < o.bound) × IsCutPoint t o request s id next
IsRightReason t o request s d (terminal id) = ⊤
IsRightReason t o request s d (aborted cause) = (d < o.bound) × IsShown t request s cause

-- the reply is right for the theory, the options and the request's state
pub record IsRightExecuted (t : Theory) (o : Options) (request : KorePattern) (reply : Executed) : Type 0 where
  pub within_bound : reply.depth ≤ o.bound
  pub runs : RunsTo t o request reply.state reply.depth reply.reason
  -- some instance of the request goes on until the last step
  pub reached : (n : ℕ) → reply.depth ≡ suc n → OfSome t.signature [] request (λ v c. (later : Value) × StepsIn t n c later)
  pub computed : IsComputed t.signature reply.state
  pub reason : IsRightReason t o request reply.state reply.depth reply.reason
