-- What a client is told by the bytes of a reply, and what a server writes that is read back.
-- Source: JSON-RPC 2.0 (response objects); the K Haskell backend's JSON-RPC documentation.
use Rattle.std.specs.Prelude.{◌≡◌, ◌<◌, ◌^◌, ℕ, List, [], ◌∷◌, ◌++◌, Option, Some, None, true, codes}
use Rattle.std.specs.List.{AllByRecursion}
use Rattle.serde_json.specs.Data.{Data}
use Rattle.kp_kore.specs.Syntax.{Text, KorePattern}
use Rattle.kp_json.specs.Trees.{SpellsWrapped}
use Rattle.kp_kore.specs.Causes.{foreign}
use Rattle.kp_kore.specs.Implied.{Implied, not_valid, valid}
use Rattle.kp_results.specs.Results.{StateParts, NextParts, Ending, vacuous, depth_bound, stuck, branching, cut_point, terminal, aborted, ExecutedParts, Limit, weighed, wide_call, Undecided, predicate, limit}
use Rattle.kp_rpc.specs.Frame.{IsFrame}
use Rattle.kp_replies.specs.Failures.{weight_name, Failure, undecided, bad_module, duplicate, bad_text, bad_axiom, bad_sentence}
use Rattle.kp_replies.specs.Read.{Method, execute, implies, simplify, add_module, ServerReply, executed, UnfinishedParts, unfinished, implied, simplified, added, failed, is_rule_id, read_reply}

-- the text is a frame of a reply to the method that tells this
abbrev pub IsFrameReply : Method → List ℕ → ServerReply → Type 0
IsFrameReply method text reply = (d : Data) × IsFrame text d × (read_reply method d ≡ Some reply)

-- the bytes are one line, whose text is a frame of such a reply
abbrev pub IsReplyOf : Method → List ℕ → ServerReply → Type 0
IsReplyOf method line reply = (text : List ℕ) × (line ≡ text ++ 10 ∷ []) × IsFrameReply method text reply

-- a method's result, or an error's code
abbrev pub IsOfMethod : Method → ServerReply → Type 0
IsOfMethod execute (executed x) = Unit {0}
IsOfMethod execute (unfinished x) = Unit {0}
IsOfMethod implies (implied x) = Unit {0}
IsOfMethod simplify (simplified p) = Unit {0}
IsOfMethod add_module (added id) = Unit {0}
IsOfMethod _ (failed code) = Unit {0}
IsOfMethod _ _ = ⊥

-- ---- what is read back

-- some tree spells the pattern
abbrev pub IsSpelled : KorePattern → Type 0
IsSpelled p = (d : Data) × SpellsWrapped d p

abbrev pub IsSpelledState : KorePattern → Option KorePattern → Type 0
IsSpelledState term None = IsSpelled term
IsSpelledState term (Some p) = IsSpelled term × IsSpelled p

abbrev pub IsSpelledImplied : Implied → Type 0
IsSpelledImplied not_valid = Unit {0}
IsSpelledImplied (valid p q) = IsSpelled p × IsSpelled q

-- next states stand with branching and, one alone, with a cut point
abbrev pub StandWith : Ending → List NextParts → Type 0
StandWith branching ns = Unit {0}
StandWith (cut_point id) ns = (n : NextParts) × (ns ≡ n ∷ [])
StandWith _ ns = ns ≡ []

-- an ending whose rule's id, where it has one, is that of a rule
abbrev pub IsNamedEnding : Ending → Type 0
IsNamedEnding (cut_point id) = is_rule_id id ≡ true
IsNamedEnding (terminal id) = is_rule_id id ≡ true
IsNamedEnding (aborted (foreign id)) = is_rule_id id ≡ true
IsNamedEnding _ = Unit {0}

-- the patterns are spelled by trees, and the ids are those of rules
abbrev pub IsNamed : Option Text → Type 0
IsNamed None = Unit {0}
IsNamed (Some id) = is_rule_id id ≡ true

pub record IsWritableNext (n : NextParts) : Type 0 where
  pub rule : IsNamed n.rule
  pub predicate : IsSpelled n.predicate
  pub state : IsSpelledState n.state.term n.state.predicate

-- next states stand with branching and, one alone, with a cut point; an id is that of a rule
abbrev pub IsWritableEnding : Ending → List NextParts → Type 0
IsWritableEnding vacuous ns = ns ≡ []
IsWritableEnding depth_bound ns = ns ≡ []
IsWritableEnding stuck ns = ns ≡ []
IsWritableEnding branching ns = AllByRecursion IsWritableNext ns
IsWritableEnding (cut_point id) ns = (is_rule_id id ≡ true) × ((n : NextParts) × (ns ≡ n ∷ []) × IsWritableNext n)
IsWritableEnding (terminal id) ns = (is_rule_id id ≡ true) × (ns ≡ [])
IsWritableEnding (aborted (foreign id)) ns = (is_rule_id id ≡ true) × (ns ≡ [])

pub record IsWritable (x : ExecutedParts) : Type 0 where
  pub state : IsSpelledState x.state.term x.state.predicate
  pub ending : IsWritableEnding x.ending x.nexts

-- a result of execute without next states, whose state has no predicate
pub record IsBare (x : ExecutedParts) : Type 0 where
  pub predicate : x.state.predicate ≡ None
  pub nexts : x.nexts ≡ []

-- the name of a limit, where that alone isn't decided
abbrev pub told_name : Undecided → Option Text
told_name (predicate p l) = None
told_name (limit (weighed w n)) = Some (weight_name w)
told_name (limit (wide_call first second symbol)) = Some (codes "number")

-- what is told of a run that is aborted by what isn't decided
abbrev pub unfinished_parts : ℕ → StateParts → Undecided → UnfinishedParts
unfinished_parts n s u = record { depth = n; state = s; limit = told_name u }

-- the numbers are of 64 bits
abbrev pub Fits : Limit → Type 0
Fits (weighed w n) = n < 2 ^ 64
Fits (wide_call first second symbol) = Unit {0}

abbrev pub FailureFits : Failure → Type 0
FailureFits (undecided (predicate p (Some l))) = Fits l
FailureFits (undecided (predicate p None)) = Unit {0}
FailureFits (undecided (limit l)) = Fits l
FailureFits (bad_module (bad_text at kind)) = (at < 2 ^ 64) × (kind < 2 ^ 64)
FailureFits (bad_module (bad_axiom n)) = n < 2 ^ 64
FailureFits (bad_module (bad_sentence n)) = n < 2 ^ 64
FailureFits (duplicate n name) = n < 2 ^ 64
FailureFits _ = Unit {0}
