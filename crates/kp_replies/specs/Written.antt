-- Results as JSON trees. What Kore JSON has no tag for has no tree.
-- Source: the K Haskell backend's JSON-RPC documentation (execute, implies, simplify, add-module).
use Rattle.std.specs.Prelude.{ℕ, true, false, List, [], ◌∷◌, Option, Some, None, codes}
use Rattle.std.specs.Option.{option_map, option_and_then}
use Rattle.serde_json.specs.Data.{Data, unsigned, boolean, number, string, array, object, Items, no_items, item, Members, no_members, put}
use Rattle.kp_kore.specs.Syntax.{Text, KorePattern}
use Rattle.kp_json.specs.Members.{object_of}
use Rattle.kp_json.specs.Written.{two_parts, wrapped_pattern}
use Rattle.kp_kore.specs.Causes.{foreign}
use Rattle.kp_kore.specs.Implied.{Implied, not_valid, valid}
use Rattle.kp_results.specs.Results.{StateParts, NextParts, Ending, vacuous, depth_bound, stuck, branching, cut_point, terminal, aborted, ExecutedParts}
use Rattle.kp_rpc.specs.Questions.{with_text}

-- ---- states

-- the members with a pattern more, or with one where there is one
abbrev pub with_pattern : Text → KorePattern → Members → Option Members
with_pattern key p o = option_map (λ d. put key d o) (wrapped_pattern p)

abbrev pub with_optional : Text → Option KorePattern → Members → Option Members
with_optional key None o = Some o
with_optional key (Some p) o = with_pattern key p o

-- {"predicate":K,"term":K}, the predicate where there is one
abbrev pub with_state : StateParts → Members → Option Members
with_state s o = option_and_then (with_optional (codes "predicate") s.predicate) (with_pattern (codes "term") s.term o)

abbrev pub state_tree : StateParts → Option Data
state_tree s = option_map object (with_state s no_members)

-- a state with "rule-predicate":K, and with "rule-id":r where there is a rule
abbrev pub next_tree : NextParts → Option Data
next_tree n = option_map object (option_and_then (with_pattern (codes "rule-predicate") n.predicate) (with_state n.state (with_text (codes "rule-id") n.rule no_members)))

abbrev pub first_item : Option Data → Option Items → Option Items
first_item d ds = option_and_then (λ x. option_map (item x) ds) d

abbrev pub next_trees : List NextParts → Option Items
next_trees [] = Some no_items
next_trees (n ∷ ns) = first_item (next_tree n) (next_trees ns)

-- ---- execute

-- "reason":r, with "rule":id or with "foreign-rule":id
abbrev pub with_ending : Ending → Members → Members
with_ending vacuous o = put (codes "reason") (string (codes "vacuous")) o
with_ending depth_bound o = put (codes "reason") (string (codes "depth-bound")) o
with_ending stuck o = put (codes "reason") (string (codes "stuck")) o
with_ending branching o = put (codes "reason") (string (codes "branching")) o
with_ending (cut_point id) o = put (codes "reason") (string (codes "cut-point-rule")) (put (codes "rule") (string id) o)
with_ending (terminal id) o = put (codes "reason") (string (codes "terminal-rule")) (put (codes "rule") (string id) o)
with_ending (aborted (foreign id)) o = put (codes "reason") (string (codes "aborted")) (put (codes "foreign-rule") (string id) o)

abbrev pub with_next_states : List NextParts → Members → Option Members
with_next_states ns o = option_map (λ ds. put (codes "next-states") (array ds) o) (next_trees ns)

-- "next-states":[..] of branching and of a cut point
abbrev pub with_nexts : Ending → List NextParts → Members → Option Members
with_nexts branching ns o = with_next_states ns o
with_nexts (cut_point id) ns o = with_next_states ns o
with_nexts _ ns o = Some o

-- {"depth":d,"reason":r,"state":S} and the members of its reason
abbrev pub executed_members : ℕ → Ending → Data → Members
executed_members depth ending state = put (codes "depth") (number (unsigned depth)) (with_ending ending (put (codes "state") state no_members))

abbrev pub executed_tree : ExecutedParts → Option Data
executed_tree x = option_and_then (λ s. option_map object (with_nexts x.ending x.nexts (executed_members x.depth x.ending s))) (state_tree x.state)

-- ---- implies

-- {"valid":false}
abbrev pub not_valid_object : Data
not_valid_object = object_of ((codes "valid", boolean false) ∷ [])

-- {"condition":{"predicate":K,"substitution":K},"valid":true}
abbrev pub valid_object : Data → Data → Data
valid_object predicate substitution = object_of ((codes "condition", object_of ((codes "predicate", predicate) ∷ (codes "substitution", substitution) ∷ [])) ∷ (codes "valid", boolean true) ∷ [])

abbrev pub implied_tree : Implied → Option Data
implied_tree not_valid = Some not_valid_object
implied_tree (valid predicate substitution) = two_parts valid_object (wrapped_pattern predicate) (wrapped_pattern substitution)

-- ---- simplify and add-module

-- {"state":K}
abbrev pub simplified_tree : KorePattern → Option Data
simplified_tree p = option_map object (with_pattern (codes "state") p no_members)

-- {"module":id}
abbrev pub added_tree : Text → Data
added_tree id = object_of ((codes "module", string id) ∷ [])
