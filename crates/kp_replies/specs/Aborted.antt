-- Runs that are aborted by what isn't decided, as JSON trees. What Kore JSON has no tag for has no tree.
-- Source: the K Haskell backend's JSON-RPC documentation (execute: aborted).
use Rattle.std.specs.Prelude.{ℕ, Option, Some, codes}
use Rattle.std.specs.Option.{option_map, option_and_then}
use Rattle.serde_json.specs.Data.{Data, unsigned, number, string, object, Members, no_members, put}
use Rattle.kp_results.specs.Results.{StateParts, Undecided, predicate, limit}
use Rattle.kp_replies.specs.Written.{with_pattern, state_tree}
use Rattle.kp_replies.specs.Failures.{limit_tree, with_limit}

-- the members with what isn't decided: "unknown-predicate":K, with "limit":L where there is one; "limit":L
abbrev pub with_undecided : Undecided → Members → Option Members
with_undecided (predicate p l) o = with_pattern (codes "unknown-predicate") p (with_limit l o)
with_undecided (limit l) o = Some (put (codes "limit") (limit_tree l) o)

-- {"depth":d,"reason":"aborted","state":S}
abbrev pub aborted_members : ℕ → Data → Members
aborted_members depth state = put (codes "depth") (number (unsigned depth)) (put (codes "reason") (string (codes "aborted")) (put (codes "state") state no_members))

-- these members and those with what isn't decided; none where Kore JSON has no tag for a pattern in it
abbrev pub aborted_tree : ℕ → StateParts → Undecided → Option Data
aborted_tree depth s u = option_and_then (λ d. option_map object (with_undecided u (aborted_members depth d))) (state_tree s)
