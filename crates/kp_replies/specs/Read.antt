-- What is read of the tree of a reply, or None where it is no reply to the method.
-- Source: JSON-RPC 2.0 (response objects); the K Haskell backend's JSON-RPC documentation (execute, implies, simplify,
-- add-module).
use Rattle.std.specs.Prelude.{ℕ, ℤ, Bool, true, false, ◌&&◌, ◌==◌, List, [], ◌∷◌, length, nat_lt, nat_le, Option, Some, None, is_some, option_map, option_and_then, if◌then◌else◌, codes}
use Rattle.std.specs.List.{list_all, list_any}
use Rattle.std.specs.Str.{bytes_eq}
use Rattle.serde_json.specs.Data.{Data, Items, no_items, item}
use Rattle.serde_json.specs.Find.{get, as_array, as_bool, as_i64, as_number, as_str, as_u64}
use Rattle.kp_kore.specs.Syntax.{Text, KorePattern}
use Rattle.kp_json.specs.Faults.{Reading, read, fault, wrapped_reading}
use Rattle.kp_kore.specs.Causes.{foreign}
use Rattle.kp_kore.specs.ClaimRules.{is_lower_hexadecimal}
use Rattle.kp_kore.specs.Implied.{Implied, not_valid, valid}
use Rattle.kp_results.specs.Results.{StateParts, NextParts, Ending, vacuous, depth_bound, stuck, branching, cut_point, terminal, aborted, ExecutedParts}

-- the method that was asked
pub data Method : Type 0 where
  execute implies simplify add_module : Method

-- a run that is aborted by what isn't decided: how far it came, and the name of a limit where that alone is told
pub record UnfinishedParts : Type 0 where
  pub depth : ℕ
  pub state : StateParts
  pub limit : Option Text

-- what a reply tells: a method's result, or an error's code
pub data ServerReply : Type 0 where
  executed : ExecutedParts → ServerReply
  unfinished : UnfinishedParts → ServerReply
  implied : Implied → ServerReply
  simplified : KorePattern → ServerReply
  added : Text → ServerReply
  failed : ℤ → ServerReply

-- ---- patterns and texts

-- the pattern, where one was read
abbrev pub pattern_in : Reading KorePattern → Option KorePattern
pattern_in (read p) = Some p
pattern_in (fault f) = None

abbrev pub read_wrapped : Option Data → Option KorePattern
read_wrapped None = None
read_wrapped (Some d) = pattern_in (wrapped_reading d)

abbrev pub read_optional : Option Data → Option (Option KorePattern)
read_optional None = Some None
read_optional (Some d) = option_map Some (pattern_in (wrapped_reading d))

abbrev pub text_in : Option Data → Option Text
text_in = option_and_then as_str

-- ---- ids

-- a character from 33 to 126: neither white space nor a control character
abbrev pub is_visible : ℕ → Bool
is_visible c = nat_le 33 c && nat_le c 126

-- one or more such characters
abbrev pub is_rule_id : Text → Bool
is_rule_id t = nat_lt 0 (length t) && list_all is_visible t

abbrev pub if_rule_id : Text → Option Text
if_rule_id t = if is_rule_id t then Some t else None

abbrev pub read_rule : Option Data → Option Text
read_rule d = option_and_then if_rule_id (text_in d)

abbrev pub read_optional_rule : Option Data → Option (Option Text)
read_optional_rule None = Some None
read_optional_rule (Some d) = option_map Some (option_and_then if_rule_id (as_str d))

-- m and 64 lower-case hexadecimal digits
abbrev pub is_module_id : Text → Bool
is_module_id [] = false
is_module_id (c ∷ cs) = (c == 109) && (length cs == 64) && list_all is_lower_hexadecimal cs

abbrev pub if_module_id : Text → Option Text
if_module_id t = if is_module_id t then Some t else None

-- ---- states

abbrev pub state_from : Option KorePattern → Option (Option KorePattern) → Option StateParts
state_from term predicate = option_and_then (λ t. option_map (λ p. record { term = t; predicate = p }) predicate) term

abbrev pub read_state : Data → Option StateParts
read_state d = state_from (read_wrapped (get (codes "term") d)) (read_optional (get (codes "predicate") d))

abbrev pub next_from : Option (Option Text) → Option KorePattern → Option StateParts → Option NextParts
next_from rule predicate state = option_and_then (λ r. option_and_then (λ p. option_map (λ s. record { rule = r; predicate = p; state = s }) state) predicate) rule

abbrev pub read_next : Data → Option NextParts
read_next d = next_from (read_optional_rule (get (codes "rule-id") d)) (read_wrapped (get (codes "rule-predicate") d)) (read_state d)

abbrev pub first_next : Option NextParts → Option (List NextParts) → Option (List NextParts)
first_next n ns = option_and_then (λ x. option_map (λ xs. x ∷ xs) ns) n

abbrev pub read_nexts : Items → Option (List NextParts)
read_nexts no_items = Some []
read_nexts (item d ds) = first_next (read_next d) (read_nexts ds)

abbrev pub read_next_states : Data → Option (List NextParts)
read_next_states d = option_and_then read_nexts (option_and_then as_array (get (codes "next-states") d))

-- ---- execute

abbrev pub read_depth : Option Data → Option ℕ
read_depth x = option_and_then as_u64 (option_and_then as_number x)

abbrev pub ending_named : Data → Text → Option Ending
ending_named d word =
    if bytes_eq word (codes "stuck") then Some stuck else
    (if bytes_eq word (codes "depth-bound") then Some depth_bound else
    (if bytes_eq word (codes "vacuous") then Some vacuous else
    (if bytes_eq word (codes "branching") then Some branching else
    (if bytes_eq word (codes "cut-point-rule") then option_map cut_point (read_rule (get (codes "rule") d)) else
    (if bytes_eq word (codes "terminal-rule") then option_map terminal (read_rule (get (codes "rule") d)) else
    (if bytes_eq word (codes "aborted") then option_map (λ id. aborted (foreign id)) (read_rule (get (codes "foreign-rule") d)) else None))))))

abbrev pub read_ending : Data → Option Ending
read_ending d = option_and_then (ending_named d) (text_in (get (codes "reason") d))

-- a cut point has one next state
abbrev pub one_alone : List NextParts → Option (List NextParts)
one_alone [] = None
one_alone (n ∷ []) = Some (n ∷ [])
one_alone (n ∷ m ∷ ns) = None

abbrev pub nexts_of : Data → Ending → Option (List NextParts)
nexts_of d branching = read_next_states d
nexts_of d (cut_point id) = option_and_then one_alone (read_next_states d)
nexts_of d _ = Some []

abbrev pub executed_from : Option ℕ → Option StateParts → Option Ending → (Ending → Option (List NextParts)) → Option ExecutedParts
executed_from depth state ending nexts =
    option_and_then (λ n. option_and_then (λ s. option_and_then (λ e. option_map (λ ns. record { depth = n; ending = e; state = s; nexts = ns }) (nexts e)) ending) state) depth

abbrev pub read_executed : Data → Option ExecutedParts
read_executed d = executed_from (read_depth (get (codes "depth") d)) (option_and_then read_state (get (codes "state") d)) (read_ending d) (nexts_of d)

abbrev pub is_word : Option Text → Text → Bool
is_word None word = false
is_word (Some t) word = bytes_eq t word

-- the name of a limit: one of five
abbrev pub is_limit_name : Text → Bool
is_limit_name w = list_any (bytes_eq w) (codes "bits" ∷ codes "literals" ∷ codes "product" ∷ codes "depth" ∷ codes "number" ∷ [])

abbrev pub if_limit_name : Text → Option Text
if_limit_name w = if is_limit_name w then Some w else None

abbrev pub limit_name : Data → Option Text
limit_name d = option_and_then if_limit_name (option_and_then (λ l. text_in (get (codes "name") l)) (get (codes "limit") d))

-- with unknown-predicate no limit's name is read, else one is needed
abbrev pub told_limit : Data → Option (Option Text)
told_limit d = if is_some (get (codes "unknown-predicate") d) then Some None else option_map Some (limit_name d)

-- a run that is aborted by a limit or by a predicate: depth, state and what isn't decided are read
abbrev pub read_unfinished : Data → Option UnfinishedParts
read_unfinished d =
    if is_word (text_in (get (codes "reason") d)) (codes "aborted")
    then option_and_then (λ n. option_and_then (λ s. option_map (λ l. record { depth = n; state = s; limit = l }) (told_limit d)) (option_and_then read_state (get (codes "state") d))) (read_depth (get (codes "depth") d))
    else None

-- the run, where one was read
abbrev pub read_run : Option ExecutedParts → Data → Option ServerReply
read_run (Some x) d = Some (executed x)
read_run None d = option_map unfinished (read_unfinished d)

-- ---- implies

abbrev pub condition_from : Option KorePattern → Option KorePattern → Option Implied
condition_from predicate substitution = option_and_then (λ p. option_map (λ s. valid p s) substitution) predicate

abbrev pub read_condition : Data → Option Implied
read_condition d = option_and_then (λ c. condition_from (read_wrapped (get (codes "predicate") c)) (read_wrapped (get (codes "substitution") c))) (get (codes "condition") d)

abbrev pub read_valid : Data → Bool → Option Implied
read_valid d true = read_condition d
read_valid d false = Some not_valid

abbrev pub read_implied : Data → Option Implied
read_implied d = option_and_then (read_valid d) (option_and_then as_bool (get (codes "valid") d))

-- ---- replies

abbrev pub is_two : Option Text → Bool
is_two None = false
is_two (Some version) = bytes_eq version (codes "2.0")

-- the code of an error, a whole number of signed 64 bits
abbrev pub read_code : Data → Option ServerReply
read_code error = option_map failed (option_and_then as_i64 (option_and_then as_number (get (codes "code") error)))

abbrev pub read_result : Method → Data → Option ServerReply
read_result execute d = read_run (read_executed d) d
read_result implies d = option_map implied (read_implied d)
read_result simplify d = option_map simplified (read_wrapped (get (codes "state") d))
read_result add_module d = option_map added (option_and_then if_module_id (text_in (get (codes "module") d)))

-- from the members error and result, of which there is one
abbrev pub read_either : Method → Option Data → Option Data → Option ServerReply
read_either method (Some error) (Some result) = None
read_either method (Some error) None = read_code error
read_either method None (Some result) = read_result method result
read_either method None None = None

abbrev pub read_reply : Method → Data → Option ServerReply
read_reply method d = if is_two (text_in (get (codes "jsonrpc") d)) then read_either method (get (codes "error") d) (get (codes "result") d) else None
