-- What a client asks, as JSON trees: requests of execute, of implies and of add-module, with the optional members that there
-- are.
-- Source: JSON-RPC 2.0 (request objects); the K Haskell backend's JSON-RPC documentation (execute, implies, add-module).
use Rattle.std.specs.Prelude.{◌<◌, ◌^◌, ℕ, List, [], ◌∷◌, Option, Some, None, codes, ⊤}
use Rattle.std.specs.Option.{option_map}
use Rattle.serde_json.specs.Data.{Data, unsigned, number, string, array, object, Items, no_items, item, Members, no_members, put}
use Rattle.kp_kore.specs.Syntax.{Text}
use Rattle.kp_json.specs.Members.{object_of}
use Rattle.kp_json.specs.Written.{two_parts, wrapped_pattern}
use Rattle.kp_rpc.specs.Request.{RequestId, IsReadId, id_tree, IsIdTree, ExecuteOptions, ExecuteRequest, execute_method, ImpliesRequest, implies_method}

pub data Question : Type 0 where
  to_execute : ExecuteRequest → Question
  to_imply : ImpliesRequest → Question
  -- the text of a module, which gets its id for a name alone
  to_add : RequestId → Text → Question

-- a whole number that isn't written as a float, a text, or null
abbrev pub IsLawfulId : RequestId → Type 0
IsLawfulId id = IsIdTree (id_tree id) id

-- the members with one more, where there is something to say
abbrev pub with_number : Text → Option ℕ → Members → Members
with_number key None o = o
with_number key (Some n) o = put key (number (unsigned n)) o

abbrev pub with_text : Text → Option Text → Members → Members
with_text key None o = o
with_text key (Some t) o = put key (string t) o

abbrev pub text_items : List Text → Items
text_items [] = no_items
text_items (t ∷ ts) = item (string t) (text_items ts)

abbrev pub with_texts : Text → List Text → Members → Members
with_texts key [] o = o
with_texts key (t ∷ ts) o = put key (array (text_items (t ∷ ts))) o

-- {"cut-point-rules":[..],"max-depth":n,"module":m,"state":K,"terminal-rules":[..]}
abbrev pub execute_params : ExecuteOptions → Data → Members
execute_params options state =
    with_texts (codes "cut-point-rules") options.cut_points (with_number (codes "max-depth") options.max_depth
    (with_text (codes "module") options.module_name (put (codes "state") state (with_texts (codes "terminal-rules") options.terminals no_members))))

-- {"antecedent":K,"consequent":K,"module":m}
abbrev pub implies_params : Option Text → Data → Data → Members
implies_params name antecedent consequent =
    put (codes "antecedent") antecedent (put (codes "consequent") consequent (with_text (codes "module") name no_members))

-- {"id":i,"jsonrpc":"2.0","method":m,"params":P}
abbrev pub request_object : RequestId → Text → Members → Data
request_object id method params =
    object_of ((codes "id", id_tree id) ∷ (codes "jsonrpc", string (codes "2.0")) ∷ (codes "method", string method) ∷ (codes "params", object params) ∷ [])

-- a request of implies, from the trees of its patterns
abbrev pub implies_object : RequestId → Option Text → Data → Data → Data
implies_object id name antecedent consequent = request_object id implies_method (implies_params name antecedent consequent)

-- the tree of a question, where its patterns have trees
abbrev pub question_tree : Question → Option Data
question_tree (to_execute q) = option_map (λ s. request_object q.id execute_method (execute_params q.options s)) (wrapped_pattern q.state)
question_tree (to_imply q) = two_parts (λ a c. request_object q.id implies_method (implies_params q.module_name a c)) (wrapped_pattern q.antecedent) (wrapped_pattern q.consequent)
question_tree (to_add id text) = Some (request_object id (codes "add-module") (put (codes "module") (string text) no_members))

-- ---- questions that are read as they were asked

-- a number of 64 bits, or none
abbrev pub IsReadNumber : Option ℕ → Type 0
IsReadNumber None = ⊤
IsReadNumber (Some n) = n < 2 ^ 64

-- its numbers are written so that they are read again: what is read of the question's text, if anything, is the question
abbrev pub IsAskable : Question → Type 0
IsAskable (to_execute q) = IsReadId q.id × IsReadNumber q.options.max_depth
IsAskable (to_imply q) = IsReadId q.id
IsAskable (to_add id text) = IsReadId id
