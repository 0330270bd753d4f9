-- What a client writes of simplify and add-module, as JSON trees.
-- Source: JSON-RPC 2.0 (request objects); the K Haskell backend's JSON-RPC documentation (simplify, add-module).
use Rattle.std.specs.Prelude.{Bool, true, false, [], ◌∷◌, Option, option_map, codes}
use Rattle.serde_json.specs.Data.{Data, boolean, string, Members, no_members, put}
use Rattle.kp_kore.specs.Syntax.{Text, KorePattern}
use Rattle.kp_json.specs.Members.{members_of}
use Rattle.kp_json.specs.Written.{wrapped_pattern}
use Rattle.kp_rpc.specs.Request.{RequestId}
use Rattle.kp_rpc.specs.Questions.{with_text, request_object}

-- {"module":m,"state":K}, the module where there is one
abbrev pub simplify_params : Option Text → Data → Members
simplify_params name state = put (codes "state") state (with_text (codes "module") name no_members)

abbrev pub simplify_tree : RequestId → KorePattern → Option Text → Option Data
simplify_tree id state name = option_map (λ s. request_object id (codes "simplify") (simplify_params name s)) (wrapped_pattern state)

-- {"module":t} and {"module":t,"name-as-id":true}
abbrev pub add_module_params : Text → Bool → Members
add_module_params text false = members_of ((codes "module", string text) ∷ [])
add_module_params text true = members_of ((codes "module", string text) ∷ (codes "name-as-id", boolean true) ∷ [])

abbrev pub add_module_tree : RequestId → Text → Bool → Data
add_module_tree id text name_as_id = request_object id (codes "add-module") (add_module_params text name_as_id)
