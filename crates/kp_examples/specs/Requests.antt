-- The request of the first example, execute of count(2), and error replies.
use Rattle.std.specs.Prelude.{ℕ, List, [], ◌∷◌, None, codes}
use Rattle.serde_json.specs.Data.{Data, number, unsigned, string, array, object, no_items, item, Members}
use Rattle.kp_kore.specs.Syntax.{sort_of, no_sorts, KorePattern, application, literal, no_patterns, next_pattern}
use Rattle.kp_json.specs.Members.{members_of, object_of}
use Rattle.kp_rpc.specs.Request.{id_number, ExecuteOptions, ExecuteRequest}

-- count(2)
abbrev pub count_two : KorePattern
count_two = application (codes "Lblcount") no_sorts (next_pattern (literal (sort_of (codes "SortInt") no_sorts) (codes "2")) no_patterns)

-- the trees of count(2)'s sort and of count(2)
abbrev pub int_tree : Data
int_tree = object_of ((codes "tag", string (codes "SortApp")) ∷ (codes "name", string (codes "SortInt")) ∷ (codes "args", array no_items) ∷ [])

abbrev pub two_members : Members
two_members = members_of ((codes "tag", string (codes "DV")) ∷ (codes "sort", int_tree) ∷ (codes "value", string (codes "2")) ∷ [])

abbrev pub count_two_members : Members
count_two_members = members_of ((codes "tag", string (codes "App")) ∷ (codes "name", string (codes "Lblcount")) ∷ (codes "sorts", array no_items) ∷ (codes "args", array (item (object two_members) no_items)) ∷ [])

abbrev pub state_members : Members
state_members = members_of ((codes "format", string (codes "KORE")) ∷ (codes "version", number (unsigned 1)) ∷ (codes "term", object count_two_members) ∷ [])

abbrev pub request_members : Members
request_members = members_of ((codes "jsonrpc", string (codes "2.0")) ∷ (codes "id", number (unsigned 1)) ∷ (codes "method", string (codes "execute")) ∷ (codes "params", object_of ((codes "state", object state_members) ∷ [])) ∷ [])

abbrev pub no_options : ExecuteOptions
no_options = record { max_depth = None; module_name = None; cut_points = []; terminals = [] }

abbrev pub count_two_request : ExecuteRequest
count_two_request = record { id = id_number (unsigned 1); state = count_two; options = no_options }

-- the bytes of error replies, but for their line feed
abbrev pub parse_error_text : List ℕ
parse_error_text = codes "{\"error\":{\"code\":-32700,\"message\":\"Parse error\"},\"id\":null,\"jsonrpc\":\"2.0\"}"

abbrev pub module_error_text : List ℕ
module_error_text = codes "{\"error\":{\"code\":3,\"data\":{\"name\":\"NOPE\"},\"message\":\"Could not find module\"},\"id\":\"a\",\"jsonrpc\":\"2.0\"}"
