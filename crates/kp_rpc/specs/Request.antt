-- Requests as JSON trees.
-- Source: JSON-RPC 2.0 (request objects); the K Haskell backend's JSON-RPC documentation (execute, implies, add-module).
use Rattle.std.specs.Prelude.{◌≡◌, ◌<◌, ◌^◌, ◌⊎◌, ℕ, pos, negsuc, min, List, [], ◌∷◌, Option, Some, None, codes}
use Rattle.serde_json.specs.Data.{Data, Num, unsigned, negative, float, null, number, string, array, object, Items, no_items, item, Members}
use Rattle.kp_kore.specs.Syntax.{Text, KorePattern}
use Rattle.kp_json.specs.Members.{Has, HasText, Lacks}
use Rattle.kp_json.specs.Trees.{SpellsWrapped}

-- ---- request objects

-- the id of a reply: a text, a whole number, or null
pub data RequestId : Type 0 where
  id_text : Text → RequestId
  id_number : Num → RequestId
  id_null : RequestId

abbrev pub id_tree : RequestId → Data
id_tree (id_text t) = string t
id_tree (id_number n) = number n
id_tree id_null = null

-- the tree is a lawful id; a number with a fraction or an exponent, and -0, are no whole numbers
abbrev pub IsIdTree : Data → RequestId → Type 0
IsIdTree (string t) id = id ≡ id_text t
IsIdTree (number (unsigned n)) id = id ≡ id_number (unsigned n)
IsIdTree (number (negative z)) id = id ≡ id_number (negative z)
IsIdTree null id = id ≡ id_null
IsIdTree _ id = ⊥

-- an id that a reader of JSON can have read: its number is one of 64 bits
abbrev pub IsReadId : RequestId → Type 0
IsReadId (id_text t) = Unit {0}
IsReadId (id_number (unsigned n)) = n < 2 ^ 64
IsReadId (id_number (negative (pos n))) = ⊥
IsReadId (id_number (negative (negsuc n))) = n < 2 ^ 63
IsReadId (id_number (float x)) = ⊥
IsReadId id_null = Unit {0}

abbrev pub HasId : Members → RequestId → Type 0
HasId o id = (d : Data) × Has o (codes "id") d × IsIdTree d id

-- an object with jsonrpc "2.0", a text method and a lawful id
pub record IsRequest (o : Members) (id : RequestId) (method : Text) : Type 0 where
  pub version : HasText o (codes "jsonrpc") (codes "2.0")
  pub method_text : HasText o (codes "method") method
  pub has_id : HasId o id

-- ---- params of execute

-- a member that is absent or null
abbrev pub IsUnset : Members → Text → Type 0
IsUnset o key = Lacks o key ⊎ Has o key null

-- an optional whole number, text, list of texts
abbrev pub NumberAt : Members → Text → Option ℕ → Type 0
NumberAt o key None = IsUnset o key
NumberAt o key (Some n) = Has o key (number (unsigned n))

abbrev pub TextAt : Members → Text → Option Text → Type 0
TextAt o key None = IsUnset o key
TextAt o key (Some t) = HasText o key t

-- the texts of an array of texts
abbrev pub AreTexts : Items → List Text → Type 0
AreTexts no_items ts = ts ≡ []
AreTexts (item (string t) ds) (u ∷ ts) = (u ≡ t) × AreTexts ds ts
AreTexts (item _ ds) ts = ⊥

abbrev pub TextsAt : Members → Text → List Text → Type 0
TextsAt o key ts = (IsUnset o key × (ts ≡ [])) ⊎ ((ds : Items) × Has o key (array ds) × AreTexts ds ts)

-- the members of execute's params, but for the state's kind
pub record ExecuteOptions : Type 0 where
  pub max_depth : Option ℕ
  pub module_name : Option Text
  pub cut_points : List Text
  pub terminals : List Text

pub record HasOptions (o : Members) (options : ExecuteOptions) : Type 0 where
  pub max_depth : NumberAt o (codes "max-depth") options.max_depth
  pub module_name : TextAt o (codes "module") options.module_name
  pub cut_points : TextsAt o (codes "cut-point-rules") options.cut_points
  pub terminals : TextsAt o (codes "terminal-rules") options.terminals

-- params is an object whose state is an object, and whose other members are of their kinds
pub record HasParams (o : Members) (state : Members) (options : ExecuteOptions) : Type 0 where
  pub params : Members
  pub has_params : Has o (codes "params") (object params)
  pub has_state : Has params (codes "state") (object state)
  pub has_options : HasOptions params options

-- ---- params of implies

-- params is an object whose antecedent and consequent are objects, and whose module, if any, is a text
pub record HasSides (o : Members) (antecedent consequent : Members) (module_name : Option Text) : Type 0 where
  pub params : Members
  pub has_params : Has o (codes "params") (object params)
  pub has_antecedent : Has params (codes "antecedent") (object antecedent)
  pub has_consequent : Has params (codes "consequent") (object consequent)
  pub has_module : TextAt params (codes "module") module_name

-- ---- the requests

pub record ExecuteRequest : Type 0 where
  pub id : RequestId
  pub state : KorePattern
  pub options : ExecuteOptions

abbrev pub execute_method : Text
execute_method = codes "execute"

-- the tree is this request
pub record IsExecute (o : Members) (request : ExecuteRequest) : Type 0 where
  pub is_request : IsRequest o request.id execute_method
  pub state : Members
  pub has_params : HasParams o state request.options
  pub spells : SpellsWrapped (object state) request.state

pub record ImpliesRequest : Type 0 where
  pub id : RequestId
  pub antecedent : KorePattern
  pub consequent : KorePattern
  pub module_name : Option Text

abbrev pub implies_method : Text
implies_method = codes "implies"

-- the tree is this request
pub record IsImplies (o : Members) (request : ImpliesRequest) : Type 0 where
  pub is_request : IsRequest o request.id implies_method
  pub antecedent : Members
  pub consequent : Members
  pub has_sides : HasSides o antecedent consequent request.module_name
  pub spells_antecedent : SpellsWrapped (object antecedent) request.antecedent
  pub spells_consequent : SpellsWrapped (object consequent) request.consequent

-- the tree is a request to add the module of this text, which gets its id for a name alone
pub record IsAddModule (o : Members) (id : RequestId) (text : Text) : Type 0 where
  pub is_request : IsRequest o id (codes "add-module")
  pub params : Members
  pub has_params : Has o (codes "params") (object params)
  pub has_text : HasText params (codes "module") text
  pub has_no_flag : IsUnset params (codes "name-as-id")

-- the bound of a run: more than the most, and none, is the most
abbrev pub most_steps : ℕ
most_steps = 10000

abbrev pub bound_of : ExecuteOptions → ℕ
bound_of options = bounded options.max_depth
  where
    bounded : Option ℕ → ℕ
    bounded (Some n) = min n most_steps
    bounded None = most_steps
