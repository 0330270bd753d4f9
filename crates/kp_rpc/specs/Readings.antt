-- What is read of the members of a request, or None where one is of another kind.
-- Source: JSON-RPC 2.0 (ids); the K Haskell backend's JSON-RPC documentation (execute); this project.
use Rattle.std.specs.Prelude.{ℕ, List, [], ◌∷◌, Option, Some, None, option_map, option_and_then, codes}
use Rattle.serde_json.specs.Data.{Data, Num, unsigned, negative, float, null, boolean, number, string, array, object, Items, no_items, item}
use Rattle.serde_json.specs.Find.{get}
use Rattle.kp_kore.specs.Syntax.{Text}
use Rattle.kp_rpc.specs.Request.{RequestId, id_text, id_number, id_null, ExecuteOptions}

abbrev pub read_number_id : Num → Option RequestId
read_number_id (unsigned n) = Some (id_number (unsigned n))
read_number_id (negative z) = Some (id_number (negative z))
read_number_id (float x) = None

abbrev pub read_id : Data → Option RequestId
read_id null = Some id_null
read_id (boolean b) = None
read_id (number n) = read_number_id n
read_id (string t) = Some (id_text t)
read_id (array ds) = None
read_id (object o) = None

-- an optional member: absent or null gives Some None
abbrev pub read_count : Num → Option (Option ℕ)
read_count (unsigned n) = Some (Some n)
read_count (negative z) = None
read_count (float x) = None

abbrev pub read_number : Option Data → Option (Option ℕ)
read_number None = Some None
read_number (Some null) = Some None
read_number (Some (boolean b)) = None
read_number (Some (number n)) = read_count n
read_number (Some (string t)) = None
read_number (Some (array ds)) = None
read_number (Some (object o)) = None

abbrev pub read_text : Option Data → Option (Option Text)
read_text None = Some None
read_text (Some null) = Some None
read_text (Some (boolean b)) = None
read_text (Some (number n)) = None
read_text (Some (string t)) = Some (Some t)
read_text (Some (array ds)) = None
read_text (Some (object o)) = None

abbrev pub with_text : Data → Option (List Text) → Option (List Text)
with_text null ts = None
with_text (boolean b) ts = None
with_text (number n) ts = None
with_text (string t) ts = option_map (λ us. t ∷ us) ts
with_text (array ds) ts = None
with_text (object o) ts = None

abbrev pub read_items : Items → Option (List Text)
read_items no_items = Some []
read_items (item d ds) = with_text d (read_items ds)

abbrev pub read_texts : Option Data → Option (List Text)
read_texts None = Some []
read_texts (Some null) = Some []
read_texts (Some (boolean b)) = None
read_texts (Some (number n)) = None
read_texts (Some (string t)) = None
read_texts (Some (array ds)) = read_items ds
read_texts (Some (object o)) = None

-- the params of execute, but for its state, where each member is read
abbrev pub options_from : Option (Option ℕ) → Option (Option Text) → Option (List Text) → Option (List Text) → Option ExecuteOptions
options_from depth name cuts ends =
    option_and_then (λ max_depth. option_and_then (λ module_name. option_and_then (λ cut_points.
    option_map (λ terminals. record { max_depth = max_depth; module_name = module_name; cut_points = cut_points; terminals = terminals })
    ends) cuts) name) depth

abbrev pub read_options : Data → Option ExecuteOptions
read_options d = options_from (read_number (get (codes "max-depth") d)) (read_text (get (codes "module") d)) (read_texts (get (codes "cut-point-rules") d)) (read_texts (get (codes "terminal-rules") d))

-- a member that is an object
abbrev pub if_object : Data → Option Data
if_object null = None
if_object (boolean b) = None
if_object (number n) = None
if_object (string t) = None
if_object (array ds) = None
if_object (object o) = Some (object o)

abbrev pub read_object : Text → Data → Option Data
read_object key d = option_and_then if_object (get key d)
