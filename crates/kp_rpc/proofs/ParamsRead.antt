-- The params that are read are those that the request spells, and none else.
use Rattle.std.proofs.Common.{◌≡◌, Option, Some, None, option_and_then, refl, sym, ap, ◌∙◌}
use Rattle.std.specs.Prelude.{codes}
use Rattle.serde_json.specs.Data.{Data, null, boolean, number, string, array, object, Members}
use Rattle.serde_json.specs.Find.{get, get_member}
use Rattle.kp_kore.specs.Syntax.{Text}
use Rattle.kp_rpc.specs.Request.{ExecuteOptions, HasParams, HasSides}
use Rattle.kp_rpc.specs.Readings.{if_object, read_object, read_options, read_text}
use Rattle.kp_rpc.proofs.OptionsRead.{options_found, text_found}

-- ---- the params of execute

abbrev pub read_state : Data → Option Data
read_state d = option_and_then (read_object (codes "state")) (read_object (codes "params") d)

abbrev pub read_all_options : Data → Option ExecuteOptions
read_all_options d = option_and_then read_options (read_object (codes "params") d)

pub record StateAndOptions (o : Members) (s : Data) (options : ExecuteOptions) : Type 0 where
  pub state : Members
  pub state_is : s ≡ object state
  pub params : HasParams o state options

state_in : (o p : Members) (x : Option Data) (s : Data) (options : ExecuteOptions) → get_member (codes "params") o ≡ Some (object p) → get_member (codes "state") p ≡ x
    → option_and_then if_object x ≡ Some s → read_options (object p) ≡ Some options → StateAndOptions o s options
state_in o p None s options has is e r = absurd (cc e)
state_in o p (Some null) s options has is e r = absurd (cc e)
state_in o p (Some (boolean b)) s options has is e r = absurd (cc e)
state_in o p (Some (number n)) s options has is e r = absurd (cc e)
state_in o p (Some (string t)) s options has is e r = absurd (cc e)
state_in o p (Some (array ds)) s options has is e r = absurd (cc e)
state_in o p (Some (object q)) s options has is e r =
    record { state = q; state_is = cc e; params = record { params = p; has_params = has; has_state = is; has_options = options_found p options r } }

params_in : (o : Members) (x : Option Data) (s : Data) (options : ExecuteOptions) → get_member (codes "params") o ≡ x
    → option_and_then (read_object (codes "state")) (option_and_then if_object x) ≡ Some s → option_and_then read_options (option_and_then if_object x) ≡ Some options → StateAndOptions o s options
params_in o None s options is e r = absurd (cc e)
params_in o (Some null) s options is e r = absurd (cc e)
params_in o (Some (boolean b)) s options is e r = absurd (cc e)
params_in o (Some (number n)) s options is e r = absurd (cc e)
params_in o (Some (string t)) s options is e r = absurd (cc e)
params_in o (Some (array ds)) s options is e r = absurd (cc e)
params_in o (Some (object p)) s options is e r = state_in o p (get_member (codes "state") p) s options is refl e r

pub params_found : (o : Members) (s : Data) (options : ExecuteOptions) → read_state (object o) ≡ Some s → read_all_options (object o) ≡ Some options → StateAndOptions o s options
params_found o s options e r = params_in o (get_member (codes "params") o) s options refl e r

-- ---- the sides of implies

-- the sides in the params of implies, and its module
abbrev pub read_side : Text → Data → Option Data
read_side key d = option_and_then (read_object key) (read_object (codes "params") d)

abbrev pub read_module : Data → Option (Option Text)
read_module d = option_and_then (λ p. read_text (get (codes "module") p)) (read_object (codes "params") d)

object_in : (x : Option Data) (d : Data) → option_and_then if_object x ≡ Some d → (q : Members) × (x ≡ Some (object q)) × (d ≡ object q)
object_in None d e = absurd (cc e)
object_in (Some null) d e = absurd (cc e)
object_in (Some (boolean b)) d e = absurd (cc e)
object_in (Some (number n)) d e = absurd (cc e)
object_in (Some (string t)) d e = absurd (cc e)
object_in (Some (array ds)) d e = absurd (cc e)
object_in (Some (object q)) d e = (q, refl, cc e)

present_in : {B : Type 0} (f : Data → Option B) (x : Option Data) (b : B) → option_and_then f x ≡ Some b → (d : Data) × (x ≡ Some d) × (f d ≡ Some b)
present_in f None b e = absurd (cc e)
present_in f (Some d) b e = (d, refl, e)

-- params, with a member that is an object
record Side (o : Members) (key : Text) (s : Data) : Type 0 where
  pub params : Members
  pub has_params : get_member (codes "params") o ≡ Some (object params)
  pub side : Members
  pub has_side : get_member key params ≡ Some (object side)

side_found : (o : Members) (key : Text) (s : Data) → read_side key (object o) ≡ Some s → Side o key s
side_found o key s e =
    let params = present_in (read_object key) (read_object (codes "params") (object o)) s e in
    let p = object_in (get_member (codes "params") o) params.0 params.1 in
    let inside : read_object key (object p.0) ≡ Some s = ap (read_object key) (sym p.2) ∙ params.2 in
    let q = object_in (get_member key p.0) s inside in
    record { params = p.0; has_params = p.1; side = q.0; has_side = q.1 }

pub record SidesAndName (o : Members) (name : Option Text) : Type 0 where
  pub antecedent : Members
  pub consequent : Members
  pub sides : HasSides o antecedent consequent name

pub sides_found : (o : Members) (a c : Data) (name : Option Text) → read_side (codes "antecedent") (object o) ≡ Some a → read_side (codes "consequent") (object o) ≡ Some c
    → read_module (object o) ≡ Some name → SidesAndName o name
sides_found o a c name e f m =
    let left = side_found o (codes "antecedent") a e in
    let inside : read_side (codes "consequent") (object o) ≡ read_object (codes "consequent") (object left.params) = ap (λ x. option_and_then (read_object (codes "consequent")) (option_and_then if_object x)) left.has_params in
    let named : read_module (object o) ≡ read_text (get_member (codes "module") left.params) = ap (λ x. option_and_then (λ p. read_text (get (codes "module") p)) (option_and_then if_object x)) left.has_params in
    let right = object_in (get_member (codes "consequent") left.params) c (sym inside ∙ f) in
    record {
      antecedent = left.side;
      consequent = right.0;
      sides = record { params = left.params; has_params = left.has_params; has_antecedent = left.has_side; has_consequent = right.1; has_module = text_found left.params (codes "module") name (sym named ∙ m) };
    }

pub side_told : (o p q : Members) (key : Text) → get_member (codes "params") o ≡ Some (object p) → get_member key p ≡ Some (object q) → read_side key (object o) ≡ Some (object q)
side_told o p q key h k = ap (λ x. option_and_then (read_object key) (option_and_then if_object x)) h ∙ ap (option_and_then if_object) k
