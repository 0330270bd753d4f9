-- The tree of a question is what JSON makes of its outline.
use Rattle.std.proofs.Common.{ℕ, List, [], ◌∷◌, Option, Some, None, refl}
use Rattle.std.specs.Prelude.{codes}
use Rattle.serde_json.specs.Data.{Data, string, object, Members, no_members, put}
use Rattle.kp_kore.specs.Syntax.{Text}
use Rattle.kp_json.specs.Written.{wrapped_pattern}
use Rattle.kp_rpc.specs.Request.{IsReadId, RequestId, ExecuteRequest, ImpliesRequest, execute_method, implies_method}
use Rattle.kp_rpc.specs.Questions.{to_execute, to_imply, to_add, text_items, execute_params, implies_params, request_object, question_tree, IsReadNumber, IsAskable}
use Rattle.kp_rpc.proofs.ReadBack.{Back, ItemsBack, IsBack, one_back, two_back, number_back, id_back, wrapped_back}

texts_back : (ts : List Text) → ItemsBack (text_items ts)
texts_back [] = record { numbers = tt; is = refl }
texts_back (t ∷ ts) = let h = texts_back ts in record { numbers = (tt, h.numbers); is = rw h.is refl }

request_back : (id : RequestId) (method : Text) (params : Members) → IsReadId id → Back (object params) → Back (request_object id method params)
request_back id method params lawful h = let i = id_back id lawful in record { numbers = (i.numbers, (tt, (tt, (h.numbers, tt)))); is = rw (i.is, h.is) refl }

-- ---- execute

-- the cut points, the bound, the module and the terminals, each there or not
params_back : (cuts : List Text) (deep : Option ℕ) (name : Option Text) (ends : List Text) (s : Data) → IsReadNumber deep → Back s
    → Back (object (execute_params (record { max_depth = deep; module_name = name; cut_points = cuts; terminals = ends }) s))
params_back [] None None [] s fits h = record { numbers = (h.numbers, tt); is = rw h.is refl }
params_back [] None None (u ∷ us) s fits h = let e = texts_back us in record { numbers = (h.numbers, ((tt, e.numbers), tt)); is = rw (h.is, e.is) refl }
params_back [] None (Some x) [] s fits h = record { numbers = (tt, (h.numbers, tt)); is = rw h.is refl }
params_back [] None (Some x) (u ∷ us) s fits h = let e = texts_back us in record { numbers = (tt, (h.numbers, ((tt, e.numbers), tt))); is = rw (h.is, e.is) refl }
params_back [] (Some n) None [] s fits h = let m = number_back n fits in record { numbers = (m.numbers, (h.numbers, tt)); is = rw (m.is, h.is) refl }
params_back [] (Some n) None (u ∷ us) s fits h = let m = number_back n fits in let e = texts_back us in record { numbers = (m.numbers, (h.numbers, ((tt, e.numbers), tt))); is = rw (m.is, h.is, e.is) refl }
params_back [] (Some n) (Some x) [] s fits h = let m = number_back n fits in record { numbers = (m.numbers, (tt, (h.numbers, tt))); is = rw (m.is, h.is) refl }
params_back [] (Some n) (Some x) (u ∷ us) s fits h = let m = number_back n fits in let e = texts_back us in record { numbers = (m.numbers, (tt, (h.numbers, ((tt, e.numbers), tt)))); is = rw (m.is, h.is, e.is) refl }
params_back (t ∷ ts) None None [] s fits h = let c = texts_back ts in record { numbers = ((tt, c.numbers), (h.numbers, tt)); is = rw (c.is, h.is) refl }
params_back (t ∷ ts) None None (u ∷ us) s fits h = let c = texts_back ts in let e = texts_back us in record { numbers = ((tt, c.numbers), (h.numbers, ((tt, e.numbers), tt))); is = rw (c.is, h.is, e.is) refl }
params_back (t ∷ ts) None (Some x) [] s fits h = let c = texts_back ts in record { numbers = ((tt, c.numbers), (tt, (h.numbers, tt))); is = rw (c.is, h.is) refl }
params_back (t ∷ ts) None (Some x) (u ∷ us) s fits h = let c = texts_back ts in let e = texts_back us in record { numbers = ((tt, c.numbers), (tt, (h.numbers, ((tt, e.numbers), tt)))); is = rw (c.is, h.is, e.is) refl }
params_back (t ∷ ts) (Some n) None [] s fits h = let c = texts_back ts in let m = number_back n fits in record { numbers = ((tt, c.numbers), (m.numbers, (h.numbers, tt))); is = rw (c.is, m.is, h.is) refl }
params_back (t ∷ ts) (Some n) None (u ∷ us) s fits h = let c = texts_back ts in let m = number_back n fits in let e = texts_back us in record { numbers = ((tt, c.numbers), (m.numbers, (h.numbers, ((tt, e.numbers), tt)))); is = rw (c.is, m.is, h.is, e.is) refl }
params_back (t ∷ ts) (Some n) (Some x) [] s fits h = let c = texts_back ts in let m = number_back n fits in record { numbers = ((tt, c.numbers), (m.numbers, (tt, (h.numbers, tt)))); is = rw (c.is, m.is, h.is) refl }
params_back (t ∷ ts) (Some n) (Some x) (u ∷ us) s fits h = let c = texts_back ts in let m = number_back n fits in let e = texts_back us in record { numbers = ((tt, c.numbers), (m.numbers, (tt, (h.numbers, ((tt, e.numbers), tt))))); is = rw (c.is, m.is, h.is, e.is) refl }

pub execute_back : (q : ExecuteRequest) → IsAskable (to_execute q) → IsBack (question_tree (to_execute q))
execute_back q h =
    let o = q.options in
    one_back (λ s. request_object q.id execute_method (execute_params o s)) (wrapped_pattern q.state)
    (λ s b. request_back q.id execute_method (execute_params o s) h.0 (params_back o.cut_points o.max_depth o.module_name o.terminals s h.1 b)) (wrapped_back q.state)

-- ---- implies

sides_back : (name : Option Text) (a c : Data) → Back a → Back c → Back (object (implies_params name a c))
sides_back None a c h k = record { numbers = (h.numbers, (k.numbers, tt)); is = rw (h.is, k.is) refl }
sides_back (Some x) a c h k = record { numbers = (h.numbers, (k.numbers, (tt, tt))); is = rw (h.is, k.is) refl }

pub implies_back : (q : ImpliesRequest) → IsAskable (to_imply q) → IsBack (question_tree (to_imply q))
implies_back q h =
    two_back (λ a c. request_object q.id implies_method (implies_params q.module_name a c)) (wrapped_pattern q.antecedent) (wrapped_pattern q.consequent)
    (λ a c b d. request_back q.id implies_method (implies_params q.module_name a c) h (sides_back q.module_name a c b d)) (wrapped_back q.antecedent) (wrapped_back q.consequent)

-- ---- add-module

pub add_module_back : (id : RequestId) (text : Text) → IsAskable (to_add id text) → IsBack (question_tree (to_add id text))
add_module_back id text h = request_back id (codes "add-module") (put (codes "module") (string text) no_members) h (record { numbers = (tt, tt); is = refl })
