-- The id that a reply to add-module tells is that of an added module.
use Rattle.std.proofs.Common.{◌≡◌, refl, ap, subst, ℕ, Bool, true, false, ◌&&◌, ◌==◌, List, [], ◌∷◌, length, Option, Some, None, option_map, option_and_then, eqb-true}
use Rattle.std.specs.Prelude.{if◌then◌else◌, codes}
use Rattle.std.specs.List.{list_all}
use Rattle.std.proofs.lemmas.Bool.{and_parts}
use Rattle.serde_json.specs.Data.{Data}
use Rattle.serde_json.specs.Find.{get, as_i64, as_number}
use Rattle.kp_kore.specs.Syntax.{Text}
use Rattle.kp_kore.specs.ClaimRules.{is_lower_hexadecimal}
use Rattle.kp_kore.specs.ClaimModules.{IsAddedId}
use Rattle.kp_replies.specs.Read.{add_module, added, failed, is_module_id, if_module_id, is_two, text_in, read_result, read_either}
use Rattle.kp_replies.specs.Replies.{IsReplyOf}
use Rattle.kp_replies.proofs.Methods.{present, if_holds}

mapped : {A B : Type 0} (f : A → B) (x : Option A) (b : B) → option_map f x ≡ Some b → (a : A) × (x ≡ Some a) × (f a ≡ b)
mapped f None b e = absurd (cc e)
mapped f (Some a) b e = (a, refl, cc e)

one_id : (x y : Text) → added x ≡ added y → x ≡ y
one_id x y e = cc e

is_added : (id : Text) → is_module_id id ≡ true → IsAddedId id
is_added [] e = absurd (cc e)
is_added (c ∷ cs) e =
    let parts = and_parts ((c == 109) && (length cs == 64)) (list_all is_lower_hexadecimal cs) e in
    let front = and_parts (c == 109) (length cs == 64) parts.0 in
    let head : c ≡ 109 = eqb-true c 109 front.0 in
    record { digits = cs; is_id = ap (λ x. x ∷ cs) head; many = eqb-true (length cs) 64 front.1; each = parts.1 }

if_added : (t id : Text) (b : Bool) → is_module_id t ≡ b → (if b then Some t else None) ≡ Some id → IsAddedId id
if_added t id true is e = let same : t ≡ id = cc e in subst IsAddedId same (is_added t is)
if_added t id false is e = absurd (cc e)

in_result : (d : Data) (id : Text) → read_result add_module d ≡ Some (added id) → IsAddedId id
in_result d id e =
    let m = mapped added (option_and_then if_module_id (text_in (get (codes "module") d))) (added id) e in
    let p = present if_module_id (text_in (get (codes "module") d)) m.0 m.1 in
    subst IsAddedId (one_id m.0 id m.2) (if_added p.0 m.0 (is_module_id p.0) refl p.2)

in_either : (x y : Option Data) (id : Text) → read_either add_module x y ≡ Some (added id) → IsAddedId id
in_either (Some error) (Some result) id e = absurd (cc e)
in_either (Some error) None id e = let c = mapped failed (option_and_then as_i64 (option_and_then as_number (get (codes "code") error))) (added id) e in absurd (cc c.2)
in_either None (Some result) id e = in_result result id e
in_either None None id e = absurd (cc e)

pub told_id : (line : List ℕ) (id : Text) → IsReplyOf add_module line (added id) → IsAddedId id
told_id line id (text, is, (d, frame, tells)) =
    in_either (get (codes "error") d) (get (codes "result") d) id
    (if_holds (is_two (text_in (get (codes "jsonrpc") d))) (read_either add_module (get (codes "error") d) (get (codes "result") d)) (added id) tells)
