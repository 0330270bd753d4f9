-- What is read of a request object, and of any other value.
use Rattle.std.proofs.Common.{◌≡◌, ◌≢◌, true, Bool, false, Option, Some, None, option_map, option_and_then, bytes_eq, refl, sym, ap, ◌∙◌, subst}
use Rattle.std.proofs.lemmas.Slice.Eq.{bytes_eq-Decides}
use Rattle.std.specs.Prelude.{codes}
use Rattle.serde_json.specs.Data.{Data, unsigned, negative, float, null, boolean, number, string, array, object, Members}
use Rattle.serde_json.specs.Find.{get, get_member, as_str}
use Rattle.kp_kore.specs.Syntax.{Text}
use Rattle.kp_rpc.specs.Request.{RequestId, IsIdTree}
use Rattle.kp_rpc.specs.Readings.{read_id, read_object}
use Rattle.kp_rpc.specs.Reply.{method_not_found}
use Rattle.kp_requests.specs.Requests.{refused}
use Rattle.kp_requests.specs.Calls.{asked_of, read_call_id, is_two, invalid_call, call_from, read_call}
use Rattle.kp_requests.specs.Objects.{IdAt, IsRequestObject}

-- ---- ids

lawful_read : (d : Data) (id : RequestId) → IsIdTree d id → read_id d ≡ Some id
lawful_read null id h = ap Some (sym h)
lawful_read (boolean b) id h = absurd h
lawful_read (number (unsigned n)) id h = ap Some (sym h)
lawful_read (number (negative z)) id h = ap Some (sym h)
lawful_read (number (float x)) id h = absurd h
lawful_read (string t) id h = ap Some (sym h)
lawful_read (array ds) id h = absurd h
lawful_read (object o) id h = absurd h

lawful_is : (d : Data) (id : RequestId) → read_id d ≡ Some id → IsIdTree d id
lawful_is null id e = cc e
lawful_is (boolean b) id e = absurd (cc e)
lawful_is (number (unsigned n)) id e = cc e
lawful_is (number (negative z)) id e = cc e
lawful_is (number (float x)) id e = absurd (cc e)
lawful_is (string t) id e = cc e
lawful_is (array ds) id e = absurd (cc e)
lawful_is (object o) id e = absurd (cc e)

id_told : (o : Members) (id : Option RequestId) → IdAt o id → read_call_id (get_member (codes "id") o) ≡ Some id
id_told o None lacks = ap read_call_id lacks
id_told o (Some id) (d, has, is) = ap read_call_id has ∙ ap (option_map Some) (lawful_read d id is)

some_lawful : (d : Data) (x : Option RequestId) (id : Option RequestId) → read_id d ≡ x → option_map Some x ≡ Some id → (i : RequestId) × (id ≡ Some i) × IsIdTree d i
some_lawful d None id is e = absurd (cc e)
some_lawful d (Some i) id is e = let same : Some i ≡ id = cc e in (i, sym same, lawful_is d i is)

id_in : (o : Members) (x : Option Data) (id : Option RequestId) → get_member (codes "id") o ≡ x → read_call_id x ≡ Some id → IdAt o id
id_in o None id has e = let same : None ≡ id = cc e in subst (IdAt o) same has
id_in o (Some d) id has e = let found = some_lawful d (read_id d) id refl e in subst (IdAt o) (sym found.1) (d, has, found.2)

-- ---- texts

text_is : (x : Option Data) (t : Text) → option_and_then as_str x ≡ Some t → x ≡ Some (string t)
text_is None t e = absurd (cc e)
text_is (Some null) t e = absurd (cc e)
text_is (Some (boolean b)) t e = absurd (cc e)
text_is (Some (number n)) t e = absurd (cc e)
text_is (Some (string u)) t e = ap (λ v. Some (string v)) (from_some u t e)
  where
    from_some : (a b : Text) → Some a ≡ Some b → a ≡ b
    from_some a b same = cc same
text_is (Some (array ds)) t e = absurd (cc e)
text_is (Some (object o)) t e = absurd (cc e)

two_is : (x : Option Text) → is_two x ≡ true → x ≡ Some (codes "2.0")
two_is None e = absurd (cc e)
two_is (Some v) e = ap Some ((bytes_eq-Decides v (codes "2.0")).0 e)

-- ---- calls

pub request_object_read : (o : Members) (id : Option RequestId) (method : Text) → IsRequestObject o id method
    → read_call (object o) ≡ record { id = id; asked = asked_of method (read_object (codes "params") (object o)) }
request_object_read o id method h =
    ap (λ x. call_from (object o) (is_two (option_and_then as_str x)) (option_and_then as_str (get_member (codes "method") o)) (read_call_id (get_member (codes "id") o))) h.version
    ∙ ap (λ x. call_from (object o) true (option_and_then as_str x) (read_call_id (get_member (codes "id") o))) h.has_method
    ∙ ap (call_from (object o) true (Some method)) (id_told o id h.has_id)

invalid_at : (d : Data) (b : Bool) (m : Option Text) (i : Option (Option RequestId)) → ((id : Option RequestId) (method : Text) → b ≡ true → m ≡ Some method → i ≡ Some id → ⊥)
    → call_from d b m i ≡ invalid_call d
invalid_at d false m i none = refl
invalid_at d true None i none = refl
invalid_at d true (Some m) None none = refl
invalid_at d true (Some m) (Some id) none = absurd (none id m refl refl refl)

made : (o : Members) (id : Option RequestId) (method : Text) → is_two (option_and_then as_str (get_member (codes "jsonrpc") o)) ≡ true → option_and_then as_str (get_member (codes "method") o) ≡ Some method
    → read_call_id (get_member (codes "id") o) ≡ Some id → IsRequestObject o id method
made o id method v m i = record { version = text_is _ (codes "2.0") (two_is _ v); has_method = text_is _ method m; has_id = id_in o _ id refl i }

-- a value that isn't an object has no method
without : (d : Data) → get (codes "method") d ≡ None → read_call d ≡ invalid_call d
without d none = invalid_at d _ _ _ (λ id method b m i. let both : None ≡ Some method = sym (ap (option_and_then as_str) none) ∙ m in cc both)

pub other_value_read : (d : Data) → ((o : Members) (id : Option RequestId) (method : Text) → d ≡ object o → ¬ IsRequestObject o id method) → read_call d ≡ invalid_call d
other_value_read null none = without null refl
other_value_read (boolean b) none = without (boolean b) refl
other_value_read (number n) none = without (number n) refl
other_value_read (string t) none = without (string t) refl
other_value_read (array ds) none = without (array ds) refl
other_value_read (object o) none = invalid_at (object o) _ _ _ (λ id method v m i. none o id method refl (made o id method v m i))

-- ---- methods

apart : (a b : Text) → a ≢ b → bytes_eq a b ≡ false
apart a b h = is_false (bytes_eq a b) (λ e. h ((bytes_eq-Decides a b).0 e))
  where
    is_false : (t : Bool) → (t ≡ true → ⊥) → t ≡ false
    is_false true off = absurd (off refl)
    is_false false off = refl

pub other_method_read : (method : Text) (params : Option Data) → method ≢ codes "execute" → method ≢ codes "implies" → method ≢ codes "simplify" → method ≢ codes "add-module"
    → asked_of method params ≡ refused method_not_found
other_method_read method params e i s a = rw (apart method (codes "execute") e, apart method (codes "implies") i, apart method (codes "simplify") s, apart method (codes "add-module") a) refl
