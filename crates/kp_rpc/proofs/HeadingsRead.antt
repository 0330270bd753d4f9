-- What the members of a tree tell of it as a request.
use Rattle.std.proofs.Common.{◌≡◌, Option, Some, None, option_and_then, refl, ◌∙◌}
use Rattle.std.specs.Prelude.{codes}
use Rattle.serde_json.specs.Data.{Data, unsigned, negative, float, null, boolean, number, string, array, object, Members}
use Rattle.serde_json.specs.Find.{get, as_str}
use Rattle.kp_kore.specs.Syntax.{Text}
use Rattle.kp_rpc.specs.Request.{RequestId, IsIdTree, IsRequest}
use Rattle.kp_rpc.specs.Readings.{read_id}

text_is : (x : Option Data) (t : Text) → Some t ≡ option_and_then as_str x → x ≡ Some (string t)
text_is None t e = absurd (cc e)
text_is (Some null) t e = absurd (cc e)
text_is (Some (boolean b)) t e = absurd (cc e)
text_is (Some (number n)) t e = absurd (cc e)
text_is (Some (string u)) t e = cc e
text_is (Some (array ds)) t e = absurd (cc e)
text_is (Some (object o)) t e = absurd (cc e)

lawful_is : (d : Data) (id : RequestId) → Some id ≡ read_id d → IsIdTree d id
lawful_is null id e = cc e
lawful_is (boolean b) id e = absurd (cc e)
lawful_is (number (unsigned n)) id e = cc e
lawful_is (number (negative z)) id e = cc e
lawful_is (number (float x)) id e = absurd (cc e)
lawful_is (string t) id e = cc e
lawful_is (array ds) id e = absurd (cc e)
lawful_is (object o) id e = absurd (cc e)

id_is : (x : Option Data) (id : RequestId) → Some id ≡ option_and_then read_id x → (d : Data) × (x ≡ Some d) × IsIdTree d id
id_is None id e = absurd (cc e)
id_is (Some d) id e = (d, refl, lawful_is d id e)

pub request_is : (d : Data) (id : RequestId) (method : Text) → Some (codes "2.0") ≡ option_and_then as_str (get (codes "jsonrpc") d)
    → Some method ≡ option_and_then as_str (get (codes "method") d) → Some id ≡ option_and_then read_id (get (codes "id") d)
    → (o : Members) × (d ≡ object o) × IsRequest o id method
request_is null id method v m i = absurd (cc m)
request_is (boolean b) id method v m i = absurd (cc m)
request_is (number n) id method v m i = absurd (cc m)
request_is (string t) id method v m i = absurd (cc m)
request_is (array ds) id method v m i = absurd (cc m)
request_is (object o) id method v m i =
    (o, refl, record { version = text_is _ (codes "2.0") v; method_text = text_is _ method m; has_id = id_is _ id i })
