-- What is read of a text by its front: an object has the member that its text begins with; an array tells no reply.
use Rattle.std.proofs.Common.{◌≡◌, ℕ, List, [], ◌∷◌, ◌++◌, length, Bool, true, false, Option, Some, None, option_map, option_and_then, refl, sym, ap, ap₂, ◌∙◌, append_assoc}
use Rattle.std.proofs.lemmas.Slice.Eq.{bytes_eq-Decides}
use Rattle.std.specs.Prelude.{ℤ, codes}
use Rattle.std.specs.Str.{bytes_eq}
use Rattle.json.specs.Token.{Token, begin_object, begin_array, key, string}
use Rattle.json.specs.Lex.{Lexeme, token, colon, string_token, lex, between, fresh, punctuate, tokens}
use Rattle.json.specs.Print.{escape, quoted}
use Rattle.json.specs.Json as json
use Rattle.json.proofs.Printed.Strings.{content-escape, lex-escape}
use Rattle.serde_json.specs.Data.{Data, array, object, Items, Members, no_members, put}
use Rattle.serde_json.specs.Find.{get, get_member, as_i64, as_number}
use Rattle.serde_json.specs.Read.{of_json, of_items, of_members, read, max_depth}
use Rattle.serde_json.specs.Written.{compact_text, items_text}
use Rattle.serde_json.proofs.Views.{get_member-put, get_member-put_other}
use Rattle.kp_rpc.specs.Request.{RequestId}
use Rattle.kp_rpc.specs.Reply.{reply_bytes}
use Rattle.kp_replies.specs.Failures.{failed_reply}
use Rattle.kp_replies.specs.Read.{Method, ServerReply, failed, read_either, is_two, text_in, read_reply}
use Rattle.kp_replies.specs.Replies.{IsReplyOf}
use Rattle.kp_replies.proofs.Lines.{same_front}
use Rattle.kp_replies.proofs.Methods.{present, if_holds}

from_some : {A : Type 0} (x y : A) → Some x ≡ Some y → x ≡ y
from_some x y e = cc e

mapped : {A B : Type 0} (f : A → B) (x : Option A) (b : B) → option_map f x ≡ Some b → (a : A) × (x ≡ Some a) × (f a ≡ b)
mapped f None b e = absurd (cc e)
mapped f (Some a) b e = (a, refl, cc e)

-- ---- the first member of an object

pub lex_quoted : (s r : List ℕ) → lex between (quoted s ++ r) ≡ token (string s) ∷ lex between r
unfolding lex
lex_quoted s r =
    let e = append_assoc (escape s) (34 ∷ []) r in
    ap (λ l. lex between (34 ∷ l)) e ∙ ap₂ (λ o l. token (string_token o) ∷ l) (content-escape s r) (lex-escape s r)

lex_colon : (r : List ℕ) → lex between (58 ∷ r) ≡ colon ∷ lex between r
unfolding lex
lex_colon r = refl

lex_brace : (r : List ℕ) → lex between (123 ∷ r) ≡ token begin_object ∷ lex between r
unfolding lex
lex_brace r = refl

lex_bracket : (r : List ℕ) → lex between (91 ∷ r) ≡ token begin_array ∷ lex between r
unfolding lex
lex_bracket r = refl

punctuate_key : (s : List ℕ) (ls : List Lexeme) → punctuate fresh (token begin_object ∷ token (string s) ∷ colon ∷ ls) ≡ begin_object ∷ key s ∷ punctuate fresh ls
unfolding punctuate
punctuate_key s ls = refl

punctuate_bracket : (ls : List Lexeme) → punctuate fresh (token begin_array ∷ ls) ≡ begin_array ∷ punctuate fresh ls
unfolding punctuate
punctuate_bracket ls = refl

tokens_of_object : (s r : List ℕ) → tokens (123 ∷ (quoted s ++ 58 ∷ r)) ≡ begin_object ∷ key s ∷ punctuate fresh (lex between r)
tokens_of_object s r =
    ap (punctuate fresh) (lex_brace (quoted s ++ 58 ∷ r) ∙ ap (λ l. token begin_object ∷ l) (lex_quoted s (58 ∷ r) ∙ ap (λ l. token (string s) ∷ l) (lex_colon r)))
    ∙ punctuate_key s (lex between r)

tokens_of_array : (r : List ℕ) → tokens (91 ∷ r) ≡ begin_array ∷ punctuate fresh (lex between r)
tokens_of_array r = ap (punctuate fresh) (lex_bracket r) ∙ punctuate_bracket (lex between r)

-- ---- what is read

kept : (k l : List ℕ) (d x : Data) (found : Members) (b : Bool) → bytes_eq k l ≡ b → get_member k found ≡ Some d → (e : Data) × (get_member k (put l x found) ≡ Some e)
kept k l d x found true is has =
    let same : k ≡ l = (bytes_eq-Decides k l).0 is in
    (x, ap (λ m. get_member m (put l x found)) same ∙ get_member-put l x found)
kept k l d x found false is has = (d, get_member-put_other k l x found (λ same. let both : true ≡ false = sym ((bytes_eq-Decides k l).1 same) ∙ is in cc both) ∙ has)

-- a member that was found stays, though with another value where its name comes again
stays : (ms : json.Members) (found o : Members) (k : List ℕ) (d : Data) → get_member k found ≡ Some d → of_members ms found ≡ Some o → (e : Data) × (get_member k o ≡ Some e)
stays json.no_members found o k d has e = let same : found ≡ o = from_some found o e in (d, ap (get_member k) (sym same) ∙ has)
stays (json.member l j ms) found o k d has e =
    let x = present (λ y. of_members ms (put l y found)) (of_json j) o e in
    let more = kept k l d x.0 found (bytes_eq k l) refl has in
    stays ms (put l x.0 found) o k more.0 more.1 x.2

-- the value of an object whose first key is this
record Begun (s : List ℕ) (j : json.Json) : Type 0 where
  first : json.Json
  more : json.Members
  is : j ≡ json.object (json.member s first more)

begun : (s : List ℕ) (ts rest : List Token) (j : json.Json) → json.value max_depth (begin_object ∷ key s ∷ ts) ≡ Some (j, rest) → Begun s j
unfolding json.value json.members
begun s ts rest j e =
    let v = json.value 126 in
    let o = mapped (λ p. (json.object p.0, p.1)) (option_and_then (λ p. json.parse_map (json.member s p.0) (json.members v (length ts) p.1)) (v ts)) (j, rest) e in
    let x = present (λ p. json.parse_map (json.member s p.0) (json.members v (length ts) p.1)) (v ts) o.0 o.1 in
    let m = mapped (λ p. (json.member s x.0.0 p.0, p.1)) (json.members v (length ts) x.0.1) o.0 x.2 in
    record { first = x.0.0; more = m.0.0; is = ap (λ p. p.0) (sym o.2) ∙ ap (λ p. json.object p.0) (sym m.2) }

whole : (x : Option (json.Json × List Token)) (d : Data) → option_and_then of_json (option_and_then (λ p. json.if_last p.0 p.1) x) ≡ Some d → (j : json.Json) × (rest : List Token) × (x ≡ Some (j, rest)) × (of_json j ≡ Some d)
whole None d e = absurd (cc e)
whole (Some (j, [])) d e = (j, [], refl, e)
whole (Some (j, t ∷ ts)) d e = absurd (cc e)

object_has : (s : List ℕ) (j : json.Json) (d : Data) → Begun s j → of_json j ≡ Some d → (x : Data) × (get s d ≡ Some x)
object_has s j d b e =
    let o = mapped object (of_members (json.member s b.first b.more) no_members) d (ap of_json (sym b.is) ∙ e) in
    let x = present (λ y. of_members b.more (put s y no_members)) (of_json b.first) o.0 o.1 in
    let has = stays b.more (put s x.0 no_members) o.0 s x.0 (get_member-put s x.0 no_members) x.2 in
    (has.0, ap (get s) (sym o.2) ∙ has.1)

-- what is read of a text that begins with a member has it
pub first_member : (s r : List ℕ) (d : Data) → read (123 ∷ (quoted s ++ 58 ∷ r)) ≡ Some d → (x : Data) × (get s d ≡ Some x)
first_member s r d e =
    let w = whole (json.value max_depth (tokens (123 ∷ (quoted s ++ 58 ∷ r)))) d e in
    let at : json.value max_depth (begin_object ∷ key s ∷ punctuate fresh (lex between r)) ≡ Some (w.0, w.1) = ap (json.value max_depth) (sym (tokens_of_object s r)) ∙ w.2 in
    object_has s w.0 d (begun s (punctuate fresh (lex between r)) w.1 w.0 at) w.3

listed : (ts rest : List Token) (j : json.Json) → json.value max_depth (begin_array ∷ ts) ≡ Some (j, rest) → (js : json.Items) × (j ≡ json.array js)
unfolding json.value
listed ts rest j e =
    let o = mapped (λ p. (json.array p.0, p.1)) (json.items (json.value 126) (length ts) ts) (j, rest) e in
    (o.0.0, ap (λ p. p.0) (sym o.2))

-- what is read of a text that begins with a bracket is an array
pub first_bracket : (r : List ℕ) (d : Data) → read (91 ∷ r) ≡ Some d → (ds : Items) × (d ≡ array ds)
first_bracket r d e =
    let w = whole (json.value max_depth (tokens (91 ∷ r))) d e in
    let at : json.value max_depth (begin_array ∷ punctuate fresh (lex between r)) ≡ Some (w.0, w.1) = ap (json.value max_depth) (sym (tokens_of_array r)) ∙ w.2 in
    let j = listed (punctuate fresh (lex between r)) w.1 w.0 at in
    let ds = mapped array (of_items j.0) d (ap of_json (sym j.1) ∙ w.3) in
    (ds.0, sym ds.2)

-- ---- replies

error_alone : (method : Method) (x y : Option Data) (error : Data) (r : ServerReply) → x ≡ Some error → read_either method x y ≡ Some r → (code : ℤ) × (r ≡ failed code)
error_alone method None y error r has e = absurd (cc has)
error_alone method (Some z) (Some result) error r has e = absurd (cc e)
error_alone method (Some z) None error r has e = let c = mapped failed (option_and_then as_i64 (option_and_then as_number (get (codes "code") z))) r e in (c.0, sym c.2)

-- the line of an error tells an error's code, if anything
pub error_tells : (method : Method) (id : RequestId) (error : Data) (r : ServerReply) → IsReplyOf method (reply_bytes (failed_reply id error)) r → (code : ℤ) × (r ≡ failed code)
error_tells method id error r (text, is, (d, frame, tells)) =
    let one : compact_text (failed_reply id error) ≡ text = same_front (compact_text (failed_reply id error)) text is in
    let has = first_member (codes "error") _ d (ap read one ∙ frame.reads) in
    error_alone method (get (codes "error") d) (get (codes "result") d) has.0 r has.1 (if_holds (is_two (text_in (get (codes "jsonrpc") d))) _ r tells)

-- the line of an array tells nothing
pub array_tells : (method : Method) (ds : Items) (r : ServerReply) → IsReplyOf method (reply_bytes (array ds)) r → ⊥
array_tells method ds r (text, is, (d, frame, tells)) =
    let one : compact_text (array ds) ≡ text = same_front (compact_text (array ds)) text is in
    let es = first_bracket (items_text false ds) d (ap read one ∙ frame.reads) in
    let nothing : None ≡ Some r = ap (read_reply method) (sym es.1) ∙ tells in
    cc nothing
