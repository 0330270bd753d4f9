-- The numbers of a tree that was read have 64 bits, so its id is one that a reader of JSON can have read.
use Rattle.std.proofs.Common.{◌≡◌, ℕ, zero, suc, ◌<◌, ◌≤◌, ◌^◌, pos, negsuc, neg_ℤ, List, Option, Some, None, option_map, option_and_then, Bool, true, false, Ordering, Less, Equal, Greater, if◌then◌else◌, nat_lt, nat_le, ◌&&◌, ◌==◌, drop, slice_index, Float, refl, sym, subst, arith}
use Rattle.std.proofs.lemmas.Bool.{and_parts, ltb-true, leb-true}
use Rattle.std.specs.Prelude.{codes, ⊤}
use Rattle.std.specs.Cmp.Lexicographic.{slice_cmp}
use Rattle.std.specs.Ordering.{nat_cmp, match_ordering}
use Rattle.std.specs.Float.Numeral.{minus, Parts, scan_numeral, numeral_digits}
use Rattle.json.specs.Json as json
use Rattle.json.specs.Lex.{tokens}
use Rattle.serde_json.specs.Data.{Data, Num, unsigned, negative, float, null, boolean, number, string, array, object, Items, no_items, item, Members, no_members, member, put}
use Rattle.serde_json.specs.Find.{get_member}
use Rattle.serde_json.specs.Read.{is_integer, float_of, number_from, number_of, of_json, of_items, of_members, read, max_depth}
use Rattle.kp_kore.specs.Syntax.{Text}
use Rattle.kp_rpc.specs.Frame.{IsFrame}
use Rattle.kp_rpc.specs.Request.{IsReadId, RequestId, IsIdTree, HasId}

-- ---- numbers

-- what a reader makes of a number's text
abbrev FitsNumber : Num → Type 0
FitsNumber (unsigned n) = n < 2 ^ 64
FitsNumber (negative (pos n)) = ⊥
FitsNumber (negative (negsuc n)) = n < 2 ^ 63
FitsNumber (float x) = ⊤

number_some : (m n : Num) → FitsNumber m → Some m ≡ Some n → FitsNumber n
number_some m n h e = let same : m ≡ n = cc e in subst FitsNumber same h

float_some : (b : Bool) (x : Float) (n : Num) → (if b then Some (float x) else None) ≡ Some n → FitsNumber n
float_some true x n e = number_some (float x) n tt e
float_some false x n e = absurd (cc e)

float_fits : (sign : Bool) (p : Parts) (n : Num) → float_of sign p ≡ Some n → FitsNumber n
float_fits sign p n e = float_some _ _ n e

either_fits : (b : Bool) (m n : Num) (o : Option Num) → (b ≡ true → FitsNumber m) → (o ≡ Some n → FitsNumber n) → (if b then Some m else o) ≡ Some n → FitsNumber n
either_fits true m n o h k e = number_some m n (h refl) e
either_fits false m n o h k e = k e

negative_fits : (n : ℕ) → 0 < n → n ≤ 2 ^ 63 → FitsNumber (negative (neg_ℤ (pos n)))
negative_fits zero some h = absurd (omega arith)
negative_fits (suc n) some h = omega arith

number_from_fits : (sign : Bool) (p : Parts) (n : Num) → number_from sign p ≡ Some n → FitsNumber n
number_from_fits false p n e =
    either_fits (is_integer p && nat_lt (numeral_digits p) (2 ^ 64)) (unsigned (numeral_digits p)) n (float_of false p)
    (λ h. ltb-true (numeral_digits p) (2 ^ 64) (and_parts (is_integer p) (nat_lt (numeral_digits p) (2 ^ 64)) h).1) (float_fits false p n) e
number_from_fits true p n e =
    either_fits (is_integer p && nat_lt 0 (numeral_digits p) && nat_le (numeral_digits p) (2 ^ 63)) (negative (neg_ℤ (pos (numeral_digits p)))) n (float_of true p)
    (λ h.
    let whole = and_parts (is_integer p && nat_lt 0 (numeral_digits p)) (nat_le (numeral_digits p) (2 ^ 63)) h in
    let first = and_parts (is_integer p) (nat_lt 0 (numeral_digits p)) whole.0 in
    negative_fits (numeral_digits p) (ltb-true 0 (numeral_digits p) first.1) (leb-true (numeral_digits p) (2 ^ 63) whole.1)) (float_fits true p n) e

signed_fits : (b : Bool) (p q : Parts) (n : Num) → (if b then number_from true p else number_from false q) ≡ Some n → FitsNumber n
signed_fits true p q n e = number_from_fits true p n e
signed_fits false p q n e = number_from_fits false q n e

number_fits : (s : List ℕ) (n : Num) → number_of s ≡ Some n → FitsNumber n
unfolding number_of
number_fits s n e = signed_fits (slice_index s 0 == minus) (scan_numeral (drop 1 s)) (scan_numeral s) n e

-- ---- trees

abbrev mutual
  Fits : Data → Type 0
  Fits null = ⊤
  Fits (boolean b) = ⊤
  Fits (number n) = FitsNumber n
  Fits (string s) = ⊤
  Fits (array ds) = ItemsFit ds
  Fits (object ms) = MembersFit ms

  ItemsFit : Items → Type 0
  ItemsFit no_items = ⊤
  ItemsFit (item d ds) = Fits d × ItemsFit ds

  MembersFit : Members → Type 0
  MembersFit no_members = ⊤
  MembersFit (member k d ms) = Fits d × MembersFit ms

put_fits_at : (o : Ordering) (k l : Text) (d e : Data) (ms : Members) → Fits d → Fits e → MembersFit ms → MembersFit (put k d ms)
    → MembersFit (match_ordering o (member k d (member l e ms)) (member l d ms) (member l e (put k d ms)))
put_fits_at Less k l d e ms h i m later = (h, (i, m))
put_fits_at Equal k l d e ms h i m later = (h, m)
put_fits_at Greater k l d e ms h i m later = (i, later)

put_fits : (k : Text) (d : Data) (ms : Members) → Fits d → MembersFit ms → MembersFit (put k d ms)
put_fits k d no_members h m = (h, tt)
put_fits k d (member l e ms) h m = put_fits_at (slice_cmp nat_cmp k l) k l d e ms h m.0 m.1 (put_fits k d ms h m.1)

mapped : {A B : Type 0} (f : A → B) (P : A → Type 0) (Q : B → Type 0) (x : Option A) (y : B) → ((a : A) → P a → Q (f a)) → ((a : A) → x ≡ Some a → P a) → option_map f x ≡ Some y → Q y
mapped f P Q None y keeps h e = absurd (cc e)
mapped f P Q (Some a) y keeps h e = let same : f a ≡ y = cc e in subst Q same (keeps a (h a refl))

item_fits : (x : Option Data) (y : Option Items) (ds : Items) → ((d : Data) → x ≡ Some d → Fits d) → ((es : Items) → y ≡ Some es → ItemsFit es) → option_and_then (λ d. option_map (item d) y) x ≡ Some ds → ItemsFit ds
item_fits None y ds h k e = absurd (cc e)
item_fits (Some d) None ds h k e = absurd (cc e)
item_fits (Some d) (Some es) ds h k e = let same : item d es ≡ ds = cc e in subst ItemsFit same (h d refl, k es refl)

more_fit : (x : Option Data) (k : Text) (ms : json.Members) (found o : Members) → MembersFit found → ((d : Data) → x ≡ Some d → Fits d)
    → ((new : Members) → MembersFit new → of_members ms new ≡ Some o → MembersFit o) → option_and_then (λ d. of_members ms (put k d found)) x ≡ Some o → MembersFit o
more_fit None k ms found o h fits later e = absurd (cc e)
more_fit (Some d) k ms found o h fits later e = later (put k d found) (put_fits k d found (fits d refl) h) e

mutual
  json_fits : (j : json.Json) (d : Data) → of_json j ≡ Some d → Fits d
  json_fits json.null d e = let same : null ≡ d = cc e in subst Fits same tt
  json_fits (json.boolean b) d e = let same : boolean b ≡ d = cc e in subst Fits same tt
  json_fits (json.number s) d e = mapped number FitsNumber Fits (number_of s) d (λ n h. h) (number_fits s) e
  json_fits (json.string s) d e = let same : string s ≡ d = cc e in subst Fits same tt
  json_fits (json.array js) d e = mapped array ItemsFit Fits (of_items js) d (λ ds h. h) (items_fit js) e
  json_fits (json.object ms) d e = mapped object MembersFit Fits (of_members ms no_members) d (λ o h. h) (λ o. members_fit ms no_members o tt) e

  items_fit : (js : json.Items) (ds : Items) → of_items js ≡ Some ds → ItemsFit ds
  items_fit json.no_items ds e = let same : no_items ≡ ds = cc e in subst ItemsFit same tt
  items_fit (json.item j js) ds e = item_fits (of_json j) (of_items js) ds (json_fits j) (items_fit js) e

  members_fit : (ms : json.Members) (found o : Members) → MembersFit found → of_members ms found ≡ Some o → MembersFit o
  members_fit json.no_members found o h e = let same : found ≡ o = cc e in subst MembersFit same h
  members_fit (json.member k j ms) found o h e = more_fit (of_json j) k ms found o h (json_fits j) (λ new. members_fit ms new o) e

read_from : (x : Option json.Json) (d : Data) → option_and_then of_json x ≡ Some d → Fits d
read_from None d e = absurd (cc e)
read_from (Some j) d e = json_fits j d e

pub read_fits : (text : List ℕ) (d : Data) → read text ≡ Some d → Fits d
read_fits text d e = read_from (option_and_then (λ p. json.if_last p.0 p.1) (json.value max_depth (tokens text))) d e

-- ---- members

member_fits_at : (o : Ordering) (e d : Data) (later : Option Data) → Fits e → (later ≡ Some d → Fits d) → match_ordering o later (Some e) later ≡ Some d → Fits d
member_fits_at Less e d later h k is = k is
member_fits_at Equal e d later h k is = let same : e ≡ d = cc is in subst Fits same h
member_fits_at Greater e d later h k is = k is

member_fits : (k : Text) (ms : Members) (d : Data) → MembersFit ms → get_member k ms ≡ Some d → Fits d
member_fits k no_members d h e = absurd (cc e)
member_fits k (member l e ms) d h is = member_fits_at (slice_cmp nat_cmp k l) e d (get_member k ms) h.0 (member_fits k ms d h.1) is

-- ---- ids

id_is : (d : Data) (id : RequestId) → Fits d → IsIdTree d id → IsReadId id
id_is null id h is = subst IsReadId (sym is) tt
id_is (boolean b) id h is = absurd is
id_is (number (unsigned n)) id h is = subst IsReadId (sym is) h
id_is (number (negative (pos n))) id h is = absurd h
id_is (number (negative (negsuc n))) id h is = subst IsReadId (sym is) h
id_is (number (float x)) id h is = absurd is
id_is (string t) id h is = subst IsReadId (sym is) tt
id_is (array ds) id h is = absurd is
id_is (object o) id h is = absurd is

pub id_read : (bytes : List ℕ) (o : Members) (id : RequestId) → IsFrame bytes (object o) → HasId o id → IsReadId id
id_read bytes o id frame (d, has, is) = id_is d id (member_fits (codes "id") o d (read_fits bytes (object o) frame.reads) has) is
