-- The valuation that numbered values give.
use Rattle.std.proofs.Common.{arith, ◌≡◌, refl, sym, ap, subst, ◌∙◌, ◌↔◌, ℕ, zero, suc, ◌<◌, pos, Bool, true, false, cond, List, [], ◌∷◌, ◌++◌, map, length, slice_index_or, Option, Some, None}
use Rattle.std.specs.Prelude.{if◌then◌else◌, string_bytes, Vec}
use Rattle.std.specs.Borrow.{Bor}
use Rattle.std.specs.List.{AllByRecursion, Contains, find}
use Rattle.std.specs.Option.{option_map}
use Rattle.std.specs.Str.{bytes_eq}
use Rattle.std.specs.declared.alloc.Global.{Global}
use Rattle.std.proofs.lemmas.Slice.Eq.{bytes_eq-Decides}
use Rattle.kp_kore.specs.Parts.{SortedName}
use Rattle.kp_kore.specs.Syntax.{Text, KoreSort}
use Rattle.kp_kore.specs.Signature.{KoreSignature, has_only_numbers, has_only_truths}
use Rattle.kp_ground.specs.View.{value_view}
use Rattle.kp_kore.specs.Value.{Value, whole, truth, token, HasSort}
use Rattle.kp_kore.specs.Instance.{Valuation, GivesSorts}
use Rattle.kp_kore.proofs.TurnLemmas.{each_member}
use Rattle.kp_signature.proofs.NumberLemmas.{only_numbers, only_truths}
use Rattle.kp_symbolic.specs.Plain as model
use Rattle.kp_symbolic.specs.Plain.{has_only_tokens}
use Rattle.kp_demands.specs.Demands.{Assignment, IsLawful}
use Rattle.kp_demands.specs.Classes.{AreFixed}
use Rattle.kp_demands.proofs.Lists.{all_append}
use Rattle.kp_clause_demands.specs.Saying.{number_of, named_number, token_value}
use Rattle.kp_symbolic.specs.View.{variable_view}
use Rattle.kp_symbolic.specs.declared.variable.Variable.{Variable}
use Rattle.kp_literals.specs.Forms.{token_part_view}
use Rattle.kp_literals.specs.declared.form.LiteralForm.{LiteralForm}
use Rattle.kp_literals.specs.declared.form.LiteralForm.TheVariants.{Compares, Truth, Equates, Asks, Gives}
use Rattle.kp_literals.specs.declared.form.TokenPart.{TokenPart}
use Rattle.kp_literals.specs.declared.form.TokenPart.TheVariants.{Unknown, Known}
use Rattle.kp_literals.specs.declared.reading.ReadLiteral.{ReadLiteral}
use Rattle.kp_literals.specs.Unknowns.{if_there, side_variables, token_variables, unknowns_said, unknowns_in, all_unknowns, IsTokenPart, IsSaidOfKind, AreSaidOfKind}
use Rattle.kp_clause_demands.specs.Holding.{CanBeDecided}
use Rattle.kp_clause_demands.specs.Kinds.{token_sort, part_sort}
use Rattle.kp_clause_demands.specs.Numbers.{texts, place_by, parts_same, whole_number}
use Rattle.kp_clause_demands.specs.Ways.{token_number}
use Rattle.kp_clause_demands.specs.declared.unknowns.Unknowns.{Unknowns}
use Rattle.kp_clause_demands.proofs.Placing.{IsPartPlaced, IsSaidPlaced, AreSaidPlaced}
use Rattle.kp_clause_demands.proofs.Sides.{IsTokenOf, known_token, texts_in_tokens, apart_differ, alike_sorts}
use Rattle.kp_clause_demands.proofs.ToNumbers.{Fronted}
use Rattle.kp_clause_demands.proofs.TokenSorts.{only_tokens, numbers_no_tokens, truths_no_tokens, truths_no_numbers}
use Rattle.kp_clause_demands.proofs.Written.{text_for, own_text, two_texts}
use Rattle.kp_clause_demands.proofs.Agreeing.{AgreesOnTokens, SaidAgrees, AgreesOnAll}

-- ---- the valuation

-- a token of the sort, with the text of its class
abbrev pub token_in : Assignment → Unknowns → List model.TokenPart → Text → Option KoreSort → Value
token_in a u front x (Some s) = token s (text_for (map token_part_view u.tokens.items) front a.classes s (a.classes (place_by parts_same (map token_part_view u.tokens.items) (model.some_token x))))
token_in a u front x None = truth true

-- by the kind of the sort
abbrev pub value_for : KoreSignature → Assignment → Unknowns → List model.TokenPart → Text → KoreSort → Value
value_for g a u front x s =
    if has_only_tokens g s then token_in a u front x (token_sort g s)
    else if has_only_numbers g s then whole (a.wholes (whole_number (texts u.wholes.items) (Some x)))
    else truth (a.truths (place_by bytes_eq (texts u.truths.items) x))

abbrev found_value : KoreSignature → Assignment → Unknowns → List model.TokenPart → Option SortedName → Value
found_value g a u front (Some z) = value_for g a u front z.name z.sort
found_value g a u front None = truth true

abbrev pub from_numbers : KoreSignature → Assignment → Unknowns → List model.TokenPart → List SortedName → Valuation
from_numbers g a u front xs = λ y. found_value g a u front (find (λ z. bytes_eq z.name y) xs)

-- ---- one sort for each name

record IsFound (xs : List SortedName) (x : SortedName) : Type 0 where
  one : SortedName
  is : find (λ z. bytes_eq z.name x.name) xs ≡ Some one
  name : one.name ≡ x.name
  among : Contains xs one

found_at : (xs : List SortedName) (k : ℕ) (x : SortedName) → k < length xs → slice_index_or xs k x ≡ x → IsFound xs x
found_at [] k x h e = absurd (omega (arith, h))
found_at (y ∷ ys) k x h e = by (bytes_eq y.name x.name) refl k h e (found_at ys)
  where
    by : (b : Bool) → bytes_eq y.name x.name ≡ b → (k : ℕ) → k < suc (length ys) → slice_index_or (y ∷ ys) k x ≡ x → ((k : ℕ) (x : SortedName) → k < length ys → slice_index_or ys k x ≡ x → IsFound ys x) → IsFound (y ∷ ys) x
    by true p k h e on = record { one = y; is = ap (λ b. cond b (Some y) (find (λ z. bytes_eq z.name x.name) ys)) p; name = (bytes_eq-Decides y.name x.name).0 p; among = (0, omega arith, refl) }
    by false p zero h e on = absurd (never (sym p ∙ (bytes_eq-Decides y.name x.name).1 (ap (λ (z : SortedName). z.name) e)))
      where
        never : false ≡ true → ⊥
        never q = cc
    by false p (suc k) h e on = let r = on k x (omega (arith, h)) e in
        record { one = r.one; is = ap (λ b. cond b (Some y) (find (λ z. bytes_eq z.name x.name) ys)) p ∙ r.is; name = r.name; among = (suc r.among.0, omega (arith, r.among.1), r.among.2) }

pub valued : (g : KoreSignature) (a : Assignment) (u : Unknowns) (front : List model.TokenPart) (xs : List SortedName) → ((x y : SortedName) → Contains xs x → Contains xs y → x.name ≡ y.name → x.sort ≡ y.sort) →
    AllByRecursion (λ x. from_numbers g a u front xs x.name ≡ value_for g a u front x.name x.sort) xs
valued g a u front xs one_sort = each_member (λ x. from_numbers g a u front xs x.name ≡ value_for g a u front x.name x.sort) xs (λ x c. by x c (found_at xs c.0 x c.1 c.2))
  where
    by : (x : SortedName) → Contains xs x → IsFound xs x → from_numbers g a u front xs x.name ≡ value_for g a u front x.name x.sort
    by x c f = ap (found_value g a u front) f.is ∙ ap (λ n. value_for g a u front n f.one.sort) f.name ∙ ap (λ s. value_for g a u front x.name s) (one_sort f.one x f.among c f.name)

-- ---- values by kind

-- the variable stands for the value that is meant, and its sort has values
abbrev pub IsValued : KoreSignature → Assignment → Unknowns → List model.TokenPart → Valuation → SortedName → Type 0
IsValued g a u front v x = (v x.name ≡ value_for g a u front x.name x.sort) × ((w : Value) × HasSort g x.sort w)

number_given : (g : KoreSignature) (a : Assignment) (u : Unknowns) (front : List model.TokenPart) (v : Valuation) (x : SortedName) → has_only_numbers g x.sort ≡ true → IsValued g a u front v x →
    (v x.name ≡ whole (a.wholes (whole_number (texts u.wholes.items) (Some x.name)))) × HasSort g x.sort (v x.name)
number_given g a u front v x k h =
    let number = whole (a.wholes (whole_number (texts u.wholes.items) (Some x.name))) in
    let other = truth (a.truths (place_by bytes_eq (texts u.truths.items) x.name)) in
    let is : v x.name ≡ number = h.0 ∙ ap (λ b. if b then token_in a u front x.name (token_sort g x.sort) else if has_only_numbers g x.sort then number else other) (numbers_no_tokens g x.sort h.1.0 h.1.1 k) ∙ ap (λ b. if b then number else other) k in
    let w = only_numbers g x.sort h.1.0 k h.1.1 in
    let head : HasSort g x.sort (whole w.0) = subst (HasSort g x.sort) w.1 h.1.1 in
    (is, subst (HasSort g x.sort) (sym is) head)

truth_given : (g : KoreSignature) (a : Assignment) (u : Unknowns) (front : List model.TokenPart) (v : Valuation) (x : SortedName) → has_only_truths g x.sort ≡ true → IsValued g a u front v x →
    (v x.name ≡ truth (a.truths (place_by bytes_eq (texts u.truths.items) x.name))) × HasSort g x.sort (v x.name)
truth_given g a u front v x k h =
    let number = whole (a.wholes (whole_number (texts u.wholes.items) (Some x.name))) in
    let other = truth (a.truths (place_by bytes_eq (texts u.truths.items) x.name)) in
    let is : v x.name ≡ other = h.0 ∙ ap (λ b. if b then token_in a u front x.name (token_sort g x.sort) else if has_only_numbers g x.sort then number else other) (truths_no_tokens g x.sort h.1.0 h.1.1 k) ∙ ap (λ b. if b then number else other) (truths_no_numbers g x.sort h.1.0 h.1.1 k) in
    let w = only_truths g x.sort h.1.0 k h.1.1 in
    let head : HasSort g x.sort (truth w.0) = subst (HasSort g x.sort) w.1 h.1.1 in
    (is, subst (HasSort g x.sort) (sym is) head)

token_given : (g : KoreSignature) (a : Assignment) (u : Unknowns) (front : List model.TokenPart) (v : Valuation) (x : SortedName) → has_only_tokens g x.sort ≡ true → IsValued g a u front v x →
    (s : KoreSort) × (token_sort g x.sort ≡ Some s) × (v x.name ≡ token_in a u front x.name (Some s)) × HasSort g x.sort (v x.name)
token_given g a u front v x k h =
    let number = whole (a.wholes (whole_number (texts u.wholes.items) (Some x.name))) in
    let other = truth (a.truths (place_by bytes_eq (texts u.truths.items) x.name)) in
    let o = only_tokens g x.sort k in
    let is : v x.name ≡ token_in a u front x.name (Some o.sort) = h.0 ∙ ap (λ b. if b then token_in a u front x.name (token_sort g x.sort) else if has_only_numbers g x.sort then number else other) k ∙ ap (token_in a u front x.name) o.is in
    (o.sort, o.is, is, subst (HasSort g x.sort) (sym is) (o.given (text_for (map token_part_view u.tokens.items) front a.classes o.sort (a.classes (place_by parts_same (map token_part_view u.tokens.items) (model.some_token x.name))))))

-- ---- sorts

pub zipped : {X : Type 0} (P Q R : X → Type 0) (xs : List X) → ((x : X) → P x → Q x → R x) → AllByRecursion P xs → AllByRecursion Q xs → AllByRecursion R xs
zipped P Q R [] f h k = tt
zipped P Q R (x ∷ xs) f h k = (f x h.0 k.0, zipped P Q R xs f h.1 k.1)

part_sorted : (g : KoreSignature) (a : Assignment) (u : Unknowns) (front : List model.TokenPart) (v : Valuation) (p : TokenPart) → IsTokenPart g p → AllByRecursion (IsValued g a u front v) (token_variables p) → GivesSorts g v (token_variables p)
part_sorted g a u front v (Unknown x) k h = ((token_given g a u front v (variable_view x.now) k h.0).3, tt)
part_sorted g a u front v (Known w) k h = tt

form_sorted : (g : KoreSignature) (a : Assignment) (u : Unknowns) (front : List model.TokenPart) (v : Valuation) (o : Option LiteralForm) → IsSaidOfKind g o → AllByRecursion (IsValued g a u front v) (unknowns_said o) → GivesSorts g v (unknowns_said o)
form_sorted g a u front v None k h = tt
form_sorted g a u front v (Some (Compares c m n)) k h = zipped (λ x. has_only_numbers g x.sort ≡ true) (IsValued g a u front v) (λ x. HasSort g x.sort (v x.name)) (side_variables m ++ side_variables n) (λ x i j. (number_given g a u front v x i j).1) k h
form_sorted g a u front v (Some (Truth x b)) k h = ((truth_given g a u front v (variable_view x.now) k h.0).1, tt)
form_sorted g a u front v (Some (Equates b p q)) k h = let hs = (all_append (IsValued g a u front v) (token_variables p) (token_variables q)).0 h in
    (all_append (λ x. HasSort g x.sort (v x.name)) (token_variables p) (token_variables q)).1 (part_sorted g a u front v p k.0 hs.0, part_sorted g a u front v q k.1 hs.1)
form_sorted g a u front v (Some (Asks x test b)) k h = tt
form_sorted g a u front v (Some (Gives x t)) k h = tt

clause_sorted : (g : KoreSignature) (a : Assignment) (u : Unknowns) (front : List model.TokenPart) (v : Valuation) (c : List ReadLiteral) → AreSaidOfKind g c → AllByRecursion (IsValued g a u front v) (unknowns_in c) → GivesSorts g v (unknowns_in c)
clause_sorted g a u front v [] k h = tt
clause_sorted g a u front v (l ∷ c) k h = let hs = (all_append (IsValued g a u front v) (unknowns_said l.form) (unknowns_in c)).0 h in
    (all_append (λ x. HasSort g x.sort (v x.name)) (unknowns_said l.form) (unknowns_in c)).1 (form_sorted g a u front v l.form k.0 hs.0, clause_sorted g a u front v c k.1 hs.1)

pub all_sorted : (g : KoreSignature) (a : Assignment) (u : Unknowns) (front : List model.TokenPart) (v : Valuation) (cs : List (Vec ReadLiteral Global)) → AllByRecursion (λ c. AreSaidOfKind g c.items) cs → AllByRecursion (IsValued g a u front v) (all_unknowns cs) → GivesSorts g v (all_unknowns cs)
all_sorted g a u front v [] k h = tt
all_sorted g a u front v (c ∷ cs) k h = let hs = (all_append (IsValued g a u front v) (unknowns_in c.items) (all_unknowns cs)).0 h in
    (all_append (λ x. HasSort g x.sort (v x.name)) (unknowns_in c.items) (all_unknowns cs)).1 (clause_sorted g a u front v c.items k.0 hs.0, all_sorted g a u front v cs k.1 hs.1)

-- ---- agreeing

side_agrees : (g : KoreSignature) (a : Assignment) (u : Unknowns) (front : List model.TokenPart) (v : Valuation) (o : Option (Bor Variable)) → a.wholes 0 ≡ pos 0 → AllByRecursion (λ x. has_only_numbers g x.sort ≡ true) (if_there (option_map (λ x. variable_view x.now) o)) →
    AllByRecursion (IsValued g a u front v) (if_there (option_map (λ x. variable_view x.now) o)) → named_number v (option_map (λ x. string_bytes x.now.name) o) ≡ a.wholes (whole_number (texts u.wholes.items) (option_map (λ x. string_bytes x.now.name) o))
side_agrees g a u front v None z k h = sym z
side_agrees g a u front v (Some x) z k h = ap number_of (number_given g a u front v (variable_view x.now) k.0 h.0).0

-- the side is the token of its class
record IsTextOf (g : KoreSignature) (a : Assignment) (u : Unknowns) (front : List model.TokenPart) (v : Valuation) (p : TokenPart) : Type 0 where
  sort : KoreSort
  is : part_sort g p ≡ Some sort
  value : token_value v (token_part_view p) ≡ token sort (text_for (map token_part_view u.tokens.items) front a.classes sort (a.classes (token_number u p)))

place_front : (xs ys : List model.TokenPart) (p : model.TokenPart) → place_by parts_same (xs ++ ys) p < length xs → place_by parts_same (xs ++ ys) p ≡ place_by parts_same xs p
place_front [] ys p h = absurd (omega (arith, h))
place_front (x ∷ xs) ys p h = by (parts_same p x) h (place_front xs ys p)
  where
    by : (b : Bool) → (if b then 0 else suc (place_by parts_same (xs ++ ys) p)) < suc (length xs) → (place_by parts_same (xs ++ ys) p < length xs → place_by parts_same (xs ++ ys) p ≡ place_by parts_same xs p) → (if b then 0 else suc (place_by parts_same (xs ++ ys) p)) ≡ (if b then 0 else suc (place_by parts_same xs p))
    by true l on = refl
    by false l on = ap suc (on (omega (arith, l)))

written_text : (parts : List model.TokenPart) (written : ℕ) (classes : ℕ → ℕ) (f : Fronted parts written) (s : KoreSort) (t : Text) → AreFixed written classes → IsPartPlaced parts written (model.one_token (token s t)) →
    text_for parts f.front classes s (classes (place_by parts_same parts (model.one_token (token s t)))) ≡ t
written_text parts written classes f s t fixed h =
    let p = model.one_token (token s t) in
    let at : place_by parts_same (f.front ++ f.rest) p < length f.front = subst (λ ps. place_by parts_same ps p < length f.front) f.is (subst (λ n. place_by parts_same parts p < n) f.long (h.among refl)) in
    let same : place_by parts_same parts p ≡ place_by parts_same f.front p = ap (λ ps. place_by parts_same ps p) f.is ∙ place_front f.front f.rest p at in
    own_text parts f.front classes s t (subst (λ n. AreFixed n classes) f.long fixed) (subst (λ n. n < length f.front) (place_front f.front f.rest p at) at) same

text_of : (g : KoreSignature) (a : Assignment) (u : Unknowns) (f : Fronted (map token_part_view u.tokens.items) u.written) (v : Valuation) (p : TokenPart) → IsLawful u.written a → IsPartPlaced (map token_part_view u.tokens.items) u.written (token_part_view p) → IsTokenPart g p →
    AllByRecursion (IsValued g a u f.front v) (token_variables p) → IsTextOf g a u f.front v p
text_of g a u f v (Unknown x) w pl k h = let t = token_given g a u f.front v (variable_view x.now) k h.0 in record { sort = t.0; is = t.1; value = t.2 }
text_of g a u f v (Known r) w pl k h =
    let t = known_token g v (value_view r.now) (value_view r.now) refl k in
    let parts = map token_part_view u.tokens.items in
    let here : IsPartPlaced parts u.written (model.one_token (token t.0 t.1)) = subst (λ z. IsPartPlaced parts u.written (model.one_token z)) t.3 pl in
    record {
      sort = t.0;
      is = t.2;
      value = t.3 ∙ ap (λ z. token t.0 z) (sym (subst (λ z. text_for parts f.front a.classes t.0 (a.classes (place_by parts_same parts (model.one_token z))) ≡ t.1) (sym t.3) (written_text parts u.written a.classes f t.0 t.1 w.differ here)));
    }

abbrev is_token : (g : KoreSignature) (a : Assignment) (u : Unknowns) (front : List model.TokenPart) (v : Valuation) (p : TokenPart) → IsTextOf g a u front v p → IsTokenOf g v p
is_token g a u front v p t = record { sort = t.sort; is = t.is; text = text_for (map token_part_view u.tokens.items) front a.classes t.sort (a.classes (token_number u p)); value = t.value }

tokens_agree : (g : KoreSignature) (a : Assignment) (u : Unknowns) (front : List model.TokenPart) (v : Valuation) (p q : TokenPart) → IsTextOf g a u front v p → IsTextOf g a u front v q → AgreesOnTokens g a v u p q
tokens_agree g a u front v p q s t = record {
  alike = λ e. by (alike_sorts g v p q (is_token g a u front v p s) (is_token g a u front v q t) e);
  apart = λ e. apart_differ g v p q (is_token g a u front v p s) (is_token g a u front v q t) e;
}
  where
    by : s.sort ≡ t.sort → (a.classes (token_number u p) ≡ a.classes (token_number u q)) ↔ (token_value v (token_part_view p) ≡ token_value v (token_part_view q))
    by one =
        let parts = map token_part_view u.tokens.items in
        let right : token_value v (token_part_view q) ≡ token s.sort (text_for parts front a.classes s.sort (a.classes (token_number u q))) = subst (λ z. token_value v (token_part_view q) ≡ token z (text_for parts front a.classes z (a.classes (token_number u q)))) (sym one) t.value in (
          λ e. s.value ∙ ap (λ n. token s.sort (text_for parts front a.classes s.sort n)) e ∙ sym right,
          λ e. two_texts parts front a.classes s.sort (a.classes (token_number u p)) (a.classes (token_number u q)) (texts_in_tokens (sym s.value ∙ e ∙ right)),
        )

said_agrees : (g : KoreSignature) (a : Assignment) (u : Unknowns) (f : Fronted (map token_part_view u.tokens.items) u.written) (v : Valuation) (bits : ℕ) (o : Option LiteralForm) → IsLawful u.written a → IsSaidPlaced u bits o → IsSaidOfKind g o → AllByRecursion (IsValued g a u f.front v) (unknowns_said o) → SaidAgrees g a v u o
said_agrees g a u f v bits None w pl k h = tt
said_agrees g a u f v bits (Some (Compares c m n)) w pl k h =
    let ks = (all_append (λ x. has_only_numbers g x.sort ≡ true) (side_variables m) (side_variables n)).0 k in
    let hs = (all_append (IsValued g a u f.front v) (side_variables m) (side_variables n)).0 h in
    (side_agrees g a u f.front v m.variable w.zero_is ks.0 hs.0, side_agrees g a u f.front v n.variable w.zero_is ks.1 hs.1)
said_agrees g a u f v bits (Some (Truth x b)) w pl k h = (truth_given g a u f.front v (variable_view x.now) k h.0).0
said_agrees g a u f v bits (Some (Equates b p q)) w pl k h =
    let hs = (all_append (IsValued g a u f.front v) (token_variables p) (token_variables q)).0 h in
    tokens_agree g a u f.front v p q (text_of g a u f v p w pl.tokens.0 k.0 hs.0) (text_of g a u f v q w pl.tokens.1 k.1 hs.1)
said_agrees g a u f v bits (Some (Asks x test b)) w pl k h = tt
said_agrees g a u f v bits (Some (Gives x t)) w pl k h = tt

clause_agrees : (g : KoreSignature) (a : Assignment) (u : Unknowns) (f : Fronted (map token_part_view u.tokens.items) u.written) (v : Valuation) (bits : ℕ) (c : List ReadLiteral) → IsLawful u.written a → AllByRecursion (λ l. IsSaidPlaced u bits l.form) c → AreSaidOfKind g c →
    AllByRecursion (IsValued g a u f.front v) (unknowns_in c) → AllByRecursion (λ l. SaidAgrees g a v u l.form) c
clause_agrees g a u f v bits [] w pl k h = tt
clause_agrees g a u f v bits (l ∷ c) w pl k h = let hs = (all_append (IsValued g a u f.front v) (unknowns_said l.form) (unknowns_in c)).0 h in (said_agrees g a u f v bits l.form w pl.0 k.0 hs.0, clause_agrees g a u f v bits c w pl.1 k.1 hs.1)

pub values_agree : (g : KoreSignature) (a : Assignment) (u : Unknowns) (f : Fronted (map token_part_view u.tokens.items) u.written) (v : Valuation) (bits : ℕ) (cs : List (Vec ReadLiteral Global)) → IsLawful u.written a → AreSaidPlaced u bits cs → AllByRecursion (λ c. AreSaidOfKind g c.items) cs →
    AllByRecursion (IsValued g a u f.front v) (all_unknowns cs) → AgreesOnAll g a v u cs
values_agree g a u f v bits [] w pl k h = tt
values_agree g a u f v bits (c ∷ cs) w pl k h = let hs = (all_append (IsValued g a u f.front v) (unknowns_in c.items) (all_unknowns cs)).0 h in (clause_agrees g a u f v bits c.items w pl.0 k.0 hs.0, values_agree g a u f v bits cs w pl.1 k.1 hs.1)

pub all_valued : (g : KoreSignature) (a : Assignment) (u : Unknowns) (front : List model.TokenPart) (cs : List (Vec ReadLiteral Global)) → CanBeDecided g cs → AllByRecursion (IsValued g a u front (from_numbers g a u front (all_unknowns cs))) (all_unknowns cs)
all_valued g a u front cs d = zipped (λ x. from_numbers g a u front (all_unknowns cs) x.name ≡ value_for g a u front x.name x.sort) (λ x. (w : Value) × HasSort g x.sort w) (IsValued g a u front (from_numbers g a u front (all_unknowns cs))) (all_unknowns cs) (λ x i j. (i, j)) (valued g a u front (all_unknowns cs) d.one_sort_each) d.have_values
