-- Values of unknowns, heads of variables, and some values of all others, are values of all variables at hand.
use Rattle.std.proofs.Common.{◌≡◌, refl, sym, ap, subst, ◌∙◌, ◌+ℤ◌, Bool, true, false, ◌||◌, List, [], ◌∷◌, ◌++◌, Option, Some, None}
use Rattle.std.specs.Prelude.{if◌then◌else◌, MatchBool}
use Rattle.std.specs.List.{AllByRecursion, Contains, list_any, flat_map}
use Rattle.std.specs.Str.{bytes_eq}
use Rattle.std.proofs.lemmas.List.Elements.{Contains-append_left, Contains-append_right, Contains-push}
use Rattle.std.proofs.lemmas.Slice.Eq.{bytes_eq-Decides}
use Rattle.kp_kore.specs.Syntax.{Text, KoreSort}
use Rattle.kp_kore.specs.Parts.{SortedName}
use Rattle.kp_kore.specs.Signature.{KoreSignature}
use Rattle.kp_kore.specs.Value.{Value, head_of, HasSort}
use Rattle.kp_kore.specs.Instance.{Valuation, GivesSorts, is_named}
use Rattle.kp_kore.proofs.ListLemmas.{all_left, all_right, all_map}
use Rattle.kp_symbolic.specs.States.{PassesHead}
use Rattle.kp_symbolic.specs.Plain.{WholePart, TokenPart, some_token, one_token, Form, compares, is_truth, equates, asks, gives, ReadLiteral}
use Rattle.kp_symbolic.specs.Weights.{name_in}
use Rattle.kp_clause_demands.specs.Saying.{named_number, number_of, whole_value, token_value}
use Rattle.kp_clause_demands.specs.Asking.{AsksTruly, IsAskedTruly, AreAskedTruly}
use Rattle.kp_kore.specs.Interpretation.{compared}
use Rattle.kp_clause_demands.proofs.FromNumbers.{zipped}
use Rattle.kp_satisfiability.proofs.Asked.{asked_of, asked_in, IsHeadAsked, AreHeadsAsked}

-- ---- what is asked of numbers, truth values and tokens

abbrev pub side_names : WholePart → List Text
side_names m = name_in m.variable

abbrev pub token_names : TokenPart → List Text
token_names (some_token x) = x ∷ []
token_names (one_token u) = []

-- the names of the unknowns
abbrev pub names_said : Option Form → List Text
names_said (Some (compares c m n)) = side_names m ++ side_names n
names_said (Some (is_truth x b)) = x ∷ []
names_said (Some (equates b p q)) = token_names p ++ token_names q
names_said f = []

abbrev pub names_in : List (List ReadLiteral) → List Text
names_in cs = flat_map (λ c. flat_map (λ l. names_said l.form) c) cs

abbrev SameAt : Valuation → Valuation → Text → Type 0
SameAt v w y = w y ≡ v y

side_agrees : (v w : Valuation) (o : Option Text) → AllByRecursion (SameAt v w) (name_in o) → named_number w o ≡ named_number v o
side_agrees v w (Some x) h = ap number_of h.0
side_agrees v w None h = refl

token_agrees : (v w : Valuation) (p : TokenPart) → AllByRecursion (SameAt v w) (token_names p) → token_value w p ≡ token_value v p
token_agrees v w (some_token x) h = h.0
token_agrees v w (one_token u) h = refl

asks_agree : (g : KoreSignature) (v w : Valuation) (f : Form) → AllByRecursion (SameAt v w) (names_said (Some f)) → AsksTruly g v f → AsksTruly g w f
asks_agree g v w (compares c m n) h t =
    let a = side_agrees v w m.variable (all_left (SameAt v w) (side_names m) (side_names n) h) in
    let b = side_agrees v w n.variable (all_right (SameAt v w) (side_names m) (side_names n) h) in
    ap (λ k. compared c (whole_value w m) k) (ap (λ z. z +ℤ n.constant) b) ∙ ap (λ k. compared c k (whole_value v n)) (ap (λ z. z +ℤ m.constant) a) ∙ t
asks_agree g v w (is_truth x b) h t = h.0 ∙ t
asks_agree g v w (equates b p q) h t =
    let left = token_agrees v w p (all_left (SameAt v w) (token_names p) (token_names q) h) in
    let right = token_agrees v w q (all_right (SameAt v w) (token_names p) (token_names q) h) in
    by b left right t
  where
    by : (b : Bool) → token_value w p ≡ token_value v p → token_value w q ≡ token_value v q → MatchBool b (token_value v p ≡ token_value v q) (¬ (token_value v p ≡ token_value v q)) → MatchBool b (token_value w p ≡ token_value w q) (¬ (token_value w p ≡ token_value w q))
    by true l r e = l ∙ e ∙ sym r
    by false l r n = λ e. n (sym l ∙ e ∙ r)
asks_agree g v w (asks x test b) h t = tt
asks_agree g v w (gives e) h t = tt

said_agrees : (g : KoreSignature) (v w : Valuation) (o : Option Form) → AllByRecursion (SameAt v w) (names_said o) → IsAskedTruly g v o → IsAskedTruly g w o
said_agrees g v w (Some f) h t = asks_agree g v w f h t
said_agrees g v w None h t = t

none_before : (g : KoreSignature) (v w : Valuation) (c : List ReadLiteral) → AllByRecursion (SameAt v w) (flat_map (λ l. names_said l.form) c) → AllByRecursion (λ l. ¬ IsAskedTruly g w l.form) c → AllByRecursion (λ l. ¬ IsAskedTruly g v l.form) c
none_before g v w [] h none = tt
none_before g v w (l ∷ c) h none =
    let rest = flat_map (λ l. names_said l.form) c in
    ((λ t. none.0 (said_agrees g v w l.form (all_left (SameAt v w) (names_said l.form) rest h) t)), none_before g v w c (all_right (SameAt v w) (names_said l.form) rest h) none.1)

all_agree : (g : KoreSignature) (v w : Valuation) (cs : List (List ReadLiteral)) → AllByRecursion (SameAt v w) (names_in cs) → AreAskedTruly g v cs → AreAskedTruly g w cs
all_agree g v w [] h t = tt
all_agree g v w (c ∷ cs) h t =
    let own = flat_map (λ l. names_said l.form) c in
    ((λ none. t.0 (none_before g v w c (all_left (SameAt v w) own (names_in cs) h) none)), all_agree g v w cs (all_right (SameAt v w) own (names_in cs) h) t.1)

-- ---- joining

-- all values of the sort have one head
abbrev pub HasOneHead : KoreSignature → KoreSort → Type 0
HasOneHead g s = (u w : Value) → HasSort g s u → HasSort g s w → head_of u ≡ head_of w

-- the name is that of a variable at hand, of a sort of one head, and the value is of that sort
pub record IsPlaced (g : KoreSignature) (hand : List SortedName) (v : Valuation) (y : Text) : Type 0 where
  pub variable : SortedName
  pub at_hand : Contains hand variable
  pub named : variable.name ≡ y
  pub sorted : HasSort g variable.sort (v y)
  pub one_head : HasOneHead g variable.sort

abbrev pub joined : List Text → Valuation → List SortedName → Valuation → Valuation → Valuation
joined ys v zs heads others = λ y. if list_any (bytes_eq y) ys then v y else if is_named y zs then heads y else others y

named_among : (P : Text → Type 0) (y : Text) (ys : List Text) → list_any (bytes_eq y) ys ≡ true → AllByRecursion P ys → P y
named_among P y [] e h = absurd (cc)
named_among P y (x ∷ xs) e h = by (bytes_eq y x) refl e (λ j. named_among P y xs j h.1)
  where
    by : (b : Bool) → bytes_eq y x ≡ b → (b || list_any (bytes_eq y) xs) ≡ true → (list_any (bytes_eq y) xs ≡ true → P y) → P y
    by true i j on = subst P (sym ((bytes_eq-Decides y x).0 i)) h.0
    by false i j on = on j

variable_named : (P : SortedName → Type 0) (y : Text) (zs : List SortedName) → is_named y zs ≡ true → AllByRecursion P zs → (z : SortedName) × (z.name ≡ y) × P z
variable_named P y [] e h = absurd (cc)
variable_named P y (z ∷ zs) e h = by (bytes_eq z.name y) refl e (λ j. variable_named P y zs j h.1)
  where
    by : (b : Bool) → bytes_eq z.name y ≡ b → (b || is_named y zs) ≡ true → (is_named y zs ≡ true → (x : SortedName) × (x.name ≡ y) × P x) → (x : SortedName) × (x.name ≡ y) × P x
    by true i j on = (z, (bytes_eq-Decides z.name y).0 i, h.0)
    by false i j on = on j

first_or : (a b : Bool) → a ≡ true → (a || b) ≡ true
first_or true b e = refl
first_or false b e = absurd (cc)

second_or : (a b : Bool) → b ≡ true → (a || b) ≡ true
second_or true b e = refl
second_or false b e = e

all_named : (ys : List Text) → AllByRecursion (λ y. list_any (bytes_eq y) ys ≡ true) ys
all_named [] = tt
all_named (y ∷ ys) = (first_or (bytes_eq y y) (list_any (bytes_eq y) ys) ((bytes_eq-Decides y y).1 refl), all_map (λ z. list_any (bytes_eq z) ys ≡ true) (λ z. list_any (bytes_eq z) (y ∷ ys) ≡ true) ys (λ z h. second_or (bytes_eq z y) (list_any (bytes_eq z) ys) h) (all_named ys))

all_named_variables : (zs : List SortedName) → AllByRecursion (λ z. is_named z.name zs ≡ true) zs
all_named_variables [] = tt
all_named_variables (z ∷ zs) = (first_or (bytes_eq z.name z.name) (is_named z.name zs) ((bytes_eq-Decides z.name z.name).1 refl), all_map (λ x. is_named x.name zs ≡ true) (λ x. is_named x.name (z ∷ zs) ≡ true) zs (λ x h. second_or (bytes_eq z.name x.name) (is_named x.name zs) h) (all_named_variables zs))

-- what is known of the three valuations
pub record CanBeJoined (g : KoreSignature) (hand : List SortedName) (cs : List (List ReadLiteral)) (v heads others : Valuation) : Type 0 where
  pub one_sort : (x y : SortedName) → Contains hand x → Contains hand y → x.name ≡ y.name → x.sort ≡ y.sort
  pub placed : AllByRecursion (IsPlaced g hand v) (names_in cs)
  pub asked : AreAskedTruly g v cs
  pub asked_at_hand : AllByRecursion (Contains hand) (asked_in cs)
  pub heads_sorted : GivesSorts g heads (asked_in cs)
  pub heads_asked : AreHeadsAsked g heads cs
  pub others_sorted : GivesSorts g others hand

abbrev pub joined_of : List (List ReadLiteral) → Valuation → Valuation → Valuation → Valuation
joined_of cs v heads others = joined (names_in cs) v (asked_in cs) heads others

of_unknown : (cs : List (List ReadLiteral)) (v heads others : Valuation) (y : Text) → list_any (bytes_eq y) (names_in cs) ≡ true → joined_of cs v heads others y ≡ v y
of_unknown cs v heads others y e = ap (λ b. if b then v y else if is_named y (asked_in cs) then heads y else others y) e

of_head : (cs : List (List ReadLiteral)) (v heads others : Valuation) (y : Text) → list_any (bytes_eq y) (names_in cs) ≡ false → is_named y (asked_in cs) ≡ true → joined_of cs v heads others y ≡ heads y
of_head cs v heads others y e i = ap (λ b. if b then v y else if is_named y (asked_in cs) then heads y else others y) e ∙ ap (λ b. if b then heads y else others y) i

paired : (g : KoreSignature) (hand : List SortedName) (heads : Valuation) (zs : List SortedName) → AllByRecursion (Contains hand) zs → GivesSorts g heads zs → AllByRecursion (λ z. Contains hand z × HasSort g z.sort (heads z.name)) zs
paired g hand heads [] c h = tt
paired g hand heads (z ∷ zs) c h = ((c.0, h.0), paired g hand heads zs c.1 h.1)

value_sorted : (g : KoreSignature) (hand : List SortedName) (cs : List (List ReadLiteral)) (v heads others : Valuation) → CanBeJoined g hand cs v heads others → (x : SortedName) → Contains hand x → HasSort g x.sort (others x.name) → HasSort g x.sort (joined_of cs v heads others x.name)
value_sorted g hand cs v heads others k x at last = by (list_any (bytes_eq x.name) (names_in cs)) refl (is_named x.name (asked_in cs)) refl
  where
    by : (a : Bool) → list_any (bytes_eq x.name) (names_in cs) ≡ a → (b : Bool) → is_named x.name (asked_in cs) ≡ b → HasSort g x.sort (if a then v x.name else if b then heads x.name else others x.name)
    by true e b f = let p = named_among (IsPlaced g hand v) x.name (names_in cs) e k.placed in subst (λ s. HasSort g s (v x.name)) (k.one_sort p.variable x p.at_hand at p.named) p.sorted
    by false e true f =
        let z = variable_named (λ z. Contains hand z × HasSort g z.sort (heads z.name)) x.name (asked_in cs) f (paired g hand heads (asked_in cs) k.asked_at_hand k.heads_sorted) in
        subst (λ s. HasSort g s (heads x.name)) (k.one_sort z.0 x z.2.0 at z.1) (subst (λ n. HasSort g z.0.sort (heads n)) z.1 z.2.1)
    by false e false f = last

all_sorted : (g : KoreSignature) (hand : List SortedName) (cs : List (List ReadLiteral)) (v heads others : Valuation) → CanBeJoined g hand cs v heads others → (xs : List SortedName) → AllByRecursion (Contains hand) xs → GivesSorts g others xs → GivesSorts g (joined_of cs v heads others) xs
all_sorted g hand cs v heads others k [] at h = tt
all_sorted g hand cs v heads others k (x ∷ xs) at h = (value_sorted g hand cs v heads others k x at.0 h.0, all_sorted g hand cs v heads others k xs at.1 h.1)

-- the head of a variable that is asked for is as it was
same_head : (g : KoreSignature) (hand : List SortedName) (cs : List (List ReadLiteral)) (v heads others : Valuation) → CanBeJoined g hand cs v heads others → (x : SortedName) → Contains hand x → HasSort g x.sort (heads x.name) → is_named x.name (asked_in cs) ≡ true → head_of (joined_of cs v heads others x.name) ≡ head_of (heads x.name)
same_head g hand cs v heads others k x at has named = by (list_any (bytes_eq x.name) (names_in cs)) refl
  where
    by : (a : Bool) → list_any (bytes_eq x.name) (names_in cs) ≡ a → head_of (joined_of cs v heads others x.name) ≡ head_of (heads x.name)
    by true e =
        let p = named_among (IsPlaced g hand v) x.name (names_in cs) e k.placed in
        let same : p.variable.sort ≡ x.sort = k.one_sort p.variable x p.at_hand at p.named in
        ap head_of (of_unknown cs v heads others x.name e) ∙ p.one_head (v x.name) (heads x.name) p.sorted (subst (λ s. HasSort g s (heads x.name)) (sym same) has)
    by false e = ap head_of (of_head cs v heads others x.name e named)

head_asked : (g : KoreSignature) (v w : Valuation) (o : Option Form) → AllByRecursion (λ x. head_of (w x.name) ≡ head_of (v x.name)) (asked_of o) → IsHeadAsked g v o → IsHeadAsked g w o
head_asked g v w (Some (asks x test b)) h t = by b t
  where
    by : (b : Bool) → MatchBool b (¬ ¬ PassesHead g test (head_of (v x.name))) (¬ ¬ ¬ PassesHead g test (head_of (v x.name))) → MatchBool b (¬ ¬ PassesHead g test (head_of (w x.name))) (¬ ¬ ¬ PassesHead g test (head_of (w x.name)))
    by true n = subst (λ k. ¬ ¬ PassesHead g test k) (sym h.0) n
    by false n = subst (λ k. ¬ ¬ ¬ PassesHead g test k) (sym h.0) n
head_asked g v w (Some (compares c m n)) h t = tt
head_asked g v w (Some (is_truth x b)) h t = tt
head_asked g v w (Some (equates b p q)) h t = tt
head_asked g v w (Some (gives e)) h t = tt
head_asked g v w None h t = tt

abbrev SameHead : Valuation → Valuation → SortedName → Type 0
SameHead v w x = head_of (w x.name) ≡ head_of (v x.name)

clause_heads : (g : KoreSignature) (v w : Valuation) (c : List ReadLiteral) → AllByRecursion (SameHead v w) (flat_map (λ l. asked_of l.form) c) → AllByRecursion (λ l. IsHeadAsked g v l.form) c → AllByRecursion (λ l. IsHeadAsked g w l.form) c
clause_heads g v w [] h t = tt
clause_heads g v w (l ∷ c) h t =
    let rest = flat_map (λ l. asked_of l.form) c in
    (head_asked g v w l.form (all_left (SameHead v w) (asked_of l.form) rest h) t.0, clause_heads g v w c (all_right (SameHead v w) (asked_of l.form) rest h) t.1)

all_heads : (g : KoreSignature) (v w : Valuation) (cs : List (List ReadLiteral)) → AllByRecursion (SameHead v w) (asked_in cs) → AreHeadsAsked g v cs → AreHeadsAsked g w cs
all_heads g v w [] h t = tt
all_heads g v w (c ∷ cs) h t =
    let own = flat_map (λ l. asked_of l.form) c in
    (clause_heads g v w c (all_left (SameHead v w) own (asked_in cs) h) t.0, all_heads g v w cs (all_right (SameHead v w) own (asked_in cs) h) t.1)

-- ---- the joined valuation

pub record AreJoined (g : KoreSignature) (hand : List SortedName) (cs : List (List ReadLiteral)) (v : Valuation) : Type 0 where
  pub sorts : GivesSorts g v hand
  pub heads : AreHeadsAsked g v cs
  pub asked : AreAskedTruly g v cs

each_self : (xs hand : List SortedName) → ((x : SortedName) → Contains xs x → Contains hand x) → AllByRecursion (Contains hand) xs
each_self [] hand f = tt
each_self (x ∷ xs) hand f = (f x (Contains-append_left (x ∷ []) xs x (Contains-push [] x)), each_self xs hand (λ y at. f y (Contains-append_right (x ∷ []) xs y at)))

pub are_joined : (g : KoreSignature) (hand : List SortedName) (cs : List (List ReadLiteral)) (v heads others : Valuation) → CanBeJoined g hand cs v heads others → AreJoined g hand cs (joined_of cs v heads others)
are_joined g hand cs v heads others k =
    let w = joined_of cs v heads others in
    let zs = asked_in cs in
    record {
      sorts = all_sorted g hand cs v heads others k hand (each_self hand hand (λ x at. at)) k.others_sorted;
      heads = all_heads g heads w cs
          (zipped (λ x. Contains hand x × (is_named x.name zs ≡ true)) (λ x. HasSort g x.sort (heads x.name)) (SameHead heads w) zs (λ x p has. same_head g hand cs v heads others k x p.0 has p.1)
          (zipped (Contains hand) (λ x. is_named x.name zs ≡ true) (λ x. Contains hand x × (is_named x.name zs ≡ true)) zs (λ x a b. (a, b)) k.asked_at_hand (all_named_variables zs)) k.heads_sorted) k.heads_asked;
      asked = all_agree g v w cs (all_map (λ y. list_any (bytes_eq y) (names_in cs) ≡ true) (SameAt v w) (names_in cs) (λ y e. of_unknown cs v heads others y e) (all_named (names_in cs))) k.asked;
    }
