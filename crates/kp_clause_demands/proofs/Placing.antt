-- Each unknown of the clauses has its place in the lists of unknowns, and bounds are within the limits.
use Rattle.std.proofs.Common.{arith, ◌≡◌, refl, sym, ap, subst, ◌∙◌, ℕ, suc, ◌<◌, ◌≤◌, ◌^◌, Bool, true, false, ◌||◌, List, [], ◌∷◌, ◌++◌, map, length, Option, Some, None}
use Rattle.std.specs.Prelude.{if◌then◌else◌, ⊤, Vec, unsigned_abs, max}
use Rattle.std.specs.Bool.{beq, Decides}
use Rattle.std.specs.List.{AllByRecursion, list_any}
use Rattle.std.specs.Option.{option_map}
use Rattle.std.specs.Str.{bytes_eq}
use Rattle.std.specs.declared.alloc.Global.{Global}
use Rattle.std.proofs.lemmas.Slice.Eq.{bytes_eq-Decides}
use Rattle.kp_kore.specs.Syntax.{Text}
use Rattle.kp_kore.specs.Hooks.{Comparison, equal, different, less, at_most, greater, at_least}
use Rattle.kp_kore.specs.HookView.{comparison_view}
use Rattle.kp_kore.specs.declared.hook.Comparison as gc
use Rattle.kp_kore.specs.Value.{Value}
use Rattle.kp_kore.proofs.SameLemmas.{values_same-Decides}
use Rattle.kp_symbolic.specs.Plain as model
use Rattle.kp_symbolic.specs.Weights.{DifferenceBound, name_in, largest, all_bounds, bounds_of}
use Rattle.kp_demands.proofs.Lists.{all_map, all_append, all_of_map}
use Rattle.kp_literals.specs.Bounds.{said_bounds, clause_bounds}
use Rattle.kp_literals.specs.Forms.{whole_part_view, token_part_view, form_view}
use Rattle.kp_literals.specs.Readings.{read_view, clauses_view}
use Rattle.kp_literals.proofs.BoundLemmas.{clause_by_clause}
use Rattle.kp_literals.specs.declared.form.LiteralForm.{LiteralForm}
use Rattle.kp_literals.specs.declared.form.LiteralForm.TheVariants.{Compares, Truth, Equates, Asks, Gives}
use Rattle.kp_literals.specs.declared.form.WholePart.{WholePart}
use Rattle.kp_literals.specs.declared.form.TokenPart.{TokenPart}
use Rattle.kp_literals.specs.declared.form.TokenPart.TheVariants.{Unknown, Known}
use Rattle.kp_literals.specs.declared.reading.ReadLiteral.{ReadLiteral}
use Rattle.kp_clause_demands.specs.Numbers.{texts, place_by, parts_same, is_written, part_if, truths_said, tokens_said, truths_in, tokens_in, all_truths, all_tokens, names_in_bounds, AreUnknownsOf}
use Rattle.kp_clause_demands.specs.declared.unknowns.Unknowns.{Unknowns}
use Rattle.kp_clause_demands.proofs.PlaceLemmas.{there, all_placed, all_flat}

-- ---- tests

pub text_itself : (x : Text) → bytes_eq x x ≡ true
text_itself x = (bytes_eq-Decides x x).1 refl

pub parts_decide : (p q : model.TokenPart) → Decides (parts_same p q) (p ≡ q)
parts_decide (model.some_token x) (model.some_token y) = (λ h. ap model.some_token ((bytes_eq-Decides x y).0 h), λ e. (bytes_eq-Decides x y).1 (inside e))
  where
    inside : {a b : Text} → model.some_token a ≡ model.some_token b → a ≡ b
    inside p = cc
parts_decide (model.one_token u) (model.one_token w) = (λ h. ap model.one_token ((values_same-Decides u w).0 h), λ e. (values_same-Decides u w).1 (inside e))
  where
    inside : {a b : Value} → model.one_token a ≡ model.one_token b → a ≡ b
    inside p = cc
parts_decide (model.some_token x) (model.one_token w) = (λ h. absurd (cc), λ e. absurd (cc))
parts_decide (model.one_token u) (model.some_token y) = (λ h. absurd (cc), λ e. absurd (cc))

pub part_itself : (p : model.TokenPart) → parts_same p p ≡ true
part_itself p = (parts_decide p p).1 refl

-- ---- bounds

abbrev pub IsNamed : List Text → Option Text → Type 0
IsNamed names (Some x) = place_by bytes_eq names x < length names
IsNamed names None = ⊤

-- the variables are among the names, and the constant has no more digits
pub record IsBounded (names : List Text) (bits : ℕ) (b : DifferenceBound) : Type 0 where
  pub first : IsNamed names b.first
  pub second : IsNamed names b.second
  pub most : unsigned_abs b.most < 2 ^ bits

abbrev Named : List Text → List Text → Type 0
Named names xs = AllByRecursion (λ x. place_by bytes_eq names x < length names) xs

listed : (names xs : List Text) → ((y : Text) → list_any (bytes_eq y) names ≡ list_any (bytes_eq y) xs) → Named names xs
listed names xs same = all_map (λ x. list_any (bytes_eq x) xs ≡ true) (λ x. place_by bytes_eq names x < length names) xs (λ x h. there bytes_eq names x (same x ∙ h)) (all_any xs)
  where
    all_any : (ys : List Text) → AllByRecursion (λ x. list_any (bytes_eq x) ys ≡ true) ys
    all_any [] = tt
    all_any (y ∷ ys) = (ap (λ b. b || list_any (bytes_eq y) ys) (text_itself y), all_map (λ x. list_any (bytes_eq x) ys ≡ true) (λ x. (bytes_eq x y || list_any (bytes_eq x) ys) ≡ true) ys (λ x h. ap (λ b. bytes_eq x y || b) h ∙ or_true (bytes_eq x y)) (all_any ys))
      where
        or_true : (b : Bool) → (b || true) ≡ true
        or_true true = refl
        or_true false = refl

named_one : (names : List Text) (o : Option Text) → Named names (name_in o) → IsNamed names o
named_one names (Some x) h = h.0
named_one names None h = tt

less_each : (a b n : ℕ) → max a b < n → (a < n) × (b < n)
less_each a b n h = (omega (arith, h), omega (arith, h))

bounded : (names : List Text) (bits : ℕ) (bs : List DifferenceBound) → Named names (names_in_bounds bs) → largest bs < 2 ^ bits → AllByRecursion (IsBounded names bits) bs
bounded names bits [] h l = tt
bounded names bits (b ∷ bs) h l =
    let p = (all_append (λ x. place_by bytes_eq names x < length names) (name_in b.first ++ name_in b.second) (names_in_bounds bs)).0 h in
    let q = (all_append (λ x. place_by bytes_eq names x < length names) (name_in b.first) (name_in b.second)).0 p.0 in
    let m = less_each (unsigned_abs b.most) (largest bs) (2 ^ bits) l in
    (record { first = named_one names b.first q.0; second = named_one names b.second q.1; most = m.0 }, bounded names bits bs p.1 m.1)

-- bounds by clauses and literals
abbrev pub IsSaidBounded : List Text → ℕ → Option LiteralForm → Type 0
IsSaidBounded names bits o = AllByRecursion (IsBounded names bits) (said_bounds (option_map form_view o))

said_each : (P : DifferenceBound → Type 0) (c : List ReadLiteral) → AllByRecursion P (clause_bounds (map read_view c)) → AllByRecursion (λ l. AllByRecursion P (said_bounds (option_map form_view l.form))) c
said_each P [] h = tt
said_each P (l ∷ c) h = let p = (all_append P (said_bounds (option_map form_view l.form)) (clause_bounds (map read_view c))).0 h in (p.0, said_each P c p.1)

all_said : (P : DifferenceBound → Type 0) (cs : List (Vec ReadLiteral Global)) → AllByRecursion P (all_bounds (clauses_view cs)) → AllByRecursion (λ c. AllByRecursion (λ l. AllByRecursion P (said_bounds (option_map form_view l.form))) c.items) cs
all_said P cs h =
    let each = all_flat P clause_bounds (clauses_view cs) (subst (AllByRecursion P) (sym (clause_by_clause (clauses_view cs))) h) in
    all_map (λ (c : Vec ReadLiteral Global). AllByRecursion P (clause_bounds (map read_view c.items))) (λ c. AllByRecursion (λ l. AllByRecursion P (said_bounds (option_map form_view l.form))) c.items) cs (λ c k. said_each P c.items k)
    ((all_of_map (λ c. AllByRecursion P (clause_bounds c)) (λ (c : Vec ReadLiteral Global). map read_view c.items) cs).0 each)

pub bounds_within : (cs : List (Vec ReadLiteral Global)) (u : Unknowns) (bits : ℕ) → AreUnknownsOf cs u → largest (all_bounds (clauses_view cs)) < 2 ^ bits → AllByRecursion (λ c. AllByRecursion (λ l. IsSaidBounded (texts u.wholes.items) bits l.form) c.items) cs
bounds_within cs u bits hu l = all_said (IsBounded (texts u.wholes.items) bits) cs (bounded (texts u.wholes.items) bits (all_bounds (clauses_view cs)) (listed (texts u.wholes.items) (names_in_bounds (all_bounds (clauses_view cs))) hu.wholes.named) l)

-- ---- truth values

abbrev pub IsTruthPlaced : Unknowns → Option LiteralForm → Type 0
IsTruthPlaced u o = AllByRecursion (λ x. place_by bytes_eq (texts u.truths.items) x < length (texts u.truths.items)) (truths_said o)

pub truths_placed : (cs : List (Vec ReadLiteral Global)) (u : Unknowns) → AreUnknownsOf cs u → AllByRecursion (λ c. AllByRecursion (λ l. IsTruthPlaced u l.form) c.items) cs
truths_placed cs u hu =
    let P = λ (x : Text). place_by bytes_eq (texts u.truths.items) x < length (texts u.truths.items) in
    let all : AllByRecursion P (all_truths cs) = subst (AllByRecursion P) hu.truths (all_placed bytes_eq text_itself (texts u.truths.items)) in
    all_map (λ (c : Vec ReadLiteral Global). AllByRecursion P (truths_in c.items)) (λ c. AllByRecursion (λ l. IsTruthPlaced u l.form) c.items) cs (λ c h. all_flat P (λ (l : ReadLiteral). truths_said l.form) c.items h) (all_flat P (λ (c : Vec ReadLiteral Global). truths_in c.items) cs all)

-- ---- tokens

-- a token that is written out stands among the first, and a variable behind them
pub record IsPartPlaced (parts : List model.TokenPart) (written : ℕ) (p : model.TokenPart) : Type 0 where
  pub placed : place_by parts_same parts p < length parts
  pub among : is_written p ≡ true → place_by parts_same parts p < written
  pub behind : is_written p ≡ false → written ≤ place_by parts_same parts p

abbrev AreWritten : Bool → List model.TokenPart → Type 0
AreWritten b ps = AllByRecursion (λ p. is_written p ≡ b) ps

beq_is : (a b : Bool) → beq a b ≡ true → a ≡ b
beq_is true true e = refl
beq_is false false e = refl
beq_is true false e = absurd (cc)
beq_is false true e = absurd (cc)

part_written : (b : Bool) (p : TokenPart) → AreWritten b (part_if b p)
part_written b p = by (beq (is_written (token_part_view p)) b) refl
  where
    by : (c : Bool) → beq (is_written (token_part_view p)) b ≡ c → AreWritten b (if c then token_part_view p ∷ [] else [])
    by true e = (beq_is (is_written (token_part_view p)) b e, tt)
    by false e = tt

said_written : (b : Bool) (o : Option LiteralForm) → AreWritten b (tokens_said b o)
said_written b None = tt
said_written b (Some (Equates c p q)) = (all_append (λ r. is_written r ≡ b) (part_if b p) (part_if b q)).1 (part_written b p, part_written b q)
said_written b (Some (Compares c m n)) = tt
said_written b (Some (Truth x c)) = tt
said_written b (Some (Asks x test c)) = tt
said_written b (Some (Gives x t)) = tt

clause_written : (b : Bool) (c : List ReadLiteral) → AreWritten b (tokens_in b c)
clause_written b [] = tt
clause_written b (l ∷ c) = (all_append (λ r. is_written r ≡ b) (tokens_said b l.form) (tokens_in b c)).1 (said_written b l.form, clause_written b c)

pub all_written : (b : Bool) (cs : List (Vec ReadLiteral Global)) → AreWritten b (all_tokens b cs)
all_written b [] = tt
all_written b (c ∷ cs) = (all_append (λ r. is_written r ≡ b) (tokens_in b c.items) (all_tokens b cs)).1 (clause_written b c.items, all_written b cs)

-- the place in a list, where it stands there, is that in a longer one
place_before : (xs ys : List model.TokenPart) (p : model.TokenPart) → place_by parts_same xs p < length xs → place_by parts_same (xs ++ ys) p ≡ place_by parts_same xs p
place_before [] ys p h = absurd (omega (arith, h))
place_before (x ∷ xs) ys p h = by (parts_same p x) h (place_before xs ys p)
  where
    by : (b : Bool) → (if b then 0 else suc (place_by parts_same xs p)) < suc (length xs) → (place_by parts_same xs p < length xs → place_by parts_same (xs ++ ys) p ≡ place_by parts_same xs p) → (if b then 0 else suc (place_by parts_same (xs ++ ys) p)) ≡ (if b then 0 else suc (place_by parts_same xs p))
    by true l on = refl
    by false l on = ap suc (on (omega (arith, l)))

differ_written : (p q : model.TokenPart) → is_written p ≡ false → is_written q ≡ true → parts_same p q ≡ false
differ_written (model.some_token x) (model.one_token u) e f = refl
differ_written (model.some_token x) (model.some_token y) e f = absurd (cc)
differ_written (model.one_token u) q e f = absurd (cc)

place_behind : (xs ys : List model.TokenPart) (p : model.TokenPart) → AreWritten true xs → is_written p ≡ false → length xs ≤ place_by parts_same (xs ++ ys) p
place_behind [] ys p w e = omega arith
place_behind (x ∷ xs) ys p w e = by (parts_same p x) (differ_written p x e w.0) (place_behind xs ys p w.1 e)
  where
    by : (b : Bool) → b ≡ false → length xs ≤ place_by parts_same (xs ++ ys) p → suc (length xs) ≤ (if b then 0 else suc (place_by parts_same (xs ++ ys) p))
    by true q on = absurd (cc)
    by false q on = omega (arith, on)

zipped : {X : Type 0} (P Q R : X → Type 0) (xs : List X) → ((x : X) → P x → Q x → R x) → AllByRecursion P xs → AllByRecursion Q xs → AllByRecursion R xs
zipped P Q R [] f h k = tt
zipped P Q R (x ∷ xs) f h k = (f x h.0 k.0, zipped P Q R xs f h.1 k.1)

true_false : {P : Type 0} {b : Bool} → b ≡ true → b ≡ false → P
true_false {P} {b} e f = absurd (never (sym e ∙ f))
  where
    never : true ≡ false → ⊥
    never p = cc

all_parts : (xs ys : List model.TokenPart) → AreWritten true xs → AreWritten false ys → AllByRecursion (IsPartPlaced (xs ++ ys) (length xs)) xs × AllByRecursion (IsPartPlaced (xs ++ ys) (length xs)) ys
all_parts xs ys w v =
    let placed = (all_append (λ p. place_by parts_same (xs ++ ys) p < length (xs ++ ys)) xs ys).0 (all_placed parts_same part_itself (xs ++ ys)) in
    let first = all_map (λ p. place_by parts_same xs p < length xs) (λ p. place_by parts_same (xs ++ ys) p < length xs) xs (λ p h. subst (λ n. n < length xs) (sym (place_before xs ys p h)) h) (all_placed parts_same part_itself xs) in (
      zipped (λ p. (place_by parts_same (xs ++ ys) p < length (xs ++ ys)) × (place_by parts_same (xs ++ ys) p < length xs)) (λ p. is_written p ≡ true) (IsPartPlaced (xs ++ ys) (length xs)) xs (λ p h e. record { placed = h.0; among = λ f. h.1; behind = λ f. true_false e f })
          (zipped (λ p. place_by parts_same (xs ++ ys) p < length (xs ++ ys)) (λ p. place_by parts_same (xs ++ ys) p < length xs) (λ p. (place_by parts_same (xs ++ ys) p < length (xs ++ ys)) × (place_by parts_same (xs ++ ys) p < length xs)) xs (λ p h k. (h, k)) placed.0 first) w,
      zipped (λ p. place_by parts_same (xs ++ ys) p < length (xs ++ ys)) (λ p. is_written p ≡ false) (IsPartPlaced (xs ++ ys) (length xs)) ys (λ p h e. record { placed = h; among = λ f. true_false f e; behind = λ f. place_behind xs ys p w f }) placed.1 v,
    )

-- what holds of both kinds of tokens holds of each side
abbrev pub OnSides : (model.TokenPart → Type 0) → Option LiteralForm → Type 0
OnSides P (Some (Equates b p q)) = P (token_part_view p) × P (token_part_view q)
OnSides P o = ⊤

on_part : (P : model.TokenPart → Type 0) (p : TokenPart) → AllByRecursion P (part_if true p) → AllByRecursion P (part_if false p) → P (token_part_view p)
on_part P (Known u) h k = h.0
on_part P (Unknown x) h k = k.0

on_said : (P : model.TokenPart → Type 0) (o : Option LiteralForm) → AllByRecursion P (tokens_said true o) → AllByRecursion P (tokens_said false o) → OnSides P o
on_said P None h k = tt
on_said P (Some (Equates b p q)) h k = let i = (all_append P (part_if true p) (part_if true q)).0 h in let j = (all_append P (part_if false p) (part_if false q)).0 k in (on_part P p i.0 j.0, on_part P q i.1 j.1)
on_said P (Some (Compares c m n)) h k = tt
on_said P (Some (Truth x b)) h k = tt
on_said P (Some (Asks x test b)) h k = tt
on_said P (Some (Gives x t)) h k = tt

on_clause : (P : model.TokenPart → Type 0) (c : List ReadLiteral) → AllByRecursion P (tokens_in true c) → AllByRecursion P (tokens_in false c) → AllByRecursion (λ l. OnSides P l.form) c
on_clause P [] h k = tt
on_clause P (l ∷ c) h k = let i = (all_append P (tokens_said true l.form) (tokens_in true c)).0 h in let j = (all_append P (tokens_said false l.form) (tokens_in false c)).0 k in (on_said P l.form i.0 j.0, on_clause P c i.1 j.1)

pub on_all : (P : model.TokenPart → Type 0) (cs : List (Vec ReadLiteral Global)) → AllByRecursion P (all_tokens true cs) → AllByRecursion P (all_tokens false cs) → AllByRecursion (λ c. AllByRecursion (λ l. OnSides P l.form) c.items) cs
on_all P [] h k = tt
on_all P (c ∷ cs) h k = let i = (all_append P (tokens_in true c.items) (all_tokens true cs)).0 h in let j = (all_append P (tokens_in false c.items) (all_tokens false cs)).0 k in (on_clause P c.items i.0 j.0, on_all P cs i.1 j.1)

pub tokens_placed : (cs : List (Vec ReadLiteral Global)) (u : Unknowns) → AreUnknownsOf cs u → AllByRecursion (λ c. AllByRecursion (λ l. OnSides (IsPartPlaced (map token_part_view u.tokens.items) u.written) l.form) c.items) cs
tokens_placed cs u hu =
    let p = all_parts (all_tokens true cs) (all_tokens false cs) (all_written true cs) (all_written false cs) in
    subst (λ ps. AllByRecursion (λ c. AllByRecursion (λ l. OnSides (IsPartPlaced ps u.written) l.form) c.items) cs) (sym hu.tokens)
    (subst (λ n. AllByRecursion (λ c. AllByRecursion (λ l. OnSides (IsPartPlaced (all_tokens true cs ++ all_tokens false cs) n) l.form) c.items) cs) (sym hu.written)
    (on_all (IsPartPlaced (all_tokens true cs ++ all_tokens false cs) (length (all_tokens true cs))) cs p.0 p.1))

-- ---- all kinds

-- the unknowns of what a literal says have places, and its bounds have no more digits
pub record IsSaidPlaced (u : Unknowns) (bits : ℕ) (o : Option LiteralForm) : Type 0 where
  pub bounds : IsSaidBounded (texts u.wholes.items) bits o
  pub truths : IsTruthPlaced u o
  pub tokens : OnSides (IsPartPlaced (map token_part_view u.tokens.items) u.written) o

abbrev pub AreSaidPlaced : Unknowns → ℕ → List (Vec ReadLiteral Global) → Type 0
AreSaidPlaced u bits cs = AllByRecursion (λ c. AllByRecursion (λ l. IsSaidPlaced u bits l.form) c.items) cs

pub all_placed_said : (cs : List (Vec ReadLiteral Global)) (u : Unknowns) (bits : ℕ) → AreUnknownsOf cs u → largest (all_bounds (clauses_view cs)) < 2 ^ bits → AreSaidPlaced u bits cs
all_placed_said cs u bits hu l = every cs (bounds_within cs u bits hu l) (truths_placed cs u hu) (tokens_placed cs u hu)
  where
    each : (c : List ReadLiteral) → AllByRecursion (λ l. IsSaidBounded (texts u.wholes.items) bits l.form) c → AllByRecursion (λ l. IsTruthPlaced u l.form) c → AllByRecursion (λ l. OnSides (IsPartPlaced (map token_part_view u.tokens.items) u.written) l.form) c → AllByRecursion (λ l. IsSaidPlaced u bits l.form) c
    each [] h k m = tt
    each (l ∷ c) h k m = (record { bounds = h.0; truths = k.0; tokens = m.0 }, each c h.1 k.1 m.1)

    every : (ds : List (Vec ReadLiteral Global)) → AllByRecursion (λ c. AllByRecursion (λ l. IsSaidBounded (texts u.wholes.items) bits l.form) c.items) ds → AllByRecursion (λ c. AllByRecursion (λ l. IsTruthPlaced u l.form) c.items) ds →
        AllByRecursion (λ c. AllByRecursion (λ l. OnSides (IsPartPlaced (map token_part_view u.tokens.items) u.written) l.form) c.items) ds → AreSaidPlaced u bits ds
    every [] h k m = tt
    every (c ∷ ds) h k m = (each c.items h.0 k.0 m.0, every ds h.1 k.1 m.1)

-- both sides of a comparison have their names, whichever way it goes
both_named : (names : List Text) (bits : ℕ) (c : Comparison) (m n : model.WholePart) → AllByRecursion (IsBounded names bits) (bounds_of (model.compares c m n)) → IsNamed names m.variable × IsNamed names n.variable
both_named names bits at_most m n h = (h.0.first, h.0.second)
both_named names bits less m n h = (h.0.first, h.0.second)
both_named names bits at_least m n h = (h.0.second, h.0.first)
both_named names bits greater m n h = (h.0.second, h.0.first)
both_named names bits equal m n h = (h.0.first, h.0.second)
both_named names bits different m n h = (h.0.first, h.0.second)

pub placed_names : (u : Unknowns) (bits : ℕ) (c : gc.Comparison) (m n : WholePart) → IsSaidPlaced u bits (Some (Compares c m n)) → IsNamed (texts u.wholes.items) (whole_part_view m).variable × IsNamed (texts u.wholes.items) (whole_part_view n).variable
placed_names u bits c m n h = both_named (texts u.wholes.items) bits (comparison_view c) (whole_part_view m) (whole_part_view n) h.bounds
