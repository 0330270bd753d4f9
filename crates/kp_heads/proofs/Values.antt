-- Steps lead from values to values, and each value's sort is reached by steps.
use Rattle.std.proofs.Common.{◌≡◌, refl, sym, ap, subst, ◌∙◌, ℕ, zero, suc, ◌<◌, ◌⊎◌, inl, inr, Bool, true, false, ◌||◌, cond, Option, Some, None, List, [], ◌∷◌, map, get_or, Contains, arith, pos}
use Rattle.std.specs.List.{find, flat_map}
use Rattle.std.specs.Option.{option_and_then}
use Rattle.std.specs.Str.{bytes_eq}
use Rattle.std.proofs.lemmas.List.Elements.{Contains-append_left, Contains-append_right, Contains-append_cases}
use Rattle.std.proofs.lemmas.Slice.Eq.{bytes_eq-Decides}
use Rattle.kp_kore.specs.Syntax.{Text, KoreSort, KoreSorts, no_sorts, next_sort, SymbolDeclaration}
use Rattle.kp_kore.specs.Parts.{sort_list}
use Rattle.kp_kore.specs.Signature.{KoreSignature, IsBelow, itself, through, Head, integers, booleans, tokens, constructor_of, IsHeadOf, integer_sort, boolean_sort, is_the, is_integer_sort, is_boolean_sort, is_token_sort, has_literals, symbol_declared, symbol_meaning, construction, is_constructor}
use Rattle.kp_kore.specs.Value.{Value, whole, truth, token, constructed, Values, no_values, next_value, HasSort, HaveSorts, head_of}
use Rattle.kp_kore.proofs.SameLemmas.{sorts_equal-Decides}
use Rattle.kp_signature.proofs.Below.{onwards}
use Rattle.kp_heads.specs.Heads.{HasValue}
use Rattle.kp_signature.proofs.MeaningLemmas.{constructor_constructs, makes_what_it_means}
use Rattle.kp_heads.specs.Steps.{if_making, constructor_declared, Step, pair_step, constructor_step, constructor_steps, symbol_steps, steps_of}

-- ---- lists

pub nothing_in : {A : Type 0} (x : A) → Contains [] x → ⊥
nothing_in x h = no h.0 h.1
  where
    no : (k : ℕ) → k < 0 → ⊥
    no k h = omega arith

pub first_in : {A : Type 0} (x : A) (xs : List A) → Contains (x ∷ xs) x
first_in x xs = (zero, omega arith, refl)

pub later_in : {A : Type 0} (x y : A) (xs : List A) → Contains xs y → Contains (x ∷ xs) y
later_in x y xs h = Contains-append_right (x ∷ []) xs y h

pub in_cases : {A : Type 0} (x y : A) (xs : List A) → Contains (x ∷ xs) y → (x ≡ y) ⊎ Contains xs y
in_cases x y xs h = elim (Contains-append_cases (x ∷ []) xs y h) [
  | inl one ↦ one_case one.0 one.1 one.2
  | inr more ↦ inr more
]
  where
    one_case : (k : ℕ) → k < 1 → get_or (x ∷ []) k y ≡ y → (x ≡ y) ⊎ Contains xs y
    one_case zero l e = inl e
    one_case (suc k) l e = absurd (no k l)
      where
        no : (k : ℕ) → suc k < 1 → ⊥
        no k h = omega arith

in_flat : {A B : Type 0} (f : A → List B) (xs : List A) (x : A) (y : B) → Contains xs x → Contains (f x) y → Contains (flat_map f xs) y
in_flat f [] x y h k = absurd (nothing_in x h)
in_flat f (z ∷ xs) x y h k = elim (in_cases z x xs h) [
  | inl same ↦ Contains-append_left (f z) (flat_map f xs) y (subst (λ v. Contains (f v) y) (sym same) k)
  | inr more ↦ Contains-append_right (f z) (flat_map f xs) y (in_flat f xs x y more k)
]

from_flat : {A B : Type 0} (f : A → List B) (xs : List A) (y : B) → Contains (flat_map f xs) y → (x : A) × Contains xs x × Contains (f x) y
from_flat f [] y h = absurd (nothing_in y h)
from_flat f (z ∷ xs) y h = elim (Contains-append_cases (f z) (flat_map f xs) y h) [
  | inl here ↦ (z, first_in z xs, here)
  | inr more ↦ let r = from_flat f xs y more in (r.0, later_in z r.0 xs r.1, r.2)
]

pub in_map : {A B : Type 0} (f : A → B) (xs : List A) (x : A) → Contains xs x → Contains (map f xs) (f x)
in_map f [] x h = absurd (nothing_in x h)
in_map f (z ∷ xs) x h = elim (in_cases z x xs h) [
  | inl same ↦ subst (λ v. Contains (f z ∷ map f xs) (f v)) same (first_in (f z) (map f xs))
  | inr more ↦ later_in (f z) (f x) (map f xs) (in_map f xs x more)
]

from_map : {A B : Type 0} (f : A → B) (xs : List A) (y : B) → Contains (map f xs) y → (x : A) × Contains xs x × (f x ≡ y)
from_map f [] y h = absurd (nothing_in y h)
from_map f (z ∷ xs) y h = elim (in_cases (f z) y (map f xs) h) [
  | inl same ↦ (z, first_in z xs, same)
  | inr more ↦ let r = from_map f xs y more in (r.0, later_in z r.0 xs r.1, r.2)
]

inside : {A : Type 0} (x y : A) → Some x ≡ Some y → x ≡ y
inside x y e = cc

-- ---- literals

is_sort : (o : Option KoreSort) (a : KoreSort) → o ≡ Some a → is_the o a ≡ true
is_sort (Some s) a e = (sorts_equal-Decides s a).1 (inside s a e)
is_sort None a e = absurd (cc)

the_sort : (o : Option KoreSort) (a : KoreSort) → is_the o a ≡ true → o ≡ Some a
the_sort (Some s) a h = ap Some ((sorts_equal-Decides s a).0 h)
the_sort None a h = absurd (cc)

first_of_three : (a b c : Bool) → a ≡ true → (a || b || c) ≡ true
first_of_three true b c h = refl
first_of_three false b c h = absurd (cc)

second_of_three : (a b c : Bool) → b ≡ true → (a || b || c) ≡ true
second_of_three true b c h = refl
second_of_three false true c h = refl
second_of_three false false c h = absurd (cc)

third_of_three : (a b c : Bool) → c ≡ true → (a || b || c) ≡ true
third_of_three true b c h = refl
third_of_three false true c h = refl
third_of_three false false c h = h

one_of_three : (a b c : Bool) → (a || b || c) ≡ true → (a ≡ true) ⊎ ((b ≡ true) ⊎ (c ≡ true))
one_of_three true b c h = inl refl
one_of_three false true c h = inr (inl refl)
one_of_three false false c h = inr (inr h)

-- ---- constructors

module _ (g : KoreSignature) where
  -- ---- values

  -- a value that has a sort has each sort above
  head_up : (a b : KoreSort) (h : Head) → IsBelow g.subsorts a b → IsHeadOf g a h → IsHeadOf g b h
  head_up a b h below o = (o.0, o.1, onwards g.subsorts o.0 a b o.2 below)

  value_up : (a b : KoreSort) (u : Value) → IsBelow g.subsorts a b → HasSort g a u → HasSort g b u
  value_up a b (whole n) below h = head_up a b integers below h
  value_up a b (truth t) below h = head_up a b booleans below h
  value_up a b (token s x) below h = head_up a b (tokens s) below h
  value_up a b (constructed c us) below h = (head_up a b (constructor_of c) below h.0, h.1, h.2, h.3)

  pub literal_has : (a : KoreSort) → has_literals g a ≡ true → HasValue g a
  literal_has a h = elim (one_of_three (is_integer_sort g a) (is_boolean_sort g a) (is_token_sort g a) h) [
    | inl e ↦ (whole (pos 0), (a, the_sort (integer_sort g) a e, itself a))
    | inr k ↦ elim k [
      | inl e ↦ (truth true, (a, the_sort (boolean_sort g) a e, itself a))
      | inr e ↦ (token a [], (a, (refl, e), itself a))
    ]
  ]

  have_all : (ss : KoreSorts) → ((a : KoreSort) → Contains (sort_list ss) a → HasValue g a) → (us : Values) × HaveSorts g ss us
  have_all no_sorts h = (no_values, tt)
  have_all (next_sort s ss) h =
      let u = h s (first_in s (sort_list ss)) in
      let us = have_all ss (λ a k. h a (later_in s a (sort_list ss) k)) in
      (next_value u.0 us.0, (u.1, us.1))

  each_has : (ss : KoreSorts) (us : Values) → HaveSorts g ss us → (a : KoreSort) → Contains (sort_list ss) a → HasValue g a
  each_has no_sorts us h a k = absurd (nothing_in a k)
  each_has (next_sort s ss) no_values h a k = absurd h
  each_has (next_sort s ss) (next_value u us) h a k = elim (in_cases s a (sort_list ss) k) [
    | inl same ↦ subst (HasValue g) same (u, h.0)
    | inr more ↦ each_has ss us h.1 a more
  ]

  -- ---- constructors that are declared

  if_made : (d e : SymbolDeclaration) (b : Bool) → cond b (Some d) None ≡ Some e → (b ≡ true) × (d ≡ e)
  if_made d e true h = (refl, inside d e h)
  if_made d e false h = absurd (cc)

  declared_by : (o : Option SymbolDeclaration) (d : SymbolDeclaration) → option_and_then if_making o ≡ Some d → (o ≡ Some d) × (is_constructor d ≡ true)
  declared_by (Some e) d h = let k = if_made e d (is_constructor e) h in (ap Some k.1, subst (λ (v : SymbolDeclaration). is_constructor v ≡ true) k.1 k.0)
  declared_by None d h = absurd (cc)

  pub declared_so : (c : Text) (d : SymbolDeclaration) → constructor_declared g c ≡ Some d → (symbol_declared g c ≡ Some d) × (symbol_meaning g d ≡ construction)
  declared_so c d h = let k = declared_by (symbol_declared g c) d h in (k.0, constructor_constructs g d k.1)

  pub so_declared : (c : Text) (d : SymbolDeclaration) → symbol_declared g c ≡ Some d → symbol_meaning g d ≡ construction → constructor_declared g c ≡ Some d
  so_declared c d e m = ap (option_and_then if_making) e ∙ ap (λ b. cond b (Some d) None) (makes_what_it_means g d m)

  -- a constructor heads a value where each of its arguments' sorts has one
  pub constructor_has : (c : Text) (d : SymbolDeclaration) → constructor_declared g c ≡ Some d → ((a : KoreSort) → Contains (sort_list d.arguments) a → HasValue g a) → (us : Values) × HasSort g d.result (constructed c us)
  constructor_has c d e h =
      let k = declared_so c d e in
      let us = have_all d.arguments h in
      (us.0, ((d.result, (d, k.0, k.1, refl), itself d.result), d.arguments, (d, k.0, refl), us.1))

  -- and only there
  pub arguments_have : (c : Text) (d : SymbolDeclaration) (s : KoreSort) (us : Values) → symbol_declared g c ≡ Some d → HasSort g s (constructed c us) → (a : KoreSort) → Contains (sort_list d.arguments) a → HasValue g a
  arguments_have c d s us e h a k =
      let same : h.2.0 ≡ d = inside h.2.0 d (sym h.2.1 ∙ e) in
      each_has h.1 us h.3 a (subst (λ ss. Contains (sort_list ss) a) (sym (ap (λ (v : SymbolDeclaration). v.arguments) same) ∙ h.2.2) k)

  -- ---- steps

  pub step_has : (step : Step) → Contains (steps_of g) step → ((a : KoreSort) → Contains step.from a → HasValue g a) → HasValue g step.to
  step_has step h all = elim (Contains-append_cases (map pair_step g.subsorts) (flat_map (symbol_steps g) g.symbols) step h) [
    | inl p ↦ let r = from_map pair_step g.subsorts step p in by_pair r.0 step r.2 r.1 all
    | inr q ↦ let r = from_flat (symbol_steps g) g.symbols step q in by_symbol r.0.name (constructor_declared g r.0.name) refl step r.2 all
  ]
    where
      by_pair : (p : KoreSort × KoreSort) (step : Step) → pair_step p ≡ step → Contains g.subsorts p → ((a : KoreSort) → Contains step.from a → HasValue g a) → HasValue g step.to
      by_pair p step e h all =
          let u = subst (λ (s : Step). ((a : KoreSort) → Contains s.from a → HasValue g a) → HasValue g p.0) e (λ k. k p.0 (first_in p.0 [])) all in
          subst (λ (s : Step). HasValue g s.to) e (u.0, value_up p.0 p.1 u.0 (through p.0 p.1 p.1 h (itself p.1)) u.1)

      by_symbol : (c : Text) (o : Option SymbolDeclaration) → constructor_declared g c ≡ o → (step : Step) → Contains (constructor_steps o) step → ((a : KoreSort) → Contains step.from a → HasValue g a) → HasValue g step.to
      by_symbol c None e step h all = absurd (nothing_in step h)
      by_symbol c (Some d) e step h all = elim (in_cases (constructor_step d) step [] h) [
        | inr more ↦ absurd (nothing_in step more)
        | inl same ↦
            let r = constructor_has c d e (subst (λ (s : Step). (a : KoreSort) → Contains s.from a → HasValue g a) (sym same) all) in
            subst (λ (s : Step). HasValue g s.to) same (constructed c r.0, r.1)
      ]

  -- a declaration that is found is among them, under its name
  found : (c : Text) (ds : List SymbolDeclaration) (d : SymbolDeclaration) → find (λ e. bytes_eq e.name c) ds ≡ Some d → Contains ds d × (d.name ≡ c)
  found c [] d h = absurd (cc)
  found c (e ∷ ds) d h = by (bytes_eq e.name c) refl h (λ k. found c ds d k)
    where
      by : (b : Bool) → bytes_eq e.name c ≡ b → cond b (Some e) (find (λ f. bytes_eq f.name c) ds) ≡ Some d → (find (λ f. bytes_eq f.name c) ds ≡ Some d → Contains ds d × (d.name ≡ c)) → Contains (e ∷ ds) d × (d.name ≡ c)
      by true q k more = ((zero, omega arith, inside e d k), ap (λ (v : SymbolDeclaration). v.name) (sym (inside e d k)) ∙ (bytes_eq-Decides e.name c).0 q)
      by false q k more = let r = more k in (later_in e d ds r.0, r.1)

  constructor_among : (c : Text) (d : SymbolDeclaration) → constructor_declared g c ≡ Some d → Contains (steps_of g) (constructor_step d)
  constructor_among c d e =
      let f = found c g.symbols d (declared_so c d e).0 in
      Contains-append_right (map pair_step g.subsorts) (flat_map (symbol_steps g) g.symbols) (constructor_step d)
      (in_flat (symbol_steps g) g.symbols d (constructor_step d) f.0
      (subst (λ o. Contains (constructor_steps o) (constructor_step d)) (sym (ap (constructor_declared g) f.1 ∙ e)) (first_in (constructor_step d) [])))

  pair_among : (a b : KoreSort) → Contains g.subsorts (a, b) → Contains (steps_of g) (pair_step (a, b))
  pair_among a b h = Contains-append_left (map pair_step g.subsorts) (flat_map (symbol_steps g) g.symbols) (pair_step (a, b)) (in_map pair_step g.subsorts (a, b) h)

  -- what holds of sorts with literals and goes through steps holds of each sort that has a value
  module _ (P : KoreSort → Type 0) (literal : (a : KoreSort) → has_literals g a ≡ true → P a)
      (stepped : (step : Step) → Contains (steps_of g) step → ((a : KoreSort) → Contains step.from a → P a) → P step.to) where
    up : (a b : KoreSort) → IsBelow g.subsorts a b → P a → P b
    up a _ (itself _) h = h
    up a b (through _ c _ pair more) h = up c b more (stepped (pair_step (a, c)) (pair_among a c pair) (λ x k. elim (in_cases a x [] k) [ inl same ↦ subst P same h | inr none ↦ absurd (nothing_in x none) ]))

    mutual
      pub by_value : (u : Value) (s : KoreSort) → HasSort g s u → P s
      by_value (whole n) s h = up h.0 s h.2 (literal h.0 (first_of_three (is_integer_sort g h.0) (is_boolean_sort g h.0) (is_token_sort g h.0) (is_sort (integer_sort g) h.0 h.1)))
      by_value (truth t) s h = up h.0 s h.2 (literal h.0 (second_of_three (is_integer_sort g h.0) (is_boolean_sort g h.0) (is_token_sort g h.0) (is_sort (boolean_sort g) h.0 h.1)))
      by_value (token t x) s h = up h.0 s h.2 (literal h.0 (third_of_three (is_integer_sort g h.0) (is_boolean_sort g h.0) (is_token_sort g h.0) h.1.1))
      by_value (constructed c us) s h =
          let own = h.0.1 in
          let d = own.0 in
          let same : h.2.0 ≡ d = inside h.2.0 d (sym h.2.1 ∙ own.1) in
          let arguments : d.arguments ≡ h.1 = sym (ap (λ (v : SymbolDeclaration). v.arguments) same) ∙ h.2.2 in
          up h.0.0 s h.0.2 (subst P own.3 (stepped (constructor_step d) (constructor_among c d (so_declared c d own.1 own.2))
          (λ a k. by_values us h.1 h.3 a (subst (λ ss. Contains (sort_list ss) a) arguments k))))

      by_values : (us : Values) (ss : KoreSorts) → HaveSorts g ss us → (a : KoreSort) → Contains (sort_list ss) a → P a
      by_values us no_sorts h a k = absurd (nothing_in a k)
      by_values no_values (next_sort s ss) h a k = absurd h
      by_values (next_value u us) (next_sort s ss) h a k = elim (in_cases s a (sort_list ss) k) [
        | inl same ↦ subst P same (by_value u s h.0)
        | inr more ↦ by_values us ss h.1 a more
      ]

  -- a head that is live is of a declared constructor, each of whose arguments' sorts has a value
  pub live_arguments : (c : Text) (d : SymbolDeclaration) → symbol_declared g c ≡ Some d → (u : Value) (s : KoreSort) → HasSort g s u → head_of u ≡ constructor_of c → (a : KoreSort) → Contains (sort_list d.arguments) a → HasValue g a
  live_arguments c d e (whole n) s h is a k = absurd (cc)
  live_arguments c d e (truth t) s h is a k = absurd (cc)
  live_arguments c d e (token t x) s h is a k = absurd (cc)
  live_arguments c d e (constructed f us) s h is a k = arguments_have f d s us (ap (symbol_declared g) (same is) ∙ e) h a k
    where
      same : constructor_of f ≡ constructor_of c → f ≡ c
      same q = cc

  pub live_declared : (c : Text) (u : Value) (s : KoreSort) → HasSort g s u → head_of u ≡ constructor_of c → constructor_declared g c ≡ None → ⊥
  live_declared c (whole n) s h is none = absurd (cc)
  live_declared c (truth t) s h is none = absurd (cc)
  live_declared c (token t x) s h is none = absurd (cc)
  live_declared c (constructed f us) s h is none = differ h.0.1.0 (sym (so_declared f h.0.1.0 h.0.1.1 h.0.1.2) ∙ ap (constructor_declared g) (same is) ∙ none)
    where
      same : constructor_of f ≡ constructor_of c → f ≡ c
      same q = cc

      differ : (d : SymbolDeclaration) → ◌≡◌ {A = Option SymbolDeclaration} (Some d) None → ⊥
      differ d q = cc
