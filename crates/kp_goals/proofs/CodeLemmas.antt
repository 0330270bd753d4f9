-- What the code finds, in the words of the definitions.
use Rattle.std.specs.Prelude.{◌≡◌, ℕ, ◌≤◌, Bool, true, false, not, ◌&&◌, ◌||◌, is_some, List, [], ◌∷◌, ◌++◌, map, take, length, Option, Some, None, if◌then◌else◌}
use Rattle.std.specs.List.{AllByRecursion, Contains, list_any}
use Rattle.std.proofs.Common.{refl, sym, ◌∙◌, ap, subst}
use Rattle.std.proofs.lemmas.List.{append_assoc, take_all}
use Rattle.std.proofs.lemmas.List.Elements.{Contains-append_left, Contains-append_right, Contains-push}
use Rattle.std.specs.Str.{bytes_eq}
use Rattle.std.proofs.lemmas.Slice.Eq.{bytes_eq-Decides}
use Rattle.kp_kore.specs.Syntax.{Text}
use Rattle.kp_kore.proofs.NameLemmas.{first_false, second_false}
use Rattle.kp_kore.specs.Parts.{SortedName}
use Rattle.kp_kore.specs.Signature.{KoreSignature}
use Rattle.kp_kore.specs.Instance.{is_named}
use Rattle.kp_symbolic.specs.Solving.{Equation, first_equation}
use Rattle.kp_symbolic.specs.States.{Literal, SymbolicState}
use Rattle.kp_symbolic.specs.Terms.{SymbolicTerm, term_variables, Replaced, replacement_for}
use Rattle.kp_symbolic.specs.WellFormed.{term_sort, is_sort_below}
use Rattle.kp_symbolic.specs.Writing.{is_solved_by}
use Rattle.kp_symbolic.specs.View.{literal_view}
use Rattle.kp_symbolic.specs.declared.clause.Literal.{Literal as Written}
use Rattle.kp_literals.specs.Readings.{read_view}
use Rattle.kp_literals.specs.declared.reading.ReadLiteral.{ReadLiteral}
use Rattle.kp_rules.specs.Skeletons.{Form, Forms, forms_of, skeleton_view}
use Rattle.kp_rules.specs.declared.skeleton.Skeleton.{Skeleton}
use Rattle.kp_symbolic.specs.Clauses.{distributed, is_too_large}
use Rattle.kp_formulas.specs.Distribution.{Distribution, distribution_of}
use Rattle.kp_clause_substitution.specs.Replacing.{clause_under}
use Rattle.kp_unify.proofs.OpenedLemmas.{kept}
use Rattle.kp_case_laws.specs.Parts.{StatePart, whole}
use Rattle.kp_goals.specs.Consequents.{Consequent}
use Rattle.kp_goals.specs.Gives.{has_bound, Given, given_by, given_in, if_new, match_clauses, solved_by}
use Rattle.kp_goals.specs.Goals.{put_in_clause, goals_of, IsGiven, nothing, by_match, by_goal}
use Rattle.kp_goals.specs.Loosened.{loosened, all_loosened}
use Rattle.kp_goals.proofs.Names.{either_way}
use Rattle.kp_goals.specs.View.{one_put, put_of, new_put, with_given, with_clause, with_clauses, first_put, first_given, IsGivenIn, IsAskedOf}

pub each_loosened : (ks : List Skeleton) → forms_of (map (λ k. loosened (skeleton_view k)) ks) ≡ all_loosened (forms_of (map skeleton_view ks))
each_loosened [] = refl
each_loosened (k ∷ ks) = ap (λ fs. Rattle.kp_rules.specs.Skeletons.next_form (loosened (skeleton_view k)) fs) (each_loosened ks)

pub loosened_made : (made ks : List Skeleton) (i : ℕ) → length ks ≤ i → map skeleton_view made ≡ map (λ k. loosened (skeleton_view k)) (take i ks) → forms_of (map skeleton_view made) ≡ all_loosened (forms_of (map skeleton_view ks))
loosened_made made ks i past e = ap forms_of (e ∙ ap (map (λ k. loosened (skeleton_view k))) (take_all i ks past)) ∙ each_loosened ks

-- ---- lists put together

pub map_both : {X Y : Type 0} (f : X → Y) (xs ys : List X) → map f (xs ++ ys) ≡ map f xs ++ map f ys
map_both f [] ys = refl
map_both f (x ∷ xs) ys = ap (λ zs. f x ∷ zs) (map_both f xs ys)

pub map_one : {X Y : Type 0} (f : X → Y) (all xs : List X) (x : X) (y : Y) → all ≡ xs ++ x ∷ [] → f x ≡ y → map f all ≡ map f xs ++ y ∷ []
map_one f all xs x y e h = ap (map f) e ∙ map_both f xs (x ∷ []) ∙ ap (λ z. map f xs ++ z ∷ []) h

-- ---- clauses with terms in their variables' places

opened_few : (b : Bool) → true ≡ not b → b ≡ false
opened_few true e = absurd (cc)
opened_few false e = refl

opened_full : (b : Bool) → false ≡ not b → b ≡ true
opened_full true e = refl
opened_full false e = absurd (cc)

pub opened_put : (g : KoreSignature) (put : List Replaced) (c : List Literal) (d : Distribution) → d ≡ distribution_of (clause_under g put c) → true ≡ not (is_too_large 0 (clause_under g put c)) → d.clauses ≡ put_in_clause g put c
opened_put g put c d is room = kept d (clause_under g put c) is room ∙ sym (ap (λ b. if b then c ∷ [] else distributed (clause_under g put c)) (opened_few (is_too_large 0 (clause_under g put c)) room))

pub unopened_put : (g : KoreSignature) (put : List Replaced) (c : List Literal) → false ≡ not (is_too_large 0 (clause_under g put c)) → c ∷ [] ≡ put_in_clause g put c
unopened_put g put c full = sym (ap (λ b. if b then c ∷ [] else distributed (clause_under g put c)) (opened_full (is_too_large 0 (clause_under g put c)) full))

-- ---- bound variables

named_apart : (ts bound : List SortedName) (y : Text) → is_named y bound ≡ true → list_any (λ x. is_named x.name ts) bound ≡ false → is_named y ts ≡ false
named_apart ts [] y n a = absurd (cc)
named_apart ts (x ∷ xs) y n a = by (bytes_eq x.name y) refl n (λ m. named_apart ts xs y m (second_false (is_named x.name ts) (list_any (λ z. is_named z.name ts) xs) a))
  where
    by : (b : Bool) → bytes_eq x.name y ≡ b → b || is_named y xs ≡ true → (is_named y xs ≡ true → is_named y ts ≡ false) → is_named y ts ≡ false
    by true i m later = subst (λ z. is_named z ts ≡ false) ((bytes_eq-Decides x.name y).0 i) (first_false (is_named x.name ts) (list_any (λ z. is_named z.name ts) xs) a)
    by false i m later = later m

pub bound_solved : (g : KoreSignature) (bound : List SortedName) (x : SortedName) (t : SymbolicTerm) → is_named x.name bound ≡ true → has_bound bound t ≡ false → is_solved_by g x t ≡ is_named x.name bound && (not (has_bound bound t) && is_sort_below g (term_sort g t) x.sort)
bound_solved g bound x t named none =
    let apart : is_named x.name (term_variables t) ≡ false = named_apart (term_variables t) bound x.name named (either_way bound (term_variables t) ∙ none) in
    rw (apart, named, none) refl

-- ---- clauses of another number of literals

pub not_alone_by : (g : KoreSignature) (bound : List SortedName) (ls : List Written) → (length ls ≡ 1 → ⊥) → None ≡ put_of (given_by g bound (map literal_view ls))
not_alone_by g bound [] n = refl
not_alone_by g bound (l ∷ []) n = absurd (n refl)
not_alone_by g bound (l ∷ m ∷ ls) n = refl

pub not_alone_in : (g : KoreSignature) (bound : List SortedName) (ls : List Written) → (length ls ≡ 1 → ⊥) → None ≡ put_of (given_in g bound (map literal_view ls))
not_alone_in g bound [] n = refl
not_alone_in g bound (l ∷ []) n = absurd (n refl)
not_alone_in g bound (l ∷ m ∷ ls) n = refl

pub not_alone_solved : (ls : List ReadLiteral) → (length ls ≡ 1 → ⊥) → [] ≡ solved_by (map read_view ls)
not_alone_solved [] n = refl
not_alone_solved (l ∷ []) n = absurd (n refl)
not_alone_solved (l ∷ m ∷ ls) n = refl

-- ---- the first of two equations

pub first_some : (r : Replaced) (a b : Option Equation) → Some r ≡ put_of a → Some r ≡ put_of (first_equation a b)
first_some r (Some e) b h = h
first_some r None b h = absurd (cc)

pub first_none : (o : Option Replaced) (a b : Option Equation) → None ≡ put_of a → o ≡ put_of b → o ≡ put_of (first_equation a b)
first_none o (Some e) b h k = absurd (cc)
first_none o None b h k = k

-- ---- what is new

pub new_put_is : (told : List SortedName) (put : List Replaced) (o : Option Equation) → new_put told put (put_of o) ≡ put_of (if_new told put o)
new_put_is told put (Some e) = by (not (is_some (replacement_for put e.variable.name)) && is_named e.variable.name told)
  where
    by : (b : Bool) → (if b then Some (one_put e) else None) ≡ put_of (if b then Some e else None)
    by true = refl
    by false = refl
new_put_is told put None = refl

-- ---- what clauses give

none_put : (o : Option Equation) → None ≡ put_of o → o ≡ None
none_put (Some e) h = absurd (cc)
none_put None h = refl

pub left_clause : (g : KoreSignature) (bound told : List SortedName) (o : Given) (c : List Literal) → None ≡ put_of (if_new told o.put (given_by g bound c)) → record { rest = o.rest ++ c ∷ []; put = o.put } ≡ with_clause g bound told o c
left_clause g bound told o c h = ap (with_given o c) (sym (none_put (if_new told o.put (given_by g bound c)) h))

-- r is what the equation puts
record IsPutOf (o : Option Equation) (r : Replaced) : Type 0 where
  equation : Equation
  is : o ≡ Some equation
  put : r ≡ one_put equation

some_put : (o : Option Equation) (r : Replaced) → Some r ≡ put_of o → IsPutOf o r
some_put (Some e) r h = record { equation = e; is = refl; put = inside h }
  where
    inside : Some r ≡ Some (one_put e) → r ≡ one_put e
    inside e = cc
some_put None r h = absurd (cc)

module _ (g : KoreSignature) (k : Consequent) (told : List SortedName) (p : StatePart) where
  with_clause_given : (o : Given) (c : List Literal) (later : List (List Literal)) → IsGiven g k told p (record { rest = o.rest ++ c ∷ later; put = o.put }) →
      IsGiven g k told p (record { rest = (with_clause g k.bound told o c).rest ++ later; put = (with_clause g k.bound told o c).put })
  with_clause_given o c later h = by (if_new told o.put (given_by g k.bound c)) refl
    where
      by : (e : Option Equation) → if_new told o.put (given_by g k.bound c) ≡ e → IsGiven g k told p (record { rest = (with_given o c e).rest ++ later; put = (with_given o c e).put })
      by (Some e) i = by_match o.rest later c o.put e h i
      by None i = subst (λ cs. IsGiven g k told p (record { rest = cs; put = o.put })) (sym (append_assoc o.rest (c ∷ []) later)) h

  with_clauses_given : (o : Given) (cs : List (List Literal)) → IsGiven g k told p (record { rest = o.rest ++ cs; put = o.put }) → IsGiven g k told p (with_clauses g k.bound told o cs)
  with_clauses_given o [] h = subst (λ cs. IsGiven g k told p (record { rest = cs; put = o.put })) (append_none o.rest) h
    where
      append_none : (xs : List (List Literal)) → xs ++ [] ≡ xs
      append_none [] = refl
      append_none (x ∷ xs) = ap (λ ys. x ∷ ys) (append_none xs)
  with_clauses_given o (c ∷ cs) h = with_clauses_given (with_clause g k.bound told o c) cs (with_clause_given o c cs h)

  -- what the clauses of the match give is given
  pub match_given : (cs : List (List Literal)) → cs ≡ match_clauses g k p → IsGiven g k told p (with_clauses g k.bound told (record { rest = []; put = [] }) cs)
  match_given cs e = with_clauses_given (record { rest = []; put = [] }) cs (subst (λ ds. IsGiven g k told p (record { rest = ds; put = [] })) (sym e) nothing)

-- a clause that gives, and what
record IsGivenAmong (g : KoreSignature) (bound told : List SortedName) (put : List Replaced) (cs : List (List Literal)) (r : Replaced) : Type 0 where
  clause : List Literal
  among : Contains cs clause
  gives : IsPutOf (if_new told put (given_in g bound clause)) r

later_among : (g : KoreSignature) (bound told : List SortedName) (put : List Replaced) (c : List Literal) (cs : List (List Literal)) (r : Replaced) → IsGivenAmong g bound told put cs r → IsGivenAmong g bound told put (c ∷ cs) r
later_among g bound told put c cs r h = record { clause = h.clause; among = Contains-append_right (c ∷ []) cs h.clause h.among; gives = h.gives }

given_some : (g : KoreSignature) (bound told : List SortedName) (put : List Replaced) (cs : List (List Literal)) (r : Replaced) → Some r ≡ first_given g bound told put cs → IsGivenAmong g bound told put cs r
given_some g bound told put [] r h = absurd (cc)
given_some g bound told put (c ∷ cs) r h = by (if_new told put (given_in g bound c)) refl h (λ q. later_among g bound told put c cs r (given_some g bound told put cs r q))
  where
    by : (o : Option Equation) → if_new told put (given_in g bound c) ≡ o → Some r ≡ first_put (put_of o) (first_given g bound told put cs) → (Some r ≡ first_given g bound told put cs → IsGivenAmong g bound told put (c ∷ cs) r) → IsGivenAmong g bound told put (c ∷ cs) r
    by (Some e) i h later = record { clause = c; among = Contains-append_left (c ∷ []) cs c (Contains-push [] c); gives = some_put (if_new told put (given_in g bound c)) r (h ∙ ap put_of (sym i)) }
    by None i h later = later h

given_none : (g : KoreSignature) (bound told : List SortedName) (put : List Replaced) (cs : List (List Literal)) → None ≡ first_given g bound told put cs → AllByRecursion (λ c. if_new told put (given_in g bound c) ≡ None) cs
given_none g bound told put [] h = tt
given_none g bound told put (c ∷ cs) h = by (if_new told put (given_in g bound c)) refl h (λ q. given_none g bound told put cs q)
  where
    by : (o : Option Equation) → if_new told put (given_in g bound c) ≡ o → None ≡ first_put (put_of o) (first_given g bound told put cs) → (None ≡ first_given g bound told put cs → AllByRecursion (λ c. if_new told put (given_in g bound c) ≡ None) cs)
        → (if_new told put (given_in g bound c) ≡ None) × AllByRecursion (λ c. if_new told put (given_in g bound c) ≡ None) cs
    by (Some e) i h later = absurd (cc)
    by None i h later = (i, later h)

-- ---- the part with this state

at_state : (g : KoreSignature) (k : Consequent) (told : List SortedName) (p : StatePart) (o : Given) → IsGiven g k told (whole p.state) o → IsGiven g k told p o
at_state g k told p _ nothing = nothing
at_state g k told p _ (by_match before after c put e before_it gives) = by_match before after c put e (at_state g k told p (record { rest = before ++ c ∷ after; put = put }) before_it) gives
at_state g k told p _ (by_goal o c e before_it among gives) = by_goal o c e (at_state g k told p o before_it) among gives

pub goal_given : (g : KoreSignature) (k : Consequent) (told : List SortedName) (s : SymbolicState) (o : Given) (goals : List (List Literal)) (r : Replaced) → goals ≡ goals_of g k (whole s) o → Some r ≡ first_given g k.bound told o.put goals → IsGivenIn g k told s o → IsGivenIn g k told s (record { rest = o.rest; put = o.put ++ r ∷ [] })
goal_given g k told s o goals r are first h =
    let one : IsGivenAmong g k.bound told o.put goals r = given_some g k.bound told o.put goals r first in
    subst (λ q. IsGivenIn g k told s (record { rest = o.rest; put = o.put ++ q ∷ [] })) (sym one.gives.put)
    (by_goal o one.clause one.gives.equation h (subst (λ cs. Contains cs one.clause) are one.among) one.gives.is)

pub goals_asked : (g : KoreSignature) (k : Consequent) (told : List SortedName) (s : SymbolicState) (o : Given) (goals : List (List Literal)) → goals ≡ goals_of g k (whole s) o → None ≡ first_given g k.bound told o.put goals → IsGivenIn g k told s o → IsAskedOf g k told s goals
goals_asked g k told s o goals are first h p e = record {
  given = o;
  is_given = at_state g k told p o (subst (λ x. IsGivenIn g k told x o) (sym e) h);
  are = are ∙ ap (λ x. goals_of g k (whole x) o) (sym e);
  no_more = given_none g k.bound told o.put goals first;
}
