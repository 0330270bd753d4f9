-- Whether a name stands in clauses, part by part.
use Rattle.std.proofs.Common.{◌≡◌, refl, sym, ap, ◌∙◌, ℕ, ◌+◌, ◌<◌, Bool, true, false, not, ◌&&◌, ◌||◌, List, [], ◌∷◌, ◌++◌, map, length, drop, get_or}
use Rattle.std.specs.List.{list_all, flat_map}
use Rattle.std.proofs.lemmas.List.{drop_more}
use Rattle.kp_kore.specs.Syntax.{Text}
use Rattle.kp_kore.specs.Parts.{SortedName}
use Rattle.kp_kore.specs.Instance.{is_named}
use Rattle.kp_symbolic.specs.States.{Literal, clause_variables, SymbolicState}
use Rattle.kp_symbolic.specs.Terms.{term_variables}
use Rattle.kp_symbolic.specs.Plain.{stands_alone, stands_in_none}
use Rattle.kp_literals.specs.Names.{is_named_in}

or_behind : (a b c : Bool) → (a || b) || c ≡ a || (b || c)
or_behind true b c = refl
or_behind false b c = refl

pub named_both : (x : Text) (ys zs : List SortedName) → is_named x (ys ++ zs) ≡ (is_named x ys || is_named x zs)
named_both x [] zs = refl
named_both x (y ∷ ys) zs = rw (named_both x ys zs) (sym (or_behind _ (is_named x ys) (is_named x zs)))

none_named : (x : Text) (cs : List (List Literal)) → list_all (λ c. not (is_named x (clause_variables c))) cs ≡ not (is_named_in x cs)
none_named x [] = refl
none_named x (c ∷ cs) = by (is_named x (clause_variables c)) refl (none_named x cs)
  where
    by : (b : Bool) → is_named x (clause_variables c) ≡ b → list_all (λ c. not (is_named x (clause_variables c))) cs ≡ not (is_named_in x cs) → list_all (λ c. not (is_named x (clause_variables c))) (c ∷ cs) ≡ not (is_named_in x (c ∷ cs))
    by true e h = rw e refl
    by false e h = rw e h

in_both : (x : Text) (before after : List (List Literal)) → is_named_in x (before ++ after) ≡ (is_named_in x before || is_named_in x after)
in_both x [] after = refl
in_both x (c ∷ cs) after = rw (in_both x cs after) (sym (or_behind (is_named x (clause_variables c)) (is_named_in x cs) (is_named_in x after)))

pub in_none_by : (before after : List (List Literal)) (x : Text) (b a : Bool) → b ≡ is_named_in x before → a ≡ is_named_in x after → stands_in_none (before ++ after) x ≡ not (b || a)
in_none_by before after x b a f h = none_named x (before ++ after) ∙ ap not (in_both x before after) ∙ ap (λ b. not (b || is_named_in x after)) (sym f) ∙ ap (λ a. not (b || a)) (sym h)

pub alone_by : (s : SymbolicState) (before after : List (List Literal)) (x : Text) (t b a : Bool) → t ≡ is_named x (term_variables s.term) → b ≡ is_named_in x before → a ≡ is_named_in x after →
    stands_alone s (before ++ after) x ≡ (not t && not (b || a))
alone_by s before after x t b a e f h = ap (λ l. not (is_named x (term_variables s.term)) && l) (none_named x (before ++ after) ∙ ap not (in_both x before after))
    ∙ ap (λ t. not t && not (is_named_in x before || is_named_in x after)) (sym e) ∙ ap (λ b. not t && not (b || is_named_in x after)) (sym f) ∙ ap (λ a. not t && not (b || a)) (sym h)

pub named_at : {A B : Type 0} (x : Text) (f : B → List SortedName) (see : A → B) (ys : List A) (i : ℕ) (y : A) → i < length ys → y ≡ get_or ys i y →
    is_named x (flat_map f (map see (drop i ys))) ≡ (is_named x (f (see y)) || is_named x (flat_map f (map see (drop (i + 1) ys))))
named_at x f see ys i y h e = ap (λ d. is_named x (flat_map f (map see d))) (drop_more ys i y h ∙ ap (λ z. z ∷ drop (i + 1) ys) (sym e)) ∙ named_both x (f (see y)) (flat_map f (map see (drop (i + 1) ys)))
