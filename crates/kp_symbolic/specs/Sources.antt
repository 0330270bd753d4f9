-- What stands beside a state where a question is left undecided: the rules that meet it, with terms in the place of their
-- variables, and what stems from the state and these rules.
-- Source: unification (one replacement for both sides, from its last variable on); this project.
use Rattle.std.specs.Prelude.{◌≡◌, ◌⊎◌, ℕ, zero, suc, Bool, true, false, List, [], ◌∷◌, ◌++◌, map, Option, Some, None, codes, ⊤}
use Rattle.std.specs.List.{AllByRecursion, Contains, flat_map}
use Rattle.kp_kore.specs.Syntax.{Text, KorePattern, no_sorts}
use Rattle.kp_kore.specs.Parts.{SortedName, free_variables}
use Rattle.kp_kore.specs.Signature.{KoreSignature, meaning_of}
use Rattle.kp_kore.specs.Sorting.{result_sort}
use Rattle.kp_kore.specs.Value.{Value, HasSort, Values, no_values, next_value}
use Rattle.kp_kore.specs.Instance.{Valuation, is_named}
use Rattle.kp_kore.specs.Rules.{RuleBody, rewrite, foreign_rule}
use Rattle.kp_kore.specs.Foreign.{IsAnyOfMaybe, IsConstructedBy, by_meaning}
use Rattle.kp_kore.specs.Steps.{AnyByRecursion}
use Rattle.kp_kore.specs.Replies.{IsFreshName, IsAbsent}
use Rattle.kp_symbolic.specs.Terms.{SymbolicTerm, unknown, offset, known, headed, SymbolicTerms, no_terms, next_term, term_variables, Replaced, replacement_for}
use Rattle.kp_symbolic.specs.Formulas.{Formula, fact, all_of, one_of, Formulas, no_formulas, next_formula}
use Rattle.kp_symbolic.specs.States.{Atom, same, has_head, quoted, Literal, SymbolicState}
use Rattle.kp_symbolic.specs.Folding.{folded, replaced}
use Rattle.kp_symbolic.specs.Opening.{literal_fact, opened_same, opened_test}
use Rattle.kp_symbolic.specs.Clauses.{clauses_of_conjuncts}

-- ---- parts

abbrev mutual
  pub parts_of : SymbolicTerm → List SymbolicTerm
  parts_of (headed f ts) = headed f ts ∷ all_parts_of ts
  parts_of t = t ∷ []

  pub all_parts_of : SymbolicTerms → List SymbolicTerm
  all_parts_of no_terms = []
  all_parts_of (next_term t ts) = parts_of t ++ all_parts_of ts

abbrev pub atom_parts : Atom → List SymbolicTerm
atom_parts (same s t u) = parts_of t ++ parts_of u
atom_parts (has_head x test) = unknown x ∷ []
atom_parts (quoted p rs) = flat_map (λ r. parts_of r.term) rs

abbrev pub clause_parts : List (List Literal) → List SymbolicTerm
clause_parts cs = flat_map (λ c. flat_map (λ l. atom_parts l.atom) c) cs

abbrev pub state_parts : SymbolicState → List SymbolicTerm
state_parts s = parts_of s.term ++ clause_parts s.clauses

-- ---- rules beside a state

-- a left term, the clauses of its condition, those that a step ensures, and the right term, if any; its own variables
pub record SymbolicRule : Type 0 where
  pub left : SymbolicTerm
  pub clauses : List (List Literal)
  pub ensured : List (List Literal)
  pub right : Option SymbolicTerm
  pub variables : List SortedName

abbrev pub maybe_parts : Option SymbolicTerm → List SymbolicTerm
maybe_parts (Some t) = parts_of t
maybe_parts None = []

abbrev pub rule_parts : SymbolicRule → List SymbolicTerm
rule_parts r = parts_of r.left ++ (clause_parts r.clauses ++ (clause_parts r.ensured ++ maybe_parts r.right))

-- a variable of the rule that stands in this place beside a state: no variable of Kore begins with #
abbrev pub marked : ℕ → Text → Text
marked zero x = codes "#" ++ x
marked (suc k) x = codes "#" ++ marked k x

abbrev pub apart : ℕ → SortedName → SortedName
apart k x = record { name = marked k x.name; sort = x.sort }

abbrev pub all_apart : ℕ → List SortedName → List Replaced
all_apart k xs = map (λ x. record { name = x.name; term = unknown (apart k x) }) xs

-- a rule that is read, its variables named apart; of a foreign one the left term
abbrev pub rule_beside : KoreSignature → ℕ → RuleBody → Option SymbolicRule
rule_beside g k (rewrite r) = Some (named_apart (free_variables r.left ++ r.new_variables))
  where
    named_apart : List SortedName → SymbolicRule
    named_apart xs = record {
      left = folded g (all_apart k xs) r.left;
      clauses = clauses_of_conjuncts g (all_apart k xs) 0 r.condition;
      ensured = clauses_of_conjuncts g (all_apart k xs) 0 r.ensured;
      right = Some (folded g (all_apart k xs) r.right);
      variables = map (apart k) xs;
    }
rule_beside g k (foreign_rule l) = of_left l.term
  where
    of_left : Option KorePattern → Option SymbolicRule
    of_left (Some t) = Some (record { left = folded g (all_apart k (free_variables t)) t; clauses = []; ensured = []; right = None; variables = map (apart k) (free_variables t) })
    of_left None = None

-- ---- meeting

-- the value may be the term's, where a call stands for any value of its sort
abbrev mutual
  pub MayMean : KoreSignature → Valuation → SymbolicTerm → Value → Type 0
  MayMean g v (unknown x) u = (u ≡ v x.name) × HasSort g x.sort u
  MayMean g v (offset x c) u = HasSort g x.sort u
  MayMean g v (known w) u = u ≡ w
  MayMean g v (headed f ts) u = by_meaning (meaning_of g f) (IsConstructedBy f (AllMayMean g v ts) u) ⊥ (IsAnyOfMaybe g (result_sort g f no_sorts) u)

  pub AllMayMean : KoreSignature → Valuation → SymbolicTerms → Values → Type 0
  AllMayMean g v no_terms no_values = ⊤
  AllMayMean g v (next_term t ts) (next_value u us) = MayMean g v t u × AllMayMean g v ts us
  AllMayMean g v no_terms (next_value u us) = ⊥
  AllMayMean g v (next_term t ts) no_values = ⊥

-- some value is an instance of both terms, conditions dropped
pub record TermsMeet (g : KoreSignature) (t left : SymbolicTerm) : Type 0 where
  pub value : Value
  pub of_state : Valuation
  pub of_rule : Valuation
  pub first : MayMean g of_state t value
  pub second : MayMean g of_rule left value

-- ---- terms in the place of variables

-- all parts that replacements are made of
abbrev pub all_parts : SymbolicState → List SymbolicRule → List SymbolicTerm
all_parts s rules = state_parts s ++ flat_map rule_parts rules

-- a variable named Fresh and a number, that these patterns and the state don't have
pub record IsNewVariable (hand : List KorePattern) (s : SymbolicState) (t : SymbolicTerm) : Type 0 where
  pub variable : SortedName
  pub is : t ≡ unknown variable
  pub fresh : IsFreshName variable.name
  pub absent : AllByRecursion (IsAbsent variable.name) hand
  pub unused : is_named variable.name s.variables ≡ false

-- a part with the terms of these replacements in its variables' places
pub record IsPartUnder (g : KoreSignature) (put : List Replaced) (parts : List SymbolicTerm) (t : SymbolicTerm) : Type 0 where
  pub part : SymbolicTerm
  pub among : Contains parts part
  pub is : t ≡ replaced g put part

-- each term is a new variable, or a part under the replacements behind it
abbrev pub AreMadeOf : KoreSignature → (SymbolicTerm → Type 0) → List SymbolicTerm → List Replaced → Type 0
AreMadeOf g IsNew parts [] = ⊤
AreMadeOf g IsNew parts (r ∷ put) = (IsNew r.term ⊎ IsPartUnder g put parts r.term) × AreMadeOf g IsNew parts put

abbrev pub names_of : List Replaced → List Text
names_of put = map (λ r. r.name) put

-- no variable of these is replaced
abbrev pub AreRemaining : List Replaced → List SortedName → Type 0
AreRemaining put xs = AllByRecursion (λ x. replacement_for put x.name ≡ None) xs

-- One replacement for the state and all rules, in which no replaced variable is left.
pub record IsMatch (g : KoreSignature) (hand : List KorePattern) (s : SymbolicState) (rules : List SymbolicRule) (put : List Replaced) : Type 0 where
  pub made : AreMadeOf g (IsNewVariable hand s) (all_parts s rules) put
  pub solved : AllByRecursion (λ r. AreRemaining put (term_variables r.term)) put

-- ---- parts and literals under a match

abbrev mutual
  pub facts_of : Formula Literal → List Literal
  facts_of (fact l) = l ∷ []
  facts_of (all_of fs) = all_facts_of fs
  facts_of (one_of fs) = all_facts_of fs

  pub all_facts_of : Formulas Literal → List Literal
  all_facts_of no_formulas = []
  all_facts_of (next_formula f fs) = facts_of f ++ all_facts_of fs

-- the replacements of a quoted predicate, with those of the match in them
abbrev pub replaced_in : KoreSignature → List Replaced → List Replaced → List Replaced
replaced_in g put rs = map (λ r. record { name = r.name; term = replaced g put r.term }) rs

abbrev pub also_for : List Replaced → List Replaced → SortedName → List Replaced
also_for put rs x = if_free (replacement_for rs x.name) (replacement_for put x.name)
  where
    if_free : Option SymbolicTerm → Option SymbolicTerm → List Replaced
    if_free None (Some t) = record { name = x.name; term = t } ∷ []
    if_free o q = []

abbrev pub opened_under : KoreSignature → List Replaced → Bool → Atom → Formula Literal
opened_under g put b (same s t u) = opened_same g false b s (replaced g put t) (replaced g put u)
opened_under g put b (has_head x test) = opened_test g b test (literal_fact b (has_head x test)) (replaced g put (unknown x))
opened_under g put b (quoted p rs) = literal_fact b (quoted p (replaced_in g put rs ++ flat_map (also_for put rs) (free_variables p)))

-- the atom under the match, or an atom that it is opened into
abbrev pub BecomesAtom : KoreSignature → List Replaced → Atom → Atom → Type 0
BecomesAtom g put a b = AnyByRecursion (λ l. l.atom ≡ b) (facts_of (opened_under g put true a) ++ facts_of (opened_under g put false a))

abbrev pub StandsUnder : KoreSignature → List Replaced → List (List Literal) → Atom → Type 0
StandsUnder g put cs a = AnyByRecursion (λ c. AnyByRecursion (λ l. BecomesAtom g put l.atom a) c) cs

abbrev pub StandsIn : List (List Literal) → Atom → Type 0
StandsIn cs a = AnyByRecursion (λ c. AnyByRecursion (λ l. l.atom ≡ a) c) cs

-- a part of the state's term and a part of a left term, both under the match
pub record IsPairUnder (g : KoreSignature) (put : List Replaced) (s : SymbolicState) (rules : List SymbolicRule) (t u : SymbolicTerm) : Type 0 where
  pub of_state : Contains (parts_of (replaced g put s.term)) t
  pub of_rule : AnyByRecursion (λ r. Contains (parts_of (replaced g put r.left)) u) rules

abbrev pub EquatesPair : KoreSignature → List Replaced → SymbolicState → List SymbolicRule → Atom → Type 0
EquatesPair g put s rules (same a t u) = IsPairUnder g put s rules t u ⊎ IsPairUnder g put s rules u t
EquatesPair g put s rules a = ⊥

-- The literal or its opposite stands in the state or, under the match, in it or a rule; or it equates a part of the
-- state's term with a part of a left term. All by form, never by equal meaning.
abbrev pub IsSourced : KoreSignature → SymbolicState → List SymbolicRule → List Replaced → Literal → Type 0
IsSourced g s rules put l =
    StandsIn s.clauses l.atom ⊎ StandsUnder g put s.clauses l.atom
    ⊎ AnyByRecursion (λ r. StandsUnder g put r.clauses l.atom ⊎ StandsUnder g put r.ensured l.atom) rules
    ⊎ EquatesPair g put s rules l.atom

-- a part of the state or of a rule, under the match
abbrev pub IsSourcedPart : KoreSignature → SymbolicState → List SymbolicRule → List Replaced → SymbolicTerm → Type 0
IsSourcedPart g s rules put t = AnyByRecursion (λ q. Contains (parts_of (replaced g put q)) t) (all_parts s rules)
