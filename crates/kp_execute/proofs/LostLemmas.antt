-- What mentions only variables that are shown, or aren't at hand, mentions none that is lost.
use Rattle.std.proofs.Common.{◌≡◌, refl, sym, ap, subst, Bool, true, false, not, cond, ◌||◌, List, [], ◌∷◌, ◌++◌, Option, Some, None}
use Rattle.std.specs.List.{AllByRecursion, filter, list_all}
use Rattle.std.proofs.lemmas.List.{append-nil}
use Rattle.kp_kore.specs.Syntax.{KoreSort, KorePattern}
use Rattle.kp_kore.specs.Parts.{SortedName, free_variables}
use Rattle.kp_kore.specs.Instance.{is_named}
use Rattle.kp_kore.proofs.InstanceLemmas.{first_true, second_true}
use Rattle.kp_case_laws.specs.NextStates.{HasNoLost}
use Rattle.kp_results.specs.Results.{StateParts, NextParts}
use Rattle.kp_execute.specs.Lost.{is_kept, if_any, parts_variables, mentions_none_lost}
use Rattle.kp_execute.specs.Written.{joined, pattern_of, MentionsNoLost}

-- ---- the variables of a pattern in two parts

joined_variables : (sort : KoreSort) (p : KorePattern) (o : Option KorePattern) → free_variables p ++ if_any o ≡ free_variables (joined sort p o)
joined_variables sort p None = append-nil (free_variables p)
joined_variables sort p (Some q) = ap (λ zs. free_variables p ++ zs) (sym (append-nil (free_variables q)))

pub pattern_variables : (sort : KoreSort) (x : StateParts) → parts_variables x ≡ free_variables (pattern_of sort x)
pattern_variables sort x = joined_variables sort x.term x.predicate

-- ---- none is lost

abbrev NotAtHand : List SortedName → SortedName → Type 0
NotAtHand hand x = is_named x.name hand ≡ false

not_there : (b : Bool) → not b ≡ true → b ≡ false
not_there true e = absurd (cc)
not_there false e = refl

one_kept : (hand : List SortedName) (x : SortedName) (rest : List SortedName) (b : Bool) → b || not (is_named x.name hand) ≡ true → AllByRecursion (NotAtHand hand) rest → AllByRecursion (NotAtHand hand) (cond (not b) (x ∷ rest) rest)
one_kept hand x rest true k h = h
one_kept hand x rest false k h = (not_there (is_named x.name hand) k, h)

all_kept : (hand shown xs : List SortedName) → list_all (is_kept hand shown) xs ≡ true → AllByRecursion (NotAtHand hand) (filter (λ x. not (is_named x.name shown)) xs)
all_kept hand shown [] k = tt
all_kept hand shown (x ∷ xs) k =
    let rest = list_all (is_kept hand shown) xs in
    one_kept hand x (filter (λ y. not (is_named y.name shown)) xs) (is_named x.name shown) (first_true (is_kept hand shown x) rest k) (all_kept hand shown xs (second_true (is_kept hand shown x) rest k))

has_no_lost : (hand : List SortedName) (sort : KoreSort) (x : StateParts) (q : KorePattern) → list_all (is_kept hand (parts_variables x)) (free_variables q) ≡ true → HasNoLost hand (pattern_of sort x) q
has_no_lost hand sort x q k = all_kept hand (free_variables (pattern_of sort x)) (free_variables q) (subst (λ xs. list_all (is_kept hand xs) (free_variables q) ≡ true) (pattern_variables sort x) k)

mentions_none : (hand : List SortedName) (sort : KoreSort) (x : StateParts) (n : NextParts) → mentions_none_lost hand (parts_variables x) n ≡ true → MentionsNoLost hand (pattern_of sort x) sort n
mentions_none hand sort x n k =
    let test = is_kept hand (parts_variables x) in
    let of_state = list_all test (parts_variables n.state) in
    let of_predicate = list_all test (free_variables n.predicate) in
    record {
      state = has_no_lost hand sort x (pattern_of sort n.state) (subst (λ xs. list_all test xs ≡ true) (pattern_variables sort n.state) (first_true of_state of_predicate k));
      predicate = has_no_lost hand sort x n.predicate (second_true of_state of_predicate k);
    }

pub none_mentioned : (hand : List SortedName) (sort : KoreSort) (x : StateParts) (ns : List NextParts) → list_all (mentions_none_lost hand (parts_variables x)) ns ≡ true → AllByRecursion (MentionsNoLost hand (pattern_of sort x) sort) ns
none_mentioned hand sort x [] k = tt
none_mentioned hand sort x (n ∷ ns) k =
    let test = mentions_none_lost hand (parts_variables x) in
    let rest = list_all test ns in
    (mentions_none hand sort x n (first_true (test n) rest k), none_mentioned hand sort x ns (second_true (test n) rest k))
