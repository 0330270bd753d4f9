-- What the imports among sentences mean, one sentence further.
use Rattle.std.proofs.Common.{◌≡◌, sym, ap, subst, ◌∙◌, ℕ, suc, ◌<◌, ◌≤◌, ◌+◌, List, [], ◌∷◌, ◌++◌, length, map, take, drop, get_or, Option, Some, None, Result, Ok, Err, IsErr, IsErrAnd, IfErr, Global}
use Rattle.std.specs.List.{AllZip}
use Rattle.std.specs.declared.sync.Arc.{Arc}
use Rattle.std.proofs.lemmas.List.{append-nil}
use Rattle.kp_kore.specs.Syntax.{Text}
use Rattle.kp_kore.specs.View.{sentence_view}
use Rattle.kp_kore.specs.declared.sentence.Sentence.{Sentence}
use Rattle.kp_imports.specs.Walks.{import_names}
use Rattle.kp_imports.proofs.Sentences.{all_taken, imports_in-append, one_further}
use Rattle.kp_rule_sets.specs.declared.rule_set.RuleSet.{RuleSet}
use Rattle.kp_kore.specs.Theory.{NumberedAxiom, imports_in}
use Rattle.kp_book.specs.Books.{Opening, Registration, meaning_in}
use Rattle.kp_modules.specs.Extending.{AreSetsOf}
use Rattle.kp_modules.proofs.Unsound.{sentences_parted}
use Rattle.kp_registry.specs.Passes.{MeansAt}
use Rattle.kp_additions.specs.Added.{AreBound, IsFirstUnbound}
use Rattle.kp_additions.specs.Told.{AreMeant}
use Rattle.kp_additions.specs.declared.error.AdditionError.{AdditionError}

-- what is said of an error holds of the one that a step hands on
pub exit : {X : Type 0} (r : Result X AdditionError) (P : AdditionError → Type 0) (e : AdditionError) → IsErr r × IsErrAnd r (λ y. y ≡ e) → P e → IfErr r P
exit (Ok x) P e h p = tt
exit (Err y) P e h p = subst P (sym h.1) p

-- ---- imports

-- the imports around the next sentence
around : (ss : List Sentence) (i : ℕ) (s : Sentence) (n : Text) → i < length ss → s ≡ get_or ss i s → imports_in (sentence_view s ∷ []) ≡ n ∷ [] → import_names ss ≡ import_names (take i ss) ++ n ∷ import_names (drop (suc i) ss)
around ss i s n h e own =
    let rest = map sentence_view (drop (suc i) ss) in
    ap imports_in (sentences_parted ss i s h ∙ ap (λ t. map sentence_view (take i ss) ++ sentence_view t ∷ rest) (sym e))
    ∙ imports_in-append (map sentence_view (take i ss)) (sentence_view s ∷ rest)
    ∙ ap (λ l. import_names (take i ss) ++ l) (imports_in-append (sentence_view s ∷ []) rest ∙ ap (λ l. l ++ imports_in rest) own)

-- ---- meanings

zip_then : {X Y : Type 0} (R : X → Y → Type 0) (xs : List X) (ys : List Y) (x : X) (y : Y) → AllZip R xs ys → R x y → AllZip R (xs ++ x ∷ []) (ys ++ y ∷ [])
zip_then R [] [] x y are is = (is, tt)
zip_then R [] (b ∷ ys) x y are is = absurd are
zip_then R (a ∷ xs) [] x y are is = absurd are
zip_then R (a ∷ xs) (b ∷ ys) x y are is = (are.0, zip_then R xs ys x y are.1 is)

pub one_meant : (o : Opening) (book : List Registration) (ss : List Sentence) (i : ℕ) (s : Sentence) (n : Text) (sets : List (Arc RuleSet Global)) (rules : Arc RuleSet Global) → i < length ss → s ≡ get_or ss i s → imports_in (sentence_view s ∷ []) ≡ n ∷ [] →
    AreMeant o book (import_names (take i ss)) sets → MeansAt o book n (Some rules.value) → AreMeant o book (import_names (take (i + 1) ss)) (sets ++ rules ∷ [])
one_meant o book ss i s n sets rules h e own are is =
    subst (λ names. AreMeant o book names (sets ++ rules ∷ [])) (sym (one_further ss i s (n ∷ []) h e own))
    (zip_then (λ name x. MeansAt o book name (Some x.value)) (import_names (take i ss)) sets n rules are is)

pub none_meant : (o : Opening) (book : List Registration) (ss : List Sentence) (i : ℕ) (s : Sentence) (sets : List (Arc RuleSet Global)) → i < length ss → s ≡ get_or ss i s → imports_in (sentence_view s ∷ []) ≡ [] →
    AreMeant o book (import_names (take i ss)) sets → AreMeant o book (import_names (take (i + 1) ss)) sets
none_meant o book ss i s sets h e own are = subst (λ names. AreMeant o book names sets) (sym (one_further ss i s [] h e own ∙ append-nil (import_names (take i ss)))) are

pub all_meant : (o : Opening) (book : List Registration) (ss : List Sentence) (i : ℕ) (sets : List (Arc RuleSet Global)) → length ss ≤ i → AreMeant o book (import_names (take i ss)) sets → AreMeant o book (import_names ss) sets
all_meant o book ss i sets h are = subst (λ names. AreMeant o book names sets) (all_taken ss i h) are

pub all_bound : (o : Opening) (book : List Registration) (names : List Text) (sets : List (Arc RuleSet Global)) → AreMeant o book names sets → AreBound o book names
all_bound o book [] [] h = tt
all_bound o book [] (x ∷ xs) h = absurd h
all_bound o book (n ∷ ns) [] h = absurd h
all_bound o book (n ∷ ns) (x ∷ xs) h = ((h.0.0, h.0.1), all_bound o book ns xs h.1)

pub first_unbound : (o : Opening) (book : List Registration) (ss : List Sentence) (i : ℕ) (s : Sentence) (n : Text) (sets : List (Arc RuleSet Global)) → i < length ss → s ≡ get_or ss i s → imports_in (sentence_view s ∷ []) ≡ n ∷ [] →
    AreMeant o book (import_names (take i ss)) sets → meaning_in o book n ≡ None → IsFirstUnbound o book (import_names ss) n
first_unbound o book ss i s n sets h e own are none = record {
  before = import_names (take i ss);
  after = import_names (drop (suc i) ss);
  are = around ss i s n h e own;
  bound = all_bound o book (import_names (take i ss)) sets are;
  unbound = none;
}

-- the rule sets are made of lists of axioms, which the names mean
pub record Listed (o : Opening) (book : List Registration) (names : List Text) (sets : List (Arc RuleSet Global)) : Type 0 where
  pub lists : List (List NumberedAxiom)
  pub bound : AllZip (λ name axioms. meaning_in o book name ≡ Some axioms) names lists
  pub are_sets : AreSetsOf o.signature lists sets

pub listed : (o : Opening) (book : List Registration) (names : List Text) (sets : List (Arc RuleSet Global)) → AreMeant o book names sets → Listed o book names sets
listed o book [] [] h = record { lists = []; bound = tt; are_sets = tt }
listed o book [] (x ∷ xs) h = absurd h
listed o book (n ∷ ns) [] h = absurd h
listed o book (n ∷ ns) (x ∷ xs) h =
    let rest = listed o book ns xs h.1 in
    record { lists = h.0.0 ∷ rest.lists; bound = (h.0.1, rest.bound); are_sets = (h.0.2, rest.are_sets) }
