-- Parts by further clauses have the sorts of their places, where the clauses have.
use Rattle.std.proofs.Common.{Bool, true, false, List, [], ◌∷◌, ◌++◌, map}
use Rattle.std.specs.Prelude.{if◌then◌else◌}
use Rattle.std.specs.List.{AllByRecursion, Contains, filter}
use Rattle.kp_kore.specs.Syntax.{Text, KoreSort}
use Rattle.kp_kore.specs.Parts.{SortedName}
use Rattle.kp_kore.specs.Signature.{KoreSignature, Head, itself}
use Rattle.kp_kore.specs.Value.{constructed, no_values}
use Rattle.kp_symbolic.specs.Terms.{unknown, known}
use Rattle.kp_symbolic.specs.States.{HeadTest, one_head, same, has_head, Literal}
use Rattle.kp_symbolic.specs.WellFormed.{IsWellSorted}
use Rattle.kp_symbolic.specs.Heads.{passes_head}
use Rattle.kp_symbolic.specs.Opening.{literal_fact, opened_test}
use Rattle.kp_symbolic.specs.Alike.{literals_same}
use Rattle.kp_symbolic.proofs.Distribution.{all_both, kept_are}
use Rattle.kp_symbolic.proofs.Facts.{clauses_have}
use Rattle.kp_symbolic_laws.specs.Runs.{IsSortedLiteral}
use Rattle.kp_symbolic_laws.proofs.Keeping.{test_good}
use Rattle.kp_case_laws.specs.Parts.{StatePart, with_clauses, IsSortedPart}
use Rattle.kp_case_laws.specs.Narrowings.{head_clauses, are_never, has_other_head, test_of, tested, shared_heads, other_heads, heads_outside, heads_inside}

abbrev AreSorted : KoreSignature → List SortedName → List (List Literal) → Type 0
AreSorted g hand = AllByRecursion (AllByRecursion (IsSortedLiteral g hand))

pub sorted_with : (g : KoreSignature) (p : StatePart) (clauses : List (List Literal)) → IsSortedPart g p → AreSorted g p.state.variables clauses → IsSortedPart g (with_clauses p clauses)
sorted_with g p clauses k h =
    let Each = AllByRecursion (IsSortedLiteral g p.state.variables) in
    record {
      state = record {
        term = k.state.term;
        term_at_hand = k.state.term_at_hand;
        literals = kept_are literals_same Each [] 0 (p.state.clauses ++ clauses) (all_both Each p.state.clauses clauses k.state.literals h);
        one_sort_each = k.state.one_sort_each;
      };
      added = all_both Each p.added clauses k.added h;
    }

-- ---- the clauses of narrowings

pub head_clauses_sorted : (g : KoreSignature) (hand : List SortedName) (b : Bool) (x : SortedName) (test : HeadTest) → Contains hand x → AreSorted g hand (head_clauses g b x test)
head_clauses_sorted g hand b x test c = clauses_have (IsSortedLiteral g hand) (opened_test g b test (literal_fact b (has_head x test)) (unknown x)) (test_good g hand b test (literal_fact b (has_head x test)) (unknown x) (tt, (c, tt)) (c, tt))

pub other_head_sorted : (g : KoreSignature) (hand : List SortedName) (x : SortedName) (c : Text) (new : List SortedName) → Contains hand x → IsWellSorted g x.sort (known (constructed c no_values)) → AreSorted g hand (has_other_head g x c new)
other_head_sorted g hand x c [] h s = by (are_never (head_clauses g false x (one_head c)))
  where
    by : (b : Bool) → AreSorted g hand (if b then head_clauses g false x (one_head c) else (record { holds = false; atom = same x.sort (unknown x) (known (constructed c no_values)) } ∷ []) ∷ [])
    by true = head_clauses_sorted g hand false x (one_head c) h
    by false = ((((itself x.sort, s), (h, tt)), tt), tt)
other_head_sorted g hand x c (y ∷ new) h s = head_clauses_sorted g hand false x (one_head c) h

tested_sorted : (g : KoreSignature) (hand : List SortedName) (b : Bool) (x : SortedName) (hs : List Head) → Contains hand x → AllByRecursion (IsSortedLiteral g hand) (map (tested g b x) hs)
tested_sorted g hand b x [] c = tt
tested_sorted g hand b x (h ∷ hs) c = ((tt, (c, tt)), tested_sorted g hand b x hs c)

pub outside_sorted : (g : KoreSignature) (hand : List SortedName) (x : SortedName) (s : KoreSort) → Contains hand x → AreSorted g hand (heads_outside g x s)
outside_sorted g hand x s c = kept_are literals_same (AllByRecursion (IsSortedLiteral g hand)) [] 0 (map (λ h. tested g false x h ∷ []) (shared_heads g x s)) (units (shared_heads g x s))
  where
    units : (hs : List Head) → AreSorted g hand (map (λ h. tested g false x h ∷ []) hs)
    units [] = tt
    units (h ∷ hs) = (((tt, (c, tt)), tt), units hs)

pub inside_sorted : (g : KoreSignature) (hand : List SortedName) (x : SortedName) (s : KoreSort) → Contains hand x → AreSorted g hand (heads_inside g x s)
inside_sorted g hand x s c = kept_are literals_same (AllByRecursion (IsSortedLiteral g hand)) [] 0 (map (λ h. tested g false x h ∷ map (tested g true x) (filter (passes_head g (test_of g h)) (shared_heads g x s))) (other_heads g x s)) (each (other_heads g x s))
  where
    each : (hs : List Head) → AreSorted g hand (map (λ h. tested g false x h ∷ map (tested g true x) (filter (passes_head g (test_of g h)) (shared_heads g x s))) hs)
    each [] = tt
    each (h ∷ hs) = (((tt, (c, tt)), tested_sorted g hand true x (filter (passes_head g (test_of g h)) (shared_heads g x s)) c), each hs)
