-- A part in which a term stands in a variable's place has the instances of the part in which the variable's value is the term's.
use Rattle.std.proofs.Common.{◌≡◌, refl, sym, ◌∙◌, Bool, true, false, ◌&&◌, List, [], ◌∷◌, ◌++◌, ◌↔◌}
use Rattle.std.specs.Prelude.{if◌then◌else◌}
use Rattle.std.specs.List.{AllByRecursion, flat_map}
use Rattle.kp_kore.specs.Parts.{SortedName}
use Rattle.kp_kore.specs.Signature.{KoreSignature, itself}
use Rattle.kp_kore.specs.Instance.{Valuation, is_named}
use Rattle.kp_symbolic.specs.Terms.{term_instance, term_variables}
use Rattle.kp_symbolic.specs.States.{atom_variables, Literal, IsClauseTrue, AreTrue, clause_variables}
use Rattle.kp_symbolic.specs.Folding.{replaced}
use Rattle.kp_symbolic.specs.Clauses.{distributed, is_too_large}
use Rattle.kp_symbolic.specs.Solving.{Equation, replacement, all_opened_with, is_single, opened_clause}
use Rattle.kp_symbolic.proofs.Distribution.{all_both, all_first, all_second}
use Rattle.kp_symbolic.proofs.Leaf.{once_says}
use Rattle.kp_symbolic.proofs.Equations.{IsMet}
use Rattle.kp_symbolic.proofs.Facts.{AllIn, clauses_have}
use Rattle.kp_symbolic.specs.Alike.{literals_same}
use Rattle.kp_symbolic.proofs.Distribution.{kept_are}
use Rattle.kp_symbolic_laws.specs.Runs.{HasOneSortEach, IsSortedLiteral}
use Rattle.kp_symbolic_laws.proofs.RightEquations.{IsRightEquation}
use Rattle.kp_symbolic_laws.proofs.Keeping.{put_in, atom_keeps}
use Rattle.kp_symbolic_laws.proofs.Step.{IsStep, term_kept, opened_kept}
use Rattle.kp_case_laws.specs.Parts.{StatePart, IsRestricted, IsSortedPart}
use Rattle.kp_case_laws.specs.Narrowings.{equates, put_clause, part_with_term}
use Rattle.kp_case_laws.specs.Courses.{MayBePut}
use Rattle.kp_case_laws.proofs.HandLemmas.{still_at_hand}
use Rattle.kp_case_laws.proofs.NarrowingLemmas.{equates_says}

-- ---- clauses

one_clause : (g : KoreSignature) (v : Valuation) (c : List Literal) → AreTrue g v (c ∷ []) ↔ IsClauseTrue g v c
one_clause g v c = ((λ a. a.0), (λ a. (a, tt)))

clause_put : (g : KoreSignature) (v : Valuation) (hand : List SortedName) (e : Equation) (c : List Literal) → IsStep g v hand e → AllByRecursion (IsSortedLiteral g hand) c → AreTrue g v (put_clause g e c) ↔ IsClauseTrue g v c
clause_put g v hand e c k h = by (is_named e.variable.name (clause_variables c)) (is_too_large 0 (opened_clause g e c))
  where
    by : (b d : Bool) → AreTrue g v (if b then (if d then c ∷ [] else distributed (opened_clause g e c)) else c ∷ []) ↔ IsClauseTrue g v c
    by true true = one_clause g v c
    by true false = opened_kept g v hand e c k h
    by false d = one_clause g v c

clauses_put : (g : KoreSignature) (v : Valuation) (hand : List SortedName) (e : Equation) (cs : List (List Literal)) → IsStep g v hand e → AllByRecursion (AllByRecursion (IsSortedLiteral g hand)) cs → AreTrue g v (flat_map (put_clause g e) cs) ↔ AreTrue g v cs
clauses_put g v hand e [] k h = ((λ a. a), (λ a. a))
clauses_put g v hand e (c ∷ cs) k h =
    let i = clause_put g v hand e c k h.0 in
    let j = clauses_put g v hand e cs k h.1 in (
      (λ a. (i.0 (all_first (IsClauseTrue g v) (put_clause g e c) (flat_map (put_clause g e) cs) a), j.0 (all_second (IsClauseTrue g v) (put_clause g e c) (flat_map (put_clause g e) cs) a))),
      (λ a. all_both (IsClauseTrue g v) (put_clause g e c) (flat_map (put_clause g e) cs) (i.1 a.0) (j.1 a.1)),
    )

-- ---- their sorts

literals_keep : (g : KoreSignature) (hand : List SortedName) (e : Equation) (alone : Bool) (c : List Literal) → HasOneSortEach hand → IsRightEquation g hand e → AllByRecursion (IsSortedLiteral g hand) c → AllIn (IsSortedLiteral g hand) (all_opened_with g e alone c)
literals_keep g hand e alone [] one r i = tt
literals_keep g hand e alone (l ∷ c) one r i = (atom_keeps g hand e alone l.holds l.atom one r i.0, literals_keep g hand e alone c one r i.1)

clause_sorted : (g : KoreSignature) (hand : List SortedName) (e : Equation) (c : List Literal) → HasOneSortEach hand → IsRightEquation g hand e → AllByRecursion (IsSortedLiteral g hand) c → AllByRecursion (AllByRecursion (IsSortedLiteral g hand)) (put_clause g e c)
clause_sorted g hand e c one r h = by (is_named e.variable.name (clause_variables c)) (is_too_large 0 (opened_clause g e c))
  where
    by : (b d : Bool) → AllByRecursion (AllByRecursion (IsSortedLiteral g hand)) (if b then (if d then c ∷ [] else distributed (opened_clause g e c)) else c ∷ [])
    by true true = (h, tt)
    by true false = clauses_have (IsSortedLiteral g hand) (opened_clause g e c) (literals_keep g hand e (is_single c) c one r h)
    by false d = (h, tt)

clauses_sorted : (g : KoreSignature) (hand : List SortedName) (e : Equation) (cs : List (List Literal)) → HasOneSortEach hand → IsRightEquation g hand e → AllByRecursion (AllByRecursion (IsSortedLiteral g hand)) cs → AllByRecursion (AllByRecursion (IsSortedLiteral g hand)) (flat_map (put_clause g e) cs)
clauses_sorted g hand e [] one r h = tt
clauses_sorted g hand e (c ∷ cs) one r h = all_both (AllByRecursion (IsSortedLiteral g hand)) (put_clause g e c) (flat_map (put_clause g e) cs) (clause_sorted g hand e c one r h.0) (clauses_sorted g hand e cs one r h.1)

-- ---- the part

one_sorted : (g : KoreSignature) (hand new : List SortedName) (l : Literal) → IsSortedLiteral g hand l → IsSortedLiteral g (hand ++ new) l
one_sorted g hand new l i = (i.0, still_at_hand hand new (atom_variables l.atom) i.1)

literals_sorted : (g : KoreSignature) (hand new : List SortedName) (c : List Literal) → AllByRecursion (IsSortedLiteral g hand) c → AllByRecursion (IsSortedLiteral g (hand ++ new)) c
literals_sorted g hand new [] h = tt
literals_sorted g hand new (l ∷ c) h = (one_sorted g hand new l h.0, literals_sorted g hand new c h.1)

pub still_sorted : (g : KoreSignature) (hand new : List SortedName) (cs : List (List Literal)) → AllByRecursion (AllByRecursion (IsSortedLiteral g hand)) cs → AllByRecursion (AllByRecursion (IsSortedLiteral g (hand ++ new))) cs
still_sorted g hand new [] h = tt
still_sorted g hand new (c ∷ cs) h = (literals_sorted g hand new c h.0, still_sorted g hand new cs h.1)

pub equates_sorted : (g : KoreSignature) (hand : List SortedName) (e : Equation) → IsRightEquation g hand e → AllByRecursion (AllByRecursion (IsSortedLiteral g hand)) (equates e.variable e.term)
equates_sorted g hand e r = ((((itself e.variable.sort, r.sorted), (r.variable, r.at_hand)), tt), tt)

pub term_restricts : (g : KoreSignature) (p : StatePart) (e : Equation) (new : List SortedName) → IsSortedPart g p → HasOneSortEach (p.state.variables ++ new) → IsRightEquation g (p.state.variables ++ new) e → IsRestricted g p (equates e.variable e.term) new (part_with_term g e new p)
term_restricts g p e new k one right =
    let s = p.state in
    let hand = s.variables ++ new in
    let is = equates e.variable e.term in
    let put = flat_map (put_clause g e) s.clauses in
    let sorted : AllByRecursion (AllByRecursion (IsSortedLiteral g hand)) s.clauses = still_sorted g s.variables new s.clauses k.state.literals in
    record {
      variables = refl;
      instances = λ w c gives.
          let once = once_says g w (put ++ is) in
          let step : IsMet g w e → IsStep g w hand e = λ m. record { one = one; right = right; met = m; gives = gives } in
          let clauses : IsMet g w e → AreTrue g w put ↔ AreTrue g w s.clauses = λ m. clauses_put g w hand e s.clauses (step m) sorted in
          let term : IsMet g w e → term_instance g w (replaced g (replacement e) s.term) ≡ term_instance g w s.term = λ m. term_kept g w hand e s.sort s.term (step m) (k.state.term, still_at_hand s.variables new (term_variables s.term) k.state.term_at_hand) in (
            (λ i.
                let a = once.0 i.clauses in
                let own = all_second (IsClauseTrue g w) put is a in
                let m = (equates_says g w e.variable e.term).0 own in
                (record { term = i.term ∙ term m; clauses = (clauses m).0 (all_first (IsClauseTrue g w) put is a) }, own)),
            (λ i.
                let m = (equates_says g w e.variable e.term).0 i.1 in
                record { term = i.0.term ∙ sym (term m); clauses = once.1 (all_both (IsClauseTrue g w) put is ((clauses m).1 i.0.clauses) i.1) }),
          );
      added = refl;
    }

pub term_sorts : (g : KoreSignature) (p : StatePart) (e : Equation) (new : List SortedName) → IsSortedPart g p → HasOneSortEach (p.state.variables ++ new) → IsRightEquation g (p.state.variables ++ new) e → IsSortedPart g (part_with_term g e new p)
term_sorts g p e new k one right =
    let s = p.state in
    let hand = s.variables ++ new in
    let is = equates e.variable e.term in
    let Each = AllByRecursion (IsSortedLiteral g hand) in
    let put = flat_map (put_clause g e) s.clauses in
    let term = put_in g hand e s.sort s.term one right (k.state.term, still_at_hand s.variables new (term_variables s.term) k.state.term_at_hand) in
    let sorted : AllByRecursion Each put = clauses_sorted g hand e s.clauses one right (still_sorted g s.variables new s.clauses k.state.literals) in
    record {
      state = record {
        term = term.0;
        term_at_hand = term.1;
        literals = kept_are literals_same Each [] 0 (put ++ is) (all_both Each put is sorted (equates_sorted g hand e right));
        one_sort_each = one;
      };
      added = all_both Each p.added is (still_sorted g s.variables new p.added k.added) (equates_sorted g hand e right);
    }

-- ---- as laws

pub law_restricts : (g : KoreSignature) (p : StatePart) (e : Equation) (new : List SortedName) → IsSortedPart g p → HasOneSortEach (p.state.variables ++ new) → MayBePut g (part_with_term g e new p) e → IsRestricted g p (equates e.variable e.term) new (part_with_term g e new p)
law_restricts g p e new k one m = term_restricts g p e new k one (record { variable = m.variable; at_hand = m.at_hand; sorted = m.sorted })

pub law_sorts : (g : KoreSignature) (p : StatePart) (e : Equation) (new : List SortedName) → IsSortedPart g p → HasOneSortEach (p.state.variables ++ new) → MayBePut g (part_with_term g e new p) e → IsSortedPart g (part_with_term g e new p)
law_sorts g p e new k one m = term_sorts g p e new k one (record { variable = m.variable; at_hand = m.at_hand; sorted = m.sorted })
