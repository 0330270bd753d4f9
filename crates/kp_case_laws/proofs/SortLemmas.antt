-- Terms of a part, and the sorts of their values: in a part of the part, and with a term in a variable's place.
use Rattle.std.proofs.Common.{◌≡◌, sym, subst, List}
use Rattle.std.specs.List.{Contains}
use Rattle.kp_kore.specs.Syntax.{KoreSort}
use Rattle.kp_kore.specs.Parts.{SortedName}
use Rattle.kp_kore.specs.Signature.{KoreSignature, itself}
use Rattle.kp_kore.specs.Value.{Value, HasSort}
use Rattle.kp_kore.specs.Instance.{Valuation, GivesSorts}
use Rattle.kp_symbolic.specs.Terms.{SymbolicTerm, unknown, term_instance, term_variables}
use Rattle.kp_symbolic.specs.States.{IsStateInstance, Literal}
use Rattle.kp_symbolic.specs.WellFormed.{IsWellSorted, AreAtHand}
use Rattle.kp_symbolic.specs.Solving.{Equation, replacement}
use Rattle.kp_symbolic.proofs.Distribution.{all_first}
use Rattle.kp_symbolic.proofs.Replacing.{solved_term_is}
use Rattle.kp_symbolic.proofs.WellSorted.{term_sorted, sorted_written}
use Rattle.kp_symbolic_laws.specs.Runs.{HasOneSortEach}
use Rattle.kp_symbolic_laws.proofs.RightEquations.{IsRightEquation}
use Rattle.kp_symbolic_laws.proofs.Keeping.{all_given, put_in as put_right}
use Rattle.kp_symbolic_laws.proofs.Step.{at_hand_given, each_given}
use Rattle.kp_case_laws.specs.Parts.{StatePart, OfEachInstance, IsRestricted, IsSortedPart}
use Rattle.kp_case_laws.specs.Narrowings.{equates}
use Rattle.kp_case_laws.specs.Courses.{IsTermOf, IsOfSort, HasMeets, put_in, MayBePut}
use Rattle.kp_case_laws.proofs.HandLemmas.{still_at_hand}
use Rattle.kp_case_laws.proofs.NarrowingLemmas.{equates_says}

abbrev Gives : KoreSignature → Valuation → SortedName → Type 0
Gives g w x = HasSort g x.sort (w x.name)

-- ---- a term's own sort

pub by_form : (g : KoreSignature) (p : StatePart) (s : KoreSort) (t : SymbolicTerm) → IsWellSorted g s t → AreAtHand (term_variables t) p.state.variables → IsOfSort g p s t
by_form g p s t w a = record {
  term = record { place = s; sorted = w; at_hand = a };
  has = λ v c sorts met. term_sorted g v s t w (at_hand_given g v p.state.variables (term_variables t) sorts a);
  written = λ m. w;
}

-- a variable whose value has the sort, which has no meets
pub by_value : (g : KoreSignature) (p : StatePart) (s : KoreSort) (x : SortedName) → Contains p.state.variables x → OfEachInstance g p (λ w c. HasSort g s (w x.name)) → ¬ HasMeets g s → IsOfSort g p s (unknown x)
by_value g p s x a h none = record {
  term = record { place = x.sort; sorted = itself x.sort; at_hand = (a, tt) };
  has = h;
  written = λ m. absurd (none m);
}

-- ---- in a part by further clauses

pub wider : (g : KoreSignature) (p r : StatePart) (new : List SortedName) (cs : List (List Literal)) (xs : List SortedName) → IsRestricted g p cs new r → AreAtHand xs p.state.variables → AreAtHand xs r.state.variables
wider g p r new cs xs i a = subst (λ hand. AreAtHand xs hand) (sym i.variables) (still_at_hand p.state.variables new xs a)

pub given_before : (g : KoreSignature) (p r : StatePart) (new : List SortedName) (cs : List (List Literal)) (w : Valuation) → IsRestricted g p cs new r → GivesSorts g w r.state.variables → GivesSorts g w p.state.variables
given_before g p r new cs w i h = all_first (Gives g w) p.state.variables new (subst (λ ys. GivesSorts g w ys) i.variables h)

pub term_in : (g : KoreSignature) (p r : StatePart) (new : List SortedName) (cs : List (List Literal)) (t : SymbolicTerm) → IsRestricted g p cs new r → IsTermOf g p.state.variables t → IsTermOf g r.state.variables t
term_in g p r new cs t i k = record { place = k.place; sorted = k.sorted; at_hand = wider g p r new cs (term_variables t) i k.at_hand }

pub sort_in : (g : KoreSignature) (p r : StatePart) (new : List SortedName) (cs : List (List Literal)) (s : KoreSort) (t : SymbolicTerm) → IsRestricted g p cs new r → IsOfSort g p s t → IsOfSort g r s t
sort_in g p r new cs s t i k = record {
  term = term_in g p r new cs t i k.term;
  has = λ w c sorts met. k.has w c (given_before g p r new cs w i sorts) ((i.instances w c sorts).0 met).0;
  written = k.written;
}

-- ---- with a term in a variable's place

-- r is the part of p in which the equation is true
pub record IsNarrowed (g : KoreSignature) (p r : StatePart) (new : List SortedName) (e : Equation) : Type 0 where
  pub restricted : IsRestricted g p (equates e.variable e.term) new r
  pub one : HasOneSortEach r.state.variables
  pub right : IsRightEquation g r.state.variables e

pub is_met : (g : KoreSignature) (p r : StatePart) (new : List SortedName) (e : Equation) (w : Valuation) (c : Value) → IsNarrowed g p r new e → GivesSorts g w r.state.variables → IsStateInstance g w r.state c → w e.variable.name ≡ term_instance g w e.term
is_met g p r new e w c n sorts met = (equates_says g w e.variable e.term).0 ((n.restricted.instances w c sorts).0 met).1

pub kept_value : (g : KoreSignature) (p r : StatePart) (new : List SortedName) (e : Equation) (w : Valuation) (t : SymbolicTerm) → IsNarrowed g p r new e → GivesSorts g w r.state.variables → w e.variable.name ≡ term_instance g w e.term → IsTermOf g p.state.variables t →
    term_instance g w (put_in g e t) ≡ term_instance g w t
kept_value g p r new e w t n sorts m k =
    let i : IsTermOf g r.state.variables t = term_in g p r new (equates e.variable e.term) t n.restricted k in
    solved_term_is g w e.variable.name e.term t (sorted_written g i.place t i.sorted) (each_given g w r.state.variables (replacement e) (term_variables t) sorts (all_given g r.state.variables e (term_variables t) n.one n.right i.at_hand)) m

pub term_put : (g : KoreSignature) (p r : StatePart) (new : List SortedName) (e : Equation) (t : SymbolicTerm) → IsNarrowed g p r new e → IsTermOf g p.state.variables t → IsTermOf g r.state.variables (put_in g e t)
term_put g p r new e t n k =
    let i : IsTermOf g r.state.variables t = term_in g p r new (equates e.variable e.term) t n.restricted k in
    let j = put_right g r.state.variables e i.place t n.one n.right (i.sorted, i.at_hand) in
    record { place = i.place; sorted = j.0; at_hand = j.1 }

pub sort_put : (g : KoreSignature) (p r : StatePart) (new : List SortedName) (e : Equation) (s : KoreSort) (t : SymbolicTerm) → IsNarrowed g p r new e → IsOfSort g p s t → IsOfSort g r s (put_in g e t)
sort_put g p r new e s t n k =
    let cs = equates e.variable e.term in
    let i : IsOfSort g r s t = sort_in g p r new cs s t n.restricted k in
    record {
      term = term_put g p r new e t n k.term;
      has = λ w c sorts met. subst (λ u. HasSort g s u) (sym (kept_value g p r new e w t n sorts (is_met g p r new e w c n sorts met) k.term)) (i.has w c sorts met);
      written = λ m. (put_right g r.state.variables e s t n.one n.right (k.written m, i.term.at_hand)).0;
    }

pub narrowed : (g : KoreSignature) (p r : StatePart) (new : List SortedName) (e : Equation) → IsRestricted g p (equates e.variable e.term) new r → IsSortedPart g r → MayBePut g r e → IsNarrowed g p r new e
narrowed g p r new e i s m = record { restricted = i; one = s.state.one_sort_each; right = record { variable = m.variable; at_hand = m.at_hand; sorted = m.sorted } }
