-- The parts where a rule doesn't fire, with the names that are in use.
use Rattle.std.proofs.Common.{◌≡◌, refl, sym, subst, true, None, List, [], ◌∷◌, ◌++◌}
use Rattle.std.specs.List.{AllByRecursion, Contains}
use Rattle.std.proofs.lemmas.List.{map-append}
use Rattle.kp_kore.specs.Syntax.{Text}
use Rattle.kp_kore.specs.Parts.{SortedName}
use Rattle.kp_kore.specs.Signature.{KoreSignature}
use Rattle.kp_kore.specs.Rules.{RuleBody}
use Rattle.kp_kore.specs.Steps.{Fires}
use Rattle.kp_symbolic.specs.States.{atom_variables, clause_variables, SymbolicState, Literal, CanBeTrue, IsClauseTrue}
use Rattle.kp_symbolic.specs.Clauses.{is_too_large, denied, without_repeats}
use Rattle.kp_symbolic.specs.Plain.{plain_clauses}
use Rattle.kp_symbolic.specs.Solving.{negated}
use Rattle.kp_symbolic.specs.WellFormed.{IsWellSortedAtom, AreAtHand}
use Rattle.kp_symbolic.specs.Alike.{literals_same}
use Rattle.kp_symbolic.proofs.Distribution.{all_both, all_first, all_second, kept_are}
use Rattle.kp_symbolic.proofs.Leaf.{once_says}
use Rattle.kp_symbolic_laws.specs.Runs.{HasOneSortEach, IsSortedLiteral, IsSortedState}
use Rattle.kp_symbolic_laws.specs.Safe.{IsFormedState, IsSoundQuote}
use Rattle.kp_solving.specs.Further.{constrained}
use Rattle.kp_satisfiability.specs.Read.{HasSortedClauses}
use Rattle.kp_rules.specs.Skeletons.{Form}
use Rattle.kp_case_laws.specs.Parts.{StatePart, IsPartBelow, with_clauses}
use Rattle.kp_case_laws.proofs.Excluding.{restricted_alone}
use Rattle.kp_case_laws.proofs.GrownLemmas.{grown_itself}
use Rattle.kp_case_laws.proofs.PartLemmas.{told_below, clauses_restrict}
use Rattle.kp_case_laws.proofs.SortedParts.{sorted_with}
use Rattle.kp_symbolic_laws.specs.Kept.{CanBeWrittenAt}
use Rattle.kp_case_laws.specs.Firing.{FiresNowhere, AreFiringCases, HasNoInstance, AreWhere}
use Rattle.kp_case_laws.proofs.FiringLemmas.{untouched_part, never_fires}
use Rattle.kp_case_laws.proofs.PartsWhere.{drops_parts}
use Rattle.kp_unify.specs.Narrowed.{NumberedPart}
use Rattle.kp_unify.specs.Way.{IsPartOn}
use Rattle.kp_step.specs.Comes.{IsFormOf, narrowed, excluded, itself}
use Rattle.kp_step.specs.Conditions.{AreRight}
use Rattle.kp_step.specs.Opposites.{plain_state}
use Rattle.kp_step.specs.ReadyParts.{IsReadyPart, narrowed_by, parts_of}
use Rattle.kp_step.specs.Silent.{IsFiringOf, IsFurther, IsExcluded}
use Rattle.kp_step.proofs.OpenedWith.{Sound}
use Rattle.kp_step.proofs.Excluded.{both_right, opposite_right, excluded_by_opposite}
use Rattle.kp_step.proofs.PlainLemmas.{plain_have}

-- ---- the part with further clauses

formed_right : (g : KoreSignature) (hand : List SortedName) (cs : List (List Literal)) → AreRight g hand cs → AllByRecursion (AllByRecursion (Sound g)) cs
formed_right g hand cs h = (both_right g hand cs h).1

sorted_right : (g : KoreSignature) (hand : List SortedName) (cs : List (List Literal)) → AreRight g hand cs → AllByRecursion (AllByRecursion (IsSortedLiteral g hand)) cs
sorted_right g hand cs h = (both_right g hand cs h).0

formed_with : (g : KoreSignature) (s : SymbolicState) (cs : List (List Literal)) → IsFormedState g (IsSoundQuote g) s → AllByRecursion (AllByRecursion (Sound g)) cs → IsFormedState g (IsSoundQuote g) (constrained s cs)
formed_with g s cs f h = record {
  term = f.term;
  literals = kept_are literals_same (AllByRecursion (Sound g)) [] 0 (s.clauses ++ cs) (all_both (AllByRecursion (Sound g)) s.clauses cs f.literals h);
}

-- a rule can be tried on it
pub right_ready : (g : KoreSignature) (used : List Text) (q : NumberedPart) (cs : List (List Literal)) → IsReadyPart g used q → AreRight g q.part.state.variables cs → IsReadyPart g used (narrowed_by q cs)
right_ready g used q cs r h =
    let sorted = sorted_with g q.part cs r.sorted (sorted_right g q.part.state.variables cs h) in
    record {
      told = told_below g q.part (with_clauses q.part cs) (restricted_alone g q.part (with_clauses q.part cs) cs r.told (clauses_restrict g q.part cs));
      sorted = sorted;
      safe = record { sorted = sorted.state; formed = formed_with g q.part.state cs r.safe.formed (formed_right g q.part.state.variables cs h) };
      begun = r.begun;
      names = r.names;
    }

-- ---- parts below another

-- a part where a rule doesn't fire is one that a rule can be tried on
pub ready_on : (g : KoreSignature) (used : List Text) (left : Form) (p : StatePart) (q : NumberedPart) → IsPartBelow g p q.part → IsPartOn g used left p q → IsReadyPart g used q
ready_on g used left p q below on = record { told = told_below g p q.part below; sorted = on.sorted; safe = record { sorted = on.sorted.state; formed = on.formed }; begun = on.begun; names = on.names }

all_further : (g : KoreSignature) (used : List Text) (body : RuleBody) (form : Form) (p : StatePart) (qs : List NumberedPart) → IsFormOf g body form → AllByRecursion (IsPartBelow g p) (parts_of qs) → AllByRecursion (IsPartOn g used form p) qs → AllByRecursion (IsFurther g used body p) qs
all_further g used body form p [] k b o = tt
all_further g used body form p (q ∷ qs) k b o = (record { grown = o.0.grown; comes = narrowed p q.part body form itself refl k o.0.narrowed; ready = ready_on g used form p q b.0 o.0 }, all_further g used body form p qs k b.1 o.1)

-- the part that is met
pub firing_ready : (g : KoreSignature) (used : List Text) (body : RuleBody) (p : StatePart) (q : NumberedPart) (clauses : List (List Literal)) (apart : List NumberedPart) → IsFiringOf g used body p q clauses apart → IsReadyPart g used q
firing_ready g used body p q clauses apart f = ready_on g used f.of_rule.form p q f.cases.divided.below.0 f.here

-- ---- by the opposite of the clauses

pub excluded_parts : (g : KoreSignature) (used : List Text) (body : RuleBody) (p : StatePart) (q : NumberedPart) (clauses : List (List Literal)) (apart : List NumberedPart) → IsFiringOf g used body p q clauses apart →
    (is_too_large 0 (denied g clauses) ≡ true → AllByRecursion (CanBeWrittenAt g q.part.state.sort) clauses) →
    IsExcluded g used body p (narrowed_by q (negated g q.part.state.sort clauses) ∷ apart)
excluded_parts g used body p q clauses apart f room =
    let others = negated g q.part.state.sort clauses in
    let k = excluded_by_opposite g body p (record { part = q.part; clauses = clauses }) (parts_of apart) f.cases f.right room in
    record {
      silent = k.0;
      each = (
        record {
          grown = record { new = f.here.grown.new; variables = f.here.grown.variables; are_new = f.here.grown.are_new; each = f.here.grown.each };
          comes = excluded q.part body clauses (narrowed p q.part body f.of_rule.form itself refl f.of_rule.is_form f.here.narrowed) refl f.of_rule;
          ready = right_ready g used q others (firing_ready g used body p q clauses apart f) (opposite_right g q.part.state clauses f.right room);
        },
        all_further g used body f.of_rule.form p apart f.of_rule.is_form k.0.divided.below.1 f.others,
      );
      everywhere = k.1;
    }

-- ---- parts that are dropped

-- a state whose clauses can't be true has no instance
pub none_there : (g : KoreSignature) (p : StatePart) → ¬ CanBeTrue g p.state.variables p.state.clauses → HasNoInstance g p
none_there g p n w c gives has = n (record { valuation = w; sorts = gives; are_true = has.clauses })

-- one that has none, put back
none_with : (g : KoreSignature) (before : List NumberedPart) (q : NumberedPart) (after : List NumberedPart) → HasNoInstance g q.part → AllByRecursion (HasNoInstance g) (parts_of (before ++ after)) → AllByRecursion (HasNoInstance g) (parts_of (before ++ q ∷ after))
none_with g [] q after none h = (none, h)
none_with g (b ∷ before) q after none h = (h.0, none_with g before q after none h.1)

pub dropped : (g : KoreSignature) (used : List Text) (body : RuleBody) (p : StatePart) (before : List NumberedPart) (q : NumberedPart) (after : List NumberedPart) → HasNoInstance g q.part → IsExcluded g used body p (before ++ q ∷ after) → IsExcluded g used body p (before ++ after)
dropped g used body p before q after none e = record {
  silent = subst (AreWhere g (λ c. ¬ Fires g body c) p) (sym (map-append (λ z. z.part) before after))
      (drops_parts g (λ c. ¬ Fires g body c) p q.part (parts_of before) (parts_of after) none (subst (AreWhere g (λ c. ¬ Fires g body c) p) (map-append (λ z. z.part) before (q ∷ after)) e.silent));
  each = all_both (IsFurther g used body p) before after (all_first (IsFurther g used body p) before (q ∷ after) e.each) (all_second (IsFurther g used body p) before (q ∷ after) e.each).1;
  everywhere = λ h. e.everywhere (none_with g before q after none h);
}

-- ---- a part that stays whole

pub untouched : (g : KoreSignature) (used : List Text) (body : RuleBody) (q : NumberedPart) → IsReadyPart g used q → FiresNowhere g body q.part → IsExcluded g used body q.part (q ∷ [])
untouched g used body q r none = record {
  silent = untouched_part g body q.part r.told none;
  each = (record { grown = grown_itself g used q.part; comes = itself; ready = r }, tt);
  everywhere = λ h w c sorts has. absurd (h.0 w c sorts has);
}

-- where nothing is met, all of the part is apart
pub fires_nowhere_there : (g : KoreSignature) (body : RuleBody) (p : StatePart) → AreFiringCases g body p None (p ∷ []) → FiresNowhere g body p
fires_nowhere_there g body p cases = cases.elsewhere.0

-- where the plain clauses of the part can't be true with the clauses, the rule fires nowhere
pub never_by_plain : (g : KoreSignature) (used : List Text) (body : RuleBody) (p : StatePart) (q : NumberedPart) (clauses : List (List Literal)) (apart : List NumberedPart) → IsFiringOf g used body p q clauses apart →
    ¬ CanBeTrue g q.part.state.variables (without_repeats (plain_clauses g q.part.state ++ clauses)) → FiresNowhere g body p
never_by_plain g used body p q clauses apart f n =
    never_fires g body p (record { part = q.part; clauses = clauses }) (parts_of apart) f.cases
    (λ w c gives has t. n (record {
      valuation = w;
      sorts = gives;
      are_true = (once_says g w (plain_clauses g q.part.state ++ clauses)).1 (all_both (IsClauseTrue g w) (plain_clauses g q.part.state) clauses (plain_have g (IsClauseTrue g w) q.part.state has.clauses) t);
    }))

-- ---- what is decided of a part's clauses

clause_wells : (g : KoreSignature) (hand : List SortedName) (c : List Literal) → AllByRecursion (IsSortedLiteral g hand) c → AllByRecursion (λ l. IsWellSortedAtom g l.atom) c × AreAtHand (clause_variables c) hand
clause_wells g hand [] h = (tt, tt)
clause_wells g hand (l ∷ c) h = let rest = clause_wells g hand c h.1 in ((h.0.0, rest.0), all_both (λ x. Contains hand x) (atom_variables l.atom) (clause_variables c) h.0.1 rest.1)

all_wells : (g : KoreSignature) (hand : List SortedName) (cs : List (List Literal)) → AllByRecursion (AllByRecursion (IsSortedLiteral g hand)) cs → AllByRecursion (AllByRecursion (λ l. IsWellSortedAtom g l.atom)) cs × AllByRecursion (λ c. AreAtHand (clause_variables c) hand) cs
all_wells g hand [] h = (tt, tt)
all_wells g hand (c ∷ cs) h =
    let first = clause_wells g hand c h.0 in
    let rest = all_wells g hand cs h.1 in
    ((first.0, rest.0), (first.1, rest.1))

from_literals : (g : KoreSignature) (s : SymbolicState) → AllByRecursion (AllByRecursion (IsSortedLiteral g s.variables)) s.clauses → HasOneSortEach s.variables → HasSortedClauses g s
from_literals g s h one = let k = all_wells g s.variables s.clauses h in record { literals = k.0; clauses_at_hand = k.1; one_sort_each = one }

pub sorted_clauses : (g : KoreSignature) (s : SymbolicState) → IsSortedState g s → HasSortedClauses g s
sorted_clauses g s k = from_literals g s k.literals k.one_sort_each

-- the plain clauses with further ones
pub plain_sorted : (g : KoreSignature) (s : SymbolicState) (cs : List (List Literal)) → IsSortedState g s → AreRight g s.variables cs → HasSortedClauses g (constrained (plain_state g s) cs)
plain_sorted g s cs k h =
    let Each = AllByRecursion (IsSortedLiteral g s.variables) in
    from_literals g (constrained (plain_state g s) cs)
    (kept_are literals_same Each [] 0 (plain_clauses g s ++ cs) (all_both Each (plain_clauses g s) cs (plain_have g Each s k.literals) (sorted_right g s.variables cs h)))
    k.one_sort_each
