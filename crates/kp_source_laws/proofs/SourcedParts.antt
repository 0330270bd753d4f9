-- What comes of a state and rules, step by step, is sourced in them.
use Rattle.std.proofs.Common.{◌≡◌, refl, sym, ap, subst, ◌∙◌, List, [], ◌∷◌, ◌++◌, Some}
use Rattle.std.specs.List.{AllByRecursion, Contains, flat_map}
use Rattle.std.proofs.lemmas.List.{append-nil, append_assoc}
use Rattle.kp_kore.specs.Parts.{SortedName}
use Rattle.kp_kore.specs.Signature.{KoreSignature}
use Rattle.kp_kore.specs.Rules.{RuleBody, rewrite, foreign_rule}
use Rattle.kp_kore.proofs.TurnLemmas.{each_member}
use Rattle.kp_symbolic.specs.Terms.{SymbolicTerm, unknown, Replaced}
use Rattle.kp_symbolic.specs.States.{same, Literal, SymbolicState}
use Rattle.kp_symbolic.specs.WellFormed.{AreAtHand}
use Rattle.kp_symbolic.specs.Solving.{Equation, Solvable, first_solvable, solved_at, solved_clauses, Solving, finished, goes_on, negated}
use Rattle.kp_symbolic.proofs.Distribution.{all_both, all_first, all_second}
use Rattle.kp_symbolic.proofs.Found.{at_place, found_in}
use Rattle.kp_rules.specs.Skeletons.{Form}
use Rattle.kp_case_laws.specs.Parts.{StatePart, whole, with_clauses}
use Rattle.kp_case_laws.specs.Narrowings.{equates, put_clause, part_with_term}
use Rattle.kp_case_laws.specs.Courses.{Equality, equality_clauses, all_equality_clauses}
use Rattle.kp_unify.specs.Comes.{IsNarrowedFrom, itself, with_term, with_head}
use Rattle.kp_step.specs.Comes.{IsFormOf, asked_clauses, AreClausesOf, ComesFrom, narrowed, fires, excluded, solved, itself as comes_itself}
use Rattle.kp_source_laws.specs.Sourced.{IsLeftOfSome, IsLaidOn, as_it_is, IsSourcedTerm, of_state, put_into, IsSourcedAtom, stands, of_condition, equated, becomes, has_told_head, AreSourcedClauses, IsAllSourced}
use Rattle.kp_source_laws.proofs.Facts.{each_has, all_flat}
use Rattle.kp_source_laws.proofs.Clauses.{Of, IsToldBy, told_by, clause_put, clauses_solved, kept_sourced, equality_sourced, negated_sourced}

-- a part with the state's variables and further ones, sourced wherever those are new ones
pub record IsGrownFrom (g : KoreSignature) (R : RuleBody → Type 0) (s : SymbolicState) (q : StatePart) : Type 0 where
  pub more : List SortedName
  pub are : q.state.variables ≡ s.variables ++ more
  pub sourced : (new : List SortedName) → AreAtHand more new → IsAllSourced g R new s q

pub itself_sourced : (g : KoreSignature) (R : RuleBody → Type 0) (new : List SortedName) (s : SymbolicState) → IsAllSourced g R new s (whole s)
itself_sourced g R new s = record { term = of_state; clauses = each_has (IsSourcedAtom g R new s) s.clauses (λ a k. stands a k); added = tt }

sourced_with : (g : KoreSignature) (R : RuleBody → Type 0) (new : List SortedName) (s : SymbolicState) (r : StatePart) (cs : List (List Literal)) → IsAllSourced g R new s r → AreSourcedClauses g R new s cs → IsAllSourced g R new s (with_clauses r cs)
sourced_with g R new s r cs k h = record {
  term = k.term;
  clauses = kept_sourced g R new s (r.state.clauses ++ cs) (all_both (AllByRecursion (Of g R new s)) r.state.clauses cs k.clauses h);
  added = all_both (AllByRecursion (Of g R new s)) r.added cs k.added h;
}

-- ---- narrowing

sourced_with_term : (g : KoreSignature) (R : RuleBody → Type 0) (new : List SortedName) (s : SymbolicState) (r : StatePart) (e : Equation) (ys : List SortedName) → IsAllSourced g R new s r → IsSourcedAtom g R new s (same e.variable.sort (unknown e.variable) e.term) →
    IsAllSourced g R new s (part_with_term g e ys r)
sourced_with_term g R new s r e ys k here =
    let told : IsToldBy g R new s e = record { by = same e.variable.sort (unknown e.variable) e.term; sourced = here; tells = as_it_is e } in
    let put = flat_map (put_clause g e) r.state.clauses in
    let is = equates e.variable e.term in
    record {
      term = put_into r.state.term told.by e k.term here told.tells;
      clauses = kept_sourced g R new s (put ++ is) (all_both (AllByRecursion (Of g R new s)) put is
          (all_flat (AllByRecursion (Of g R new s)) (AllByRecursion (Of g R new s)) (put_clause g e) r.state.clauses (λ c i. clause_put g R new s e c told i) k.clauses)
          ((here, tt), tt));
      added = all_both (AllByRecursion (Of g R new s)) r.added is k.added ((here, tt), tt);
    }

narrowed_sourced : (g : KoreSignature) (R : RuleBody → Type 0) (s : SymbolicState) (left : Form) (p q : StatePart) → IsLeftOfSome g R left → IsGrownFrom g R s p → IsNarrowedFrom g left p q → IsGrownFrom g R s q
narrowed_sourced g R s left p _ of k itself = k
narrowed_sourced g R s left p _ of k (with_head r form x cs n lies tells) =
    let before = narrowed_sourced g R s left p r of k n in
    record {
      more = before.more;
      are = before.are;
      sourced = λ new h. let on = before.sourced new h in
          sourced_with g R new s r cs on (each_has (IsSourcedAtom g R new s) cs (λ a i. has_told_head left form r.state.term x cs a of on.term lies tells i));
    }
narrowed_sourced g R s left p _ of k (with_term r form x ys t n lies asks) =
    let before = narrowed_sourced g R s left p r of k n in
    record {
      more = before.more ++ ys;
      are = ap (λ xs. xs ++ ys) before.are ∙ append_assoc s.variables before.more ys;
      sourced = λ new h. let on = before.sourced new (all_first (Contains new) before.more ys h) in
          sourced_with_term g R new s r (record { variable = x; term = t }) ys on (becomes left form r.state.term x ys t of on.term lies asks (all_second (Contains new) before.more ys h));
    }

-- ---- clauses by which a rule fires

all_equal : (g : KoreSignature) (R : RuleBody → Type 0) (new : List SortedName) (s : SymbolicState) (es : List Equality) → AllByRecursion (λ e. IsSourcedAtom g R new s (same e.sort e.left e.right)) es → AreSourcedClauses g R new s (all_equality_clauses g es)
all_equal g R new s [] h = tt
all_equal g R new s (e ∷ es) h = all_both (AllByRecursion (Of g R new s)) (equality_clauses g e) (all_equality_clauses g es) (equality_sourced g R new s e h.0) (all_equal g R new s es h.1)

condition_sourced : (g : KoreSignature) (R : RuleBody → Type 0) (new : List SortedName) (s : SymbolicState) (body : RuleBody) (left : Form) (t : SymbolicTerm) (rs : List Replaced) (es : List Equality) → R body → IsFormOf g body left → IsSourcedTerm g R new s t →
    IsLaidOn g left t rs es → AreSourcedClauses g R new s (asked_clauses g body rs)
condition_sourced g R new s (rewrite m) left t rs es i f k h = each_has (IsSourcedAtom g R new s) (asked_clauses g (rewrite m) rs) (λ a c. of_condition m left t rs es a i f k h c)
condition_sourced g R new s (foreign_rule l) left t rs es i f k h = tt

clauses_sourced : (g : KoreSignature) (R : RuleBody → Type 0) (new : List SortedName) (s : SymbolicState) (body : RuleBody) (q : StatePart) (cs : List (List Literal)) → R body → AreClausesOf g body q cs → IsSourcedTerm g R new s q.state.term → AreSourcedClauses g R new s cs
clauses_sourced g R new s body q cs i h k =
    let t = h.met.part.state.term in
    let rs = h.met.bindings in
    let es = h.equalities.equalities in
    let on = subst (λ (z : StatePart). IsSourcedTerm g R new s z.state.term) (sym h.of_part) k in
    let laid : IsLaidOn g h.form t rs es = record { matches = h.equalities.laid.matches; bound = h.equalities.laid.bindings; once = h.is_met.once; equal = h.equalities.laid.equalities } in
    subst (AreSourcedClauses g R new s) (sym h.are)
    (all_both (AllByRecursion (Of g R new s)) h.met.equations (asked_clauses g body rs)
    (subst (AreSourcedClauses g R new s) (sym h.equalities.are)
    (all_equal g R new s es (each_member (λ e. IsSourcedAtom g R new s (same e.sort e.left e.right)) es (λ e c. equated h.form t rs es e (body, i, h.is_form) on laid c))))
    (condition_sourced g R new s body h.form t rs es i h.is_form on laid))

-- ---- solving

step_sourced : (g : KoreSignature) (R : RuleBody → Type 0) (new : List SortedName) (s x : SymbolicState) (o : Solvable) → IsSourcedTerm g R new s x.term × AreSourcedClauses g R new s x.clauses → first_solvable g x ≡ Some o →
    IsSourcedTerm g R new s (solved_at g o x).term × AreSourcedClauses g R new s (solved_at g o x).clauses
step_sourced g R new s x o k q =
    let f = found_in g x o q in
    let told = told_by g R new s f.clause o.equation (at_place (AllByRecursion (Of g R new s)) o.place x.clauses f.clause k.1 f.stands) f.gives in (
      put_into x.term told.by o.equation k.0 told.sourced told.tells,
      kept_sourced g R new s (solved_clauses g x.sort o.equation 0 (Some o.place) x.clauses) (clauses_solved g R new s x.sort o.equation 0 (Some o.place) x.clauses told k.1),
    )

solving_sourced : (g : KoreSignature) (R : RuleBody → Type 0) (new : List SortedName) (s x y : SymbolicState) → IsSourcedTerm g R new s x.term × AreSourcedClauses g R new s x.clauses → Solving g x y → IsSourcedTerm g R new s y.term × AreSourcedClauses g R new s y.clauses
solving_sourced g R new s x _ k (finished _ q) = k
solving_sourced g R new s x y k (goes_on _ _ o q r) = solving_sourced g R new s (solved_at g o x) y (step_sourced g R new s x o k q) r

solving_keeps : (g : KoreSignature) (x y : SymbolicState) → Solving g x y → y.variables ≡ x.variables
solving_keeps g x _ (finished _ q) = refl
solving_keeps g x y (goes_on _ _ o q r) = solving_keeps g (solved_at g o x) y r

-- ---- the whole

with_sourced : (g : KoreSignature) (R : RuleBody → Type 0) (s : SymbolicState) (r : StatePart) (cs : List (List Literal)) → IsGrownFrom g R s r → ((new : List SortedName) → IsAllSourced g R new s r → AreSourcedClauses g R new s cs) → IsGrownFrom g R s (with_clauses r cs)
with_sourced g R s r cs k f = record { more = k.more; are = k.are; sourced = λ new h. sourced_with g R new s r cs (k.sourced new h) (f new (k.sourced new h)) }

pub comes_sourced : (g : KoreSignature) (R : RuleBody → Type 0) (s : SymbolicState) (q : StatePart) → ComesFrom g R (whole s) q → IsGrownFrom g R s q
comes_sourced g R s q (narrowed r _ body form c i f n) = narrowed_sourced g R s form r q (body, i, f) (comes_sourced g R s r c) n
comes_sourced g R s _ (fires r body cs c i of) = with_sourced g R s r cs (comes_sourced g R s r c) (λ new k. clauses_sourced g R new s body r cs i of k.term)
comes_sourced g R s _ (excluded r body cs c i of) =
    with_sourced g R s r (negated g r.state.sort cs) (comes_sourced g R s r c) (λ new k. negated_sourced g R new s r.state.sort cs (clauses_sourced g R new s body r cs i of k.term))
comes_sourced g R s q (solved r _ c o e) =
    let before = comes_sourced g R s r c in
    record {
      more = before.more;
      are = solving_keeps g r.state q.state o ∙ before.are;
      sourced = λ new h.
          let on = before.sourced new h in
          let after = solving_sourced g R new s r.state q.state (on.term, on.clauses) o in
          record { term = after.0; clauses = after.1; added = subst (AreSourcedClauses g R new s) (sym e) on.added };
    }
comes_sourced g R s _ comes_itself = record { more = []; are = sym (append-nil s.variables); sourced = λ new h. itself_sourced g R new s }
