-- From what the parts of a step answer to what they say of one rule.
use Rattle.std.proofs.Common.{◌≡◌, refl, sym, ap, subst, ◌∙◌, ℕ, zero, suc, ◌+◌, ◌<◌, length, drop, get_or, Bool, true, false, not, ◌&&◌, ◌||◌, ◌↔◌, List, [], ◌∷◌, map, Option, Some, None, Ok, Err, Vec, inr, arith, nat_eq}
use Rattle.std.specs.Prelude.{◌⊎◌, IsTrue, IfSome}
use Rattle.std.specs.Option.{is_some}
use Rattle.std.specs.List.{list_all}
use Rattle.std.specs.declared.alloc.Global.{Global}
use Rattle.kp_kore.specs.Syntax.{KorePattern}
use Rattle.kp_kore.specs.Signature.{KoreSignature}
use Rattle.kp_kore.specs.View.{sorted_variable_view}
use Rattle.kp_kore.specs.declared.pattern_free.SortedVariable.{SortedVariable}
use Rattle.kp_kore.specs.Value.{Value}
use Rattle.kp_kore.specs.Instance.{Valuation}
use Rattle.kp_kore.specs.Numbers.{computes_wide}
use Rattle.kp_kore.proofs.InstanceLemmas.{first_true, second_true}
use Rattle.kp_ground.specs.Outcomes.{Gives}
use Rattle.kp_ground.specs.Solves.{Solves}
use Rattle.kp_ground.specs.Matches.{IsSolvable}
use Rattle.kp_ground.specs.Terms.{RuleTerm, stays_narrow}
use Rattle.kp_ground.specs.Conditions.{condition_narrow}
use Rattle.kp_ground.specs.ConditionView.{condition_view}
use Rattle.kp_ground.specs.declared.binding.Binding.{Binding}
use Rattle.kp_ground.specs.declared.evaluate.EvaluationError.{EvaluationError}
use Rattle.kp_ground.specs.declared.evaluate.EvaluationError.TheVariants as evaluating
use Rattle.kp_rules.specs.Heads.{FindsFiring, FiresAs, Meets, IsWide}
use Rattle.kp_rules.specs.declared.rule.Rewrite as code
use Rattle.kp_rules.specs.declared.right_side.RightSide.{RightSide}
use Rattle.kp_rules.specs.declared.rule.RuleBody.TheVariants.{Rewrite}
use Rattle.kp_run.specs.Turns.{BodyIsWide}
use Rattle.kp_successors.specs.Errors.{IsUnvalued, IsFromEvaluation}
use Rattle.kp_successors.specs.Nexts.{IsNextBy, IsNextOf, is_right_narrow}
use Rattle.kp_successors.specs.Turns.{RightIsWide}
use Rattle.kp_successors.specs.declared.error.GroundError.{GroundError}

-- ---- tests

pub not_wide : (a b : Bool) → a ≡ not b → a ≡ true → b ≡ false
not_wide a true e f = absurd (cc)
not_wide a false e f = refl

pub is_wide : (a b : Bool) → a ≡ not b → a ≡ false → b ≡ true
is_wide a true e f = refl
is_wide a false e f = absurd (cc)

-- ---- evaluations

-- of the configuration's own term
pub unvalued : (g : KoreSignature) (p : KorePattern) (t : RuleTerm) (x : EvaluationError) (y : GroundError) → IsFromEvaluation x y → Gives (Err x) [] t → ((v : Valuation) → stays_narrow v t ≡ not (computes_wide g v p)) → IsUnvalued g p y
unvalued g p t evaluating.Number y from h n = subst (IsUnvalued g p) (sym from) (λ v. is_wide (stays_narrow v t) (computes_wide g v p) (n v) (h v tt))
unvalued g p t evaluating.Memory y from h n = subst (IsUnvalued g p) (sym from) tt

-- ---- one rule on a value

pub fires_as : (g : KoreSignature) (r : code.Rewrite) (u : Value) (o : Option (Vec Binding Global)) → FindsFiring (Ok o) g r u → IfSome o (λ new. IsSolvable new.items) → IsTrue (is_some o) ↔ ((v : Valuation) × FiresAs g r u v)
fires_as g r u (Some bs) h s = ((λ k. (s.0, (h s.0).0 s.1)), (λ f. refl))
fires_as g r u None h s = ((λ k. absurd (cc)), (λ f. absurd (h f.0 f.1)))

pub condition_stays : (g : KoreSignature) (r : code.Rewrite) (u : Value) → ((v : Valuation) → Meets g r v u → condition_narrow v (condition_view r.condition) ≡ true) → ¬ IsWide g r u
condition_stays g r u h w = let n = h w.valuation w.meets in let k = w.wide in absurd (cc)

-- the same next pattern under as many valuations
next_by_moved : (g : KoreSignature) (r : code.Rewrite) (o : Option RightSide) (P Q : Valuation → Type 0) (p : KorePattern) → ((v : Valuation) → Q v → P v) → IsNextBy g r o P p → IsNextBy g r o Q p
next_by_moved g r None P Q p f h = record { value = h.value; meant = λ v q. h.meant v (f v q); spelled = h.spelled }
next_by_moved g r (Some s) P Q p f h = record { terms = h.terms; names = h.names; spelled = λ v q gives. h.spelled v (f v q) gives; pattern = h.pattern }

pub next_moved : (g : KoreSignature) (r : code.Rewrite) (P Q : Valuation → Type 0) (p : KorePattern) → ((v : Valuation) → Q v → P v) → IsNextOf g r P p → IsNextOf g r Q p
next_moved g r P Q p f h = next_by_moved g r r.choice P Q p f h

pub right_stays : (g : KoreSignature) (r : code.Rewrite) (u : Value) (bs : List Binding) → ((v : Valuation) → Solves v bs ↔ FiresAs g r u v) → ((v : Valuation) → Solves v bs → is_right_narrow r v ≡ true) → ¬ RightIsWide g u (Rewrite r)
right_stays g r u bs h n w = let k = n w.0 ((h w.0).1 w.1) in let f = w.2 in absurd (cc)

pub none_wide : (g : KoreSignature) (r : code.Rewrite) (u : Value) → ((v : Valuation) → ¬ FiresAs g r u v) → ¬ RightIsWide g u (Rewrite r)
none_wide g r u h w = h w.0 w.1

pub right_leaves : (g : KoreSignature) (r : code.Rewrite) (u : Value) (bs : List Binding) → ((v : Valuation) → Solves v bs ↔ FiresAs g r u v) → IsSolvable bs → ((v : Valuation) → Solves v bs → is_right_narrow r v ≡ false) →
    BodyIsWide g u (Rewrite r) ⊎ RightIsWide g u (Rewrite r)
right_leaves g r u bs h s n = inr (s.0, (h s.0).0 s.1, n s.0 s.1)

-- ---- lists

-- what passes a test, at its place
pub so_at : {A : Type 0} (f : A → Bool) (xs : List A) (i : ℕ) (x : A) → i < length xs → x ≡ get_or xs i x → list_all f xs ≡ true → f x ≡ true
so_at f [] i x lt is h = absurd (omega arith)
so_at f (y ∷ ys) zero x lt is h = ap f is ∙ first_true (f y) (list_all f ys) h
so_at f (y ∷ ys) (suc i) x lt is h = so_at f ys i x (omega arith) is (second_true (f y) (list_all f ys) h)

pub passes_at : {A : Type 0} (f : A → Bool) (xs : List A) (i : ℕ) (x : A) → i < length xs → x ≡ get_or xs i x → f x ≡ true → list_all f (drop i xs) ≡ list_all f (drop (i + 1) xs)
passes_at f [] i x lt is h = absurd (omega arith)
passes_at f (y ∷ ys) zero x lt is h = ap (λ z. f z && list_all f ys) (sym is) ∙ ap (λ b. b && list_all f ys) h
passes_at f (y ∷ ys) (suc i) x lt is h = passes_at f ys i x (omega arith) is h ∙ ap (λ n. list_all f (drop n (y ∷ ys))) (next i)
  where
    next : (i : ℕ) → suc (i + 1) ≡ suc i + 1
    next i = omega arith

-- and what doesn't
pub fails_at : {A : Type 0} (f : A → Bool) (xs : List A) (i : ℕ) (x : A) → i < length xs → x ≡ get_or xs i x → f x ≡ false → list_all f (drop i xs) ≡ false
fails_at f [] i x lt is h = absurd (omega arith)
fails_at f (y ∷ ys) zero x lt is h = ap (λ z. f z && list_all f ys) (sym is) ∙ ap (λ b. b && list_all f ys) h
fails_at f (y ∷ ys) (suc i) x lt is h = fails_at f ys i x (omega arith) is h

-- a list that isn't empty
pub not_none : (b : Bool) (xs : List SortedVariable) → b ≡ nat_eq (length xs) 0 → b ≡ false → ¬ (map sorted_variable_view xs ≡ [])
not_none b [] e f h = absurd (cc)
not_none b (x ∷ xs) e f h = absurd (cc)

-- the last of three, where the second isn't
pub last_of : (a b c : Bool) → b ≡ false → (a && b) || c ≡ true → c ≡ true
last_of true true c e h = absurd (cc)
last_of true false c e h = h
last_of false b c e h = h
