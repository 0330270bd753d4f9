-- What is shown compares no more whole-number variables than stand in the state and in the rules' left sides.
use Rattle.std.proofs.Common.{◌≡◌, refl, sym, ap, subst, ◌∙◌, ℕ, ◌+◌, arith, Bool, true, false, List, [], ◌∷◌, ◌++◌, Option, Some, None, Result, Ok, Err, IfOk, map}
use Rattle.std.specs.Prelude.{if◌then◌else◌}
use Rattle.kp_kore.specs.Signature.{KoreSignature}
use Rattle.kp_kore.specs.Rules.{RewriteRule}
use Rattle.kp_kore.specs.Theory.{Theory}
use Rattle.kp_symbolic.specs.States.{SymbolicState}
use Rattle.kp_symbolic.specs.Verdicts.{Weighed}
use Rattle.kp_symbolic.specs.Shown.{whole_variables, sum_over}
use Rattle.kp_limits.specs.declared.weight.Weighed as code
use Rattle.kp_satisfiability.specs.Answers.{IsWeighedAs}
use Rattle.kp_rules.specs.Skeletons.{Form}
use Rattle.kp_limits.specs.Compared.{numeric_places}
use Rattle.kp_step.specs.Comes.{IsFormOf}
use Rattle.std.specs.List.{AllZip}
use Rattle.kp_rule_sets.specs.declared.rule_set.RuleSet.{RuleSet}
use Rattle.kp_unify.specs.Views.{signature_of}
use Rattle.kp_unify.specs.declared.part.Setting.{Setting}
use Rattle.kp_step.specs.Rules.{Steps}
use Rattle.kp_step.specs.Found.{IsRuleAt}
use Rattle.kp_step.specs.Views.{turn_view}
use Rattle.kp_step.specs.Promises.{AreAsked}
use Rattle.kp_step.specs.declared.turns.Turn.{Turn}
use Rattle.kp_step.specs.declared.part_answers.UndecidedClauses.{UndecidedClauses}
use Rattle.kp_step.specs.Counted.{these_rules, AreLeftsOf, has_numbers_above, counted_lefts, most_for, IsMost, ComparesWithin, IsComparedWithin, IsCounted}

-- what was counted is told of the weight that is meant
pub counted_for : (g : KoreSignature) (s p : SymbolicState) (rules : List RewriteRule) (n : ℕ) (h : Option Weighed) (w : Option code.Weighed) → IsMost g s rules n → IsCounted g p n w → IsWeighedAs h w → ComparesWithin g s p rules h
counted_for g s p rules n None w m c i = tt
counted_for g s p rules n (Some h) None m c i = absurd i
counted_for g s p rules n (Some h) (Some w) m c i = (n, m, c)

-- ---- one left side more

pub one_more_left : (g : KoreSignature) (rules : List RewriteRule) (lefts : List Form) (r : RewriteRule) (left : Form) → AreLeftsOf g rules lefts → IsFormOf g r.body left → AreLeftsOf g (rules ++ r ∷ []) (lefts ++ left ∷ [])
one_more_left g [] [] r left z f = (f, tt)
one_more_left g [] (l ∷ lefts) r left z f = absurd z
one_more_left g (q ∷ rules) [] r left z f = absurd z
one_more_left g (q ∷ rules) (l ∷ lefts) r left z f = (z.0, one_more_left g rules lefts r left z.1 f)

pub sum_more : (g : KoreSignature) (lefts : List Form) (left : Form) → sum_over (numeric_places g) (lefts ++ left ∷ []) ≡ sum_over (numeric_places g) lefts + numeric_places g left
sum_more g [] left = let n = numeric_places g left in omega arith
sum_more g (l ∷ lefts) left = let e = sum_more g lefts left in omega (arith, e)

-- with the rules passed so far, one more
pub counts_more : (g : KoreSignature) (rules : List RewriteRule) (lefts : List Form) (r : RewriteRule) (left : Form) (begun before after : ℕ) → AreLeftsOf g rules lefts → before ≡ begun + sum_over (numeric_places g) lefts → IsFormOf g r.body left → after ≡ before + numeric_places g left →
    (all : List Form) × AreLeftsOf g (rules ++ r ∷ []) all × (after ≡ begun + sum_over (numeric_places g) all)
counts_more g rules lefts r left begun before after z e f d =
    let s = sum_more g lefts left in
    (lefts ++ left ∷ [], one_more_left g rules lefts r left z f, omega (arith, e, d, s))

-- ---- in all

-- the places, each twice where sorts with only numbers have sorts below them
abbrev pub each_counted : KoreSignature → ℕ → ℕ
each_counted g n = if has_numbers_above g then n + n else n

sum_both : (g : KoreSignature) (xs ys : List Form) → sum_over (numeric_places g) (xs ++ ys) ≡ sum_over (numeric_places g) xs + sum_over (numeric_places g) ys
sum_both g [] ys = let n = sum_over (numeric_places g) ys in omega arith
sum_both g (x ∷ xs) ys = let e = sum_both g xs ys in omega (arith, e)

lefts_counted : (g : KoreSignature) (lefts : List Form) → each_counted g (sum_over (numeric_places g) lefts) ≡ sum_over (numeric_places g) (counted_lefts g lefts)
lefts_counted g lefts = by (has_numbers_above g)
  where
    by : (b : Bool) → (if b then sum_over (numeric_places g) lefts + sum_over (numeric_places g) lefts else sum_over (numeric_places g) lefts) ≡ sum_over (numeric_places g) (if b then lefts ++ lefts else lefts)
    by true = sym (sum_both g lefts lefts)
    by false = refl

pub all_counted : (g : KoreSignature) (s : SymbolicState) (begun places n : ℕ) (lefts : List Form) → begun ≡ whole_variables g s.variables → n ≡ begun + each_counted g places → places ≡ sum_over (numeric_places g) lefts → n ≡ most_for g s lefts
all_counted g s begun places n lefts b e p =
    e ∙ ap (λ m. m + each_counted g places) b ∙ ap (λ m. whole_variables g s.variables + m) (ap (each_counted g) p ∙ lefts_counted g lefts)

pub most_of_one : (g : KoreSignature) (s : SymbolicState) (r : RewriteRule) (left : Form) → IsFormOf g r.body left → IsMost g s (r ∷ []) (most_for g s (left ∷ []))
most_of_one g s r left f = (left ∷ [], (f, tt), refl)

pub most_of_none : (g : KoreSignature) (s : SymbolicState) → IsMost g s [] (most_for g s [])
most_of_none g s = ([], tt, refl)

pub counts_none : (g : KoreSignature) (begun : ℕ) → (lefts : List Form) × AreLeftsOf g [] lefts × (begun ≡ begun + sum_over (numeric_places g) lefts)
counts_none g begun = ([], tt, omega arith)

-- ---- by what the code counts

-- what the code counts for so many places
abbrev pub CountsFor : KoreSignature → SymbolicState → ℕ → ℕ → Type 0
CountsFor g s places n = (lefts : List Form) → places ≡ sum_over (numeric_places g) lefts → n ≡ most_for g s lefts

pub counted_from : {E : Type 0} (g : KoreSignature) (s : SymbolicState) (begun places each : ℕ) (n : Result ℕ E) → begun ≡ whole_variables g s.variables → each ≡ each_counted g places → IfOk n (λ m. m ≡ begun + each) → IfOk n (CountsFor g s places)
counted_from g s begun places each (Ok n) b e k = λ lefts p. all_counted g s begun places n lefts b (k ∙ ap (λ m. begun + m) e) p
counted_from g s begun places each (Err x) b e k = tt

pub turns_are_most : {E : Type 0} (t : Theory) (s : SymbolicState) (found : List RewriteRule) (places : ℕ) (n : Result ℕ E) {h : KoreSignature} → h ≡ t.signature → ((lefts : List Form) × AreLeftsOf t.signature found lefts × (places ≡ 0 + sum_over (numeric_places t.signature) lefts)) → IfOk n (CountsFor h s places) → IfOk n (IsMost t.signature s found)
turns_are_most t s found places (Ok n) e k c =
    let d = subst (λ g. CountsFor g s places n) e c in
    let q = k.2 in
    (k.0, k.1, d k.0 (omega (arith, q)))
turns_are_most t s found places (Err x) e k c = tt

pub turns_and_left : {E : Type 0} (t : Theory) (s : SymbolicState) (r : RewriteRule) (left : Form) (found : List RewriteRule) (own places : ℕ) (n : Result ℕ E) {h : KoreSignature} → h ≡ t.signature → own ≡ numeric_places h left → IsFormOf t.signature r.body left →
    ((lefts : List Form) × AreLeftsOf t.signature found lefts × (places ≡ own + sum_over (numeric_places t.signature) lefts)) → IfOk n (CountsFor h s places) → IfOk n (IsMost t.signature s (r ∷ found))
turns_and_left t s r left found own places (Ok n) e o f k c =
    let d = subst (λ g. CountsFor g s places n) e c in
    let p : own ≡ numeric_places t.signature left = o ∙ ap (λ g. numeric_places g left) e in
    let q = k.2 in
    (left ∷ k.0, (f, k.1), d (left ∷ k.0) (omega (arith, p, q)))
turns_and_left t s r left found own places (Err x) e o f k c = tt

pub one_left_counted : {E : Type 0} (g : KoreSignature) (s : SymbolicState) (left : Form) (places : ℕ) (n : Result ℕ E) → places ≡ numeric_places g left → IfOk n (CountsFor g s places) → IfOk n (λ m. m ≡ most_for g s (left ∷ []))
one_left_counted g s left places (Ok n) e c = c (left ∷ []) (omega (arith, e))
one_left_counted g s left places (Err x) e c = tt

pub none_counted : {E : Type 0} (g : KoreSignature) (s : SymbolicState) (n : Result ℕ E) → IfOk n (CountsFor g s 0) → IfOk n (λ m. m ≡ most_for g s [])
none_counted g s (Ok n) c = c [] refl
none_counted g s (Err x) c = tt

-- where no weight is told, nothing is compared; else what was counted
pub not_weighed : (g : KoreSignature) (s p : SymbolicState) (rules : List RewriteRule) (w : Option code.Weighed) → w ≡ None → IsComparedWithin g s p rules w
not_weighed g s p rules w e None i = tt
not_weighed g s p rules w e (Some h) i = absurd (subst (IsWeighedAs (Some h)) e i)

pub counted_within : (t : Theory) (g : KoreSignature) (s p : SymbolicState) (rules : List RewriteRule) (n : ℕ) (w : Option code.Weighed) → g ≡ t.signature → IsMost t.signature s rules n → IsCounted g p n w → IsComparedWithin g s p rules w
counted_within t g s p rules n w e m c h i = counted_for g s p rules n h w (subst (λ k. IsMost k s rules n) (sym e) m) c i

pub counted_if : {E : Type 0} (t : Theory) (g : KoreSignature) (s p : SymbolicState) (rules : List RewriteRule) (n : ℕ) (r : Result UndecidedClauses E) → g ≡ t.signature → IsMost t.signature s rules n → IfOk r (λ o. IsCounted g p n o.over) → IfOk r (λ o. IsComparedWithin g s p rules o.over)
counted_if t g s p rules n (Ok o) e m c = counted_within t g s p rules n o.over e m c
counted_if t g s p rules n (Err x) e m c = tt

-- ---- what is asked for

pub asked_signature : (t : Theory) (k : Setting) (rules : RuleSet) (turns : List Turn) (left : Option Form) (o : Option RewriteRule) (found : List RewriteRule) → AreAsked t k rules turns left o found → signature_of k ≡ t.signature
asked_signature t k rules turns (Some left) (Some r) found a = a.0.signature
asked_signature t k rules turns None None found a = a.0.signature
asked_signature t k rules turns (Some left) None found a = absurd a
asked_signature t k rules turns None (Some r) found a = absurd a

pub asked_with : (t : Theory) (k : Setting) (rules : RuleSet) (turns : List Turn) (left : Form) (o : Option RewriteRule) (found : List RewriteRule) (P : List RewriteRule → Type 0) → AreAsked t k rules turns (Some left) o found →
    ((r : RewriteRule) → Steps t k rules → IsFormOf t.signature r.body left → AllZip (IsRuleAt t) (map turn_view turns) found → P (r ∷ found)) → P (these_rules o found)
asked_with t k rules turns left (Some r) found P a f = f r a.0 a.1 a.2
asked_with t k rules turns left None found P a f = absurd a

pub asked_alone : (t : Theory) (k : Setting) (rules : RuleSet) (turns : List Turn) (o : Option RewriteRule) (found : List RewriteRule) (P : List RewriteRule → Type 0) → AreAsked t k rules turns None o found →
    (Steps t k rules → AllZip (IsRuleAt t) (map turn_view turns) found → P found) → P (these_rules o found)
asked_alone t k rules turns None found P a f = f a.0 a.1
asked_alone t k rules turns (Some r) found P a f = absurd a
