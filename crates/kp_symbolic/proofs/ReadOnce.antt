-- Reading is a function: two readings of one pattern are equal. A state that is easy by itself is plain and within the limits.
use Rattle.std.proofs.Common.{◌≡◌, refl, sym, ◌∙◌, subst, arith, ℕ, ◌+◌, ◌*◌, ◌^◌, ◌<◌, ◌≤◌, Bool, true, false, ◌||◌, List, [], ◌∷◌, length, Some, None}
use Rattle.std.specs.Prelude.{is_some}
use Rattle.std.specs.List.{list_all}
use Rattle.kp_kore.specs.Syntax.{KorePattern}
use Rattle.kp_kore.specs.Signature.{KoreSignature}
use Rattle.kp_kore.proofs.InstanceLemmas.{first_true, second_true}
use Rattle.kp_symbolic.specs.States.{SymbolicState}
use Rattle.kp_symbolic.specs.Solving.{solved_at, Solving, finished, goes_on, IsReadAs}
use Rattle.kp_symbolic.specs.Plain.{ReadLiteral, is_plain_clause, IsPlainState, read_clauses}
use Rattle.kp_symbolic.specs.Weights.{bits, literals, product, numeric_names, all_bounds, IsWithinLimits}
use Rattle.kp_symbolic.specs.Shown.{IsEasy, RuleShape, is_plain_but, numeric_count}

some_inside : {A : Type 0} {a b : A} → Some a ≡ Some b → a ≡ b
some_inside e = cc

none_is_some : {A : Type 0} {a : A} → None ≡ Some a → ⊥
none_is_some e = cc

pub solving_once : (g : KoreSignature) (s a b : SymbolicState) → Solving g s a → Solving g s b → a ≡ b
solving_once g s _ _ (finished _ e) (finished _ f) = refl
solving_once g s _ b (finished _ e) (goes_on _ _ o f r) = absurd (none_is_some (sym e ∙ f))
solving_once g s a _ (goes_on _ _ o e r) (finished _ f) = absurd (none_is_some (sym f ∙ e))
solving_once g s a b (goes_on _ _ o e r) (goes_on _ _ n f q) = solving_once g (solved_at g o s) a b r (subst (λ z. Solving g (solved_at g z s) b) (some_inside (sym f ∙ e)) q)

pub read_once : (g : KoreSignature) (p : KorePattern) (s t : SymbolicState) → IsReadAs g p s → IsReadAs g p t → s ≡ t
read_once g p s t r q = solving_once g r.opened s t r.solving (subst (λ z. Solving g z t) (some_inside (sym q.is_opened ∙ r.is_opened)) q.solving)

-- ---- easy states are plain

or_none : (b : Bool) → b || false ≡ b
or_none true = refl
or_none false = refl

plain_clause : (g : KoreSignature) (c : List ReadLiteral) → is_plain_but g false c ≡ true → is_plain_clause c ≡ true
plain_clause g [] e = refl
plain_clause g (l ∷ c) e =
    let a = first_true (is_some l.form || false) (is_plain_but g false c) e in
    rw (sym (or_none (is_some l.form)) ∙ a) (plain_clause g c (second_true (is_some l.form || false) (is_plain_but g false c) e))

plain_clauses : (g : KoreSignature) (cs : List (List ReadLiteral)) → list_all (is_plain_but g false) cs ≡ true → list_all is_plain_clause cs ≡ true
plain_clauses g [] e = refl
plain_clauses g (c ∷ cs) e = rw (plain_clause g c (first_true (is_plain_but g false c) (list_all (is_plain_but g false) cs) e)) (plain_clauses g cs (second_true (is_plain_but g false c) (list_all (is_plain_but g false) cs) e))

pub easy_is_plain : (g : KoreSignature) (s : SymbolicState) (rules : List RuleShape) → IsEasy g s rules → IsPlainState g s
easy_is_plain g s rules e = plain_clauses g (read_clauses g s) e.simple.plain

-- ---- and within the limits

at_most_product : (n : ℕ) → n * 2 ^ 0 ≤ 4096 → 4096 < n → ⊥
at_most_product n h k = omega (arith, h, k)

at_most_literals : (n : ℕ) → n + (2 * 0 + 0) ≤ 512 → 512 < n → ⊥
at_most_literals n h k = omega (arith, h, k)

at_most_bits : (n names k count : ℕ) → n ≡ names + k → names ≤ count → k + (count + 3) ≤ 126 → 126 < n → ⊥
at_most_bits n names k count e i h j = omega (arith, e, i, h, j)

pub easy_is_within : (g : KoreSignature) (s : SymbolicState) → IsEasy g s [] → length (numeric_names (all_bounds (read_clauses g s))) ≤ numeric_count g s [] → IsWithinLimits g s
easy_is_within g s e i product n o = at_most_product n (e.small product n o.weighs) o.above
easy_is_within g s e i literals n o = at_most_literals n (e.small literals n o.weighs) o.above
easy_is_within g s e i bits n o = at_most_bits n (length (numeric_names (all_bounds (read_clauses g s)))) o.weighs.0 (numeric_count g s []) o.weighs.2 i (e.small bits o.weighs.0 o.weighs.1) o.above
