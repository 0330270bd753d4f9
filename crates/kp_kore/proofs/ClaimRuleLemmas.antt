-- Where a claim's rule fires, its left side has an instance, and what its right side reaches is a successor.
use Rattle.std.proofs.Common.{◌≡◌, refl, sym, ◌∙◌, subst, Bool, true, false, not, ◌&&◌, List, [], ◌∷◌, ◌++◌, ◌⊎◌, inl, inr, Option, Some, None}
use Rattle.std.specs.Prelude.{if◌then◌else◌}
use Rattle.std.specs.List.{AllByRecursion, Contains, filter, list_all}
use Rattle.std.specs.Str.{bytes_eq}
use Rattle.kp_kore.specs.Syntax.{Text, KorePattern, exists}
use Rattle.kp_kore.specs.Parts.{SortedName, is_term, free_variables}
use Rattle.kp_kore.specs.Signature.{KoreSignature}
use Rattle.kp_kore.specs.Value.{Value, HasSort}
use Rattle.kp_kore.specs.Instance.{Valuation, assigned, GivesSorts, AgreesOff, AgreesOn, is_named, IsInstance, IsInstanceOfOne, IsConjunctionInstance, IsTrueUnder, is_predicate, conjuncts, conjoined_terms, conjoined_predicates}
use Rattle.kp_kore.specs.Rules.{Rewrite, RewriteRule, only_one, constrained_term, top_binders, under_binders, have_distinct_names, new_variables_of, joined}
use Rattle.kp_kore.specs.Steps.{FiresUnder, LeadsTo}
use Rattle.kp_kore.specs.Claims.{ReachabilityClaim, IsReached}
use Rattle.kp_kore.specs.ClaimRules.{IsClaimRule}
use Rattle.kp_kore.proofs.TurnLemmas.{of_member}
use Rattle.kp_kore.proofs.InstanceLemmas.{same_instance}
use Rattle.kp_kore.proofs.TruthLemmas.{same_truth}
use Rattle.kp_kore.proofs.ListLemmas.{all_append, all_map, all_filter}
use Rattle.kp_kore.proofs.NameLemmas.{first_false, second_false, same_bytes, true_is_false, members_named, by_name, taken_named, named_append, under, of_conjuncts, not_bound}

pub record ReadAs (l r : KorePattern) (rule : Rewrite) : Type 0 where
  pub distinct : have_distinct_names (top_binders r) ≡ true
  pub left : conjoined_terms l ≡ rule.left ∷ []
  pub right : conjoined_terms (under_binders r) ≡ rule.right ∷ []
  pub condition : rule.condition ≡ conjoined_predicates l
  pub ensured : rule.ensured ≡ conjoined_predicates (under_binders r)
  pub new : rule.new_variables ≡ new_variables_of rule.left r

the_one : (ts : List KorePattern) (t : KorePattern) → only_one ts ≡ Some t → ts ≡ t ∷ []
the_one [] t e = absurd (cc)
the_one (x ∷ []) t e = cc
the_one (x ∷ y ∷ ts) t e = absurd (cc)

term_of : (p t : KorePattern) → constrained_term p ≡ Some t → conjoined_terms p ≡ t ∷ []
term_of p t e = by_test (list_all is_predicate (conjoined_predicates p)) e
  where
    by_test : (b : Bool) → (if b then only_one (conjoined_terms p) else None) ≡ Some t → conjoined_terms p ≡ t ∷ []
    by_test true e = the_one (conjoined_terms p) t e
    by_test false e = absurd (cc)

read_joined : (l r : KorePattern) (rule : Rewrite) → have_distinct_names (top_binders r) ≡ true → (a b : Option KorePattern) → constrained_term l ≡ a → constrained_term (under_binders r) ≡ b → joined l r a b ≡ Some rule → ReadAs l r rule
read_joined l r rule distinct (Some left) (Some right) la rb e =
    let is : record { left = left; condition = conjoined_predicates l; new_variables = new_variables_of left r; right = right; ensured = conjoined_predicates (under_binders r) } ≡ rule = cc in
    subst (ReadAs l r) is (record { distinct = distinct; left = term_of l left la; right = term_of (under_binders r) right rb; condition = refl; ensured = refl; new = refl })
read_joined l r rule distinct (Some left) None la rb e = absurd (cc)
read_joined l r rule distinct None b la rb e = absurd (cc)

pub read_as : (l r : KorePattern) (rule : Rewrite) → (if have_distinct_names (top_binders r) then joined l r (constrained_term l) (constrained_term (under_binders r)) else None) ≡ Some rule → ReadAs l r rule
read_as l r rule e = by_test (have_distinct_names (top_binders r)) refl e
  where
    by_test : (b : Bool) → have_distinct_names (top_binders r) ≡ b → (if b then joined l r (constrained_term l) (constrained_term (under_binders r)) else None) ≡ Some rule → ReadAs l r rule
    by_test true d e = read_joined l r rule d (constrained_term l) (constrained_term (under_binders r)) refl refl e
    by_test false d e = absurd (cc)

-- ---- a pattern with a conjoined term isn't under \exists

pub met_of : (g : KoreSignature) (v : Valuation) (p t : KorePattern) (u : Value) → conjoined_terms p ≡ t ∷ [] → IsConjunctionInstance g v p u → IsInstance g v p u
met_of g v (exists s x q p) t u e h = absurd (cc)
met_of g v _ t u e h = h

pub conjunction_of : (g : KoreSignature) (v : Valuation) (p t : KorePattern) (u : Value) → conjoined_terms p ≡ t ∷ [] → IsInstance g v p u → IsConjunctionInstance g v p u
conjunction_of g v (exists s x q p) t u e h = absurd (cc)
conjunction_of g v _ t u e h = h

-- ---- where the rule fires, the configuration is an instance of the left side

pub fires_left : (g : KoreSignature) (claim : ReachabilityClaim) (r : RewriteRule) (k : IsClaimRule claim r) (w : Valuation) (c : Value) → FiresUnder g k.rule w c → GivesSorts g w (free_variables claim.left) × IsInstance g w claim.left c
fires_left g claim r k w c fires =
    let read : ReadAs claim.left claim.right k.rule = read_as claim.left claim.right k.rule k.reads in (
      all_map (Contains (free_variables k.rule.left)) (λ x. HasSort g x.sort (w x.name)) (free_variables claim.left) (λ x m. of_member (λ x. HasSort g x.sort (w x.name)) (free_variables k.rule.left) x fires.sorts m) k.variables,
      met_of g w claim.left k.rule.left c read.left (record {
        term = subst (λ ts. IsInstanceOfOne g w ts c) (sym read.left) (sym fires.matches);
        predicates = subst (AllByRecursion (IsTrueUnder g w)) read.condition fires.condition;
      }),
    )

-- ---- under the binders

record Opened (g : KoreSignature) (u : Valuation) (p : KorePattern) (e : Value) : Type 0 where
  at : Valuation
  off : AgreesOff (top_binders p) u at
  sorts : GivesSorts g at (top_binders p)
  met : IsInstance g at (under_binders p) e

and_first : (a b : Bool) → not a && b ≡ true → a ≡ false
and_first true b h = absurd (cc)
and_first false b h = refl

and_second : (a b : Bool) → a && b ≡ true → b ≡ true
and_second true b h = h
and_second false b h = absurd (cc)

opened_of : (g : KoreSignature) (u : Valuation) (p : KorePattern) (e : Value) → have_distinct_names (top_binders p) ≡ true → IsInstance g u p e → Opened g u p e
opened_of g u (exists s x t p) e distinct met =
    let inner : Opened g (assigned u x met.0) p e = opened_of g (assigned u x met.0) p e (and_second (not (is_named x (top_binders p))) (have_distinct_names (top_binders p)) distinct) met.2 in
    let here : inner.at x ≡ met.0 = inner.off x (and_first (is_named x (top_binders p)) (have_distinct_names (top_binders p)) distinct) ∙ (rw (same_bytes x) refl) in
    record {
      at = inner.at;
      off = λ y n. inner.off y (second_false (bytes_eq x y) (is_named y (top_binders p)) n) ∙ (rw (first_false (bytes_eq x y) (is_named y (top_binders p)) n) refl);
      sorts = (subst (HasSort g t) (sym here) met.1, inner.sorts);
      met = inner.met;
    }
opened_of g u _ e distinct met = record { at = u; off = λ y n. refl; sorts = tt; met = met }

-- ---- what is reached is a successor by the rule

-- the values of the new variables as they are at hand, of the others as before
chosen_of : List SortedName → Valuation → Valuation → Valuation
chosen_of new w at = λ y. if is_named y new then at y else w y

chosen_new : (new : List SortedName) (w at : Valuation) (y : Text) → is_named y new ≡ true → chosen_of new w at y ≡ at y
unfolding chosen_of
chosen_new new w at y n = rw n refl

chosen_old : (new : List SortedName) (w at : Valuation) (y : Text) → is_named y new ≡ false → chosen_of new w at y ≡ w y
unfolding chosen_of
chosen_old new w at y n = rw n refl

sorts_of_new : (g : KoreSignature) (new : List SortedName) (w at : Valuation) (xs : List SortedName) → AllByRecursion (λ x. is_named x.name new ≡ true) xs → GivesSorts g at xs → GivesSorts g (chosen_of new w at) xs
sorts_of_new g new w at [] n s = tt
sorts_of_new g new w at (x ∷ xs) n s = (subst (HasSort g x.sort) (sym (chosen_new new w at x.name n.0)) s.0, sorts_of_new g new w at xs n.1 s.1)

-- sorts under values that are those of another valuation for all that isn't bound
sorts_at : (g : KoreSignature) (bs : List SortedName) (u at : Valuation) (xs : List SortedName) → AgreesOff bs u at → AllByRecursion (λ x. is_named x.name bs ≡ false) xs → GivesSorts g u xs → GivesSorts g at xs
sorts_at g bs u at [] off n s = tt
sorts_at g bs u at (x ∷ xs) off n s = (subst (HasSort g x.sort) (sym (off x.name n.0)) s.0, sorts_at g bs u at xs off n.1 s.1)

pub all_true : (g : KoreSignature) (v w : Valuation) (qs : List KorePattern) → AllByRecursion (λ q. AgreesOn (free_variables q) v w) qs → AllByRecursion (IsTrueUnder g v) qs → AllByRecursion (IsTrueUnder g w) qs
all_true g v w [] a h = tt
all_true g v w (q ∷ qs) a h = ((same_truth g q v w a.0).0 h.0, all_true g v w qs a.1 h.1)

-- under the binders nothing changes: what is neither bound nor new stands on the left
agree_in_body : (right : KorePattern) (ls : List SortedName) (w u at : Valuation) → AgreesOff (top_binders right) u at → AgreesOn ls w u → AgreesOn (free_variables (under_binders right)) at (chosen_of (top_binders right ++ filter (λ x. not (is_named x.name ls)) (free_variables right)) w at)
agree_in_body right ls w u at off on = all_map (λ x. (is_named x.name (top_binders right) ≡ true) ⊎ (is_named x.name (free_variables right) ≡ true)) (λ x. chosen_of new w at x.name ≡ at x.name) (free_variables (under_binders right)) (λ x h. same x.name h (is_named x.name new) refl) (under right)
  where
    new : List SortedName
    new = top_binders right ++ filter (λ x. not (is_named x.name ls)) (free_variables right)

    elsewhere : (y : Text) → (is_named y (top_binders right) ≡ true) ⊎ (is_named y (free_variables right) ≡ true) → (is_named y (top_binders right) ≡ false) × (is_named y (filter (λ x. not (is_named x.name ls)) (free_variables right)) ≡ false) → u y ≡ w y
    elsewhere y h out = elim h [
      | inl b ↦ absurd (true_is_false (sym b ∙ out.0))
      | inr f ↦ by_name (λ z. u z ≡ w z) y ls (taken_named y ls (free_variables right) f out.1) on
    ]

    same : (y : Text) → (is_named y (top_binders right) ≡ true) ⊎ (is_named y (free_variables right) ≡ true) → (b : Bool) → is_named y new ≡ b → chosen_of new w at y ≡ at y
    same y h true n = chosen_new new w at y n
    same y h false n =
        let out : (is_named y (top_binders right) ≡ false) × (is_named y (filter (λ x. not (is_named x.name ls)) (free_variables right)) ≡ false) = named_append y (top_binders right) (filter (λ x. not (is_named x.name ls)) (free_variables right)) n in
        chosen_old new w at y n ∙ sym (elsewhere y h out) ∙ sym (off y out.0)

pub reached_leads : (g : KoreSignature) (claim : ReachabilityClaim) (r : RewriteRule) (k : IsClaimRule claim r) (w : Valuation) (e : Value) → IsReached g claim w e → LeadsTo g k.rule w e
reached_leads g claim r k w e reached =
    let read : ReadAs claim.left claim.right k.rule = read_as claim.left claim.right k.rule k.reads in
    let opened : Opened g reached.chosen claim.right e = opened_of g reached.chosen claim.right e read.distinct reached.met in
    let body : KorePattern = under_binders claim.right in
    let bs : List SortedName = top_binders claim.right in
    let news : List SortedName = filter (λ x. not (is_named x.name (free_variables k.rule.left))) (free_variables claim.right) in
    let new : List SortedName = bs ++ news in
    let chosen : Valuation = chosen_of new w opened.at in
    let met : IsConjunctionInstance g opened.at body e = conjunction_of g opened.at body k.rule.right e read.right opened.met in
    let on_left : AgreesOn (free_variables k.rule.left) w reached.chosen = left_agrees read.left reached.agrees in
    let agree : AgreesOn (free_variables body) opened.at chosen = agree_in_body claim.right (free_variables k.rule.left) w reached.chosen opened.at opened.off on_left in
    let each : AllByRecursion (λ q. AgreesOn (free_variables q) opened.at chosen) (conjuncts body) = of_conjuncts (λ x. chosen x.name ≡ opened.at x.name) body agree in
    let term : AgreesOn (free_variables k.rule.right) opened.at chosen = (subst (AllByRecursion (λ q. AgreesOn (free_variables q) opened.at chosen)) read.right (all_filter (λ q. AgreesOn (free_variables q) opened.at chosen) is_term (conjuncts body) each)).0 in
    record {
      chosen = chosen;
      agrees = λ y n. chosen_old new w opened.at y (subst (λ xs. is_named y xs ≡ false) read.new n);
      sorts = subst (GivesSorts g chosen) (sym read.new) (sorts_of_new g new w opened.at new (members_named new)
          (all_append (λ x. HasSort g x.sort (opened.at x.name)) bs news opened.sorts
          (all_filter (λ x. HasSort g x.sort (opened.at x.name)) (λ x. not (is_named x.name (free_variables k.rule.left))) (free_variables claim.right)
          (sorts_at g bs reached.chosen opened.at (free_variables claim.right) opened.off (not_bound claim.right) reached.sorts))));
      ensured = subst (AllByRecursion (IsTrueUnder g chosen)) (sym read.ensured) (all_true g opened.at chosen (conjoined_predicates body)
          (all_filter (λ q. AgreesOn (free_variables q) opened.at chosen) (λ q. not (is_term q)) (conjuncts body) each) met.predicates);
      result = subst (λ ts. IsInstanceOfOne g opened.at ts e) read.right met.term ∙ sym (same_instance g opened.at chosen k.rule.right term);
    }
  where
    left_agrees : conjoined_terms claim.left ≡ k.rule.left ∷ [] → AgreesOn (free_variables claim.left) w reached.chosen → AgreesOn (free_variables k.rule.left) w reached.chosen
    left_agrees one a = (subst (AllByRecursion (λ q. AgreesOn (free_variables q) w reached.chosen)) one (all_filter (λ q. AgreesOn (free_variables q) w reached.chosen) is_term (conjuncts claim.left) (of_conjuncts (λ x. reached.chosen x.name ≡ w x.name) claim.left a))).0
