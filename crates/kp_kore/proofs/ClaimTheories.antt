-- The theory of a module that holds claims: main's rules, and behind them the claims'.
use Rattle.std.proofs.Common.{◌≡◌, refl, sym, ◌∙◌, ap, subst, ℕ, ◌+◌, ◌<◌, ◌^◌, List, [], ◌∷◌, ◌++◌, map, length, Option, Some, None, arith}
use Rattle.std.specs.List.{AllByRecursion, AllZip}
use Rattle.kp_kore.specs.Syntax.{Text, axiom_sentence}
use Rattle.kp_kore.specs.Signature.{KoreSignature}
use Rattle.kp_kore.specs.Rules.{RuleBody, rewrite, foreign_rule, RewriteRule}
use Rattle.kp_kore.specs.Foreign.{Reads}
use Rattle.kp_kore.specs.Theory.{Theory, NumberedAxiom, rewrite_axioms_from, label_of, labels_of, rule_id, IsRuleOf, IsTheoryOfAxioms}
use Rattle.kp_kore.specs.ClaimRules.{IsClaimRule, with_rules}
use Rattle.kp_kore.specs.ClaimModules.{SortedClaim, claim_axiom, claims_module, claim_axioms_from, IsAddedId, CanBeRule}
use Rattle.kp_kore.proofs.ClaimModuleRules.{claim_rule}

-- the axioms of the module are the claims', in order
pub module_axioms : (main id : Text) (cs : List SortedClaim) → rewrite_axioms_from id 1 (claims_module main cs).sentences ≡ claim_axioms_from id 1 cs
module_axioms main id cs = from 1 cs
  where
    from : (n : ℕ) (cs : List SortedClaim) → rewrite_axioms_from id n (map (λ c. axiom_sentence (claim_axiom c)) cs) ≡ claim_axioms_from id n cs
    from n [] = refl
    from n (c ∷ cs) = ap (λ xs. record { key = id; number = n; axiom_of = claim_axiom c } ∷ xs) (from (n + 1) cs)

-- ---- a rewrite axiom makes one rule

some_same : {X : Type 0} (o : Option X) (x y : X) → o ≡ Some x → o ≡ Some y → x ≡ y
some_same o x y e f = cc

body_same : (g : KoreSignature) (a : NumberedAxiom) (b c : RuleBody) → Reads g a.axiom_of.parameters a.axiom_of.attributes a.axiom_of.pattern b → Reads g a.axiom_of.parameters a.axiom_of.attributes a.axiom_of.pattern c → b ≡ c
body_same g a (rewrite x) (rewrite y) r q = ap rewrite (some_same _ x y r.shape q.shape)
body_same g a (rewrite x) (foreign_rule l) r q = absurd (q.1 x r)
body_same g a (foreign_rule l) (rewrite y) r q = absurd (r.1 y q)
body_same g a (foreign_rule l) (foreign_rule m) r q = ap foreign_rule (some_same _ l m r.0 q.0)

rule_same : (g : KoreSignature) (labels : List Text) (a : NumberedAxiom) (r q : RewriteRule) → IsRuleOf g labels a r → IsRuleOf g labels a q → r ≡ q
rule_same g labels a r q h k =
    let ids : r.id ≡ q.id = h.id ∙ sym k.id in
    let priorities : r.priority ≡ q.priority = h.priority ∙ sym k.priority in
    let bodies : r.body ≡ q.body = body_same g a r.body q.body h.body k.body in
    λ i. record { id = ids i; priority = priorities i; body = bodies i }

pub rules_same : (g : KoreSignature) (labels : List Text) (axioms : List NumberedAxiom) (rs qs : List RewriteRule) → AllZip (IsRuleOf g labels) axioms rs → AllZip (IsRuleOf g labels) axioms qs → rs ≡ qs
rules_same g labels [] [] [] h k = refl
rules_same g labels [] [] (q ∷ qs) h k = absurd k
rules_same g labels [] (r ∷ rs) qs h k = absurd h
rules_same g labels (a ∷ as_) [] qs h k = absurd h
rules_same g labels (a ∷ as_) (r ∷ rs) [] h k = absurd k
rules_same g labels (a ∷ as_) (r ∷ rs) (q ∷ qs) h k = let x : r ≡ q = rule_same g labels a r q h.0 k.0 in let xs : rs ≡ qs = rules_same g labels as_ rs qs h.1 k.1 in λ i. x i ∷ xs i

-- ---- in two parts

record InTwo {A B : Type 0} (R : A → B → Type 0) (xs ys : List A) (zs : List B) : Type 0 where
  front : List B
  back : List B
  are : zs ≡ front ++ back
  at_front : AllZip R xs front
  at_back : AllZip R ys back

in_two : {A B : Type 0} (R : A → B → Type 0) (xs ys : List A) (zs : List B) → AllZip R (xs ++ ys) zs → InTwo R xs ys zs
in_two R [] ys zs h = record { front = []; back = zs; are = refl; at_front = tt; at_back = h }
in_two R (x ∷ xs) ys [] h = absurd h
in_two R (x ∷ xs) ys (z ∷ zs) h = let rest : InTwo R xs ys zs = in_two R xs ys zs h.1 in
    record { front = z ∷ rest.front; back = rest.back; are = ap (λ l. z ∷ l) rest.are; at_front = (h.0, rest.at_front); at_back = rest.at_back }

-- claims' axioms have no label
no_label : (c : SortedClaim) → label_of (claim_axiom c) ≡ None
no_label c = refl

labels_stay : (axioms : List NumberedAxiom) (key : Text) (n : ℕ) (cs : List SortedClaim) → labels_of (axioms ++ claim_axioms_from key n cs) ≡ labels_of axioms
labels_stay [] key n [] = refl
labels_stay [] key n (c ∷ cs) = labels_stay [] key (n + 1) cs
labels_stay (a ∷ as_) key n cs = by_label (label_of a.axiom_of) refl (labels_stay as_ key n cs)
  where
    by_label : (o : Option Text) → label_of a.axiom_of ≡ o → labels_of (as_ ++ claim_axioms_from key n cs) ≡ labels_of as_ → labels_of (a ∷ as_ ++ claim_axioms_from key n cs) ≡ labels_of (a ∷ as_)
    by_label (Some l) e rest = rw e (ap (λ ls. l ∷ ls) rest)
    by_label None e rest = rw e rest

-- ---- the theory

claim_rules : (g : KoreSignature) (labels : List Text) (id : Text) (n : ℕ) (cs : List SortedClaim) (rs : List RewriteRule) → IsAddedId id → n + length cs < 2 ^ 64 → AllByRecursion (CanBeRule g) cs → AllZip (IsRuleOf g labels) (claim_axioms_from id n cs) rs → AllZip IsClaimRule (map (λ c. c.claim) cs) rs
claim_rules g labels id n [] [] added less can h = tt
claim_rules g labels id n [] (r ∷ rs) added less can h = absurd h
claim_rules g labels id n (c ∷ cs) [] added less can h = absurd h
claim_rules g labels id n (c ∷ cs) (r ∷ rs) added less can h = (
  claim_rule g labels id n c r can.0.rule added (omega (arith, less)) can.0.one_sort can.0.read h.0,
  claim_rules g labels id (n + 1) cs rs added (omega (arith, less)) can.1 h.1,
)

-- the theory of main's axioms and the claims' is main's with the claims' rules
pub claims_theory : (g : KoreSignature) (axioms : List NumberedAxiom) (id : Text) (cs : List SortedClaim) (t m : Theory) → IsAddedId id → 1 + length cs < 2 ^ 64 → AllByRecursion (CanBeRule g) cs →
    IsTheoryOfAxioms g axioms t → IsTheoryOfAxioms g (axioms ++ claim_axioms_from id 1 cs) m → (rs : List RewriteRule) × (m ≡ with_rules t rs) × AllZip IsClaimRule (map (λ c. c.claim) cs) rs
claims_theory g axioms id cs t m added less can is_main is =
    let labels : labels_of (axioms ++ claim_axioms_from id 1 cs) ≡ labels_of axioms = labels_stay axioms id 1 cs in
    let zip : AllZip (IsRuleOf g (labels_of axioms)) (axioms ++ claim_axioms_from id 1 cs) m.rules = subst (λ ls. AllZip (IsRuleOf g ls) (axioms ++ claim_axioms_from id 1 cs) m.rules) labels is.rules in
    let two : InTwo (IsRuleOf g (labels_of axioms)) axioms (claim_axioms_from id 1 cs) m.rules = in_two (IsRuleOf g (labels_of axioms)) axioms (claim_axioms_from id 1 cs) m.rules zip in
    let fronts : two.front ≡ t.rules = rules_same g (labels_of axioms) axioms two.front t.rules two.at_front is_main.rules in
    let rules : m.rules ≡ t.rules ++ two.back = two.are ∙ ap (λ xs. xs ++ two.back) fronts in
    let signatures : m.signature ≡ t.signature = is.signature ∙ sym is_main.signature in
    (two.back, (λ i. record { signature = signatures i; rules = rules i }), claim_rules g (labels_of axioms) id 1 cs two.back added less can two.at_back)

-- main's rules keep their ids beside the claims'
pub ids_stay : (axioms : List NumberedAxiom) (id : Text) (cs : List SortedClaim) (a : NumberedAxiom) → rule_id (labels_of (axioms ++ claim_axioms_from id 1 cs)) a ≡ rule_id (labels_of axioms) a
ids_stay axioms id cs a = ap (λ ls. rule_id ls a) (labels_stay axioms id 1 cs)
