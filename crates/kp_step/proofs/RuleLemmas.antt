-- Which rule of a theory the code's rule of a place is.
use Rattle.std.proofs.Common.{◌≡◌, refl, sym, ap, subst, ◌∙◌, ℕ, Some, None, slice_get}
use Rattle.kp_kore.specs.Rules.{Rewrite, rewrite, RuleBody as MeantBody, RewriteRule, ForeignLeft, foreign_rule}
use Rattle.kp_kore.specs.Theory.{Theory}
use Rattle.kp_kore.specs.Signature.{KoreSignature}
use Rattle.kp_rules.specs.Bodies.{IsBodyOf, IsCodeOf}
use Rattle.kp_rules.specs.declared.rule.Rule.{Rule}
use Rattle.kp_rules.specs.declared.rule.Rewrite as code
use Rattle.kp_rules.specs.declared.rule.RuleBody as code_body
use Rattle.kp_rules.specs.declared.rule.RuleBody.TheVariants as bodies
use Rattle.kp_rules.specs.declared.skeleton.Skeleton.{Skeleton}
use Rattle.kp_rule_sets.specs.RuleSets.{RunsAs}
use Rattle.kp_rule_sets.specs.declared.rule_set.RuleSet.{RuleSet}
use Rattle.kp_step.specs.Places.{IsAt, IsPriorityAt}
use Rattle.kp_step.specs.Rules.{IsReadAt, TellsRead, IsForeignAt, TellsSkeleton}
use Rattle.kp_step.proofs.FoundLemmas.{one_at}
use Rattle.kp_step.proofs.PlaceLemmas.{zip_at, zip_back}

-- the theory's rule of the place of the code's
pub record IsRuleOf (t : Theory) (place : ℕ) (y : Rule) : Type 0 where
  pub rule : RewriteRule
  pub at : IsAt t place rule
  pub is : IsCodeOf t.signature rule y

pub rule_of : (t : Theory) (rules : RuleSet) (place : ℕ) (y : Rule) → RunsAs t rules → slice_get rules.rules.items place ≡ Some y → IsRuleOf t place y
rule_of t rules place y r e = let z = zip_at (IsCodeOf t.signature) t.rules rules.rules.items place y r.each e in record { rule = z.0; at = z.1; is = z.2 }

-- and the code's of the theory's
pub record HasCode (t : Theory) (rules : RuleSet) (place : ℕ) (r : RewriteRule) : Type 0 where
  pub code : Rule
  pub there : slice_get rules.rules.items place ≡ Some code
  pub is : IsCodeOf t.signature r code

pub code_of : (t : Theory) (rules : RuleSet) (place : ℕ) (q : RewriteRule) → RunsAs t rules → IsAt t place q → HasCode t rules place q
code_of t rules place q r at = let z = zip_back (IsCodeOf t.signature) t.rules rules.rules.items place q r.each at in record { code = z.0; there = z.1; is = z.2 }

no_code : {y : Rule} → None ≡ Some y → ⊥
no_code e = cc

-- ---- a rule that is read

read_by : (t : Theory) (place : ℕ) (rule : RewriteRule) (w : code.Rewrite) → IsAt t place rule → IsBodyOf t.signature rule.body (bodies.Rewrite w) → IsReadAt t place w
read_by t place rule w at b = by rule.body refl b
  where
    by : (m : MeantBody) → rule.body ≡ m → IsBodyOf t.signature m (bodies.Rewrite w) → IsReadAt t place w
    by (rewrite m) e i = record { rule = rule; at = at; read = m; body = e; is = record { sides = i.sides; verified = i.verified; right_sort = i.right_sort } }
    by (foreign_rule l) e i = absurd i

pub told_read : (t : Theory) (rules : RuleSet) (place : ℕ) (y : Rule) (w : code.Rewrite) → RunsAs t rules → slice_get rules.rules.items place ≡ Some y → y.body.value ≡ bodies.Rewrite w → IsReadAt t place w
told_read t rules place y w r e b = let k = rule_of t rules place y r e in read_by t place k.rule w k.at (subst (λ x. IsBodyOf t.signature k.rule.body x) b k.is.is_body)

not_read : (g : KoreSignature) (m : Rewrite) (k : Skeleton) (b : MeantBody) → b ≡ rewrite m → IsBodyOf g b (bodies.Foreign k) → ⊥
not_read g m k b e i = subst (λ x. IsBodyOf g x (bodies.Foreign k)) e i

pub told_unread : (t : Theory) (rules : RuleSet) (place : ℕ) (y : Rule) (k : Skeleton) → RunsAs t rules → slice_get rules.rules.items place ≡ Some y → y.body.value ≡ bodies.Foreign k → TellsRead t place None
told_unread t rules place y k r e b q m at body =
    let z = rule_of t rules place y r e in
    not_read t.signature m k z.rule.body (ap (λ x. x.body) (one_at t place z.rule q z.at at) ∙ body) (subst (λ x. IsBodyOf t.signature z.rule.body x) b z.is.is_body)

pub told_no_rule : (t : Theory) (rules : RuleSet) (place : ℕ) (q : RewriteRule) → RunsAs t rules → slice_get rules.rules.items place ≡ None → IsAt t place q → ⊥
told_no_rule t rules place q r e at = let z = code_of t rules place q r at in no_code (sym e ∙ z.there)

-- ---- a foreign rule

foreign_by : (t : Theory) (place : ℕ) (rule : RewriteRule) (k : Skeleton) → IsAt t place rule → IsBodyOf t.signature rule.body (bodies.Foreign k) → IsForeignAt t place k
foreign_by t place rule k at b = by rule.body refl b
  where
    by : (m : MeantBody) → rule.body ≡ m → IsBodyOf t.signature m (bodies.Foreign k) → IsForeignAt t place k
    by (rewrite m) e i = absurd i
    by (foreign_rule l) e i = record { rule = rule; at = at; left = l; body = e; stands = i }

pub told_foreign : (t : Theory) (rules : RuleSet) (place : ℕ) (y : Rule) (k : Skeleton) → RunsAs t rules → slice_get rules.rules.items place ≡ Some y → y.body.value ≡ bodies.Foreign k → IsForeignAt t place k
told_foreign t rules place y k r e b = let z = rule_of t rules place y r e in foreign_by t place z.rule k z.at (subst (λ x. IsBodyOf t.signature z.rule.body x) b z.is.is_body)

not_foreign : (g : KoreSignature) (l : ForeignLeft) (w : code.Rewrite) (b : MeantBody) → b ≡ foreign_rule l → IsBodyOf g b (bodies.Rewrite w) → ⊥
not_foreign g l w b e i = subst (λ x. IsBodyOf g x (bodies.Rewrite w)) e i

pub told_not_foreign : (t : Theory) (rules : RuleSet) (place : ℕ) (y : Rule) (w : code.Rewrite) → RunsAs t rules → slice_get rules.rules.items place ≡ Some y → y.body.value ≡ bodies.Rewrite w → TellsSkeleton t place None
told_not_foreign t rules place y w r e b q l at body =
    let z = rule_of t rules place y r e in
    not_foreign t.signature l w z.rule.body (ap (λ x. x.body) (one_at t place z.rule q z.at at) ∙ body) (subst (λ x. IsBodyOf t.signature z.rule.body x) b z.is.is_body)

-- ---- numbers

number_by : (g : KoreSignature) (rule : RewriteRule) (y : Rule) (m : Rewrite) → IsCodeOf g rule y → rule.body ≡ rewrite m → rule.priority ≡ y.priority
number_by g rule y m i e = by y.body.value refl (subst (λ b. IsBodyOf g b y.body.value) e i.is_body)
  where
    by : (b : code_body.RuleBody) → y.body.value ≡ b → IsBodyOf g (rewrite m) b → rule.priority ≡ y.priority
    by (bodies.Rewrite w) f k = i.is_priority w f
    by (bodies.Foreign s) f k = absurd k

pub told_priority : (t : Theory) (rules : RuleSet) (place : ℕ) (y : Rule) → RunsAs t rules → slice_get rules.rules.items place ≡ Some y → IsPriorityAt t place y.priority
told_priority t rules place y r e q m at body =
    let z = rule_of t rules place y r e in
    let same = one_at t place z.rule q z.at at in
    ap (λ x. x.priority) (sym same) ∙ number_by t.signature z.rule y m z.is (ap (λ x. x.body) same ∙ body)

pub read_number : (t : Theory) (rules : RuleSet) (place : ℕ) (q : RewriteRule) (m : Rewrite) → RunsAs t rules → IsAt t place q → q.body ≡ rewrite m → (h : HasCode t rules place q) → h.code.priority ≡ q.priority
read_number t rules place q m r at body h = sym (number_by t.signature q h.code m h.is body)
