-- The rules that are made of rewrite axioms.
use Rattle.std.specs.Prelude.{◌≡◌, true, List}
use Rattle.std.specs.List.{AllByRecursion, AllZip, flat_map}
use Rattle.kp_kore.specs.Syntax.{Text, KoreModule}
use Rattle.kp_kore.specs.Signature.{KoreSignature, signature_of}
use Rattle.kp_signature.specs.View.{signature_view}
use Rattle.kp_kore.specs.Rules.{RewriteRule, is_rewriting}
use Rattle.kp_kore.specs.Theory.{Theory, NumberedAxiom, rewrite_axioms, labels_of, IsRuleOf}
use Rattle.kp_rules.specs.Bodies.{IsCodeOf}
use Rattle.kp_rule_sets.specs.RuleSets.{RunsAs}
use Rattle.kp_rules.specs.declared.rule.Rule.{Rule}
use Rattle.kp_rule_sets.specs.declared.rule_set.RuleSet.{RuleSet}
use Rattle.kp_modules.specs.Sources.{IsSourceOf}

-- the code's rule is the one that the axiom makes
pub record IsMadeOf (g : KoreSignature) (labels : List Text) (a : NumberedAxiom) (r : Rule) : Type 0 where
  pub meant : RewriteRule
  pub is_rule : IsRuleOf g labels a meant
  pub is_code : IsCodeOf g meant r
  pub is_source : IsSourceOf a r.source.value

-- the code's rules are those that the axioms make, one of each
pub record AreMadeOf (g : KoreSignature) (labels : List Text) (axioms : List NumberedAxiom) (rules : List Rule) : Type 0 where
  pub meant : List RewriteRule
  pub are_rules : AllZip (IsRuleOf g labels) axioms meant
  pub are_code : AllZip (IsCodeOf g) meant rules
  pub are_sources : AllZip (λ a r. IsSourceOf a r.source.value) axioms rules

abbrev pub AreRewriting : List NumberedAxiom → Type 0
AreRewriting = AllByRecursion (λ a. is_rewriting a.axiom_of.pattern ≡ true)

-- the rule set is made of these axioms over this signature
pub record IsSetOf (g : KoreSignature) (axioms : List NumberedAxiom) (rules : RuleSet) : Type 0 where
  pub signature : signature_view rules.signature.value ≡ g
  pub made : AreMadeOf g (labels_of axioms) axioms rules.rules.items

-- the rule set is the theory of these modules
pub record IsRunOf (modules : List KoreModule) (rules : RuleSet) : Type 0 where
  pub theory : Theory
  pub signature : theory.signature ≡ signature_of (flat_map (λ m. m.sentences) modules)
  pub meant : AllZip (IsRuleOf theory.signature (labels_of (rewrite_axioms modules))) (rewrite_axioms modules) theory.rules
  pub runs : RunsAs theory rules
  pub made : IsSetOf theory.signature (rewrite_axioms modules) rules
