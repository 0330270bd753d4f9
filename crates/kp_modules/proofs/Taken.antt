-- Rules that are taken from axioms, whatever they are called, and their ids.
use Rattle.std.proofs.Common.{◌≡◌, refl, sym, ap, subst, ◌∙◌, ◌++◌, min, List, [], ◌∷◌, unwrap_or, string_bytes}
use Rattle.std.specs.List.{AllZip}
use Rattle.std.proofs.lemmas.List.Elements.{filter_map-append}
use Rattle.kp_kore.specs.Syntax.{Text}
use Rattle.kp_kore.specs.Signature.{KoreSignature}
use Rattle.kp_kore.specs.Rules.{RewriteRule, priority_of, usual_priority, most_priority}
use Rattle.kp_kore.specs.Theory.{NumberedAxiom, IsRuleOf, label_of, labels_of, rule_id}
use Rattle.kp_rules.specs.Bodies.{IsBodyOf, IsCodeOf, IsReadAs}
use Rattle.kp_rules.specs.declared.rule.Rule.{Rule}
use Rattle.kp_rule_sets.specs.declared.rule_set.RuleSet.{RuleSet}
use Rattle.kp_modules.specs.Extending.{IsTakenFrom}
use Rattle.kp_modules.specs.Made.{IsMadeOf, AreMadeOf, IsSetOf}
use Rattle.kp_modules.specs.Sources.{IsSourceOf}
use Rattle.kp_modules.proofs.Gathering.{zip_push}

-- a rule that is read of an axiom
pub read_from : (g : KoreSignature) (a : NumberedAxiom) (r : Rule) → IsReadAs g a.axiom_of r.priority r.body.value → IsSourceOf a r.source.value → IsTakenFrom g a r
read_from g a r h s = record {
  meant = h.meant;
  reads = h.reads;
  is_body = h.is_body;
  is_priority = λ w is. ap (λ o. unwrap_or o usual_priority) (h.is_priority w is);
  is_foreign_priority = h.is_foreign_priority;
  is_source = s;
}

-- a rule of a rule set
of_made : (g : KoreSignature) (labels : List Text) (a : NumberedAxiom) (m : RewriteRule) (r : Rule) → IsRuleOf g labels a m → IsCodeOf g m r → IsSourceOf a r.source.value → IsTakenFrom g a r
of_made g labels a m r h k s = record {
  meant = m.body;
  reads = h.body;
  is_body = k.is_body;
  is_priority = λ w is. sym h.priority ∙ k.is_priority w is;
  is_foreign_priority = λ skeleton is. ap (λ n. min n most_priority) (sym h.priority) ∙ k.is_foreign_priority skeleton is;
  is_source = s;
}

all_taken : (g : KoreSignature) (labels : List Text) (axioms : List NumberedAxiom) (ms : List RewriteRule) (rs : List Rule) → AllZip (IsRuleOf g labels) axioms ms → AllZip (IsCodeOf g) ms rs → AllZip (λ a r. IsSourceOf a r.source.value) axioms rs → AllZip (IsTakenFrom g) axioms rs
all_taken g labels [] [] [] h k s = tt
all_taken g labels [] [] (r ∷ rs) h k s = absurd s
all_taken g labels [] (m ∷ ms) rs h k s = absurd h
all_taken g labels (a ∷ axioms) [] rs h k s = absurd h
all_taken g labels (a ∷ axioms) (m ∷ ms) [] h k s = absurd k
all_taken g labels (a ∷ axioms) (m ∷ ms) (r ∷ rs) h k s = (of_made g labels a m r h.0 k.0 s.0, all_taken g labels axioms ms rs h.1 k.1 s.1)

pub of_set : (g : KoreSignature) (axioms : List NumberedAxiom) (rules : RuleSet) → IsSetOf g axioms rules → AllZip (IsTakenFrom g) axioms rules.rules.items
of_set g axioms rules h = all_taken g (labels_of axioms) axioms h.made.meant rules.rules.items h.made.are_rules h.made.are_code h.made.are_sources

-- the rule under the id that these labels give it
pub called : (g : KoreSignature) (labels : List Text) (a : NumberedAxiom) (r : Rule) → IsTakenFrom g a r → string_bytes r.id.value ≡ rule_id labels a → IsMadeOf g labels a r
called g labels a r h e = record {
  meant = record { id = rule_id labels a; priority = unwrap_or (priority_of a.axiom_of.attributes) usual_priority; body = h.meant };
  is_rule = record { id = refl; priority = refl; body = h.reads };
  is_code = record { id = e; is_body = h.is_body; is_priority = h.is_priority; is_foreign_priority = h.is_foreign_priority };
  is_source = h.is_source;
}

pub made_more : (g : KoreSignature) (labels : List Text) (axioms all : List NumberedAxiom) (rs new : List Rule) (a : NumberedAxiom) (r : Rule) → AreMadeOf g labels axioms rs → IsMadeOf g labels a r → all ≡ axioms ++ a ∷ [] → new ≡ rs ++ r ∷ [] → AreMadeOf g labels all new
made_more g labels axioms all rs new a r h k e f =
    subst (λ l. AreMadeOf g labels l new) (sym e) (subst (AreMadeOf g labels (axioms ++ a ∷ [])) (sym f) (record {
      meant = h.meant ++ k.meant ∷ [];
      are_rules = zip_push (IsRuleOf g labels) axioms h.meant a k.meant h.are_rules k.is_rule;
      are_code = zip_push (IsCodeOf g) h.meant rs k.meant r h.are_code k.is_code;
      are_sources = zip_push (λ b s. IsSourceOf b s.source.value) axioms rs a r h.are_sources k.is_source;
    }))

-- the labels of one more axiom
pub labels_of_more : (axioms all : List NumberedAxiom) (a : NumberedAxiom) → all ≡ axioms ++ a ∷ [] → labels_of all ≡ labels_of axioms ++ labels_of (a ∷ [])
labels_of_more axioms all a e = ap labels_of e ∙ filter_map-append (λ x. label_of x.axiom_of) axioms (a ∷ [])

-- a rule with the same parts
pub same_parts : (g : KoreSignature) (a : NumberedAxiom) (r s : Rule) → IsTakenFrom g a r → s.body.value ≡ r.body.value → s.source.value ≡ r.source.value → s.priority ≡ r.priority → IsTakenFrom g a s
same_parts g a r s h eb es ep = record {
  meant = h.meant;
  reads = h.reads;
  is_body = subst (IsBodyOf g h.meant) (sym eb) h.is_body;
  is_priority = λ w is. h.is_priority w (sym eb ∙ is) ∙ sym ep;
  is_foreign_priority = λ skeleton is. h.is_foreign_priority skeleton (sym eb ∙ is) ∙ sym ep;
  is_source = subst (IsSourceOf a) (sym es) h.is_source;
}
