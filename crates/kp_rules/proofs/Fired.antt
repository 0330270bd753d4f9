-- Where a rule fires, in the words of the rewrite that it is.
use Rattle.std.proofs.Common.{◌≡◌, sym, subst, ◌∙◌, ◌↔◌}
use Rattle.kp_kore.specs.Signature.{KoreSignature}
use Rattle.kp_kore.specs.Value.{Value}
use Rattle.kp_kore.specs.Sorted.{IsSorted}
use Rattle.kp_kore.specs.Instance.{Valuation, instance}
use Rattle.kp_kore.specs.Rules as model
use Rattle.kp_kore.specs.Steps.{FiresUnder}
use Rattle.kp_rules.specs.Heads.{FiresAs}
use Rattle.kp_rules.specs.Bodies.{IsRewriteOf}
use Rattle.kp_rules.specs.declared.rule.Rewrite as code

-- the code's rule fires on a sorted value exactly where its rewrite does
pub fired_under : (g : KoreSignature) (m : model.Rewrite) (r : code.Rewrite) → IsRewriteOf g m r → (u : Value) → IsSorted g u → (v : Valuation) → FiresAs g r u v ↔ FiresUnder g m v u
fired_under g m r is u sorted v = (
  (λ f. let same : instance g v m.left ≡ u = sym (is.left v) ∙ f.0.matches in
      record {
        sorts = (is.tests v (subst (IsSorted g) (sym same) sorted)).0 f.0.tests;
        matches = same;
        condition = (is.condition v).0 f.1;
      }),
  (λ f. (
    record {
      matches = is.left v ∙ f.matches;
      tests = (is.tests v (subst (IsSorted g) (sym f.matches) sorted)).1 f.sorts;
    },
    (is.condition v).1 f.condition,
  )),
)
