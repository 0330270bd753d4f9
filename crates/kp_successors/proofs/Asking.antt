-- One more rule that is asked.
use Rattle.std.proofs.Common.{◌≡◌, refl, sym, subst, ◌∙◌, ℕ, ◌<◌, ◌≤◌, List, [], ◌∷◌, ◌++◌, Option, Some, None, inl, inr, arith}
use Rattle.std.specs.Prelude.{MatchOption}
use Rattle.std.proofs.lemmas.List.{append-nil}
use Rattle.kp_kore.specs.Syntax.{KorePattern}
use Rattle.kp_kore.specs.Signature.{KoreSignature}
use Rattle.kp_kore.specs.View.{view}
use Rattle.kp_kore.specs.declared.pattern.Pattern.{Pattern}
use Rattle.kp_kore.specs.Value.{Value}
use Rattle.kp_rules.specs.declared.rule.Rule.{Rule}
use Rattle.kp_run.specs.Turns.{BodyFires, FiresAt}
use Rattle.kp_run.proofs.Among.{all_and_last, any_and_more}
use Rattle.kp_successors.specs.Turns.{IsLeast, Follows, AreNexts, next_list}
use Rattle.kp_successors.proofs.Lists.{all_weaker}
use Rattle.kp_successors.proofs.Members.{any_last}

-- ---- the least priority number

pub least_same : (g : KoreSignature) (u : Value) (rules : List Rule) (r : Rule) (o : Option ℕ) → IsLeast g u rules o → ¬ BodyFires g u r.body.value → IsLeast g u (rules ++ r ∷ []) o
least_same g u rules r None h n = all_and_last (λ q. ¬ BodyFires g u q.body.value) rules r h n
least_same g u rules r (Some k) h n = (all_and_last (λ q. BodyFires g u q.body.value → k ≤ q.priority) rules r h.0 (λ f. absurd (n f)), any_and_more (FiresAt g u k) rules (r ∷ []) h.1)

pub least_first : (g : KoreSignature) (u : Value) (rules : List Rule) (r : Rule) → IsLeast g u rules None → BodyFires g u r.body.value → IsLeast g u (rules ++ r ∷ []) (Some r.priority)
least_first g u rules r h f = (
  all_and_last (λ q. BodyFires g u q.body.value → r.priority ≤ q.priority) rules r
      (all_weaker (λ q. ¬ BodyFires g u q.body.value) (λ q. BodyFires g u q.body.value → r.priority ≤ q.priority) rules (λ q n k. absurd (n k)) h) (λ k. omega arith),
  any_last (FiresAt g u r.priority) rules r (f, refl),
)

pub least_smaller : (g : KoreSignature) (u : Value) (rules : List Rule) (r : Rule) (n : ℕ) → IsLeast g u rules (Some n) → BodyFires g u r.body.value → r.priority < n → IsLeast g u (rules ++ r ∷ []) (Some r.priority)
least_smaller g u rules r n h f lt = (
  all_and_last (λ q. BodyFires g u q.body.value → r.priority ≤ q.priority) rules r
      (all_weaker (λ q. BodyFires g u q.body.value → n ≤ q.priority) (λ q. BodyFires g u q.body.value → r.priority ≤ q.priority) rules (λ q k b. let le : n ≤ q.priority = k b in omega arith) h.0) (λ k. omega arith),
  any_last (FiresAt g u r.priority) rules r (f, refl),
)

pub least_kept : (g : KoreSignature) (u : Value) (rules : List Rule) (r : Rule) (n : ℕ) → IsLeast g u rules (Some n) → n ≤ r.priority → IsLeast g u (rules ++ r ∷ []) (Some n)
least_kept g u rules r n h le = (all_and_last (λ q. BodyFires g u q.body.value → n ≤ q.priority) rules r h.0 (λ f. le), any_and_more (FiresAt g u n) rules (r ∷ []) h.1)

-- ---- the patterns

pub nexts_none : (g : KoreSignature) (u : Value) (n : ℕ) (rules : List Rule) (r : Rule) (ps : List KorePattern) → AreNexts g u n rules ps → ¬ FiresAt g u n r → AreNexts g u n (rules ++ r ∷ []) ps
nexts_none g u n [] r ps h k = inl (k, h)
nexts_none g u n (q ∷ rules) r ps (inl h) k = inl (h.0, nexts_none g u n rules r ps h.1 k)
nexts_none g u n (q ∷ rules) r [] (inr h) k = absurd h.1
nexts_none g u n (q ∷ rules) r (p ∷ ps) (inr h) k = inr (h.0, (h.1.0, nexts_none g u n rules r ps h.1.1 k))

pub nexts_more : (g : KoreSignature) (u : Value) (n : ℕ) (rules : List Rule) (r : Rule) (ps : List KorePattern) (p : KorePattern) → AreNexts g u n rules ps → FiresAt g u n r → Follows g u r.body.value p → AreNexts g u n (rules ++ r ∷ []) (ps ++ p ∷ [])
nexts_more g u n [] r [] p h f k = inr (f, (k, refl))
nexts_more g u n [] r (q ∷ ps) p h f k = absurd (cc)
nexts_more g u n (q ∷ rules) r ps p (inl h) f k = inl (h.0, nexts_more g u n rules r ps p h.1 f k)
nexts_more g u n (q ∷ rules) r [] p (inr h) f k = absurd h.1
nexts_more g u n (q ∷ rules) r (p' ∷ ps) p (inr h) f k = inr (h.0, (h.1.0, nexts_more g u n rules r ps p h.1.1 f k))

pub nexts_after : (g : KoreSignature) (u : Value) (n : ℕ) (rules : List Rule) (r : Rule) (ps found : List KorePattern) (o : Option Pattern) → AreNexts g u n rules ps →
    MatchOption o (¬ FiresAt g u n r) (λ p. FiresAt g u n r × Follows g u r.body.value (view p)) → found ≡ ps ++ next_list o → AreNexts g u n (rules ++ r ∷ []) found
nexts_after g u n rules r ps found None h isnt e = subst (AreNexts g u n (rules ++ r ∷ [])) (sym (e ∙ append-nil ps)) (nexts_none g u n rules r ps h isnt)
nexts_after g u n rules r ps found (Some p) h k e = subst (AreNexts g u n (rules ++ r ∷ [])) (sym e) (nexts_more g u n rules r ps (view p) h k.0 k.1)
