use Rattle.std.proofs.Common.{◌↔◌, ℕ, List, sym, subst, Contains}
use Rattle.std.proofs.lemmas.Result.{IfOk-weaker}
use Rattle.kp_rules.specs.Index.{OwnsHeads}
use Rattle.kp_rule_reading.proofs.LoneVariables.{all_split, all_settle}
use Rattle.kp_rule_reading.proofs.lone.is_settled.Goals as goal

pub returns : goal.returns
returns c =
    let x = c.args.index.now in
    let below = c.args.below.now.keys in
    let above = c.args.above.now.keys in
    let heads = c.in_ok-heads.heads.keys in
    let sharing = c.in_ok-sharing.sharing.keys in
    let headed : (j : ℕ) → Contains heads j ↔ (Contains below j × OwnsHeads x j) = subst (λ (l : List ℕ). (j : ℕ) → Contains heads j ↔ (Contains l j × OwnsHeads x j)) c.as_slice.ensures.keys c.in_ok-heads.ensures in
    IfOk-weaker c.all_settled.result _ _
    (λ b h t belows aboves. (
      λ r. all_split x c.requires t below above heads sharing belows aboves headed c.in_ok-sharing.ensures
          (λ i k. h.0 r i (subst (λ (l : List ℕ). Contains l i) (sym c.as_slice-2.ensures.keys) k)),
      λ split. h.1 (λ i k. all_settle x c.requires t below above heads sharing belows aboves headed c.in_ok-sharing.ensures split i
          (subst (λ (l : List ℕ). Contains l i) c.as_slice-2.ensures.keys k)),
    )) c.all_settled.ensures
