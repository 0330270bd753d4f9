use Rattle.std.proofs.Common.{◌↔◌, ℕ, List, sym, subst, Contains}
use Rattle.std.proofs.lemmas.Result.{IfOk-weaker}
use Rattle.kp_rules.specs.Index.{OwnsHeads}
use Rattle.kp_rules.proofs.SplitLemmas.{all_split, all_settle}
use Rattle.kp_rules.proofs.sort_index.SortIndex.numbers_split.Goals as goal

pub returns : goal.returns
returns c =
    let x = c.args.self.now in
    let t = c.args.lower in
    let u = c.args.upper in
    let below = c.in_ok-below.below.keys in
    let above = c.in_ok-above.above.keys in
    let under = c.in_ok-under.under.keys in
    let heads = c.in_ok-heads.heads.keys in
    let sharing = c.in_ok-sharing.sharing.keys in
    let headed : (j : ℕ) → Contains heads j ↔ (Contains below j × OwnsHeads x j) = subst (λ (l : List ℕ). (j : ℕ) → Contains heads j ↔ (Contains l j × OwnsHeads x j)) c.as_slice.ensures.keys c.in_ok-heads.ensures in
    IfOk-weaker c.all_settled.result _ _
    (λ b h. (
      λ r. all_split x c.requires t u below above under heads sharing c.in_ok-below.ensures c.in_ok-above.ensures c.in_ok-under.ensures headed c.in_ok-sharing.ensures
          (λ i k. h.0 r i (subst (λ (l : List ℕ). Contains l i) (sym c.as_slice-2.ensures.keys) k)),
      λ split. h.1 (λ i k. all_settle x c.requires t u below above under heads sharing c.in_ok-below.ensures c.in_ok-above.ensures c.in_ok-under.ensures headed c.in_ok-sharing.ensures split i
          (subst (λ (l : List ℕ). Contains l i) c.as_slice-2.ensures.keys k)),
    )) c.all_settled.ensures
