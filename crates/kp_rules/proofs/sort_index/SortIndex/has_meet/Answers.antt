use Rattle.std.proofs.Common.{◌↔◌, ℕ, List, sym, subst, Contains}
use Rattle.std.proofs.lemmas.Result.{IfOk-weaker}
use Rattle.kp_rules.specs.Index.{Covers}
use Rattle.kp_rules.proofs.SplitLemmas.{covering, covered}
use Rattle.kp_rules.proofs.sort_index.SortIndex.has_meet.Goals as goal

pub returns : goal.returns
returns c =
    let x = c.args.self.now in
    let i = c.args.number in
    let below = c.args.below.now.keys in
    let heads = c.args.heads.now.keys in
    let down = c.in_ok-down.down.keys in
    let common = c.in_ok-common.common.keys in
    let commons : (j : ℕ) → Contains common j ↔ (Contains heads j × Contains down j) = subst (λ (l : List ℕ). (j : ℕ) → Contains common j ↔ (Contains l j × Contains down j)) c.as_slice.ensures.keys c.in_ok-common.ensures in
    IfOk-weaker c.any_covers.result _ _
    (λ b h. (
      λ t. let e = h.0 t in covering x i below heads down common c.in_ok-down.ensures commons e.0 (subst (λ (l : List ℕ). Contains l e.0) c.as_slice-2.ensures.keys e.1) (subst (λ (l : List ℕ). Covers x e.0 below l) c.as_slice-3.ensures.keys e.2),
      λ m. let k = covered x i below heads down common c.in_ok-down.ensures commons m in
          h.1 (m.number, subst (λ (l : List ℕ). Contains l m.number) (sym c.as_slice-2.ensures.keys) k.0, subst (λ (l : List ℕ). Covers x m.number below l) (sym c.as_slice-3.ensures.keys) k.1),
    )) c.any_covers.ensures
