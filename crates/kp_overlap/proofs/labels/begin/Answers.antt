use Rattle.std.proofs.Common.{◌∙◌, ap, sym, subst, length, List, [], ◌∷◌, ◌++◌, ℕ}
use Rattle.std.proofs.lemmas.List.FromFn.{length-range_with_len}
use Rattle.kp_overlap.specs.Joined.{AreOne, pair_of}
use Rattle.kp_overlap.specs.Labels.{Follows}
use Rattle.kp_overlap.specs.declared.labels.Pair.{Pair}
use Rattle.kp_overlap.proofs.LabelLemmas.{follows_range}
use Rattle.kp_overlap.proofs.labels.begin.Goals as goal

pub returns-clause-long : goal.returns-clause-long
returns-clause-long c = ap length c.in_ok-numbers_below.ensures ∙ length-range_with_len 0 c.args.count

pub returns-clause-classes : goal.returns-clause-classes
returns-clause-classes c = λ a e.
    let items = c.in_ok-push.ensures.items ∙ ap (λ (ps : List Pair). ps ++ pair_of c.args.first c.args.second ∷ []) c.new-waiting.ensures.items in
    record {
      parents = subst (λ (ns : List ℕ). Follows a ns) (sym c.in_ok-numbers_below.ensures) (follows_range a c.args.count);
      holders = subst (λ (ns : List ℕ). Follows a ns) (sym c.in_ok-numbers_below-2.ensures) (follows_range a c.args.count);
      waiting = subst (λ (ps : List Pair). AreOne a ps) (sym items) (e, tt);
    }
