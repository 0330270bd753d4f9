use Rattle.std.proofs.Common.{rules, ◌≡◌, sym, subst, true, false, ◌<◌, ◌≤◌, ◌++◌, ◌∷◌, [], Some}
use Rattle.kp_successors.specs.Turns.{IsLeast}
use Rattle.kp_successors.proofs.Asking.{least_same, least_first, least_smaller, least_kept}
use Rattle.kp_successors.proofs.least.least_after.Goals as goal

pub returns-then-not-fires : goal.returns-then-not-fires
returns-then-not-fires c = λ g u rs r least same fires.
    let no : c.args.fires ≡ false = search rules in
    least_same g u rs r c.args.least least (λ b. let yes : c.args.fires ≡ true = fires.1 b in absurd (cc))

pub returns-in-None : goal.returns-in-None
returns-in-None c = λ g u rs r least same fires.
    let yes : c.args.fires ≡ true = search rules in
    subst (λ n. IsLeast g u (rs ++ r ∷ []) (Some n)) same (least_first g u rs r (subst (IsLeast g u rs) c.in-None.is least) (fires.0 yes))

pub returns-then-priority-number : goal.returns-then-priority-number
returns-then-priority-number c = λ g u rs r least same fires.
    let yes : c.args.fires ≡ true = search rules in
    let lt : r.priority < c.in-Some.number = subst (λ n. n < c.in-Some.number) (sym same) c.if-priority-number.true in
    subst (λ n. IsLeast g u (rs ++ r ∷ []) (Some n)) same (least_smaller g u rs r c.in-Some.number (subst (IsLeast g u rs) c.in-Some.is least) (fires.0 yes) lt)

pub returns-else-priority-number : goal.returns-else-priority-number
returns-else-priority-number c = λ g u rs r least same fires.
    let le : c.in-Some.number ≤ r.priority = subst (λ n. c.in-Some.number ≤ n) (sym same) c.if-priority-number.false in
    least_kept g u rs r c.in-Some.number (subst (IsLeast g u rs) c.in-Some.is least) le
