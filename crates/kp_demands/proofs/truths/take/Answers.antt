use Rattle.std.proofs.Common.{sym, subst, ◌↔◌, ℕ, Bool, IsTrue}
use Rattle.kp_demands.specs.Demands.{MeetsTruth}
use Rattle.kp_demands.specs.Truths.{HaveTruths}
use Rattle.kp_demands.proofs.truths.take.Goals as goal

pub returns-in-Truth-clause-yes : goal.returns-in-Truth-clause-yes
returns-in-Truth-clause-yes c = subst (λ d. IsTrue c.ask.result → (truths : ℕ → Bool) → HaveTruths c.ask.new.table truths ↔ (HaveTruths c.args.table.now truths × MeetsTruth truths d)) (sym c.in-Truth.is) c.ask.ensures.yes
