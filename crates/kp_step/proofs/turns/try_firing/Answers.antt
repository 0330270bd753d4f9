use Rattle.std.proofs.Common.{ap, subst, map, None}
use Rattle.std.specs.Prelude.{MatchOption}
use Rattle.kp_step.specs.Limits.{IsPassed}
use Rattle.kp_step.specs.Views.{turn_view, limit_view}
use Rattle.kp_step.specs.Answers.{firing_model, TellsParts}
use Rattle.kp_step.specs.Promises.{TellsNoNumber}
use Rattle.kp_unify.specs.Views.{numbered_view}
use Rattle.kp_step.proofs.MeetLemmas.{whole_sorted}
use Rattle.kp_step.proofs.TriedLemmas.{open_told, silent_at, turn_is_silent}
use Rattle.kp_step.proofs.turns.try_firing.Goals as goal

pub returns-in-Some : goal.returns-in-Some
returns-in-Some c t used s found k z all at i =
    let f = firing_model c.args.firing in
    let same = ap (λ q. q.part.state) c.in_ok-narrowed.ensures in
    ((λ tried. subst (λ o. MatchOption o (TellsNoNumber t.signature f) (λ l. IsPassed t s (limit_view l))) c.in-Some.is (c.in_ok-limit.ensures t used s c.args.place k.steps.signature k.setting k.whole at i same k.limits)), tt)

pub returns-in-Parts : goal.returns-in-Parts
returns-in-Parts c t used s found k z all at i =
    let f = firing_model c.args.firing in
    let same = ap (λ q. q.part.state) c.in_ok-narrowed.ensures in
    let silent = subst (λ o. MatchOption o (TellsNoNumber t.signature f) (λ l. IsPassed t s (limit_view l))) c.in_default.is (c.in_ok-limit.ensures t used s c.args.place k.steps.signature k.setting k.whole at i same k.limits) in
    let number = c.priority_at-priority.ensures t k.steps.runs in
    let told = c.in_ok-parts.ensures t used s found k z all c.args.place f at i number c.in_ok-narrowed.ensures in (
      c.turn_of.ensures t used s (map turn_view c.args.turns.now) found i.read f.part.part z (whole_sorted t.signature used s (numbered_view c.args.whole.now) k.whole) all (i.rule, i.at, i.body) number i.is_met (subst (TellsParts t used s c.args.place found f.part.part) c.in-Parts.is told),
      turn_is_silent t s c.args.place c.turn_of.result (silent_at t used s c.args.place f i silent),
    )

pub returns-in-UndecidedClauses : goal.returns-in-UndecidedClauses
returns-in-UndecidedClauses c t used s found k z all at i =
    let f = firing_model c.args.firing in
    let same = ap (λ q. q.part.state) c.in_ok-narrowed.ensures in
    let none = subst (λ o. MatchOption o (TellsNoNumber t.signature f) (λ l. IsPassed t s (limit_view l))) c.in_default.is (c.in_ok-limit.ensures t used s c.args.place k.steps.signature k.setting k.whole at i same k.limits) in
    let silent = silent_at t used s c.args.place f i none in
    let told = c.in_ok-parts.ensures t used s found k z all c.args.place f at i (c.priority_at-priority.ensures t k.steps.runs) c.in_ok-narrowed.ensures in
    ((λ tried. open_told t used s c.args.place i.read (map turn_view c.args.turns.now) found f.part.part c.in-UndecidedClauses.told (i.rule, i.at, i.body) z (subst (TellsParts t used s c.args.place found f.part.part) c.in-UndecidedClauses.is told) tried k.limits.0 k.known silent), silent)
