use Rattle.std.proofs.Common.{subst, map}
use Rattle.kp_case_laws.specs.Parts.{whole}
use Rattle.kp_case_laws.specs.Turns.{rules_of}
use Rattle.kp_step.specs.Answers.{TellsRemainder}
use Rattle.kp_step.specs.Views.{turn_view}
use Rattle.kp_step.proofs.FoundLemmas.{turns_of, are_all_turns}
use Rattle.kp_step.proofs.TryLemmas.{found_rules}
use Rattle.kp_step.proofs.MeetLemmas.{turns_meet}
use Rattle.kp_step.proofs.EndLemmas.{told_remainder_open}
use Rattle.kp_step.proofs.stepping.by_turns.Goals as goal

pub returns-in-Parts : goal.returns-in-Parts
returns-in-Parts c t used s from some f =
    let ks = map turn_view c.args.turns.now in
    let found = rules_of (turns_of t used (whole s) ks ks f.each) in
    let z = found_rules t used (whole s) ks ks f.each in
    let meet = turns_meet t used s ks ks f.each in
    c.cases.ensures t used s found from.steps from.setting some from.limits from.known f z (subst (TellsRemainder t used s found) c.in-Parts.is (c.in_ok-parts.ensures t used s found from z meet some))

pub returns-in-UndecidedClauses : goal.returns-in-UndecidedClauses
returns-in-UndecidedClauses c t used s from some f =
    let ks = map turn_view c.args.turns.now in
    let found = rules_of (turns_of t used (whole s) ks ks f.each) in
    let z = found_rules t used (whole s) ks ks f.each in
    let meet = turns_meet t used s ks ks f.each in
    told_remainder_open t used s found c.in-UndecidedClauses.told (subst (TellsRemainder t used s found) c.in-UndecidedClauses.is (c.in_ok-parts.ensures t used s found from z meet some)) (are_all_turns t used (whole s) ks f) from.limits.0 from.known
