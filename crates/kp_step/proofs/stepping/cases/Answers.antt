use Rattle.std.proofs.Common.{map, Some, None}
use Rattle.kp_case_laws.specs.Parts.{whole}
use Rattle.kp_unify.specs.Views.{signature_of}
use Rattle.kp_step.specs.Views.{numbered_views, turn_view, limit_view}
use Rattle.kp_step.proofs.OutcomeLemmas.{turns_at}
use Rattle.kp_step.proofs.EndLemmas.{cases_right, passes_written, solved_by, solved_each_by, limits_of}
use Rattle.kp_step.proofs.stepping.cases.Goals as goal

pub returns-in-Some : goal.returns-in-Some
returns-in-Some c t used s found steps setting some none known f z r =
    let g = signature_of c.args.setting in
    let turns = map turn_view c.args.turns.now in
    let nexts = c.in_ok-nexts.nexts.items in
    let others = c.in_ok-remainder.remainder.items in
    let follow = c.in_ok-nexts.ensures t used (whole s) steps setting (turns_at t used s turns turns f.each) in
    let rest = solved_by t used s g found (numbered_views c.args.remainder.items) (numbered_views others) steps.signature r (c.in_ok-remainder.ensures used) in
    let told = limits_of g t.signature c.in_ok-limit.field-0 (Some c.in-Some.limit) c.deref.result.now nexts c.deref-2.result.now others steps.signature c.in-Some.is c.deref.ensures.value c.deref-2.ensures.value c.in_ok-limit.ensures in
    passes_written t used s turns found nexts others (limit_view c.in-Some.limit) f z follow steps.own_ids known rest none told

pub returns-in-None : goal.returns-in-None
returns-in-None c t used s found steps setting some none known f z r =
    let g = signature_of c.args.setting in
    let turns = map turn_view c.args.turns.now in
    let nexts = c.in_ok-nexts.nexts.items in
    let others = c.in_ok-remainder.remainder.items in
    let follow = c.in_ok-nexts.ensures t used (whole s) steps setting (turns_at t used s turns turns f.each) in
    let rest = solved_by t used s g found (numbered_views c.args.remainder.items) (numbered_views others) steps.signature r (c.in_ok-remainder.ensures used) in
    let told = limits_of g t.signature c.in_ok-limit.field-0 None c.deref.result.now nexts c.deref-2.result.now others steps.signature c.in-None.is c.deref.ensures.value c.deref-2.ensures.value c.in_ok-limit.ensures in
    let solved = solved_each_by t used s g found (numbered_views c.args.remainder.items) (numbered_views others) steps.signature r (c.in_ok-remainder.ensures used) in
    cases_right t used s turns found nexts others f z follow steps.own_ids known rest solved none told some
