use Rattle.std.proofs.Common.{rules, ◌≡◌, ◌≤◌, ◌+◌, subst, length, take, get_or}
use Rattle.kp_modules.specs.Extending.{IsTakenFrom}
use Rattle.kp_modules.specs.Made.{AreMadeOf}
use Rattle.kp_modules.proofs.Gathering.{zip_at, zip_all}
use Rattle.kp_modules.proofs.Taken.{made_more}
use Rattle.kp_modules.proofs.joined_rules.all_named.Goals as goal

pub loop-i-preserved : goal.loop-i-preserved
loop-i-preserved c g names axioms counts taken =
    let i = c.loop-i.i in
    let rs = c.args.rules.now in
    let r = c.index-rules-i.result in
    let read : r ≡ get_or rs i r = search rules in
    let here = zip_at (λ a s. IsTakenFrom g a s.now) axioms rs i r taken c.loop-i-test.true read in
    made_more g names (take i axioms) (take (i + 1) axioms) c.loop-i.found.items c.push.new.self.items here.0 c.in_ok-named.field-0
    (c.loop-i.invariant g names axioms counts taken) (c.in_ok-named.ensures g names here.0 counts here.2) here.1 c.in_ok-push.ensures.items

pub returns : goal.returns
returns c g names axioms counts taken =
    let past : length c.args.rules.now ≤ c.loop-i.i = search rules in
    subst (λ l. AreMadeOf g names l c.loop-i.found.items) (zip_all (λ a s. IsTakenFrom g a s.now) axioms c.args.rules.now c.loop-i.i taken past) (c.loop-i.invariant g names axioms counts taken)
