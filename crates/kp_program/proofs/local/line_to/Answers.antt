use Rattle.std.proofs.Common.{rules, subst}
use Rattle.std.specs.Prelude.{Vec, Option, ℕ}
use Rattle.std.specs.Option.{option_map}
use Rattle.std.specs.declared.alloc.Global.{Global}
use Rattle.kp_program.specs.LocalTold.{IsAnsweredBy}
use Rattle.kp_program.proofs.Answering.{replied_not, replied_with}
use Rattle.kp_program.proofs.local.line_to.Goals as goal

pub returns-in-Some-clause-replied : goal.returns-in-Some-clause-replied
returns-in-Some-clause-replied g c = λ o is.
    replied_with o c.args.frame.now c.in-Some.text.items c.line_with.result
    (subst (λ (r : Option (Vec ℕ Global)). IsAnsweredBy o c.args.frame.now (option_map (λ text. text.items) r)) c.in-Some.is (c.in_ok-text.ensures.answered o is))
    c.line_with.ensures

pub returns-in-None-clause-replied : goal.returns-in-None-clause-replied
returns-in-None-clause-replied g c = λ o is.
    replied_not o c.args.frame.now c.new.result.items (search rules) (subst (λ (r : Option (Vec ℕ Global)). IsAnsweredBy o c.args.frame.now (option_map (λ text. text.items) r)) c.in-None.is (c.in_ok-text.ensures.answered o is))
