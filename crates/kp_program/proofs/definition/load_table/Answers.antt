use Rattle.std.proofs.Common.{Err, ap, rules}
use Rattle.std.proofs.lemmas.Result.{IfErr-weaker}
use Rattle.kp_program.proofs.Causes.{faulty_cause, too_long_cause}
use Rattle.kp_program.proofs.definition.load_table.Goals as goal

pub returns-in-Err-TooLong-clause-cause : goal.returns-in-Err-TooLong-clause-cause
returns-in-Err-TooLong-clause-cause g c = λ words named.
    too_long_cause _ words _ c.args.name.now c.args.main.now c.file_trouble.result (c.in-Err-TooLong.ensures.too_long (ap Err c.in-Err-TooLong.field-0-is)) named c.file_trouble.ensures.definition

pub returns-in-Ok-Some-clause-cause : goal.returns-in-Ok-Some-clause-cause
returns-in-Ok-Some-clause-cause g c = λ words named.
    IfErr-weaker c.table_of.result _ _ (λ t wrong.
    faulty_cause (g.H.Shelf.names c.args.shelf.now) words _ c.args.name.now c.args.main.now c.deref.result.now t (search rules) named wrong)
    (c.table_of.ensures.fault (search rules))
