use Rattle.kp_kore.proofs.Covered.{covered, vacuous_beside}
use Rattle.kp_kore.proofs.reply_laws.implying_the_target_makes_a_cover.Goals as goal

pub returns-clause-cover : goal.returns-clause-cover
returns-clause-cover c = covered

pub returns-clause-vacuous : goal.returns-clause-vacuous
returns-clause-vacuous c = vacuous_beside
