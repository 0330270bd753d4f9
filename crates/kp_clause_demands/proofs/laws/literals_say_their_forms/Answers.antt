use Rattle.kp_clause_demands.proofs.FormLemmas.{form_says}
use Rattle.kp_clause_demands.proofs.laws.literals_say_their_forms.Goals as goal

pub returns : goal.returns
returns c = form_says
