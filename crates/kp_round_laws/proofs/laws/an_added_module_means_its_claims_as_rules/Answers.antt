use Rattle.kp_round_laws.proofs.AddedClaims.{added_means_claims}
use Rattle.kp_round_laws.proofs.laws.an_added_module_means_its_claims_as_rules.Goals as goal

pub returns : goal.returns
returns c = λ o t main book r claims legal is spells can few id. added_means_claims o t book r claims main legal is spells can few id
