use Rattle.kp_links.specs.RightExchanges.{IsServed}
use Rattle.kp_round_laws.proofs.PassedLayers.{passed_claims_hold}
use Rattle.kp_round_laws.proofs.laws.passed_claims_hold.Goals as goal

pub returns : goal.returns
returns c = λ o t. passed_claims_hold (IsServed o) t
