use Rattle.kp_symbolic.proofs.NormalForm.{folded_folded}
use Rattle.kp_symbolic.proofs.laws.folding_gives_normal_forms.Goals as goal

pub returns : goal.returns
returns c = folded_folded
