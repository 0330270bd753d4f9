-- Left terms whose instance is a value, part by part.
use Rattle.std.proofs.Common.{◌≡◌, List, map}
use Rattle.kp_kore.specs.Syntax.{Text}
use Rattle.kp_kore.specs.Value.{constructed, Values}
use Rattle.kp_kore.specs.Instance.{Valuation}
use Rattle.kp_ground.specs.Terms.{left_built}
use Rattle.kp_ground.specs.LeftView.{left_view, lefts_of}
use Rattle.kp_ground.specs.View.{value_view, values_of}
use Rattle.kp_ground.specs.Matches.{AreSame, IsSame}
use Rattle.kp_ground.specs.declared.left_side.CompiledLeft.{CompiledLeft}
use Rattle.kp_ground.specs.declared.value.Value.{Value}
use Rattle.kp_ground.proofs.MatchLemmas.{same_arguments}

same_tops : (f h : Text) (us ws : Values) → constructed f us ≡ constructed h ws → f ≡ h
same_tops f h us ws e = cc

-- where the left term's instance is the value, the instances of its parts are the value's
pub same_parts : (f h : Text) (ts : List CompiledLeft) (us : List Value) (v : Valuation) → IsSame (left_built f (lefts_of (map left_view ts))) (constructed h (values_of (map value_view us))) v → AreSame ts us v
same_parts f h ts us v same = (same_arguments f h ts us (same_tops f h _ _ same) v).1 same
