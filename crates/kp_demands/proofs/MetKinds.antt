-- Values meet all demands exactly where each kind's meet those of the kind.
use Rattle.std.proofs.Common.{refl, get_or, Bool, Option, Some, None, List, [], ◌∷◌}
use Rattle.std.specs.List.{AllByRecursion}
use Rattle.kp_demands.specs.declared.demand.Demand.{Demand}
use Rattle.kp_demands.specs.declared.demand.Demand.TheVariants.{Bound, Truth, Same, Apart}
use Rattle.kp_demands.specs.Demands.{Assignment, IsMetBy, MeetsBound, MeetsTruth, MeetsSame, MeetsApart}
use Rattle.kp_demands.specs.Truths.{IsTruth, HaveTruths, truth_or_false, truths_in}

pub bound_met : (a : Assignment) (d : Demand) → IsMetBy a d → MeetsBound a.wholes d
bound_met a (Bound x y c) h = h
bound_met a (Truth x b) h = tt
bound_met a (Same x y) h = tt
bound_met a (Apart x y) h = tt

pub truth_met : (a : Assignment) (d : Demand) → IsMetBy a d → MeetsTruth a.truths d
truth_met a (Bound x y c) h = tt
truth_met a (Truth x b) h = h
truth_met a (Same x y) h = tt
truth_met a (Apart x y) h = tt

pub same_met : (a : Assignment) (d : Demand) → IsMetBy a d → MeetsSame a.classes d
same_met a (Bound x y c) h = tt
same_met a (Truth x b) h = tt
same_met a (Same x y) h = h
same_met a (Apart x y) h = tt

pub apart_met : (a : Assignment) (d : Demand) → IsMetBy a d → MeetsApart a.classes d
apart_met a (Bound x y c) h = tt
apart_met a (Truth x b) h = tt
apart_met a (Same x y) h = tt
apart_met a (Apart x y) h = h

pub all_met : (a : Assignment) (ds : List Demand) → AllByRecursion (MeetsBound a.wholes) ds → AllByRecursion (MeetsTruth a.truths) ds → AllByRecursion (MeetsSame a.classes) ds → AllByRecursion (MeetsApart a.classes) ds → AllByRecursion (IsMetBy a) ds
all_met a [] b t s p = tt
all_met a (d ∷ ds) b t s p = (one d b.0 t.0 s.0 p.0, all_met a ds b.1 t.1 s.1 p.1)
  where
    one : (d : Demand) → MeetsBound a.wholes d → MeetsTruth a.truths d → MeetsSame a.classes d → MeetsApart a.classes d → IsMetBy a d
    one (Bound x y c) b t s p = b
    one (Truth x v) b t s p = t
    one (Same x y) b t s p = s
    one (Apart x y) b t s p = p

pub own_truths : (table : List (Option Bool)) → HaveTruths table (truths_in table)
own_truths table x = own (get_or table x None)
  where
    own : (o : Option Bool) → IsTruth o (truth_or_false o)
    own (Some b) = refl
    own None = tt
