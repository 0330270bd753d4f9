use Rattle.std.proofs.Common.{rules}
use Rattle.kp_diff.specs.Rows.{values_of}
use Rattle.kp_demands.specs.Demands.{Assignment, IsMetBy, MeetsBound, MeetsTruth, MeetsSame, MeetsApart}
use Rattle.kp_demands.specs.Classes.{root_in}
use Rattle.kp_demands.specs.Truths.{truths_in}
use Rattle.kp_demands.proofs.Lists.{all_map}
use Rattle.kp_demands.proofs.MetKinds.{bound_met, truth_met, same_met, apart_met, all_met, own_truths}
use Rattle.kp_demands.proofs.tables.Tables.meet.Goals as goal

pub returns-then-not-agree-clause-no : goal.returns-then-not-agree-clause-no
returns-then-not-agree-clause-no c _ can = c.agree.ensures.no (search rules) can.values.truths (all_map (IsMetBy can.values) (MeetsTruth can.values.truths) c.args.demands.now (truth_met can.values) can.demands_met)

pub returns-then-not-agree-2-clause-no : goal.returns-then-not-agree-2-clause-no
returns-then-not-agree-2-clause-no c _ can = c.agree-2.ensures.no (search rules) can.values.classes can.lawful.differ
    (all_map (IsMetBy can.values) (MeetsSame can.values.classes) c.args.demands.now (same_met can.values) can.demands_met)
    (all_map (IsMetBy can.values) (MeetsApart can.values.classes) c.args.demands.now (apart_met can.values) can.demands_met)

pub returns-clause-yes : goal.returns-clause-yes
returns-clause-yes c h =
    let values : Assignment = record { wholes = values_of c.agree-3.new.matrix; truths = truths_in c.agree.new.table; classes = root_in c.agree-2.new.roots } in
    record {
      values = values;
      lawful = record { zero_is = c.agree-3.ensures.zero h; differ = c.agree-2.ensures.fixed (search rules) };
      demands_met = all_met values c.args.demands.now (c.agree-3.ensures.yes h) ((c.agree.ensures.yes (search rules) (truths_in c.agree.new.table)).0 (own_truths c.agree.new.table))
          (c.agree-2.ensures.same (search rules)) (c.agree-2.ensures.apart (search rules));
      choices_met = tt;
    }

pub returns-clause-no : goal.returns-clause-no
returns-clause-no c h can = c.agree-3.ensures.no h can.values.wholes can.lawful.zero_is (all_map (IsMetBy can.values) (MeetsBound can.values.wholes) c.args.demands.now (bound_met can.values) can.demands_met)
