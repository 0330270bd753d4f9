use Rattle.std.proofs.Common.{rules, ◌≡◌, ◌∙◌, length}
use Rattle.std.specs.Vec.{vec_len}
use Rattle.kp_kore.specs.View.{sort_view}
use Rattle.kp_outward.proofs.JoinedLemmas.{last_joined}
use Rattle.kp_outward.proofs.joined.all_out.Goals as goal

pub returns-then-len-lt2 : goal.returns-then-len-lt2
returns-then-len-lt2 c =
    let long : vec_len c.args.spelled ≡ length c.args.spelled.items = search rules in
    c.last_of.ensures ∙ last_joined (sort_view c.args.sort.now) (vec_len c.args.spelled) (vec_len c.pop.new.self) c.args.spelled.items c.pop.new.self.items c.pop.result long (search rules) c.pop.ensures.items c.pop.ensures.cases
