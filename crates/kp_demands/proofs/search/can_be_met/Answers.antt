use Rattle.std.proofs.Common.{rules, sym, subst}
use Rattle.kp_demands.specs.Known.{Follow}
use Rattle.kp_demands.proofs.search.can_be_met.Goals as goal

pub search_choices-requires-clause-search : goal.search_choices-requires-clause-search
search_choices-requires-clause-search c = (c.requires.0, c.meet.ensures.sizes c.requires.0 c.requires.1, c.requires.2, c.requires.3, c.requires.4)

pub search_choices-requires-clause-follow : goal.search_choices-requires-clause-follow
search_choices-requires-clause-follow c = subst (λ m. Follow c.args.demands.now.items m) (sym c.in_ok-known.ensures.same) (subst (λ l. Follow l c.meet.new.self.matrix) c.deref.ensures.value (c.meet.ensures.follow (search rules)))
