use Rattle.std.proofs.Common.{rules, refl, sym, subst}
use Rattle.kp_diff.specs.Bounds.{HaveBits, Meets}
use Rattle.kp_diff.specs.Rows.{bounds_of, values_of}
use Rattle.kp_demands.proofs.places.agree.Goals as goal

pub feasible-requires : goal.feasible-requires
feasible-requires c = record {
  bits = c.requires.0.bits;
  weight = search rules;
  each = subst (λ n. HaveBits c.requires.0.bits n (bounds_of c.fill.new.matrix)) (sym c.fill.ensures.size) (c.fill.ensures.bits c.requires.0 c.requires.3);
}

pub returns-in-Yes-clause-yes : goal.returns-in-Yes-clause-yes
returns-in-Yes-clause-yes c _ =
    let met : Meets c.args.matrix.now.size (bounds_of c.fill.new.matrix) (values_of c.feasible.new.self) = subst (λ n. Meets n (bounds_of c.fill.new.matrix) (values_of c.feasible.new.self)) c.fill.ensures.size (c.in-Yes.ensures.yes refl) in
    (c.fill.ensures.met (values_of c.feasible.new.self) met.zero_is).0 met

pub returns-in-No-clause-no : goal.returns-in-No-clause-no
returns-in-No-clause-no c _ values zero_is all = c.in-No.ensures.no refl values
    (subst (λ n. Meets n (bounds_of c.fill.new.matrix) values) (sym c.fill.ensures.size) ((c.fill.ensures.met values zero_is).1 all))

pub returns-in-Yes-clause-follow : goal.returns-in-Yes-clause-follow
returns-in-Yes-clause-follow c _ values zero_is all =
    let filled : Meets c.fill.new.matrix.size (bounds_of c.fill.new.matrix) values = subst (λ n. Meets n (bounds_of c.fill.new.matrix) values) (sym c.fill.ensures.size) ((c.fill.ensures.met values zero_is).1 all) in
    subst (λ n. Meets n (bounds_of c.feasible.new.self) values) (sym c.in-Yes.ensures.size) ((c.in-Yes.ensures.same values).0 filled)
