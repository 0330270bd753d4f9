use Rattle.std.proofs.Common.{◌≡◌, Some, sym, subst, ◌∙◌}
use Rattle.kp_modules.specs.Made.{IsSetOf}
use Rattle.kp_registry.specs.Passes.{first_binding}
use Rattle.kp_registry.proofs.Binders.{found_within, means_first, means_nothing, some_entry}
use Rattle.kp_registry.proofs.seen.Book.rules.Goals as goal

pub rules_at-requires : goal.rules_at-requires
rules_at-requires c = record { within = found_within c.args.self.now.entries.items c.args.name.now c.in-Some.place (sym c.place.ensures ∙ c.in-Some.is) }

pub returns-in_ok-rules_at-in-Some : goal.returns-in_ok-rules_at-in-Some
returns-in_ok-rules_at-in-Some c = λ o book out seen.
    let es = c.args.self.now.entries.items in
    let told : first_binding es c.args.name.now ≡ Some c.in-Some.place = sym c.place.ensures ∙ c.in-Some.is in
    let e = some_entry es c.in-Some.place (found_within es c.args.name.now c.in-Some.place told) in
    let means = means_first o book es c.args.name.now c.in-Some.place e out seen told in
    (means.0, means.1, subst (IsSetOf o.signature means.0) (sym (c.in_ok-rules_at-in-Some.ensures e)) means.2)

pub returns-in-None : goal.returns-in-None
returns-in-None c = λ o book out seen. means_nothing o book c.args.self.now.entries.items c.args.name.now out seen (sym c.place.ensures ∙ c.in-None.is)
