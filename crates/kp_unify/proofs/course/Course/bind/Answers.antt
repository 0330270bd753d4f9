use Rattle.std.proofs.Common.{rules, ◌≡◌, sym, ◌∙◌, ap, subst, map}
use Rattle.std.specs.Prelude.{OnOk, string_bytes}
use Rattle.std.specs.Option.{option_map}
use Rattle.kp_kore.specs.View.{sort_view}
use Rattle.kp_symbolic.specs.Terms.{replacement_for}
use Rattle.kp_symbolic.specs.View.{term_view, replaced_view}
use Rattle.kp_unify.specs.Views.{stage_view}
use Rattle.kp_unify.specs.Way.{bound_stage}
use Rattle.kp_unify.proofs.course.Course.bind.Goals as goal

pub returns-in-None : goal.returns-in-None
returns-in-None c =
    let name : c.deref-3.result.now ≡ string_bytes c.args.name.now.value = search rules in
    subst (λ o. OnOk c.bind_first.result (stage_view c.bind_first.new.self ≡ bound_stage (stage_view c.args.self.now) (string_bytes c.args.name.now.value) (sort_view c.args.sort.now) (term_view c.args.term.now) o))
    (sym (ap (λ o. option_map term_view o) c.in-None.is) ∙ c.in_ok-bound.ensures ∙ ap (λ bs. replacement_for (map replaced_view bs) c.deref-3.result.now) c.deref.ensures.value ∙ ap (λ n. replacement_for (map replaced_view c.args.self.now.bindings.items) n) name) (c.bind_first.ensures (sort_view c.args.sort.now))
