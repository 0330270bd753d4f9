use Rattle.std.proofs.Common.{rules, ◌≡◌, ◌∙◌, sym, ap, subst, true, ◌∷◌}
use Rattle.std.specs.List.{AllByRecursion}
use Rattle.kp_symbolic.specs.Clauses.{is_too_large, denied}
use Rattle.kp_symbolic.specs.Solving.{negated}
use Rattle.kp_symbolic_laws.specs.Kept.{CanBeWrittenAt}
use Rattle.kp_unify.specs.Views.{signature_of, numbered_view}
use Rattle.kp_step.specs.Firings.{numbered, clauses_of_firing}
use Rattle.kp_step.specs.ReadyParts.{narrowed_by}
use Rattle.kp_step.specs.Silent.{IsExcluded}
use Rattle.kp_step.proofs.SilentLemmas.{excluded_parts}
use Rattle.kp_step.proofs.excluding.without.Goals as goal

pub returns : goal.returns
returns c used body p f =
    let g = signature_of c.args.setting.now in
    let q = numbered_view c.args.firing.part in
    let cs = clauses_of_firing c.args.firing in
    let apart = numbered c.args.firing.apart.items in
    let view : numbered_view c.in_ok-met.met ≡ narrowed_by q (negated g q.part.state.sort cs) = search rules in
    let room : is_too_large 0 (denied g cs) ≡ true → AllByRecursion (CanBeWrittenAt g q.part.state.sort) cs = search rules in
    let items : c.append.new.self.items ≡ c.in_ok-met.met ∷ c.args.firing.apart.items = search rules in
    subst (IsExcluded g used body p) (sym (ap numbered items ∙ ap (λ y. y ∷ apart) view)) (excluded_parts g used body p q cs apart f room)
