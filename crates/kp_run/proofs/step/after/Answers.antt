use Rattle.std.proofs.Common.{rules, ◌≡◌, sym, subst, true, false}
use Rattle.std.specs.Prelude.{Ok}
use Rattle.kp_ground.specs.Outcomes.{Gives}
use Rattle.kp_ground.specs.Slots.{term_reads}
use Rattle.kp_ground.specs.Solves.{bound_names}
use Rattle.kp_run.proofs.Bound.{right_reads}
use Rattle.kp_ground.specs.LeftView.{left_view}
use Rattle.kp_ground.specs.Terms.{left_value}
use Rattle.kp_ground.specs.TermView.{term_view}
use Rattle.kp_ground.specs.View.{value_view}
use Rattle.kp_kore.specs.Parts.{term_depth}
use Rattle.kp_kore.specs.View.{sort_view}
use Rattle.kp_signature.specs.View.{signature_view}
use Rattle.kp_compile.specs.Spelled.{spelling}
use Rattle.kp_run.specs.View.{AreDepthsOf}
use Rattle.kp_run.specs.Turns.{deep}
use Rattle.kp_compile.specs.declared.state.GroundState.{GroundState}
use Rattle.kp_run.proofs.Turning.{is_beyond}
use Rattle.kp_run.proofs.step.after.Goals as goal

pub returns-clause-after : goal.returns-clause-after
returns-clause-after c =
    let gives : Gives (Ok c.in_ok-value.value) c.args.firing.now.bindings.items (term_view c.args.firing.now.rewrite.now.right) =
    subst (λ bs. Gives (Ok c.in_ok-value.value) bs (term_view c.args.firing.now.rewrite.now.right)) c.deref.ensures.value c.in_ok-value.ensures in
    record {
      chooses = search rules;
      value = λ v s. (gives v s).0;
      sort = λ h. c.in_ok-sort.ensures.sort (value_view c.in_ok-value.value) h;
    }

pub returns-then-not-is_shallow_at-clause-not_followed : goal.returns-then-not-is_shallow_at-clause-not_followed
returns-then-not-is_shallow_at-clause-not_followed c = λ _.
    let g = signature_view c.args.signature.now in
    let next : GroundState = record { value = c.in_ok-value.value; sort = c.in_ok-sort.sort } in
    let gives : Gives (Ok c.in_ok-value.value) c.args.firing.now.bindings.items (term_view c.args.firing.now.rewrite.now.right) =
    subst (λ bs. Gives (Ok c.in_ok-value.value) bs (term_view c.args.firing.now.rewrite.now.right)) c.deref.ensures.value c.in_ok-value.ensures in
    let v = c.requires.matched.solvable.0 in
    let held = c.requires.matched.solvable.1 in
    let before : AreDepthsOf g (left_value v (left_view c.args.firing.now.rewrite.now.left)) c.args.depths.now = subst (λ u. AreDepthsOf g u c.args.depths.now) (sym (c.requires.matched.same v held)) c.requires.counted in
    let counts : AreDepthsOf g (value_view c.in_ok-value.value) c.in_ok-next.next = c.in_ok-next.ensures v before (gives v held).0 in
    let isnt : c.is_shallow_at.result ≡ false = search rules in
    deep (record {
      next = next;
      after = record {
        chooses = search rules;
        value = λ v s. (gives v s).0;
        sort = λ h. c.in_ok-sort.ensures.sort (value_view c.in_ok-value.value) h;
      };
      written = c.in_ok-sort.ensures.written;
      deep = is_beyond (term_depth (spelling g (sort_view c.in_ok-sort.sort) (value_view c.in_ok-value.value))) 48 c.is_shallow_at.result isnt (c.is_shallow_at.ensures counts);
    })

pub returns-clause-followed : goal.returns-clause-followed
returns-clause-followed c =
    let gives : Gives (Ok c.in_ok-value.value) c.args.firing.now.bindings.items (term_view c.args.firing.now.rewrite.now.right) =
    subst (λ bs. Gives (Ok c.in_ok-value.value) bs (term_view c.args.firing.now.rewrite.now.right)) c.deref.ensures.value c.in_ok-value.ensures in
    let g = signature_view c.args.signature.now in
    let v = c.requires.matched.solvable.0 in
    let held = c.requires.matched.solvable.1 in
    let before : AreDepthsOf g (left_value v (left_view c.args.firing.now.rewrite.now.left)) c.args.depths.now = subst (λ u. AreDepthsOf g u c.args.depths.now) (sym (c.requires.matched.same v held)) c.requires.counted in
    let counts : AreDepthsOf g (value_view c.in_ok-value.value) c.in_ok-next.next = c.in_ok-next.ensures v before (gives v held).0 in
    let is : c.is_shallow_at.result ≡ true = search rules in
    record {
      narrow = λ v s. (gives v s).1;
      within = (c.is_shallow_at.ensures counts).0 is;
    }

pub evaluate-requires : goal.evaluate-requires
evaluate-requires c =
    let plain : c.args.firing.now.rewrite.now.chooses ≡ false = search rules in
    subst (λ bs. term_reads (bound_names bs) c.args.firing.now.rewrite.now.right ≡ true) (sym c.deref.ensures.value) (right_reads c.args.firing.now plain)

pub returns-clause-counted : goal.returns-clause-counted
returns-clause-counted c =
    let g = signature_view c.args.signature.now in
    let gives : Gives (Ok c.in_ok-value.value) c.args.firing.now.bindings.items (term_view c.args.firing.now.rewrite.now.right) =
    subst (λ bs. Gives (Ok c.in_ok-value.value) bs (term_view c.args.firing.now.rewrite.now.right)) c.deref.ensures.value c.in_ok-value.ensures in
    let v = c.requires.matched.solvable.0 in
    let held = c.requires.matched.solvable.1 in
    let before : AreDepthsOf g (left_value v (left_view c.args.firing.now.rewrite.now.left)) c.args.depths.now = subst (λ u. AreDepthsOf g u c.args.depths.now) (sym (c.requires.matched.same v held)) c.requires.counted in
    let counts : AreDepthsOf g (value_view c.in_ok-value.value) c.in_ok-next.next = c.in_ok-next.ensures v before (gives v held).0 in
    counts
