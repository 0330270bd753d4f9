use Rattle.std.proofs.Common.{rules, ◌≡◌, ◌∷◌, [], ◌++◌, ◌∙◌, sym, ap, subst, map, length}
use Rattle.std.proofs.lemmas.Result.{IfErr-weaker}
use Rattle.std.proofs.lemmas.List.{length-map, map-append}
use Rattle.kp_kore.specs.View.{view}
use Rattle.kp_text.specs.Grammar.{below, next_in_fold}
use Rattle.kp_text.specs.Heads.{one_meaning, two_meaning, closed_place, one_place, two_place, IsDeep}
use Rattle.kp_kore.specs.Syntax.{KorePattern}
use Rattle.kp_text.specs.Next.{Place, a_pattern, more_folded}
use Rattle.kp_text.specs.Reads.{IsMarkAhead, IsSeparator, run_text}
use Rattle.kp_text.proofs.Exits.{exit, stops_there, found_on, stopped_on}
use Rattle.kp_text.proofs.InPatterns.{patterns_begin, fold_goes_on}
use Rattle.kp_text.proofs.Alike.{alike}
use Rattle.kp_text.proofs.descent.+pattern.Goals as goal

pub patterns-returns-in-None-clause-found : goal.patterns-returns-in-None-clause-found
patterns-returns-in-None-clause-found t c =
    let no = subst (IsMarkAhead c.args.tail c.args.text.now c.args.close) c.in-None.is c.in_ok-rest.ensures.found in
    found_on c.some_patterns.result _ _ _ (λ k. sym (patterns_begin c.args.tail c.args.text.now c.args.level c.args.close k no)) c.some_patterns.ensures.found

pub patterns-returns-in-None-clause-fault : goal.patterns-returns-in-None-clause-fault
patterns-returns-in-None-clause-fault t c =
    let no = subst (IsMarkAhead c.args.tail c.args.text.now c.args.close) c.in-None.is c.in_ok-rest.ensures.found in
    stopped_on c.some_patterns.result _ _ (λ k. sym (patterns_begin c.args.tail c.args.text.now c.args.level c.args.close k no)) c.some_patterns.ensures.fault

pub a_pattern-returns-clause-found : goal.a_pattern-returns-clause-found
a_pattern-returns-clause-found t c =
    found_on c.with_patterns.result _ _ _ (λ k. c.in_ok-head.ensures.found k ∙ c.in_ok-beginning.ensures.found k) c.with_patterns.ensures.found

pub a_pattern-returns-clause-fault : goal.a_pattern-returns-clause-fault
a_pattern-returns-clause-fault t c =
    stopped_on c.with_patterns.result _ _ (λ k. c.in_ok-head.ensures.found k ∙ c.in_ok-beginning.ensures.found k) c.with_patterns.ensures.fault

pub a_member-returns-clause-fault : goal.a_member-returns-clause-fault
a_member-returns-clause-fault t c =
    IfErr-weaker c.a_pattern.result _ _ (λ e stop f ss p ps long deep. stops_there c.args.tail c.args.text.now c.args.text.now (a_pattern (next_in_fold c.args.side f ss c.args.level p ps)) (a_pattern c.next_in_fold-inner.result) (λ k. k) e (λ k. sym (alike c.args.tail c.args.text.now c.next_in_fold-inner.result (next_in_fold c.args.side f ss c.args.level p ps) k (c.next_in_fold-inner.ensures.alike f ss p ps long deep))) stop) c.a_pattern.ensures.fault

pub more_folded-returns-in_err-member-in-Comma-clause-fault :
    goal.more_folded-returns-in_err-member-in-Comma-clause-fault
more_folded-returns-in_err-member-in-Comma-clause-fault t c =
    let tail = c.args.tail in
    let l = c.args.level in
    let side = c.args.side in
    let p = view c.args.first.now in
    let ps = map view c.loop-others.others.items in
    let long : length ps ≡ c.len.result = search (rules, length-map) in
    let sep = subst (IsSeparator tail c.loop-others.rest.now 41) c.in-Comma.is c.in_ok-behind.ensures.found in
    exit c.from_residual-in_err-member-in-Comma.result _ c.in_err-member-in-Comma.field-0.0 c.from_residual-in_err-member-in-Comma.ensures (λ f ss. stops_there tail c.args.text.now c.in-Comma.behind.now (λ k. more_folded side f ss l p [] k) (a_pattern (next_in_fold side f ss l p ps)) (λ k q. more_folded side f ss l p (ps ++ q ∷ []) k) _ (λ k. sym (c.loop-others.invariant.same f ss k) ∙ fold_goes_on tail c.loop-others.rest.now c.in-Comma.behind.now sep.0.0 side f ss l p ps k sep.0.1) (c.in_err-member-in-Comma.ensures.fault f ss p ps long c.loop-others.invariant.deep))

pub more_folded-loop-others-preserved : goal.more_folded-loop-others-preserved
more_folded-loop-others-preserved t c =
    let tail = c.args.tail in
    let l = c.args.level in
    let side = c.args.side in
    let p = view c.args.first.now in
    let ps = map view c.loop-others.others.items in
    let q = view c.in_ok-member-in-Comma.member in
    let long : length ps ≡ c.len.result = search (rules, length-map) in
    let long2 : length ps ≡ c.len-in-Comma.result = search (rules, length-map) in
    let sep = subst (IsSeparator tail c.loop-others.rest.now 41) c.in-Comma.is c.in_ok-behind.ensures.found in
    let more : map view c.push.new.self.items ≡ ps ++ q ∷ [] = search (rules, map-append) in
    record {
      text = search rules;
      behind = search rules;
      many = search rules;
      bound = search rules;
      deep = subst (λ qs. IsDeep side p qs c.deeper-deep.result) (sym more) (c.deeper-deep.ensures.same p q ps long2 c.nesting.ensures.same c.loop-others.invariant.deep);
      same = λ f ss k. ap (λ qs. run_text tail c.in_ok-member-in-Comma.after.now (more_folded side f ss l p qs k)) more ∙ c.in_ok-member-in-Comma.ensures.found f ss p ps long c.loop-others.invariant.deep (λ q. more_folded side f ss l p (ps ++ q ∷ []) k) ∙ sym (fold_goes_on tail c.loop-others.rest.now c.in-Comma.behind.now sep.0.0 side f ss l p ps k sep.0.1) ∙ c.loop-others.invariant.same f ss k;
    }

pub with_one-returns-clause-found : goal.with_one-returns-clause-found
with_one-returns-clause-found t c = λ k.
    let make : KorePattern → Place = λ p. k (one_meaning c.args.form p) in
    ap (λ p. run_text c.args.tail c.in_ok-pattern.rest.now (k p)) c.with.ensures ∙ c.in_ok-pattern.ensures.found make ∙ ap (λ l. run_text c.args.tail c.args.text.now (closed_place l 41 make)) c.below.ensures

pub with_one-returns-in_err-pattern-clause-fault :
    goal.with_one-returns-in_err-pattern-clause-fault
with_one-returns-in_err-pattern-clause-fault t c =
    exit c.from_residual.result _ c.in_err-pattern.field-0.0 c.from_residual.ensures (stops_there c.args.tail c.args.text.now c.args.text.now (one_place c.args.level c.args.form) (closed_place c.below.result 41) (λ k p. k (one_meaning c.args.form p)) _ (λ k. ap (λ l. run_text c.args.tail c.args.text.now (closed_place l 41 (λ p. k (one_meaning c.args.form p)))) (sym c.below.ensures)) c.in_err-pattern.ensures.fault)

pub with_two-returns-clause-found : goal.with_two-returns-clause-found
with_two-returns-clause-found t c = λ k.
    let right : KorePattern → Place = λ q. k (two_meaning c.args.form (view c.in_ok-left.left.value) q) in
    let left : KorePattern → Place = λ p. closed_place (below c.args.level) 41 (λ q. k (two_meaning c.args.form p q)) in
    ap (λ p. run_text c.args.tail c.in_ok-right.rest.now (k p)) c.with.ensures ∙ c.in_ok-right.ensures.found right ∙ ap (λ l. run_text c.args.tail c.in_ok-left.rest.now (closed_place l 41 right)) c.below-2.ensures ∙ c.in_ok-left.ensures.found left ∙ ap (λ l. run_text c.args.tail c.args.text.now (closed_place l 44 left)) c.below.ensures

pub with_two-returns-in_err-left-clause-fault :
    goal.with_two-returns-in_err-left-clause-fault
with_two-returns-in_err-left-clause-fault t c =
    exit c.from_residual.result _ c.in_err-left.field-0.0 c.from_residual.ensures (stops_there c.args.tail c.args.text.now c.args.text.now (two_place c.args.level c.args.form) (closed_place c.below.result 44) (λ k p. closed_place (below c.args.level) 41 (λ q. k (two_meaning c.args.form p q))) _ (λ k. ap (λ l. run_text c.args.tail c.args.text.now (closed_place l 44 (λ p. closed_place (below c.args.level) 41 (λ q. k (two_meaning c.args.form p q))))) (sym c.below.ensures)) c.in_err-left.ensures.fault)

pub with_two-returns-in_err-right-clause-fault :
    goal.with_two-returns-in_err-right-clause-fault
with_two-returns-in_err-right-clause-fault t c =
    exit c.from_residual-in_err-right.result _ c.in_err-right.field-0.0 c.from_residual-in_err-right.ensures (stops_there c.args.tail c.args.text.now c.in_ok-left.rest.now (two_place c.args.level c.args.form) (closed_place c.below-2.result 41) (λ k q. k (two_meaning c.args.form (view c.in_ok-left.left.value) q)) _ (λ k. sym (ap (λ l. run_text c.args.tail c.in_ok-left.rest.now (closed_place l 41 (λ q. k (two_meaning c.args.form (view c.in_ok-left.left.value) q)))) c.below-2.ensures ∙ c.in_ok-left.ensures.found (λ p. closed_place (below c.args.level) 41 (λ q. k (two_meaning c.args.form p q))) ∙ ap (λ l. run_text c.args.tail c.args.text.now (closed_place l 44 (λ p. closed_place (below c.args.level) 41 (λ q. k (two_meaning c.args.form p q))))) c.below.ensures)) c.in_err-right.ensures.fault)
