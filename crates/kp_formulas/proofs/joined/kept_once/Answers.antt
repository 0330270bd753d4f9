use Rattle.std.proofs.Common.{rules, ◌≡◌, ◌∙◌, sym, ap, true, false, nat_le, ◌&&◌, min, ◌-◌, ◌^◌, ◌∷◌, [], ◌++◌}
use Rattle.std.specs.List.{list_any}
use Rattle.kp_symbolic.specs.View.{clause_view, clauses_view}
use Rattle.kp_formulas.specs.Keys.{clauses_with, keyed_same}
use Rattle.kp_formulas.proofs.KeptLemmas.{literals_in, is_repeat, pushed, repeat_left, other_kept, one_more_counted}
use Rattle.kp_formulas.proofs.KeyLemmas.{repeat_keyed, one_more_keyed}
use Rattle.kp_formulas.proofs.joined.kept_once.Goals as goal

pub loop-clause-preserved-in-Continue-1 : goal.loop-clause-preserved-in-Continue-1
loop-clause-preserved-in-Continue-1 c =
    let kept = c.loop-clause.kept.items in
    let keyed = c.with_key-keyed.result in
    let number = literals_in (clauses_with kept) in
    let rest = c.next.new.self.rest.items in
    let more = c.push.new.self.items in
    let same = c.with_key-keyed.ensures.same in
    let is : more ≡ kept ++ keyed ∷ [] = search rules in
    let view = pushed kept more keyed is in
    let seen : c.deref.result.now ≡ kept = search rules in
    let told : c.is_repeat.result ≡ is_repeat (clauses_with kept) (clause_view keyed.clause) = c.is_repeat.ensures number c.loop-clause.invariant.0 ∙ ap (λ ks. nat_le number 4096 && list_any (keyed_same keyed) ks) seen ∙ repeat_keyed number keyed kept c.with_key-keyed.ensures.key c.loop-clause.invariant.2 in
    let new : is_repeat (clauses_with kept) (clause_view keyed.clause) ≡ false = search rules in (
      c.with_literals-literals.ensures number c.loop-clause.invariant.0 ∙ ap (λ n. min n (2 ^ 64 - 1)) (sym (one_more_counted kept more keyed.clause view)),
      other_kept kept more c.loop-clause.clause-iterator.rest.items rest keyed.clause _ new view (c.in-Some.ensures.steps.0 ∙ ap (λ x. x ∷ rest) (sym same)) c.loop-clause.invariant.1,
      one_more_keyed kept more keyed is c.with_key-keyed.ensures.key c.loop-clause.invariant.2,
    )

pub loop-clause-preserved : goal.loop-clause-preserved
loop-clause-preserved c =
    let kept = c.loop-clause.kept.items in
    let keyed = c.with_key-keyed.result in
    let number = literals_in (clauses_with kept) in
    let rest = c.next.new.self.rest.items in
    let same = c.with_key-keyed.ensures.same in
    let seen : c.deref.result.now ≡ kept = search rules in
    let told : c.is_repeat.result ≡ is_repeat (clauses_with kept) (clause_view keyed.clause) = c.is_repeat.ensures number c.loop-clause.invariant.0 ∙ ap (λ ks. nat_le number 4096 && list_any (keyed_same keyed) ks) seen ∙ repeat_keyed number keyed kept c.with_key-keyed.ensures.key c.loop-clause.invariant.2 in
    let old : is_repeat (clauses_with kept) (clause_view keyed.clause) ≡ true = search rules in (
      c.loop-clause.invariant.0,
      repeat_left kept c.loop-clause.clause-iterator.rest.items rest keyed.clause _ old (c.in-Some.ensures.steps.0 ∙ ap (λ x. x ∷ rest) (sym same)) c.loop-clause.invariant.1,
      c.loop-clause.invariant.2,
    )
