use Rattle.std.proofs.Common.{rules, ◌≡◌, sym, subst, to_z, of_z}
use Rattle.std.specs.Prelude.{IsTrue}
use Rattle.std.specs.Int.{w128}
use Rattle.kp_kore.specs.Forms.{wholes}
use Rattle.kp_kore.specs.Instance.{applied}
use Rattle.kp_kore.specs.Replies.{is_wide_value}
use Rattle.kp_kore.specs.View.{view}
use Rattle.kp_signature.specs.Meanings.{meaning_view}
use Rattle.kp_signature.specs.View.{signature_view}
use Rattle.kp_execute.proofs.ChecksLemmas.{wide_of_two}
use Rattle.kp_execute.proofs.part_tests.is_wide_of.Goals as goal

pub returns : goal.returns
returns c told =
    let f = c.args.symbol.now in
    let m = c.in-Some.first in
    let n = c.in-Some-number_of.second in
    let first : m ≡ to_z w128 (of_z w128 m) = search rules in
    let second : n ≡ to_z w128 (of_z w128 n) = search rules in
    wide_of_two (signature_view c.args.signature.now) f (view c.args.left.now) (view c.args.right.now) m n c.in-Some.ensures c.in-Some-number_of.ensures
    (subst (λ x. IsTrue (is_wide_value (applied x f (wholes m n)))) c.meaning_of.ensures
    (subst (λ k. IsTrue (is_wide_value (applied (meaning_view c.meaning_of.result) f (wholes k n)))) (sym first)
    (subst (λ k. IsTrue (is_wide_value (applied (meaning_view c.meaning_of.result) f (wholes (to_z w128 (of_z w128 m)) k)))) (sym second) (c.is_wide.ensures told f))))
