use Rattle.std.proofs.Common.{refl, ◌∙◌, arith}
use Rattle.std.specs.Ordering.{nat_cmp, is_lt}
use Rattle.std.specs.Cmp.Lexicographic.{slice_cmp}
use Rattle.std.proofs.lemmas.Cmp.{same_from_slice_cmp}
use Rattle.std.proofs.lemmas.Bool.Decides.{nat_tests}
use Rattle.kp_symbolic.specs.Folding.{is_text_before}
use Rattle.kp_symbolic.proofs.language.is_before.Goals as goal

pub returns : goal.returns
returns c =
    let by = same_from_slice_cmp nat_cmp is_lt is_text_before refl (λ _ _. refl) (λ _ _. refl) (λ x y xs ys o h. grind (arith, nat_tests)) in
    c.lt.ensures ∙ by c.args.left.now c.args.right.now (slice_cmp nat_cmp c.args.left.now c.args.right.now) refl
