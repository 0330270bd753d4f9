use Rattle.std.proofs.Common.{rules, ◌≡◌, true, false}
use Rattle.kp_kore.specs.Signature.{possible_heads}
use Rattle.kp_kore.specs.View.{sort_view}
use Rattle.kp_signature.specs.View.{signature_view}
use Rattle.kp_symbolic.specs.View.{test_view}
use Rattle.kp_formulas.specs.Answers.{all_agree}
use Rattle.kp_formulas.proofs.AgreeLemmas.{all_pass, none_passes, some_pass}
use Rattle.kp_formulas.proofs.head_test.head_answer.Goals as goal

pub returns-then-branch : goal.returns-then-branch
returns-then-branch c =
    let g = signature_view c.args.signature.now in
    let s = sort_view c.args.sort.now in
    let test = test_view c.args.test.now in
    let e : true ≡ all_agree g s test true (possible_heads g s) = let p = c.if-branch.true in let q = c.in_ok-all_agree.ensures in cc in
    all_pass g s test e

pub returns-then-branch-2 : goal.returns-then-branch-2
returns-then-branch-2 c =
    let g = signature_view c.args.signature.now in
    let s = sort_view c.args.sort.now in
    let test = test_view c.args.test.now in
    let e : false ≡ all_agree g s test true (possible_heads g s) = let p = c.if-branch.false in let q = c.in_ok-all_agree.ensures in cc in
    let d : true ≡ all_agree g s test false (possible_heads g s) = let p = c.if-branch-2.true in let q = c.in_ok-all_agree-2.ensures in cc in
    none_passes g s test e d

pub returns : goal.returns
returns c =
    let g = signature_view c.args.signature.now in
    let s = sort_view c.args.sort.now in
    let test = test_view c.args.test.now in
    let e : false ≡ all_agree g s test true (possible_heads g s) = let p = c.if-branch.false in let q = c.in_ok-all_agree.ensures in cc in
    let d : false ≡ all_agree g s test false (possible_heads g s) = let p = c.if-branch-2.false in let q = c.in_ok-all_agree-2.ensures in cc in
    some_pass g s test e d
