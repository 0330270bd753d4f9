use Rattle.std.proofs.Common.{rules, ◌≡◌, refl, subst, true, false, [], ◌∷◌, map, IfOk}
use Rattle.kp_kore.specs.Signature.{integers, booleans, tokens, constructor_of}
use Rattle.kp_kore.specs.View.{sort_view, symbol_sentence_view}
use Rattle.kp_signature.specs.View.{signature_view}
use Rattle.kp_signature.specs.Pairs.{subsort_view}
use Rattle.kp_symbolic.specs.View.{test_view}
use Rattle.kp_formulas.specs.Answers.{all_agree}
use Rattle.kp_formulas.proofs.AgreeLemmas.{first_refused, lower_refused, rest_answers}
use Rattle.kp_formulas.proofs.head_test.all_agree.Goals as goal

pub returns-then-not-branch : goal.returns-then-not-branch
returns-then-not-branch c =
    let g = signature_view c.args.signature.now in
    let s = sort_view c.args.sort.now in
    let test = test_view c.args.test.now in
    let e : false ≡ all_agree g s test c.args.wanted (integers ∷ booleans ∷ tokens s ∷ []) = let p = c.if-not-branch.true in let q = c.in_ok-first_agree.ensures in cc in
    first_refused g s test c.args.wanted e

pub returns-then-not-branch-2 : goal.returns-then-not-branch-2
returns-then-not-branch-2 c =
    let g = signature_view c.args.signature.now in
    let s = sort_view c.args.sort.now in
    let test = test_view c.args.test.now in
    let lower = map subsort_view c.subsorts.result.now in
    let e : true ≡ all_agree g s test c.args.wanted (integers ∷ booleans ∷ tokens s ∷ []) = let p = c.if-not-branch.false in let q = c.in_ok-first_agree.ensures in cc in
    let d : false ≡ all_agree g s test c.args.wanted (map tokens (map (λ p. p.0) lower)) = let p = c.if-not-branch-2.true in let q = c.in_ok-lower_agree.ensures in cc in
    lower_refused g s test c.args.wanted lower c.subsorts.ensures e d

pub returns : goal.returns
returns c =
    let g = signature_view c.args.signature.now in
    let s = sort_view c.args.sort.now in
    let test = test_view c.args.test.now in
    let lower = map subsort_view c.subsorts.result.now in
    let made = map symbol_sentence_view c.symbols.result.now in
    let e : true ≡ all_agree g s test c.args.wanted (integers ∷ booleans ∷ tokens s ∷ []) = let p = c.if-not-branch.false in let q = c.in_ok-first_agree.ensures in cc in
    let d : true ≡ all_agree g s test c.args.wanted (map tokens (map (λ p. p.0) lower)) = let p = c.if-not-branch-2.false in let q = c.in_ok-lower_agree.ensures in cc in
    subst (λ x. IfOk c.symbols_agree.result (λ b. b ≡ x))
    (rest_answers g s test c.args.wanted (all_agree g s test c.args.wanted (map (λ k. constructor_of k.name) made)) lower made c.subsorts.ensures c.symbols.ensures e d refl)
    c.symbols_agree.ensures
