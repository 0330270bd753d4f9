use Rattle.std.proofs.Common.{sym, subst, [], ◌∷◌, take, get_or}
use Rattle.std.proofs.lemmas.List.{take_more}
use Rattle.kp_signature.specs.Edges.{Extended}
use Rattle.kp_signature.proofs.EdgeLemmas.{extended_on}
use Rattle.kp_signature.proofs.edges.add_all.Goals as goal

pub loop-number-preserved : goal.loop-number-preserved
loop-number-preserved c =
    let i = c.loop-number.number-index in
    let ns = c.args.numbers.now in
    subst (λ l. Extended c.args.found.now.keys l c.add.new.found.keys) (sym (take_more ns i 0 c.loop-number-test.true))
    (extended_on c.args.found.now.keys c.loop-number.found.keys c.add.new.found.keys (take i ns) (get_or ns i 0 ∷ []) c.loop-number.invariant c.in_ok-add.ensures)
