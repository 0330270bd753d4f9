use Rattle.std.proofs.Common.{◌≡◌, ◌≤◌, arith, subst, sym, rules, take, ◌+◌, List, [], length, map}
use Rattle.std.specs.List.{AllZip}
use Rattle.kp_claim_sentences.specs.Items.{item_view, items_view}
use Rattle.kp_report.specs.View.{line_view}
use Rattle.kp_report.specs.declared.report.Line.{Line}
use Rattle.kp_program.specs.Proofs.{IsLineFor}
use Rattle.kp_program.proofs.Proving.{all_at, all_lines, lines_more, map_length, some_at}
use Rattle.kp_program.proofs.prover.prove_all.Goals as goal

pub loop-place-preserved : goal.loop-place-preserved
loop-place-preserved g c = λ o t is provable.
    let before = c.loop-place.invariant o t is provable in
    let x = some_at item_view c.args.claims.now c.loop-place.place (search rules) in
    let line = c.in_ok-prove_at.ensures.line o t x.0 before.0 x.1 (all_at _ (items_view c.args.claims.now) c.loop-place.place x.0 provable x.1) in
    let more = lines_more (IsLineFor o t c.args.max_depth) line_view (items_view c.args.claims.now) c.loop-place.lines.items c.loop-place.place x.0 c.in_ok-prove_at.field-0 x.1 before.1 line in
    (c.in_ok-prove_at.ensures.link o t before.0, subst (λ (ls : List Line). AllZip (IsLineFor o t c.args.max_depth) (take (c.loop-place.place + 1) (items_view c.args.claims.now)) (map line_view ls)) (search rules) more)

pub loop-place-init : goal.loop-place-init
loop-place-init g c = λ o t is provable.
    let none : c.new-lines.result.items ≡ [] = search rules in
    (is, subst (λ (ls : List Line). AllZip (IsLineFor o t c.args.max_depth) (take 0 (items_view c.args.claims.now)) (map line_view ls)) (sym {A = List Line} none) tt)

pub returns : goal.returns
returns g c = λ o t is provable.
    let past : length c.args.claims.now ≤ c.loop-place.place = search rules in
    all_lines (IsLineFor o t c.args.max_depth) (items_view c.args.claims.now) (map line_view c.loop-place.lines.items) c.loop-place.place (omega (arith, past, map_length item_view c.args.claims.now)) (c.loop-place.invariant o t is provable).1
