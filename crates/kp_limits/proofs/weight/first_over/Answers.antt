use Rattle.std.proofs.Common.{rules, ◌≤◌, ◌<◌}
use Rattle.kp_literals.specs.Readings.{clauses_view}
use Rattle.kp_limits.proofs.OverLemmas.{bits_over, bits_within, literals_over, literals_within, product_over, all_within}
use Rattle.kp_limits.proofs.weight.first_over.Goals as goal

pub returns-then-bits-gt126 : goal.returns-then-bits-gt126
returns-then-bits-gt126 c =
    let more : 126 < c.in_ok-bits.bits = search rules in
    bits_over (clauses_view c.args.clauses.now) c.in_ok-bits.bits c.in_ok-bits.ensures more

pub returns-then-literals-gt512 : goal.returns-then-literals-gt512
returns-then-literals-gt512 c =
    let cs = clauses_view c.args.clauses.now in
    let few : c.in_ok-bits.bits ≤ 126 = search rules in
    let more : 512 < c.all_literals-literals.result = search rules in
    literals_over cs c.all_literals-literals.result c.all_literals-literals.ensures more (bits_within cs c.in_ok-bits.bits c.in_ok-bits.ensures few)

pub returns-then-product-gt4096 : goal.returns-then-product-gt4096
returns-then-product-gt4096 c =
    let cs = clauses_view c.args.clauses.now in
    let few : c.in_ok-bits.bits ≤ 126 = search rules in
    let short : c.all_literals-literals.result ≤ 512 = search rules in
    let more : 4096 < c.product_of_lengths-product.result = search rules in
    product_over cs c.product_of_lengths-product.result c.product_of_lengths-product.ensures more (bits_within cs c.in_ok-bits.bits c.in_ok-bits.ensures few) (literals_within cs c.all_literals-literals.result c.all_literals-literals.ensures short)

pub returns : goal.returns
returns c =
    let cs = clauses_view c.args.clauses.now in
    let few : c.in_ok-bits.bits ≤ 126 = search rules in
    let short : c.all_literals-literals.result ≤ 512 = search rules in
    let light : c.product_of_lengths-product.result ≤ 4096 = search rules in
    all_within cs c.product_of_lengths-product.result c.product_of_lengths-product.ensures light (bits_within cs c.in_ok-bits.bits c.in_ok-bits.ensures few) (literals_within cs c.all_literals-literals.result c.all_literals-literals.ensures short)
