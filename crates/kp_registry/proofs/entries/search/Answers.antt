use Rattle.std.proofs.Common.{arith, ◌≡◌, ◌<◌, ◌+◌, ◌-◌, ◌/◌, ◌∙◌, sym, ap, length, map, get_or}
use Rattle.std.specs.declared.cmp.Ordering.TheVariants.{Less, Equal, Greater}
use Rattle.kp_registry.specs.Passes.{compare, name_of}
use Rattle.kp_registry.proofs.Rising.{below_up_to, above_from, found_at, named_at, long, same_read}
use Rattle.kp_registry.proofs.entries.search.Goals as goal

pub loop-from-preserved-in-Less : goal.loop-from-preserved-in-Less
loop-from-preserved-in-Less c =
    let bs = c.args.names.now in
    let n = c.args.name.now in
    let i = c.loop-from.from + (c.loop-from.to - c.loop-from.from) / 2 in
    let r = c.index-names-middle.result in
    let v = c.loop-from.invariant in
    let room : i < c.loop-from.to = omega (arith, c.loop-from-test.true, v.0) in
    let within : i < length bs = omega (arith, room, v.1) in
    let told : compare (name_of (get_or bs i r)) n ≡ Less = ap (λ x. compare x n) (sym c.as_str.ensures.value) ∙ sym c.cmp.ensures ∙ c.in-Less.is in
    let here : compare (get_or (map name_of bs) i (name_of r)) n ≡ Less = ap (λ x. compare x n) (named_at bs i r within) ∙ told in
    (omega (arith, room), v.1, below_up_to (map name_of bs) i (name_of r) n c.requires.rising (omega (arith, within, long bs)) here, v.3)

pub returns-in-Equal-clause-found : goal.returns-in-Equal-clause-found
returns-in-Equal-clause-found c =
    let bs = c.args.names.now in
    let n = c.args.name.now in
    let i = c.loop-from.from + (c.loop-from.to - c.loop-from.from) / 2 in
    let r = c.index-names-middle.result in
    let v = c.loop-from.invariant in
    let room : i < c.loop-from.to = omega (arith, c.loop-from-test.true, v.0) in
    let within : i < length bs = omega (arith, room, v.1) in
    let told : compare (name_of (get_or bs i r)) n ≡ Equal = ap (λ x. compare x n) (sym c.as_str.ensures.value) ∙ sym c.cmp.ensures ∙ c.in-Equal.is in
    (within, λ d. found_at bs i d n c.requires.rising within (ap (λ x. compare (name_of x) n) (same_read bs i d r within) ∙ told))

pub loop-from-preserved : goal.loop-from-preserved
loop-from-preserved c =
    let bs = c.args.names.now in
    let n = c.args.name.now in
    let i = c.loop-from.from + (c.loop-from.to - c.loop-from.from) / 2 in
    let r = c.index-names-middle.result in
    let v = c.loop-from.invariant in
    let room : i < c.loop-from.to = omega (arith, c.loop-from-test.true, v.0) in
    let within : i < length bs = omega (arith, room, v.1) in
    let told : compare (name_of (get_or bs i r)) n ≡ Greater = ap (λ x. compare x n) (sym c.as_str.ensures.value) ∙ sym c.cmp.ensures ∙ c.in-Greater.is in
    let here : compare (get_or (map name_of bs) i (name_of r)) n ≡ Greater = ap (λ x. compare x n) (named_at bs i r within) ∙ told in
    (omega arith, omega (arith, within), v.2, above_from (map name_of bs) i (name_of r) n c.requires.rising (omega (arith, within, long bs)) here)
