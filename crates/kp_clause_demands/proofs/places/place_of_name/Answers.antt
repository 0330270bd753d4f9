use Rattle.std.proofs.Common.{rules, ◌≡◌, false, string_bytes}
use Rattle.std.specs.Str.{bytes_eq}
use Rattle.kp_clause_demands.proofs.PlaceLemmas.{place_later}
use Rattle.kp_clause_demands.proofs.places.place_of_name.Goals as goal

pub loop-i-preserved : goal.loop-i-preserved
loop-i-preserved c =
    let x = string_bytes c.args.name.now in
    let n = c.index-names-i.result in
    let differs : bytes_eq x (string_bytes n.now) ≡ false = search rules in
    place_later bytes_eq (λ n. string_bytes n.now) c.args.names.now c.loop-i.i n x (search rules) c.index-names-i.is differs c.loop-i.invariant
