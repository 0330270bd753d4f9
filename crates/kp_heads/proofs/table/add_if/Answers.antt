use Rattle.std.proofs.Common.{rules, ◌≡◌, true, MatchBool, sym, subst, ◌∷◌, []}
use Rattle.kp_signature.specs.Edges.{Extended}
use Rattle.kp_signature.proofs.EdgeLemmas.{inserted}
use Rattle.kp_heads.proofs.table.add_if.Goals as goal

pub returns : goal.returns
returns c =
    let keys = c.args.found.now.keys in
    let after = c.insert.new.self.keys in
    let passes : c.args.passes ≡ true = search rules in
    subst (λ b. MatchBool b (Extended keys (c.args.number ∷ []) after) (after ≡ keys)) (sym passes) (inserted keys after c.args.number c.in_ok-insert.ensures.keys)
