use Rattle.std.proofs.Common.{rules, ◌≡◌, refl, sym, ◌∙◌, true, false, None}
use Rattle.kp_kore.specs.View.{axiom_sentence_view}
use Rattle.kp_claims.specs.Claims.{is_one_path}
use Rattle.kp_claims.specs.Faults.{one_path, other_shape}
use Rattle.kp_claim_sentences.specs.Claims.{clear_sides}
use Rattle.kp_claim_sentences.proofs.Shapes.{shape_one, shape_other}
use Rattle.kp_claim_sentences.proofs.outline.outline.Goals as goal

pub returns-then-is_one_path-clause-err : goal.returns-then-is_one_path-clause-err
returns-then-is_one_path-clause-err c =
    let s = axiom_sentence_view c.args.statement.now in
    let there : is_one_path s.pattern ≡ true = search rules in
    record { fault = one_path; told = refl; holds = shape_one s there }

pub returns-in-None-clause-err : goal.returns-in-None-clause-err
returns-in-None-clause-err c =
    let s = axiom_sentence_view c.args.statement.now in
    let other : is_one_path s.pattern ≡ false = search rules in
    let none : clear_sides s ≡ None = search rules in
    record { fault = other_shape; told = refl; holds = shape_other s other none }
