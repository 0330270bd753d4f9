use Rattle.std.proofs.Common.{◌≡◌, sym, ◌∙◌, true}
use Rattle.std.proofs.lemmas.Result.{IfOk-weaker}
use Rattle.kp_kore.specs.Foreign.{none_within, has_foreign_head}
use Rattle.kp_kore.specs.View.{view}
use Rattle.kp_signature.specs.View.{signature_view}
use Rattle.kp_symbolic_laws.specs.Safe.{IsSoundQuote}
use Rattle.kp_execute.proofs.ChecksLemmas.{sound_quote}
use Rattle.kp_execute.proofs.part_tests.is_sound_predicate.Goals as goal

pub returns : goal.returns
returns c =
    let g = signature_view c.args.signature.now in
    let p = view c.args.pattern.now in
    IfOk-weaker c.is_native.result (λ b. b ≡ true → none_within (has_foreign_head g) p ≡ true) (λ b. b ≡ true → IsSoundQuote g p)
    (λ b clear is. sound_quote g p (sym c.is_predicate.ensures ∙ c.if-not-is_predicate.false) (c.is_verified.ensures c.if-not-is_verified.false) (clear is))
    c.is_native.ensures
