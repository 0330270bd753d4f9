use Rattle.std.proofs.Common.{sym, ap, ◌∙◌, Some, string_bytes}
use Rattle.std.specs.List.{find, flat_map}
use Rattle.std.specs.Option.{option_map}
use Rattle.kp_kore.specs.Parts.{names_at}
use Rattle.kp_compile.specs.Parts.{seen}
use Rattle.kp_claims.specs.Faults.{fresh_name}
use Rattle.kp_claim_sentences.specs.Faults.{is_fresh_text}
use Rattle.kp_claim_sentences.proofs.sides.check_names.Goals as goal

pub returns-in-Some-clause-err : goal.returns-in-Some-clause-err
returns-in-Some-clause-err c = record {
  fault = fresh_name (string_bytes c.in-Some.name.now);
  told = ap (λ x. Some (fresh_name x)) c.in_ok-clone-in-Some.ensures.cases;
  holds = ap (option_map fresh_name) (ap (λ ps. find is_fresh_text (flat_map names_at ps)) (sym c.in_ok-parts.ensures ∙ ap seen (sym c.deref.ensures.value)) ∙ sym c.in-Some.ensures);
}
