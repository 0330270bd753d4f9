use Rattle.std.proofs.Common.{◌≡◌, sym, ap, subst, ◌∙◌, string_bytes, Some, Bor}
use Rattle.std.specs.List.{find}
use Rattle.std.specs.Option.{option_map}
use Rattle.std.specs.Str.{bytes_eq}
use Rattle.std.proofs.lemmas.List.{length-map}
use Rattle.kp_kore.specs.View.{sort_sentence_view}
use Rattle.kp_kore.specs.declared.sentence.SortSentence.{SortSentence}
use Rattle.kp_signature.specs.View.{signature_view}
use Rattle.kp_signature.proofs.KnownSorts.{known_by_number}
use Rattle.kp_signature.proofs.signature.Signature.is_known.Goals as goal

pub returns-in-Some : goal.returns-in-Some
returns-in-Some c ss many =
    let g = signature_view c.args.self.now in
    let d = c.in-Some.declaration.now in
    let is : find (λ e. bytes_eq e.name c.deref.result.now) g.sorts ≡ Some (sort_sentence_view d) = sym c.sort_named.ensures ∙ ap (option_map (λ (e : Bor SortSentence). sort_sentence_view e.now)) c.in-Some.is in
    known_by_number g (string_bytes c.args.name.now) ss (sort_sentence_view d) c.len.result c.args.arguments
    (subst (λ n. find (λ e. bytes_eq e.name n) g.sorts ≡ Some (sort_sentence_view d)) c.deref.ensures is) (c.len.ensures ∙ d.parameters.ok.0 ∙ sym (length-map d.parameters.items string_bytes)) many
