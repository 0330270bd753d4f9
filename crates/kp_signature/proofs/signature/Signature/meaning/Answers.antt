use Rattle.std.proofs.Common.{◌≡◌, ap, subst, ◌∙◌, slice_get}
use Rattle.std.specs.Option.{option_copied, option_map}
use Rattle.kp_kore.specs.Signature.{symbol_meaning}
use Rattle.kp_kore.specs.View.{symbol_sentence_view}
use Rattle.kp_signature.specs.Meanings.{meaning_view}
use Rattle.kp_signature.specs.View.{signature_view}
use Rattle.kp_signature.proofs.FirstPlaces.{kept_row, no_row, lent}
use Rattle.kp_signature.proofs.signature.Signature.meaning.Goals as goal

pub returns-in-Some : goal.returns-in-Some
returns-in-Some c =
    let g = c.args.self.now in
    kept_row symbol_sentence_view (λ d. d.name) (symbol_meaning (signature_view g)) meaning_view c.args.name.now g.kinds.declarations.table.symbols.items g.meanings.items c.in-Some.place.now c.get-in-Some.result
    g.meanings_told (c.in-Some.ensures.value ∙ g.kinds.declarations.indexed.1 c.args.name.now) (subst (λ ms. option_copied c.get-in-Some.result ≡ slice_get ms c.in-Some.place.now) c.deref.ensures.value (lent c.deref.result.now c.in-Some.place.now c.get-in-Some.result c.get-in-Some.ensures.lookup.0 c.get-in-Some.ensures.lookup.1))

pub returns-in-None : goal.returns-in-None
returns-in-None c =
    let g = c.args.self.now in
    ap (option_map (symbol_meaning (signature_view g))) (no_row symbol_sentence_view (λ d. d.name) c.args.name.now g.kinds.declarations.table.symbols.items (c.in-None.ensures.value ∙ g.kinds.declarations.indexed.1 c.args.name.now))
