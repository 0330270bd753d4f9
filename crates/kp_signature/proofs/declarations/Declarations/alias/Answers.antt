use Rattle.std.proofs.Common.{◌≡◌, subst, ◌∙◌, slice_get}
use Rattle.std.specs.Option.{option_copied}
use Rattle.kp_kore.specs.View.{alias_sentence_view}
use Rattle.kp_signature.proofs.FirstPlaces.{some_row, no_row, lent}
use Rattle.kp_signature.proofs.declarations.Declarations.alias.Goals as goal

pub returns-in-Some : goal.returns-in-Some
returns-in-Some c =
    some_row alias_sentence_view (λ d. d.name) c.args.name.now c.args.self.now.table.aliases.items c.in-Some.place.now c.get-in-Some.result
    (c.in-Some.ensures.value ∙ c.args.self.now.indexed.2 c.args.name.now) (subst (λ rs. option_copied c.get-in-Some.result ≡ slice_get rs c.in-Some.place.now) c.deref.ensures.value (lent c.deref.result.now c.in-Some.place.now c.get-in-Some.result c.get-in-Some.ensures.lookup.0 c.get-in-Some.ensures.lookup.1))

pub returns-in-None : goal.returns-in-None
returns-in-None c = no_row alias_sentence_view (λ d. d.name) c.args.name.now c.args.self.now.table.aliases.items (c.in-None.ensures.value ∙ c.args.self.now.indexed.2 c.args.name.now)
