use Rattle.std.proofs.Common.{◌≡◌, sym, ap, subst, ◌∙◌, length, slice_get, Some, None, MatchOption}
use Rattle.std.specs.Option.{option_copied}
use Rattle.kp_kore.specs.Theory.{modules_reached}
use Rattle.kp_signature.proofs.FirstPlaces.{lent}
use Rattle.kp_modules.specs.Keeping.{own_rules}
use Rattle.kp_modules.specs.Tables.{rule_set_of}
use Rattle.kp_modules.proofs.Kept.{no_span, spanned}
use Rattle.kp_modules.proofs.table.ModuleTable.rules_at.Goals as goal

pub returns-in-Some : goal.returns-in-Some
returns-in-Some c d main m keeps at many =
    let table = c.args.self.now in
    let place = c.args.place in
    let rules = c.deref-in-Some-2.result.now in
    let found : slice_get table.spans.items place ≡ Some c.in-Some.span.now =
    subst (λ l. slice_get l place ≡ Some c.in-Some.span.now) c.deref.ensures.value (sym (lent c.deref.result.now place c.get.result c.get.ensures.lookup.0 c.get.ensures.lookup.1) ∙ ap option_copied c.in-Some.is) in
    let all : rules ≡ (rule_set_of table).rules.items = c.deref-in-Some-2.ensures.value ∙ ap (λ s. s.rules.items) c.deref-in-Some.ensures in
    subst (λ l. MatchOption c.get-in-Some.result ⊥ (λ own. own.now ≡ own_rules (modules_reached d main) place m l)) all
    (spanned (modules_reached d main) table.spans.items rules place m c.in-Some.span.now c.get-in-Some.result keeps.spans at (ap length all ∙ many) found c.get-in-Some.ensures.lookup)

pub returns-in-None : goal.returns-in-None
returns-in-None c d main m keeps at many =
    let table = c.args.self.now in
    let place = c.args.place in
    let none : slice_get table.spans.items place ≡ None =
    subst (λ l. slice_get l place ≡ None) c.deref.ensures.value (sym (lent c.deref.result.now place c.get.result c.get.ensures.lookup.0 c.get.ensures.lookup.1) ∙ ap option_copied c.in-None.is) in
    no_span (modules_reached d main) table.spans.items place m keeps.spans at none
