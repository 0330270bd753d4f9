use Rattle.std.proofs.Common.{◌<◌, length, get_or, sym, ◌∙◌, arith}
use Rattle.std.proofs.lemmas.Slice.Eq.{bytes_eq-Decides}
use Rattle.kp_book.specs.Books.{rules_in}
use Rattle.kp_registry.proofs.Binders.{found_within, not_some, in_opening, free_same, free_nowhere, other_text, not_equal, some_entry}
use Rattle.kp_registry.proofs.faults.duplicate.Goals as goal

pub returns-then-reaches : goal.returns-then-reaches
returns-then-reaches c = λ o book table seen. in_opening o book c.args.text.now c.args.name.now (sym (table.reaches c.args.name.now) ∙ sym c.reaches.ensures ∙ c.if-reaches.true)

pub has_text-requires : goal.has_text-requires
has_text-requires c = record { within = found_within c.args.book.now.entries.items c.args.name.now c.in-Some.place (sym c.place.ensures ∙ c.in-Some.is) }

pub overflow_add-result : goal.overflow_add-result
overflow_add-result c =
    let near : c.in-Some.place < length c.args.book.now.entries.items = found_within c.args.book.now.entries.items c.args.name.now c.in-Some.place (sym c.place.ensures ∙ c.in-Some.is) in
    omega (arith, near, c.requires.sound.few)

pub returns-then-has_text : goal.returns-then-has_text
returns-then-has_text c = λ o book table seen.
    let e = some_entry c.args.book.now.entries.items c.in-Some.place (found_within c.args.book.now.entries.items c.args.name.now c.in-Some.place (sym c.place.ensures ∙ c.in-Some.is)) in
    free_same o book c.args.book.now.entries.items c.args.text.now c.args.name.now c.in-Some.place e
    (not_some (rules_in o.modules c.args.name.now) (sym (table.reaches c.args.name.now) ∙ sym c.reaches.ensures ∙ c.if-reaches.false)) seen (sym c.place.ensures ∙ c.in-Some.is)
    ((bytes_eq-Decides (get_or c.args.book.now.entries.items c.in-Some.place e).text.items c.args.text.now).0 (sym (c.has_text.ensures e) ∙ c.if-has_text.true))

pub returns-else-has_text : goal.returns-else-has_text
returns-else-has_text c = λ o book table seen.
    let e = some_entry c.args.book.now.entries.items c.in-Some.place (found_within c.args.book.now.entries.items c.args.name.now c.in-Some.place (sym c.place.ensures ∙ c.in-Some.is)) in
    other_text o book c.args.book.now.entries.items c.args.text.now c.args.name.now c.in-Some.place e
    (not_some (rules_in o.modules c.args.name.now) (sym (table.reaches c.args.name.now) ∙ sym c.reaches.ensures ∙ c.if-reaches.false)) seen (sym c.place.ensures ∙ c.in-Some.is)
    (not_equal (get_or c.args.book.now.entries.items c.in-Some.place e).text.items c.args.text.now (sym (c.has_text.ensures e) ∙ c.if-has_text.false))

pub returns-in-None : goal.returns-in-None
returns-in-None c = λ o book table seen.
    free_nowhere o book c.args.book.now.entries.items c.args.text.now c.args.name.now
    (not_some (rules_in o.modules c.args.name.now) (sym (table.reaches c.args.name.now) ∙ sym c.reaches.ensures ∙ c.if-reaches.false)) seen (sym c.place.ensures ∙ c.in-None.is)
