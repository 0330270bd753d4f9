use Rattle.std.proofs.Common.{rules, ◌≡◌, ◌++◌, ◌∷◌, [], ap, ◌∙◌, string_bytes}
use Rattle.std.specs.Prelude.{option_to_list}
use Rattle.std.specs.Option.{option_map}
use Rattle.kp_kore.specs.View.{sentence_view}
use Rattle.kp_kore.specs.Theory.{imports_in}
use Rattle.kp_imports.proofs.Sentences.{import_added}
use Rattle.kp_modules.proofs.outlines.add_import.Goals as goal

pub returns-in_ok-push-in-Some : goal.returns-in_ok-push-in-Some
returns-in_ok-push-in-Some c =
    let t = c.in_ok-import_sentence-in-Some.field-0 in
    let own = string_bytes c.in-Some.name.now ∷ [] in
    let after : c.push.new.self.items ≡ c.args.found.now.items ++ t ∷ [] = search rules in
    let there : imports_in (sentence_view c.args.sentence.now ∷ []) ≡ own = c.import_of.ensures ∙ ap (λ o. option_to_list (option_map (λ n. string_bytes n.now) o)) c.in-Some.is in
    import_added c.args.found.now.items c.push.new.self.items t (sentence_view c.args.sentence.now) own after c.in_ok-import_sentence-in-Some.ensures there
