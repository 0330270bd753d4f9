use Rattle.std.proofs.Common.{rules, ◌≡◌, sym, ap, ◌∙◌, map, [], ◌∷◌, ◌++◌}
use Rattle.std.proofs.lemmas.List.{append-nil}
use Rattle.kp_kore.specs.Signature.{sorts_in, symbols_in, aliases_in, subsorts_in, subsorts_among}
use Rattle.kp_kore.specs.View.{sentence_view, sort_sentence_view, symbol_sentence_view, alias_sentence_view, patterns_view}
use Rattle.kp_signature.specs.Pairs.{subsort_view}
use Rattle.kp_signature.proofs.Declaring.{sorts_in-append, symbols_in-append, aliases_in-append, subsorts_in-append, kept, kept_places, nothing_more}
use Rattle.kp_signature.proofs.table.DeclarationTable.add.Goals as goal

pub returns-in-Import : goal.returns-in-Import
returns-in-Import c ss t = nothing_more c.args.self.now ss (sentence_view c.args.sentence.now) (search rules) (search rules) (search rules) (search rules) t

pub returns-in-Claim : goal.returns-in-Claim
returns-in-Claim c ss t = nothing_more c.args.self.now ss (sentence_view c.args.sentence.now) (search rules) (search rules) (search rules) (search rules) t

pub returns-in_ok-add_subsorts-in-Axiom : goal.returns-in_ok-add_subsorts-in-Axiom
returns-in_ok-add_subsorts-in-Axiom c ss t =
    let none : sorts_in (sentence_view c.args.sentence.now ∷ []) ≡ [] = search rules in
    let no_symbols : symbols_in (sentence_view c.args.sentence.now ∷ []) ≡ [] = search rules in
    let no_aliases : aliases_in (sentence_view c.args.sentence.now ∷ []) ≡ [] = search rules in
    let pairs : subsorts_in (sentence_view c.args.sentence.now ∷ []) ≡ subsorts_among (patterns_view c.in-Axiom.axiom.attributes.items) ++ [] = search rules in
    let read : map subsort_view c.add_subsorts.new.subsorts.items ≡ map subsort_view c.args.self.now.subsorts.items ++ subsorts_among (patterns_view c.in-Axiom.axiom.attributes.items) = search rules in
    let all_sorts : sorts_in (ss ++ sentence_view c.args.sentence.now ∷ []) ≡ sorts_in ss ++ [] = sorts_in-append ss (sentence_view c.args.sentence.now ∷ []) ∙ ap (λ l. sorts_in ss ++ l) none in
    let all_symbols : symbols_in (ss ++ sentence_view c.args.sentence.now ∷ []) ≡ symbols_in ss ++ [] = symbols_in-append ss (sentence_view c.args.sentence.now ∷ []) ∙ ap (λ l. symbols_in ss ++ l) no_symbols in
    let all_aliases : aliases_in (ss ++ sentence_view c.args.sentence.now ∷ []) ≡ aliases_in ss ++ [] = aliases_in-append ss (sentence_view c.args.sentence.now ∷ []) ∙ ap (λ l. aliases_in ss ++ l) no_aliases in
    record {
      sorts = kept sort_sentence_view c.args.self.now.sorts.items (sorts_in ss) (sorts_in (ss ++ sentence_view c.args.sentence.now ∷ [])) t.sorts all_sorts;
      symbols = kept symbol_sentence_view c.args.self.now.symbols.items (symbols_in ss) (symbols_in (ss ++ sentence_view c.args.sentence.now ∷ [])) t.symbols all_symbols;
      aliases = kept alias_sentence_view c.args.self.now.aliases.items (aliases_in ss) (aliases_in (ss ++ sentence_view c.args.sentence.now ∷ [])) t.aliases all_aliases;
      subsorts = read ∙ ap (λ l. l ++ subsorts_among (patterns_view c.in-Axiom.axiom.attributes.items)) t.subsorts
          ∙ ap (λ l. subsorts_in ss ++ l) (sym (append-nil (subsorts_among (patterns_view c.in-Axiom.axiom.attributes.items))))
          ∙ sym (subsorts_in-append ss (sentence_view c.args.sentence.now ∷ []) ∙ ap (λ l. subsorts_in ss ++ l) pairs);
      sort_places = kept_places (λ d. d.name) c.args.self.now.sort_places (sorts_in ss) (sorts_in (ss ++ sentence_view c.args.sentence.now ∷ [])) t.sort_places all_sorts;
      symbol_places = kept_places (λ d. d.name) c.args.self.now.symbol_places (symbols_in ss) (symbols_in (ss ++ sentence_view c.args.sentence.now ∷ [])) t.symbol_places all_symbols;
      alias_places = kept_places (λ d. d.name) c.args.self.now.alias_places (aliases_in ss) (aliases_in (ss ++ sentence_view c.args.sentence.now ∷ [])) t.alias_places all_aliases;
    }
