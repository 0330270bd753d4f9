use Rattle.std.proofs.Common.{rules, [], ◌∷◌, ◌++◌}
use Rattle.kp_kore.specs.Syntax.{symbol_sentence}
use Rattle.kp_kore.specs.Signature.{sorts_in, symbols_in, aliases_in, subsorts_in}
use Rattle.kp_kore.specs.View.{sort_sentence_view, symbol_sentence_view, alias_sentence_view}
use Rattle.kp_signature.specs.Pairs.{subsort_view}
use Rattle.kp_signature.proofs.Declaring.{sorts_in-append, symbols_in-append, aliases_in-append, subsorts_in-append, kept, kept_places, pushed, pushed_places}
use Rattle.kp_signature.proofs.table.DeclarationTable.add_symbol.Goals as goal

pub returns : goal.returns
returns c sentences t = record {
  sorts = kept sort_sentence_view c.args.self.now.sorts.items (sorts_in sentences) (sorts_in (sentences ++ symbol_sentence (symbol_sentence_view c.args.declaration.now) ∷ [])) t.sorts (sorts_in-append sentences (symbol_sentence (symbol_sentence_view c.args.declaration.now) ∷ []));
  symbols = pushed symbol_sentence_view c.args.self.now.symbols.items c.push.new.self.items c.in_ok-copy.field-0 (symbols_in sentences) (symbols_in (sentences ++ symbol_sentence (symbol_sentence_view c.args.declaration.now) ∷ [])) (symbol_sentence_view c.args.declaration.now) t.symbols c.in_ok-push.ensures.items c.in_ok-copy.ensures (symbols_in-append sentences (symbol_sentence (symbol_sentence_view c.args.declaration.now) ∷ []));
  aliases = kept alias_sentence_view c.args.self.now.aliases.items (aliases_in sentences) (aliases_in (sentences ++ symbol_sentence (symbol_sentence_view c.args.declaration.now) ∷ [])) t.aliases (aliases_in-append sentences (symbol_sentence (symbol_sentence_view c.args.declaration.now) ∷ []));
  subsorts = kept subsort_view c.args.self.now.subsorts.items (subsorts_in sentences) (subsorts_in (sentences ++ symbol_sentence (symbol_sentence_view c.args.declaration.now) ∷ [])) t.subsorts (subsorts_in-append sentences (symbol_sentence (symbol_sentence_view c.args.declaration.now) ∷ []));
  sort_places = kept_places (λ d. d.name) c.args.self.now.sort_places (sorts_in sentences) (sorts_in (sentences ++ symbol_sentence (symbol_sentence_view c.args.declaration.now) ∷ [])) t.sort_places (sorts_in-append sentences (symbol_sentence (symbol_sentence_view c.args.declaration.now) ∷ []));
  symbol_places = pushed_places symbol_sentence_view c.args.self.now.symbols.items (λ d. d.name) c.args.self.now.symbol_places c.note_name.new.places (symbols_in sentences) (symbols_in (sentences ++ symbol_sentence (symbol_sentence_view c.args.declaration.now) ∷ [])) (symbol_sentence_view c.args.declaration.now) c.len.result c.in_ok-note_name.ensures t.symbol_places (search rules) t.symbols (symbols_in-append sentences (symbol_sentence (symbol_sentence_view c.args.declaration.now) ∷ []));
  alias_places = kept_places (λ d. d.name) c.args.self.now.alias_places (aliases_in sentences) (aliases_in (sentences ++ symbol_sentence (symbol_sentence_view c.args.declaration.now) ∷ [])) t.alias_places (aliases_in-append sentences (symbol_sentence (symbol_sentence_view c.args.declaration.now) ∷ []));
}
