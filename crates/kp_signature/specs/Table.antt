-- How the code keeps a signature: the declarations in order, and for each name its first place among them.
use Rattle.std.specs.Prelude.{◌≡◌, List, map, Option, Some, None, if◌then◌else◌}
use Rattle.std.specs.List.{find}
use Rattle.std.specs.Option.{option_map}
use Rattle.std.specs.Str.{bytes_eq}
use Rattle.kp_kore.specs.Syntax.{Text, KoreSentence, SortDeclaration, SymbolDeclaration, AliasDeclaration}
use Rattle.kp_kore.specs.Signature.{KoreSignature, sorts_in, symbols_in, aliases_in, subsorts_in, has_hook}
use Rattle.kp_kore.specs.View.{sort_sentence_view, symbol_sentence_view, alias_sentence_view}
use Rattle.kp_signature.specs.Names.{Indexes}
use Rattle.kp_signature.specs.Pairs.{subsort_view}
use Rattle.kp_signature.specs.declared.table.DeclarationTable.{DeclarationTable}

abbrev pub sort_names : List SortDeclaration → List Text
sort_names = map (λ d. d.name)

abbrev pub symbol_names : List SymbolDeclaration → List Text
symbol_names = map (λ d. d.name)

abbrev pub alias_names : List AliasDeclaration → List Text
alias_names = map (λ d. d.name)

-- the table has what the sentences declare
pub record IsTableOf (t : DeclarationTable) (sentences : List KoreSentence) : Type 0 where
  pub sorts : map sort_sentence_view t.sorts.items ≡ sorts_in sentences
  pub symbols : map symbol_sentence_view t.symbols.items ≡ symbols_in sentences
  pub aliases : map alias_sentence_view t.aliases.items ≡ aliases_in sentences
  pub subsorts : map subsort_view t.subsorts.items ≡ subsorts_in sentences
  pub sort_places : Indexes (sort_names (sorts_in sentences)) t.sort_places
  pub symbol_places : Indexes (symbol_names (symbols_in sentences)) t.symbol_places
  pub alias_places : Indexes (alias_names (aliases_in sentences)) t.alias_places

-- the signature that the table is seen as
abbrev pub table_view : DeclarationTable → KoreSignature
table_view t = record {
  sorts = map sort_sentence_view t.sorts.items;
  symbols = map symbol_sentence_view t.symbols.items;
  aliases = map alias_sentence_view t.aliases.items;
  subsorts = map subsort_view t.subsorts.items;
}

-- the maps have for each name its first place among the declarations
abbrev pub IsIndexed : DeclarationTable → Type 0
IsIndexed t =
    Indexes (sort_names (table_view t).sorts) t.sort_places
    × Indexes (symbol_names (table_view t).symbols) t.symbol_places
    × Indexes (alias_names (table_view t).aliases) t.alias_places

-- the name of the first hooked sort with this hook
abbrev pub name_hooked : Text → List SortDeclaration → Option Text
name_hooked hook ds = option_map (λ d. d.name) (find (has_hook hook) ds)

-- the second name, where it isn't the first
abbrev pub name_other_than : Option Text → Option Text → Option Text
name_other_than (Some n) (Some m) = if bytes_eq n m then None else Some m
name_other_than (Some n) None = None
name_other_than None o = o
