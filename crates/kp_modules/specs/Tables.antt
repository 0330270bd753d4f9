-- What a table has.
use Rattle.std.specs.Prelude.{◌≡◌, Bool, List, map, string_bytes}
use Rattle.std.specs.Borrow.{Bor}
use Rattle.std.specs.Option.{is_some}
use Rattle.indexmap.specs.IndexMap.{get_by_text}
use Rattle.kp_kore.specs.Syntax.{Text}
use Rattle.kp_kore.specs.Theory.{Theory}
use Rattle.kp_kore.specs.View.{module_view}
use Rattle.kp_kore.specs.declared.sentence.Module.{Module}
use Rattle.kp_imports.specs.Names.{Lists, names_of}
use Rattle.kp_rule_sets.specs.RuleSets.{RunsAs}
use Rattle.kp_rule_sets.specs.declared.rule_set.RuleSet.{RuleSet}
use Rattle.kp_modules.specs.Keeping.{outline, span_view, spans_from}
use Rattle.kp_modules.specs.declared.table.ModuleTable.{ModuleTable}

-- what `rule_set` answers
abbrev pub rule_set_of : ModuleTable → RuleSet
rule_set_of t = t.rule_set.value

-- what `main` answers
abbrev pub main_of : ModuleTable → Text
main_of t = string_bytes t.main

-- what `reaches` answers
abbrev pub does_reach : ModuleTable → Text → Bool
does_reach t n = is_some (get_by_text t.names n)

-- the table's rule set is the theory, rule by rule
abbrev pub RunsTable : Theory → ModuleTable → Type 0
RunsTable theory table = RunsAs theory (rule_set_of table)

-- what is kept of these modules beside their rules, the main one among them
pub record IsTableOver (main : Text) (modules : List (Bor Module)) (table : ModuleTable) : Type 0 where
  pub main_named : main_of table ≡ main
  pub names : Lists (names_of (map (λ m. module_view m.now) modules)) table.names
  pub outlines : map (λ m. outline (module_view m)) table.modules.items ≡ map (λ m. outline (module_view m.now)) modules
  pub spans : map span_view table.spans.items ≡ spans_from 0 (map (λ m. module_view m.now) modules)
