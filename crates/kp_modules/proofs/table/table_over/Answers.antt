use Rattle.std.proofs.Common.{rules}
use Rattle.kp_modules.proofs.table.table_over.Goals as goal

pub returns-clause-table : goal.returns-clause-table
returns-clause-table c = record {
  main_named = search rules;
  names = c.in_ok-names_of.ensures;
  outlines = c.in_ok-outlines.ensures;
  spans = c.in_ok-rule_spans.ensures;
}
