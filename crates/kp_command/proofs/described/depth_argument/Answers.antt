use Rattle.std.proofs.Common.{◌≡◌, ◌∙◌, ap, ap₂, codes, rules, [], ◌∷◌}
use Rattle.std.specs.Prelude.{Some}
use Rattle.clap.specs.Walk.{Rule, rule_of}
use Rattle.clap.specs.declared.builder.value_parser.ValueParser.TheVariants as parser
use Rattle.std.specs.Range.{range_inclusive_end, range_inclusive_start}
use Rattle.kp_command.specs.Described.{named}
use Rattle.kp_command.proofs.DescribedCommands.{depth_range}
use Rattle.kp_command.proofs.described.depth_argument.Goals as goal

pub returns-clause-rule : goal.returns-clause-rule
returns-clause-rule c =
    let before : rule_of c.help.result ≡ named (codes "max-depth") = search rules in
    let given = c.value_parser-2.ensures.given in
    let made : c.range.result ≡ parser.Unsigned 1 10000 = depth_range c.value_parser.result c.range.result (range_inclusive_start c.new-2.result) (range_inclusive_end c.new-2.result) c.value_parser.ensures c.range.ensures c.new-2.ensures.start c.new-2.ensures.end in
    let parsed : rule_of c.value_parser-2.result ≡ record (named (codes "max-depth")) { parser = Some (parser.Unsigned 1 10000) } =
    ap rule_of c.value_parser-2.ensures.others ∙ ap₂ (λ (r : Rule) p. record r { parser = p }) before (given.1 ∙ ap Some (given.2 ∙ made)) in
    ap rule_of c.default_value.ensures ∙ ap (λ (r : Rule). record r { defaults = codes "1" ∷ [] }) parsed
