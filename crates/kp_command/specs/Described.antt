-- The program's command line, as clap describes one: the commands, each with its arguments.
-- Source: this project; what a rule of an argument says is clap's.
use Rattle.std.specs.Prelude.{[], ◌∷◌, Some, true, codes}
use Rattle.clap.specs.Walk.{Rule, Text}
use Rattle.clap.specs.Simple.{App, new_app, new_rule, on_top, with_rule, with_subcommand}
use Rattle.clap.specs.declared.builder.value_parser.ValueParser.TheVariants as parser

-- a value by its place, which has to be there
abbrev pub placed : Text → Rule
placed id = record (new_rule id) { value_names = 1; required = true }

-- --id with a value, which may be left out
abbrev pub named : Text → Rule
named id = record (new_rule id) { long = Some id; value_names = 1 }

-- --id with a value, which has to be there
abbrev pub wanted : Text → Rule
wanted id = record (named id) { required = true }

-- --max-depth with a number from 1 to 10,000; 1 where it is left out
abbrev pub depth_rule : Rule
depth_rule = record (named (codes "max-depth")) { parser = Some (parser.Unsigned 1 10000); defaults = codes "1" ∷ [] }

-- NAME DEF --module M
abbrev pub app_over_module : Text → App
app_over_module name = with_rule (with_rule (new_app name) (placed (codes "definition"))) (wanted (codes "module"))

-- stdio DEF --module M
abbrev pub stdio_app : App
stdio_app = app_over_module (codes "stdio")

-- prove DEF --module M --claims FILE [--max-depth K]
abbrev pub prove_app : App
prove_app = with_rule (with_rule (app_over_module (codes "prove")) (wanted (codes "claims"))) depth_rule

-- the program, without its commands; one has to be named
abbrev pub top_app : App
top_app = on_top (λ s. record s { subcommand_required = true }) (new_app (codes "kprove"))

abbrev pub whole_app : App
whole_app = with_subcommand (with_subcommand top_app stdio_app.top) prove_app.top
