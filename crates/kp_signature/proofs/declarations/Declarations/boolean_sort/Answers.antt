use Rattle.std.proofs.Common.{rules, ◌≡◌, ◌∙◌, string_bytes}
use Rattle.std.specs.Option.{option_map}
use Rattle.kp_kore.specs.Syntax.{sort_of, no_sorts}
use Rattle.kp_signature.specs.Table.{table_view}
use Rattle.kp_signature.proofs.AloneLemmas.{booleans_are}
use Rattle.kp_signature.proofs.declarations.Declarations.boolean_sort.Goals as goal

pub returns : goal.returns
returns c =
    let e : option_map (λ n. sort_of (string_bytes n.now) no_sorts) c.as_ref.result ≡ option_map (λ n. sort_of (string_bytes n) no_sorts) c.args.self.now.booleans = search rules in
    e ∙ booleans_are (table_view c.args.self.now.table) c.args.self.now.booleans c.args.self.now.booleans_named
