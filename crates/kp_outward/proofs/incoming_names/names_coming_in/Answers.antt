use Rattle.std.proofs.Common.{rules, ◌≡◌, ◌∙◌, sym, map, string_bytes}
use Rattle.std.specs.List.{flat_map}
use Rattle.kp_kore.specs.Parts.{free_variables, without_name}
use Rattle.kp_kore.specs.View.{view}
use Rattle.kp_symbolic.specs.View.{replaced_view}
use Rattle.kp_outward.specs.Parts.{names_for}
use Rattle.kp_outward.proofs.NamesLemmas.{names_are}
use Rattle.kp_outward.proofs.incoming_names.names_coming_in.Goals as goal

pub returns : goal.returns
returns c =
    let rs = map replaced_view c.args.replaced.now in
    let others = without_name c.args.name.now (free_variables (view c.args.pattern.now)) in
    let told : map string_bytes c.add_incoming.new.found.items ≡ flat_map (names_for rs) others = search rules in
    told ∙ sym (names_are rs others)
