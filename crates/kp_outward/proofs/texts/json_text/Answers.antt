use Rattle.std.proofs.Common.{option_map, sym, ap, ◌∙◌}
use Rattle.std.proofs.lemmas.Result.{IfOk-weaker}
use Rattle.serde_json.specs.View.{view as data_view}
use Rattle.kp_kore.specs.View.{view}
use Rattle.kp_outward.proofs.TextLemmas.{tree_text}
use Rattle.kp_outward.proofs.texts.json_text.Goals as goal

pub returns-in-Some : goal.returns-in-Some
returns-in-Some c =
    IfOk-weaker c.to_vec.result _ _
    (λ t told. tree_text (view c.args.pattern.now) (data_view c.in-Some.tree) t.items (ap (option_map data_view) (sym c.in-Some.is) ∙ c.in_ok-tree.ensures) told)
    c.to_vec.ensures.text
