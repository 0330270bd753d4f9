use Rattle.std.proofs.Common.{rules, ◌≡◌, None, Option, ℕ, string_bytes}
use Rattle.indexmap.specs.IndexMap.{get_by_text}
use Rattle.kp_signature.proofs.numbering.Numbering.group_for.Goals as goal

pub returns-in_ok-add_group-in-None : goal.returns-in_ok-add_group-in-None
returns-in_ok-add_group-in-None c ix =
    let none : ◌≡◌ {A = Option ℕ} None (get_by_text c.args.self.now.names (string_bytes c.args.name.now)) = search rules in
    c.in_ok-add_group-in-None.ensures ix none
