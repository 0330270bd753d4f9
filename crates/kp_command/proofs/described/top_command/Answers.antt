use Rattle.std.proofs.Common.{◌≡◌, ◌∙◌, ap, codes, rules, true}
use Rattle.clap.specs.Simple.{Shape, app_of, app_of_fields, new_app, on_top}
use Rattle.kp_command.proofs.described.top_command.Goals as goal

pub returns : goal.returns
returns c =
    let start : app_of c.new.result ≡ new_app (codes "kprove") = search rules in
    ap app_of_fields c.subcommand_required.ensures ∙ ap (on_top (λ (s : Shape). record s { subcommand_required = true })) (ap app_of_fields c.about.ensures ∙ start)
