use Rattle.std.proofs.Common.{rules, ◌≡◌, refl, sym, ◌∙◌, true, false, map}
use Rattle.kp_kore.specs.View.{view, sorted_variable_view}
use Rattle.kp_signature.specs.View.{signature_view}
use Rattle.kp_compile.specs.Names.{names_seen}
use Rattle.kp_rule_reading.proofs.OldParts.{left_out, taken_in}
use Rattle.kp_rule_reading.proofs.old_parts.add_old.Goals as goal

pub returns-then-not-branch-clause-added : goal.returns-then-not-branch-clause-added
returns-then-not-branch-clause-added c =
    let no : c.in_ok-has_no_new.field-0 ≡ false = search rules in
    left_out (signature_view c.args.signature.now) (names_seen c.args.names.now) (map sorted_variable_view c.args.new_variables.now) (view c.args.part.now) _ _ refl (sym c.in_ok-has_no_new.ensures ∙ no)

pub returns-clause-added : goal.returns-clause-added
returns-clause-added c =
    let yes : c.in_ok-has_no_new.field-0 ≡ true = search rules in
    taken_in (signature_view c.args.signature.now) (names_seen c.args.names.now) (map sorted_variable_view c.args.new_variables.now) (view c.args.part.now) c.in_ok-term.term _ _ (search rules)
    (sym c.in_ok-has_no_new.ensures ∙ yes) c.in_ok-term.ensures.narrow c.in_ok-term.ensures.reads
