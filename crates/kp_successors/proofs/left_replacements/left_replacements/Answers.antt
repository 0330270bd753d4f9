use Rattle.std.proofs.Common.{rules, ◌≡◌, sym, ap, subst, ◌∙◌, ◌+◌, ◌++◌, ◌∷◌, [], true, false, map, drop, string_bytes}
use Rattle.std.specs.List.{AllByRecursion}
use Rattle.kp_kore.specs.View.{sorted_variable_view}
use Rattle.kp_signature.specs.View.{signature_view}
use Rattle.kp_kore.specs.Instance.{is_named}
use Rattle.kp_compile.specs.Names.{names_seen}
use Rattle.kp_pattern_substitution.specs.Seen.{replacement_view, replacements_view}
use Rattle.kp_successors.specs.Nexts.{left_of, new_of}
use Rattle.kp_successors.proofs.Spelling.{IsSpelled, names_of, all_named, left_named, put_added, put_passed, replaced_names, spell_all, spelled_added}
use Rattle.kp_successors.proofs.left_replacements.left_replacements.Goals.{then-not-is_named+in_ok-replacement+in_ok-add, else-not-is_named}
use Rattle.kp_successors.proofs.left_replacements.left_replacements.Goals as goal

pub loop-variable-preserved : goal.loop-variable-preserved
loop-variable-preserved c =
    let g = signature_view c.args.signature.now in
    let side = c.args.side.now in
    let xs = side.left_variables.items in
    let items = c.deref-variable-items.result.now in
    let i = c.loop-variable.variable-index in
    let x = c.variable-item.result in
    let before = replacements_view c.loop-variable.found.items in
    let later = replacements_view c.if-not-is_named.found.items in
    let whole = names_of (new_of side) (left_of side) in
    let asked : c.is_named.result ≡ is_named (string_bytes x.name) (new_of side) =
    c.is_named.ensures ∙ ap (λ vs. is_named c.as_str.result.now (map sorted_variable_view vs)) c.deref.ensures.value ∙ ap (λ n. is_named n (new_of side)) c.as_str.ensures.value in
    elim c.if-not-is_named.branch [
      | then-not-is_named+in_ok-replacement+in_ok-add w ↦
          let r = replacement_view w.in_ok-replacement.replacement in
          let old : c.is_named.result ≡ false = search rules in
          let added : later ≡ before ++ r ∷ [] = ap (λ f. replacements_view f.items) w.found-is ∙ w.in_ok-add.ensures in (
            put_added (new_of side) xs items i x before later r whole c.deref-variable-items.ensures.value c.loop-variable-test.true c.variable-item.is (sym asked ∙ old) w.in_ok-replacement.ensures.name added c.loop-variable.invariant.0,
            spelled_added g xs items i x c.args.bindings.now before later r c.deref-variable-items.ensures.value c.loop-variable-test.true c.variable-item.is w.in_ok-replacement.ensures.name w.in_ok-replacement.ensures.spelled added c.loop-variable.invariant.1,
          )
      | else-not-is_named w ↦
          let fresh : c.is_named.result ≡ true = search rules in
          let kept : later ≡ before = ap (λ f. replacements_view f.items) w.found-is in (
            subst (λ rs. map (λ r. r.name) rs ++ names_of (new_of side) (map sorted_variable_view (drop (i + 1) xs)) ≡ whole) (sym kept)
                (put_passed (new_of side) xs items i x before whole c.deref-variable-items.ensures.value c.loop-variable-test.true c.variable-item.is (sym asked ∙ fresh) c.loop-variable.invariant.0),
            subst (AllByRecursion (IsSpelled g (left_of side) c.args.bindings.now)) (sym kept) c.loop-variable.invariant.1,
          )
    ]

pub returns-clause-names : goal.returns-clause-names
returns-clause-names c =
    let side = c.args.side.now in
    replaced_names (new_of side) (left_of side) (replacements_view c.loop-variable.found.items)
    (all_named (new_of side) side.left_variables.items c.deref-variable-items.result.now c.loop-variable.variable-index (replacements_view c.loop-variable.found.items) (names_of (new_of side) (left_of side))
    c.deref-variable-items.ensures.value c.loop-variable-test.false c.loop-variable.invariant.0)

pub returns-clause-spelled : goal.returns-clause-spelled
returns-clause-spelled c = spell_all (signature_view c.args.signature.now) (left_of c.args.side.now) c.args.bindings.now (replacements_view c.loop-variable.found.items) c.loop-variable.invariant.1

pub replacement_of-requires-clause-names : goal.replacement_of-requires-clause-names
replacement_of-requires-clause-names c = c.requires

pub replacement_of-requires-clause-named : goal.replacement_of-requires-clause-named
replacement_of-requires-clause-named c =
    let side = c.args.side.now in
    left_named (names_seen side.left_names) side.left_variables.items c.deref-variable-items.result.now c.loop-variable.variable-index c.variable-item.result c.deref-variable-items.ensures.value c.loop-variable-test.true c.variable-item.is side.named
