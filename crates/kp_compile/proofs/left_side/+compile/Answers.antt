use Rattle.std.proofs.Common.{rules, ◌≡◌, ◌∙◌, sym, ap, ap₂, subst, map, take, length, ◌+◌, ◌++◌, ◌∷◌, [], true, string_bytes, arith}
use Rattle.std.proofs.lemmas.Result.{err_from_is_err_and, IfErr-weaker, IfOk-weaker}
use Rattle.kp_kore.specs.Syntax.{application, variable}
use Rattle.kp_kore.specs.Parts.{all_free_variables, free_variables}
use Rattle.kp_kore.specs.View.{view, sort_view, sorts_view, patterns_view}
use Rattle.kp_kore.specs.Signature.{meaning_of, construction, injection, interpretation}
use Rattle.kp_kore.specs.declared.pattern.Pattern.{the_lemmas}
use Rattle.kp_kore.specs.Value.{constructed}
use Rattle.kp_ground.specs.Slots.{is_numbered, joined, left_places, names_after}
use Rattle.kp_signature.specs.View.{signature_view}
use Rattle.kp_compile.specs.Exact.{IsLeftOf, AreLeftsOf}
use Rattle.kp_compile.specs.Names.{names_seen}
use Rattle.kp_signature.specs.Meanings.{function_view, meaning_view}
use Rattle.kp_compile.specs.Verified.{IsVerifiedLeftTerm}
use Rattle.kp_compile.proofs.Compiled.{zip_push, each_left}
use Rattle.kp_compile.proofs.Reading.{ok_both, one_place, taken_more, one_variables, places_push, numbered_push, names_push}
use Rattle.kp_compile.proofs.Taken.{inj_takes_one, not_interpreted}
use Rattle.kp_compile.proofs.VerifiedParts.{left_arguments, at_index}
use Rattle.kp_compile.proofs.left_side.+compile.Goals as goal
use Rattle.kp_compile.proofs.left_side.+compile.Goals.{compile_applied-in_default-via-then-arguments-lt1, compile_applied-in_default-via-else-arguments-lt1+else-arguments-lt2}

pub compile_applied-returns-in_ok-lefts-in-Constructor-clause-meaning : goal.compile_applied-returns-in_ok-lefts-in-Constructor-clause-meaning
compile_applied-returns-in_ok-lefts-in-Constructor-clause-meaning t c = λ v.
    let means : meaning_of (signature_view c.args.signature.now) (string_bytes c.args.name.now) ≡ construction
    = ap (meaning_of (signature_view c.args.signature.now)) (sym c.deref.ensures) ∙ sym c.meaning_of.ensures ∙ ap meaning_view c.in-Constructor.is in
    rw (c.make_built.ensures.seen, means) (ap₂ constructed c.in_ok-shared-in-Constructor.ensures (each_left (signature_view c.args.signature.now) v c.args.arguments.now c.in_ok-lefts-in-Constructor.lefts.items c.in_ok-lefts-in-Constructor.ensures.meaning))

pub compile_applied-returns-in_err-lefts-in-Constructor-clause-refused : goal.compile_applied-returns-in_err-lefts-in-Constructor-clause-refused
compile_applied-returns-in_err-lefts-in-Constructor-clause-refused t c =
    let p = err_from_is_err_and c.from_residual-in_err-lefts-in-Constructor.result c.from_residual-in_err-lefts-in-Constructor.ensures.1 in
    rw (p.1, p.2) (λ ss verified. c.in_err-lefts-in-Constructor.ensures.refused (left_arguments (signature_view c.args.signature.now) (string_bytes c.args.name.now) ss c.args.arguments.now verified))

pub compile_applied-returns-in-len1-clause-refused : goal.compile_applied-returns-in-len1-clause-refused
compile_applied-returns-in-len1-clause-refused t c =
    let g = (signature_view c.args.signature.now) in
    IfErr-weaker c.left_of.result _ _
    (λ e told ss verified. told
    (at_index (λ q. IsVerifiedLeftTerm g (view q)) c.args.arguments.now 0 c.argument-item.result (omega arith) c.argument-item.is (left_arguments g (string_bytes c.args.name.now) ss c.args.arguments.now verified)))
    c.left_of.ensures.refused

pub compile_applied-returns-in_default-clause-refused : goal.compile_applied-returns-in_default-clause-refused
compile_applied-returns-in_default-clause-refused t c = λ ss verified.
    let g = (signature_view c.args.signature.now) in
    let means : meaning_of g (string_bytes c.args.name.now) ≡ injection = ap (meaning_of g) (sym c.deref.ensures) ∙ sym c.meaning_of.ensures ∙ ap meaning_view c.in-Injection.is in
    let other : length c.args.arguments.now ≡ 1 → ⊥ = λ e. elim c.in_default.branch [ compile_applied-in_default-via-then-arguments-lt1 w ↦ search rules | compile_applied-in_default-via-else-arguments-lt1+else-arguments-lt2 w ↦ search rules ] in
    absurd (other (inj_takes_one g (string_bytes c.args.name.now) ss c.args.arguments.now means verified.term))

pub compile_applied-returns-in-Interpreted-clause-refused : goal.compile_applied-returns-in-Interpreted-clause-refused
compile_applied-returns-in-Interpreted-clause-refused t c = λ ss verified.
    let g = (signature_view c.args.signature.now) in
    let means : meaning_of g (string_bytes c.args.name.now) ≡ interpretation (function_view c.in-Interpreted.field-0) = ap (meaning_of g) (sym c.deref.ensures) ∙ sym c.meaning_of.ensures ∙ ap meaning_view c.in-Interpreted.is in
    absurd (not_interpreted g (string_bytes c.args.name.now) ss (patterns_view c.args.arguments.now) (function_view c.in-Interpreted.field-0) means verified)

pub left_of-returns-in-Application-clause-refused : goal.left_of-returns-in-Application-clause-refused
left_of-returns-in-Application-clause-refused t c =
    let g = (signature_view c.args.signature.now) in
    let is : view c.args.pattern.now ≡ application (string_bytes c.in-Application.symbol) (sorts_view c.in-Application.sorts.items) (patterns_view c.in-Application.arguments.items) = search (rules, the_lemmas) in
    IfErr-weaker c.compile_applied.result _ _
    (λ e told verified. told (sorts_view c.in-Application.sorts.items)
    (subst (IsVerifiedLeftTerm g) (is ∙ ap (λ ps. application (string_bytes c.in-Application.symbol) (sorts_view c.in-Application.sorts.items) (patterns_view ps)) (sym c.deref.ensures.value)) verified))
    c.compile_applied.ensures.refused

pub compile_each-loop-pattern-preserved : goal.compile_each-loop-pattern-preserved
compile_each-loop-pattern-preserved t c =
    let n = c.loop-pattern.pattern-index in
    let ps = take n c.args.patterns.now in
    let ts = c.loop-pattern.lefts.items in
    let p = c.pattern-item.result in
    let t = c.in_ok-left_of.field-0 in
    let old = names_seen c.args.names.now in
    let so = names_seen c.loop-pattern.names in
    let new = names_seen c.left_of.new.names in
    let more : take (n + 1) c.args.patterns.now ≡ ps ++ p ∷ [] = taken_more c.args.patterns.now n p c.loop-pattern-test.true c.pattern-item.is in
    let pushed = sym c.in_ok-push.ensures.items in
    record {
      meaning = subst (λ xs. AreLeftsOf (signature_view c.args.signature.now) (take (n + 1) c.args.patterns.now) xs) pushed
          (zip_push (λ p x. IsLeftOf (signature_view c.args.signature.now) (view p) x) n c.args.patterns.now ts p t c.loop-pattern-test.true c.pattern-item.is c.loop-pattern.invariant.meaning c.in_ok-left_of.ensures.meaning);
      places = subst (λ xs. map (λ x. x.name) (joined (map left_places xs)) ≡ map (λ x. x.name) (all_free_variables (patterns_view (take (n + 1) c.args.patterns.now)))) pushed
          (subst (λ qs. map (λ x. x.name) (joined (map left_places (ts ++ t ∷ []))) ≡ map (λ x. x.name) (all_free_variables (patterns_view qs))) (sym more)
          (places_push ts t ps p c.loop-pattern.invariant.places c.in_ok-left_of.ensures.places));
      numbered = subst (λ xs. is_numbered old (joined (map left_places xs)) ≡ true) pushed (numbered_push old so ts t c.loop-pattern.invariant.numbered c.loop-pattern.invariant.names c.in_ok-left_of.ensures.numbered);
      names = subst (λ xs. new ≡ names_after old (joined (map left_places xs))) pushed (names_push old so new ts t c.loop-pattern.invariant.names c.in_ok-left_of.ensures.names);
    }

pub compile_applied-returns-in_ok-lefts-in-Constructor-clause-places : goal.compile_applied-returns-in_ok-lefts-in-Constructor-clause-places
compile_applied-returns-in_ok-lefts-in-Constructor-clause-places t c = ap (map (λ x. x.name)) c.make_built.ensures.places ∙ c.in_ok-lefts-in-Constructor.ensures.places

pub compile_applied-returns-in_ok-lefts-in-Constructor-clause-numbered : goal.compile_applied-returns-in_ok-lefts-in-Constructor-clause-numbered
compile_applied-returns-in_ok-lefts-in-Constructor-clause-numbered t c = ap (is_numbered (names_seen c.args.names.now)) c.make_built.ensures.places ∙ c.in_ok-lefts-in-Constructor.ensures.numbered

pub compile_applied-returns-in_ok-lefts-in-Constructor-clause-names : goal.compile_applied-returns-in_ok-lefts-in-Constructor-clause-names
compile_applied-returns-in_ok-lefts-in-Constructor-clause-names t c =
    c.in_ok-lefts-in-Constructor.ensures.names ∙ sym (ap (names_after (names_seen c.args.names.now)) c.make_built.ensures.places)

pub compile_applied-returns-in-len1-clause-places : goal.compile_applied-returns-in-len1-clause-places
compile_applied-returns-in-len1-clause-places t c =
    IfOk-weaker c.left_of.result _ _ (λ l told. one_variables c.args.arguments.now c.argument-item.result (map (λ x. x.name) (left_places l)) (omega arith) c.argument-item.is told) c.left_of.ensures.places

pub left_of-returns-in-Application-clause-places : goal.left_of-returns-in-Application-clause-places
left_of-returns-in-Application-clause-places t c =
    let is : view c.args.pattern.now ≡ application (string_bytes c.in-Application.symbol) (sorts_view c.in-Application.sorts.items) (patterns_view c.in-Application.arguments.items) = search (rules, the_lemmas) in
    IfOk-weaker c.compile_applied.result _ _
    (λ l told. told ∙ ap (λ p. map (λ x. x.name) (free_variables p))
    (sym (is ∙ ap (λ ps. application (string_bytes c.in-Application.symbol) (sorts_view c.in-Application.sorts.items) (patterns_view ps)) (sym c.deref.ensures.value))))
    c.compile_applied.ensures.places

pub left_of-returns-in-Variable-clause-places : goal.left_of-returns-in-Variable-clause-places
left_of-returns-in-Variable-clause-places t c =
    let old = names_seen c.args.names.now in
    let new = names_seen c.variable.new.names in
    let x = string_bytes c.in-Variable.name in
    let is : view c.args.pattern.now ≡ variable x (sort_view c.in-Variable.sort) = search (rules, the_lemmas) in
    ok_both c.variable.result _ _ _ (λ l place names. (one_place x old new (left_places l) place names).0 ∙ ap (λ p. map (λ y. y.name) (free_variables p)) (sym is)) c.variable.ensures.place c.variable.ensures.names

pub left_of-returns-in-Variable-clause-numbered : goal.left_of-returns-in-Variable-clause-numbered
left_of-returns-in-Variable-clause-numbered t c =
    let old = names_seen c.args.names.now in
    let new = names_seen c.variable.new.names in
    let x = string_bytes c.in-Variable.name in
    ok_both c.variable.result _ _ _ (λ l place names. (one_place x old new (left_places l) place names).1) c.variable.ensures.place c.variable.ensures.names

pub left_of-returns-in-Variable-clause-names : goal.left_of-returns-in-Variable-clause-names
left_of-returns-in-Variable-clause-names t c =
    let old = names_seen c.args.names.now in
    let new = names_seen c.variable.new.names in
    let x = string_bytes c.in-Variable.name in
    ok_both c.variable.result _ _ _ (λ l place names. (one_place x old new (left_places l) place names).2) c.variable.ensures.place c.variable.ensures.names
