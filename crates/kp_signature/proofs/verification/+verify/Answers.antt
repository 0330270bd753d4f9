use Rattle.std.proofs.Common.{rules, ◌≡◌, refl, sym, ap, subst, ◌∙◌, ◌+◌, ◌++◌, ◌∷◌, List, length, map, Some, None, string_bytes, drop, inl, inr, arith}
use Rattle.std.specs.Option.{option_map}
use Rattle.std.proofs.lemmas.List.{append_assoc, length-map}
use Rattle.std.proofs.lemmas.Result.{err_from_is_err_and}
use Rattle.kp_kore.specs.Syntax.{variable, application, negation, next, mu, nu, implication, equivalence, rewriting, exists, forall, ceil, floor, equals, membership}
use Rattle.kp_kore.specs.Parts.{SortedName, free_variables, pattern_list}
use Rattle.kp_kore.specs.View.{view, sort_view, sorts_view, patterns_view}
use Rattle.kp_kore.specs.declared.pattern.Pattern.{the_lemmas}
use Rattle.kp_kore.proofs.Views.{list_of_patterns}
use Rattle.kp_signature.specs.Nodes.{one_sort, two_sorts, form_fault, application_fault}
use Rattle.kp_signature.specs.Places.{earlier, argument_sorts}
use Rattle.kp_signature.specs.Scopes.{Knows, place_of, part_place}
use Rattle.kp_signature.specs.Verify.{first_fault, arguments_fault, members_fault}
use Rattle.kp_signature.specs.View.{signature_view}
use Rattle.kp_signature.proofs.NodeLemmas.{first_told, next_told, none_told}
use Rattle.kp_signature.proofs.ScopeLemmas.{err_map}
use Rattle.kp_signature.proofs.VerifyLemmas.{with_found, found_in, found_more, members_open, arguments_open}
use Rattle.kp_signature.proofs.verification.+verify.Goals as goal

pub verify_at-returns-in_err-verify_at-in-Not-clause-err : goal.verify_at-returns-in_err-verify_at-in-Not-clause-err
verify_at-returns-in_err-verify_at-in-Not-clause-err t c =
    let p = err_from_is_err_and c.from_residual-in_err-verify_at-in-Not.result c.from_residual-in_err-verify_at-in-Not.ensures.1 in
    let body : c.deref-in-Not.result.now ≡ c.in-Not.pattern.value = search rules in
    let shape : (s : List SortedName) → first_fault (signature_view c.args.signature.now) (place_of c.args.wanted c.args.depth s) (view c.args.pattern.now) ≡ earlier (form_fault (signature_view c.args.signature.now) (option_map (λ v. sort_view v.now) c.args.wanted) c.args.depth (one_sort (sort_view c.in-Not.sort)) (sort_view c.in-Not.sort)) (first_fault (signature_view c.args.signature.now) (part_place (sort_view c.in-Not.sort) s) (view c.in-Not.pattern.value)) = λ s. elim c.in-Not.is [ inl e ↦ let q : view c.args.pattern.now ≡ negation (sort_view c.in-Not.sort) (view c.in-Not.pattern.value) = search (rules, the_lemmas) in ap (first_fault (signature_view c.args.signature.now) (place_of c.args.wanted c.args.depth s)) q | inr rest ↦ elim rest [ inl e ↦ let q : view c.args.pattern.now ≡ next (sort_view c.in-Not.sort) (view c.in-Not.pattern.value) = search (rules, the_lemmas) in ap (first_fault (signature_view c.args.signature.now) (place_of c.args.wanted c.args.depth s)) q | inr more ↦ elim more [ inl m ↦ let e = m.1 in let q : view c.args.pattern.now ≡ mu (string_bytes m.0) (sort_view c.in-Not.sort) (view c.in-Not.pattern.value) = search (rules, the_lemmas) in ap (first_fault (signature_view c.args.signature.now) (place_of c.args.wanted c.args.depth s)) q | inr m ↦ let e = m.1 in let q : view c.args.pattern.now ≡ nu (string_bytes m.0) (sort_view c.in-Not.sort) (view c.in-Not.pattern.value) = search (rules, the_lemmas) in ap (first_fault (signature_view c.args.signature.now) (place_of c.args.wanted c.args.depth s)) q ] ] ] in
    rw (p.1, p.2) (λ f s k is. shape s ∙ next_told c.in_ok-check_form-in-Not.ensures.ok
    (subst (λ v. first_fault (signature_view c.args.signature.now) (part_place (sort_view c.in-Not.sort) s) (view v) ≡ Some f) body (c.in_err-verify_at-in-Not.ensures.err f s k is)))

pub verify_at-returns-in_err-verify_at-in-Ceil-clause-err : goal.verify_at-returns-in_err-verify_at-in-Ceil-clause-err
verify_at-returns-in_err-verify_at-in-Ceil-clause-err t c =
    let p = err_from_is_err_and c.from_residual-in_err-verify_at-in-Ceil.result c.from_residual-in_err-verify_at-in-Ceil.ensures.1 in
    let body : c.deref-in-Ceil.result.now ≡ c.in-Ceil.pattern.value = search rules in
    let shape : (s : List SortedName) → first_fault (signature_view c.args.signature.now) (place_of c.args.wanted c.args.depth s) (view c.args.pattern.now) ≡ earlier (form_fault (signature_view c.args.signature.now) (option_map (λ v. sort_view v.now) c.args.wanted) c.args.depth (two_sorts (sort_view c.in-Ceil.argument_sort) (sort_view c.in-Ceil.sort)) (sort_view c.in-Ceil.sort)) (first_fault (signature_view c.args.signature.now) (part_place (sort_view c.in-Ceil.argument_sort) s) (view c.in-Ceil.pattern.value)) = λ s. elim c.in-Ceil.is [ inl e ↦ let q : view c.args.pattern.now ≡ ceil (sort_view c.in-Ceil.argument_sort) (sort_view c.in-Ceil.sort) (view c.in-Ceil.pattern.value) = search (rules, the_lemmas) in ap (first_fault (signature_view c.args.signature.now) (place_of c.args.wanted c.args.depth s)) q | inr rest0 ↦ let q : view c.args.pattern.now ≡ floor (sort_view c.in-Ceil.argument_sort) (sort_view c.in-Ceil.sort) (view c.in-Ceil.pattern.value) = search (rules, the_lemmas) in ap (first_fault (signature_view c.args.signature.now) (place_of c.args.wanted c.args.depth s)) q ] in
    rw (p.1, p.2) (λ f s k is. shape s ∙ next_told c.in_ok-check_form_of_part-in-Ceil.ensures.ok
    (subst (λ v. first_fault (signature_view c.args.signature.now) (part_place (sort_view c.in-Ceil.argument_sort) s) (view v) ≡ Some f) body (c.in_err-verify_at-in-Ceil.ensures.err f s k is)))

pub verify_at-returns-in_err-verify_at-in-Exists-clause-err : goal.verify_at-returns-in_err-verify_at-in-Exists-clause-err
verify_at-returns-in_err-verify_at-in-Exists-clause-err t c =
    let p = err_from_is_err_and c.from_residual-in_err-verify_at-in-Exists.result c.from_residual-in_err-verify_at-in-Exists.ensures.1 in
    let body : c.deref-in-Exists.result.now ≡ c.in-Exists.pattern.value = search rules in
    let shape : (s : List SortedName) → first_fault (signature_view c.args.signature.now) (place_of c.args.wanted c.args.depth s) (view c.args.pattern.now) ≡ earlier (form_fault (signature_view c.args.signature.now) (option_map (λ v. sort_view v.now) c.args.wanted) c.args.depth (two_sorts (sort_view c.in-Exists.sort) (sort_view c.in-Exists.name_sort)) (sort_view c.in-Exists.sort)) (first_fault (signature_view c.args.signature.now) (part_place (sort_view c.in-Exists.sort) (record { name = (string_bytes c.in-Exists.name); sort = (sort_view c.in-Exists.name_sort) } ∷ s)) (view c.in-Exists.pattern.value)) = λ s. elim c.in-Exists.is [ inl e ↦ let q : view c.args.pattern.now ≡ exists (sort_view c.in-Exists.sort) (string_bytes c.in-Exists.name) (sort_view c.in-Exists.name_sort) (view c.in-Exists.pattern.value) = search (rules, the_lemmas) in ap (first_fault (signature_view c.args.signature.now) (place_of c.args.wanted c.args.depth s)) q | inr rest0 ↦ let q : view c.args.pattern.now ≡ forall (sort_view c.in-Exists.sort) (string_bytes c.in-Exists.name) (sort_view c.in-Exists.name_sort) (view c.in-Exists.pattern.value) = search (rules, the_lemmas) in ap (first_fault (signature_view c.args.signature.now) (place_of c.args.wanted c.args.depth s)) q ] in
    rw (p.1, p.2) (λ f s k is. shape s ∙ next_told c.in_ok-check_binder-in-Exists.ensures.ok
    (subst (λ v. first_fault (signature_view c.args.signature.now) (part_place (sort_view c.in-Exists.sort) (record { name = (string_bytes c.in-Exists.name); sort = (sort_view c.in-Exists.name_sort) } ∷ s)) (view v) ≡ Some f) body (c.in_err-verify_at-in-Exists.ensures.err f (record { name = (string_bytes c.in-Exists.name); sort = (sort_view c.in-Exists.name_sort) } ∷ s) (c.in_ok-hidden-in-Exists.ensures.known s k) is)))

pub verify_at-returns-in_err-verify_at-in-Equals-clause-err : goal.verify_at-returns-in_err-verify_at-in-Equals-clause-err
verify_at-returns-in_err-verify_at-in-Equals-clause-err t c =
    let p = err_from_is_err_and c.from_residual-in_err-verify_at-in-Equals.result c.from_residual-in_err-verify_at-in-Equals.ensures.1 in
    let left : c.deref-in-Equals.result.now ≡ c.in-Equals.left.value = search rules in
    let shape : (s : List SortedName) → first_fault (signature_view c.args.signature.now) (place_of c.args.wanted c.args.depth s) (view c.args.pattern.now) ≡ earlier (form_fault (signature_view c.args.signature.now) (option_map (λ v. sort_view v.now) c.args.wanted) c.args.depth (two_sorts (sort_view c.in-Equals.argument_sort) (sort_view c.in-Equals.sort)) (sort_view c.in-Equals.sort)) (earlier (first_fault (signature_view c.args.signature.now) (part_place (sort_view c.in-Equals.argument_sort) s) (view c.in-Equals.left.value)) (earlier (first_fault (signature_view c.args.signature.now) (part_place (sort_view c.in-Equals.argument_sort) (s ++ free_variables (view c.in-Equals.left.value))) (view c.in-Equals.right.value)) None)) = λ s. elim c.in-Equals.is [ inl e ↦ let q : view c.args.pattern.now ≡ equals (sort_view c.in-Equals.argument_sort) (sort_view c.in-Equals.sort) (view c.in-Equals.left.value) (view c.in-Equals.right.value) = search (rules, the_lemmas) in ap (first_fault (signature_view c.args.signature.now) (place_of c.args.wanted c.args.depth s)) q | inr rest0 ↦ let q : view c.args.pattern.now ≡ membership (sort_view c.in-Equals.argument_sort) (sort_view c.in-Equals.sort) (view c.in-Equals.left.value) (view c.in-Equals.right.value) = search (rules, the_lemmas) in ap (first_fault (signature_view c.args.signature.now) (place_of c.args.wanted c.args.depth s)) q ] in
    rw (p.1, p.2) (λ f s k is. shape s ∙ next_told c.in_ok-check_form_of_part-in-Equals.ensures.ok
    (first_told _ (subst (λ v. first_fault (signature_view c.args.signature.now) (part_place (sort_view c.in-Equals.argument_sort) s) (view v) ≡ Some f) left (c.in_err-verify_at-in-Equals.ensures.err f s k is))))

pub verify_at-returns-in_err-verify_at-in-Equals-2-clause-err : goal.verify_at-returns-in_err-verify_at-in-Equals-2-clause-err
verify_at-returns-in_err-verify_at-in-Equals-2-clause-err t c =
    let p = err_from_is_err_and c.from_residual-in_err-verify_at-in-Equals-2.result c.from_residual-in_err-verify_at-in-Equals-2.ensures.1 in
    let left : c.deref-in-Equals.result.now ≡ c.in-Equals.left.value = search rules in
    let right : c.deref-in-Equals-2.result.now ≡ c.in-Equals.right.value = search rules in
    let shape : (s : List SortedName) → first_fault (signature_view c.args.signature.now) (place_of c.args.wanted c.args.depth s) (view c.args.pattern.now) ≡ earlier (form_fault (signature_view c.args.signature.now) (option_map (λ v. sort_view v.now) c.args.wanted) c.args.depth (two_sorts (sort_view c.in-Equals.argument_sort) (sort_view c.in-Equals.sort)) (sort_view c.in-Equals.sort)) (earlier (first_fault (signature_view c.args.signature.now) (part_place (sort_view c.in-Equals.argument_sort) s) (view c.in-Equals.left.value)) (earlier (first_fault (signature_view c.args.signature.now) (part_place (sort_view c.in-Equals.argument_sort) (s ++ free_variables (view c.in-Equals.left.value))) (view c.in-Equals.right.value)) None)) = λ s. elim c.in-Equals.is [ inl e ↦ let q : view c.args.pattern.now ≡ equals (sort_view c.in-Equals.argument_sort) (sort_view c.in-Equals.sort) (view c.in-Equals.left.value) (view c.in-Equals.right.value) = search (rules, the_lemmas) in ap (first_fault (signature_view c.args.signature.now) (place_of c.args.wanted c.args.depth s)) q | inr rest0 ↦ let q : view c.args.pattern.now ≡ membership (sort_view c.in-Equals.argument_sort) (sort_view c.in-Equals.sort) (view c.in-Equals.left.value) (view c.in-Equals.right.value) = search (rules, the_lemmas) in ap (first_fault (signature_view c.args.signature.now) (place_of c.args.wanted c.args.depth s)) q ] in
    rw (p.1, p.2) (λ f s k is. shape s ∙ next_told c.in_ok-check_form_of_part-in-Equals.ensures.ok
    (next_told (subst (λ v. first_fault (signature_view c.args.signature.now) (part_place (sort_view c.in-Equals.argument_sort) s) (view v) ≡ None) left (c.in_ok-verify_at-in-Equals.ensures.ok s k))
    (first_told _ (subst (λ v. first_fault (signature_view c.args.signature.now) (part_place (sort_view c.in-Equals.argument_sort) (s ++ free_variables (view c.in-Equals.left.value))) (view v) ≡ Some f) right (c.in_err-verify_at-in-Equals-2.ensures.err f (s ++ free_variables (view c.in-Equals.left.value)) (subst (λ v. Knows (s ++ free_variables (view v)) c.verify_at.new.scope) left (c.in_ok-verify_at-in-Equals.ensures.known s k)) is)))))

pub verify_at-returns-in_ok-verify_at-in-Equals-2-clause-known : goal.verify_at-returns-in_ok-verify_at-in-Equals-2-clause-known
verify_at-returns-in_ok-verify_at-in-Equals-2-clause-known t c s k =
    let left : c.deref-in-Equals.result.now ≡ c.in-Equals.left.value = search rules in
    let right : c.deref-in-Equals-2.result.now ≡ c.in-Equals.right.value = search rules in
    let found : free_variables (view c.args.pattern.now) ≡ free_variables (view c.in-Equals.left.value) ++ free_variables (view c.in-Equals.right.value) = elim c.in-Equals.is [ inl e ↦ let q : view c.args.pattern.now ≡ equals (sort_view c.in-Equals.argument_sort) (sort_view c.in-Equals.sort) (view c.in-Equals.left.value) (view c.in-Equals.right.value) = search (rules, the_lemmas) in ap free_variables q | inr rest0 ↦ let q : view c.args.pattern.now ≡ membership (sort_view c.in-Equals.argument_sort) (sort_view c.in-Equals.sort) (view c.in-Equals.left.value) (view c.in-Equals.right.value) = search (rules, the_lemmas) in ap free_variables q ] in
    subst (λ l. Knows l c.verify_at-in-Equals.new.scope) (append_assoc s (free_variables (view c.in-Equals.left.value)) (free_variables (view c.in-Equals.right.value)) ∙ ap (λ l. s ++ l) (sym found))
    (subst (λ v. Knows ((s ++ free_variables (view c.in-Equals.left.value)) ++ free_variables (view v)) c.verify_at-in-Equals.new.scope) right (c.in_ok-verify_at-in-Equals-2.ensures.known (s ++ free_variables (view c.in-Equals.left.value)) (subst (λ v. Knows (s ++ free_variables (view v)) c.verify_at.new.scope) left (c.in_ok-verify_at-in-Equals.ensures.known s k))))

pub verify_at-returns-in_err-verify_at-in-Implies-clause-err : goal.verify_at-returns-in_err-verify_at-in-Implies-clause-err
verify_at-returns-in_err-verify_at-in-Implies-clause-err t c =
    let p = err_from_is_err_and c.from_residual-in_err-verify_at-in-Implies.result c.from_residual-in_err-verify_at-in-Implies.ensures.1 in
    let left : c.deref-in-Implies.result.now ≡ c.in-Implies.left.value = search rules in
    let shape : (s : List SortedName) → first_fault (signature_view c.args.signature.now) (place_of c.args.wanted c.args.depth s) (view c.args.pattern.now) ≡ earlier (form_fault (signature_view c.args.signature.now) (option_map (λ v. sort_view v.now) c.args.wanted) c.args.depth (one_sort (sort_view c.in-Implies.sort)) (sort_view c.in-Implies.sort)) (earlier (first_fault (signature_view c.args.signature.now) (part_place (sort_view c.in-Implies.sort) s) (view c.in-Implies.left.value)) (earlier (first_fault (signature_view c.args.signature.now) (part_place (sort_view c.in-Implies.sort) (s ++ free_variables (view c.in-Implies.left.value))) (view c.in-Implies.right.value)) None)) = λ s. elim c.in-Implies.is [ inl e ↦ let q : view c.args.pattern.now ≡ implication (sort_view c.in-Implies.sort) (view c.in-Implies.left.value) (view c.in-Implies.right.value) = search (rules, the_lemmas) in ap (first_fault (signature_view c.args.signature.now) (place_of c.args.wanted c.args.depth s)) q | inr rest0 ↦ elim rest0 [ inl e ↦ let q : view c.args.pattern.now ≡ equivalence (sort_view c.in-Implies.sort) (view c.in-Implies.left.value) (view c.in-Implies.right.value) = search (rules, the_lemmas) in ap (first_fault (signature_view c.args.signature.now) (place_of c.args.wanted c.args.depth s)) q | inr rest1 ↦ let q : view c.args.pattern.now ≡ rewriting (sort_view c.in-Implies.sort) (view c.in-Implies.left.value) (view c.in-Implies.right.value) = search (rules, the_lemmas) in ap (first_fault (signature_view c.args.signature.now) (place_of c.args.wanted c.args.depth s)) q ] ] in
    rw (p.1, p.2) (λ f s k is. shape s ∙ next_told c.in_ok-check_form-in-Implies.ensures.ok
    (first_told _ (subst (λ v. first_fault (signature_view c.args.signature.now) (part_place (sort_view c.in-Implies.sort) s) (view v) ≡ Some f) left (c.in_err-verify_at-in-Implies.ensures.err f s k is))))

pub verify_at-returns-in_err-verify_at-in-Implies-2-clause-err : goal.verify_at-returns-in_err-verify_at-in-Implies-2-clause-err
verify_at-returns-in_err-verify_at-in-Implies-2-clause-err t c =
    let p = err_from_is_err_and c.from_residual-in_err-verify_at-in-Implies-2.result c.from_residual-in_err-verify_at-in-Implies-2.ensures.1 in
    let left : c.deref-in-Implies.result.now ≡ c.in-Implies.left.value = search rules in
    let right : c.deref-in-Implies-2.result.now ≡ c.in-Implies.right.value = search rules in
    let shape : (s : List SortedName) → first_fault (signature_view c.args.signature.now) (place_of c.args.wanted c.args.depth s) (view c.args.pattern.now) ≡ earlier (form_fault (signature_view c.args.signature.now) (option_map (λ v. sort_view v.now) c.args.wanted) c.args.depth (one_sort (sort_view c.in-Implies.sort)) (sort_view c.in-Implies.sort)) (earlier (first_fault (signature_view c.args.signature.now) (part_place (sort_view c.in-Implies.sort) s) (view c.in-Implies.left.value)) (earlier (first_fault (signature_view c.args.signature.now) (part_place (sort_view c.in-Implies.sort) (s ++ free_variables (view c.in-Implies.left.value))) (view c.in-Implies.right.value)) None)) = λ s. elim c.in-Implies.is [ inl e ↦ let q : view c.args.pattern.now ≡ implication (sort_view c.in-Implies.sort) (view c.in-Implies.left.value) (view c.in-Implies.right.value) = search (rules, the_lemmas) in ap (first_fault (signature_view c.args.signature.now) (place_of c.args.wanted c.args.depth s)) q | inr rest0 ↦ elim rest0 [ inl e ↦ let q : view c.args.pattern.now ≡ equivalence (sort_view c.in-Implies.sort) (view c.in-Implies.left.value) (view c.in-Implies.right.value) = search (rules, the_lemmas) in ap (first_fault (signature_view c.args.signature.now) (place_of c.args.wanted c.args.depth s)) q | inr rest1 ↦ let q : view c.args.pattern.now ≡ rewriting (sort_view c.in-Implies.sort) (view c.in-Implies.left.value) (view c.in-Implies.right.value) = search (rules, the_lemmas) in ap (first_fault (signature_view c.args.signature.now) (place_of c.args.wanted c.args.depth s)) q ] ] in
    rw (p.1, p.2) (λ f s k is. shape s ∙ next_told c.in_ok-check_form-in-Implies.ensures.ok
    (next_told (subst (λ v. first_fault (signature_view c.args.signature.now) (part_place (sort_view c.in-Implies.sort) s) (view v) ≡ None) left (c.in_ok-verify_at-in-Implies.ensures.ok s k))
    (first_told _ (subst (λ v. first_fault (signature_view c.args.signature.now) (part_place (sort_view c.in-Implies.sort) (s ++ free_variables (view c.in-Implies.left.value))) (view v) ≡ Some f) right (c.in_err-verify_at-in-Implies-2.ensures.err f (s ++ free_variables (view c.in-Implies.left.value)) (subst (λ v. Knows (s ++ free_variables (view v)) c.verify_at-in-Implies.new.scope) left (c.in_ok-verify_at-in-Implies.ensures.known s k)) is)))))

pub verify_at-returns-in_ok-verify_at-in-Implies-2-clause-known : goal.verify_at-returns-in_ok-verify_at-in-Implies-2-clause-known
verify_at-returns-in_ok-verify_at-in-Implies-2-clause-known t c s k =
    let left : c.deref-in-Implies.result.now ≡ c.in-Implies.left.value = search rules in
    let right : c.deref-in-Implies-2.result.now ≡ c.in-Implies.right.value = search rules in
    let found : free_variables (view c.args.pattern.now) ≡ free_variables (view c.in-Implies.left.value) ++ free_variables (view c.in-Implies.right.value) = elim c.in-Implies.is [ inl e ↦ let q : view c.args.pattern.now ≡ implication (sort_view c.in-Implies.sort) (view c.in-Implies.left.value) (view c.in-Implies.right.value) = search (rules, the_lemmas) in ap free_variables q | inr rest0 ↦ elim rest0 [ inl e ↦ let q : view c.args.pattern.now ≡ equivalence (sort_view c.in-Implies.sort) (view c.in-Implies.left.value) (view c.in-Implies.right.value) = search (rules, the_lemmas) in ap free_variables q | inr rest1 ↦ let q : view c.args.pattern.now ≡ rewriting (sort_view c.in-Implies.sort) (view c.in-Implies.left.value) (view c.in-Implies.right.value) = search (rules, the_lemmas) in ap free_variables q ] ] in
    subst (λ l. Knows l c.verify_at-in-Implies-2.new.scope) (append_assoc s (free_variables (view c.in-Implies.left.value)) (free_variables (view c.in-Implies.right.value)) ∙ ap (λ l. s ++ l) (sym found))
    (subst (λ v. Knows ((s ++ free_variables (view c.in-Implies.left.value)) ++ free_variables (view v)) c.verify_at-in-Implies-2.new.scope) right (c.in_ok-verify_at-in-Implies-2.ensures.known (s ++ free_variables (view c.in-Implies.left.value)) (subst (λ v. Knows (s ++ free_variables (view v)) c.verify_at-in-Implies.new.scope) left (c.in_ok-verify_at-in-Implies.ensures.known s k))))

pub verify_at-returns-in-Variable-clause-err : goal.verify_at-returns-in-Variable-clause-err
verify_at-returns-in-Variable-clause-err t c =
    let q : view c.args.pattern.now ≡ variable (string_bytes c.in-Variable.name) (sort_view c.in-Variable.sort) = search (rules, the_lemmas) in
    err_map c.check_variable.result (λ e told f s k is. ap (first_fault (signature_view c.args.signature.now) (place_of c.args.wanted c.args.depth s)) q ∙ told f s k is) c.check_variable.ensures.err

pub verify_at-returns-in_err-places-in-Application-clause-err : goal.verify_at-returns-in_err-places-in-Application-clause-err
verify_at-returns-in_err-places-in-Application-clause-err t c =
    let p = err_from_is_err_and c.from_residual.result c.from_residual.ensures.1 in
    let q : view c.args.pattern.now ≡ application (string_bytes c.in-Application.symbol) (sorts_view c.in-Application.sorts.items) (patterns_view c.in-Application.arguments.items) = search (rules, the_lemmas) in
    let count : c.len.result ≡ length c.in-Application.arguments.items = search rules in
    let many : length (pattern_list (patterns_view c.in-Application.arguments.items)) ≡ c.len.result = ap length (list_of_patterns (map view c.in-Application.arguments.items)) ∙ length-map c.in-Application.arguments.items view ∙ sym count in
    rw (p.1, p.2) (λ f s k is. ap (first_fault (signature_view c.args.signature.now) (place_of c.args.wanted c.args.depth s)) q ∙ first_told _
    (subst (λ l. application_fault (signature_view c.args.signature.now) (option_map (λ v. sort_view v.now) c.args.wanted) c.args.depth (string_bytes c.in-Application.symbol) (sorts_view l) (patterns_view c.in-Application.arguments.items) ≡ Some f) c.deref.ensures.value (c.in_err-places-in-Application.ensures.err f (patterns_view c.in-Application.arguments.items) many is)))

pub verify_at-returns-in_err-verify_arguments-in-Application-clause-err : goal.verify_at-returns-in_err-verify_arguments-in-Application-clause-err
verify_at-returns-in_err-verify_arguments-in-Application-clause-err t c =
    let p = err_from_is_err_and c.from_residual-in_err-verify_arguments-in-Application.result c.from_residual-in_err-verify_arguments-in-Application.ensures.1 in
    let q : view c.args.pattern.now ≡ application (string_bytes c.in-Application.symbol) (sorts_view c.in-Application.sorts.items) (patterns_view c.in-Application.arguments.items) = search (rules, the_lemmas) in
    let count : c.len.result ≡ length c.in-Application.arguments.items = search rules in
    let many : length (pattern_list (patterns_view c.in-Application.arguments.items)) ≡ c.len.result = ap length (list_of_patterns (map view c.in-Application.arguments.items)) ∙ length-map c.in-Application.arguments.items view ∙ sym count in
    let places : sorts_view c.deref-in-Application-2.result.now ≡ argument_sorts (signature_view c.args.signature.now) (string_bytes c.in-Application.symbol) (sorts_view c.in-Application.sorts.items) = ap sorts_view c.deref-in-Application-2.ensures.value ∙ c.in_ok-places-in-Application.ensures.places ∙ ap (λ l. argument_sorts (signature_view c.args.signature.now) (string_bytes c.in-Application.symbol) (sorts_view l)) c.deref.ensures.value in
    rw (p.1, p.2) (λ f s k is. ap (first_fault (signature_view c.args.signature.now) (place_of c.args.wanted c.args.depth s)) q ∙ next_told (subst (λ l. application_fault (signature_view c.args.signature.now) (option_map (λ v. sort_view v.now) c.args.wanted) c.args.depth (string_bytes c.in-Application.symbol) (sorts_view l) (patterns_view c.in-Application.arguments.items) ≡ None) c.deref.ensures.value (c.in_ok-places-in-Application.ensures.ok (patterns_view c.in-Application.arguments.items) many))
    (ap (λ l. arguments_fault (signature_view c.args.signature.now) (place_of c.args.wanted c.args.depth s) l (patterns_view c.in-Application.arguments.items)) (sym places) ∙ ap (λ l. arguments_fault (signature_view c.args.signature.now) (place_of c.args.wanted c.args.depth s) (sorts_view c.deref-in-Application-2.result.now) (patterns_view l)) (sym c.deref-in-Application.ensures.value)
    ∙ c.in_err-verify_arguments-in-Application.ensures.err f (place_of c.args.wanted c.args.depth s) refl k is))

pub verify_at-returns-in_ok-verify_arguments-in-Application-clause-ok : goal.verify_at-returns-in_ok-verify_arguments-in-Application-clause-ok
verify_at-returns-in_ok-verify_arguments-in-Application-clause-ok t c s k =
    let q : view c.args.pattern.now ≡ application (string_bytes c.in-Application.symbol) (sorts_view c.in-Application.sorts.items) (patterns_view c.in-Application.arguments.items) = search (rules, the_lemmas) in
    let count : c.len.result ≡ length c.in-Application.arguments.items = search rules in
    let many : length (pattern_list (patterns_view c.in-Application.arguments.items)) ≡ c.len.result = ap length (list_of_patterns (map view c.in-Application.arguments.items)) ∙ length-map c.in-Application.arguments.items view ∙ sym count in
    let places : sorts_view c.deref-in-Application-2.result.now ≡ argument_sorts (signature_view c.args.signature.now) (string_bytes c.in-Application.symbol) (sorts_view c.in-Application.sorts.items) = ap sorts_view c.deref-in-Application-2.ensures.value ∙ c.in_ok-places-in-Application.ensures.places ∙ ap (λ l. argument_sorts (signature_view c.args.signature.now) (string_bytes c.in-Application.symbol) (sorts_view l)) c.deref.ensures.value in
    ap (first_fault (signature_view c.args.signature.now) (place_of c.args.wanted c.args.depth s)) q ∙ none_told (subst (λ l. application_fault (signature_view c.args.signature.now) (option_map (λ v. sort_view v.now) c.args.wanted) c.args.depth (string_bytes c.in-Application.symbol) (sorts_view l) (patterns_view c.in-Application.arguments.items) ≡ None) c.deref.ensures.value (c.in_ok-places-in-Application.ensures.ok (patterns_view c.in-Application.arguments.items) many))
    (ap (λ l. arguments_fault (signature_view c.args.signature.now) (place_of c.args.wanted c.args.depth s) l (patterns_view c.in-Application.arguments.items)) (sym places) ∙ ap (λ l. arguments_fault (signature_view c.args.signature.now) (place_of c.args.wanted c.args.depth s) (sorts_view c.deref-in-Application-2.result.now) (patterns_view l)) (sym c.deref-in-Application.ensures.value)
    ∙ c.in_ok-verify_arguments-in-Application.ensures.ok (place_of c.args.wanted c.args.depth s) refl k)

pub verify_arguments-returns-in_err-verify_at-clause-err : goal.verify_arguments-returns-in_err-verify_at-clause-err
verify_arguments-returns-in_err-verify_at-clause-err t c =
    let p = err_from_is_err_and c.from_residual.result c.from_residual.ensures.1 in
    rw (p.1, p.2) (λ f b d k is. arguments_open (signature_view c.args.signature.now) b c.args.places.now c.args.arguments.now c.loop-i.i c.index-places-i.result c.index-arguments-i.result (omega arith) c.index-places-i.is c.loop-i-test.true c.index-arguments-i.is (c.loop-i.invariant.faults b d k)
    ∙ first_told _ (ap (λ n. first_fault (signature_view c.args.signature.now) (record { wanted = Some (sort_view c.index-places-i.result); depth = n; scope = b.scope ++ (found_in c.args.arguments.now c.loop-i.i) }) (view c.index-arguments-i.result)) d ∙ c.in_err-verify_at.ensures.err f (b.scope ++ (found_in c.args.arguments.now c.loop-i.i)) (c.loop-i.invariant.knows b.scope k) is))

pub verify_arguments-loop-i-preserved : goal.verify_arguments-loop-i-preserved
verify_arguments-loop-i-preserved t c = record {
  knows = λ s k. subst (λ l. Knows l c.verify_at.new.scope) (found_more s c.args.arguments.now c.loop-i.i c.index-arguments-i.result c.loop-i-test.true c.index-arguments-i.is) (c.in_ok-verify_at.ensures.known (s ++ (found_in c.args.arguments.now c.loop-i.i)) (c.loop-i.invariant.knows s k));
  faults = λ b d k. arguments_open (signature_view c.args.signature.now) b c.args.places.now c.args.arguments.now c.loop-i.i c.index-places-i.result c.index-arguments-i.result (omega arith) c.index-places-i.is c.loop-i-test.true c.index-arguments-i.is (c.loop-i.invariant.faults b d k)
      ∙ ap (λ o. earlier o (arguments_fault (signature_view c.args.signature.now) (with_found b (found_in c.args.arguments.now (c.loop-i.i + 1))) (sorts_view (drop (c.loop-i.i + 1) c.args.places.now)) (patterns_view (drop (c.loop-i.i + 1) c.args.arguments.now)))) (ap (λ n. first_fault (signature_view c.args.signature.now) (record { wanted = Some (sort_view c.index-places-i.result); depth = n; scope = b.scope ++ (found_in c.args.arguments.now c.loop-i.i) }) (view c.index-arguments-i.result)) d ∙ c.in_ok-verify_at.ensures.ok (b.scope ++ (found_in c.args.arguments.now c.loop-i.i)) (c.loop-i.invariant.knows b.scope k));
}

pub verify_members-returns-in_err-verify_at-clause-err : goal.verify_members-returns-in_err-verify_at-clause-err
verify_members-returns-in_err-verify_at-clause-err t c =
    let p = err_from_is_err_and c.from_residual.result c.from_residual.ensures.1 in
    rw (p.1, p.2) (λ f s k is. members_open (signature_view c.args.signature.now) (part_place (sort_view c.args.sort.now) s) c.args.members.now c.loop-member.member-index c.member-item.result c.loop-member-test.true c.member-item.is (c.loop-member.invariant.faults s k)
    ∙ first_told _ (c.in_err-verify_at.ensures.err f (s ++ (found_in c.args.members.now c.loop-member.member-index)) (c.loop-member.invariant.knows s k) is))

pub verify_members-loop-member-preserved : goal.verify_members-loop-member-preserved
verify_members-loop-member-preserved t c = record {
  knows = λ s k. subst (λ l. Knows l c.verify_at.new.scope) (found_more s c.args.members.now c.loop-member.member-index c.member-item.result c.loop-member-test.true c.member-item.is) (c.in_ok-verify_at.ensures.known (s ++ (found_in c.args.members.now c.loop-member.member-index)) (c.loop-member.invariant.knows s k));
  faults = λ s k. members_open (signature_view c.args.signature.now) (part_place (sort_view c.args.sort.now) s) c.args.members.now c.loop-member.member-index c.member-item.result c.loop-member-test.true c.member-item.is (c.loop-member.invariant.faults s k)
      ∙ ap (λ o. earlier o (members_fault (signature_view c.args.signature.now) (with_found (part_place (sort_view c.args.sort.now) s) (found_in c.args.members.now (c.loop-member.member-index + 1))) (patterns_view (drop (c.loop-member.member-index + 1) c.args.members.now)))) (c.in_ok-verify_at.ensures.ok (s ++ (found_in c.args.members.now c.loop-member.member-index)) (c.loop-member.invariant.knows s k));
}
