use Rattle.std.proofs.Common.{rules, ◌≡◌, true, refl, sym, ap, subst, ◌∙◌, ◌≤◌, [], ◌∷◌, ◌++◌, inl, inr, map, take, length, Contains}
use Rattle.std.proofs.lemmas.List.{map_more, take_all}
use Rattle.std.proofs.lemmas.List.Elements.{Contains-push_cases}
use Rattle.kp_kore.specs.View.{sort_view}
use Rattle.kp_signature.specs.View.{signature_view}
use Rattle.kp_heads.specs.Heads.{HasValue}
use Rattle.kp_heads.proofs.Values.{nothing_in, in_map}
use Rattle.kp_heads.proofs.table.HeadTable.have_values.Goals as goal

pub loop-sort-init : goal.loop-sort-init
loop-sort-init c t s h = absurd (nothing_in s h)

pub returns-then-not-has_value : goal.returns-then-not-has_value
returns-then-not-has_value c t =
    let ss = c.args.sorts.now in
    let s = c.sort-item.result in
    (λ h. absurd (cc), λ all. absurd (cc ((c.has_value.ensures t).1 (all (sort_view s) (in_map sort_view ss s (c.loop-sort.sort-index, c.loop-sort-test.true, sym c.sort-item.is))), c.if-not-has_value.true)))

pub loop-sort-preserved : goal.loop-sort-preserved
loop-sort-preserved c t s h =
    let ss = c.args.sorts.now in
    let i = c.loop-sort.sort-index in
    let x = c.sort-item.result in
    let yes : c.has_value.result ≡ true = search rules in
    let split = map_more sort_view ss i x c.loop-sort-test.true ∙ ap (λ v. map sort_view (take i ss) ++ sort_view v ∷ []) (sym c.sort-item.is) in
    elim (Contains-push_cases (map sort_view (take i ss)) (sort_view x) s (subst (λ l. Contains l s) split h)) [
      | inl old ↦ c.loop-sort.invariant t s old
      | inr same ↦ subst (HasValue (signature_view c.args.signature.now)) same ((c.has_value.ensures t).0 yes)
    ]

pub returns : goal.returns
returns c t =
    let ss = c.args.sorts.now in
    let past : length ss ≤ c.loop-sort.sort-index = search rules in
    (λ _ s h. c.loop-sort.invariant t s (subst (λ l. Contains (map sort_view l) s) (sym (take_all c.loop-sort.sort-index ss past)) h), λ _. refl)
