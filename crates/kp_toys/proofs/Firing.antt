-- Which rules may fire on the configurations of the replies.
use Rattle.std.proofs.Common.{◌≡◌, refl, sym, ◌∙◌, ◌⊎◌, inl, inr, Bool, true, false, not, List, [], ◌∷◌, ◌++◌, ℤ}
use Rattle.std.specs.Prelude.{codes, IsTrue}
use Rattle.std.specs.List.{AllByRecursion, list_all}
use Rattle.kp_kore.specs.Syntax.{KoreSort, KorePattern}
use Rattle.kp_kore.specs.Parts.{SortedName, free_variables}
use Rattle.kp_kore.specs.Cases.{NextState, HaveOneSort}
use Rattle.kp_kore.specs.Signature.{KoreSignature}
use Rattle.kp_kore.specs.Value.{Value, constructed, no_values, next_value}
use Rattle.kp_kore.specs.Rules.{RewriteRule}
use Rattle.kp_kore.specs.Steps.{Fires, NoneFires, AnyByRecursion, IsUnknown}
use Rattle.kp_kore.specs.Replies.{is_open_call, is_wide_value}
use Rattle.kp_kore.specs.Instance.{Valuation, instance}
use Rattle.kp_kore.proofs.InstanceLemmas.{first_true, second_true}
use Rattle.kp_toys.specs.ToysTheory.{toys, toys_signature, dec_rule, stop_rule, pick_rule, num_rule, sq_rule, up_rule, odd_rule, spin_rule, van_rule, back_rule}
use Rattle.kp_toys.specs.ToysValues.{count, vg_value}
use Rattle.kp_toys.proofs.Matching.{other_head, false_true, known, texts_differ}

-- what fires on count(k) is dec or stop
pub on_count : (P : RewriteRule → Type 0) (k : ℤ) → ((r : RewriteRule) → P r → Fires toys_signature r.body (count k)) → AnyByRecursion P toys.rules → P dec_rule ⊎ P stop_rule
on_count P k fires s = elim s [
  | inl a ↦ inl a
  | inr s ↦ elim s [
    | inl a ↦ inr a
    | inr s ↦ elim s [
      | inl a ↦ absurd (other_head _ (count k) (λ v. refl) (fires pick_rule a))
      | inr s ↦ elim s [
        | inl a ↦ absurd (other_head _ (count k) (λ v. refl) (fires num_rule a))
        | inr s ↦ elim s [
          | inl a ↦ absurd (other_head _ (count k) (λ v. refl) (fires sq_rule a))
          | inr s ↦ elim s [
            | inl a ↦ absurd (other_head _ (count k) (λ v. refl) (fires up_rule a))
            | inr s ↦ elim s [
              | inl a ↦ absurd (fires odd_rule a)
              | inr s ↦ elim s [
                | inl a ↦ absurd (other_head _ (count k) (λ v. refl) (fires spin_rule a))
                | inr s ↦ elim s [
                  | inl a ↦ absurd (other_head _ (count k) (λ v. refl) (fires van_rule a))
                  | inr s ↦ elim s [
                    | inl a ↦ absurd (other_head _ (count k) (λ v. refl) (fires back_rule a))
                    | inr s ↦ absurd s
                  ]
                ]
              ]
            ]
          ]
        ]
      ]
    ]
  ]
]

pub none_on_count : (k : ℤ) → ¬ Fires toys_signature dec_rule.body (count k) → ¬ Fires toys_signature stop_rule.body (count k) → NoneFires toys (count k)
none_on_count k no_dec no_stop = (no_dec, (no_stop, ((λ f. other_head _ (count k) (λ v. refl) f), ((λ f. other_head _ (count k) (λ v. refl) f), ((λ f. other_head _ (count k) (λ v. refl) f), ((λ f. other_head _ (count k) (λ v. refl) f), ((λ f. f), ((λ f. other_head _ (count k) (λ v. refl) f), ((λ f. other_head _ (count k) (λ v. refl) f), ((λ f. other_head _ (count k) (λ v. refl) f), tt))))))))))

-- what fires on pick(u) is pick
abbrev pub on_pick : Value → Value
on_pick u = constructed (codes "Lblpick") (next_value u no_values)

pub only_pick : (P : RewriteRule → Type 0) (u : Value) → ((r : RewriteRule) → P r → Fires toys_signature r.body (on_pick u)) → AnyByRecursion P toys.rules → P pick_rule
only_pick P u fires s = elim s [
  | inl a ↦ absurd (other_head _ (on_pick u) (λ v. refl) (fires dec_rule a))
  | inr s ↦ elim s [
    | inl a ↦ absurd (other_head _ (on_pick u) (λ v. refl) (fires stop_rule a))
    | inr s ↦ elim s [
      | inl a ↦ a
      | inr s ↦ elim s [
        | inl a ↦ absurd (other_head _ (on_pick u) (λ v. refl) (fires num_rule a))
        | inr s ↦ elim s [
          | inl a ↦ absurd (other_head _ (on_pick u) (λ v. refl) (fires sq_rule a))
          | inr s ↦ elim s [
            | inl a ↦ absurd (other_head _ (on_pick u) (λ v. refl) (fires up_rule a))
            | inr s ↦ elim s [
              | inl a ↦ absurd (fires odd_rule a)
              | inr s ↦ elim s [
                | inl a ↦ absurd (other_head _ (on_pick u) (λ v. refl) (fires spin_rule a))
                | inr s ↦ elim s [
                  | inl a ↦ absurd (other_head _ (on_pick u) (λ v. refl) (fires van_rule a))
                  | inr s ↦ elim s [
                    | inl a ↦ absurd (other_head _ (on_pick u) (λ v. refl) (fires back_rule a))
                    | inr s ↦ absurd s
                  ]
                ]
              ]
            ]
          ]
        ]
      ]
    ]
  ]
]

pub none_on_pick : (u : Value) → ¬ Fires toys_signature pick_rule.body (on_pick u) → NoneFires toys (on_pick u)
none_on_pick u no_pick = ((λ f. other_head _ (on_pick u) (λ v. refl) f), ((λ f. other_head _ (on_pick u) (λ v. refl) f), (no_pick, ((λ f. other_head _ (on_pick u) (λ v. refl) f), ((λ f. other_head _ (on_pick u) (λ v. refl) f), ((λ f. other_head _ (on_pick u) (λ v. refl) f), ((λ f. f), ((λ f. other_head _ (on_pick u) (λ v. refl) f), ((λ f. other_head _ (on_pick u) (λ v. refl) f), ((λ f. other_head _ (on_pick u) (λ v. refl) f), tt))))))))))

pub pick_known : (u : Value) → ¬ IsUnknown toys (on_pick u)
pick_known u = known (on_pick u) (λ s. texts_differ (codes "Lblpick") (codes "Lblodd") refl s.1.0)

-- what fires on vg is back
pub only_back : (P : RewriteRule → Type 0) → ((r : RewriteRule) → P r → Fires toys_signature r.body vg_value) → AnyByRecursion P toys.rules → P back_rule
only_back P fires s = elim s [
  | inl a ↦ absurd (other_head _ vg_value (λ v. refl) (fires dec_rule a))
  | inr s ↦ elim s [
    | inl a ↦ absurd (other_head _ vg_value (λ v. refl) (fires stop_rule a))
    | inr s ↦ elim s [
      | inl a ↦ absurd (other_head _ vg_value (λ v. refl) (fires pick_rule a))
      | inr s ↦ elim s [
        | inl a ↦ absurd (other_head _ vg_value (λ v. refl) (fires num_rule a))
        | inr s ↦ elim s [
          | inl a ↦ absurd (other_head _ vg_value (λ v. refl) (fires sq_rule a))
          | inr s ↦ elim s [
            | inl a ↦ absurd (other_head _ vg_value (λ v. refl) (fires up_rule a))
            | inr s ↦ elim s [
              | inl a ↦ absurd (fires odd_rule a)
              | inr s ↦ elim s [
                | inl a ↦ absurd (other_head _ vg_value (λ v. refl) (fires spin_rule a))
                | inr s ↦ elim s [
                  | inl a ↦ absurd (other_head _ vg_value (λ v. refl) (fires van_rule a))
                  | inr s ↦ elim s [
                    | inl a ↦ a
                    | inr s ↦ absurd s
                  ]
                ]
              ]
            ]
          ]
        ]
      ]
    ]
  ]
]

-- ---- calls

-- whether a call is open is tested
pub computed_by_test : (g : KoreSignature) (qs : List KorePattern) → list_all (λ q. not (is_open_call g q)) qs ≡ true → AllByRecursion (λ q. is_open_call g q ≡ true → (v : Valuation) → IsTrue (is_wide_value (instance g v q))) qs
computed_by_test g [] h = tt
computed_by_test g (q ∷ qs) h = ((λ e. absurd (closed (is_open_call g q) (first_true (not (is_open_call g q)) (list_all (λ q. not (is_open_call g q)) qs) h) e)), computed_by_test g qs (second_true (not (is_open_call g q)) (list_all (λ q. not (is_open_call g q)) qs) h))
  where
    closed : (b : Bool) → not b ≡ true → b ≡ true → ⊥
    closed true n e = false_true n
    closed false n e = false_true e

-- ---- names

-- variables of one sort
same_sort : (s : KoreSort) (x : SortedName) (ys : List SortedName) → x.sort ≡ s → AllByRecursion (λ y. y.sort ≡ s) ys → AllByRecursion (λ y. x.name ≡ y.name → x.sort ≡ y.sort) ys
same_sort s x [] e h = tt
same_sort s x (y ∷ ys) e h = ((λ _. e ∙ sym h.0), same_sort s x ys e h.1)

each_same_sort : (s : KoreSort) (xs ys : List SortedName) → AllByRecursion (λ x. x.sort ≡ s) xs → AllByRecursion (λ y. y.sort ≡ s) ys → AllByRecursion (λ x. AllByRecursion (λ y. x.name ≡ y.name → x.sort ≡ y.sort) ys) xs
each_same_sort s [] ys h k = tt
each_same_sort s (x ∷ xs) ys h k = (same_sort s x ys h.0 k, each_same_sort s xs ys h.1 k)

pub one_sort_by : (s : KoreSort) (xs : List SortedName) → AllByRecursion (λ x. x.sort ≡ s) xs → HaveOneSort xs
one_sort_by s xs h = each_same_sort s xs xs h h

-- the variables of a state and of a next state
abbrev pub spoken_of : KorePattern → NextState → List SortedName
spoken_of s n = free_variables s ++ (free_variables n.state ++ free_variables n.predicate)
