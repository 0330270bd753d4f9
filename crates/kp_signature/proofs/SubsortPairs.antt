-- What the attribute subsort{A,B}() marks, by the numbers of its sorts and arguments; and the pairs of more attributes.
use Rattle.std.proofs.Common.{◌≡◌, refl, sym, ap, ◌∙◌, ℕ, ◌+◌, ◌<◌, true, false, cond, List, [], ◌∷◌, ◌++◌, map, length, take, get_or, Option, Some, None, codes}
use Rattle.std.proofs.lemmas.List.{map_more, append_assoc}
use Rattle.std.specs.Str.{bytes_eq}
use Rattle.kp_kore.specs.Syntax.{Text, KoreSort, KorePattern, application, next_pattern, no_patterns}
use Rattle.kp_kore.specs.Attributes.{marked_sorts}
use Rattle.kp_kore.specs.Signature.{subsorts_among}
use Rattle.kp_kore.specs.declared.sort.Sort.{Sort}
use Rattle.kp_kore.specs.declared.pattern.Pattern.{Pattern}
use Rattle.kp_kore.specs.View.{sort_view, view, sorts_view, patterns_of, patterns_view}

pub other_name : (name n : Text) (ss : List Sort) (ps : List Pattern) → bytes_eq n name ≡ false → marked_sorts name (application n (sorts_view ss) (patterns_view ps)) ≡ None
other_name name n [] ps h = refl
other_name name n (a ∷ []) ps h = refl
other_name name n (a ∷ b ∷ []) [] h = ap (λ t. cond t (Some (sort_view a, sort_view b)) None) h
other_name name n (a ∷ b ∷ []) (p ∷ ps) h = refl
other_name name n (a ∷ b ∷ s ∷ ss) ps h = refl

pub other_sorts : (name n : Text) (ss : List Sort) (ps : List Pattern) → (length ss ≡ 2 → ⊥) → marked_sorts name (application n (sorts_view ss) (patterns_view ps)) ≡ None
other_sorts name n [] ps h = refl
other_sorts name n (a ∷ []) ps h = refl
other_sorts name n (a ∷ b ∷ []) ps h = absurd (h refl)
other_sorts name n (a ∷ b ∷ s ∷ ss) ps h = refl

pub other_arguments : (name n : Text) (ss : List Sort) (ps : List Pattern) → (length ps ≡ 0 → ⊥) → marked_sorts name (application n (sorts_view ss) (patterns_view ps)) ≡ None
other_arguments name n ss [] h = absurd (h refl)
other_arguments name n [] (p ∷ ps) h = refl
other_arguments name n (a ∷ []) (p ∷ ps) h = refl
other_arguments name n (a ∷ b ∷ []) (p ∷ ps) h = refl
other_arguments name n (a ∷ b ∷ s ∷ ss) (p ∷ ps) h = refl

pub two_sorts : (name n : Text) (ss : List Sort) (ps : List Pattern) (a b : Sort) → bytes_eq n name ≡ true → length ss ≡ 2 → length ps ≡ 0 → a ≡ get_or ss 0 a → b ≡ get_or ss 1 b →
    Some (sort_view a, sort_view b) ≡ marked_sorts name (application n (sorts_view ss) (patterns_view ps))
two_sorts name n [] ps a b h e k p q = absurd (cc)
two_sorts name n (x ∷ []) ps a b h e k p q = absurd (cc)
two_sorts name n (x ∷ y ∷ []) (r ∷ rs) a b h e k p q = absurd (cc)
two_sorts name n (x ∷ y ∷ z ∷ zs) ps a b h e k p q = absurd (cc)
two_sorts name n (x ∷ y ∷ []) [] a b h e k p q =
    ap (λ s. Some (sort_view s, sort_view b)) p ∙ ap (λ s. Some (sort_view x, sort_view s)) q ∙ sym (ap (λ t. cond t (Some (sort_view x, sort_view y)) None) h)

among_append : (ps qs : List KorePattern) → subsorts_among (patterns_of (ps ++ qs)) ≡ subsorts_among (patterns_of ps) ++ subsorts_among (patterns_of qs)
among_append [] qs = refl
among_append (p ∷ ps) qs = by (marked_sorts (codes "subsort") p) (among_append ps qs)
  where
    with_it : Option (KoreSort × KoreSort) → List (KoreSort × KoreSort) → List (KoreSort × KoreSort)
    with_it (Some pair) more = pair ∷ more
    with_it None more = more

    by : (o : Option (KoreSort × KoreSort)) → subsorts_among (patterns_of (ps ++ qs)) ≡ subsorts_among (patterns_of ps) ++ subsorts_among (patterns_of qs) → with_it o (subsorts_among (patterns_of (ps ++ qs))) ≡ with_it o (subsorts_among (patterns_of ps)) ++ subsorts_among (patterns_of qs)
    by (Some pair) rest = ap (λ l. pair ∷ l) rest
    by None rest = rest

-- once the attribute at i is read too
pub pairs_more : (ps : List Pattern) (i : ℕ) (p : Pattern) (before now start : List (KoreSort × KoreSort)) →
    i < length ps → p ≡ get_or ps i p → before ≡ start ++ subsorts_among (patterns_view (take i ps)) → now ≡ before ++ subsorts_among (next_pattern (view p) no_patterns) →
    now ≡ start ++ subsorts_among (patterns_view (take (i + 1) ps))
pairs_more ps i p before now start h is e f =
    f ∙ ap (λ l. l ++ subsorts_among (next_pattern (view p) no_patterns)) e
    ∙ append_assoc start (subsorts_among (patterns_view (take i ps))) (subsorts_among (next_pattern (view p) no_patterns))
    ∙ ap (λ l. start ++ l) (sym split)
  where
    split : subsorts_among (patterns_view (take (i + 1) ps)) ≡ subsorts_among (patterns_view (take i ps)) ++ subsorts_among (next_pattern (view p) no_patterns)
    split = ap (λ l. subsorts_among (patterns_of l)) (map_more view ps i p h)
        ∙ among_append (map view (take i ps)) (view (get_or ps i p) ∷ [])
        ∙ ap (λ q. subsorts_among (patterns_view (take i ps)) ++ subsorts_among (next_pattern (view q) no_patterns)) (sym is)
