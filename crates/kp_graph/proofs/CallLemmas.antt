-- What is kept beside the nodes after each call.
use Rattle.std.proofs.Common.{◌≡◌, refl, sym, ◌∙◌, ap, ℕ, ◌+◌, ◌<◌, ◌≤◌, Bool, true, false, not, cond, ◌||◌, Option, Some, None, is_none, List, [], ◌∷◌, ◌++◌, length, set, get_or, arith}
use Rattle.std.specs.List.{AllByRecursion}
use Rattle.std.proofs.Math.Bool.{or-false}
use Rattle.std.proofs.lemmas.List.Sums.{sum_by-cons, sum_by-set}
use Rattle.std.proofs.lemmas.Option.{get_or_from_slice_get}
use Rattle.kp_graph.specs.Tree.{ProofNode, NodeArc, cover, HeldBy, is_failed, arc_fault, with_arc, with_hold, with_children}
use Rattle.kp_graph.specs.Kept.{before_open, some_failed, is_settled, unsettled}
use Rattle.kp_graph.specs.Growth.{IsNewBelow, IsGrowth}
use Rattle.kp_graph.proofs.Opened.{Opened, opened, changes}
use Rattle.kp_graph.proofs.KeptLemmas.{before_set, before_append, failed_set, failed_put, failed_append}

-- ---- the nodes before the first open one

pub before_with_arc : (tree : List ProofNode) (n : ℕ) (a : NodeArc) → arc_fault tree n ≡ None → before_open tree ≤ before_open (with_arc n a tree)
before_with_arc tree n a free =
    let o : Opened tree n = opened tree n free in
    rw (changes (λ x. record x { arc = Some a }) tree n o) (before_set tree o.place (record o.node { arc = Some a }) refl)

pub before_with_hold : (tree : List ProofNode) (n : ℕ) (why : HeldBy) → arc_fault tree n ≡ None → before_open tree ≤ before_open (with_hold n why tree)
before_with_hold tree n why free =
    let o : Opened tree n = opened tree n free in
    rw (changes (λ x. record x { held = Some why }) tree n o) (before_set tree o.place (record o.node { held = Some why }) (rw o.arc refl))

pub before_with_children : (tree : List ProofNode) (n : ℕ) (a : NodeArc) (zs : List ProofNode) → arc_fault tree n ≡ None → before_open tree ≤ before_open (with_children n a zs tree)
before_with_children tree n a zs free =
    let front : before_open tree ≤ before_open (with_arc n a tree) = before_with_arc tree n a free in
    let more : before_open (with_arc n a tree) ≤ before_open (with_children n a zs tree) = before_append (with_arc n a tree) zs in
    omega arith

-- ---- leaves that failed

not_failed : (a : Option NodeArc) → is_none a ≡ true → is_failed a ≡ false
not_failed None e = refl
not_failed (Some a) e = absurd (cc)

pub failed_with_arc : (tree : List ProofNode) (n : ℕ) (a : NodeArc) → arc_fault tree n ≡ None → some_failed (with_arc n a tree) ≡ (some_failed tree || is_failed (Some a))
failed_with_arc tree n a free = by_test (is_failed (Some a)) refl
  where
    o : Opened tree n
    o = opened tree n free

    or_true : (b : Bool) → true ≡ (b || true)
    or_true true = refl
    or_true false = refl

    by_test : (b : Bool) → is_failed (Some a) ≡ b → some_failed (with_arc n a tree) ≡ (some_failed tree || b)
    by_test true e = rw (changes (λ x. record x { arc = Some a }) tree n o) (failed_put tree o.place o.node (record o.node { arc = Some a }) o.at e ∙ or_true (some_failed tree))
    by_test false e = rw (changes (λ x. record x { arc = Some a }) tree n o) (failed_set tree o.place o.node (record o.node { arc = Some a }) o.at (e ∙ sym (not_failed o.node.arc o.arc)) ∙ sym (or-false (some_failed tree)))

pub failed_with_hold : (tree : List ProofNode) (n : ℕ) (why : HeldBy) → arc_fault tree n ≡ None → some_failed (with_hold n why tree) ≡ some_failed tree
failed_with_hold tree n why free =
    let o : Opened tree n = opened tree n free in
    rw (changes (λ x. record x { held = Some why }) tree n o) (failed_set tree o.place o.node (record o.node { held = Some why }) o.at refl)

-- new nodes haven't failed
none_failed : (n : ℕ) (zs : List ProofNode) → AllByRecursion (IsNewBelow n) zs → AllByRecursion (λ z. is_failed z.arc ≡ false) zs
none_failed n [] a = tt
none_failed n (z ∷ zs) a = (ap is_failed a.0.arc, none_failed n zs a.1)

pub failed_with_children : (tree : List ProofNode) (n : ℕ) (a : NodeArc) (zs : List ProofNode) → arc_fault tree n ≡ None → IsGrowth tree n a zs → some_failed (with_children n a zs tree) ≡ some_failed tree
failed_with_children tree n a zs free growth =
    failed_append (with_arc n a tree) zs (none_failed n zs growth.below)
    ∙ failed_with_arc tree n a free ∙ ap (λ b. some_failed tree || b) growth.safe ∙ or-false (some_failed tree)

-- ---- nodes that aren't settled

open_weight : (a : Option NodeArc) → is_none a ≡ true → ◌≡◌ {A = ℕ} (cond (not (is_settled a)) 1 0) 1
open_weight None e = refl
open_weight (Some a) e = absurd (cc)

count_set : (tree : List ProofNode) (n : ℕ) (o : Opened tree n) (y : ProofNode) → unsettled (set tree o.place y) + 1 ≡ unsettled tree + cond (not (is_settled y.arc)) 1 0
count_set tree n o y =
    let changed_sum = sum_by-set (λ x. cond (not (is_settled x.arc)) 1 0) tree o.place y o.node o.within in
    let node : get_or tree o.place o.node ≡ o.node = get_or_from_slice_get tree o.place o.node o.node o.at in
    let one : ◌≡◌ {A = ℕ} (cond (not (is_settled (get_or tree o.place o.node).arc)) 1 0) 1 = ap (λ x. cond (not (is_settled x.arc)) 1 0) node ∙ open_weight o.node.arc o.arc in
    ap (λ k. unsettled (set tree o.place y) + k) (sym one) ∙ changed_sum

pub count_with_arc : (tree : List ProofNode) (n : ℕ) (a : NodeArc) → arc_fault tree n ≡ None → unsettled (with_arc n a tree) + 1 ≡ unsettled tree + cond (not (is_settled (Some a))) 1 0
count_with_arc tree n a free =
    let o : Opened tree n = opened tree n free in
    rw (changes (λ x. record x { arc = Some a }) tree n o) (count_set tree n o (record o.node { arc = Some a }))

pub count_with_hold : (tree : List ProofNode) (n : ℕ) (why : HeldBy) → arc_fault tree n ≡ None → unsettled (with_hold n why tree) ≡ unsettled tree
count_with_hold tree n why free =
    let o : Opened tree n = opened tree n free in
    let one : ◌≡◌ {A = ℕ} (cond (not (is_settled o.node.arc)) 1 0) 1 = open_weight o.node.arc o.arc in
    let sum : unsettled (set tree o.place (record o.node { held = Some why })) + 1 ≡ unsettled tree + 1 = count_set tree n o (record o.node { held = Some why }) ∙ ap (λ k. unsettled tree + k) one in
    let same : unsettled (set tree o.place (record o.node { held = Some why })) ≡ unsettled tree = omega (arith, sum) in
    rw (changes (λ x. record x { held = Some why }) tree n o) same

pub count_append : (xs ys : List ProofNode) → unsettled (xs ++ ys) ≡ unsettled xs + unsettled ys
count_append [] ys = let none : unsettled [] ≡ 0 = refl in omega (arith, none)
count_append (x ∷ xs) ys =
    let left : unsettled (x ∷ (xs ++ ys)) ≡ cond (not (is_settled x.arc)) 1 0 + unsettled (xs ++ ys) = sum_by-cons (λ x. cond (not (is_settled x.arc)) 1 0) x (xs ++ ys) in
    let right : unsettled (x ∷ xs) ≡ cond (not (is_settled x.arc)) 1 0 + unsettled xs = sum_by-cons (λ x. cond (not (is_settled x.arc)) 1 0) x xs in
    omega (arith, left, right, count_append xs ys)

count_new : (n : ℕ) (zs : List ProofNode) → AllByRecursion (IsNewBelow n) zs → unsettled zs ≡ length zs
count_new n [] a = refl
count_new n (z ∷ zs) a =
    let left : unsettled (z ∷ zs) ≡ cond (not (is_settled z.arc)) 1 0 + unsettled zs = sum_by-cons (λ x. cond (not (is_settled x.arc)) 1 0) z zs in
    let one : ◌≡◌ {A = ℕ} (cond (not (is_settled z.arc)) 1 0) 1 = ap (λ v. cond (not (is_settled v)) 1 0) a.0.arc in
    omega (arith, left, one, count_new n zs a.1)

pub count_within : (tree : List ProofNode) → unsettled tree ≤ length tree
count_within [] = omega arith
count_within (x ∷ xs) =
    let left : unsettled (x ∷ xs) ≡ cond (not (is_settled x.arc)) 1 0 + unsettled xs = sum_by-cons (λ x. cond (not (is_settled x.arc)) 1 0) x xs in
    omega (arith, left, most (is_settled x.arc), count_within xs)
  where
    most : (b : Bool) → cond {A = ℕ} (not b) 1 0 ≤ 1
    most true = omega arith
    most false = omega arith

pub count_with_none : (tree : List ProofNode) (n : ℕ) (a : NodeArc) (zs : List ProofNode) → arc_fault tree n ≡ None → IsGrowth tree n a zs → length zs ≡ 0 → unsettled (with_children n a zs tree) ≡ unsettled tree
count_with_none tree n a zs free growth none =
    let sum : unsettled (with_arc n a tree) + 1 ≡ unsettled tree + cond (not (is_settled (Some a))) 1 0 = count_with_arc tree n a free in
    let one : ◌≡◌ {A = ℕ} (cond (not (is_settled (Some a))) 1 0) 1 = ap (λ b. cond (not b) 1 0) (growth.none none) in
    omega (arith, count_append (with_arc n a tree) zs, count_new n zs growth.below, none, sum, one)

pub count_with_some : (tree : List ProofNode) (n : ℕ) (a : NodeArc) (zs : List ProofNode) → arc_fault tree n ≡ None → IsGrowth tree n a zs → 0 < length zs → unsettled (with_children n a zs tree) + 1 ≡ unsettled tree + length zs
count_with_some tree n a zs free growth some =
    let sum : unsettled (with_arc n a tree) + 1 ≡ unsettled tree + cond (not (is_settled (Some a))) 1 0 = count_with_arc tree n a free in
    let none : ◌≡◌ {A = ℕ} (cond (not (is_settled (Some a))) 1 0) 0 = ap (λ b. cond (not b) 1 0) (growth.some some) in
    omega (arith, count_append (with_arc n a tree) zs, count_new n zs growth.below, sum, none)

-- an open node isn't settled
pub some_counted : (tree : List ProofNode) (n : ℕ) → arc_fault tree n ≡ None → 1 ≤ unsettled tree
some_counted tree n free = let sum : unsettled (with_arc n cover tree) + 1 ≡ unsettled tree + 0 = count_with_arc tree n cover free in omega (arith, sum)
