-- A part of a split isn't split again.
use Rattle.std.proofs.Common.{◌≡◌, refl, sym, ap, subst, ◌∙◌, ℕ, zero, suc, ◌+◌, ◌<◌, ◌≤◌, true, false, ◌||◌, List, [], ◌∷◌, ◌++◌, map, length, Option, Some, None, is_none, inl, inr, slice_get, set, append-nil, arith}
use Rattle.std.specs.Option.{option_map_or}
use Rattle.std.specs.List.{AllByRecursion}
use Rattle.std.proofs.lemmas.List.{length-set}
use Rattle.kp_kore.specs.Syntax.{KorePattern}
use Rattle.kp_kore.specs.ClaimRules.{is_progress}
use Rattle.kp_graph.specs.Tree as graph
use Rattle.kp_graph.specs.Tree.{ProofNode, NodeArc, IsTree, node_at, parent_of, is_child, leads_to, arc_fault, first_nodes, child_node, open_node, numbers_from, progress_at, with_arc}
use Rattle.kp_graph.proofs.Opened.{Opened, opened, changes, get_set, split}
use Rattle.kp_graph.proofs.Places.{get_front}
use Rattle.kp_graph.proofs.GrowLemmas.{get_behind, of_all}
use Rattle.kp_graph.proofs.ShapeLemmas.{same_parent, leads_none}
use Rattle.kp_rounds.specs.Jobs.{ProofJob}
use Rattle.kp_rounds.specs.Rounds.{is_split, is_part}
use Rattle.kp_round_laws.specs.Laws.{AreDividedOnce, PartsStayWhole}
use Rattle.kp_round_laws.proofs.RoundChanges.{ChangesKeep, proof_keeps}
use Rattle.kp_round_laws.proofs.TreesFrom.{IsFrom, each_keeps, from_start}

-- ---- a node without an arc is changed, and nodes without arcs come behind

-- what a node's parent was stays where it is
parent_stays : (tree : List ProofNode) (i : ℕ) (x y : ProofNode) (zs : List ProofNode) → IsTree tree → slice_get tree i ≡ Some x → is_none x.arc ≡ true → (p m : ℕ) → parent_of tree m ≡ Some p → m ≤ length tree → node_at (set tree i y ++ zs) p ≡ node_at tree p
parent_stays tree i x y zs shape at free zero m e l = refl
parent_stays tree i x y zs shape at free (suc k) m e l =
    let child : is_child tree (suc k) m ≡ true = shape.child (suc k) m e in
    let less : suc k < m = shape.earlier (suc k) m child in
    let long : length (set tree i y) ≡ length tree = length-set tree i y in
    let front : slice_get (set tree i y ++ zs) k ≡ slice_get (set tree i y) k = get_front (set tree i y) zs k (omega (arith, less, l, long)) in
    elim (get_set tree i k x y at) [
      | inl h ↦
          let there : slice_get tree k ≡ Some x = ap (slice_get tree) h.0 ∙ at in
          let none : is_child tree (suc k) m ≡ false = ap (λ o. option_map_or (λ z. leads_to m z.arc) o false) there ∙ leads_none m x.arc free in
          absurd (cc (sym none ∙ child))
      | inr h ↦ front ∙ h
    ]

part_stays : (tree : List ProofNode) (i : ℕ) (x y : ProofNode) (zs : List ProofNode) → IsTree tree → slice_get tree i ≡ Some x → is_none x.arc ≡ true → y.parent ≡ x.parent → (j : ℕ) → j < length tree → is_part (set tree i y ++ zs) (suc j) ≡ is_part tree (suc j)
part_stays tree i x y zs shape at free same j l = by_parent (parent_of tree (suc j)) refl
  where
    long : length (set tree i y) ≡ length tree
    long = length-set tree i y

    parents : parent_of (set tree i y ++ zs) (suc j) ≡ parent_of tree (suc j)
    parents = ap (λ o. option_map_or (λ z. z.parent) o None) (get_front (set tree i y) zs j (omega (arith, l, long))) ∙ same_parent tree i x y at same (suc j)

    by_parent : (q : Option ℕ) → parent_of tree (suc j) ≡ q → is_part (set tree i y ++ zs) (suc j) ≡ is_part tree (suc j)
    by_parent None e = ap (λ q. option_map_or (λ p. option_map_or (λ z. is_split z.arc) (node_at (set tree i y ++ zs) p) false) q false) (parents ∙ e) ∙ sym (ap (λ q. option_map_or (λ p. option_map_or (λ z. is_split z.arc) (node_at tree p) false) q false) e)
    by_parent (Some p) e = ap (λ q. option_map_or (λ p. option_map_or (λ z. is_split z.arc) (node_at (set tree i y ++ zs) p) false) q false) (parents ∙ e)
        ∙ ap (λ v. option_map_or (λ z. is_split z.arc) v false) (parent_stays tree i x y zs shape at free p (suc j) e (omega (arith, l)))
        ∙ sym (ap (λ q. option_map_or (λ p. option_map_or (λ z. is_split z.arc) (node_at tree p) false) q false) e)

behind : (i n : ℕ) → n ≤ i → (j : ℕ) × (i ≡ n + j)
behind i zero l = (i, omega arith)
behind zero (suc n) l = absurd (omega (arith, l))
behind (suc i) (suc n) l = let rest = behind i n (omega (arith, l)) in let is : i ≡ n + rest.0 = rest.1 in (rest.0, omega (arith, is))

one_node : (x y : ProofNode) → Some x ≡ Some y → x ≡ y
one_node x y e = cc e

kept : (tree : List ProofNode) (i : ℕ) (x y : ProofNode) (zs : List ProofNode) → IsTree tree → AreDividedOnce tree → slice_get tree i ≡ Some x → is_none x.arc ≡ true → y.parent ≡ x.parent → (is_part tree (suc i) ≡ true → is_split y.arc ≡ false) → AllByRecursion (λ z. z.arc ≡ None) zs →
    AreDividedOnce (set tree i y ++ zs)
kept tree i x y zs shape once at free same new none zero w there part = absurd (cc there)
kept tree i x y zs shape once at free same new none (suc j) w there part = elim (split (length tree) j) [
  | inl l ↦
      let b = behind j (length tree) l in
      let place : j ≡ length tree + b.0 = b.1 in
      let long : length (set tree i y) ≡ length tree = length-set tree i y in
      let number : j ≡ length (set tree i y) + b.0 = omega (arith, place, long) in
      ap is_split (of_all (λ z. z.arc ≡ None) zs b.0 w none (sym (get_behind (set tree i y) zs j b.0 number) ∙ there))
  | inr l ↦
      let long : length (set tree i y) ≡ length tree = length-set tree i y in
      let front : slice_get (set tree i y) j ≡ Some w = sym (get_front (set tree i y) zs j (omega (arith, l, long))) ∙ there in
      let was : is_part tree (suc j) ≡ true = sym (part_stays tree i x y zs shape at free same j l) ∙ part in
      elim (get_set tree i j x y at) [
        | inl h ↦ let here : y ≡ w = one_node y w (sym h.1 ∙ front) in subst (λ z. is_split z.arc ≡ false) here (new (subst (λ k. is_part tree (suc k) ≡ true) h.0 was))
        | inr h ↦ once (suc j) w (sym h ∙ front) was
      ]
]

-- ---- the changes of a round

arc_keeps : (tree : List ProofNode) (n : ℕ) (a : NodeArc) (zs : List ProofNode) → IsTree tree → AreDividedOnce tree → arc_fault tree n ≡ None → (is_part tree n ≡ true → is_split (Some a) ≡ false) → AllByRecursion (λ z. z.arc ≡ None) zs → AreDividedOnce (with_arc n a tree ++ zs)
arc_keeps tree n a zs shape once free new none =
    let o : Opened tree n = opened tree n free in
    let at : o.place + 1 ≡ n = o.number in
    let number : suc o.place ≡ n = omega (arith, at) in
    subst (λ nodes. AreDividedOnce (nodes ++ zs)) (sym (changes (λ x. record x { arc = Some a }) tree n o))
    (kept tree o.place o.node (record o.node { arc = Some a }) zs shape once o.at o.arc refl (λ part. new (subst (λ k. is_part tree k ≡ true) number part)) none)

unsplit : (a : Option NodeArc) → is_none a ≡ true → is_split a ≡ false
unsplit None e = refl
unsplit (Some a) e = absurd (cc e)

hold_keeps : (tree : List ProofNode) (n : ℕ) (why : graph.HeldBy) → IsTree tree → AreDividedOnce tree → arc_fault tree n ≡ None → AreDividedOnce (graph.with_hold n why tree)
hold_keeps tree n why shape once free =
    let o : Opened tree n = opened tree n free in
    subst AreDividedOnce (append-nil (set tree o.place (record o.node { held = Some why })) ∙ sym (changes (λ x. record x { held = Some why }) tree n o))
    (kept tree o.place o.node (record o.node { held = Some why }) [] shape once o.at o.arc refl (λ part. unsplit o.node.arc o.arc) tt)

none_all : {X : Type 0} (f : X → ProofNode) → ((x : X) → (f x).arc ≡ None) → (xs : List X) → AllByRecursion (λ z. z.arc ≡ None) (map f xs)
none_all f is [] = tt
none_all f is (x ∷ xs) = (is x, none_all f is xs)

-- a split is made of no part
abbrev IsOnce : KorePattern → List ProofNode → Type 0
IsOnce s tree = IsFrom s tree × AreDividedOnce tree

changes_keep : (s : KorePattern) (tree : List ProofNode) (n : ℕ) → IsOnce s tree → arc_fault tree n ≡ None → ChangesKeep (IsOnce s) tree n
changes_keep s tree n h free =
    let from : ChangesKeep (IsFrom s) tree n = each_keeps s tree n h.0 free in
    record {
      leaf = λ a is. (from.leaf a is, subst AreDividedOnce (append-nil (with_arc n a tree)) (arc_keeps tree n a [] h.0.shape h.1 free (λ part. is.whole) tt));
      hold = λ why. (from.hold why, hold_keeps tree n why h.0.shape h.1 free);
      edge = λ d t flagged. (from.edge d t flagged, arc_keeps tree n (graph.edge d (length tree + 1) flagged) (child_node n t flagged ∷ []) h.0.shape h.1 free (λ part. refl) (refl, tt));
      split = λ states whole. (
        from.split states whole,
        arc_keeps tree n (graph.split (numbers_from (length tree + 1) (length states))) (map (λ t. open_node n t false (progress_at tree n)) states) h.0.shape h.1 free
            (λ part. absurd (cc (sym whole ∙ part))) (none_all (λ t. open_node n t false (progress_at tree n)) (λ t. refl) states),
      );
      branch = λ children. (
        from.branch children,
        arc_keeps tree n (graph.branch (map (λ k. k.rule) children) (numbers_from (length tree + 1) (length children))) (map (λ k. open_node n k.state false (graph.progress_at tree n || is_progress k.rule)) children) h.0.shape h.1 free
            (λ part. refl) (none_all (λ k. open_node n k.state false (graph.progress_at tree n || is_progress k.rule)) (λ k. refl) children),
      );
    }

first_once : (s : KorePattern) → AreDividedOnce (first_nodes s)
first_once s zero x there part = absurd (cc there)
first_once s (suc zero) x there part = absurd (cc part)
first_once s (suc (suc j)) x there part = absurd (cc there)

pub parts_stay_whole : (job : ProofJob) → PartsStayWhole job
parts_stay_whole job es tree outcome proves =
    (proof_keeps (IsOnce job.claim.claim.left) (λ before n h free. changes_keep job.claim.claim.left before n h free) job es tree outcome (from_start job.claim.claim.left, first_once job.claim.claim.left) proves).1
