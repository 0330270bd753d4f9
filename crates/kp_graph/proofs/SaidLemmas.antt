-- What the arcs say stays said under each call.
use Rattle.std.proofs.Common.{◌≡◌, refl, sym, ◌∙◌, ap, subst, ℕ, zero, suc, ◌+◌, ◌<◌, ◌≤◌, Bool, true, false, ◌||◌, Option, Some, None, is_none, inl, inr, List, [], ◌∷◌, ◌++◌, map, length, slice_get, set, length-set, arith}
use Rattle.std.specs.List.{AllByRecursion}
use Rattle.std.specs.Option.{option_map_or}
use Rattle.std.proofs.lemmas.List.{append-nil}
use Rattle.std.proofs.lemmas.Option.{slice_get_within}
use Rattle.kp_kore.specs.Syntax.{Text, KorePattern}
use Rattle.kp_kore.specs.Theory.{Theory}
use Rattle.kp_kore.specs.Claims.{ReachabilityClaim}
use Rattle.kp_kore.specs.ClaimRules.{with_rules, is_progress, MayUse}
use Rattle.kp_kore.specs.Arcs.{EdgeSays, SplitSays, BranchChild, BranchSays, CoverSays, VacuousSays, StuckSays}
use Rattle.kp_graph.specs.Tree.{ProofNode, NodeArc, edge, split, branch, cover, vacuous, stuck, terminal, HeldBy, node_at, progress_at, arc_fault, first_nodes, open_node, child_node, numbers_from, with_arc, with_hold, with_children, with_edge, with_split, with_branch}
use Rattle.kp_graph.specs.Says.{IsBehind, Asked, ArePartsOf, AreBranchesOf, ArcSays, TreeSays}
use Rattle.kp_graph.proofs.Places.{at_place, get_front}
use Rattle.kp_graph.proofs.Opened as nodes
use Rattle.kp_graph.proofs.Opened.{Opened, opened, changes, get_set}
use Rattle.kp_graph.proofs.GrowLemmas.{get_behind, of_all, behind}

-- ---- trees that keep the states and the progress of their nodes

record Kin (tree : List ProofNode) (n : ℕ) (x : ProofNode) : Type 0 where
  node : ProofNode
  at : node_at tree n ≡ Some node
  state : node.state ≡ x.state
  progress : node.progress ≡ x.progress

Keeps : List ProofNode → List ProofNode → Type 0
Keeps tree more = (m : ℕ) (x : ProofNode) → node_at tree m ≡ Some x → Kin more m x

behind_on : (tree more : List ProofNode) → Keeps tree more → (n to : ℕ) (s : KorePattern) (b : Bool) → IsBehind tree n to s b → IsBehind more n to s b
unfolding Keeps
behind_on tree more kin n to s b h = let other : Kin more to h.node = kin to h.node h.at in
    record { node = other.node; at = other.at; behind = h.behind; state = other.state ∙ h.state; progress = other.progress ∙ h.progress }

parts_on : (tree more : List ProofNode) → Keeps tree more → (n : ℕ) (b : Bool) (tos : List ℕ) (states : List KorePattern) → ArePartsOf tree n b tos states → ArePartsOf more n b tos states
parts_on tree more kin n b [] [] h = tt
parts_on tree more kin n b [] (s ∷ ss) h = absurd h
parts_on tree more kin n b (m ∷ ms) [] h = absurd h
parts_on tree more kin n b (m ∷ ms) (s ∷ ss) h = (behind_on tree more kin n m s b h.0, parts_on tree more kin n b ms ss h.1)

branches_on : (tree more : List ProofNode) → Keeps tree more → (n : ℕ) (b : Bool) (tos : List ℕ) (children : List BranchChild) → AreBranchesOf tree n b tos children → AreBranchesOf more n b tos children
branches_on tree more kin n b [] [] h = tt
branches_on tree more kin n b [] (k ∷ ks) h = absurd h
branches_on tree more kin n b (m ∷ ms) [] h = absurd h
branches_on tree more kin n b (m ∷ ms) (k ∷ ks) h = (behind_on tree more kin n m k.state (b || is_progress k.rule) h.0, branches_on tree more kin n b ms ks h.1)

says_on : (t : Theory) (dependencies circularities : List ReachabilityClaim) (claim : ReachabilityClaim) (tree more : List ProofNode) → Keeps tree more → (n : ℕ) (x : ProofNode) (a : Option NodeArc) → ArcSays t dependencies circularities claim tree n x a → ArcSays t dependencies circularities claim more n x a
says_on t dependencies circularities claim tree more kin n x None says = says
says_on t dependencies circularities claim tree more kin n x (Some cover) says = says
says_on t dependencies circularities claim tree more kin n x (Some vacuous) says = says
says_on t dependencies circularities claim tree more kin n x (Some stuck) says = says
says_on t dependencies circularities claim tree more kin n x (Some terminal) says = says
says_on t dependencies circularities claim tree more kin n x (Some (edge d to f)) says = (says.0, says.1, behind_on tree more kin n to says.1 true says.2, says.3)
says_on t dependencies circularities claim tree more kin n x (Some (split tos)) says = (says.0, parts_on tree more kin n x.progress tos says.0 says.1, says.2)
says_on t dependencies circularities claim tree more kin n x (Some (branch rules tos)) says = (says.0, says.1, says.2, branches_on tree more kin n x.progress tos says.1 says.3, says.4)

-- ---- a tree with y in the place of an open node, and perhaps new nodes behind

record Changed (tree : List ProofNode) (n : ℕ) (o : Opened tree n) (y : ProofNode) (more : List ProofNode) : Type 0 where
  state : y.state ≡ o.node.state
  progress : y.progress ≡ o.node.progress
  front : (k : ℕ) → k < length tree → slice_get more k ≡ slice_get (set tree o.place y) k
  past : (k : ℕ) (w : ProofNode) → length tree ≤ k → slice_get more k ≡ Some w → w.arc ≡ None

keeps : (tree : List ProofNode) (n : ℕ) (o : Opened tree n) (y : ProofNode) (more : List ProofNode) → Changed tree n o y more → Keeps tree more
unfolding Keeps
keeps tree n o y more c zero x here = absurd (cc)
keeps tree n o y more c (suc k) x here = elim (get_set tree o.place k o.node y o.at) [
  | inl h ↦ (let both : Some x ≡ Some o.node = sym here ∙ ap (slice_get tree) h.0 ∙ o.at in let equal : o.node ≡ x = cc in
      record { node = y; at = c.front k (slice_get_within tree k x here) ∙ h.1; state = c.state ∙ ap (λ v. v.state) equal; progress = c.progress ∙ ap (λ v. v.progress) equal })
  | inr h ↦ record { node = x; at = c.front k (slice_get_within tree k x here) ∙ h ∙ here; state = refl; progress = refl }
]

says_changed : (t : Theory) (dependencies circularities : List ReachabilityClaim) (claim : ReachabilityClaim) (tree : List ProofNode) (n : ℕ) (o : Opened tree n) (y : ProofNode) (more : List ProofNode) → Changed tree n o y more → TreeSays t dependencies circularities claim tree → ArcSays t dependencies circularities claim more n y y.arc → TreeSays t dependencies circularities claim more
says_changed t dependencies circularities claim tree n o y more c said new = record { says = each }
  where
    each : (m : ℕ) (w : ProofNode) → node_at more m ≡ Some w → ArcSays t dependencies circularities claim more m w w.arc
    each zero w here = absurd (cc)
    each (suc k) w here = elim (nodes.split (length tree) k) [
      | inl l ↦ (let none : w.arc ≡ None = c.past k w l here in subst (ArcSays t dependencies circularities claim more (suc k) w) (sym none) tt)
      | inr l ↦ elim (get_set tree o.place k o.node y o.at) [
        | inl h ↦ (
            let both : Some y ≡ Some w = sym (c.front k l ∙ h.1) ∙ here in
            let equal : y ≡ w = cc in
            let number : o.place + 1 ≡ n = o.number in
            let same : n ≡ suc k = omega (arith, h.0, number) in
            subst (λ v. ArcSays t dependencies circularities claim more (suc k) v v.arc) equal (subst (λ j. ArcSays t dependencies circularities claim more j y y.arc) same new))
        | inr h ↦ says_on t dependencies circularities claim tree more (keeps tree n o y more c) (suc k) w w.arc (said.says (suc k) w (sym (c.front k l ∙ h) ∙ here))
      ]
    ]

-- new nodes behind
with_new : (tree : List ProofNode) (n : ℕ) (a : NodeArc) (zs : List ProofNode) (o : Opened tree n) → AllByRecursion (λ z. z.arc ≡ None) zs → Changed tree n o (record o.node { arc = Some a }) (set tree o.place (record o.node { arc = Some a }) ++ zs)
with_new tree n a zs o none = record { state = refl; progress = refl; front = λ k l. get_front (set tree o.place y) zs k (omega (arith, l, length-set tree o.place y)); past = λ k w l here. past k w l here }
  where
    y : ProofNode
    y = record o.node { arc = Some a }

    past : (k : ℕ) (w : ProofNode) → length tree ≤ k → slice_get (set tree o.place y ++ zs) k ≡ Some w → w.arc ≡ None
    past k w l here = let j : (j : ℕ) × (suc k ≡ suc (length tree + j)) = behind (length tree) (suc k) (omega (arith, l)) in
        of_all (λ z. z.arc ≡ None) zs j.0 w none (sym (get_behind (set tree o.place y) zs k j.0 (omega (arith, length-set tree o.place y, j.1))) ∙ here)

children_say : (t : Theory) (dependencies circularities : List ReachabilityClaim) (claim : ReachabilityClaim) (tree : List ProofNode) (n : ℕ) (a : NodeArc) (zs : List ProofNode) → TreeSays t dependencies circularities claim tree → arc_fault tree n ≡ None → AllByRecursion (λ z. z.arc ≡ None) zs →
    ((o : Opened tree n) → ArcSays t dependencies circularities claim (set tree o.place (record o.node { arc = Some a }) ++ zs) n (record o.node { arc = Some a }) (Some a)) → TreeSays t dependencies circularities claim (with_children n a zs tree)
children_say t dependencies circularities claim tree n a zs said free none new =
    let o : Opened tree n = opened tree n free in
    rw (changes (λ x. record x { arc = Some a }) tree n o) (says_changed t dependencies circularities claim tree n o (record o.node { arc = Some a }) (set tree o.place (record o.node { arc = Some a }) ++ zs) (with_new tree n a zs o none) said (new o))

-- ---- the calls

pub new_says : (t : Theory) (dependencies circularities : List ReachabilityClaim) (claim : ReachabilityClaim) → TreeSays t dependencies circularities claim (first_nodes claim.left)
new_says t dependencies circularities claim = record { says = each }
  where
    each : (n : ℕ) (w : ProofNode) → node_at (first_nodes claim.left) n ≡ Some w → ArcSays t dependencies circularities claim (first_nodes claim.left) n w w.arc
    each zero w here = absurd (cc)
    each (suc zero) w here =
        let none : None ≡ w.arc = cc in
        subst (ArcSays t dependencies circularities claim (first_nodes claim.left) 1 w) none tt
    each (suc (suc k)) w here = absurd (cc)

same_node : (tree : List ProofNode) (n : ℕ) (o : Opened tree n) (x : ProofNode) → node_at tree n ≡ Some x → x ≡ o.node
same_node tree n o x at =
    let both : Some x ≡ Some o.node = sym at ∙ at_place tree n o.place o.number ∙ o.at in
    cc

-- a leaf: what its arc says is said of the state alone
leaf_says : (t : Theory) (dependencies circularities : List ReachabilityClaim) (claim : ReachabilityClaim) (tree : List ProofNode) (n : ℕ) (x : ProofNode) (a : NodeArc) → TreeSays t dependencies circularities claim tree → arc_fault tree n ≡ None → node_at tree n ≡ Some x →
    ((more : List ProofNode) (y : ProofNode) → y.state ≡ x.state → ArcSays t dependencies circularities claim more n y (Some a)) → TreeSays t dependencies circularities claim (with_arc n a tree)
leaf_says t dependencies circularities claim tree n x a said free at says =
    let o : Opened tree n = opened tree n free in
    let y : ProofNode = record o.node { arc = Some a } in
    rw (changes (λ x. record x { arc = Some a }) tree n o) (says_changed t dependencies circularities claim tree n o y (set tree o.place y) (record { state = refl; progress = refl; front = λ k l. refl; past = λ k w l here. absurd (omega (arith, l, length-set tree o.place y, slice_get_within (set tree o.place y) k w here)) }) said
    (says (set tree o.place y) y (ap (λ v. v.state) (sym (same_node tree n o x at)))))

pub cover_says : (t : Theory) (dependencies circularities : List ReachabilityClaim) (claim : ReachabilityClaim) (tree : List ProofNode) (n : ℕ) (x : ProofNode) → TreeSays t dependencies circularities claim tree → arc_fault tree n ≡ None → node_at tree n ≡ Some x → CoverSays t claim x.state → TreeSays t dependencies circularities claim (with_arc n cover tree)
cover_says t dependencies circularities claim tree n x said free at says = leaf_says t dependencies circularities claim tree n x cover said free at (λ more y same. subst (CoverSays t claim) (sym same) says)

pub vacuous_says : (t : Theory) (dependencies circularities : List ReachabilityClaim) (claim : ReachabilityClaim) (tree : List ProofNode) (n : ℕ) (x : ProofNode) → TreeSays t dependencies circularities claim tree → arc_fault tree n ≡ None → node_at tree n ≡ Some x → VacuousSays t claim x.state → TreeSays t dependencies circularities claim (with_arc n vacuous tree)
vacuous_says t dependencies circularities claim tree n x said free at says = leaf_says t dependencies circularities claim tree n x vacuous said free at (λ more y same. subst (VacuousSays t claim) (sym same) says)

pub stuck_says : (t : Theory) (dependencies circularities : List ReachabilityClaim) (claim : ReachabilityClaim) (tree : List ProofNode) (n : ℕ) (x : ProofNode) → TreeSays t dependencies circularities claim tree → arc_fault tree n ≡ None → node_at tree n ≡ Some x → StuckSays t x.state → TreeSays t dependencies circularities claim (with_arc n stuck tree)
stuck_says t dependencies circularities claim tree n x said free at says = leaf_says t dependencies circularities claim tree n x stuck said free at (λ more y same. subst (StuckSays t) (sym same) says)

pub terminal_says : (t : Theory) (dependencies circularities : List ReachabilityClaim) (claim : ReachabilityClaim) (tree : List ProofNode) (n : ℕ) (x : ProofNode) → TreeSays t dependencies circularities claim tree → arc_fault tree n ≡ None → node_at tree n ≡ Some x → TreeSays t dependencies circularities claim (with_arc n terminal tree)
terminal_says t dependencies circularities claim tree n x said free at = leaf_says t dependencies circularities claim tree n x terminal said free at (λ more y same. tt)

pub hold_says : (t : Theory) (dependencies circularities : List ReachabilityClaim) (claim : ReachabilityClaim) (tree : List ProofNode) (n : ℕ) (why : HeldBy) → TreeSays t dependencies circularities claim tree → arc_fault tree n ≡ None → TreeSays t dependencies circularities claim (with_hold n why tree)
hold_says t dependencies circularities claim tree n why said free =
    let o : Opened tree n = opened tree n free in
    let y : ProofNode = record o.node { held = Some why } in
    let c : Changed tree n o y (set tree o.place y) = record { state = refl; progress = refl; front = λ k l. refl; past = λ k w l here. absurd (omega (arith, l, length-set tree o.place y, slice_get_within (set tree o.place y) k w here)) } in
    rw (changes (λ x. record x { held = Some why }) tree n o) (says_changed t dependencies circularities claim tree n o y (set tree o.place y) c said (without o.node.arc o.arc (set tree o.place y) y))
  where
    without : (a : Option NodeArc) → is_none a ≡ true → (more : List ProofNode) (y : ProofNode) → ArcSays t dependencies circularities claim more n y a
    without None e more y = tt
    without (Some a) e more y = absurd (cc)

-- ---- new nodes

new_parts : (L : List ProofNode) (n k : ℕ) (b : Bool) (f : KorePattern → ProofNode) → ((s : KorePattern) → ((f s).state ≡ s) × ((f s).progress ≡ b)) → n ≤ k → (states : List KorePattern) → ((j : ℕ) → slice_get L (k + j) ≡ slice_get (map f states) j) → ArePartsOf L n b (numbers_from (k + 1) (length states)) states
new_parts L n k b f is less [] at = tt
new_parts L n k b f is less (s ∷ ss) at = (
  record { node = f s; at = at_place L (k + 1) k refl ∙ ap (slice_get L) (plus_none k) ∙ at 0; behind = omega (arith, less); state = (is s).0; progress = (is s).1 },
  new_parts L n (k + 1) b f is (omega (arith, less)) ss (λ j. ap (slice_get L) (plus_one k j) ∙ at (suc j)),
)
  where
    plus_none : (k : ℕ) → k ≡ k + 0
    plus_none k = omega arith

    plus_one : (k j : ℕ) → k + 1 + j ≡ k + suc j
    plus_one k j = omega arith

new_branches : (L : List ProofNode) (n k : ℕ) (b : Bool) (f : BranchChild → ProofNode) → ((c : BranchChild) → ((f c).state ≡ c.state) × ((f c).progress ≡ (b || is_progress c.rule))) → n ≤ k → (children : List BranchChild) → ((j : ℕ) → slice_get L (k + j) ≡ slice_get (map f children) j) → AreBranchesOf L n b (numbers_from (k + 1) (length children)) children
new_branches L n k b f is less [] at = tt
new_branches L n k b f is less (c ∷ cs) at = (
  record { node = f c; at = at_place L (k + 1) k refl ∙ ap (slice_get L) (plus_none k) ∙ at 0; behind = omega (arith, less); state = (is c).0; progress = (is c).1 },
  new_branches L n (k + 1) b f is (omega (arith, less)) cs (λ j. ap (slice_get L) (plus_one k j) ∙ at (suc j)),
)
  where
    plus_none : (k : ℕ) → k ≡ k + 0
    plus_none k = omega arith

    plus_one : (k j : ℕ) → k + 1 + j ≡ k + suc j
    plus_one k j = omega arith

none_of_map : (X : Type 0) (f : X → ProofNode) → ((x : X) → (f x).arc ≡ None) → (xs : List X) → AllByRecursion (λ z. z.arc ≡ None) (map f xs)
none_of_map X f none [] = tt
none_of_map X f none (x ∷ xs) = (none x, none_of_map X f none xs)

-- the place and the progress of the open node
below_end : (tree : List ProofNode) (n : ℕ) (o : Opened tree n) → n ≤ length tree
below_end tree n o = let number : o.place + 1 ≡ n = o.number in let within : o.place < length tree = o.within in omega arith

opened_progress : (tree : List ProofNode) (n : ℕ) (o : Opened tree n) → progress_at tree n ≡ o.node.progress
opened_progress tree n o = ap (λ v. option_map_or (λ x. x.progress) v false) (at_place tree n o.place o.number ∙ o.at)

found_behind : (tree zs : List ProofNode) (i : ℕ) (y : ProofNode) (j : ℕ) → slice_get (set tree i y ++ zs) (length tree + j) ≡ slice_get zs j
found_behind tree zs i y j = get_behind (set tree i y) zs (length tree + j) j (omega (arith, length-set tree i y))

pub edge_says : (t : Theory) (dependencies circularities : List ReachabilityClaim) (claim : ReachabilityClaim) (tree : List ProofNode) (n d : ℕ) (x : ProofNode) (s : KorePattern) (flagged : Bool) → TreeSays t dependencies circularities claim tree → arc_fault tree n ≡ None → node_at tree n ≡ Some x → (asked : Asked dependencies circularities x.progress) → EdgeSays (with_rules t asked.rules) asked.listed x.state s d → TreeSays t dependencies circularities claim (with_edge n d s flagged tree)
edge_says t dependencies circularities claim tree n d x s flagged said free at asked says = children_say t dependencies circularities claim tree n arc (child_node n s flagged ∷ []) said free (refl, tt) (λ o. by_node o x (same_node tree n o x at) asked says)
  where
    arc : NodeArc
    arc = edge d (length tree + 1) flagged

    by_node : (o : Opened tree n) (x : ProofNode) → x ≡ o.node → (asked : Asked dependencies circularities x.progress) → EdgeSays (with_rules t asked.rules) asked.listed x.state s d → ArcSays t dependencies circularities claim (set tree o.place (record o.node { arc = Some arc }) ++ child_node n s flagged ∷ []) n (record o.node { arc = Some arc }) (Some arc)
    by_node o x e asked says = (
      record { rules = asked.rules; may = subst (λ w. MayUse dependencies circularities w.progress asked.rules) e asked.may; listed = asked.listed; all = asked.all },
      s,
      (new_parts (set tree o.place (record o.node { arc = Some arc }) ++ child_node n s flagged ∷ []) n (length tree) true (λ p. child_node n p flagged) (λ p. (refl, refl)) (below_end tree n o) (s ∷ []) (found_behind tree (child_node n s flagged ∷ []) o.place (record o.node { arc = Some arc }))).0,
      subst (λ w. EdgeSays (with_rules t asked.rules) asked.listed w.state s d) e says,
    )

pub split_says : (t : Theory) (dependencies circularities : List ReachabilityClaim) (claim : ReachabilityClaim) (tree : List ProofNode) (n : ℕ) (x : ProofNode) (states : List KorePattern) → TreeSays t dependencies circularities claim tree → arc_fault tree n ≡ None → node_at tree n ≡ Some x → SplitSays t x.state states → TreeSays t dependencies circularities claim (with_split n states tree)
split_says t dependencies circularities claim tree n x states said free at says = children_say t dependencies circularities claim tree n (split (numbers_from (length tree + 1) (length states))) (map (λ s. open_node n s false (progress_at tree n)) states) said free
    (none_of_map KorePattern (λ s. open_node n s false (progress_at tree n)) (λ s. refl) states)
    (λ o. (
      states,
      new_parts (set tree o.place (record o.node { arc = Some (split (numbers_from (length tree + 1) (length states))) }) ++ map (λ s. open_node n s false (progress_at tree n)) states) n (length tree) o.node.progress (λ s. open_node n s false (progress_at tree n)) (λ s. (refl, opened_progress tree n o)) (below_end tree n o) states
          (found_behind tree (map (λ s. open_node n s false (progress_at tree n)) states) o.place (record o.node { arc = Some (split (numbers_from (length tree + 1) (length states))) })),
      subst (λ w. SplitSays t w.state states) (same_node tree n o x at) says,
    ))

pub branch_says : (t : Theory) (dependencies circularities : List ReachabilityClaim) (claim : ReachabilityClaim) (tree : List ProofNode) (n : ℕ) (x : ProofNode) (children : List BranchChild) → TreeSays t dependencies circularities claim tree → arc_fault tree n ≡ None → node_at tree n ≡ Some x → (asked : Asked dependencies circularities x.progress) → BranchSays (with_rules t asked.rules) x.state children → TreeSays t dependencies circularities claim (with_branch n children tree)
branch_says t dependencies circularities claim tree n x children said free at asked says = children_say t dependencies circularities claim tree n arc zs said free
    (none_of_map BranchChild (λ k. open_node n k.state false (progress_at tree n || is_progress k.rule)) (λ k. refl) children)
    (λ o. by_node o x (same_node tree n o x at) asked says)
  where
    arc : NodeArc
    arc = branch (map (λ k. k.rule) children) (numbers_from (length tree + 1) (length children))

    zs : List ProofNode
    zs = map (λ k. open_node n k.state false (progress_at tree n || is_progress k.rule)) children

    by_node : (o : Opened tree n) (x : ProofNode) → x ≡ o.node → (asked : Asked dependencies circularities x.progress) → BranchSays (with_rules t asked.rules) x.state children → ArcSays t dependencies circularities claim (set tree o.place (record o.node { arc = Some arc }) ++ zs) n (record o.node { arc = Some arc }) (Some arc)
    by_node o x e asked says = let moved : (a : Asked dependencies circularities o.node.progress) × BranchSays (with_rules t a.rules) o.node.state children =
        (record { rules = asked.rules; may = subst (λ w. MayUse dependencies circularities w.progress asked.rules) e asked.may; listed = asked.listed; all = asked.all }, subst (λ w. BranchSays (with_rules t asked.rules) w.state children) e says) in (
          moved.0,
          children,
          refl,
          new_branches (set tree o.place (record o.node { arc = Some arc }) ++ zs) n (length tree) o.node.progress (λ k. open_node n k.state false (progress_at tree n || is_progress k.rule)) (λ k. (refl, ap (λ b. b || is_progress k.rule) (opened_progress tree n o))) (below_end tree n o) children
              (found_behind tree zs o.place (record o.node { arc = Some arc })),
          moved.1,
        )

-- ---- edges of the main theory

no_rules : (t : Theory) → with_rules t [] ≡ t
no_rules t = λ i. record { signature = t.signature; rules = append-nil t.rules i }

-- an edge that was asked without claims as rules
pub plain_edge_says : (t : Theory) (dependencies circularities : List ReachabilityClaim) (claim : ReachabilityClaim) (tree : List ProofNode) (n d : ℕ) (x : ProofNode) (listed : List Text) (s : KorePattern) (flagged : Bool) → TreeSays t dependencies circularities claim tree → arc_fault tree n ≡ None → node_at tree n ≡ Some x → EdgeSays t listed x.state s d → TreeSays t dependencies circularities claim (with_edge n d s flagged tree)
plain_edge_says t dependencies circularities claim tree n d x listed s flagged said free at says =
    edge_says t dependencies circularities claim tree n d x s flagged said free at (record { rules = []; may = inl refl; listed = listed; all = tt }) (subst (λ m. EdgeSays m listed x.state s d) (sym (no_rules t)) says)
