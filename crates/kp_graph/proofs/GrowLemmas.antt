-- An arc to new last nodes keeps the shape of a tree.
use Rattle.std.proofs.Common.{◌≡◌, refl, sym, ◌∙◌, ap, subst, ℕ, zero, suc, ◌+◌, ◌<◌, ◌≤◌, Bool, true, false, ◌||◌, Option, Some, None, is_some, is_none, ◌⊎◌, inl, inr, List, [], ◌∷◌, ◌++◌, length, slice_get, set, length-set, length-append, arith}
use Rattle.std.specs.Option.{option_map_or}
use Rattle.std.specs.List.{AllByRecursion, list_all}
use Rattle.std.proofs.lemmas.Option.{slice_get_within}
use Rattle.std.proofs.lemmas.List.Folds.{list_all-append}
use Rattle.kp_graph.specs.Tree.{ProofNode, NodeArc, node_at, progress_at, progresses, gives_progress, parent_of, leads_to, is_child, IsTree, arc_fault, with_children}
use Rattle.kp_graph.specs.Growth.{IsNewBelow, IsGrowth}
use Rattle.kp_graph.proofs.Places.{get_front, same_look}
use Rattle.kp_graph.proofs.Opened.{Opened, opened, changes, split, get_set, get_placed}
use Rattle.kp_graph.proofs.ShapeLemmas.{is_plain, list_all_set, leads_none}

-- ---- look-ups in a longer list

pub get_behind : (xs ys : List ProofNode) (k j : ℕ) → k ≡ length xs + j → slice_get (xs ++ ys) k ≡ slice_get ys j
get_behind [] ys k j e = let same : k ≡ j = omega (arith, e) in ap (slice_get ys) same
get_behind (x ∷ xs) ys zero j e = absurd (omega (arith, e))
get_behind (x ∷ xs) ys (suc k) j e = get_behind xs ys k j (omega (arith, e))

pub some_at : (xs : List ProofNode) (j : ℕ) → j < length xs → (x : ProofNode) × (slice_get xs j ≡ Some x)
some_at [] j l = absurd (omega (arith, l))
some_at (x ∷ xs) zero l = (x, refl)
some_at (x ∷ xs) (suc j) l = some_at xs j (omega (arith, l))

pub of_all : (P : ProofNode → Type 0) (xs : List ProofNode) (j : ℕ) (x : ProofNode) → AllByRecursion P xs → slice_get xs j ≡ Some x → P x
of_all P [] j x a e = absurd (cc)
of_all P (y ∷ ys) zero x a e = let same : y ≡ x = cc in subst P same a.0
of_all P (y ∷ ys) (suc j) x a e = of_all P ys j x a.1 e

-- how far behind a number is
pub behind : (l m : ℕ) → l < m → (j : ℕ) × (m ≡ suc (l + j))
behind zero zero h = absurd (omega (arith, h))
behind zero (suc m) h = (m, omega arith)
behind (suc l) zero h = absurd (omega (arith, h))
behind (suc l) (suc m) h = let rest : (j : ℕ) × (m ≡ suc (l + j)) = behind l m (omega (arith, h)) in (rest.0, omega (arith, rest.1))

-- ---- a tree, an open node's place, what it becomes, and the nodes added below it

pub record Grown (tree : List ProofNode) (n : ℕ) (a : NodeArc) (y : ProofNode) (zs : List ProofNode) : Type 0 where
  pub shape : IsTree tree
  pub open_node : Opened tree n
  pub arc : y.arc ≡ Some a
  pub parent : y.parent ≡ open_node.node.parent
  pub progress : y.progress ≡ open_node.node.progress
  pub plain : is_plain y ≡ true
  pub growth : IsGrowth tree n a zs

abbrev pub grown : List ProofNode → ℕ → ProofNode → List ProofNode → List ProofNode
grown tree i y zs = set tree i y ++ zs

long : (tree : List ProofNode) (i : ℕ) (y : ProofNode) (zs : List ProofNode) → length (grown tree i y zs) ≡ length tree + length zs
long tree i y zs = length-append (set tree i y) zs ∙ ap (λ k. k + length zs) (length-set tree i y)

-- what is seen of a node that stood there before, where the new one in its place looks the same
old_look : (A : Type 0) (f : ProofNode → A) (d : A) (tree : List ProofNode) (i : ℕ) (x y : ProofNode) (zs : List ProofNode) → slice_get tree i ≡ Some x → f y ≡ f x → (m : ℕ) → m ≤ length tree → option_map_or f (node_at (grown tree i y zs) m) d ≡ option_map_or f (node_at tree m) d
old_look A f d tree i x y zs at e zero l = refl
old_look A f d tree i x y zs at e (suc k) l =
    ap (λ o. option_map_or f o d) (get_front (set tree i y) zs k (omega (arith, length-set tree i y, l))) ∙ same_look A f d tree i k x y at e

-- a new node
new_node : (tree : List ProofNode) (i : ℕ) (y : ProofNode) (zs : List ProofNode) (m j : ℕ) → m ≡ suc (length tree + j) → node_at (grown tree i y zs) m ≡ slice_get zs j
new_node tree i y zs zero j e = absurd (omega (arith, e))
new_node tree i y zs (suc k) j e = get_behind (set tree i y) zs k j (omega (arith, length-set tree i y, e))

record New (tree : List ProofNode) (n : ℕ) (a : NodeArc) (y : ProofNode) (zs : List ProofNode) (i m : ℕ) : Type 0 where
  node : ProofNode
  at : node_at (grown tree i y zs) m ≡ Some node
  below : IsNewBelow n node
  progress : node.progress ≡ (progress_at tree n || gives_progress m (Some a))

new_at : (tree : List ProofNode) (n : ℕ) (a : NodeArc) (y : ProofNode) (zs : List ProofNode) (i : ℕ) → IsGrowth tree n a zs → (m : ℕ) → length tree < m → m ≤ length tree + length zs → New tree n a y zs i m
new_at tree n a y zs i growth m less most =
    let j : (j : ℕ) × (m ≡ suc (length tree + j)) = behind (length tree) m less in
    let z : (x : ProofNode) × (slice_get zs j.0 ≡ Some x) = some_at zs j.0 (omega (arith, j.1, most)) in
    let number : length tree + suc j.0 ≡ m = omega (arith, j.1) in
    record {
      node = z.0;
      at = new_node tree i y zs m j.0 j.1 ∙ z.1;
      below = of_all (IsNewBelow n) zs j.0 z.0 growth.below z.1;
      progress = growth.progress (suc j.0) z.0 z.1 ∙ ap (λ k. progress_at tree n || gives_progress k (Some a)) number;
    }

-- what stands behind the last node before is new
behind_is_new : (tree : List ProofNode) (n : ℕ) (a : NodeArc) (y : ProofNode) (zs : List ProofNode) (i k : ℕ) (w : ProofNode) → IsGrowth tree n a zs → length tree ≤ k → slice_get (grown tree i y zs) k ≡ Some w → IsNewBelow n w
behind_is_new tree n a y zs i k w growth l at =
    let j : (j : ℕ) × (suc k ≡ suc (length tree + j)) = behind (length tree) (suc k) (omega (arith, l)) in
    of_all (IsNewBelow n) zs j.0 w growth.below (sym (get_behind (set tree i y) zs k j.0 (omega (arith, length-set tree i y, j.1))) ∙ at)

-- ---- parents

-- behind the last no node has a parent
past_parent : (tree : List ProofNode) (m p : ℕ) → parent_of tree m ≡ Some p → m ≤ length tree
past_parent tree zero p e = omega arith
past_parent tree (suc k) p e = by_node (slice_get tree k) refl e
  where
    by_node : (o : Option ProofNode) → slice_get tree k ≡ o → option_map_or (λ x. x.parent) o None ≡ Some p → suc k ≤ length tree
    by_node None at e = absurd (cc)
    by_node (Some x) at e = let within : k < length tree = slice_get_within tree k x at in omega arith

-- ---- children

IsNew : List ProofNode → List ProofNode → ℕ → Type 0
IsNew tree zs m = (length tree < m) × (m ≤ length tree + length zs)

child_cases : (tree : List ProofNode) (n : ℕ) (a : NodeArc) (y : ProofNode) (zs : List ProofNode) (g : Grown tree n a y zs) (p m : ℕ) → is_child (grown tree g.open_node.place y zs) p m ≡ true → ((p ≡ n) × IsNew tree zs m) ⊎ (is_child tree p m ≡ true)
unfolding IsNew
child_cases tree n a y zs g zero m e = absurd (cc)
child_cases tree n a y zs g (suc k) m e = elim (split (length tree) k) [
  | inl l ↦ past (slice_get (grown tree g.open_node.place y zs) k) refl l e
  | inr l ↦ among l (get_set tree g.open_node.place k g.open_node.node y g.open_node.at)
]
  where
    past : (o : Option ProofNode) → slice_get (grown tree g.open_node.place y zs) k ≡ o → length tree ≤ k → option_map_or (λ x. leads_to m x.arc) o false ≡ true → ((suc k ≡ n) × IsNew tree zs m) ⊎ (is_child tree (suc k) m ≡ true)
    past None at l f = absurd (cc)
    past (Some w) at l f =
        let none : w.arc ≡ None = (behind_is_new tree n a y zs g.open_node.place k w g.growth l at).arc in
        let no : false ≡ true = rw none at f in
        absurd (cc)

    among : k < length tree → ((k ≡ g.open_node.place) × (slice_get (set tree g.open_node.place y) k ≡ Some y)) ⊎ (slice_get (set tree g.open_node.place y) k ≡ slice_get tree k) → ((suc k ≡ n) × IsNew tree zs m) ⊎ (is_child tree (suc k) m ≡ true)
    among l (inl h) =
        let at : slice_get (grown tree g.open_node.place y zs) k ≡ Some y = get_front (set tree g.open_node.place y) zs k (omega (arith, l, length-set tree g.open_node.place y)) ∙ h.1 in
        let leads : leads_to m y.arc ≡ true = sym (ap (λ o. option_map_or (λ x. leads_to m x.arc) o false) at) ∙ e in
        let number : g.open_node.place + 1 ≡ n = g.open_node.number in
        inl (omega (arith, h.0, number), g.growth.only m (sym (ap (leads_to m) g.arc) ∙ leads))
    among l (inr h) =
        let at : slice_get (grown tree g.open_node.place y zs) k ≡ slice_get tree k = get_front (set tree g.open_node.place y) zs k (omega (arith, l, length-set tree g.open_node.place y)) ∙ h in
        inr (sym (ap (λ o. option_map_or (λ x. leads_to m x.arc) o false) at) ∙ e)

-- the node that was given the arc
given_at : (tree : List ProofNode) (n : ℕ) (a : NodeArc) (y : ProofNode) (zs : List ProofNode) (g : Grown tree n a y zs) → node_at (grown tree g.open_node.place y zs) n ≡ Some y
given_at tree zero a y zs g = let number : g.open_node.place + 1 ≡ 0 = g.open_node.number in absurd (omega arith)
given_at tree (suc k) a y zs g =
    let number : g.open_node.place + 1 ≡ suc k = g.open_node.number in
    let place : k ≡ g.open_node.place = omega arith in
    let within : g.open_node.place < length tree = g.open_node.within in
    get_front (set tree g.open_node.place y) zs k (omega (arith, length-set tree g.open_node.place y)) ∙ ap (slice_get (set tree g.open_node.place y)) place ∙ get_placed tree g.open_node.place g.open_node.node y g.open_node.at

new_child : (tree : List ProofNode) (n : ℕ) (a : NodeArc) (y : ProofNode) (zs : List ProofNode) (g : Grown tree n a y zs) (m : ℕ) → length tree < m → m ≤ length tree + length zs → is_child (grown tree g.open_node.place y zs) n m ≡ true
new_child tree n a y zs g m less most = ap (λ o. option_map_or (λ x. leads_to m x.arc) o false) (given_at tree n a y zs g) ∙ ap (leads_to m) g.arc ∙ g.growth.leads m less most

-- a node that leads to another stays as it is
stays : (tree : List ProofNode) (n : ℕ) (a : NodeArc) (y : ProofNode) (zs : List ProofNode) (g : Grown tree n a y zs) (p m : ℕ) → is_child tree p m ≡ true → node_at (grown tree g.open_node.place y zs) p ≡ node_at tree p
stays tree n a y zs g zero m e = refl
stays tree n a y zs g (suc k) m e = by_node (slice_get tree k) refl e
  where
    among : (x : ProofNode) → slice_get tree k ≡ Some x → leads_to m x.arc ≡ true → ((k ≡ g.open_node.place) × (slice_get (set tree g.open_node.place y) k ≡ Some y)) ⊎ (slice_get (set tree g.open_node.place y) k ≡ slice_get tree k) → slice_get (grown tree g.open_node.place y zs) k ≡ slice_get tree k
    among x at f (inl h) =
        let both : Some x ≡ Some g.open_node.node = sym at ∙ ap (slice_get tree) h.0 ∙ g.open_node.at in
        let same : x ≡ g.open_node.node = cc in
        let no : leads_to m x.arc ≡ false = leads_none m x.arc (ap (λ w. is_none w.arc) same ∙ g.open_node.arc) in
        let never : false ≡ true = sym no ∙ f in
        absurd (cc)
    among x at f (inr h) =
        let within : k < length tree = slice_get_within tree k x at in
        get_front (set tree g.open_node.place y) zs k (omega (arith, within, length-set tree g.open_node.place y)) ∙ h

    by_node : (o : Option ProofNode) → slice_get tree k ≡ o → option_map_or (λ x. leads_to m x.arc) o false ≡ true → slice_get (grown tree g.open_node.place y zs) k ≡ slice_get tree k
    by_node None at f = absurd (cc)
    by_node (Some x) at f = among x at f (get_set tree g.open_node.place k g.open_node.node y g.open_node.at)

-- ---- the shape

parent_cases : (tree : List ProofNode) (n : ℕ) (a : NodeArc) (y : ProofNode) (zs : List ProofNode) (g : Grown tree n a y zs) (m p : ℕ) → parent_of (grown tree g.open_node.place y zs) m ≡ Some p → ((p ≡ n) × IsNew tree zs m) ⊎ ((m ≤ length tree) × (parent_of tree m ≡ Some p))
unfolding IsNew
parent_cases tree n a y zs g m p e = elim (split m (length tree)) [
  | inl l ↦ inr (l, sym (old_look (Option ℕ) (λ x. x.parent) None tree g.open_node.place g.open_node.node y zs g.open_node.at g.parent m l) ∙ e)
  | inr l ↦ inl (parent l, (l, most))
]
  where
    most : m ≤ length tree + length zs
    most =
        let within : m ≤ length (grown tree g.open_node.place y zs) = past_parent (grown tree g.open_node.place y zs) m p e in
        omega (arith, long tree g.open_node.place y zs, within)

    parent : length tree < m → p ≡ n
    parent l =
        let new : New tree n a y zs g.open_node.place m = new_at tree n a y zs g.open_node.place g.growth m l most in
        let both : Some p ≡ Some n = sym e ∙ ap (λ o. option_map_or (λ x. x.parent) o None) new.at ∙ new.below.parent in
        cc

new_plain : (n : ℕ) (zs : List ProofNode) → AllByRecursion (IsNewBelow n) zs → list_all is_plain zs ≡ true
new_plain n [] a = refl
new_plain n (z ∷ zs) a = rw (a.0.arc, new_plain n zs a.1) refl

shape_grown : (tree : List ProofNode) (n : ℕ) (a : NodeArc) (y : ProofNode) (zs : List ProofNode) (g : Grown tree n a y zs) → IsTree (grown tree g.open_node.place y zs)
unfolding IsNew
shape_grown tree n a y zs g = record {
  some = omega (arith, long tree g.open_node.place y zs, g.shape.some);
  first = old_look (Option ℕ) (λ x. x.parent) None tree g.open_node.place g.open_node.node y zs g.open_node.at g.parent 1 (omega (arith, g.shape.some)) ∙ g.shape.first;
  others = λ m above within. others m above within (split m (length tree));
  child = λ p m e. child p m (parent_cases tree n a y zs g m p e);
  parent = λ p m e. parent p m (child_cases tree n a y zs g p m e);
  earlier = λ p m e. earlier p m (child_cases tree n a y zs g p m e);
  held = list_all-append is_plain (set tree g.open_node.place y) zs ∙ rw (list_all_set tree g.open_node.place y g.shape.held g.plain, new_plain n zs g.growth.below) refl;
  start = old_progress 1 (omega (arith, g.shape.some)) ∙ g.shape.start;
  progress = λ p m e. progress p m (child_cases tree n a y zs g p m e);
}
  where
    old_progress : (m : ℕ) → m ≤ length tree → progress_at (grown tree g.open_node.place y zs) m ≡ progress_at tree m
    old_progress m l = old_look Bool (λ x. x.progress) false tree g.open_node.place g.open_node.node y zs g.open_node.at g.progress m l

    old_number : n ≤ length tree
    old_number = let number : g.open_node.place + 1 ≡ n = g.open_node.number in let within : g.open_node.place < length tree = g.open_node.within in omega arith

    others : (m : ℕ) → 1 < m → m ≤ length (grown tree g.open_node.place y zs) → (m ≤ length tree) ⊎ (length tree < m) → is_some (parent_of (grown tree g.open_node.place y zs) m) ≡ true
    others m above within (inl l) = ap is_some (old_look (Option ℕ) (λ x. x.parent) None tree g.open_node.place g.open_node.node y zs g.open_node.at g.parent m l) ∙ g.shape.others m above l
    others m above within (inr l) =
        let new : New tree n a y zs g.open_node.place m = new_at tree n a y zs g.open_node.place g.growth m l (omega (arith, long tree g.open_node.place y zs, within)) in
        ap is_some (ap (λ o. option_map_or (λ x. x.parent) o None) new.at ∙ new.below.parent)

    child : (p m : ℕ) → ((p ≡ n) × IsNew tree zs m) ⊎ ((m ≤ length tree) × (parent_of tree m ≡ Some p)) → is_child (grown tree g.open_node.place y zs) p m ≡ true
    child p m (inl h) = ap (λ q. is_child (grown tree g.open_node.place y zs) q m) h.0 ∙ new_child tree n a y zs g m h.1.0 h.1.1
    child p m (inr h) = let before : is_child tree p m ≡ true = g.shape.child p m h.1 in ap (λ o. option_map_or (λ x. leads_to m x.arc) o false) (stays tree n a y zs g p m before) ∙ before

    parent : (p m : ℕ) → ((p ≡ n) × IsNew tree zs m) ⊎ (is_child tree p m ≡ true) → parent_of (grown tree g.open_node.place y zs) m ≡ Some p
    parent p m (inl h) =
        let new : New tree n a y zs g.open_node.place m = new_at tree n a y zs g.open_node.place g.growth m h.1.0 h.1.1 in
        ap (λ o. option_map_or (λ x. x.parent) o None) new.at ∙ new.below.parent ∙ ap Some (sym h.0)
    parent p m (inr h) =
        let before : parent_of tree m ≡ Some p = g.shape.parent p m h in
        old_look (Option ℕ) (λ x. x.parent) None tree g.open_node.place g.open_node.node y zs g.open_node.at g.parent m (past_parent tree m p before) ∙ before

    earlier : (p m : ℕ) → ((p ≡ n) × IsNew tree zs m) ⊎ (is_child tree p m ≡ true) → p < m
    earlier p m (inl h) = let same : p ≡ n = h.0 in let less : length tree < m = h.1.0 in omega (arith, old_number)
    earlier p m (inr h) = g.shape.earlier p m h

    progress : (p m : ℕ) → ((p ≡ n) × IsNew tree zs m) ⊎ (is_child tree p m ≡ true) → progress_at (grown tree g.open_node.place y zs) m ≡ (progress_at (grown tree g.open_node.place y zs) p || progresses (grown tree g.open_node.place y zs) p m)
    progress p m (inl h) =
        let new : New tree n a y zs g.open_node.place m = new_at tree n a y zs g.open_node.place g.growth m h.1.0 h.1.1 in
        let above : progress_at (grown tree g.open_node.place y zs) p ≡ progress_at tree n = ap (progress_at (grown tree g.open_node.place y zs)) h.0 ∙ old_progress n old_number in
        let step : progresses (grown tree g.open_node.place y zs) p m ≡ gives_progress m (Some a) = ap (λ q. progresses (grown tree g.open_node.place y zs) q m) h.0 ∙ ap (λ o. option_map_or (λ x. gives_progress m x.arc) o false) (given_at tree n a y zs g) ∙ ap (gives_progress m) g.arc in
        ap (λ o. option_map_or (λ x. x.progress) o false) new.at ∙ new.progress ∙ ap (λ b. b || gives_progress m (Some a)) (sym above) ∙ ap (λ b. progress_at (grown tree g.open_node.place y zs) p || b) (sym step)
    progress p m (inr h) =
        let before : parent_of tree m ≡ Some p = g.shape.parent p m h in
        let within : m ≤ length tree = past_parent tree m p before in
        let less : p < m = g.shape.earlier p m h in
        let above : progress_at (grown tree g.open_node.place y zs) p ≡ progress_at tree p = old_progress p (omega (arith, within, less)) in
        let step : progresses (grown tree g.open_node.place y zs) p m ≡ progresses tree p m = ap (λ o. option_map_or (λ x. gives_progress m x.arc) o false) (stays tree n a y zs g p m h) in
        old_progress m within ∙ g.shape.progress p m h ∙ ap (λ b. b || progresses tree p m) (sym above) ∙ ap (λ b. progress_at (grown tree g.open_node.place y zs) p || b) (sym step)

pub shape_with_children : (tree : List ProofNode) (n : ℕ) (a : NodeArc) (zs : List ProofNode) → IsTree tree → arc_fault tree n ≡ None → IsGrowth tree n a zs → IsTree (with_children n a zs tree)
shape_with_children tree n a zs shape free growth =
    let o : Opened tree n = opened tree n free in
    let y : ProofNode = record o.node { arc = Some a } in
    let g : Grown tree n a y zs = record { shape = shape; open_node = o; arc = refl; parent = refl; progress = refl; plain = o.held; growth = growth } in
    rw (changes (λ x. record x { arc = Some a }) tree n o) (shape_grown tree n a y zs g)
