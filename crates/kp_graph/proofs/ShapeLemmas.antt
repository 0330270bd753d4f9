-- The calls keep the shape of a tree.
use Rattle.std.proofs.Common.{◌≡◌, refl, sym, ◌∙◌, ap, ℕ, zero, suc, Bool, true, false, Option, Some, None, is_some, is_none, ◌&&◌, ◌||◌, List, [], ◌∷◌, length, slice_get, set, length-set, arith}
use Rattle.std.specs.List.{list_all}
use Rattle.kp_graph.specs.Tree.{ProofNode, NodeArc, HeldBy, progress_at, progresses, gives_progress, parent_of, leads_to, is_child, IsTree, arc_fault, with_arc, with_hold}
use Rattle.kp_graph.proofs.Places.{same_look}
use Rattle.kp_graph.proofs.Opened.{Opened, opened, changes}

-- a node that has no arc, or isn't held
abbrev pub is_plain : ProofNode → Bool
is_plain x = is_none x.arc || is_none x.held

pub list_all_set : (tree : List ProofNode) (i : ℕ) (y : ProofNode) → list_all is_plain tree ≡ true → is_plain y ≡ true → list_all is_plain (set tree i y) ≡ true
list_all_set [] i y all e = refl
list_all_set (x ∷ xs) zero y all e = rw e (second_of (is_plain x) (list_all is_plain xs) all)
  where
    second_of : (a b : Bool) → (a && b) ≡ true → b ≡ true
    second_of true b p = p
    second_of false b p = absurd (cc)
list_all_set (x ∷ xs) (suc i) y all e = by_test (is_plain x) refl all (λ rest. list_all_set xs i y rest e)
  where
    by_test : (b : Bool) → is_plain x ≡ b → (b && list_all is_plain xs) ≡ true → (list_all is_plain xs ≡ true → list_all is_plain (set xs i y) ≡ true) → (is_plain x && list_all is_plain (set xs i y)) ≡ true
    by_test true o p more = rw o (more p)
    by_test false o p more = absurd (cc)

-- ---- a node in another's place that leads where it did

pub same_parent : (tree : List ProofNode) (i : ℕ) (x y : ProofNode) → slice_get tree i ≡ Some x → y.parent ≡ x.parent → (m : ℕ) → parent_of (set tree i y) m ≡ parent_of tree m
same_parent tree i x y at e zero = refl
same_parent tree i x y at e (suc k) = same_look (Option ℕ) (λ x. x.parent) None tree i k x y at e

same_child : (tree : List ProofNode) (i : ℕ) (x y : ProofNode) → slice_get tree i ≡ Some x → ((m : ℕ) → leads_to m y.arc ≡ leads_to m x.arc) → (p m : ℕ) → is_child (set tree i y) p m ≡ is_child tree p m
same_child tree i x y at e zero m = refl
same_child tree i x y at e (suc k) m = same_look Bool (λ x. leads_to m x.arc) false tree i k x y at (e m)

same_progress : (tree : List ProofNode) (i : ℕ) (x y : ProofNode) → slice_get tree i ≡ Some x → y.progress ≡ x.progress → (m : ℕ) → progress_at (set tree i y) m ≡ progress_at tree m
same_progress tree i x y at e zero = refl
same_progress tree i x y at e (suc k) = same_look Bool (λ x. x.progress) false tree i k x y at e

same_step : (tree : List ProofNode) (i : ℕ) (x y : ProofNode) → slice_get tree i ≡ Some x → ((m : ℕ) → gives_progress m y.arc ≡ gives_progress m x.arc) → (p m : ℕ) → progresses (set tree i y) p m ≡ progresses tree p m
same_step tree i x y at e zero m = refl
same_step tree i x y at e (suc k) m = same_look Bool (λ x. gives_progress m x.arc) false tree i k x y at (e m)

shape_set : (tree : List ProofNode) (i : ℕ) (x y : ProofNode) → slice_get tree i ≡ Some x → IsTree tree → y.parent ≡ x.parent → y.progress ≡ x.progress → ((m : ℕ) → leads_to m y.arc ≡ leads_to m x.arc) → ((m : ℕ) → gives_progress m y.arc ≡ gives_progress m x.arc) → is_plain y ≡ true → IsTree (set tree i y)
shape_set tree i x y at shape e f leads gives plain =
    let long : length (set tree i y) ≡ length tree = length-set tree i y in
    record {
      some = omega (arith, shape.some);
      first = same_parent tree i x y at e 1 ∙ shape.first;
      others = λ n above within. ap is_some (same_parent tree i x y at e n) ∙ shape.others n above (omega arith);
      child = λ p n h. same_child tree i x y at leads p n ∙ shape.child p n (sym (same_parent tree i x y at e n) ∙ h);
      parent = λ p n h. same_parent tree i x y at e n ∙ shape.parent p n (sym (same_child tree i x y at leads p n) ∙ h);
      earlier = λ p n h. shape.earlier p n (sym (same_child tree i x y at leads p n) ∙ h);
      held = list_all_set tree i y shape.held plain;
      start = same_progress tree i x y at f 1 ∙ shape.start;
      progress = λ p n h. same_progress tree i x y at f n ∙ shape.progress p n (sym (same_child tree i x y at leads p n) ∙ h)
          ∙ ap (λ b. b || progresses tree p n) (sym (same_progress tree i x y at f p)) ∙ ap (λ b. progress_at (set tree i y) p || b) (sym (same_step tree i x y at gives p n));
    }

-- a node without an arc leads nowhere
pub leads_none : (m : ℕ) (a : Option NodeArc) → is_none a ≡ true → leads_to m a ≡ false
leads_none m None e = refl
leads_none m (Some a) e = absurd (cc)

gives_none : (m : ℕ) (a : Option NodeArc) → is_none a ≡ true → gives_progress m a ≡ false
gives_none m None e = refl
gives_none m (Some a) e = absurd (cc)

pub shape_with_arc : (tree : List ProofNode) (n : ℕ) (a : NodeArc) → IsTree tree → arc_fault tree n ≡ None → ((m : ℕ) → leads_to m (Some a) ≡ false) → ((m : ℕ) → gives_progress m (Some a) ≡ false) → IsTree (with_arc n a tree)
shape_with_arc tree n a shape free leaf still =
    let o : Opened tree n = opened tree n free in
    rw (changes (λ x. record x { arc = Some a }) tree n o)
    (shape_set tree o.place o.node (record o.node { arc = Some a }) o.at shape refl refl (λ m. leaf m ∙ sym (leads_none m o.node.arc o.arc)) (λ m. still m ∙ sym (gives_none m o.node.arc o.arc)) o.held)

pub shape_with_hold : (tree : List ProofNode) (n : ℕ) (why : HeldBy) → IsTree tree → arc_fault tree n ≡ None → IsTree (with_hold n why tree)
shape_with_hold tree n why shape free =
    let o : Opened tree n = opened tree n free in
    rw (changes (λ x. record x { held = Some why }) tree n o)
    (shape_set tree o.place o.node (record o.node { held = Some why }) o.at shape refl refl (λ m. refl) (λ m. refl) (rw o.arc refl))
