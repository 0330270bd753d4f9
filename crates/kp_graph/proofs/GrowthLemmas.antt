-- Edges, splits and branches lead to the new nodes behind all others, and to no other.
use Rattle.std.proofs.Common.{◌≡◌, refl, sym, ◌∙◌, ap, ℕ, zero, suc, ◌+◌, ◌<◌, ◌≤◌, ◌==◌, Bool, true, false, ◌||◌, Some, List, [], ◌∷◌, map, length, eqb-true, eq-eqb, arith, None}
use Rattle.std.proofs.Math.Bool.{or-false}
use Rattle.std.specs.List.{AllByRecursion, list_any}
use Rattle.std.proofs.lemmas.List.{length-map}
use Rattle.kp_kore.specs.Syntax.{KorePattern}
use Rattle.kp_kore.specs.ClaimRules.{is_progress}
use Rattle.kp_kore.specs.Arcs.{BranchChild}
use Rattle.kp_graph.specs.Tree.{ProofNode, edge, split, branch, node_at, progress_at, open_node, child_node, numbers_from, is_progress_to, IsTree, arc_fault, with_edge}
use Rattle.kp_graph.specs.Growth.{IsNewBelow, IsGrowth}
use Rattle.kp_graph.specs.Kept.{is_settled, some_failed}
use Rattle.kp_graph.proofs.GrowLemmas.{shape_with_children}
use Rattle.kp_graph.proofs.CallLemmas.{failed_with_children}

not_equal : (a b : ℕ) → a < b → (b == a) ≡ false
not_equal a b l = by_test (b == a) refl
  where
    by_test : (t : Bool) → (b == a) ≡ t → (b == a) ≡ false
    by_test true e = let same : b ≡ a = eqb-true b a e in absurd (omega (arith, same, l))
    by_test false e = e

-- ---- numbers in a row

numbered : (l k m : ℕ) → list_any (λ to. to == m) (numbers_from (l + 1) k) ≡ true → (l < m) × (m ≤ l + k)
numbered l zero m e = absurd (cc)
numbered l (suc k) m e = by_test (l + 1 == m) refl e (λ h. numbered (l + 1) k m h)
  where
    by_test : (t : Bool) → (l + 1 == m) ≡ t → (t || list_any (λ to. to == m) (numbers_from (l + 1 + 1) k)) ≡ true → (list_any (λ to. to == m) (numbers_from (l + 1 + 1) k) ≡ true → (l + 1 < m) × (m ≤ l + 1 + k)) → (l < m) × (m ≤ l + suc k)
    by_test true f h rest = let same : l + 1 ≡ m = eqb-true (l + 1) m f in (omega (arith, same), omega (arith, same))
    by_test false f h rest = let more : (l + 1 < m) × (m ≤ l + 1 + k) = rest h in (omega (arith, more.0), omega (arith, more.1))

less_where_other : (a b : ℕ) → a ≤ b → (a == b) ≡ false → a < b
less_where_other a b le ne = by_less a b le (λ same. let yes : (a == b) ≡ true = eq-eqb a b same in let no : true ≡ false = sym yes ∙ ne in absurd (cc))
  where
    by_less : (a b : ℕ) → a ≤ b → (a ≡ b → ⊥) → a < b
    by_less zero zero le ne = absurd (ne refl)
    by_less zero (suc b) le ne = omega arith
    by_less (suc a) zero le ne = absurd (omega (arith, le))
    by_less (suc a) (suc b) le ne = let rest : a < b = by_less a b (omega (arith, le)) (λ e. ne (ap suc e)) in omega (arith, rest)

has_number : (l k m : ℕ) → l < m → m ≤ l + k → list_any (λ to. to == m) (numbers_from (l + 1) k) ≡ true
has_number l zero m less most = absurd (omega (arith, less, most))
has_number l (suc k) m less most = by_test (l + 1 == m) refl (λ e. has_number (l + 1) k m (less_where_other (l + 1) m (omega (arith, less)) e) (omega (arith, most)))
  where
    by_test : (t : Bool) → (l + 1 == m) ≡ t → ((l + 1 == m) ≡ false → list_any (λ to. to == m) (numbers_from (l + 1 + 1) k) ≡ true) → (l + 1 == m) || list_any (λ to. to == m) (numbers_from (l + 1 + 1) k) ≡ true
    by_test true f rest = rw f refl
    by_test false f rest = rw f (rest f)

-- ---- new nodes

new_below : (X : Type 0) (n : ℕ) (f : X → ProofNode) → ((x : X) → IsNewBelow n (f x)) → (xs : List X) → AllByRecursion (IsNewBelow n) (map f xs)
new_below X n f is [] = tt
new_below X n f is (x ∷ xs) = (is x, new_below X n f is xs)

pub edge_growth : (tree : List ProofNode) (n d : ℕ) (s : KorePattern) (flagged : Bool) → IsGrowth tree n (edge d (length tree + 1) flagged) (child_node n s flagged ∷ [])
edge_growth tree n d s flagged = record {
  only = λ m e. let same : length tree + 1 ≡ m = eqb-true (length tree + 1) m e in (omega (arith, same), omega (arith, same));
  leads = λ m less most. eq-eqb (length tree + 1) m (omega (arith, less, most));
  below = (record { parent = refl; arc = refl; held = refl }, tt);
  progress = λ j z at. one j z at;
  some = λ l. refl;
  none = λ e. absurd (omega (arith, e));
  safe = refl;
}
  where
    or_true : (a : Bool) → true ≡ (a || true)
    or_true true = refl
    or_true false = refl

    one : (j : ℕ) (z : ProofNode) → node_at (child_node n s flagged ∷ []) j ≡ Some z → z.progress ≡ (progress_at tree n || true)
    one zero z at = absurd (cc)
    one (suc zero) z at = let same : child_node n s flagged ≡ z = cc in ap (λ v. v.progress) (sym same) ∙ or_true (progress_at tree n)
    one (suc (suc j)) z at = absurd (cc)

pub split_growth : (tree : List ProofNode) (n : ℕ) (states : List KorePattern) → IsGrowth tree n (split (numbers_from (length tree + 1) (length states))) (map (λ s. open_node n s false (progress_at tree n)) states)
split_growth tree n states = record {
  only = λ m e. let h : (length tree < m) × (m ≤ length tree + length states) = numbered (length tree) (length states) m e in (h.0, omega (arith, h.1, long));
  leads = λ m less most. has_number (length tree) (length states) m less (omega (arith, most, long));
  below = new_below KorePattern n f (λ s. record { parent = refl; arc = refl; held = refl }) states;
  progress = λ j z at. same states j z at ∙ sym (or-false (progress_at tree n));
  some = λ l. settles states (omega (arith, l, long));
  none = λ e. leaf states (omega (arith, e, long));
  safe = refl;
}
  where
    f : KorePattern → ProofNode
    f s = open_node n s false (progress_at tree n)

    long : length (map f states) ≡ length states
    long = length-map states f

    same : (ss : List KorePattern) (j : ℕ) (z : ProofNode) → node_at (map f ss) j ≡ Some z → z.progress ≡ progress_at tree n
    same ss zero z at = absurd (cc)
    same [] (suc j) z at = absurd (cc)
    same (s ∷ ss) (suc zero) z at = let e : f s ≡ z = cc in ap (λ v. v.progress) (sym e)
    same (s ∷ ss) (suc (suc j)) z at = same ss (suc j) z at

    settles : (ss : List KorePattern) → 0 < length ss → is_settled (Some (split (numbers_from (length tree + 1) (length ss)))) ≡ true
    settles [] l = absurd (omega (arith, l))
    settles (s ∷ ss) l = refl

    leaf : (ss : List KorePattern) → length ss ≡ 0 → is_settled (Some (split (numbers_from (length tree + 1) (length ss)))) ≡ false
    leaf [] e = refl
    leaf (s ∷ ss) e = absurd (omega (arith, e))

-- ---- the progress of a branch's steps

-- no step leads to a smaller number
none_to : (m k : ℕ) (ks : List BranchChild) → m < k → is_progress_to m (map (λ c. c.rule) ks) (numbers_from k (length ks)) ≡ false
none_to m k [] l = refl
none_to m k (c ∷ cs) l = rw (not_equal m k l) (none_to m (k + 1) cs (omega (arith, l)))

step_to : (P : Bool) (n l : ℕ) (ks : List BranchChild) (j : ℕ) (z : ProofNode) → node_at (map (λ c. open_node n c.state false (P || is_progress c.rule)) ks) j ≡ Some z →
    z.progress ≡ (P || is_progress_to (l + j) (map (λ c. c.rule) ks) (numbers_from (l + 1) (length ks)))
step_to P n l ks zero z at = absurd (cc)
step_to P n l [] (suc j) z at = absurd (cc)
step_to P n l (c ∷ cs) (suc zero) z at =
    let same : open_node n c.state false (P || is_progress c.rule) ≡ z = cc in
    ap (λ v. v.progress) (sym same) ∙ ap (λ b. P || b) (sym (rw (eq-eqb (l + 1) (l + 1) refl, none_to (l + 1) (l + 1 + 1) cs (omega arith)) (or-false (is_progress c.rule))))
step_to P n l (c ∷ cs) (suc (suc j)) z at =
    let number : l + 1 + suc j ≡ l + suc (suc j) = omega arith in
    step_to P n (l + 1) cs (suc j) z at ∙ ap (λ m. P || is_progress_to m (map (λ c. c.rule) cs) (numbers_from (l + 1 + 1) (length cs))) number
    ∙ ap (λ b. P || b) (sym (rw (other (l + 1) (l + suc (suc j)) (omega arith)) refl))
  where
    other : (a b : ℕ) → a < b → (a == b) ≡ false
    other a b less = by_test (a == b) refl
      where
        by_test : (t : Bool) → (a == b) ≡ t → (a == b) ≡ false
        by_test true e = let same : a ≡ b = eqb-true a b e in absurd (omega (arith, same, less))
        by_test false e = e

pub branch_growth : (tree : List ProofNode) (n : ℕ) (children : List BranchChild) → IsGrowth tree n (branch (map (λ k. k.rule) children) (numbers_from (length tree + 1) (length children))) (map (λ k. open_node n k.state false (progress_at tree n || is_progress k.rule)) children)
branch_growth tree n children = record {
  only = λ m e. let h : (length tree < m) × (m ≤ length tree + length children) = numbered (length tree) (length children) m e in (h.0, omega (arith, h.1, long));
  leads = λ m less most. has_number (length tree) (length children) m less (omega (arith, most, long));
  below = new_below BranchChild n f (λ s. record { parent = refl; arc = refl; held = refl }) children;
  progress = λ j z at. step_to (progress_at tree n) n (length tree) children j z at;
  some = λ l. settles children (omega (arith, l, long));
  none = λ e. leaf children (omega (arith, e, long));
  safe = refl;
}
  where
    f : BranchChild → ProofNode
    f k = open_node n k.state false (progress_at tree n || is_progress k.rule)

    long : length (map f children) ≡ length children
    long = length-map children f

    settles : (ks : List BranchChild) → 0 < length ks → is_settled (Some (branch (map (λ k. k.rule) ks) (numbers_from (length tree + 1) (length ks)))) ≡ true
    settles [] l = absurd (omega (arith, l))
    settles (k ∷ ks) l = refl

    leaf : (ks : List BranchChild) → length ks ≡ 0 → is_settled (Some (branch (map (λ k. k.rule) ks) (numbers_from (length tree + 1) (length ks)))) ≡ false
    leaf [] e = refl
    leaf (k ∷ ks) e = absurd (omega (arith, e))

-- ---- edges

pub shape_with_edge : (tree : List ProofNode) (n d : ℕ) (s : KorePattern) (flagged : Bool) → IsTree tree → arc_fault tree n ≡ None → IsTree (with_edge n d s flagged tree)
shape_with_edge tree n d s flagged shape free = shape_with_children tree n (edge d (length tree + 1) flagged) (child_node n s flagged ∷ []) shape free (edge_growth tree n d s flagged)

pub failed_with_edge : (tree : List ProofNode) (n d : ℕ) (s : KorePattern) (flagged : Bool) → arc_fault tree n ≡ None → some_failed (with_edge n d s flagged tree) ≡ some_failed tree
failed_with_edge tree n d s flagged free = failed_with_children tree n (edge d (length tree + 1) flagged) (child_node n s flagged ∷ []) free (edge_growth tree n d s flagged)
