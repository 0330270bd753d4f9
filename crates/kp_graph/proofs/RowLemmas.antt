-- Rows of nodes that aren't open, and the nodes that pass them.
use Rattle.std.proofs.Common.{◌≡◌, refl, sym, ◌∙◌, ap, subst, ℕ, zero, suc, ◌+◌, ◌-◌, ◌<◌, ◌≤◌, Bool, true, false, List, [], ◌∷◌, ◌++◌, length, set, get_or, drop, map, ◌&&◌, not, arith}
use Rattle.std.proofs.lemmas.List.{length-map, length-drop, length-set, map-append}
use Rattle.kp_graph.specs.Tree.{ProofNode, is_open, open_from}
use Rattle.kp_graph.specs.Kept.{are_closed, pass_closed}
use Rattle.kp_graph.specs.View.{node_view, nodes_view}
use Rattle.kp_graph.specs.declared.node.Node.{Node}

-- ---- rows

abbrev pub AreClosed : ℕ → List ProofNode → Type 0
AreClosed k tree = are_closed k tree ≡ true

first : (a b : Bool) → (a && b) ≡ true → a ≡ true
first true b e = refl
first false b e = absurd (cc)

second : (a b : Bool) → (a && b) ≡ true → b ≡ true
second true b e = e
second false b e = absurd (cc)

both : (a b : Bool) → a ≡ true → b ≡ true → (a && b) ≡ true
both true true e f = refl
both true false e f = f
both false b e f = e

opposite : (a : Bool) → not a ≡ true → a ≡ false
opposite true e = absurd (cc)
opposite false e = refl

pub row_fits : (k : ℕ) (tree : List ProofNode) → AreClosed k tree → k ≤ length tree
row_fits zero tree c = omega arith
row_fits (suc k) [] c = absurd (cc)
row_fits (suc k) (x ∷ xs) c = let rest : are_closed k xs ≡ true = second (not (is_open x)) (are_closed k xs) c in
    let less : k ≤ length xs = row_fits k xs rest in omega (arith, less)

-- a row and the one behind it are one
pub row_on : (j k : ℕ) (tree : List ProofNode) → AreClosed j tree → AreClosed k (drop j tree) → AreClosed (j + k) tree
row_on zero k tree c more = let zero_is : 0 + k ≡ k = omega arith in rw zero_is more
row_on (suc j) k [] c more = absurd (cc)
row_on (suc j) k (x ∷ xs) c more = let next : suc j + k ≡ suc (j + k) = omega arith in rw next (both _ _ (first _ _ c) (row_on j k xs (second _ _ c) more))

row_longer : (k : ℕ) (xs ys : List ProofNode) → AreClosed k xs → AreClosed k (xs ++ ys)
row_longer zero xs ys c = refl
row_longer (suc k) [] ys c = absurd (cc)
row_longer (suc k) (x ∷ xs) ys c = both _ _ (first _ _ c) (row_longer k xs ys (second _ _ c))

-- a row adds no open node
pub row_adds_none : (k n : ℕ) (tree : List ProofNode) → AreClosed k tree → open_from (n + k) (drop k tree) ≡ open_from n tree
row_adds_none zero n tree c = let same : n + 0 ≡ n = omega arith in rw same refl
row_adds_none (suc k) n [] c = absurd (cc)
row_adds_none (suc k) n (x ∷ xs) c =
    let number : n + suc k ≡ n + 1 + k = omega arith in
    let none : is_open x ≡ false = opposite _ (first _ _ c) in
    rw (number, none) (row_adds_none k (n + 1) xs (second _ _ c))

pub drop_on : (i j : ℕ) (tree : List ProofNode) → drop j (drop i tree) ≡ drop (i + j) tree
drop_on zero j tree = let same : 0 + j ≡ j = omega arith in rw same refl
drop_on (suc i) j [] = let next : suc i + j ≡ suc (i + j) = omega arith in rw next (none j)
  where
    nothing : List ProofNode
    nothing = []

    none : (j : ℕ) → drop j (drop (suc i) nothing) ≡ []
    none zero = refl
    none (suc j) = refl
drop_on (suc i) j (x ∷ xs) = let next : suc i + j ≡ suc (i + j) = omega arith in rw next (drop_on i j xs)

-- a row behind one node, a node that isn't open and the row behind that
pub row_around : (i p k : ℕ) (tree : List ProofNode) → i ≤ p → AreClosed (p - i) (drop (i + 1) tree) → AreClosed k (drop (p + 1) tree) → AreClosed (p + k - i) (drop (i + 1) tree)
row_around i p k tree before row more =
    let place : i + 1 + (p - i) ≡ p + 1 = omega (arith, before) in
    let long : p + k - i ≡ p - i + k = omega (arith, before) in
    let rest : AreClosed k (drop (p - i) (drop (i + 1) tree)) = rw (drop_on (i + 1) (p - i) tree, place) more in
    rw long (row_on (p - i) k (drop (i + 1) tree) row rest)

-- ---- what each node keeps

-- the row behind a node
row_kept : (nodes : List Node) (i : ℕ) (d : Node) → pass_closed nodes ≡ true → i < length nodes → AreClosed (get_or nodes i d).closed_behind (drop (suc i) (nodes_view nodes))
row_kept [] i d pass within = absurd (omega arith)
row_kept (y ∷ ys) zero d pass within = first _ _ pass
row_kept (y ∷ ys) (suc i) d pass within = row_kept ys i d (second _ _ pass) (omega (arith, within))

kept_row : (nodes : List Node) (i : ℕ) (d : Node) → pass_closed nodes ≡ true → i < length nodes → AreClosed (get_or nodes i d).closed_behind (drop (i + 1) (nodes_view nodes))
kept_row nodes i d pass within = let next : i + 1 ≡ suc i = omega arith in rw next (row_kept nodes i d pass within)

row_set : (k : ℕ) (nodes : List Node) (i : ℕ) (d y : Node) → (is_open (node_view (get_or nodes i d)) ≡ false → is_open (node_view y) ≡ false) → AreClosed k (nodes_view nodes) → AreClosed k (nodes_view (set nodes i y))
row_set zero nodes i d y still c = refl
row_set (suc k) [] i d y still c = absurd (cc)
row_set (suc k) (z ∷ zs) zero d y still c = both _ _ (ap not (still (opposite _ (first _ _ c)))) (second _ _ c)
row_set (suc k) (z ∷ zs) (suc i) d y still c = both _ _ (first _ _ c) (row_set k zs i d y still (second _ _ c))

-- a node in another's place that isn't open where that wasn't, and keeps a row behind it
set_passes : (nodes : List Node) (i : ℕ) (d y : Node) → (is_open (node_view (get_or nodes i d)) ≡ false → is_open (node_view y) ≡ false) → AreClosed y.closed_behind (drop (suc i) (nodes_view nodes)) → pass_closed nodes ≡ true → pass_closed (set nodes i y) ≡ true
set_passes [] i d y still row pass = refl
set_passes (z ∷ zs) zero d y still row pass = both _ _ row (second _ _ pass)
set_passes (z ∷ zs) (suc i) d y still row pass = both _ _ (row_set z.closed_behind zs i d y still (first _ _ pass)) (set_passes zs i d y still row (second _ _ pass))

pub pass_set : (nodes : List Node) (i : ℕ) (d y : Node) → (is_open (node_view (get_or nodes i d)) ≡ false → is_open (node_view y) ≡ false) → AreClosed y.closed_behind (drop (i + 1) (nodes_view nodes)) → pass_closed nodes ≡ true → pass_closed (set nodes i y) ≡ true
pass_set nodes i d y still row pass = let next : i + 1 ≡ suc i = omega arith in set_passes nodes i d y still (subst (λ n. AreClosed y.closed_behind (drop n (nodes_view nodes))) next row) pass

-- a node in another's place that is seen as that
pub same_view : (nodes : List Node) (i : ℕ) (d y : Node) → node_view y ≡ node_view (get_or nodes i d) → nodes_view (set nodes i y) ≡ nodes_view nodes
same_view [] i d y e = refl
same_view (z ∷ zs) zero d y e = ap (λ x. x ∷ nodes_view zs) e
same_view (z ∷ zs) (suc i) d y e = ap (λ l. node_view z ∷ l) (same_view zs i d y e)

pub still_open : (x y : Node) → node_view y ≡ node_view x → is_open (node_view x) ≡ false → is_open (node_view y) ≡ false
still_open x y e closed = ap is_open e ∙ closed

pub pass_append : (xs ys : List Node) → pass_closed xs ≡ true → pass_closed ys ≡ true → pass_closed (xs ++ ys) ≡ true
pass_append [] ys pass more = more
pass_append (x ∷ xs) ys pass more = both _ _ longer (pass_append xs ys (second _ _ pass) more)
  where
    longer : AreClosed x.closed_behind (nodes_view (xs ++ ys))
    longer = rw (map-append node_view xs ys) (row_longer x.closed_behind (nodes_view xs) (nodes_view ys) (first _ _ pass))

-- a new node keeps none
pub pass_new : (nodes : List Node) (x : Node) → x.closed_behind ≡ 0 → pass_closed nodes ≡ true → pass_closed (nodes ++ x ∷ []) ≡ true
pass_new nodes x none pass = pass_append nodes (x ∷ []) pass (rw none refl)

-- nodes that keep none
pub pass_alone : (X : Type 0) (nodes : List Node) (xs : List X) → map (λ z. z.closed_behind) nodes ≡ map (λ x. 0) xs → pass_closed nodes ≡ true
pass_alone X [] xs e = refl
pass_alone X (z ∷ zs) [] e = absurd (cc)
pass_alone X (z ∷ zs) (x ∷ xs) e =
    let none : z.closed_behind ≡ 0 = cc in
    let rest : map (λ z. z.closed_behind) zs ≡ map (λ x. 0) xs = cc in
    both _ _ (rw none refl) (pass_alone X zs xs rest)

-- ---- a node that is closed

pub held_closed : (b : Bool) → (b && false) ≡ false
held_closed true = refl
held_closed false = refl

pub closed_put : (nodes : List Node) (i : ℕ) (y : Node) → is_open (node_view y) ≡ false → i < length nodes → AreClosed 1 (drop i (nodes_view (set nodes i y)))
closed_put [] i y closed within = absurd (omega arith)
closed_put (z ∷ zs) zero y closed within = both _ _ (ap not closed) refl
closed_put (z ∷ zs) (suc i) y closed within = closed_put zs i y closed (omega (arith, within))

pub put_passes : (nodes : List Node) (i : ℕ) (d y : Node) → is_open (node_view y) ≡ false → y.closed_behind ≡ (get_or nodes i d).closed_behind → i < length nodes → pass_closed nodes ≡ true → pass_closed (set nodes i y) ≡ true
put_passes nodes i d y closed same within pass = pass_set nodes i d y (λ e. closed) (rw same (kept_row nodes i d pass within)) pass

-- ---- the last of the row behind a node

pub fits_behind : (nodes : List Node) (i : ℕ) (d : Node) → pass_closed nodes ≡ true → i < length nodes → i + (get_or nodes i d).closed_behind < length nodes
fits_behind nodes i d pass within =
    let long : length (drop (i + 1) (nodes_view nodes)) ≡ length nodes - (i + 1) = length-drop (i + 1) (nodes_view nodes) ∙ ap (λ n. n - (i + 1)) (length-map nodes node_view) in
    let less = row_fits (get_or nodes i d).closed_behind (drop (i + 1) (nodes_view nodes)) (kept_row nodes i d pass within) in
    omega (arith, long, less, within)

pub end_row : (nodes : List Node) (i : ℕ) (d : Node) → pass_closed nodes ≡ true → i < length nodes → AreClosed (i + (get_or nodes i d).closed_behind - i) (drop (i + 1) (nodes_view nodes))
end_row nodes i d pass within =
    let same : i + (get_or nodes i d).closed_behind - i ≡ (get_or nodes i d).closed_behind = omega arith in
    rw same (kept_row nodes i d pass within)

pub end_passed : (nodes : List Node) (i : ℕ) (d : Node) → pass_closed nodes ≡ true → i < length nodes → open_from (i + (get_or nodes i d).closed_behind + 1 + 1) (drop (i + (get_or nodes i d).closed_behind + 1) (nodes_view nodes)) ≡ open_from (i + 1 + 1) (drop (i + 1) (nodes_view nodes))
end_passed nodes i d pass within =
    let k = (get_or nodes i d).closed_behind in
    let place : i + k + 1 ≡ i + 1 + k = omega arith in
    let number : i + k + 1 + 1 ≡ i + 1 + 1 + k = omega arith in
    ap (λ n. open_from n (drop (i + k + 1) (nodes_view nodes))) number
    ∙ ap (λ n. open_from (i + 1 + 1 + k) (drop n (nodes_view nodes))) place
    ∙ ap (open_from (i + 1 + 1 + k)) (sym (drop_on (i + 1) k (nodes_view nodes)))
    ∙ row_adds_none k (i + 1 + 1) (drop (i + 1) (nodes_view nodes)) (kept_row nodes i d pass within)

-- ---- the first of the row before a node

pub row_up_to : (nodes : List Node) (p k : ℕ) (d : Node) → pass_closed nodes ≡ true → k < p → p ≤ length nodes → (get_or nodes (p - 1 - k) d).closed_behind ≡ k → AreClosed 1 (drop p (nodes_view nodes)) → AreClosed (p - (p - 1 - k)) (drop (p - 1 - k + 1) (nodes_view nodes))
row_up_to nodes p k d pass below within e closed =
    let start = p - 1 - k in
    let long : p - start ≡ k + 1 = omega (arith, below) in
    let place : start + 1 + k ≡ p = omega (arith, below) in
    let kept = kept_row nodes start d pass (omega (arith, below, within)) in
    let front : AreClosed k (drop (start + 1) (nodes_view nodes)) = subst (λ n. AreClosed n (drop (start + 1) (nodes_view nodes))) e kept in
    let rest : AreClosed 1 (drop k (drop (start + 1) (nodes_view nodes))) = rw (drop_on (start + 1) k (nodes_view nodes), place) closed in
    rw long (row_on k 1 (drop (start + 1) (nodes_view nodes)) front rest)

-- ---- rows that are joined

pub closed_within : (nodes : List Node) (p : ℕ) → AreClosed 1 (drop p (nodes_view nodes)) → p < length nodes
closed_within nodes p closed =
    let long : length (drop p (nodes_view nodes)) ≡ length nodes - p = length-drop p (nodes_view nodes) ∙ ap (λ n. n - p) (length-map nodes node_view) in
    let less = row_fits 1 (drop p (nodes_view nodes)) closed in
    omega (arith, long, less)

-- one node notes the row behind it, and then one the row before it
pub joined_view : (nodes : List Node) (i j : ℕ) (d y e z : Node) → node_view y ≡ node_view (get_or nodes i d) → node_view z ≡ node_view (get_or (set nodes i y) j e) → nodes_view (set (set nodes i y) j z) ≡ nodes_view nodes
joined_view nodes i j d y e z same same_too = same_view (set nodes i y) j e z same_too ∙ same_view nodes i d y same

pub joined_pass : (nodes : List Node) (i p q j : ℕ) (d y e z : Node) → node_view y ≡ node_view (get_or nodes i d) → y.closed_behind ≡ q - i → node_view z ≡ node_view (get_or (set nodes i y) j e) → z.closed_behind ≡ (get_or (set nodes i y) j e).closed_behind →
    j ≡ i + (q - i) → i ≤ p → p ≤ q → q < length nodes → AreClosed (p - i) (drop (i + 1) (nodes_view nodes)) → AreClosed (q - p) (drop (p + 1) (nodes_view nodes)) → pass_closed nodes ≡ true → pass_closed (set (set nodes i y) j z) ≡ true
joined_pass nodes i p q j d y e z same long same_too long_too place before behind within row more pass =
    let number : p + (q - p) - i ≡ q - i = omega (arith, before, behind) in
    let whole : AreClosed (q - i) (drop (i + 1) (nodes_view nodes)) = subst (λ n. AreClosed n (drop (i + 1) (nodes_view nodes))) number (row_around i p (q - p) (nodes_view nodes) before row more) in
    let noted : AreClosed y.closed_behind (drop (i + 1) (nodes_view nodes)) = rw long whole in
    let first : pass_closed (set nodes i y) ≡ true = pass_set nodes i d y (still_open (get_or nodes i d) y same) noted pass in
    let fits : j < length (set nodes i y) = omega (arith, place, before, behind, within, length-set nodes i y) in
    let kept : AreClosed z.closed_behind (drop (j + 1) (nodes_view (set nodes i y))) = rw long_too (kept_row (set nodes i y) j e first fits) in
    pass_set (set nodes i y) j e z (still_open (get_or (set nodes i y) j e) z same_too) kept first
