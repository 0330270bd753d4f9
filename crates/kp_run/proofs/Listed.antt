-- Lists whose members are the same, one by one, and lists of depths.
use Rattle.std.proofs.Common.{◌≡◌, refl, sym, ap, ap₂, subst, ◌∙◌, ℕ, zero, suc, ◌+◌, ◌<◌, ◌≤◌, min, true, List, [], ◌∷◌, ◌++◌, length, map, take, get_or, arith}
use Rattle.std.proofs.lemmas.List.{length-map, map_more, map-append, take_all}
use Rattle.std.specs.Prelude.{Result, Ok, Err, IfOk}
use Rattle.std.specs.List.{list_all}
use Rattle.kp_kore.specs.Syntax.{Text}
use Rattle.kp_kore.specs.Signature.{KoreSignature}
use Rattle.kp_kore.specs.Value as model
use Rattle.kp_kore.specs.Value.{constructed, next_value}
use Rattle.kp_kore.specs.Instance.{Valuation}
use Rattle.kp_ground.specs.Slots.{term_reads}
use Rattle.kp_ground.specs.Terms.{left_value, left_values, left_built, term_value, built}
use Rattle.kp_ground.specs.LeftView.{left_view, lefts_of}
use Rattle.kp_ground.specs.TermView.{term_view, terms_of}
use Rattle.kp_ground.specs.View.{value_view, values_of}
use Rattle.kp_ground.specs.declared.left_side.CompiledLeft.{CompiledLeft}
use Rattle.kp_ground.specs.declared.term.CompiledTerm.{CompiledTerm}
use Rattle.kp_ground.specs.declared.value.Value.{Value}
use Rattle.kp_ground.proofs.SlotLemmas.{passes_at}
use Rattle.kp_ground.proofs.TermLemmas.{term_values-terms_of}
use Rattle.kp_ground.proofs.ValueLists.{same_values}
use Rattle.kp_run.specs.Depths.{DepthTree, leaf, node, DepthTrees, no_trees, next_tree, depths_in, all_depths_in}
use Rattle.kp_run.specs.View.{AreDepthsOf, AreDepthsOfAll, AreDepthsOfLefts, AreTermValues, depths_view, trees_of}
use Rattle.kp_run.specs.declared.depths.Depths.{Depths}

pub as_many : {A B C : Type 0} (f : A → C) (g : B → C) (xs : List A) (ys : List B) → map f xs ≡ map g ys → length xs ≡ length ys
as_many f g xs ys e = sym (length-map xs f) ∙ ap length e ∙ length-map ys g

pub at_place : {A B C : Type 0} (f : A → C) (g : B → C) (i : ℕ) (xs : List A) (ys : List B) (x : A) (y : B) → map f xs ≡ map g ys → i < length xs → i < length ys → x ≡ get_or xs i x → y ≡ get_or ys i y → f x ≡ g y
at_place f g i [] ys x y e h k p q = absurd (omega arith)
at_place f g i (a ∷ xs) [] x y e h k p q = absurd (omega arith)
at_place f g zero (a ∷ xs) (b ∷ ys) x y e h k p q =
    let here : f a ≡ g b = cc in
    ap f p ∙ here ∙ sym (ap g q)
at_place f g (suc i) (a ∷ xs) (b ∷ ys) x y e h k p q =
    let rest : map f xs ≡ map g ys = cc in
    at_place f g i xs ys x y rest (omega arith) (omega arith) p q

-- ---- lists of depths

tree_list : DepthTrees → List DepthTree
tree_list no_trees = []
tree_list (next_tree d ds) = d ∷ tree_list ds

list_of_trees : (ds : List DepthTree) → tree_list (trees_of ds) ≡ ds
unfolding tree_list
list_of_trees [] = refl
list_of_trees (d ∷ ds) = ap (λ l. d ∷ l) (list_of_trees ds)

same_trees : (ds es : List DepthTree) → trees_of ds ≡ trees_of es → ds ≡ es
same_trees ds es e = sym (list_of_trees ds) ∙ ap tree_list e ∙ list_of_trees es

pub trees_of_values : (g : KoreSignature) (us : List Value) → trees_of (map (λ u. depths_in g (value_view u)) us) ≡ all_depths_in g (values_of (map value_view us))
trees_of_values g [] = refl
trees_of_values g (u ∷ us) = ap (next_tree (depths_in g (value_view u))) (trees_of_values g us)

trees_of_lefts : (g : KoreSignature) (v : Valuation) (ls : List CompiledLeft) → trees_of (map (λ l. depths_in g (left_value v (left_view l))) ls) ≡ all_depths_in g (left_values v (lefts_of (map left_view ls)))
trees_of_lefts g v [] = refl
trees_of_lefts g v (l ∷ ls) = ap (next_tree (depths_in g (left_value v (left_view l)))) (trees_of_lefts g v ls)

node_inside : (m n : ℕ) (ds es : DepthTrees) → node m ds ≡ node n es → ds ≡ es
node_inside m n ds es e = cc

-- the parts of a constructor's depths are those of its arguments
pub parts_of : (g : KoreSignature) (v : Valuation) (c : Text) (ls : List CompiledLeft) (n : ℕ) (ds : List Depths) →
    node n (trees_of (map depths_view ds)) ≡ depths_in g (left_value v (left_built c (lefts_of (map left_view ls)))) → AreDepthsOfLefts g v ls ds
parts_of g v c ls n ds e =
    same_trees (map depths_view ds) (map (λ l. depths_in g (left_value v (left_view l))) ls)
    (node_inside n _ (trees_of (map depths_view ds)) (all_depths_in g (left_values v (lefts_of (map left_view ls)))) e ∙ sym (trees_of_lefts g v ls))

pub no_leaf : (g : KoreSignature) (c : Text) (us : model.Values) → leaf ≡ depths_in g (constructed c us) → ⊥
no_leaf g c us e = cc

-- ---- arguments of right terms

constructed_inside : (c d : Text) (us vs : model.Values) → constructed c us ≡ constructed d vs → us ≡ vs
constructed_inside c d us vs e = cc

pub values_of_terms : (v : Valuation) (c d : Text) (ts : List CompiledTerm) (us : List Value) → constructed d (values_of (map value_view us)) ≡ term_value v (built c (terms_of (map term_view ts))) → AreTermValues v ts us
values_of_terms v c d ts us e =
    same_values (map value_view us) (map (λ t. term_value v (term_view t)) ts) (constructed_inside d c _ _ e ∙ term_values-terms_of v ts)

pub next_parts : (g : KoreSignature) (v : Valuation) (xs : List Text) (i : ℕ) (ts : List CompiledTerm) (us : List Value) (ds : List Depths) (t : CompiledTerm) (u : Value) (d : Depths) →
    i < min (length ts) (length us) → t ≡ get_or ts i t → u ≡ get_or us i u → list_all (term_reads xs) ts ≡ true → AreTermValues v ts us →
    (term_reads xs t ≡ true → value_view u ≡ term_value v (term_view t) → AreDepthsOf g (value_view u) d) →
    AreDepthsOfAll g (take i us) ds → AreDepthsOfAll g (take (i + 1) us) (ds ++ d ∷ [])
next_parts g v xs i ts us ds t u d h e f reads are told z =
    let reads_it = subst (λ x. term_reads xs x ≡ true) (sym e) (passes_at (term_reads xs) ts i t (omega (arith, h)) reads) in
    let is : value_view u ≡ term_value v (term_view t) = at_place value_view (λ t. term_value v (term_view t)) i us ts u t are (omega (arith, h)) (omega (arith, h)) f e in
    one_more_part g i us ds u d (omega (arith, h)) f z (told reads_it is)
  where
    one_more_part : (g : KoreSignature) (i : ℕ) (us : List Value) (ds : List Depths) (u : Value) (d : Depths) → i < length us → u ≡ get_or us i u →
        AreDepthsOfAll g (take i us) ds → AreDepthsOf g (value_view u) d → AreDepthsOfAll g (take (i + 1) us) (ds ++ d ∷ [])
    one_more_part g i us ds u d h f z told =
        let all = λ (x : Value). depths_in g (value_view x) in
        map-append depths_view ds (d ∷ []) ∙ ap₂ (λ l x. l ++ x ∷ []) z (told ∙ ap all f) ∙ sym (map_more all us i u h)

pub all_parts : (g : KoreSignature) (v : Valuation) (i : ℕ) (ts : List CompiledTerm) (us : List Value) (ds : List Depths) → min (length ts) (length us) ≤ i → AreTermValues v ts us →
    AreDepthsOfAll g (take i us) ds → AreDepthsOfAll g us ds
all_parts g v i ts us ds h are z =
    let long : length us ≡ length ts = as_many value_view (λ t. term_value v (term_view t)) us ts are in
    subst (λ l. AreDepthsOfAll g l ds) (take_all i us (omega (arith, h, long))) z

-- ---- outcomes

-- what holds of the outcome under a premise
pub later : {X E : Type 0} (r : Result X E) (P : Type 0) (Q : X → Type 0) → (P → IfOk r Q) → IfOk r (λ x. P → Q x)
later (Ok x) P Q h = h
later (Err e) P Q h = tt
