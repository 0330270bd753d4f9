-- Which depths the code's depths are, and whose.
use Rattle.std.specs.Prelude.{◌≡◌, List, [], ◌∷◌, map}
use Rattle.kp_kore.specs.Signature.{KoreSignature}
use Rattle.kp_kore.specs.Syntax.{Text}
use Rattle.kp_kore.specs.Value as model
use Rattle.kp_kore.specs.Instance.{Valuation}
use Rattle.kp_ground.specs.LeftView.{left_view}
use Rattle.kp_ground.specs.Slots.{Place, joined, left_places}
use Rattle.kp_ground.specs.TermView.{term_view}
use Rattle.kp_ground.specs.Terms.{left_value, term_value}
use Rattle.kp_ground.specs.View.{value_view}
use Rattle.kp_ground.specs.declared.left_side.CompiledLeft.{CompiledLeft}
use Rattle.kp_ground.specs.declared.term.CompiledTerm.{CompiledTerm}
use Rattle.kp_ground.specs.declared.value.Value.{Value}
use Rattle.kp_run.specs.Depths.{DepthTree, leaf, node, DepthTrees, no_trees, next_tree, depths_in}
use Rattle.kp_run.specs.declared.depths.Depths.{Depths, fold-Depths}
use Rattle.kp_run.specs.declared.depths.Depths.TheOpen.{Depths-F}

abbrev pub trees_of : List DepthTree → DepthTrees
trees_of [] = no_trees
trees_of (d ∷ ds) = next_tree d (trees_of ds)

-- one level, with the depths of each argument already seen
abbrev pub depths_step : Depths-F DepthTree → DepthTree
depths_step Depths-F.One = leaf
depths_step (Depths-F.Built n ds) = node n (trees_of ds.value.items)

abbrev pub depths_view : Depths → DepthTree
depths_view = fold-Depths DepthTree depths_step

-- they are the depths of the value
abbrev pub AreDepthsOf : KoreSignature → model.Value → Depths → Type 0
AreDepthsOf g u d = depths_view d ≡ depths_in g u

-- of the code's values, one by one
abbrev pub AreDepthsOfAll : KoreSignature → List Value → List Depths → Type 0
AreDepthsOfAll g us ds = map depths_view ds ≡ map (λ u. depths_in g (value_view u)) us

-- of what the valuation gives these names, one by one
abbrev pub AreDepthsUnder : KoreSignature → Valuation → List Text → List Depths → Type 0
AreDepthsUnder g v xs ds = map depths_view ds ≡ map (λ x. depths_in g (v x)) xs

-- of the instance of a left term
abbrev pub AreDepthsOfLeft : KoreSignature → Valuation → CompiledLeft → Depths → Type 0
AreDepthsOfLeft g v l d = AreDepthsOf g (left_value v (left_view l)) d

-- of the instances of left terms, one by one
abbrev pub AreDepthsOfLefts : KoreSignature → Valuation → List CompiledLeft → List Depths → Type 0
AreDepthsOfLefts g v ls ds = map depths_view ds ≡ map (λ l. depths_in g (left_value v (left_view l))) ls

-- the places of the variables of left terms, from the left
abbrev pub places_of_lefts : List CompiledLeft → List Place
places_of_lefts ls = joined (map left_places ls)

-- the value is that of the term
abbrev pub IsTermValue : Valuation → CompiledTerm → Value → Type 0
IsTermValue v t u = value_view u ≡ term_value v (term_view t)

-- the values are those of the terms, one by one
abbrev pub AreTermValues : Valuation → List CompiledTerm → List Value → Type 0
AreTermValues v ts us = map value_view us ≡ map (λ t. term_value v (term_view t)) ts
