-- How deep a value is written by itself, and each of its parts.
-- Source: this project; a term's depth counts each application, inj too, and the leaf.
use Rattle.std.specs.Prelude.{ℕ, suc, min}
use Rattle.kp_kore.specs.Limits.{most_depth}
use Rattle.kp_kore.specs.Parts.{most_term_depth}
use Rattle.kp_kore.specs.Signature.{KoreSignature}
use Rattle.kp_kore.specs.Value.{Value, whole, truth, token, constructed, Values, no_values, next_value}
use Rattle.kp_compile.specs.Spelled.{spellings, places_of}

mutual
  pub data DepthTree : Type 0 where
    -- of a literal
    leaf : DepthTree
    -- of a constructor: its levels, and the depths of its arguments
    node : ℕ → DepthTrees → DepthTree

  pub data DepthTrees : Type 0 where
    no_trees : DepthTrees
    next_tree : DepthTree → DepthTrees → DepthTrees

abbrev pub levels_of : DepthTree → ℕ
levels_of leaf = 1
levels_of (node n ds) = n

-- levels are counted up to one more than a state may have
abbrev pub counted : ℕ → ℕ
counted n = min n (suc most_depth)

-- the depths of a value: a constructor has one level more than the deepest of its arguments, each at its declared sort
abbrev mutual
  pub depths_in : KoreSignature → Value → DepthTree
  depths_in g (whole n) = leaf
  depths_in g (truth b) = leaf
  depths_in g (token s t) = leaf
  depths_in g (constructed c us) = node (counted (suc (most_term_depth (spellings g (places_of g c) us)))) (all_depths_in g us)

  pub all_depths_in : KoreSignature → Values → DepthTrees
  all_depths_in g no_values = no_trees
  all_depths_in g (next_value u us) = next_tree (depths_in g u) (all_depths_in g us)
