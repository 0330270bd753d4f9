-- The text of a pattern's tree is the pattern's text.
use Rattle.std.proofs.Common.{◌≡◌, ap, ◌∙◌, false, List, [], ℕ, Some, option_map}
use Rattle.std.specs.Prelude.{unwrap_or}
use Rattle.serde_json.specs.Data.{Data}
use Rattle.serde_json.specs.Written.{has_float, compact_text}
use Rattle.kp_kore.specs.Syntax.{KorePattern}
use Rattle.kp_json.specs.Written.{wrapped_pattern}
use Rattle.kp_rpc.proofs.Floats.{plain_is, wrapped_is_plain}
use Rattle.kp_outward.specs.Order.{json_text}

pub tree_text : (p : KorePattern) (d : Data) (text : List ℕ) → Some d ≡ wrapped_pattern p → (has_float d ≡ false → text ≡ compact_text d) → text ≡ json_text p
tree_text p d text e h = h (plain_is (wrapped_pattern p) d (wrapped_is_plain p) e) ∙ ap (λ o. unwrap_or (option_map compact_text o) []) e
