use Rattle.std.proofs.Common.{◌≡◌, map, take, true}
use Rattle.kp_kore.specs.Parts.{all_free_variables}
use Rattle.kp_kore.specs.View.{patterns_view}
use Rattle.kp_ground.specs.Slots.{is_numbered, joined, left_places, names_after}
use Rattle.kp_signature.specs.View.{signature_view}
use Rattle.kp_compile.specs.Exact.{AreLeftsOf}
use Rattle.kp_compile.specs.Names.{names_seen}
use Rattle.kp_compile.proofs.left_side.+compile.Given as goal

abbrev pub invariant-compile_each-loop-pattern : goal.invariant-compile_each-loop-pattern
invariant-compile_each-loop-pattern l = record {
  meaning : AreLeftsOf (signature_view l.signature) (take l.pattern-index l.patterns) l.lefts.items;
  places : map (λ x. x.name) (joined (map left_places l.lefts.items)) ≡ map (λ x. x.name) (all_free_variables (patterns_view (take l.pattern-index l.patterns)));
  numbered : is_numbered (names_seen l.fn.names) (joined (map left_places l.lefts.items)) ≡ true;
  names : names_seen l.names ≡ names_after (names_seen l.fn.names) (joined (map left_places l.lefts.items));
}
