use Rattle.std.proofs.Common.{◌≡◌, ◌+◌, ◌++◌, List, drop}
use Rattle.kp_kore.specs.Parts.{SortedName}
use Rattle.kp_kore.specs.View.{sort_view, sorts_view, patterns_view}
use Rattle.kp_signature.specs.Places.{Place}
use Rattle.kp_signature.specs.Scopes.{Knows, part_place}
use Rattle.kp_signature.specs.Verify.{arguments_fault, members_fault}
use Rattle.kp_signature.specs.View.{signature_view}
use Rattle.kp_signature.proofs.VerifyLemmas.{with_found, found_in}
use Rattle.kp_signature.proofs.verification.+verify.Given as goal

abbrev pub invariant-verify_arguments-loop-i : goal.invariant-verify_arguments-loop-i
invariant-verify_arguments-loop-i l = record {
  knows : (s : List SortedName) → Knows s l.fn.scope → Knows (s ++ found_in l.arguments l.i) l.scope;
  faults : (c : Place) → c.depth + 1 ≡ l.depth → Knows c.scope l.fn.scope → arguments_fault (signature_view l.signature) c (sorts_view l.places) (patterns_view l.arguments) ≡ arguments_fault (signature_view l.signature) (with_found c (found_in l.arguments l.i)) (sorts_view (drop l.i l.places)) (patterns_view (drop l.i l.arguments));
}

abbrev pub invariant-verify_members-loop-member : goal.invariant-verify_members-loop-member
invariant-verify_members-loop-member l = record {
  knows : (s : List SortedName) → Knows s l.fn.scope → Knows (s ++ found_in l.members l.member-index) l.scope;
  faults : (s : List SortedName) → Knows s l.fn.scope → members_fault (signature_view l.signature) (part_place (sort_view l.sort) s) (patterns_view l.members) ≡ members_fault (signature_view l.signature) (with_found (part_place (sort_view l.sort) s) (found_in l.members l.member-index)) (patterns_view (drop l.member-index l.members));
}
