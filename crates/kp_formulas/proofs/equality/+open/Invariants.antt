use Rattle.std.proofs.Common.{◌≡◌, ◌++◌, ◌+◌, ◌*◌, map, drop}
use Rattle.kp_signature.specs.View.{signature_view}
use Rattle.kp_symbolic.specs.View.{term_view, terms_of}
use Rattle.kp_formulas.specs.FormulaView.{formula_view}
use Rattle.kp_formulas.proofs.SeenLemmas.{members_after}
use Rattle.kp_formulas.proofs.Sizes.{term_size, terms_size}
use Rattle.kp_formulas.proofs.equality.+open.Given as goal

abbrev pub decreases-open_told : goal.decreases-open_told
decreases-open_told l = 16 * term_size (term_view l.term.now)

abbrev pub decreases-open_asked : goal.decreases-open_asked
decreases-open_asked l = 16 * term_size (term_view l.term.now) + 1

abbrev pub decreases-open_pair : goal.decreases-open_pair
decreases-open_pair l = 16 * (term_size (term_view l.left.now) + term_size (term_view l.right.now)) + 2

abbrev pub decreases-open_agreement : goal.decreases-open_agreement
decreases-open_agreement l = 16 * (term_size (term_view l.left.now) + term_size (term_view l.right.now)) + 3

abbrev pub decreases-open_connected : goal.decreases-open_connected
decreases-open_connected l = 16 * (term_size (term_view l.left.now) + term_size (term_view l.right.now)) + 4

abbrev pub decreases-open_truths : goal.decreases-open_truths
decreases-open_truths l = 16 * (term_size (term_view l.left.now) + term_size (term_view l.right.now)) + 4

abbrev pub decreases-open_alike : goal.decreases-open_alike
decreases-open_alike l = 16 * (term_size (term_view l.left.now) + term_size (term_view l.right.now)) + 1

abbrev pub decreases-open_constructed : goal.decreases-open_constructed
decreases-open_constructed l = 16 * (term_size (term_view l.left.now) + term_size (term_view l.right.now)) + 5

abbrev pub decreases-open_sides : goal.decreases-open_sides
decreases-open_sides l = 16 * (term_size (term_view l.left.now) + term_size (term_view l.right.now)) + 6

abbrev pub decreases-open_member : goal.decreases-open_member
decreases-open_member l = 16 * (term_size (term_view l.left.now) + term_size (term_view l.right.now)) + 7

abbrev pub decreases-open_compared : goal.decreases-open_compared
decreases-open_compared l = 16 * (term_size (term_view l.left.now) + term_size (term_view l.right.now)) + 7

abbrev pub decreases-open_members : goal.decreases-open_members
decreases-open_members l = 16 * (terms_size (terms_of (map term_view l.lefts.now)) + terms_size (terms_of (map term_view l.rights.now))) + 8

abbrev pub decreases-open_listed : goal.decreases-open_listed
decreases-open_listed l = 16 * (terms_size (terms_of (map term_view l.lefts.now)) + terms_size (terms_of (map term_view l.rights.now))) + 9

abbrev pub decreases-open_two : goal.decreases-open_two
decreases-open_two l = 16 * terms_size (terms_of (map term_view l.arguments.now)) + 8

abbrev pub decreases-open_negation : goal.decreases-open_negation
decreases-open_negation l = 16 * terms_size (terms_of (map term_view l.arguments.now)) + 8

abbrev pub decreases-open_call : goal.decreases-open_call
decreases-open_call l = 16 * terms_size (terms_of (map term_view l.arguments.now)) + 9

abbrev pub invariant-open_members-loop-place : goal.invariant-open_members-loop-place
invariant-open_members-loop-place l =
    map formula_view l.parts.items ++ members_after (signature_view l.signature) l.alone l.sign (drop l.place l.sorts) (drop l.place l.lefts) (drop l.place l.rights)
    ≡ members_after (signature_view l.signature) l.alone l.sign l.sorts l.lefts l.rights
