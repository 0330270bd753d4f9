use Rattle.std.proofs.Common.{rules, ◌≡◌, sym, subst, ap, ◌∙◌, [], ◌++◌, drop, map, string_bytes, arith}
use Rattle.std.specs.List.{AllByRecursion}
use Rattle.std.proofs.lemmas.List.{append-nil, drop_all}
use Rattle.std.proofs.lemmas.Result.{err_from_is_err_and}
use Rattle.kp_kore.specs.Syntax.{negation, conjunction, disjunction, implication, equivalence, exists, forall, ceil, floor, equals, membership}
use Rattle.kp_kore.specs.View.{view, sort_view, patterns_view}
use Rattle.kp_kore.specs.declared.pattern.Pattern.{the_lemmas}
use Rattle.kp_signature.specs.View.{signature_view}
use Rattle.kp_symbolic.specs.Writing.{written_under}
use Rattle.kp_symbolic_laws.specs.Runs.{HasRoom}
use Rattle.kp_symbolic.specs.Faultless.{IsFaultless}
use Rattle.kp_symbolic.specs.View.{replaced_view}
use Rattle.kp_outward.specs.Parts.{HasRoomUnder}
use Rattle.kp_outward.proofs.BoundLemmas.{all_written}
use Rattle.kp_symbolic.proofs.FaultlessParts.{of_negation, of_conjunction, of_disjunction, first_implied, second_implied, first_equivalent, second_equivalent, of_exists, of_forall, of_ceil, of_floor, first_equal, second_equal, first_in, second_in}
use Rattle.kp_outward.proofs.TermRoom.{room_further, room_of_all, written_further}
use Rattle.kp_outward.proofs.quoted.+quoted.Goals as goal

pub all_quoted-returns-clause-written : goal.all_quoted-returns-clause-written
all_quoted-returns-clause-written t c =
    let g = signature_view c.args.language.now.signature.now in
    let rs = map replaced_view c.args.replaced.now in
    let found = map view c.loop-pattern.found.items in
    let done : drop c.loop-pattern.pattern-index c.args.patterns.now ≡ [] = drop_all c.loop-pattern.pattern-index c.args.patterns.now (omega arith) in
    let all : found ≡ map (λ p. written_under g rs (view p)) c.args.patterns.now =
    sym (append-nil found) ∙ sym (ap (λ ps. found ++ map (λ p. written_under g rs (view p)) ps) done) ∙ c.loop-pattern.invariant.0 in
    all_written g rs c.loop-pattern.found.items c.args.patterns.now all

pub all_quoted-loop-pattern-preserved : goal.all_quoted-loop-pattern-preserved
all_quoted-loop-pattern-preserved t c = (
  written_further (λ p. written_under (signature_view c.args.language.now.signature.now) (map replaced_view c.args.replaced.now) (view p)) c.loop-pattern.pattern-index c.args.patterns.now c.pattern-item.result c.loop-pattern.found.items c.push.new.self.items c.in_ok-quoted_out.field-0 c.loop-pattern-test.true c.pattern-item.is c.in_ok-push.ensures.items c.in_ok-quoted_out.ensures.written c.loop-pattern.invariant.0,
  room_further (map replaced_view c.args.replaced.now) c.loop-pattern.pattern-index c.args.patterns.now c.pattern-item.result c.loop-pattern-test.true c.pattern-item.is c.in_ok-quoted_out.ensures.room c.loop-pattern.invariant.1,
)

pub all_quoted-returns-clause-room : goal.all_quoted-returns-clause-room
all_quoted-returns-clause-room t c = room_of_all (map replaced_view c.args.replaced.now) c.loop-pattern.pattern-index c.args.patterns.now (omega arith) c.loop-pattern.invariant.1

pub quoted_out-returns-in_err-pattern-in-Not-clause-refused : goal.quoted_out-returns-in_err-pattern-in-Not-clause-refused
quoted_out-returns-in_err-pattern-in-Not-clause-refused t c =
    let g = signature_view c.args.language.now.signature.now in
    let p = err_from_is_err_and c.from_residual.result c.from_residual.ensures.1 in
    let is : view c.args.pattern.now ≡ negation (sort_view c.in-Not.sort) (view c.in-Not.pattern.value) = search (rules, the_lemmas) in
    rw (p.1, p.2) (λ faultless. c.in_err-pattern-in-Not.ensures.refused (subst (λ q. IsFaultless g (view q)) (sym c.deref.ensures) (of_negation g (sort_view c.in-Not.sort) (view c.in-Not.pattern.value) (subst (IsFaultless g) is faultless))))

pub quoted_out-returns-in_err-patterns-in-And-clause-refused : goal.quoted_out-returns-in_err-patterns-in-And-clause-refused
quoted_out-returns-in_err-patterns-in-And-clause-refused t c =
    let g = signature_view c.args.language.now.signature.now in
    let p = err_from_is_err_and c.from_residual-in_err-patterns-in-And.result c.from_residual-in_err-patterns-in-And.ensures.1 in
    let is : view c.args.pattern.now ≡ conjunction (sort_view c.in-And.sort) (patterns_view c.in-And.patterns.items) = search (rules, the_lemmas) in
    rw (p.1, p.2) (λ faultless. c.in_err-patterns-in-And.ensures.refused (subst (AllByRecursion (λ q. IsFaultless g (view q))) (sym c.deref-in-And.ensures.value) (of_conjunction g (sort_view c.in-And.sort) c.in-And.patterns.items (subst (IsFaultless g) is faultless))))

pub quoted_out-returns-in_err-patterns-in-Or-clause-refused : goal.quoted_out-returns-in_err-patterns-in-Or-clause-refused
quoted_out-returns-in_err-patterns-in-Or-clause-refused t c =
    let g = signature_view c.args.language.now.signature.now in
    let p = err_from_is_err_and c.from_residual-in_err-patterns-in-Or.result c.from_residual-in_err-patterns-in-Or.ensures.1 in
    let is : view c.args.pattern.now ≡ disjunction (sort_view c.in-Or.sort) (patterns_view c.in-Or.patterns.items) = search (rules, the_lemmas) in
    rw (p.1, p.2) (λ faultless. c.in_err-patterns-in-Or.ensures.refused (subst (AllByRecursion (λ q. IsFaultless g (view q))) (sym c.deref-in-Or.ensures.value) (of_disjunction g (sort_view c.in-Or.sort) c.in-Or.patterns.items (subst (IsFaultless g) is faultless))))

pub quoted_out-returns-in_err-left-in-Implies-clause-refused : goal.quoted_out-returns-in_err-left-in-Implies-clause-refused
quoted_out-returns-in_err-left-in-Implies-clause-refused t c =
    let g = signature_view c.args.language.now.signature.now in
    let p = err_from_is_err_and c.from_residual-in_err-left-in-Implies.result c.from_residual-in_err-left-in-Implies.ensures.1 in
    let is : view c.args.pattern.now ≡ implication (sort_view c.in-Implies.sort) (view c.in-Implies.left.value) (view c.in-Implies.right.value) = search (rules, the_lemmas) in
    rw (p.1, p.2) (λ faultless. c.in_err-left-in-Implies.ensures.refused (subst (λ q. IsFaultless g (view q)) (sym c.deref-in-Implies.ensures) (first_implied g (sort_view c.in-Implies.sort) (view c.in-Implies.left.value) (view c.in-Implies.right.value) (subst (IsFaultless g) is faultless))))

pub quoted_out-returns-in_err-right-in-Implies-clause-refused : goal.quoted_out-returns-in_err-right-in-Implies-clause-refused
quoted_out-returns-in_err-right-in-Implies-clause-refused t c =
    let g = signature_view c.args.language.now.signature.now in
    let p = err_from_is_err_and c.from_residual-in_err-right-in-Implies.result c.from_residual-in_err-right-in-Implies.ensures.1 in
    let is : view c.args.pattern.now ≡ implication (sort_view c.in-Implies.sort) (view c.in-Implies.left.value) (view c.in-Implies.right.value) = search (rules, the_lemmas) in
    rw (p.1, p.2) (λ faultless. c.in_err-right-in-Implies.ensures.refused (subst (λ q. IsFaultless g (view q)) (sym c.deref-in-Implies-2.ensures) (second_implied g (sort_view c.in-Implies.sort) (view c.in-Implies.left.value) (view c.in-Implies.right.value) (subst (IsFaultless g) is faultless))))

pub quoted_out-returns-in_err-left-in-Iff-clause-refused : goal.quoted_out-returns-in_err-left-in-Iff-clause-refused
quoted_out-returns-in_err-left-in-Iff-clause-refused t c =
    let g = signature_view c.args.language.now.signature.now in
    let p = err_from_is_err_and c.from_residual-in_err-left-in-Iff.result c.from_residual-in_err-left-in-Iff.ensures.1 in
    let is : view c.args.pattern.now ≡ equivalence (sort_view c.in-Iff.sort) (view c.in-Iff.left.value) (view c.in-Iff.right.value) = search (rules, the_lemmas) in
    rw (p.1, p.2) (λ faultless. c.in_err-left-in-Iff.ensures.refused (subst (λ q. IsFaultless g (view q)) (sym c.deref-in-Iff.ensures) (first_equivalent g (sort_view c.in-Iff.sort) (view c.in-Iff.left.value) (view c.in-Iff.right.value) (subst (IsFaultless g) is faultless))))

pub quoted_out-returns-in_err-right-in-Iff-clause-refused : goal.quoted_out-returns-in_err-right-in-Iff-clause-refused
quoted_out-returns-in_err-right-in-Iff-clause-refused t c =
    let g = signature_view c.args.language.now.signature.now in
    let p = err_from_is_err_and c.from_residual-in_err-right-in-Iff.result c.from_residual-in_err-right-in-Iff.ensures.1 in
    let is : view c.args.pattern.now ≡ equivalence (sort_view c.in-Iff.sort) (view c.in-Iff.left.value) (view c.in-Iff.right.value) = search (rules, the_lemmas) in
    rw (p.1, p.2) (λ faultless. c.in_err-right-in-Iff.ensures.refused (subst (λ q. IsFaultless g (view q)) (sym c.deref-in-Iff-2.ensures) (second_equivalent g (sort_view c.in-Iff.sort) (view c.in-Iff.left.value) (view c.in-Iff.right.value) (subst (IsFaultless g) is faultless))))

pub quoted_out-returns-in_err-other-in-Exists-clause-refused : goal.quoted_out-returns-in_err-other-in-Exists-clause-refused
quoted_out-returns-in_err-other-in-Exists-clause-refused t c =
    let g = signature_view c.args.language.now.signature.now in
    let p = err_from_is_err_and c.from_residual-in_err-other-in-Exists.result c.from_residual-in_err-other-in-Exists.ensures.1 in
    let is : view c.args.pattern.now ≡ exists (sort_view c.in-Exists.sort) (string_bytes c.in-Exists.name) (sort_view c.in-Exists.name_sort) (view c.in-Exists.pattern.value) = search (rules, the_lemmas) in
    rw (p.1, p.2) (λ faultless. c.in_err-other-in-Exists.ensures.refused (subst (λ q. IsFaultless g (view q)) (sym c.deref-in-Exists.ensures) (of_exists g (sort_view c.in-Exists.sort) (string_bytes c.in-Exists.name) (sort_view c.in-Exists.name_sort) (view c.in-Exists.pattern.value) (subst (IsFaultless g) is faultless))))

pub quoted_out-returns-in_err-other-in-Forall-clause-refused : goal.quoted_out-returns-in_err-other-in-Forall-clause-refused
quoted_out-returns-in_err-other-in-Forall-clause-refused t c =
    let g = signature_view c.args.language.now.signature.now in
    let p = err_from_is_err_and c.from_residual-in_err-other-in-Forall.result c.from_residual-in_err-other-in-Forall.ensures.1 in
    let is : view c.args.pattern.now ≡ forall (sort_view c.in-Forall.sort) (string_bytes c.in-Forall.name) (sort_view c.in-Forall.name_sort) (view c.in-Forall.pattern.value) = search (rules, the_lemmas) in
    rw (p.1, p.2) (λ faultless. c.in_err-other-in-Forall.ensures.refused (subst (λ q. IsFaultless g (view q)) (sym c.deref-in-Forall.ensures) (of_forall g (sort_view c.in-Forall.sort) (string_bytes c.in-Forall.name) (sort_view c.in-Forall.name_sort) (view c.in-Forall.pattern.value) (subst (IsFaultless g) is faultless))))

pub quoted_out-returns-in_err-pattern-in-Ceil-clause-refused : goal.quoted_out-returns-in_err-pattern-in-Ceil-clause-refused
quoted_out-returns-in_err-pattern-in-Ceil-clause-refused t c =
    let g = signature_view c.args.language.now.signature.now in
    let p = err_from_is_err_and c.from_residual-in_err-pattern-in-Ceil.result c.from_residual-in_err-pattern-in-Ceil.ensures.1 in
    let is : view c.args.pattern.now ≡ ceil (sort_view c.in-Ceil.argument_sort) (sort_view c.in-Ceil.sort) (view c.in-Ceil.pattern.value) = search (rules, the_lemmas) in
    rw (p.1, p.2) (λ faultless. c.in_err-pattern-in-Ceil.ensures.refused (subst (λ q. IsFaultless g (view q)) (sym c.deref-in-Ceil.ensures) (of_ceil g (sort_view c.in-Ceil.argument_sort) (sort_view c.in-Ceil.sort) (view c.in-Ceil.pattern.value) (subst (IsFaultless g) is faultless))))

pub quoted_out-returns-in_err-pattern-in-Floor-clause-refused : goal.quoted_out-returns-in_err-pattern-in-Floor-clause-refused
quoted_out-returns-in_err-pattern-in-Floor-clause-refused t c =
    let g = signature_view c.args.language.now.signature.now in
    let p = err_from_is_err_and c.from_residual-in_err-pattern-in-Floor.result c.from_residual-in_err-pattern-in-Floor.ensures.1 in
    let is : view c.args.pattern.now ≡ floor (sort_view c.in-Floor.argument_sort) (sort_view c.in-Floor.sort) (view c.in-Floor.pattern.value) = search (rules, the_lemmas) in
    rw (p.1, p.2) (λ faultless. c.in_err-pattern-in-Floor.ensures.refused (subst (λ q. IsFaultless g (view q)) (sym c.deref-in-Floor.ensures) (of_floor g (sort_view c.in-Floor.argument_sort) (sort_view c.in-Floor.sort) (view c.in-Floor.pattern.value) (subst (IsFaultless g) is faultless))))

pub quoted_out-returns-in_err-left-in-Equals-clause-refused : goal.quoted_out-returns-in_err-left-in-Equals-clause-refused
quoted_out-returns-in_err-left-in-Equals-clause-refused t c =
    let g = signature_view c.args.language.now.signature.now in
    let p = err_from_is_err_and c.from_residual-in_err-left-in-Equals.result c.from_residual-in_err-left-in-Equals.ensures.1 in
    let is : view c.args.pattern.now ≡ equals (sort_view c.in-Equals.argument_sort) (sort_view c.in-Equals.sort) (view c.in-Equals.left.value) (view c.in-Equals.right.value) = search (rules, the_lemmas) in
    rw (p.1, p.2) (λ faultless. c.in_err-left-in-Equals.ensures.refused (subst (λ q. IsFaultless g (view q)) (sym c.deref-in-Equals.ensures) (first_equal g (sort_view c.in-Equals.argument_sort) (sort_view c.in-Equals.sort) (view c.in-Equals.left.value) (view c.in-Equals.right.value) (subst (IsFaultless g) is faultless))))

pub quoted_out-returns-in_err-right-in-Equals-clause-refused : goal.quoted_out-returns-in_err-right-in-Equals-clause-refused
quoted_out-returns-in_err-right-in-Equals-clause-refused t c =
    let g = signature_view c.args.language.now.signature.now in
    let p = err_from_is_err_and c.from_residual-in_err-right-in-Equals.result c.from_residual-in_err-right-in-Equals.ensures.1 in
    let is : view c.args.pattern.now ≡ equals (sort_view c.in-Equals.argument_sort) (sort_view c.in-Equals.sort) (view c.in-Equals.left.value) (view c.in-Equals.right.value) = search (rules, the_lemmas) in
    rw (p.1, p.2) (λ faultless. c.in_err-right-in-Equals.ensures.refused (subst (λ q. IsFaultless g (view q)) (sym c.deref-in-Equals-2.ensures) (second_equal g (sort_view c.in-Equals.argument_sort) (sort_view c.in-Equals.sort) (view c.in-Equals.left.value) (view c.in-Equals.right.value) (subst (IsFaultless g) is faultless))))

pub quoted_out-returns-in_err-left-in-In-clause-refused : goal.quoted_out-returns-in_err-left-in-In-clause-refused
quoted_out-returns-in_err-left-in-In-clause-refused t c =
    let g = signature_view c.args.language.now.signature.now in
    let p = err_from_is_err_and c.from_residual-in_err-left-in-In.result c.from_residual-in_err-left-in-In.ensures.1 in
    let is : view c.args.pattern.now ≡ membership (sort_view c.in-In.argument_sort) (sort_view c.in-In.sort) (view c.in-In.left.value) (view c.in-In.right.value) = search (rules, the_lemmas) in
    rw (p.1, p.2) (λ faultless. c.in_err-left-in-In.ensures.refused (subst (λ q. IsFaultless g (view q)) (sym c.deref-in-In.ensures) (first_in g (sort_view c.in-In.argument_sort) (sort_view c.in-In.sort) (view c.in-In.left.value) (view c.in-In.right.value) (subst (IsFaultless g) is faultless))))

pub quoted_out-returns-in_err-right-in-In-clause-refused : goal.quoted_out-returns-in_err-right-in-In-clause-refused
quoted_out-returns-in_err-right-in-In-clause-refused t c =
    let g = signature_view c.args.language.now.signature.now in
    let p = err_from_is_err_and c.from_residual-in_err-right-in-In.result c.from_residual-in_err-right-in-In.ensures.1 in
    let is : view c.args.pattern.now ≡ membership (sort_view c.in-In.argument_sort) (sort_view c.in-In.sort) (view c.in-In.left.value) (view c.in-In.right.value) = search (rules, the_lemmas) in
    rw (p.1, p.2) (λ faultless. c.in_err-right-in-In.ensures.refused (subst (λ q. IsFaultless g (view q)) (sym c.deref-in-In-2.ensures) (second_in g (sort_view c.in-In.argument_sort) (sort_view c.in-In.sort) (view c.in-In.left.value) (view c.in-In.right.value) (subst (IsFaultless g) is faultless))))

pub quoted_out-returns-in_ok-exists_of-in-Exists-clause-room : goal.quoted_out-returns-in_ok-exists_of-in-Exists-clause-room
quoted_out-returns-in_ok-exists_of-in-Exists-clause-room t c =
    let rs = map replaced_view c.args.replaced.now in
    let is : view c.args.pattern.now ≡ exists (sort_view c.in-Exists.sort) (string_bytes c.in-Exists.name) (sort_view c.in-Exists.name_sort) (view c.in-Exists.pattern.value) = search (rules, the_lemmas) in
    subst (HasRoom rs) (sym is) (subst (λ q. HasRoomUnder rs (string_bytes c.in-Exists.name) (sort_view c.in-Exists.name_sort) (view q)) c.deref-in-Exists.ensures c.in_ok-other-in-Exists.ensures.room)

pub quoted_out-returns-in_ok-forall_of-in-Forall-clause-room : goal.quoted_out-returns-in_ok-forall_of-in-Forall-clause-room
quoted_out-returns-in_ok-forall_of-in-Forall-clause-room t c =
    let rs = map replaced_view c.args.replaced.now in
    let is : view c.args.pattern.now ≡ forall (sort_view c.in-Forall.sort) (string_bytes c.in-Forall.name) (sort_view c.in-Forall.name_sort) (view c.in-Forall.pattern.value) = search (rules, the_lemmas) in
    subst (HasRoom rs) (sym is) (subst (λ q. HasRoomUnder rs (string_bytes c.in-Forall.name) (sort_view c.in-Forall.name_sort) (view q)) c.deref-in-Forall.ensures c.in_ok-other-in-Forall.ensures.room)
