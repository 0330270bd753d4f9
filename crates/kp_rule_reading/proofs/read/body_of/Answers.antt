use Rattle.std.proofs.Common.{rules, ◌≡◌, refl, sym, ◌∙◌, ap, subst, true, false, None}
use Rattle.std.proofs.lemmas.Bool.{MatchBool-at_true, MatchBool-at_false}
use Rattle.std.proofs.lemmas.Result.{IfOk-weaker, IfErr-weaker, err_from_is_err_and}
use Rattle.kp_kore.specs.Syntax.{rewriting}
use Rattle.kp_kore.specs.View.{view, sort_view, axiom_sentence_view}
use Rattle.kp_kore.specs.Rules.{rewrite_of}
use Rattle.kp_signature.specs.Places.{the_top}
use Rattle.kp_signature.specs.Verify.{first_fault}
use Rattle.kp_signature.specs.View.{signature_view}
use Rattle.kp_rules.specs.Bodies.{IsFaulty}
use Rattle.kp_kore.specs.Parts.{free_variables}
use Rattle.kp_kore.specs.Instance.{is_named}
use Rattle.kp_rule_reading.specs.ReadRules.{IsStatementRead, is_left_read}
use Rattle.kp_rule_reading.proofs.KnownSides.{known_right}
use Rattle.kp_rule_reading.proofs.Named.{conditions_named, right_passes}
use Rattle.kp_rules.specs.Shapes.{rewrite_seen}
use Rattle.kp_rule_reading.proofs.ReadParts.{statement_read, both_true}
use Rattle.kp_rule_reading.proofs.ReadBodies.{rewrite_body, foreign_by_statement, foreign_by_shape, shape_told, faulty, sound_where_read, no_fault, not_faulty, unread_by_shape, at_ok}
use Rattle.kp_signature.proofs.SortedRules.{rule_left_is_verified, rule_right_is_sorted}
use Rattle.kp_rule_reading.proofs.read.body_of.Goals as goal

pub returns-then-not-branch-clause-read : goal.returns-then-not-branch-clause-read
returns-then-not-branch-clause-read c =
    let g = signature_view c.args.signature.now in
    let a = axiom_sentence_view c.args.statement.now in
    let so : c.in_ok-is_read_statement.field-0 ≡ false = search rules in
    let refused : ¬ IsStatementRead g a = MatchBool-at_false (IsStatementRead g a) (¬ IsStatementRead g a) so c.in_ok-is_read_statement.ensures in
    IfOk-weaker c.foreign_body.result _ _ (λ b h. foreign_by_statement g a (sort_view c.args.sort.now) (view c.args.left.now) (view c.args.right.now) b c.requires.sides refused h) c.foreign_body.ensures.body

pub returns-then-not-branch-clause-fault : goal.returns-then-not-branch-clause-fault
returns-then-not-branch-clause-fault c = IfErr-weaker c.foreign_body.result _ _ (λ e m f. absurd (cc (sym m ∙ f))) c.foreign_body.ensures.fault

pub returns-then-not-branch-clause-unfaulty : goal.returns-then-not-branch-clause-unfaulty
returns-then-not-branch-clause-unfaulty c =
    let g = signature_view c.args.signature.now in
    let a = axiom_sentence_view c.args.statement.now in
    let so : c.in_ok-is_read_statement.field-0 ≡ false = search rules in
    let refused : ¬ IsStatementRead g a = MatchBool-at_false (IsStatementRead g a) (¬ IsStatementRead g a) so c.in_ok-is_read_statement.ensures in
    at_ok c.foreign_body.result (¬ IsFaulty g a) (not_faulty g a (λ m h. refused (statement_read g a m h)))

pub returns-in_err-check-in-Some-clause-fault : goal.returns-in_err-check-in-Some-clause-fault
returns-in_err-check-in-Some-clause-fault c =
    let g = signature_view c.args.signature.now in
    let a = axiom_sentence_view c.args.statement.now in
    let s = sort_view c.args.sort.now in
    let l = view c.args.left.now in
    let r = view c.args.right.now in
    let m = rewrite_seen r c.in-Some.shape in
    let so : c.in_ok-is_read_statement.field-0 ≡ true = search rules in
    let read : IsStatementRead g a = MatchBool-at_true (IsStatementRead g a) (¬ IsStatementRead g a) so c.in_ok-is_read_statement.ensures in
    let told = shape_told g (rewriting s l r) r c.in_ok-shape.field-0 c.in-Some.shape c.in-Some.is (c.in_ok-shape.ensures s) in
    let p = err_from_is_err_and c.from_residual-in_err-check-in-Some.result c.from_residual-in_err-check-in-Some.ensures.1 in
    rw (p.1, p.2) (λ f. faulty g a m read (ap rewrite_of c.requires.sides ∙ told.0) told.1 (c.in_err-check-in-Some.ensures.fault f))

pub returns-in_err-rewrite-in-Some-clause-fault : goal.returns-in_err-rewrite-in-Some-clause-fault
returns-in_err-rewrite-in-Some-clause-fault c =
    let g = signature_view c.args.signature.now in
    let a = axiom_sentence_view c.args.statement.now in
    let s = sort_view c.args.sort.now in
    let l = view c.args.left.now in
    let r = view c.args.right.now in
    let m = rewrite_seen r c.in-Some.shape in
    let so : c.in_ok-is_read_statement.field-0 ≡ true = search rules in
    let read : IsStatementRead g a = MatchBool-at_true (IsStatementRead g a) (¬ IsStatementRead g a) so c.in_ok-is_read_statement.ensures in
    let told = shape_told g (rewriting s l r) r c.in_ok-shape.field-0 c.in-Some.shape c.in-Some.is (c.in_ok-shape.ensures s) in
    let sound = sound_where_read g a s l r m c.requires.sides read told.0 told.1 c.in_ok-check-in-Some.ensures.verified c.in_ok-check-in-Some.ensures.injections c.in_ok-check-in-Some.ensures.declared in
    let p = err_from_is_err_and c.from_residual-in_err-rewrite-in-Some.result c.from_residual-in_err-rewrite-in-Some.ensures.1 in
    rw (p.1, p.2) (λ f. absurd (cc (sym (c.in_err-rewrite-in-Some.ensures.sound sound) ∙ f)))

pub returns-in_ok-rewrite-in-Some-clause-read : goal.returns-in_ok-rewrite-in-Some-clause-read
returns-in_ok-rewrite-in-Some-clause-read c =
    let g = signature_view c.args.signature.now in
    let a = axiom_sentence_view c.args.statement.now in
    let s = sort_view c.args.sort.now in
    let l = view c.args.left.now in
    let r = view c.args.right.now in
    let m = rewrite_seen r c.in-Some.shape in
    let so : c.in_ok-is_read_statement.field-0 ≡ true = search rules in
    let read : IsStatementRead g a = MatchBool-at_true (IsStatementRead g a) (¬ IsStatementRead g a) so c.in_ok-is_read_statement.ensures in
    let told = shape_told g (rewriting s l r) r c.in_ok-shape.field-0 c.in-Some.shape c.in-Some.is (c.in_ok-shape.ensures s) in
    rewrite_body g a s l r m c.in_ok-rewrite-in-Some.rewrite c.requires.sides (rule_left_is_verified g s l r m) (rule_right_is_sorted g s l r m)
    read told.0 told.1 c.in_ok-check-in-Some.ensures.verified c.in_ok-check-in-Some.ensures.injections c.in_ok-check-in-Some.ensures.declared refl c.in_ok-rewrite-in-Some.ensures.made.0 c.in_ok-rewrite-in-Some.ensures.made.1

pub returns-in_ok-rewrite-in-Some-clause-unfaulty : goal.returns-in_ok-rewrite-in-Some-clause-unfaulty
returns-in_ok-rewrite-in-Some-clause-unfaulty c =
    no_fault (signature_view c.args.signature.now) (axiom_sentence_view c.args.statement.now) c.in_ok-check-in-Some.ensures.verified c.in_ok-check-in-Some.ensures.injections c.in_ok-check-in-Some.ensures.declared

pub returns-in-None-clause-read : goal.returns-in-None-clause-read
returns-in-None-clause-read c =
    let g = signature_view c.args.signature.now in
    let s = sort_view c.args.sort.now in
    let l = view c.args.left.now in
    let r = view c.args.right.now in
    IfOk-weaker c.foreign_body-in-None.result _ _ (λ b h. foreign_by_shape g (axiom_sentence_view c.args.statement.now) s l r b c.in_ok-shape.field-0 c.requires.sides c.in-None.is (c.in_ok-shape.ensures s) h) c.foreign_body-in-None.ensures.body

pub returns-in-None-clause-fault : goal.returns-in-None-clause-fault
returns-in-None-clause-fault c = IfErr-weaker c.foreign_body-in-None.result _ _ (λ e m f. absurd (cc (sym m ∙ f))) c.foreign_body-in-None.ensures.fault

pub returns-in-None-clause-unfaulty : goal.returns-in-None-clause-unfaulty
returns-in-None-clause-unfaulty c =
    let g = signature_view c.args.signature.now in
    let a = axiom_sentence_view c.args.statement.now in
    let s = sort_view c.args.sort.now in
    let l = view c.args.left.now in
    let r = view c.args.right.now in
    at_ok c.foreign_body-in-None.result (¬ IsFaulty g a) (not_faulty g a (unread_by_shape g a s l r c.in_ok-shape.field-0 c.requires.sides c.in-None.is (c.in_ok-shape.ensures s)))

pub rewrite_from-requires-clause-condition : goal.rewrite_from-requires-clause-condition
rewrite_from-requires-clause-condition c =
    let g = signature_view c.args.signature.now in
    let s = sort_view c.args.sort.now in
    let l = view c.args.left.now in
    let r = view c.args.right.now in
    let told = shape_told g (rewriting s l r) r c.in_ok-shape.field-0 c.in-Some.shape c.in-Some.is (c.in_ok-shape.ensures s) in
    let m = rewrite_seen r c.in-Some.shape in
    conditions_named (λ y. is_named y (free_variables m.left)) m.condition (both_true (is_left_read g m.left) _ told.1.side).1

pub rewrite_from-requires-clause-right : goal.rewrite_from-requires-clause-right
rewrite_from-requires-clause-right c =
    let g = signature_view c.args.signature.now in
    let s = sort_view c.args.sort.now in
    let l = view c.args.left.now in
    let r = view c.args.right.now in
    let told = shape_told g (rewriting s l r) r c.in_ok-shape.field-0 c.in-Some.shape c.in-Some.is (c.in_ok-shape.ensures s) in
    right_passes s l r (rewrite_seen r c.in-Some.shape) told.0

pub rewrite_from-requires-clause-known : goal.rewrite_from-requires-clause-known
rewrite_from-requires-clause-known c =
    let g = signature_view c.args.signature.now in
    let s = sort_view c.args.sort.now in
    let l = view c.args.left.now in
    let r = view c.args.right.now in
    let told = shape_told g (rewriting s l r) r c.in_ok-shape.field-0 c.in-Some.shape c.in-Some.is (c.in_ok-shape.ensures s) in
    known_right g s l r (rewrite_seen r c.in-Some.shape) (subst (λ p. first_fault g the_top p ≡ None) c.requires.sides c.in_ok-check-in-Some.ensures.verified) told.0
