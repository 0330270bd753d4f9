use Rattle.std.proofs.Common.{◌≡◌, ◌∙◌, ap, sym, subst, string_bytes}
use Rattle.std.proofs.lemmas.Result.{IfOk-weaker}
use Rattle.std.specs.Str.{IsUtf8}
use Rattle.kp_additions.specs.Told.{failure_told}
use Rattle.kp_additions.proofs.Later.{looked_none}
use Rattle.kp_conn.proofs.Conversing.{at_err}
use Rattle.kp_registry.specs.Legal.{id_of}
use Rattle.kp_registry.proofs.Ascii.{id_is_text}
use Rattle.kp_replies.specs.Failures.{bad_module, duplicate}
use Rattle.kp_replies.specs.View.{addition_view}
use Rattle.kp_replies.specs.Written.{added_tree}
use Rattle.kp_rpc.specs.Reply.{reply_bytes, result_reply}
use Rattle.kp_rpc.specs.View.{id_view}
use Rattle.kp_service.proofs.Adding.{entered_line, enters_text, refused_all, refused_line_told}
use Rattle.kp_service.proofs.added.added_line.Goals as goal

pub id_line-requires : goal.id_line-requires
id_line-requires g c = record { text = subst IsUtf8 (sym c.id_of.ensures) (id_is_text c.deref.result.now) }

pub returns-in_err-line-clause-left : goal.returns-in_err-line-clause-left
returns-in_err-line-clause-left g c = at_err c.from_residual.result _ (looked_none c.args.pass.now)

pub returns-in-Ok-clause-told : goal.returns-in-Ok-clause-told
returns-in-Ok-clause-told g c =
    let registry = c.args.registry.now in
    let id = id_view c.args.id.now in
    let same : c.id_of.result ≡ c.in-Ok._same = c.id_of.ensures ∙ ap id_of c.deref.ensures.value ∙ sym c.in-Ok.ensures.id in
    let all = enters_text registry c.args.pass.now c.add_module.new.pass c.into_bytes-bytes.result.items (string_bytes c.args.text) c.args.name_as_id c.in-Ok._same (ap (λ v. v.items) c.into_bytes-bytes.ensures.value) c.in-Ok.ensures.added in
    entered_line registry c.args.pass.now c.add_module.new.pass (string_bytes c.args.text) c.args.name_as_id c.in-Ok._same id c.in_ok-line.line.items all (c.in_ok-line.ensures ∙ ap (λ m. reply_bytes (result_reply id (added_tree m))) same)

pub returns-in-Err-Bad-clause-told : goal.returns-in-Err-Bad-clause-told
returns-in-Err-Bad-clause-told g c =
    let registry = c.args.registry.now in
    let f = bad_module (addition_view c.in-Err-Bad.fault) in
    let all = refused_all registry c.add_module.new.pass c.into_bytes-bytes.result.items (string_bytes c.args.text) c.args.name_as_id _ f (ap (λ v. v.items) c.into_bytes-bytes.ensures.value) (ap failure_told c.in-Err-Bad.field-0-is) c.in-Err-Bad.ensures.refused in
    IfOk-weaker c.refused_line.result _ _ (λ line l. refused_line_told registry c.args.pass.now c.add_module.new.pass (string_bytes c.args.text) c.args.name_as_id f (id_view c.args.id.now) line.items c.add_module.ensures.pass c.in-Err-Bad.ensures.left all l) c.refused_line.ensures

pub returns-in-Err-Bad-clause-left : goal.returns-in-Err-Bad-clause-left
returns-in-Err-Bad-clause-left g c = at_err c.refused_line.result _ c.in-Err-Bad.ensures.left

pub returns-in-Err-Duplicate-clause-told : goal.returns-in-Err-Duplicate-clause-told
returns-in-Err-Duplicate-clause-told g c =
    let registry = c.args.registry.now in
    let f = duplicate c.in-Err-Duplicate.entry (string_bytes c.in-Err-Duplicate.name) in
    let all = refused_all registry c.add_module.new.pass c.into_bytes-bytes.result.items (string_bytes c.args.text) c.args.name_as_id _ f (ap (λ v. v.items) c.into_bytes-bytes.ensures.value) (ap failure_told c.in-Err-Duplicate.field-0-is) c.in-Err-Duplicate.ensures.refused in
    IfOk-weaker c.refused_line-in-Err-Duplicate.result _ _ (λ line l. refused_line_told registry c.args.pass.now c.add_module.new.pass (string_bytes c.args.text) c.args.name_as_id f (id_view c.args.id.now) line.items c.add_module.ensures.pass c.in-Err-Duplicate.ensures.left all l) c.refused_line-in-Err-Duplicate.ensures

pub returns-in-Err-Duplicate-clause-left : goal.returns-in-Err-Duplicate-clause-left
returns-in-Err-Duplicate-clause-left g c = at_err c.refused_line-in-Err-Duplicate.result _ c.in-Err-Duplicate.ensures.left
