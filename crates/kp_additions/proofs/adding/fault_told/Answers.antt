use Rattle.std.proofs.Common.{subst, ◌∙◌, string_bytes}
use Rattle.kp_registry.specs.Refusals.{IsRefused}
use Rattle.kp_replies.specs.Failures.{bad_module, duplicate, full_book}
use Rattle.kp_additions.proofs.Telling.{of_duplicate, of_room, told}
use Rattle.kp_additions.proofs.adding.fault_told.Goals as goal

pub returns-in-Duplicate : goal.returns-in-Duplicate
returns-in-Duplicate c = λ o book text flag ready refused f is.
    let e = c.args.ready.entry in
    let n = c.in-Duplicate.entry in
    let name = string_bytes c.name_of.result in
    told o book text flag (duplicate n name) f
    (of_duplicate o book text flag e n c.in-Duplicate.of_id name ready (subst (IsRefused o book e) c.in-Duplicate.is refused) (λ h. c.name_of.ensures.id h ∙ c.requires.ready.id) (λ h m own. c.name_of.ensures.own h m (c.requires.ready.own ∙ own))) is

pub returns-in-Many : goal.returns-in-Many
returns-in-Many c = λ o book text flag ready refused f is.
    let e = c.args.ready.entry in
    told o book text flag (bad_module full_book) f (of_room o book text flag e ready (subst (IsRefused o book e) c.in-Many.is refused)) is
