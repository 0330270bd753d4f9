use Rattle.std.proofs.Common.{rules, ◌≡◌, ◌↔◌, ℕ, refl, sym, subst, ◌∙◌, map, length, Contains}
use Rattle.std.proofs.lemmas.List.{length-map}
use Rattle.kp_kore.specs.View.{sort_view}
use Rattle.kp_signature.specs.View.{signature_view}
use Rattle.kp_signature.specs.Numbering.{sorts_in}
use Rattle.kp_heads.specs.Steps.{steps_of}
use Rattle.kp_heads.specs.Rows.{AreUsers, IsGiven, NeedBelow}
use Rattle.kp_heads.specs.Made.{AreLiteralNumbers}
use Rattle.kp_heads.specs.declared.table.HeadTable.{HeadTable}
use Rattle.kp_heads.proofs.Given.{need_below, table_made}
use Rattle.kp_heads.proofs.table.HeadTable.new.Goals as goal

pub returns : goal.returns
returns c =
    let g = signature_view c.args.signature.now in
    let m = c.in_ok-numbering.field-0 in
    let made = c.in_ok-numbering.ensures in
    let x : HeadTable = record { numbering = m.numbering; live = c.spread.new.found } in
    let count : length (sorts_in m.numbering) ≡ c.len.result = length-map m.numbering.sorts.items sort_view ∙ search rules in
    let below = subst (NeedBelow m.rows.items) count (need_below (sorts_in m.numbering) m.rows.items (steps_of g) made.rows) in
    let first : c.deref.result.now ≡ m.rows.items = search rules in
    let users : AreUsers m.rows.items c.in_ok-users.users.items = subst (λ rs. AreUsers rs c.in_ok-users.users.items) first (c.in_ok-users.ensures (subst (λ rs. NeedBelow rs c.len.result) (sym first) below)) in
    let lit = subst (λ ss. AreLiteralNumbers g (map sort_view ss) c.in_ok-live.live.keys) c.deref-2.ensures.value c.in_ok-live.ensures in
    let third : c.deref-3.result.now ≡ m.rows.items = search rules in
    let fourth : c.deref-4.result.now ≡ c.in_ok-users.users.items = search rules in
    let live = subst (λ rs. (j : ℕ) → Contains c.spread.new.found.keys j ↔ IsGiven rs c.in_ok-live.live.keys j) third (c.in_ok-spread.ensures (subst (λ us. AreUsers c.deref-3.result.now us) (sym fourth) (subst (λ rs. AreUsers rs c.in_ok-users.users.items) (sym third) users))) in
    table_made g m x c.in_ok-live.live.keys made refl lit live
