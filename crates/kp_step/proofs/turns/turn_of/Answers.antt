use Rattle.std.proofs.Common.{◌≡◌, refl, sym, ap, ◌∙◌, map, []}
use Rattle.kp_symbolic.specs.View.{replaced_view}
use Rattle.kp_step.specs.Views.{numbered_views}
use Rattle.kp_step.proofs.TriedLemmas.{no_items, some_items, turn_told, no_turn_told, some_views}
use Rattle.kp_step.proofs.turns.turn_of.Goals as goal

pub returns-then-is_empty : goal.returns-then-is_empty
returns-then-is_empty c t used s earlier found m p z sorted all read number met a =
    let none : c.args.parts.items ≡ [] = no_items c.args.parts.items c.args.parts.len c.args.parts.ok.0 (sym c.is_empty.ensures ∙ c.if-is_empty.true) in
    no_turn_told t used s c.args.place earlier found p (numbered_views c.args.parts.items) z a (ap numbered_views none)

pub returns : goal.returns
returns c t used s earlier found m p z sorted all read number met a =
    let some : ¬ (c.args.parts.items ≡ []) = some_items c.args.parts.items c.args.parts.len c.args.parts.ok.0 (sym c.is_empty.ensures ∙ c.if-is_empty.false) in
    let told = turn_told t used s c.args.place c.args.priority earlier found m p (numbered_views c.args.parts.items) (map replaced_view c.args.bindings.items) z sorted all read number met a (some_views c.args.parts.items some) in
    (refl, told.0, told.1)
