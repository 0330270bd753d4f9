use Rattle.std.proofs.Common.{◌≡◌, ap, sym, subst, ◌∙◌, map}
use Rattle.std.specs.List.{filter_map}
use Rattle.indexmap.specs.IndexMap.{get_by_text}
use Rattle.kp_layers.specs.Layers.{DependsOn, AreLayers}
use Rattle.kp_layers.specs.Walks.{numbers_of, IsRight}
use Rattle.kp_layers.proofs.Layered.{no_cycle}
use Rattle.kp_claim_sentences.specs.Items.{items_view}
use Rattle.kp_claim_sentences.specs.Faults.{needs_of}
use Rattle.kp_claim_files.proofs.Circles.{needs_stated, is_circle}
use Rattle.kp_claim_files.proofs.circle.check_circles.Goals as goal

pub returns-in-Layers-clause-ok : goal.returns-in-Layers-clause-ok
returns-in-Layers-clause-ok c ss is zip =
    let needs : numbers_of c.deref.result.now ≡ needs_of ss =
    ap numbers_of c.deref.ensures.value ∙ c.in_ok-needs.ensures ∙ needs_stated (get_by_text c.args.places.now) ss (items_view c.args.items.now) is zip in
    let layers : AreLayers (numbers_of c.deref.result.now) c.in-Layers.field-0.items = subst (IsRight (numbers_of c.deref.result.now)) c.in-Layers.is c.in_ok-layers_of.ensures in
    λ i on. no_cycle (needs_of ss) c.in-Layers.field-0.items i (subst (λ n. AreLayers n c.in-Layers.field-0.items) needs layers) on

pub returns-clause-err : goal.returns-clause-err
returns-clause-err c g ss is zip faultless =
    let needs : numbers_of c.deref.result.now ≡ needs_of ss =
    ap numbers_of c.deref.ensures.value ∙ c.in_ok-needs.ensures ∙ needs_stated (get_by_text c.args.places.now) ss (items_view c.args.items.now) is zip in
    let on : DependsOn (numbers_of c.deref.result.now) c.in-Cycle.place c.in-Cycle.place = subst (IsRight (numbers_of c.deref.result.now)) c.in-Cycle.is c.in_ok-layers_of.ensures in
    is_circle g (numbers_of c.deref.result.now) ss (items_view c.args.items.now) c.in-Cycle.place c.in_ok-circle_at-in-Cycle.field-0 zip faultless needs on c.in_ok-circle_at-in-Cycle.ensures
