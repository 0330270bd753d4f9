use Rattle.std.proofs.Common.{rules, ◌≡◌, ◌<◌, ◌≤◌, false, ◌+◌, ◌^◌, [], sym, ap, subst, ◌∙◌, suc, length, set, get_or, arith}
use Rattle.std.specs.List.{list_any}
use Rattle.std.proofs.lemmas.List.{length-set}
use Rattle.kp_layers.specs.Layers.{highest, is_open}
use Rattle.kp_layers.specs.Walks.{IsPath, AreKnown}
use Rattle.kp_layers.proofs.Walking.{known_more, low_more, path_front}
use Rattle.kp_layers.proofs.walk.Walk.settle.Goals as goal

pub returns : goal.returns
returns c needs l closed =
    let layers = c.args.self.now.layers.items in
    let settled = c.args.self.now.settled.items in
    let path = c.args.self.now.path.items in
    let claim = c.args.claim in
    let js = get_or needs claim [] in
    let is : c.highest.result ≡ highest layers js = c.highest.ensures.is ∙ ap (λ ls. highest ls c.args.needed.now) c.deref.ensures.value ∙ ap (highest layers) (sym l.needed) in
    let bound : c.highest.result ≤ length settled = c.highest.ensures.bound (length settled) (λ j. subst (λ ls. get_or ls j 0 ≤ length settled) (sym c.deref.ensures.value) (l.walk.low j)) in
    let few : length settled + 1 < 2 ^ 64 = search rules in
    let above : c.above-layer.result ≡ c.highest.result + 1 = c.above-layer.ensures (omega (arith, bound, few)) in
    let layer : c.above-layer.result ≡ suc (highest layers js) = omega (arith, above, is) in
    let now : c.set_number.new.numbers.items ≡ set layers claim (suc (highest layers js)) = c.set_number.ensures ∙ ap (set layers claim) layer in
    let more : length c.push.new.self.items ≡ length settled + 1 = search rules in
    let shorter : length c.pop.new.self.items + 1 ≡ length path = search rules in
    let short : length path < 2 ^ 64 = search rules in (
      record {
        count = ap length now ∙ length-set layers claim (suc (highest layers js)) ∙ l.walk.count;
        known = subst (AreKnown needs) (sym now) (known_more needs layers claim l.walk.known (subst (λ ks. list_any (is_open layers) ks ≡ false) (sym l.needed) closed));
        low = λ i. subst (λ ls. get_or ls i 0 ≤ length c.push.new.self.items) (sym now) (subst (λ n. get_or (set layers claim (suc (highest layers js))) i 0 ≤ n) (sym more) (low_more layers js claim (length settled) l.walk.low (subst (λ h. h ≤ length settled) is bound) i));
        path = subst (IsPath needs) (sym c.pop.ensures.rest) (path_front needs path _ l.walk.path);
      },
      omega (arith, more, shorter, short, few),
    )
