use Rattle.std.proofs.Common.{rules, ◌≡◌, ◌<◌, ◌≤◌, length, map, get_or, [], true, false, None}
use Rattle.kp_signature.specs.View.{signature_view}
use Rattle.kp_signature.specs.Edges.{edges_of}
use Rattle.kp_overlap.specs.Views.{placed_view}
use Rattle.kp_overlap.specs.Sorted.{HaveValue}
use Rattle.kp_overlap.proofs.SortLemmas.{fit_none, fit_more, fit_all, label_told, read_at, is_true, is_false, false_true}
use Rattle.kp_overlap.proofs.sorts.labels_fit.Goals as goal

pub loop-label-init : goal.loop-label-init
loop-label-init c = fit_none (signature_view c.args.signature.now) (map placed_view c.args.sorts.now) c.args.holders.now (edges_of c.args.groups.now)

pub loop-label-preserved : goal.loop-label-preserved
loop-label-preserved c =
    let g = signature_view c.args.signature.now in
    let rs = map placed_view c.args.sorts.now in
    let gs = edges_of c.args.groups.now in
    let hs = c.args.holders.now in
    let k = c.loop-label.label in
    let short : k < length hs = search rules in
    let met : c.label_fits.result ≡ true = search rules in
    fit_more g rs hs gs k c.loop-label.invariant ((label_told hs k (get_or hs k None) (HaveValue g rs (get_or gs k [])) (read_at hs k None short)).0 (c.label_fits.ensures.0 met))

pub returns-then-not-label_fits : goal.returns-then-not-label_fits
returns-then-not-label_fits c =
    let g = signature_view c.args.signature.now in
    let rs = map placed_view c.args.sorts.now in
    let gs = edges_of c.args.groups.now in
    let hs = c.args.holders.now in
    let k = c.loop-label.label in
    let short : k < length hs = search rules in
    let no : c.label_fits.result ≡ false = search rules in
    is_false (λ all. false_true no (c.label_fits.ensures.1 ((label_told hs k (get_or hs k None) (HaveValue g rs (get_or gs k [])) (read_at hs k None short)).1 (all k))))

pub returns : goal.returns
returns c =
    let past : length c.args.holders.now ≤ c.loop-label.label = search rules in
    is_true (fit_all (signature_view c.args.signature.now) (map placed_view c.args.sorts.now) c.args.holders.now (edges_of c.args.groups.now) c.loop-label.label past c.loop-label.invariant)
