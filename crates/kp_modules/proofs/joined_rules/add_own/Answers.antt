use Rattle.std.proofs.Common.{rules, ◌≡◌, ◌≤◌, ◌+◌, ◌∙◌, ◌++◌, ◌∷◌, [], sym, ap, subst, length, take, get_or}
use Rattle.std.proofs.lemmas.List.{append-nil, append_assoc}
use Rattle.kp_modules.specs.Extending.{IsTakenFrom, AreTakenFrom}
use Rattle.kp_modules.proofs.Gathering.{zip_at, zip_all, zip_push}
use Rattle.kp_modules.proofs.joined_rules.add_own.Goals as goal

pub loop-i-preserved : goal.loop-i-preserved
loop-i-preserved c g before axioms old own =
    let i = c.loop-i.i in
    let rs = c.args.own.now in
    let r = c.index-own-i.result in
    let read : r ≡ get_or rs i r = search rules in
    let here = zip_at (IsTakenFrom g) axioms rs i r own c.loop-i-test.true read in
    let far : (before ++ take i axioms) ++ here.0 ∷ [] ≡ before ++ take (i + 1) axioms = append_assoc before (take i axioms) (here.0 ∷ []) ∙ ap (λ l. before ++ l) (sym here.1) in
    subst (λ l. AreTakenFrom g l c.push.new.self.items) far
    (subst (AreTakenFrom g ((before ++ take i axioms) ++ here.0 ∷ [])) (sym c.in_ok-push.ensures.items)
    (zip_push (λ a s. IsTakenFrom g a s.now) (before ++ take i axioms) c.loop-i.found.items here.0 _ (c.loop-i.invariant g before axioms old own) here.2))

pub returns : goal.returns
returns c g before axioms old own =
    let past : length c.args.own.now ≤ c.loop-i.i = search rules in
    subst (λ l. AreTakenFrom g (before ++ l) c.loop-i.found.items) (zip_all (IsTakenFrom g) axioms c.args.own.now c.loop-i.i own past) (c.loop-i.invariant g before axioms old own)

pub loop-i-init : goal.loop-i-init
loop-i-init c g before axioms old own = subst (λ l. AreTakenFrom g l c.args.found.now.items) (sym (append-nil before)) old
