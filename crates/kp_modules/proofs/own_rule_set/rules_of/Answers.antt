use Rattle.std.proofs.Common.{◌≡◌, sym, subst, true, false, Option, MatchOption, Vec, ℕ, Global}
use Rattle.kp_kore.specs.Theory.{modules_reached, rewrite_axioms}
use Rattle.kp_modules.specs.Keeping.{StandsAt}
use Rattle.kp_imports.specs.Names.{names_of}
use Rattle.kp_imports.specs.Reaching.{has}
use Rattle.kp_modules.proofs.Owned.{bound_as, main_set}
use Rattle.kp_modules.proofs.own_rule_set.rules_of.Goals as goal

pub returns-in_ok-set_at-in-Some : goal.returns-in_ok-set_at-in-Some
returns-in_ok-set_at-in-Some c o is =
    let table = c.args.table.now in
    let name = c.args.name.now in
    let d = is.definition in
    let P : Option (Vec ℕ Global) → Type 0 = λ r. MatchOption r (has name (names_of (modules_reached d o.main)) ≡ false) (λ places. (has name (names_of (modules_reached d o.main)) ≡ true) × StandsAt d o.main name places.items) in
    let told = subst P c.in-Some.is (c.in_ok-places.ensures d o.main is.keeps) in
    let stand : StandsAt d o.main name c.deref.result.now = subst (StandsAt d o.main name) (sym c.deref.ensures.value) told.1 in (
      rewrite_axioms (modules_reached d name),
      bound_as o table is name true told.0,
      c.in_ok-set_at-in-Some.ensures o.signature d o.main (modules_reached d name) is.keeps (main_set o table is) stand,
    )

pub returns-in-None : goal.returns-in-None
returns-in-None c o is =
    let name = c.args.name.now in
    let d = is.definition in
    let P : Option (Vec ℕ Global) → Type 0 = λ r. MatchOption r (has name (names_of (modules_reached d o.main)) ≡ false) (λ places. (has name (names_of (modules_reached d o.main)) ≡ true) × StandsAt d o.main name places.items) in
    bound_as o c.args.table.now is name false (subst P c.in-None.is (c.in_ok-places.ensures d o.main is.keeps))
