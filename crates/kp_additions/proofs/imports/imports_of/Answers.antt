use Rattle.std.proofs.Common.{rules, ◌≡◌, ◌≤◌, ◌+◌, sym, subst, ◌∙◌, List, [], ◌∷◌, get_or, length, map, string_bytes, take, Global}
use Rattle.std.specs.declared.sync.Arc.{Arc}
use Rattle.kp_kore.specs.View.{sentence_view}
use Rattle.kp_rule_sets.specs.declared.rule_set.RuleSet.{RuleSet}
use Rattle.kp_kore.specs.Theory.{imports_in}
use Rattle.kp_registry.specs.Registries.{IsPassOf}
use Rattle.kp_additions.specs.Served.{AtEachBookSeen, HasLooked}
use Rattle.kp_additions.specs.Told.{AreMeant, TellsUnbound}
use Rattle.kp_additions.proofs.Later.{looked_none, looked_on, one_further_meant, still_meant}
use Rattle.kp_additions.proofs.Meanings.{all_meant, exit, first_unbound, none_meant}
use Rattle.kp_imports.specs.Walks.{import_names}
use Rattle.kp_additions.proofs.imports.imports_of.Goals as goal
use Rattle.kp_additions.proofs.imports.imports_of.Goals.{in-Some+in_ok-import_meant+in_ok-push, in_default}

pub loop-i-init : goal.loop-i-init
loop-i-init g c =
    let none : c.new-sets.result.items ≡ [] = search rules in
    record {
      pass = c.requires.pass;
      looked = looked_none c.args.pass.now;
      meant = λ o s had. subst (AreMeant o s.book (import_names (take 0 c.args.sentences.now))) (sym {A = List (Arc RuleSet Global)} none) tt;
    }

pub returns-clause-meant : goal.returns-clause-meant
returns-clause-meant g c = λ o s had.
    let past : length c.args.sentences.now ≤ c.loop-i.i = search rules in
    all_meant o s.book c.args.sentences.now c.loop-i.i c.loop-i.sets.items past (c.loop-i.invariant.meant o s had)

pub returns-in_err-import_meant-clause-looked : goal.returns-in_err-import_meant-clause-looked
returns-in_err-import_meant-clause-looked g c = looked_on c.args.pass.now c.loop-i.pass c.import_meant.new.pass c.loop-i.invariant.looked c.import_meant.ensures.looked

pub returns-in_err-push-clause-looked : goal.returns-in_err-push-clause-looked
returns-in_err-push-clause-looked g c = looked_on c.args.pass.now c.loop-i.pass c.import_meant.new.pass c.loop-i.invariant.looked c.import_meant.ensures.looked

pub returns-in_err-import_meant-clause-err : goal.returns-in_err-import_meant-clause-err
returns-in_err-import_meant-clause-err g c =
    let registry = c.args.registry.now in
    let i = c.loop-i.i in
    let ss = c.args.sentences.now in
    let s = c.index-sentences-i.result in
    let n = string_bytes c.in-Some.name.now in
    let read : s ≡ get_or ss i s = search rules in
    let own : imports_in (sentence_view s ∷ []) ≡ n ∷ [] = search rules in
    exit c.from_residual.result (λ e. AtEachBookSeen registry c.import_meant.new.pass (λ o book. TellsUnbound o book (imports_in (map sentence_view ss)) e)) c.in_err-import_meant.field-0.0 c.from_residual.ensures
    (λ o t had f told.
    let none = c.in_err-import_meant.ensures.err o t had f told in (
      n,
      none.0,
      first_unbound o t.book ss i s n c.loop-i.sets.items c.loop-i-test.true read own
          (still_meant registry c.loop-i.pass c.import_meant.new.pass (import_names (take i ss)) c.loop-i.sets.items c.loop-i.invariant.pass c.import_meant.ensures.pass c.import_meant.ensures.looked c.loop-i.invariant.meant o t had) none.1,
    ))

pub loop-i-preserved : goal.loop-i-preserved
loop-i-preserved g c =
    let registry = c.args.registry.now in
    let i = c.loop-i.i in
    let ss = c.args.sentences.now in
    let s = c.index-sentences-i.result in
    let read : s ≡ get_or ss i s = search rules in
    elim c.match-import_of.branch [
      | in-Some+in_ok-import_meant+in_ok-push w ↦
          let n = string_bytes w.in-Some.name.now in
          let own : imports_in (sentence_view s ∷ []) ≡ n ∷ [] = search rules in
          let meant : AtEachBookSeen registry w.import_meant.new.pass (λ o book. AreMeant o book (import_names (take (i + 1) ss)) w.push.new.self.items) =
          subst (λ x. AtEachBookSeen registry w.import_meant.new.pass (λ o book. AreMeant o book (import_names (take (i + 1) ss)) x)) (sym {A = List (Arc RuleSet Global)} w.in_ok-push.ensures.items)
          (one_further_meant registry c.loop-i.pass w.import_meant.new.pass ss i s n c.loop-i.sets.items w.in_ok-import_meant.field-0 c.loop-i-test.true read own c.loop-i.invariant.pass w.import_meant.ensures.pass w.import_meant.ensures.looked
          c.loop-i.invariant.meant w.in_ok-import_meant.ensures.meant) in
          record {
            pass = subst (IsPassOf registry) (sym w.pass-is) w.import_meant.ensures.pass;
            looked = subst (HasLooked c.args.pass.now) (sym w.pass-is) (looked_on c.args.pass.now c.loop-i.pass w.import_meant.new.pass c.loop-i.invariant.looked w.import_meant.ensures.looked);
            meant = rw w.pass-is (rw w.sets-is meant);
          }
      | in_default w ↦
          let own : imports_in (sentence_view s ∷ []) ≡ [] = search rules in
          let meant : AtEachBookSeen registry c.loop-i.pass (λ o book. AreMeant o book (import_names (take (i + 1) ss)) c.loop-i.sets.items) =
          λ o t had. none_meant o t.book ss i s c.loop-i.sets.items c.loop-i-test.true read own (c.loop-i.invariant.meant o t had) in
          record {
            pass = subst (IsPassOf registry) (sym w.pass-is) c.loop-i.invariant.pass;
            looked = subst (HasLooked c.args.pass.now) (sym w.pass-is) c.loop-i.invariant.looked;
            meant = rw w.pass-is (rw w.sets-is meant);
          }
    ]
