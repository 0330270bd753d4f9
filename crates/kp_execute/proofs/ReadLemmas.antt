-- A run may begin with the state that a verified request is read as.
use Rattle.std.proofs.Common.{◌≡◌, sym, subst, inl, arith, true, false, List}
use Rattle.std.specs.List.{AllByRecursion, list_any}
use Rattle.std.specs.Str.{bytes_eq}
use Rattle.kp_kore.specs.Syntax.{Text, KorePattern}
use Rattle.kp_kore.specs.Parts.{free_variables}
use Rattle.kp_kore.specs.Signature.{KoreSignature}
use Rattle.kp_kore.specs.Replies.{IsAbsent}
use Rattle.kp_kore.proofs.ListLemmas.{all_map}
use Rattle.kp_symbolic.specs.States.{SymbolicState}
use Rattle.kp_symbolic_laws.specs.Safe.{IsSafe, IsSoundQuote}
use Rattle.kp_symbolic_laws.proofs.FormedSteps.{opened_formed}
use Rattle.kp_symbolic_laws.proofs.ReadState.{opened_sorted}
use Rattle.kp_symbolic_laws.proofs.Sound.{sound}
use Rattle.kp_symbolic_laws.proofs.KeptCourse.{solving_safe, read_kept}
use Rattle.kp_unify.specs.Way.{IsInUse}
use Rattle.kp_step.specs.Ready.{IsReadyState}
use Rattle.kp_execute.specs.Told.{IsReadRight, IsRequestOf}

opened_safe : (g : KoreSignature) (p : KorePattern) (s : SymbolicState) (h : IsReadRight g p s) → IsSafe g h.read.opened
opened_safe g p s h = record {
  sorted = opened_sorted g h.place p h.read.opened h.verified h.known h.predicates h.read.is_opened;
  formed = opened_formed g (IsSoundQuote g) h.place p h.read.opened (λ q k. (k.predicate, sound g q k.stands k.predicate)) h.verified h.known h.predicates h.read.is_opened;
}

pub read_safe : (g : KoreSignature) (p : KorePattern) (s : SymbolicState) → IsReadRight g p s → IsSafe g s
read_safe g p s h = solving_safe g h.read.opened s (opened_safe g p s h) h.kept h.read.solving

pub read_ready : (g : KoreSignature) (used : List Text) (p : KorePattern) (s : SymbolicState) → IsReadRight g p s → AllByRecursion (λ x. list_any (bytes_eq x.name) used ≡ true) (free_variables p) → IsReadyState g used s 1
read_ready g used p s h names =
    let safe = read_safe g p s h in
    let both = read_kept g h.place p s h.verified h.known h.predicates h.read h.kept in
    record {
      told = λ w c sorts met. tt;
      sorted = record { state = safe.sorted; added = tt };
      safe = safe;
      begun = omega arith;
      names = subst (AllByRecursion (λ x. IsInUse used 1 x.name)) (sym both.1.variables) (all_map (λ x. list_any (bytes_eq x.name) used ≡ true) (λ x. IsInUse used 1 x.name) (free_variables p) (λ x e. inl e) names);
    }

pub read_request : (g : KoreSignature) (used : List Text) (p : KorePattern) (s : SymbolicState) → IsReadRight g p s → ((x : Text) → list_any (bytes_eq x) used ≡ false → IsAbsent x p) → IsRequestOf g used p s
read_request g used p s h free =
    let both = read_kept g h.place p s h.verified h.known h.predicates h.read h.kept in
    record { read = both.1; read_as = h.read; in_use = free }
