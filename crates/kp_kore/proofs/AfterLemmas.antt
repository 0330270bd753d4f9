-- So many steps after a state: where they lead, and what they pass.
use Rattle.std.proofs.Common.{ℕ, List}
use Rattle.kp_kore.specs.Syntax.{Text, KorePattern}
use Rattle.kp_kore.specs.Theory.{Theory}
use Rattle.kp_kore.specs.Onward.{Leads, Passes}
use Rattle.kp_kore.specs.Replies.{After}

pub leads_of_after : (t : Theory) (listed : List Text) (s s' : KorePattern) (d : ℕ) → After t listed s s' d → Leads t s s' d
leads_of_after t listed s s' d a = record {
  found = λ v c given met later steps. let w = a.found v later given.0 (c, met, steps) in record { chosen = w.0; agrees = w.1; sorts = w.2; met = w.3 };
  only = λ v later sorts over. a.only v over.chosen later sorts over.agrees over.sorts over.met;
  names = a.names;
}

pub passes_of_after : (t : Theory) (listed : List Text) (s s' : KorePattern) (d : ℕ) → After t listed s s' d → Passes t listed s d
passes_of_after t listed s s' d a = record {
  not_final = λ v c given met n later less steps. a.not_final v n later given.0 less (c, met, steps);
  none_listed = λ v c given met n later less steps. a.none_listed v n later given.0 less (c, met, steps);
}

pub after_of_both : (t : Theory) (listed : List Text) (s s' : KorePattern) (d : ℕ) → Leads t s s' d → Passes t listed s d → After t listed s s' d
after_of_both t listed s s' d l p = record {
  found = λ v later sorts a. let w = l.found v a.0 (sorts, tt) a.1 later a.2 in (w.chosen, w.agrees, w.sorts, w.met);
  only = λ v w later sorts agrees given met. l.only v later sorts (record { chosen = w; agrees = agrees; sorts = given; met = met });
  not_final = λ v n c sorts less a. p.not_final v a.0 (sorts, tt) a.1 n c less a.2;
  none_listed = λ v n c sorts less a. p.none_listed v a.0 (sorts, tt) a.1 n c less a.2;
  names = l.names;
}
