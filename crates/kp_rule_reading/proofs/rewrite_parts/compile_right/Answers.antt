use Rattle.std.proofs.lemmas.Result.{err_from_is_err_and}
use Rattle.kp_rule_reading.proofs.rewrite_parts.compile_right.Goals as goal

pub returns-clause-made : goal.returns-clause-made
returns-clause-made c = record {
  term = c.in_ok-term.ensures.meaning;
  narrow = c.in_ok-term.ensures.narrow;
  reads = c.in_ok-term.ensures.reads;
  choice = c.in_ok-choice.ensures.choice;
  names = c.in_ok-choice.ensures.names;
}

pub returns-in_err-term-clause-sound : goal.returns-in_err-term-clause-sound
returns-in_err-term-clause-sound c =
    let p = err_from_is_err_and c.from_residual.result c.from_residual.ensures.1 in
    rw (p.1, p.2) (λ sound. c.in_err-term.ensures.refused sound.right)

pub returns-in_err-choice-clause-sound : goal.returns-in_err-choice-clause-sound
returns-in_err-choice-clause-sound c =
    let p = err_from_is_err_and c.from_residual-in_err-choice.result c.from_residual-in_err-choice.ensures.1 in
    rw (p.1, p.2) (λ sound. c.in_err-choice.ensures.refused sound.right)

pub choice_of-requires-clause-named : goal.choice_of-requires-clause-named
choice_of-requires-clause-named c = c.requires.named

pub choice_of-requires-clause-known : goal.choice_of-requires-clause-known
choice_of-requires-clause-known c = c.requires.known
