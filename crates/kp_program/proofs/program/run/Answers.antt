use Rattle.std.proofs.Common.{arith, inl, inr, map, refl, string_bytes}
use Rattle.kp_command.proofs.WrittenWords.{written_some}
use Rattle.kp_report.proofs.OneLine.{each_in_one_line}
use Rattle.kp_program.proofs.Headline.{passed_holds}
use Rattle.kp_program.proofs.NoCommand.{ended_failed, fault_at_usage, help_begins, kept_or_help, refused_above, refused_complete}
use Rattle.kp_program.proofs.Spelled.{command_spells, spelled_faultless}
use Rattle.kp_program.proofs.program.run.Goals as goal

-- ---- no command

pub returns-in-Err-clause-done : goal.returns-in-Err-clause-done
returns-in-Err-clause-done g c = λ low. let above = refused_above (map string_bytes c.args.words.now) c.refused.result (c.refused.ensures.status (map string_bytes c.args.words.now) c.in-Err.ensures.refused) in absurd (omega arith)

pub returns-in-Err-clause-headline : goal.returns-in-Err-clause-headline
returns-in-Err-clause-headline g c = λ low. let above = refused_above (map string_bytes c.args.words.now) c.refused.result (c.refused.ensures.status (map string_bytes c.args.words.now) c.in-Err.ensures.refused) in absurd (omega arith)

pub returns-in-Err-clause-ended : goal.returns-in-Err-clause-ended
returns-in-Err-clause-ended g c = λ high. ended_failed _ (map string_bytes c.args.words.now) _ _ _ _ _ _ (λ rose. inr (inr rose)) (c.refused.ensures.ended _ (map string_bytes c.args.words.now) c.in-Err.ensures.refused)

pub returns-in-Err-clause-usage : goal.returns-in-Err-clause-usage
returns-in-Err-clause-usage g c = fault_at_usage (g.H.Shelf.names c.args.shelf.now) (map string_bytes c.args.words.now) _ _ _ _ _ (c.refused.ensures.ended _ (map string_bytes c.args.words.now) c.in-Err.ensures.refused)

pub returns-in-Err-clause-spelled : goal.returns-in-Err-clause-spelled
returns-in-Err-clause-spelled g c = λ spelled three. fault_at_usage (g.H.Shelf.names c.args.shelf.now) (map string_bytes c.args.words.now) _ _ _ _ _ (c.refused.ensures.ended _ (map string_bytes c.args.words.now) c.in-Err.ensures.refused) three (spelled_faultless (map string_bytes c.args.words.now) spelled)

pub returns-in-Err-clause-written : goal.returns-in-Err-clause-written
returns-in-Err-clause-written g c = λ written three. fault_at_usage (g.H.Shelf.names c.args.shelf.now) (map string_bytes c.args.words.now) _ _ _ _ _ (c.refused.ensures.ended _ (map string_bytes c.args.words.now) c.in-Err.ensures.refused) three (spelled_faultless (map string_bytes c.args.words.now) (written_some (map string_bytes c.args.words.now) written))

pub returns-in-Err-clause-refused : goal.returns-in-Err-clause-refused
returns-in-Err-clause-refused g c = λ fault. c.refused.ensures.status (map string_bytes c.args.words.now) c.in-Err.ensures.refused

pub returns-in-Err-clause-complete : goal.returns-in-Err-clause-complete
returns-in-Err-clause-complete g c =
    refused_complete (g.H.Shelf.names c.args.shelf.now) (map string_bytes c.args.words.now) _ _ (fault_at_usage (g.H.Shelf.names c.args.shelf.now) (map string_bytes c.args.words.now) _ _ _ _ _ (c.refused.ensures.ended _ (map string_bytes c.args.words.now) c.in-Err.ensures.refused)) (c.refused.ensures.status (map string_bytes c.args.words.now) c.in-Err.ensures.refused)

pub returns-in-Err-clause-untold : goal.returns-in-Err-clause-untold
returns-in-Err-clause-untold g c = λ low. let above = refused_above (map string_bytes c.args.words.now) c.refused.result (c.refused.ensures.status (map string_bytes c.args.words.now) c.in-Err.ensures.refused) in absurd (omega arith)

pub returns-in-Err-clause-untouched : goal.returns-in-Err-clause-untouched
returns-in-Err-clause-untouched g c = λ high most. (refl, kept_or_help (map string_bytes c.args.words.now) _ _ (c.refused.ensures.gained (map string_bytes c.args.words.now) c.in-Err.ensures.refused))

pub returns-in-Err-clause-front : goal.returns-in-Err-clause-front
returns-in-Err-clause-front g c = λ high. help_begins _ _ _ _ _ (map string_bytes c.args.words.now) refl (c.refused.ensures.gained (map string_bytes c.args.words.now) c.in-Err.ensures.refused)

pub returns-in-Err-clause-unread : goal.returns-in-Err-clause-unread
returns-in-Err-clause-unread g c = λ x spelled. refl

-- ---- a command

pub returns-in-Ok-clause-done : goal.returns-in-Ok-clause-done
returns-in-Ok-clause-done g c = λ low. c.obeyed.ensures.done (map string_bytes c.args.words.now) c.in-Ok.ensures.found low

pub returns-in-Ok-clause-headline : goal.returns-in-Ok-clause-headline
returns-in-Ok-clause-headline g c = λ low. passed_holds _ _ _ _ _ (map string_bytes c.args.words.now) c.obeyed.result each_in_one_line (c.obeyed.ensures.done (map string_bytes c.args.words.now) c.in-Ok.ensures.found low)

pub returns-in-Ok-clause-ended : goal.returns-in-Ok-clause-ended
returns-in-Ok-clause-ended g c = λ high. c.obeyed.ensures.ended (map string_bytes c.args.words.now) c.in-Ok.ensures.found high

pub returns-in-Ok-clause-usage : goal.returns-in-Ok-clause-usage
returns-in-Ok-clause-usage g c = λ three. absurd (c.obeyed.ensures.status (map string_bytes c.args.words.now) c.in-Ok.ensures.found three)

pub returns-in-Ok-clause-spelled : goal.returns-in-Ok-clause-spelled
returns-in-Ok-clause-spelled g c = λ spelled three. c.obeyed.ensures.status (map string_bytes c.args.words.now) c.in-Ok.ensures.found three

pub returns-in-Ok-clause-written : goal.returns-in-Ok-clause-written
returns-in-Ok-clause-written g c = λ written three. c.obeyed.ensures.status (map string_bytes c.args.words.now) c.in-Ok.ensures.found three

pub returns-in-Ok-clause-refused : goal.returns-in-Ok-clause-refused
returns-in-Ok-clause-refused g c = λ none. absurd (none (spelled_faultless (map string_bytes c.args.words.now) (command_spells (map string_bytes c.args.words.now) c.in-Ok.command c.in-Ok.ensures.found)))

pub returns-in-Ok-clause-complete : goal.returns-in-Ok-clause-complete
returns-in-Ok-clause-complete g c = c.obeyed.ensures.complete (map string_bytes c.args.words.now) c.in-Ok.ensures.found

pub returns-in-Ok-clause-untold : goal.returns-in-Ok-clause-untold
returns-in-Ok-clause-untold g c = λ low. c.obeyed.ensures.untold (map string_bytes c.args.words.now) c.in-Ok.ensures.found low

pub returns-in-Ok-clause-untouched : goal.returns-in-Ok-clause-untouched
returns-in-Ok-clause-untouched g c = λ high most. let kept = c.obeyed.ensures.untouched (map string_bytes c.args.words.now) c.in-Ok.ensures.found high most in (kept.0, inl kept.1)

pub returns-in-Ok-clause-unread : goal.returns-in-Ok-clause-unread
returns-in-Ok-clause-unread g c = λ x spelled. c.obeyed.ensures.unread (map string_bytes c.args.words.now) x c.in-Ok.ensures.found spelled

pub returns-in-Ok-clause-front : goal.returns-in-Ok-clause-front
returns-in-Ok-clause-front g c = λ high. c.obeyed.ensures.front (map string_bytes c.args.words.now) c.in-Ok.ensures.found high
