-- What an answer by the reading says of what is spelled.
use Rattle.std.proofs.Common.{◌≡◌, Result, Ok, Err, IfOk, IfErr, sym, ◌∙◌}
use Rattle.serde_json.specs.Data.{Data}
use Rattle.kp_kore.specs.Syntax.{KorePattern}
use Rattle.kp_kore.specs.View.{view}
use Rattle.kp_kore.specs.declared.pattern.Pattern.{Pattern}
use Rattle.kp_json.specs.declared.fault.JsonError.{JsonError}
use Rattle.kp_json.specs.Faults.{TreeFault, Reading, fault, read, wrapped_reading}
use Rattle.kp_json.specs.Trees.{SpellsWrapped}
use Rattle.kp_json.specs.View.{Tells, TellsThatNone}
use Rattle.kp_json.proofs.Sound.{wrapped_sound}
use Rattle.kp_json.proofs.Complete.{wrapped_complete}

none_read : (r : Reading KorePattern) (f : TreeFault) (p : KorePattern) → r ≡ fault f → ¬ (r ≡ read p)
none_read r f p is reads = let apart : fault f ≡ read p = sym is ∙ reads in cc apart

pub ok_spelled : (r : Result Pattern JsonError) (d : Data) → IfOk r (λ p. wrapped_reading d ≡ read (view p)) → IfOk r (λ p. SpellsWrapped d (view p))
ok_spelled (Ok p) d h = wrapped_sound d (view p) h
ok_spelled (Err e) d h = tt

pub err_unspelled : (r : Result Pattern JsonError) (d : Data) → IfErr r (λ e. Tells e (wrapped_reading d)) → IfErr r (λ e. TellsThatNone e d)
err_unspelled (Ok p) d h = tt
err_unspelled (Err e) d h = λ f told p spelled. none_read (wrapped_reading d) f p (h f told) (wrapped_complete d p spelled)
