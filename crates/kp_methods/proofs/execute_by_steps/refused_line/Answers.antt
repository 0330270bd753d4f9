use Rattle.kp_rpc.specs.View.{id_view}
use Rattle.kp_methods.proofs.ExecutedLines.{foreign_line, no_injection_untold, other_shape_untold, untold_line}
use Rattle.kp_methods.proofs.execute_by_steps.refused_line.Goals as goal

pub returns-in-ForeignSymbol : goal.returns-in-ForeignSymbol
returns-in-ForeignSymbol c = λ s options p h wants. foreign_line c.fault_text.result s (id_view c.args.id.now) options p c.args.error c.in-ForeignSymbol.name c.in-ForeignSymbol.is h c.fault_text.ensures.reply

pub returns-in-OtherShape : goal.returns-in-OtherShape
returns-in-OtherShape c = λ s options p h wants. untold_line c.fault_text-in-OtherShape.result s (id_view c.args.id.now) options p c.not_answered.result c.not_answered.ensures (other_shape_untold s options p c.args.error c.in-OtherShape.is h) c.fault_text-in-OtherShape.ensures.reply

pub returns-in-NoInjection : goal.returns-in-NoInjection
returns-in-NoInjection c = λ s options p h wants. untold_line c.fault_text-in-NoInjection.result s (id_view c.args.id.now) options p c.not_answered-in-NoInjection.result c.not_answered-in-NoInjection.ensures (no_injection_untold s options p c.args.error c.in-NoInjection.is h wants) c.fault_text-in-NoInjection.ensures.reply
