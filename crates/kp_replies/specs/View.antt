-- The data of replies that the Rust types stand for.
use Rattle.std.specs.Prelude.{string_bytes, option_map}
use Rattle.kp_kore.specs.View.{view}
use Rattle.kp_results.specs.View.{executed_view, implied_view, undecided_view, state_view}
use Rattle.kp_replies.specs.Failures as failures
use Rattle.kp_replies.specs.Read as read
use Rattle.kp_replies.specs.declared.failure.AdditionFault.{AdditionFault}
use Rattle.kp_replies.specs.declared.failure.AdditionFault.TheVariants as addition
use Rattle.kp_replies.specs.declared.failure.SidesFault.{SidesFault}
use Rattle.kp_replies.specs.declared.failure.SidesFault.TheVariants as sides
use Rattle.kp_replies.specs.declared.failure.Failure.{Failure}
use Rattle.kp_replies.specs.declared.failure.Failure.TheVariants as failure
use Rattle.kp_replies.specs.declared.told.Method.{Method}
use Rattle.kp_replies.specs.declared.told.Method.TheVariants as method
use Rattle.kp_replies.specs.declared.told.ServerReply.{ServerReply}
use Rattle.kp_replies.specs.declared.told.ServerReply.TheVariants as reply

abbrev pub sides_view : SidesFault → failures.SidesFault
sides_view (sides.NotInATerm name) = failures.not_in_a_term (string_bytes name)
sides_view sides.NotOneTerm = failures.not_one_term
sides_view (sides.TwoMeanings name) = failures.two_meanings (string_bytes name)

abbrev pub addition_view : AdditionFault → failures.AdditionFault
addition_view (addition.BadText at kind) = failures.bad_text at kind
addition_view (addition.UnknownImport name) = failures.unknown_import (string_bytes name)
addition_view (addition.BadAxiom number) = failures.bad_axiom number
addition_view (addition.BadSentence number) = failures.bad_sentence number
addition_view addition.FullBook = failures.full_book

abbrev pub failure_view : Failure → failures.Failure
failure_view (failure.BadSides fault) = failures.bad_sides (sides_view fault)
failure_view (failure.Undecided undecided) = failures.undecided (undecided_view undecided)
failure_view (failure.BadModule fault) = failures.bad_module (addition_view fault)
failure_view (failure.Duplicate entry name) = failures.duplicate entry (string_bytes name)

abbrev pub method_view : Method → read.Method
method_view method.Execute = read.execute
method_view method.Implies = read.implies
method_view method.Simplify = read.simplify
method_view method.AddModule = read.add_module

abbrev pub reply_view : ServerReply → read.ServerReply
reply_view (reply.Executed e) = read.executed (executed_view e)
reply_view (reply.Unfinished depth state limit) = read.unfinished (record { depth = depth; state = state_view state; limit = option_map string_bytes limit })
reply_view (reply.Implied i) = read.implied (implied_view i)
reply_view (reply.Simplified p) = read.simplified (view p)
reply_view (reply.Added id) = read.added (string_bytes id)
reply_view (reply.Failed code) = read.failed code
