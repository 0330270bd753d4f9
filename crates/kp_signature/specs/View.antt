-- The signature that the Rust type stands for, and the sentences that it is made from.
use Rattle.std.specs.Prelude.{List, map}
use Rattle.std.specs.Borrow.{Bor}
use Rattle.std.specs.List.{flat_map}
use Rattle.kp_kore.specs.Syntax.{KoreSentence}
use Rattle.kp_kore.specs.Signature.{KoreSignature}
use Rattle.kp_kore.specs.View.{sentence_view}
use Rattle.kp_kore.specs.declared.sentence.Module.{Module}
use Rattle.kp_signature.specs.Table.{table_view}
use Rattle.kp_signature.specs.declared.signature.Signature.{Signature}

abbrev pub signature_view : Signature → KoreSignature
signature_view g = table_view g.kinds.declarations.table

-- the sentences of the modules, in order
abbrev pub sentences_of : List (Bor Module) → List KoreSentence
sentences_of = flat_map (λ m. map sentence_view m.now.sentences.items)
