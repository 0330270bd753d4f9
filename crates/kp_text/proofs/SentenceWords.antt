-- Which word begins a sentence.
use Rattle.std.proofs.Common.{◌≡◌, Bool, true, false, bytes_eq, codes, List, if◌then◌else◌, refl, Some, None}
use Rattle.kp_kore.specs.Syntax.{Text, KoreSentence}
use Rattle.kp_text.specs.Next.{Place, goes, refused, by_sentence}
use Rattle.kp_text.specs.Sentences.{sentence_word_of, sentence_step, word_place}
use Rattle.kp_text.specs.declared.sentences.SentenceWord.TheVariants as word

chosen : (b1 b2 b3 b4 b5 b6 b7 b8 b9 : Bool) (so_far : List KoreSentence) (k : List KoreSentence → Place) →
    (if b1 then goes 0 (word_place so_far k word.End) else if b2 then goes 0 (word_place so_far k word.Import) else if b3 then goes 0 (word_place so_far k (word.Sort false)) else if b4 then goes 0 (word_place so_far k (word.Sort true)) else if b5 then goes 0 (word_place so_far k (word.Symbol false)) else if b6 then goes 0 (word_place so_far k (word.Symbol true)) else if b7 then goes 0 (word_place so_far k word.Alias) else if b8 then goes 0 (word_place so_far k word.Axiom) else if b9 then goes 0 (word_place so_far k word.Claim) else refused) ≡ sentence_step so_far k (if b1 then Some word.End else if b2 then Some word.Import else if b3 then Some (word.Sort false) else if b4 then Some (word.Sort true) else if b5 then Some (word.Symbol false) else if b6 then Some (word.Symbol true) else if b7 then Some word.Alias else if b8 then Some word.Axiom else if b9 then Some word.Claim else None)
chosen true b2 b3 b4 b5 b6 b7 b8 b9 so_far k = refl
chosen false true b3 b4 b5 b6 b7 b8 b9 so_far k = refl
chosen false false true b4 b5 b6 b7 b8 b9 so_far k = refl
chosen false false false true b5 b6 b7 b8 b9 so_far k = refl
chosen false false false false true b6 b7 b8 b9 so_far k = refl
chosen false false false false false true b7 b8 b9 so_far k = refl
chosen false false false false false false true b8 b9 so_far k = refl
chosen false false false false false false false true b9 so_far k = refl
chosen false false false false false false false false true so_far k = refl
chosen false false false false false false false false false so_far k = refl

pub by_sentence_is : (so_far : List KoreSentence) (k : List KoreSentence → Place) (w : Text) → by_sentence so_far k w ≡ sentence_step so_far k (sentence_word_of w)
by_sentence_is so_far k w = chosen (bytes_eq w (codes "endmodule")) (bytes_eq w (codes "import")) (bytes_eq w (codes "sort")) (bytes_eq w (codes "hooked-sort")) (bytes_eq w (codes "symbol")) (bytes_eq w (codes "hooked-symbol")) (bytes_eq w (codes "alias")) (bytes_eq w (codes "axiom")) (bytes_eq w (codes "claim")) so_far k
