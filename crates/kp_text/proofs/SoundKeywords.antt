-- A word that is a keyword is that keyword's word.
use Rattle.std.proofs.Common.{◌≡◌, ℕ, Bool, true, false, cond, List, Option, Some, None, refl, ap, ◌∙◌}
use Rattle.std.specs.Prelude.{bytes_eq}
use Rattle.std.proofs.lemmas.Slice.Eq.{bytes_eq-Decides}
use Rattle.kp_kore.specs.Syntax.{Text}
use Rattle.kp_text.specs.Next.{keyword_of}
use Rattle.kp_text.specs.declared.keyword.Keyword.{Keyword}
use Rattle.kp_text.specs.declared.keyword.Keyword.TheVariants as keyword
use Rattle.kp_text.specs.declared.keyword.Constant.TheVariants.{Top, Bottom}
use Rattle.kp_text.specs.declared.keyword.Unary.TheVariants.{Not, Next}
use Rattle.kp_text.specs.declared.keyword.Variadic.TheVariants.{And, Or}
use Rattle.kp_text.specs.declared.keyword.Binary.TheVariants.{Implies, Iff, Rewrites}
use Rattle.kp_text.specs.declared.keyword.Quantifier.TheVariants.{Exists, Forall}
use Rattle.kp_text.specs.declared.keyword.Rounding.TheVariants.{Ceil, Floor}
use Rattle.kp_text.specs.declared.keyword.ComparisonKeyword.TheVariants.{Equals, In}
use Rattle.kp_text.specs.declared.keyword.FixedPoint.TheVariants.{Mu, Nu}
use Rattle.kp_text.specs.declared.keyword.FoldSide.TheVariants.{Left, Right}
use Rattle.kp_text.proofs.CompletePatterns.{word_of}

pub same_bytes : (xs ys : List ℕ) → bytes_eq xs ys ≡ true → xs ≡ ys
same_bytes xs ys e = (bytes_eq-Decides xs ys).0 e

record IsKeyword (w : Text) (o : Option Keyword) : Type 0 where
  word : (key : Keyword) → o ≡ Some key → w ≡ word_of key

chosen : (w : Text) (b : Bool) (key : Keyword) (o : Option Keyword) → (b ≡ true → w ≡ word_of key) → IsKeyword w o → IsKeyword w (cond b (Some key) o)
chosen w true key o is other = record { word = λ found e. is refl ∙ ap word_of (some_same key found e) }
  where
    some_same : (x y : Keyword) → Some x ≡ Some y → x ≡ y
    some_same x y e = cc
chosen w false key o is other = other

pick : (w : Text) (key : Keyword) (o : Option Keyword) → IsKeyword w o → IsKeyword w (cond (bytes_eq w (word_of key)) (Some key) o)
pick w key o other = chosen w (bytes_eq w (word_of key)) key o (same_bytes w (word_of key)) other

every : (w : Text) → IsKeyword w (keyword_of w)
every w =
    pick w (keyword.Constant Top) _ (pick w (keyword.Constant Bottom) _ (pick w (keyword.Unary Not) _ (pick w (keyword.Unary Next) _ (
    pick w (keyword.Variadic And) _ (pick w (keyword.Variadic Or) _ (pick w (keyword.Binary Implies) _ (pick w (keyword.Binary Iff) _ (
    pick w (keyword.Binary Rewrites) _ (pick w (keyword.Quantifier Exists) _ (pick w (keyword.Quantifier Forall) _ (pick w (keyword.Rounding Ceil) _ (
    pick w (keyword.Rounding Floor) _ (pick w (keyword.Comparison Equals) _ (pick w (keyword.Comparison In) _ (pick w keyword.Literal _ (
    pick w (keyword.FixedPoint Mu) _ (pick w (keyword.FixedPoint Nu) _ (pick w (keyword.Fold Left) _ (pick w (keyword.Fold Right) None
    (record { word = λ key e. absurd (cc) }))))))))))))))))))))

pub is_keyword : (w : Text) (key : Keyword) → keyword_of w ≡ Some key → w ≡ word_of key
is_keyword w key e = (every w).word key e
