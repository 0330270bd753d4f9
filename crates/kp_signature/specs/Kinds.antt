-- Whether a sort's own declaration makes it one of tokens, before it is asked whether it is the sort of numbers or truth.
use Rattle.std.specs.Prelude.{Bool, false, ◌||◌, Option, Some, None, codes}
use Rattle.kp_kore.specs.Syntax.{KoreSort, SortDeclaration}
use Rattle.kp_kore.specs.Attributes.{has_mark}
use Rattle.kp_kore.specs.Signature.{KoreSignature, sort_declared}

abbrev pub holds_tokens : KoreSignature → KoreSort → Bool
holds_tokens g s = of_declared (sort_declared g s)
  where
    of_declared : Option SortDeclaration → Bool
    of_declared (Some d) = d.hooked || has_mark (codes "hasDomainValues") d.attributes
    of_declared None = false
