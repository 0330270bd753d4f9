use Rattle.std.proofs.Common.{ap, subst, ◌∙◌, MatchOption, Option, String, Global, string_bytes}
use Rattle.kp_imports.specs.Names.{AreOnce, IsFirstRepeated, texts_of}
use Rattle.kp_imports.proofs.duplicates.check_symbols.Goals as goal

pub returns-clause-ok : goal.returns-clause-ok
returns-clause-ok c =
    let names = c.as_slice.result.now in
    let P : Option (String Global) → Type 0 = λ o. MatchOption o (AreOnce (texts_of names)) (λ n. IsFirstRepeated (string_bytes n) (texts_of names)) in
    subst AreOnce (ap texts_of c.as_slice.ensures.value ∙ c.in_ok-names.ensures) (subst P c.in-None.is c.in_ok-name.ensures)
