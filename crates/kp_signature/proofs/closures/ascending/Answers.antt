use Rattle.std.proofs.Common.{rules, ◌≡◌, ℕ, List, IsPermutation, subst}
use Rattle.std.proofs.lemmas.List.Sorted.{Contains-permutation, IsPermutation-sym}
use Rattle.kp_signature.proofs.closures.ascending.Goals as goal

pub returns : goal.returns
returns c i =
    let numbers = c.args.numbers.now in
    let all = c.sort_unstable.new.self.items in
    let same : c.in_ok-all.all.items ≡ numbers = search rules in
    let moved = subst (λ (l : List ℕ). IsPermutation l all) same c.sort_unstable.ensures.permutation in
    (Contains-permutation all numbers i (IsPermutation-sym numbers all moved), Contains-permutation numbers all i moved)
