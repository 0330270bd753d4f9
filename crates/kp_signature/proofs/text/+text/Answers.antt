use Rattle.std.proofs.Common.{rules, arith, ◌≡◌, ◌++◌, string_bytes}
use Rattle.kp_kore.specs.View.{sort_view}
use Rattle.kp_signature.specs.Texts.{comma_before}
use Rattle.kp_signature.specs.Verify.{sort_text as text_of_sort}
use Rattle.kp_signature.proofs.SortTexts.{turn}
use Rattle.kp_signature.proofs.text.+text.Goals as goal

pub add_sorts-loop-i-preserved : goal.add_sorts-loop-i-preserved
add_sorts-loop-i-preserved t c =
    let comma : string_bytes c.add_comma.new.text ≡ string_bytes c.loop-i.text ++ comma_before c.loop-i.i = search rules in
    let added : string_bytes c.add_sort.new.text ≡ string_bytes c.add_comma.new.text ++ text_of_sort (sort_view c.index-sorts-i.result) = search rules in
    turn (string_bytes c.args.text.now) (string_bytes c.loop-i.text) (string_bytes c.add_comma.new.text) (string_bytes c.add_sort.new.text) c.args.sorts.now c.loop-i.i c.index-sorts-i.result (omega arith) c.index-sorts-i.is c.loop-i.invariant comma added
