use Rattle.std.proofs.Common.{rules, ◌≡◌, length, subst, arith}
use Rattle.std.proofs.lemmas.Slice.Zip.{AllZip-long}
use Rattle.kp_registry.specs.Passes.{IsEntryOf}
use Rattle.kp_registry.specs.Refusals.{IsFree, IsAlsoFree, TellsDuplicate, TellsAlsoDuplicate, own_name_of}
use Rattle.kp_registry.proofs.faults.fault.Goals as goal

pub returns-then-len-ge-MOST_ENTRIES-clause-fault : goal.returns-then-len-ge-MOST_ENTRIES-clause-fault
returns-then-len-ge-MOST_ENTRIES-clause-fault c = λ o book table seen.
    let e = c.args.ready.now.entry in
    let text = e.text.items in
    let es = c.args.book.now.entries.items in
    let free : IsFree o book c.deref.result.now c.as_str.result.now = subst (TellsDuplicate o book c.deref.result.now c.as_str.result.now) c.in_default.is (c.duplicate.ensures o book table seen) in
    let id : IsFree o book text e.id = subst (IsFree o book text) c.requires.ready.id (subst (IsFree o book text) c.as_str.ensures.value (subst (λ t. IsFree o book t c.as_str.result.now) c.deref.ensures.value free)) in
    let own : IsAlsoFree o book text (own_name_of e) = subst (TellsAlsoDuplicate o book text (own_name_of e)) c.in_default-own_duplicate.is (c.own_duplicate.ensures o book table seen) in
    let counted : c.len.result ≡ length es = search rules in
    let zip : length es ≡ length book = AllZip-long (IsEntryOf o.signature) book es seen in
    (id, own, omega (arith, counted, zip, c.if-len-ge-MOST_ENTRIES.true, c.requires.sound.few))

pub returns-clause-fault : goal.returns-clause-fault
returns-clause-fault c = λ o book table seen.
    let e = c.args.ready.now.entry in
    let text = e.text.items in
    let es = c.args.book.now.entries.items in
    let free : IsFree o book c.deref.result.now c.as_str.result.now = subst (TellsDuplicate o book c.deref.result.now c.as_str.result.now) c.in_default.is (c.duplicate.ensures o book table seen) in
    let id : IsFree o book text e.id = subst (IsFree o book text) c.requires.ready.id (subst (IsFree o book text) c.as_str.ensures.value (subst (λ t. IsFree o book t c.as_str.result.now) c.deref.ensures.value free)) in
    let own : IsAlsoFree o book text (own_name_of e) = subst (TellsAlsoDuplicate o book text (own_name_of e)) c.in_default-own_duplicate.is (c.own_duplicate.ensures o book table seen) in
    let counted : c.len.result ≡ length es = search rules in
    let zip : length es ≡ length book = AllZip-long (IsEntryOf o.signature) book es seen in
    record { id = id; own = own; room = omega (arith, counted, zip, c.if-len-ge-MOST_ENTRIES.false, c.requires.sound.few) }
