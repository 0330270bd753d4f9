-- What the answers of the crate's code say.
use Rattle.std.specs.Prelude.{◌≡◌, Bool, true, false, Option, Some, None, String, string_bytes}
use Rattle.std.specs.Borrow.{Bor}
use Rattle.std.specs.BTreeMap.{BTreeMap}
use Rattle.std.specs.declared.alloc.Global.{Global}
use Rattle.serde_json.specs.Data.{Data, Members}
use Rattle.serde_json.specs.View.{members_view}
use Rattle.serde_json.specs.declared.value.Value.{Value}
use Rattle.kp_kore.specs.Syntax.{KoreSort, KorePattern}
use Rattle.kp_kore.specs.View.{sort_view}
use Rattle.kp_kore.specs.declared.sort.Sort.{Sort}
use Rattle.kp_json.specs.declared.fault.JsonFault.{JsonFault}
use Rattle.kp_json.specs.declared.fault.JsonFault.TheVariants as json_fault
use Rattle.kp_json.specs.declared.fault.JsonError.{JsonError}
use Rattle.kp_json.specs.declared.fault.JsonError.TheVariants as json_error
use Rattle.kp_json.specs.declared.write.Unwritten.{Unwritten}
use Rattle.kp_json.specs.declared.write.Unwritten.TheVariants as unwritten
use Rattle.kp_json.specs.Faults.{TreeFault, unknown_tag, missing_member, wrong_kind, wrong_format, nested_too_deep, Reading, fault}
use Rattle.kp_json.specs.Trees.{SpellsWrapped}

abbrev pub fault_view : JsonFault → TreeFault
fault_view (json_fault.NoTag name) = unknown_tag (string_bytes name)
fault_view (json_fault.Missing name) = missing_member (string_bytes name)
fault_view (json_fault.OtherKind name) = wrong_kind (string_bytes name)
fault_view (json_fault.OtherFormat name) = wrong_format (string_bytes name)
fault_view json_fault.TooDeep = nested_too_deep

-- the fault that an error tells: none where memory ran out
abbrev pub fault_of : JsonError → Option TreeFault
fault_of json_error.Memory = None
fault_of (json_error.Fault f) = Some (fault_view f)

-- what is read of a comparison, \equals or \in: its argument's sort, its own, and the members of its two parts
abbrev pub comparison_view : Sort × Sort × Bor (BTreeMap (String Global) Value) × Bor (BTreeMap (String Global) Value) → KoreSort × KoreSort × Members × Members
comparison_view r = (sort_view r.0, sort_view r.1, members_view r.2.now.entries, members_view r.3.now.entries)

-- the error tells the reading's fault, or that memory ran out
abbrev pub Tells : {A : Type 0} → JsonError → Reading A → Type 0
Tells e r = (f : TreeFault) → fault_of e ≡ Some f → r ≡ fault f

-- the error tells a fault, so the tree spells no pattern
abbrev pub TellsThatNone : JsonError → Data → Type 0
TellsThatNone e d = (f : TreeFault) → fault_of e ≡ Some f → (p : KorePattern) → ¬ SpellsWrapped d p

-- whether the error is that there is no tag
abbrev pub is_for_want_of_tag : Unwritten → Bool
is_for_want_of_tag unwritten.Memory = false
is_for_want_of_tag unwritten.NoTag = true

-- where an error tells that there is no tag, there is no tree
abbrev pub Untold : {A : Type 0} → Unwritten → Option A → Type 0
Untold e o = is_for_want_of_tag e ≡ true → o ≡ None
