use denote.Param.Send.{sendable}
use Rattle.std.proofs.Crossing.{crosses, sync}
use Rattle.kp_registry.proofs.Crossing.{pass_field_send, registry_sync}
use Rattle.kp_registry_trials.proofs.threads.work_all.Goals as goal

pub for_each_mut-requires-send-T : goal.for_each_mut-requires-send-T
for_each_mut-requires-send-T g c = search (pass_field_send, sendable, crosses) depth 20

-- what the job captures, one reference after the other: the runtime, the heap, the registry
pub for_each_mut-requires-sync-F : goal.for_each_mut-requires-sync-F
for_each_mut-requires-sync-F g c = λ κs within. record {
  shared = λ x b o κ.
      let runtime = c.type_bounds.sync-R.shared x.0.now x.0.ref_ptr.0 x.0.ref_ptr.1 κs.1.1.1.1.1.1.0 in
      let heap = sync.shared x.1.now x.1.ref_ptr.0 x.1.ref_ptr.1 κs.1.1.1.1.1.1.1.0 in
      let registry = registry_sync.shared x.2.now x.2.ref_ptr.0 x.2.ref_ptr.1 κs.1.1.1.1.1.1.1.1.0 in
      ((((λ q. tt), runtime), (((λ q. tt), heap), (((λ q. tt), registry), tt))), λ q. tt);
}
