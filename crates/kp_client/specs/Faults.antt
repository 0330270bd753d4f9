-- Why a proof is broken off where its link fails.
use Rattle.kp_client.specs.declared.link.LinkError.{LinkError}
use Rattle.kp_client.specs.declared.link.LinkError.TheVariants as link
use Rattle.kp_client.specs.declared.outcome.ProveFault.{ProveFault}
use Rattle.kp_client.specs.declared.outcome.ProveFault.TheVariants as faults

abbrev pub fault_of : LinkError → ProveFault
fault_of link.Failed = faults.LinkFault
fault_of link.Memory = faults.Memory
