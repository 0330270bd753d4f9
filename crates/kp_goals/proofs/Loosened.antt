-- What a left side stands for, it stands for when it is loosened.
use Rattle.kp_kore.specs.Signature.{KoreSignature}
use Rattle.kp_kore.specs.Value.{Value, whole, truth, token, constructed, Values, no_values, next_value}
use Rattle.kp_kore.specs.Instance.{Valuation}
use Rattle.kp_rules.specs.Skeletons.{Form, anything, nothing, any_of, one_of, fixed, built, Forms, no_forms, next_form, Admits, AdmitAll}
use Rattle.kp_goals.specs.Loosened.{loosened, all_loosened}

mutual
  pub loosely : (g : KoreSignature) (v : Valuation) (k : Form) (u : Value) → Admits g v k u → Admits g v (loosened k) u
  loosely g v anything u h = h
  loosely g v nothing u h = h
  loosely g v (any_of s) u h = h
  loosely g v (one_of x s) u h = h.1
  loosely g v (fixed w) u h = h
  loosely g v (built f ks) (constructed c us) h = (h.0, all_loosely g v ks us h.1)
  loosely g v (built f ks) (whole n) h = h
  loosely g v (built f ks) (truth b) h = h
  loosely g v (built f ks) (token s t) h = h

  all_loosely : (g : KoreSignature) (v : Valuation) (ks : Forms) (us : Values) → AdmitAll g v ks us → AdmitAll g v (all_loosened ks) us
  all_loosely g v no_forms us h = h
  all_loosely g v (next_form k ks) (next_value u us) h = (loosely g v k u h.0, all_loosely g v ks us h.1)
  all_loosely g v (next_form k ks) no_values h = h
