use Rattle.api_machine.specs.WholeStep.{api_step}
use Rattle.api_machine.proofs.WiderLaw.{whole_keeps_apart, wider_apart}
use Rattle.api_machine.proofs.laws.tenants_stay_apart.Goals as goal

pub returns : goal.returns
returns c = record {
  whole = whole_keeps_apart;
  wider = λ settings. wider_apart settings (api_step settings) (whole_keeps_apart settings);
}
