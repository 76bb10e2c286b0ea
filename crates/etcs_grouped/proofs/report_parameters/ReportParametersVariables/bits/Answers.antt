use Rattle.std.proofs.Common.{arith}
use Rattle.etcs_grouped.specs.laws.ReportParameters.{report_parameters_length, report_parameters_most}
use Rattle.etcs_grouped.proofs.report_parameters.ReportParametersVariables.bits.Goals as goal

pub returns-clause-small : goal.returns-clause-small
returns-clause-small c =
    let p = c.self.inside in
    omega (arith, report_parameters_length p c.bits.result c.bits.ensures.bits, report_parameters_most p c.self.invariant)
