use Rattle.reason_steps.specs.Defects.{step_tests}
use Rattle.reason_steps.proofs.Laws.{last_test, of_step_lem, acl_step}
use Rattle.reason_steps.proofs.step_defect.Goals as goal

pub returns-in-WV1 : goal.returns-in-WV1
returns-in-WV1 c = of_step_lem _ _ _ _ c.in-WV1.is c.warrant_defect.ensures

pub returns-in-MSCV1 : goal.returns-in-MSCV1
unfolding step_tests
returns-in-MSCV1 c = of_step_lem _ _ _ _ c.in-MSCV1.is (last_test _ _ c.signature_defect.ensures)

pub returns-in-MSCV2 : goal.returns-in-MSCV2
returns-in-MSCV2 c = of_step_lem _ _ _ _ c.in-MSCV2.is c.state_defect.ensures

pub returns-in-MSCV3 : goal.returns-in-MSCV3
unfolding step_tests
returns-in-MSCV3 c = of_step_lem _ _ _ _ c.in-MSCV3.is (last_test _ _ c.equal_defect.ensures)

pub returns-in-MSCV4 : goal.returns-in-MSCV4
returns-in-MSCV4 c = of_step_lem _ _ _ _ c.in-MSCV4.is c.officer_defect.ensures

pub returns-in-MSCV5 : goal.returns-in-MSCV5
unfolding step_tests
returns-in-MSCV5 c = of_step_lem _ _ _ _ c.in-MSCV5.is (last_test _ _ c.listed_defect.ensures)

pub returns-in-WBCV1 : goal.returns-in-WBCV1
unfolding step_tests
returns-in-WBCV1 c = of_step_lem _ _ _ _ c.in-WBCV1.is c.certificate_defect.ensures

pub returns-in-WBCV2 : goal.returns-in-WBCV2
returns-in-WBCV2 c = of_step_lem _ _ _ _ c.in-WBCV2.is c.fips_defect.ensures

pub returns-in-WBCV3 : goal.returns-in-WBCV3
unfolding step_tests
returns-in-WBCV3 c = of_step_lem _ _ _ _ c.in-WBCV3.is c.certificate_defect-in-WBCV3.ensures

pub returns-in-KGCV1 : goal.returns-in-KGCV1
unfolding step_tests
returns-in-KGCV1 c = of_step_lem _ _ _ _ c.in-KGCV1.is (last_test _ _ c.signature_defect-in-KGCV1.ensures)

pub returns-in-KGCV2 : goal.returns-in-KGCV2
returns-in-KGCV2 c = of_step_lem _ _ _ _ c.in-KGCV2.is c.key_defect.ensures

pub returns-in-CSRL1 : goal.returns-in-CSRL1
returns-in-CSRL1 c = of_step_lem _ _ _ _ c.in-CSRL1.is c.csr_defect.ensures

pub returns-in-ACLV3 : goal.returns-in-ACLV3
returns-in-ACLV3 c = acl_step _ _ c.in-ACLV3.is
