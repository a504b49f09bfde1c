use Rattle.rules.specs.Basics.{ascii}
use Rattle.desk_verdict.proofs.step_name.Goals as goal

pub returns-in-WV1 : goal.returns-in-WV1
unfolding ascii
returns-in-WV1 c = rw c.in-WV1.is

pub returns-in-MSCV1 : goal.returns-in-MSCV1
unfolding ascii
returns-in-MSCV1 c = rw c.in-MSCV1.is

pub returns-in-MSCV2 : goal.returns-in-MSCV2
unfolding ascii
returns-in-MSCV2 c = rw c.in-MSCV2.is

pub returns-in-MSCV3 : goal.returns-in-MSCV3
unfolding ascii
returns-in-MSCV3 c = rw c.in-MSCV3.is

pub returns-in-MSCV4 : goal.returns-in-MSCV4
unfolding ascii
returns-in-MSCV4 c = rw c.in-MSCV4.is

pub returns-in-MSCV5 : goal.returns-in-MSCV5
unfolding ascii
returns-in-MSCV5 c = rw c.in-MSCV5.is

pub returns-in-WBCV1 : goal.returns-in-WBCV1
unfolding ascii
returns-in-WBCV1 c = rw c.in-WBCV1.is

pub returns-in-WBCV2 : goal.returns-in-WBCV2
unfolding ascii
returns-in-WBCV2 c = rw c.in-WBCV2.is

pub returns-in-WBCV3 : goal.returns-in-WBCV3
unfolding ascii
returns-in-WBCV3 c = rw c.in-WBCV3.is

pub returns-in-KGCV1 : goal.returns-in-KGCV1
unfolding ascii
returns-in-KGCV1 c = rw c.in-KGCV1.is

pub returns-in-KGCV2 : goal.returns-in-KGCV2
unfolding ascii
returns-in-KGCV2 c = rw c.in-KGCV2.is

pub returns-in-ACLV3 : goal.returns-in-ACLV3
unfolding ascii
returns-in-ACLV3 c = rw c.in-ACLV3.is

pub returns-in-WB1 : goal.returns-in-WB1
unfolding ascii
returns-in-WB1 c = rw c.in-WB1.is

pub returns-in-WB2 : goal.returns-in-WB2
unfolding ascii
returns-in-WB2 c = rw c.in-WB2.is

pub returns-in-WB3 : goal.returns-in-WB3
unfolding ascii
returns-in-WB3 c = rw c.in-WB3.is

pub returns-in-WB6 : goal.returns-in-WB6
unfolding ascii
returns-in-WB6 c = rw c.in-WB6.is

pub returns-in-RB1 : goal.returns-in-RB1
unfolding ascii
returns-in-RB1 c = rw c.in-RB1.is

pub returns-in-RB2 : goal.returns-in-RB2
unfolding ascii
returns-in-RB2 c = rw c.in-RB2.is

pub returns-in-RB3 : goal.returns-in-RB3
unfolding ascii
returns-in-RB3 c = rw c.in-RB3.is

pub returns-in-KV3 : goal.returns-in-KV3
unfolding ascii
returns-in-KV3 c = rw c.in-KV3.is

pub returns-in-CSRL1 : goal.returns-in-CSRL1
unfolding ascii
returns-in-CSRL1 c = rw c.in-CSRL1.is
