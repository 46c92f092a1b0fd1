use Rattle.std.proofs.Common.{rules}
use Rattle.container_core.specs.Opening.{header_fault_one}
use Rattle.container_core.proofs.header.fault_one.Goals as goal

pub returns-then-bytes-ne-EXPONENT : goal.returns-then-bytes-ne-EXPONENT
unfolding header_fault_one
returns-then-bytes-ne-EXPONENT c = search rules

pub returns-then-ne-2 : goal.returns-then-ne-2
unfolding header_fault_one
returns-then-ne-2 c = search rules

pub returns : goal.returns
unfolding header_fault_one
returns c = search rules
