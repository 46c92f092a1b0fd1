use Rattle.container_core.proofs.FaultLemmas.{length-front, size-front, two-front, fault-front, early-front}
use Rattle.container_core.proofs.laws.headers_stand_in_front.Goals as goal

pub returns-clause-length : goal.returns-clause-length
returns-clause-length c = length-front

pub returns-clause-size : goal.returns-clause-size
returns-clause-size c = size-front

pub returns-clause-two : goal.returns-clause-two
returns-clause-two c = two-front

pub returns-clause-header : goal.returns-clause-header
returns-clause-header c = fault-front

pub returns-clause-early : goal.returns-clause-early
returns-clause-early c = early-front
