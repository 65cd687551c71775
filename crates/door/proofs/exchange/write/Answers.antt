-- `door::exchange::write` meets its contract: what is told of an outcome is what a host is told. Assumes nothing.
use Rattle.door.proofs.Answered.{told-is, length-is, kept-is}
use Rattle.door.proofs.exchange.write.Goals as goal

pub returns-clause-refusal : goal.returns-clause-refusal
returns-clause-refusal c = told-is _ _ c.write.ensures.0

pub returns-clause-length : goal.returns-clause-length
returns-clause-length c = length-is _ _ c.write.ensures.0

pub returns-clause-kept : goal.returns-clause-kept
returns-clause-kept c = rw c.write.ensures.1 (kept-is c.write.result c.args.m.now c.args.output.now c.write.ensures.0)
