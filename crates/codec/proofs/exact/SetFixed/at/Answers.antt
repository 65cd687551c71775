-- Four hypers are a set. Assumes nothing.
use Rattle.codec.proofs.ReadExact.{set-read}
use Rattle.codec.proofs.exact.SetFixed.at.Goals as goal

pub returns : goal.returns
returns c = set-read _ _ c.requires c.hyper_at.ensures c.hyper_at-2.ensures c.hyper_at-3.ensures c.hyper_at-4.ensures
