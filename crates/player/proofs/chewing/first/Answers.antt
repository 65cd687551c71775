-- Each server is the fresh one of its place.
use Rattle.std.proofs.Common.{rules}
use Rattle.masks.proofs.FoldLaws.{tab_of}
use Rattle.server.specs.Host.{fresh_server}
use Rattle.player.specs.Replay.{twelve}
use Rattle.player.proofs.chewing.first.Goals as goal

pub returns : goal.returns
unfolding twelve
returns c =
    let made = c.from_fn-servers.ensures.items in
    rw (c.begun-walk.ensures, tab_of fresh_server 12 (fresh_server 0) c.from_fn-servers.result made.long (λ i h. let k = (made.at i (fresh_server 0) h).2.met in search rules))
