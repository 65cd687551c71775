-- `server_read::wanting::missing` meets its contract: each committed set is read in its place. Assumes nothing.
use Rattle.std.proofs.Common.{◌≡◌, ◌∙◌, arith}
use Rattle.masks.proofs.Turns.{mask-none, mask_step}
use Rattle.server.specs.Held.{committed_word}
use Rattle.server.specs.Host.{wanted_in}
use Rattle.server_run.proofs.Gathering.{named_none, named_step}
use Rattle.server_read.proofs.wanting.missing.Goals as goal

pub loop-t-init : goal.loop-t-init
loop-t-init c = (c.no_set-all.ensures ∙ named_none c.args.s.now, mask-none _)

pub loop-t-preserved : goal.loop-t-preserved
loop-t-preserved c =
    let s = c.args.s.now in
    let t = c.loop-t.t in
    let inv = c.loop-t.invariant in (
      rw (c.union_set-all.ensures, c.named.ensures, inv.0) (named_step s t),
      rw (mask_step, c.put-committed.ensures, inv.1),
    )

pub returns : goal.returns
unfolding wanted_in committed_word
returns c =
    let s = c.args.s.now in
    let end : c.loop-t.t ≡ 64 = omega arith in (
      c.in_ok-read_form.ensures.0,
      rw (c.set_without.ensures, c.loop-t.invariant.0, c.loop-t.invariant.1, end),
    )
