-- `station::servers::take` meets its contract: a Commit runs what is ready; every other message stores the one record.
use Rattle.std.proofs.Common.{◌<◌, ◌∙◌, sym, ap, arith}
use Rattle.std.proofs.lemmas.Result.{err_from_is_err_and}
use Rattle.server_read.proofs.Sizes.{Told}
use Rattle.server.specs.Held.{put_record}
use Rattle.door.specs.Exchange.{Exchange}
use Rattle.door.proofs.Answered.{ends-refused, ends-written}
use Rattle.station.proofs.Taken.{unformed, step-refused, place-below, stored-all, commit-all}
use Rattle.station.proofs.servers.take.Goals as goal

-- the form is broken
pub returns-in_err-f-clause-answer : goal.returns-in_err-f-clause-answer
returns-in_err-f-clause-answer c =
    let p = err_from_is_err_and c.from_residual.result c.from_residual.ensures.1 in
    rw (p.1, p.2, c.in_err-f.ensures.1) (sym (ap (λ (x : Exchange). x.answer) (unformed c.args.s.now c.args.m.now c.args.output.now c.in_err-f.ensures.0)))

pub returns-in_err-f-clause-server : goal.returns-in_err-f-clause-server
returns-in_err-f-clause-server c = sym (ap (λ (x : Exchange). x.server) (unformed c.args.s.now c.args.m.now c.args.output.now c.in_err-f.ensures.0))

pub returns-in_err-f-clause-output : goal.returns-in_err-f-clause-output
returns-in_err-f-clause-output c = sym (ap (λ (x : Exchange). x.output) (unformed c.args.s.now c.args.m.now c.args.output.now c.in_err-f.ensures.0))

-- the step refuses
pub returns-in_err-c-clause-answer : goal.returns-in_err-c-clause-answer
returns-in_err-c-clause-answer c =
    let s = c.args.s.now in
    let m = c.args.m.now in
    let z = c.args.output.now in
    let p = err_from_is_err_and c.from_residual-in_err-c.result c.from_residual-in_err-c.ensures.1 in
    rw (p.1, p.2) (sym (ap (λ (x : Exchange). x.answer) (step-refused s m z c.in_ok-f.f c.in_ok-f.ensures.0 c.in_ok-f.ensures.1 c.in_err-c.field-0.0 c.in_err-c.ensures.refusal)))

pub returns-in_err-c-clause-server : goal.returns-in_err-c-clause-server
returns-in_err-c-clause-server c =
    let s = c.args.s.now in
    let m = c.args.m.now in
    let z = c.args.output.now in
    sym (ap (λ (x : Exchange). x.server) (step-refused s m z c.in_ok-f.f c.in_ok-f.ensures.0 c.in_ok-f.ensures.1 c.in_err-c.field-0.0 c.in_err-c.ensures.refusal))

pub returns-in_err-c-clause-output : goal.returns-in_err-c-clause-output
returns-in_err-c-clause-output c =
    let s = c.args.s.now in
    let m = c.args.m.now in
    let z = c.args.output.now in
    sym (ap (λ (x : Exchange). x.output) (step-refused s m z c.in_ok-f.f c.in_ok-f.ensures.0 c.in_ok-f.ensures.1 c.in_err-c.field-0.0 c.in_err-c.ensures.refusal))

-- a Commit
pub returns-then-commits-clause-answer : goal.returns-then-commits-clause-answer
returns-then-commits-clause-answer c =
    let s = c.args.s.now in
    let m = c.args.m.now in
    let z = c.args.output.now in
    let told : Told s = c.way_told-1.given in
    let all = commit-all s m z c.in_ok-f.f c.in_ok-f.ensures.0 c.in_ok-f.ensures.1 c.in_ok-c.ensures.refusal c.in_ok-c.c c.in_ok-c.ensures.taken told c.requires (sym c.commits.ensures ∙ c.if-commits.true) in
    c.take_commit.ensures.answer ∙ ap (λ (x : Exchange). x.answer) all

pub returns-then-commits-clause-server : goal.returns-then-commits-clause-server
returns-then-commits-clause-server c =
    let s = c.args.s.now in
    let m = c.args.m.now in
    let z = c.args.output.now in
    let told : Told s = c.way_told-1.given in
    let all = commit-all s m z c.in_ok-f.f c.in_ok-f.ensures.0 c.in_ok-f.ensures.1 c.in_ok-c.ensures.refusal c.in_ok-c.c c.in_ok-c.ensures.taken told c.requires (sym c.commits.ensures ∙ c.if-commits.true) in
    c.take_commit.ensures.server ∙ ap (λ (x : Exchange). x.server) all

pub returns-then-commits-clause-output : goal.returns-then-commits-clause-output
returns-then-commits-clause-output c =
    let s = c.args.s.now in
    let m = c.args.m.now in
    let z = c.args.output.now in
    let told : Told s = c.way_told-1.given in
    let all = commit-all s m z c.in_ok-f.f c.in_ok-f.ensures.0 c.in_ok-f.ensures.1 c.in_ok-c.ensures.refusal c.in_ok-c.c c.in_ok-c.ensures.taken told c.requires (sym c.commits.ensures ∙ c.if-commits.true) in
    c.take_commit.ensures.output ∙ ap (λ (x : Exchange). x.output) all

-- another message, of which encoding refuses the reply
pub returns-in_err-length-clause-answer : goal.returns-in_err-length-clause-answer
returns-in_err-length-clause-answer c =
    let s = c.args.s.now in
    let m = c.args.m.now in
    let z = c.args.output.now in
    let p = err_from_is_err_and c.from_residual-in_err-length.result c.from_residual-in_err-length.ensures.1 in
    rw (p.1, p.2) (ap (λ (x : Exchange). x.answer) (sym (ends-refused s (put_record s c.in_ok-c.c.place c.in_ok-c.c.after) c.in_ok-c.c.reply z c.in_err-length.field-0.0 c.in_err-length.ensures.refusal) ∙ stored-all s m z c.in_ok-f.f c.in_ok-f.ensures.0 c.in_ok-f.ensures.1 c.in_ok-c.ensures.refusal c.in_ok-c.c c.in_ok-c.ensures.taken (sym c.commits.ensures ∙ c.if-commits.false)))

pub returns-in_err-length-clause-server : goal.returns-in_err-length-clause-server
returns-in_err-length-clause-server c =
    let s = c.args.s.now in
    let m = c.args.m.now in
    let z = c.args.output.now in
    ap (λ (x : Exchange). x.server) (sym (ends-refused s (put_record s c.in_ok-c.c.place c.in_ok-c.c.after) c.in_ok-c.c.reply z c.in_err-length.field-0.0 c.in_err-length.ensures.refusal) ∙ stored-all s m z c.in_ok-f.f c.in_ok-f.ensures.0 c.in_ok-f.ensures.1 c.in_ok-c.ensures.refusal c.in_ok-c.c c.in_ok-c.ensures.taken (sym c.commits.ensures ∙ c.if-commits.false))

pub returns-in_err-length-clause-output : goal.returns-in_err-length-clause-output
returns-in_err-length-clause-output c =
    let s = c.args.s.now in
    let m = c.args.m.now in
    let z = c.args.output.now in
    c.in_err-length.ensures.kept ∙ ap (λ (x : Exchange). x.output) (sym (ends-refused s (put_record s c.in_ok-c.c.place c.in_ok-c.c.after) c.in_ok-c.c.reply z c.in_err-length.field-0.0 c.in_err-length.ensures.refusal) ∙ stored-all s m z c.in_ok-f.f c.in_ok-f.ensures.0 c.in_ok-f.ensures.1 c.in_ok-c.ensures.refusal c.in_ok-c.c c.in_ok-c.ensures.taken (sym c.commits.ensures ∙ c.if-commits.false))

-- and where it is written
pub offset_bounds-s-c : goal.offset_bounds-s-c
offset_bounds-s-c c =
    let h : c.in_ok-c.c.place < 64 = place-below c.args.s.now c.args.m.now c.args.output.now c.in_ok-f.f c.in_ok-f.ensures.0 c.in_ok-f.ensures.1 c.in_ok-c.ensures.refusal c.in_ok-c.c c.in_ok-c.ensures.taken in
    record { fits = omega arith }

pub bounds-s-c : goal.bounds-s-c
bounds-s-c c =
    place-below c.args.s.now c.args.m.now c.args.output.now c.in_ok-f.f c.in_ok-f.ensures.0 c.in_ok-f.ensures.1 c.in_ok-c.ensures.refusal c.in_ok-c.c c.in_ok-c.ensures.taken

pub returns-clause-answer : goal.returns-clause-answer
returns-clause-answer c =
    let s = c.args.s.now in
    let m = c.args.m.now in
    let z = c.args.output.now in
    ap (λ (x : Exchange). x.answer) (sym (ends-written s (put_record s c.in_ok-c.c.place c.in_ok-c.c.after) c.in_ok-c.c.reply z c.in_ok-length.ensures.refusal c.in_ok-length.length c.in_ok-length.ensures.length) ∙ stored-all s m z c.in_ok-f.f c.in_ok-f.ensures.0 c.in_ok-f.ensures.1 c.in_ok-c.ensures.refusal c.in_ok-c.c c.in_ok-c.ensures.taken (sym c.commits.ensures ∙ c.if-commits.false))

pub returns-clause-server : goal.returns-clause-server
returns-clause-server c =
    let s = c.args.s.now in
    let m = c.args.m.now in
    let z = c.args.output.now in
    ap (λ (x : Exchange). x.server) (sym (ends-written s (put_record s c.in_ok-c.c.place c.in_ok-c.c.after) c.in_ok-c.c.reply z c.in_ok-length.ensures.refusal c.in_ok-length.length c.in_ok-length.ensures.length) ∙ stored-all s m z c.in_ok-f.f c.in_ok-f.ensures.0 c.in_ok-f.ensures.1 c.in_ok-c.ensures.refusal c.in_ok-c.c c.in_ok-c.ensures.taken (sym c.commits.ensures ∙ c.if-commits.false))

pub returns-clause-output : goal.returns-clause-output
returns-clause-output c =
    let s = c.args.s.now in
    let m = c.args.m.now in
    let z = c.args.output.now in
    c.write.ensures.output ∙ ap (λ (x : Exchange). x.output) (sym (ends-written s (put_record s c.in_ok-c.c.place c.in_ok-c.c.after) c.in_ok-c.c.reply z c.in_ok-length.ensures.refusal c.in_ok-length.length c.in_ok-length.ensures.length) ∙ stored-all s m z c.in_ok-f.f c.in_ok-f.ensures.0 c.in_ok-f.ensures.1 c.in_ok-c.ensures.refusal c.in_ok-c.c c.in_ok-c.ensures.taken (sym c.commits.ensures ∙ c.if-commits.false))
