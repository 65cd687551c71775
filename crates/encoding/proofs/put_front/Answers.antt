-- Five writers in a row write the front. Assumes nothing.
use Prim.Native.Nat.{◌+◌, ◌≤◌}
use lib.Dec.{lit<}
use lib.ListN.{length}
use Rattle.encoding.specs.Sections.{cat}
use Rattle.encoding.proofs.WriteWhole.{none-put, section-room, section-put, front_sections, front_is}
use Rattle.encoding.proofs.put_front.Goals as goal

pub put-a-requires : goal.put-a-requires
put-a-requires c =
    let a = c.args in
    let m = a.m.now in
    let ss = front_sections a.h m.t m.server m.ballot m.promise m.ran in
    let room : a.at + length (cat ss) ≤ length a.out.now = rw (front_is a.h m.t m.server m.ballot m.promise m.ran) c.requires in
    section-room ss a.at a.out.now room 0 (lit< tt) (none-put ss a.at a.out.now room)

pub put_if-b-requires : goal.put_if-b-requires
put_if-b-requires c =
    let a = c.args in
    let m = a.m.now in
    let ss = front_sections a.h m.t m.server m.ballot m.promise m.ran in
    let room : a.at + length (cat ss) ≤ length a.out.now = rw (front_is a.h m.t m.server m.ballot m.promise m.ran) c.requires in
    let p₁ = section-put ss a.at a.out.now room 0 (lit< tt) (none-put ss a.at a.out.now room) c.put-a.ensures in
    section-room ss a.at a.out.now room 1 (lit< tt) p₁

pub put_if-c-requires : goal.put_if-c-requires
put_if-c-requires c =
    let a = c.args in
    let m = a.m.now in
    let ss = front_sections a.h m.t m.server m.ballot m.promise m.ran in
    let room : a.at + length (cat ss) ≤ length a.out.now = rw (front_is a.h m.t m.server m.ballot m.promise m.ran) c.requires in
    let p₁ = section-put ss a.at a.out.now room 0 (lit< tt) (none-put ss a.at a.out.now room) c.put-a.ensures in
    let p₂ = section-put ss a.at a.out.now room 1 (lit< tt) p₁ c.put_if-b.ensures in
    section-room ss a.at a.out.now room 2 (lit< tt) p₂

pub put_if-d-requires : goal.put_if-d-requires
put_if-d-requires c =
    let a = c.args in
    let m = a.m.now in
    let ss = front_sections a.h m.t m.server m.ballot m.promise m.ran in
    let room : a.at + length (cat ss) ≤ length a.out.now = rw (front_is a.h m.t m.server m.ballot m.promise m.ran) c.requires in
    let p₁ = section-put ss a.at a.out.now room 0 (lit< tt) (none-put ss a.at a.out.now room) c.put-a.ensures in
    let p₂ = section-put ss a.at a.out.now room 1 (lit< tt) p₁ c.put_if-b.ensures in
    let p₃ = section-put ss a.at a.out.now room 2 (lit< tt) p₂ c.put_if-c.ensures in
    section-room ss a.at a.out.now room 3 (lit< tt) p₃

pub put_if-requires : goal.put_if-requires
put_if-requires c =
    let a = c.args in
    let m = a.m.now in
    let ss = front_sections a.h m.t m.server m.ballot m.promise m.ran in
    let room : a.at + length (cat ss) ≤ length a.out.now = rw (front_is a.h m.t m.server m.ballot m.promise m.ran) c.requires in
    let p₁ = section-put ss a.at a.out.now room 0 (lit< tt) (none-put ss a.at a.out.now room) c.put-a.ensures in
    let p₂ = section-put ss a.at a.out.now room 1 (lit< tt) p₁ c.put_if-b.ensures in
    let p₃ = section-put ss a.at a.out.now room 2 (lit< tt) p₂ c.put_if-c.ensures in
    let p₄ = section-put ss a.at a.out.now room 3 (lit< tt) p₃ c.put_if-d.ensures in
    section-room ss a.at a.out.now room 4 (lit< tt) p₄

pub returns : goal.returns
returns c =
    let a = c.args in
    let m = a.m.now in
    let ss = front_sections a.h m.t m.server m.ballot m.promise m.ran in
    let room : a.at + length (cat ss) ≤ length a.out.now = rw (front_is a.h m.t m.server m.ballot m.promise m.ran) c.requires in
    let p₁ = section-put ss a.at a.out.now room 0 (lit< tt) (none-put ss a.at a.out.now room) c.put-a.ensures in
    let p₂ = section-put ss a.at a.out.now room 1 (lit< tt) p₁ c.put_if-b.ensures in
    let p₃ = section-put ss a.at a.out.now room 2 (lit< tt) p₂ c.put_if-c.ensures in
    let p₄ = section-put ss a.at a.out.now room 3 (lit< tt) p₃ c.put_if-d.ensures in
    let p₅ = section-put ss a.at a.out.now room 4 (lit< tt) p₄ c.put_if.ensures in
    rw (front_is a.h m.t m.server m.ballot m.promise m.ran) at p₅
