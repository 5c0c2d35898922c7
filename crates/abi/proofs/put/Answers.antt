use Rattle.std.proofs.Common.{◌≡◌, ℕ, suc, ◌+◌, ◌*◌, ◌<◌, ◌≤◌, List, length, get_or, drop, map, sym, ap, ◌∙◌, arith}
use native.Mathlib.Nat.{mul-suc}
use lib.ListN.{length-drop, length-map, get_or-map}
use borrow.Author.Tests.{le-leb}
use Rattle.word.proofs.Memory.{store_length}
use Rattle.word.specs.Bytes.{bytes_of}
use Rattle.abi.proofs.Laws.{put_more, put_none}
use Rattle.abi.proofs.put.Goals as goal

-- the room for the rest of the fields has the room for one of them
room : {A : Type 0} (k i : ℕ) (l : List A) → i < length l → k * length (drop i l) ≡ k + k * length (drop (i + 1) l)
room k i l h =
    let p = length-drop i l in
    let q = length-drop (i + 1) l in
    let e : length (drop i l) ≡ suc (length (drop (i + 1) l)) = omega arith in
    rw e (mul-suc k (length (drop (i + 1) l)) ∙ omega arith)

pub loop-x-preserved : goal.loop-x-preserved
loop-x-preserved g c =
    let at = c.loop-x in
    let l = c.args.l.now in
    let i = at.x-index in
    let k = bytes_of g.T.Field.width in
    let f = g.T.Field.number in
    let x = c.x-item.result in
    let h : i < length l = c.loop-x-test.true in
    let size : c.bytes-size.result ≡ k = c.bytes-size.ensures.0 ∙ ap bytes_of c.width.ensures in
    let more = room k i l h in
    let inside : at.to + k ≤ length at.r = omega arith in
    let v : c.number.result ≡ get_or (map f l) i (f x) = c.number.ensures ∙ ap f c.x-item.is ∙ sym (get_or-map f l i x) in
    let n = store_length k at.r at.to (get_or (map f l) i (f x)) in
    let m = length-map l f in
    rw (c.store.ensures, c.width-in-loop-x.ensures, v, le-leb _ _ inside, size)
    (omega arith, omega arith, put_more k at.r (map f l) i at.to (at.to + k) (f x) (omega arith) (omega arith) ∙ at.invariant.2)

pub returns : goal.returns
returns g c =
    let l = c.args.l.now in
    let m = length-map l g.T.Field.number in
    let h : length (map g.T.Field.number l) ≤ c.loop-x.x-index = omega (arith, c.loop-x-test.false) in
    sym (put_none (bytes_of g.T.Field.width) _ _ _ _ h) ∙ c.loop-x.invariant.2
