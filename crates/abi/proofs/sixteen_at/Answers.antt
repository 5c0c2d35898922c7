use Rattle.std.proofs.Common.{◌≡◌, ℕ, ◌+◌, ◌*◌, ◌<◌, sym, ◌∙◌, arith}
use native.Mathlib.Nat.{mul-suc}
use lib.ListN.{length-set}
use Rattle.word.specs.Bytes.{bytes_of, load_of}
use Rattle.abi.proofs.Laws.{fill_more, fill_none}
use Rattle.abi.proofs.sixteen_at.Goals as goal

next : (k i a : ℕ) → a + k * (i + 1) ≡ a + k * i + k
next k i a = let e = mul-suc k i in omega arith

pub loop-i-preserved : goal.loop-i-preserved
loop-i-preserved g c =
    let l = c.loop-i in
    let k = bytes_of g.T.Field.width in
    let r = c.args.r.now in
    let a = c.args.from in
    let n = l.invariant.0 in
    let size = c.bytes-size.ensures.0 in
    let width = c.width.ensures in
    let h : l.i < 16 = c.loop-i-test.true in
    (simp length-set n, rw (c.at.ensures, size, width) (fill_more (λ (b : ℕ). g.T.Field.read (load_of g.T.Field.width r (record { 0 = b }))) k 16 l.all l.i (a + k * l.i) (a + k * (l.i + 1)) h (omega arith) (next k l.i a) ∙ l.invariant.1))

pub returns : goal.returns
returns g c =
    let l = c.loop-i in
    let k = bytes_of g.T.Field.width in
    let r = c.args.r.now in
    let n = l.invariant.0 in
    let h = c.loop-i-test.false in
    sym (fill_none (λ (b : ℕ). g.T.Field.read (load_of g.T.Field.width r (record { 0 = b }))) k 16 l.all l.i (c.args.from + k * l.i) h (omega arith)) ∙ l.invariant.1
