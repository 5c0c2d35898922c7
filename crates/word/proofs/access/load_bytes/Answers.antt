use Rattle.std.proofs.Common.{◌≡◌, ℕ, ◌+◌, ◌-◌, ◌*◌, ◌^◌, ◌<◌, ◌≤◌, List, length, take, drop, get_or, sym, ◌∙◌, arith, pow_mono, length-take}
use Rattle.std.proofs.lemmas.List.{get_or-take, get_or-drop}
use Rattle.word.proofs.Memory.{load_none, load_more, byte_more}
use Rattle.word.proofs.access.load_bytes.Goals as goal

-- a place of the bytes lent is below their number, and holds the byte of memory that far from their first
place_lt : (m : List ℕ) (a n i : ℕ) → i < length (take (a + n - a) (drop a m)) → i < n
place_lt m a n i h = omega (arith, rw length-take at h)

byte_at : (m : List ℕ) (a n i : ℕ) → i < length (take (a + n - a) (drop a m)) → get_or (take (a + n - a) (drop a m)) i 0 ≡ get_or m (a + i) 0
byte_at m a n i h =
    let l : i < n = place_lt m a n i h in
    get_or-take (a + n - a) (drop a m) i 0 (omega arith) ∙ get_or-drop a m i 0

pub loop-x-init : goal.loop-x-init
loop-x-init c = (omega arith, sym (load_none _ _))

pub overflow_mul-v : goal.overflow_mul-v
overflow_mul-v c =
    let i : c.loop-x.x-index < c.args.n = place_lt _ c.args.at _ _ c.loop-x-test.true in
    let h : 2 ^ (8 * c.loop-x.x-index) ≤ 2 ^ 24 = pow_mono {j = 24} (omega arith) in
    omega arith

pub overflow_add-v : goal.overflow_add-v
overflow_add-v c =
    let i : c.loop-x.x-index < c.args.n = place_lt _ c.args.at _ _ c.loop-x-test.true in
    let h : 2 ^ (8 * c.loop-x.x-index) ≤ 2 ^ 24 = pow_mono {j = 24} (omega arith) in
    rw (byte_at _ _ _ _ c.loop-x-test.true) (omega (arith, c.type_inv.m (c.args.at + c.loop-x.x-index)))

pub loop-x-preserved : goal.loop-x-preserved
loop-x-preserved c = rw (byte_at _ _ _ _ c.loop-x-test.true) (
  byte_more _ _ _ c.loop-x.invariant.0 (c.type_inv.m (c.args.at + c.loop-x.x-index)).fits,
  rw (load_more, c.loop-x.invariant.1),
)
