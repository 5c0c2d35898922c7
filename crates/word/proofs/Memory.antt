-- Laws of bytes in memory, once over their number.
-- Assumes nothing.
use Rattle.std.proofs.Common.{◌≡◌, ℕ, zero, suc, ◌+◌, ◌-◌, ◌*◌, ◌/◌, ◌%◌, ◌^◌, ◌<◌, ◌≤◌, Bool, true, false, cond, List, length, get_or, set, sym, refl, ap, ◌∙◌, subst, ap₂, lt_irrefl, add-one, arith, length-set, get_or-set_other, get_or-set_same, pow-add}
use native.Mathlib.Nat.{mod-one}
use lib.Arith.{digits_lt}
use lib.Pow.{mod-pow-add}
use lib.Seq.{set_comm}
use Rattle.word.specs.Bytes.{inside, load, store, load_of}
use Rattle.word.specs.declared.ByteAddr.{ByteAddr}
use Rattle.word.specs.declared.Width.{Width}

-- one more byte
pub load_more : (i : ℕ) (m : List ℕ) (a : ℕ) → load (i + 1) m a ≡ load i m a * 256 + get_or m (a + i) 0
unfolding load
load_more i m a = rw add-one

pub store_more : (i : ℕ) (m : List ℕ) (a v : ℕ) → 0 < i → store i m a v ≡ store (i - 1) (set m (a + (i - 1)) (v % 256)) a (v / 256)
unfolding store
store_more zero m a v h = absurd (lt_irrefl 0 h)
store_more (suc n) m a v h =
    let e : suc n - 1 ≡ n = omega arith in
    rw e

-- no byte
pub load_none : (m : List ℕ) (a : ℕ) → load 0 m a ≡ 0
unfolding load
load_none m a = refl

pub store_none : (k : ℕ) (m : List ℕ) (a v : ℕ) → k ≤ 0 → store k m a v ≡ m
unfolding store
store_none k m a v h =
    let e : k ≡ 0 = omega arith in
    rw e

-- a digit more
pub byte_more : (i v b : ℕ) → v < 2 ^ (8 * i) → b < 256 → v * 256 + b < 2 ^ (8 * (i + 1))
byte_more i v b h hb =
    let e : 8 * (i + 1) ≡ 8 * i + 8 = omega arith in
    subst (λ (n : ℕ). v * 256 + b < n) (sym (ap (λ (n : ℕ). 2 ^ n) e ∙ pow-add 2 (8 * i) 8)) (digits_lt h hb)

-- Writing keeps the length, and every byte that is not written.
pub store_length : (n : ℕ) (m : List ℕ) (a v : ℕ) → length (store n m a v) ≡ length m
unfolding store
store_length zero m a v = refl
store_length (suc n) m a v = store_length n (set m (a + n) (v % 256)) a (v / 256) ∙ length-set m (a + n) (v % 256)

pub store_kept : (n : ℕ) (m : List ℕ) (a v j : ℕ) → ((i : ℕ) → i < n → j ≡ a + i → ⊥) → get_or (store n m a v) j 0 ≡ get_or m j 0
unfolding store
store_kept zero m a v j h = refl
store_kept (suc n) m a v j h =
    store_kept n (set m (a + n) (v % 256)) a (v / 256) j (λ i l. h i (omega arith))
    ∙ get_or-set_other m (a + n) j (v % 256) 0 (h n (omega arith))

-- Reading depends on the bytes that are read alone.
pub load_same : (n : ℕ) (m k : List ℕ) (a : ℕ) → ((i : ℕ) → i < n → get_or m (a + i) 0 ≡ get_or k (a + i) 0) → load n m a ≡ load n k a
unfolding load
load_same zero m k a h = refl
load_same (suc n) m k a h = ap₂ (λ (x y : ℕ). x * 256 + y) (load_same n m k a (λ i l. h i (omega arith))) (h n (omega arith))

-- What was stored is read back: the low n bytes of v.
pub load_store : (n : ℕ) (m : List ℕ) (a v : ℕ) → a + n ≤ length m → load n (store n m a v) a ≡ v % 2 ^ (8 * n)
unfolding load store
load_store zero m a v h = sym (mod-one v)
load_store (suc n) m a v h =
    let k : List ℕ = set m (a + n) (v % 256) in
    let e : 8 * suc n ≡ 8 * n + 8 = omega arith in
    let last : get_or (store n k a (v / 256)) (a + n) 0 ≡ v % 256
    = store_kept n k a (v / 256) (a + n) (λ i l q. omega arith) ∙ get_or-set_same m (a + n) (v % 256) 0 (omega arith) in
    let rest : load n (store n k a (v / 256)) a ≡ v / 256 % 2 ^ (8 * n)
    = load_store n k a (v / 256) (subst (λ (l : ℕ). a + n ≤ l) (sym (length-set m (a + n) (v % 256))) (omega arith)) in
    ap₂ (λ (x y : ℕ). x * 256 + y) rest last
    ∙ sym (ap (λ (x : ℕ). v % 2 ^ x) e ∙ mod-pow-add v (8 * n) 8)

-- Stores to places that do not meet may change places.
store_set : (n : ℕ) (m : List ℕ) (a v j x : ℕ) → ((i : ℕ) → i < n → j ≡ a + i → ⊥) → store n (set m j x) a v ≡ set (store n m a v) j x
unfolding store
store_set zero m a v j x h = refl
store_set (suc n) m a v j x h =
    ap (λ (k : List ℕ). store n k a (v / 256)) (set_comm m j (a + n) x (v % 256) (h n (omega arith)))
    ∙ store_set n (set m (a + n) (v % 256)) a (v / 256) j x (λ i l. h i (omega arith))

pub store_order : (n k : ℕ) (m : List ℕ) (a v b u : ℕ) → a + n ≤ b → store n (store k m b u) a v ≡ store k (store n m a v) b u
unfolding store
store_order n zero m a v b u h = refl
store_order n (suc k) m a v b u h =
    store_order n k (set m (b + k) (u % 256)) a v b (u / 256) h
    ∙ ap (λ (x : List ℕ). store k x b (u / 256)) (store_set n m a v (b + k) (u % 256) (λ i l q. omega arith))

-- a half is below 65,536, since each byte is below 256
pub half_lt : (m : List ℕ) (at : ByteAddr) → ((i : ℕ) → get_or m i 0 < 256) → load_of Width.Half m at < 65536
half_lt m at h = go (inside m at 2)
  where
    a : ℕ
    a = at.0

    two : load (0 + 1 + 1) m a < 2 ^ (8 * (0 + 1 + 1))
    two =
        subst (λ (n : ℕ). n < 2 ^ (8 * (0 + 1 + 1))) (sym (load_more 1 m a))
        (byte_more 1 (load 1 m a) _
        (subst (λ (n : ℕ). n < 2 ^ (8 * 1)) (sym (load_more 0 m a ∙ ap (λ (n : ℕ). n * 256 + get_or m (a + 0) 0) (load_none m a))) (omega (arith, h (a + 0))))
        (h (a + 1)))

    go : (t : Bool) → cond t (load 2 m a) 0 < 65536
    go true = two
    go false = omega arith
