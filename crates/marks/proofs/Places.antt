-- Laws of memory's marks over the position, once for both layouts: what is put is read back, and the other positions are kept.
-- Assumes nothing.
use Prim.Native.Nat.{ℕ, zero, suc, ◌+◌, ◌*◌, ◌-◌, ◌/◌, ◌%◌, ◌^◌, ◌<◌, ◌≤◌}
use mathlib.Core.Path.{◌≡◌, refl, sym, ap, ap₂, subst, ◌∙◌}
use mathlib.Core.Logic.{◌≢◌}
use mathlib.Core.Bool.{Bool, true, false, ◌&&◌, ◌||◌}
use mathlib.Core.List.{List}
use native.Mathlib.Decide.{ℕ_discrete}
use native.Mathlib.Nat.{mod-lt, zero-div, mod-one}
use native.Mathlib.Numerals.{add-one}
use native.Mathlib.Omega.{arith}
use lib.Dec.{ltb, eqb, leb}
use lib.ListN.{length, get_or, set, length-set, get_or-eq_default}
use lib.Pow.{pow_pos, mod-pow-add, shr-shr, shr_mod}
use lib.Seq.{get_or-set_same, get_or-set_other, set-get_or, set_out}
use borrow.Author.Tests.{eqb-true, eqb-false, leb-true, leb-false, ltb-true, ltb-false, not-false, lt-ltb}
use Rattle.word.specs.Bits.{num, on, field_of, put}
use Rattle.word.proofs.Fields.{read_back, kept_above, kept_below, written_back}
use Rattle.marks.specs.Memory.{Marks, bits, bytes, mark_at, mark_put, any_mark, put_marks, bad_room, bad_mark}
use Rattle.marks.specs.Parts.{is_clear}

-- ---- one bit of a number

num_small : (b : Bool) → num b % 2 ≡ num b
num_small true = refl
num_small false = refl

is_one : (b : Bool) → eqb (num b) 1 ≡ b
is_one true = refl
is_one false = refl

bit_put : (p s : ℕ) (b : Bool) → on (put p s 1 (num b)) s ≡ b
bit_put p s b = ap (λ (n : ℕ). eqb n 1) (read_back p s 1 (num b) ∙ num_small b) ∙ is_one b

bit_kept : (p s t : ℕ) (b : Bool) → s ≢ t → on (put p s 1 (num b)) t ≡ on p t
bit_kept p s t b ne = go (leb (s + 1) t) refl
  where
    go : (c : Bool) → leb (s + 1) t ≡ c → on (put p s 1 (num b)) t ≡ on p t
    go true e = ap (λ (n : ℕ). eqb n 1) (kept_above p s 1 (num b) t 1 (leb-true _ _ e))
    go false e = ap (λ (n : ℕ). eqb n 1) (kept_below p s 1 (num b) t 1 (let q : t < s + 1 = leb-false _ _ e in omega (arith, ne)))

-- a bit that is off, and 0 put there
bit_off : (p s : ℕ) → on p s ≡ false → put p s 1 0 ≡ p
bit_off p s e = ap (put p s 1) (sym zero_there) ∙ written_back p s 1
  where
    zero_there : field_of p s 1 ≡ 0
    zero_there = let l : field_of p s 1 < 2 = mod-lt (p / 2 ^ s) (omega arith) in let q = eqb-false (field_of p s 1) 1 e in omega (arith, q)

pub no_bit : (s : ℕ) → on 0 s ≡ false
no_bit s = ap (λ (n : ℕ). eqb (n % 2) 1) (zero-div (2 ^ s))

-- ---- one position

-- the slice has a place for position i
abbrev pub Has : Marks → ℕ → Type 0
Has (bits k) i = i / 8 < length k
Has (bytes k) i = i < length k

pub put_same : (k : Marks) (i : ℕ) (b : Bool) → Has k i → mark_at (mark_put k i b) i ≡ b
put_same (bits k) i b h = ap (λ (p : ℕ). on p (i % 8)) (get_or-set_same k (i / 8) _ 0 h) ∙ bit_put (get_or k (i / 8) 0) (i % 8) b
put_same (bytes k) i b h = ap (ltb 0) (get_or-set_same k i (num b) 0 h) ∙ above b
  where
    above : (b : Bool) → ltb 0 (num b) ≡ b
    above true = refl
    above false = refl

pub put_other : (k : Marks) (i j : ℕ) (b : Bool) → j ≢ i → mark_at (mark_put k i b) j ≡ mark_at k j
put_other (bits k) i j b ne = go (ℕ_discrete (j / 8) (i / 8)) (ltb (i / 8) (length k)) refl
  where
    p : ℕ
    p = get_or k (i / 8) 0

    go : Dec (j / 8 ≡ i / 8) → (c : Bool) → ltb (i / 8) (length k) ≡ c → mark_at (mark_put (bits k) i b) j ≡ mark_at (bits k) j
    go (no far) c e = ap (λ (n : ℕ). on n (j % 8)) (get_or-set_other k (i / 8) (j / 8) _ 0 far)
    go (yes near) true e =
        ap (λ (n : ℕ). on (get_or (set k (i / 8) (put p (i % 8) 1 (num b))) n 0) (j % 8)) near
        ∙ ap (λ (n : ℕ). on n (j % 8)) (get_or-set_same k (i / 8) _ 0 (ltb-true _ _ e))
        ∙ bit_kept p (i % 8) (j % 8) b (λ q. ne (omega (arith, near)))
        ∙ sym (ap (λ (n : ℕ). on (get_or k n 0) (j % 8)) near)
    go (yes near) false e = ap (λ (l : List ℕ). on (get_or l (j / 8) 0) (j % 8)) (set_out k (i / 8) _ (ltb-false _ _ e))
put_other (bytes k) i j b ne = ap (ltb 0) (get_or-set_other k i j (num b) 0 ne)

-- a position that is not marked, made unmarked
pub put_off : (k : Marks) (i : ℕ) → mark_at k i ≡ false → mark_put k i false ≡ k
put_off (bits k) i e = ap (λ (p : ℕ). bits (set k (i / 8) p)) (bit_off (get_or k (i / 8) 0) (i % 8) e) ∙ ap bits (set-get_or k (i / 8) 0)
put_off (bytes k) i e = ap (λ (p : ℕ). bytes (set k i p)) (sym zero_there) ∙ ap bytes (set-get_or k i 0)
  where
    zero_there : get_or k i 0 ≡ 0
    zero_there = let q = ltb-false 0 (get_or k i 0) e in omega arith

pub has_kept : (k : Marks) (i j : ℕ) (b : Bool) → Has k j → Has (mark_put k i b) j
has_kept (bits k) i j b h = rw length-set h
has_kept (bytes k) i j b h = rw length-set h

-- ---- n positions

or_left : (a b : Bool) → (a || b) ≡ false → a ≡ false
or_left false b e = refl
or_left true b e = e

or_right : (a b : Bool) → (a || b) ≡ false → b ≡ false
or_right false b e = e
or_right true b e = let z : ◌≡◌ {A = ℕ} 0 1 = cc in absurd (omega arith)

-- none of them is marked, one by one
pub none_marked : (n : ℕ) (k : Marks) (i j : ℕ) → any_mark n k i ≡ false → j < n → mark_at k (i + j) ≡ false
unfolding any_mark
none_marked zero k i j e l = absurd (omega arith)
none_marked (suc n) k i j e l = go (ℕ_discrete j n) (λ q. none_marked n k i j (or_left (any_mark n k i) (mark_at k (i + n)) e) q)
  where
    go : Dec (j ≡ n) → (j < n → mark_at k (i + j) ≡ false) → mark_at k (i + j) ≡ false
    go (yes q) f = ap (λ (m : ℕ). mark_at k (i + m)) q ∙ or_right (any_mark n k i) (mark_at k (i + n)) e
    go (no q) f = f (omega (arith, q))

pub any_none : (n : ℕ) (k : Marks) (i : ℕ) → ((j : ℕ) → j < n → mark_at k (i + j) ≡ false) → any_mark n k i ≡ false
unfolding any_mark
any_none zero k i h = refl
any_none (suc n) k i h = rw (any_none n k i (λ j l. h j (omega arith)), h n (omega arith))

-- two layouts, or two slices, that agree at each of them
pub any_same : (n : ℕ) (k l : Marks) (i : ℕ) → ((j : ℕ) → j < n → mark_at k (i + j) ≡ mark_at l (i + j)) → any_mark n k i ≡ any_mark n l i
unfolding any_mark
any_same zero k l i h = refl
any_same (suc n) k l i h = ap₂ ◌||◌ (any_same n k l i (λ j q. h j (omega arith))) (h n (omega arith))

-- those that are put, and the others
pub puts_other : (n : ℕ) (k : Marks) (i j : ℕ) (b : Bool) → ((m : ℕ) → m < n → j ≢ i + m) → mark_at (put_marks n k i b) j ≡ mark_at k j
unfolding put_marks
puts_other zero k i j b h = refl
puts_other (suc n) k i j b h =
    put_other (put_marks n k i b) (i + n) j b (h n (omega arith)) ∙ puts_other n k i j b (λ m l. h m (omega arith))

pub puts_off : (n : ℕ) (k : Marks) (i : ℕ) → any_mark n k i ≡ false → put_marks n k i false ≡ k
unfolding put_marks any_mark
puts_off zero k i e = refl
puts_off (suc n) k i e =
    rw (puts_off n k i (or_left (any_mark n k i) (mark_at k (i + n)) e)) (put_off k (i + n) (or_right (any_mark n k i) (mark_at k (i + n)) e))

pub has_puts : (n : ℕ) (k : Marks) (i j : ℕ) (b : Bool) → Has k j → Has (put_marks n k i b) j
unfolding put_marks
has_puts zero k i j b h = h
has_puts (suc n) k i j b h = has_kept (put_marks n k i b) (i + n) j b (has_puts n k i j b h)

-- one more, and none, as the code counts them
pub puts_more : (n : ℕ) (k : Marks) (i : ℕ) (b : Bool) → put_marks (n + 1) k i b ≡ mark_put (put_marks n k i b) (i + n) b
unfolding put_marks
puts_more n k i b = rw add-one

pub puts_zero : (k : Marks) (i : ℕ) (b : Bool) → put_marks 0 k i b ≡ k
unfolding put_marks
puts_zero k i b = refl

-- ---- a byte of the slice that is 0 and holds all of them

and_left : (a b : Bool) → (a && b) ≡ true → a ≡ true
and_left true b e = refl
and_left false b e = e

and_right : (a b : Bool) → (a && b) ≡ true → b ≡ true
and_right true b e = e
and_right false b e = let z : ◌≡◌ {A = ℕ} 0 1 = cc in absurd (omega arith)

pub clear_none : (n : ℕ) (k : List ℕ) (i : ℕ) → is_clear n k i ≡ true → any_mark n (bits k) i ≡ false
clear_none n k i e = any_none n (bits k) i each
  where
    there : Bool
    there = ltb (i / 8) (length k)

    fits : i % 8 + n ≤ 8
    fits = leb-true _ _ (and_left (leb (i % 8 + n) 8) (there && eqb (get_or k (i / 8) 0) 0) e)

    empty : get_or k (i / 8) 0 ≡ 0
    empty = eqb-true _ _ (and_right there (eqb (get_or k (i / 8) 0) 0) (and_right (leb (i % 8 + n) 8) (there && eqb (get_or k (i / 8) 0) 0) e))

    each : (j : ℕ) → j < n → mark_at (bits k) (i + j) ≡ false
    each j l =
        let q : (i + j) / 8 ≡ i / 8 = omega (arith, fits) in
        ap (λ (m : ℕ). on (get_or k m 0) ((i + j) % 8)) q ∙ ap (λ (m : ℕ). on m ((i + j) % 8)) empty ∙ no_bit ((i + j) % 8)

-- ---- past the slice

pub off_past : (k : List ℕ) (i : ℕ) → length k ≤ i / 8 → mark_at (bits k) i ≡ false
off_past k i h = ap (λ (n : ℕ). on n (i % 8)) (get_or-eq_default k 0 h) ∙ no_bit (i % 8)

pub put_past : (k : List ℕ) (i : ℕ) (b : Bool) → length k ≤ i / 8 → mark_put (bits k) i b ≡ bits k
put_past k i b h = ap bits (set_out k (i / 8) _ h)

-- a slice of the right length has a place for each byte of memory
pub room_has : (n : ℕ) (k : Marks) → bad_room n k ≡ false → (i : ℕ) → i < n → Has k i
room_has n (bits k) e i l = let q = eqb-true (length k) _ (not-false _ e) in omega (arith, q)
room_has n (bytes k) e i l = let q : length k ≡ n = eqb-true _ _ (not-false _ e) in omega arith

-- those that are put, where the slice has places for them
pub puts_same : (n : ℕ) (k : Marks) (i j : ℕ) (b : Bool) → j < n → Has k (i + j) → mark_at (put_marks n k i b) (i + j) ≡ b
unfolding put_marks
puts_same zero k i j b l h = absurd (omega arith)
puts_same (suc n) k i j b l h = go (ℕ_discrete j n) (λ q. puts_same n k i j b q h)
  where
    go : Dec (j ≡ n) → (j < n → mark_at (put_marks n k i b) (i + j) ≡ b) → mark_at (mark_put (put_marks n k i b) (i + n) b) (i + j) ≡ b
    go (yes e) f =
        ap (λ (m : ℕ). mark_at (mark_put (put_marks n k i b) (i + n) b) (i + m)) e
        ∙ put_same (put_marks n k i b) (i + n) b (has_puts n k i (i + n) b (subst (λ (m : ℕ). Has k (i + m)) e h))
    go (no ne) f = put_other (put_marks n k i b) (i + n) (i + j) b (λ e. ne (omega arith)) ∙ f (omega (arith, ne))

-- none is set past the slice
pub past_none : (n : ℕ) (k : List ℕ) (i : ℕ) → length k ≤ i / 8 → any_mark n (bits k) i ≡ false
past_none n k i h = any_none n (bits k) i (λ j l. off_past k (i + j) (omega arith))

-- ---- marks that lie in one byte of the slice, as a field of it

one_more : (x y z : ℕ) → x < 2 → 0 < z → (ltb 0 y || eqb x 1) ≡ ltb 0 (x * z + y)
one_more zero y z l h = or_none (ltb 0 y) ∙ ap (ltb 0) (none_more y z)
  where
    or_none : (b : Bool) → (b || false) ≡ b
    or_none true = refl
    or_none false = refl

    none_more : (a b : ℕ) → a ≡ 0 * b + a
    none_more a b = omega arith
one_more (suc zero) y z l h = or_all (ltb 0 y) ∙ sym (lt-ltb 0 (1 * z + y) (omega arith))
  where
    or_all : (b : Bool) → (b || true) ≡ true
    or_all true = refl
    or_all false = refl
one_more (suc (suc x)) y z l h = absurd (omega arith)

pub any_field : (w : ℕ) (k : List ℕ) (i : ℕ) → i % 8 + w ≤ 8 → any_mark w (bits k) i ≡ ltb 0 (field_of (get_or k (i / 8) 0) (i % 8) w)
unfolding any_mark
any_field zero k i h = sym (ap (ltb 0) (mod-one (get_or k (i / 8) 0 / 2 ^ (i % 8))))
any_field (suc w) k i h =
    ap₂ ◌||◌ (any_field w k i (omega arith)) here
    ∙ one_more (q / 2 ^ w % 2) (q % 2 ^ w) (2 ^ w) (mod-lt (q / 2 ^ w) (omega arith)) (pow_pos w)
    ∙ sym (ap (ltb 0) (ap (λ (n : ℕ). q % 2 ^ n) more ∙ mod-pow-add q 1 w))
  where
    p : ℕ
    p = get_or k (i / 8) 0

    q : ℕ
    q = p / 2 ^ (i % 8)

    more : suc w ≡ 1 + w
    more = omega arith

    here : on (get_or k ((i + w) / 8) 0) ((i + w) % 8) ≡ eqb (q / 2 ^ w % 2) 1
    here =
        let a : (i + w) / 8 ≡ i / 8 = omega arith in
        let b : (i + w) % 8 ≡ i % 8 + w = omega arith in
        ap₂ (λ (x y : ℕ). on (get_or k x 0) y) a b ∙ sym (ap (λ (n : ℕ). eqb (n % 2) 1) (shr-shr p (i % 8) w))

-- "a set bit past the memory's end": what is left of the byte that holds position n, shifted to it
pub end_field : (n : ℕ) (k : List ℕ) → get_or k (n / 8) 0 < 256 → bad_mark n (bits k) ≡ ltb 0 (get_or k (n / 8) 0 / 2 ^ (n % 8))
end_field n k l =
    any_field (8 - n % 8) k n (omega arith)
    ∙ ap (ltb 0)
    (let e : 8 - n % 8 + n % 8 ≡ 8 = omega arith in
    shr_mod (8 - n % 8) (n % 8) (subst (λ (w : ℕ). get_or k (n / 8) 0 < 2 ^ w) (sym e) l))
