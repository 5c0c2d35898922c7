-- Laws of numbers laid out as bytes one behind the other, of writing them and of reading them back, once over the width.
-- Assumes nothing.
use Prim.Native.Nat.{ℕ, zero, suc, ◌+◌, ◌*◌, ◌-◌, ◌/◌, ◌%◌, ◌^◌, ◌<◌, ◌≤◌}
use mathlib.Core.Path.{◌≡◌, refl, sym, ap, ap₂, ◌∙◌}
use mathlib.Core.Bool.{Bool, true, false, ◌||◌}
use mathlib.Core.List.{List, [], ◌∷◌, ◌++◌, map, append-nil, append_assoc}
use native.Mathlib.Nat.{add-zero, zero-add, add_assoc, mul-zero, mul-suc, mod-one, mod-eq_of_lt}
use native.Mathlib.Numerals.{add-one}
use native.Mathlib.Omega.{arith}
use lib.Arith.{digits_div, digits_mod}
use lib.Pow.{mod-pow-add}
use lib.Dec.{ltb}
use lib.ListN.{length, get_or, set, take, drop, length-append, length-drop, take-append-drop, drop_of_length-le}
use lib.Seq.{sets, sets-eq, set_comm, get_or_at, drop_at, get_or-drop, take-suc, take-add, drop-cons, drop-drop, take_all, take-suc-set}
use borrow.Author.Tests.{ltb-false}
use Rattle.word.specs.Bits.{num}
use Rattle.word.specs.Bytes.{load, store}
use Rattle.word.specs.Bytes.{any_above}
use Rattle.abi.specs.Record.{each, bytes, laid, zeros, Bytes}

-- ---- lengths

pub length_bytes : (n v : ℕ) → length (bytes n v) ≡ n
unfolding bytes
length_bytes zero v = refl
length_bytes (suc n) v = let h = length_bytes n (v / 256) in length-append (bytes n (v / 256)) (v % 256 ∷ []) ∙ omega arith

pub length_laid : (k : ℕ) (l : List ℕ) → length (laid k l) ≡ k * length l
unfolding laid
length_laid k [] = sym (mul-zero k)
length_laid k (v ∷ l) =
    let h = length_bytes k v in
    let i = length_laid k l in
    let e = mul-suc k (length l) in
    length-append (bytes k v) (laid k l) ∙ omega arith

-- ---- writing

-- one list behind the other
pub sets_append : (m : List ℕ) (a : ℕ) (x y : List ℕ) → sets m a (x ++ y) ≡ sets (sets m a x) (a + length x) y
sets_append m a [] y = ap (λ (k : ℕ). sets m k y) (sym (add-zero a))
sets_append m a (v ∷ x) y =
    let e : suc a + length x ≡ a + suc (length x) = omega arith in
    sets_append (set m a v) (suc a) x y ∙ ap (λ (k : ℕ). sets (sets (set m a v) (suc a) x) k y) e

-- a list written over the whole of another
pub sets_whole : (m l : List ℕ) → length l ≡ length m → sets m 0 l ≡ l
sets_whole m l e =
    let h : 0 + length l ≤ length m = omega arith in
    let q : length m ≤ 0 + length l = omega arith in
    sets-eq l m 0 h ∙ ap (λ (r : List ℕ). l ++ r) (drop_of_length-le m q) ∙ append-nil l

-- a byte behind a list may be written first
sets_set : (l m : List ℕ) (a j x : ℕ) → a + length l ≤ j → sets (set m j x) a l ≡ set (sets m a l) j x
sets_set [] m a j x h = refl
sets_set (v ∷ l) m a j x h =
    ap (λ (k : List ℕ). sets k (suc a) l) (set_comm m j a x v (λ e. omega arith)) ∙ sets_set l (set m a v) (suc a) j x (omega arith)

pub store_sets : (n : ℕ) (m : List ℕ) (a v : ℕ) → store n m a v ≡ sets m a (bytes n v)
unfolding store bytes
store_sets zero m a v = refl
store_sets (suc n) m a v =
    let l : List ℕ = bytes n (v / 256) in
    let h = length_bytes n (v / 256) in
    store_sets n (set m (a + n) (v % 256)) a (v / 256)
    ∙ sets_set l m a (a + n) (v % 256) (omega arith)
    ∙ sym (sets_append m a l (v % 256 ∷ []) ∙ ap (λ (k : ℕ). set (sets m a l) (a + k) (v % 256)) h)

-- one more number written, and none left
pub put_more : (k : ℕ) (m l : List ℕ) (i a b d : ℕ) → i < length l → b ≡ a + k
    → sets (store k m a (get_or l i d)) b (laid k (drop (i + 1) l)) ≡ sets m a (laid k (drop i l))
unfolding laid
put_more k m l i a b d h e =
    let v : ℕ = get_or l i d in
    let y : List ℕ = laid k (drop (suc i) l) in
    ap₂ (λ (j : ℕ) (r : List ℕ). sets r b (laid k (drop j l))) (add-one i) (store_sets k m a v)
    ∙ ap (λ (j : ℕ). sets (sets m a (bytes k v)) j y) (e ∙ ap (λ (n : ℕ). a + n) (sym (length_bytes k v)))
    ∙ sym (ap (λ (r : List ℕ). sets m a (laid k r)) (drop-cons l i d h) ∙ sets_append m a (bytes k v) y)

pub put_none : (k : ℕ) (m l : List ℕ) (i a : ℕ) → length l ≤ i → sets m a (laid k (drop i l)) ≡ m
unfolding laid
put_none k m l i a h = ap (λ (r : List ℕ). sets m a (laid k r)) (drop_of_length-le l h)

-- ---- reading what was laid out

pub load_drop : (n : ℕ) (r : List ℕ) (b a : ℕ) → load n (drop b r) a ≡ load n r (b + a)
unfolding load
load_drop zero r b a = refl
load_drop (suc n) r b a =
    ap₂ (λ (p q : ℕ). p * 256 + q) (load_drop n r b a)
    (get_or-drop b r (a + n) 0 ∙ ap (λ (k : ℕ). get_or r k 0) (sym (add_assoc b a n)))

pub load_bytes : (n v : ℕ) (y : List ℕ) → load n (bytes n v ++ y) 0 ≡ v % 2 ^ (8 * n)
unfolding load bytes
load_bytes zero v y = sym (mod-one v)
load_bytes (suc n) v y =
    let l : List ℕ = bytes n (v / 256) in
    let e : 8 * suc n ≡ 8 * n + 8 = omega arith in
    rw (append_assoc l (v % 256 ∷ []) y)
    (ap₂ (λ (p q : ℕ). p * 256 + q) (load_bytes n (v / 256) (v % 256 ∷ y)) (get_or_at l (v % 256) y 0 (0 + n) (length_bytes n (v / 256) ∙ sym (zero-add n)))
    ∙ sym (ap (λ (x : ℕ). v % 2 ^ x) e ∙ mod-pow-add v (8 * n) 8))

pub each_drop : (k n : ℕ) (r : List ℕ) (b a : ℕ) → each (load k (drop b r)) k n a ≡ each (load k r) k n (b + a)
unfolding each
each_drop k zero r b a = refl
each_drop k (suc n) r b a =
    ap₂ (λ (v : ℕ) (l : List ℕ). v ∷ l) (load_drop k r b a)
    (each_drop k n r b (a + k) ∙ ap (each (load k r) k n) (sym (add_assoc b a k)))

pub each_laid : (k : ℕ) (l y : List ℕ) → ((i : ℕ) → get_or l i 0 < 2 ^ (8 * k)) → each (load k (laid k l ++ y)) k (length l) 0 ≡ l
unfolding each laid
each_laid k [] y h = refl
each_laid k (v ∷ l) y h =
    let r : List ℕ = bytes k v ++ (laid k l ++ y) in
    let e : 0 + k ≡ k + 0 = omega arith in
    ap (λ (t : List ℕ). each (load k t) k (length (v ∷ l)) 0) (append_assoc (bytes k v) (laid k l) y)
    ∙ (ap₂ (λ (x : ℕ) (t : List ℕ). x ∷ t) (load_bytes k v (laid k l ++ y) ∙ mod-eq_of_lt (h 0))
    (ap (each (load k r) k (length l)) e
    ∙ sym (each_drop k (length l) r k 0)
    ∙ ap (λ (t : List ℕ). each (load k t) k (length l) 0) (drop_at (bytes k v) (laid k l ++ y) k (length_bytes k v))
    ∙ each_laid k l y (λ i. h (suc i))))

-- ---- laying out what was read

bytes_load : (n : ℕ) (r : List ℕ) (a : ℕ) → Bytes r → a + n ≤ length r → bytes n (load n r a) ≡ take n (drop a r)
unfolding load bytes
bytes_load zero r a b h = refl
bytes_load (suc n) r a b h =
    let x : ℕ = load n r a in
    let y : ℕ = get_or r (a + n) 0 in
    let q = length-drop a r in
    ap₂ (λ (p : ℕ) (z : ℕ). bytes n p ++ (z ∷ [])) (digits_div x (b (a + n))) (digits_mod x (b (a + n)))
    ∙ ap₂ (λ (l : List ℕ) (z : ℕ). l ++ (z ∷ [])) (bytes_load n r a b (omega arith)) (sym (get_or-drop a r n 0))
    ∙ sym (take-suc (drop a r) n 0 (omega arith))

pub laid_each : (k n : ℕ) (r : List ℕ) (a : ℕ) → Bytes r → a + k * n ≤ length r → laid k (each (load k r) k n a) ≡ take (k * n) (drop a r)
unfolding each laid
laid_each k zero r a b h = sym (ap (λ (x : ℕ). take x (drop a r)) (mul-zero k))
laid_each k (suc n) r a b h =
    let e = mul-suc k n in
    let f : k * suc n ≡ k + k * n = omega arith in
    ap₂ (λ (x y : List ℕ). x ++ y) (bytes_load k r a b (omega arith)) (laid_each k n r (a + k) b (omega arith))
    ∙ ap (λ (l : List ℕ). take k (drop a r) ++ take (k * n) l) (sym (drop-drop k a r))
    ∙ sym (ap (λ (x : ℕ). take x (drop a r)) f ∙ take-add k (k * n) (drop a r))

-- ---- filling an array of n by reading

-- one more read, and none left
pub fill_more : {A : Type 0} (f : ℕ → A) (k n : ℕ) (l : List A) (i a b : ℕ) → i < n → i < length l → b ≡ a + k
    → take (i + 1) (set l i (f a)) ++ each f k (n - (i + 1)) b ≡ take i l ++ each f k (n - i) a
unfolding each
fill_more {A} f k n l i a b g h e =
    let q : n - i ≡ suc (n - (i + 1)) = omega arith in
    ap₂ (λ (x : List A) (j : ℕ). x ++ each f k (n - (i + 1)) j) (ap (λ (j : ℕ). take j (set l i (f a))) (add-one i) ∙ take-suc-set l i (f a) h) e
    ∙ append_assoc (take i l) (f a ∷ []) (each f k (n - (i + 1)) (a + k))
    ∙ sym (ap (λ (j : ℕ). take i l ++ each f k j a) q)

pub fill_none : {A : Type 0} (f : ℕ → A) (k n : ℕ) (l : List A) (i a : ℕ) → n ≤ i → length l ≤ i → take i l ++ each f k (n - i) a ≡ l
unfolding each
fill_none {A} f k n l i a g h =
    let q : n - i ≡ 0 = omega arith in
    ap₂ (λ (x : List A) (j : ℕ). x ++ each f k j a) (take_all i l h) q ∙ append-nil l

-- ---- flags and zeros

pub load_one : (r : List ℕ) (a : ℕ) → load 1 r a ≡ get_or r a 0
unfolding load
load_one r a = zero-add (get_or r (a + 0) 0) ∙ ap (λ (i : ℕ). get_or r i 0) (add-zero a)

-- as many bytes, each by itself
pub each_byte : (n : ℕ) (r : List ℕ) (a : ℕ) → a + n ≤ length r → each (load 1 r) 1 n a ≡ take n (drop a r)
unfolding each
each_byte zero r a h = refl
each_byte (suc n) r a h =
    let e : suc a ≡ a + 1 = omega arith in
    ap₂ (λ (v : ℕ) (l : List ℕ). v ∷ l) (load_one r a)
    (each_byte n r (a + 1) (omega arith) ∙ ap (λ (i : ℕ). take n (drop i r)) (sym e))
    ∙ ap (take (suc n)) (sym (drop-cons r a 0 (omega arith)))

pub each_map : {A B : Type 0} (f : ℕ → A) (g : A → B) (k n a : ℕ) → each (λ (i : ℕ). g (f i)) k n a ≡ map g (each f k n a)
unfolding each
each_map f g k zero a = refl
each_map f g k (suc n) a = ap (λ l. g (f a) ∷ l) (each_map f g k n (a + k))

or_off : (a b : Bool) → (a || b) ≡ false → (a ≡ false) × (b ≡ false)
or_off true b e = let z : ◌≡◌ {A = ℕ} 0 1 = cc in absurd (omega arith)
or_off false b e = (refl, e)

flag_back : (x : ℕ) → x ≤ 1 → num (ltb 0 x) ≡ x
flag_back zero h = refl
flag_back (suc zero) h = refl
flag_back (suc (suc x)) h = absurd (omega arith)

pub flags_back : (l : List ℕ) → any_above 1 l ≡ false → map num (map (ltb 0) l) ≡ l
unfolding any_above
flags_back [] h = refl
flags_back (x ∷ l) h =
    let p = or_off (ltb 1 x) (any_above 1 l) h in
    ap₂ (λ (y : ℕ) (r : List ℕ). y ∷ r) (flag_back x (ltb-false 1 x p.0)) (flags_back l p.1)

pub bools_back : (l : List Bool) → map (ltb 0) (map num l) ≡ l
bools_back [] = refl
bools_back (true ∷ l) = ap (λ (r : List Bool). true ∷ r) (bools_back l)
bools_back (false ∷ l) = ap (λ (r : List Bool). false ∷ r) (bools_back l)

pub zeros_back : (l : List ℕ) → any_above 0 l ≡ false → zeros (length l) ≡ l
unfolding any_above
zeros_back [] h = refl
zeros_back (x ∷ l) h =
    let p = or_off (ltb 0 x) (any_above 0 l) h in
    let q = ltb-false 0 x p.0 in
    let e : 0 ≡ x = omega arith in
    ap₂ (λ (y : ℕ) (r : List ℕ). y ∷ r) e (zeros_back l p.1)

-- a list cut at a + n
pub cut : (a n : ℕ) (r : List ℕ) → take n (drop a r) ++ drop (a + n) r ≡ drop a r
cut a n r = ap (λ (l : List ℕ). take n (drop a r) ++ l) (sym (drop-drop n a r)) ∙ take-append-drop n (drop a r)
