-- A record and its state, each in its parts.
-- Assumes nothing.
use Prim.Native.Nat.{ℕ, zero, suc, ◌+◌, ◌*◌, ◌^◌, ◌<◌, ◌≤◌}
use mathlib.Core.Path.{◌≡◌, refl, sym, ap, ap₂, ◌∙◌}
use mathlib.Core.Bool.{Bool, true, false, not, ◌&&◌}
use mathlib.Core.List.{List, [], ◌∷◌, ◌++◌, map, flatten}
use native.Mathlib.Nat.{add-zero}
use native.Mathlib.Omega.{arith}
use lib.Dec.{ltb}
use lib.ListN.{length, get_or, take, drop, replicate, length-append, length-drop, length-map, length-replicate}
use lib.Seq.{sets, length-take-le, take_at, drop_at, drop-drop}
use borrow.Author.Tests.{not-true, eq-eqb, eqb-true}
use Rattle.word.specs.Bits.{num}
use Rattle.word.specs.Bytes.{load}
use Rattle.cpu.specs.declared.Control.{Control}
use Rattle.marks.specs.declared.Flags.{Flags}
use Rattle.word.specs.Bytes.{any_above}
use Rattle.machine.specs.declared.State.{State}
use Rattle.abi.specs.Record.{each, control_at, state_at, bytes, laid, words, flags, zeros, later_words, control_part, record_of, within, shaped, Bytes}
use Rattle.abi.proofs.Laws.{length_laid, sets_append, sets_whole, each_drop, each_laid, each_map, each_byte, laid_each, flags_back, bools_back, zeros_back, cut}

-- ---- a state from its registers, their marks, pc and PSW, the three flags, and SFR 1 to 10 and the cycle count

abbrev pub build : List ℕ → List Bool → List ℕ → List Bool → List ℕ → State
build regs marks two three later = record {
  regs = regs;
  marks = marks;
  flags = record { tf = get_or three 0 false; cy = get_or three 1 false };
  control = record {
    pc = get_or two 0 0;
    psw = get_or two 1 0;
    pending = get_or three 2 false;
    ra = get_or later 0 0;
    ipc = get_or later 1 0;
    timer = get_or later 2 0;
    ibase = get_or later 3 0;
    usreg = get_or later 4 0;
    hwdbg = get_or later 5 0;
    bp0 = get_or later 6 0;
    bp1 = get_or later 7 0;
    wp0 = get_or later 8 0;
    wp1 = get_or later 9 0;
    cycles = get_or later 10 0;
  };
}

-- n words at a, and n flags
abbrev pub read_words : List ℕ → ℕ → ℕ → List ℕ
read_words r n a = each (load 4 r) 4 n a

abbrev pub read_flags : List ℕ → ℕ → ℕ → List Bool
read_flags r n a = each (λ (i : ℕ). ltb 0 (load 1 r i)) 1 n a

pub in_parts : (r : List ℕ) → length r ≡ 160
    → state_at r ≡ build (read_words r 16 0) (read_flags r 16 64) (read_words r 2 80) (read_flags r 3 88) (read_words r 11 92)
unfolding state_at control_at each
in_parts r h = rw h

-- ---- reading at a place, where the rest of the record begins with what is read

pub words_from : (n : ℕ) (r : List ℕ) (a : ℕ) (l y : List ℕ) → drop a r ≡ words l ++ y → length l ≡ n → ((i : ℕ) → get_or l i 0 < 2 ^ 32)
    → read_words r n a ≡ l
words_from n r a l y e q h =
    ap (read_words r n) (sym (add-zero a))
    ∙ sym (each_drop 4 n r a 0)
    ∙ ap₂ (λ (k : List ℕ) (i : ℕ). read_words k i 0) e (sym q)
    ∙ each_laid 4 l y h

flag_bound : (l : List Bool) (i : ℕ) → get_or (map num l) i 0 < 2 ^ 8
flag_bound [] i = omega arith
flag_bound (true ∷ l) zero = omega arith
flag_bound (false ∷ l) zero = omega arith
flag_bound (b ∷ l) (suc i) = flag_bound l i

pub flags_from : (n : ℕ) (r : List ℕ) (a : ℕ) (l : List Bool) (y : List ℕ) → drop a r ≡ flags l ++ y → length l ≡ n → read_flags r n a ≡ l
flags_from n r a l y e q =
    each_map (load 1 r) (ltb 0) 1 n a
    ∙ ap (λ (i : ℕ). map (ltb 0) (each (load 1 r) 1 n i)) (sym (add-zero a))
    ∙ ap (map (ltb 0)) (sym (each_drop 1 n r a 0))
    ∙ ap₂ (λ (k : List ℕ) (i : ℕ). map (ltb 0) (each (load 1 k) 1 i 0)) e (sym (length-map l num ∙ q))
    ∙ ap (map (ltb 0)) (each_laid 1 (map num l) y (flag_bound l))
    ∙ bools_back l

-- ---- a part written as it was read

pub words_part : (n : ℕ) (r : List ℕ) (a : ℕ) → Bytes r → a + 4 * n ≤ length r → words (read_words r n a) ≡ take (4 * n) (drop a r)
words_part n r a b h = laid_each 4 n r a b h

pub flags_part : (n : ℕ) (r : List ℕ) (a : ℕ) → Bytes r → a + n ≤ length r → within 1 a n r ≡ true → flags (read_flags r n a) ≡ take n (drop a r)
flags_part n r a b h w =
    let l : List ℕ = each (load 1 r) 1 n a in
    let e : 1 * n ≡ n = omega arith in
    ap (λ (k : List Bool). laid 1 (map num k)) (each_map (load 1 r) (ltb 0) 1 n a)
    ∙ ap (laid 1) (flags_back l (ap (any_above 1) (each_byte n r a h) ∙ not-true _ w))
    ∙ laid_each 1 n r a b (omega arith)
    ∙ ap (λ (k : ℕ). take k (drop a r)) e

pub zeros_part : (n : ℕ) (r : List ℕ) (a : ℕ) → a + n ≤ length r → within 0 a n r ≡ true → zeros n ≡ take n (drop a r)
zeros_part n r a h w =
    let q = length-drop a r in
    ap zeros (sym (length-take-le n (drop a r) (omega arith))) ∙ zeros_back (take n (drop a r)) (not-true _ w)

-- parts that are cut from r, one behind the other
pub joined : (a n : ℕ) (r x y : List ℕ) → x ≡ take n (drop a r) → y ≡ drop (a + n) r → x ++ y ≡ drop a r
joined a n r x y p q = ap₂ (λ (u v : List ℕ). u ++ v) p q ∙ cut a n r

-- ---- the shape, part by part

pub record Shape (r : List ℕ) : Type 0 where
  pub long : length r ≡ 160
  pub marks : within 1 64 16 r ≡ true
  pub flags : within 1 88 3 r ≡ true
  pub gap : within 0 91 1 r ≡ true
  pub rest : within 0 136 24 r ≡ true

and_on : (a b : Bool) → (a && b) ≡ true → (a ≡ true) × (b ≡ true)
and_on true b e = (refl, e)
and_on false b e = let z : ◌≡◌ {A = ℕ} 0 1 = cc in absurd (omega arith)

pub in_shape : (r : List ℕ) → shaped r ≡ true → Shape r
unfolding shaped
in_shape r e =
    let a = and_on _ _ e in
    let b = and_on _ _ a.0 in
    let d = and_on _ _ b.0 in
    let g = and_on _ _ d.0 in
    record { long = eqb-true _ _ g.0; marks = g.1; flags = d.1; gap = b.1; rest = a.1 }

pub of_shape : (r : List ℕ) → Shape r → shaped r ≡ true
unfolding shaped
of_shape r h = rw (eq-eqb _ _ h.long, h.marks, h.flags, h.gap, h.rest)

low_flags : (l : List Bool) → any_above 1 (flags l) ≡ false
unfolding any_above laid bytes
low_flags [] = refl
low_flags (true ∷ l) = low_flags l
low_flags (false ∷ l) = low_flags l

low_zeros : (n : ℕ) → any_above 0 (zeros n) ≡ false
unfolding any_above
low_zeros zero = refl
low_zeros (suc n) = low_zeros n

pub flags_within : (n : ℕ) (r : List ℕ) (a : ℕ) (l : List Bool) (y : List ℕ) → drop a r ≡ flags l ++ y → length l ≡ n → within 1 a n r ≡ true
flags_within n r a l y e q =
    let h = length_laid 1 (map num l) in
    let m = length-map l num in
    ap (λ (k : List ℕ). not (any_above 1 k)) (ap (take n) e ∙ take_at (flags l) y n (omega arith)) ∙ ap not (low_flags l)

pub zeros_within : (n : ℕ) (r : List ℕ) (a : ℕ) (y : List ℕ) → drop a r ≡ zeros n ++ y → within 0 a n r ≡ true
zeros_within n r a y e =
    ap (λ (k : List ℕ). not (any_above 0 k)) (ap (take n) e ∙ take_at (zeros n) y n (length-replicate n 0)) ∙ ap not (low_zeros n)

pub length_record : (s : State) → length s.regs ≡ 16 → length s.marks ≡ 16 → length (record_of s) ≡ 160
unfolding record_of control_part flatten
length_record s h k = simp (length-append, length_laid, length-map) (omega arith)

-- ---- the rest of a record from each of its parts on

abbrev pub two : State → List ℕ
two s = s.control.pc ∷ s.control.psw ∷ []

abbrev pub three : State → List Bool
three s = s.flags.tf ∷ s.flags.cy ∷ s.control.pending ∷ []

abbrev pub from136 : List ℕ
from136 = zeros 24 ++ []

abbrev pub from92 : State → List ℕ
from92 s = words (later_words s.control) ++ from136

abbrev pub from88 : State → List ℕ
from88 s = flags (three s) ++ (zeros 1 ++ from92 s)

abbrev pub from80 : State → List ℕ
from80 s = words (two s) ++ from88 s

abbrev pub from64 : State → List ℕ
from64 s = flags s.marks ++ from80 s

pub record Rests (s : State) : Type 0 where
  pub at0 : record_of s ≡ words s.regs ++ from64 s
  pub at64 : drop 64 (record_of s) ≡ from64 s
  pub at80 : drop 80 (record_of s) ≡ from80 s
  pub at88 : drop 88 (record_of s) ≡ from88 s
  pub at91 : drop 91 (record_of s) ≡ zeros 1 ++ from92 s
  pub at92 : drop 92 (record_of s) ≡ from92 s
  pub at136 : drop 136 (record_of s) ≡ from136

-- where x stands at a, what follows it stands n bytes later
next : (r x y : List ℕ) (a n : ℕ) → drop a r ≡ x ++ y → length x ≡ n → drop (a + n) r ≡ y
next r x y a n e h = sym (drop-drop n a r) ∙ ap (drop n) e ∙ drop_at x y n h

pub rests : (s : State) → length s.regs ≡ 16 → length s.marks ≡ 16 → Rests s
unfolding record_of control_part flatten
rests s n l =
    let r : List ℕ = record_of s in
    let m = length-map s.marks num in
    let a = length_laid 4 s.regs in
    let b = length_laid 1 (map num s.marks) in
    let p64 : drop 64 r ≡ from64 s = next r (words s.regs) (from64 s) 0 64 refl (omega arith) in
    let p80 : drop 80 r ≡ from80 s = next r (flags s.marks) (from80 s) 64 16 p64 (omega arith) in
    let p88 : drop 88 r ≡ from88 s = next r (words (two s)) (from88 s) 80 8 p80 (length_laid 4 (two s)) in
    let p91 : drop 91 r ≡ zeros 1 ++ from92 s = next r (flags (three s)) (zeros 1 ++ from92 s) 88 3 p88 (length_laid 1 (map num (three s))) in
    let p92 : drop 92 r ≡ from92 s = next r (zeros 1) (from92 s) 91 1 p91 refl in
    record {
      at0 = refl;
      at64 = p64;
      at80 = p80;
      at88 = p88;
      at91 = p91;
      at92 = p92;
      at136 = next r (words (later_words s.control)) from136 92 44 p92 (length_laid 4 (later_words s.control));
    }

-- ---- a record written part by part, as the code does: a zero is a flag that is not set

after : (m x y : List ℕ) (a n : ℕ) → length x ≡ n → sets m a (x ++ y) ≡ sets (sets m a x) (a + n) y
after m x y a n e = sets_append m a x y ∙ ap (λ (k : ℕ). sets (sets m a x) (a + k) y) e

pub control_written : (m : List ℕ) (f : Flags) (c : Control)
    → sets
    (sets
    (sets (sets m 80 (words (c.pc ∷ c.psw ∷ []))) 88 (flags (f.tf ∷ f.cy ∷ c.pending ∷ false ∷ [])))
    92
    (words (later_words c)))
    136
    (flags (replicate 24 false))
    ≡ sets m 80 (control_part f c)
unfolding control_part flatten laid bytes
control_written m f c =
    let t : List ℕ = words (c.pc ∷ c.psw ∷ []) in
    let g : List ℕ = flags (f.tf ∷ f.cy ∷ c.pending ∷ false ∷ []) in
    let x : List ℕ = words (later_words c) in
    let z : List ℕ = flags (replicate 24 false) in
    let m1 : List ℕ = sets m 80 t in
    let m2 : List ℕ = sets m1 88 g in
    sym (after m t (g ++ (x ++ z)) 80 8 refl ∙ after m1 g (x ++ z) 88 4 refl ∙ after m2 x z 92 44 refl)

pub written : (m : List ℕ) (s : State) → length m ≡ 160 → length s.regs ≡ 16 → length s.marks ≡ 16
    → sets (sets (sets m 0 (words s.regs)) 64 (flags s.marks)) 80 (control_part s.flags s.control) ≡ record_of s
unfolding record_of
written m s e n l =
    let w : List ℕ = words s.regs in
    let f : List ℕ = flags s.marks in
    let y : List ℕ = control_part s.flags s.control in
    let k = length-map s.marks num in
    let a = length_laid 4 s.regs in
    let b = length_laid 1 (map num s.marks) in
    sym (after m w (f ++ y) 0 64 (omega arith) ∙ after (sets m 0 w) f y 64 16 (omega arith))
    ∙ sets_whole m (record_of s) (length_record s n l ∙ sym e)
