-- Two records that differ only where marked hold states that differ only where marked, and such states are written as such records.
-- Assumes nothing.
use Prim.Native.Nat.{ℕ, zero, suc, ◌+◌, ◌*◌, ◌-◌, ◌/◌, ◌%◌, ◌^◌, ◌<◌, ◌≤◌, min}
use mathlib.Core.Path.{◌≡◌, refl, sym, ap, ap₂, ◌∙◌}
use mathlib.Core.Bool.{Bool, true, false, cond, not, ◌&&◌}
use mathlib.Core.List.{List, [], ◌∷◌, ◌++◌, map, flatten, append_assoc, append-nil}
use native.Mathlib.Decide.{dec_lt}
use native.Mathlib.Nat.{mul-zero, mul-suc, not-suc-le-zero}
use native.Mathlib.Omega.{arith}
use lib.Dec.{ltb, eqb}
use lib.Pow.{field, mod-mod-pow}
use lib.ListN.{length, get_or, take, drop, length-append, length-map, length-take, length-drop, get_or-append, get_or-eq_default}
use lib.Seq.{ext_get_or, get_or-take, get_or-drop, get_or-append-add, drop-drop, drop_at}
use borrow.Author.Tests.{ltb-false}
use Rattle.word.specs.Bits.{num, on, put}
use Rattle.word.specs.Bytes.{load, any_above}
use Rattle.word.proofs.Fields.{above, below}
use Rattle.word.proofs.Memory.{load_same}
use Rattle.cpu.specs.Control.{with_sfr, with_psw}
use Rattle.cpu.specs.declared.Control.{Control}
use Rattle.marks.specs.declared.Flags.{Flags}
use Rattle.marks.specs.Memory.{Marks}
use Rattle.instruction.specs.Reply.{number_of}
use Rattle.machine.specs.Run.{Final, run_of}
use Rattle.machine.specs.declared.State.{State}
use Rattle.secrecy.specs.Same.{hide, SamePsw, SameMem, Same, SameFinal}
use Rattle.secrecy.proofs.Theorems.{two_runs}
use Rattle.abi.specs.Record.{each, control_at, state_at, bytes, laid, words, flags, zeros, later_words, control_part, record_of, within, shaped, Bytes}
use Rattle.abi.specs.Call.{replied, not_record, called}
use Rattle.abi.proofs.Laws.{length_bytes, length_laid, load_drop, load_bytes, load_one, each_map}
use Rattle.abi.proofs.Parts.{build, read_words, read_flags, in_parts, flags_from, in_shape, two, three, from136, from92, from88, from80, from64, rests}
use Rattle.abi.proofs.Sixteen.{Sixteen, sixteen_at, run_sixteen}
use Rattle.abi.proofs.Theorems.{record_length}
use Rattle.calls.specs.Records.{SameRecord, SameAnswer}

-- ---- reading at places where two lists have the same bytes

-- the bytes from a to before e are equal
abbrev Between : ℕ → ℕ → List ℕ → List ℕ → Type 0
Between a e r q = (i : ℕ) → a ≤ i → i < e → get_or r i 0 ≡ get_or q i 0

each_length : {A : Type 0} (f : ℕ → A) (k n a : ℕ) → length (each f k n a) ≡ n
unfolding each
each_length f k zero a = refl
each_length f k (suc n) a = ap suc (each_length f k n (a + k))

each_at : {A : Type 0} (f : ℕ → A) (k n a i : ℕ) (d : A) → i < n → get_or (each f k n a) i d ≡ f (a + k * i)
unfolding each
each_at f k zero a i d h = absurd (not-suc-le-zero h)
each_at f k (suc n) a zero d h = let e = mul-zero k in ap f (omega arith)
each_at f k (suc n) a (suc i) d h = let e = mul-suc k i in each_at f k n (a + k) i d (omega arith) ∙ ap f (omega arith)

reads_same : (k n a : ℕ) (r q : List ℕ) → Between a (a + k * n) r q → each (load k r) k n a ≡ each (load k q) k n a
unfolding each
reads_same k zero a r q h = refl
reads_same k (suc n) a r q h =
    let e = mul-suc k n in
    ap₂ (λ (v : ℕ) (l : List ℕ). v ∷ l) (load_same k r q a (λ i l. h (a + i) (omega arith) (omega arith)))
    (reads_same k n (a + k) r q (λ i l g. h i (omega arith) (omega arith)))

flags_same : (n a : ℕ) (r q : List ℕ) → Between a (a + n) r q → read_flags r n a ≡ read_flags q n a
flags_same n a r q h =
    each_map (load 1 r) (ltb 0) 1 n a
    ∙ ap (map (ltb 0)) (reads_same 1 n a r q (λ i l g. h i l (omega arith)))
    ∙ sym (each_map (load 1 q) (ltb 0) 1 n a)

cut_same : (n a : ℕ) (r q : List ℕ) → length r ≡ length q → Between a (a + n) r q → take n (drop a r) ≡ take n (drop a q)
cut_same n a r q e h =
    ext_get_or 0 _ _ (simp (length-take, length-drop) (ap (λ (l : ℕ). min n (l - a)) e)) (λ i l.
    let g : i < n = omega (arith, length-take n (drop a r)) in
    get_or-take n (drop a r) i 0 g
    ∙ get_or-drop a r i 0
    ∙ h (a + i) (omega arith) (omega arith)
    ∙ sym (get_or-take n (drop a q) i 0 g ∙ get_or-drop a q i 0))

-- ---- from records to states

module _ {r q : List ℕ} (s : SameRecord r q) where
  within_same : (limit a n : ℕ) → Between a (a + n) r q → within limit a n r ≡ within limit a n q
  within_same limit a n h = ap (λ (l : List ℕ). not (any_above limit l)) (cut_same n a r q s.long h)

  shaped_same : shaped r ≡ shaped q
  unfolding shaped
  shaped_same =
      ap₂ (λ (a b : Bool). a && b)
      (ap₂ (λ (a b : Bool). a && b)
      (ap₂ (λ (a b : Bool). a && b)
      (ap₂ (λ (a b : Bool). a && b) (ap (λ (n : ℕ). eqb n 160) s.long) (within_same 1 64 16 (λ i l g. s.marks i l (omega arith))))
      (within_same 1 88 3 (λ i l g. s.rest i l)))
      (within_same 0 91 1 (λ i l g. s.rest i (omega arith))))
      (within_same 0 136 24 (λ i l g. s.rest i (omega arith)))

  -- a register by its number
  reg_same : (i : ℕ) → get_or (read_flags r 16 64) i false ≡ false → get_or (read_words r 16 0) i 0 ≡ get_or (read_words q 16 0) i 0
  reg_same i h = go (dec_lt i 16)
    where
      past : (l : List ℕ) → 16 ≤ i → get_or (read_words l 16 0) i 0 ≡ 0
      past l g = get_or-eq_default (read_words l 16 0) 0 (omega (arith, each_length (load 4 l) 4 16 0))

      unmarked : i < 16 → get_or r (64 + i) 0 ≡ 0
      unmarked g =
          let e : 64 + 1 * i ≡ 64 + i = omega arith in
          let z = ltb-false 0 (get_or r (64 + i) 0)
          (ap (ltb 0) (sym (load_one r (64 + i)) ∙ ap (load 1 r) (sym e)) ∙ sym (each_at (λ (j : ℕ). ltb 0 (load 1 r j)) 1 16 64 i false g) ∙ h) in
          omega arith

      go : Dec (i < 16) → get_or (read_words r 16 0) i 0 ≡ get_or (read_words q 16 0) i 0
      go (yes g) =
          each_at (load 4 r) 4 16 0 i 0 g
          ∙ load_same 4 r q (0 + 4 * i) (λ j l.
          let e : (0 + 4 * i + j) / 4 ≡ i = omega arith in
          s.regs (0 + 4 * i + j) (omega arith) (ap (λ (n : ℕ). get_or r (64 + n) 0) e ∙ unmarked g))
          ∙ sym (each_at (load 4 q) 4 16 0 i 0 g)
      go (no g) = past r (omega arith) ∙ sym (past q (omega arith))

  -- the control part without PSW, from pc, the three flags and SFR 1 to 10 and the cycle count
  abbrev rest : ℕ → List Bool → List ℕ → Control
  rest pc three later = with_psw (build [] [] (pc ∷ []) three later).control 0

  module _ (h : length r ≡ 160) where
    long : length q ≡ 160
    long = sym s.long ∙ h

    marks_same : read_flags r 16 64 ≡ read_flags q 16 64
    marks_same = flags_same 16 64 r q (λ i l g. s.marks i l (omega arith))

    three_same : read_flags r 3 88 ≡ read_flags q 3 88
    three_same = flags_same 3 88 r q (λ i l g. s.rest i l)

    rest_same : rest (load 4 r 80) (read_flags r 3 88) (read_words r 11 92) ≡ rest (load 4 q 80) (read_flags q 3 88) (read_words q 11 92)
    rest_same =
        ap₂ (λ (p : ℕ) (l : List ℕ). rest p (read_flags r 3 88) l)
        (load_same 4 r q 80 (λ i l. s.marks (80 + i) (omega arith) (omega arith)))
        (reads_same 4 11 92 r q (λ i l g. s.rest i (omega arith)))
        ∙ ap (λ (l : List Bool). rest (load 4 q 80) l (read_words q 11 92)) three_same

    psw_same : SamePsw (state_at r).flags (state_at r).control.psw (state_at q).control.psw
    unfolding state_at control_at
    psw_same = s.psw

    pub state_same : Same (state_at r) (state_at q)
    unfolding with_sfr each
    state_same =
        let a = in_parts r h in
        let b = in_parts q long in
        let p : SamePsw (state_at r).flags (state_at r).control.psw (state_at q).control.psw = psw_same in
        rw (a, b)
        (record {
          marks = marks_same;
          flags = ap (λ (l : List Bool). (build [] [] [] l []).flags) three_same;
          each = refl;
          regs = record { long = refl; equal = reg_same };
          control = record { rest = rest_same; psw = rw (a, b) at p };
        })

-- ---- from states to records

-- a byte of numbers laid out one behind the other
laid_at : (k : ℕ) (l : List ℕ) (i j : ℕ) → i < length l → j < k → get_or (laid k l) (k * i + j) 0 ≡ get_or (bytes k (get_or l i 0)) j 0
unfolding laid
laid_at k [] i j h g = absurd (not-suc-le-zero h)
laid_at k (v ∷ l) zero j h g =
    let n = length_bytes k v in
    let z = mul-zero k in
    let e : k * 0 + j ≡ j = omega arith in
    ap (λ (x : ℕ). get_or (bytes k v ++ laid k l) x 0) e ∙ get_or-append (bytes k v) (laid k l) 0 j (omega arith)
laid_at k (v ∷ l) (suc i) j h g =
    let n = length_bytes k v in
    let z = mul-suc k i in
    let e : k * suc i + j ≡ length (bytes k v) + (k * i + j) = omega arith in
    ap (λ (x : ℕ). get_or (bytes k v ++ laid k l) x 0) e
    ∙ get_or-append-add (bytes k v) (laid k l) (k * i + j) 0
    ∙ laid_at k l i j (omega arith) g

-- PSW in 32 bits: its bits, and all but TF and CY
low_bit : (p j k : ℕ) → j + 1 + k ≡ 32 → on (p % 2 ^ 32) k ≡ on p k
low_bit p j k e =
    ap (λ (n : ℕ). eqb n 1)
    (ap (λ (n : ℕ). p % 2 ^ n / 2 ^ k % 2 ^ 1) (sym e) ∙ ap (λ (n : ℕ). n % 2 ^ 1) (field p (j + 1) k) ∙ mod-mod-pow (p / 2 ^ k) j 1)

low_hide : (p : ℕ) → hide (p % 2 ^ 32) ≡ (hide p / 2 ^ 10 % 2 ^ 22 * 2 ^ 2 + 0 % 2 ^ 2) * 2 ^ 8 + hide p % 2 ^ 8
unfolding put
low_hide p =
    ap₂ (λ (x y : ℕ). (x * 2 ^ 2 + 0 % 2 ^ 2) * 2 ^ 8 + y)
    (field p 22 10 ∙ ap (λ (n : ℕ). n % 2 ^ 22) (sym (above p 8 2 0)))
    (mod-mod-pow p 24 8 ∙ sym (below p 8 2 0))

low_psw : {f : Flags} {p q : ℕ} → SamePsw f p q → SamePsw f (p % 2 ^ 32) (q % 2 ^ 32)
low_psw {f} {p} {q} s =
    record {
      rest = low_hide p ∙ ap (λ (h : ℕ). (h / 2 ^ 10 % 2 ^ 22 * 2 ^ 2 + 0 % 2 ^ 2) * 2 ^ 8 + h % 2 ^ 8) s.rest ∙ sym (low_hide q);
      tf = λ t. low_bit p 23 8 refl ∙ s.tf t ∙ sym (low_bit q 23 8 refl);
      cy = λ t. low_bit p 22 9 refl ∙ s.cy t ∙ sym (low_bit q 22 9 refl);
    }

-- pc, PSW and what follows
pc_first : (a : State) → from80 a ≡ bytes 4 a.control.pc ++ (bytes 4 a.control.psw ++ from88 a)
unfolding laid
pc_first a =
    let x : List ℕ = bytes 4 a.control.pc in
    let y : List ℕ = bytes 4 a.control.psw in
    append_assoc x (y ++ []) (from88 a) ∙ ap (λ (l : List ℕ). x ++ (l ++ from88 a)) (append-nil y)

module _ (a : State) (n : Sixteen a) where
  -- what stands from byte 84 on, and PSW as it is read there
  from84 : drop 84 (record_of a) ≡ bytes 4 a.control.psw ++ from88 a
  from84 =
      let x : List ℕ = bytes 4 a.control.pc in
      sym (drop-drop 4 80 (record_of a))
      ∙ ap (drop 4) ((rests a n.0 n.1).at80 ∙ pc_first a)
      ∙ drop_at x (bytes 4 a.control.psw ++ from88 a) 4 (length_bytes 4 a.control.pc)

  psw_read : (state_at (record_of a)).control.psw ≡ a.control.psw % 2 ^ 32
  unfolding each
  psw_read =
      ap (λ (x : State). x.control.psw) (in_parts (record_of a) (record_length a n.0 n.1))
      ∙ sym (load_drop 4 (record_of a) 84 0)
      ∙ ap (λ (l : List ℕ). load 4 l 0) from84
      ∙ load_bytes 4 a.control.psw (from88 a)

  flags_read : (state_at (record_of a)).flags ≡ a.flags
  flags_read =
      ap (λ (x : State). x.flags) (in_parts (record_of a) (record_length a n.0 n.1))
      ∙ ap (λ (l : List Bool). (build [] [] [] l []).flags) (flags_from 3 (record_of a) 88 (three a) (zeros 1 ++ from92 a) (rests a n.0 n.1).at88 refl)

  marks_read : (i : ℕ) → i < 16 → get_or (record_of a) (64 + i) 0 ≡ 0 → get_or a.marks i false ≡ false
  marks_read i h z =
      let r : List ℕ = record_of a in
      let e : 64 + 1 * i ≡ 64 + i = omega arith in
      ap (λ (l : List Bool). get_or l i false) (sym (flags_from 16 r 64 a.marks (from80 a) (rests a n.0 n.1).at64 n.1))
      ∙ each_at (λ (j : ℕ). ltb 0 (load 1 r j)) 1 16 64 i false h
      ∙ ap (ltb 0) (ap (load 1 r) e ∙ load_one r (64 + i) ∙ z)

  -- byte i of the registers
  reg_byte : (i : ℕ) → i < 64 → get_or (record_of a) i 0 ≡ get_or (bytes 4 (get_or a.regs (i / 4) 0)) (i % 4) 0
  reg_byte i h =
      let w : List ℕ = words a.regs in
      let l = length_laid 4 a.regs in
      let g : i < length w = omega (arith, n.0) in
      let e : i ≡ 4 * (i / 4) + i % 4 = omega arith in
      ap (λ (x : List ℕ). get_or x i 0) (rests a n.0 n.1).at0
      ∙ get_or-append w (from64 a) 0 i g
      ∙ ap (λ (x : ℕ). get_or w x 0) e
      ∙ laid_at 4 a.regs (i / 4) (i % 4) (omega (arith, n.0)) (omega arith)

  -- byte 64 + i: the marks and pc stand first
  front : List ℕ
  front = flags a.marks ++ bytes 4 a.control.pc

  front_byte : (i : ℕ) → i < 20 → get_or (record_of a) (64 + i) 0 ≡ get_or front i 0
  unfolding front
  front_byte i h =
      let f : List ℕ = flags a.marks in
      let p : List ℕ = bytes 4 a.control.pc in
      let y : List ℕ = bytes 4 a.control.psw ++ from88 a in
      let g : i < length (f ++ p) = simp (length-append, length_laid, length-map, length_bytes) (omega (arith, n.1)) in
      sym (get_or-drop 64 (record_of a) i 0)
      ∙ ap (λ (x : List ℕ). get_or x i 0) ((rests a n.0 n.1).at64 ∙ ap (λ (x : List ℕ). f ++ x) (pc_first a) ∙ sym (append_assoc f p y))
      ∙ get_or-append (f ++ p) y 0 i g

module _ (a c : State) (s : Same a c) (n : Sixteen a) where
  other : Sixteen c
  other = (sym s.regs.long ∙ n.0, ap length (sym s.marks) ∙ n.1)

  front_same : front a n ≡ front c other
  unfolding front with_sfr
  front_same = ap₂ (λ (k : List Bool) (x : Control). flags k ++ bytes 4 x.pc) s.marks s.control.rest

  from88_same : from88 a ≡ from88 c
  unfolding with_sfr
  from88_same =
      ap₂ (λ (f : Flags) (x : Control). flags (f.tf ∷ f.cy ∷ x.pending ∷ []) ++ (zeros 1 ++ (words (later_words x) ++ from136))) s.flags s.control.rest

  psw_written_lem : SamePsw (state_at (record_of a)).flags (state_at (record_of a)).control.psw (state_at (record_of c)).control.psw
  psw_written_lem = rw (flags_read a n, psw_read a n, psw_read c other) (low_psw s.control.psw)

  pub record_same : SameRecord (record_of a) (record_of c)
  unfolding state_at control_at
  record_same =
      let r : List ℕ = record_of a in
      let q : List ℕ = record_of c in
      record {
        long = record_length a n.0 n.1 ∙ sym (record_length c other.0 other.1);
        regs = λ i h z.
            reg_byte a n i h
            ∙ ap (λ (v : ℕ). get_or (bytes 4 v) (i % 4) 0) (s.regs.equal (i / 4) (marks_read a n (i / 4) (omega arith) z))
            ∙ sym (reg_byte c other i h);
        marks = λ i h g.
            let e : i ≡ 64 + (i - 64) = omega arith in
            rw e
            (front_byte a n (i - 64) (omega arith) ∙ ap (λ (l : List ℕ). get_or l (i - 64) 0) front_same ∙ sym (front_byte c other (i - 64) (omega arith)));
        psw = psw_written_lem;
        rest = λ i h.
            let e : i ≡ 88 + (i - 88) = omega arith in
            rw e
            (sym (get_or-drop 88 r (i - 88) 0)
            ∙ ap (λ (l : List ℕ). get_or l (i - 88) 0) ((rests a n.0 n.1).at88 ∙ from88_same ∙ sym (rests c other.0 other.1).at88)
            ∙ get_or-drop 88 q (i - 88) 0);
      }

-- ---- each number of a record is a byte

append_bytes : (x y : List ℕ) → Bytes x → Bytes y → Bytes (x ++ y)
append_bytes [] y a b i = b i
append_bytes (v ∷ x) y a b zero = a 0
append_bytes (v ∷ x) y a b (suc i) = append_bytes x y (λ j. a (suc j)) b i

no_bytes : Bytes []
no_bytes i = omega arith

number_bytes : (n v : ℕ) → Bytes (bytes n v)
unfolding bytes
number_bytes zero v = no_bytes
number_bytes (suc n) v = append_bytes (bytes n (v / 256)) (v % 256 ∷ []) (number_bytes n (v / 256)) last
  where
    last : Bytes (v % 256 ∷ [])
    last zero = omega arith
    last (suc i) = no_bytes i

laid_bytes : (k : ℕ) (l : List ℕ) → Bytes (laid k l)
unfolding laid
laid_bytes k [] = no_bytes
laid_bytes k (v ∷ l) = append_bytes (bytes k v) (laid k l) (number_bytes k v) (laid_bytes k l)

zero_bytes : (n : ℕ) → Bytes (zeros n)
zero_bytes zero i = omega arith
zero_bytes (suc n) zero = omega arith
zero_bytes (suc n) (suc i) = zero_bytes n i

record_bytes : (a : State) → Bytes (record_of a)
unfolding record_of control_part flatten
record_bytes a =
    append_bytes (words a.regs) (from64 a) (laid_bytes 4 a.regs)
    (append_bytes (flags a.marks) (from80 a) (laid_bytes 1 (map num a.marks))
    (append_bytes (words (two a)) (from88 a) (laid_bytes 4 (two a))
    (append_bytes (flags (three a)) (zeros 1 ++ from92 a) (laid_bytes 1 (map num (three a)))
    (append_bytes (zeros 1) (from92 a) (zero_bytes 1)
    (append_bytes (words (later_words a.control)) from136 (laid_bytes 4 (later_words a.control)) (append_bytes (zeros 24) [] (zero_bytes 24) no_bytes))))))

pub call_bytes : (r m : List ℕ) (k : Marks) (t : List ℕ) (b : ℕ) → Bytes r → Bytes (called r m k t b).state
unfolding called
call_bytes r m k t b h = go (shaped r)
  where
    go : (z : Bool) → Bytes (cond z (replied (run_of b t (state_at r) m k)) (not_record r m k)).state
    go true = record_bytes (run_of b t (state_at r) m k).ended.state
    go false = h

-- ---- the call

answer_same : (x y : Final) → SameFinal x y → Sixteen x.ended.state → SameAnswer (replied x) (replied y)
answer_same x y s n =
    record {
      reply = ap number_of s.reply;
      steps = s.steps;
      state = record_same x.ended.state y.ended.state s.state n;
      marks = s.marks;
      mem = s.mem;
    }

pub call_same : (r q m n : List ℕ) (k : Marks) (t : List ℕ) (b : ℕ) → SameRecord r q → SameMem k m n → SameAnswer (called r m k t b) (called q n k t b)
unfolding called
call_same r q m n k t b s mem = rw (← shaped_same s) (go (shaped r) refl)
  where
    go : (z : Bool) → shaped r ≡ z
        → SameAnswer (cond z (replied (run_of b t (state_at r) m k)) (not_record r m k)) (cond z (replied (run_of b t (state_at q) n k)) (not_record q n k))
    go true e =
        answer_same _ _ (two_runs b t (state_at r) (state_at q) m n k (state_same s (in_shape r e).long) mem).0
        (run_sixteen b t (state_at r) m k (sixteen_at r))
    go false e = record { reply = refl; steps = refl; state = s; marks = refl; mem = mem }
