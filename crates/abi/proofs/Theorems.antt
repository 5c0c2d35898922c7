-- The theorems of this crate, each with its statement; read this file alone with specs/. Reading and writing a record are inverse.
-- Assumes nothing.
use Rattle.std.specs.Prelude.{Err}
use Prim.Native.Nat.{ℕ, zero, suc, ◌^◌, ◌<◌}
use mathlib.Core.Path.{◌≡◌, refl, sym, ap, ap₂, ◌∙◌}
use mathlib.Core.Bool.{Bool, true, false}
use mathlib.Core.List.{List, [], ◌++◌, flatten}
use native.Mathlib.Omega.{arith}
use lib.ListN.{length, get_or, drop, drop_of_length-le}
use Rattle.marks.specs.Memory.{Marks, bits}
use Rattle.instruction.specs.Reply.{number_of}
use Rattle.machine.specs.Run.{judge, run_of}
use Rattle.machine.specs.declared.State.{State}
use Rattle.instruction.specs.declared.Reply.{Reply}
use Rattle.laws.proofs.Theorems.{refusal_changes_nothing}
use Rattle.abi.specs.Record.{each, state_at, zeros, later_words, control_part, record_of, shaped, InRange, Bytes}
use Rattle.abi.specs.Call.{not_record, called}
use Rattle.abi.proofs.Sixteen.{sixteen_at, run_sixteen}
use Rattle.abi.proofs.Parts.{build, read_words, read_flags, in_parts, length_record, words_from, flags_from, words_part, flags_part, zeros_part, joined, in_shape, of_shape, flags_within, zeros_within, two, three, from136, from92, from88, from80, from64, rests}

-- 1. A record has 160 bytes.
pub record_length : (s : State) → length s.regs ≡ 16 → length s.marks ≡ 16 → length (record_of s) ≡ 160
record_length s n l = length_record s n l

-- 2. What was written is read back: for every state in range, reading its record gives it.
first_words : (s : State) → InRange s → (i : ℕ) → get_or (two s) i 0 < 2 ^ 32
first_words s h zero = h.counter
first_words s h (suc zero) = h.psw
first_words s h (suc (suc i)) = omega arith

pub read_back : (s : State) → InRange s → state_at (record_of s) ≡ s
read_back s h =
    let r : List ℕ = record_of s in
    let p = rests s h.regs h.marks in
    in_parts r (record_length s h.regs h.marks)
    ∙ ap₂ (λ (x : List ℕ) (y : List Bool). build x y (read_words r 2 80) (read_flags r 3 88) (read_words r 11 92))
    (words_from 16 r 0 s.regs (from64 s) p.at0 h.regs h.values)
    (flags_from 16 r 64 s.marks (from80 s) p.at64 h.marks)
    ∙ ap₂ (λ (x : List ℕ) (y : List Bool). build s.regs s.marks x y (read_words r 11 92))
    (words_from 2 r 80 (two s) (from88 s) p.at80 refl (first_words s h))
    (flags_from 3 r 88 (three s) (zeros 1 ++ from92 s) p.at88 refl)
    ∙ ap (build s.regs s.marks (two s) (three s)) (words_from 11 r 92 (later_words s.control) from136 p.at92 refl h.later)

-- 3. What was read is written back: for every record in shape, writing the state that it holds gives it.
pub write_back : (r : List ℕ) → Bytes r → shaped r ≡ true → record_of (state_at r) ≡ r
unfolding record_of control_part flatten each
write_back r b e =
    let h = in_shape r e in
    let n = h.long in
    let end : drop 160 r ≡ [] = drop_of_length-le r {i = 160} (omega arith) in
    ap record_of (in_parts r n)
    ∙ joined 0 64 r _ _ (words_part 16 r 0 b (omega arith))
    (joined 64 16 r _ _ (flags_part 16 r 64 b (omega arith) h.marks)
    (joined 80 8 r _ _ (words_part 2 r 80 b (omega arith))
    (joined 88 3 r _ _ (flags_part 3 r 88 b (omega arith) h.flags)
    (joined 91 1 r _ _ (zeros_part 1 r 91 (omega arith) h.gap)
    (joined 92 44 r _ _ (words_part 11 r 92 b (omega arith))
    (joined 136 24 r _ _ (zeros_part 24 r 136 (omega arith) h.rest) (sym end)))))))

-- 4. The record of every state of sixteen registers and marks is in shape.
pub record_shaped : (s : State) → length s.regs ≡ 16 → length s.marks ≡ 16 → shaped (record_of s) ≡ true
record_shaped s n l =
    let r : List ℕ = record_of s in
    let p = rests s n l in
    of_shape r
    (record {
      long = record_length s n l;
      marks = flags_within 16 r 64 s.marks (from80 s) p.at64 l;
      flags = flags_within 3 r 88 (three s) (zeros 1 ++ from92 s) p.at88 refl;
      gap = zeros_within 1 r 91 (from92 s) p.at91;
      rest = zeros_within 24 r 136 [] p.at136;
    })

-- 5. A call that was given a record leaves one: it can go into the next call.
pub call_leaves_record : (r m : List ℕ) (k : Marks) (t : List ℕ) (b : ℕ) → shaped r ≡ true → shaped (called r m k t b).state ≡ true
unfolding called
call_leaves_record r m k t b e =
    let h = run_sixteen b t (state_at r) m k (sixteen_at r) in
    rw e (record_shaped (run_of b t (state_at r) m k).ended.state h.0 h.1)

-- 6. Refusals 1 to 6 change nothing, the record included.
pub refusal_keeps_record : (r m : List ℕ) (k : Marks) (t : List ℕ) (b : ℕ) (q : Reply) → Bytes r → shaped r ≡ true → judge b t (state_at r) m k ≡ Err q
    → called r m k t b ≡ record { reply = number_of q; steps = 0; state = r; mem = m; marks = k }
unfolding called
refusal_keeps_record r m k t b q h e j = rw (e, refusal_changes_nothing b t (state_at r) m k q j, write_back r h e)

-- 7. The answer is 0 exactly if what was given is no record; then nothing changes.
pub no_record : (r m : List ℕ) (k : Marks) (t : List ℕ) (b : ℕ) → shaped r ≡ false → called r m k t b ≡ not_record r m k
unfolding called
no_record r m k t b e = rw e

number_above : (q : Reply) → 0 < number_of q
number_above Reply.MemoryLength = omega arith
number_above Reply.MarkLength = omega arith
number_above Reply.MarkPastEnd = omega arith
number_above Reply.Form = omega arith
number_above Reply.TapeLength = omega arith
number_above Reply.TapeByte = omega arith
number_above Reply.Budget = omega arith
number_above Reply.FetchMarked = omega arith
number_above Reply.NoInstruction = omega arith
number_above Reply.MarkedOperand = omega arith

pub record_answers : (r m : List ℕ) (k : Marks) (t : List ℕ) (b : ℕ) → shaped r ≡ true → 0 < (called r m k t b).reply
unfolding called
record_answers r m k t b e = rw e (number_above (run_of b t (state_at r) m k).ended.reply)

-- 8. What manik_run ensures of its result x, of the step count n, and of the record s, memory o and mark slice l at exit determines them: two that satisfy it
-- coincide.
abbrev pub Ensured : List ℕ → List ℕ → Marks → List ℕ → ℕ → ℕ → ℕ → List ℕ → List ℕ → Marks → Type 0
Ensured r m k t b x n s o l =
    (x ≡ (called r m k t b).reply) × (n ≡ (called r m k t b).steps) × (s ≡ (called r m k t b).state) × (o ≡ (called r m k t b).mem) × (l ≡ (called r m k t b).marks)

pub call_determined : (r m : List ℕ) (k : Marks) (t : List ℕ) (b x y n i : ℕ) (s q o p l j : List ℕ) → Ensured r m k t b x n s o (bits l) → Ensured r m k t b y i q p (bits j)
    → (x ≡ y) × (n ≡ i) × (s ≡ q) × (o ≡ p) × (l ≡ j)
call_determined r m k t b x y n i s q o p l j u v =
    (u.0 ∙ sym v.0, u.1 ∙ sym v.1, u.2 ∙ sym v.2, u.3 ∙ sym v.3, let z = u.4 ∙ sym v.4 in cc)
