-- The parts of a fetch, put together, are the fetch.
-- Assumes nothing.
use Rattle.std.specs.Prelude.{Err, Ok, Result}
use Prim.Native.Nat.{ℕ, ◌/◌, ◌%◌}
use mathlib.Core.Path.{◌≡◌, refl, ap, ◌∙◌}
use mathlib.Core.Bool.{Bool, true, false, cond, not, ◌&&◌}
use mathlib.Core.List.{List}
use lib.Dec.{eqb, leb}
use Rattle.word.specs.Bytes.{inside}
use Rattle.word.specs.declared.ByteAddr.{ByteAddr}
use Rattle.word.specs.declared.Width.{Width}
use Rattle.isa.specs.Codes.{kind_of}
use Rattle.isa.specs.Decode.{nib_c, nib_d, short_if, operands_of, decode_of}
use Rattle.isa.specs.declared.Kind.{Kind}
use Rattle.isa.specs.declared.Instr.{Instr}
use Rattle.marks.specs.Memory.{Marks, marked_at}
use Rattle.instruction.specs.Fetch.{half_at, after_half, guarded, found, fetch_of}
use Rattle.instruction.specs.Parts.{half_of, first_half, second_half, decoded_to, by_second, rest_by, by_first}
use Rattle.instruction.specs.declared.Halt.{Halt}

pub by_second_lem : (d : Kind) (h : ℕ) (a : ByteAddr) (m : List ℕ) (k : Marks) (x : Result ℕ Halt) → x ≡ second_half d (after_half a) m k → by_second x d h ≡ rest_by d h a m k
unfolding rest_by
by_second_lem d h a m k x e = ap (λ (y : Result ℕ Halt). by_second y d h) e

-- a half's two tests, before what comes of it
tests : (t u : Bool) (d : Kind) (h s : ℕ)
    → cond t (Err Halt.FetchOutside) (cond u (Err Halt.FetchMarked) (decoded_to (operands_of d h s)))
    ≡ by_second (cond t (Err Halt.FetchOutside) (cond u (Err Halt.FetchMarked) (Ok s))) d h
tests true u d h s = refl
tests false true d h s = refl
tests false false d h s = refl

-- what the halves decode to is found by the kind of the first: only a long jump looks at the second
pub found_by_kind : (h : ℕ) (a : ByteAddr) (m : List ℕ) (k : Marks)
    → found (decode_of h (half_at m (after_half a))) (after_half a) m k ≡ rest_by (kind_of (h / 256)) h a m k
unfolding decode_of operands_of rest_by second_half half_of
found_by_kind h a m k = go (kind_of (h / 256))
  where
    b : ByteAddr
    b = after_half a

    named : (t : Bool) (i : Instr) → found (short_if t i) b m k ≡ decoded_to (short_if t i)
    named true i = refl
    named false i = refl

    go : (d : Kind) → found (operands_of d h (half_at m b)) b m k ≡ by_second (second_half d b m k) d h
    go Kind.Nothing = refl
    go (Kind.Alu op) = refl
    go (Kind.ShiftImm op) = refl
    go (Kind.Cmp op) = refl
    go (Kind.CmpImm op) = refl
    go (Kind.Cond op t) = refl
    go (Kind.CondImm t) = refl
    go Kind.Ldrpc = refl
    go (Kind.Imm op) = refl
    go (Kind.Load w) = refl
    go (Kind.Store w) = refl
    go Kind.Mfsfr = named (leb (nib_d h) 10) _
    go Kind.Mtsfr = named (leb (nib_c h) 10) _
    go Kind.Jr = named (eqb (nib_c h) 0) _
    go Kind.Jrl = named (eqb (nib_c h) 0) _
    go Kind.Jsfr = named (eqb (nib_c h) 0 && leb (nib_d h) 3) _
    go Kind.Swint = named (eqb (nib_c h) 0) _
    go (Kind.ShortJump op) = refl
    go (Kind.LongJump op) = tests (not (inside m b 2)) (marked_at Width.Half k b) (Kind.LongJump op) h (half_at m b)

-- so a fetch is its first half, and then the rest by its kind
pub fetch_by_parts : (a : ByteAddr) (m : List ℕ) (k : Marks) → fetch_of a m k ≡ by_first (first_half a m k) a m k
unfolding fetch_of first_half half_of
fetch_by_parts a m k =
    ap (λ (x : Result Instr Halt). cond (eqb (a.0 % 2) 1) (Err Halt.NoInstruction) (guarded a m k x)) (found_by_kind (half_at m a) a m k)
    ∙ go (eqb (a.0 % 2) 1) (not (inside m a 2)) (marked_at Width.Half k a)
  where
    go : (o t u : Bool)
        → cond o (Err Halt.NoInstruction)
        (cond t (Err Halt.FetchOutside) (cond u (Err Halt.FetchMarked) (rest_by (kind_of (half_at m a / 256)) (half_at m a) a m k)))
        ≡ by_first (cond o (Err Halt.NoInstruction) (cond t (Err Halt.FetchOutside) (cond u (Err Halt.FetchMarked) (Ok (half_at m a))))) a m k
    go true t u = refl
    go false true u = refl
    go false false true = refl
    go false false false = refl
