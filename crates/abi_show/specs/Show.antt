-- The line that the next step would show, and its record of 12 bytes, words with the highest byte first; include/manik.h has the same table.
-- Assumes nothing.
use Rattle.std.specs.Prelude.{ℕ, cond, List, [], ◌∷◌, eqb, length, Err, None, Ok, Option, Result, Some}
use Rattle.word.specs.Bytes.{store_of}
use Rattle.word.specs.declared.Width.{Width}
use Rattle.cpu.specs.declared.Entry.{Entry}
use Rattle.marks.specs.Memory.{Marks}
use Rattle.machine.specs.Step.{step_of}
use Rattle.machine.specs.Run.{judge}
use Rattle.machine.specs.declared.State.{State}
use Rattle.machine.specs.declared.Line.{Line}
use Rattle.trace.specs.Seen.{seen_in}
use Rattle.abi.specs.Record.{shaped, state_at}
use Rattle.instruction.specs.declared.Reply.{Reply}
use Rattle.word.specs.declared.ByteAddr.{ByteAddr}

-- ---- a line as bytes

-- "an entry code (s swint, d debug, t timer, e external, b bus error) or `-`" (document 02, ticket 9), as a character
abbrev pub letter_of : Entry → ℕ
letter_of Entry.Nothing = 45
letter_of (Entry.Swint n) = 115
letter_of (Entry.Debug h) = 100
letter_of Entry.Timer = 116
letter_of (Entry.External i) = 101
letter_of Entry.FetchError = 98
letter_of Entry.DataError = 98

-- what the entry tells beside it: a swint's operand, the hits of a debug entry, the line, or the bit of PSW that a bus error sets
abbrev pub detail_of : Entry → ℕ
detail_of Entry.Nothing = 0
detail_of (Entry.Swint n) = n
detail_of (Entry.Debug h) = h
detail_of Entry.Timer = 0
detail_of (Entry.External i) = i
detail_of Entry.FetchError = 15
detail_of Entry.DataError = 14

-- whether there is a data address, and it; 0 where there is none
abbrev pub is_at : Option ByteAddr → ℕ
is_at None = 0
is_at (Some a) = 1

abbrev pub address_of : Option ByteAddr → ℕ
address_of None = 0
address_of (Some a) = a.0

-- a number v at place a
unfoldable pub placed : Width → List ℕ → ℕ → ℕ → List ℕ
placed w l a v = store_of w l (record { 0 = a }) v

-- program counter, data address, whether there is one, the entry's letter, what it tells, and a zero
unfoldable pub written_to : Line → List ℕ → List ℕ
written_to x l =
    let address = placed Width.Word (placed Width.Word l 0 x.pc.0) 4 (address_of x.address) in
    let letter = placed Width.Byte (placed Width.Byte address 8 (is_at x.address)) 9 (letter_of x.entry) in
    placed Width.Byte (placed Width.Byte letter 10 (detail_of x.entry)) 11 0

-- ---- the look

-- a refused run shows nothing
abbrev pub unless_refused : Result Unit Reply → Option Line → Option Line
unless_refused (Err r) x = None
unless_refused (Ok _) x = x

-- what a run with a budget of 1 would show; t is the tape's byte
unfoldable pub look_of : ℕ → State → List ℕ → Marks → Option Line
look_of t s m k = unless_refused (judge 1 (t ∷ []) s m k) (seen_in (step_of t s m k))

pub record Look : Type 0 where
  pub found : ℕ
  pub line : List ℕ

abbrev pub found : Option Line → List ℕ → Look
found None l = record { found = 0; line = l }
found (Some x) l = record { found = 1; line = written_to x l }

-- r is the state's record, m memory, k its marks, t the tape's byte, l the line's room
unfoldable pub show_of : List ℕ → List ℕ → Marks → ℕ → List ℕ → Look
show_of r m k t l =
    cond (eqb (length l) 12) (cond (shaped r) (found (look_of t (state_at r) m k) l) (found None l))
    (found None l)
