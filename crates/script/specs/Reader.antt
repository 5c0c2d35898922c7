-- Bytes taken one by one: what is kept between two of them.
-- Assumes nothing.
use Rattle.std.specs.Prelude.{ℕ, ◌+◌, cond, List, [], ◌∷◌, ltb, eqb, take, set, Option}
use Rattle.marks.specs.Memory.{Marks}
use Rattle.script.specs.Line.{Told, line_of, number_after}
use Rattle.script.specs.Fault.{good, fault_of}
use Rattle.script.specs.declared.Fault.{Fault}
use Rattle.script.specs.declared.Phase.{Phase}
use Rattle.script.specs.declared.Reader.{Reader}

-- the reader, the room for an unfinished line, memory and marks
pub record Fed : Type 0 where
  pub reader : Reader
  pub line : List ℕ
  pub mem : List ℕ
  pub marks : Marks

abbrev pub fed : Reader → List ℕ → List ℕ → Marks → Fed
fed r l m k = record { reader = r; line = l; mem = m; marks = k }

abbrev pub start_of : Reader
start_of = record { phase = Phase.First; number = 1; used = 0; fault = good }

-- one byte more of a line; its room has 45
abbrev pub kept_by : Reader → Reader
kept_by r = record { phase = r.phase; number = r.number; used = cond (ltb r.used 45) (r.used + 1) r.used; fault = r.fault }

abbrev pub kept_in : ℕ → Reader → List ℕ → List ℕ
kept_in b r l = cond (ltb r.used 45) (set l r.used b) l

-- the line is whole
abbrev pub reader_after : Told → ℕ → Option Fault → Reader
reader_after t n f = record { phase = t.phase; number = number_after t.phase n; used = 0; fault = f }

abbrev pub told_by : Reader → List ℕ → List ℕ → Marks → Told
told_by r l m k = line_of r.phase (take r.used l) m k

abbrev pub fault_by : Reader → List ℕ → Option Fault
fault_by r l = fault_of r.phase r.fault (take r.used l)

abbrev pub ended_of : Reader → List ℕ → List ℕ → Marks → Fed
ended_of r l m k = fed (reader_after (told_by r l m k) r.number (fault_by r l)) l (told_by r l m k).mem (told_by r l m k).marks

-- one byte, and many. A good line has at most 44 bytes (`long_is_bad`): its 45th makes a line bad, whatever follows.
unfoldable pub byte_of : ℕ → Fed → Fed
byte_of b s =
    cond (eqb b 10) (ended_of s.reader s.line s.mem s.marks)
    (cond (ltb s.reader.used 44) (fed (kept_by s.reader) (kept_in b s.reader s.line) s.mem s.marks)
    (ended_of (kept_by s.reader) (kept_in b s.reader s.line) s.mem s.marks))

unfoldable pub feed_of : List ℕ → Fed → Fed
feed_of [] s = s
feed_of (b ∷ l) s = feed_of l (byte_of b s)
