-- The four ways in which a step completes, and what it does in each, in numbers and by the digits of the instruction's half (document 01, "One step" and "Marks";
-- document 02, tickets 5 and 6).
-- Assumes nothing.
use Rattle.std.specs.Prelude.{ℕ, ◌+◌, ◌*◌, ◌-◌, ◌/◌, ◌%◌, ◌^◌, ◌<◌, ◌≤◌, ◌≡◌, Bool, true, false, cond, not, ◌&&◌, List, eqb, leb, ltb, length, get_or, Err, None, Ok, Option, Some}
use Rattle.word.specs.Bits.{on}
use Rattle.word.specs.Bytes.{bytes_of, load, store}
use Rattle.isa.specs.declared.Instr.{Instr}
use Rattle.cpu.specs.Control.{pc_of, tf}
use Rattle.cpu.specs.Entries.{entered, passed}
use Rattle.cpu.specs.Exec.{onward, exec}
use Rattle.cpu.specs.declared.Control.{Control}
use Rattle.cpu.specs.declared.Effect.{Effect}
use Rattle.cpu.specs.declared.Entry.{Entry}
use Rattle.marks.specs.Memory.{Marks, mark_at, any_mark, bad_room}
use Rattle.instruction.specs.Fetch.{half_at, fetch_of}
use Rattle.instruction.specs.declared.Halt.{Halt}
use Rattle.machine.specs.Step.{chosen}
use Rattle.machine.specs.declared.State.{State}
use Rattle.machine.specs.declared.Event.{Event}
use Rattle.machine.specs.declared.Done.{Done}
use Rattle.machine.specs.declared.Line.{Line}
use Rattle.sentences.specs.Classes.{class_of, cycles_of}
use Rattle.sentences.specs.Sources.{Found, any_of, reg_from, tf_from, cy_from, stop_from}
use Rattle.sentences.specs.Writes.{adds_cycles}
use Rattle.word.specs.declared.ByteAddr.{ByteAddr}

-- ---- what an instruction reaches beside the registers: nothing; n bytes of memory that it loads or stores, with the sum of base and
-- offset before alignment; or a swint's entry

pub data Reaches : Type 0 where
  nothing : Reaches
  loads : ℕ → ℕ → Reaches
  stores : ℕ → ℕ → Reaches
  raises : ℕ → Reaches

-- y is the value of the base register, p the instruction's own address. "EA = zxt(UIMM4 << size) + Rb" and "PC + UIMM8 << 2" (the guide), modulo 2^32
abbrev pub reached_by : Instr → ℕ → ℕ → Reaches
reached_by (Instr.Alu op d b) y p = nothing
reached_by (Instr.ShiftImm op d n) y p = nothing
reached_by (Instr.Cmp op d b) y p = nothing
reached_by (Instr.CmpImm op d n) y p = nothing
reached_by (Instr.Cond op t d b) y p = nothing
reached_by (Instr.CondImm t d n) y p = nothing
reached_by (Instr.Ldrpc d n) y p = loads 4 ((p + 4 * n) % 2 ^ 32)
reached_by (Instr.Imm op d n) y p = nothing
reached_by (Instr.Load w d n b) y p = loads (bytes_of w) ((y + bytes_of w * n) % 2 ^ 32)
reached_by (Instr.Store w d n b) y p = stores (bytes_of w) ((y + bytes_of w * n) % 2 ^ 32)
reached_by (Instr.Mfsfr d n) y p = nothing
reached_by (Instr.Mtsfr n b) y p = nothing
reached_by (Instr.Jr b) y p = nothing
reached_by (Instr.Jrl b) y p = nothing
reached_by (Instr.Jsfr n) y p = nothing
reached_by (Instr.Swint n) y p = raises n
reached_by (Instr.ShortJump op d) y p = nothing
reached_by (Instr.LongJump op d) y p = nothing

-- "aligned down to the access size after the sum"
abbrev pub down : ℕ → ℕ → ℕ
down n y = y - y % n

-- "a halfword at the last two bytes of memory loads, a word at the address equal to the length" is outside; size is memory's
abbrev pub Outside : Reaches → ℕ → Type 0
Outside nothing size = ⊥
Outside (loads n y) size = size < down n y + n
Outside (stores n y) size = size < down n y + n
Outside (raises n) size = ⊥

abbrev pub Inside : Reaches → ℕ → Type 0
Inside nothing size = Unit {0}
Inside (loads n y) size = down n y + n ≤ size
Inside (stores n y) size = down n y + n ≤ size
Inside (raises n) size = Unit {0}

-- the address that a line shows
abbrev pub shown_at : Reaches → Option ByteAddr
shown_at nothing = None
shown_at (loads n y) = Some (record { 0 = down n y })
shown_at (stores n y) = Some (record { 0 = down n y })
shown_at (raises n) = None

-- which of WP0 and WP1 hit: bits 1 and 2 of what a debug entry shows
abbrev pub hit_by : Bool → Bool → Entry
hit_by false false = Entry.Nothing
hit_by true false = Entry.Debug 2
hit_by false true = Entry.Debug 4
hit_by true true = Entry.Debug 6

-- "an enabled WP0 or WP1 (bits 4, 5) equals the address after alignment"
abbrev pub watched : ℕ → Control → Entry
watched a c = hit_by (on c.hwdbg 4 && eqb c.wp0 a) (on c.hwdbg 5 && eqb c.wp1 a)

-- the entry that an instruction makes
abbrev pub entered_by : Reaches → Control → Entry
entered_by nothing c = Entry.Nothing
entered_by (loads n y) c = watched (down n y) c
entered_by (stores n y) c = watched (down n y) c
entered_by (raises n) c = Entry.Swint n

-- what is loaded from there, and whether any byte of it is marked
abbrev pub loaded_by : Reaches → List ℕ → ℕ
loaded_by nothing m = 0
loaded_by (loads n y) m = load n m (down n y)
loaded_by (stores n y) m = 0
loaded_by (raises n) m = 0

abbrev pub marked_by : Reaches → Marks → Bool
marked_by nothing k = false
marked_by (loads n y) k = any_mark n k (down n y)
marked_by (stores n y) k = false
marked_by (raises n) k = false

-- memory after a store of v, and whether position p is one of its bytes
abbrev pub stored_by : Reaches → ℕ → List ℕ → List ℕ
stored_by nothing v m = m
stored_by (loads n y) v m = m
stored_by (stores n y) v m = store n m (down n y) v
stored_by (raises n) v m = m

abbrev pub is_stored_by : Reaches → ℕ → Bool
is_stored_by nothing p = false
is_stored_by (loads n y) p = false
is_stored_by (stores n y) p = leb (down n y) p && ltb p (down n y + n)
is_stored_by (raises n) p = false

-- ---- the registers: the last two digits of the instruction's first half name Rd and Rb, where it has them

abbrev pub first_half : State → List ℕ → ℕ
first_half s m = half_at m (pc_of s.control)

abbrev pub rd_of : State → List ℕ → ℕ
rd_of s m = first_half s m / 16 % 16

abbrev pub rb_of : State → List ℕ → ℕ
rb_of s m = first_half s m % 16

abbrev pub reach_in : Instr → State → List ℕ → Reaches
reach_in i s m = reached_by i (get_or s.regs (rb_of s m) 0) s.control.pc

-- the marks that instruction i finds
abbrev pub found_in : Instr → State → List ℕ → Marks → Found
found_in i s m k =
    record {
      rd = get_or s.marks (rd_of s m) false;
      rb = get_or s.marks (rb_of s m) false;
      loaded = marked_by (reach_in i s m) k;
      flags = s.flags;
    }

-- what it makes of the values
abbrev pub effect_in : Instr → State → List ℕ → Effect
effect_in i s m = exec i (get_or s.regs (rd_of s m) 0) (get_or s.regs (rb_of s m) 0) (loaded_by (reach_in i s m) m) s.control

-- ---- the ways

-- from state s, memory m and marks k on, with the tape's byte t: an entry is chosen; the fetch is outside memory; an instruction's data are; an instruction is done
pub data Way (t : ℕ) (s : State) (m : List ℕ) (k : Marks) : Type 0 where
  by_choice : (e : Entry) → chosen t s.control ≡ Event.Enter e → Way t s m k
  by_fetch : chosen t s.control ≡ Event.Instruction → fetch_of (pc_of s.control) m k ≡ Err Halt.FetchOutside → Way t s m k
  by_data : (i : Instr) → chosen t s.control ≡ Event.Instruction → fetch_of (pc_of s.control) m k ≡ Ok i → Outside (reach_in i s m) (length m) → Way t s m k
  by_instruction : (i : Instr) → chosen t s.control ≡ Event.Instruction → fetch_of (pc_of s.control) m k ≡ Ok i → Inside (reach_in i s m) (length m) → Way t s m k

module _ {t : ℕ} {s : State} {m : List ℕ} {k : Marks} where
  -- "the aligned data address": of a load or store that completes, and of one that is a bus error; no other step has one
  abbrev pub address_in : Way t s m k → Option ByteAddr
  address_in (by_choice e c) = None
  address_in (by_fetch c f) = None
  address_in (by_data i c f o) = shown_at (reach_in i s m)
  address_in (by_instruction i c f o) = shown_at (reach_in i s m)

  -- the entry that is made
  abbrev pub entry_in : Way t s m k → Entry
  entry_in (by_choice e c) = e
  entry_in (by_fetch c f) = Entry.FetchError
  entry_in (by_data i c f o) = Entry.DataError
  entry_in (by_instruction i c f o) = entered_by (reach_in i s m) s.control

  -- the control part that the entry finds: "on data, .. IPC is the next instruction"
  abbrev pub found_by : Way t s m k → Control
  found_by (by_choice e c) = s.control
  found_by (by_fetch c f) = s.control
  found_by (by_data i c f o) = onward 2 s.control
  found_by (by_instruction i c f o) = (effect_in i s m).control

  -- what the step costs: "any other entry 4 in all, a watchpoint's 6 with its load or store" (document 02, ticket 6)
  abbrev pub cycles_in : Way t s m k → ℕ
  cycles_in (by_choice e c) = 4
  cycles_in (by_fetch c f) = 4
  cycles_in (by_data i c f o) = 4
  cycles_in (by_instruction i c f o) =
      cycles_of (class_of i (get_or s.regs (rb_of s m) 0) (tf s.control)) + adds_cycles (entered_by (reach_in i s m) s.control)

  -- the timer may fall: "if TE was 1 at its start"; "an accepted write .. takes the place of that step's fall"
  abbrev pub falls_in : Way t s m k → Bool
  falls_in (by_choice e c) = on s.control.psw 4
  falls_in (by_fetch c f) = on s.control.psw 4
  falls_in (by_data i c f o) = on s.control.psw 4
  falls_in (by_instruction i c f o) = on s.control.psw 4 && not (effect_in i s m).wrote

  -- the register written, 16 for none, its value, and the marks of it, TF and CY. "no register, byte or watchpoint hit changes" by a bus error
  abbrev pub Writes : Way t s m k → Done → Type 0
  Writes (by_choice e c) d = (d.reg ≡ 16) × (d.flags ≡ s.flags)
  Writes (by_fetch c f) d = (d.reg ≡ 16) × (d.flags ≡ s.flags)
  Writes (by_data i c f o) d = (d.reg ≡ 16) × (d.flags ≡ s.flags)
  Writes (by_instruction i c f o) d =
      (d.reg ≡ (effect_in i s m).reg) × (d.value ≡ (effect_in i s m).value)
      × (d.mark ≡ any_of (found_in i s m k) (reg_from i (tf s.control)))
      × (d.flags.tf ≡ any_of (found_in i s m k) (tf_from i)) × (d.flags.cy ≡ any_of (found_in i s m k) (cy_from i))

  -- memory: a store puts its bytes, and nothing else changes any
  abbrev pub memory_in : Way t s m k → List ℕ
  memory_in (by_choice e c) = m
  memory_in (by_fetch c f) = m
  memory_in (by_data i c f o) = m
  memory_in (by_instruction i c f o) = stored_by (reach_in i s m) (get_or s.regs (rd_of s m) 0) m

  -- the mark of position p: "A stored byte takes the register's mark, so an unmarked store clears one"
  abbrev pub mark_in : Way t s m k → ℕ → Bool
  mark_in (by_choice e c) p = mark_at k p
  mark_in (by_fetch c f) p = mark_at k p
  mark_in (by_data i c f o) p = mark_at k p
  mark_in (by_instruction i c f o) p = cond (is_stored_by (reach_in i s m) p) (get_or s.marks (rd_of s m) false) (mark_at k p)

-- what a completed step does and shows: d of the registers and the control part, l and j memory and its marks after it, x its line
pub record Does {t : ℕ} {s : State} {m : List ℕ} {k : Marks} (w : Way t s m k) (d : Done) (l : List ℕ) (j : Marks) (x : Line) : Type 0 where
  pub pc : x.pc ≡ pc_of s.control
  pub entry : x.entry ≡ entry_in w
  pub address : x.address ≡ address_in w
  pub control : d.control ≡ passed (falls_in w) (cycles_in w) (entered (entry_in w) (found_by w))
  pub writes : Writes w d
  pub memory : l ≡ memory_in w
  pub marks : bad_room (length m) k ≡ false → (p : ℕ) → p < length m → mark_at j p ≡ mark_in w p

-- ---- why a step stops, by document 01's numbers: "instruction fetch from a marked byte", "bits that are no instruction", "a marked operand where none may be"
pub data Stopped (t : ℕ) (s : State) (m : List ℕ) (k : Marks) : ℕ → Type 0 where
  fetch_marked : chosen t s.control ≡ Event.Instruction → fetch_of (pc_of s.control) m k ≡ Err Halt.FetchMarked → Stopped t s m k 12
  no_instruction : chosen t s.control ≡ Event.Instruction → fetch_of (pc_of s.control) m k ≡ Err Halt.NoInstruction → Stopped t s m k 13
  marked_operand : (i : Instr) → chosen t s.control ≡ Event.Instruction → fetch_of (pc_of s.control) m k ≡ Ok i
      → any_of (found_in i s m k) (stop_from i) ≡ true → Stopped t s m k 14
