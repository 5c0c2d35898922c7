-- What a step does first: an entry by its priority, or an instruction (document 01, "One step", 1 and 2), as facts in their order.
-- Assumes nothing.
use Rattle.std.specs.Prelude.{ℕ, ◌+◌, ◌<◌, ◌≡◌, Bool, true, false, not, ◌&&◌}
use Rattle.word.specs.Bits.{on}
use Rattle.cpu.specs.declared.Control.{Control}
use Rattle.cpu.specs.declared.Entry.{Entry}
use Rattle.machine.specs.declared.Event.{Event}

-- "If IE (bit 5) is 1 and IP (bit 3) is 0"
abbrev pub is_permitted : Control → Bool
is_permitted c = on c.psw 5 && not (on c.psw 3)

-- "a pending timer with TE (bit 4) set"
abbrev pub is_due : Control → Bool
is_due c = c.pending && on c.psw 4

-- line i "is high and has enable bit 20+i set"; t is the tape's byte
abbrev pub is_asked : ℕ → Control → ℕ → Bool
is_asked t c i = on t i && on c.psw (20 + i)

-- no interrupt is permitted, or none is there
abbrev pub Quiet : ℕ → Control → Type 0
Quiet t c = is_permitted c ≡ true → (is_due c ≡ false) × ((i : ℕ) → i < 6 → is_asked t c i ≡ false)

-- "BP0 or BP1 is enabled (HWDBG bits 2, 3) and equals the program counter"
pub data Breaks (c : Control) : Type 0 where
  at_bp0 : on c.hwdbg 2 ≡ true → c.bp0 ≡ c.pc → Breaks c
  at_bp1 : on c.hwdbg 3 ≡ true → c.bp1 ≡ c.pc → Breaks c

pub data Chooses (t : ℕ) (c : Control) : Event → Type 0 where
  timer : is_permitted c ≡ true → is_due c ≡ true → Chooses t c (Event.Enter Entry.Timer)
  line : (i : ℕ) → is_permitted c ≡ true → is_due c ≡ false → i < 6 → is_asked t c i ≡ true → ((j : ℕ) → j < i → is_asked t c j ≡ false)
      → Chooses t c (Event.Enter (Entry.External i))
  breakpoint : Quiet t c → Breaks c → Chooses t c (Event.Enter (Entry.Debug 1))
  instruction : Quiet t c → (Breaks c → ⊥) → Chooses t c Event.Instruction
