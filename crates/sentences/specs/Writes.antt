-- What each entry writes of PSW and of the SFRs, by number (document 01, "One step"; document 02, ticket 5). All else is left alone.
-- Assumes nothing.
use Rattle.std.specs.Prelude.{ℕ, ◌≡◌, Bool, true, false, ◌&&◌, ◌||◌, leb, eqb}
use Rattle.cpu.specs.declared.Control.{Control}
use Rattle.cpu.specs.declared.Entry.{Entry}

-- j is one of the numbers from i to e
abbrev pub among : ℕ → ℕ → ℕ → Bool
among i e j = leb i j && leb j e

-- "IP goes to BIP (bit 6), IP becomes 1"; IP is bit 3
abbrev pub saves : ℕ → Bool
saves j = eqb j 3 || eqb j 6

-- the bits of PSW that an entry writes: SW is bit 0, EI bit 1, TI bit 2
abbrev pub writes_psw : Entry → ℕ → Bool
writes_psw Entry.Nothing j = false
writes_psw (Entry.Swint n) j = saves j || eqb j 0 || among 16 19 j
writes_psw (Entry.Debug hit) j = saves j || eqb j 0 || among 16 19 j
writes_psw Entry.Timer j = saves j || eqb j 2
writes_psw (Entry.External i) j = saves j || eqb j 1 || among 26 31 j
writes_psw Entry.FetchError j = saves j || eqb j 15
writes_psw Entry.DataError j = saves j || eqb j 14

-- the bits of HWDBG: "HWDBG bits 6 to 8 (BP, WP0, WP1) show exactly this hit" on a debug entry
abbrev pub writes_hwdbg : Entry → ℕ → Bool
writes_hwdbg Entry.Nothing j = false
writes_hwdbg (Entry.Swint n) j = false
writes_hwdbg (Entry.Debug hit) j = among 6 8 j
writes_hwdbg Entry.Timer j = false
writes_hwdbg (Entry.External i) j = false
writes_hwdbg Entry.FetchError j = false
writes_hwdbg Entry.DataError j = false

-- From control part c to n no SFR but PSW, IPC and HWDBG changes, nor the cycle count.
pub record Left (c n : Control) : Type 0 where
  pub ra : n.ra ≡ c.ra
  pub timer : n.timer ≡ c.timer
  pub ibase : n.ibase ≡ c.ibase
  pub usreg : n.usreg ≡ c.usreg
  pub bp0 : n.bp0 ≡ c.bp0
  pub bp1 : n.bp1 ≡ c.bp1
  pub wp0 : n.wp0 ≡ c.wp0
  pub wp1 : n.wp1 ≡ c.wp1
  pub cycles : n.cycles ≡ c.cycles

-- the low byte of the vector: "4 (swint, debug), 8 (timer), 12 (external)", "16" (bus errors)
abbrev pub low_byte : Entry → ℕ
low_byte Entry.Nothing = 0
low_byte (Entry.Swint n) = 4
low_byte (Entry.Debug hit) = 4
low_byte Entry.Timer = 8
low_byte (Entry.External i) = 12
low_byte Entry.FetchError = 16
low_byte Entry.DataError = 16

-- an entry, and the one that is none; the timer's, which alone clears pending
abbrev pub is_entry : Entry → Bool
is_entry Entry.Nothing = false
is_entry (Entry.Swint n) = true
is_entry (Entry.Debug hit) = true
is_entry Entry.Timer = true
is_entry (Entry.External i) = true
is_entry Entry.FetchError = true
is_entry Entry.DataError = true

abbrev pub is_timer : Entry → Bool
is_timer Entry.Nothing = false
is_timer (Entry.Swint n) = false
is_timer (Entry.Debug hit) = false
is_timer Entry.Timer = true
is_timer (Entry.External i) = false
is_timer Entry.FetchError = false
is_timer Entry.DataError = false

-- "swint 2, any other entry 4 in all, a watchpoint's 6 with its load or store" (document 02, ticket 6): beside its instruction, which a swint is
abbrev pub adds_cycles : Entry → ℕ
adds_cycles Entry.Nothing = 0
adds_cycles (Entry.Swint n) = 0
adds_cycles (Entry.Debug hit) = 4
adds_cycles Entry.Timer = 4
adds_cycles (Entry.External i) = 4
adds_cycles Entry.FetchError = 4
adds_cycles Entry.DataError = 4
