-- Entries, breakpoints, watchpoints and the timer (document 01, "One step").
-- Assumes nothing.
use Rattle.std.specs.Prelude.{ℕ, ◌+◌, ◌-◌, ◌*◌, ◌%◌, ◌^◌, Bool, true, false, cond, ◌&&◌, ◌||◌, ◌==◌, nat_le, nat_lt}
use Rattle.word.specs.Bits.{num, on, with_field, with_bit}
use Rattle.word.specs.Numbers.{lsl_of}
use Rattle.word.specs.declared.ByteAddr.{ByteAddr}
use Rattle.cpu.specs.Control.{with_pc, with_psw, with_ipc, with_hwdbg, with_pending, with_timer, with_cycles}
use Rattle.cpu.specs.declared.Control.{Control}
use Rattle.cpu.specs.declared.Entry.{Entry}

-- "IBASE with its low 8 bits replaced by" low
abbrev pub vector : ℕ → Control → ByteAddr
vector low c = record { 0 = with_field c.ibase 0 8 low }

-- "IPC becomes the address of the instruction not yet done; IP goes to BIP (bit 6), IP becomes 1; the program counter becomes" the vector
unfoldable pub enter : ℕ → Control → Control
enter low c = with_pc (with_ipc (with_psw c (with_bit (with_bit c.psw 6 (on c.psw 3)) 3 true)) c.pc) (vector low c)

-- The control part after an entry, one line for each:
-- "swint sets SW (bit 0) and puts its 4 bits in PSW 19:16"
-- "Debug entry clears SW, sets PSW 19:16 to ones, and makes HWDBG bits 6 to 8 (BP, WP0, WP1) show exactly this hit"
-- "Timer entry sets TI (bit 2) and clears pending"
-- "External sets EI (bit 1) and makes bits 26 to 31 show only the line taken"
-- "An access outside memory now enters at IBASE with low byte 16. On a fetch, PSW bit 15 is set ..; on data, bit 14" (document 02, ticket 5)
unfoldable pub entered : Entry → Control → Control
entered Entry.Nothing c = c
entered (Entry.Swint n) c = enter 4 (with_psw c (with_bit (with_field c.psw 16 4 n) 0 true))
entered (Entry.Debug hit) c = enter 4 (with_hwdbg (with_psw c (with_bit (with_field c.psw 16 4 15) 0 false)) (with_field c.hwdbg 6 3 hit))
entered Entry.Timer c = enter 8 (with_pending (with_psw c (with_bit c.psw 2 true)) false)
entered (Entry.External i) c = enter 12 (with_psw c (with_bit (with_field c.psw 26 6 (lsl_of 1 i)) 1 true))
entered Entry.FetchError c = enter 16 (with_psw c (with_bit c.psw 15 true))
entered Entry.DataError c = enter 16 (with_psw c (with_bit c.psw 14 true))

-- "BP0 or BP1 is enabled (HWDBG bits 2, 3) and equals the program counter"
unfoldable pub is_break : Control → Bool
is_break c = (on c.hwdbg 2 && c.bp0 == c.pc) || (on c.hwdbg 3 && c.bp1 == c.pc)

-- "an enabled WP0 or WP1 (bits 4, 5) equals the address after alignment": bits WP0 and WP1 of the hit, 0 where there is none
unfoldable pub watch_hit : ByteAddr → Control → ℕ
watch_hit a c = num (on c.hwdbg 4 && c.wp0 == a.0) * 2 + num (on c.hwdbg 5 && c.wp1 == a.0) * 4

-- "debug entry, after it, in the same step"
unfoldable pub watch_entry : ByteAddr → Control → Entry
watch_entry a c = cond (nat_lt 0 (watch_hit a c)) (Entry.Debug (watch_hit a c)) Entry.Nothing

-- "if TE was 1 at its start and TIMER isn't 0, TIMER falls"; "by the step's cost, to no less than 0" (document 02, ticket 6); "reaching 0 sets pending"
unfoldable pub fallen : Bool → ℕ → Control → Control
fallen te n c = cond (te && nat_lt 0 c.timer) (with_timer c (c.timer - n) (c.pending || nat_le c.timer n)) c

-- a step of cost n goes by: the timer's fall, and the count "modulo 2^32"
unfoldable pub passed : Bool → ℕ → Control → Control
passed te n c = with_cycles (fallen te n c) ((c.cycles + n) % 2 ^ 32)
