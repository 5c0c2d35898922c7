-- Small laws that the functions' proofs cite.
-- Assumes nothing.
use Prim.Native.Nat.{ℕ, suc, ◌+◌, ◌-◌, ◌<◌, ◌≤◌}
use mathlib.Core.Path.{◌≡◌}
use mathlib.Core.Bool.{Bool, false}
use mathlib.Core.List.{List, [], ◌∷◌}
use native.Mathlib.Omega.{arith}
use lib.ListN.{get_or}
use borrow.Author.Tests.{lt-ltb, le-ltb}
use Rattle.text.specs.Digits.{hex_text, decimal_text}
use Rattle.text.specs.Pages.{Page, write_on}
use Rattle.text.proofs.Pages.{write_append, write_three, write_five}
use Rattle.instruction.specs.Reply.{number_of}
use Rattle.machine.specs.declared.State.{State}
use Rattle.machine.specs.declared.Ended.{Ended}
use Rattle.answer.specs.Answer.{bad_text, pc_text, end_text, register_line, register_text, registers_text, state_text, ended_text}

-- ---- text

pub write_bad : (n : ℕ) (p : Page) → write_on (bad_text n) p ≡ write_on (10 ∷ []) (write_on (decimal_text n) (write_on (98 ∷ 97 ∷ 100 ∷ 9 ∷ []) p))
unfolding bad_text
write_bad n p = write_three (98 ∷ 97 ∷ 100 ∷ 9 ∷ []) (decimal_text n) (10 ∷ []) p

pub write_pc : (x : ℕ) (p : Page) → write_on (pc_text x) p ≡ write_on (10 ∷ []) (write_on (hex_text x) (write_on (112 ∷ 99 ∷ 9 ∷ []) p))
unfolding pc_text
write_pc x p = write_three (112 ∷ 99 ∷ 9 ∷ []) (hex_text x) (10 ∷ []) p

pub write_end : (r n : ℕ) (p : Page)
    → write_on (end_text r n) p ≡ write_on (10 ∷ []) (write_on (decimal_text n) (write_on (9 ∷ []) (write_on (decimal_text r) (write_on (101 ∷ 110 ∷ 100 ∷ 9 ∷ []) p))))
unfolding end_text
write_end r n p = write_five (101 ∷ 110 ∷ 100 ∷ 9 ∷ []) (decimal_text r) (9 ∷ []) (decimal_text n) (10 ∷ []) p

pub write_register : (i : ℕ) (t : List ℕ) (p : Page)
    → write_on (register_line i t) p ≡ write_on (10 ∷ []) (write_on t (write_on (9 ∷ []) (write_on (decimal_text i) (write_on (114 ∷ []) p))))
unfolding register_line
write_register i t p = write_five (114 ∷ []) (decimal_text i) (9 ∷ []) t (10 ∷ []) p

pub write_state : (s : State) (p : Page)
    → write_on (state_text s) p ≡ write_on (registers_text 16 0 s.regs s.marks) (write_on (pc_text s.control.pc) p)
unfolding state_text
write_state s p = write_append (pc_text s.control.pc) (registers_text 16 0 s.regs s.marks) p

-- n is the reply's number: a refusal, or none
module _ (e : Ended) (n : ℕ) (q : n ≡ number_of e.reply) (p : Page) where
  pub write_refused : n < 10 → write_on (ended_text e) p ≡ write_on (end_text n e.steps) p
  unfolding ended_text write_on
  write_refused h = rw (← q, lt-ltb n 10 h) (write_append (end_text n e.steps) [] p)

  pub write_ended : 10 ≤ n → write_on (ended_text e) p ≡ write_on (state_text e.state) (write_on (end_text n e.steps) p)
  unfolding ended_text
  write_ended h = rw (← q, le-ltb n 10 h) (write_append (end_text n e.steps) (state_text e.state) p)

pub registers_more : (regs : List ℕ) (marks : List Bool) (i : ℕ) (p : Page) → i < 16
    → write_on (registers_text (16 - i) i regs marks) p
    ≡ write_on (registers_text (16 - (i + 1)) (i + 1) regs marks) (write_on (register_text i (get_or regs i 0) (get_or marks i false)) p)
unfolding registers_text
registers_more regs marks i p h =
    let e : 16 - i ≡ suc (16 - (i + 1)) = omega arith in
    rw (e, write_append (register_text i (get_or regs i 0) (get_or marks i false)) (registers_text (16 - (i + 1)) (i + 1) regs marks) p)

pub registers_none : (regs : List ℕ) (marks : List Bool) (i : ℕ) (p : Page) → 16 ≤ i → write_on (registers_text (16 - i) i regs marks) p ≡ p
unfolding registers_text write_on
registers_none regs marks i p h =
    let e : 16 - i ≡ 0 = omega arith in
    rw e
