-- The longest answer is shorter than its room.
-- Assumes nothing.
use Prim.Native.Nat.{ℕ, zero, suc, ◌+◌, ◌*◌, ◌<◌, ◌≤◌}
use mathlib.Core.Path.{◌≡◌}
use mathlib.Core.Bool.{Bool, true, false, cond}
use mathlib.Core.List.{List, []}
use native.Mathlib.Omega.{arith}
use lib.Dec.{ltb, eqb}
use lib.ListN.{length, get_or, length-append}
use Rattle.text.specs.Digits.{hex_text, decimal_text}
use Rattle.text.proofs.Theorems.{digits_length, decimal_length, decimal_most}
use Rattle.marks.specs.Memory.{Marks}
use Rattle.instruction.specs.Reply.{number_of}
use Rattle.machine.specs.declared.Ended.{Ended}
use Rattle.instruction.specs.declared.Reply.{Reply}
use Rattle.machine.specs.declared.State.{State}
use Rattle.answer.specs.Answer.{bad_text, end_text, pc_text, stars, register_line, register_text, registers_text, state_text, ended_text, answered, ran_of}
use Rattle.script.specs.declared.Phase.{Phase}

small : (n : ℕ) → n < 100 → length (decimal_text n) ≤ 2
small n h = decimal_length 2 n (omega arith) (omega arith) h

bad_fits : (n : ℕ) → length (bad_text n) ≤ 25
unfolding bad_text
bad_fits n = simp length-append (omega (arith, decimal_most n))

end_fits : (r n : ℕ) → r < 100 → length (end_text r n) ≤ 28
unfolding end_text
end_fits r n h = simp length-append (omega (arith, small r h, decimal_most n))

pc_fits : (x : ℕ) → length (pc_text x) ≤ 12
unfolding pc_text
pc_fits x = simp length-append (omega (arith, digits_length 16 8 x))

line_fits : (i : ℕ) (t : List ℕ) → i < 100 → length t ≡ 8 → length (register_line i t) ≤ 13
unfolding register_line
line_fits i t h e = simp length-append (omega (arith, small i h))

register_fits : (i v : ℕ) (m : Bool) → i < 100 → length (register_text i v m) ≤ 13
unfolding register_text
register_fits i v true h = line_fits i stars h (omega arith)
register_fits i v false h = go (eqb v 0)
  where
    go : (t : Bool) → length (cond t [] (register_line i (hex_text v))) ≤ 13
    go true = omega arith
    go false = line_fits i (hex_text v) h (digits_length 16 8 v)

registers_fit : (n i : ℕ) (regs : List ℕ) (marks : List Bool) → i + n ≤ 16 → length (registers_text n i regs marks) ≤ 13 * n
unfolding registers_text
registers_fit zero i regs marks h = omega arith
registers_fit (suc n) i regs marks h =
    let a = register_fits i (get_or regs i 0) (get_or marks i false) (omega arith) in
    let b = registers_fit n (i + 1) regs marks (omega arith) in
    simp length-append (omega arith)

reply_small : (r : Reply) → number_of r < 100
reply_small Reply.MemoryLength = omega arith
reply_small Reply.MarkLength = omega arith
reply_small Reply.MarkPastEnd = omega arith
reply_small Reply.Form = omega arith
reply_small Reply.TapeLength = omega arith
reply_small Reply.TapeByte = omega arith
reply_small Reply.Budget = omega arith
reply_small Reply.FetchMarked = omega arith
reply_small Reply.NoInstruction = omega arith
reply_small Reply.MarkedOperand = omega arith

state_fits : (s : State) → length (state_text s) ≤ 220
unfolding state_text
state_fits s =
    let a = pc_fits s.control.pc in
    let b = registers_fit 16 0 s.regs s.marks (omega arith) in
    simp length-append (omega arith)

pub ended_fits : (e : Ended) → length (ended_text e) ≤ 256
unfolding ended_text
ended_fits e =
    let a = end_fits (number_of e.reply) e.steps (reply_small e.reply) in
    let b = go (ltb (number_of e.reply) 10) in
    simp length-append (omega arith)
  where
    go : (t : Bool) → length (cond t [] (state_text e.state)) ≤ 220
    go true = omega arith
    go false = state_fits e.state

pub answer_fits : (p : Phase) (e : Bool) (i : ℕ) (m : List ℕ) (k : Marks) → length (answered p e i m k).text ≤ 256
unfolding answered
answer_fits Phase.First e i m k = omega (arith, bad_fits i)
answer_fits (Phase.Body n) e i m k = omega (arith, bad_fits i)
answer_fits (Phase.Done n b) true i m k = ended_fits (ran_of n b m k).ended
answer_fits (Phase.Done n b) false i m k = omega (arith, bad_fits i)
answer_fits Phase.Bad e i m k = omega (arith, bad_fits i)
