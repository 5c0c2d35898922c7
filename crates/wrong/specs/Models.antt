-- The wrong models of document 01 ("Holding the statements to the machine"), each as near to the right one, run_of, as its words allow.
-- Assumes nothing.
use Rattle.std.specs.Prelude.{ℕ, min, true, cond, List, map, ltb, eqb, length}
use Rattle.marks.specs.Memory.{Marks, put_marks}
use Rattle.instruction.specs.Reply.{number_of}
use Rattle.instruction.specs.declared.Reply.{Reply}
use Rattle.machine.specs.Run.{Final, final, run_of}
use Rattle.machine.specs.declared.State.{State}

-- what run_of is: from budget, tape, state, memory and marks to the answer, memory and marks
abbrev pub Model : Type 0
Model = ℕ → List ℕ → State → List ℕ → Marks → Final

-- ---- an end with one part of it replaced

abbrev pub with_reply : Reply → Final → Final
with_reply r f = final r f.ended.steps f.ended.state f.mem f.marks

abbrev pub with_steps : ℕ → Final → Final
with_steps n f = final f.ended.reply n f.ended.state f.mem f.marks

-- every register, TF and CY marked
abbrev pub all_marked : State → State
all_marked s = record { regs = s.regs; marks = map (λ b. true) s.marks; flags = record { tf = true; cy = true }; control = s.control }

-- all of these and every byte of memory marked
abbrev pub with_marks : Final → Final
with_marks f = final f.ended.reply f.ended.steps (all_marked f.ended.state) f.mem (put_marks (length f.mem) f.marks 0 true)

-- ---- choice by the reply

-- f where it is a refusal, replies 1 to 6, and g where it is none
abbrev pub unless_refused : Final → Final → Final
unless_refused f g = cond (ltb (number_of f.ended.reply) 10) f g

-- f with the count n, if it ended because its budget was used up, reply 10
abbrev pub counted : ℕ → Final → Final
counted n f = cond (eqb (number_of f.ended.reply) 10) (with_steps n f) f

-- ---- the models

-- "a model that refuses .. at once", whatever it is given, with r, any reply
unfoldable pub refuses_at_once : Reply → Model
refuses_at_once r b t s m k = final r 0 s m k

-- "or stops at once": it refuses what it should, and ends before the first step
unfoldable pub stops_at_once : Model
stops_at_once b t s m k = unless_refused (run_of b t s m k) (run_of 0 t s m k)

-- "one with a constant reply": all else is right
unfoldable pub constant_reply : Reply → Model
constant_reply r b t s m k = with_reply r (run_of b t s m k)

-- "one that changes nothing": reply and count are right
unfoldable pub changes_nothing : Model
changes_nothing b t s m k = final (run_of b t s m k).ended.reply (run_of b t s m k).ended.steps s m k

-- "one that makes the first step and then only counts": it refuses what it should, and where the first step does not stop it counts up to the budget
unfoldable pub first_step_only : Model
first_step_only b t s m k = unless_refused (run_of b t s m k) (counted b (run_of (min 1 b) t s m k))

-- "one with an invented step count": g, from all that is given; all else is right
unfoldable pub invented_count : (ℕ → List ℕ → State → List ℕ → Marks → ℕ) → Model
invented_count g b t s m k = with_steps (g b t s m k) (run_of b t s m k)

-- "a model that marks everything": all else is right
unfoldable pub marks_everything : Model
marks_everything b t s m k = with_marks (run_of b t s m k)
