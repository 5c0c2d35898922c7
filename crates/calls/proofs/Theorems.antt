-- Secrecy of what hosts call: the static library's function and the small program. Read this file alone with specs/ and crates/secrecy/specs/Same.antt;
-- the proofs are in the files that it cites.
-- Assumes nothing.
use Prim.Native.Nat.{ℕ}
use mathlib.Core.Path.{◌≡◌, sym, ap, subst, ◌∙◌}
use mathlib.Core.List.{List, [], ◌∷◌}
use lib.ListN.{length}
use lib.Seq.{sets}
use Rattle.marks.specs.Memory.{Marks}
use Rattle.marks.specs.declared.Flags.{Flags}
use Rattle.instruction.specs.declared.Reply.{Reply}
use Rattle.machine.specs.declared.State.{State}
use Rattle.secrecy.specs.Same.{SameMem, Same}
use Rattle.abi.specs.Record.{state_at, record_of, Bytes}
use Rattle.abi.specs.Call.{Answer, called}
use Rattle.abi.proofs.Theorems.{Ensured}
use Rattle.script.specs.Line.{blank, unmarked}
use Rattle.script.specs.Reader.{fed, start_of}
use Rattle.text.specs.Pages.{page, write_on}
use Rattle.text.specs.Words.{ascii}
use Rattle.answer.specs.Answer.{ended_text, answer_by}
use Rattle.answer.specs.Whole.{text_of, joined, feed_all}
use Rattle.answer.proofs.Theorems.{calls_answer}
use Rattle.calls.specs.Records.{PswClause, SameRecord, SamePswBytes, SameAnswer, Call, answers_of, SameAnswers, none, more}
use Rattle.calls.specs.Inputs.{marks_of, AlikeInputs}
use Rattle.calls.proofs.Records.{state_same, record_same, call_same, call_bytes}
use Rattle.calls.proofs.Psw.{psw_apart, psw_joined}
use Rattle.calls.proofs.Inputs.{answers_same, marks_same}
use Rattle.calls.proofs.Instance.{one, other, one_other}
use Rattle.calls.proofs.Written.{example_end, end_written, refusal_written}

-- 1. Two calls of manik_run with equal marks k, tape t and budget b, whose records r and q and memories m and n differ only where marked. They return the
-- same number and step count, and leave equal marks, and records and memories that again differ only where marked. Every list: one that is no record too.
pub two_records : (r q m n : List ℕ) (k : Marks) (t : List ℕ) (b : ℕ) → SameRecord r q → SameMem k m n → SameAnswer (called r m k t b) (called q n k t b)
two_records r q m n k t b s mem = call_same r q m n k t b s mem

-- 2. So do calls one after the other, however many, each on what the one before it left.
pub two_hosts : (cs : List Call) (r q m n : List ℕ) (k : Marks) → SameRecord r q → SameMem k m n → SameAnswers (answers_of cs r m k) (answers_of cs q n k)
unfolding answers_of
two_hosts [] r q m n k s mem = none
two_hosts (c ∷ cs) r q m n k s mem =
    let x : Answer = called r m k c.tape c.budget in
    let y : Answer = called q n k c.tape c.budget in
    let a : SameAnswer x y = two_records r q m n k c.tape c.budget s mem in
    more a
    (subst (λ (l : Marks). SameAnswers (answers_of cs x.state x.mem x.marks) (answers_of cs y.state y.mem l)) a.marks
    (two_hosts cs x.state y.state x.mem y.mem x.marks a.state a.mem))

-- 3. The same of two calls from what manik_run's contract ensures: x and y are what each of them leaves.
pub two_calls : (r q m n : List ℕ) (k : Marks) (t : List ℕ) (b : ℕ) (x y : Answer) → SameRecord r q → SameMem k m n
    → Ensured r m k t b x.reply x.steps x.state x.mem x.marks → Ensured q n k t b y.reply y.steps y.state y.mem y.marks
    → SameAnswer x y
two_calls r q m n k t b x y s mem e f =
    let a : SameAnswer (called r m k t b) (called q n k t b) = two_records r q m n k t b s mem in
    record {
      reply = e.0 ∙ a.reply ∙ sym f.0;
      steps = e.1 ∙ a.steps ∙ sym f.1;
      state = rw (e.2, f.2) a.state;
      marks = e.4 ∙ a.marks ∙ sym f.4;
      mem = rw (e.4, e.3, f.3) a.mem;
    }

-- 4. SameRecord is of records what Same is of states: of the states that two records hold, and of the records that two states are written as.
pub states_of_records : (r q : List ℕ) → length r ≡ 160 → SameRecord r q → Same (state_at r) (state_at q)
states_of_records r q n s = state_same s n

pub records_of_states : (a c : State) → length a.regs ≡ 16 → length a.marks ≡ 16 → Same a c → SameRecord (record_of a) (record_of c)
records_of_states a c n l s = record_same a c s (n, l)

-- 5. For records of bytes, the clause on PSW says the same as its four bytes do one by one; and a call leaves bytes where it found bytes.
pub psw_bytes : (r q : List ℕ) → Bytes r → Bytes q → length r ≡ 160 → length q ≡ 160
    → (PswClause r q → SamePswBytes r q) × (SamePswBytes r q → PswClause r q)
psw_bytes r q b c n o = (psw_apart r q b c n o, psw_joined r q b c n o)

pub call_leaves_bytes : (r m : List ℕ) (k : Marks) (t : List ℕ) (b : ℕ) → Bytes r → Bytes (called r m k t b).state
call_leaves_bytes r m k t b h = call_bytes r m k t b h

-- 6. Two inputs of the small program that differ only in the contents of bytes that they mark: it writes the same text for both.
pub two_inputs : (x y : List ℕ) → AlikeInputs x y → text_of x ≡ text_of y
two_inputs x y a = answers_same x y a

-- They mark the same bytes, so the relation is the same with the marks of either.
pub equal_marks : (x y : List ℕ) → AlikeInputs x y → marks_of x ≡ marks_of y
equal_marks x y a = marks_same x y a

-- 7. The same from what the contracts of `start`, `feed` and `answer` ensure, whatever the parts ps and qs in which the inputs come, and whatever the rooms l
-- and h for a line held: what stands in the room o for the text is then equal, and so are the lengths.
pub two_answers : (ps qs : List (List ℕ)) (l h o out room : List ℕ) (n i : ℕ) → AlikeInputs (joined ps) (joined qs) → length l ≡ 45 → length h ≡ 45 → length o ≡ 256
    → page out n
    ≡ write_on
    (answer_by (feed_all ps (fed start_of l blank unmarked)).reader (feed_all ps (fed start_of l blank unmarked)).mem (feed_all ps (fed start_of l blank unmarked)).marks).text
    (page o 0)
    → page room i
    ≡ write_on
    (answer_by (feed_all qs (fed start_of h blank unmarked)).reader (feed_all qs (fed start_of h blank unmarked)).mem (feed_all qs (fed start_of h blank unmarked)).marks).text
    (page o 0)
    → page out n ≡ page room i
two_answers ps qs l h o out room n i a p q r e f =
    calls_answer ps l o out n p r e
    ∙ ap (λ (t : List ℕ). page (sets o 0 t) (length t)) (two_inputs (joined ps) (joined qs) a)
    ∙ sym (calls_answer qs h o room i q r f)

-- 8. There are such inputs: one_other of proofs/Instance.antt has two good ones, unequal in a marked word that the program loads.
pub one_as_other : text_of one ≡ text_of other
one_as_other = two_inputs one other one_other

-- 9. What is written, letter by letter: document 01's example, with a marked register beside it, and a refusal's one line; f are any marks of TF and CY.
pub an_end_written : (f : Flags) → ended_text (example_end f 3 Reply.Budget) ≡ ascii "end\t10\t3\npc\t00000004\nr1\t00000020\nr15\t********\n"
an_end_written = end_written

pub a_refusal_written : (f : Flags) → ended_text (example_end f 0 Reply.Form) ≡ ascii "end\t4\t0\n"
a_refusal_written = refusal_written
