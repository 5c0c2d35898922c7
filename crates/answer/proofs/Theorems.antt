-- What the reader and the answer are, taken together; read this file with specs/. The proofs are in the files that it cites.
-- Assumes nothing.
use Prim.Native.Nat.{ℕ, zero, suc, ◌+◌, ◌/◌, ◌≤◌}
use mathlib.Core.Path.{◌≡◌, refl, sym, ap, ap₂, ◌∙◌}
use mathlib.Core.Bool.{Bool, true, false}
use mathlib.Core.List.{List, [], ◌∷◌, ◌++◌}
use native.Mathlib.Omega.{arith}
use lib.Dec.{eqb}
use lib.ListN.{length, get_or, take}
use lib.Seq.{sets, length-take-le}
use borrow.Author.Tests.{eq-eqb}
use Rattle.machine.specs.Run.{Final, run_of}
use Rattle.cpu.specs.declared.Control.{Control}
use Rattle.machine.specs.declared.State.{State}
use Rattle.secrecy.specs.Same.{SameList, SameMem, Same, SameFinal}
use Rattle.secrecy.proofs.Theorems.{two_runs}
use Rattle.marks.specs.Memory.{Marks, bits, bad_room}
use Rattle.script.specs.Line.{blank, unmarked}
use Rattle.script.specs.Fault.{end_fault, why_of}
use Rattle.script.specs.Statements.{is_bad, is_fault}
use Rattle.script.specs.declared.Phase.{Phase}
use Rattle.script.proofs.Theorems.{Kept, a_reason_if_bad, bad_stays}
use Rattle.script.specs.Reader.{Fed, fed, start_of, byte_of, feed_of}
use Rattle.text.specs.Pages.{Page, page, write_on}
use Rattle.text.proofs.Pages.{written}
use Rattle.answer.specs.Answer.{answered, answer_by, badly, lent_of, ran_text, bad_text, pc_text, register_text, registers_text, state_text, ended_text}
use Rattle.cpu.specs.Control.{with_sfr}
use Rattle.answer.specs.Whole.{text_of, joined, feed_all}
use Rattle.script.specs.declared.Reader.{Reader}
use Rattle.answer.proofs.Whole.{fed_whole}
use Rattle.answer.proofs.Fits.{answer_fits}

-- Feeding two parts is feeding them joined.
pub feed_append : (a b : List ℕ) (s : Fed) → feed_of (a ++ b) s ≡ feed_of b (feed_of a s)
unfolding feed_of
feed_append [] b s = refl
feed_append (x ∷ a) b s = feed_append a b (byte_of x s)

-- So parts of any size are the input that they make.
pub feed_parts : (ps : List (List ℕ)) (s : Fed) → feed_all ps s ≡ feed_of (joined ps) s
unfolding feed_of feed_all joined
feed_parts [] s = refl
feed_parts (p ∷ ps) s = feed_parts ps (feed_of p s) ∙ sym (feed_append p (joined ps) s)

-- Whatever the parts and the bytes in the room for a line: the answer is that of the whole input.
pub answer_is_whole : (ps : List (List ℕ)) (l : List ℕ) → length l ≡ 45
    → (answer_by (feed_all ps (fed start_of l blank unmarked)).reader (feed_all ps (fed start_of l blank unmarked)).mem (feed_all ps (fed start_of l blank unmarked)).marks).text
    ≡ text_of (joined ps)
answer_is_whole ps l h =
    ap (λ (s : Fed). (answer_by s.reader s.mem s.marks).text) (feed_parts ps (fed start_of l blank unmarked)) ∙ fed_whole (joined ps) l h

-- ---- a marked register's content is not written

registers_same : (n i : ℕ) (marks : List Bool) (a b : List ℕ) → SameList false marks a b → registers_text n i a marks ≡ registers_text n i b marks
unfolding registers_text register_text
registers_same zero i marks a b s = refl
registers_same (suc n) i marks a b s =
    ap₂ (λ (x y : List ℕ). x ++ y) (go (get_or marks i false) (s.equal i)) (registers_same n (i + 1) marks a b s)
  where
    go : (m : Bool) → (m ≡ false → get_or a i 0 ≡ get_or b i 0) → register_text i (get_or a i 0) m ≡ register_text i (get_or b i 0) m
    go true e = refl
    go false e = rw (e refl)

-- two states that differ only where marked are written alike
pub state_same : (a b : State) → Same a b → state_text a ≡ state_text b
unfolding state_text with_sfr
state_same a b s =
    ap₂ (λ (x y : List ℕ). x ++ y) (ap (λ (c : Control). pc_text c.pc) s.control.rest)
    (registers_same 16 0 a.marks a.regs b.regs s.regs ∙ ap (λ (k : List Bool). registers_text 16 0 b.regs k) s.marks)

pub ended_same : (x y : Final) → SameFinal x y → ended_text x.ended ≡ ended_text y.ended
unfolding ended_text
ended_same x y s = rw (s.reply, s.steps, state_same x.ended.state y.ended.state s.state)

-- So two runs from memories that differ only in marked bytes write the same text.
pub marked_not_written : (b : ℕ) (t m n : List ℕ) (k : Marks) (a c : State) → Same a c → SameMem k m n
    → ended_text (run_of b t a m k).ended ≡ ended_text (run_of b t c n k).ended
marked_not_written b t m n k a c s e = ended_same (run_of b t a m k) (run_of b t c n k) (two_runs b t a c m n k s e).0

-- ---- the room for the text

-- Every answer fits its room.
pub fits : (r : Reader) (m : List ℕ) (k : Marks) → length (answer_by r m k).text ≤ 256
fits r m k = answer_fits r.phase (eqb r.used 0) r.number m k

-- ---- the rooms

-- The rooms that `answer` takes serve every size that `mem` may tell: no run is refused for the length of its marks.
pub room_for_marks : (n : ℕ) (m k : List ℕ) → n ≤ 16384 → length m ≡ 16384 → length k ≡ 2048 → bad_room (length (take n m)) (lent_of n (bits k)) ≡ false
room_for_marks n m k h p q =
    let a : length (take n m) ≡ n = length-take-le n m (omega arith) in
    let b : length (take ((n + 7) / 8) k) ≡ (n + 7) / 8 = length-take-le ((n + 7) / 8) k (omega arith) in
    rw (a, b, eq-eqb ((n + 7) / 8) ((n + 7) / 8) refl)

-- ---- why an answer is `bad`

-- An answer is `bad` with the line's number, or it is a run's; there is a reason exactly in the first case.
pub data Judged (r : Reader) (m : List ℕ) (k : Marks) : Type 0 where
  is_bad_lem : is_fault (why_of r) ≡ true → answer_by r m k ≡ badly r.number m k → Judged r m k
  has_run : (n b : ℕ) → is_fault (why_of r) ≡ false → answer_by r m k ≡ ran_text n b m k → Judged r m k

judged : (r : Reader) (m : List ℕ) (k : Marks) → is_fault r.fault ≡ is_bad r.phase → Judged r m k
unfolding answered end_fault
judged r m k h = go r.phase refl (eqb r.used 0) refl h
  where
    go : (p : Phase) → r.phase ≡ p → (e : Bool) → eqb r.used 0 ≡ e → is_fault r.fault ≡ is_bad p → Judged r m k
    go Phase.First q true e h = is_bad_lem (rw q) (rw q)
    go Phase.First q false e h = is_bad_lem (rw q) (rw q)
    go (Phase.Body n) q true e h = is_bad_lem (rw q) (rw q)
    go (Phase.Body n) q false e h = is_bad_lem (rw q) (rw q)
    go (Phase.Done n b) q true e h = has_run n b (rw (q, e)) (rw (q, e))
    go (Phase.Done n b) q false e h = is_bad_lem (rw (q, e)) (rw (q, e))
    go Phase.Bad q e z h = is_bad_lem (rw q h) (rw q)

pub a_reason_for_bad : (t l m : List ℕ) (k : Marks) → Judged (feed_of t (fed start_of l blank unmarked)).reader m k
a_reason_for_bad t l m k = judged (feed_of t (fed start_of l blank unmarked)).reader m k (a_reason_if_bad t l blank unmarked)

-- The first bad line decides: what follows it need not be read.
pub rest_not_read : (a b l : List ℕ) → length l ≡ 45 → (feed_of a (fed start_of l blank unmarked)).reader.phase ≡ Phase.Bad → text_of (a ++ b) ≡ text_of a
unfolding answered
rest_not_read a b l h e =
    sym (fed_whole (a ++ b) l h)
    ∙ ap answer_fed (feed_append a b (fed start_of l blank unmarked))
    ∙ same (feed_of a (fed start_of l blank unmarked)) (feed_of b (feed_of a (fed start_of l blank unmarked))) e (bad_stays b (feed_of a (fed start_of l blank unmarked)) e)
    ∙ fed_whole a l h
  where
    answer_fed : Fed → List ℕ
    answer_fed s = (answer_by s.reader s.mem s.marks).text

    same : (x y : Fed) → x.reader.phase ≡ Phase.Bad → Kept x y → answer_fed y ≡ answer_fed x
    same x y q s = rw (s.phase, q) (ap bad_text s.number)

-- ---- the three calls together

-- `start`, any parts, then `answer`, from what their contracts ensure: the room o ends with the whole input's answer at its start, and n is its length.
pub calls_answer : (ps : List (List ℕ)) (l o out : List ℕ) (n : ℕ) → length l ≡ 45 → length o ≡ 256
    → page out n
    ≡ write_on
    (answer_by (feed_all ps (fed start_of l blank unmarked)).reader (feed_all ps (fed start_of l blank unmarked)).mem (feed_all ps (fed start_of l blank unmarked)).marks).text
    (page o 0)
    → page out n ≡ page (sets o 0 (text_of (joined ps))) (length (text_of (joined ps)))
calls_answer ps l o out n h q e =
    e
    ∙ written _ o
    (rw q (fits (feed_all ps (fed start_of l blank unmarked)).reader (feed_all ps (fed start_of l blank unmarked)).mem (feed_all ps (fed start_of l blank unmarked)).marks))
    ∙ ap (λ (t : List ℕ). page (sets o 0 t) (length t)) (answer_is_whole ps l h)

-- ---- what `start`, `feed` and `answer` ensure determines their results: two that satisfy it coincide

-- the reader, and both rooms at exit
pub start_determined : (r s : Reader) (m n k l : List ℕ) → (r ≡ start_of) × (m ≡ blank) × (bits k ≡ unmarked) → (s ≡ start_of) × (n ≡ blank) × (bits l ≡ unmarked)
    → (r ≡ s) × (m ≡ n) × (k ≡ l)
start_determined r s m n k l u v = (u.0 ∙ sym v.0, u.1 ∙ sym v.1, let z = u.2 ∙ sym v.2 in cc)

-- a part, with the reader, line, memory and marks at entry: those at exit
pub feed_determined : (part : List ℕ) (r : Reader) (line m k : List ℕ) (s q : Reader) (l p n o j i : List ℕ)
    → fed s l n (bits j) ≡ feed_of part (fed r line m (bits k)) → fed q p o (bits i) ≡ feed_of part (fed r line m (bits k))
    → (s ≡ q) × (l ≡ p) × (n ≡ o) × (j ≡ i)
feed_determined part r line m k s q l p n o j i u v =
    let e : fed s l n (bits j) ≡ fed q p o (bits i) = u ∙ sym v in
    (ap (λ (f : Fed). f.reader) e, ap (λ (f : Fed). f.line) e, ap (λ (f : Fed). f.mem) e, let z = ap (λ (f : Fed). f.marks) e in cc)

-- the reader, memory, marks and the room for the text at entry: the length, and the room, memory and marks at exit
pub answer_determined : (r : Reader) (m k out : List ℕ) (a b : ℕ) (o p n l j i : List ℕ)
    → (page o a ≡ write_on (answer_by r m (bits k)).text (page out 0)) × (n ≡ (answer_by r m (bits k)).mem) × (bits j ≡ (answer_by r m (bits k)).marks)
    → (page p b ≡ write_on (answer_by r m (bits k)).text (page out 0)) × (l ≡ (answer_by r m (bits k)).mem) × (bits i ≡ (answer_by r m (bits k)).marks)
    → (a ≡ b) × (o ≡ p) × (n ≡ l) × (j ≡ i)
answer_determined r m k out a b o p n l j i u v =
    let e : page o a ≡ page p b = u.0 ∙ sym v.0 in
    (ap (λ (x : Page). x.at) e, ap (λ (x : Page). x.text) e, u.1 ∙ sym v.1, let z = u.2 ∙ sym v.2 in cc)
