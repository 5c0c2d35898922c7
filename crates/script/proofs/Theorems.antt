-- A bad input has its reason, and what follows a bad line does not count; read this file with specs/.
-- Assumes nothing.
use Prim.Native.Nat.{ℕ}
use mathlib.Core.Path.{◌≡◌, refl, ◌∙◌}
use mathlib.Core.Bool.{Bool, true, false, cond}
use mathlib.Core.List.{List, [], ◌∷◌}
use lib.Dec.{ltb, eqb}
use lib.ListN.{take}
use Rattle.marks.specs.Memory.{Marks}
use Rattle.script.specs.Line.{line_of}
use Rattle.script.specs.Fault.{fault_of}
use Rattle.script.specs.Reader.{Fed, fed, kept_by, kept_in, ended_of, start_of, byte_of, feed_of}
use Rattle.script.specs.Statements.{is_bad, is_fault}
use Rattle.script.specs.declared.Phase.{Phase}
use Rattle.script.specs.declared.Reader.{Reader}
use Rattle.script.proofs.Reasons.{line_bad}

-- Whatever was fed: the reader holds a reason exactly if a line was bad.
abbrev Explained : Reader → Type 0
Explained r = is_fault r.fault ≡ is_bad r.phase

ended_explained : (r : Reader) (l m : List ℕ) (k : Marks) → Explained r → Explained (ended_of r l m k).reader
ended_explained r l m k h = line_bad r.phase r.fault (take r.used l) m k h

byte_explained : (b : ℕ) (s : Fed) → Explained s.reader → Explained (byte_of b s).reader
unfolding byte_of
byte_explained b s h = go (eqb b 10) (ltb s.reader.used 44)
  where
    go : (t u : Bool) → Explained (cond t (ended_of s.reader s.line s.mem s.marks)
        (cond u (fed (kept_by s.reader) (kept_in b s.reader s.line) s.mem s.marks)
        (ended_of (kept_by s.reader) (kept_in b s.reader s.line) s.mem s.marks))).reader
    go true u = ended_explained s.reader s.line s.mem s.marks h
    go false true = h
    go false false = ended_explained (kept_by s.reader) (kept_in b s.reader s.line) s.mem s.marks h

fed_explained : (t : List ℕ) (s : Fed) → Explained s.reader → Explained (feed_of t s).reader
unfolding feed_of
fed_explained [] s h = h
fed_explained (b ∷ t) s h = fed_explained t (byte_of b s) (byte_explained b s h)

pub a_reason_if_bad : (t l m : List ℕ) (k : Marks) → is_fault (feed_of t (fed start_of l m k)).reader.fault ≡ is_bad (feed_of t (fed start_of l m k)).reader.phase
a_reason_if_bad t l m k = fed_explained t (fed start_of l m k) refl

-- After a bad line neither phase, number, reason, memory nor marks change, whatever follows.
pub record Kept (a b : Fed) : Type 0 where
  pub phase : b.reader.phase ≡ a.reader.phase
  pub number : b.reader.number ≡ a.reader.number
  pub fault : b.reader.fault ≡ a.reader.fault
  pub mem : b.mem ≡ a.mem
  pub marks : b.marks ≡ a.marks

ended_kept : (b : ℕ) (s : Fed) (r : Reader) (l : List ℕ) → s.reader.phase ≡ Phase.Bad → r.phase ≡ s.reader.phase → r.number ≡ s.reader.number
    → r.fault ≡ s.reader.fault → Kept s (ended_of r l s.mem s.marks)
unfolding line_of fault_of
ended_kept b s r l h p n f = rw (p, h) (record { phase = refl; number = n; fault = f; mem = refl; marks = refl })

byte_kept : (b : ℕ) (s : Fed) → s.reader.phase ≡ Phase.Bad → Kept s (byte_of b s)
unfolding byte_of
byte_kept b s h = go (eqb b 10) (ltb s.reader.used 44)
  where
    go : (t u : Bool) → Kept s (cond t (ended_of s.reader s.line s.mem s.marks)
        (cond u (fed (kept_by s.reader) (kept_in b s.reader s.line) s.mem s.marks)
        (ended_of (kept_by s.reader) (kept_in b s.reader s.line) s.mem s.marks)))
    go true u = ended_kept b s s.reader s.line h refl refl refl
    go false true = record { phase = refl; number = refl; fault = refl; mem = refl; marks = refl }
    go false false = ended_kept b s (kept_by s.reader) (kept_in b s.reader s.line) h refl refl refl

pub bad_stays : (t : List ℕ) (s : Fed) → s.reader.phase ≡ Phase.Bad → Kept s (feed_of t s)
unfolding feed_of
bad_stays [] s h = record { phase = refl; number = refl; fault = refl; mem = refl; marks = refl }
bad_stays (b ∷ t) s h =
    let a : Kept s (byte_of b s) = byte_kept b s h in
    let c : Kept (byte_of b s) (feed_of t (byte_of b s)) = bad_stays t (byte_of b s) (a.phase ∙ h) in
    record {
      phase = c.phase ∙ a.phase;
      number = c.number ∙ a.number;
      fault = c.fault ∙ a.fault;
      mem = c.mem ∙ a.mem;
      marks = c.marks ∙ a.marks;
    }
