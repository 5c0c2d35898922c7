-- What an instruction marks, and which marks stop it, as the "or" over lists of places.
-- Assumes nothing.
use Prim.Native.Nat.{ℕ}
use mathlib.Core.Path.{◌≡◌, refl, ap, ◌∙◌}
use mathlib.Core.Bool.{Bool, true, false, cond, beq, ◌||◌}
use mathlib.Core.List.{List, [], ◌∷◌}
use lib.Dec.{ltb, eqb}
use Rattle.isa.specs.declared.AluOp.{AluOp}
use Rattle.isa.specs.declared.CondOp.{CondOp}
use Rattle.isa.specs.declared.ImmOp.{ImmOp}
use Rattle.isa.specs.declared.ShortOp.{ShortOp}
use Rattle.isa.specs.declared.LongOp.{LongOp}
use Rattle.isa.specs.declared.Instr.{Instr}
use Rattle.isa.specs.Codes.{alu_no, imm_no, cond_no, short_no, long_no}
use Rattle.marks.specs.Marks.{alu_mark, alu_flags, cond_mark, imm_mark, sfr_mark, with, taint, alu_blocked, short_blocked, long_blocked, blocked}
use Rattle.marks.specs.declared.Flags.{Flags}
use Rattle.sentences.specs.Sources.{Place, Found, mark_of, any_of, alu_reads, cond_reads, reg_from, tf_from, cy_from, stop_from}

module _ (g : Found) where
  abbrev mx : Bool
  mx = g.rd

  abbrev my : Bool
  my = g.rb

  abbrev f : Flags
  f = g.flags

  -- the "or" over no place, over one more, and over one, two and three
  none : false ≡ any_of g []
  unfolding any_of
  none = refl

  more : (p : Place) (l : List Place) → (mark_of g p || any_of g l) ≡ any_of g (p ∷ l)
  unfolding any_of
  more p l = refl

  one : (p : Place) → mark_of g p ≡ any_of g (p ∷ [])
  unfolding any_of
  one p = go (mark_of g p)
    where
      go : (a : Bool) → a ≡ (a || false)
      go true = refl
      go false = refl

  two : (p q : Place) → (mark_of g p || mark_of g q) ≡ any_of g (p ∷ q ∷ [])
  two p q = ap (λ (u : Bool). mark_of g p || u) (one q) ∙ more p (q ∷ [])

  three : (p q r : Place) → (mark_of g p || mark_of g q || mark_of g r) ≡ any_of g (p ∷ q ∷ r ∷ [])
  three p q r = assoc (mark_of g p) (mark_of g q) (mark_of g r) ∙ ap (λ (u : Bool). mark_of g p || u) (two q r) ∙ more p (q ∷ r ∷ [])
    where
      assoc : (a b c : Bool) → (a || b || c) ≡ (a || (b || c))
      assoc true b c = refl
      assoc false b c = refl

  alu_from : (op : AluOp) → alu_mark op mx my f.cy ≡ any_of g (alu_reads (alu_no op))
  unfolding alu_mark
  alu_from AluOp.Sub = two Place.rd Place.rb
  alu_from AluOp.Add = two Place.rd Place.rb
  alu_from AluOp.Subc = three Place.rd Place.rb Place.cy
  alu_from AluOp.Addc = three Place.rd Place.rb Place.cy
  alu_from AluOp.Mov = one Place.rb
  alu_from AluOp.And = two Place.rd Place.rb
  alu_from AluOp.Or = two Place.rd Place.rb
  alu_from AluOp.Xor = two Place.rd Place.rb
  alu_from AluOp.Sxb = one Place.rb
  alu_from AluOp.Xhw = one Place.rb
  alu_from AluOp.Sxh = one Place.rb
  alu_from AluOp.Zxh = one Place.rb
  alu_from AluOp.Lsl = two Place.rd Place.rb
  alu_from AluOp.Lsr = two Place.rd Place.rb
  alu_from AluOp.Asr = two Place.rd Place.rb
  alu_from AluOp.Mult = two Place.rd Place.rb

  -- what is marked, from the three lists
  abbrev Marks : Bool → Flags → List Place → List Place → List Place → Type 0
  Marks m h r t c = with m h ≡ with (any_of g r) (record { tf = any_of g t; cy = any_of g c })

  marked : (m : Bool) (h : Flags) (r t c : List Place) → m ≡ any_of g r → h.tf ≡ any_of g t → h.cy ≡ any_of g c → Marks m h r t c
  marked m h r t c p q u = rw (← p, ← q, ← u)

  alu_flags_lem : (op : AluOp) (b : Bool) → b ≡ any_of g (alu_reads (alu_no op)) → Marks b (alu_flags op b f) (alu_reads (alu_no op)) (Place.tf ∷ []) (cy_from (Instr.Alu op 0 0))
  unfolding alu_flags
  alu_flags_lem AluOp.Sub b p = marked _ _ _ _ _ p (one Place.tf) p
  alu_flags_lem AluOp.Add b p = marked _ _ _ _ _ p (one Place.tf) p
  alu_flags_lem AluOp.Subc b p = marked _ _ _ _ _ p (one Place.tf) p
  alu_flags_lem AluOp.Addc b p = marked _ _ _ _ _ p (one Place.tf) p
  alu_flags_lem AluOp.Mov b p = marked _ _ _ _ _ p (one Place.tf) (one Place.cy)
  alu_flags_lem AluOp.And b p = marked _ _ _ _ _ p (one Place.tf) (one Place.cy)
  alu_flags_lem AluOp.Or b p = marked _ _ _ _ _ p (one Place.tf) (one Place.cy)
  alu_flags_lem AluOp.Xor b p = marked _ _ _ _ _ p (one Place.tf) (one Place.cy)
  alu_flags_lem AluOp.Sxb b p = marked _ _ _ _ _ p (one Place.tf) (one Place.cy)
  alu_flags_lem AluOp.Xhw b p = marked _ _ _ _ _ p (one Place.tf) (one Place.cy)
  alu_flags_lem AluOp.Sxh b p = marked _ _ _ _ _ p (one Place.tf) (one Place.cy)
  alu_flags_lem AluOp.Zxh b p = marked _ _ _ _ _ p (one Place.tf) (one Place.cy)
  alu_flags_lem AluOp.Lsl b p = marked _ _ _ _ _ p (one Place.tf) (one Place.cy)
  alu_flags_lem AluOp.Lsr b p = marked _ _ _ _ _ p (one Place.tf) (one Place.cy)
  alu_flags_lem AluOp.Asr b p = marked _ _ _ _ _ p (one Place.tf) (one Place.cy)
  alu_flags_lem AluOp.Mult b p = marked _ _ _ _ _ p (one Place.tf) (one Place.cy)

  -- a conditional that TF lets happen, and one that it does not
  cond_from : (op : CondOp) (w : Bool) → cond_mark op mx my ≡ any_of g (cond_reads (cond_no op w))
  unfolding cond_mark
  cond_from CondOp.Mov true = one Place.rb
  cond_from CondOp.Mov false = one Place.rb
  cond_from CondOp.Sub true = two Place.rd Place.rb
  cond_from CondOp.Sub false = two Place.rd Place.rb
  cond_from CondOp.Add true = two Place.rd Place.rb
  cond_from CondOp.Add false = two Place.rd Place.rb

  wanted_from : (op : CondOp) (w b : Bool) → cond b (cond_mark op mx my) mx ≡ any_of g (cond b (cond_reads (cond_no op w)) (Place.rd ∷ []))
  wanted_from op w true = cond_from op w
  wanted_from op w false = one Place.rd

  imm_from : (op : ImmOp) → imm_mark op mx ≡ any_of g (cond (eqb (imm_no op) 7) [] (Place.rd ∷ []))
  unfolding imm_mark
  imm_from ImmOp.And = one Place.rd
  imm_from ImmOp.Add = one Place.rd
  imm_from ImmOp.Mov = none

  sfr_from : (n : ℕ) → sfr_mark n f ≡ any_of g (cond (eqb n 0) (Place.tf ∷ Place.cy ∷ []) [])
  unfolding sfr_mark
  sfr_from n = go (eqb n 0)
    where
      go : (b : Bool) → cond b (f.tf || f.cy) false ≡ any_of g (cond b (Place.tf ∷ Place.cy ∷ []) [])
      go true = two Place.tf Place.cy
      go false = none

  psw_written_lem : (b : Bool) → Marks false (cond b (record { tf = false; cy = false }) f) [] (cond b [] (Place.tf ∷ [])) (cond b [] (Place.cy ∷ []))
  psw_written_lem true = marked _ _ [] [] [] none none none
  psw_written_lem false = marked _ _ [] _ _ none (one Place.tf) (one Place.cy)

  pub marks_from_lem : (i : Instr) (t : Bool)
      → taint i mx my g.loaded t f ≡ with (any_of g (reg_from i t)) (record { tf = any_of g (tf_from i); cy = any_of g (cy_from i) })
  unfolding taint
  marks_from_lem (Instr.Alu op d b) t = alu_flags_lem op _ (alu_from op)
  marks_from_lem (Instr.ShiftImm op d n) t = marked _ _ _ _ _ (one Place.rd) (one Place.tf) (one Place.cy)
  marks_from_lem (Instr.Cmp op d b) t = marked _ _ _ _ _ none (two Place.rd Place.rb) (one Place.cy)
  marks_from_lem (Instr.CmpImm op d n) t = marked _ _ _ _ _ none (one Place.rd) (one Place.cy)
  marks_from_lem (Instr.Cond op w d b) t = marked _ _ _ _ _ (ap (λ (u : Bool). f.tf || u) (wanted_from op w (beq t w)) ∙ more Place.tf _) (one Place.tf) (one Place.cy)
  marks_from_lem (Instr.CondImm w d n) t = marked _ _ _ _ _ (two Place.tf Place.rd) (one Place.tf) (one Place.cy)
  marks_from_lem (Instr.Ldrpc d n) t = marked _ _ _ _ _ (one Place.loaded) (one Place.tf) (one Place.cy)
  marks_from_lem (Instr.Imm op d n) t = marked _ _ _ _ _ (imm_from op) (one Place.tf) (one Place.cy)
  marks_from_lem (Instr.Load w d n b) t = marked _ _ _ _ _ (one Place.loaded) (one Place.tf) (one Place.cy)
  marks_from_lem (Instr.Store w d n b) t = marked _ _ _ _ _ none (one Place.tf) (one Place.cy)
  marks_from_lem (Instr.Mfsfr d n) t = marked _ _ _ _ _ (sfr_from n) (one Place.tf) (one Place.cy)
  marks_from_lem (Instr.Mtsfr n b) t = psw_written_lem (eqb n 0)
  marks_from_lem (Instr.Jr b) t = marked _ _ _ _ _ none (one Place.tf) (one Place.cy)
  marks_from_lem (Instr.Jrl b) t = marked _ _ _ _ _ none (one Place.tf) (one Place.cy)
  marks_from_lem (Instr.Jsfr n) t = marked _ _ _ _ _ none (one Place.tf) (one Place.cy)
  marks_from_lem (Instr.Swint n) t = marked _ _ _ _ _ none (one Place.tf) (one Place.cy)
  marks_from_lem (Instr.ShortJump op d) t = marked _ _ _ _ _ none (one Place.tf) (one Place.cy)
  marks_from_lem (Instr.LongJump op d) t = marked _ _ _ _ _ none (one Place.tf) (one Place.cy)

  -- ---- stops

  alu_stops : (op : AluOp) → alu_blocked op my ≡ any_of g (stop_from (Instr.Alu op 0 0))
  unfolding alu_blocked
  alu_stops AluOp.Sub = none
  alu_stops AluOp.Add = none
  alu_stops AluOp.Subc = none
  alu_stops AluOp.Addc = none
  alu_stops AluOp.Mov = none
  alu_stops AluOp.And = none
  alu_stops AluOp.Or = none
  alu_stops AluOp.Xor = none
  alu_stops AluOp.Sxb = none
  alu_stops AluOp.Xhw = none
  alu_stops AluOp.Sxh = none
  alu_stops AluOp.Zxh = none
  alu_stops AluOp.Lsl = one Place.rb
  alu_stops AluOp.Lsr = one Place.rb
  alu_stops AluOp.Asr = one Place.rb
  alu_stops AluOp.Mult = none

  short_stops : (op : ShortOp) → short_blocked op f ≡ any_of g (cond (ltb (short_no op) 0x3c) (Place.tf ∷ []) [])
  unfolding short_blocked
  short_stops ShortOp.Sjf = one Place.tf
  short_stops ShortOp.Sjt = one Place.tf
  short_stops ShortOp.Sj = none

  long_stops : (op : LongOp) → long_blocked op f ≡ any_of g (cond (ltb (long_no op) 0x3c) (Place.tf ∷ []) [])
  unfolding long_blocked
  long_stops LongOp.Jf = one Place.tf
  long_stops LongOp.Jt = one Place.tf
  long_stops LongOp.J = none
  long_stops LongOp.Jl = none

  pub stops_from : (i : Instr) → blocked i my f ≡ any_of g (stop_from i)
  unfolding blocked
  stops_from (Instr.Alu op d b) = alu_stops op
  stops_from (Instr.ShiftImm op d n) = none
  stops_from (Instr.Cmp op d b) = none
  stops_from (Instr.CmpImm op d n) = none
  stops_from (Instr.Cond op w d b) = none
  stops_from (Instr.CondImm w d n) = none
  stops_from (Instr.Ldrpc d n) = none
  stops_from (Instr.Imm op d n) = none
  stops_from (Instr.Load w d n b) = one Place.rb
  stops_from (Instr.Store w d n b) = one Place.rb
  stops_from (Instr.Mfsfr d n) = none
  stops_from (Instr.Mtsfr n b) = one Place.rb
  stops_from (Instr.Jr b) = one Place.rb
  stops_from (Instr.Jrl b) = one Place.rb
  stops_from (Instr.Jsfr n) = sfr_from n
  stops_from (Instr.Swint n) = none
  stops_from (Instr.ShortJump op d) = short_stops op
  stops_from (Instr.LongJump op d) = long_stops op
