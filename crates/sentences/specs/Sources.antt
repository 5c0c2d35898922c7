-- What a result's mark comes from, and which marks stop an instruction, as lists of places (document 01, "Marks"; document 02, ticket 6).
-- Assumes nothing.
use Rattle.std.specs.Prelude.{ℕ, ◌%◌, Bool, false, cond, ◌&&◌, ◌||◌, List, [], ◌∷◌, ltb, leb, eqb}
use Rattle.std.specs.Bool.{beq}
use Rattle.isa.specs.Codes.{alu_no, imm_no, cond_no, short_no, long_no}
use Rattle.isa.specs.declared.Instr.{Instr}
use Rattle.marks.specs.declared.Flags.{Flags}

-- a place that can be marked: the register that the guide calls Rd, the one that it calls Rb, what is loaded, TF and CY
pub data Place : Type 0 where
  rd : Place
  rb : Place
  loaded : Place
  tf : Place
  cy : Place

-- the marks that an instruction finds there
pub record Found : Type 0 where
  pub rd : Bool
  pub rb : Bool
  pub loaded : Bool
  pub flags : Flags

abbrev pub mark_of : Found → Place → Bool
mark_of g Place.rd = g.rd
mark_of g Place.rb = g.rb
mark_of g Place.loaded = g.loaded
mark_of g Place.tf = g.flags.tf
mark_of g Place.cy = g.flags.cy

-- "if any source is"
unfoldable pub any_of : Found → List Place → Bool
any_of g [] = false
any_of g (p ∷ l) = mark_of g p || any_of g l

-- ---- results: "A result is marked if any source is: registers read, CY for addc and subc, any byte loaded", "Immediates, RA and program counters are unmarked"

-- the last digit of 0x20 to 0x2f: subc and addc are 2 and 3, mov is 4, and sxb, xhw, sxh, zxh are 8 to 11; mov and these read Rb alone
abbrev pub alu_reads : ℕ → List Place
alu_reads n =
    cond (eqb n 2 || eqb n 3) (Place.rd ∷ Place.rb ∷ Place.cy ∷ [])
    (cond (eqb n 4 || (leb 8 n && leb n 11)) (Place.rb ∷ []) (Place.rd ∷ Place.rb ∷ []))

-- the last digit of 0x38 to 0x3f where TF says so: movf and movt, 8 and 12, read Rb alone
abbrev pub cond_reads : ℕ → List Place
cond_reads n = cond (eqb (n % 4) 0) (Place.rb ∷ []) (Place.rd ∷ Place.rb ∷ [])

-- the register's result; t is TF. "A conditional ALU instruction under a marked TF marks Rd; under an unmarked TF that says no, Rd keeps value and mark";
-- "mfsfr psw is marked if TF or CY is; other mfsfr results are not"
abbrev pub reg_from : Instr → Bool → List Place
reg_from (Instr.Alu op d b) t = alu_reads (alu_no op)
reg_from (Instr.ShiftImm op d n) t = Place.rd ∷ []
reg_from (Instr.Cmp op d b) t = []
reg_from (Instr.CmpImm op d n) t = []
reg_from (Instr.Cond op w d b) t = Place.tf ∷ cond (beq t w) (cond_reads (cond_no op w)) (Place.rd ∷ [])
reg_from (Instr.CondImm w d n) t = Place.tf ∷ Place.rd ∷ []
reg_from (Instr.Ldrpc d n) t = Place.loaded ∷ []
reg_from (Instr.Imm op d n) t = cond (eqb (imm_no op) 7) [] (Place.rd ∷ [])
reg_from (Instr.Load w d n b) t = Place.loaded ∷ []
reg_from (Instr.Store w d n b) t = []
reg_from (Instr.Mfsfr d n) t = cond (eqb n 0) (Place.tf ∷ Place.cy ∷ []) []
reg_from (Instr.Mtsfr n b) t = []
reg_from (Instr.Jr b) t = []
reg_from (Instr.Jrl b) t = []
reg_from (Instr.Jsfr n) t = []
reg_from (Instr.Swint n) t = []
reg_from (Instr.ShortJump op d) t = []
reg_from (Instr.LongJump op d) t = []

-- "compares mark TF" likewise; "mtsfr psw unmarks both"; TF's mark stays otherwise
abbrev pub tf_from : Instr → List Place
tf_from (Instr.Alu op d b) = Place.tf ∷ []
tf_from (Instr.ShiftImm op d n) = Place.tf ∷ []
tf_from (Instr.Cmp op d b) = Place.rd ∷ Place.rb ∷ []
tf_from (Instr.CmpImm op d n) = Place.rd ∷ []
tf_from (Instr.Cond op w d b) = Place.tf ∷ []
tf_from (Instr.CondImm w d n) = Place.tf ∷ []
tf_from (Instr.Ldrpc d n) = Place.tf ∷ []
tf_from (Instr.Imm op d n) = Place.tf ∷ []
tf_from (Instr.Load w d n b) = Place.tf ∷ []
tf_from (Instr.Store w d n b) = Place.tf ∷ []
tf_from (Instr.Mfsfr d n) = Place.tf ∷ []
tf_from (Instr.Mtsfr n b) = cond (eqb n 0) [] (Place.tf ∷ [])
tf_from (Instr.Jr b) = Place.tf ∷ []
tf_from (Instr.Jrl b) = Place.tf ∷ []
tf_from (Instr.Jsfr n) = Place.tf ∷ []
tf_from (Instr.Swint n) = Place.tf ∷ []
tf_from (Instr.ShortJump op d) = Place.tf ∷ []
tf_from (Instr.LongJump op d) = Place.tf ∷ []

-- "add, sub, addc, subc mark CY likewise": 0x20 to 0x23; "mtsfr psw unmarks both"; CY's mark stays otherwise
abbrev pub cy_from : Instr → List Place
cy_from (Instr.Alu op d b) = cond (ltb (alu_no op) 4) (alu_reads (alu_no op)) (Place.cy ∷ [])
cy_from (Instr.ShiftImm op d n) = Place.cy ∷ []
cy_from (Instr.Cmp op d b) = Place.cy ∷ []
cy_from (Instr.CmpImm op d n) = Place.cy ∷ []
cy_from (Instr.Cond op w d b) = Place.cy ∷ []
cy_from (Instr.CondImm w d n) = Place.cy ∷ []
cy_from (Instr.Ldrpc d n) = Place.cy ∷ []
cy_from (Instr.Imm op d n) = Place.cy ∷ []
cy_from (Instr.Load w d n b) = Place.cy ∷ []
cy_from (Instr.Store w d n b) = Place.cy ∷ []
cy_from (Instr.Mfsfr d n) = Place.cy ∷ []
cy_from (Instr.Mtsfr n b) = cond (eqb n 0) [] (Place.cy ∷ [])
cy_from (Instr.Jr b) = Place.cy ∷ []
cy_from (Instr.Jrl b) = Place.cy ∷ []
cy_from (Instr.Jsfr n) = Place.cy ∷ []
cy_from (Instr.Swint n) = Place.cy ∷ []
cy_from (Instr.ShortJump op d) = Place.cy ∷ []
cy_from (Instr.LongJump op d) = Place.cy ∷ []

-- ---- "Stop 14: jf, jt, sjf, sjt with TF marked; jr, jrl, any mtsfr, and any load or store base, with that register marked; jsfr of PSW with TF or CY marked";
-- "a register shift with its amount register marked" (document 02, ticket 6): 0x2c to 0x2e. A jump's top six bits are below 111100 if it has a condition.
abbrev pub stop_from : Instr → List Place
stop_from (Instr.Alu op d b) = cond (leb 12 (alu_no op) && leb (alu_no op) 14) (Place.rb ∷ []) []
stop_from (Instr.ShiftImm op d n) = []
stop_from (Instr.Cmp op d b) = []
stop_from (Instr.CmpImm op d n) = []
stop_from (Instr.Cond op w d b) = []
stop_from (Instr.CondImm w d n) = []
stop_from (Instr.Ldrpc d n) = []
stop_from (Instr.Imm op d n) = []
stop_from (Instr.Load w d n b) = Place.rb ∷ []
stop_from (Instr.Store w d n b) = Place.rb ∷ []
stop_from (Instr.Mfsfr d n) = []
stop_from (Instr.Mtsfr n b) = Place.rb ∷ []
stop_from (Instr.Jr b) = Place.rb ∷ []
stop_from (Instr.Jrl b) = Place.rb ∷ []
stop_from (Instr.Jsfr n) = cond (eqb n 0) (Place.tf ∷ Place.cy ∷ []) []
stop_from (Instr.Swint n) = []
stop_from (Instr.ShortJump op d) = cond (ltb (short_no op) 0x3c) (Place.tf ∷ []) []
stop_from (Instr.LongJump op d) = cond (ltb (long_no op) 0x3c) (Place.tf ∷ []) []
