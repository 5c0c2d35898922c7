-- "Differ only where marked" for what a host hands to manik_run and takes back: the state's record byte by byte, at the offsets of include/manik.h, and
-- the answers of calls.
-- Assumes nothing.
use Rattle.std.specs.Prelude.{ℕ, ◌+◌, ◌/◌, ◌%◌, ◌<◌, ◌≤◌, ◌≡◌, List, [], ◌∷◌, length, get_or}
use Rattle.marks.specs.Memory.{Marks}
use Rattle.abi.specs.Record.{word_at, flag_at}
use Rattle.abi.specs.Call.{Answer, called}
use Rattle.secrecy.specs.Same.{SamePsw, SameMem}

-- the PSW of two records
abbrev pub PswClause : List ℕ → List ℕ → Type 0
PswClause r q = SamePsw (record { tf = flag_at r 88; cy = flag_at r 89 }) (word_at r 84) (word_at q 84)

-- Two records. Byte i below 64 is one of register i / 4, whose mark is byte 64 + i / 4. PSW is the word at 84, TF's mark byte 88 and CY's byte 89.
pub record SameRecord (r q : List ℕ) : Type 0 where
  pub long : length r ≡ length q
  -- a register's bytes, unless it is marked
  pub regs : (i : ℕ) → i < 64 → get_or r (64 + i / 4) 0 ≡ 0 → get_or r i 0 ≡ get_or q i 0
  -- the registers' marks and the program counter
  pub marks : (i : ℕ) → 64 ≤ i → i < 84 → get_or r i 0 ≡ get_or q i 0
  -- PSW differs in TF and CY alone, and in each of them only if it is marked
  pub psw : PswClause r q
  -- all that follows: both marks, "timer pending", SFR 1 to 10, and where zero stands
  pub rest : (i : ℕ) → 88 ≤ i → get_or r i 0 ≡ get_or q i 0

-- The PSW clause byte by byte, the same for records of bytes (`psw_bytes`): TF is bit 0 of byte 86, and CY its bit 1.
pub record SamePswBytes (r q : List ℕ) : Type 0 where
  pub first : get_or r 84 0 ≡ get_or q 84 0
  pub second : get_or r 85 0 ≡ get_or q 85 0
  pub third : get_or r 86 0 / 4 ≡ get_or q 86 0 / 4
  pub tf : get_or r 88 0 ≡ 0 → get_or r 86 0 % 2 ≡ get_or q 86 0 % 2
  pub cy : get_or r 89 0 ≡ 0 → get_or r 86 0 / 2 % 2 ≡ get_or q 86 0 / 2 % 2
  pub fourth : get_or r 87 0 ≡ get_or q 87 0

-- two answers: the same reply and step count, equal marks, and equal unmarked contents
pub record SameAnswer (x y : Answer) : Type 0 where
  pub reply : x.reply ≡ y.reply
  pub steps : x.steps ≡ y.steps
  pub state : SameRecord x.state y.state
  pub marks : x.marks ≡ y.marks
  pub mem : SameMem x.marks x.mem y.mem

-- ---- calls one after the other

-- what a host gives anew with each call
pub record Call : Type 0 where
  pub tape : List ℕ
  pub budget : ℕ

-- each call takes the record, memory and marks that the one before it left; r, m and k are those at the start
unfoldable pub answers_of : List Call → List ℕ → List ℕ → Marks → List Answer
answers_of [] r m k = []
answers_of (c ∷ cs) r m k =
    called r m k c.tape c.budget
    ∷ answers_of cs (called r m k c.tape c.budget).state (called r m k c.tape c.budget).mem (called r m k c.tape c.budget).marks

pub data SameAnswers : List Answer → List Answer → Type 0 where
  none : SameAnswers [] []
  more : {x y : Answer} {xs ys : List Answer} → SameAnswer x y → SameAnswers xs ys → SameAnswers (x ∷ xs) (y ∷ ys)
