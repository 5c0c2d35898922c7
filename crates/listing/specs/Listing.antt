-- The listing of a range of an image (document 02, ticket 1), in document 01's written form: one line for each instruction, its address, its
-- bits, its mnemonic and its operands, parted by tabs.
-- Assumes nothing.
use Rattle.std.specs.Prelude.{ℕ, zero, suc, ◌+◌, ◌-◌, ◌/◌, Bool, true, false, cond, List, [], ◌∷◌, ◌++◌, ltb, leb, None, Option, Some}
use Rattle.word.specs.Numbers.{product_of}
use Rattle.word.specs.Addresses.{jump_sum, byte_sum}
use Rattle.word.specs.Bytes.{bytes_of, load_of}
use Rattle.word.specs.declared.ByteAddr.{ByteAddr}
use Rattle.word.specs.declared.Width.{Width}
use Rattle.isa.specs.Decode.{decode_of}
use Rattle.isa.specs.Statements.{is_long}
use Rattle.isa.specs.declared.Instr.{Instr}
use Rattle.isa.specs.declared.Decoded.{Decoded}
use Rattle.cpu.specs.Exec.{data_address}
use Rattle.text.specs.Digits.{hex_text, half_text, decimal_text, signed_text}
use Rattle.text.specs.Words.{ascii}
use Rattle.listing.specs.Names.{place_of, half_place, name_at}
use Rattle.listing.specs.declared.Operand.{Operand}
use Rattle.listing.specs.declared.Row.{Row}
use Rattle.listing.specs.declared.Shown.{Shown}
use Rattle.listing.specs.declared.Entry.{Entry}

-- ---- operands

-- what is written of an instruction at a: the guide's operands in its order; offsets in bytes, and addresses where it loads or jumps
unfoldable pub row_of : ByteAddr → Instr → Row
row_of a (Instr.Alu op c d) = Row.Two (Operand.Reg c) (Operand.Reg d)
row_of a (Instr.ShiftImm op c n) = Row.Two (Operand.Reg c) (Operand.Number n)
row_of a (Instr.Cmp op c d) = Row.Two (Operand.Reg c) (Operand.Reg d)
row_of a (Instr.CmpImm op c x) = Row.Two (Operand.Reg c) (Operand.Number x)
row_of a (Instr.Cond op t c d) = Row.Two (Operand.Reg c) (Operand.Reg d)
row_of a (Instr.CondImm t c x) = Row.Two (Operand.Reg c) (Operand.Number x)
row_of a (Instr.Ldrpc c n) = Row.Two (Operand.Reg c) (Operand.Number (data_address Width.Word a.0 n).0)
row_of a (Instr.Imm op c x) = Row.Two (Operand.Reg c) (Operand.Number x)
row_of a (Instr.Load w c n d) = Row.Three (Operand.Reg c) (Operand.Number (product_of n (bytes_of w))) (Operand.Reg d)
row_of a (Instr.Store w c n d) = Row.Three (Operand.Reg c) (Operand.Number (product_of n (bytes_of w))) (Operand.Reg d)
row_of a (Instr.Mfsfr c s) = Row.Two (Operand.Reg c) (Operand.Sfr s)
row_of a (Instr.Mtsfr s d) = Row.Two (Operand.Sfr s) (Operand.Reg d)
row_of a (Instr.Jr d) = Row.One (Operand.Reg d)
row_of a (Instr.Jrl d) = Row.One (Operand.Reg d)
row_of a (Instr.Jsfr s) = Row.One (Operand.Sfr s)
row_of a (Instr.Swint n) = Row.One (Operand.Number n)
row_of a (Instr.ShortJump op d) = Row.One (Operand.Number (jump_sum a d).0)
row_of a (Instr.LongJump op d) = Row.One (Operand.Number (jump_sum a d).0)

-- each operand after a tab of its own
abbrev pub tab : List ℕ → List ℕ
tab t = 9 ∷ t

unfoldable pub operand_text : Operand → List ℕ
operand_text (Operand.Reg n) = tab (ascii "r" ++ decimal_text n)
operand_text (Operand.Sfr n) = tab (ascii "sfr" ++ decimal_text n)
operand_text (Operand.Number n) = tab (signed_text n)
operand_text (Operand.Bits h) = tab (ascii "0x" ++ half_text h)

unfoldable pub row_text : Row → List ℕ
row_text (Row.One x) = operand_text x
row_text (Row.Two x y) = operand_text x ++ operand_text y
row_text (Row.Three x y z) = operand_text x ++ (operand_text y ++ operand_text z)

-- ---- lines

-- "begin one cut by the end": e is the end
abbrev pub cut_by : ℕ → ByteAddr → Option Decoded → Option Decoded
cut_by e a (Some (Decoded.Short i)) = Some (Decoded.Short i)
cut_by e a (Some (Decoded.Long i)) = cond (leb (a.0 + 4) e) (Some (Decoded.Long i)) None
cut_by e a None = None

-- whether it has four bytes, the place of its mnemonic, its operands; "two bytes that are no instruction .. give `half` with them as a hex operand"
unfoldable pub shown_of : ByteAddr → ℕ → Option Decoded → Shown
shown_of a h (Some (Decoded.Short i)) = record { long = false; place = place_of (h / 256); row = row_of a i }
shown_of a h (Some (Decoded.Long i)) = record { long = true; place = place_of (h / 256); row = row_of a i }
shown_of a h None = record { long = false; place = half_place; row = Row.One (Operand.Bits h) }

abbrev pub half_in : List ℕ → ByteAddr → ℕ
half_in m a = load_of Width.Half m a

-- the half after h, which only an instruction of four bytes has
abbrev pub second_in : List ℕ → ByteAddr → ℕ → ℕ
second_in m a h = cond (is_long (h / 256)) (half_in m (byte_sum a 2)) 0

-- what stands at a in a range that ends at e
unfoldable pub entry_at : List ℕ → ByteAddr → ℕ → Entry
entry_at m a e =
    record {
      at = a;
      first = half_in m a;
      second = second_in m a (half_in m a);
      shown = shown_of a (half_in m a) (cut_by e a (decode_of (half_in m a) (second_in m a (half_in m a))));
    }

abbrev pub size_of : Entry → ℕ
size_of x = cond x.shown.long 4 2

-- the half that only an instruction of four bytes has
abbrev pub second_text : Bool → ℕ → List ℕ
second_text long s = cond long (half_text s) []

-- "address in 8 hex digits, bits in hex, mnemonic, operands"
unfoldable pub line_text : Entry → List ℕ
line_text x =
    hex_text x.at.0
    ++ tab (half_text x.first ++ (second_text x.shown.long x.second
    ++ tab (name_at x.shown.place ++ (row_text x.shown.row ++ (10 ∷ [])))))

-- the lines from a to e, at most n of them
unfoldable pub entries_of : ℕ → List ℕ → ByteAddr → ℕ → List Entry
entries_of zero m a e = []
entries_of (suc n) m a e =
    cond (ltb a.0 e) (entry_at m a e ∷ entries_of n m (byte_sum a (size_of (entry_at m a e))) e) []

unfoldable pub lines_text : List Entry → List ℕ
lines_text [] = []
lines_text (x ∷ l) = line_text x ++ lines_text l

-- each line takes two bytes at least
abbrev pub entries_in : List ℕ → ℕ → ℕ → List Entry
entries_in m s e = entries_of (e - s) m (record { 0 = s }) e

abbrev pub listing_of : List ℕ → ℕ → ℕ → List ℕ
listing_of m s e = lines_text (entries_in m s e)
