-- The theorems of this crate, each with its statement; read this file alone with specs/. The proofs are in the files that it cites.
-- "mnemonic and operands of a Ticket 1 listing assemble to the same bits at the same address" (document 02, ticket 4).
-- Assumes nothing.
use Rattle.std.specs.Prelude.{Ok}
use Prim.Native.Nat.{ℕ, ◌-◌, ◌<◌, ◌≤◌}
use mathlib.Core.Path.{◌≡◌, refl, sym, ap, ◌∙◌}
use mathlib.Core.Bool.{true, false}
use mathlib.Core.List.{List, [], ◌∷◌, ◌++◌, append_assoc}
use lib.ListN.{length, take, drop}
use Rattle.word.specs.Bytes.{load}
use Rattle.word.specs.declared.ByteAddr.{ByteAddr}
use Rattle.isa.specs.Codes.{kind_of}
use Rattle.isa.specs.Decode.{operands_of, decode_of}
use Rattle.text.specs.Digits.{hex_text, half_text, digits_of, glyph_of, zeros_of, signed_text}
use Rattle.text.specs.Words.{ascii}
use Rattle.listing.specs.Names.{names, place_of, letters_in, name_at}
use Rattle.listing.specs.Listing.{row_of, operand_text, row_text, shown_of, entry_at, size_of, second_text, line_text, entries_of, entries_in}
use Rattle.listing.specs.Lent.{is_out_of}
use Rattle.listing.specs.declared.Entry.{Entry}
use Rattle.columns.specs.Columns.{Bytes, bits_text, bytes_read, joined}
use Rattle.expr.specs.Expr.{Labels, none}
use Rattle.forms.specs.Form.{lines_of, what_in, shape_of, is_known}
use Rattle.forms.specs.Says.{bytes_in}
use Rattle.asm.specs.Assemble.{address_of, label_in, line_bytes, code_of, text_labels, answered, verdict_in, assembled_of}
use Rattle.asm.specs.Assemble.{Assembled}
use Rattle.reassembly.specs.Lines.{line_for, what_shown, number_in, bits_listed, Read, text_for}
use Rattle.reassembly.proofs.Entries as entries
use Rattle.reassembly.proofs.Again as again

-- 1. The line to assemble is the listing's own after its address and its bits.
pub line_ends : (x : Entry) → line_text x ≡ hex_text x.at.0 ++ (9 ∷ (bits_text x ++ line_for x))
unfolding line_text
line_ends x =
    ap (λ (l : List ℕ). hex_text x.at.0 ++ (9 ∷ l))
    (ap (λ (l : List ℕ). half_text x.first ++ (second_text x.shown.long x.second ++ (9 ∷ l))) (sym (append_assoc (name_at x.shown.place) (row_text x.shown.row) (10 ∷ [])))
    ∙ sym (append_assoc (half_text x.first) (second_text x.shown.long x.second) (line_for x)))

-- 2. The line at any address of an image of bytes, in a range with any end, is known ..
module _ (m : List ℕ) (a : ByteAddr) (e : ℕ) (bytes : Bytes m) (low : a.0 < 65536) where
  abbrev x : Entry
  x = entry_at m a e

  abbrev l : List ℕ
  l = line_for x

  pub line_known : is_known l ≡ true
  line_known = entries.line_known m a e bytes low

  -- .. names what the listing shows: `half`, or an instruction of the first byte's kind ..
  pub line_what : what_in l ≡ what_shown x
  line_what = entries.line_what m a e bytes low

  -- .. takes the bytes that the listing's line has, and sets no label.
  pub line_size_lem : (shape_of (what_in l)).size ≡ size_of x
  line_size_lem = entries.line_size_lem m a e bytes low

  pub line_label : label_in l ≡ 0
  line_label = entries.line_label m a e bytes low

  -- 3. With every table of labels its value is the number among its operands (0 where there is none), and its bits at a are those listed ..
  pub line_read : (t : Labels) → Read t a l (number_in x.shown.row) (bits_listed x)
  line_read = entries.line_read m a e bytes low

  -- .. so its bytes are: those that the listing's bits column writes in hex.
  pub line_bytes_lem : (t : Labels) → line_bytes t a (what_in l) l ≡ bytes_in (bits_listed x)
  line_bytes_lem = entries.line_bytes_lem m a e bytes low

  pub line_listed : (t : Labels) → line_bytes t a (what_in l) l ≡ bytes_read (bits_text x)
  line_listed = entries.line_listed m a e bytes low

-- 4. The lines of every range that is not refused: their code is the listed bytes, with every table of labels, and they set no label.
module _ (m : List ℕ) (s e : ℕ) (bytes : Bytes m) (ok : is_out_of (length m) s e ≡ false) where
  pub code_is : (t : Labels) → code_of t (address_of s) (lines_of (text_for m s e)) ≡ take (e - s) (drop s m)
  code_is = again.code_is m s e bytes ok

  pub labels_are : text_labels (text_for m s e) s ≡ none
  labels_are = again.labels_are m s e bytes ok

  -- 5. Assembled from s on into an image that reaches to e, whatever it holds, no line is refused: as many lines as the listing has, and the end e; ..
  pub verdict_is : (n : ℕ) → e ≤ n → verdict_in (text_for m s e) s n ≡ Ok (length (entries_in m s e), e)
  verdict_is = again.verdict_is m s e bytes ok

  -- .. the image has the listed bytes at their place and is otherwise as it was.
  pub assembled_is : (n : List ℕ) → e ≤ length n
      → assembled_of (text_for m s e) s n ≡ answered (Ok (length (entries_in m s e), e)) (take s n ++ (take (e - s) (drop s m) ++ drop e n))
  assembled_is = again.assembled_is m s e bytes ok

  -- 6. So a listing that is assembled over its own image leaves it as it is.
  pub assembled_again : assembled_of (text_for m s e) s m ≡ answered (Ok (length (entries_in m s e), e)) m
  assembled_again = again.assembled_again m s e bytes ok

-- 7. An example: an instruction, a jump to an address below 0, two bytes that are no instruction, and an instruction cut by the end.
pub an_example : text_for (0x21 ∷ 0x2f ∷ 0xe3 ∷ 0xff ∷ 0xff ∷ 0xfe ∷ 0xfc ∷ 0x00 ∷ 0xe3 ∷ 0xff ∷ []) 0 10
    ≡ ascii "\tadd\tr2\tr15\n\tjf\t-2\n\thalf\t0xfc00\n\thalf\t0xe3ff\n"
unfolding joined entries_of entry_at row_text operand_text shown_of row_of name_at names letters_in place_of load decode_of operands_of kind_of digits_of glyph_of zeros_of signed_text
an_example = refl
