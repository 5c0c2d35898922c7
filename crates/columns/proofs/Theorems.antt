-- The theorems of this crate, each with its statement; read this file alone with specs/. The proofs are in the files that it cites.
-- Assumes nothing.
use Rattle.std.specs.Prelude.{Err, Ok, Result}
use Prim.Native.Nat.{ℕ, ◌-◌, ◌*◌, ◌/◌, ◌<◌, ◌≤◌}
use mathlib.Core.Path.{◌≡◌, refl, sym, ap, ◌∙◌}
use mathlib.Core.Bool.{Bool, true, false, cond}
use mathlib.Core.List.{List, [], ◌∷◌, ◌++◌, map}
use native.Mathlib.Omega.{arith}
use lib.Dec.{ltb}
use lib.ListN.{length, take, drop}
use lib.Seq.{drop-append_seam}
use borrow.Author.Tests.{le-ltb}
use Rattle.word.specs.Addresses.{byte_sum}
use Rattle.word.specs.Bytes.{load}
use Rattle.word.specs.declared.ByteAddr.{ByteAddr}
use Rattle.word.proofs.Memory.{half_lt}
use Rattle.isa.specs.Codes.{kind_of}
use Rattle.isa.specs.Decode.{operands_of, decode_of}
use Rattle.isa.specs.Encode.{nibs_of, nibs_signed, nibs_byte, nibs_signed_byte, encode_imm, encode_short, encode_long, encode_of}
use Rattle.isa.specs.Statements.{size_of, is_long}
use Rattle.text.specs.Words.{ascii}
use Rattle.text.specs.Digits.{hex_text, digits_of, glyph_of, zeros_of, signed_text}
use Rattle.listing.specs.Names.{names, place_of, letters_in, name_at}
use Rattle.listing.specs.Listing.{row_of, operand_text, row_text, half_in, second_in, shown_of, entry_at, entries_of, entries_in, line_text, lines_text, listing_of}
use Rattle.listing.specs.Lent.{is_out_of, number_of, length_of, Answered, answered, listed_of}
use Rattle.listing.specs.declared.Entry.{Entry}
use Rattle.listing.specs.Parts.{Good}
use Rattle.listing.proofs.Lent.{good, roomy}
use Rattle.columns.specs.Opcodes.{Opcode, half_said, opcodes}
use Rattle.columns.specs.Columns.{Bytes, column_of, joined, bits_text, bytes_read, Cover, said_at, found_at, Answers}
use Rattle.columns.proofs.Bits.{bits_from, address_column, bits_column, name_column}
use Rattle.columns.proofs.Cover.{covered}
use Rattle.columns.proofs.Names.{one_kind}
use Rattle.columns.proofs.Said.{shows, agree}
use Rattle.columns.proofs.Refusals.{answers}
use Rattle.listing.specs.declared.Refusal.{Refusal}

-- The first three columns of a listing are its lines' addresses, bits and mnemonics.
by_line : (k : ℕ) (part : Entry → List ℕ) → ((x : Entry) (l : List ℕ) → column_of k 0 (line_text x ++ l) ≡ part x ++ column_of k 0 l)
    → (l : List Entry) → column_of k 0 (lines_text l) ≡ joined part l
unfolding column_of joined lines_text
by_line k part f [] = refl
by_line k part f (x ∷ l) = f x (lines_text l) ∙ ap (λ (r : List ℕ). part x ++ r) (by_line k part f l)

pub addresses_first : (l : List Entry) → column_of 0 0 (lines_text l) ≡ joined (λ (x : Entry). hex_text x.at.0) l
addresses_first = by_line 0 (λ (x : Entry). hex_text x.at.0) address_column

pub bits_second : (l : List Entry) → column_of 1 0 (lines_text l) ≡ joined bits_text l
bits_second = by_line 1 bits_text bits_column

pub mnemonics_third : (l : List Entry) → column_of 2 0 (lines_text l) ≡ joined (λ (x : Entry). name_at x.shown.place) l
mnemonics_third = by_line 2 (λ (x : Entry). name_at x.shown.place) name_column

-- 1. For every image and range that is not refused: the bits columns, joined and read as hex, are the listed bytes.
module _ (m : List ℕ) (s e : ℕ) (ok : is_out_of (length m) s e ≡ false) where
  g : Good (length m) s e
  g = good (length m) s e ok

  low : e ≤ 65536
  low = let a = g.limit in let b = g.inside in omega arith

  pub bits_give_back : Bytes m → bytes_read (column_of 1 0 (listing_of m s e)) ≡ take (e - s) (drop s m)
  bits_give_back bytes =
      let b = g.order in
      bits_from m bytes e low g.inside (e - s) s (omega arith) b g.start g.end

  -- 2. The lines cover the range in order, without gap or overlap, and none is empty.
  pub lines_cover : Cover s (entries_in m s e) e
  lines_cover = let b = g.order in covered m e low (e - s) s (omega arith) b g.start g.end

-- 3. Mnemonic and operands of a line say which instruction stands there, or that none does: no other is written so at that address ..
module _ (m n : List ℕ) (a : ByteAddr) (e f : ℕ) (bytes : Bytes m) (others : Bytes n) where
  same : said_at m a e ≡ said_at n a f → (found_at m a e ≡ found_at n a f) × (bits_text (entry_at m a e) ≡ bits_text (entry_at n a f))
  unfolding entry_at
  same q =
      agree a h s g t (half_lt m a bytes) (second_lt m bytes) (half_lt n a others) (second_lt n others)
      (found_at m a e) (found_at n a f) (shows e a h s) (shows f a g t) q
    where
      h : ℕ
      h = half_in m a

      s : ℕ
      s = second_in m a h

      g : ℕ
      g = half_in n a

      t : ℕ
      t = second_in n a g

      second_lt : (k : List ℕ) → Bytes k → second_in k a (half_in k a) < 65536
      second_lt k b = go (is_long (half_in k a / 256))
        where
          go : (u : Bool) → cond u (half_in k (byte_sum a 2)) 0 < 65536
          go true = half_lt k (byte_sum a 2) b
          go false = omega arith

  pub says_the_instruction : said_at m a e ≡ said_at n a f → found_at m a e ≡ found_at n a f
  says_the_instruction q = (same q).0

  -- .. nor have others the same bits.
  pub says_the_bits : said_at m a e ≡ said_at n a f → bits_text (entry_at m a e) ≡ bits_text (entry_at n a f)
  says_the_bits q = (same q).1

-- 4. No mnemonic stands for two kinds of instruction.
pub one_kind_a_mnemonic : (h s k t : ℕ) → h < 65536 → k < 65536 → (size_of (decode_of h s) ≡ 0 → ⊥) → (size_of (decode_of k t) ≡ 0 → ⊥)
    → name_at (place_of (h / 256)) ≡ name_at (place_of (k / 256)) → kind_of (h / 256) ≡ kind_of (k / 256)
one_kind_a_mnemonic = one_kind

-- 5. Only the first bytes of a lent buffer change, as many as are answered: after a refusal none.
module _ (m : List ℕ) (s e : ℕ) (l : List ℕ) where
  pub rest_stays : drop (length_of (listed_of m s e l).listed) (listed_of m s e l).out ≡ drop (length_of (listed_of m s e l).listed) l
  unfolding listed_of
  rest_stays = go (is_out_of (length m) s e) (ltb (length l) (length (listing_of m s e)))
    where
      answer : Bool → Bool → Answered
      answer t u = cond t (answered (Err Refusal.OutOfImage) l) (cond u (answered (Err Refusal.NoRoom) l) (answered (Ok (length (listing_of m s e))) (listing_of m s e ++ drop (length (listing_of m s e)) l)))

      go : (t u : Bool) → drop (length_of (answer t u).listed) (answer t u).out ≡ drop (length_of (answer t u).listed) l
      go true u = refl
      go false true = refl
      go false false = drop-append_seam (listing_of m s e) (drop (length (listing_of m s e)) l)

  -- 6. 24 bytes for each byte of the range are always room enough.
  pub room_enough : is_out_of (length m) s e ≡ false → (e - s) * 24 ≤ length l
      → listed_of m s e l ≡ answered (Ok (length (listing_of m s e))) (listing_of m s e ++ drop (length (listing_of m s e)) l)
  unfolding listed_of
  room_enough ok h = rw (ok, le-ltb (length l) (length (listing_of m s e)) (roomy m s e (length l) (good (length m) s e ok) h))

  -- .. and what is answered: 20 for an image or a range that is not good, else 21 if the listing is longer than the buffer, else its length.
  pub refusals_in_order : Answers m s e (length l) (listed_of m s e l).listed
  refusals_in_order = answers m s e l

  -- 7. What is answered is determined: two results of `list`, and of `manik_list`, that satisfy what it ensures coincide.
  pub list_determined : (x y : Result ℕ Refusal) (a b : List ℕ) → answered x a ≡ listed_of m s e l → answered y b ≡ listed_of m s e l → (x ≡ y) × (a ≡ b)
  list_determined x y a b p q = let r = p ∙ sym q in (ap (λ (z : Answered). z.listed) r, ap (λ (z : Answered). z.out) r)

  pub call_determined : (x y v w : ℕ) (a b : List ℕ)
      → x ≡ number_of (listed_of m s e l).listed → y ≡ number_of (listed_of m s e l).listed
      → v ≡ length_of (listed_of m s e l).listed → w ≡ length_of (listed_of m s e l).listed
      → a ≡ (listed_of m s e l).out → b ≡ (listed_of m s e l).out
      → (x ≡ y) × (v ≡ w) × (a ≡ b)
  call_determined x y v w a b p q r t f g = (p ∙ sym q, r ∙ sym t, f ∙ sym g)

-- 8. An example: an instruction, one cut by the end, and two bytes that are none.
pub an_example : listing_of (0x21 ∷ 0x2f ∷ 0xe3 ∷ 0xff ∷ 0xff ∷ 0xfe ∷ 0xfc ∷ 0x00 ∷ 0xe3 ∷ 0xff ∷ []) 0 10
    ≡ ascii "00000000\t212f\tadd\tr2\tr15\n00000002\te3fffffe\tjf\t-2\n00000006\tfc00\thalf\t0xfc00\n00000008\te3ff\thalf\t0xe3ff\n"
unfolding lines_text entries_of entry_at line_text row_text operand_text shown_of row_of name_at names letters_in place_of load decode_of operands_of kind_of digits_of glyph_of zeros_of signed_text
an_example = refl

-- 9. Each instruction has the guide's bits and its mnemonic: the bits decode to it, it encodes to them, and they are listed under its name.
pub bits_of_the_guide : (map (λ (x : Opcode). decode_of x.half 2) opcodes ≡ map (λ (x : Opcode). x.is) opcodes)
    × (map (λ (x : Opcode). half_said x.is) opcodes ≡ map (λ (x : Opcode). x.half) opcodes)
    × (map (λ (x : Opcode). name_at (place_of (x.half / 256))) opcodes ≡ map (λ (x : Opcode). x.mnemonic) opcodes)
unfolding decode_of operands_of kind_of encode_of encode_imm encode_short encode_long nibs_of nibs_signed nibs_byte nibs_signed_byte name_at names letters_in place_of
bits_of_the_guide = (refl, refl, refl)
