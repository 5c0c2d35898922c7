-- A line of a listing as the assembler reads it: its form, its value, its bits, and no refusal.
-- Assumes nothing.
use Rattle.std.specs.Prelude.{Result, Some}
use Prim.Native.Nat.{ℕ, ◌/◌, ◌%◌, ◌<◌}
use mathlib.Core.Path.{◌≡◌, refl, sym, ap, ap₂, ◌∙◌}
use mathlib.Core.Bool.{Bool, true, false, cond}
use mathlib.Core.List.{List, [], ◌∷◌, ◌++◌, append_assoc, append-nil}
use lib.ListN.{drop}
use Rattle.word.specs.declared.ByteAddr.{ByteAddr}
use Rattle.word.proofs.Memory.{half_lt}
use Rattle.isa.specs.declared.Encoded.{Encoded}
use Rattle.text.specs.Digits.{half_text}
use Rattle.listing.specs.Listing.{row_text, entry_at, size_of, second_text, operand_text}
use Rattle.listing.specs.declared.Operand.{Operand}
use Rattle.listing.specs.declared.Row.{Row}
use Rattle.listing.specs.declared.Entry.{Entry}
use Rattle.listing.specs.Names.{name_at}
use Rattle.columns.specs.Columns.{Bytes, bits_text, bytes_read, joined}
use Rattle.columns.proofs.Plain.{plain_name, both}
use Rattle.columns.proofs.Bits.{operand_tab, plain_field, half_read}
use Rattle.expr.specs.Expr.{Labels, none}
use Rattle.forms.specs.Form.{lines_of, body_of, field_at, is_label, named, what_of, what_in, shape_of, is_known, is_known_as, is_known_body}
use Rattle.forms.specs.Says.{bytes_in}
use Rattle.asm.specs.Assemble.{line_value, line_bits, label_in, label_check, fit_check, before, value_check, line_check, value_in, line_bytes}
use Rattle.forms.specs.declared.What.{What}
use Rattle.reassembly.specs.Lines.{body_for, line_for, what_shown, number_in, bits_listed, Read}
use Rattle.reassembly.proofs.Fields.{body_of_lem, ended_by, field_label, is_one, one_append, one_plain, one_tab, lines_more, lines_none}
use Rattle.reassembly.proofs.Line.{Line, second_low, line_at}
use Rattle.asm.specs.declared.Refusal.{Refusal}

-- ---- lines are parted by their newlines

one_operand : (x : Operand) → is_one (operand_text x) ≡ true
one_operand x = ap is_one (operand_tab x) ∙ one_tab _ (one_plain _ (plain_field x))

one_row : (r : Row) → is_one (row_text r) ≡ true
unfolding row_text
one_row (Row.One x) = one_operand x
one_row (Row.Two x y) = one_append (operand_text x) (operand_text y) (one_operand x) (one_operand y)
one_row (Row.Three x y z) = one_append (operand_text x) (operand_text y ++ operand_text z) (one_operand x) (one_append (operand_text y) (operand_text z) (one_operand y) (one_operand z))

one_body : (x : Entry) → is_one (body_for x) ≡ true
one_body x = one_tab _ (one_append (name_at x.shown.place) (row_text x.shown.row) (one_plain _ (plain_name x.shown.place)) (one_row x.shown.row))

abbrev pub lines_for : List Entry → List (List ℕ)
lines_for [] = []
lines_for (x ∷ l) = line_for x ∷ lines_for l

pub lines_of_lem : (l : List Entry) → lines_of (joined line_for l) ≡ lines_for l
unfolding joined
lines_of_lem [] = lines_none
lines_of_lem (x ∷ l) = lines_more (body_for x) (joined line_for l) (one_body x) ∙ ap (λ (r : List (List ℕ)). line_for x ∷ r) (lines_of_lem l)

-- ---- one of them

module _ (m : List ℕ) (a : ByteAddr) (e : ℕ) (bytes : Bytes m) (low : a.0 < 65536) where
  abbrev x : Entry
  x = entry_at m a e

  abbrev l : List ℕ
  l = line_for x

  entry : (t : Labels) → Line t a x.first x.second x.shown
  unfolding entry_at
  entry t = line_at t m a e bytes low

  first_lt : x.first < 65536
  unfolding entry_at
  first_lt = half_lt m a bytes

  second_lt : x.second < 65536
  unfolding entry_at
  second_lt = second_low m a bytes

  body : body_of l ≡ body_for x
  body = body_of_lem (body_for x)

  pub line_what : what_in l ≡ what_shown x
  line_what = ap what_of body ∙ (entry none).what

  pub line_size_lem : (shape_of (what_in l)).size ≡ size_of x
  line_size_lem = ap (λ (w : What). (shape_of w).size) line_what ∙ (entry none).bytes

  pub line_label : label_in l ≡ 0
  line_label = ap named (ap (field_at 0) body ∙ field_label (name_at x.shown.place ++ row_text x.shown.row))

  pub line_known : is_known l ≡ true
  unfolding is_known_as is_known_body
  line_known =
      ap (λ (w : What). is_known_as w l) line_what
      ∙ both _ _ (ended_by (body_for x)) (ap (is_known_body (what_shown x)) body ∙ both _ _ (ap is_label (field_label (drop 1 (body_for x)))) (entry none).back.fits)

  pub line_read : (t : Labels) → Read t a l (number_in x.shown.row) (bits_listed x)
  line_read t =
      let r = (entry t).back in
      record {
        value = r.value;
        size = r.size;
        valued = ap₂ (λ (w : What) (b : List ℕ). line_value t (shape_of w) b) line_what body ∙ r.valued;
        number = r.number;
        bits = ap₂ (λ (w : What) (b : List ℕ). line_bits w a b r.value) line_what body ∙ r.bits;
      }

  pub line_bytes_lem : (t : Labels) → line_bytes t a (what_in l) l ≡ bytes_in (bits_listed x)
  unfolding line_bytes value_in
  line_bytes_lem t =
      let r = line_read t in
      rw r.valued (ap bytes_in r.bits)

  -- no check refuses it
  pub line_check_lem : (t : Labels) (s : List ℕ) (y : Result Unit Refusal) → line_check t s a y (what_in l) l ≡ y
  unfolding line_check value_check label_check
  line_check_lem t s y =
      let r = line_read t in
      rw (line_known, line_label, r.valued, r.bits) (go x.shown.long)
    where
      go : (b : Bool) → before (fit_check (cond b (Some (Encoded.Pair x.first x.second)) (Some (Encoded.Half x.first)))) y ≡ y
      go true = refl
      go false = refl

  -- its bits column, read as hex, is its bytes
  pub bits_read : (r : List ℕ) → bytes_read (bits_text x ++ r) ≡ bytes_in (bits_listed x) ++ bytes_read r
  unfolding bytes_in
  bits_read r = go x.shown.long
    where
      go : (b : Bool) → bytes_read ((half_text x.first ++ second_text b x.second) ++ r) ≡ bytes_in (cond b (Some (Encoded.Pair x.first x.second)) (Some (Encoded.Half x.first))) ++ bytes_read r
      go true =
          ap bytes_read (append_assoc (half_text x.first) (half_text x.second) r)
          ∙ half_read x.first (half_text x.second ++ r) first_lt
          ∙ ap (λ (w : List ℕ). x.first / 256 ∷ x.first % 256 ∷ w) (half_read x.second r second_lt)
      go false =
          ap bytes_read (append_assoc (half_text x.first) [] r)
          ∙ half_read x.first r first_lt

  pub line_listed : (t : Labels) → line_bytes t a (what_in l) l ≡ bytes_read (bits_text x)
  unfolding bytes_read
  line_listed t =
      line_bytes_lem t ∙ sym (ap bytes_read (sym (append-nil (bits_text x))) ∙ bits_read [] ∙ append-nil (bytes_in (bits_listed x)))
