-- Lines of one, two and three operands: their form, their value and their bits.
-- Assumes nothing.
use Rattle.std.specs.Prelude.{Option, Ok}
use Prim.Native.Nat.{ℕ, ◌<◌, ◌^◌}
use mathlib.Core.Path.{◌≡◌, refl, sym, subst}
use mathlib.Core.Bool.{true}
use mathlib.Core.List.{List, ◌∷◌, ◌++◌}
use lib.Dec.{eqb}
use lib.IntN.{ℤ, pos}
use borrow.Author.Tests.{lt-ltb, eqb-true}
use Rattle.word.specs.declared.ByteAddr.{ByteAddr}
use Rattle.isa.specs.declared.Encoded.{Encoded}
use Rattle.isa.proofs.Rows.{each_at}
use Rattle.text.specs.Digits.{digits_read, digits_of, zeros_of, glyph_of, value_of as digit_of}
use Rattle.text.specs.Fields.{same_of}
use Rattle.listing.specs.Listing.{operand_text, row_text}
use Rattle.listing.specs.declared.Operand.{Operand}
use Rattle.listing.specs.declared.Row.{Row}
use Rattle.columns.proofs.Plain.{is_plain}
use Rattle.columns.proofs.Bits.{field_text, operand_tab, plain_field}
use Rattle.expr.specs.Expr.{Labels}
use Rattle.expr.specs.Value.{signed_word}
use Rattle.expr.specs.Expr.{Read as Valued}
use Rattle.expr.specs.declared.Value.{Value}
use Rattle.forms.specs.Form.{field_at, shape, shape_of, numbered_of, number_at, is_of, fields_of, fits_shape}
use Rattle.forms.specs.Says.{bits_of, bits_at}
use Rattle.asm.specs.Assemble.{zero_read, sum_at, line_value, line_bits}
use Rattle.forms.specs.declared.What.{What}
use Rattle.forms.specs.declared.Sort.{Sort}
use Rattle.reassembly.proofs.Fields.{field_first, field_only, field_second, field_last, field_third, tabs_one, tabs_two, tabs_three}
use Rattle.reassembly.proofs.Numbers.{Says, says_sum, says_signed, says_half}

-- ---- operands

-- a field is an operand of its sort, and its number is u
pub record Meets (x : Sort) (f : List ℕ) (u : ℕ) : Type 0 where
  pub one : fields_of x ≡ 1
  pub is : is_of x f ≡ true
  pub number : number_at x f ≡ u

register_each : (n : ℕ) → n < 16 → number_at Sort.Reg (field_text (Operand.Reg n)) ≡ n
unfolding number_at numbered_of same_of operand_text digits_read digits_of zeros_of glyph_of digit_of
register_each n h = eqb-true _ _ (each_at (λ (k : ℕ). eqb (number_at Sort.Reg (field_text (Operand.Reg k))) k) 16 n refl h)

sfr_each : (n : ℕ) → n < 11 → number_at Sort.Sfr (field_text (Operand.Sfr n)) ≡ n
unfolding number_at numbered_of same_of operand_text digits_read digits_of zeros_of glyph_of digit_of
sfr_each n h = eqb-true _ _ (each_at (λ (k : ℕ). eqb (number_at Sort.Sfr (field_text (Operand.Sfr k))) k) 11 n refl h)

low_each : (n : ℕ) → n < 4 → number_at Sort.LowSfr (field_text (Operand.Sfr n)) ≡ n
unfolding number_at numbered_of same_of operand_text digits_read digits_of zeros_of glyph_of digit_of
low_each n h = eqb-true _ _ (each_at (λ (k : ℕ). eqb (number_at Sort.LowSfr (field_text (Operand.Sfr k))) k) 4 n refl h)

pub register : (n : ℕ) → n < 16 → Meets Sort.Reg (field_text (Operand.Reg n)) n
unfolding is_of
register n h = record { one = refl; is = rw (register_each n h) (lt-ltb n 16 h); number = register_each n h }

pub sfr : (n : ℕ) → n < 11 → Meets Sort.Sfr (field_text (Operand.Sfr n)) n
unfolding is_of
sfr n h = record { one = refl; is = rw (sfr_each n h) (lt-ltb n 11 h); number = sfr_each n h }

pub low_sfr : (n : ℕ) → n < 4 → Meets Sort.LowSfr (field_text (Operand.Sfr n)) n
unfolding is_of
low_sfr n h = record { one = refl; is = rw (low_each n h) (lt-ltb n 4 h); number = low_each n h }

pub sum : (f : List ℕ) (z : ℤ) → Says f z → Meets Sort.Sum f 0
unfolding is_of number_at
sum f z s = record { one = refl; is = says_sum f z s; number = refl }

pub number_says : (n : ℕ) → n < 2 ^ 32 → (n ≡ 2 ^ 31 → ⊥) → Says (field_text (Operand.Number n)) (signed_word n)
unfolding operand_text
number_says n h f = says_signed n h f

pub bits_says : (h : ℕ) → h < 65536 → Says (field_text (Operand.Bits h)) (pos h)
unfolding operand_text
bits_says h l = says_half h l

-- ---- lines

-- a line without its newline, that names w, has the value v and the bits x at a
pub record Back (t : Labels) (a : ByteAddr) (w : What) (b : List ℕ) (v : ℕ) (x : Option Encoded) : Type 0 where
  pub fits : fits_shape (shape_of w) b ≡ true
  pub value : ℤ
  pub size : ℕ
  pub valued : line_value t (shape_of w) b ≡ Ok (Value.Is value, size)
  pub number : bits_of value ≡ v
  pub bits : line_bits w a b value ≡ x

module _ (t : Labels) (a : ByteAddr) (w : What) (d : Option Encoded) (nm : List ℕ) (hn : is_plain nm ≡ true) (n : ℕ) (z : ℤ) (size i : ℕ) (hz : bits_of z ≡ i) where
  abbrev pub body : Row → List ℕ
  body r = 9 ∷ (nm ++ row_text r)

  module _ (x : Operand) (sx : Sort) (u : ℕ) (mx : Meets sx (field_text x) u) where
    one_row : 9 ∷ (nm ++ (9 ∷ field_text x)) ≡ body (Row.One x)
    unfolding row_text
    one_row = sym (rw (operand_tab x))

    pub back_one : shape_of w ≡ shape n sx Sort.Nothing Sort.Nothing → sum_at t sx (field_text x) zero_read ≡ Ok (Value.Is z, size)
        → bits_at w a u 0 0 i ≡ d → Back t a w (body (Row.One x)) i d
    unfolding fits_shape is_of line_value sum_at line_bits number_at
    back_one q v e =
        subst (λ (b : List ℕ). Back t a w b i d) one_row
        (record {
          fits = rw (q, tabs_one nm f hn hf, field_only nm f hn hf, mx.one, mx.is);
          value = z;
          size = size;
          valued = rw (q, field_only nm f hn hf) v;
          number = hz;
          bits = rw (q, field_only nm f hn hf, mx.number, hz) e;
        })
      where
        f : List ℕ
        f = field_text x

        hf : is_plain f ≡ true
        hf = plain_field x

    module _ (y : Operand) (sy : Sort) (v : ℕ) (my : Meets sy (field_text y) v) where
      two_row : 9 ∷ (nm ++ (9 ∷ (field_text x ++ (9 ∷ field_text y)))) ≡ body (Row.Two x y)
      unfolding row_text
      two_row = sym (rw (operand_tab x, operand_tab y))

      pub back_two : shape_of w ≡ shape n sx sy Sort.Nothing → sum_at t sx (field_text x) (sum_at t sy (field_text y) zero_read) ≡ Ok (Value.Is z, size)
          → bits_at w a u v 0 i ≡ d → Back t a w (body (Row.Two x y)) i d
      unfolding fits_shape is_of line_value sum_at line_bits number_at
      back_two q s e =
          subst (λ (b : List ℕ). Back t a w b i d) two_row
          (record {
            fits = rw (q, tabs_two nm f hn hf g hg, field_first nm f hn hf g, field_last nm f hn hf g hg, mx.one, my.one, mx.is, my.is);
            value = z;
            size = size;
            valued = rw (q, field_first nm f hn hf g, field_last nm f hn hf g hg) s;
            number = hz;
            bits = rw (q, field_first nm f hn hf g, field_last nm f hn hf g hg, mx.number, my.number, hz) e;
          })
        where
          f : List ℕ
          f = field_text x

          hf : is_plain f ≡ true
          hf = plain_field x

          g : List ℕ
          g = field_text y

          hg : is_plain g ≡ true
          hg = plain_field y

      module _ (o : Operand) (so : Sort) (r : ℕ) (mo : Meets so (field_text o) r) where
        three_row : 9 ∷ (nm ++ (9 ∷ (field_text x ++ (9 ∷ (field_text y ++ (9 ∷ field_text o)))))) ≡ body (Row.Three x y o)
        unfolding row_text
        three_row = sym (rw (operand_tab x, operand_tab y, operand_tab o))

        pub back_three : shape_of w ≡ shape n sx sy so → sum_at t sx (field_text x) (sum_at t sy (field_text y) zero_read) ≡ Ok (Value.Is z, size)
            → bits_at w a u v r i ≡ d → Back t a w (body (Row.Three x y o)) i d
        unfolding fits_shape line_value line_bits
        back_three q s e =
            subst (λ (b : List ℕ). Back t a w b i d) three_row
            (record {
              fits = rw (q, tabs_three nm f hn hf g hg k hk, first, second, third, mx.one, my.one, mo.one, mx.is, my.is, mo.is);
              value = z;
              size = size;
              valued = rw (q, first, second) s;
              number = hz;
              bits = rw (q, first, second, third, mx.number, my.number, mo.number, hz) e;
            })
          where
            f : List ℕ
            f = field_text x

            hf : is_plain f ≡ true
            hf = plain_field x

            g : List ℕ
            g = field_text y

            hg : is_plain g ≡ true
            hg = plain_field y

            k : List ℕ
            k = field_text o

            hk : is_plain k ≡ true
            hk = plain_field o

            first : field_at 2 (9 ∷ (nm ++ (9 ∷ (f ++ (9 ∷ (g ++ (9 ∷ k))))))) ≡ f
            first = field_first nm f hn hf (g ++ (9 ∷ k))

            second : field_at 3 (9 ∷ (nm ++ (9 ∷ (f ++ (9 ∷ (g ++ (9 ∷ k))))))) ≡ g
            second = field_second nm f hn hf g hg k

            third : field_at 4 (9 ∷ (nm ++ (9 ∷ (f ++ (9 ∷ (g ++ (9 ∷ k))))))) ≡ k
            third = field_third nm f hn hf g hg k hk
