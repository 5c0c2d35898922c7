-- What a line says is said of one instruction at that address.
-- Assumes nothing.
use Rattle.std.specs.Prelude.{None, Option, Some}
use Prim.Native.Nat.{ℕ, ◌+◌, ◌/◌, ◌<◌}
use mathlib.Core.Path.{◌≡◌, refl, sym, ap, ap₂, subst, ◌∙◌}
use mathlib.Core.Bool.{Bool, true, false, cond}
use mathlib.Core.List.{List, [], ◌∷◌, ◌++◌}
use native.Mathlib.Omega.{arith}
use lib.Dec.{leb}
use lib.ListN.{drop}
use Rattle.word.specs.declared.ByteAddr.{ByteAddr}
use Rattle.isa.specs.Codes.{kind_of}
use Rattle.isa.specs.Decode.{operands_of, decode_of}
use Rattle.isa.specs.Statements.{size_of}
use Rattle.isa.specs.declared.Kind.{Kind}
use Rattle.isa.specs.declared.Instr.{Instr}
use Rattle.isa.specs.declared.Decoded.{Decoded}
use Rattle.isa.proofs.Theorems.{one_short_pattern, one_long_pattern}
use Rattle.text.specs.Digits.{half_text}
use Rattle.listing.specs.Names.{place_of, half_place, name_at}
use Rattle.listing.specs.Listing.{row_text, cut_by, shown_of, second_text}
use Rattle.listing.specs.declared.Operand.{Operand}
use Rattle.listing.specs.declared.Row.{Row}
use Rattle.columns.specs.Columns.{place_named}
use Rattle.columns.proofs.Plain.{plain_name}
use Rattle.columns.proofs.Bits.{operand_tab}
use Rattle.columns.proofs.Names.{byte_back, half_back, one_kind, none_at_half}
use Rattle.columns.proofs.Operands.{parted, one_same, bits_same}
use Rattle.columns.proofs.Alike.{SameBy, alike}

pub row_tab : (r : Row) → row_text r ≡ 9 ∷ drop 1 (row_text r)
unfolding row_text
row_tab (Row.One x) = rw (operand_tab x)
row_tab (Row.Two x y) = rw (operand_tab x)
row_tab (Row.Three x y z) = rw (operand_tab x)

-- mnemonic and operands, apart
said_parts : (p q : ℕ) (r s : Row) → name_at p ++ row_text r ≡ name_at q ++ row_text s → (name_at p ≡ name_at q) × (row_text r ≡ row_text s)
said_parts p q r s e =
    let d = parted (name_at p) (name_at q) (drop 1 (row_text r)) (drop 1 (row_text s)) (plain_name p) (plain_name q)
    (ap (λ (l : List ℕ). name_at p ++ l) (sym (row_tab r)) ∙ e ∙ ap (λ (l : List ℕ). name_at q ++ l) (row_tab s)) in
    (d.0, row_tab r ∙ ap (λ (l : List ℕ). 9 ∷ l) d.1 ∙ sym (row_tab s))

abbrev pub said : ByteAddr → ℕ → Option Decoded → List ℕ
said a h d = name_at (shown_of a h d).place ++ row_text (shown_of a h d).row

-- what is shown is what decodes, or it was cut
pub data Shows (h s : ℕ) (d : Option Decoded) : Type 0 where
  whole : d ≡ decode_of h s → Shows h s d
  cut : d ≡ None → Shows h s d

pub shows : (e : ℕ) (a : ByteAddr) (h s : ℕ) → Shows h s (cut_by e a (decode_of h s))
shows e a h s = go (decode_of h s) refl
  where
    go : (d : Option Decoded) → d ≡ decode_of h s → Shows h s (cut_by e a d)
    go (Some (Decoded.Short i)) q = whole q
    go (Some (Decoded.Long i)) q = long (leb (a.0 + 4) e)
      where
        long : (t : Bool) → Shows h s (cond t (Some (Decoded.Long i)) None)
        long true = whole q
        long false = cut refl
    go None q = whole q

-- .. so what takes bytes is what decodes
pub came : (h s : ℕ) (d : Option Decoded) → Shows h s d → (size_of d ≡ 0 → ⊥) → d ≡ decode_of h s
came h s d (whole e) f = e
came h s d (cut e) f = absurd (f (ap size_of e))

pub two : ◌≡◌ {A = ℕ} 2 0 → ⊥
two e = omega arith

pub four : ◌≡◌ {A = ℕ} 4 0 → ⊥
four e = omega arith

module _ (a : ByteAddr) (h s g t : ℕ) (hh : h < 65536) (hs : s < 65536) (hg : g < 65536) (ht : t < 65536) where
  -- two instructions
  kinds : (d c : Option Decoded) → d ≡ decode_of h s → c ≡ decode_of g t → (size_of d ≡ 0 → ⊥) → (size_of c ≡ 0 → ⊥)
      → name_at (place_of (h / 256)) ≡ name_at (place_of (g / 256)) → SameBy a d c
  unfolding decode_of
  kinds d c p q f k e =
      let m : kind_of (h / 256) ≡ kind_of (g / 256) = one_kind h s g t hh hg (λ z. f (ap size_of p ∙ z)) (λ z. k (ap size_of q ∙ z)) e in
      subst (λ (x : Option Decoded). SameBy a x c) (sym p)
      (subst (λ (x : Option Decoded). SameBy a (operands_of (kind_of (h / 256)) h s) x) (sym (q ∙ ap (λ (x : Kind). operands_of x g t) (sym m))) (alike a h s g t (kind_of (h / 256))))

  -- an instruction, and none
  unlike : (g t : ℕ) (c : Option Decoded) → g < 65536 → c ≡ decode_of g t → (size_of c ≡ 0 → ⊥) → name_at half_place ≡ name_at (place_of (g / 256)) → ⊥
  unfolding decode_of operands_of
  unlike g t c hg q k e =
      let l : place_of (g / 256) ≡ half_place = sym (byte_back g t hg λ z. k (ap size_of q ∙ z)) ∙ ap place_named (sym e) ∙ half_back in
      k (ap size_of (q ∙ ap (λ (x : Kind). operands_of x g t) (none_at_half (g / 256) (omega arith) l)))

  abbrev Agree : Option Decoded → Option Decoded → Type 0
  Agree d c = (d ≡ c) × (half_text h ++ second_text (shown_of a h d).long s ≡ half_text g ++ second_text (shown_of a g c).long t)

  pub agree : (d c : Option Decoded) → Shows h s d → Shows g t c → said a h d ≡ said a g c → Agree d c
  unfolding shown_of
  agree (Some (Decoded.Short i)) (Some (Decoded.Short j)) u v e =
      let n = said_parts _ _ _ _ e in
      let p = came h s (Some (Decoded.Short i)) u two in
      let q = came g t (Some (Decoded.Short j)) v two in
      let k : i ≡ j = kinds (Some (Decoded.Short i)) (Some (Decoded.Short j)) p q two two n.0 n.1 in
      let b : h ≡ g = one_short_pattern h s g t i hh hs hg ht (sym p) (sym q ∙ ap (λ (x : Instr). Some (Decoded.Short x)) (sym k)) in
      (ap (λ (x : Instr). Some (Decoded.Short x)) k, ap (λ (x : ℕ). half_text x ++ []) b)
  agree (Some (Decoded.Long i)) (Some (Decoded.Long j)) u v e =
      let n = said_parts _ _ _ _ e in
      let p = came h s (Some (Decoded.Long i)) u four in
      let q = came g t (Some (Decoded.Long j)) v four in
      let k : i ≡ j = kinds (Some (Decoded.Long i)) (Some (Decoded.Long j)) p q four four n.0 n.1 in
      let b = one_long_pattern h s g t i hh hs hg ht (sym p) (sym q ∙ ap (λ (x : Instr). Some (Decoded.Long x)) (sym k)) in
      (ap (λ (x : Instr). Some (Decoded.Long x)) k, ap₂ (λ (x y : ℕ). half_text x ++ half_text y) b.0 b.1)
  agree None None u v e =
      let n = said_parts _ _ _ _ e in
      let b : h ≡ g = bits_same h g hh hg (one_same (Operand.Bits h) (Operand.Bits g) n.1) in
      (refl, ap (λ (x : ℕ). half_text x ++ []) b)
  agree (Some (Decoded.Short i)) (Some (Decoded.Long j)) u v e =
      let n = said_parts _ _ _ _ e in
      absurd (kinds (Some (Decoded.Short i)) (Some (Decoded.Long j)) (came h s (Some (Decoded.Short i)) u two) (came g t (Some (Decoded.Long j)) v four) two four n.0)
  agree (Some (Decoded.Long i)) (Some (Decoded.Short j)) u v e =
      let n = said_parts _ _ _ _ e in
      absurd (kinds (Some (Decoded.Long i)) (Some (Decoded.Short j)) (came h s (Some (Decoded.Long i)) u four) (came g t (Some (Decoded.Short j)) v two) four two n.0)
  agree None (Some (Decoded.Short j)) u v e =
      let n = said_parts _ _ _ _ e in
      absurd (unlike g t (Some (Decoded.Short j)) hg (came g t (Some (Decoded.Short j)) v two) two n.0)
  agree None (Some (Decoded.Long j)) u v e =
      let n = said_parts _ _ _ _ e in
      absurd (unlike g t (Some (Decoded.Long j)) hg (came g t (Some (Decoded.Long j)) v four) four n.0)
  agree (Some (Decoded.Short i)) None u v e =
      let n = said_parts _ _ _ _ e in
      absurd (unlike h s (Some (Decoded.Short i)) hh (came h s (Some (Decoded.Short i)) u two) two (sym n.0))
  agree (Some (Decoded.Long i)) None u v e =
      let n = said_parts _ _ _ _ e in
      absurd (unlike h s (Some (Decoded.Long i)) hh (came h s (Some (Decoded.Long i)) u four) four (sym n.0))
