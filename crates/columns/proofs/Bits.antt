-- The bits column of a listing gives back the bytes.
-- Assumes nothing.
use Rattle.std.specs.Prelude.{None, Option, Some}
use Prim.Native.Nat.{ℕ, zero, suc, ◌+◌, ◌*◌, ◌-◌, ◌/◌, ◌%◌, ◌<◌, ◌≤◌}
use mathlib.Core.Path.{◌≡◌, refl, sym, ap, ap₂, ◌∙◌}
use mathlib.Core.Bool.{Bool, true, false, cond}
use mathlib.Core.List.{List, [], ◌∷◌, ◌++◌, append_assoc}
use native.Mathlib.Omega.{arith}
use lib.Dec.{ltb}
use lib.ListN.{length, get_or, take, drop}
use lib.Seq.{drop-cons}
use borrow.Author.Tests.{ltb-true, ltb-false, le-leb}
use Rattle.word.specs.Addresses.{byte_sum}
use Rattle.word.specs.Bytes.{load}
use Rattle.word.proofs.Memory.{half_lt}
use Rattle.isa.specs.Decode.{decode_of}
use Rattle.isa.specs.Statements.{named, is_long, size_of as isa-size}
use Rattle.isa.specs.declared.Decoded.{Decoded}
use Rattle.isa.proofs.Theorems.{size_by_first_half}
use Rattle.text.specs.Digits.{hex_text, half_text}
use Rattle.text.proofs.Theorems.{pair_reads}
use Rattle.listing.specs.Names.{name_at}
use Rattle.listing.specs.Listing.{operand_text, row_text, half_in, cut_by, shown_of, entry_at, size_of, second_text, line_text, listing_of}
use Rattle.listing.specs.declared.Operand.{Operand}
use Rattle.listing.specs.declared.Row.{Row}
use Rattle.listing.specs.declared.Entry.{Entry}
use Rattle.listing.proofs.Laws.{half_digits}
use Rattle.listing.proofs.Ranged.{from, after, listing_more, listing_none, size_low}
use Rattle.columns.specs.Columns.{Bytes, column_of, bits_text, bytes_read}
use Rattle.columns.proofs.Cover.{even, long_inside, size_inside}
use Rattle.columns.proofs.Plain.{is_plain, plain_append, plain_digits, plain_decimal, plain_signed, plain_name, keep, pass, tabbed, ended}

-- ---- a line's bits column is its bits

-- an operand after its tab
abbrev pub field_text : Operand → List ℕ
field_text x = drop 1 (operand_text x)

pub operand_tab : (x : Operand) → operand_text x ≡ 9 ∷ field_text x
unfolding operand_text
operand_tab (Operand.Reg n) = refl
operand_tab (Operand.Sfr n) = refl
operand_tab (Operand.Number n) = refl
operand_tab (Operand.Bits h) = refl

pub plain_field : (x : Operand) → is_plain (field_text x) ≡ true
unfolding operand_text is_plain
plain_field (Operand.Reg n) = plain_decimal n
plain_field (Operand.Sfr n) = plain_decimal n
plain_field (Operand.Number n) = plain_signed n
plain_field (Operand.Bits h) = plain_digits 16 4 h

-- past column k nothing is taken
module _ (k : ℕ) where
  operand_passed : (f : ℕ) (x : Operand) (l : List ℕ) → k ≤ f → column_of k f (operand_text x ++ l) ≡ column_of k (suc f) l
  operand_passed f x l h =
      ap (λ (t : List ℕ). column_of k f (t ++ l)) (operand_tab x)
      ∙ tabbed k f (field_text x ++ l)
      ∙ pass k (suc f) (field_text x) l (λ e. omega arith) (plain_field x)

  row_passed : (f : ℕ) (r : Row) (l : List ℕ) → k ≤ f → column_of k f (row_text r ++ (10 ∷ l)) ≡ column_of k 0 l
  unfolding row_text
  row_passed f (Row.One x) l h = operand_passed f x (10 ∷ l) h ∙ ended k _ l
  row_passed f (Row.Two x y) l h =
      ap (column_of k f) (append_assoc (operand_text x) (operand_text y) (10 ∷ l))
      ∙ operand_passed f x (operand_text y ++ (10 ∷ l)) h ∙ operand_passed (suc f) y (10 ∷ l) (omega arith) ∙ ended k _ l
  row_passed f (Row.Three x y z) l h =
      ap (column_of k f) (append_assoc (operand_text x) (operand_text y ++ operand_text z) (10 ∷ l))
      ∙ operand_passed f x ((operand_text y ++ operand_text z) ++ (10 ∷ l)) h
      ∙ ap (column_of k (suc f)) (append_assoc (operand_text y) (operand_text z) (10 ∷ l))
      ∙ operand_passed (suc f) y (operand_text z ++ (10 ∷ l)) (omega arith) ∙ operand_passed (suc (suc f)) z (10 ∷ l) (omega arith) ∙ ended k _ l

plain_second : (t : Bool) (s : ℕ) → is_plain (second_text t s) ≡ true
unfolding is_plain
plain_second true s = plain_digits 16 4 s
plain_second false s = refl

-- a line's parts, and its first three columns
module _ (x : Entry) (l : List ℕ) where
  abbrev address : List ℕ
  address = hex_text x.at.0

  abbrev name : List ℕ
  name = name_at x.shown.place

  abbrev row : List ℕ
  row = row_text x.shown.row ++ (10 ∷ [])

  parts : line_text x ++ l ≡ address ++ (9 ∷ (bits_text x ++ (9 ∷ (name ++ (row_text x.shown.row ++ (10 ∷ l))))))
  unfolding line_text
  parts =
      append_assoc address (9 ∷ (half_text x.first ++ (second ++ (9 ∷ (name ++ row))))) l
      ∙ ap (λ (r : List ℕ). address ++ (9 ∷ r))
      (ap (λ (r : List ℕ). r ++ l) (sym (append_assoc (half_text x.first) second (9 ∷ (name ++ row))))
      ∙ append_assoc (bits_text x) (9 ∷ (name ++ row)) l
      ∙ ap (λ (r : List ℕ). bits_text x ++ (9 ∷ r)) (append_assoc name row l ∙ ap (λ (r : List ℕ). name ++ r) (append_assoc (row_text x.shown.row) (10 ∷ []) l)))
    where
      second : List ℕ
      second = second_text x.shown.long x.second

  plain_bits : is_plain (bits_text x) ≡ true
  plain_bits = plain_append (half_text x.first) (second_text x.shown.long x.second) (plain_digits 16 4 x.first) (plain_second x.shown.long x.second)

  abbrev after_bits : List ℕ
  after_bits = name ++ (row_text x.shown.row ++ (10 ∷ l))

  pub address_column : column_of 0 0 (line_text x ++ l) ≡ address ++ column_of 0 0 l
  address_column =
      ap (column_of 0 0) parts
      ∙ keep 0 address (9 ∷ (bits_text x ++ (9 ∷ after_bits))) (plain_digits 16 8 x.at.0)
      ∙ ap (λ (r : List ℕ). address ++ r)
      (tabbed 0 0 (bits_text x ++ (9 ∷ after_bits)) ∙ pass 0 1 (bits_text x) (9 ∷ after_bits) (λ e. omega arith) plain_bits
      ∙ tabbed 0 1 after_bits ∙ pass 0 2 name (row_text x.shown.row ++ (10 ∷ l)) (λ e. omega arith) (plain_name x.shown.place)
      ∙ row_passed 0 2 x.shown.row l (omega arith))

  pub bits_column : column_of 1 0 (line_text x ++ l) ≡ bits_text x ++ column_of 1 0 l
  bits_column =
      ap (column_of 1 0) parts
      ∙ pass 1 0 address (9 ∷ (bits_text x ++ (9 ∷ after_bits))) (λ e. omega arith) (plain_digits 16 8 x.at.0)
      ∙ tabbed 1 0 (bits_text x ++ (9 ∷ after_bits))
      ∙ keep 1 (bits_text x) (9 ∷ after_bits) plain_bits
      ∙ ap (λ (r : List ℕ). bits_text x ++ r)
      (tabbed 1 1 after_bits ∙ pass 1 2 name (row_text x.shown.row ++ (10 ∷ l)) (λ e. omega arith) (plain_name x.shown.place)
      ∙ row_passed 1 2 x.shown.row l (omega arith))

  pub name_column : column_of 2 0 (line_text x ++ l) ≡ name ++ column_of 2 0 l
  name_column =
      ap (column_of 2 0) parts
      ∙ pass 2 0 address (9 ∷ (bits_text x ++ (9 ∷ after_bits))) (λ e. omega arith) (plain_digits 16 8 x.at.0)
      ∙ tabbed 2 0 (bits_text x ++ (9 ∷ after_bits)) ∙ pass 2 1 (bits_text x) (9 ∷ after_bits) (λ e. omega arith) plain_bits
      ∙ tabbed 2 1 after_bits
      ∙ keep 2 name (row_text x.shown.row ++ (10 ∷ l)) (plain_name x.shown.place)
      ∙ ap (λ (r : List ℕ). name ++ r) (row_passed 2 2 x.shown.row l (omega arith))

-- ---- the bits are bytes of the image

pub half_read : (h : ℕ) (l : List ℕ) → h < 65536 → bytes_read (half_text h ++ l) ≡ h / 256 ∷ h % 256 ∷ bytes_read l
unfolding bytes_read
half_read h l k =
    let a : h / 4096 % 16 ≡ h / 256 / 16 = omega arith in
    let b : h / 16 % 16 ≡ h % 256 / 16 = omega arith in
    let c : h % 16 ≡ h % 256 % 16 = omega arith in
    rw (half_digits h, a, b, c) (ap₂ (λ (x y : ℕ). x ∷ y ∷ bytes_read l) (pair_reads (h / 256) (omega arith)) (pair_reads (h % 256) (omega arith)))

module _ (m : List ℕ) (bytes : Bytes m) where
  half_is : (a : ℕ) → a + 2 ≤ length m → half_in m (from a) ≡ get_or m a 0 * 256 + get_or m (a + 1) 0
  unfolding load
  half_is a h =
      let z : a + 0 ≡ a = omega arith in
      let w : (0 * 256 + get_or m a 0) * 256 + get_or m (a + 1) 0 ≡ get_or m a 0 * 256 + get_or m (a + 1) 0 = omega arith in
      rw (le-leb (a + 2) (length m) h, z) w

  two_bytes : (a : ℕ) (l : List ℕ) → a + 2 ≤ length m → bytes_read (half_text (half_in m (from a)) ++ l) ≡ get_or m a 0 ∷ get_or m (a + 1) 0 ∷ bytes_read l
  two_bytes a l h =
      let p = bytes a in
      let q = bytes (a + 1) in
      let e = half_is a h in
      half_read (half_in m (from a)) l (omega arith)
      ∙ ap₂ (λ (x y : ℕ). x ∷ y ∷ bytes_read l) (omega arith) (omega arith)

  next_two : (a n : ℕ) → a + 2 ≤ length m → take (suc (suc n)) (drop a m) ≡ get_or m a 0 ∷ get_or m (a + 1) 0 ∷ take n (drop (a + 2) m)
  next_two a n h =
      let f : suc a ≡ a + 1 = omega arith in
      let e : suc (a + 1) ≡ a + 2 = omega arith in
      ap (take (suc (suc n)))
      (drop-cons m a 0 (omega arith)
      ∙ ap (λ (r : List ℕ). get_or m a 0 ∷ r)
      (ap (λ (k : ℕ). drop k m) f ∙ drop-cons m (a + 1) 0 (omega arith) ∙ ap (λ (k : ℕ). get_or m (a + 1) 0 ∷ drop k m) e))

  module _ (e : ℕ) (low : e ≤ 65536) (inside : e ≤ length m) where
    abbrev x : ℕ → Entry
    x a = entry_at m (from a) e

    first_of : (a : ℕ) → (x a).first ≡ half_in m (from a)
    unfolding entry_at
    first_of a = refl

    -- a line of four bytes has a first half that says so
    long_kind : (h s a : ℕ) (d : Option Decoded) → h < 65536 → d ≡ decode_of h s → (shown_of (from a) h (cut_by e (from a) d)).long ≡ true → is_long (h / 256) ≡ true
    unfolding shown_of
    long_kind h s a (Some (Decoded.Short i)) k q t = let z : ◌≡◌ {A = ℕ} 0 1 = cc in absurd (omega arith)
    long_kind h s a (Some (Decoded.Long i)) k q t = go (named h) (is_long (h / 256)) (sym (size_by_first_half h s k) ∙ sym (ap isa-size q))
      where
        go : (u v : Bool) → ◌≡◌ {A = ℕ} (cond u (cond v 4 2) 0) 4 → v ≡ true
        go true true f = refl
        go true false f = absurd (omega arith)
        go false v f = absurd (omega arith)
    long_kind h s a None k q t = let z : ◌≡◌ {A = ℕ} 0 1 = cc in absurd (omega arith)

    second_of : (a : ℕ) → (x a).shown.long ≡ true → (x a).second ≡ half_in m (byte_sum (from a) 2)
    unfolding entry_at
    second_of a t = rw (long_kind (half_in m (from a)) _ a _ (half_lt m (from a) bytes) refl t)

    -- the bits of the line at a are its bytes
    line_bytes_lem : (a n : ℕ) (l : List ℕ) → a + 2 ≤ e → size_of (x a) + n ≡ e - a
        → bytes_read l ≡ take n (drop (a + size_of (x a)) m) → bytes_read (bits_text (x a) ++ l) ≡ take (e - a) (drop a m)
    line_bytes_lem a n l k q r = go (x a).shown.long refl q r
      where
        go : (t : Bool) → (x a).shown.long ≡ t → cond t 4 2 + n ≡ e - a → bytes_read l ≡ take n (drop (a + cond t 4 2) m)
            → bytes_read ((half_text (x a).first ++ second_text t (x a).second) ++ l) ≡ take (e - a) (drop a m)
        go true t q r =
            let i = long_inside m e a k t in
            let b : suc (suc (suc (suc n))) ≡ e - a = omega arith in
            let j : a + 2 + 2 ≡ a + 4 = omega arith in
            let o : byte_sum (from a) 2 ≡ from (a + 2) = after a 2 (omega arith) (omega arith) in
            ap bytes_read (append_assoc (half_text (x a).first) (half_text (x a).second) l)
            ∙ ap₂ (λ (h s : ℕ). bytes_read (half_text h ++ (half_text s ++ l))) (first_of a) (second_of a t ∙ ap (half_in m) o)
            ∙ two_bytes a (half_text (half_in m (from (a + 2))) ++ l) (omega arith)
            ∙ ap (λ (w : List ℕ). get_or m a 0 ∷ get_or m (a + 1) 0 ∷ w)
            (two_bytes (a + 2) l (omega arith) ∙ ap (λ (w : List ℕ). get_or m (a + 2) 0 ∷ get_or m (a + 2 + 1) 0 ∷ w) (r ∙ ap (λ (w : ℕ). take n (drop w m)) (sym j))
            ∙ sym (next_two (a + 2) n (omega arith)))
            ∙ sym (next_two a (suc (suc n)) (omega arith))
            ∙ ap (λ (w : ℕ). take w (drop a m)) b
        go false t q r =
            let b : suc (suc n) ≡ e - a = omega arith in
            ap bytes_read (append_assoc (half_text (x a).first) [] l)
            ∙ ap (λ (h : ℕ). bytes_read (half_text h ++ l)) (first_of a)
            ∙ two_bytes a l (omega arith)
            ∙ ap (λ (w : List ℕ). get_or m a 0 ∷ get_or m (a + 1) 0 ∷ w) r
            ∙ sym (next_two a n (omega arith))
            ∙ ap (λ (w : ℕ). take w (drop a m)) b

    pub bits_from : (n a : ℕ) → e ≤ a + n → a ≤ e → a % 2 ≡ 0 → e % 2 ≡ 0 → bytes_read (column_of 1 0 (listing_of m a e)) ≡ take (e - a) (drop a m)
    unfolding bytes_read column_of
    bits_from zero a h k p q =
        let z : e - a ≡ 0 = omega arith in
        rw (listing_none m e low a (omega arith), z)
    bits_from (suc n) a h k p q = go (ltb a e) refl (bits_from n (a + size_of (x a)))
      where
        go : (t : Bool) → ltb a e ≡ t
            → (e ≤ a + size_of (x a) + n → a + size_of (x a) ≤ e → (a + size_of (x a)) % 2 ≡ 0 → e % 2 ≡ 0
            → bytes_read (column_of 1 0 (listing_of m (a + size_of (x a)) e)) ≡ take (e - (a + size_of (x a))) (drop (a + size_of (x a)) m))
            → bytes_read (column_of 1 0 (listing_of m a e)) ≡ take (e - a) (drop a m)
        go true t f =
            let i = ltb-true a e t in
            let s = size_inside m e a (omega arith) in
            let z = size_low (x a) in
            ap (λ (l : List ℕ). bytes_read (column_of 1 0 l)) (listing_more m e low a i)
            ∙ ap bytes_read (bits_column (x a) (listing_of m (a + size_of (x a)) e))
            ∙ line_bytes_lem a (e - (a + size_of (x a))) (column_of 1 0 (listing_of m (a + size_of (x a)) e)) (omega arith) (omega arith) (f (omega arith) s (even a (x a).shown.long p) q)
        go false t f =
            let i = ltb-false a e t in
            let z : e - a ≡ 0 = omega arith in
            rw (listing_none m e low a i, z)
